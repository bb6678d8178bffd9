-- What the disks in memory tell, and the laws that a disk owes.
use Rattle.std.specs.Prelude.{◌≤◌, ℕ, List}
use Rattle.std.proofs.Common.{refl, sym, subst, arith}
use Rattle.rq_outside.specs.declared.in_memory.journal.Journal.{Journal}
use Rattle.rq_outside.specs.declared.in_memory.disk.MemDisk.{MemDisk}
use Rattle.rq_outside.specs.declared.in_memory.sure_disk.SureDisk.{SureDisk}
use Rattle.rq_outside.specs.Memory.{journal_means}
use Rattle.rq_outside.specs.Playing.{reads_image, counts, only}
use Rattle.rq_outside.specs.Replay.{left_after, picked}

-- the content as it reads
abbrev pub disk_bytes : MemDisk → List ℕ
disk_bytes disk = disk.journal.content.items

abbrev pub sure_bytes : SureDisk → List ℕ
sure_bytes disk = disk.journal.content.items

-- what a crash leaves of it by its pick
abbrev pub picked_of : ℕ → MemDisk → List ℕ
picked_of pick disk = picked pick disk.journal.calls.items disk.journal.written.items disk.journal.first.items

abbrev pub sure_picked : ℕ → SureDisk → List ℕ
sure_picked pick disk = picked pick disk.journal.calls.items disk.journal.written.items disk.journal.first.items

pub journal_reads : (journal : Journal) (f : ℕ) → (journal_means journal f).images (journal_means journal f).content
journal_reads journal f = subst (left_after journal.calls.items journal.written.items journal.first.items) (sym journal.reads) (reads_image journal.calls.items journal.written.items journal.first.items _ (omega (arith, journal.total)) journal.valid refl)

pub journal_counts : (journal : Journal) (f t : ℕ) (c : List ℕ) → t ≤ (journal_means journal f).moment → (journal_means journal f).images c → (journal_means journal f).since t c
journal_counts journal f t c le now = counts journal.calls.items journal.written.items journal.first.items t c le now

pub journal_only : (journal : Journal) (f : ℕ) (c : List ℕ) → (journal_means journal f).since (journal_means journal f).moment c → (journal_means journal f).images c
journal_only journal f c since = only journal.calls.items journal.written.items journal.first.items c since
