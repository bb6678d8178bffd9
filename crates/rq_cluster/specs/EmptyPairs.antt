-- Disks that are made for the pairs of a script, and what one in memory that never fails tells.
use Rattle.std.specs.Prelude.{◌≡◌, ℕ, List, Some, slice_get}
use Rattle.rq_outside.specs.declared.pair.DiskPair.{DiskPair}
use Rattle.rq_outside.specs.declared.pair.FileNo.{FileNo}
use Rattle.rq_outside.specs.declared.pair.FileNo.TheVariants.{One, Two}
use Rattle.rq_outside.specs.Disk.{DiskMeaning}
use Rattle.rq_outside.specs.Pair.{disk_at}
use Rattle.rq_outside.specs.declared.in_memory.sure_disk.SureDisk.{SureDisk}
use Rattle.rq_outside.specs.Memory.{journal_means}

module _ {D F : Type 0} (made : ℕ → FileNo → D → Type 0) where
  -- the pair has the disks that were made for its place
  abbrev pub IsMade : ℕ → DiskPair D F → Type 0
  IsMade place pair = made place One (disk_at pair One) × made place Two (disk_at pair Two)

  abbrev pub AreMade : List (DiskPair D F) → Type 0
  AreMade pairs = (place : ℕ) (pair : DiskPair D F) → slice_get pairs place ≡ Some pair → IsMade place pair

abbrev pub sure_means : SureDisk → DiskMeaning
sure_means disk = journal_means disk.journal 0
