use Rattle.std.specs.Prelude.{ℕ}
use Rattle.rq_outside.specs.declared.in_memory.journal.Journal.{Journal}
use Rattle.rq_outside.specs.Disk.{DiskMeaning}
use Rattle.rq_outside.specs.Replay.{meaning_of}

-- what a journal means as a disk that has failed so often
abbrev pub journal_means : Journal → ℕ → DiskMeaning
journal_means journal faults = meaning_of journal.content.items journal.calls.items journal.written.items journal.first.items faults journal.room_bytes journal.room_calls
