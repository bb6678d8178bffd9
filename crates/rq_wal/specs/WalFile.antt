-- What is known of the current file of a pair.
use Rattle.std.specs.Prelude.{ℕ}
use Rattle.rq_outside.specs.declared.pair.FileNo.{FileNo}
use Rattle.rq_wal.specs.declared.file.WalFile.{WalFile}

-- which of the two files it is
abbrev pub wal_file : WalFile → FileNo
wal_file wal = wal.file

-- its generation
abbrev pub wal_generation : WalFile → ℕ
wal_generation wal = wal.generation

-- the place of its last gate
abbrev pub wal_end : WalFile → ℕ
wal_end wal = wal.end
