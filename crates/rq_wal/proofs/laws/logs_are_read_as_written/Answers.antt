use Rattle.rq_wal.proofs.FilesRead.{written, nothing_else}
use Rattle.rq_wal.proofs.laws.logs_are_read_as_written.Goals as goal

pub returns-clause-written : goal.returns-clause-written
returns-clause-written c = written

pub returns-clause-nothing_else : goal.returns-clause-nothing_else
returns-clause-nothing_else c = nothing_else
