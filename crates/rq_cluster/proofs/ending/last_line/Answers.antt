use Rattle.rq_cluster.specs.LastLines.{LastLine}
use Rattle.rq_cluster.proofs.ending.last_line.Goals as goal

pub returns-in-Ok-clause-wrote : goal.returns-in-Ok-clause-wrote
returns-in-Ok-clause-wrote g c = (c.args.line.now, c.in-Ok.ensures.ok, LastLine.whole)

pub returns-in-Err-Failed-clause-wrote : goal.returns-in-Err-Failed-clause-wrote
returns-in-Err-Failed-clause-wrote g c = let e = c.in-Err-Failed.ensures.err in (e.0, e.1, LastLine.sink e.0 e.2)

pub returns-in-Err-NoMemory-clause-wrote : goal.returns-in-Err-NoMemory-clause-wrote
returns-in-Err-NoMemory-clause-wrote g c = let e = c.in-Err-NoMemory.ensures.err in (e.0, e.1, LastLine.memory e.0 e.2)
