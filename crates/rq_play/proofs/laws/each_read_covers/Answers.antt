use Rattle.rq_play.proofs.Numbering.{runs_are_counted}
use Rattle.rq_play.proofs.laws.each_read_covers.Goals as goal

pub returns : goal.returns
returns c = λ words lines said cluster run. c.each_read_covers.ensures cluster.first cluster.run (runs_are_counted words lines said cluster run).apart
