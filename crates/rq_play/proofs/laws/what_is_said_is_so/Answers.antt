use Rattle.rq_play.proofs.Truth.{runs_are_so}
use Rattle.rq_play.proofs.laws.what_is_said_is_so.Goals as goal

pub returns : goal.returns
returns c = λ words lines said cluster run. runs_are_so words lines said cluster run
