use Rattle.rq_play.proofs.Pending.{runs_are_balanced}
use Rattle.rq_play.proofs.laws.pending_asks_are_open.Goals as goal

pub returns : goal.returns
returns c = λ words lines said cluster run. (runs_are_balanced c.each_turn_keeps_asks.ensures words lines said cluster run).open_asks
