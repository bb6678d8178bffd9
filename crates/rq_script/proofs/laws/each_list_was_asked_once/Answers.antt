use Rattle.rq_script.proofs.FromAsks.{from_asks}
use Rattle.rq_script.proofs.laws.each_list_was_asked_once.Goals as goal

pub returns : goal.returns
returns c = λ lines text cluster run s is. from_asks run s is
