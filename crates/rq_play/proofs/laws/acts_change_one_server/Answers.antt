use Rattle.rq_play.proofs.Acting.{each_act, each_start, each_stop}
use Rattle.rq_play.proofs.laws.acts_change_one_server.Goals as goal

pub returns : goal.returns
returns c = (each_act, each_start, each_stop)
