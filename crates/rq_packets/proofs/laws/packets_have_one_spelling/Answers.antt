use Rattle.rq_packets.proofs.Agreeing.{one_spelling}
use Rattle.rq_packets.proofs.laws.packets_have_one_spelling.Goals as goal

pub returns : goal.returns
returns c = one_spelling
