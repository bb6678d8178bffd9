use Rattle.rq_wire.proofs.Agreeing.{one_spelling}
use Rattle.rq_wire.proofs.laws.entries_have_one_spelling.Goals as goal

pub returns : goal.returns
returns c = one_spelling
