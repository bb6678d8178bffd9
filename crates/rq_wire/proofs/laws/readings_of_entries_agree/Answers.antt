use Rattle.rq_wire.specs.Reading.{entry_at}
use Rattle.rq_values.specs.Place.{answer_of}
use Rattle.rq_wire.proofs.Agreeing.{answers}
use Rattle.rq_wire.proofs.laws.readings_of_entries_agree.Goals as goal

pub returns : goal.returns
returns c = λ limit bytes a b. answers (answer_of (entry_at limit) bytes) a b
