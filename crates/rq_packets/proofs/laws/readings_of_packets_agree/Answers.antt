use Rattle.rq_values.specs.Place.{answer_of}
use Rattle.rq_wire.specs.Reading.{entry_at}
use Rattle.rq_wire.proofs.Agreeing.{answers}
use Rattle.rq_packets.specs.Reading.{packet_at}
use Rattle.rq_packets.proofs.laws.readings_of_packets_agree.Goals as goal

pub returns : goal.returns
returns c = λ limit bytes a b. answers (answer_of (packet_at (entry_at limit) limit) bytes) a b
