use Rattle.rq_member.proofs.Framing.{all_bytes}
use Rattle.rq_member.proofs.entry.are_bytes.Goals as goal

pub returns : goal.returns
returns c = all_bytes c.args.bytes.now c.type_inv.bytes
