use Rattle.rq_node.proofs.Allowed.{all_bytes}
use Rattle.rq_node.proofs.node.asking.are_bytes.Goals as goal

pub returns : goal.returns
returns c = all_bytes c.args.bytes.now c.type_inv.bytes
