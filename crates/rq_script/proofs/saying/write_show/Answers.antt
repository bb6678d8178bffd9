use Rattle.std.proofs.Common.{append_assoc}
use Rattle.rq_script.proofs.saying.write_show.Goals as goal

pub returns : goal.returns
returns c = simp (c.in_ok-push.ensures.items, c.in_ok-write_indexes.ensures, c.in_ok-write_number.ensures, c.in_ok-write_role.ensures, c.term.ensures, append_assoc)
