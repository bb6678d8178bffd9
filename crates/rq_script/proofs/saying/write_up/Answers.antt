use Rattle.std.proofs.Common.{append_assoc}
use Rattle.rq_script.proofs.saying.write_up.Goals as goal

pub returns : goal.returns
returns c =
    simp (c.in_ok-push.ensures.items, c.in_ok-write_number-3.ensures, c.in_ok-write_number-2.ensures, c.in_ok-write_number.ensures, c.in_ok-extend_from_slice-2.ensures.items, c.in_ok-extend_from_slice.ensures.items, c.last.ensures, c.term.ensures, c.boot.ensures, c.bytes.ensures.bytes, c.id.ensures, append_assoc)
