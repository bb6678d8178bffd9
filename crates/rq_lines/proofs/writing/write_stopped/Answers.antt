use Rattle.std.proofs.Common.{append_assoc}
use Rattle.rq_lines.proofs.writing.write_stopped.Goals as goal

pub returns-in_ok-push-in-Line : goal.returns-in_ok-push-in-Line
returns-in_ok-push-in-Line c = simp (c.in_ok-push-in-Line.ensures.items, c.in_ok-write_number-in-Line.ensures, c.in-Line.is, append_assoc)
