use Rattle.rq_play.proofs.Numbering.{runs_are_counted, step_counted}
use Rattle.rq_play.proofs.Applying.{has_applied}
use Rattle.rq_play.proofs.laws.applies_answer_all.Goals as goal

pub returns : goal.returns
returns c = λ words lines said more cluster next i n run steps is.
    has_applied (λ first. (c.each_run_is_safe.ensures first).within) c.each_wait_is_ahead.ensures cluster next i n more steps is (step_counted cluster _ more next steps (runs_are_counted words lines said cluster run)).apart
