use Rattle.rq_replies.proofs.AddsMore.{then_adds}
use Rattle.rq_replies.proofs.replying.write_queued.Goals as goal

pub returns : goal.returns
returns c =
    then_adds _ _ _ _ _ _ c.write_no_results.ensures.0 c.write_no_results.ensures.1 c.in_ok-write_no_results.ensures.2 c.write_count.ensures
