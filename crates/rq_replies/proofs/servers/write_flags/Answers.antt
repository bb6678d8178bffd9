use Rattle.rq_replies.specs.Reply.{server_flags}
use Rattle.rq_replies.proofs.AddsMore.{then_adds}
use Rattle.rq_replies.proofs.servers.write_flags.Goals as goal

pub returns : goal.returns
unfolding server_flags
returns c =
    then_adds _ _ _ _ _ _ c.write_flag.ensures.0 c.write_flag.ensures.1 c.in_ok-write_flag.ensures.2 c.write_flag-2.ensures
