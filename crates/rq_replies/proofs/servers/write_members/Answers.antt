use Rattle.rq_replies.specs.Reply.{server_members}
use Rattle.rq_replies.proofs.AddsMore.{then_adds}
use Rattle.rq_replies.proofs.servers.write_members.Goals as goal

pub returns : goal.returns
unfolding server_members
returns c =
    then_adds _ _ _ _ _ _ c.write_text.ensures.0 c.write_text.ensures.1 c.in_ok-write_text.ensures.2 c.write_flags.ensures
