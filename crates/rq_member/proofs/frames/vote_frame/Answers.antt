use Rattle.std.proofs.Common.{◌≡◌, ◌<◌, ◌^◌, ◌∙◌, length, sym, subst}
use Rattle.rq_wire.specs.declared.frame.Frame.{Frame}
use Rattle.rq_wal.specs.Rules.{IsAllowed}
use Rattle.rq_wal.specs.Spelling.{payload_bytes}
use Rattle.rq_member.proofs.Framing.{vote_allowed}
use Rattle.rq_member.proofs.frames.vote_frame.Goals as goal

pub returns-clause-allowed : goal.returns-clause-allowed
returns-clause-allowed c = λ stored.
    subst (λ (f : Frame). IsAllowed stored f × (length (payload_bytes f) < 2 ^ 32)) (sym c.vote_of.ensures.frame)
    (vote_allowed stored c.term.result c.vote-vote.result c.vote_of.ensures.fits c.know_vote.ensures)
