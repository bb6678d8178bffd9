use Rattle.std.proofs.Common.{◌≡◌, ◌∷◌, ◌++◌, ◌∙◌, [], List, sym, ap, subst}
use Rattle.rq_wire.specs.declared.frame.Frame.{Frame}
use Rattle.rq_wal.specs.Rules.{AreAllowed}
use Rattle.rq_member.proofs.frames.vote_frames.Goals as goal

pub returns-clause-allowed : goal.returns-clause-allowed
returns-clause-allowed c = λ stored. subst (λ (l : List Frame). AreAllowed stored l) (sym (c.in_ok-push.ensures.items ∙ ap (λ (l : List Frame). l ++ c.vote_frame.result ∷ []) c.new-frames.ensures.items)) (c.vote_frame.ensures.allowed stored, tt)
