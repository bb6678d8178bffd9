use Rattle.std.proofs.Common.{◌≡◌, ◌<◌, ◌^◌, ◌-◌, ◌+◌, ◌≤◌, ◌∷◌, [], ◌++◌, ◌∙◌, List, ℕ, Option, Some, length, map, drop, sym, subst, arith, ap}
use Rattle.std.proofs.lemmas.List.{length-map}
use Rattle.rq_wire.specs.declared.frame.Frame.{Frame}
use Rattle.rq_wal.specs.declared.base.Base.{Base}
use Rattle.rq_wal.specs.Rules.{AreAllowed}
use Rattle.rq_log.specs.Views.{stored_of as spliced_in}
use Rattle.rq_member.specs.Files.{stored_entry, stored_of}
use Rattle.rq_member.specs.Keeping.{moved}
use Rattle.rq_member.proofs.Framing.{votes, allowed_behind, spliced_at}
use Rattle.rq_member.proofs.frames.frames_of.Goals as goal

pub returns-in_ok-push-in-Ok-clause-allowed : goal.returns-in_ok-push-in-Ok-clause-allowed
returns-in_ok-push-in-Ok-clause-allowed c = λ first kept log keeps.
    let core = c.args.core.now in
    let t = moved core.node c.args.moves.now in
    let from = c.in-Some.from in
    let sp = spliced_at core.before t from (drop (from - 1) core.node.log) (ap (λ (s : Option ℕ). spliced_in core.node.log s) c.in-Some.is) keeps in
    let made = c.in_ok-frames.ensures.frames in
    let all = subst (λ (l : List Frame). AreAllowed (stored_of first kept) l) made (c.in_ok-frames.ensures.allowed (stored_of first kept)) in
    subst (λ (l : List Frame). AreAllowed (stored_of first kept) l) (sym (c.in_ok-push-in-Ok.ensures.items ∙ ap (λ (l : List Frame). l ++ c.in-Ok.frame ∷ []) made))
    (allowed_behind (stored_of first kept) c.args.moves.now.vote core.node.term core.node.vote c.in-Ok.frame all
    (λ s base entries. c.in-Ok.ensures.allowed s (ap (λ (b : Base). b.index) base) sp.first (omega (arith, ap length entries, length-map kept.log stored_entry, ap length log, sp.next)) sp.some sp.readable))
