use Rattle.std.proofs.Common.{true, nat_le, ◌&&◌, le-leb, ◌≡◌, ℕ, List, length, sym, ◌∙◌, ap, subst, arith}
use Rattle.std.proofs.Math.Seq.{take-length}
use Rattle.rq_outside.specs.declared.in_memory.journal.Call.TheVariants.{Write}
use Rattle.rq_outside.specs.Replay.{content_after, overwritten}
use Rattle.rq_outside.proofs.Replays.{content_then, images_then, time_then, total_then, valid_then}
use Rattle.rq_outside.proofs.in_memory.journal.Journal.write.Goals as goal

pub invariant_of-self-clause-reads : goal.invariant_of-self-clause-reads
invariant_of-self-clause-reads c =
    let old = c.args.self.now in
    let piece = c.args.piece.now in
    c.overwrite.ensures.items
    ∙ (λ i. overwritten (old.reads i) c.args.at (sym (take-length piece) i))
    ∙ sym (content_then old.calls.items old.written.items old.first.items old.total (Write c.args.at (length piece)) piece c.push_reserved.new.self.items c.extend_reserved.new.bytes.items c.push_reserved.ensures.items c.extend_reserved.ensures.items)

pub returns-clause-images : goal.returns-clause-images
returns-clause-images c =
    let old = c.args.self.now in
    images_then old.calls.items old.written.items old.first.items old.total _ _ _ _ c.push_reserved.ensures.items c.extend_reserved.ensures.items

pub returns-clause-time : goal.returns-clause-time
returns-clause-time c =
    let old = c.args.self.now in
    time_then old.calls.items old.written.items old.first.items old.total _ _ _ _ c.push_reserved.ensures.items c.extend_reserved.ensures.items _ _ _ _ _ _ _ _

pub invariant_of-self-clause-total : goal.invariant_of-self-clause-total
invariant_of-self-clause-total c =
    let old = c.args.self.now in
    total_then old.calls.items old.written.items old.first.items old.total _ _ _ _ c.push_reserved.ensures.items c.extend_reserved.ensures.items (omega arith)

pub invariant_of-self-clause-valid : goal.invariant_of-self-clause-valid
invariant_of-self-clause-valid c =
    let old = c.args.self.now in
    let within : nat_le c.args.at (length (content_after old.calls.items old.written.items old.first.items)) ≡ true = subst (λ (l : List ℕ). nat_le c.args.at (length l) ≡ true) old.reads (le-leb _ _ c.requires.place) in
    valid_then old.calls.items old.written.items old.first.items old.total _ _ _ _ c.push_reserved.ensures.items c.extend_reserved.ensures.items old.valid (ap (λ b. b && true) within)
