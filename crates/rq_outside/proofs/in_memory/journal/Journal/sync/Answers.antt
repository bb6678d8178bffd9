use Rattle.std.proofs.Common.{◌≡◌, ℕ, List, [], refl, sym, ◌∙◌, subst, arith}
use Rattle.std.proofs.lemmas.List.{append-nil}
use Rattle.rq_outside.specs.declared.in_memory.journal.Call.TheVariants.{Sync}
use Rattle.rq_outside.specs.Replay.{content_after, left_after}
use Rattle.rq_outside.proofs.Replays.{content_then, images_then, time_then, total_then, valid_then}
use Rattle.rq_outside.specs.Playing.{reads_image}
use Rattle.rq_outside.proofs.in_memory.journal.Journal.sync.Goals as goal

pub invariant_of-self-clause-reads : goal.invariant_of-self-clause-reads
invariant_of-self-clause-reads c =
    let old = c.args.self.now in
    old.reads
    ∙ sym (content_then old.calls.items old.written.items old.first.items old.total (Sync) [] c.push_reserved.new.self.items old.written.items c.push_reserved.ensures.items (sym (append-nil old.written.items)))

pub invariant_of-self-clause-total : goal.invariant_of-self-clause-total
invariant_of-self-clause-total c =
    let old = c.args.self.now in
    total_then old.calls.items old.written.items old.first.items old.total (Sync) [] c.push_reserved.new.self.items old.written.items c.push_reserved.ensures.items (sym (append-nil old.written.items)) refl

pub invariant_of-self-clause-valid : goal.invariant_of-self-clause-valid
invariant_of-self-clause-valid c =
    let old = c.args.self.now in
    valid_then old.calls.items old.written.items old.first.items old.total (Sync) [] c.push_reserved.new.self.items old.written.items c.push_reserved.ensures.items (sym (append-nil old.written.items)) old.valid refl

pub returns-clause-time : goal.returns-clause-time
returns-clause-time c =
    let old = c.args.self.now in
    time_then old.calls.items old.written.items old.first.items old.total (Sync) [] c.push_reserved.new.self.items old.written.items c.push_reserved.ensures.items (sym (append-nil old.written.items)) _ _ _ _ _ _ _ _

pub returns-clause-durable : goal.returns-clause-durable
returns-clause-durable c =
    let old = c.args.self.now in λ f left.
    images_then old.calls.items old.written.items old.first.items old.total Sync [] c.push_reserved.new.self.items old.written.items c.push_reserved.ensures.items (sym (append-nil old.written.items)) f left ∙ sym old.reads

pub returns-clause-images : goal.returns-clause-images
returns-clause-images c =
    let old = c.args.self.now in λ f left.
    let is : f ≡ content_after old.calls.items old.written.items old.first.items = images_then old.calls.items old.written.items old.first.items old.total Sync [] c.push_reserved.new.self.items old.written.items c.push_reserved.ensures.items (sym (append-nil old.written.items)) f left in
    subst (λ (l : List ℕ). left_after old.calls.items old.written.items old.first.items l) (sym is)
    (reads_image old.calls.items old.written.items old.first.items _ (omega (arith, old.total)) old.valid refl)
