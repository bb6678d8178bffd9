use Rattle.std.proofs.Common.{◌≡◌, ◌<◌, ◌+◌, ◌^◌, ◌∷◌, ◌++◌, [], ◌∙◌, ℕ, List, length, Some, sym, ap, subst, arith}
use Rattle.rq_node.specs.contracts.node.State.{the_view}
use Rattle.rq_node.specs.declared.log_entry.LogEntry.{LogEntry}
use Rattle.rq_node.specs.declared.log_entry.Content.TheVariants.{NoOp}
use Rattle.rq_node.specs.Node.{Node, Persistent, Vote, Splice, persistent_of}
use Rattle.rq_node.specs.Rules.{led}
use Rattle.rq_node.specs.Sound.{AreReadable}
use Rattle.rq_node.specs.Recovery.{HasFile, IsBroken, Moments}
use Rattle.rq_node.proofs.Allowed.{led_allowed}
use Rattle.rq_node.proofs.Persistent.{kept_led, led_frames}
use Rattle.rq_node.proofs.Readable.{readable_more}
use Rattle.rq_node.proofs.node.Node.lead.Goals as goal

pub returns-in-Err-clause-failed : goal.returns-in-Err-clause-failed
returns-in-Err-clause-failed g c = λ refused.
    let told = g.D.Disk.told in
    let means = g.D.Disk.means in
    let v = the_view c.state.inside in
    let at : c.in_ok-index.index ≡ length v.log + 1 = c.in_ok-index.ensures ∙ ap (λ (k : Node). length k.log + 1) (sym c.state.view_is) in
    let has = subst (λ (k : Node). HasFile told means c.args.disks.now k.id (persistent_of k) c.args.self.now.file) (sym c.state.view_is) c.requires.open in
    let frames = led_frames v c.vote_for-vote.result c.in_ok-splice.splice c.in_ok-index.index c.vote_for-vote.ensures.frame c.in_ok-splice.ensures.frame at in
    let allowed = led_allowed v c.vote_for-vote.ensures.id c.vote_for-vote.ensures.term (subst (λ (k : ℕ). k < 2 ^ 64) at c.splice_of.ensures.index) in
    subst (λ (k : Node). IsBroken told means c.store.new.disks k.id (persistent_of k) (led k).records) c.state.view_is
    (c.store.ensures.failed (c.in-Err.is ∙ refused) v.id (persistent_of v) (Vote (v.term + 1) (Some v.id)) (Splice (length v.log + 1) (record { term = v.term + 1; content = NoOp } ∷ []) ∷ []) frames allowed has)

pub returns-in-Err-clause-no_memory : goal.returns-in-Err-clause-no_memory
returns-in-Err-clause-no_memory g c = λ none.
    let told = g.D.Disk.told in
    let means = g.D.Disk.means in
    let v = the_view c.state.inside in
    let at : c.in_ok-index.index ≡ length v.log + 1 = c.in_ok-index.ensures ∙ ap (λ (k : Node). length k.log + 1) (sym c.state.view_is) in
    let has = subst (λ (k : Node). HasFile told means c.args.disks.now k.id (persistent_of k) c.args.self.now.file) (sym c.state.view_is) c.requires.open in
    subst (λ (l : List LogEntry). HasFile told means c.store.new.disks v.id (record (persistent_of v) { log = l }) c.store.new.file) (sym {A = List LogEntry} c.reserve.ensures.items)
    (c.store.ensures.no_memory (c.in-Err.is ∙ none) v.id (persistent_of v) has)

pub invariant_of-state-2 : goal.invariant_of-state-2
invariant_of-state-2 g c =
    let v = the_view c.state.inside in
    let at : c.in_ok-index.index ≡ length v.log + 1 = c.in_ok-index.ensures ∙ ap (λ (k : Node). length k.log + 1) (sym c.state.view_is) in
    let grown : c.push_reserved.new.self.items ≡ v.log ++ record { term = v.term + 1; content = NoOp } ∷ [] = cc (c.push_reserved.ensures.items, c.reserve.ensures.items) in
    let size : length c.push_reserved.new.self.items ≡ length v.log + 1 = grind (arith, grown) in
    record {
      applied_within = omega (arith, at, c.state.invariant.applied_within, c.state.invariant.commit_within);
      commit_within = omega (arith, size, at);
      readable = subst AreReadable (sym grown) (readable_more v.log (record { term = v.term + 1; content = NoOp }) c.state.invariant.readable tt);
    }

pub returns-clause-open : goal.returns-clause-open
returns-clause-open g c =
    let told = g.D.Disk.told in
    let means = g.D.Disk.means in
    let v = the_view c.state.inside in
    let at : c.in_ok-index.index ≡ length v.log + 1 = c.in_ok-index.ensures ∙ ap (λ (k : Node). length k.log + 1) (sym c.state.view_is) in
    let has = subst (λ (k : Node). HasFile told means c.args.disks.now k.id (persistent_of k) c.args.self.now.file) (sym c.state.view_is) c.requires.open in
    let frames = led_frames v c.vote_for-vote.result c.in_ok-splice.splice c.in_ok-index.index c.vote_for-vote.ensures.frame c.in_ok-splice.ensures.frame at in
    let allowed = led_allowed v c.vote_for-vote.ensures.id c.vote_for-vote.ensures.term (subst (λ (k : ℕ). k < 2 ^ 64) at c.splice_of.ensures.index) in
    let grown : c.push_reserved.new.self.items ≡ v.log ++ record { term = v.term + 1; content = NoOp } ∷ [] = cc (c.push_reserved.ensures.items, c.reserve.ensures.items) in
    subst (λ (l : List LogEntry). HasFile told means c.store.new.disks v.id (record (persistent_of (led v).node) { log = l }) c.store.new.file) (sym grown)
    (subst (λ (k : Persistent). HasFile told means c.store.new.disks v.id k c.store.new.file) (kept_led v)
    (c.in-Ok.ensures.ok v.id (persistent_of v) (led v).records frames allowed has))

pub returns-in-Err-clause-moments : goal.returns-in-Err-clause-moments
returns-in-Err-clause-moments g c =
    let told = g.D.Disk.told in
    let means = g.D.Disk.means in
    let v = the_view c.state.inside in
    let at : c.in_ok-index.index ≡ length v.log + 1 = c.in_ok-index.ensures ∙ ap (λ (k : Node). length k.log + 1) (sym c.state.view_is) in
    let has = subst (λ (k : Node). HasFile told means c.args.disks.now k.id (persistent_of k) c.args.self.now.file) (sym c.state.view_is) c.requires.open in
    let frames = led_frames v c.vote_for-vote.result c.in_ok-splice.splice c.in_ok-index.index c.vote_for-vote.ensures.frame c.in_ok-splice.ensures.frame at in
    let allowed = led_allowed v c.vote_for-vote.ensures.id c.vote_for-vote.ensures.term (subst (λ (k : ℕ). k < 2 ^ 64) at c.splice_of.ensures.index) in
    subst (λ (k : Node). Moments told means c.args.disks.now c.store.new.disks k.id (persistent_of k) (led k).records) c.state.view_is
    (c.store.ensures.moments v.id (persistent_of v) (led v).records frames allowed has)

pub returns-clause-moments : goal.returns-clause-moments
returns-clause-moments g c =
    let told = g.D.Disk.told in
    let means = g.D.Disk.means in
    let v = the_view c.state.inside in
    let at : c.in_ok-index.index ≡ length v.log + 1 = c.in_ok-index.ensures ∙ ap (λ (k : Node). length k.log + 1) (sym c.state.view_is) in
    let has = subst (λ (k : Node). HasFile told means c.args.disks.now k.id (persistent_of k) c.args.self.now.file) (sym c.state.view_is) c.requires.open in
    let frames = led_frames v c.vote_for-vote.result c.in_ok-splice.splice c.in_ok-index.index c.vote_for-vote.ensures.frame c.in_ok-splice.ensures.frame at in
    let allowed = led_allowed v c.vote_for-vote.ensures.id c.vote_for-vote.ensures.term (subst (λ (k : ℕ). k < 2 ^ 64) at c.splice_of.ensures.index) in
    subst (λ (k : Node). Moments told means c.args.disks.now c.store.new.disks k.id (persistent_of k) (led k).records) c.state.view_is
    (c.store.ensures.moments v.id (persistent_of v) (led v).records frames allowed has)
