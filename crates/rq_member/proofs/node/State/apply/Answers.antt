use Rattle.std.proofs.Common.{◌≡◌, ◌∙◌, ◌≤◌, refl, sym, ap, arith}
use Rattle.rq_member.specs.Held.{Held}
use Rattle.rq_member.proofs.Applying.{applied_end, applied_ok, some_applied}
use Rattle.rq_member.proofs.node.State.apply.Goals as goal
use Rattle.rq_member.proofs.node.State.apply.Goals.{then-loop-done-test+else-applied-commit, else-loop-done-test}

pub returns-in-Err-clause-applied : goal.returns-in-Err-clause-applied
returns-in-Err-clause-applied g c =
    let h = c.args.self.now in
    applied_end h.first c.args.most c.loop-done.done h.node c.loop-done.self.node c.apply_next.new.self.node c.in-Err.error c.ends.result c.loop-done.answers.items c.apply_next.new.answers.items
    c.loop-done.invariant.few c.loop-done.invariant.node c.in-Err.ensures.err c.in-Err.ensures.silent c.loop-done.invariant.answers c.ends.ensures.ok c.ends.ensures.err

pub returns-clause-applied : goal.returns-clause-applied
returns-clause-applied g c =
    let h = c.args.self.now in
    applied_ok h.first c.args.most c.loop-done.done h.node c.loop-done.self.node c.only.result c.loop-done.invariant.few
    (λ one near. elim c.loop-done-test.branch [
      | then-loop-done-test+else-applied-commit w ↦ some_applied h.first c.loop-done.done h.node c.loop-done.self.node w.applied.result w.commit.result c.loop-done.invariant.node (w.applied.ensures ∙ ap (λ (s : Held). s.node.raft.applied) c.self.view_is) (w.commit.ensures ∙ ap (λ (s : Held). s.node.raft.commit) c.self.view_is) w.if-applied-commit.false near
      | else-loop-done-test w ↦ omega (arith, w.loop-done-test.false, one)
    ])
    c.loop-done.invariant.node c.only.ensures.stored c.only.ensures.packets (c.only.ensures.answers ∙ c.from_vec.ensures ∙ c.loop-done.invariant.answers)
