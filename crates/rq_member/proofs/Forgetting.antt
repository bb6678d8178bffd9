-- Reads that are due wait no more.
use Rattle.std.proofs.Common.{◌≡◌, ◌∙◌, ℕ, ◌+◌, ◌-◌, ◌<◌, ◌≤◌, Bool, true, false, List, [], ◌∷◌, ◌++◌, length, take, drop, slice_get, Some, refl, sym, ap, subst, arith}
use Rattle.std.specs.Prelude.{remove}
use Rattle.rq_wire.specs.declared.config.Member.{Member}
use Rattle.rq_raft.specs.Node.{RaftNode}
use Rattle.rq_world.specs.declared.log_entry.LogEntry.{LogEntry}
use Rattle.rq_world.specs.Node.{Node, Pass, PendingRead}
use Rattle.rq_world.specs.Reads.{is_due}
use Rattle.rq_world.specs.Rules.{not_due}
use Rattle.rq_member.proofs.Answering.{kept_without, kept_over}
use Rattle.rq_member.proofs.Passing.{keeps_due}

module _ (first : List Member) (n : Node) where
  pub due_as : (core : RaftNode LogEntry) (x : PendingRead) (pass : Pass) (result : Bool) → n.raft ≡ core → result ≡ is_due first core pass → pass ≡ x.pass → is_due first n.raft x.pass ≡ result
  due_as core x pass result same is one = (λ i. is_due first (same i) (sym one i)) ∙ sym is

  pub forget_here : (all before after : List PendingRead) (k : ℕ) (x : PendingRead) → slice_get before k ≡ Some x → is_due first n.raft x.pass ≡ true → after ≡ remove before k → not_due first n all ≡ take k before ++ not_due first n (drop k before)
      → not_due first n all ≡ take k after ++ not_due first n (drop k after)
  forget_here all before after k x at holds is so =
      so ∙ kept_without (not_due first n) (λ r. is_due first n.raft r.pass) (keeps_due first n) before k x at holds ∙ ap (λ (l : List PendingRead). take k l ++ not_due first n (drop k l)) (sym is)

  pub forget_over : (all before : List PendingRead) (k : ℕ) (x : PendingRead) → slice_get before k ≡ Some x → is_due first n.raft x.pass ≡ false → not_due first n all ≡ take k before ++ not_due first n (drop k before)
      → not_due first n all ≡ take (k + 1) before ++ not_due first n (drop (k + 1) before)
  forget_over all before k x at fails so = so ∙ kept_over (not_due first n) (λ r. is_due first n.raft r.pass) (keeps_due first n) before k x at fails
