-- Reads whose pass is due.
use Rattle.std.proofs.Common.{◌≡◌, ℕ, zero, suc, ◌+◌, ◌-◌, ◌<◌, ◌≤◌, ◌&&◌, Bool, true, false, cond, List, [], ◌∷◌, ◌++◌, length, take, drop, map, get_or, slice_get, Some, refl, sym, ap, ◌∙◌, subst, arith}
use Rattle.std.specs.Prelude.{remove}
use Rattle.rq_wire.specs.declared.config.Member.{Member}
use Rattle.rq_request.specs.declared.say.Answer.{Answer}
use Rattle.rq_request.specs.declared.say.Say.TheVariants.{Results}
use Rattle.rq_engine.specs.Fold.{answer}
use Rattle.rq_raft.specs.Node.{RaftNode}
use Rattle.rq_world.specs.declared.log_entry.LogEntry.{LogEntry}
use Rattle.rq_world.specs.Node.{Node, PendingRead}
use Rattle.rq_world.specs.Reads.{is_due}
use Rattle.rq_world.specs.Rules.{due_answers, not_due}
use Rattle.rq_member.proofs.Answering.{IsPicked, IsKept, taken_more, picked_append, kept_without, kept_over, kept_all, taken_all}

append_last : {T : Type 0} (a b c : List T) → (a ++ b) ++ c ≡ a ++ (b ++ c)
append_last [] b c = refl
append_last (x ∷ a) b c = ap (λ m. x ∷ m) (append_last a b c)

pub append_none : {T : Type 0} (a : List T) → a ++ [] ≡ a
append_none [] = refl
append_none (x ∷ a) = ap (λ m. x ∷ m) (append_none a)

module _ (first : List Member) (n : Node) where
  pub picks_due : IsPicked (due_answers first n) (λ r. is_due first n.raft r.pass) (λ r. record { number = r.pass.id; say = Results (answer n.replica r.items) })
  picks_due = record { none = refl; more = λ r l. refl }

  pub keeps_due : IsKept (not_due first n) (λ r. is_due first n.raft r.pass)
  keeps_due = record { none = refl; more = λ r l. refl }

  pub due_more : (l : List PendingRead) (k : ℕ) (x : PendingRead) (old before new : List Answer) → slice_get l k ≡ Some x → before ≡ old ++ due_answers first n (take k l) → new ≡ before ++ due_answers first n (x ∷ []) → new ≡ old ++ due_answers first n (take (k + 1) l)
  due_more l k x old before new at so is =
      is ∙ ap (λ (m : List Answer). m ++ due_answers first n (x ∷ [])) so ∙ append_last old (due_answers first n (take k l)) (due_answers first n (x ∷ []))
      ∙ ap (λ (m : List Answer). old ++ m) (sym (picked_append _ _ _ picks_due (take k l) (x ∷ [])) ∙ ap (due_answers first n) (sym (taken_more l k x at)))

  pub due_one : (x : PendingRead) → is_due first n.raft x.pass ≡ true → due_answers first n (x ∷ []) ≡ record { number = x.pass.id; say = Results (answer n.replica x.items) } ∷ []
  due_one x is = ap (λ (t : Bool). cond t (record { number = x.pass.id; say = Results (answer n.replica x.items) } ∷ []) []) is

  pub due_none : (x : PendingRead) → is_due first n.raft x.pass ≡ false → due_answers first n (x ∷ []) ≡ []
  due_none x is = ap (λ (t : Bool). cond t (record { number = x.pass.id; say = Results (answer n.replica x.items) } ∷ []) []) is
