-- Several entries are applied.
use Rattle.std.proofs.Common.{◌≡◌, ℕ, suc, zero, ◌+◌, ◌-◌, ◌≤◌, min, max, Bool, true, false, cond, nat_lt, refl, ap, sym, ◌∙◌, arith}
use Rattle.std.proofs.lemmas.Bool.Decides.{nat_tests}
use Rattle.rq_raft.specs.Node.{RaftNode}
use Rattle.rq_raft.specs.Deliver.{applied_next, applied_times}

module _ {E : Type 0} where
  one_more : (n : RaftNode E) (k : ℕ) → applied_next (record n { applied = min (n.applied + k) n.commit }) ≡ record n { applied = min (n.applied + suc k) n.commit }
  one_more n k = by_test (nat_lt (min (n.applied + k) n.commit) n.commit) refl
    where
      by_test : (b : Bool) → nat_lt (min (n.applied + k) n.commit) n.commit ≡ b → cond b (record n { applied = min (n.applied + k) n.commit + 1 }) (record n { applied = min (n.applied + k) n.commit }) ≡ record n { applied = min (n.applied + suc k) n.commit }
      by_test true e = ap (λ (a : ℕ). record n { applied = a }) (grind (arith, nat_tests))
      by_test false e = ap (λ (a : ℕ). record n { applied = a }) (grind (arith, nat_tests))

  times : (n : RaftNode E) (k : ℕ) → n.applied ≤ n.commit → applied_times k n ≡ record n { applied = min (n.applied + k) n.commit }
  times n zero le = ap (λ (a : ℕ). record n { applied = a }) (let e : n.applied ≡ min (n.applied + zero) n.commit = omega (arith, le) in e)
  times n (suc k) le = ap applied_next (times n k le) ∙ one_more n k

  pub applied_some : (n : RaftNode E) (index at : ℕ) → n.applied ≤ n.commit → at ≡ max n.applied (min index n.commit) → record n { applied = at } ≡ applied_times (index - n.applied) n
  applied_some n index at le is = ap (λ (a : ℕ). record n { applied = a }) (let e : at ≡ min (n.applied + (index - n.applied)) n.commit = omega (arith, le, is) in e) ∙ sym (times n (index - n.applied) le)
