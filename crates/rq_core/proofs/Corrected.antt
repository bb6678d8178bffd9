-- An append with the node's own entries up to the commit, found without putting them in.
use Rattle.std.specs.Prelude.{◌==◌, ◌&&◌, ◌||◌, nat_le, min, slice_get, if◌then◌else◌}
use Rattle.std.proofs.Common.{◌≡◌, ℕ, suc, zero, ◌+◌, ◌-◌, ◌<◌, ◌≤◌, ◌⊎◌, ⊎_elim, Bool, true, false, Some, List, [], ◌∷◌, ◌++◌, length, take, drop, refl, sym, ap, ◌∙◌, arith, length-drop, length-append, add-one}
use Rattle.std.proofs.lemmas.List.{drop_all, length-take, drop-drop}
use Rattle.std.proofs.lemmas.Bool.Decides.{nat_tests}
use Rattle.std.proofs.Math.Seq.{drop-append-add}
use Rattle.rq_history.specs.History.{NodeId, term_at, term_or_zero}
use Rattle.rq_raft.specs.Entries.{Entries, entry_view}
use Rattle.rq_raft.specs.Node.{RaftNode, RaftTurn, Splice, AppendSay, unchanged, say}
use Rattle.rq_raft.specs.Append.{matching_count, with_commit, corrected_term, corrected_entries, has_prev, append_missing, append_in_term}
use Rattle.rq_core.specs.Fast.{committed_of, first_missing, agrees, take_fast, append_fast}
use Rattle.rq_core.proofs.Appending.{already_one}

module _ {E : Type 0} where
  at_place : (es : List E) (j : ℕ) → j < length es → (e : E) × (drop j es ≡ e ∷ drop (suc j) es) × (slice_get es j ≡ Some e)
  at_place [] j h = absurd (omega arith)
  at_place (x ∷ es) zero h = (x, refl, refl)
  at_place (x ∷ es) (suc j) h = at_place es j (omega arith)

  take_min : (m k : ℕ) (es : List E) → take m (take k es) ≡ take (min m k) es
  take_min zero k es = let e : min zero k ≡ zero = omega arith in rw e refl
  take_min (suc m) zero es = let e : min (suc m) zero ≡ zero = omega arith in rw e refl
  take_min (suc m) (suc k) [] = let e : min (suc m) (suc k) ≡ suc (min m k) = omega arith in rw e refl
  take_min (suc m) (suc k) (x ∷ es) = let e : min (suc m) (suc k) ≡ suc (min m k) = omega arith in rw e (ap (λ (l : List E). x ∷ l) (take_min m k es))

  drop_min : (k : ℕ) (es : List E) → drop k es ≡ drop (min (length es) k) es
  drop_min k es = ⊎_elim all some (by_length (length es) k)
    where
      by_length : (a b : ℕ) → (a ≤ b) ⊎ (b < a)
      by_length a b = grind arith

      all : length es ≤ k → drop k es ≡ drop (min (length es) k) es
      all h = rw (drop_all k es h, drop_all (min (length es) k) es (omega (arith, h))) refl

      some : k < length es → drop k es ≡ drop (min (length es) k) es
      some h = let e : min (length es) k ≡ k = omega (arith, h) in rw e refl

  -- behind the own ones come the packet's
  drop_mended : (own es : List E) (d j : ℕ) → length own ≡ d → drop (d + j) (own ++ drop d es) ≡ drop (d + j) es
  drop_mended own es d j len = ap (λ (k : ℕ). drop (k + j) (own ++ drop d es)) (sym len) ∙ drop-append-add own (drop d es) j ∙ drop-drop j d es

module _ {E : Type 0} (entries : Entries E) where
  own_step : (log : List E) (at : ℕ) → at < length log → (e : E) × (drop at log ≡ e ∷ drop (at + 1) log) × (term_at (entry_view entries) log (at + 1) ≡ entries.term_of e)
  own_step log at below =
      let p = at_place log at below in
      let next : at + 1 ≡ suc at = add-one at in
      (p.0, rw next p.1, rw next (ap (term_or_zero (entry_view entries)) p.2))

  already_own : (m at : ℕ) (log : List E) (rest : List E) → at + m ≤ length log → matching_count entries log at (take m (drop at log) ++ rest) ≡ m + matching_count entries log (at + m) rest
  already_own zero at log rest within = let e : at + zero ≡ at = omega arith in rw e (omega arith)
  already_own (suc m) at log rest within =
      let s = own_step log at (omega arith) in
      let e : at + suc m ≡ at + 1 + m = omega arith in
      rw (s.1, e, already_one entries log at s.0 (take m (drop (at + 1) log) ++ rest) (omega arith) s.2, already_own m (at + 1) log rest (omega arith)) (omega arith)

  no_own : (at d : ℕ) (log rest : List E) → d ≡ 0 → matching_count entries log at (take d (drop at log) ++ rest) ≡ d + matching_count entries log (at + d) rest
  no_own at d log rest none = let e : at + zero ≡ at = omega arith in rw (none, e) (omega arith)

  -- the node's own entries up to the commit, then the packet's
  mended_is : (n : RaftNode E) (prev : ℕ) (es : List E) → corrected_entries entries n prev es ≡ take (committed_of entries n prev es) (drop prev n.log) ++ drop (committed_of entries n prev es) es
  mended_is n prev es = rw (take_min (length es) (n.commit - prev) (drop prev n.log), drop_min (n.commit - prev) es) refl

  either_way : (n : RaftNode E) (prev : ℕ) (es : List E) → n.commit ≤ length n.log → (committed_of entries n prev es ≡ 0) ⊎ (prev + committed_of entries n prev es ≤ length n.log)
  either_way n prev es low = by_order prev n.commit (length es) (length n.log) low
    where
      by_order : (prev commit count last : ℕ) → commit ≤ last → (min count (commit - prev) ≡ 0) ⊎ (prev + min count (commit - prev) ≤ last)
      by_order prev commit count last low = grind arith

  missing_is : (n : RaftNode E) (prev : ℕ) (es : List E) → n.commit ≤ length n.log → matching_count entries n.log prev (corrected_entries entries n prev es) ≡ first_missing entries n prev es
  missing_is n prev es low = ap (matching_count entries n.log prev) (mended_is n prev es) ∙ ⊎_elim
      (λ (z : committed_of entries n prev es ≡ 0). no_own prev (committed_of entries n prev es) n.log (drop (committed_of entries n prev es) es) z)
      (λ (h : prev + committed_of entries n prev es ≤ length n.log). already_own (committed_of entries n prev es) prev n.log (drop (committed_of entries n prev es) es) h)
      (either_way n prev es low)

  own_length : (n : RaftNode E) (prev : ℕ) (es : List E) → n.commit ≤ length n.log → length (take (committed_of entries n prev es) (drop prev n.log)) ≡ committed_of entries n prev es
  own_length n prev es low = ⊎_elim
      (λ (z : committed_of entries n prev es ≡ 0). let t = length-take (committed_of entries n prev es) (drop prev n.log) in omega (arith, z, t))
      (λ (h : prev + committed_of entries n prev es ≤ length n.log). let t = length-take (committed_of entries n prev es) (drop prev n.log) in let d = length-drop prev n.log in omega (arith, h, t, d))
      (either_way n prev es low)

  mended_length : (n : RaftNode E) (prev : ℕ) (es : List E) → n.commit ≤ length n.log → length (corrected_entries entries n prev es) ≡ length es
  mended_length n prev es low = ap length (mended_is n prev es) ∙ sum
    where
      sum : length (take (committed_of entries n prev es) (drop prev n.log) ++ drop (committed_of entries n prev es) es) ≡ length es
      sum = let a = length-append (take (committed_of entries n prev es) (drop prev n.log)) (drop (committed_of entries n prev es) es) in let o = own_length n prev es low in let d = length-drop (committed_of entries n prev es) es in
          added (length (take (committed_of entries n prev es) (drop prev n.log) ++ drop (committed_of entries n prev es) es)) (length (take (committed_of entries n prev es) (drop prev n.log))) (length (drop (committed_of entries n prev es) es)) (length es) (n.commit - prev) a o d
        where
          added : (all own rest count room : ℕ) → all ≡ own + rest → own ≡ min count room → rest ≡ count - min count room → all ≡ count
          added all own rest count room a o d = grind arith

  mended_drop : (n : RaftNode E) (prev : ℕ) (es : List E) → n.commit ≤ length n.log → drop (first_missing entries n prev es) (corrected_entries entries n prev es) ≡ drop (first_missing entries n prev es) es
  mended_drop n prev es low = ap (drop (first_missing entries n prev es)) (mended_is n prev es)
      ∙ drop_mended (take (committed_of entries n prev es) (drop prev n.log)) es (committed_of entries n prev es) (matching_count entries n.log (prev + committed_of entries n prev es) (drop (committed_of entries n prev es) es)) (own_length n prev es low)

  -- what is taken over, by its parts
  abbrev taken : RaftNode E → ℕ → ℕ → ℕ → ℕ → List E → RaftTurn E
  taken n prev commit k count rest = if k == count then unchanged (with_commit n commit (prev + count)) else record {
    node = record (with_commit n commit (prev + count)) { log = take (prev + k) n.log ++ rest };
    stored = Splice (prev + k + 1) rest ∷ [];
    packets = [];
  }

  take_is : (n : RaftNode E) (prev commit : ℕ) (es : List E) → n.commit ≤ length n.log → append_missing entries n prev commit (corrected_entries entries n prev es) ≡ take_fast entries n prev commit es (first_missing entries n prev es)
  take_is n prev commit es low =
      ap (λ (k : ℕ). taken n prev commit k (length (corrected_entries entries n prev es)) (drop k (corrected_entries entries n prev es))) (missing_is n prev es low)
      ∙ ap (λ (count : ℕ). taken n prev commit (first_missing entries n prev es) count (drop (first_missing entries n prev es) (corrected_entries entries n prev es))) (mended_length n prev es low)
      ∙ ap (taken n prev commit (first_missing entries n prev es) (length es)) (mended_drop n prev es low)

  agrees_is : (n : RaftNode E) (prev prev_term : ℕ) → n.commit ≤ length n.log → has_prev entries n prev (corrected_term entries n prev prev_term) ≡ agrees entries n prev prev_term
  agrees_is n prev prev_term low = by_test (nat_le prev n.commit) refl
    where
      true_there : (prev commit last t : ℕ) → commit ≤ last → nat_le prev commit ≡ true → ((prev == 0) || (nat_le prev last && (t == t))) ≡ true
      true_there prev commit last t low h = grind (arith, nat_tests)

      false_there : (prev commit : ℕ) (b : Bool) → nat_le prev commit ≡ false → ((prev == 0) || b) ≡ b
      false_there prev commit true h = grind (arith, nat_tests)
      false_there prev commit false h = grind (arith, nat_tests)

      by_test : (b : Bool) → nat_le prev n.commit ≡ b → has_prev entries n prev (corrected_term entries n prev prev_term) ≡ agrees entries n prev prev_term
      by_test true t = rw t (true_there prev n.commit (length n.log) (term_at (entry_view entries) n.log prev) low t)
      by_test false t = rw t (false_there prev n.commit (nat_le prev (length n.log) && (term_at (entry_view entries) n.log prev == prev_term)) t)

  pub fast_is : (n : RaftNode E) (from : NodeId) (prev prev_term commit probe : ℕ) (es : List E) → n.commit ≤ length n.log → append_in_term entries n from prev prev_term commit probe es ≡ append_fast entries n from prev prev_term commit probe es
  fast_is n from prev prev_term commit probe es low =
      ap (λ (b : Bool). if b then say (append_missing entries n prev commit (corrected_entries entries n prev es)) from (AppendSay true (prev + length es) probe) else say (unchanged n) from (AppendSay false (min (prev - 1) (length n.log)) probe)) (agrees_is n prev prev_term low)
      ∙ ap (λ (t : RaftTurn E). if agrees entries n prev prev_term then say t from (AppendSay true (prev + length es) probe) else say (unchanged n) from (AppendSay false (min (prev - 1) (length n.log)) probe)) (take_is n prev commit es low)
