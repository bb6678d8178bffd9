-- Parts of a log that stand in a packet.
use Rattle.std.proofs.Common.{◌≡◌, ◌≢◌, ◌⊎◌, ℕ, suc, zero, ◌+◌, ◌≤◌, ◌&&◌, false, List, [], ◌∷◌, ◌++◌, length, take, drop, refl, ap, sym, subst, ◌∙◌, inl, inr, ⊎_elim, arith, add-one}
use Rattle.std.specs.Prelude.{◌==◌, nat_lt, Some, slice_get}
use Rattle.std.proofs.lemmas.List.{take-take, take-append-drop, drop-take, drop-drop}
use Rattle.rq_history.specs.History.{term_or_zero, term_at}
use Rattle.rq_raft.specs.Entries.{Entries, entry_view}
use Rattle.rq_raft.specs.Append.{matching_count}
use Rattle.rq_raft.proofs.Logs.{same_fits, term_same}
use Rattle.rq_raft.proofs.Tests.{if_case, and_true, and_is, eq_true, eq_is, lt_true, lt_is}

module _ {E : Type 0} where
  -- the first k entries behind prev
  pub slice_same : (a b : List E) (prev k : ℕ) → take (prev + k) a ≡ take (prev + k) b → take k (drop prev a) ≡ take k (drop prev b)
  slice_same a b prev k e = cc (drop-take prev k a, drop-take prev k b, ap (drop prev) e)

  -- the prefix up to prev + d, and then the rest of the slice
  pub joined : (l : List E) (prev d k : ℕ) → d ≤ k → take (prev + d) l ++ drop d (take k (drop prev l)) ≡ take (prev + k) l
  joined l prev d k le =
      let t = take-append-drop (prev + d) (take (prev + k) l) in
      cc (t, take-take (prev + d) (prev + k) l (omega arith), drop-drop d prev (take (prev + k) l), drop-take prev k l)

  -- d entries of the packet are there already, and the next one isn't
  pub record There (l z : List E) (prev k d : ℕ) : Type 0 where
    pub small : d ≤ k
    pub same : take (prev + d) l ≡ take (prev + d) z
    pub last : (d ≡ k) ⊎ (take (prev + d + 1) l ≢ take (prev + d + 1) z)

  -- what stands at a place, and the list behind it
  drops : (l : List E) (n : ℕ) (e : E) (es : List E) (k : ℕ) → e ∷ es ≡ take (suc k) (drop n l) → (slice_get l n ≡ Some e) × (es ≡ take k (drop (n + 1) l))
  drops [] zero e es k is = absurd (cc)
  drops [] (suc n) e es k is = absurd (cc)
  drops (x ∷ l) zero e es k is =
      let a : e ≡ x = cc in
      let b : es ≡ take k l = cc in
      (ap Some (sym a), b)
  drops (x ∷ l) (suc n) e es k is =
      let r = drops l n e es k is in
      let next : suc n + 1 ≡ suc (n + 1) = omega arith in
      (r.0, subst (λ (m : ℕ). es ≡ take k (drop m (x ∷ l))) (sym next) r.1)

module _ {E : Type 0} (entries : Entries E) where
  slice_first : (l : List E) (prev k : ℕ) (e : E) (es : List E) → e ∷ es ≡ take (suc k) (drop prev l) → (term_at (entry_view entries) l (prev + 1) ≡ entries.term_of e) × (es ≡ take k (drop (prev + 1) l))
  slice_first l prev k e es is =
      let r = drops l prev e es k is in
      (at_next (ap (term_or_zero (entry_view entries)) r.0), r.1)
    where
      at_next : term_or_zero (entry_view entries) (slice_get l prev) ≡ entries.term_of e → term_at (entry_view entries) l (prev + 1) ≡ entries.term_of e
      at_next q = rw add-one q

  pub there : (l z : List E) → ((at : ℕ) → at ≤ length l → at ≤ length z → term_at (entry_view entries) l at ≡ term_at (entry_view entries) z at → take at l ≡ take at z)
      → (es : List E) (prev : ℕ) → es ≡ take (length es) (drop prev z) → prev + length es ≤ length z → take prev l ≡ take prev z → There l z prev (length es) (matching_count entries l prev es)
  there l z match [] prev is fits same = record { small = omega arith; same = at_zero prev same; last = inl refl }
    where
      at_zero : (p : ℕ) → take p l ≡ take p z → take (p + 0) l ≡ take (p + 0) z
      at_zero p s = let e : p + 0 ≡ p = omega arith in rw e s
  there l z match (e ∷ es) prev is fits same =
      let f = slice_first z prev (length es) e es is in
      if_case (λ (d : ℕ). There l z prev (length (e ∷ es)) d) (nat_lt prev (length l) && (term_at (entry_view entries) l (prev + 1) == entries.term_of e)) (matching_count entries l (prev + 1) es + 1) 0
      (λ t.
      let a = and_true (nat_lt prev (length l)) (term_at (entry_view entries) l (prev + 1) == entries.term_of e) t in
      let next : take (prev + 1) l ≡ take (prev + 1) z = match (prev + 1) (omega (arith, lt_true prev (length l) a.0)) (omega (arith, fits)) (eq_true (term_at (entry_view entries) l (prev + 1)) (entries.term_of e) a.1 ∙ sym f.0) in
      let r = there l z match es (prev + 1) f.1 (omega (arith, fits)) next in
      one_more (matching_count entries l (prev + 1) es) r)
      (λ t. record { small = omega arith; same = at_zero prev same; last = inr (λ q. differs t (at_one prev q) (omega (arith, fits)) f.0) })
    where
      at_zero : (p : ℕ) → take p l ≡ take p z → take (p + 0) l ≡ take (p + 0) z
      at_zero p s = let q : p + 0 ≡ p = omega arith in rw q s

      at_one : (p : ℕ) → take (p + 0 + 1) l ≡ take (p + 0 + 1) z → take (p + 1) l ≡ take (p + 1) z
      at_one p s = let q : p + 0 + 1 ≡ p + 1 = omega arith in rw q at s

      differs : (nat_lt prev (length l) && (term_at (entry_view entries) l (prev + 1) == entries.term_of e)) ≡ false → take (prev + 1) l ≡ take (prev + 1) z → prev + 1 ≤ length z → term_at (entry_view entries) z (prev + 1) ≡ entries.term_of e → Prim.⊥
      differs t q fit term =
          let long = same_fits z l (prev + 1) fit (sym q) in
          let yes = and_is (nat_lt prev (length l)) (term_at (entry_view entries) l (prev + 1) == entries.term_of e) (lt_is prev (length l) (omega arith)) (eq_is (term_at (entry_view entries) l (prev + 1)) (entries.term_of e) (term_same (entry_view entries) l z (prev + 1) (prev + 1) (omega arith) q ∙ term)) in
          cc (yes, t)

      one_more : (d : ℕ) → There l z (prev + 1) (length es) d → There l z prev (length (e ∷ es)) (d + 1)
      one_more d r =
          let q : prev + 1 + d ≡ prev + (d + 1) = omega arith in
          record {
            small = omega (arith, r.small);
            same = rw q at r.same;
            last = ⊎_elim (λ (k : d ≡ length es). inl (omega arith)) (λ (no : take (prev + 1 + d + 1) l ≢ take (prev + 1 + d + 1) z). inr (rw q at no)) r.last;
          }
