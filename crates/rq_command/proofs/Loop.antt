-- Reading things one after the other, as a loop does.
use Rattle.std.proofs.Common.{◌≡◌, ℕ, suc, ◌-◌, ◌+◌, ◌≤◌, ◌<◌, List, [], ◌∷◌, ◌++◌, Result, Ok, Err, refl, sym, ap, ◌∙◌, append_assoc, arith}
use Rattle.std.proofs.lemmas.Bool.{OnFalse_at, OnFalse_from}
use Rattle.std.proofs.lemmas.List.{append-nil}
use Rattle.rq_values.specs.declared.error.DecodeError.{DecodeError}
use Rattle.rq_values.specs.Fault.{is_want_of_memory}
use Rattle.rq_values.specs.Reading.{◌>>=◌, Fails, many_at}

module _ {A : Type 0} where
  -- what was read before, and what is still read
  abbrev pub with_prefix : List A → Result (List A × List ℕ) DecodeError → Result (List A × List ℕ) DecodeError
  with_prefix prefix read = read >>= λ x. Ok (prefix ++ x.0, x.1)

  regroup : (prefix : List A) (n : A) (read : Result (List A × List ℕ) DecodeError) → with_prefix prefix (read >>= λ x. Ok (n ∷ x.0, x.1)) ≡ with_prefix (prefix ++ n ∷ []) read
  regroup prefix n (Ok x) = ap (λ (ns : List A). Ok (ns, x.1)) (simp append_assoc)
  regroup prefix n (Err f) = refl

  module _ (one : List ℕ → Result (A × List ℕ) DecodeError) where
    pub goes_on : (prefix : List A) (count i : ℕ) (bytes : List ℕ) (n : A) (after : List ℕ) (total : Result (List A × List ℕ) DecodeError) → i < count → one bytes ≡ Ok (n, after)
        → with_prefix prefix (many_at one (count - i) bytes) ≡ total → with_prefix (prefix ++ n ∷ []) (many_at one (count - (i + 1)) after) ≡ total
    unfolding many_at
    goes_on prefix count i bytes n after total lt h so_far =
        let k : count - i ≡ suc (count - (i + 1)) = omega arith in
        let first : with_prefix prefix (many_at one (count - i) bytes) ≡ with_prefix (prefix ++ n ∷ []) (many_at one (count - (i + 1)) after) = rw (k, h) (regroup prefix n (many_at one (count - (i + 1)) after)) in
        sym first ∙ so_far

    fault : (f : DecodeError) (prefix : List A) (count i : ℕ) (bytes : List ℕ) (total : Result (List A × List ℕ) DecodeError) → i < count → one bytes ≡ Err f
        → with_prefix prefix (many_at one (count - i) bytes) ≡ total → total ≡ Err f
    unfolding many_at
    fault f prefix count i bytes total lt h so_far =
        let k : count - i ≡ suc (count - (i + 1)) = omega arith in
        let first : with_prefix prefix (many_at one (count - i) bytes) ≡ Err f = rw (k, h) refl in
        sym so_far ∙ first

    pub ends : (e : DecodeError) (prefix : List A) (count i : ℕ) (bytes : List ℕ) (total : Result (List A × List ℕ) DecodeError) → i < count → Fails e (one bytes)
        → with_prefix prefix (many_at one (count - i) bytes) ≡ total → Fails e total
    ends e prefix count i bytes total lt fails so_far =
        OnFalse_from (is_want_of_memory e) (total ≡ Err e) (λ known. fault e prefix count i bytes total lt (OnFalse_at known fails) so_far)

    pub is_done : (prefix : List A) (count i : ℕ) (bytes : List ℕ) (total : Result (List A × List ℕ) DecodeError) → count ≤ i → with_prefix prefix (many_at one (count - i) bytes) ≡ total → total ≡ Ok (prefix, bytes)
    unfolding many_at
    is_done prefix count i bytes total le so_far =
        let k : count - i ≡ 0 = omega arith in
        let first : with_prefix prefix (many_at one (count - i) bytes) ≡ Ok (prefix, bytes) = rw k (ap (λ (ns : List A). Ok (ns, bytes)) (append-nil prefix)) in
        sym so_far ∙ first
