-- The first error of a list, one item at a time.
use Rattle.std.proofs.Common.{◌≡◌, ℕ, ◌+◌, ◌<◌, List, map, length, drop, get_or, Some, None, ap, sym, ◌∙◌}
use Rattle.std.specs.Option.{option_or}
use Rattle.rq_eval.specs.declared.error.StmtError.{StmtError}
use Rattle.rq_results.specs.Checks.{Check, first}
use Rattle.rq_results.proofs.Lists.{rest}

module _ {A : Type 0} (f : A → Check) (xs : List A) (i : ℕ) (x : A) (lt : i < length xs) (is : x ≡ get_or xs i x) where
  from_here : first (map f (drop i xs)) ≡ option_or (f x) (first (map f (drop (i + 1) xs)))
  from_here = ap (λ ys. first (map f ys)) (rest xs i x lt is)

  pub first_none : None ≡ f x → first (map f (drop (i + 1) xs)) ≡ first (map f (drop i xs))
  first_none h = ap (λ (c : Check). option_or c (first (map f (drop (i + 1) xs)))) h ∙ sym from_here

  pub first_some : (e : StmtError) → Some e ≡ f x → Some e ≡ first (map f (drop i xs))
  first_some e h = ap (λ (c : Check). option_or c (first (map f (drop (i + 1) xs)))) h ∙ sym from_here
