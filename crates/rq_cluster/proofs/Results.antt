-- What holds of a result.
use Rattle.std.proofs.Common.{Result, Ok, Err}
use Rattle.std.specs.Prelude.{OnOk, OnErr}

module _ {T E : Type 0} (r : Result T E) where
  pub on_ok_map : (A B : Type 0) → (A → B) → OnOk r A → OnOk r B
  on_ok_map A B f holds = by r holds
    where
      by : (r : Result T E) → OnOk r A → OnOk r B
      by (Ok x) a = f a
      by (Err e) a = tt

  pub on_ok_both : (A B : Type 0) → OnOk r A → OnOk r B → OnOk r (A × B)
  on_ok_both A B one two = by r one two
    where
      by : (r : Result T E) → OnOk r A → OnOk r B → OnOk r (A × B)
      by (Ok x) a b = (a, b)
      by (Err e) a b = tt

  pub on_ok_if : (P A : Type 0) → (P → OnOk r A) → OnOk r (P → A)
  on_ok_if P A f = by r f
    where
      by : (r : Result T E) → (P → OnOk r A) → OnOk r (P → A)
      by (Ok x) f = f
      by (Err e) f = tt

  pub on_err_always : (A : Type 0) → A → OnErr r A
  on_err_always A a = by r
    where
      by : (r : Result T E) → OnErr r A
      by (Ok x) = tt
      by (Err e) = a
