-- Two answers that meet one contract are the same.
use Rattle.std.proofs.Common.{◌≡◌, ℕ, Bool, true, false, List, [], ◌++◌, Option, Some, None, Result, Ok, Err, refl, sym, ap, ◌∙◌}
use Rattle.rq_values.specs.declared.error.DecodeError.{DecodeError}
use Rattle.rq_values.specs.declared.value.Value.{Value}
use Rattle.std.proofs.lemmas.Bool.{OnFalse_at}
use Rattle.rq_values.specs.Agreement.{Agree}
use Rattle.rq_values.specs.Exact.{IsProper}
use Rattle.rq_values.proofs.Exact.{exact_value}
use Rattle.rq_values.proofs.Local.{ok_is}
use Rattle.rq_values.specs.Reading.{Gives, value_at}
use Rattle.rq_values.specs.Spelling.{value_bytes}
use Rattle.rq_values.specs.Text.{IsMade}

pub readings : {X : Type 0} (read : Result X DecodeError) (a b : Result X DecodeError) → Gives (λ x. x) a read → Gives (λ x. x) b read → Agree a b
readings read (Ok x) (Ok y) h k p q = ap Ok (ok_is x y read h k)
readings read (Ok x) (Err w) h k p q = let f = OnFalse_at q k in absurd (cc)
readings read (Err w) (Ok y) h k p q = let f = OnFalse_at p h in absurd (cc)
readings read (Err w) (Err v) h k p q = sym (OnFalse_at p h) ∙ OnFalse_at q k

pub things : (is : Bool) (bytes : List ℕ) (a b : Option (List ℕ)) → IsMade is bytes a → IsMade is bytes b → a ≡ b
things is bytes None None h k = refl
things is bytes None (Some y) h k = absurd (cc)
things is bytes (Some x) None h k = absurd (cc)
things is bytes (Some x) (Some y) h k = cc

pub one_spelling : (limit : ℕ) (a b : Value) → IsProper limit a → IsProper limit b → value_bytes a ≡ value_bytes b → a ≡ b
one_spelling limit a b p q e =
    let read : Ok (a, []) ≡ Ok (b, []) =
    sym ((exact_value limit).reads a [] p) ∙ ap (λ (l : List ℕ). value_at limit (l ++ [])) e ∙ (exact_value limit).reads b [] q in
    ap (λ x. x.0) (ok_is (a, []) (b, []) (Ok (a, [])) refl read)
