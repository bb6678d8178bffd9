-- What an operator gives: a thing, or what is wrong with its values; and what a function answers.
use Rattle.std.specs.Prelude.{◌≡◌, ℕ, List, Result, Ok, Err}
use Rattle.rq_values.specs.declared.memory.NoMemory.{NoMemory}
use Rattle.rq_values.specs.declared.value.Value.{Value}
use Rattle.rq_values.specs.declared.value.Value.TheVariants as v
use Rattle.rq_operators.specs.declared.error.ValueError.{ValueError}
use Rattle.rq_operators.specs.declared.error.OperatorError.{OperatorError}
use Rattle.rq_operators.specs.declared.error.OperatorError.TheVariants as e

abbrev pub Outcome : Type 0 → Type 0
Outcome A = Result A ValueError

-- a function's answer is this, unless memory runs out
abbrev pub Answers : {A : Type 0} → Outcome A → Result A OperatorError → Type 0
Answers o (Ok x) = o ≡ Ok x
Answers o (Err (e.Says s)) = o ≡ Err s
Answers o (Err e.NoMemory) = Unit {0}

-- the first, then the second; the first error is the error
abbrev pub then_with : {A B : Type 0} → Outcome A → (A → Outcome B) → Outcome B
then_with (Err e) next = Err e
then_with (Ok x) next = next x

-- the text that was made, unless memory ran out
abbrev pub IsMadeText : Result (List ℕ) NoMemory → Result Value OperatorError → Type 0
IsMadeText (Ok t) (Ok y) = v.Text t ≡ y
IsMadeText (Ok t) (Err s) = ⊥
IsMadeText (Err n) (Ok y) = ⊥
IsMadeText (Err n) (Err s) = s ≡ e.NoMemory
