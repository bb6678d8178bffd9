-- What an expression gives: a thing, or the error that the statement has; and what a function answers.
use Rattle.std.specs.Prelude.{◌≡◌, List, [], ◌∷◌, ◌++◌, Result, Ok, Err}
use Rattle.rq_operators.specs.declared.error.ValueError.{ValueError}
use Rattle.rq_eval.specs.declared.error.StmtError.{StmtError}
use Rattle.rq_eval.specs.declared.error.StmtError.TheVariants as error
use Rattle.rq_eval.specs.declared.error.EvalError.{EvalError}
use Rattle.rq_eval.specs.declared.error.EvalError.TheVariants as e

abbrev pub Outcome : Type 0 → Type 0
Outcome A = Result A StmtError

-- a function's answer is this, unless memory runs out
abbrev pub Answers : {A : Type 0} → Outcome A → Result A EvalError → Type 0
Answers o (Ok x) = o ≡ Ok x
Answers o (Err (e.Says s)) = o ≡ Err s
Answers o (Err e.NoMemory) = Unit {0}

-- memory was there
abbrev pub HasMemory : {A : Type 0} → Result A EvalError → Type 0
HasMemory (Ok x) = Unit {0}
HasMemory (Err (e.Says s)) = Unit {0}
HasMemory (Err e.NoMemory) = ⊥

-- what an operator gives, as what a statement says
abbrev pub stated : {A : Type 0} → Result A ValueError → Outcome A
stated (Ok x) = Ok x
stated (Err e) = Err (error.Value e)

-- the first, then the second; the first error is the error
abbrev pub then_with : {A B : Type 0} → Outcome A → (A → Outcome B) → Outcome B
then_with (Err e) next = Err e
then_with (Ok x) next = next x

-- behind the values that are there, those of the list, from left to right
abbrev pub all_behind : {A : Type 0} → List A → List (Outcome A) → Outcome (List A)
all_behind vs [] = Ok vs
all_behind vs (x ∷ xs) = then_with x (λ v. all_behind (vs ++ v ∷ []) xs)

abbrev pub all_of : {A : Type 0} → List (Outcome A) → Outcome (List A)
all_of xs = all_behind [] xs
