-- Running: what a function that runs a part of a statement gives, where memory may run out.
use Rattle.std.specs.Prelude.{◌≡◌, Result, Ok, Err}
use Rattle.rq_values.specs.declared.memory.NoMemory as values
use Rattle.rq_statement.specs.declared.res.Res.{Res}
use Rattle.rq_meaning.specs.Database.{Database}
use Rattle.rq_meaning.specs.Statements.{Effect}
use Rattle.rq_meaning.specs.Lists.{settled}
use Rattle.rq_eval.specs.declared.error.EvalError.{EvalError}
use Rattle.rq_eval.specs.declared.error.EvalError.TheVariants.{Says, NoMemory}
use Rattle.rq_eval.specs.Outcome.{Outcome}

-- a step that changes something to this, and answers nothing
abbrev pub Goes : {A : Type 0} → Outcome A → A → Result (Unit {0}) EvalError → Type 0
Goes o new (Ok x) = o ≡ Ok new
Goes o new (Err (Says e)) = o ≡ Err e
Goes o new (Err NoMemory) = Unit {0}

-- a step that changes something to this, and answers
abbrev pub Gives : {A X : Type 0} → Outcome (X × A) → A → Result X EvalError → Type 0
Gives o new (Ok x) = o ≡ Ok (x, new)
Gives o new (Err (Says e)) = o ≡ Err e
Gives o new (Err NoMemory) = Unit {0}

-- a statement, which changes nothing where it fails; its error is the answer
abbrev pub Settles : Effect → Database → Database → Result Res values.NoMemory → Type 0
Settles o old new (Ok r) = (r ≡ (settled old o).1) × (new ≡ (settled old o).0)
Settles o old new (Err m) = Unit {0}
