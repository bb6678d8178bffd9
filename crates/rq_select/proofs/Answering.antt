-- What one step answers, and then the whole.
use Rattle.std.proofs.Common.{◌≡◌, List, Result, Ok, Err, Option, Some, None, refl, ap}
use Rattle.std.specs.Option.{option_or}
use Rattle.rq_eval.specs.declared.error.StmtError.{StmtError}
use Rattle.rq_eval.specs.declared.error.EvalError.{EvalError}
use Rattle.rq_eval.specs.declared.error.EvalError.TheVariants.{Says, NoMemory}
use Rattle.rq_eval.specs.Outcome.{Outcome, Answers, then_with}
use Rattle.rq_results.specs.Checks.{Check}
use Rattle.rq_select.specs.Select.{unless}
use Rattle.rq_select.specs.Sorting.{Entry}
use Rattle.rq_results.specs.Viewed.{Clears}
use Rattle.rq_select.specs.Planned.{IsEntry}

pub err_then : {A B : Type 0} (o : Outcome A) (f : A → Outcome B) (e : EvalError) → Answers o (Err e) → Answers (then_with o f) (Err e)
err_then o f (Says s) h = ap (λ p. then_with p f) h
err_then o f NoMemory h = tt

pub err_entry : {A : Type 0} (o : Outcome A) (f : A → Outcome Entry) (e : EvalError) → Answers o (Err e) → IsEntry (then_with o f) (Err e)
err_entry o f (Says s) h = ap (λ p. then_with p f) h
err_entry o f NoMemory h = tt

pub check_err : {A : Type 0} (n k : Check) (o : Outcome A) (e : EvalError) → Clears (option_or n k) (Err e) → Answers (unless n (unless k o)) (Err e)
check_err (Some x) k o (Says s) h = cc
check_err (Some x) k o NoMemory h = tt
check_err None (Some x) o (Says s) h = cc
check_err None (Some x) o NoMemory h = tt
check_err None None o (Says s) h = absurd (cc)
check_err None None o NoMemory h = tt

pub check_ok : {A : Type 0} (n k : Check) (o : Outcome A) (r : Result A EvalError) → option_or n k ≡ None → Answers o r → Answers (unless n (unless k o)) r
check_ok (Some x) k o r h a = absurd (cc)
check_ok None (Some x) o r h a = absurd (cc)
check_ok None None o r h a = a
