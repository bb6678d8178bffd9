-- What the code's types stand for.
use Rattle.std.specs.Prelude.{◌≡◌, Some, None, Result, Ok, Err}
use Rattle.rq_grammar.specs.declared.expr.Expr.{Expr}
use Rattle.rq_eval.specs.declared.error.StmtError.{StmtError}
use Rattle.rq_eval.specs.declared.error.StmtError.TheVariants as error
use Rattle.rq_eval.specs.declared.error.EvalError.{EvalError}
use Rattle.rq_eval.specs.declared.error.EvalError.TheVariants.{Says, NoMemory}
use Rattle.rq_results.specs.declared.results.Shown as code
use Rattle.rq_results.specs.declared.results.Shown.TheVariants as s
use Rattle.rq_results.specs.declared.checking.Defect.{Defect}
use Rattle.rq_results.specs.declared.checking.Defect.TheVariants as d
use Rattle.rq_results.specs.declared.checking.Look.{Look}
use Rattle.rq_results.specs.declared.checking.Look.TheVariants as look
use Rattle.rq_results.specs.Results.{Shown, column, expression}
use Rattle.rq_results.specs.Checks.{Check, names_in, calls_in}

abbrev pub shown : code.Shown → Shown
shown (s.Column i) = column i
shown (s.Expression x a) = expression x.now a.now

abbrev pub defect_error : Defect → StmtError
defect_error (d.NoColumn n) = error.NoColumn n.now
defect_error (d.NoQualifiedColumn t n) = error.NoQualifiedColumn t.now n.now
defect_error (d.NoFunction n) = error.NoFunction n.now
defect_error (d.WrongArguments n) = error.WrongArguments n.now
defect_error d.Misuse = error.MisuseOfAggregate

abbrev pub look_for : Look → Expr → Check
look_for (look.Names s) x = names_in s.now x
look_for (look.Calls a) x = calls_in a x

-- the error, unless memory runs out
abbrev pub IsSaid : StmtError → EvalError → Type 0
IsSaid e (Says s) = s ≡ e
IsSaid e NoMemory = Unit {0}

-- what a check answers, unless memory runs out
abbrev pub Clears : Check → Result (Unit {0}) EvalError → Type 0
Clears c (Ok x) = c ≡ None
Clears c (Err (Says e)) = c ≡ Some e
Clears c (Err NoMemory) = Unit {0}
