-- One answer.
use Rattle.std.proofs.Common.{◌≡◌, Result, Ok, Err}
use Rattle.rq_statement.specs.declared.res.Res.{Res}
use Rattle.rq_eval.specs.declared.error.EvalError.{EvalError}
use Rattle.rq_eval.specs.declared.error.EvalError.TheVariants as e
use Rattle.rq_eval.specs.Outcome.{Outcome, Answers, HasMemory}

pub one_answer : (o : Outcome Res) (x y : Result Res EvalError) → Answers o x → Answers o y → HasMemory x → HasMemory y → x ≡ y
one_answer o (Ok x) (Ok y) h k p q = cc
one_answer o (Ok x) (Err (e.Says s)) h k p q = absurd (cc)
one_answer o (Ok x) (Err e.NoMemory) h k p q = absurd q
one_answer o (Err (e.Says s)) (Ok y) h k p q = absurd (cc)
one_answer o (Err (e.Says s)) (Err (e.Says t)) h k p q = cc
one_answer o (Err (e.Says s)) (Err e.NoMemory) h k p q = absurd q
one_answer o (Err e.NoMemory) y h k p q = absurd p
