use Rattle.std.proofs.Common.{sym, ◌∙◌}
use Rattle.rq_sql.proofs.OneStep.{at_end_some, at_end_none}
use Rattle.rq_sql.proofs.steps.at_end.Goals as goal

pub returns-in-Some : goal.returns-in-Some
returns-in-Some c = at_end_some c.args.size c.args.state c.in-Some.stmt (sym c.in-Some.is ∙ c.in_ok-stmt.ensures)

pub returns-in-None : goal.returns-in-None
returns-in-None c = at_end_none c.args.size c.args.state (sym c.in-None.is ∙ c.in_ok-stmt.ensures)
