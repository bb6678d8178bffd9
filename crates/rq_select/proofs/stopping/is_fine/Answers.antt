use Rattle.std.proofs.Common.{sym, subst}
use Rattle.rq_select.specs.Keys.{Fine}
use Rattle.rq_select.specs.Planned.{passes}
use Rattle.rq_select.proofs.Tests.{fine_of}
use Rattle.rq_select.proofs.stopping.is_fine.Goals as goal

pub returns-in-Some : goal.returns-in-Some
returns-in-Some c = λ h. subst (λ f. Fine (passes f)) (sym c.in-Some.is) (fine_of c.in-Some.expr (c.is_test.ensures h))
