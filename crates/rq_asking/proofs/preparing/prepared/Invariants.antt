use Rattle.std.proofs.Common.{◌≡◌, drop}
use Rattle.rq_asking.proofs.Carrying.{Carries}
use Rattle.rq_asking.proofs.preparing.prepared.Given as goal

abbrev pub invariant-loop-statement : goal.invariant-loop-statement
invariant-loop-statement g l =
    Carries g.R.Draws.told l.moment l.statements (drop l.statement-index l.statements) (g.R.Draws.words l.fn.draws) (g.R.Draws.words l.draws) l.items
    × (g.R.Draws.faults l.draws ≡ g.R.Draws.faults l.fn.draws)
