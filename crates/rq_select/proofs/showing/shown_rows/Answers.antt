use Rattle.rq_select.proofs.showing.shown_rows.Goals as goal

pub returns-then-plan : goal.returns-then-plan
returns-then-plan c = rw c.if-plan.true c.shown.ensures

pub returns-else-plan : goal.returns-else-plan
returns-else-plan c = rw c.if-plan.false c.shown-else-plan.ensures
