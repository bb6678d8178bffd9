use Rattle.std.proofs.Common.{ap, ◌∙◌}
use Rattle.rq_select.specs.Planned.{viewed}
use Rattle.rq_select.proofs.Viewing.{viewed_insert}
use Rattle.rq_select.proofs.showing.Entry.put_in.Goals as goal

pub returns-in-Ok : goal.returns-in-Ok
returns-in-Ok c = ap viewed c.in-Ok.ensures.entries ∙ viewed_insert c.args.sorted.now.entries c.args.self.key c.args.self.values
