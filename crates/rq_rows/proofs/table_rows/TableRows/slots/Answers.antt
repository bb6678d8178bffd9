use Rattle.std.proofs.Common.{ap, sym, ◌∙◌}
use Rattle.std.specs.FinMap as fin
use Rattle.rq_rows.proofs.Shown.{walk_live}
use Rattle.rq_rows.proofs.table_rows.TableRows.slots.Goals as goal

pub returns : goal.returns
returns c = sym (walk_live c.self.inside.slots.entries c.iter-walk.ensures.ordered) ∙ ap (λ s. fin.entries s.now) c.self.view_is
