use Rattle.std.proofs.Common.{ap, sym, subst, ◌∙◌}
use Rattle.rq_rows.specs.Covering.{Finds, probe}
use Rattle.rq_rows.proofs.Finding.{there_is, finds, none_has}
use Rattle.rq_rows.proofs.table_rows.TableRows.find.Goals as goal

pub returns-clause-finds : goal.returns-clause-finds
returns-clause-finds c =
    let d = there_is c.args.self.now.columns c.args.at c.requires.within in
    let h = c.holder_at.ensures d.0 d.1 (c.requires.unique d.0 d.1) in
    subst (Finds c.args.at c.args.value.now c.args.self.now.now) (sym (c.probe.ensures ∙ ap (probe c.args.at c.args.value.now c.args.self.now.now) h.2)) (finds c.args.at h.0 c.args.self.now.now c.args.value.now h.1)

pub returns-clause-none : goal.returns-clause-none
returns-clause-none c e =
    none_has c.args.at c.args.value.now c.args.self.now.now (subst (Finds c.args.at c.args.value.now c.args.self.now.now) e (returns-clause-finds c))
