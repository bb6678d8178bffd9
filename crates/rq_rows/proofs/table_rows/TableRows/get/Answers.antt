use Rattle.std.proofs.Common.{ap, ◌∙◌, w64, FitsSigned}
use Rattle.std.proofs.lemmas.Int.{to_z-of_z}
use Rattle.std.specs.FinMap as fin
use Rattle.rq_rows.proofs.table_rows.TableRows.get.Goals as goal

pub returns : goal.returns
returns c =
    let fits : FitsSigned w64 c.args.key = c.ranges.key in
    let found = simp to_z-of_z at c.row_at.ensures in
    found ∙ ap (λ s. fin.get s.now c.args.key) c.self.view_is
