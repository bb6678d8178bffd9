use Rattle.std.proofs.Common.{◌≡◌, ℤ, List, Some, None, false, subst}
use Rattle.std.specs.FinMap as fin
use Rattle.rq_values.specs.declared.value.Value.{Value}
use Rattle.rq_rows.specs.Rows.{has}
use Rattle.rq_changes.specs.Staged.{StagedTable}
use Rattle.rq_changes.proofs.table.Table.key_with.Goals as goal

pub returns-clause-none : goal.returns-clause-none
returns-clause-none c = subst (λ (s : StagedTable). c.find.result ≡ None → (j : ℤ) (r : List Value) → fin.get s.rows.now j ≡ Some r → has c.args.place c.args.value.now (j, r) ≡ false) c.self.view_is c.find.ensures.none
