use Rattle.std.proofs.Common.{◌≡◌, ◌<◌, List, length, true, false, subst}
use Rattle.rq_grammar.specs.declared.stmt.ColumnDef.{ColumnDef}
use Rattle.rq_changes.specs.Staged.{now_of}
use Rattle.rq_changes.proofs.Lookups.{shows_behind}
use Rattle.rq_changes.proofs.table.TableTableView.find.Goals as goal

pub row_by_rowid-requires : goal.row_by_rowid-requires
row_by_rowid-requires c = shows_behind (now_of c.args.self.now) c.args.place c.know_valid.ensures.counted (subst (λ (cs : List ColumnDef). c.args.place < length cs → false ≡ true) c.columns.ensures c.in-None.ensures.lookup.2)
