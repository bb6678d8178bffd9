use Rattle.std.proofs.Common.{◌≡◌, sym, subst, length, Some, true, ◌<◌}
use Rattle.std.specs.Prelude.{slice_get}
use Rattle.rq_grammar.specs.declared.stmt.ColumnDef.{ColumnDef}
use Rattle.rq_rows.specs.Rows.{is_unique}
use Rattle.rq_rows.specs.Staged.{Staged}
use Rattle.rq_rows.proofs.Finding.{Holds, by_map}
use Rattle.rq_rows.proofs.table_rows.TableRows.holder_at.Goals as goal

pub returns : goal.returns
returns c =
    subst (λ (s : Staged). (d : ColumnDef) → slice_get s.columns c.args.at ≡ Some d → is_unique d ≡ true → Holds c.args.at s.now c.args.value.now c.get.result) c.self.view_is
    (by_map c.self.inside.columns c.self.inside.holders.items _ c.args.at c.index.result.now c.args.value.now c.get.result c.self.invariant.1.covers c.self.invariant.1.matched
    (subst (λ (s : Staged). c.args.at < length s.columns) (sym c.self.view_is) c.requires.within)
    c.index.ensures c.get.ensures)
