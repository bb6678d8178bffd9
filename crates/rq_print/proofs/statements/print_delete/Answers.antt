use Rattle.std.proofs.Common.{◌≡◌, OnOk, List, ℕ, subst}
use Rattle.std.specs.Prelude.{codes}
use Rattle.rq_print.specs.Text as spec
use Rattle.rq_print.proofs.Appending.{added_to_pair}
use Rattle.rq_print.proofs.statements.print_delete.Goals as goal

pub returns : goal.returns
returns c =
    subst (λ (t : List ℕ). OnOk c.print_clause.result (c.print_clause.new.into.items ≡ t))
    (added_to_pair c.args.into.now.items c.print_name_behind.new.into.items (codes "DELETE FROM ") (spec.name_text c.args.table.now) (spec.clause_text (codes " WHERE ") c.args.filter.now) c.in_ok-print_name_behind.ensures)
    c.print_clause.ensures
