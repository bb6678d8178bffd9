use Rattle.std.proofs.Common.{◌≡◌, OnOk, List, ℕ, subst}
use Rattle.std.specs.Prelude.{codes}
use Rattle.rq_print.specs.Text as spec
use Rattle.rq_print.proofs.Appending.{added_two_to_pair}
use Rattle.rq_print.proofs.statements.print_insert.Goals as goal

pub returns : goal.returns
returns c =
    subst (λ (t : List ℕ). OnOk c.print_inserted.result (c.print_inserted.new.into.items ≡ t))
    (added_two_to_pair c.args.into.now.items c.print_name_behind.new.into.items c.enclose_names.new.into.items (codes "INSERT INTO ") (spec.name_text c.args.table.now) (spec.names_text c.args.columns.now) (spec.inserted_text c.args.rows.now) c.in_ok-print_name_behind.ensures c.in_ok-enclose_names.ensures)
    c.print_inserted.ensures
