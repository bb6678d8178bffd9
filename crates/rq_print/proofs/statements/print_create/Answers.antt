use Rattle.std.proofs.Common.{◌≡◌, OnOk, List, ℕ, subst}
use Rattle.std.specs.Prelude.{codes}
use Rattle.rq_print.specs.Text as spec
use Rattle.rq_print.proofs.Appending.{added_four}
use Rattle.rq_print.proofs.statements.print_create.Goals as goal

pub returns : goal.returns
returns c =
    subst (λ (t : List ℕ). OnOk c.enclose_columns.result (c.enclose_columns.new.into.items ≡ t))
    (added_four c.args.into.now.items c.print_bytes.new.into.items c.print_flag.new.into.items c.print_name.new.into.items (codes "CREATE TABLE ") (spec.flag_text c.args.if_not_exists (codes "IF NOT EXISTS ")) (spec.name_text c.args.table.now) (spec.columns_text c.args.columns.now) c.in_ok-print_bytes.ensures c.in_ok-print_flag.ensures c.in_ok-print_name.ensures)
    c.enclose_columns.ensures
