use Rattle.std.proofs.Common.{◌≡◌, OnOk, List, ℕ, subst}
use Rattle.std.specs.Prelude.{codes}
use Rattle.rq_print.specs.Text as spec
use Rattle.rq_print.proofs.Appending.{added_three}
use Rattle.rq_print.proofs.statements.print_rules.Goals as goal

pub returns : goal.returns
returns c =
    let d = c.args.column.now in
    subst (λ (t : List ℕ). OnOk c.print_flag-3.result (c.print_flag-3.new.into.items ≡ t))
    (added_three c.args.into.now.items c.print_flag.new.into.items c.print_flag-2.new.into.items (spec.flag_text d.primary (codes " PRIMARY KEY")) (spec.flag_text d.not_null (codes " NOT NULL")) (spec.flag_text d.unique (codes " UNIQUE")) c.in_ok-print_flag.ensures c.in_ok-print_flag-2.ensures)
    c.print_flag-3.ensures
