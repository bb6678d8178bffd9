use Rattle.std.proofs.Common.{sym, ap, ◌∙◌, map, take}
use Rattle.rq_results.specs.Table.{as_row, rows_of}
use Rattle.rq_select.specs.Select.{at_most}
use Rattle.rq_select_tests.specs.Meaning.{table}
use Rattle.rq_select_tests.proofs.Entries.{entries_are}
use Rattle.rq_select_tests.proofs.Walking.{all_rows, if_rows}
use Rattle.rq_select_tests.proofs.mem_table.MemTableTableView.rows.Goals as goal

pub returns-in-Some : goal.returns-in-Some
returns-in-Some c =
    let t = c.args.self.now in
    if_rows c.first_rows.result _ _
    (sym (ap (λ o. at_most o (rows_of (table t))) c.in-Some.is ∙ ap (λ es. take c.in-Some.most (map as_row es)) (entries_are t.rows.entries c.len-count.ensures.ordered)))
    c.first_rows.ensures

pub returns-in-None : goal.returns-in-None
returns-in-None c =
    let t = c.args.self.now in
    if_rows c.first_rows-in-None.result _ _
    (all_rows c.len-count.result t.rows.entries c.len-count.ensures.len ∙ sym (ap (λ o. at_most o (rows_of (table t))) c.in-None.is ∙ ap (map as_row) (entries_are t.rows.entries c.len-count.ensures.ordered)))
    c.first_rows-in-None.ensures
