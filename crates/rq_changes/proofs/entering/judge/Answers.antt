use Rattle.std.proofs.Common.{sym, ◌∙◌, rules, w64, FitsSigned}
use Rattle.std.proofs.lemmas.Int.{to_z-of_z}
use Rattle.rq_changes.specs.Staged.{now_of}
use Rattle.rq_changes.proofs.Sums.{size_with}
use Rattle.rq_changes.proofs.Numbered.{is_placed, is_free, is_absent, has_key, length_all_stored, judged_ok, judged_full, number_fails}
use Rattle.rq_changes.proofs.entering.judge.Goals as goal

pub returns-in-Some-clause-judged : goal.returns-in-Some-clause-judged
returns-in-Some-clause-judged c =
    let fits : FitsSigned w64 c.in-Ok-number.key = search rules in
    let t = now_of c.args.table.now in
    let xs = c.store_all.new.row.items in
    let vs = c.number.new.row.items in
    let stored = rw (c.name.ensures, c.all_columns.ensures) at c.in-Ok.ensures in
    let size = rw c.as_slice.ensures.value at c.in-Some.ensures in
    let absent = is_absent t xs _ vs (is_placed t c.args.had xs _ vs c.in-Ok-number.ensures) in
    simp to_z-of_z (judged_ok c.args.others t c.args.had c.args.row.now.items xs c.in-Ok-number.key vs stored c.in-Ok-number.ensures size.0, size.1 ∙ sym (size_with t c.in-Ok-number.key vs absent))

pub returns-in-Some-clause-free : goal.returns-in-Some-clause-free
returns-in-Some-clause-free c =
    let t = now_of c.args.table.now in
    let xs = c.store_all.new.row.items in
    let vs = c.number.new.row.items in
    is_free t xs _ vs (is_placed t c.args.had xs _ vs c.in-Ok-number.ensures)

pub returns-in-Some-clause-key : goal.returns-in-Some-clause-key
returns-in-Some-clause-key c =
    let fits : FitsSigned w64 c.in-Ok-number.key = search rules in
    let t = now_of c.args.table.now in
    let xs = c.store_all.new.row.items in
    let vs = c.number.new.row.items in
    let stored = rw (c.name.ensures, c.all_columns.ensures) at c.in-Ok.ensures in
    simp to_z-of_z (has_key t xs c.in-Ok-number.key vs (length_all_stored t.name _ c.args.row.now.items xs c.requires.count stored) (is_placed t c.args.had xs _ vs c.in-Ok-number.ensures))

pub returns-in-None-clause-judged : goal.returns-in-None-clause-judged
returns-in-None-clause-judged c =
    let t = now_of c.args.table.now in
    let xs = c.store_all.new.row.items in
    let vs = c.number.new.row.items in
    let stored = rw (c.name.ensures, c.all_columns.ensures) at c.in-Ok.ensures in
    judged_full c.args.others t c.args.had c.args.row.now.items xs _ vs stored c.in-Ok-number.ensures (rw c.as_slice.ensures.value at c.in-None.ensures)

pub returns-in-Err-number-clause-judged : goal.returns-in-Err-number-clause-judged
returns-in-Err-number-clause-judged c =
    let t = now_of c.args.table.now in
    let xs = c.store_all.new.row.items in
    let ws = c.number.new.row.items in
    let stored = rw (c.name.ensures, c.all_columns.ensures) at c.in-Ok.ensures in
    number_fails c.args.others t c.args.had c.args.row.now.items xs ws ws c.in-Err-number.e stored c.in-Err-number.ensures
