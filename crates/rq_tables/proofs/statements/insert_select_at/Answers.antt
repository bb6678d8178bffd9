use Rattle.std.proofs.Common.{◌≡◌, subst, sym, ap, length, ◌<◌, arith, ◌∙◌}
use Rattle.std.specs.Option.{option_copied}
use Rattle.rq_changes.specs.Staged.{StagedTable, now_of}
use Rattle.rq_changes.specs.Making.{IsWithin, ResultsFit, Makes, results_inserted}
use Rattle.rq_tables.specs.declared.entry.Entry.{Entry}
use Rattle.rq_tables.specs.Entries.{now_db}
use Rattle.rq_meaning.specs.Statements as spec
use Rattle.rq_tables.proofs.Placed.{changed, leaves_by, fails_by, within_read, read_at, selected_makes, selected_fails}
use Rattle.rq_tables.proofs.statements.insert_select_at.Goals as goal

pub index_mut-requires : goal.index_mut-requires
index_mut-requires c = omega (arith, subst (λ es. c.args.place < length es) (sym c.tables.view_is) c.requires.0, c.tables.inside.entries.ok)

pub insert_results-requires-clause-within : goal.insert_results-requires-clause-within
insert_results-requires-clause-within c = within_read c.tables.inside.entries.items c.args.tables.now c.args.place c.index_mut.result.now c.others-others.result c.tables.view_is c.index_mut.ensures.value c.requires c.others-others.ensures.within

pub insert_results-requires-clause-fits : goal.insert_results-requires-clause-fits
insert_results-requires-clause-fits c =
    let same : c.table_at.result.now ≡ c.index_mut.result.now.table = c.table_at.ensures.here c.index_mut.result.now ∙ sym (ap (λ (x : Entry). x.table) (read_at c.tables.inside.entries.items c.args.tables.now c.args.place c.index_mut.result.now c.index_mut.result.now c.tables.view_is c.index_mut.ensures.value c.requires)) in
    subst (λ (t : StagedTable). ResultsFit t.rows.columns c.in-Ok.results) same c.in-Ok.ensures.fits

pub invariant_of-tables : goal.invariant_of-tables
invariant_of-tables c = (changed c.tables.inside.entries.items c.args.tables.now c.args.place c.index_mut.result.now c.insert_results.new.table c.tables.view_is c.index_mut.ensures.value c.requires c.insert_results.ensures.rest c.tables.invariant (subst (λ k. IsWithin k (now_of c.insert_results.new.table)) c.others-others.ensures.size c.insert_results.ensures.within)).sound

pub returns-in-Ok-clause-leaves : goal.returns-in-Ok-clause-leaves
returns-in-Ok-clause-leaves c = λ n p.
    let d = changed c.tables.inside.entries.items c.args.tables.now c.args.place c.index_mut.result.now c.insert_results.new.table c.tables.view_is c.index_mut.ensures.value c.requires c.insert_results.ensures.rest c.tables.invariant (subst (λ k. IsWithin k (now_of c.insert_results.new.table)) c.others-others.ensures.size c.insert_results.ensures.within) in
    let db = now_db c.args.tables.now in
    let same : c.table_at.result.now ≡ c.index_mut.result.now.table = c.table_at.ensures.here c.index_mut.result.now ∙ sym (ap (λ (x : Entry). x.table) (read_at c.tables.inside.entries.items c.args.tables.now c.args.place c.index_mut.result.now c.index_mut.result.now c.tables.view_is c.index_mut.ensures.value c.requires)) in
    let made = subst (λ (t : StagedTable). Makes (results_inserted c.others-others.result (now_of t) c.in-Ok.results) (now_of c.insert_results.new.table) c.insert_results.result) (sym same) c.insert_results.ensures.makes in
    leaves_by db _ n (now_of c.table_at.result.now) (now_of c.insert_results.new.table) (spec.select_inserted db (option_copied c.args.names) c.args.stmt.now) c.others-others.result c.insert_results.result (c.table_at.ensures.table n p) (c.others-others.ensures.others n p) (d.now n p)
    (selected_makes db (option_copied c.args.names) c.args.stmt.now c.others-others.result (now_of c.table_at.result.now) (now_of c.insert_results.new.table) _ c.in-Ok.results c.insert_results.result c.from_table.ensures (c.in-Ok.ensures.prepares c.others-others.result) made)

pub returns-in-Ok-clause-rest : goal.returns-in-Ok-clause-rest
returns-in-Ok-clause-rest c = (changed c.tables.inside.entries.items c.args.tables.now c.args.place c.index_mut.result.now c.insert_results.new.table c.tables.view_is c.index_mut.ensures.value c.requires c.insert_results.ensures.rest c.tables.invariant (subst (λ k. IsWithin k (now_of c.insert_results.new.table)) c.others-others.ensures.size c.insert_results.ensures.within)).rest

pub returns-in-Err-clause-leaves : goal.returns-in-Err-clause-leaves
returns-in-Err-clause-leaves c = λ n p.
    let db = now_db c.args.tables.now in
    fails_by db db n (now_of c.table_at.result.now) (spec.select_inserted db (option_copied c.args.names) c.args.stmt.now) c.others-others.result c.in-Err.e (c.table_at.ensures.table n p) (c.others-others.ensures.others n p)
    (selected_fails db (option_copied c.args.names) c.args.stmt.now c.others-others.result (now_of c.table_at.result.now) _ c.in-Err.e c.from_table.ensures (c.in-Err.ensures.prepares c.others-others.result))
