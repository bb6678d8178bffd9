use Rattle.std.specs.Option.{option_copied, option_map}
use Rattle.rq_changes.specs.Staged.{now_of}
use Rattle.rq_changes.proofs.Selected.{source_fails, listing_fails, counting_fails, count_fails, rows_fail, selected_are, selected_fit}
use Rattle.rq_changes.proofs.inserting.results_to_insert.Goals as goal

pub returns-in-Err-clause-prepares : goal.returns-in-Err-clause-prepares
returns-in-Err-clause-prepares c =
    λ others. source_fails others (option_copied c.args.names) c.args.stmt.now (now_of c.args.table.now) (option_map now_of (option_copied c.args.source)) c.in-Err.e c.in-Err.ensures

pub returns-in-Err-optional_places-clause-prepares : goal.returns-in-Err-optional_places-clause-prepares
returns-in-Err-optional_places-clause-prepares c =
    λ others. listing_fails others (option_copied c.args.names) c.args.stmt.now (now_of c.args.table.now) (option_map now_of (option_copied c.args.source)) c.in-Err-optional_places.e c.in-Ok.ensures c.in-Err-optional_places.ensures

pub returns-in-Err-result_count-clause-prepares : goal.returns-in-Err-result_count-clause-prepares
returns-in-Err-result_count-clause-prepares c =
    λ others. counting_fails others (option_copied c.args.names) c.args.stmt.now (now_of c.args.table.now) (option_map now_of (option_copied c.args.source)) c.in-Ok-optional_places.places c.in-Err-result_count.e c.in-Ok.ensures c.in-Ok-optional_places.ensures c.in-Err-result_count.ensures

pub returns-in-Err-check_count-clause-prepares : goal.returns-in-Err-check_count-clause-prepares
returns-in-Err-check_count-clause-prepares c =
    λ others. count_fails others (option_copied c.args.names) c.args.stmt.now (now_of c.args.table.now) (option_map now_of (option_copied c.args.source)) c.in-Ok-optional_places.places c.in-Ok-result_count.count c.in-Err-check_count.e c.in-Ok.ensures c.in-Ok-optional_places.ensures c.in-Ok-result_count.ensures c.in-Err-check_count.ensures

pub returns-in-Ok-result_rows-clause-prepares : goal.returns-in-Ok-result_rows-clause-prepares
returns-in-Ok-result_rows-clause-prepares c =
    λ others. selected_are others (option_copied c.args.names) c.args.stmt.now (now_of c.args.table.now) (option_map now_of (option_copied c.args.source)) c.in-Ok-optional_places.places c.in-Ok-result_count.count c.in-Ok-result_rows.rows c.in-Ok.ensures c.in-Ok-optional_places.ensures c.in-Ok-result_count.ensures c.in-Ok-check_count.ensures c.in-Ok-result_rows.ensures

pub returns-in-Ok-result_rows-clause-fits : goal.returns-in-Ok-result_rows-clause-fits
returns-in-Ok-result_rows-clause-fits c =
    selected_fit (option_copied c.args.names) c.args.stmt.now (now_of c.args.table.now) (option_map now_of (option_copied c.args.source)) c.in-Ok-optional_places.places c.in-Ok-result_count.count c.in-Ok-result_rows.rows c.in-Ok.ensures c.in-Ok-optional_places.ensures c.in-Ok-result_count.ensures c.in-Ok-check_count.ensures c.in-Ok-result_rows.ensures

pub returns-in-Err-result_rows-clause-prepares : goal.returns-in-Err-result_rows-clause-prepares
returns-in-Err-result_rows-clause-prepares c =
    λ others. rows_fail others (option_copied c.args.names) c.args.stmt.now (now_of c.args.table.now) (option_map now_of (option_copied c.args.source)) c.in-Ok-optional_places.places c.in-Ok-result_count.count c.in-Err-result_rows.e c.in-Ok.ensures c.in-Ok-optional_places.ensures c.in-Ok-result_count.ensures c.in-Ok-check_count.ensures c.in-Err-result_rows.ensures
