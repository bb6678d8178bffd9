use Rattle.std.proofs.Common.{◌∙◌, arith}
use Rattle.rq_eval.specs.Outcome.{all_of}
use Rattle.rq_meaning.specs.Rows.{all_stored}
use Rattle.rq_changes.proofs.Stored.{next_fails, next_goes, stored_length}
use Rattle.rq_changes.proofs.storing.store_all.Goals as goal

pub returns-in-Err : goal.returns-in-Err
returns-in-Err c =
    let t = c.args.table.now in
    let cs = c.args.columns.now in
    next_fails t cs c.index-columns-i.result c.loop-i.i c.loop-i.row.items c.store_one.new.row.items (all_of (all_stored t cs c.args.row.now.items)) c.in-Err.e (omega arith) c.loop-i.invariant.count c.index-columns-i.is c.in-Err.ensures c.loop-i.invariant.so_far

pub loop-i-preserved : goal.loop-i-preserved
loop-i-preserved c =
    let t = c.args.table.now in
    let cs = c.args.columns.now in
    let column = c.index-columns-i.result in
    record {
      count = stored_length t column c.loop-i.i c.loop-i.row.items c.store_one.new.row.items c.in-Ok.ensures ∙ c.loop-i.invariant.count;
      so_far = next_goes t cs column c.loop-i.i c.loop-i.row.items c.store_one.new.row.items (all_of (all_stored t cs c.args.row.now.items)) (omega arith) c.loop-i.invariant.count c.index-columns-i.is c.in-Ok.ensures c.loop-i.invariant.so_far;
    }
