use Rattle.std.proofs.Common.{ap, ◌∙◌, Ok, arith}
use Rattle.rq_results.specs.Checks.{Check}
use Rattle.rq_select.specs.Select.{unless}
use Rattle.rq_meaning.specs.Checks.{places_of}
use Rattle.rq_changes.specs.Staged.{now_of}
use Rattle.rq_changes.specs.Stepping.{set_names}
use Rattle.rq_changes.proofs.Updated.{set_names_fail, sets_more, set_places_more}
use Rattle.rq_changes.proofs.updating.places_of_sets.Goals as goal

pub returns-in-Err-check_names : goal.returns-in-Err-check_names
returns-in-Err-check_names c =
    let l = c.loop-set in
    set_names_fail (now_of c.args.table.now) c.scope.result.now c.args.sets.now l.set-index c.set-item.result l.places c.push_name.new.places c.in-Err-check_names.e c.scope.ensures (omega arith) c.set-item.is l.invariant.places c.in-Ok.ensures c.in-Err-check_names.ensures l.invariant.so_far

pub loop-set-preserved : goal.loop-set-preserved
loop-set-preserved c =
    let l = c.loop-set in
    let t = now_of c.args.table.now in
    let ss = c.args.sets.now in
    record {
      places = set_places_more t ss l.set-index c.set-item.result l.places c.push_name.new.places (omega arith) c.set-item.is l.invariant.places c.in-Ok.ensures;
      so_far = ap (λ (k : Check). unless k (Ok (places_of t (set_names ss)))) (sets_more t c.scope.result.now ss l.set-index c.set-item.result l.places c.push_name.new.places c.scope.ensures (omega arith) c.set-item.is l.invariant.places c.in-Ok.ensures c.in-Ok-check_names.ensures) ∙ l.invariant.so_far;
    }
