use Rattle.std.proofs.Common.{◌≡◌, pos, get_or, refl, rules, w64, FitsSigned, to_z, of_z, arith}
use Rattle.std.proofs.lemmas.Int.{to_z-of_z}
use Rattle.rq_changes.specs.Staged.{now_of}
use Rattle.rq_changes.specs.Stepping.{updated_by}
use Rattle.rq_changes.proofs.Updated.{update_fails}
use Rattle.rq_changes.proofs.updating.update_rows.Goals as goal

pub returns-in-Err-clause-goes : goal.returns-in-Err-clause-goes
returns-in-Err-clause-goes c =
    let ks = c.args.keys.now in
    let i = c.loop-key.key-index in
    let fits : FitsSigned w64 (get_or ks i (pos 0)) = search rules in
    let key : to_z w64 (of_z w64 (get_or ks i (pos 0))) ≡ get_or ks i (pos 0) = simp to_z-of_z refl in
    update_fails (updated_by c.args.others c.args.places.now c.args.exprs.now) ks i (pos 0) (to_z w64 (of_z w64 (get_or ks i (pos 0)))) (now_of c.loop-key.table) (now_of c.update_row.new.table) (now_of c.update_row.new.table) _ c.in-Err.e (omega arith) key c.in-Err.ensures.goes c.loop-key.invariant.so_far
