use Rattle.std.proofs.Common.{◌≡◌, map, drop}
use Rattle.std.specs.Option.{option_map}
use Rattle.rq_results.specs.Checks as spec
use Rattle.rq_results.specs.Viewed.{shown, defect_error, look_for}
use Rattle.rq_results.proofs.checking.in_results.Given as goal

abbrev pub invariant-loop-item : goal.invariant-loop-item
invariant-loop-item l =
    spec.first (map (spec.shown_check (option_map defect_error l.of_all) (look_for l.look)) (map shown (drop l.item-index l.items)))
    ≡ spec.first (map (spec.shown_check (option_map defect_error l.of_all) (look_for l.look)) (map shown l.items))
