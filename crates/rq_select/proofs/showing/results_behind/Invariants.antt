use Rattle.std.proofs.Common.{◌≡◌, min, length, drop}
use Rattle.rq_select.specs.Planned as planned
use Rattle.rq_select.specs.Sorting as sorting
use Rattle.rq_select.proofs.showing.results_behind.Given as goal

abbrev pub invariant-loop-key : goal.invariant-loop-key
invariant-loop-key l = record {
  rows : l.rows.items ≡ drop l.offset (sorting.results_of (planned.viewed l.yielded));
  skipped : l.skipped ≡ min (length l.yielded) l.offset;
}
