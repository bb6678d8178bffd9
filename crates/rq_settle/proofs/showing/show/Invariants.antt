use Rattle.std.proofs.Common.{◌≡◌, ◌≤◌, ◌-◌, ◌++◌, drop, length, true}
use Rattle.rq_values.specs.Text.{is_text}
use Rattle.rq_settle.specs.Shown.{shown, shown_from}
use Rattle.rq_settle.proofs.showing.show.Given as goal

abbrev pub invariant-loop-at : goal.invariant-loop-at
invariant-loop-at l = record {
  within : l.at ≤ length l.source;
  shows : l.into.items ++ shown_from 0 (drop l.at l.source) ≡ l.fn.into.items ++ shown l.source;
  text : is_text l.fn.into.items ≡ true → is_text l.into.items ≡ true;
}

abbrev pub decreases-loop-at : goal.decreases-loop-at
decreases-loop-at l = length l.source - l.at
