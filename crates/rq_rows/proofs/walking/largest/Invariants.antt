use Rattle.std.proofs.Common.{◌≡◌}
use Rattle.rq_rows.specs.Rows.{largest, walk}
use Rattle.rq_rows.specs.Slots.{shown, slots_of, live}
use Rattle.rq_rows.proofs.walking.largest.Given as goal

abbrev pub invariant-loop-key : goal.invariant-loop-key
invariant-loop-key l = record {
  can : (goal.iterator-loop-key).can_next l.key-iterator;
  finite : (goal.iterator-loop-key).is_finite l.key-iterator;
  rest : largest (shown l.key-iterator.iter) ≡ largest (walk (live (slots_of l.slots.entries)));
}
