use Rattle.std.proofs.Common.{◌≡◌}
use Rattle.std.specs.Prelude.{vec_len}
use Rattle.rq_rows.specs.Slots.{slots_of, live}
use Rattle.rq_rows.specs.Covering.{Covers}
use Rattle.rq_rows.proofs.sweeping.release_changed.Given as goal

abbrev pub invariant-loop-i : goal.invariant-loop-i
invariant-loop-i l = record {
  len : vec_len l.holders ≡ vec_len l.initial.holders;
  covers : Covers l.columns l.holders.items (live (slots_of l.slots.entries));
}
