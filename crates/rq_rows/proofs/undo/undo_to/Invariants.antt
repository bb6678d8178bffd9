use Rattle.std.proofs.Common.{◌≡◌, ◌≤◌, drop}
use Rattle.std.specs.Prelude.{vec_len}
use Rattle.rq_rows.specs.Slots.{slots_of, undone}
use Rattle.rq_rows.specs.Staged.{Sound}
use Rattle.rq_rows.proofs.undo.undo_to.Given as goal

abbrev pub invariant-loop-log : goal.invariant-loop-log
invariant-loop-log l = record {
  mark : l.mark ≤ vec_len l.log;
  len : vec_len l.holders ≡ vec_len l.initial.holders;
  sound : Sound l.columns l.holders.items (slots_of l.slots.entries) l.log.items;
  start : undone l.log.items (slots_of l.slots.entries) ≡ undone l.initial.log.items (slots_of l.initial.slots.entries);
  now : undone (drop l.mark l.log.items) (slots_of l.slots.entries) ≡ undone (drop l.mark l.initial.log.items) (slots_of l.initial.slots.entries);
}

abbrev pub decreases-loop-log : goal.decreases-loop-log
decreases-loop-log l = vec_len l.log
