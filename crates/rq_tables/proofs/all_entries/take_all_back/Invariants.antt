use Rattle.std.proofs.Common.{◌≡◌, ◌++◌, map, take, drop}
use Rattle.std.specs.Prelude.{vec_len}
use Rattle.rq_tables.specs.Entries.{all_taken_back}
use Rattle.rq_tables.proofs.all_entries.take_all_back.Given as goal

abbrev pub invariant-loop-i : goal.invariant-loop-i
invariant-loop-i l = record {
  len : vec_len l.entries ≡ vec_len l.initial.entries;
  so_far : l.entries.items ≡ map all_taken_back (take l.i l.initial.entries.items) ++ drop l.i l.initial.entries.items;
}
