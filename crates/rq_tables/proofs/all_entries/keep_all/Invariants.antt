use Rattle.std.proofs.Common.{◌≡◌, ◌++◌, map, take, drop}
use Rattle.std.specs.Prelude.{vec_len}
use Rattle.rq_tables.specs.Entries.{kept}
use Rattle.rq_tables.proofs.all_entries.keep_all.Given as goal

abbrev pub invariant-loop-i : goal.invariant-loop-i
invariant-loop-i l = record {
  len : vec_len l.entries ≡ vec_len l.initial.entries;
  so_far : l.entries.items ≡ map kept (take l.i l.initial.entries.items) ++ drop l.i l.initial.entries.items;
}
