use Rattle.std.proofs.Common.{◌≡◌, ◌++◌, drop}
use Rattle.std.specs.Prelude.{flat_map}
use Rattle.std.specs.Int.{w64, to_le_bytes}
use Rattle.rq_binding.proofs.drawn.blob_value.Given as goal

abbrev pub invariant-loop-word : goal.invariant-loop-word
invariant-loop-word l = l.list.items ++ flat_map (to_le_bytes w64) (drop l.word-index l.words) ≡ flat_map (to_le_bytes w64) l.words
