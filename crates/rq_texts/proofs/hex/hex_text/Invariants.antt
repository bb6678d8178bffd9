use Rattle.std.proofs.Common.{◌≡◌, ◌++◌, drop}
use Rattle.std.specs.Prelude.{flat_map}
use Rattle.rq_texts.specs.Hex as spec
use Rattle.rq_texts.proofs.hex.hex_text.Given as goal

abbrev pub invariant-loop-byte : goal.invariant-loop-byte
invariant-loop-byte l = l.digits ++ flat_map spec.hex_byte (drop l.byte-index l.bytes) ≡ flat_map spec.hex_byte l.bytes
