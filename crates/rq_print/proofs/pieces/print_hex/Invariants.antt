use Rattle.std.proofs.Common.{◌≡◌, ◌++◌, drop}
use Rattle.rq_print.specs.Text as spec
use Rattle.rq_print.proofs.pieces.print_hex.Given as goal

-- what is printed, and then the rest, is the whole
abbrev pub invariant-loop-byte : goal.invariant-loop-byte
invariant-loop-byte l = l.into.items ++ spec.hex_text (drop l.byte-index l.bytes) ≡ l.fn.into.items ++ spec.hex_text l.bytes
