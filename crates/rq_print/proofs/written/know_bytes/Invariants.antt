use Rattle.std.proofs.Common.{◌≡◌, drop, nat_lt}
use Rattle.std.specs.List.{list_all}
use Rattle.rq_print.proofs.written.know_bytes.Given as goal

-- what is still to be looked at decides
abbrev pub invariant-loop-byte : goal.invariant-loop-byte
invariant-loop-byte l = list_all (λ b. nat_lt b 256) (drop l.byte-index l.bytes) ≡ list_all (λ b. nat_lt b 256) l.bytes
