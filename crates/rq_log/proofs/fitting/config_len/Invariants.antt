use Rattle.std.proofs.Common.{◌≡◌, ◌≤◌, ◌+◌, ◌-◌, ◌^◌, min, length, drop}
use Rattle.std.specs.List.{flat_map}
use Rattle.rq_wire.specs.Spelling.{member_bytes}
use Rattle.rq_log.proofs.fitting.config_len.Given as goal

abbrev pub invariant-loop-member : goal.invariant-loop-member
invariant-loop-member l = (l.len ≤ 2 ^ 64 - 1) × (min (l.len + length (flat_map member_bytes (drop l.member-index l.members))) (2 ^ 64 - 1) ≡ min (4 + length (flat_map member_bytes l.members)) (2 ^ 64 - 1))
