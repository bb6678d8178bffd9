use Rattle.std.proofs.Common.{◌≡◌, ◌-◌, ◌^◌, min, take}
use Rattle.rq_lines.specs.Spelled.{value_behind}
use Rattle.rq_lines.proofs.numbers.value_of.Given as goal

abbrev pub invariant-loop-digit : goal.invariant-loop-digit
invariant-loop-digit l = l.value ≡ min (value_behind 0 (take l.digit-index l.digits)) (2 ^ 64 - 1)
