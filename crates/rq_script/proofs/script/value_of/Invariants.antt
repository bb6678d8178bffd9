use Rattle.std.proofs.Common.{◌≡◌, ◌-◌, ◌^◌, min, take}
use Rattle.rq_script.specs.ScriptLine.{value_behind}
use Rattle.rq_script.proofs.script.value_of.Given as goal

abbrev pub invariant-loop-digit : goal.invariant-loop-digit
invariant-loop-digit l = l.value ≡ min (value_behind 0 (take l.digit-index l.digits)) (2 ^ 64 - 1)
