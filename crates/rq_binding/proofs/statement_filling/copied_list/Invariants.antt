use Rattle.std.proofs.Common.{◌≡◌, take}
use Rattle.rq_binding.proofs.statement_filling.copied_list.Given as goal

abbrev pub invariant-loop-name : goal.invariant-loop-name
invariant-loop-name l = l.copy ≡ take l.name-index l.names
