use Rattle.std.proofs.Common.{◌≡◌, ◌++◌, take}
use Rattle.std.specs.List.{flat_map}
use Rattle.rq_script.specs.ScriptText.{pending_text}
use Rattle.rq_script.proofs.saying.write_all_pending.Given as goal

abbrev pub invariant-loop-number : goal.invariant-loop-number
invariant-loop-number l = l.text.items ≡ l.initial.text.items ++ flat_map pending_text (take l.number-index l.asks)
