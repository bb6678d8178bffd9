use Rattle.std.proofs.Common.{take}
use Rattle.rq_script.specs.Preparing.{AreRead}
use Rattle.rq_cluster.proofs.preparing.prepared_all.Given as goal

abbrev pub invariant-loop-text : goal.invariant-loop-text
invariant-loop-text l = AreRead (take l.text-index l.texts) l.items
