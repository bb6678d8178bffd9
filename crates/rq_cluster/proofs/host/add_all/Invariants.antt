use Rattle.std.proofs.Common.{◌≡◌, ◌++◌, take}
use Rattle.rq_script.specs.Cluster.{numbers}
use Rattle.rq_cluster.proofs.host.add_all.Given as goal

abbrev pub invariant-loop-ask : goal.invariant-loop-ask
invariant-loop-ask l = l.lost.items ≡ l.initial.lost.items ++ numbers (take l.ask-index l.waiting)
