use Rattle.std.proofs.Common.{◌≡◌, false, OnOk}
use Rattle.rq_node.specs.Recovery.{IsOpen}
use Rattle.rq_desk.proofs.running.take_up_all.Given as goal

-- while no ask has failed, the hub goes on, and its files are open
abbrev pub invariant-loop-put : goal.invariant-loop-put
invariant-loop-put g l =
    (goal.iterator-loop-put g).can_next l.put-iterator × (goal.iterator-loop-put g).is_finite l.put-iterator
    × OnOk l.outcome (l.hub.stopped ≡ false) × OnOk l.outcome (IsOpen g.D.Disk.told g.D.Disk.means l.hub.disks l.hub.node)
