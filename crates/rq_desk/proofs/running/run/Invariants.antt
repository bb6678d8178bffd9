use Rattle.std.proofs.Common.{◌≡◌, false}
use Rattle.rq_node.specs.Recovery.{IsOpen}
use Rattle.rq_desk.proofs.running.run.Given as goal

-- the hub goes on, and its files are open
abbrev pub invariant-loop : goal.invariant-loop
invariant-loop g l =
    (goal.iterator-loop g).can_next l.iterator' × (goal.iterator-loop g).is_finite l.iterator'
    × (l.hub.stopped ≡ false) × IsOpen g.D.Disk.told g.D.Disk.means l.hub.disks l.hub.node
