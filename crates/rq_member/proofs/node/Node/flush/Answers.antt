use Rattle.std.proofs.Common.{◌≡◌, ◌∙◌, ◌&&◌, length, refl, sym, ap}
use Rattle.std.specs.Prelude.{nat_lt}
use Rattle.rq_raft.specs.Node.{is_leader}
use Rattle.rq_world.specs.Rules.{flush}
use Rattle.rq_member.specs.declared.node.Node.{Node as TheNode}
use Rattle.rq_member.proofs.Asking.{flush_none}
use Rattle.rq_member.proofs.Receiving.{did_none}
use Rattle.rq_member.proofs.node.Node.flush.Goals as goal

pub returns-then-not-has_batch-clause-did : goal.returns-then-not-has_batch-clause-did
returns-then-not-has_batch-clause-did g c =
    let h = c.args.self.now in
    did_none h.state.first g.D.Disk.told g.D.Disk.means c.logs_stand_while_room_is_made.ensures (flush h.state.first h.state.node) h.state.node c.args.disks.now h.state.node h.file c.quiet.result c.requires.open refl
    (flush_none h.state.first h.state.node (sym c.has_batch.ensures.has ∙ c.if-not-has_batch.true)) c.quiet.ensures
