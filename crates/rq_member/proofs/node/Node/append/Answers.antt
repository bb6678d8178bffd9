use Rattle.std.proofs.Common.{◌≡◌, ◌∙◌, [], ap, sym}
use Rattle.std.proofs.lemmas.Result.{err_from_is_err_and}
use Rattle.rq_raft.specs.Node.{RaftNode}
use Rattle.rq_world.specs.declared.log_entry.LogEntry.{LogEntry}
use Rattle.rq_member.specs.declared.node.Node.{Node as TheNode}
use Rattle.rq_member.proofs.Proposing.{did_starve}
use Rattle.rq_member.proofs.node.Node.append.Goals as goal

pub returns-in_err-moves-clause-did : goal.returns-in_err-moves-clause-did
returns-in_err-moves-clause-did g c =
    let h = c.args.self.now in
    let s = c.self.inside.0.0 in
    did_starve h.state.first g.D.Disk.told g.D.Disk.means c.logs_stand_while_room_is_made.ensures h.state.node (record { term = h.state.node.raft.term; command = c.args.command }) [] h.state.node.queue c.args.disks.now _ c.self.inside.0.1.0 h.file c.from_residual.result
    (err_from_is_err_and c.from_residual.result c.from_residual.ensures.1) c.requires.open (ap (λ (k : TheNode g.row.R.Denot). k.file) c.self.view_is) c.requires.readable
    (ap (λ (r : RaftNode LogEntry). record { raft = r; boot = s.boot; waiting = s.waiting.items; pending_reads = s.pending_reads.items; queue = s.queue.items; last = s.queue.last; replica = g.R.Engine.state s.replica }) c.in_err-moves.ensures.err
    ∙ ap (λ (k : TheNode g.row.R.Denot). k.state.node) c.self.view_is)
