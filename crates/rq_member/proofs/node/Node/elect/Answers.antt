use Rattle.std.proofs.Common.{◌≡◌, ◌∙◌, ap, sym, subst}
use Rattle.std.proofs.lemmas.Result.{err_from_is_err_and}
use Rattle.rq_raft.specs.Node.{RaftNode, RaftTurn}
use Rattle.rq_raft.specs.Vote.{elect}
use Rattle.rq_wire.specs.declared.config.Member.{Member}
use Rattle.rq_world.specs.declared.log_entry.LogEntry.{LogEntry}
use Rattle.rq_world.specs.Node.{Node, log_entries}
use Rattle.rq_member.specs.Keeping.{moved}
use Rattle.rq_member.specs.declared.node.Node.{Node as TheNode}
use Rattle.rq_member.proofs.Rules.{elect_keeps, given, keeps_rule}
use Rattle.rq_member.proofs.Ruling.{did_rule_at, did_starve_rule}
use Rattle.rq_member.proofs.node.Node.elect.Goals as goal

pub returns-in_err-moves-clause-did : goal.returns-in_err-moves-clause-did
returns-in_err-moves-clause-did g c =
    let h = c.args.self.now in
    let s = c.self.inside.0.0 in
    did_starve_rule h.state.first g.D.Disk.told g.D.Disk.means c.logs_stand_while_room_is_made.ensures (elect log_entries h.state.first h.state.node.raft) c.args.disks.now h.state.node _ c.self.inside.0.1.0 h.file c.from_residual.result
    (err_from_is_err_and c.from_residual.result c.from_residual.ensures.1) c.requires.open (ap (λ (k : TheNode g.row.R.Denot). k.file) c.self.view_is) (elect_keeps h.state.first h.state.node.raft)
    (ap (λ (r : RaftNode LogEntry). record { raft = r; boot = s.boot; waiting = s.waiting.items; pending_reads = s.pending_reads.items; queue = s.queue.items; last = s.queue.last; replica = g.R.Engine.state s.replica }) c.in_err-moves.ensures.err
    ∙ ap (λ (k : TheNode g.row.R.Denot). k.state.node) c.self.view_is)

pub settle-requires-clause-keeping : goal.settle-requires-clause-keeping
settle-requires-clause-keeping g c κs within =
    let core = c.self.inside.0.0.core in
    keeps_rule core.node c.elect.new.self.before c.elect.new.self.node (elect log_entries core.first core.node) c.in_ok-moves.moves c.in_ok-moves.ensures.before c.in_ok-moves.ensures.ok (elect_keeps core.first core.node)

pub returns-clause-did : goal.returns-clause-did
returns-clause-did g c =
    let h = c.args.self.now in
    let s = c.self.inside.0.0 in
    let core = s.core in
    let first = ap (λ (k : TheNode g.row.R.Denot). k.state.first) c.self.view_is in
    let raft = ap (λ (k : TheNode g.row.R.Denot). k.state.node.raft) c.self.view_is in
    did_rule_at h.state.first g.D.Disk.told g.D.Disk.means c.elect.new.self.first (elect log_entries h.state.first h.state.node.raft) (moved c.elect.new.self.node c.in_ok-moves.moves) h.state.node _ c.args.disks.now c.settle.new.disks c.settle.new.self.state.node c.settle.new.self.file c.settle.result
    (c.in_ok-moves.ensures.first ∙ first) (given (elect log_entries core.first core.node) c.elect.new.self.node c.in_ok-moves.moves c.in_ok-moves.ensures.ok ∙ (λ i. elect log_entries (first i) (raft i)))
    (ap (λ (r : RaftNode LogEntry). record { raft = r; boot = s.boot; waiting = s.waiting.items; pending_reads = s.pending_reads.items; queue = s.queue.items; last = s.queue.last; replica = g.R.Engine.state s.replica }) c.in_ok-moves.ensures.before
    ∙ ap (λ (k : TheNode g.row.R.Denot). k.state.node) c.self.view_is)
    c.settle.ensures.did
