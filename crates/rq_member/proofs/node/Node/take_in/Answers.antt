use Rattle.std.proofs.Common.{◌≡◌, ◌∙◌, Bool, true, cond, List, Option, IfOk, refl, sym, ap, subst}
use Rattle.rq_wal.specs.declared.file.WalFile.{WalFile}
use Rattle.rq_wire.specs.declared.config.Member.{Member}
use Rattle.rq_log.specs.Views.{Gives}
use Rattle.std.proofs.lemmas.Result.{err_from_is_err_and}
use Rattle.rq_log.specs.Incoming.{packet_in}
use Rattle.rq_raft.specs.Node.{RaftNode}
use Rattle.rq_raft.specs.Deliver.{receive}
use Rattle.rq_world.specs.declared.log_entry.LogEntry.{LogEntry}
use Rattle.rq_world.specs.Node.{Node, Turn, log_entries}
use Rattle.rq_world.specs.Rules.{reads, with_reads, due_answers, not_due}
use Rattle.rq_member.specs.Counted.{IsCounted}
use Rattle.rq_member.specs.Held.{Held, IsOpen}
use Rattle.rq_member.specs.declared.node.Node.{Node as TheNode}
use Rattle.rq_member.specs.Files.{AreReadable}
use Rattle.rq_member.proofs.Delivering.{message_readable}
use Rattle.rq_member.proofs.Answering.{on_ok, on_err}
use Rattle.rq_member.proofs.Receiving.{did_read_on, did_starve_receive, packet_keeps}
use Rattle.rq_member.proofs.Rules.{keeps_rule, receive_keeps}
use Rattle.rq_member.proofs.node.Node.take_in.Goals as goal

pub returns-in_err-moves-clause-did : goal.returns-in_err-moves-clause-did
returns-in_err-moves-clause-did g c =
    let h = c.args.self.now in
    let s = c.self.inside.0.0 in
    let p = packet_in c.args.packet in
    let b = c.counts-counts.result in
    let reads_on = subst (λ (k : TheNode g.row.R.Denot). (t : Turn) → with_reads k.state.first k.state.node p p.message t ≡ cond b (reads k.state.first t) t) c.self.view_is c.counts-counts.ensures.reads in
    let counted = subst (λ (k : TheNode g.row.R.Denot). b ≡ true → IsCounted k.state.first k.state.node c.args.packet) c.self.view_is c.counts-counts.ensures.reply in
    did_starve_receive h.state.first g.D.Disk.told g.D.Disk.means c.logs_stand_while_room_is_made.ensures h.state.node c.args.moment c.args.packet c.counts-counts.result c.args.disks.now _ c.self.inside.0.1.0 h.file c.from_residual.result
    (err_from_is_err_and c.from_residual.result c.from_residual.ensures.1) c.requires.here reads_on counted (packet_keeps h.state.first h.state.node c.args.moment c.requires.said.0 c.args.packet c.requires.open.readable c.requires.said.1)
    c.requires.open (ap (λ (k : TheNode g.row.R.Denot). k.file) c.self.view_is)
    (ap (λ (r : RaftNode LogEntry). record { raft = r; boot = s.boot; waiting = s.waiting.items; pending_reads = s.pending_reads.items; queue = s.queue.items; last = s.queue.last; replica = g.R.Engine.state s.replica }) c.in_err-moves.ensures.err
    ∙ ap (λ (k : TheNode g.row.R.Denot). k.state.node) c.self.view_is)

pub settle-requires-clause-keeping : goal.settle-requires-clause-keeping
settle-requires-clause-keeping g c κs within =
    let core = c.self.inside.0.0.core in
    let log = ap (λ (k : TheNode g.row.R.Denot). k.state.node.raft.log) c.self.view_is in
    keeps_rule core.node c.deliver.new.self.before c.deliver.new.self.node (receive log_entries core.first core.node c.args.moment (packet_in c.args.packet)) c.in_ok-moves.moves c.in_ok-moves.ensures.before c.in_ok-moves.ensures.ok
    (receive_keeps core.first core.node c.args.moment c.args.packet (subst AreReadable (sym log) c.requires.open.readable) (message_readable c.requires.said.0.message c.args.packet.message c.requires.said.1.says))

pub returns-then-counts-clause-did : goal.returns-then-counts-clause-did
returns-then-counts-clause-did g c =
    let h = c.args.self.now in
    let s = c.self.inside.0.0 in
    let core = s.core in
    let told = g.D.Disk.told in
    let means = g.D.Disk.means in
    let p = packet_in c.args.packet in
    let b = c.counts-counts.result in
    let reads_on = subst (λ (k : TheNode g.row.R.Denot). (t : Turn) → with_reads k.state.first k.state.node p p.message t ≡ cond b (reads k.state.first t) t) c.self.view_is c.counts-counts.ensures.reads in
    let counted = subst (λ (k : TheNode g.row.R.Denot). b ≡ true → IsCounted k.state.first k.state.node c.args.packet) c.self.view_is c.counts-counts.ensures.reply in
    let on = c.if-counts.true in
    let reads_so = λ (t : Turn). reads_on t ∙ ap (λ (x : Bool). cond x (reads h.state.first t) t) on in
    let first = ap (λ (k : TheNode g.row.R.Denot). k.state.first) c.self.view_is in
    let raft = ap (λ (k : TheNode g.row.R.Denot). k.state.node.raft) c.self.view_is in
    let file = ap (λ (k : TheNode g.row.R.Denot). k.file) c.self.view_is in
    let gives = subst (λ (k : TheNode g.row.R.Denot). Gives (receive log_entries k.state.first k.state.node.raft c.args.moment p) c.deliver.new.self.node c.in_ok-moves.moves) c.self.view_is c.in_ok-moves.ensures.ok in
    let here = c.in_ok-moves.ensures.first ∙ first in
    let m : Node = record { raft = c.deliver.new.self.node; boot = s.boot; waiting = s.waiting.items; pending_reads = s.pending_reads.items; queue = s.queue.items; last = s.queue.last; replica = g.R.Engine.state s.replica } in
    let now = ap (λ (k : TheNode g.row.R.Denot). record k.state.node { raft = c.deliver.new.self.node }) c.self.view_is in
    let back = ap (λ (r : RaftNode LogEntry). record m { raft = r }) c.in_ok-moves.ensures.before ∙ ap (λ (k : TheNode g.row.R.Denot). k.state.node) c.self.view_is in
    did_read_on h.state.first told means c.logs_stand_while_room_is_made.ensures h.state.node c.args.moment c.args.packet c.deliver.new.self.node c.in_ok-moves.moves c.args.disks.now m c.read_on.new.self.node c.self.inside.0.1.0 c.read_on.result
    c.requires.here reads_so (counted on) (packet_keeps h.state.first h.state.node c.args.moment c.requires.said.0 c.args.packet c.requires.open.readable c.requires.said.1) gives
    (subst (λ (f : Option WalFile). IsOpen h.state.first told means c.args.disks.now h.state.node f) (sym file) c.requires.open) now
    (on_ok c.read_on.result (c.read_on.new.self ≡ _) _ (λ e. ap (λ (k : Held). k.node) e ∙ ap (λ (f : List Member). record m { pending_reads = not_due f m m.pending_reads }) here) c.read_on.ensures.node)
    (subst (λ (f : List Member). IfOk c.read_on.result (λ effects. (effects.stored ≡ 0) × (effects.packets ≡ c.in_ok-moves.moves.packets) × (effects.answers ≡ due_answers f m m.pending_reads))) here c.read_on.ensures.effects)
    (on_err c.read_on.result _ _ (λ e. e ∙ back) c.read_on.ensures.err) c.read_on.ensures.refusals
