use Rattle.std.proofs.Common.{◌≡◌, ◌≢◌, ◌∙◌, List, Option, Some, Ok, sym, ap, subst}
use Rattle.rq_wal.specs.declared.file.WalFile.{WalFile}
use Rattle.rq_raft.specs.Node.{RaftNode, all_stored}
use Rattle.rq_request.specs.declared.say.Answer.{Answer}
use Rattle.rq_world.specs.declared.log_entry.LogEntry.{LogEntry}
use Rattle.rq_world.specs.Node.{Node, persistent_of}
use Rattle.rq_world.specs.Rules.{raft_turn}
use Rattle.rq_member.specs.declared.node.Node.{Node as TheNode}
use Rattle.rq_member.specs.declared.turn_error.TurnError.TheVariants as failures
use Rattle.rq_member.specs.Held.{Held, node_before, lost_answers, without_lost}
use Rattle.rq_member.specs.Keeping.{moved}
use Rattle.rq_member.specs.Storing.{HasStored}
use Rattle.rq_member.specs.Turned.{Did}
use Rattle.rq_member.proofs.Turning.{did_settle, did_not_settle, stored_nothing}
use Rattle.rq_member.proofs.node.Node.settle.Goals as goal

no_disk : failures.NoMemory ≢ failures.Disk
no_disk is = absurd (cc)

pub returns-in-Err-clause-did : goal.returns-in-Err-clause-did
returns-in-Err-clause-did g c =
    let told = g.D.Disk.told in
    let means = g.D.Disk.means in
    let h = c.args.self.now.state in
    let s = c.self.inside.0.0 in
    let disks = c.args.disks.now in
    let file : c.self.inside.0.1.0 ≡ c.args.self.now.file = ap (λ (k : TheNode g.row.R.Denot). k.file) c.self.view_is in
    let back = ap (λ (r : RaftNode LogEntry). record { raft = r; boot = s.boot; waiting = s.waiting.items; pending_reads = s.pending_reads.items; queue = s.queue.items; last = s.queue.last; replica = g.R.Engine.state s.replica }) c.take_back.ensures.node in
    let records = all_stored h.before (moved h.node.raft c.args.moves) in
    let none = stored_nothing h.first told means c.logs_stand_while_room_is_made.ensures disks (persistent_of (node_before h)) records c.args.self.now.file failures.NoMemory no_disk c.requires.open.has in
    did_not_settle h.first told means h c.args.moves disks disks c.args.self.now.file c.self.inside.0.1.0 _ failures.NoMemory c.requires.keeping c.requires.open
    (back ∙ ap (λ (k : TheNode g.row.R.Denot). node_before k.state) c.self.view_is)
    (subst (λ (f : Option WalFile). HasStored h.first told means (persistent_of (node_before h)) records disks disks f (Some failures.NoMemory)) (sym file) none)

pub returns-in-Ok-keep-clause-did : goal.returns-in-Ok-keep-clause-did
returns-in-Ok-keep-clause-did g c =
    let told = g.D.Disk.told in
    let means = g.D.Disk.means in
    let h = c.args.self.now.state in
    let disks = c.args.disks.now in
    let new = c.keep.new.disks in
    let file = c.keep.new.self.file in
    let moves = c.args.moves in
    let t = raft_turn (node_before h) (moved h.node.raft moves) in
    let nodes : c.forget_lost.new.self.node ≡ without_lost h = ap (λ (k : Held). k.node) c.forget_lost.ensures ∙ ap without_lost c.in-Ok-keep.ensures.ok in
    let answers : c.in-Ok.answers ≡ lost_answers h = c.in-Ok.ensures ∙ ap (λ (k : TheNode g.row.R.Denot). lost_answers k.state) c.self.view_is in
    let done = did_settle h.first told means h moves disks new c.args.self.now.file file c.in-Ok-keep.stored c.requires.keeping c.requires.open c.in-Ok-keep.ensures.count c.in-Ok-keep.ensures.stored in
    subst (λ (l : List Answer). Did h.first told means t disks new (node_before h) c.forget_lost.new.self.node file (Ok (record { stored = c.in-Ok-keep.stored; packets = moves.packets; answers = l }))) (sym answers)
    (subst (λ (n : Node). Did h.first told means t disks new (node_before h) n file (Ok (record { stored = c.in-Ok-keep.stored; packets = moves.packets; answers = lost_answers h }))) (sym nodes) done)

pub returns-in-Err-keep-clause-did : goal.returns-in-Err-keep-clause-did
returns-in-Err-keep-clause-did g c =
    let h = c.args.self.now.state in
    did_not_settle h.first g.D.Disk.told g.D.Disk.means h c.args.moves c.args.disks.now c.keep.new.disks c.args.self.now.file c.keep.new.self.file c.keep.new.self.state.node c.in-Err-keep.error c.requires.keeping c.requires.open c.in-Err-keep.ensures.err c.in-Err-keep.ensures.stored
