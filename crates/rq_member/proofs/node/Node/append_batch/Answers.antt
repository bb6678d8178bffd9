use Rattle.std.proofs.Common.{◌≡◌, ◌∙◌, ◌++◌, ℕ, List, [], Ok, Option, length, map, take, drop, ◌+◌, refl, sym, ap, subst, arith}
use Rattle.std.specs.Prelude.{All}
use Rattle.rq_wal.specs.declared.file.WalFile.{WalFile}
use Rattle.rq_world.specs.declared.waiting.Waiting.{Waiting}
use Rattle.rq_world.specs.Node.{Node, QueuedWrite}
use Rattle.rq_queue.specs.Numbers.{Contents}
use Rattle.rq_world.specs.Rules.{appends, batch_entry, batch_waits}
use Rattle.rq_member.specs.declared.node.Node.{Node as TheNode}
use Rattle.rq_member.specs.declared.turn_error.TurnError.TheVariants as failures
use Rattle.rq_member.specs.Held.{IsOpen}
use Rattle.rq_member.specs.Turned.{Did}
use Rattle.rq_member.specs.Queued.{IsQueueable}
use Rattle.rq_member.proofs.Proposing.{did_batch, did_not_append, did_wait}
use Rattle.rq_member.proofs.Queueing.{batch_is_readable}
use Rattle.rq_member.proofs.Ruling.{no_memory_is_no_disk}
use Rattle.rq_member.proofs.node.Node.append_batch.Goals as goal

pub append_lists-requires-clause-readable : goal.append_lists-requires-clause-readable
append_lists-requires-clause-readable g c κs within = batch_is_readable c.self.inside.0.0.queue.items c.know_batch.ensures

pub returns-in-Err-clause-did : goal.returns-in-Err-clause-did
returns-in-Err-clause-did g c =
    let h = c.args.self.now in
    let s = c.self.inside.0.0 in
    let n = h.state.node in
    let told = g.D.Disk.told in
    let means = g.D.Disk.means in
    let queue = ap (λ (k : TheNode g.row.R.Denot). k.state.node.queue) c.self.view_is in
    let file = ap (λ (k : TheNode g.row.R.Denot). k.file) c.self.view_is in
    let all = subst (λ (q : List QueuedWrite). All IsQueueable (map (λ (w : QueuedWrite). w.list) (take 128 q))) queue c.know_batch.ensures in
    let had : c.len-had.result ≡ length s.waiting.items = omega (arith, c.len-had.ensures, s.waiting.ok.0) in
    let waits = c.truncate.ensures.items ∙ ap (λ (k : ℕ). take k c.wait_for_batch.new.waiting.items) had ∙ c.wait_for_batch.ensures.old in
    did_not_append h.state.first told means c.logs_stand_while_room_is_made.ensures n (batch_entry h.state.first n) (batch_waits h.state.first (length n.raft.log + 1) 0 (take 128 n.queue)) (drop 128 n.queue) c.args.disks.now _ c.self.inside.0.1.0 failures.NoMemory
    (subst (λ (f : Option WalFile). IsOpen h.state.first told means c.args.disks.now n f) (sym file) c.requires.open) (batch_is_readable n.queue all)
    (ap (λ (ws : List Waiting). record { raft = s.core.node; boot = s.boot; waiting = ws; pending_reads = s.pending_reads.items; queue = s.queue.items; last = s.queue.last; replica = g.R.Engine.state s.replica }) waits ∙ ap (λ (k : TheNode g.row.R.Denot). k.state.node) c.self.view_is)
    no_memory_is_no_disk

pub returns-in-Ok-append_lists-clause-did : goal.returns-in-Ok-append_lists-clause-did
returns-in-Ok-append_lists-clause-did g c =
    let h = c.args.self.now in
    let s = c.self.inside.0.0 in
    let core = s.core in
    let n = h.state.node in
    let told = g.D.Disk.told in
    let means = g.D.Disk.means in
    let first = ap (λ (k : TheNode g.row.R.Denot). k.state.first) c.self.view_is in
    let m : Node = record { raft = core.node; boot = s.boot; waiting = c.wait_for_batch.new.waiting.items; pending_reads = s.pending_reads.items; queue = s.queue.items; last = s.queue.last; replica = g.R.Engine.state s.replica } in
    let at : c.last-index.result + 1 ≡ length core.node.log + 1 = ap (λ (k : ℕ). k + 1) c.last-index.ensures in
    let waits = c.in-Ok.ensures.ok core.first ∙ ap (λ (k : ℕ). s.waiting.items ++ batch_waits core.first k 0 (take 128 s.queue.items)) at in
    let is : m ≡ record n { waiting = n.waiting ++ batch_waits h.state.first (length n.raft.log + 1) 0 (take 128 n.queue) } =
    ap (λ (ws : List Waiting). record m { waiting = ws }) waits
    ∙ ap (λ (k : TheNode g.row.R.Denot). record k.state.node { waiting = k.state.node.waiting ++ batch_waits k.state.first (length k.state.node.raft.log + 1) 0 (take 128 k.state.node.queue) }) c.self.view_is in
    let new = c.append_lists.new.self in
    let did = did_batch h.state.first told means core.first n m (batch_waits h.state.first (length n.raft.log + 1) 0 (take 128 n.queue)) c.args.disks.now c.append_lists.new.disks new.state.node new.file c.in-Ok-append_lists.effects first is c.in-Ok-append_lists.ensures.did in
    let s2 = c.self-2.inside.0.0 in
    let file : c.self-2.inside.0.1.0 ≡ new.file = ap (λ (k : TheNode g.row.R.Denot). k.file) c.self-2.view_is in
    let here = subst (λ (f : Option WalFile). Did h.state.first told means (appends h.state.first m (batch_entry h.state.first n) [] m.queue) c.args.disks.now c.append_lists.new.disks m new.state.node f (Ok c.in-Ok-append_lists.effects)) (sym file) did in
    let queues : new.state.node.queue ≡ n.queue = ap (λ (k : Node). k.queue) did.turned.0 ∙ ap (λ (k : Node). k.queue) is in
    let ends =
    ap (λ (q : Contents QueuedWrite). record { raft = s2.core.node; boot = s2.boot; waiting = s2.waiting.items; pending_reads = s2.pending_reads.items; queue = q.items; last = q.last; replica = g.R.Engine.state s2.replica }) c.drop_batch.ensures
    ∙ ap (λ (k : TheNode g.row.R.Denot). record k.state.node { queue = drop 128 k.state.node.queue }) c.self-2.view_is
    ∙ ap (λ (q : List QueuedWrite). record new.state.node { queue = drop 128 q }) queues in
    did_wait h.state.first told means n (batch_entry h.state.first n) (batch_waits h.state.first (length n.raft.log + 1) 0 (take 128 n.queue)) (drop 128 n.queue) c.args.disks.now c.append_lists.new.disks m new.state.node _ c.self-2.inside.0.1.0 c.in-Ok-append_lists.effects is here ends
