use Rattle.std.proofs.Common.{◌≡◌, ◌∙◌, ℕ, List, Option, inl, refl, sym, ap, subst, arith, length}
use Rattle.rq_wal.specs.declared.file.WalFile.{WalFile}
use Rattle.rq_statement.specs.Bytes.{command_bytes}
use Rattle.rq_request.specs.declared.say.Say.TheVariants.{Refused}
use Rattle.rq_request.specs.declared.say.NodeRefusal.TheVariants.{EntryTooLarge}
use Rattle.rq_world.specs.declared.waiting.Waiting.{Waiting}
use Rattle.rq_world.specs.Node.{Node, says}
use Rattle.rq_world.specs.Rules.{proposed}
use Rattle.rq_member.specs.declared.node.Node.{Node as TheNode}
use Rattle.rq_member.specs.declared.turn_error.TurnError.TheVariants as failures
use Rattle.rq_member.specs.Held.{IsOpen}
use Rattle.rq_member.proofs.Asking.{did_not_propose, did_say_so, proposed_large}
use Rattle.rq_member.proofs.Resting.{own_of}
use Rattle.rq_member.proofs.node.Node.propose.Goals as goal

pub returns-in-Err-clause-did : goal.returns-in-Err-clause-did
returns-in-Err-clause-did g c =
    let h = c.args.self.now in
    let put = c.args.put in
    did_not_propose h.state.first g.D.Disk.told g.D.Disk.means c.logs_stand_while_room_is_made.ensures h.state.node put.number put.moment put.timeout c.args.command (length (command_bytes c.args.command)) c.args.disks.now h.state.node h.file c.into.result
    c.requires.open c.requires.readable refl (inl c.into.ensures)

pub returns-then-size-clause-did : goal.returns-then-size-clause-did
returns-then-size-clause-did g c =
    let h = c.args.self.now in
    let put = c.args.put in
    let size = length (command_bytes c.args.command) in
    did_say_so h.state.first g.D.Disk.told g.D.Disk.means c.logs_stand_while_room_is_made.ensures (proposed h.state.first h.state.node put.number put.moment put.timeout c.args.command size) (says h.state.node put.number (Refused (EntryTooLarge c.in-Ok.size))) c.args.disks.now h.state.node h.state.node h.file c.refuses.result
    c.requires.open (proposed_large h.state.first h.state.node put.number put.moment put.timeout c.args.command size (omega (arith, c.if-size.true, c.in-Ok.ensures)) ∙ ap (λ (k : ℕ). says h.state.node put.number (Refused (EntryTooLarge k))) (sym c.in-Ok.ensures))
    (record { stored = refl; node = refl }) refl c.refuses.ensures.brings (own_of c.refuses.result c.refuses.ensures.refusals)

pub returns-in-Err-wait_for-clause-did : goal.returns-in-Err-wait_for-clause-did
returns-in-Err-wait_for-clause-did g c =
    let h = c.args.self.now in
    let s = c.self.inside.0.0 in
    let put = c.args.put in
    let told = g.D.Disk.told in
    let means = g.D.Disk.means in
    let file = ap (λ (k : TheNode g.row.R.Denot). k.file) c.self.view_is in
    let node =
    ap (λ (ws : List Waiting). record { raft = s.core.node; boot = s.boot; waiting = ws; pending_reads = s.pending_reads.items; queue = s.queue.items; last = s.queue.last; replica = g.R.Engine.state s.replica }) c.in-Err-wait_for.ensures.err
    ∙ ap (λ (k : TheNode g.row.R.Denot). k.state.node) c.self.view_is in
    did_not_propose h.state.first told means c.logs_stand_while_room_is_made.ensures h.state.node put.number put.moment put.timeout c.args.command (length (command_bytes c.args.command)) c.args.disks.now _ c.self.inside.0.1.0 failures.NoMemory
    (subst (λ (f : Option WalFile). IsOpen h.state.first told means c.args.disks.now h.state.node f) (sym file) c.requires.open) c.requires.readable node (inl refl)
