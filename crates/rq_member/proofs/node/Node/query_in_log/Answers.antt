use Rattle.std.proofs.Common.{◌≡◌, ◌∙◌, refl, sym, ap, length}
use Rattle.rq_statement.specs.Bytes.{command_bytes}
use Rattle.rq_request.specs.declared.say.Say.TheVariants.{Refused}
use Rattle.rq_request.specs.declared.say.NodeRefusal.TheVariants.{NoLeader}
use Rattle.rq_raft.specs.Node.{is_leader}
use Rattle.rq_world.specs.Node.{Node, says}
use Rattle.rq_statement.specs.declared.command.Command.TheVariants.{StrongQuery}
use Rattle.rq_world.specs.Rules.{if_leads, proposed}
use Rattle.rq_member.specs.declared.node.Node.{Node as TheNode}
use Rattle.rq_member.proofs.Asking.{did_say_so, leads_not}
use Rattle.rq_member.proofs.Resting.{own_of}
use Rattle.rq_member.proofs.node.Node.query_in_log.Goals as goal

pub returns-then-not-leads-clause-did : goal.returns-then-not-leads-clause-did
returns-then-not-leads-clause-did g c =
    let h = c.args.self.now in
    let put = c.args.put in
    let t = proposed h.state.first h.state.node put.number put.moment put.timeout (StrongQuery c.args.items) (length (command_bytes (StrongQuery c.args.items))) in
    did_say_so h.state.first g.D.Disk.told g.D.Disk.means c.logs_stand_while_room_is_made.ensures (if_leads h.state.first h.state.node put.number t) (says h.state.node put.number (Refused (NoLeader h.state.node.raft.term))) c.args.disks.now h.state.node h.state.node h.file c.no_leader.result
    c.requires.open (leads_not h.state.first h.state.node put.number t (sym (ap (λ (k : TheNode g.row.R.Denot). is_leader k.state.node.raft.role) c.self.view_is) ∙ sym c.leads.ensures ∙ c.if-not-leads.true))
    (record { stored = refl; node = refl }) refl c.no_leader.ensures.brings (own_of c.no_leader.result c.no_leader.ensures.refusals)
