use Rattle.std.proofs.Common.{rules, ◌∙◌}
use Rattle.rq_log.specs.Tally.{wanted_by}
use Rattle.rq_core.proofs.Sendings.{sent_on}
use Rattle.rq_core.proofs.node.Core.sends.Goals as goal

pub loop-peer-preserved : goal.loop-peer-preserved
loop-peer-preserved g c = rw (c.in_ok-push.ensures.ok) (
  search rules,
  sent_on g.E.LogEntry.entries c.args.self.now.first c.args.self.now.node (wanted_by c.args.to.now) c.loop-peer.probe c.args.self.now.node.peers c.loop-peer.peer-index c.peer-item.result c.loop-peer.packets c.packet_for.result
      (search rules) (search rules) (search rules) c.packet_for.ensures ∙ c.loop-peer.invariant.1,
)
