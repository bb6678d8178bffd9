-- A reply that counts at a leader: docs/RAFT.md, "Deliver".
use Rattle.std.specs.Prelude.{ℕ, ◌≡◌, Bool, true, List}
use Rattle.rq_wire.specs.declared.config.Member.{Member}
use Rattle.rq_log.specs.declared.packet.Packet.{Packet as InPacket}
use Rattle.rq_log.specs.declared.packet.Message.TheVariants as message
use Rattle.rq_log.specs.Incoming.{packet_in}
use Rattle.rq_world.specs.declared.log_entry.LogEntry.{LogEntry}
use Rattle.rq_world.specs.Node.{Node}
use Rattle.rq_world.specs.Rules.{counts}

-- it says how far the log of a member agrees with the leader's
pub record IsCounted (first : List Member) (n : Node) (p : InPacket LogEntry) : Type 0 where
  pub ok : Bool
  pub at : ℕ
  pub probe : ℕ
  pub says : p.message ≡ message.AppendSay ok at probe
  pub counts : counts first n (packet_in p) at ≡ true
