-- A packet as it comes in, as the rules see it.
use Rattle.rq_log.specs.declared.packet.Message.{Message as InMessage}
use Rattle.rq_log.specs.declared.packet.Message.TheVariants.{VoteAsk as InVoteAsk, VoteSay as InVoteSay, Append as InAppend, AppendSay as InAppendSay}
use Rattle.rq_log.specs.declared.packet.Packet.{Packet as InPacket}
use Rattle.rq_raft.specs.Node.{Message, VoteAsk, VoteSay, Append, AppendSay, Packet}

abbrev pub message_in : {E : Type 0} → InMessage E → Message E
message_in (InVoteAsk i t) = VoteAsk i t
message_in (InVoteSay granted) = VoteSay granted
message_in (InAppend prev prev_term commit probe entries) = Append prev prev_term commit probe entries
message_in (InAppendSay ok at probe) = AppendSay ok at probe

abbrev pub packet_in : {E : Type 0} → InPacket E → Packet E
packet_in p = record { term = p.term; from = p.from; to = p.to; message = message_in p.message }
