-- A packet as its sender has it, with the entries of an append beside it.
use Rattle.std.specs.Prelude.{ℕ, List}
use Rattle.rq_log.specs.declared.packet.Message.{Message}
use Rattle.rq_log.specs.declared.packet.Message.TheVariants as m
use Rattle.rq_log.specs.declared.packet.Packet.{Packet}
use Rattle.rq_log.specs.declared.moves.Saying.{Saying}
use Rattle.rq_log.specs.declared.moves.Saying.TheVariants as s
use Rattle.rq_log.specs.declared.moves.Outgoing.{Outgoing}

abbrev pub saying_kind : Saying → ℕ
saying_kind (s.VoteAsk last_index last_term) = 1
saying_kind (s.VoteSay granted) = 2
saying_kind (s.Append prev prev_term commit probe count) = 3
saying_kind (s.AppendSay ok at probe) = 4

abbrev pub message_with : {E : Type 0} → Saying → List E → Message E
message_with (s.VoteAsk last_index last_term) entries = m.VoteAsk last_index last_term
message_with (s.VoteSay granted) entries = m.VoteSay granted
message_with (s.Append prev prev_term commit probe count) entries = m.Append prev prev_term commit probe entries
message_with (s.AppendSay ok at probe) entries = m.AppendSay ok at probe

abbrev pub packet_with : {E : Type 0} → Outgoing → List E → Packet E
packet_with p entries = record { term = p.term; from = p.from; to = p.to; message = message_with p.saying entries }
