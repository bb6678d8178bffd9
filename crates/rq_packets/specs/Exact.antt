-- Which packets can be spelled.
use Rattle.std.proofs.Common.{ℕ, ◌<◌, ◌^◌, List, length}
use Rattle.rq_values.specs.Text.{is_id}
use Rattle.rq_values.specs.Exact.{IsNamed, AreProper}
use Rattle.rq_log.specs.declared.packet.Message.{Message}
use Rattle.rq_log.specs.declared.packet.Message.TheVariants as m
use Rattle.rq_log.specs.declared.packet.Packet.{Packet}

abbrev pub AreTwo : ℕ × ℕ → Type 0
AreTwo two = (two.0 < 2 ^ 64) × (two.1 < 2 ^ 64)

-- the numbers of a message fit, and its entries can be spelled
abbrev pub IsMessage : {E : Type 0} → (E → Type 0) → Message E → Type 0
IsMessage P (m.VoteAsk last_index last_term) = AreTwo (last_index, last_term)
IsMessage P (m.VoteSay granted) = Unit {0}
IsMessage P (m.Append prev prev_term commit probe entries) = AreTwo (prev, prev_term) × (AreTwo (commit, probe) × ((length entries < 2 ^ 32) × AreProper P entries))
IsMessage P (m.AppendSay ok at probe) = AreTwo (at, probe)

-- a packet that can be spelled within the limit
pub record IsPacket {E : Type 0} (limit : ℕ) (P : E → Type 0) (packet : Packet E) : Type 0 where
  pub term : packet.term < 2 ^ 64
  pub from : IsNamed is_id limit packet.from
  pub to : IsNamed is_id limit packet.to
  pub message : IsMessage P packet.message
