-- The reader of packets depends on nothing behind what it reads.
use Rattle.std.proofs.Common.{ℕ, ◌==◌, List, Result, nat_lt, cond}
use Rattle.rq_values.specs.declared.error.DecodeError.{DecodeError}
use Rattle.rq_values.specs.declared.error.DecodeError.TheVariants.{Kind}
use Rattle.rq_values.specs.Reading.{◌>>=◌, made, u8_at, kind_at, bool_at, u64_at, id_at, list_at}
use Rattle.rq_values.specs.Local.{IsLocal}
use Rattle.rq_values.proofs.Local.{local_bind, local_made, local_choice, local_checked, local_u8, local_kind, local_bool, local_u64, local_id, local_list}
use Rattle.rq_wire.specs.Reading.{entry_at}
use Rattle.rq_wire.proofs.Local.{local_entry}
use Rattle.rq_log.specs.declared.packet.Message.{Message}
use Rattle.rq_log.specs.declared.packet.Message.TheVariants as m
use Rattle.rq_log.specs.declared.packet.Packet.{Packet}
use Rattle.rq_packets.specs.Reading.{both_at, two_at, format_at, packet_kind_at, header_at, append_at, append_say_at, message_at, packet_at}

abbrev Reader : Type 0 → Type 0
Reader A = List ℕ → Result (A × List ℕ) DecodeError

local_both : {A B : Type 0} (one : Reader A) (two : Reader B) → IsLocal one → IsLocal two → IsLocal (both_at one two)
local_both {A} {B} one two h k = local_bind one (λ (a : A). made two (λ (y : B). (a, y))) h (λ a. local_made two (λ (y : B). (a, y)) k)

local_two : IsLocal two_at
unfolding two_at
local_two = local_both u64_at u64_at local_u64 local_u64

local_format : IsLocal format_at
unfolding format_at
local_format = local_checked u8_at (λ byte. byte == 1) Kind local_u8

local_packet_kind : IsLocal packet_kind_at
unfolding packet_kind_at
local_packet_kind = local_checked (kind_at 4) (λ kind. nat_lt 0 kind) Kind (local_kind 4)

local_header : (limit : ℕ) → IsLocal (header_at limit)
unfolding header_at
local_header limit =
    let ids = local_both (id_at limit) (id_at limit) (local_id limit) (local_id limit) in
    let term = local_both u64_at (both_at (id_at limit) (id_at limit)) local_u64 ids in
    let kind = local_both packet_kind_at (both_at u64_at (both_at (id_at limit) (id_at limit))) local_packet_kind term in
    local_both format_at (both_at packet_kind_at (both_at u64_at (both_at (id_at limit) (id_at limit)))) local_format kind

module _ {E : Type 0} (one : Reader E) where
  local_append_say : IsLocal {A = Message E} append_say_at
  unfolding append_say_at
  local_append_say = local_bind bool_at (λ ok. made two_at (λ two. m.AppendSay ok two.0 two.1)) local_bool (λ ok. local_made two_at (λ two. m.AppendSay ok two.0 two.1) local_two)

  local_append : IsLocal one → IsLocal (append_at one)
  unfolding append_at
  local_append h =
      local_bind two_at (λ first bytes. two_at bytes >>= λ second. made (list_at one) (m.Append first.0 first.1 second.0.0 second.0.1) second.1) local_two
      (λ first. local_bind two_at (λ second. made (list_at one) (m.Append first.0 first.1 second.0 second.1)) local_two
      (λ second. local_made (list_at one) (m.Append first.0 first.1 second.0 second.1) (local_list one h)))

  local_message : IsLocal one → (kind : ℕ) → IsLocal (message_at one kind)
  unfolding message_at
  local_message h kind =
      let ask : Reader (Message E) = made two_at (λ two. m.VoteAsk two.0 two.1) in
      let say : Reader (Message E) = made bool_at m.VoteSay in
      local_choice (kind == 1) ask (λ bytes. cond (kind == 2) (say bytes) (cond (kind == 3) (append_at one bytes) (append_say_at bytes))) (local_made two_at (λ two. m.VoteAsk two.0 two.1) local_two)
      (local_choice (kind == 2) say (λ bytes. cond (kind == 3) (append_at one bytes) (append_say_at bytes)) (local_made bool_at m.VoteSay local_bool)
      (local_choice (kind == 3) (append_at one) append_say_at (local_append h) local_append_say))

  pub local_packet : IsLocal one → (limit : ℕ) → IsLocal (packet_at one limit)
  unfolding packet_at
  local_packet h limit =
      local_bind (header_at limit) (λ head. made (message_at one head.1.0) (λ message. record { term = head.1.1.0; from = head.1.1.1.0; to = head.1.1.1.1; message = message })) (local_header limit)
      (λ head. local_made (message_at one head.1.0) (λ message. record { term = head.1.1.0; from = head.1.1.1.0; to = head.1.1.1.1; message = message }) (local_message h head.1.0))

pub local_wire_packet : (limit : ℕ) → IsLocal (packet_at (entry_at limit) limit)
local_wire_packet limit = local_packet (entry_at limit) (local_entry limit) limit
