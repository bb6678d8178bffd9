-- Reading packets, as docs/FORMATS.md, "Packets", has it.
use Rattle.std.specs.Prelude.{ℕ, ◌==◌, nat_lt, List, Result, Ok, if◌then◌else◌}
use Rattle.rq_values.specs.declared.error.DecodeError.{DecodeError}
use Rattle.rq_values.specs.declared.error.DecodeError.TheVariants.{Kind}
use Rattle.rq_values.specs.Reading.{◌>>=◌, made, checked, u8_at, kind_at, bool_at, u64_at, id_at, list_at}
use Rattle.rq_log.specs.declared.packet.Message.{Message}
use Rattle.rq_log.specs.declared.packet.Message.TheVariants as m
use Rattle.rq_log.specs.declared.packet.Packet.{Packet}

-- two things, one behind the other
abbrev pub both_at : {A B : Type 0} → (List ℕ → Result (A × List ℕ) DecodeError) → (List ℕ → Result (B × List ℕ) DecodeError) → List ℕ → Result ((A × B) × List ℕ) DecodeError
both_at one two bytes = one bytes >>= λ x. made two (λ y. (x.0, y)) x.1

unfoldable pub two_at : List ℕ → Result ((ℕ × ℕ) × List ℕ) DecodeError
two_at = both_at u64_at u64_at

-- the byte of the format, 01
unfoldable pub format_at : List ℕ → Result (ℕ × List ℕ) DecodeError
format_at = checked u8_at (λ byte. byte == 1) Kind

-- the byte of the kind, 01 to 04
unfoldable pub packet_kind_at : List ℕ → Result (ℕ × List ℕ) DecodeError
packet_kind_at = checked (kind_at 4) (λ kind. nat_lt 0 kind) Kind

-- the format, the kind, the term, the sender and the receiver
unfoldable pub header_at : ℕ → List ℕ → Result ((ℕ × (ℕ × (ℕ × (List ℕ × List ℕ)))) × List ℕ) DecodeError
header_at limit = both_at format_at (both_at packet_kind_at (both_at u64_at (both_at (id_at limit) (id_at limit))))

unfoldable pub append_say_at : {E : Type 0} → List ℕ → Result (Message E × List ℕ) DecodeError
append_say_at bytes = do
  ok ← bool_at bytes
  made two_at (λ two. m.AppendSay ok.0 two.0 two.1) ok.1

module _ {E : Type 0} (one : List ℕ → Result (E × List ℕ) DecodeError) where
  -- the numbers of an append, and its entries
  unfoldable pub append_at : List ℕ → Result (Message E × List ℕ) DecodeError
  append_at bytes = do
    prev ← two_at bytes
    commit ← two_at prev.1
    made (list_at one) (m.Append prev.0.0 prev.0.1 commit.0.0 commit.0.1) commit.1

  -- the fields of a kind
  unfoldable pub message_at : ℕ → List ℕ → Result (Message E × List ℕ) DecodeError
  message_at kind bytes =
      if kind == 1 then made two_at (λ two. m.VoteAsk two.0 two.1) bytes
      else (if kind == 2 then made bool_at m.VoteSay bytes
      else (if kind == 3 then append_at bytes
      else append_say_at bytes))

  unfoldable pub packet_at : ℕ → List ℕ → Result (Packet E × List ℕ) DecodeError
  packet_at limit bytes = do
    head ← header_at limit bytes
    made (message_at head.0.1.0) (λ message. record { term = head.0.1.1.0; from = head.0.1.1.1.0; to = head.0.1.1.1.1; message = message }) head.1
