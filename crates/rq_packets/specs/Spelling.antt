-- How packets are spelled, as docs/FORMATS.md, "Packets", has it.
use Rattle.std.specs.Prelude.{ℕ, List, ◌∷◌, ◌++◌}
use Rattle.rq_values.specs.Spelling.{bool_bytes, u64_bytes, sized, list_bytes}
use Rattle.rq_log.specs.declared.packet.Message.{Message}
use Rattle.rq_log.specs.declared.packet.Message.TheVariants as m
use Rattle.rq_log.specs.declared.packet.Packet.{Packet}

-- the byte of a message's kind
abbrev pub kind_of : {E : Type 0} → Message E → ℕ
kind_of (m.VoteAsk last_index last_term) = 1
kind_of (m.VoteSay granted) = 2
kind_of (m.Append prev prev_term commit probe entries) = 3
kind_of (m.AppendSay ok at probe) = 4

-- two numbers
abbrev pub two_bytes : ℕ × ℕ → List ℕ
two_bytes two = u64_bytes two.0 ++ u64_bytes two.1

-- the fields of a message's kind, over the spelling of entries
abbrev pub fields_bytes : {E : Type 0} → (E → List ℕ) → Message E → List ℕ
fields_bytes spelled (m.VoteAsk last_index last_term) = two_bytes (last_index, last_term)
fields_bytes spelled (m.VoteSay granted) = bool_bytes granted
fields_bytes spelled (m.Append prev prev_term commit probe entries) = two_bytes (prev, prev_term) ++ (two_bytes (commit, probe) ++ list_bytes spelled entries)
fields_bytes spelled (m.AppendSay ok at probe) = bool_bytes ok ++ two_bytes (at, probe)

-- what stands before the fields: the format 01, the kind, the term, the sender and the receiver
abbrev pub header_bytes : ℕ × (ℕ × (ℕ × (List ℕ × List ℕ))) → List ℕ
header_bytes h = h.0 ∷ h.1.0 ∷ (u64_bytes h.1.1.0 ++ (sized h.1.1.1.0 ++ sized h.1.1.1.1))

abbrev pub header_of : {E : Type 0} → Packet E → ℕ × (ℕ × (ℕ × (List ℕ × List ℕ)))
header_of p = (1, (kind_of p.message, (p.term, (p.from, p.to))))

abbrev pub packet_bytes : {E : Type 0} → (E → List ℕ) → Packet E → List ℕ
packet_bytes spelled p = header_bytes (header_of p) ++ fields_bytes spelled p.message
