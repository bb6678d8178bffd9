-- One packet has one spelling, and two answers that meet one contract are the same.
use Rattle.std.proofs.Common.{◌≡◌, ℕ, List, [], ◌++◌, Ok, refl, sym, ap, ◌∙◌}
use Rattle.rq_values.proofs.Local.{ok_is}
use Rattle.rq_wire.specs.declared.entry.Entry.{Entry}
use Rattle.rq_wire.specs.Spelling.{entry_bytes}
use Rattle.rq_wire.specs.Reading.{entry_at}
use Rattle.rq_wire.specs.Exact.{IsEntry}
use Rattle.rq_log.specs.declared.packet.Packet.{Packet}
use Rattle.rq_packets.specs.Spelling.{packet_bytes}
use Rattle.rq_packets.specs.Reading.{packet_at}
use Rattle.rq_packets.specs.Exact.{IsPacket}
use Rattle.rq_packets.proofs.Exact.{exact_wire_packet}

pub one_spelling : (limit : ℕ) (a b : Packet Entry) → IsPacket limit (IsEntry limit) a → IsPacket limit (IsEntry limit) b → packet_bytes entry_bytes a ≡ packet_bytes entry_bytes b → a ≡ b
one_spelling limit a b p q e =
    let read : Ok (a, []) ≡ Ok (b, []) =
    sym ((exact_wire_packet limit).reads a [] p) ∙ ap (λ (l : List ℕ). packet_at (entry_at limit) limit (l ++ [])) e ∙ (exact_wire_packet limit).reads b [] q in
    ap (λ x. x.0) (ok_is (a, []) (b, []) (Ok (a, [])) refl read)
