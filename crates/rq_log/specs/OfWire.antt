-- The entries of rq_wire, as the rules see them.
use Rattle.std.specs.Prelude.{ℕ, suc, zero, ◌-◌, nat_le, min, max, if◌then◌else◌, refl, Option, Some, None, List, [], ◌∷◌, length}
use Rattle.rq_wire.specs.declared.config.Member.{Member}
use Rattle.rq_wire.specs.declared.entry.Entry.{Entry}
use Rattle.rq_wire.specs.declared.entry.Body.{Body}
use Rattle.rq_wire.specs.declared.entry.Body.TheVariants.{NoOp, Config, Data}
use Rattle.rq_wire.specs.Spelling.{entry_bytes}
use Rattle.rq_raft.specs.Entries.{Entries, AreRight}

abbrev pub members_of_body : Body → Option (List Member)
members_of_body NoOp = None
members_of_body (Config members) = Some members
members_of_body (Data bytes) = None

-- how many of these have together at most so many bytes, and are at most so many
abbrev pub fits : (most room : ℕ) → List Entry → ℕ
fits zero room es = 0
fits (suc most) room [] = 0
fits (suc most) room (e ∷ es) = if nat_le (length (entry_bytes e)) room then suc (fits most (room - length (entry_bytes e)) es) else 0

-- at most 64 entries, and 1,048,576 bytes unless a single entry is longer
abbrev pub fit : List Entry → ℕ
fit es = max (min 1 (length es)) (fits 64 1048576 es)

abbrev pub wire_entries : Entries Entry
wire_entries = record {
  term_of = λ (e : Entry). e.term;
  members_of = λ (e : Entry). members_of_body e.body;
  empty = λ (term : ℕ). record { term = term; body = NoOp };
  fit = fit;
}

abbrev pub wire_right : AreRight wire_entries
wire_right = record { of_term = λ term. refl; plain = λ term. refl }
