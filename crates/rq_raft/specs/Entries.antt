-- What the rules ask of the entries of a log, of whatever type: docs/RAFT.md, "Entries and configurations".
use Rattle.std.specs.Prelude.{ℕ, ◌≡◌, List, map, filter, Option, Some, None}
use Rattle.std.specs.Option.{option_map}
use Rattle.rq_wire.specs.declared.config.Member.{Member}
use Rattle.rq_history.specs.History.{NodeId, EntryView, entry_at}
use Rattle.rq_history.specs.Configurations.{configuration_index}

pub record Entries (E : Type 0) : Type 0 where
  pub term_of : E → ℕ
  pub members_of : E → Option (List Member)  -- the members, if it is a configuration
  pub empty : ℕ → E  -- the entry with which a leader of this term begins
  pub fit : List E → ℕ  -- how many of these go into one packet

-- the empty entry is of its term, and no configuration
pub record AreRight {E : Type 0} (entries : Entries E) : Type 0 where
  pub of_term : (term : ℕ) → entries.term_of (entries.empty term) ≡ term
  pub plain : (term : ℕ) → entries.members_of (entries.empty term) ≡ None

abbrev pub voters : List Member → List NodeId
voters members = map (λ (m : Member). m.id) (filter (λ (m : Member). m.voter) members)

-- what the theory of histories sees of an entry
abbrev pub entry_view : {E : Type 0} → Entries E → EntryView E
entry_view entries = record { term_of = entries.term_of; voters_of = λ e. option_map voters (entries.members_of e) }

abbrev pub members_in : {E : Type 0} → Entries E → Option E → Option (List Member)
members_in entries None = None
members_in entries (Some e) = entries.members_of e

abbrev pub members_or : List Member → Option (List Member) → List Member
members_or first None = first
members_or first (Some members) = members

-- the members of the newest configuration in the log, committed or not, else of the first one
abbrev pub configuration : {E : Type 0} → Entries E → List Member → List E → List Member
configuration entries first log = members_or first (members_in entries (entry_at log (configuration_index (entry_view entries) log)))
