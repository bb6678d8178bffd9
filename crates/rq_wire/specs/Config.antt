-- Configurations and quorums. Source: Raft, section 5.1 (a majority), and Ongaro's dissertation, section 4.2.1 (members that don't vote).
use Rattle.std.specs.Prelude.{◌≡◌, ℕ, ◌+◌, ◌/◌, Bool, true, false, ◌&&◌, List, [], ◌∷◌, Option, Some, None, count_by}
use Rattle.std.specs.Ordering.{nat_cmp, is_lt}
use Rattle.std.specs.Cmp.Lexicographic.{slice_cmp}
use Rattle.rq_wire.specs.declared.config.Member.{Member}

-- ids rise by bytes
abbrev pub comes_after : Option Member → List ℕ → Bool
comes_after None id = true
comes_after (Some last) id = is_lt (slice_cmp nat_cmp last.id id)

-- the ids rise, behind that member
abbrev pub rise_behind : Option Member → List Member → Bool
rise_behind last [] = true
rise_behind last (member ∷ members) = comes_after last member.id && rise_behind (Some member) members

-- the ids rise: so no id stands twice
unfoldable pub ids_rise : List Member → Bool
ids_rise members = rise_behind None members

-- a maker's answer: the members themselves where their ids rise, and none exactly where they don't
abbrev pub IsConfigOf : List Member → Option (List Member) → Type 0
IsConfigOf members None = ids_rise members ≡ false
IsConfigOf members (Some config) = (ids_rise members ≡ true) × (config ≡ members)

-- how many members vote
abbrev pub voters : List Member → ℕ
voters config = count_by (λ member. member.voter) config

-- how many voters decide: voters divided by two, plus one
abbrev pub quorum_of : List Member → ℕ
quorum_of config = voters config / 2 + 1
