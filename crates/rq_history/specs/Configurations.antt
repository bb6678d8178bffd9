-- Configurations that change one voter at a time (Ongaro's dissertation, section 4.1): each node uses the newest one in its log.
use Rattle.std.specs.Prelude.{ℕ, suc, zero, ◌+◌, ◌<◌, ◌≤◌, ◌≡◌, if◌then◌else◌, Bool, true, false, Option, Some, None, List, [], ◌∷◌, ◌++◌, length}
use Rattle.rq_history.specs.History.{NodeId, EntryView, Node, entry_at, term_at}
use Rattle.rq_history.specs.Quorum.{HaveCommon}

-- the voters of an entry that is a configuration
abbrev pub voters_in : {E : Type 0} → EntryView E → Option E → Option (List NodeId)
voters_in view None = None
voters_in view (Some e) = view.voters_of e

abbrev pub is_given : Option (List NodeId) → Bool
is_given None = false
is_given (Some voters) = true

-- whether a configuration stands at index n
abbrev pub is_configuration : {E : Type 0} → EntryView E → List E → ℕ → Bool
is_configuration view log n = is_given (voters_in view (entry_at log n))

-- the greatest of low + 1 to low + room that passes, else low
abbrev pub greatest : (ℕ → Bool) → ℕ → ℕ → ℕ
greatest test low zero = low
greatest test low (suc room) = if test (low + suc room) then low + suc room else greatest test low room

-- where the newest configuration of the log stands; 0 where there is none
abbrev pub configuration_index : {E : Type 0} → EntryView E → List E → ℕ
configuration_index view log = greatest (is_configuration view log) 0 (length log)

abbrev pub voters_or : List NodeId → Option (List NodeId) → List NodeId
voters_or first None = first
voters_or first (Some voters) = voters

-- the voters of the newest configuration in the log, committed or not, else of the first configuration
abbrev pub newest_voters : {E : Type 0} → EntryView E → List NodeId → List E → List NodeId
newest_voters view first log = voters_or first (voters_in view (entry_at log (configuration_index view log)))

-- when a leader may append a configuration (the first condition is Ongaro's correction, "bug in single-server membership changes", raft-dev list, 2015)
pub record MayChange {E : Type 0} (view : EntryView E) (voters : List E → List NodeId) (x : Node E) (e : E) : Type 0 where
  -- it has committed an entry of its own term
  pub some : 0 < x.commit
  pub own : term_at view x.log x.commit ≡ x.term
  -- its newest configuration is committed
  pub settled : configuration_index view x.log ≤ x.commit
  -- a quorum of the newest one's voters and a quorum of the new one's have a voter in common
  pub near : HaveCommon (voters x.log) (voters (x.log ++ e ∷ []))
