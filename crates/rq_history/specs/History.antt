-- What the nodes of a cluster were, change after change: the state of Figure 2 of the extended Raft paper, and no packets.
use Rattle.std.specs.Prelude.{bytes_eq, slice_get}
use Rattle.std.specs.Prelude.{ℕ, suc, zero, ◌≤◌, ◌≡◌, ◌⊎◌, if◌then◌else◌, Option, Some, None, List, [], length, take}

-- a node's name, as the bytes of its text
abbrev pub NodeId : Type 0
NodeId = List ℕ

-- what the theory asks of the entries of a log, of whatever type: the term in which a leader made it, and, if it is a configuration, its voters
pub record EntryView (E : Type 0) : Type 0 where
  pub term_of : E → ℕ
  pub voters_of : E → Option (List NodeId)

pub data Role : Type 0 where
  Follower : Role
  Candidate : Role
  Leader : Role

-- Figure 2, State: the term and the vote and the log are durable, the role and the commit index are not
pub record Node (E : Type 0) : Type 0 where
  pub term : ℕ
  pub vote : Option NodeId
  pub role : Role
  pub log : List E
  pub commit : ℕ

abbrev pub fresh : {E : Type 0} → Node E
fresh = record { term = 0; vote = None; role = Follower; log = []; commit = 0 }

-- the changes "node `who` is now this", the newest last
pub data History (E : Type 0) : Type 0 where
  Begin : History E
  After : (past : History E) (who : NodeId) (is : Node E) → History E

-- what the node is now
abbrev pub now : {E : Type 0} → History E → NodeId → Node E
now Begin i = fresh
now (After past who is) i = if bytes_eq i who then is else now past i

-- the node was this at some moment
abbrev pub Was : {E : Type 0} → History E → NodeId → Node E → Type 0
Was Begin i x = x ≡ fresh
Was (After past who is) i x = ((i ≡ who) × (x ≡ is)) ⊎ Was past i x

-- the node was a, and then, or at that very moment, b
abbrev pub WasBefore : {E : Type 0} → History E → NodeId → Node E → Node E → Type 0
WasBefore Begin i a b = (a ≡ fresh) × (b ≡ fresh)
WasBefore (After past who is) i a b = ((i ≡ who) × (b ≡ is) × Was (After past who is) i a) ⊎ WasBefore past i a b

-- each moment of the first is one of the second, as of a beginning of it
abbrev pub IsEarlier : {E : Type 0} → History E → History E → Type 0
IsEarlier {E = E} early late = (j : NodeId) (x : Node E) → Was early j x → Was late j x

-- j led this term, with this log and commit index
pub record Led {E : Type 0} (past : History E) (j : NodeId) (term : ℕ) (leader : Node E) : Type 0 where
  pub was : Was past j leader
  pub leads : leader.role ≡ Leader
  pub in_term : leader.term ≡ term

-- the entry at index n, counted from 1
abbrev pub entry_at : {E : Type 0} → List E → ℕ → Option E
entry_at log zero = None
entry_at log (suc n) = slice_get log n

abbrev pub term_or_zero : {E : Type 0} → EntryView E → Option E → ℕ
term_or_zero view None = 0
term_or_zero view (Some e) = view.term_of e

-- the term of the entry at index n; 0 where there is none
abbrev pub term_at : {E : Type 0} → EntryView E → List E → ℕ → ℕ
term_at view log n = term_or_zero view (entry_at log n)

abbrev pub last_term : {E : Type 0} → EntryView E → List E → ℕ
last_term view log = term_at view log (length log)

-- the first list is a prefix of the second
abbrev pub IsPrefixOf : {E : Type 0} → List E → List E → Type 0
IsPrefixOf a b = take (length a) b ≡ a

-- a leader of the term that the log has at n had the same first n entries
pub record Origin {E : Type 0} (view : EntryView E) (past : History E) (log : List E) (n : ℕ) : Type 0 where
  pub who : NodeId
  pub leader : Node E
  pub led : Led past who (term_at view log n) leader
  pub fits : n ≤ length leader.log
  pub same : take n leader.log ≡ take n log
