-- A vote after Higher, and a member's table.
use Rattle.std.proofs.Common.{◌≡◌, ℕ, ◌+◌, ◌<◌, true, false, List, length, get_or, drop, refl, sym, ap, arith}
use Rattle.std.specs.Prelude.{◌==◌, ◌&&◌, nat_lt, bytes_eq, Some}
use Rattle.std.proofs.lemmas.List.{drop_more}
use Rattle.rq_wire.specs.declared.config.Member.{Member}
use Rattle.rq_history.specs.History.{NodeId}
use Rattle.rq_raft.specs.declared.peer.Peer.{Peer}
use Rattle.rq_raft.specs.Entries.{Entries}
use Rattle.rq_raft.specs.Node.{RaftNode}
use Rattle.rq_raft.specs.Vote.{higher_term, grants, is_newer}
use Rattle.rq_core.specs.Fast.{signed}
use Rattle.rq_core.specs.Lookups.{peer_of}

pub peer_yes : (ps : List Peer) (k : ℕ) (p : Peer) (i : NodeId) → k < length ps → p ≡ get_or ps k p → bytes_eq p.id i ≡ true → peer_of (drop k ps) i ≡ Some p
peer_yes ps k p i within is same = rw (drop_more ps k p within, sym is, same) refl

pub peer_no : (ps : List Peer) (k : ℕ) (p : Peer) (i : NodeId) → k < length ps → p ≡ get_or ps k p → bytes_eq p.id i ≡ false → peer_of (drop k ps) i ≡ peer_of (drop (k + 1) ps) i
peer_no ps k p i within is other = rw (drop_more ps k p within, sym is, other) refl

module _ {E : Type 0} (entries : Entries E) (first : List Member) where
  -- in a higher term there is no vote yet
  pub higher_grants : (n : RaftNode E) (from : NodeId) (term last_index of_term : ℕ) → nat_lt n.term term ≡ true → grants entries first (higher_term n term) (signed from term) last_index of_term ≡ is_newer entries first n last_index of_term
  higher_grants n from term last_index of_term lt = rw lt (same_term term)
    where
      same_term : (t : ℕ) → ((t == t) && true && is_newer entries first n last_index of_term) ≡ is_newer entries first n last_index of_term
      same_term t = grind arith

  pub same_grants : (n : RaftNode E) (from : NodeId) (term last_index of_term : ℕ) → nat_lt n.term term ≡ false → grants entries first (higher_term n term) (signed from term) last_index of_term ≡ grants entries first n (signed from term) last_index of_term
  same_grants n from term last_index of_term le =
      let same : higher_term n term ≡ n = rw le refl in
      ap (λ (m : RaftNode E). grants entries first m (signed from term) last_index of_term) same
