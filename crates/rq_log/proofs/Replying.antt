-- Steps of the loop over peers at a reply.
use Rattle.std.proofs.Common.{◌≡◌, ℕ, ◌+◌, ◌<◌, true, false, List, [], ◌∷◌, ◌++◌, length, get_or, drop, take, set, refl, sym, append_assoc, arith}
use Rattle.std.specs.Prelude.{bytes_eq}
use Rattle.std.proofs.lemmas.List.{take_more, drop-set-lt, drop_more}
use Rattle.std.proofs.lemmas.Grind.{take-set_at}
use Rattle.rq_history.specs.History.{NodeId}
use Rattle.rq_raft.specs.declared.peer.Peer.{Peer}
use Rattle.rq_raft.specs.Node.{with_peer}

one_on : (f : Peer → Peer) (m : NodeId) (ps : List Peer) (k : ℕ) (p : Peer) → k < length ps → p ≡ get_or ps k p → bytes_eq p.id m ≡ true → with_peer f m (drop k ps) ≡ f p ∷ with_peer f m (drop (k + 1) ps)
one_on f m ps k p within is same = rw (drop_more ps k p within, sym is, same) refl

pub changed_on : (f : Peer → Peer) (m : NodeId) (ps : List Peer) (k : ℕ) (p : Peer) → k < length ps → p ≡ get_or ps k p → bytes_eq p.id m ≡ true
    → take (k + 1) (set ps k (f p)) ++ with_peer f m (drop (k + 1) (set ps k (f p))) ≡ take k ps ++ with_peer f m (drop k ps)
changed_on f m ps k p within is same = rw (take-set_at ps k (k + 1) (f p) refl within, drop-set-lt (k + 1) ps k (f p) (omega arith), one_on f m ps k p within is same) (append_assoc (take k ps) (f p ∷ []) (with_peer f m (drop (k + 1) ps)))

pub changed_off : (f : Peer → Peer) (m : NodeId) (ps : List Peer) (k : ℕ) (p : Peer) → k < length ps → p ≡ get_or ps k p → bytes_eq p.id m ≡ false
    → take (k + 1) ps ++ with_peer f m (drop (k + 1) ps) ≡ take k ps ++ with_peer f m (drop k ps)
changed_off f m ps k p within is other = rw (take_more ps k p within, drop_more ps k p within, sym is, other) (append_assoc (take k ps) (p ∷ []) (with_peer f m (drop (k + 1) ps)))
