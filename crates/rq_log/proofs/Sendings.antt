-- Steps of the loop that marks peers.
use Rattle.std.proofs.Common.{◌≡◌, ℕ, ◌+◌, ◌<◌, Bool, true, false, List, [], ◌∷◌, ◌++◌, length, get_or, drop, take, set, refl, sym, append_assoc, arith}
use Rattle.std.specs.Prelude.{Some}
use Rattle.std.proofs.lemmas.List.{take_more, drop-set-lt, drop_more}
use Rattle.std.proofs.lemmas.Grind.{take-set_at}
use Rattle.rq_raft.specs.declared.peer.Peer.{Peer}
use Rattle.rq_raft.specs.Lead.{in_flight, probe_after}

flight_on : (f : Peer → Bool) (probe : ℕ) (ps : List Peer) (k : ℕ) (p : Peer) → k < length ps → p ≡ get_or ps k p → f p ≡ true
    → in_flight f probe (drop k ps) ≡ record p { flight = Some (probe + 1) } ∷ in_flight f (probe + 1) (drop (k + 1) ps)
flight_on f probe ps k p within is does = rw (drop_more ps k p within, sym is, does) refl

pub marked_on : (f : Peer → Bool) (probe : ℕ) (ps : List Peer) (k : ℕ) (p : Peer) → k < length ps → p ≡ get_or ps k p → f p ≡ true
    → take (k + 1) (set ps k (record p { flight = Some (probe + 1) })) ++ in_flight f (probe + 1) (drop (k + 1) (set ps k (record p { flight = Some (probe + 1) }))) ≡ take k ps ++ in_flight f probe (drop k ps)
marked_on f probe ps k p within is does = rw (take-set_at ps k (k + 1) (record p { flight = Some (probe + 1) }) refl within, drop-set-lt (k + 1) ps k (record p { flight = Some (probe + 1) }) (omega arith), flight_on f probe ps k p within is does) (append_assoc (take k ps) (record p { flight = Some (probe + 1) } ∷ []) (in_flight f (probe + 1) (drop (k + 1) ps)))

pub marked_off : (f : Peer → Bool) (probe : ℕ) (ps : List Peer) (k : ℕ) (p : Peer) → k < length ps → p ≡ get_or ps k p → f p ≡ false
    → take (k + 1) ps ++ in_flight f probe (drop (k + 1) ps) ≡ take k ps ++ in_flight f probe (drop k ps)
marked_off f probe ps k p within is other = rw (take_more ps k p within, drop_more ps k p within, sym is, other) (append_assoc (take k ps) (p ∷ []) (in_flight f probe (drop (k + 1) ps)))

pub after_on : (f : Peer → Bool) (probe : ℕ) (ps : List Peer) (k : ℕ) (p x : Peer) → k < length ps → p ≡ get_or ps k p → f p ≡ true
    → probe_after f (probe + 1) (drop (k + 1) (set ps k x)) ≡ probe_after f probe (drop k ps)
after_on f probe ps k p x within is does = rw (drop-set-lt (k + 1) ps k x (omega arith), drop_more ps k p within, sym is, does) refl

pub after_off : (f : Peer → Bool) (probe : ℕ) (ps : List Peer) (k : ℕ) (p : Peer) → k < length ps → p ≡ get_or ps k p → f p ≡ false
    → probe_after f probe (drop (k + 1) ps) ≡ probe_after f probe (drop k ps)
after_off f probe ps k p within is other = rw (drop_more ps k p within, sym is, other) refl
