-- Steps of the loops that make tables.
use Rattle.std.proofs.Common.{◌≡◌, ℕ, ◌+◌, ◌<◌, Bool, true, false, cond, List, [], ◌∷◌, ◌++◌, length, get_or, drop, refl, sym, ap, ◌∙◌, append_assoc}
use Rattle.std.specs.Prelude.{bytes_eq}
use Rattle.std.proofs.lemmas.List.{drop_more}
use Rattle.rq_wire.specs.declared.config.Member.{Member}
use Rattle.rq_history.specs.History.{NodeId}
use Rattle.rq_raft.specs.declared.peer.Peer.{Peer}
use Rattle.rq_raft.specs.Lead.{peer_for, tables_for}

pub for_yes : (next : ℕ) (ps : List Peer) (k : ℕ) (p : Peer) (i : NodeId) → k < length ps → p ≡ get_or ps k p → bytes_eq p.id i ≡ true → peer_for next (drop k ps) i ≡ p
for_yes next ps k p i within is same = rw (drop_more ps k p within, sym is, same) refl

pub for_no : (next : ℕ) (ps : List Peer) (k : ℕ) (p : Peer) (i : NodeId) → k < length ps → p ≡ get_or ps k p → bytes_eq p.id i ≡ false → peer_for next (drop k ps) i ≡ peer_for next (drop (k + 1) ps) i
for_no next ps k p i within is other = rw (drop_more ps k p within, sym is, other) refl

at_place : (ms : List Member) (k : ℕ) (m : Member) → k < length ms → m ≡ get_or ms k m → drop k ms ≡ m ∷ drop (k + 1) ms
at_place ms k m within is = drop_more ms k m within ∙ ap (λ (x : Member). x ∷ drop (k + 1) ms) (sym is)

table_more : (id : NodeId) (next : ℕ) (ps : List Peer) (m : Member) (ms : List Member) (b : Bool) → bytes_eq m.id id ≡ b → tables_for id next ps (m ∷ ms) ≡ cond b (tables_for id next ps ms) (peer_for next ps m.id ∷ tables_for id next ps ms)
table_more id next ps m ms true e = rw e refl
table_more id next ps m ms false e = rw e refl

pub tables_on : (id : NodeId) (next : ℕ) (ps : List Peer) (ms : List Member) (k : ℕ) (m : Member) (a : List Peer) → k < length ms → m ≡ get_or ms k m → bytes_eq m.id id ≡ false
    → (a ++ peer_for next ps m.id ∷ []) ++ tables_for id next ps (drop (k + 1) ms) ≡ a ++ tables_for id next ps (drop k ms)
tables_on id next ps ms k m a within is other = append_assoc a (peer_for next ps m.id ∷ []) (tables_for id next ps (drop (k + 1) ms))
    ∙ ap (λ (l : List Peer). a ++ l) (sym (ap (tables_for id next ps) (at_place ms k m within is) ∙ table_more id next ps m (drop (k + 1) ms) false other))

pub tables_off : (id : NodeId) (next : ℕ) (ps : List Peer) (ms : List Member) (k : ℕ) (m : Member) → k < length ms → m ≡ get_or ms k m → bytes_eq m.id id ≡ true
    → tables_for id next ps (drop (k + 1) ms) ≡ tables_for id next ps (drop k ms)
tables_off id next ps ms k m within is same = sym (ap (tables_for id next ps) (at_place ms k m within is) ∙ table_more id next ps m (drop (k + 1) ms) true same)
