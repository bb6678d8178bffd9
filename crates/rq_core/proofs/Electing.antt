-- Steps of the loops over members in an election.
use Rattle.std.proofs.Common.{◌≡◌, ℕ, ◌+◌, ◌<◌, Bool, true, false, ◌&&◌, List, [], ◌∷◌, ◌++◌, length, get_or, drop, refl, sym, ap, ◌∙◌}
use Rattle.std.specs.Prelude.{not, bytes_eq}
use Rattle.std.proofs.lemmas.List.{drop_more}
use Rattle.rq_wire.specs.declared.config.Member.{Member}
use Rattle.rq_history.specs.History.{EntryView, last_term}
use Rattle.rq_log.specs.declared.moves.Outgoing.{Outgoing}
use Rattle.rq_raft.specs.Node.{RaftNode, Packet, packet, VoteAsk}
use Rattle.rq_log.specs.Views.{packet_of, spell}
use Rattle.rq_core.specs.Asks.{asks}
use Rattle.rq_core.proofs.Sendings.{spell_more}

at_place : (ms : List Member) (k : ℕ) (m : Member) → k < length ms → m ≡ get_or ms k m → drop k ms ≡ m ∷ drop (k + 1) ms
at_place ms k m within is = drop_more ms k m within ∙ ap (λ (x : Member). x ∷ drop (k + 1) ms) (sym is)

module _ {E : Type 0} (view : EntryView E) where
  one_more : (n : RaftNode E) (m : Member) (ms : List Member) (v b : Bool) → m.voter ≡ v → bytes_eq m.id n.id ≡ b → (v && not b) ≡ true → asks view n (m ∷ ms) ≡ packet n m.id (VoteAsk (length n.log) (last_term view n.log)) ∷ asks view n ms
  one_more n m ms true false e f t = rw (e, f) refl
  one_more n m ms true true e f t = absurd (cc (t))
  one_more n m ms false b e f t = absurd (cc (t))

  no_more : (n : RaftNode E) (m : Member) (ms : List Member) (v b : Bool) → m.voter ≡ v → bytes_eq m.id n.id ≡ b → (v && not b) ≡ false → asks view n (m ∷ ms) ≡ asks view n ms
  no_more n m ms true false e f t = absurd (cc (t))
  no_more n m ms true true e f t = rw (e, f) refl
  no_more n m ms false b e f t = rw e refl

  pub asks_on : (n : RaftNode E) (ms : List Member) (k : ℕ) (m : Member) (a : List Outgoing) (o : Outgoing) → k < length ms → m ≡ get_or ms k m → (m.voter && not (bytes_eq m.id n.id)) ≡ true
      → packet_of n.log o ≡ packet n m.id (VoteAsk (length n.log) (last_term view n.log))
      → spell n.log (a ++ o ∷ []) ++ asks view n (drop (k + 1) ms) ≡ spell n.log a ++ asks view n (drop k ms)
  asks_on n ms k m a o within is does same = spell_more n.log a o (asks view n (drop (k + 1) ms))
      ∙ ap (λ (x : Packet E). spell n.log a ++ x ∷ asks view n (drop (k + 1) ms)) same
      ∙ ap (λ (l : List (Packet E)). spell n.log a ++ l) (sym (ap (asks view n) (at_place ms k m within is) ∙ one_more n m (drop (k + 1) ms) m.voter (bytes_eq m.id n.id) refl refl does))

  pub asks_off : (n : RaftNode E) (ms : List Member) (k : ℕ) (m : Member) → k < length ms → m ≡ get_or ms k m → (m.voter && not (bytes_eq m.id n.id)) ≡ false
      → asks view n (drop (k + 1) ms) ≡ asks view n (drop k ms)
  asks_off n ms k m within is other = sym (ap (asks view n) (at_place ms k m within is) ∙ no_more n m (drop (k + 1) ms) m.voter (bytes_eq m.id n.id) refl refl other)
