-- Steps of the loops over peers.
use Rattle.std.proofs.Common.{◌≡◌, ℕ, ◌+◌, ◌-◌, ◌<◌, Bool, true, false, cond, List, [], ◌∷◌, ◌++◌, length, get_or, drop, take, refl, sym, ap, ◌∙◌, arith}
use Rattle.std.specs.Prelude.{Some, nat_lt}
use Rattle.std.proofs.lemmas.Bool.Decides.{nat_tests}
use Rattle.std.proofs.lemmas.List.{drop_more}
use Rattle.rq_raft.specs.declared.peer.Peer.{Peer}
use Rattle.rq_log.specs.declared.moves.Outgoing.{Outgoing}
use Rattle.rq_wire.specs.declared.config.Member.{Member}
use Rattle.rq_raft.specs.Entries.{Entries}
use Rattle.rq_raft.specs.Node.{RaftNode, Packet, packet, Splice, Install}
use Rattle.rq_raft.specs.Lead.{sends, append_for, message_for}
use Rattle.rq_log.specs.Views.{packet_of, spell, stored_of}
use Rattle.std.proofs.Math.Seq.{drop-append_seam}

pub stored_last : {E : Type 0} (log : List E) (e : E) (from : ℕ) → from ≡ length log + 1 → stored_of (log ++ e ∷ []) (Some from) ≡ Splice (length log + 1) (e ∷ []) ∷ []
stored_last log e from is = let m : from - 1 ≡ length log = omega arith in
    ap (λ (l : List _). Splice from l ∷ []) (ap (λ (k : ℕ). drop k (log ++ e ∷ [])) m ∙ drop-append_seam log (e ∷ [])) ∙ ap (λ (k : ℕ). Splice k (e ∷ []) ∷ []) is

pub spell_more : {E : Type 0} (log : List E) (a : List Outgoing) (o : Outgoing) (rest : List (Packet E)) → spell log (a ++ o ∷ []) ++ rest ≡ spell log a ++ packet_of log o ∷ rest
spell_more log [] o rest = refl
spell_more log (x ∷ a) o rest = ap (λ (l : List (Packet _)). packet_of log x ∷ l) (spell_more log a o rest)

module _ {E : Type 0} (entries : Entries E) (first : List Member) where
  -- a core has no snapshot
  pub no_snapshot : (n : RaftNode E) (probe : ℕ) (p : Peer) → n.base ≡ 0 → message_for entries first n probe p ≡ append_for entries first n probe p
  no_snapshot n probe p e = let f : nat_lt (p.next - 1) n.base ≡ false = grind (arith, nat_tests, e) in ap (λ (b : Bool). cond b (Install probe (take n.base n.log)) (append_for entries first n probe p)) f

  pub sent_on : (n : RaftNode E) (f : Peer → Bool) (probe : ℕ) (ps : List Peer) (k : ℕ) (p : Peer) (a : List Outgoing) (o : Outgoing) → k < length ps → p ≡ get_or ps k p → f p ≡ true
      → packet_of n.log o ≡ packet n p.id (message_for entries first n (probe + 1) p)
      → spell n.log (a ++ o ∷ []) ++ sends entries first n f (probe + 1) (drop (k + 1) ps) ≡ spell n.log a ++ sends entries first n f probe (drop k ps)
  sent_on n f probe ps k p a o within is does same = spell_more n.log a o (sends entries first n f (probe + 1) (drop (k + 1) ps))
      ∙ ap (λ (x : Packet E). spell n.log a ++ x ∷ sends entries first n f (probe + 1) (drop (k + 1) ps)) same
      ∙ ap (λ (l : List (Packet E)). spell n.log a ++ l) (sym (here ∙ refl))
    where
      here : sends entries first n f probe (drop k ps) ≡ packet n p.id (message_for entries first n (probe + 1) p) ∷ sends entries first n f (probe + 1) (drop (k + 1) ps)
      here = rw (drop_more ps k p within, sym is, does) refl

  pub sent_off : (n : RaftNode E) (f : Peer → Bool) (probe : ℕ) (ps : List Peer) (k : ℕ) (p : Peer) → k < length ps → p ≡ get_or ps k p → f p ≡ false
      → sends entries first n f probe (drop (k + 1) ps) ≡ sends entries first n f probe (drop k ps)
  sent_off n f probe ps k p within is other = sym (rw (drop_more ps k p within, sym is, other) refl)
