-- What a node does with a packet is a list of moves, and so is a stop within any turn.
use Rattle.std.proofs.Common.{◌≡◌, ℕ, suc, zero, ◌-◌, ◌≤◌, ◌&&◌, true, false, List, [], ◌∷◌, ◌++◌, take, Option, Some, None, refl, ap, sym, subst, ◌∙◌, inl, inr, arith}
use Rattle.std.specs.Prelude.{◌==◌}
use Rattle.rq_history.specs.History.{NodeId, History}
use Rattle.rq_history.specs.Moves.{Fall}
use Rattle.rq_raft.specs.Node.{RaftNode, Message, VoteAsk, VoteSay, Append, AppendSay, Install, InstallSay, Packet, StoredRecord, Vote, Splice, Replace, Persistent, persistent_with, persistent_after, RaftTurn, unchanged, same_vote, all_stored, started}
use Rattle.rq_raft.specs.Vote.{higher_term}
use Rattle.rq_raft.specs.Deliver.{is_far, by_message, receive}
use Rattle.rq_raft.specs.Truth.{MessageIsTrue, StoresLog}
use Rattle.rq_raft.proofs.Tests.{if_case, and_true, eq_true, id_true}
use Rattle.rq_raft.proofs.Given.{Given, Run}
use Rattle.rq_raft.proofs.Steps.{told_on, StepTo, FitsIn, and_then, moved_down}
use Rattle.rq_raft.proofs.Turns.{TurnOk, turn_after, quiet_rest, as_turn}
use Rattle.rq_raft.proofs.Leads.{append_said_ok}
use Rattle.rq_raft.proofs.Votes.{vote_asked_ok, vote_said_ok, risen_ok, risen_same}
use Rattle.rq_raft.proofs.Follows.{append_ok}
use Rattle.rq_raft.proofs.Installs.{install_ok}

module _ {E : Type 0} (g : Given E) where
  by_message_ok : (h : History E) (i : NodeId) (n : RaftNode E) (moment : ℕ) (p : Packet E) (m : Message E) → Run g h → FitsIn g h i n → p.to ≡ n.id → p.term ≤ n.term → MessageIsTrue g.entries h p m → TurnOk g h i n (by_message g.entries g.first n moment p m)
  by_message_ok h i n moment p (VoteAsk a t) l f to le packets_are_true = vote_asked_ok g h i n p a t l f packets_are_true
  by_message_ok h i n moment p (VoteSay b) l f to le packets_are_true = as_turn g h i n (by_message g.entries g.first n moment p (VoteSay b)) l f (vote_said_ok g h i n p b l f to packets_are_true)
  by_message_ok h i n moment p (Append prev t k probe es) l f to le packets_are_true = as_turn g h i n (by_message g.entries g.first n moment p (Append prev t k probe es)) l f (append_ok g h i n moment p prev t k probe es l f packets_are_true le)
  by_message_ok h i n moment p (AppendSay true at probe) l f to le packets_are_true = as_turn g h i n (by_message g.entries g.first n moment p (AppendSay true at probe)) l f (append_said_ok g h i n p true at probe l f (λ e. packets_are_true))
  by_message_ok h i n moment p (AppendSay false at probe) l f to le packets_are_true = as_turn g h i n (by_message g.entries g.first n moment p (AppendSay false at probe)) l f (append_said_ok g h i n p false at probe l f (λ e. absurd (cc)))
  by_message_ok h i n moment p (Install probe list) l f to le packets_are_true = as_turn g h i n (by_message g.entries g.first n moment p (Install probe list)) l f (install_ok g h i n moment p probe list l f packets_are_true le)
  by_message_ok h i n moment p (InstallSay at probe) l f to le packets_are_true = as_turn g h i n (by_message g.entries g.first n moment p (InstallSay at probe)) l f (append_said_ok g h i n p true at probe l f (λ e. packets_are_true))

  pub receive_ok : (h : History E) (i : NodeId) (n : RaftNode E) (moment : ℕ) (p : Packet E) → Run g h → FitsIn g h i n → p.to ≡ n.id → MessageIsTrue g.entries h p p.message → TurnOk g h i n (receive g.entries g.first n moment p)
  receive_ok h i n moment p l f to packets_are_true = if_case (TurnOk g h i n) (is_far p.message) (unchanged n) (by_message g.entries g.first (higher_term n p.term) moment p p.message)
      (λ e. as_turn g h i n (unchanged n) l f (quiet_rest g h i n l f))
      (λ e.
      let s = risen_ok g h i n p.term l f in
      let same = risen_same g n p.term in
      turn_after g h i n (higher_term n p.term) (by_message g.entries g.first (higher_term n p.term) moment p p.message) s same.0 same.3
      (by_message_ok s.after i (higher_term n p.term) moment p p.message s.lawful s.fits (to ∙ sym same.1) same.2 (told_on g.entries h s.after p p.message s.later packets_are_true)))

  -- ---- stops

  -- what is kept is the node's
  pub record Keeps (kept : Persistent E) (term : ℕ) (vote : Option NodeId) (base : ℕ) (log : List E) : Type 0 where
    pub term_is : kept.term ≡ term
    pub vote_is : kept.vote ≡ vote
    pub base_is : kept.base ≡ base
    pub log_is : kept.log ≡ log

  -- who falls keeps what is stored
  pub fall_to : (h : History E) (i : NodeId) (m : RaftNode E) (kept : Persistent E) → Run g h → FitsIn g h i m → Keeps kept m.term m.vote m.base m.log → StepTo g h i (started i kept)
  fall_to h i m kept l f k = moved_down g h i m (started i kept) l f (Fall k.term_is k.vote_is refl k.log_is (omega (arith, k.base_is, f.based, f.done))) refl (omega arith) (omega arith) refl

  -- behind the vote
  stop_rest : (h : History E) (i : NodeId) (n : RaftNode E) (t : RaftTurn E) (r : TurnOk g h i n t) (kept : Persistent E) → Keeps kept r.mid.term r.mid.vote n.base n.log → (k : ℕ) → StepTo g h i (started i (persistent_after kept (take k t.stored)))
  stop_rest h i n t r kept keeps k = go r.stores
    where
      at_mid : StepTo g h i (started i kept)
      at_mid = and_then g h i r.mid (started i kept) r.to_mid (fall_to r.to_mid.after i r.mid kept r.to_mid.lawful r.to_mid.fits (record { term_is = keeps.term_is; vote_is = keeps.vote_is; base_is = keeps.base_is ∙ sym r.base; log_is = keeps.log_is ∙ sym r.log }))

      at_end : (full : Persistent E) → Keeps full r.mid.term r.mid.vote t.node.base t.node.log → StepTo g h i (started i full)
      at_end full e =
          let s = and_then g h i r.mid t.node r.to_mid r.end in
          and_then g h i t.node (started i full) s (fall_to r.end.after i t.node full r.end.lawful r.end.fits (record { term_is = e.term_is ∙ r.term; vote_is = e.vote_is ∙ r.vote; base_is = e.base_is; log_is = e.log_is }))

      none : (k : ℕ) → StepTo g h i (started i (persistent_after kept (take k [])))
      none zero = at_mid
      none (suc k) = at_mid

      one : (from : ℕ) (es : List E) → t.node.log ≡ take (from - 1) n.log ++ es → t.node.base ≡ n.base → StepTo g h i (started i (persistent_with kept (Splice from es)))
      one from es e b = at_end (persistent_with kept (Splice from es)) (record { term_is = keeps.term_is; vote_is = keeps.vote_is; base_is = keeps.base_is ∙ sym b; log_is = ap (λ (l : List E). take (from - 1) l ++ es) keeps.log_is ∙ sym e })

      first : (k from : ℕ) (es : List E) → t.node.log ≡ take (from - 1) n.log ++ es → t.node.base ≡ n.base → StepTo g h i (started i (persistent_after kept (take k (Splice from es ∷ []))))
      first zero from es e b = at_mid
      first (suc zero) from es e b = one from es e b
      first (suc (suc k)) from es e b = one from es e b

      -- the new file stands whole, or the old one does
      new : (k : ℕ) → StepTo g h i (started i (persistent_after kept (take k (Replace t.node.base t.node.log ∷ []))))
      new zero = at_mid
      new (suc zero) = at_end (persistent_with kept (Replace t.node.base t.node.log)) (record { term_is = keeps.term_is; vote_is = keeps.vote_is; base_is = refl; log_is = refl })
      new (suc (suc k)) = at_end (persistent_with kept (Replace t.node.base t.node.log)) (record { term_is = keeps.term_is; vote_is = keeps.vote_is; base_is = refl; log_is = refl })

      go : StoresLog n.base n.log t → StepTo g h i (started i (persistent_after kept (take k t.stored)))
      go (inl p) = subst (λ (x : List (StoredRecord E)). StepTo g h i (started i (persistent_after kept (take k x)))) (sym p.0) (none k)
      go (inr (inl p)) = subst (λ (x : List (StoredRecord E)). StepTo g h i (started i (persistent_after kept (take k x)))) (sym p.2) (first k p.0 p.1 p.3 p.4)
      go (inr (inr p)) = subst (λ (x : List (StoredRecord E)). StepTo g h i (started i (persistent_after kept (take k x)))) (sym p) (new k)

  vote_same : (a b : Option NodeId) → same_vote a b ≡ true → a ≡ b
  vote_same None None e = refl
  vote_same None (Some b) e = absurd (cc)
  vote_same (Some a) None e = absurd (cc)
  vote_same (Some a) (Some b) e = ap Some (id_true a b e)

  -- a stop behind the first k things that a turn stores
  pub stop_ok : (h : History E) (i : NodeId) (n : RaftNode E) (kept : Persistent E) (t : RaftTurn E) (k : ℕ) → Run g h → FitsIn g h i n → Keeps kept n.term n.vote n.base n.log → TurnOk g h i n t → StepTo g h i (started i (persistent_after kept (take k (all_stored n t))))
  stop_ok h i n kept t k l f keeps r = if_case (λ (d : List (StoredRecord E)). StepTo g h i (started i (persistent_after kept (take k d)))) ((n.term == t.node.term) && same_vote n.vote t.node.vote) t.stored (Vote t.node.term t.node.vote ∷ t.stored)
      (λ e.
      let a = and_true (n.term == t.node.term) (same_vote n.vote t.node.vote) e in
      stop_rest h i n t r kept (record {
        term_is = keeps.term_is ∙ eq_true n.term t.node.term a.0 ∙ sym r.term;
        vote_is = keeps.vote_is ∙ vote_same n.vote t.node.vote a.1 ∙ sym r.vote;
        base_is = keeps.base_is;
        log_is = keeps.log_is;
      }) k)
      (λ e. voted k)
    where
      voted : (k : ℕ) → StepTo g h i (started i (persistent_after kept (take k (Vote t.node.term t.node.vote ∷ t.stored))))
      voted zero = fall_to h i n kept l f keeps
      voted (suc k) = stop_rest h i n t r (persistent_with kept (Vote t.node.term t.node.vote)) (record { term_is = sym r.term; vote_is = sym r.vote; base_is = keeps.base_is; log_is = keeps.log_is }) k
