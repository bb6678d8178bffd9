-- The rules of votes.
use Rattle.std.proofs.Common.{◌≡◌, ℕ, ◌+◌, ◌-◌, ◌^◌, ◌≤◌, ◌&&◌, ◌||◌, not, Bool, true, false, cond, List, [], ◌∷◌, length, Option, Some, None, refl, ap, sym, subst, ◌∙◌, inl, inr, arith}
use Rattle.std.specs.Prelude.{◌==◌, nat_lt, nat_le, bytes_eq, filter, map}
use Rattle.rq_history.specs.History.{NodeId, History, After, Was, last_term}
use Rattle.rq_history.specs.Moves.{IsUpToDate, Voted, Rise, Stand, Grant}
use Rattle.rq_raft.specs.declared.role.Role.{Role}
use Rattle.rq_raft.specs.declared.role.Role.TheVariants.{Follower, Candidate, Leader}
use Rattle.rq_raft.specs.Entries.{entry_view}
use Rattle.rq_raft.specs.Node.{RaftNode, VoteAsk, VoteSay, Packet, unchanged, packet, say, is_leader, is_candidate, one_of}
use Rattle.rq_raft.specs.Lead.{voters_now, leading}
use Rattle.rq_raft.specs.Vote.{higher_term, becomes_candidate, is_elected, vote_asks, campaigns, elect, may_vote, is_newer, grants, vote_request, counted, counts, vote_reply}
use Rattle.rq_raft.specs.Truth.{role_of, history_node, WasCandidate, MessageIsTrue, PacketsAreTrue}
use Rattle.rq_raft.proofs.Tests.{if_case, and_true, eq_true, le_true, lt_true, lt_false, id_true}
use Rattle.rq_raft.proofs.Given.{Given, Run}
use Rattle.rq_raft.proofs.Steps.{voted_on, true_on, StepTo, FitsIn, stay, was_shown, moved, moved_down}
use Rattle.rq_raft.proofs.Turns.{TurnOk, RestOk, rest_turn, rest_after, quiet_rest, said}
use Rattle.rq_raft.proofs.Leads.{leading_ok}

module _ {E : Type 0} (g : Given E) where
  asks_told : (h : History E) (n : RaftNode E) (ms : List NodeId) → Was h n.id (history_node n) → n.role ≡ Candidate → PacketsAreTrue g.entries h (map (λ (m : NodeId). packet n m (VoteAsk (length n.log) (last_term (entry_view g.entries) n.log))) ms)
  asks_told h n [] was cand = tt
  asks_told h n (m ∷ ms) was cand = (record { node = history_node n; was = was; stands = ap role_of cand; in_term = refl; last = refl; of_last = refl }, asks_told h n ms was cand)

  stood_ok : (h : History E) (i : NodeId) (n : RaftNode E) → Run g h → FitsIn g h i n → n.role ≡ Candidate → RestOk g h i n (campaigns g.entries g.first n)
  stood_ok h i n l f cand = if_case (RestOk g h i n) (is_elected g.entries g.first n) (leading g.entries g.first n) (vote_asks g.entries g.first n)
      (λ e. leading_ok g h i n l f cand e)
      (λ e.
      let was : Was h n.id (history_node n) = subst (λ (j : NodeId). Was h j (history_node n)) (sym f.id) (was_shown g h i n f) in
      record {
        term = refl;
        vote = refl;
        end = stay g h i n l f;
        packets_are_true = asks_told h n (filter (λ (m : NodeId). not (bytes_eq m n.id)) (voters_now g.entries g.first n)) was cand;
        stores = inl (refl, refl, refl);
      })

  pub elect_ok : (h : History E) (i : NodeId) (n : RaftNode E) → Run g h → FitsIn g h i n → TurnOk g h i n (elect g.entries g.first n)
  elect_ok h i n l f = if_case (TurnOk g h i n) (is_leader n.role || not (one_of (voters_now g.entries g.first n) n.id) || (n.term == 2 ^ 64 - 1)) (unchanged n) (campaigns g.entries g.first m)
      (λ e. rest_turn g h i n n (unchanged n) (stay g h i n l f) refl refl (quiet_rest g h i n l f))
      (λ e.
      let s = moved g h i n m l f (Stand refl (ap Some f.id) refl refl refl) (λ later is. record {
        id = f.id;
        is = is;
        done = f.done;
        based = f.based;
        votes = λ a v q. own v (one v q);
        peers = λ a. absurd (cc);
        first = λ a. absurd (cc);
      }) in
      rest_turn g h i n m (campaigns g.entries g.first m) s refl refl (stood_ok s.after i m s.lawful s.fits refl))
    where
      m : RaftNode E
      m = becomes_candidate n

      one : (v : NodeId) → one_of (n.id ∷ []) v ≡ true → v ≡ i
      one v q = go (bytes_eq v n.id) refl q
        where
          go : (b : Bool) → (bytes_eq v n.id) ≡ b → cond b true false ≡ true → v ≡ i
          go true p q = id_true v n.id p ∙ f.id
          go false p q = absurd (cc)

      own : (v : NodeId) → v ≡ i → Voted (After h i (history_node m)) v i (n.term + 1)
      own v e = record { ballot = history_node m; was = inl (e, refl); in_term = refl; for_c = ap Some f.id }

  newer_is : (h : History E) (n : RaftNode E) (p : Packet E) (last_index of_term : ℕ) (s : WasCandidate g.entries h p last_index of_term) → is_newer g.entries g.first n last_index of_term ≡ true → IsUpToDate (entry_view g.entries) s.node.log n.log
  newer_is h n p last_index of_term s e = go (nat_lt (last_term (entry_view g.entries) n.log) of_term) refl e
    where
      go : (b : Bool) → nat_lt (last_term (entry_view g.entries) n.log) of_term ≡ b → (b || ((last_term (entry_view g.entries) n.log == of_term) && nat_le (length n.log) last_index)) ≡ true → IsUpToDate (entry_view g.entries) s.node.log n.log
      go true q r = inl (omega (arith, lt_true (last_term (entry_view g.entries) n.log) of_term q, s.of_last))
      go false q r =
          let a = and_true (last_term (entry_view g.entries) n.log == of_term) (nat_le (length n.log) last_index) r in
          inr (eq_true (last_term (entry_view g.entries) n.log) of_term a.0 ∙ sym s.of_last, omega (arith, le_true (length n.log) last_index a.1, s.last))

  granted_ok : (h : History E) (i : NodeId) (n : RaftNode E) (p : Packet E) (last_index of_term : ℕ) → Run g h → FitsIn g h i n → WasCandidate g.entries h p last_index of_term → n.term ≡ p.term → is_newer g.entries g.first n last_index of_term ≡ true
      → (v : Option NodeId) → n.vote ≡ v → may_vote v p.from ≡ true → StepTo g h i (record n { vote = Some p.from })
  granted_ok h i n p last_index of_term l f s t new None e may =
      let m = record n { vote = Some p.from } in
      moved g h i n m l f (Grant p.from s.node s.was s.stands (s.in_term ∙ sym t) (newer_is h n p last_index of_term s new) e refl refl refl refl refl) (λ later is. record {
        id = f.id;
        is = is;
        done = f.done;
        based = f.based;
        votes = λ a v q. voted_on h (After h i (history_node m)) v i n.term later (f.votes a v q);
        peers = λ a. true_on h (After h i (history_node m)) n.term n.log n.peers later (f.peers a);
        first = f.first;
      })
  granted_ok h i n p last_index of_term l f s t new (Some v) e may =
      let same : n.vote ≡ Some p.from = e ∙ ap Some (id_true v p.from may) in
      stay g h i (record n { vote = Some p.from }) l (record { id = f.id; is = f.is ∙ ap (λ (x : Option NodeId). history_node (record n { vote = x })) same; done = f.done; based = f.based; votes = f.votes; peers = f.peers; first = f.first })

  pub vote_asked_ok : (h : History E) (i : NodeId) (n : RaftNode E) (p : Packet E) (last_index of_term : ℕ) → Run g h → FitsIn g h i n → WasCandidate g.entries h p last_index of_term → TurnOk g h i n (vote_request g.entries g.first n p last_index of_term)
  vote_asked_ok h i n p last_index of_term l f s =
      if_case (TurnOk g h i n) (grants g.entries g.first n p last_index of_term) (say (unchanged m) p.from (VoteSay true)) (say (unchanged n) p.from (VoteSay false))
      (λ e.
      let a = and_true ((n.term == p.term) && may_vote n.vote p.from) (is_newer g.entries g.first n last_index of_term) e in
      let b = and_true (n.term == p.term) (may_vote n.vote p.from) a.0 in
      let k = granted_ok h i n p last_index of_term l f s (eq_true n.term p.term b.0) a.1 n.vote refl b.1 in
      rest_turn g h i n m (say (unchanged m) p.from (VoteSay true)) k refl refl
      (said g k.after i m (unchanged m) p.from (VoteSay true) (quiet_rest g k.after i m k.lawful k.fits)
      (record { ballot = history_node m; was = subst (λ (j : NodeId). Was k.after j (history_node m)) (sym f.id) (was_shown g k.after i m k.fits); in_term = refl; for_c = refl })))
      (λ e. rest_turn g h i n n (say (unchanged n) p.from (VoteSay false)) (stay g h i n l f) refl refl
      (said g h i n (unchanged n) p.from (VoteSay false) (quiet_rest g h i n l f) tt))
    where
      m : RaftNode E
      m = record n { vote = Some p.from }

  pub vote_said_ok : (h : History E) (i : NodeId) (n : RaftNode E) (p : Packet E) (granted : Bool) → Run g h → FitsIn g h i n → p.to ≡ n.id → MessageIsTrue g.entries h p (VoteSay granted) → RestOk g h i n (vote_reply g.entries g.first n p granted)
  vote_said_ok h i n p granted l f to packets_are_true =
      if_case (RestOk g h i n) (counts g.entries g.first n p granted) (counted g.entries g.first m) (unchanged n)
      (λ e.
      let a = and_true (is_candidate n.role && (n.term == p.term) && granted && one_of (voters_now g.entries g.first n) p.from) (not (one_of n.votes p.from)) e in
      let b = and_true (is_candidate n.role && (n.term == p.term) && granted) (one_of (voters_now g.entries g.first n) p.from) a.0 in
      let d = and_true (is_candidate n.role && (n.term == p.term)) granted b.0 in
      let k = and_true (is_candidate n.role) (n.term == p.term) d.0 in
      let cand = candidate n.role k.0 in
      let v : Voted h p.from i n.term = vote (eq_true n.term p.term k.1) (subst (λ (x : Bool). MessageIsTrue g.entries h p (VoteSay x)) d.1 packets_are_true) in
      let fm = more (λ a w q. either w (bytes_eq w p.from) refl q v (λ k. f.votes a w k)) in
      rest_after g h i n m (counted g.entries g.first m) (stay g h i m l fm) refl refl refl refl
      (if_case (RestOk g h i m) (is_elected g.entries g.first m) (leading g.entries g.first m) (unchanged m)
      (λ q. leading_ok g h i m l fm cand q) (λ q. quiet_rest g h i m l fm)))
      (λ e. quiet_rest g h i n l f)
    where
      m : RaftNode E
      m = record n { votes = p.from ∷ n.votes }

      candidate : (r : Role) → is_candidate r ≡ true → r ≡ Candidate
      candidate Follower e = absurd (cc)
      candidate Candidate e = refl
      candidate Leader e = absurd (cc)

      vote : n.term ≡ p.term → Voted h p.from p.to p.term → Voted h p.from i n.term
      vote t w = record { ballot = w.ballot; was = w.was; in_term = w.in_term ∙ sym t; for_c = w.for_c ∙ ap Some (to ∙ f.id) }

      either : (w : NodeId) (b : Bool) → (bytes_eq w p.from) ≡ b → cond b true (one_of n.votes w) ≡ true → Voted h p.from i n.term → (one_of n.votes w ≡ true → Voted h w i n.term) → Voted h w i n.term
      either w true e q v old = subst (λ (k : NodeId). Voted h k i n.term) (sym (id_true w p.from e)) v
      either w false e q v old = old q

      more : (n.role ≡ Candidate → (w : NodeId) → one_of m.votes w ≡ true → Voted h w i n.term) → FitsIn g h i m
      more k = record { id = f.id; is = f.is; done = f.done; based = f.based; votes = k; peers = f.peers; first = f.first }

  -- Higher
  abbrev higher : RaftNode E → ℕ → RaftNode E
  higher n term = record n { term = term; vote = None; role = Follower; leader = None; votes = []; peers = [] }

  pub risen_ok : (h : History E) (i : NodeId) (n : RaftNode E) (term : ℕ) → Run g h → FitsIn g h i n → StepTo g h i (higher_term n term)
  risen_ok h i n term l f = if_case (StepTo g h i) (nat_lt n.term term) (higher n term) n
      (λ e. moved_down g h i n (higher n term) l f (Rise (lt_true n.term term e) refl refl refl refl) f.id f.done f.based refl)
      (λ e. stay g h i n l f)

  pub risen_same : (n : RaftNode E) (term : ℕ) → ((higher_term n term).log ≡ n.log) × ((higher_term n term).id ≡ n.id) × (term ≤ (higher_term n term).term) × ((higher_term n term).base ≡ n.base)
  risen_same n term = if_case (λ (m : RaftNode E). (m.log ≡ n.log) × (m.id ≡ n.id) × (term ≤ m.term) × (m.base ≡ n.base)) (nat_lt n.term term) (higher n term) n
      (λ e. (refl, refl, omega arith, refl)) (λ e. (refl, refl, lt_false n.term term e, refl))
