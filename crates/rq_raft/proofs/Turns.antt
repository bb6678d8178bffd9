-- A turn of a node is a list of moves.
use Rattle.std.proofs.Common.{◌≡◌, ℕ, ◌-◌, List, [], ◌∷◌, ◌++◌, take, refl, ap, sym, ◌∙◌, inl, inr}
use Rattle.rq_history.specs.History.{NodeId, History}
use Rattle.rq_raft.specs.Node.{RaftNode, Message, RaftTurn, unchanged, packet, say}
use Rattle.rq_raft.specs.Truth.{MessageIsTrue, PacketsAreTrue, StoresLog, IsMoves}
use Rattle.rq_raft.proofs.Given.{Given, Run}
use Rattle.rq_raft.proofs.Steps.{all_more, StepTo, FitsIn, stay, and_then}

module _ {E : Type 0} (g : Given E) where
  abbrev pub TurnOk : History E → NodeId → RaftNode E → RaftTurn E → Type 0
  TurnOk h i n t = IsMoves g.entries g.first h i n t

-- the rest of a turn, in which term and vote stay
pub record RestOk {E : Type 0} (g : Given E) (h : History E) (i : NodeId) (n : RaftNode E) (t : RaftTurn E) : Type 0 where
  pub term : n.term ≡ t.node.term
  pub vote : n.vote ≡ t.node.vote
  pub end : StepTo g h i t.node
  pub packets_are_true : PacketsAreTrue g.entries end.after t.packets
  pub stores : StoresLog n.base n.log t

module _ {E : Type 0} (g : Given E) where
  pub stores_like : (c d : ℕ) (a b : List E) (t : RaftTurn E) → d ≡ c → b ≡ a → StoresLog d b t → StoresLog c a t
  stores_like c d a b t q e (inl p) = inl (p.0, p.1 ∙ e, p.2 ∙ q)
  stores_like c d a b t q e (inr (inl p)) = inr (inl (p.0, p.1, p.2, p.3 ∙ ap (λ (l : List E). take (p.0 - 1) l ++ p.1) e, p.4 ∙ q))
  stores_like c d a b t q e (inr (inr p)) = inr (inr p)

  pub rest_turn : (h : History E) (i : NodeId) (n m : RaftNode E) (t : RaftTurn E) (s : StepTo g h i m) → m.log ≡ n.log → m.base ≡ n.base → RestOk g s.after i m t → TurnOk g h i n t
  rest_turn h i n m t s e c r = record { mid = m; to_mid = s; term = r.term; vote = r.vote; log = e; base = c; end = r.end; packets_are_true = r.packets_are_true; stores = stores_like n.base m.base n.log m.log t c e r.stores }

  pub turn_after : (h : History E) (i : NodeId) (n m : RaftNode E) (t : RaftTurn E) (s : StepTo g h i m) → m.log ≡ n.log → m.base ≡ n.base → TurnOk g s.after i m t → TurnOk g h i n t
  turn_after h i n m t s e c r = record {
    mid = r.mid;
    to_mid = and_then g h i m r.mid s r.to_mid;
    term = r.term;
    vote = r.vote;
    log = r.log ∙ e;
    base = r.base ∙ c;
    end = r.end;
    packets_are_true = r.packets_are_true;
    stores = stores_like n.base m.base n.log m.log t c e r.stores;
  }

  abbrev pub quiet_rest : (h : History E) (i : NodeId) (n : RaftNode E) → Run g h → FitsIn g h i n → RestOk g h i n (unchanged n)
  quiet_rest h i n l f = record { term = refl; vote = refl; end = stay g h i n l f; packets_are_true = tt; stores = inl (refl, refl, refl) }

  -- one packet more
  abbrev pub said : (h : History E) (i : NodeId) (n : RaftNode E) (t : RaftTurn E) (to : NodeId) (m : Message E) (r : RestOk g h i n t)
      → MessageIsTrue g.entries r.end.after (packet t.node to m) m → RestOk g h i n (say t to m)
  said h i n t to m r packets_are_true = record {
    term = r.term;
    vote = r.vote;
    end = r.end;
    packets_are_true = all_more g.entries r.end.after t.packets (packet t.node to m ∷ []) r.packets_are_true (packets_are_true, tt);
    stores = r.stores;
  }

  -- a step that leaves term, vote and log, and then the rest
  pub rest_after : (h : History E) (i : NodeId) (n m : RaftNode E) (t : RaftTurn E) (s : StepTo g h i m) → m.term ≡ n.term → m.vote ≡ n.vote → m.log ≡ n.log → m.base ≡ n.base → RestOk g s.after i m t → RestOk g h i n t
  rest_after h i n m t s e v b c r = record { term = sym e ∙ r.term; vote = sym v ∙ r.vote; end = and_then g h i m t.node s r.end; packets_are_true = r.packets_are_true; stores = stores_like n.base m.base n.log m.log t c b r.stores }

  pub as_turn : (h : History E) (i : NodeId) (n : RaftNode E) (t : RaftTurn E) → Run g h → FitsIn g h i n → RestOk g h i n t → TurnOk g h i n t
  as_turn h i n t l f r = rest_turn h i n n t (stay g h i n l f) refl refl r
