-- A node within a history: its steps are moves.
use Rattle.std.proofs.Common.{◌≡◌, ◌≢◌, ◌⊎◌, ℕ, ◌≤◌, true, false, List, [], ◌∷◌, ◌++◌, refl, sym, ap, subst, ◌∙◌, inl, inr, ⊎_elim}
use Rattle.rq_history.specs.History.{NodeId, Node, History, After, Was, now, IsEarlier, Led}
use Rattle.rq_history.specs.Moves.{Move, Voted, Held}
use Rattle.rq_history.specs.Configurations.{newest_voters}
use Rattle.rq_raft.specs.declared.role.Role.TheVariants.{Follower, Leader}
use Rattle.rq_raft.specs.Entries.{Entries, voters, entry_view}
use Rattle.rq_raft.specs.declared.peer.Peer.{Peer}
use Rattle.rq_raft.specs.Node.{RaftNode, Message, VoteAsk, VoteSay, Append, AppendSay, Install, InstallSay, Packet}
use Rattle.rq_raft.specs.Truth.{history_node, IsCopied, WasCandidate, LeaderHad, HasCopy, MessageIsTrue, PacketsAreTrue, IsTrueOf, AllTrue, Refines, Step}
use Rattle.rq_raft.proofs.Given.{Given, Run}

module _ {E : Type 0} where
  pub held_on : (h k : History E) (v : NodeId) (t n : ℕ) (log : List E) → IsEarlier h k → Held h v t n log → Held k v t n log
  held_on h k v t n log l p = record { holder = p.holder; was = l v p.holder p.was; in_term = p.in_term; same = p.same }

  pub led_on : (h k : History E) (j : NodeId) (t : ℕ) (z : Node E) → IsEarlier h k → Led h j t z → Led k j t z
  led_on h k j t z l p = record { was = l j z p.was; leads = p.leads; in_term = p.in_term }

  pub voted_on : (h k : History E) (v c : NodeId) (t : ℕ) → IsEarlier h k → Voted h v c t → Voted k v c t
  voted_on h k v c t l p = record { ballot = p.ballot; was = l v p.ballot p.was; in_term = p.in_term; for_c = p.for_c }

  pub copied_on : (h k : History E) (v : NodeId) (t at : ℕ) (log : List E) → IsEarlier h k → IsCopied h v t at log → IsCopied k v t at log
  copied_on h k v t at log l (inl z) = inl z
  copied_on h k v t at log l (inr c) = inr (c.0, held_on h k v t at log l c.1)

  pub copy_on : (h k : History E) (p : Packet E) (at : ℕ) → IsEarlier h k → (at ≡ 0) ⊎ HasCopy h p at → (at ≡ 0) ⊎ HasCopy k p at
  copy_on h k p at l (inl z) = inl z
  copy_on h k p at l (inr c) = inr (record { who = c.who; leader = c.leader; led = led_on h k c.who p.term c.leader l c.led; fits = c.fits; held = held_on h k p.from p.term at c.leader.log l c.held })

  pub true_on : (h k : History E) (t : ℕ) (log : List E) (ps : List Peer) → IsEarlier h k → AllTrue h t log ps → AllTrue k t log ps
  true_on h k t log [] l a = tt
  true_on h k t log (p ∷ ps) l a = (record { copied = copied_on h k p.id t p.matched log l a.0.copied; next = a.0.next }, true_on h k t log ps l a.1)

  module _ (entries : Entries E) where
    pub told_on : (h k : History E) (p : Packet E) (m : Message E) → IsEarlier h k → MessageIsTrue entries h p m → MessageIsTrue entries k p m
    told_on h k p (VoteAsk i t) l s = record { node = s.node; was = l p.from s.node s.was; stands = s.stands; in_term = s.in_term; last = s.last; of_last = s.of_last }
    told_on h k p (VoteSay true) l s = voted_on h k p.from p.to p.term l s
    told_on h k p (VoteSay false) l s = s
    told_on h k p (Append prev t commit probe es) l s = record { leader = s.leader; led = led_on h k p.from p.term s.leader l s.led; fits = s.fits; at_prev = s.at_prev; are = s.are; committed = s.committed }
    told_on h k p (AppendSay true at probe) l s = copy_on h k p at l s
    told_on h k p (AppendSay false at probe) l s = s
    told_on h k p (Install probe list) l s = record { leader = s.leader; led = led_on h k p.from p.term s.leader l s.led; fits = s.fits; at_prev = s.at_prev; are = s.are; committed = s.committed }
    told_on h k p (InstallSay at probe) l s = copy_on h k p at l s

    pub all_on : (h k : History E) (ps : List (Packet E)) → IsEarlier h k → PacketsAreTrue entries h ps → PacketsAreTrue entries k ps
    all_on h k [] l s = s
    all_on h k (p ∷ ps) l s = (told_on h k p p.message l s.0, all_on h k ps l s.1)

    pub all_more : (h : History E) (ps qs : List (Packet E)) → PacketsAreTrue entries h ps → PacketsAreTrue entries h qs → PacketsAreTrue entries h (ps ++ qs)
    all_more h [] qs s t = t
    all_more h (p ∷ ps) qs s t = (s.0, all_more h ps qs s.1 t)

module _ {E : Type 0} (g : Given E) where
  abbrev pub StepTo : History E → NodeId → RaftNode E → Type 0
  StepTo h i n = Step g.entries g.first h i n

  abbrev pub FitsIn : History E → NodeId → RaftNode E → Type 0
  FitsIn h i n = Refines g.entries h i n

  abbrev pub MoveTo : History E → NodeId → Node E → Node E → Type 0
  MoveTo h i x y = Move (entry_view g.entries) (newest_voters (entry_view g.entries) (voters g.first)) h i x y

  abbrev pub stay : (h : History E) (i : NodeId) (n : RaftNode E) → Run g h → FitsIn h i n → StepTo h i n
  stay h i n l f = record { after = h; lawful = l; later = λ j x w. w; others = λ j d. refl; fits = f }

  abbrev pub and_then : (h : History E) (i : NodeId) (m n : RaftNode E) (s : StepTo h i m) → StepTo s.after i n → StepTo h i n
  and_then h i m n s t = record { after = t.after; lawful = t.lawful; later = λ j x w. t.later j x (s.later j x w); others = λ j d. t.others j d ∙ s.others j d; fits = t.fits }

  pub was_shown : (h : History E) (i : NodeId) (n : RaftNode E) → FitsIn h i n → Was h i (history_node n)
  was_shown h i n f = subst (λ (x : Node E). Was h i x) f.is ((g.moments h i).0)

  pub leads_shown : (h : History E) (i : NodeId) (n : RaftNode E) → FitsIn h i n → n.role ≡ Leader → Led h i n.term (history_node n)
  leads_shown h i n f r = record { was = was_shown h i n f; leads = ap Rattle.rq_raft.specs.Truth.role_of r; in_term = refl }

  now_self : (h : History E) (i : NodeId) (y : Node E) → now (After h i y) i ≡ y
  now_self h i y = ⊎_elim (λ (p : (i ≡ i) × (now (After h i y) i ≡ y)). p.1) (λ (p : (i ≢ i) × (now (After h i y) i ≡ now h i)). absurd (p.0 refl)) (g.local h i i y)

  unmoved : (h : History E) (i j : NodeId) (y : Node E) → j ≢ i → now (After h i y) j ≡ now h j
  unmoved h i j y d = ⊎_elim (λ (p : (j ≡ i) × (now (After h i y) j ≡ y)). absurd (d p.0)) (λ (p : (j ≢ i) × (now (After h i y) j ≡ now h j)). p.1) (g.local h i j y)

  -- one move
  pub moved : (h : History E) (i : NodeId) (m n : RaftNode E) → Run g h → FitsIn h i m → MoveTo h i (history_node m) (history_node n)
      → (IsEarlier h (After h i (history_node n)) → now (After h i (history_node n)) i ≡ history_node n → FitsIn (After h i (history_node n)) i n) → StepTo h i n
  moved h i m n l f v k = record {
    after = After h i (history_node n);
    lawful = (l, subst (λ (x : Node E). MoveTo h i x (history_node n)) (sym f.is) v);
    later = λ j x w. inr w;
    others = λ j d. unmoved h i j (history_node n) d;
    fits = k (λ j x w. inr w) (now_self h i (history_node n));
  }

  -- who neither stands nor leads has little to show
  pub moved_down : (h : History E) (i : NodeId) (m n : RaftNode E) → Run g h → FitsIn h i m → MoveTo h i (history_node m) (history_node n)
      → n.id ≡ i → n.applied ≤ n.commit → n.base ≤ n.applied → n.role ≡ Follower → StepTo h i n
  moved_down h i m n l f v id d b r = moved h i m n l f v (λ later is. record { id = id; is = is; done = d; based = b; votes = λ q. absurd (cc); peers = λ q. absurd (cc); first = λ q. absurd (cc) })
