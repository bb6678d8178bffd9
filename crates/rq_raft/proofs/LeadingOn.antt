-- What a turn keeps of a node that leads.
use Rattle.std.proofs.Common.{◌≡◌, ℕ, ◌+◌, ◌-◌, ◌^◌, ◌<◌, ◌⊎◌, ◌&&◌, ◌||◌, not, Bool, true, false, cond, List, [], ◌∷◌, ◌++◌, take, drop, length, min, Some, None, refl, ap, ◌∙◌, inl, inr, arith}
use Rattle.std.specs.Prelude.{◌==◌, nat_lt, nat_le}
use Rattle.std.proofs.lemmas.List.{take-append-le, take_all}
use Rattle.rq_wire.specs.declared.config.Member.{Member}
use Rattle.rq_history.specs.History.{NodeId}
use Rattle.rq_raft.specs.declared.role.Role.{Role}
use Rattle.rq_raft.specs.declared.role.Role.TheVariants.{Follower, Candidate, Leader}
use Rattle.rq_raft.specs.Entries.{Entries}
use Rattle.rq_raft.specs.declared.peer.Peer.{Peer}
use Rattle.rq_raft.specs.Node.{RaftNode, Message, VoteAsk, VoteSay, Append, AppendSay, Install, InstallSay, Packet, RaftTurn, unchanged, say, is_leader, is_candidate, one_of}
use Rattle.rq_raft.specs.Lead.{voters_now, send, committed, appended, is_idle, followed, propose, beat, leading, replied, takes_reply, append_reply}
use Rattle.rq_raft.specs.Vote.{higher_term, becomes_candidate, is_elected, vote_asks, campaigns, elect, grants, vote_request, counted, counts, vote_reply}
use Rattle.rq_raft.specs.Append.{matching_count, corrected_term, corrected_entries, becomes_follower, with_commit, spliced, append_missing, has_prev, append_in_term, append}
use Rattle.rq_raft.specs.Deliver.{is_far, by_message, receive}
use Rattle.rq_raft.specs.Laws.{LeadsOn, Installed, ReceivesOn, Appends, LeadOn}
use Rattle.rq_raft.specs.Install.{has_last, replaced, installs, install}
use Rattle.rq_raft.proofs.Tests.{if_case, and_true}

module _ {E : Type 0} (entries : Entries E) (first : List Member) where
  -- nothing is applied, and it doesn't lead afterwards
  abbrev Down : RaftNode E → RaftTurn E → Type 0
  Down n t = (t.node.applied ≡ n.applied) × (t.node.role ≡ Leader → Prim.⊥)

  -- a packet was taken in, and the node doesn't lead afterwards
  abbrev pub DownBy : RaftNode E → Message E → RaftTurn E → Type 0
  DownBy n m t = ((t.node.applied ≡ n.applied) ⊎ Installed entries first n m t) × (t.node.role ≡ Leader → Prim.⊥)

  abbrev By : RaftNode E → Message E → RaftTurn E → Type 0
  By n m t = ReceivesOn entries first n m t

  abbrev On : RaftNode E → RaftTurn E → Type 0
  On n t = LeadsOn entries first n t

  quiet_on : (n : RaftNode E) → On n (unchanged n)
  quiet_on n = (refl, λ a b. (refl, refl))

  pub not_leader : (n : RaftNode E) → is_leader n.role ≡ false → n.role ≡ Leader → Prim.⊥
  not_leader n e q = let t : is_leader n.role ≡ true = ap is_leader q in cc

  applied_same : (n : RaftNode E) → (campaigns entries first n).node.applied ≡ n.applied
  applied_same n = if_case (λ (t : RaftTurn E). t.node.applied ≡ n.applied) (is_elected entries first n) (leading entries first n) (vote_asks entries first n) (λ e. refl) (λ e. refl)

  elects : (n : RaftNode E) → On n (elect entries first n)
  elects n = go (is_leader n.role) refl
    where
      rest : Bool
      rest = not (one_of (voters_now entries first n) n.id) || (n.term == 2 ^ 64 - 1)

      go : (b : Bool) → is_leader n.role ≡ b → On n (cond (b || not (one_of (voters_now entries first n) n.id) || (n.term == 2 ^ 64 - 1)) (unchanged n) (campaigns entries first (becomes_candidate n)))
      go true e = quiet_on n
      go false e = if_case (On n) (not (one_of (voters_now entries first n) n.id) || (n.term == 2 ^ 64 - 1)) (unchanged n) (campaigns entries first (becomes_candidate n))
          (λ q. quiet_on n) (λ q. (applied_same (becomes_candidate n), λ a b. absurd (not_leader n e a)))

  beats : (n : RaftNode E) → On n (beat entries first n)
  beats n = if_case (On n) (is_leader n.role) (send entries first (λ p. true) (unchanged n)) (unchanged n) (λ e. (refl, λ a b. (refl, refl))) (λ e. quiet_on n)

  proposes : (n : RaftNode E) (e : E) → n.role ≡ Leader → Appends entries first n e (propose entries first n e)
  proposes n e r = if_case (Appends entries first n e) (is_leader n.role) (committed entries first (send entries first (λ (p : Peer). is_idle p.flight) (appended (followed entries first n e) e))) (unchanged n)
      (λ q. (refl, r, refl, refl)) (λ q. absurd (not_leader n q r))

  -- ---- a packet at a leader of its term, or of a later one

  asked_on : (n : RaftNode E) (p : Packet E) (i t : ℕ) → On n (vote_request entries first n p i t)
  asked_on n p i t = if_case (On n) (grants entries first n p i t) (say (unchanged (record n { vote = Some p.from })) p.from (VoteSay true)) (say (unchanged n) p.from (VoteSay false))
      (λ e. (refl, λ a b. (refl, refl))) (λ e. (refl, λ a b. (refl, refl)))

  counted_applied : (n : RaftNode E) → (counted entries first n).node.applied ≡ n.applied
  counted_applied n = if_case (λ (t : RaftTurn E). t.node.applied ≡ n.applied) (is_elected entries first n) (leading entries first n) (unchanged n) (λ e. refl) (λ e. refl)

  vote_on : (n : RaftNode E) (p : Packet E) (granted : Bool) → On n (vote_reply entries first n p granted)
  vote_on n p granted = if_case (On n) (counts entries first n p granted) (counted entries first (record n { votes = p.from ∷ n.votes })) (unchanged n)
      (λ e. (counted_applied (record n { votes = p.from ∷ n.votes }), λ a b. absurd (no_candidate e a)))
      (λ e. quiet_on n)
    where
      no_candidate : counts entries first n p granted ≡ true → n.role ≡ Leader → Prim.⊥
      no_candidate e a = at n.role a ((and_true (is_candidate n.role) (n.term == p.term) (and_true (is_candidate n.role && (n.term == p.term)) granted (and_true (is_candidate n.role && (n.term == p.term) && granted) (one_of (voters_now entries first n) p.from) (and_true (is_candidate n.role && (n.term == p.term) && granted && one_of (voters_now entries first n) p.from) (not (one_of n.votes p.from)) e).0).0).0).0)
        where
          at : (r : Role) → r ≡ Leader → is_candidate r ≡ true → Prim.⊥
          at Follower q c = cc
          at Candidate q c = cc
          at Leader q c = cc

  took_applied : (n : RaftNode E) (prev commit : ℕ) (es : List E) → ((append_missing entries n prev commit es).node.applied ≡ n.applied) × ((append_missing entries n prev commit es).node.role ≡ n.role)
  took_applied n prev commit es = if_case (λ (t : RaftTurn E). (t.node.applied ≡ n.applied) × (t.node.role ≡ n.role)) (matching_count entries n.log prev es == length es) (unchanged (with_commit n commit (prev + length es))) (spliced entries n prev commit es (matching_count entries n.log prev es))
      (λ e. (refl, refl)) (λ e. (refl, refl))

  pub here_down : (n : RaftNode E) (from : NodeId) (prev t commit probe : ℕ) (es : List E) → n.role ≡ Follower → Down n (append_in_term entries n from prev t commit probe es)
  here_down n from prev t commit probe es r = if_case (Down n) (has_prev entries n prev (corrected_term entries n prev t)) (say (append_missing entries n prev commit (corrected_entries entries n prev es)) from (AppendSay true (prev + length es) probe)) (say (unchanged n) from (AppendSay false (min (prev - 1) (length n.log)) probe))
      (λ e. let k = took_applied n prev commit (corrected_entries entries n prev es) in (k.0, λ q. differ k.1 q))
      (λ e. (refl, λ q. cc))
    where
      differ : (append_missing entries n prev commit (corrected_entries entries n prev es)).node.role ≡ n.role → (append_missing entries n prev commit (corrected_entries entries n prev es)).node.role ≡ Leader → Prim.⊥
      differ a b = cc

  append_on : (n : RaftNode E) (moment : ℕ) (p : Packet E) (prev t commit probe : ℕ) (es : List E) → On n (append entries n moment p prev t commit probe es)
  append_on n moment p prev t commit probe es = if_case (On n) (nat_lt p.term n.term) (say (unchanged n) p.from (AppendSay false 0 0)) (cond (is_leader n.role) (unchanged n) (append_in_term entries (becomes_follower n p.from moment) p.from prev t commit probe es))
      (λ e. (refl, λ a b. (refl, refl)))
      (λ e. if_case (On n) (is_leader n.role) (unchanged n) (append_in_term entries (becomes_follower n p.from moment) p.from prev t commit probe es)
      (λ q. quiet_on n)
      (λ q. let d = here_down (becomes_follower n p.from moment) p.from prev t commit probe es refl in (d.0, λ a b. absurd (d.1 b))))

  replied_on : (n : RaftNode E) (from : NodeId) (ok : Bool) (at probe : ℕ) → On n (replied entries first n from ok at probe)
  replied_on n from true at probe = (refl, λ a b. (refl, refl))
  replied_on n from false at probe = (refl, λ a b. (refl, refl))

  said_on : (n : RaftNode E) (p : Packet E) (ok : Bool) (at probe : ℕ) → On n (append_reply entries first n p ok at probe)
  said_on n p ok at probe = if_case (On n) (is_leader n.role && takes_reply n p at) (replied entries first n p.from ok at probe) (unchanged n)
      (λ e. replied_on n p.from ok at probe) (λ e. quiet_on n)

  by_on : (n : RaftNode E) (m : Message E) (t : RaftTurn E) → On n t → By n m t
  by_on n m t o = (inl o.0, o.1)

  list_prefix : (list more : List E) → take (length list) (list ++ more) ≡ list
  list_prefix list more = take-append-le (length list) list more (omega arith) ∙ take_all (length list) list (omega arith)

  taken_down : (n m : RaftNode E) (probe : ℕ) (list : List E) → m.commit ≡ n.commit → m.applied ≡ n.applied → m.role ≡ Follower → DownBy n (Install probe list) (installs entries m list)
  taken_down n m probe list commit applied r = if_case (DownBy n (Install probe list)) (nat_le (length list) m.commit) (unchanged m) (replaced entries m list)
      (λ e. (inl applied, λ q. becomes_follower m.role r q))
      (λ e. let beyond = lt_of (length list) m.commit e in (inr (omega (arith, beyond, commit), refl, list_prefix list (if_else (has_last entries m list) (drop (length list) m.log)), r), λ q. becomes_follower m.role r q))
    where
      becomes_follower : (x : Role) → x ≡ Follower → x ≡ Leader → Prim.⊥
      becomes_follower x a b = cc

      lt_of : (a b : ℕ) → nat_le a b ≡ false → b < a
      lt_of a b e = grind (arith, e)

      if_else : Bool → List E → List E
      if_else b l = cond b l []

  install_down : (n : RaftNode E) (moment : ℕ) (p : Packet E) (probe : ℕ) (list : List E) → n.role ≡ Follower → DownBy n (Install probe list) (install entries n moment p probe list)
  install_down n moment p probe list r = if_case (DownBy n (Install probe list)) (nat_lt p.term n.term) (say (unchanged n) p.from (InstallSay 0 0)) (cond (is_leader n.role) (unchanged n) (say (installs entries (becomes_follower n p.from moment) list) p.from (InstallSay (length list) probe)))
      (λ e. (inl refl, λ q. no n.role r q))
      (λ e. if_case (DownBy n (Install probe list)) (is_leader n.role) (unchanged n) (say (installs entries (becomes_follower n p.from moment) list) p.from (InstallSay (length list) probe))
      (λ q. (inl refl, λ q. no n.role r q))
      (λ q. taken_down n (becomes_follower n p.from moment) probe list refl refl refl))
    where
      no : (x : Role) → x ≡ Follower → x ≡ Leader → Prim.⊥
      no x a b = cc

  install_on : (n : RaftNode E) (moment : ℕ) (p : Packet E) (probe : ℕ) (list : List E) → By n (Install probe list) (install entries n moment p probe list)
  install_on n moment p probe list = if_case (By n (Install probe list)) (nat_lt p.term n.term) (say (unchanged n) p.from (InstallSay 0 0)) (cond (is_leader n.role) (unchanged n) (say (installs entries (becomes_follower n p.from moment) list) p.from (InstallSay (length list) probe)))
      (λ e. (inl refl, λ a b. (refl, refl)))
      (λ e. if_case (By n (Install probe list)) (is_leader n.role) (unchanged n) (say (installs entries (becomes_follower n p.from moment) list) p.from (InstallSay (length list) probe))
      (λ q. (inl refl, λ a b. (refl, refl)))
      (λ q. let d = taken_down n (becomes_follower n p.from moment) probe list refl refl refl in (d.0, λ a b. absurd (d.1 b))))

  message_on : (n : RaftNode E) (moment : ℕ) (p : Packet E) (m : Message E) → By n m (by_message entries first n moment p m)
  message_on n moment p (VoteAsk i t) = by_on n (VoteAsk i t) (vote_request entries first n p i t) (asked_on n p i t)
  message_on n moment p (VoteSay granted) = by_on n (VoteSay granted) (vote_reply entries first n p granted) (vote_on n p granted)
  message_on n moment p (Append prev t commit probe es) = by_on n (Append prev t commit probe es) (append entries n moment p prev t commit probe es) (append_on n moment p prev t commit probe es)
  message_on n moment p (AppendSay ok at probe) = by_on n (AppendSay ok at probe) (append_reply entries first n p ok at probe) (said_on n p ok at probe)
  message_on n moment p (Install probe list) = install_on n moment p probe list
  message_on n moment p (InstallSay at probe) = by_on n (InstallSay at probe) (append_reply entries first n p true at probe) (said_on n p true at probe)

  reply_down : (n : RaftNode E) (p : Packet E) (ok : Bool) (at probe : ℕ) → n.role ≡ Follower → Down n (append_reply entries first n p ok at probe)
  reply_down n p ok at probe r = if_case (Down n) (is_leader n.role && takes_reply n p at) (replied entries first n p.from ok at probe) (unchanged n)
      (λ e. absurd (leads ((and_true (is_leader n.role) (takes_reply n p at) e).0))) (λ e. (refl, λ q. cc))
    where
      leads : is_leader n.role ≡ true → Prim.⊥
      leads e = let t : is_leader n.role ≡ false = ap is_leader r in cc

  ask_down : (n : RaftNode E) (p : Packet E) (i t : ℕ) → n.role ≡ Follower → Down n (vote_request entries first n p i t)
  ask_down n p i t r = if_case (Down n) (grants entries first n p i t) (say (unchanged (record n { vote = Some p.from })) p.from (VoteSay true)) (say (unchanged n) p.from (VoteSay false)) (λ e. (refl, λ q. cc)) (λ e. (refl, λ q. cc))

  vote_down : (n : RaftNode E) (p : Packet E) (granted : Bool) → n.role ≡ Follower → Down n (vote_reply entries first n p granted)
  vote_down n p granted r = if_case (Down n) (counts entries first n p granted) (counted entries first (record n { votes = p.from ∷ n.votes })) (unchanged n)
      (λ e. absurd (no_candidate e)) (λ e. (refl, λ q. cc))
    where
      no_candidate : counts entries first n p granted ≡ true → Prim.⊥
      no_candidate e = at n.role r ((and_true (is_candidate n.role) (n.term == p.term) (and_true (is_candidate n.role && (n.term == p.term)) granted (and_true (is_candidate n.role && (n.term == p.term) && granted) (one_of (voters_now entries first n) p.from) (and_true (is_candidate n.role && (n.term == p.term) && granted && one_of (voters_now entries first n) p.from) (not (one_of n.votes p.from)) e).0).0).0).0)
        where
          at : (r : Role) → r ≡ Follower → is_candidate r ≡ true → Prim.⊥
          at Follower q c = cc
          at Candidate q c = cc
          at Leader q c = cc

  append_down : (n : RaftNode E) (moment : ℕ) (p : Packet E) (prev t commit probe : ℕ) (es : List E) → n.role ≡ Follower → Down n (append entries n moment p prev t commit probe es)
  append_down n moment p prev t commit probe es r = if_case (Down n) (nat_lt p.term n.term) (say (unchanged n) p.from (AppendSay false 0 0)) (cond (is_leader n.role) (unchanged n) (append_in_term entries (becomes_follower n p.from moment) p.from prev t commit probe es))
      (λ e. (refl, λ q. cc))
      (λ e. if_case (Down n) (is_leader n.role) (unchanged n) (append_in_term entries (becomes_follower n p.from moment) p.from prev t commit probe es)
      (λ q. (refl, λ q. cc))
      (λ q. here_down (becomes_follower n p.from moment) p.from prev t commit probe es refl))

  by_down : (n : RaftNode E) (m : Message E) (t : RaftTurn E) → Down n t → DownBy n m t
  by_down n m t o = (inl o.0, o.1)

  -- a follower doesn't come to lead by a packet
  pub message_down : (n : RaftNode E) (moment : ℕ) (p : Packet E) (m : Message E) → n.role ≡ Follower → DownBy n m (by_message entries first n moment p m)
  message_down n moment p (VoteAsk i t) r = by_down n (VoteAsk i t) (vote_request entries first n p i t) (ask_down n p i t r)
  message_down n moment p (VoteSay granted) r = by_down n (VoteSay granted) (vote_reply entries first n p granted) (vote_down n p granted r)
  message_down n moment p (Append prev t commit probe es) r = by_down n (Append prev t commit probe es) (append entries n moment p prev t commit probe es) (append_down n moment p prev t commit probe es r)
  message_down n moment p (AppendSay ok at probe) r = by_down n (AppendSay ok at probe) (append_reply entries first n p ok at probe) (reply_down n p ok at probe r)
  message_down n moment p (Install probe list) r = install_down n moment p probe list r
  message_down n moment p (InstallSay at probe) r = by_down n (InstallSay at probe) (append_reply entries first n p true at probe) (reply_down n p true at probe r)

  receives : (n : RaftNode E) (moment : ℕ) (p : Packet E) → By n p.message (receive entries first n moment p)
  receives n moment p = if_case (By n p.message) (is_far p.message) (unchanged n) (by_message entries first (higher_term n p.term) moment p p.message)
      (λ e. by_on n p.message (unchanged n) (quiet_on n))
      (λ e. if_case (λ (m : RaftNode E). By n p.message (by_message entries first m moment p p.message)) (nat_lt n.term p.term) (record n { term = p.term; vote = None; role = Follower; leader = None; votes = []; peers = [] }) n
      (λ q. let d = message_down (record n { term = p.term; vote = None; role = Follower; leader = None; votes = []; peers = [] }) moment p p.message refl in (same_installed p.message (by_message entries first high moment p p.message) d.0, λ a b. absurd (d.1 b)))
      (λ q. message_on n moment p p.message))
    where
      high : RaftNode E
      high = record n { term = p.term; vote = None; role = Follower; leader = None; votes = []; peers = [] }

      same_installed : (m : Message E) (t : RaftTurn E) → (t.node.applied ≡ n.applied) ⊎ Installed entries first (record n { term = p.term; vote = None; role = Follower; leader = None; votes = []; peers = [] }) m t → (t.node.applied ≡ n.applied) ⊎ Installed entries first n m t
      same_installed m t (inl a) = inl a
      same_installed (VoteAsk i u) t (inr a) = inr a
      same_installed (VoteSay granted) t (inr a) = inr a
      same_installed (Append prev u commit probe es) t (inr a) = inr a
      same_installed (AppendSay ok at probe) t (inr a) = inr a
      same_installed (Install probe list) t (inr a) = inr a
      same_installed (InstallSay at probe) t (inr a) = inr a

  pub lead_on : LeadOn entries first
  lead_on = record { elects = elects; beats = beats; receives = receives; proposes = proposes }
