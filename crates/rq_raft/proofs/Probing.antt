-- What the rules do to the probe counter and to what was acknowledged.
use Rattle.std.proofs.Common.{◌≡◌, ℕ, ◌+◌, ◌-◌, ◌^◌, ◌<◌, ◌≤◌, ◌&&◌, ◌||◌, not, Bool, true, false, cond, List, [], ◌∷◌, ◌++◌, length, take, min, max, Option, Some, None, refl, sym, subst, ◌∙◌, inl, inr, ⊎_elim, arith}
use Rattle.std.specs.Prelude.{◌==◌, nat_lt, nat_le, bytes_eq, filter, map, ⊤}
use Rattle.std.proofs.lemmas.Bool.{cases_lt}
use Rattle.rq_wire.specs.declared.config.Member.{Member}
use Rattle.rq_history.specs.History.{NodeId, last_term}
use Rattle.rq_raft.specs.declared.role.Role.{Role}
use Rattle.rq_raft.specs.declared.role.Role.TheVariants.{Follower, Candidate, Leader}
use Rattle.rq_raft.specs.Entries.{Entries, entry_view, configuration}
use Rattle.rq_raft.specs.declared.peer.Peer.{Peer}
use Rattle.rq_raft.specs.Node.{RaftNode, Message, VoteAsk, VoteSay, Append, AppendSay, Install, InstallSay, Packet, RaftTurn, unchanged, packet, say, is_leader, is_candidate, one_of, has_peer, with_peer}
use Rattle.rq_raft.specs.Lead.{voters_now, sends, in_flight, probe_after, append_for, message_for, send, committed, appended, is_idle, peer_for, tables_after, followed, propose, beat, becomes_leader, leading, after_ok, after_no, wants_more, waits_for, replied, takes_reply, append_reply}
use Rattle.rq_raft.specs.Vote.{higher_term, becomes_candidate, is_elected, vote_asks, campaigns, elect, grants, vote_request, counted, counts, vote_reply}
use Rattle.rq_raft.specs.Install.{replaced, installs, install}
use Rattle.rq_raft.specs.Append.{matching_count, corrected_term, corrected_entries, becomes_follower, with_commit, spliced, append_missing, has_prev, append_in_term, append}
use Rattle.rq_raft.specs.Deliver.{is_far, by_message, receive}
use Rattle.rq_raft.specs.Probes.{HasProbe, Replies, Says, AllSigned, AllHeard, SaysHeard, Probes, heard_by, Comes, LeadersCome, KeepProbes}
use Rattle.rq_raft.proofs.Tests.{if_case, and_true, eq_true, id_true, lt_false}
use Rattle.rq_raft.proofs.LeadingOn.{not_leader, here_down, message_down}

module _ {E : Type 0} (entries : Entries E) (first : List Member) where
  after_more : (wanted : Peer → Bool) (probe : ℕ) (ps : List Peer) → probe ≤ probe_after wanted probe ps
  after_more wanted probe [] = omega arith
  after_more wanted probe (p ∷ ps) = if_case (λ (k : ℕ). probe ≤ k) (wanted p) (probe_after wanted (probe + 1) ps) (probe_after wanted probe ps)
      (λ e. let a = after_more wanted (probe + 1) ps in omega (arith, a)) (λ e. after_more wanted probe ps)

  -- what a leader sends is signed by the node that it is afterwards
  all_signed : (n m : RaftNode E) (d : Option (Packet E)) (wanted : Peer → Bool) (probe : ℕ) (ps : List Peer) → n.id ≡ m.id → n.term ≡ m.term → m.role ≡ Leader → probe_after wanted probe ps ≤ m.probe
      → AllSigned m d (sends entries first n wanted probe ps)
  all_signed n m d wanted probe [] a b r le = tt
  all_signed n m d wanted probe (p ∷ ps) a b r le = at (wanted p) le (λ k more. all_signed n m d wanted k ps a b r more)
    where
      sent : (p : Peer) (k : ℕ) → k ≤ m.probe → Says m d (message_for entries first n k p)
      sent p k le = if_case (Says m d) (nat_lt (p.next - 1) n.base) (Install k (take n.base n.log)) (append_for entries first n k p) (λ _. (r, le)) (λ _. (r, le))

      at : (w : Bool) → cond w (probe_after wanted (probe + 1) ps) (probe_after wanted probe ps) ≤ m.probe
          → ((k : ℕ) → probe_after wanted k ps ≤ m.probe → AllSigned m d (sends entries first n wanted k ps))
          → AllSigned m d (cond w (packet n p.id (message_for entries first n (probe + 1) p) ∷ sends entries first n wanted (probe + 1) ps) (sends entries first n wanted probe ps))
      at true le more = let up = after_more wanted (probe + 1) ps in (record { from = a; term = b; says = sent p (probe + 1) (omega (arith, up, le)) }, more (probe + 1) le)
      at false le more = more probe le

  module _ (heard : NodeId → Type 0) (mark : ℕ) where
    heard_flight : (wanted : Peer → Bool) (probe : ℕ) (ps : List Peer) → AllHeard heard mark ps → AllHeard heard mark (in_flight wanted probe ps)
    heard_flight wanted probe [] a = tt
    heard_flight wanted probe (p ∷ ps) a = if_case (AllHeard heard mark) (wanted p) (record p { flight = Some (probe + 1) } ∷ in_flight wanted (probe + 1) ps) (p ∷ in_flight wanted probe ps)
        (λ _. (a.0, heard_flight wanted (probe + 1) ps a.1)) (λ _. (a.0, heard_flight wanted probe ps a.1))

    heard_fresh : (next : ℕ) (ms : List Member) → AllHeard heard mark (map (λ (m : Member). record { id = m.id; next = next; matched = 0; acked = 0; flight = None }) ms)
    heard_fresh next [] = tt
    heard_fresh next (m ∷ ms) = (λ lt. absurd (omega (arith, lt)), heard_fresh next ms)

    heard_for : (next : ℕ) (ps : List Peer) (v : NodeId) → AllHeard heard mark ps → mark < (peer_for next ps v).acked → heard (peer_for next ps v).id
    heard_for next [] v a = λ lt. absurd (omega (arith, lt))
    heard_for next (p ∷ ps) v a = if_case (λ (q : Peer). mark < q.acked → heard q.id) (bytes_eq p.id v) p (peer_for next ps v) (λ e. a.0) (λ e. heard_for next ps v a.1)

    heard_tables : (next : ℕ) (ps : List Peer) (ms : List Member) → AllHeard heard mark ps → AllHeard heard mark (map (λ (m : Member). peer_for next ps m.id) ms)
    heard_tables next ps [] a = tt
    heard_tables next ps (m ∷ ms) a = (heard_for next ps m.id a, heard_tables next ps ms a)

    heard_after : (id : NodeId) (next : ℕ) (ps : List Peer) (o : Option (List Member)) → AllHeard heard mark ps → AllHeard heard mark (tables_after id next ps o)
    heard_after id next ps None a = a
    heard_after id next ps (Some members) a = heard_tables next ps (filter (λ (m : Member). not (bytes_eq m.id id)) members) a

    heard_with : (change : Peer → Peer) (v : NodeId) (ps : List Peer) → ((p : Peer) → p.id ≡ v → (mark < p.acked → heard p.id) → mark < (change p).acked → heard (change p).id) → AllHeard heard mark ps → AllHeard heard mark (with_peer change v ps)
    heard_with change v [] c a = tt
    heard_with change v (p ∷ ps) c a = (
      if_case (λ (q : Peer). mark < q.acked → heard q.id) (bytes_eq p.id v) (change p) p (λ e. c p (id_true p.id v e) a.0) (λ e. a.0),
      heard_with change v ps c a.1,
    )

    abbrev Ok : RaftNode E → Option (Packet E) → RaftTurn E → Type 0
    Ok n d t = Probes n d t × (t.node.role ≡ Leader → AllHeard heard mark t.node.peers)

    abbrev Old : RaftNode E → Type 0
    Old n = n.role ≡ Leader → AllHeard heard mark n.peers

    quiet_ok : (n : RaftNode E) (d : Option (Packet E)) → Old n → Ok n d (unchanged n)
    quiet_ok n d old = (record { id = refl; signed = tt; rises = λ a b. omega arith }, old)

    -- one who didn't lead comes to lead
    leading_ok : (n m : RaftNode E) (d : Option (Packet E)) → m.id ≡ n.id → (n.role ≡ Leader → Prim.⊥) → Ok n d (leading entries first m)
    leading_ok n m d same no_lead =
        let k = becomes_leader entries first m in
        let t = leading entries first m in (
          record {
            id = same;
            signed = all_signed (appended k (entries.empty m.term)).node t.node d (λ p. true) 0 k.peers refl refl refl (omega arith);
            rises = λ a b. absurd (no_lead a);
          },
          λ b. heard_flight (λ p. true) 0 k.peers (heard_fresh (length m.log + 1) (filter (λ (x : Member). not (bytes_eq x.id m.id)) (configuration entries first m.log))),
        )

    asks_signed : (n m : RaftNode E) (d : Option (Packet E)) (ms : List NodeId) → AllSigned n d (map (λ (j : NodeId). packet n j (VoteAsk (length n.log) (last_term (entry_view entries) n.log))) ms)
    asks_signed n m d [] = tt
    asks_signed n m d (j ∷ js) = (record { from = refl; term = refl; says = tt }, asks_signed n m d js)

    elect_ok : (n : RaftNode E) → Old n → Ok n None (elect entries first n)
    elect_ok n old = go (is_leader n.role) refl
      where
        go : (b : Bool) → is_leader n.role ≡ b → Ok n None (cond (b || not (one_of (voters_now entries first n) n.id) || (n.term == 2 ^ 64 - 1)) (unchanged n) (campaigns entries first (becomes_candidate n)))
        go true e = quiet_ok n None old
        go false e = if_case (Ok n None) (not (one_of (voters_now entries first n) n.id) || (n.term == 2 ^ 64 - 1)) (unchanged n) (campaigns entries first (becomes_candidate n))
            (λ _. quiet_ok n None old)
            (λ _. if_case (Ok n None) (is_elected entries first (becomes_candidate n)) (leading entries first (becomes_candidate n)) (vote_asks entries first (becomes_candidate n))
            (λ _. leading_ok n (becomes_candidate n) None refl (not_leader entries first n e))
            (λ _. (
              record {
                id = refl;
                signed = asks_signed (becomes_candidate n) n None (filter (λ (m : NodeId). not (bytes_eq m n.id)) (voters_now entries first (becomes_candidate n)));
                rises = λ a b. absurd (not_leader entries first n e a);
              },
              λ b. absurd (cc),
            )))

    -- a leader sends
    sends_ok : (n m : RaftNode E) (d : Option (Packet E)) (wanted : Peer → Bool) (t : RaftTurn E) → t.packets ≡ [] → t.node.id ≡ n.id → t.node.role ≡ Leader → t.node.probe ≡ n.probe → AllHeard heard mark t.node.peers → Ok n d (send entries first wanted t)
    sends_ok n m d wanted t none id r p a = (
      record {
        id = id;
        signed = subst (λ (ps : List (Packet E)). AllSigned (send entries first wanted t).node d (ps ++ sends entries first t.node wanted t.node.probe t.node.peers)) (sym none) (all_signed t.node (send entries first wanted t).node d wanted t.node.probe t.node.peers refl refl r (omega arith));
        rises = λ x y. let up = after_more wanted t.node.probe t.node.peers in omega (arith, up, p);
      },
      λ b. heard_flight wanted t.node.probe t.node.peers a,
    )

    beat_ok : (n : RaftNode E) → Old n → Ok n None (beat entries first n)
    beat_ok n old = go n.role refl
      where
        go : (r : Role) → n.role ≡ r → Ok n None (cond (is_leader r) (send entries first (λ p. true) (unchanged n)) (unchanged n))
        go Follower e = quiet_ok n None old
        go Candidate e = quiet_ok n None old
        go Leader e = sends_ok n n None (λ p. true) (unchanged n) refl refl e refl (old e)

    -- a commit changes neither packets nor peers
    committed_same : (n : RaftNode E) (d : Option (Packet E)) (t : RaftTurn E) → Ok n d t → Ok n d (committed entries first t)
    committed_same n d t o = (record { id = o.0.id; signed = signed t.packets o.0.signed; rises = o.0.rises }, o.1)
      where
        m : RaftNode E
        m = (committed entries first t).node

        says : (k : Message E) → Says t.node d k → Says m d k
        says (VoteAsk i u) s = s
        says (VoteSay granted) s = s
        says (Append prev u commit probe es) s = s
        says (AppendSay ok at probe) (inl z) = inl z
        says (AppendSay ok at probe) (inr z) = inr (replies d probe z)
          where
            replies : (d : Option (Packet E)) (probe : ℕ) → Replies t.node d probe → Replies m d probe
            replies None probe r = r
            replies (Some p) probe r = r
        says (Install probe list) s = s
        says (InstallSay at probe) (inl z) = inl z
        says (InstallSay at probe) (inr z) = inr (replies d probe z)
          where
            replies : (d : Option (Packet E)) (probe : ℕ) → Replies t.node d probe → Replies m d probe
            replies None probe r = r
            replies (Some p) probe r = r

        signed : (qs : List (Packet E)) → AllSigned t.node d qs → AllSigned m d qs
        signed [] s = tt
        signed (q ∷ qs) s = (record { from = s.0.from; term = s.0.term; says = says q.message s.0.says }, signed qs s.1)

    propose_ok : (n : RaftNode E) (e : E) → Old n → Ok n None (propose entries first n e)
    propose_ok n e old = go n.role refl
      where
        m : RaftNode E
        m = followed entries first n e

        go : (r : Role) → n.role ≡ r → Ok n None (cond (is_leader r) (committed entries first (send entries first (λ (p : Peer). is_idle p.flight) (appended m e))) (unchanged n))
        go Follower q = quiet_ok n None old
        go Candidate q = quiet_ok n None old
        go Leader q = committed_same n None (send entries first (λ (p : Peer). is_idle p.flight) (appended m e)) (sends_ok n n None (λ (p : Peer). is_idle p.flight) (appended m e) refl refl q refl (heard_after n.id (length n.log + 1) n.peers (entries.members_of e) (old q)))

    -- ---- a packet

    asked_ok : (n : RaftNode E) (p : Packet E) (i u : ℕ) → Old n → Ok n (Some p) (vote_request entries first n p i u)
    asked_ok n p i u old = if_case (Ok n (Some p)) (grants entries first n p i u) (say (unchanged (record n { vote = Some p.from })) p.from (VoteSay true)) (say (unchanged n) p.from (VoteSay false))
        (λ e. (record { id = refl; signed = (record { from = refl; term = refl; says = tt }, tt); rises = λ a b. omega arith }, old))
        (λ e. (record { id = refl; signed = (record { from = refl; term = refl; says = tt }, tt); rises = λ a b. omega arith }, old))

    voted_ok : (n : RaftNode E) (p : Packet E) (granted : Bool) → Old n → Ok n (Some p) (vote_reply entries first n p granted)
    voted_ok n p granted old = if_case (Ok n (Some p)) (counts entries first n p granted) (counted entries first m) (unchanged n)
        (λ e. if_case (Ok n (Some p)) (is_elected entries first m) (leading entries first m) (unchanged m)
        (λ _. leading_ok n m (Some p) refl (candidate n.role (cand e)))
        (λ _. (record { id = refl; signed = tt; rises = λ a b. omega arith }, old)))
        (λ e. quiet_ok n (Some p) old)
      where
        m : RaftNode E
        m = record n { votes = p.from ∷ n.votes }

        cand : counts entries first n p granted ≡ true → is_candidate n.role ≡ true
        cand e = (and_true (is_candidate n.role) (n.term == p.term) (and_true (is_candidate n.role && (n.term == p.term)) granted (and_true (is_candidate n.role && (n.term == p.term) && granted) (one_of (voters_now entries first n) p.from) (and_true (is_candidate n.role && (n.term == p.term) && granted && one_of (voters_now entries first n) p.from) (not (one_of n.votes p.from)) e).0).0).0).0

        candidate : (r : Role) → is_candidate r ≡ true → r ≡ Leader → Prim.⊥
        candidate Follower e q = cc
        candidate Candidate e q = cc
        candidate Leader e q = cc

    took : (n : RaftNode E) (prev commit : ℕ) (es : List E) → ((append_missing entries n prev commit es).node.id ≡ n.id) × ((append_missing entries n prev commit es).node.term ≡ n.term) × ((append_missing entries n prev commit es).node.role ≡ n.role) × ((append_missing entries n prev commit es).packets ≡ [])
    took n prev commit es = if_case (λ (t : RaftTurn E). (t.node.id ≡ n.id) × (t.node.term ≡ n.term) × (t.node.role ≡ n.role) × (t.packets ≡ [])) (matching_count entries n.log prev es == length es) (unchanged (with_commit n commit (prev + length es))) (spliced entries n prev commit es (matching_count entries n.log prev es))
        (λ e. (refl, refl, refl, refl)) (λ e. (refl, refl, refl, refl))

    here_ok : (n m : RaftNode E) (p : Packet E) (prev u commit probe : ℕ) (es : List E) → m.id ≡ n.id → m.role ≡ Follower → p.term ≡ m.term → HasProbe p.message probe → Ok n (Some p) (append_in_term entries m p.from prev u commit probe es)
    here_ok n m p prev u commit probe es same r t has = if_case (Ok n (Some p)) (has_prev entries m prev (corrected_term entries m prev u)) (say (append_missing entries m prev commit (corrected_entries entries m prev es)) p.from (AppendSay true (prev + length es) probe)) (say (unchanged m) p.from (AppendSay false (min (prev - 1) (length m.log)) probe))
        (λ e. taken (append_missing entries m prev commit (corrected_entries entries m prev es)) (took m prev commit (corrected_entries entries m prev es)).0 (took m prev commit (corrected_entries entries m prev es)).1 (took m prev commit (corrected_entries entries m prev es)).2 (took m prev commit (corrected_entries entries m prev es)).3)
        (λ e. (record { id = same; signed = (record { from = refl; term = refl; says = inr (t, has) }, tt); rises = λ a b. absurd (no_lead m.role r b) }, λ b. absurd (no_lead m.role r b)))
      where
        no_lead : (x : Role) → x ≡ Follower → x ≡ Leader → Prim.⊥
        no_lead x a b = cc

        taken : (t2 : RaftTurn E) → t2.node.id ≡ m.id → t2.node.term ≡ m.term → t2.node.role ≡ m.role → t2.packets ≡ [] → Ok n (Some p) (say t2 p.from (AppendSay true (prev + length es) probe))
        taken t2 a b c none = (
          record {
            id = a ∙ same;
            signed = subst (λ (ps : List (Packet E)). AllSigned t2.node (Some p) (ps ++ packet t2.node p.from (AppendSay true (prev + length es) probe) ∷ [])) (sym none) (record { from = refl; term = refl; says = inr (t ∙ sym b, has) }, tt);
            rises = λ x y. absurd (no_lead t2.node.role (c ∙ r) y);
          },
          λ y. absurd (no_lead t2.node.role (c ∙ r) y),
        )

    append_ok : (n : RaftNode E) (moment : ℕ) (p : Packet E) (prev u commit probe : ℕ) (es : List E) → p.term ≤ n.term → HasProbe p.message probe → Old n → Ok n (Some p) (append entries n moment p prev u commit probe es)
    append_ok n moment p prev u commit probe es le has old = if_case (Ok n (Some p)) (nat_lt p.term n.term) (say (unchanged n) p.from (AppendSay false 0 0)) (cond (is_leader n.role) (unchanged n) (append_in_term entries (becomes_follower n p.from moment) p.from prev u commit probe es))
        (λ e. (record { id = refl; signed = (record { from = refl; term = refl; says = inl refl }, tt); rises = λ a b. omega arith }, old))
        (λ e. if_case (Ok n (Some p)) (is_leader n.role) (unchanged n) (append_in_term entries (becomes_follower n p.from moment) p.from prev u commit probe es)
        (λ _. quiet_ok n (Some p) old)
        (λ _. here_ok n (becomes_follower n p.from moment) p prev u commit probe es refl refl (omega (arith, le, lt_false p.term n.term e)) has))

    -- a snapshot
    taken_same : (n : RaftNode E) (list : List E) → ((installs entries n list).node.id ≡ n.id) × ((installs entries n list).node.term ≡ n.term) × ((installs entries n list).node.role ≡ n.role) × ((installs entries n list).packets ≡ [])
    taken_same n list = if_case (λ (t : RaftTurn E). (t.node.id ≡ n.id) × (t.node.term ≡ n.term) × (t.node.role ≡ n.role) × (t.packets ≡ [])) (nat_le (length list) n.commit) (unchanged n) (replaced entries n list)
        (λ e. (refl, refl, refl, refl)) (λ e. (refl, refl, refl, refl))

    install_ok : (n : RaftNode E) (moment : ℕ) (p : Packet E) (probe : ℕ) (list : List E) → p.term ≤ n.term → HasProbe p.message probe → Old n → Ok n (Some p) (install entries n moment p probe list)
    install_ok n moment p probe list le has old = if_case (Ok n (Some p)) (nat_lt p.term n.term) (say (unchanged n) p.from (InstallSay 0 0)) (cond (is_leader n.role) (unchanged n) (say (installs entries (becomes_follower n p.from moment) list) p.from (InstallSay (length list) probe)))
        (λ e. (record { id = refl; signed = (record { from = refl; term = refl; says = inl refl }, tt); rises = λ a b. omega arith }, old))
        (λ e. if_case (Ok n (Some p)) (is_leader n.role) (unchanged n) (say (installs entries (becomes_follower n p.from moment) list) p.from (InstallSay (length list) probe))
        (λ _. quiet_ok n (Some p) old)
        (λ _.
        let m = becomes_follower n p.from moment in
        let s = taken_same m list in
        taken m (installs entries m list) s.0 s.1 s.2 s.3 refl refl (omega (arith, le, lt_false p.term n.term e))))
      where
        no_lead : (x : Role) → x ≡ Follower → x ≡ Leader → Prim.⊥
        no_lead x a b = cc

        taken : (m : RaftNode E) (t2 : RaftTurn E) → t2.node.id ≡ m.id → t2.node.term ≡ m.term → t2.node.role ≡ m.role → t2.packets ≡ [] → m.id ≡ n.id → m.role ≡ Follower → p.term ≡ m.term → Ok n (Some p) (say t2 p.from (InstallSay (length list) probe))
        taken m t2 a b c none same r t = (
          record {
            id = a ∙ same;
            signed = subst (λ (ps : List (Packet E)). AllSigned t2.node (Some p) (ps ++ packet t2.node p.from (InstallSay (length list) probe) ∷ [])) (sym none) (record { from = refl; term = refl; says = inr (t ∙ sym b, has) }, tt);
            rises = λ x y. absurd (no_lead t2.node.role (c ∙ r) y);
          },
          λ y. absurd (no_lead t2.node.role (c ∙ r) y),
        )

    -- a reply that a leader of its term takes
    replied_ok : (n : RaftNode E) (p : Packet E) (ok : Bool) (at probe : ℕ) → n.role ≡ Leader → (mark < probe → heard p.from) → AllHeard heard mark n.peers → Ok n (Some p) (replied entries first n p.from ok at probe)
    replied_ok n p true at probe r new old =
        let ps = with_peer (after_ok at probe) p.from n.peers in
        let a = heard_with (after_ok at probe) p.from n.peers (λ x e o lt. more x e o lt) old in
        sends_ok n n (Some p) (wants_more p.from (length n.log)) (committed entries first (unchanged (record n { peers = ps }))) refl refl r refl a
      where
        more : (x : Peer) → x.id ≡ p.from → (mark < x.acked → heard x.id) → mark < max x.acked probe → heard x.id
        more x e o lt = ⊎_elim (λ (a : x.acked < probe). subst heard (sym e) (new (omega (arith, a, lt)))) (λ (b : probe ≤ x.acked). o (omega (arith, b, lt))) (cases_lt x.acked probe)
    replied_ok n p false at probe r new old =
        let ps = with_peer (after_no at probe) p.from n.peers in
        let a = heard_with (after_no at probe) p.from n.peers (λ x e o lt. more x e o lt) old in
        sends_ok n n (Some p) (waits_for p.from probe) (unchanged (record n { peers = ps })) refl refl r refl a
      where
        more : (x : Peer) → x.id ≡ p.from → (mark < x.acked → heard x.id) → mark < max x.acked probe → heard x.id
        more x e o lt = ⊎_elim (λ (a : x.acked < probe). subst heard (sym e) (new (omega (arith, a, lt)))) (λ (b : probe ≤ x.acked). o (omega (arith, b, lt))) (cases_lt x.acked probe)

    said_ok : (n : RaftNode E) (p : Packet E) (ok : Bool) (at probe : ℕ) → (n.role ≡ Leader → p.term ≡ n.term → mark < probe → heard p.from) → Old n → Ok n (Some p) (append_reply entries first n p ok at probe)
    said_ok n p ok at probe new old = go n.role refl
      where
        go : (r : Role) → n.role ≡ r → Ok n (Some p) (cond (is_leader r && takes_reply n p at) (replied entries first n p.from ok at probe) (unchanged n))
        go Follower e = quiet_ok n (Some p) old
        go Candidate e = quiet_ok n (Some p) old
        go Leader e = if_case (Ok n (Some p)) (takes_reply n p at) (replied entries first n p.from ok at probe) (unchanged n)
            (λ q. replied_ok n p ok at probe e (new e (eq_true p.term n.term (and_true (p.term == n.term) (has_peer (λ (x : Peer). true) n.peers p.from) (and_true ((p.term == n.term) && has_peer (λ (x : Peer). true) n.peers p.from) (nat_le at (length n.log)) q).0).0)) (old e))
            (λ q. quiet_ok n (Some p) old)

    message_ok : (n : RaftNode E) (moment : ℕ) (p : Packet E) (m : Message E) → p.message ≡ m → p.term ≤ n.term → (n.role ≡ Leader → SaysHeard heard mark n.term p m) → Old n → Ok n (Some p) (by_message entries first n moment p m)
    message_ok n moment p (VoteAsk i u) is le new old = asked_ok n p i u old
    message_ok n moment p (VoteSay granted) is le new old = voted_ok n p granted old
    message_ok n moment p (Append prev u commit probe es) is le new old = append_ok n moment p prev u commit probe es le (subst (λ (m : Message E). HasProbe m probe) (sym is) refl) old
    message_ok n moment p (AppendSay ok at probe) is le new old = said_ok n p ok at probe new old
    message_ok n moment p (Install probe list) is le new old = install_ok n moment p probe list le (subst (λ (m : Message E). HasProbe m probe) (sym is) refl) old
    message_ok n moment p (InstallSay at probe) is le new old = said_ok n p true at probe new old

    -- a follower has no table to change
    high_ok : (n : RaftNode E) (moment : ℕ) (p : Packet E) (m : Message E) → p.message ≡ m → p.term ≤ n.term → n.role ≡ Follower → Ok n (Some p) (by_message entries first n moment p m)
    high_ok n moment p (VoteAsk i u) is le r = asked_ok n p i u (λ a. absurd (no_lead n.role r a))
      where
        no_lead : (x : Role) → x ≡ Follower → x ≡ Leader → Prim.⊥
        no_lead x a b = cc
    high_ok n moment p (VoteSay granted) is le r = voted_ok n p granted (λ a. absurd (no_lead n.role r a))
      where
        no_lead : (x : Role) → x ≡ Follower → x ≡ Leader → Prim.⊥
        no_lead x a b = cc
    high_ok n moment p (Append prev u commit probe es) is le r = append_ok n moment p prev u commit probe es le (subst (λ (m : Message E). HasProbe m probe) (sym is) refl) (λ a. absurd (no_lead n.role r a))
      where
        no_lead : (x : Role) → x ≡ Follower → x ≡ Leader → Prim.⊥
        no_lead x a b = cc
    high_ok n moment p (AppendSay ok at probe) is le r = go n.role refl
      where
        no_lead : (x : Role) → x ≡ Follower → x ≡ Leader → Prim.⊥
        no_lead x a b = cc

        go : (x : Role) → n.role ≡ x → Ok n (Some p) (cond (is_leader x && takes_reply n p at) (replied entries first n p.from ok at probe) (unchanged n))
        go Follower e = quiet_ok n (Some p) (λ a. absurd (no_lead n.role r a))
        go Candidate e = quiet_ok n (Some p) (λ a. absurd (no_lead n.role r a))
        go Leader e = absurd (no_lead n.role r e)
    high_ok n moment p (Install probe list) is le r = install_ok n moment p probe list le (subst (λ (m : Message E). HasProbe m probe) (sym is) refl) (λ a. absurd (no_lead n.role r a))
      where
        no_lead : (x : Role) → x ≡ Follower → x ≡ Leader → Prim.⊥
        no_lead x a b = cc
    high_ok n moment p (InstallSay at probe) is le r = go n.role refl
      where
        no_lead : (x : Role) → x ≡ Follower → x ≡ Leader → Prim.⊥
        no_lead x a b = cc

        go : (x : Role) → n.role ≡ x → Ok n (Some p) (cond (is_leader x && takes_reply n p at) (replied entries first n p.from true at probe) (unchanged n))
        go Follower e = quiet_ok n (Some p) (λ a. absurd (no_lead n.role r a))
        go Candidate e = quiet_ok n (Some p) (λ a. absurd (no_lead n.role r a))
        go Leader e = absurd (no_lead n.role r e)

    receive_ok : (n : RaftNode E) (moment : ℕ) (p : Packet E) → (n.role ≡ Leader → SaysHeard heard mark n.term p p.message) → Old n → Ok n (Some p) (receive entries first n moment p)
    receive_ok n moment p new old = if_case (Ok n (Some p)) (is_far p.message) (unchanged n) (by_message entries first (higher_term n p.term) moment p p.message)
        (λ e. quiet_ok n (Some p) old)
        (λ e. if_case (λ (m : RaftNode E). Ok n (Some p) (by_message entries first m moment p p.message)) (nat_lt n.term p.term) high n
        (λ q.
        let o = high_ok high moment p p.message refl (omega arith) refl in
        let d = message_down entries first high moment p p.message refl in
        (record { id = o.0.id; signed = o.0.signed; rises = λ a b. absurd (d.1 b) }, λ b. absurd (d.1 b)))
        (λ q. message_ok n moment p p.message refl (lt_false n.term p.term q) new old))
      where
        high : RaftNode E
        high = record n { term = p.term; vote = None; role = Follower; leader = None; votes = []; peers = [] }

  pub keep_probes : KeepProbes entries first
  keep_probes = record {
    elects = λ n. ((elect_ok (λ v. ⊤) 0 n (λ a. every n.peers)).0, λ hearing mark old lead. (elect_ok (heard_by hearing) mark n old).1 lead);
    beats = λ n. ((beat_ok (λ v. ⊤) 0 n (λ a. every n.peers)).0, λ hearing mark old lead. (beat_ok (heard_by hearing) mark n old).1 lead);
    proposes = λ n e. ((propose_ok (λ v. ⊤) 0 n e (λ a. every n.peers)).0, λ hearing mark old lead. (propose_ok (heard_by hearing) mark n e old).1 lead);
    receives = λ n moment p. ((receive_ok (λ v. ⊤) 0 n moment p (λ a. says n.term p p.message) (λ a. every n.peers)).0, λ hearing mark new old lead. (receive_ok (heard_by hearing) mark n moment p new old).1 lead);
  }
    where
      every : (ps : List Peer) → AllHeard (λ v. ⊤) 0 ps
      every [] = tt
      every (p ∷ ps) = (λ lt. tt, every ps)

      says : (n : ℕ) (p : Packet E) (m : Message E) → SaysHeard (λ v. ⊤) 0 n p m
      says n p (VoteAsk i u) = tt
      says n p (VoteSay granted) = tt
      says n p (Append prev u commit probe es) = tt
      says n p (AppendSay ok at probe) = λ t lt. tt
      says n p (Install probe list) = tt
      says n p (InstallSay at probe) = λ t lt. tt

  -- ---- who comes to lead

  elect_comes : (n : RaftNode E) → Comes n (elect entries first n)
  elect_comes n = if_case (Comes n) (is_leader n.role || not (one_of (voters_now entries first n) n.id) || (n.term == 2 ^ 64 - 1)) (unchanged n) (campaigns entries first (becomes_candidate n))
      (λ e q. inl q)
      (λ e. if_case (Comes n) (is_elected entries first (becomes_candidate n)) (leading entries first (becomes_candidate n)) (vote_asks entries first (becomes_candidate n)) (λ _ q. inr (inr refl)) (λ _ q. inr (inr refl)))

  vote_comes : (n : RaftNode E) (p : Packet E) (granted : Bool) → Comes n (vote_reply entries first n p granted)
  vote_comes n p granted = if_case (Comes n) (counts entries first n p granted) (counted entries first m) (unchanged n)
      (λ e. if_case (Comes n) (is_elected entries first m) (leading entries first m) (unchanged m) (λ _ q. inr (inl (candidate n.role (cand e), refl))) (λ _ q. inl q))
      (λ e q. inl q)
    where
      m : RaftNode E
      m = record n { votes = p.from ∷ n.votes }

      cand : counts entries first n p granted ≡ true → is_candidate n.role ≡ true
      cand e = (and_true (is_candidate n.role) (n.term == p.term) (and_true (is_candidate n.role && (n.term == p.term)) granted (and_true (is_candidate n.role && (n.term == p.term) && granted) (one_of (voters_now entries first n) p.from) (and_true (is_candidate n.role && (n.term == p.term) && granted && one_of (voters_now entries first n) p.from) (not (one_of n.votes p.from)) e).0).0).0).0

      candidate : (r : Role) → is_candidate r ≡ true → r ≡ Candidate
      candidate Follower e = absurd (cc)
      candidate Candidate e = refl
      candidate Leader e = absurd (cc)

  message_comes : (n : RaftNode E) (moment : ℕ) (p : Packet E) (m : Message E) → Comes n (by_message entries first n moment p m)
  message_comes n moment p (VoteAsk i u) = if_case (Comes n) (grants entries first n p i u) (say (unchanged (record n { vote = Some p.from })) p.from (VoteSay true)) (say (unchanged n) p.from (VoteSay false)) (λ _ q. inl q) (λ _ q. inl q)
  message_comes n moment p (VoteSay granted) = vote_comes n p granted
  message_comes n moment p (Append prev u commit probe es) = if_case (Comes n) (nat_lt p.term n.term) (say (unchanged n) p.from (AppendSay false 0 0)) (cond (is_leader n.role) (unchanged n) (append_in_term entries (becomes_follower n p.from moment) p.from prev u commit probe es))
      (λ _ q. inl q)
      (λ _. if_case (Comes n) (is_leader n.role) (unchanged n) (append_in_term entries (becomes_follower n p.from moment) p.from prev u commit probe es) (λ _ q. inl q)
      (λ _ q. absurd ((here_down entries first (becomes_follower n p.from moment) p.from prev u commit probe es refl).1 q)))
  message_comes n moment p (AppendSay ok at probe) = if_case (Comes n) (is_leader n.role && takes_reply n p at) (replied entries first n p.from ok at probe) (unchanged n) (λ _. same ok) (λ _ q. inl q)
    where
      same : (ok : Bool) → Comes n (replied entries first n p.from ok at probe)
      same true q = inl q
      same false q = inl q
  message_comes n moment p (Install probe list) = if_case (Comes n) (nat_lt p.term n.term) (say (unchanged n) p.from (InstallSay 0 0)) (cond (is_leader n.role) (unchanged n) (say (installs entries (becomes_follower n p.from moment) list) p.from (InstallSay (length list) probe)))
      (λ _ q. inl q)
      (λ _. if_case (Comes n) (is_leader n.role) (unchanged n) (say (installs entries (becomes_follower n p.from moment) list) p.from (InstallSay (length list) probe)) (λ _ q. inl q)
      (λ _ q. absurd (no_lead (installs entries (becomes_follower n p.from moment) list).node.role ((taken_same (λ v. ⊤) 0 (becomes_follower n p.from moment) list).2) q)))
    where
      no_lead : (x : Role) → x ≡ Follower → x ≡ Leader → Prim.⊥
      no_lead x a b = cc
  message_comes n moment p (InstallSay at probe) = if_case (Comes n) (is_leader n.role && takes_reply n p at) (replied entries first n p.from true at probe) (unchanged n) (λ _ q. inl q) (λ _ q. inl q)

  receive_comes : (n : RaftNode E) (moment : ℕ) (p : Packet E) → Comes n (receive entries first n moment p)
  receive_comes n moment p = if_case (Comes n) (is_far p.message) (unchanged n) (by_message entries first (higher_term n p.term) moment p p.message)
      (λ _ q. inl q)
      (λ _. if_case (λ (m : RaftNode E). Comes n (by_message entries first m moment p p.message)) (nat_lt n.term p.term) high n
      (λ _ q. absurd ((message_down entries first high moment p p.message refl).1 q)) (λ _. message_comes n moment p p.message))
    where
      high : RaftNode E
      high = record n { term = p.term; vote = None; role = Follower; leader = None; votes = []; peers = [] }

  pub leaders_come : LeadersCome entries first
  leaders_come = record { elects = elect_comes; receives = receive_comes }
