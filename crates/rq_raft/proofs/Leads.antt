-- The rules of a leader.
use Rattle.std.proofs.Common.{◌≡◌, ◌⊎◌, ℕ, ◌+◌, ◌-◌, ◌*◌, ◌<◌, ◌≤◌, ◌&&◌, not, Bool, true, false, cond, List, [], ◌∷◌, ◌++◌, length, take, max, Option, Some, None, refl, ap, sym, subst, ◌∙◌, inl, inr, ⊎_elim, arith}
use Rattle.std.specs.Prelude.{◌==◌, nat_lt, nat_le, bytes_eq, count_by, filter, map}
use Rattle.std.specs.Option.{option_map}
use Rattle.std.proofs.lemmas.Bool.{cases_lt}
use Rattle.std.proofs.lemmas.List.{length-append, take-append-le, take_all}
use Rattle.rq_wire.specs.declared.config.Member.{Member}
use Rattle.rq_history.specs.History.{NodeId, History, After, Was, Led, term_at}
use Rattle.rq_history.specs.Quorum.{Quorum}
use Rattle.rq_history.specs.Configurations.{greatest, is_given, newest_voters, MayChange}
use Rattle.rq_history.specs.Moves.{Voted, Held, Lead, Extend, Commit}
use Rattle.rq_raft.specs.declared.role.Role.{Role}
use Rattle.rq_raft.specs.declared.role.Role.TheVariants.{Follower, Candidate, Leader}
use Rattle.rq_raft.specs.Entries.{entry_view, voters, configuration}
use Rattle.rq_raft.specs.declared.peer.Peer.{Peer}
use Rattle.rq_raft.specs.Node.{RaftNode, Packet, RaftTurn, unchanged, is_leader, one_of, has_peer, with_peer}
use Rattle.rq_raft.specs.Lead.{voters_now, is_quorum, send, holds, may_commit, committed, appended, is_idle, peer_for, tables_after, followed, propose, beat, becomes_leader, leading, after_ok, after_no, same_flight, wants_more, waits_for, replied, takes_reply, append_reply}
use Rattle.rq_raft.specs.Deliver.{applied_next}
use Rattle.rq_raft.specs.Truth.{role_of, history_node, IsCopied, HasCopy, PacketsAreTrue, IsTrueOf, AllTrue}
use Rattle.rq_raft.proofs.Tests.{if_case, and_true, eq_true, le_true, lt_true, greatest_is, id_true}
use Rattle.rq_raft.proofs.Logs.{same_less, term_new, term_pushed}
use Rattle.rq_raft.proofs.Given.{Given, Run, same_voters, led_same}
use Rattle.rq_raft.proofs.Steps.{true_on, all_on, StepTo, FitsIn, MoveTo, stay, and_then, was_shown, leads_shown, moved}
use Rattle.rq_raft.proofs.Turns.{RestOk, quiet_rest, rest_after}
use Rattle.rq_raft.proofs.Sends.{sent}

module _ {E : Type 0} (g : Given E) where
  abbrev pub voters_of : List E → List NodeId
  voters_of log = newest_voters (entry_view g.entries) (voters g.first) log

  pub commit_fits : (h : History E) (i : NodeId) (n : RaftNode E) → Run g h → FitsIn g h i n → n.commit ≤ length n.log
  commit_fits h i n l f = (g.commits_are_backed (voters g.first) h l i (history_node n) (was_shown g h i n f)).fits

  -- a quorum of the rule is a quorum of the theory
  pub quorum_of : (n : RaftNode E) (P : NodeId → Type 0) (in_set : NodeId → Bool) → is_quorum (voters_now g.entries g.first n) in_set ≡ true → ((v : NodeId) → in_set v ≡ true → P v) → Quorum (voters_of n.log) P
  quorum_of n P in_set e each = record {
    in_set = in_set;
    most = subst (λ (vs : List NodeId). length vs < 2 * count_by in_set vs) (same_voters g n.log) (lt_true (length (voters_now g.entries g.first n)) (2 * count_by in_set (voters_now g.entries g.first n)) e);
    each = each;
  }

  -- a peer with this id that passes
  pub peer_is : (h : History E) (term : ℕ) (log : List E) (test : Peer → Bool) (ps : List Peer) (v : NodeId) → AllTrue h term log ps → has_peer test ps v ≡ true → (p : Peer) × (p.id ≡ v) × (test p ≡ true) × IsTrueOf h term log p
  peer_is h term log test [] v a e = absurd (cc)
  peer_is h term log test (p ∷ ps) v a e = go (bytes_eq p.id v && test p) refl e (peer_is h term log test ps v a.1)
    where
      go : (b : Bool) → (bytes_eq p.id v && test p) ≡ b → cond b true (has_peer test ps v) ≡ true → (has_peer test ps v ≡ true → (q : Peer) × (q.id ≡ v) × (test q ≡ true) × IsTrueOf h term log q) → (q : Peer) × (q.id ≡ v) × (test q ≡ true) × IsTrueOf h term log q
      go true q r more = let b = and_true (bytes_eq p.id v) (test p) q in (p, id_true p.id v b.0, b.1, a.0)
      go false q r more = more r

  holder : (h : History E) (i : NodeId) (n : RaftNode E) (at : ℕ) (v : NodeId) → FitsIn g h i n → n.role ≡ Leader → 0 < at → holds n at v ≡ true → Held h v n.term at n.log
  holder h i n at v f r pos e = go (bytes_eq v n.id) refl e
    where
      other : (p : Peer) → IsCopied h p.id n.term p.matched n.log → at ≤ p.matched → Held h p.id n.term at n.log
      other p (inl z) le = absurd (omega arith)
      other p (inr c) le = record { holder = c.1.holder; was = c.1.was; in_term = c.1.in_term; same = same_less c.1.holder.log n.log p.matched at le c.1.same }

      go : (b : Bool) → (bytes_eq v n.id) ≡ b → cond b true (has_peer (λ (p : Peer). nat_le at p.matched) n.peers v) ≡ true → Held h v n.term at n.log
      go true p q =
          let vi : v ≡ i = id_true v n.id p ∙ f.id in
          record { holder = history_node n; was = subst (λ (k : NodeId). Was h k (history_node n)) (sym vi) (was_shown g h i n f); in_term = refl; same = refl }
      go false p q =
          let k = peer_is h n.term n.log (λ (x : Peer). nat_le at x.matched) n.peers v (f.peers r) q in
          subst (λ (w : NodeId). Held h w n.term at n.log) k.1 (other k.0 k.3.copied (le_true at k.0.matched k.2))

  -- a step, and what was said is still true
  abbrev Persistent : History E → NodeId → RaftTurn E → RaftTurn E → Type 0
  Persistent h i t u = (s : StepTo g h i u.node) × PacketsAreTrue g.entries s.after t.packets

  pub committed_ok : (h : History E) (i : NodeId) (t : RaftTurn E) → Run g h → FitsIn g h i t.node → t.node.role ≡ Leader → PacketsAreTrue g.entries h t.packets → Persistent h i t (committed g.entries g.first t)
  committed_ok h i t l f r packets_are_true = go k refl (greatest_is (may_commit g.entries g.first n) n.commit (length n.log - n.commit))
    where
      n : RaftNode E
      n = t.node

      k : ℕ
      k = greatest (may_commit g.entries g.first n) n.commit (length n.log - n.commit)

      go : (m : ℕ) → k ≡ m → (k ≡ n.commit) ⊎ ((may_commit g.entries g.first n k ≡ true) × (n.commit < k) × (k ≤ n.commit + (length n.log - n.commit))) → Persistent h i t (committed g.entries g.first t)
      go m e (inl same) = (
        stay g h i (record n { commit = k }) l (record { id = f.id; is = f.is ∙ ap (λ (u : ℕ). history_node (record n { commit = u })) (sym same); done = omega (arith, f.done, same); based = f.based; votes = f.votes; peers = f.peers; first = f.first }),
        packets_are_true,
      )
      go m e (inr p) =
          let b = and_true (term_at (entry_view g.entries) n.log k == n.term) (is_quorum (voters_now g.entries g.first n) (holds n k)) p.0 in
          let q : Quorum (voters_of n.log) (λ v. Held h v n.term k n.log) = quorum_of n (λ v. Held h v n.term k n.log) (holds n k) b.1 (λ v s. holder h i n k v f r (omega (arith, p.1)) s) in
          let lead = ap role_of r in
          let m : MoveTo g h i (history_node n) (history_node (record n { commit = k })) =
          Commit lead (omega (arith, p.1)) (omega (arith, p.2, commit_fits h i n l f)) (eq_true (term_at (entry_view g.entries) n.log k) n.term b.0) q refl refl lead refl in
          let s = moved g h i n (record n { commit = k }) l f m (λ later is. record {
            id = f.id;
            is = is;
            done = omega (arith, f.done, p.1);
            based = f.based;
            votes = λ a. absurd (cc);
            peers = λ a. true_on h (After h i (history_node (record n { commit = k }))) n.term n.log n.peers later (f.peers a);
            first = f.first;
          }) in
          (s, all_on g.entries h s.after t.packets s.later packets_are_true)

  longer : (h : History E) (term : ℕ) (log : List E) (e : E) (p : Peer) → IsCopied h p.id term p.matched log → IsCopied h p.id term p.matched (log ++ e ∷ [])
  longer h term log e p (inl z) = inl z
  longer h term log e p (inr c) = inr (omega (arith, c.0, length-append log (e ∷ [])), record { holder = c.1.holder; was = c.1.was; in_term = c.1.in_term; same = c.1.same ∙ sym (take-append-le p.matched log (e ∷ []) c.0) })

  all_longer : (h : History E) (term : ℕ) (log : List E) (e : E) (ps : List Peer) → AllTrue h term log ps → AllTrue h term (log ++ e ∷ []) ps
  all_longer h term log e [] a = tt
  all_longer h term log e (p ∷ ps) a = (record { copied = longer h term log e p a.0.copied; next = omega (arith, a.0.next, length-append log (e ∷ [])) }, all_longer h term log e ps a.1)

  first_pushed : (log : List E) (k term : ℕ) (e : E) → g.entries.term_of e ≡ term → (k ≤ length log → term_at (entry_view g.entries) log k ≡ term) → k ≤ length (log ++ e ∷ []) → term_at (entry_view g.entries) (log ++ e ∷ []) k ≡ term
  first_pushed log k term e t f le = ⊎_elim
      (λ (past : length log < k). let q : k ≡ length log + 1 = omega (arith, length-append log (e ∷ [])) in rw q (term_new (entry_view g.entries) log e ∙ t))
      (λ (old : k ≤ length log). term_pushed (entry_view g.entries) log e k old ∙ f old)
      (cases_lt (length log) k)

  pub appended_ok : (h : History E) (i : NodeId) (n : RaftNode E) (e : E) → g.entries.term_of e ≡ n.term → (is_given ((entry_view g.entries).voters_of e) ≡ true → MayChange (entry_view g.entries) voters_of (history_node n) e) → Run g h → FitsIn g h i n → n.role ≡ Leader
      → StepTo g h i (appended n e).node
  appended_ok h i n e term may l f r =
      let m = (appended n e).node in
      let lead = ap role_of r in
      moved g h i n m l f (Extend e lead term refl refl lead refl refl may) (λ later is. record {
        id = f.id;
        is = is;
        done = f.done;
        based = f.based;
        votes = λ a. absurd (cc);
        peers = λ a. true_on h (After h i (history_node m)) n.term m.log n.peers later (all_longer h n.term n.log e n.peers (f.peers a));
        first = λ a. ((f.first a).0, λ le. first_pushed n.log n.first_index n.term e term (f.first a).1 le);
      })

  splice_is : (log : List E) (e : E) → log ++ e ∷ [] ≡ take (length log + 1 - 1) log ++ e ∷ []
  splice_is log e = ap (λ (l : List E). l ++ e ∷ []) (sym (take_all (length log + 1 - 1) log (omega arith)))

  -- an entry is appended, sent to some, and perhaps committed
  pub pushed_ok : (h : History E) (i : NodeId) (n : RaftNode E) (e : E) (wanted : Peer → Bool) → g.entries.term_of e ≡ n.term → (is_given ((entry_view g.entries).voters_of e) ≡ true → MayChange (entry_view g.entries) voters_of (history_node n) e) → Run g h → FitsIn g h i n → n.role ≡ Leader
      → RestOk g h i n (committed g.entries g.first (send g.entries g.first wanted (appended n e)))
  pushed_ok h i n e wanted term may l f r =
      let a = appended_ok h i n e term may l f r in
      let u = appended n e in
      let s = sent g a.after i wanted u a.lawful a.fits r tt in
      let t = send g.entries g.first wanted u in
      let k = committed_ok a.after i t a.lawful s.fits r s.packets_are_true in
      record {
        term = refl;
        vote = refl;
        end = and_then g h i u.node (committed g.entries g.first t).node a k.0;
        packets_are_true = k.1;
        stores = inr (inl (length n.log + 1, e ∷ [], refl, splice_is n.log e, refl));
      }

  with_peers : (h : History E) (i : NodeId) (n : RaftNode E) (ps : List Peer) → FitsIn g h i n → AllTrue h n.term n.log ps → FitsIn g h i (record n { peers = ps })
  with_peers h i n ps f a = record { id = f.id; is = f.is; done = f.done; based = f.based; votes = f.votes; peers = λ q. a; first = f.first }

  -- tables that follow a configuration are true
  for_true : (h : History E) (term : ℕ) (log : List E) (next : ℕ) (ps : List Peer) (v : NodeId) → next ≤ length log + 1 → AllTrue h term log ps → IsTrueOf h term log (peer_for next ps v)
  for_true h term log next [] v le a = record { copied = inl refl; next = le }
  for_true h term log next (p ∷ ps) v le a = if_case (IsTrueOf h term log) (bytes_eq p.id v) p (peer_for next ps v) (λ e. a.0) (λ e. for_true h term log next ps v le a.1)

  all_for_true : (h : History E) (term : ℕ) (log : List E) (next : ℕ) (ps : List Peer) (ms : List Member) → next ≤ length log + 1 → AllTrue h term log ps → AllTrue h term log (map (λ (m : Member). peer_for next ps m.id) ms)
  all_for_true h term log next ps [] le a = tt
  all_for_true h term log next ps (m ∷ ms) le a = (for_true h term log next ps m.id le a, all_for_true h term log next ps ms le a)

  tables_true : (h : History E) (term : ℕ) (log : List E) (id : NodeId) (ps : List Peer) (o : Option (List Member)) → AllTrue h term log ps → AllTrue h term log (tables_after id (length log + 1) ps o)
  tables_true h term log id ps None a = a
  tables_true h term log id ps (Some members) a = all_for_true h term log (length log + 1) ps (filter (λ (m : Member). not (bytes_eq m.id id)) members) (omega arith) a

  -- who holds the entry: it is of the node's term, and a configuration only where it may be appended
  pub propose_ok : (h : History E) (i : NodeId) (n : RaftNode E) (e : E) → g.entries.term_of e ≡ n.term → (is_given ((entry_view g.entries).voters_of e) ≡ true → MayChange (entry_view g.entries) voters_of (history_node n) e) → Run g h → FitsIn g h i n
      → RestOk g h i n (propose g.entries g.first n e)
  propose_ok h i n e term may l f = go n.role refl
    where
      m : RaftNode E
      m = followed g.entries g.first n e

      go : (r : Role) → n.role ≡ r → RestOk g h i n (cond (is_leader r) (committed g.entries g.first (send g.entries g.first (λ (p : Peer). is_idle p.flight) (appended m e))) (unchanged n))
      go Follower q = quiet_rest g h i n l f
      go Candidate q = quiet_rest g h i n l f
      go Leader q =
          let s = stay g h i m l (with_peers h i n m.peers f (tables_true h n.term n.log n.id n.peers (g.entries.members_of e) (f.peers q))) in
          rest_after g h i n m (committed g.entries g.first (send g.entries g.first (λ (p : Peer). is_idle p.flight) (appended m e))) s refl refl refl refl
          (pushed_ok s.after i m e (λ (p : Peer). is_idle p.flight) term may s.lawful s.fits q)

  fresh_true : (h : History E) (term next : ℕ) (log : List E) (ms : List Member) → next ≤ length log + 1 → AllTrue h term log (map (λ (m : Member). record { id = m.id; next = next; matched = 0; acked = 0; flight = None }) ms)
  fresh_true h term next log [] le = tt
  fresh_true h term next log (m ∷ ms) le = (record { copied = inl refl; next = le }, fresh_true h term next log ms le)

  pub leading_ok : (h : History E) (i : NodeId) (n : RaftNode E) → Run g h → FitsIn g h i n → n.role ≡ Candidate → is_quorum (voters_now g.entries g.first n) (one_of n.votes) ≡ true → RestOk g h i n (leading g.entries g.first n)
  leading_ok h i n l f cand q =
      let votes : Quorum (voters_of n.log) (λ v. Voted h v i n.term) = quorum_of n (λ v. Voted h v i n.term) (one_of n.votes) q (f.votes cand) in
      let m = becomes_leader g.entries g.first n in
      let s = moved g h i n m l f (Lead (ap role_of cand) votes refl refl refl refl refl) (λ later is. record {
        id = f.id;
        is = is;
        done = f.done;
        based = f.based;
        votes = λ a. absurd (cc);
        peers = λ a. fresh_true (After h i (history_node m)) n.term (length n.log + 1) n.log (filter (λ (x : Member). not (bytes_eq x.id n.id)) (configuration g.entries g.first n.log)) (omega arith);
        first = λ a. (omega arith, λ le. absurd (omega arith));
      }) in
      rest_after g h i n m (leading g.entries g.first n) s refl refl refl refl
      (pushed_ok s.after i m (g.entries.empty n.term) (λ p. true) (g.right.of_term n.term) (λ e. absurd (plain e)) s.lawful s.fits refl)
    where
      plain : is_given ((entry_view g.entries).voters_of (g.entries.empty n.term)) ≡ true → Prim.⊥
      plain e = no (g.entries.members_of (g.entries.empty n.term)) (g.right.plain n.term) e
        where
          no : (o : Option (List Member)) → o ≡ None → is_given (option_map voters o) ≡ true → Prim.⊥
          no None q e = cc
          no (Some members) q e = cc

  pub beat_ok : (h : History E) (i : NodeId) (n : RaftNode E) → Run g h → FitsIn g h i n → RestOk g h i n (beat g.entries g.first n)
  beat_ok h i n l f = go n.role refl
    where
      go : (r : Role) → n.role ≡ r → RestOk g h i n (cond (is_leader r) (send g.entries g.first (λ p. true) (unchanged n)) (unchanged n))
      go Follower e = quiet_rest g h i n l f
      go Candidate e = quiet_rest g h i n l f
      go Leader e =
          let s = sent g h i (λ p. true) (unchanged n) l f e tt in
          record { term = refl; vote = refl; end = stay g h i (send g.entries g.first (λ p. true) (unchanged n)).node l s.fits; packets_are_true = s.packets_are_true; stores = inl (refl, refl, refl) }

  pub applied_ok : (h : History E) (i : NodeId) (n : RaftNode E) → Run g h → FitsIn g h i n → RestOk g h i n (unchanged (applied_next n))
  applied_ok h i n l f = if_case (λ (m : RaftNode E). RestOk g h i n (unchanged m)) (nat_lt n.applied n.commit) (record n { applied = n.applied + 1 }) n
      (λ e. record {
        term = refl;
        vote = refl;
        packets_are_true = tt;
        stores = inl (refl, refl, refl);
        end = stay g h i (record n { applied = n.applied + 1 }) l (record { id = f.id; is = f.is; done = omega (arith, lt_true n.applied n.commit e); based = omega (arith, f.based); votes = f.votes; peers = f.peers; first = f.first });
      })
      (λ e. quiet_rest g h i n l f)

  -- ---- replies

  peer_changed : (h : History E) (term : ℕ) (log : List E) (change : Peer → Peer) (v : NodeId) (ps : List Peer) → ((p : Peer) → p.id ≡ v → IsTrueOf h term log p → IsTrueOf h term log (change p)) → AllTrue h term log ps → AllTrue h term log (with_peer change v ps)
  peer_changed h term log change v [] c a = tt
  peer_changed h term log change v (p ∷ ps) c a = (
    if_case (IsTrueOf h term log) (bytes_eq p.id v) (change p) p (λ e. c p (id_true p.id v e) a.0) (λ e. a.0),
    peer_changed h term log change v ps c a.1,
  )

  copied_max : (h : History E) (v : NodeId) (term a b : ℕ) (log : List E) → IsCopied h v term a log → IsCopied h v term b log → IsCopied h v term (max a b) log
  copied_max h v term a b log p q = ⊎_elim
      (λ (lt : a < b). let e : max a b ≡ b = omega arith in subst (λ (k : ℕ). IsCopied h v term k log) (sym e) q)
      (λ (ge : b ≤ a). let e : max a b ≡ a = omega arith in subst (λ (k : ℕ). IsCopied h v term k log) (sym e) p)
      (cases_lt a b)

  copied_fits : (h : History E) (v : NodeId) (term a : ℕ) (log : List E) → IsCopied h v term a log → a ≤ length log
  copied_fits h v term a log (inl z) = omega arith
  copied_fits h v term a log (inr p) = p.0

  -- what a reply says of this leader's log
  copied_here : (h : History E) (i : NodeId) (n : RaftNode E) (p : Packet E) (at : ℕ) → Run g h → FitsIn g h i n → n.role ≡ Leader → p.term ≡ n.term → at ≤ length n.log → (at ≡ 0) ⊎ HasCopy h p at → IsCopied h p.from n.term at n.log
  copied_here h i n p at l f r t fits (inl z) = inl z
  copied_here h i n p at l f r t fits (inr k) =
      let led : Led h k.who n.term k.leader = record { was = k.led.was; leads = k.led.leads; in_term = k.led.in_term ∙ t } in
      let same = led_same g h l k.who i n.term k.leader (history_node n) led (leads_shown g h i n f r) at k.fits fits in
      inr (fits, record { holder = k.held.holder; was = k.held.was; in_term = k.held.in_term ∙ t; same = k.held.same ∙ same })

  replied_ok : (h : History E) (i : NodeId) (n : RaftNode E) (p : Packet E) (ok : Bool) (at probe : ℕ) → Run g h → FitsIn g h i n → n.role ≡ Leader → p.term ≡ n.term → at ≤ length n.log
      → (ok ≡ true → (at ≡ 0) ⊎ HasCopy h p at) → RestOk g h i n (replied g.entries g.first n p.from ok at probe)
  replied_ok h i n p true at probe l f r t fits packets_are_true =
      let here = copied_here h i n p at l f r t fits (packets_are_true refl) in
      let ps = with_peer (after_ok at probe) p.from n.peers in
      let a = peer_changed h n.term n.log (after_ok at probe) p.from n.peers (λ x e o. ok_true x e o here) (f.peers r) in
      let m = record n { peers = ps } in
      let k = committed_ok h i (unchanged m) l (with_peers h i n ps f a) r tt in
      let s = sent g k.0.after i (wants_more p.from (length n.log)) (committed g.entries g.first (unchanged m)) k.0.lawful k.0.fits r k.1 in
      record {
        term = refl;
        vote = refl;
        end = and_then g h i (committed g.entries g.first (unchanged m)).node (replied g.entries g.first n p.from true at probe).node k.0 (stay g k.0.after i (replied g.entries g.first n p.from true at probe).node k.0.lawful s.fits);
        packets_are_true = s.packets_are_true;
        stores = inl (refl, refl, refl);
      }
    where
      ok_true : (x : Peer) → x.id ≡ p.from → IsTrueOf h n.term n.log x → IsCopied h p.from n.term at n.log → IsTrueOf h n.term n.log (after_ok at probe x)
      ok_true x e o here = record {
        copied = copied_max h x.id n.term x.matched at n.log o.copied (subst (λ (v : NodeId). IsCopied h v n.term at n.log) (sym e) here);
        next = omega (arith, o.next, copied_fits h x.id n.term x.matched n.log o.copied, fits);
      }
  replied_ok h i n p false at probe l f r t fits packets_are_true =
      let ps = with_peer (after_no at probe) p.from n.peers in
      let a = peer_changed h n.term n.log (after_no at probe) p.from n.peers (λ x e o. no_true x o) (f.peers r) in
      let m = record n { peers = ps } in
      let s = sent g h i (waits_for p.from probe) (unchanged m) l (with_peers h i n ps f a) r tt in
      record { term = refl; vote = refl; end = stay g h i (replied g.entries g.first n p.from false at probe).node l s.fits; packets_are_true = s.packets_are_true; stores = inl (refl, refl, refl) }
    where
      no_true : (x : Peer) → IsTrueOf h n.term n.log x → IsTrueOf h n.term n.log (after_no at probe x)
      no_true x o = record {
        copied = o.copied;
        next = if_case (λ (k : ℕ). k ≤ length n.log + 1) (same_flight x.flight probe) (max (x.matched + 1) (at + 1)) x.next (λ e. omega (arith, copied_fits h x.id n.term x.matched n.log o.copied, fits)) (λ e. o.next);
      }

  pub append_said_ok : (h : History E) (i : NodeId) (n : RaftNode E) (p : Packet E) (ok : Bool) (at probe : ℕ) → Run g h → FitsIn g h i n
      → (ok ≡ true → (at ≡ 0) ⊎ HasCopy h p at) → RestOk g h i n (append_reply g.entries g.first n p ok at probe)
  append_said_ok h i n p ok at probe l f packets_are_true = go n.role refl
    where
      go : (r : Role) → n.role ≡ r → RestOk g h i n (cond (is_leader r && takes_reply n p at) (replied g.entries g.first n p.from ok at probe) (unchanged n))
      go Follower e = quiet_rest g h i n l f
      go Candidate e = quiet_rest g h i n l f
      go Leader e = if_case (RestOk g h i n) (takes_reply n p at) (replied g.entries g.first n p.from ok at probe) (unchanged n)
          (λ q.
          let a = and_true ((p.term == n.term) && has_peer (λ (x : Peer). true) n.peers p.from) (nat_le at (length n.log)) q in
          let b = and_true (p.term == n.term) (has_peer (λ (x : Peer). true) n.peers p.from) a.0 in
          replied_ok h i n p ok at probe l f e (eq_true p.term n.term b.0) (le_true at (length n.log) a.1) packets_are_true)
          (λ q. quiet_rest g h i n l f)
