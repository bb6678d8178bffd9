-- A snapshot is made, or comes from a leader.
use Rattle.std.proofs.Common.{◌≡◌, ℕ, ◌<◌, ◌≤◌, ◌&&◌, Bool, true, false, cond, List, [], ◌∷◌, ◌++◌, length, take, drop, refl, ap, sym, subst, ◌∙◌, inl, inr, arith}
use Rattle.std.specs.Prelude.{◌==◌, nat_lt, nat_le}
use Rattle.std.proofs.lemmas.List.{take-take, take-append-drop, take_all, append-nil}
use Rattle.rq_history.specs.History.{NodeId, Node, History, Was, Led, term_at}
use Rattle.rq_history.specs.Moves.{Accept, Learn}
use Rattle.rq_raft.specs.declared.role.Role.TheVariants.{Follower}
use Rattle.rq_raft.specs.Entries.{entry_view}
use Rattle.rq_raft.specs.Node.{RaftNode, Install, InstallSay, Packet, RaftTurn, unchanged, packet, say, is_leader}
use Rattle.rq_raft.specs.Append.{becomes_follower}
use Rattle.rq_raft.specs.Install.{compact, has_last, replaced, installs, install}
use Rattle.rq_raft.specs.Truth.{role_of, history_node, LeaderHad}
use Rattle.rq_raft.proofs.Tests.{if_case, and_true, eq_true, le_true, lt_false}
use Rattle.rq_raft.proofs.Logs.{term_same, same_fits}
use Rattle.rq_raft.proofs.Given.{Given, Run}
use Rattle.rq_raft.proofs.Steps.{led_on, told_on, FitsIn, stay, and_then, was_shown, moved_down}
use Rattle.rq_raft.proofs.Turns.{RestOk, rest_after, quiet_rest, said}
use Rattle.rq_raft.proofs.Follows.{agrees, matches, follows_ok}

module _ {E : Type 0} (g : Given E) where
  pub compact_ok : (h : History E) (i : NodeId) (n : RaftNode E) → Run g h → FitsIn g h i n → RestOk g h i n (compact n)
  compact_ok h i n l f = if_case (RestOk g h i n) (nat_lt n.base n.applied) (record { node = record n { base = n.applied }; stored = Rattle.rq_raft.specs.Node.Replace n.applied n.log ∷ []; packets = [] }) (unchanged n)
      (λ _. record {
        term = refl;
        vote = refl;
        end = stay g h i (record n { base = n.applied }) l (record { id = f.id; is = f.is; done = f.done; based = omega arith; votes = f.votes; peers = f.peers; first = f.first });
        packets_are_true = tt;
        stores = inr (inr refl);
      })
      (λ _. quiet_rest g h i n l f)

  -- what a leader of the term had, and had committed
  module _ (h : History E) (i : NodeId) (n : RaftNode E) (p : Packet E) (list : List E) (l : Run g h) (f : FitsIn g h i n) (s : LeaderHad g.entries h p 0 0 (length list) list) (r : n.role ≡ Follower) (t : p.term ≡ n.term) where
    z : Node E
    z = s.leader

    prefix : list ≡ take (length list) s.leader.log
    prefix = s.are

    led : Led h p.from n.term s.leader
    led = record { was = s.led.was; leads = s.led.leads; in_term = s.led.in_term ∙ t }

    abbrev Took : RaftTurn E → Type 0
    Took t = (r : RestOk g h i n t) × (take (length list) t.node.log ≡ take (length list) s.leader.log)

    small : length list ≤ length s.leader.log
    small = omega (arith, s.fits)

    -- the list is beyond the commit index
    replaced_ok : n.commit < length list → Took (replaced g.entries n list)
    replaced_ok beyond = go (has_last g.entries n list) refl
      where
        new : List E → RaftNode E
        new log = record n { log = log; base = length list; commit = length list; applied = length list }

        go : (b : Bool) → has_last g.entries n list ≡ b → Took (record { node = record n { log = list ++ (cond b (drop (length list) n.log) []); base = length list; commit = length list; applied = length list }; stored = Rattle.rq_raft.specs.Node.Replace (length list) (list ++ (cond b (drop (length list) n.log) [])) ∷ []; packets = [] })
        go true e =
            let b = and_true (nat_le (length list) (length n.log)) (term_at (entry_view g.entries) n.log (length list) == term_at (entry_view g.entries) list (length list)) e in
            let fits = le_true (length list) (length n.log) b.0 in
            let same_term : term_at (entry_view g.entries) n.log (length list) ≡ term_at (entry_view g.entries) s.leader.log (length list) =
            eq_true (term_at (entry_view g.entries) n.log (length list)) (term_at (entry_view g.entries) list (length list)) b.1
            ∙ term_same (entry_view g.entries) list s.leader.log (length list) (length list) (omega arith) (take_all (length list) list (omega arith) ∙ prefix) in
            let same = matches g h i p.from (length list) n s.leader l f s.led.was fits small same_term in
            let own : list ++ drop (length list) n.log ≡ n.log = ap (λ (x : List E). x ++ drop (length list) n.log) (prefix ∙ sym same) ∙ take-append-drop (length list) n.log in
            let m = record n { log = list ++ drop (length list) n.log; base = length list; commit = length list; applied = length list } in
            let same2 : take (length list) m.log ≡ take (length list) s.leader.log = ap (take (length list)) own ∙ same in
            let down = ap role_of r in (
              record {
                term = refl;
                vote = refl;
                end = moved_down g h i n m l f (Learn p.from s.leader led s.committed fits same down refl refl down own) f.id (omega arith) (omega arith) r;
                packets_are_true = tt;
                stores = inr (inr refl);
              },
              same2,
            )
        go false e =
            let down = ap role_of r in
            let whole : list ++ [] ≡ take (length list) s.leader.log = append-nil list ∙ prefix in
            let a = moved_down g h i n (record n { log = list ++ [] }) l f (Accept p.from s.leader (length list) led small (λ q. other e q) down refl refl down whole refl) f.id f.done f.based r in
            let m = record n { log = list ++ []; base = length list; commit = length list; applied = length list } in
            let same : take (length list) (list ++ []) ≡ take (length list) s.leader.log = ap (take (length list)) whole ∙ take-take (length list) (length list) s.leader.log (omega arith) in
            let fits : length list ≤ length (list ++ []) = same_fits s.leader.log (list ++ []) (length list) small (sym same) in
            let b = moved_down g a.after i (record n { log = list ++ [] }) m a.lawful a.fits (Learn p.from s.leader (led_on h a.after p.from n.term s.leader a.later led) s.committed fits same down refl refl down refl) f.id (omega arith) (omega arith) r in
            (record { term = refl; vote = refl; end = and_then g h i (record n { log = list ++ [] }) m a b; packets_are_true = tt; stores = inr (inr refl) }, same)
          where
            other : has_last g.entries n list ≡ false → take (length list) n.log ≡ take (length list) s.leader.log → Prim.⊥
            other e q =
                let fits = same_fits s.leader.log n.log (length list) small (sym q) in
                let terms : term_at (entry_view g.entries) n.log (length list) ≡ term_at (entry_view g.entries) list (length list) =
                term_same (entry_view g.entries) n.log s.leader.log (length list) (length list) (omega arith) q
                ∙ sym (term_same (entry_view g.entries) list s.leader.log (length list) (length list) (omega arith) (take_all (length list) list (omega arith) ∙ prefix)) in
                never (nat_le (length list) (length n.log)) (term_at (entry_view g.entries) n.log (length list) == term_at (entry_view g.entries) list (length list)) (le_is (length list) (length n.log) fits) (eq_is (term_at (entry_view g.entries) n.log (length list)) (term_at (entry_view g.entries) list (length list)) terms) e
              where
                never : (a b : Bool) → a ≡ true → b ≡ true → (a && b) ≡ false → Prim.⊥
                never true true p q e = cc
                never true false p q e = cc
                never false b p q e = cc

                le_is : (a b : ℕ) → a ≤ b → nat_le a b ≡ true
                le_is a b le = grind (arith, le)

                eq_is : (a b : ℕ) → a ≡ b → (a == b) ≡ true
                eq_is a b e = rw e (grind arith)

    taken_ok : Took (installs g.entries n list)
    taken_ok = if_case Took (nat_le (length list) n.commit) (unchanged n) (replaced g.entries n list)
        (λ e. (quiet_rest g h i n l f, sym (agrees g h i p.from (length list) n s.leader l f n.term led (omega arith) (le_true (length list) n.commit e) small)))
        (λ e. replaced_ok (beyond e))
      where
        beyond : nat_le (length list) n.commit ≡ false → n.commit < length list
        beyond e = grind (arith, e)

    here_ok : (probe : ℕ) → RestOk g h i n (say (installs g.entries n list) p.from (InstallSay (length list) probe))
    here_ok probe = said g h i n (installs g.entries n list) p.from (InstallSay (length list) probe) taken_ok.0 (inr (record {
      who = p.from;
      leader = s.leader;
      led = led_on h taken_ok.0.end.after p.from m.term s.leader taken_ok.0.end.later (record { was = s.led.was; leads = s.led.leads; in_term = s.led.in_term ∙ t ∙ taken_ok.0.term });
      fits = small;
      held = record { holder = history_node m; was = subst (λ (k : NodeId). Was taken_ok.0.end.after k (history_node m)) (sym taken_ok.0.end.fits.id) (was_shown g taken_ok.0.end.after i m taken_ok.0.end.fits); in_term = refl; same = taken_ok.1 };
    }))
      where
        m : RaftNode E
        m = (installs g.entries n list).node

  pub install_ok : (h : History E) (i : NodeId) (n : RaftNode E) (moment : ℕ) (p : Packet E) (probe : ℕ) (list : List E) → Run g h → FitsIn g h i n → LeaderHad g.entries h p 0 0 (length list) list → p.term ≤ n.term → RestOk g h i n (install g.entries n moment p probe list)
  install_ok h i n moment p probe list l f s le =
      if_case (RestOk g h i n) (nat_lt p.term n.term) (say (unchanged n) p.from (InstallSay 0 0)) (cond (is_leader n.role) (unchanged n) (say (installs g.entries m list) p.from (InstallSay (length list) probe)))
      (λ e. said g h i n (unchanged n) p.from (InstallSay 0 0) (quiet_rest g h i n l f) (inl refl))
      (λ e. if_case (RestOk g h i n) (is_leader n.role) (unchanged n) (say (installs g.entries m list) p.from (InstallSay (length list) probe))
      (λ q. quiet_rest g h i n l f)
      (λ q.
      let a = follows_ok g h i n p.from moment l f in
      let t : p.term ≡ n.term = omega (arith, lt_false p.term n.term e) in
      rest_after g h i n m (say (installs g.entries m list) p.from (InstallSay (length list) probe)) a refl refl refl refl
      (here_ok a.after i m p list a.lawful a.fits (told_on g.entries h a.after p (Install probe list) a.later s) refl t probe)))
    where
      m : RaftNode E
      m = becomes_follower n p.from moment
