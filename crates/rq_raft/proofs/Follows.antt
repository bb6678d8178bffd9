-- The rules of a follower.
use Rattle.std.proofs.Common.{◌≡◌, ◌≢◌, ◌⊎◌, ℕ, suc, zero, ◌+◌, ◌-◌, ◌<◌, ◌≤◌, ◌&&◌, ◌||◌, Bool, true, false, cond, List, [], ◌++◌, length, take, drop, min, max, refl, ap, sym, subst, ◌∙◌, inl, inr, ⊎_elim, arith}
use Rattle.std.specs.Prelude.{◌==◌, nat_lt, nat_le}
use Rattle.std.proofs.lemmas.Bool.{cases_lt}
use Rattle.std.proofs.lemmas.List.{length-take, take-take, take_all, take-append-drop, drop_all, append-nil}
use Rattle.rq_history.specs.History.{NodeId, Node, History, Was, Led, term_at}
use Rattle.rq_history.specs.Moves.{Fall, Accept, Learn}
use Rattle.rq_raft.specs.declared.role.Role.TheVariants.{Follower}
use Rattle.rq_raft.specs.Entries.{entry_view, voters}
use Rattle.rq_raft.specs.Node.{RaftNode, Append, AppendSay, Packet, RaftTurn, unchanged, packet, say, is_leader}
use Rattle.rq_raft.specs.Append.{matching_count, corrected_term, corrected_entries, becomes_follower, with_commit, spliced, append_missing, has_prev, append_in_term, append}
use Rattle.rq_raft.specs.Truth.{role_of, history_node, LeaderHad, HasCopy}
use Rattle.rq_raft.proofs.Tests.{if_case, and_true, eq_true, eq_false, le_true, lt_false}
use Rattle.rq_raft.proofs.Logs.{same_less, term_same, same_fits}
use Rattle.rq_raft.proofs.Slices.{slice_same, joined, There, there}
use Rattle.rq_raft.proofs.Given.{Given, Run}
use Rattle.rq_raft.proofs.Steps.{led_on, told_on, StepTo, FitsIn, stay, and_then, was_shown, moved_down}
use Rattle.rq_raft.proofs.Turns.{RestOk, rest_after, quiet_rest, said}

module _ {E : Type 0} (g : Given E) where
  -- a leader of a term that isn't lower agrees with what is committed here
  pub agrees : (h : History E) (i j : NodeId) (at : ℕ) (n : RaftNode E) (z : Node E) → Run g h → FitsIn g h i n → (term : ℕ) → Led h j term z → n.term ≤ term → at ≤ n.commit → at ≤ length z.log → take at z.log ≡ take at n.log
  agrees h i j at n z l f term led le small fits = g.leaders_agree (voters g.first) h l i j (history_node n) z term at (was_shown g h i n f) led le small fits

  pub matches : (h : History E) (i j : NodeId) (at : ℕ) (n : RaftNode E) (z : Node E) → Run g h → FitsIn g h i n → Was h j z → at ≤ length n.log → at ≤ length z.log → term_at (entry_view g.entries) n.log at ≡ term_at (entry_view g.entries) z.log at → take at n.log ≡ take at z.log
  matches h i j at n z l f w a b e = g.logs_match (voters g.first) h l i j (history_node n) z (was_shown g h i n f) w at a b e

  -- the packet is its own mended packet
  pub mended_term_is : (h : History E) (i : NodeId) (n : RaftNode E) (p : Packet E) (prev prev_term commit : ℕ) (es : List E) → Run g h → FitsIn g h i n → LeaderHad g.entries h p prev prev_term commit es → n.term ≤ p.term → corrected_term g.entries n prev prev_term ≡ prev_term
  mended_term_is h i n p prev prev_term commit es l f s le = if_case (λ (x : ℕ). x ≡ prev_term) (nat_le prev n.commit) (term_at (entry_view g.entries) n.log prev) prev_term
      (λ e.
      let a = agrees h i p.from prev n s.leader l f p.term s.led le (le_true prev n.commit e) (omega (arith, s.fits)) in
      sym (term_same (entry_view g.entries) s.leader.log n.log prev prev (omega arith) a) ∙ s.at_prev)
      (λ e. refl)

  pub mended_is : (h : History E) (i : NodeId) (n : RaftNode E) (p : Packet E) (prev prev_term commit : ℕ) (es : List E) → Run g h → FitsIn g h i n → LeaderHad g.entries h p prev prev_term commit es → n.term ≤ p.term → corrected_entries g.entries n prev es ≡ es
  mended_is h i n p prev prev_term commit es l f s le = ⊎_elim
      (λ (none : n.commit - prev ≤ 0).
      let z : n.commit - prev ≡ 0 = omega arith in
      rw z (nothing (length es)))
      (λ (some : 0 < n.commit - prev). ⊎_elim
      (λ (short : length es ≤ n.commit - prev).
      let a = part (length es) some short (omega arith) in
      let whole : take (length es) es ≡ es = take_all (length es) es (omega arith) in
      let cut : take (length es) (take (n.commit - prev) (drop prev n.log)) ≡ es = take-take (length es) (n.commit - prev) (drop prev n.log) short ∙ a ∙ whole in
      let gone : drop (n.commit - prev) es ≡ [] = drop_all (n.commit - prev) es short in
      rw (cut, gone) (append-nil es))
      (λ (long : n.commit - prev < length es).
      let a = part (n.commit - prev) some (omega arith) (omega arith) in
      let all : take (length es) (take (n.commit - prev) (drop prev n.log)) ≡ take (n.commit - prev) (drop prev n.log) = take_all (length es) (take (n.commit - prev) (drop prev n.log)) (omega (arith, length-take (n.commit - prev) (drop prev n.log))) in
      rw (all, a) (take-append-drop (n.commit - prev) es))
      (flip (cases_lt (n.commit - prev) (length es))))
      (flip (cases_lt 0 (n.commit - prev)))
    where
      flip : {A B : Type 0} → A ⊎ B → B ⊎ A
      flip (inl a) = inr a
      flip (inr b) = inl b

      nothing : (k : ℕ) → take k (take 0 (drop prev n.log)) ++ drop 0 es ≡ es
      nothing zero = refl
      nothing (suc k) = refl

      part : (k : ℕ) → 0 < n.commit - prev → k ≤ n.commit - prev → k ≤ length es → take k (drop prev n.log) ≡ take k es
      part k some small fits =
          let a = agrees h i p.from (prev + k) n s.leader l f p.term s.led le (omega arith) (omega (arith, s.fits)) in
          let b = slice_same s.leader.log n.log prev k a in
          let d : take k es ≡ take k (drop prev s.leader.log) = ap (take k) s.are ∙ take-take k (length es) (drop prev s.leader.log) fits in
          sym b ∙ sym d

  -- a commit index is learned
  learn_ok : (h : History E) (i j : NodeId) (commit upto : ℕ) (n : RaftNode E) (z : Node E) → Run g h → FitsIn g h i n → n.role ≡ Follower → Led h j n.term z → commit ≤ z.commit → upto ≤ length n.log → take upto n.log ≡ take upto z.log
      → StepTo g h i (with_commit n commit upto)
  learn_ok h i j commit upto n z l f r led le fits same = ⊎_elim
      (λ (up : n.commit < min commit upto).
      let y = with_commit n commit upto in
      let down = ap role_of r in
      moved_down g h i n y l f (Learn j z led (omega arith) (omega arith) (same_less n.log z.log upto y.commit (omega arith) same) down refl refl down refl) f.id (omega (arith, f.done)) f.based r)
      (λ (keep : min commit upto ≤ n.commit).
      let e : max n.commit (min commit upto) ≡ n.commit = omega arith in
      stay g h i (with_commit n commit upto) l (record {
        id = f.id;
        is = f.is ∙ ap (λ (k : ℕ). history_node (record n { commit = k })) (sym e);
        done = omega (arith, f.done);
        based = f.based;
        votes = f.votes;
        peers = f.peers;
        first = f.first;
      }))
      (cases_lt n.commit (min commit upto))

  abbrev Took : History E → NodeId → RaftNode E → Node E → ℕ → RaftTurn E → Type 0
  Took h i n z upto t = (r : RestOk g h i n t) × (take upto t.node.log ≡ take upto z.log)

  take_over_ok : (h : History E) (i : NodeId) (n : RaftNode E) (p : Packet E) (prev prev_term commit : ℕ) (es : List E) → Run g h → FitsIn g h i n → (s : LeaderHad g.entries h p prev prev_term commit es) → n.role ≡ Follower → p.term ≡ n.term
      → take prev n.log ≡ take prev s.leader.log → Took h i n s.leader (prev + length es) (append_missing g.entries n prev commit es)
  take_over_ok h i n p prev prev_term commit es l f s r t same =
      if_case (Took h i n z upto) (d == length es) (unchanged (with_commit n commit upto)) (spliced g.entries n prev commit es d)
      (λ e.
      let all : take upto n.log ≡ take upto z.log = subst (λ (k : ℕ). take (prev + k) n.log ≡ take (prev + k) z.log) (eq_true d (length es) e) th.same in
      let a = learn_ok h i p.from commit upto n z l f r led s.committed (same_fits z.log n.log upto s.fits (sym all)) all in
      (record { term = refl; vote = refl; end = a; packets_are_true = tt; stores = inl (refl, refl, refl) }, all))
      (λ e.
      let less : d < length es = omega (arith, th.small, eq_false d (length es) e) in
      let m = record n { log = log } in
      let down = ap role_of r in
      let new : take upto n.log ≢ take upto z.log = λ q. ⊎_elim (λ (k : d ≡ length es). eq_false d (length es) e k) (λ (no : take (prev + d + 1) n.log ≢ take (prev + d + 1) z.log). no (same_less n.log z.log upto (prev + d + 1) (omega arith) q)) th.last in
      let a = moved_down g h i n m l f (Accept p.from z upto led s.fits new down refl refl down is refl) f.id f.done f.based r in
      let prefix : take upto log ≡ take upto z.log = ap (take upto) is ∙ take-take upto upto z.log (omega arith) in
      let b = learn_ok a.after i p.from commit upto m z a.lawful a.fits r (led_on h a.after p.from n.term z a.later led) s.committed (same_fits z.log log upto s.fits (sym prefix)) prefix in
      (record { term = refl; vote = refl; end = and_then g h i m (with_commit m commit upto) a b; packets_are_true = tt; stores = inr (inl (prev + d + 1, drop d es, refl, splice, refl)) }, prefix))
    where
      z : Node E
      z = s.leader

      upto : ℕ
      upto = prev + length es

      d : ℕ
      d = matching_count g.entries n.log prev es

      log : List E
      log = take (prev + d) n.log ++ drop d es

      led : Led h p.from n.term z
      led = record { was = s.led.was; leads = s.led.leads; in_term = s.led.in_term ∙ t }

      th : There n.log z.log prev (length es) d
      th = there g.entries n.log z.log (λ at a b e. matches h i p.from at n z l f s.led.was a b e) es prev s.are s.fits same

      is : log ≡ take upto z.log
      is = ap (λ (a : List E). a ++ drop d es) th.same ∙ ap (λ (a : List E). take (prev + d) z.log ++ drop d a) s.are ∙ joined z.log prev d (length es) th.small

      splice : log ≡ take (prev + d + 1 - 1) n.log ++ drop d es
      splice = let e : prev + d + 1 - 1 ≡ prev + d = omega arith in rw e refl

  has_prev_is : (h : History E) (i : NodeId) (n : RaftNode E) (p : Packet E) (prev prev_term commit : ℕ) (es : List E) → Run g h → FitsIn g h i n → (s : LeaderHad g.entries h p prev prev_term commit es) → has_prev g.entries n prev prev_term ≡ true → take prev n.log ≡ take prev s.leader.log
  has_prev_is h i n p prev prev_term commit es l f s e = go (prev == 0) refl e
    where
      go : (b : Bool) → (prev == 0) ≡ b → (b || (nat_le prev (length n.log) && (term_at (entry_view g.entries) n.log prev == prev_term))) ≡ true → take prev n.log ≡ take prev s.leader.log
      go true q r = let z : prev ≡ 0 = eq_true prev 0 q in rw z refl
      go false q r =
          let a = and_true (nat_le prev (length n.log)) (term_at (entry_view g.entries) n.log prev == prev_term) r in
          matches h i p.from prev n s.leader l f s.led.was (le_true prev (length n.log) a.0) (omega (arith, s.fits)) (eq_true (term_at (entry_view g.entries) n.log prev) prev_term a.1 ∙ sym s.at_prev)

  append_here_ok : (h : History E) (i : NodeId) (n : RaftNode E) (p : Packet E) (prev prev_term commit probe : ℕ) (es : List E) → Run g h → FitsIn g h i n → LeaderHad g.entries h p prev prev_term commit es → n.role ≡ Follower → p.term ≡ n.term
      → RestOk g h i n (append_in_term g.entries n p.from prev prev_term commit probe es)
  append_here_ok h i n p prev prev_term commit probe es l f s r t =
      rw (mended_term_is h i n p prev prev_term commit es l f s (omega arith), mended_is h i n p prev prev_term commit es l f s (omega arith))
      (if_case (RestOk g h i n) (has_prev g.entries n prev prev_term) (say (append_missing g.entries n prev commit es) p.from (AppendSay true (prev + length es) probe)) (say (unchanged n) p.from (AppendSay false (min (prev - 1) (length n.log)) probe))
      (λ e.
      let a = take_over_ok h i n p prev prev_term commit es l f s r t (has_prev_is h i n p prev prev_term commit es l f s e) in
      said g h i n (append_missing g.entries n prev commit es) p.from (AppendSay true (prev + length es) probe) a.0 (inr (copy a.0 a.1)))
      (λ e. said g h i n (unchanged n) p.from (AppendSay false (min (prev - 1) (length n.log)) probe) (quiet_rest g h i n l f) tt))
    where
      copy : (a : RestOk g h i n (append_missing g.entries n prev commit es)) → take (prev + length es) (append_missing g.entries n prev commit es).node.log ≡ take (prev + length es) s.leader.log
          → HasCopy a.end.after (packet (append_missing g.entries n prev commit es).node p.from (AppendSay true (prev + length es) probe)) (prev + length es)
      copy a same =
          let m = (append_missing g.entries n prev commit es).node in
          record {
            who = p.from;
            leader = s.leader;
            led = led_on h a.end.after p.from m.term s.leader a.end.later (record { was = s.led.was; leads = s.led.leads; in_term = s.led.in_term ∙ t ∙ a.term });
            fits = s.fits;
            held = record { holder = history_node m; was = subst (λ (k : NodeId). Was a.end.after k (history_node m)) (sym a.end.fits.id) (was_shown g a.end.after i m a.end.fits); in_term = refl; same = same };
          }

  -- who follows, from any role
  pub follows_ok : (h : History E) (i : NodeId) (n : RaftNode E) (from : NodeId) (moment : ℕ) → Run g h → FitsIn g h i n → StepTo g h i (becomes_follower n from moment)
  follows_ok h i n from moment l f = moved_down g h i n (becomes_follower n from moment) l f (Fall refl refl refl refl (omega arith)) f.id f.done f.based refl

  pub append_ok : (h : History E) (i : NodeId) (n : RaftNode E) (moment : ℕ) (p : Packet E) (prev prev_term commit probe : ℕ) (es : List E) → Run g h → FitsIn g h i n → LeaderHad g.entries h p prev prev_term commit es → p.term ≤ n.term
      → RestOk g h i n (append g.entries n moment p prev prev_term commit probe es)
  append_ok h i n moment p prev prev_term commit probe es l f s le =
      if_case (RestOk g h i n) (nat_lt p.term n.term) (say (unchanged n) p.from (AppendSay false 0 0)) (cond (is_leader n.role) (unchanged n) (append_in_term g.entries m p.from prev prev_term commit probe es))
      (λ e. said g h i n (unchanged n) p.from (AppendSay false 0 0) (quiet_rest g h i n l f) tt)
      (λ e. if_case (RestOk g h i n) (is_leader n.role) (unchanged n) (append_in_term g.entries m p.from prev prev_term commit probe es)
      (λ q. quiet_rest g h i n l f)
      (λ q.
      let a = follows_ok h i n p.from moment l f in
      let t : p.term ≡ n.term = omega (arith, lt_false p.term n.term e) in
      rest_after g h i n m (append_in_term g.entries m p.from prev prev_term commit probe es) a refl refl refl refl
      (append_here_ok a.after i m p prev prev_term commit probe es a.lawful a.fits (told_on g.entries h a.after p (Append prev prev_term commit probe es) a.later s) refl t)))
    where
      m : RaftNode E
      m = becomes_follower n p.from moment
