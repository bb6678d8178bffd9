-- The laws of the world, by its histories.
use Rattle.std.proofs.Common.{◌≡◌, ◌⊎◌, ℕ, ◌≤◌, Bool, true, false, cond, List, [], ◌∷◌, length, take, Some, refl, ap, sym, subst, inl, inr, arith}
use Rattle.std.specs.Prelude.{nat_lt, fold, bytes_eq, map}
use Rattle.std.proofs.lemmas.List.{length-take-le}
use Rattle.rq_wire.specs.declared.config.Member.{Member}
use Rattle.rq_history.specs.History.{NodeId, Was, Led, IsPrefixOf}
use Rattle.rq_raft.specs.Entries.{voters}
use Rattle.rq_raft.specs.Node.{Message, Append, one_of}
use Rattle.rq_raft.specs.Truth.{role_of, history_node, MessageIsTrue, Refines}
use Rattle.rq_world.specs.declared.log_entry.LogEntry.{LogEntry}
use Rattle.rq_world.specs.Node.{Node, log_entries}
use Rattle.rq_world.specs.World.{NodeState, Running, Down, Event, Run as Events, First, Then, world, IsPast, longer, chosen}
use Rattle.rq_world.specs.Laws.{Runs, Leads, OneLeaderATerm, LogsMatch, AppendsAgree, LeadersAreComplete, OneLogGrows, OneLogHolds, AreSafe}
use Rattle.rq_world.proofs.Tests.{if_case, lt_true, lt_false, id_true}
use Rattle.rq_world.proofs.Given.{Given}
use Rattle.rq_world.proofs.Acts.{told_at}
use Rattle.rq_world.proofs.Simulation.{Choice, raft_in, Sim, sim, was_at}

-- how much stands of what was broken off doesn't matter here
abbrev none : Choice
none i = 0

module _ (g : Given) where
  pub here : (run : Events) → IsPast g.first run run
  here First = refl
  here (Then run e) = inl refl

  abbrev pub sim_of : (run : Events) → Sim g none run
  sim_of run = sim g run none

  pub was_in : (run p : Events) → IsPast g.first p run → (i : NodeId) (n : Node) → Runs g.first p i n → Was (sim_of run).history i (history_node n.raft)
  was_in run p past i n is = was_at g none run p (sim_of run) past i n is

  led : (run p : Events) (i : NodeId) (term : ℕ) (n : Node) → IsPast g.first p run → Leads g.first p i term n → Led (sim_of run).history i term (history_node n.raft)
  led run p i term n past l = record { was = was_in run p past i n l.runs; leads = ap role_of l.role; in_term = l.in_term }

  pub one_leader : OneLeaderATerm g.first
  one_leader run p q a b i j term n m x y =
      g.one_leader (voters g.first) (sim_of run).history (sim_of run).fit.lawful i j term (history_node n.raft) (history_node m.raft) (led run p i term n a x) (led run q j term m b y)

  logs_match : LogsMatch g.first
  logs_match run p q a b i j n m r s k x y e =
      g.logs_match (voters g.first) (sim_of run).history (sim_of run).fit.lawful i j (history_node n.raft) (history_node m.raft) (was_in run p a i n r) (was_in run q b j m s) k x y e

  pub fits_in : (run : Events) (i : NodeId) (n : Node) → Runs g.first run i n → Refines log_entries (sim_of run).history i n.raft
  fits_in run i n r = subst (λ (p : NodeState). Refines log_entries (sim_of run).history i (raft_in none i p)) r ((sim_of run).fit.fits i)

  appends_agree : AppendsAgree g.first
  appends_agree run i n r k p prev prev_term commit probe es at kind le =
      let s = sim_of run in
      let packets_are_true : MessageIsTrue log_entries s.history p (Append prev prev_term commit probe es) = subst (λ (x : Message LogEntry). MessageIsTrue log_entries s.history p x) kind (told_at g s.history (world g.first run).sent k s.fit.packets_are_true (Some p) at p refl) in
      g.moves.agrees s.history i n.raft p prev prev_term commit probe es s.fit.lawful (fits_in run i n r) packets_are_true le

  leaders_are_complete : LeadersAreComplete g.first
  leaders_are_complete run p q a b i j term n m r lead lt =
      g.committed_stays (voters g.first) (sim_of run).history (sim_of run).fit.lawful i j (history_node n.raft) (history_node m.raft) term (was_in run p a i n r) (led run q j term m b lead) lt

  pub done : (run : Events) (i : NodeId) (n : Node) → Runs g.first run i n → n.raft.applied ≤ n.raft.commit
  done run i n r = (fits_in run i n r).done

  -- ---- the one log

  pub fits : (run p : Events) → IsPast g.first p run → (i : NodeId) (n : Node) → Runs g.first p i n → n.raft.commit ≤ length n.raft.log
  fits run p past i n r = (g.commits_are_backed (voters g.first) (sim_of run).history (sim_of run).fit.lawful i (history_node n.raft) (was_in run p past i n r)).fits

  -- the list is what some node of the run had committed, or empty
  pub record HasBeen (run : Events) (log : List LogEntry) : Type 0 where
    pub moment : Events
    pub past : IsPast g.first moment run
    pub who : NodeId
    pub node : Node
    pub runs : Runs g.first moment who node
    pub same : log ≡ take node.raft.commit node.raft.log

  pub been_prefixes : (run : Events) (a b : List LogEntry) → HasBeen run a → HasBeen run b → length a ≤ length b → IsPrefixOf a b
  been_prefixes run a b x y le =
      let m = x.node.raft in
      let n = y.node.raft in
      let la = length-take-le m.commit m.log (fits run x.moment x.past x.who x.node x.runs) in
      let lb = length-take-le n.commit n.log (fits run y.moment y.past y.who y.node y.runs) in
      let f = g.prefixes_agree (voters g.first) (sim_of run).history (sim_of run).fit.lawful x.who y.who (history_node m) (history_node n) (was_in run x.moment x.past x.who x.node x.runs) (was_in run y.moment y.past y.who y.node y.runs)
      (omega (arith, la, lb, le, ap length x.same, ap length y.same)) in
      subst (λ (l : List LogEntry). IsPrefixOf l b) (sym x.same) (subst (λ (l : List LogEntry). IsPrefixOf (take m.commit m.log) l) (sym y.same) f)

  abbrev Been : Events → List LogEntry → Type 0
  Been run log = (log ≡ []) ⊎ HasBeen run log

  prefixes : (run : Events) (a b : List LogEntry) → Been run a → Been run b → length a ≤ length b → IsPrefixOf a b
  prefixes run a b (inl e) y le = subst (λ (l : List LogEntry). IsPrefixOf l b) (sym e) refl
  prefixes run a b (inr x) (inl e) le =
      let none : length a ≡ 0 = omega (arith, le, ap length e) in
      subst (λ (k : ℕ). take k b ≡ a) (sym none) (sym (empty a none))
    where
      empty : (l : List LogEntry) → length l ≡ 0 → l ≡ []
      empty [] e = refl
      empty (x ∷ l) e = absurd (omega (arith, e))
  prefixes run a b (inr x) (inr y) le = been_prefixes run a b x y le

  longer_been : (run : Events) (i : NodeId) (best : List LogEntry) → Been run best → Been run (longer g.first best ((world g.first run).nodes i))
  longer_been run i best b = go ((world g.first run).nodes i) refl
    where
      go : (p : NodeState) → (world g.first run).nodes i ≡ p → Been run (longer g.first best p)
      go (Down kept rest) is = b
      go (Running n) is = if_case (Been run) (nat_lt (length best) n.raft.commit) (take n.raft.commit n.raft.log) best
          (λ e. inr (record { moment = run; past = here run; who = i; node = n; runs = is; same = refl })) (λ e. b)

  all_been : (run : Events) (ms : List Member) (best : List LogEntry) → Been run best → Been run (fold (λ b (m : Member). longer g.first b ((world g.first run).nodes m.id)) best ms)
  all_been run [] best b = b
  all_been run (m ∷ ms) best b = all_been run ms (longer g.first best ((world g.first run).nodes m.id)) (longer_been run m.id best b)

  been_on : (run : Events) (e : Event) (log : List LogEntry) → Been run log → Been (Then run e) log
  been_on run e log (inl z) = inl z
  been_on run e log (inr b) = inr (record { moment = b.moment; past = inr b.past; who = b.who; node = b.node; runs = b.runs; same = b.same })

  chosen_been : (run : Events) → Been run (chosen g.first run)
  chosen_been First = inl refl
  chosen_been (Then run e) = all_been (Then run e) g.first (chosen g.first run) (been_on run e (chosen g.first run) (chosen_been run))

  longer_more : (run : Events) (i : NodeId) (best : List LogEntry) → length best ≤ length (longer g.first best ((world g.first run).nodes i))
  longer_more run i best = go ((world g.first run).nodes i) refl
    where
      go : (p : NodeState) → (world g.first run).nodes i ≡ p → length best ≤ length (longer g.first best p)
      go (Down kept rest) is = omega arith
      go (Running n) is =
          let len = length-take-le n.raft.commit n.raft.log (fits run run (here run) i n is) in
          if_case (λ (l : List LogEntry). length best ≤ length l) (nat_lt (length best) n.raft.commit) (take n.raft.commit n.raft.log) best (λ e. omega (arith, len, lt_true (length best) n.raft.commit e)) (λ e. omega arith)

  longer_has : (run : Events) (i : NodeId) (n : Node) (best : List LogEntry) → Runs g.first run i n → n.raft.commit ≤ length (longer g.first best ((world g.first run).nodes i))
  longer_has run i n best is = subst (λ (p : NodeState). n.raft.commit ≤ length (longer g.first best p)) (sym is)
      (let len = length-take-le n.raft.commit n.raft.log (fits run run (here run) i n is) in
      if_case (λ (l : List LogEntry). n.raft.commit ≤ length l) (nat_lt (length best) n.raft.commit) (take n.raft.commit n.raft.log) best (λ e. omega (arith, len)) (λ e. lt_false (length best) n.raft.commit e))

  all_longer : (run : Events) (ms : List Member) (best : List LogEntry) → length best ≤ length (fold (λ b (m : Member). longer g.first b ((world g.first run).nodes m.id)) best ms)
  all_longer run [] best = omega arith
  all_longer run (m ∷ ms) best =
      let a = all_longer run ms (longer g.first best ((world g.first run).nodes m.id)) in
      let b = longer_more run m.id best in
      omega (arith, a, b)

  each_longer : (run : Events) (i : NodeId) (n : Node) → Runs g.first run i n → (ms : List Member) (best : List LogEntry) → one_of (map (λ (m : Member). m.id) ms) i ≡ true → n.raft.commit ≤ length (fold (λ b (m : Member). longer g.first b ((world g.first run).nodes m.id)) best ms)
  each_longer run i n r [] best e = absurd (cc)
  each_longer run i n r (m ∷ ms) best e = go (bytes_eq i m.id) refl e (each_longer run i n r ms (longer g.first best ((world g.first run).nodes m.id)))
    where
      all : ℕ
      all = length (fold (λ b (m : Member). longer g.first b ((world g.first run).nodes m.id)) (longer g.first best ((world g.first run).nodes m.id)) ms)

      go : (b : Bool) → (bytes_eq i m.id) ≡ b → cond b true (one_of (map (λ (m : Member). m.id) ms) i) ≡ true → (one_of (map (λ (m : Member). m.id) ms) i ≡ true → n.raft.commit ≤ all) → n.raft.commit ≤ all
      go true q t f =
          let a = all_longer run ms (longer g.first best ((world g.first run).nodes m.id)) in
          let b = longer_has run m.id n best (subst (λ (k : NodeId). Runs g.first run k n) (id_true i m.id q) r) in
          omega (arith, a, b)
      go false q t f = f t

  pub grows : OneLogGrows g.first
  grows run e = prefixes (Then run e) (chosen g.first run) (chosen g.first (Then run e))
      (been_on run e (chosen g.first run) (chosen_been run)) (chosen_been (Then run e)) (all_longer (Then run e) g.first (chosen g.first run))

  pub holds : OneLogHolds g.first
  holds First i n m r = absurd (cc)
  holds (Then run e) i n m r =
      let all = Then run e in
      let len = length-take-le n.raft.commit n.raft.log (fits all all (here all) i n r) in
      prefixes all (take n.raft.commit n.raft.log) (chosen g.first all) (inr (record { moment = all; past = here all; who = i; node = n; runs = r; same = refl })) (chosen_been all)
      (omega (arith, len, each_longer all i n r g.first (chosen g.first run) m))

  pub are_safe : AreSafe g.first
  are_safe = record { one_leader = one_leader; logs_match = logs_match; appends_agree = appends_agree; leaders_are_complete = leaders_are_complete; grows = grows; holds = holds; within = λ run i n r. (done run i n r, fits run run (here run) i n r) }
