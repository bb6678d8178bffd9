-- What is unanswered is what the book has open.
use Rattle.std.proofs.Common.{◌≡◌, ◌≢◌, ℕ, suc, ◌+◌, ◌&&◌, nat_eq, if◌then◌else◌, Bool, true, false, Some, List, [], ◌∷◌, ◌++◌, length, refl, sym, ap, ◌∙◌, subst, arith}
use Rattle.std.specs.Prelude.{bytes_eq, not, map}
use Rattle.std.proofs.lemmas.List.{append-nil, append_assoc}
use Rattle.rq_wire.specs.declared.config.Member.{Member}
use Rattle.rq_history.specs.History.{NodeId}
use Rattle.rq_raft.specs.Node.{StoredRecord, Persistent, one_of}
use Rattle.rq_request.specs.declared.say.Answer.{Answer}
use Rattle.rq_request.specs.declared.shape.Shape.{Shape}
use Rattle.rq_world.specs.declared.log_entry.LogEntry.{LogEntry}
use Rattle.rq_world.specs.Node.{Node, Turn, members}
use Rattle.rq_world.specs.Asks.{times, all_waiting, asked_numbers, EachTurnKeepsAsks}
use Rattle.rq_world.specs.World.{NodeState, Running, Down, Act, place_of}
use Rattle.rq_world.specs.World as world
use Rattle.rq_play.specs.Line.{Line}
use Rattle.rq_play.specs.Said.{Said, gave}
use Rattle.rq_play.specs.Said as said
use Rattle.rq_play.specs.Server.{Extra, Server, Course, Fault, NoFault, Reading, Storing, Fate, Done, Struck, Failed, fate, puts, ended, moves, opens}
use Rattle.rq_play.specs.Cluster.{Cluster, now, state_in, server_in, Spoken, keeps_extra, moved_in, acts, starts, stops, took, are_apart, named, counts_ask, asks_at, loses, misses, Plan, ran}
use Rattle.rq_play.specs.Runs.{Runs, Steps, waiting_at, unanswered, unanswered_at}
use Rattle.rq_play.specs.Book.{asked_by, answered_by, all_asked, all_answered}
use Rattle.rq_play.specs.Promise.{IsOpen}
use Rattle.rq_play.proofs.Common.{if_case, id_true, id_self, and_true}
use Rattle.rq_play.proofs.Acting.{each_act, each_start, each_stop, extra_same, extra_other}
use Rattle.rq_play.proofs.Basics.{IsBasic, PlanIsBasic, basic_servers, line_basic, BeginsAt, line_starts}
use Rattle.rq_play.proofs.Beginning.{nothing_said}
use Rattle.rq_play.proofs.Founded.{IsFounded, founded_on, begins_founded, runs_are_founded}

-- ---- counts

module _ (x : ℕ) where
  times_both : (a b : List ℕ) → times x (a ++ b) ≡ times x a + times x b
  times_both [] b = omega arith
  times_both (k ∷ a) b = by (nat_eq k x) (times_both a b)
    where
      by : (t : Bool) → times x (a ++ b) ≡ times x a + times x b → (if t then suc (times x (a ++ b)) else times x (a ++ b)) ≡ (if t then suc (times x a) else times x a) + times x b
      by true h = omega (arith, h)
      by false h = h

  abbrev pub asks_in : List Said → ℕ
  asks_in talk = times x (all_asked talk)

  abbrev pub answers_in : List Said → ℕ
  answers_in talk = times x (all_answered talk)

  asks_both : (a b : List Said) → asks_in (a ++ b) ≡ asks_in a + asks_in b
  asks_both [] b = omega arith
  asks_both (s ∷ a) b = let h = asks_both a b in let p = times_both (asked_by s) (all_asked (a ++ b)) in let q = times_both (asked_by s) (all_asked a) in omega (arith, h, p, q)

  answers_both : (a b : List Said) → answers_in (a ++ b) ≡ answers_in a + answers_in b
  answers_both [] b = omega arith
  answers_both (s ∷ a) b = let h = answers_both a b in let p = times_both (answered_by s) (all_answered (a ++ b)) in let q = times_both (answered_by s) (all_answered a) in omega (arith, h, p, q)

  gave_put : (place : ℕ) (answers : List Answer) → asks_in (gave place answers) ≡ 0
  gave_put place [] = refl
  gave_put place (a ∷ answers) = gave_put place answers

  gave_answered : (place : ℕ) (answers : List Answer) → answers_in (gave place answers) ≡ times x (map (λ (given : Answer). given.number) answers)
  gave_answered place [] = refl
  gave_answered place (a ∷ answers) = by (nat_eq a.number x) (gave_answered place answers)
    where
      by : (t : Bool) → answers_in (gave place answers) ≡ times x (map (λ (given : Answer). given.number) answers)
          → (if t then suc (answers_in (gave place answers)) else answers_in (gave place answers)) ≡ (if t then suc (times x (map (λ (given : Answer). given.number) answers)) else times x (map (λ (given : Answer). given.number) answers))
      by true h = ap suc h
      by false h = h

  puts_put : (i : NodeId) (a : Act) → asks_in (puts i a) ≡ times x (asked_numbers a)
  puts_put i (world.Ask number timeout op) = refl
  puts_put i world.Elect = refl
  puts_put i world.Beat = refl
  puts_put i world.Flush = refl
  puts_put i world.Apply = refl
  puts_put i world.Compact = refl
  puts_put i (world.Deliver k) = refl
  puts_put i world.Tick = refl
  puts_put i world.Idle = refl

  puts_answered : (i : NodeId) (a : Act) → answers_in (puts i a) ≡ 0
  puts_answered i (world.Ask number timeout op) = refl
  puts_answered i world.Elect = refl
  puts_answered i world.Beat = refl
  puts_answered i world.Flush = refl
  puts_answered i world.Apply = refl
  puts_answered i world.Compact = refl
  puts_answered i (world.Deliver k) = refl
  puts_answered i world.Tick = refl
  puts_answered i world.Idle = refl

  -- ---- one server

  abbrev open_at : Server → ℕ
  open_at s = times x (s.extra.lost ++ waiting_at s.state)

  open_is : (s : Server) → open_at s ≡ times x s.extra.lost + times x (waiting_at s.state)
  open_is s = times_both s.extra.lost (waiting_at s.state)

  module _ (first : List Member) (keeps : EachTurnKeepsAsks first) (sent : List (Rattle.rq_raft.specs.Node.Packet LogEntry)) (moment : ℕ) (course : Course) (i : NodeId) (a : Act) (extra : Extra) where
    abbrev rule : Node → Turn
    rule n = world.act first sent moment n a

    broken_put : asks_in (puts i a ++ said.Down i ∷ []) ≡ times x (asked_numbers a)
    broken_put = let b = asks_both (puts i a) (said.Down i ∷ []) in let p = puts_put i a in omega (arith, b, p)

    broken_answered : answers_in (puts i a ++ said.Down i ∷ []) ≡ 0
    broken_answered = let b = answers_both (puts i a) (said.Down i ∷ []) in let p = puts_answered i a in omega (arith, b, p)

    lost_is : (n : Node) → times x (extra.lost ++ (all_waiting n ++ asked_numbers a)) ≡ times x extra.lost + (times x (all_waiting n) + times x (asked_numbers a))
    lost_is n = let o = times_both extra.lost (all_waiting n ++ asked_numbers a) in let p = times_both (all_waiting n) (asked_numbers a) in omega (arith, o, p)

    ended_balances : (n : Node) (f : Fate) → asks_in (ended first f course i a extra n (rule n)).said + open_at (record { state = Running n; extra = extra }) ≡ answers_in (ended first f course i a extra n (rule n)).said + open_at (ended first f course i a extra n (rule n)).server
    ended_balances n Done =
        let t = rule n in
        let given = gave (place_of first n a) t.answers in
        let p = asks_both (puts i a) given in
        let q = puts_put i a in
        let r = gave_put (place_of first n a) t.answers in
        let u = answers_both (puts i a) given in
        let v = puts_answered i a in
        let w = gave_answered (place_of first n a) t.answers in
        let before = times_both extra.lost (all_waiting n) in
        let after = times_both extra.lost (all_waiting t.node) in
        let k = keeps sent moment n a x in
        omega (arith, p, q, r, u, v, w, before, after, k)
    ended_balances n Struck =
        let before = times_both extra.lost (all_waiting n) in
        let after = times_both (extra.lost ++ (all_waiting n ++ asked_numbers a)) [] in
        let p = broken_put in
        let v = broken_answered in
        let l = lost_is n in
        omega (arith, before, after, p, v, l)
    ended_balances n Failed =
        let before = times_both extra.lost (all_waiting n) in
        let after = times_both (extra.lost ++ (all_waiting n ++ asked_numbers a)) [] in
        let p = broken_put in
        let v = broken_answered in
        let l = lost_is n in
        omega (arith, before, after, p, v, l)

    moved_balances : (s : NodeState) → asks_in (moves first course i a rule extra s).said + open_at (record { state = s; extra = extra }) ≡ answers_in (moves first course i a rule extra s).said + open_at (moves first course i a rule extra s).server
    moved_balances (Running n) = ended_balances n (fate course extra.armed (rule n).stored)
    moved_balances (Down kept rest) =
        let p = puts_put i a in
        let v = puts_answered i a in
        let before = times_both extra.lost [] in
        let after = times_both (extra.lost ++ asked_numbers a) [] in
        let l = times_both extra.lost (asked_numbers a) in
        omega (arith, p, v, before, after, l)

  -- ---- all servers

  abbrev total : (NodeId → ℕ) → List NodeId → ℕ
  total f [] = 0
  total f (i ∷ ids) = f i + total f ids

  total_same : (f g : NodeId → ℕ) (ids : List NodeId) → ((j : NodeId) → g j ≡ f j) → total g ids ≡ total f ids
  total_same f g [] same = refl
  total_same f g (j ∷ ids) same = let a = same j in let b = total_same f g ids same in omega (arith, a, b)

  total_apart : (f g : NodeId → ℕ) (i : NodeId) (ids : List NodeId) → ((j : NodeId) → j ≢ i → g j ≡ f j) → one_of ids i ≡ false → total g ids ≡ total f ids
  total_apart f g i [] same none = refl
  total_apart f g i (j ∷ ids) same none = by (bytes_eq i j) refl none (total_apart f g i ids same)
    where
      differ : bytes_eq i j ≡ false → j ≢ i
      differ e is = let t : true ≡ false = sym (id_self i) ∙ ap (bytes_eq i) (sym is) ∙ e in absurd (cc)

      by : (t : Bool) → bytes_eq i j ≡ t → (if t then true else one_of ids i) ≡ false → (one_of ids i ≡ false → total g ids ≡ total f ids) → g j + total g ids ≡ f j + total f ids
      by true e h more = absurd (cc)
      by false e h more = let a = same j (differ e) in let b = more h in omega (arith, a, b)

  total_changes : (f g : NodeId → ℕ) (i : NodeId) (p q : ℕ) (ids : List NodeId) → ((j : NodeId) → j ≢ i → g j ≡ f j) → are_apart ids ≡ true → one_of ids i ≡ true → p + f i ≡ q + g i → p + total f ids ≡ q + total g ids
  total_changes f g i p q [] same apart there balance = absurd (cc)
  total_changes f g i p q (j ∷ ids) same apart there balance =
      let ends = and_true (not (one_of ids j)) (are_apart ids) apart in
      by (bytes_eq i j) refl there (λ h. total_changes f g i p q ids same ends.1 h balance) (not_true (one_of ids j) ends.0)
    where
      not_true : (b : Bool) → not b ≡ true → b ≡ false
      not_true false e = refl
      not_true true e = absurd (cc)

      differ : bytes_eq i j ≡ false → j ≢ i
      differ e is = let t : true ≡ false = sym (id_self i) ∙ ap (bytes_eq i) (sym is) ∙ e in absurd (cc)

      by : (t : Bool) → bytes_eq i j ≡ t → (if t then true else one_of ids i) ≡ true → (one_of ids i ≡ true → p + total f ids ≡ q + total g ids) → one_of ids j ≡ false → p + (f j + total f ids) ≡ q + (g j + total g ids)
      by true e h more none =
          let is = id_true i j e in
          let rest = total_apart f g i ids same (ap (one_of ids) is ∙ none) in
          let here : p + f j ≡ q + g j = subst (λ (k : NodeId). p + f k ≡ q + g k) is balance in
          omega (arith, rest, here)
      by false e h more none = let a = same j (differ e) in let b = more h in omega (arith, a, b)

  open_total : (c : Cluster) (ids : List NodeId) → times x (unanswered_at c ids) ≡ total (λ j. open_at (server_in c j)) ids
  open_total c [] = refl
  open_total c (j ∷ ids) = let b = times_both ((c.extras j).lost ++ waiting_at (state_in c j)) (unanswered_at c ids) in let h = open_total c ids in omega (arith, b, h)

  -- what a step puts and what was open before are, together, what it answers and what is open behind it
  abbrev Balances : Cluster → Spoken → Type 0
  Balances c w = asks_in w.1 + times x (unanswered c) ≡ answers_in w.1 + times x (unanswered w.0)

  one_balances : (c : Cluster) (w : Spoken) (i : NodeId) → are_apart c.servers ≡ true → one_of c.servers i ≡ true → w.0.servers ≡ c.servers → ((j : NodeId) → j ≢ i → server_in w.0 j ≡ server_in c j)
      → asks_in w.1 + open_at (server_in c i) ≡ answers_in w.1 + open_at (server_in w.0 i) → Balances c w
  one_balances c w i apart named servers others balance =
      let before = open_total c c.servers in
      let after = open_total w.0 c.servers in
      let moved : times x (unanswered w.0) ≡ times x (unanswered_at w.0 c.servers) = ap (λ (ids : List NodeId). times x (unanswered_at w.0 ids)) servers in
      let t = total_changes (λ j. open_at (server_in c j)) (λ j. open_at (server_in w.0 j)) i (asks_in w.1) (answers_in w.1) c.servers (λ j differs. ap open_at (others j differs)) apart named balance in
      omega (arith, before, after, moved, t)

  same_balances : (c : Cluster) (d : Cluster) (talk : List Said) → asks_in talk ≡ 0 → answers_in talk ≡ 0 → d.servers ≡ c.servers → ((j : NodeId) → open_at (server_in d j) ≡ open_at (server_in c j)) → Balances c (d, talk)
  same_balances c d talk put answered servers same =
      let before = open_total c c.servers in
      let after = open_total d c.servers in
      let moved : times x (unanswered d) ≡ times x (unanswered_at d c.servers) = ap (λ (ids : List NodeId). times x (unanswered_at d ids)) servers in
      let t = total_same (λ j. open_at (server_in c j)) (λ j. open_at (server_in d j)) c.servers same in
      omega (arith, before, after, moved, t, put, answered)

  -- ---- steps

  extra_balances : (c : Cluster) (i : NodeId) (extra : Extra) → extra.lost ≡ (c.extras i).lost → Balances c (keeps_extra c i extra, [])
  extra_balances c i extra lost = same_balances c (keeps_extra c i extra) [] refl refl refl (λ j.
      if_case (λ (e : Extra). open_at (record { state = state_in c j; extra = e }) ≡ open_at (server_in c j)) (bytes_eq j i) extra (c.extras j)
      (λ is. ap (λ (l : List ℕ). times x (l ++ waiting_at (state_in c j))) (lost ∙ ap (λ (k : NodeId). (c.extras k).lost) (sym (id_true j i is))))
      (λ differs. refl))

  module _ (keeps : (first : List Member) → EachTurnKeepsAsks first) (c : Cluster) (apart : are_apart c.servers ≡ true) where
    act_balances : (course : Course) (i : NodeId) (a : Act) → one_of c.servers i ≡ true → Balances c (acts course c i a)
    act_balances course i a named =
        let changed = each_act course c i a in
        let m = moved_balances c.first (keeps c.first) (now c).sent (now c).moment course i a (c.extras i) (state_in c i) in
        one_balances c (acts course c i a) i apart named refl changed.others (m ∙ ap (λ (s : Server). answers_in (moved_in course c i a).said + open_at s) (sym changed.here))

    open_balances : (course : Course) (i : NodeId) (kept : Persistent LogEntry) (rest : List (StoredRecord LogEntry)) (f : Fault)
        → asks_in (opens c.first f course i (c.extras i) kept rest).1 + open_at (record { state = Down kept rest; extra = c.extras i })
        ≡ answers_in (opens c.first f course i (c.extras i) kept rest).1 + open_at (opens c.first f course i (c.extras i) kept rest).0
    open_balances course i kept rest NoFault = refl
    open_balances course i kept rest Reading = refl
    open_balances course i kept rest Storing = refl

    start_balances : (course : Course) (i : NodeId) (s : NodeState) → state_in c i ≡ s → one_of c.servers i ≡ true → one_of (members c.first) i ≡ true → Balances c (starts course c i s)
    start_balances course i (Running n) is named member = refl
    start_balances course i (Down kept rest) is named member =
        let changed = each_start course c i kept rest is member in
        let b = open_balances course i kept rest course.fault in
        let talk = (opens c.first course.fault course i (c.extras i) kept rest).1 in
        one_balances c (starts course c i (Down kept rest)) i apart named changed.servers changed.others
        (ap (λ (s : NodeState). asks_in talk + open_at (record { state = s; extra = c.extras i })) is ∙ b ∙ ap (λ (s : Server). answers_in talk + open_at s) (sym changed.here))

    stop_balances : (i : NodeId) (s : NodeState) → state_in c i ≡ s → one_of c.servers i ≡ true → Balances c (stops c i s)
    stop_balances i (Down kept rest) is named = refl
    stop_balances i (Running n) is named =
        let changed = each_stop c i n is in
        let lost = (c.extras i).lost in
        let before = times_both lost (all_waiting n) in
        let after = times_both (lost ++ (all_waiting n ++ [])) [] in
        let within = times_both lost (all_waiting n ++ []) in
        let tail = times_both (all_waiting n) [] in
        let gone : open_at (record { state = Running n; extra = c.extras i }) ≡ times x ((lost ++ (all_waiting n ++ [])) ++ []) = omega (arith, before, after, within, tail) in
        one_balances c (stops c i (Running n)) i apart named refl changed.others
        (ap (λ (m : ℕ). 0 + m) (ap (λ (s : NodeState). open_at (record { state = s; extra = c.extras i })) is ∙ gone ∙ ap open_at (sym changed.here)))

  ask_balances : (keeps : (first : List Member) → EachTurnKeepsAsks first) (c : Cluster) → are_apart c.servers ≡ true → (course : Course) (i : NodeId) (left : List ℕ) (shape : Shape) (timeout : ℕ) (op : world.Op) → one_of c.servers i ≡ true → Balances c (asks_at course c i left shape timeout op)
  ask_balances keeps c apart course i left shape timeout op named = act_balances keeps (counts_ask c left shape) apart course i (world.Ask (c.asks + 1) timeout op) named

  missed_balances : (c : Cluster) → are_apart c.servers ≡ true → (i : NodeId) → one_of c.servers i ≡ true → Balances c (misses c i)
  missed_balances c apart i named =
      let extra = loses (c.extras i) (c.asks + 1) in
      let waits = waiting_at (state_in c i) in
      let old = open_is (server_in c i) in
      let new = open_is (record { state = state_in c i; extra = extra }) in
      let lost = times_both (c.extras i).lost ((c.asks + 1) ∷ []) in
      let here : open_at (server_in (misses c i).0 i) ≡ open_at (record { state = state_in c i; extra = extra }) = ap (λ (e : Extra). open_at (record { state = state_in c i; extra = e })) (extra_same c.extras i extra) in
      one_balances c (misses c i) i apart named refl
      (λ j differs. ap (λ (e : Extra). record { state = state_in c j; extra = e }) (extra_other c.extras i extra j differs))
      (omega (arith, old, new, lost, here))

  delivered_balances : (keeps : (first : List Member) → EachTurnKeepsAsks first) (c : Cluster) → are_apart c.servers ≡ true → (course : Course) (k : ℕ) (i : NodeId) → one_of c.servers i ≡ true → Balances c (acts course (took c k) i (world.Deliver k))
  delivered_balances keeps c apart course k i named = act_balances keeps (took c k) apart course i (world.Deliver k) named

  module _ (keeps : (first : List Member) → EachTurnKeepsAsks first) (c : Cluster) (apart : are_apart c.servers ≡ true) where
    basic_balances : (w : Spoken) → IsBasic c w → ((i : NodeId) → one_of c.servers i ≡ true → one_of (members c.first) i ≡ true) → Balances c w
    basic_balances _ IsBasic.is_nothing known = refl
    basic_balances _ (IsBasic.is_shown i named) known = refl
    basic_balances _ (IsBasic.is_act course i a plain named) known = act_balances keeps c apart course i a named
    basic_balances _ (IsBasic.is_start course i named) known = start_balances keeps c apart course i (state_in c i) refl named (known i named)
    basic_balances _ (IsBasic.is_stop i named) known = stop_balances keeps c apart i (state_in c i) refl named
    basic_balances _ (IsBasic.is_armed calls pick i) known = extra_balances c i (record (c.extras i) { armed = Some (record { calls = calls; pick = pick }) }) refl
    basic_balances _ (IsBasic.is_cut cut i) known = extra_balances c i (record (c.extras i) { is_cut = cut }) refl
    basic_balances _ (IsBasic.is_taken k) known = refl
    basic_balances _ (IsBasic.is_ask course i left shape timeout op named) known = ask_balances keeps c apart course i left shape timeout op named
    basic_balances _ (IsBasic.is_rejected status text) known = refl
    basic_balances _ (IsBasic.is_missed i named) known = missed_balances c apart i named
    basic_balances _ (IsBasic.is_clock moment) known = refl
    basic_balances _ (IsBasic.is_delivered course k i named) known = delivered_balances keeps c apart course k i named

-- ---- lines and runs

-- the servers are apart, they are the members, and what is unanswered is open
pub record IsBalanced (talk : List Said) (c : Cluster) : Type 0 where
  pub founded : IsFounded c
  pub open_asks : IsOpen talk c

balanced_on : (keeps : (first : List Member) → EachTurnKeepsAsks first) (before : List Said) (c : Cluster) (w : Spoken) → IsBalanced before c → IsBasic c w → IsBalanced (before ++ w.1) w.0
balanced_on keeps before c w so_far basic = record {
  founded = founded_on c w so_far.founded basic;
  open_asks = λ x.
      let p = asks_both x before w.1 in
      let a = answers_both x before w.1 in
      let b = basic_balances x keeps c so_far.founded.apart w basic so_far.founded.known in
      let o = so_far.open_asks x in
      omega (arith, p, a, b, o);
}

record RanBalanced (before : List Said) (start : Cluster) (w : Spoken) : Type 0 where
  pub servers : w.0.servers ≡ start.servers
  pub balanced : IsBalanced (before ++ w.1) w.0

ran_balanced : (keeps : (first : List Member) → EachTurnKeepsAsks first) (plan : Plan) → PlanIsBasic plan → (before : List Said) → IsBalanced before plan.start → (courses : List Course) → RanBalanced before plan.start (ran plan.step courses plan.start)
ran_balanced keeps plan basic before start [] = record { servers = refl; balanced = subst (λ (l : List Said). IsBalanced l plan.start) (sym (append-nil before)) start }
ran_balanced keeps plan basic before start (course ∷ earlier) =
    let w = ran plan.step earlier plan.start in
    let t = plan.step course (length earlier) w.0 in
    let so_far = ran_balanced keeps plan basic before start earlier in
    let b = basic course (length earlier) w.0 so_far.servers in
    record {
      servers = basic_servers w.0 t b ∙ so_far.servers;
      balanced = subst (λ (l : List Said). IsBalanced l t.0) (append_assoc before w.1 t.1) (balanced_on keeps (before ++ w.1) w.0 t so_far.balanced b);
    }

nothing_open : (ids : List NodeId) (x : ℕ) → total x (λ j. 0) ids ≡ 0
nothing_open [] x = refl
nothing_open (i ∷ ids) x = let h = nothing_open ids x in omega (arith, h)

named_open : (c : Cluster) (ids : List NodeId) → IsOpen [] (named c ids)
named_open c ids x = let u = open_total x (named c ids) ids in let z = nothing_open ids x in omega (arith, u, z)

begins_balanced : (words : List ℕ) (ls : List Line) (talk : List Said) (c start : Cluster) → Runs words ls talk c → IsBalanced talk c → BeginsAt c start → IsBalanced talk start
begins_balanced words ls talk c start runs so_far begins = record { founded = begins_founded c start so_far.founded begins; open_asks = by begins }
  where
    by : BeginsAt c start → IsOpen talk start
    by (BeginsAt.is_here same) = subst (IsOpen talk) (sym same) so_far.open_asks
    by (BeginsAt.names ids none can same) = subst (λ (l : List Said). IsOpen l start) (sym (nothing_said words ls talk c runs none)) (subst (IsOpen []) (sym same) (named_open c ids))

pub runs_are_balanced : (keeps : (first : List Member) → EachTurnKeepsAsks first) (words : List ℕ) (ls : List Line) (talk : List Said) (c : Cluster) → Runs words ls talk c → IsBalanced talk c
runs_are_balanced keeps words _ _ _ Runs.start = record { founded = runs_are_founded words [] [] _ Runs.start; open_asks = λ x. refl }
runs_are_balanced keeps words _ _ _ (Runs.line {said = before} {c = from} l more next runs steps) =
    let w = steps.way in
    let start = begins_balanced words _ before from w.plan.start runs (runs_are_balanced keeps words _ before from runs) (line_starts w.prepared from l w.plan w.stands) in
    subst (λ (v : Spoken). IsBalanced (before ++ v.1) v.0) steps.does (ran_balanced keeps w.plan (line_basic w.prepared from l w.plan w.stands) before start w.courses).balanced
