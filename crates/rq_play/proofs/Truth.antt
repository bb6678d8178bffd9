-- What was said of a server was so.
use Rattle.std.proofs.Common.{◌≡◌, ◌≢◌, ℕ, zero, suc, ◌+◌, ◌&&◌, if◌then◌else◌, Bool, true, false, ◌⊎◌, inl, inr, Option, Some, None, List, [], ◌∷◌, ◌++◌, length, slice_get, refl, sym, ap, ◌∙◌, subst, arith}
use Rattle.std.specs.Prelude.{⊤}
use Rattle.std.proofs.lemmas.List.{append-nil, append_assoc}
use Rattle.rq_wire.specs.declared.config.Member.{Member}
use Rattle.rq_history.specs.History.{NodeId}
use Rattle.rq_raft.specs.Node.{StoredRecord, Persistent, one_of}
use Rattle.rq_request.specs.declared.say.Answer.{Answer}
use Rattle.rq_world.specs.declared.log_entry.LogEntry.{LogEntry}
use Rattle.rq_world.specs.Node.{Node, Turn, members}
use Rattle.rq_world.specs.World.{NodeState, Running, Down, Act, IsPast}
use Rattle.rq_world.specs.World as world
use Rattle.rq_play.specs.Line.{Line}
use Rattle.rq_play.specs.Said.{Said, gave}
use Rattle.rq_play.specs.Said as said
use Rattle.rq_play.specs.Server.{Extra, Server, Course, Fault, NoFault, Reading, Storing, Fate, Done, Struck, Failed, fate, puts, ended, moves, opens, opening}
use Rattle.rq_play.specs.Cluster.{Cluster, now, state_in, server_in, Spoken, rule_of, moved_in, acts, goes_if, starts, stops, took, counts_ask, is_running, Plan, ran}
use Rattle.rq_play.specs.Runs.{Runs, Steps}
use Rattle.rq_play.specs.Promise.{ChangesOne, WasIn, IsSo, AreSo}
use Rattle.rq_play.proofs.Acting.{each_act, each_start, each_stop}
use Rattle.rq_play.proofs.Basics.{IsBasic, PlanIsBasic, basic_servers, basic_first, line_basic, BeginsAt, line_starts}
use Rattle.rq_play.proofs.Beginning.{nothing_said}
use Rattle.rq_play.proofs.Founded.{IsFounded, founded_on, begins_founded, runs_are_founded}

-- ---- moments

past_here : (first : List Member) (run : world.Run) → IsPast first run run
past_here first world.First = refl
past_here first (world.Then run event) = inl refl

-- the cluster goes on: no moment of its run is lost
pub record Goes (c d : Cluster) : Type 0 where
  pub first : d.first ≡ c.first
  pub past : (p : world.Run) → IsPast c.first p c.run → IsPast c.first p d.run

was_on : (c d : Cluster) → Goes c d → (i : NodeId) (s : NodeState) → WasIn c i s → WasIn d i s
was_on c d goes i s was = record {
  moment = was.moment;
  past = subst (λ (f : List Member). IsPast f was.moment d.run) (sym goes.first) (goes.past was.moment was.past);
  is = subst (λ (f : List Member). (world.world f was.moment).nodes i ≡ s) (sym goes.first) was.is;
}

so_on : (c d : Cluster) → Goes c d → (s : Said) → IsSo c s → IsSo d s
so_on c d goes (said.Up i n) so = was_on c d goes i (Running n) so
so_on c d goes (said.Down i) so = (so.0, so.1, was_on c d goes i so.0 so.2)
so_on c d goes (said.Shown i state) so = was_on c d goes i state so
so_on c d goes (said.Put number i op) so = tt
so_on c d goes (said.Rejected number status text) so = tt
so_on c d goes (said.Missed number i) so = tt
so_on c d goes (said.Gave number say place) so = tt

abbrev AllSo : Cluster → List Said → Type 0
AllSo c [] = ⊤
AllSo c (s ∷ talk) = IsSo c s × AllSo c talk

all_on : (c d : Cluster) → Goes c d → (talk : List Said) → AllSo c talk → AllSo d talk
all_on c d goes [] so = tt
all_on c d goes (s ∷ talk) (one, more) = (so_on c d goes s one, all_on c d goes talk more)

all_both : (c : Cluster) (a b : List Said) → AllSo c a → AllSo c b → AllSo c (a ++ b)
all_both c [] b one two = two
all_both c (s ∷ a) b (first, rest) two = (first, all_both c a b rest two)

all_get : (c : Cluster) (talk : List Said) → AllSo c talk → AreSo talk c
all_get c [] so k s e = absurd (cc)
all_get c (t ∷ talk) (one, more) zero s e = subst (IsSo c) (same e) one
  where
    same : Some t ≡ Some s → t ≡ s
    same e = cc
all_get c (t ∷ talk) (one, more) (suc k) s e = all_get c talk more k s e

-- ---- what is said in a step

puts_so : (c : Cluster) (i : NodeId) (a : Act) → AllSo c (puts i a)
puts_so c i (world.Ask number timeout op) = (tt, tt)
puts_so c i world.Elect = tt
puts_so c i world.Beat = tt
puts_so c i world.Flush = tt
puts_so c i world.Apply = tt
puts_so c i world.Compact = tt
puts_so c i (world.Deliver k) = tt
puts_so c i world.Tick = tt
puts_so c i world.Idle = tt

gave_so : (c : Cluster) (place : ℕ) (answers : List Answer) → AllSo c (gave place answers)
gave_so c place [] = tt
gave_so c place (a ∷ answers) = (tt, gave_so c place answers)

here_now : (c : Cluster) (i : NodeId) (s : NodeState) → state_in c i ≡ s → WasIn c i s
here_now c i s is = record { moment = c.run; past = past_here c.first c.run; is = is }

down_now : (c : Cluster) (i : NodeId) (kept : Persistent LogEntry) (rest : List (StoredRecord LogEntry)) → state_in c i ≡ Down kept rest → IsSo c (said.Down i)
down_now c i kept rest is = (Down kept rest, not_running, here_now c i (Down kept rest) is)
  where
    not_running : is_running (Down kept rest) ≢ true
    not_running e = cc

ended_so : (first : List Member) (d : Cluster) (course : Course) (i : NodeId) (a : Act) (extra : Extra) (n : Node) (t : Turn) (f : Fate) → state_in d i ≡ (ended first f course i a extra n t).server.state → AllSo d (ended first f course i a extra n t).said
ended_so first d course i a extra n t Done is = all_both d (puts i a) (gave (world.place_of first n a) t.answers) (puts_so d i a) (gave_so d (world.place_of first n a) t.answers)
ended_so first d course i a extra n t Struck is = all_both d (puts i a) (said.Down i ∷ []) (puts_so d i a) (down_now d i _ _ is, tt)
ended_so first d course i a extra n t Failed is = all_both d (puts i a) (said.Down i ∷ []) (puts_so d i a) (down_now d i _ _ is, tt)

moved_so : (first : List Member) (d : Cluster) (course : Course) (i : NodeId) (a : Act) (rule : Node → Turn) (extra : Extra) (s : NodeState) → state_in d i ≡ (moves first course i a rule extra s).server.state → AllSo d (moves first course i a rule extra s).said
moved_so first d course i a rule extra (Running n) is = ended_so first d course i a extra n (rule n) (fate course extra.armed (rule n).stored) is
moved_so first d course i a rule extra (Down kept rest) is = puts_so d i a

act_so : (course : Course) (c : Cluster) (i : NodeId) (a : Act) → AllSo (acts course c i a).0 (acts course c i a).1
act_so course c i a = moved_so c.first (acts course c i a).0 course i a (rule_of c a) (c.extras i) (state_in c i) (ap (λ (s : Server). s.state) (each_act course c i a).here)

start_so : (course : Course) (c : Cluster) (i : NodeId) (s : NodeState) → state_in c i ≡ s → one_of (members c.first) i ≡ true → AllSo (starts course c i s).0 (starts course c i s).1
start_so course c i (Running n) is member = tt
start_so course c i (Down kept rest) is member = by course.fault (ap (λ (s : Server). s.state) (each_start course c i kept rest is member).here)
  where
    by : (f : Fault) → state_in (starts course c i (Down kept rest)).0 i ≡ (opens c.first f course i (c.extras i) kept rest).0.state → AllSo (starts course c i (Down kept rest)).0 (opens c.first f course i (c.extras i) kept rest).1
    by NoFault here = (here_now (starts course c i (Down kept rest)).0 i _ here, tt)
    by Reading here = (down_now (starts course c i (Down kept rest)).0 i _ _ here, tt)
    by Storing here = (down_now (starts course c i (Down kept rest)).0 i _ _ here, tt)

stop_so : (c : Cluster) (i : NodeId) (s : NodeState) → state_in c i ≡ s → AllSo (stops c i s).0 (stops c i s).1
stop_so c i (Running n) is = (down_now (stops c i (Running n)).0 i _ _ (ap (λ (s : Server). s.state) (each_stop c i n is).here), tt)
stop_so c i (Down kept rest) is = tt

basic_so : (c : Cluster) (w : Spoken) → IsBasic c w → ((i : NodeId) → one_of c.servers i ≡ true → one_of (members c.first) i ≡ true) → AllSo w.0 w.1
basic_so c _ IsBasic.is_nothing known = tt
basic_so c _ (IsBasic.is_shown i named) known = (here_now c i (state_in c i) refl, tt)
basic_so c _ (IsBasic.is_act course i a plain named) known = act_so course c i a
basic_so c _ (IsBasic.is_ask course i left shape timeout op named) known = act_so course (counts_ask c left shape) i (world.Ask (c.asks + 1) timeout op)
basic_so c _ (IsBasic.is_rejected status text) known = (tt, tt)
basic_so c _ (IsBasic.is_missed i named) known = (tt, tt)
basic_so c _ (IsBasic.is_clock moment) known = tt
basic_so c _ (IsBasic.is_start course i named) known = start_so course c i (state_in c i) refl (known i named)
basic_so c _ (IsBasic.is_stop i named) known = stop_so c i (state_in c i) refl
basic_so c _ (IsBasic.is_armed calls pick i) known = tt
basic_so c _ (IsBasic.is_cut cut i) known = tt
basic_so c _ (IsBasic.is_taken k) known = tt
basic_so c _ (IsBasic.is_delivered course k i named) known = act_so course (took c k) i (world.Deliver k)

-- ---- a step goes on

start_goes : (course : Course) (c : Cluster) (i : NodeId) (s : NodeState) → Goes c (starts course c i s).0
start_goes course c i (Running n) = record { first = refl; past = λ p h. h }
start_goes course c i (Down kept rest) = by course.fault
  where
    by : (f : Fault) → Goes c (goes_if c (opening c.first f course i) i (opens c.first f course i (c.extras i) kept rest).0.extra)
    by NoFault = record { first = refl; past = λ p h. inr h }
    by Reading = record { first = refl; past = λ p h. h }
    by Storing = record { first = refl; past = λ p h. inr h }

stop_goes : (c : Cluster) (i : NodeId) (s : NodeState) → Goes c (stops c i s).0
stop_goes c i (Running n) = record { first = refl; past = λ p h. inr h }
stop_goes c i (Down kept rest) = record { first = refl; past = λ p h. h }

basic_goes : (c : Cluster) (w : Spoken) → IsBasic c w → Goes c w.0
basic_goes c _ IsBasic.is_nothing = record { first = refl; past = λ p h. h }
basic_goes c _ (IsBasic.is_shown i named) = record { first = refl; past = λ p h. h }
basic_goes c _ (IsBasic.is_act course i a plain named) = record { first = refl; past = λ p h. inr h }
basic_goes c _ (IsBasic.is_ask course i left shape timeout op named) = record { first = refl; past = λ p h. inr h }
basic_goes c _ (IsBasic.is_rejected status text) = record { first = refl; past = λ p h. h }
basic_goes c _ (IsBasic.is_missed i named) = record { first = refl; past = λ p h. h }
basic_goes c _ (IsBasic.is_clock moment) = record { first = refl; past = λ p h. inr h }
basic_goes c _ (IsBasic.is_start course i named) = start_goes course c i (state_in c i)
basic_goes c _ (IsBasic.is_stop i named) = stop_goes c i (state_in c i)
basic_goes c _ (IsBasic.is_armed calls pick i) = record { first = refl; past = λ p h. h }
basic_goes c _ (IsBasic.is_cut cut i) = record { first = refl; past = λ p h. h }
basic_goes c _ (IsBasic.is_taken k) = record { first = refl; past = λ p h. h }
basic_goes c _ (IsBasic.is_delivered course k i named) = record { first = refl; past = λ p h. inr h }

-- ---- lines and runs

-- behind some steps all that was said, before them and in them, was so
record Stays (plan : Plan) (before : List Said) (w : Spoken) : Type 0 where
  pub servers : w.0.servers ≡ plan.start.servers
  pub founded : IsFounded w.0
  pub so : AllSo w.0 (before ++ w.1)

ran_stays : (plan : Plan) → PlanIsBasic plan → IsFounded plan.start → (before : List Said) → AllSo plan.start before → (courses : List Course) → Stays plan before (ran plan.step courses plan.start)
ran_stays plan basic founded before so [] = record { servers = refl; founded = founded; so = subst (AllSo plan.start) (sym (append-nil before)) so }
ran_stays plan basic founded before so (course ∷ earlier) =
    let w = ran plan.step earlier plan.start in
    let t = plan.step course (length earlier) w.0 in
    let h = ran_stays plan basic founded before so earlier in
    let b = basic course (length earlier) w.0 h.servers in
    record {
      servers = basic_servers w.0 t b ∙ h.servers;
      founded = founded_on w.0 t h.founded b;
      so = subst (AllSo t.0) (append_assoc before w.1 t.1) (all_both t.0 (before ++ w.1) t.1 (all_on w.0 t.0 (basic_goes w.0 t b) (before ++ w.1) h.so) (basic_so w.0 t b h.founded.known));
    }

begins_so : (words : List ℕ) (ls : List Line) (talk : List Said) (c start : Cluster) → Runs words ls talk c → AllSo c talk → BeginsAt c start → AllSo start talk
begins_so words ls talk c start runs so (BeginsAt.is_here same) = subst (λ (d : Cluster). AllSo d talk) (sym same) so
begins_so words ls talk c start runs so (BeginsAt.names ids none can same) = subst (AllSo start) (sym (nothing_said words ls talk c runs none)) tt

all_so : (words : List ℕ) (ls : List Line) (talk : List Said) (c : Cluster) → Runs words ls talk c → AllSo c talk
all_so words _ _ _ Runs.start = tt
all_so words _ _ _ (Runs.line {said = before} {c = from} l more next runs steps) =
    let w = steps.way in
    let begin = line_starts w.prepared from l w.plan w.stands in
    let founded = begins_founded from w.plan.start (runs_are_founded words _ before from runs) begin in
    let so = begins_so words _ before from w.plan.start runs (all_so words _ before from runs) begin in
    subst (λ (v : Spoken). AllSo v.0 (before ++ v.1)) steps.does (ran_stays w.plan (line_basic w.prepared from l w.plan w.stands) founded before so w.courses).so

pub runs_are_so : (words : List ℕ) (ls : List Line) (talk : List Said) (c : Cluster) → Runs words ls talk c → AreSo talk c
runs_are_so words ls talk c run = all_get c talk (all_so words ls talk c run)
