-- Each step of a line is one of few kinds.
use Rattle.std.proofs.Common.{◌≡◌, ℕ, zero, suc, if◌then◌else◌, Bool, true, false, Option, Some, None, List, [], ◌∷◌, refl, ap, ◌∙◌, subst}
use Rattle.std.specs.Prelude.{slice_get, is_some, not, bytes_eq, nat_le, Result, Ok, Err}
use Rattle.std.specs.Ordering.{nat_cmp, is_lt}
use Rattle.std.specs.Cmp.Lexicographic.{slice_cmp}
use Rattle.rq_history.specs.History.{NodeId}
use Rattle.rq_raft.specs.Node.{Packet, one_of}
use Rattle.rq_request.specs.declared.shape.Shape.{Shape}
use Rattle.rq_asking.specs.declared.reading.Requested.{Requested}
use Rattle.rq_asking.specs.declared.reading.Defect.{Defect}
use Rattle.rq_asking.specs.Requested.{requested_of, status_of, text_of}
use Rattle.rq_asking.specs.Asked.{op_at}
use Rattle.rq_world.specs.declared.log_entry.LogEntry.{LogEntry}
use Rattle.rq_world.specs.Promise.{number_of}
use Rattle.rq_world.specs.World.{Act, Op, NodeState, Running, Down}
use Rattle.rq_world.specs.World as world
use Rattle.rq_play.specs.Line.{Action, Line}
use Rattle.rq_play.specs.Line as lines
use Rattle.rq_play.specs.Said.{Shown}
use Rattle.rq_play.specs.Server.{Course, Fault, NoFault, Reading, Storing, opens, opening}
use Rattle.rq_play.specs.Cluster.{Cluster, now, state_in, Spoken, acts, goes_if, named, starts, stops, arms, cuts, took, delivers, is_named, takes, is_cut_off, takes_lowest, lowest, is_none, can_name, starts_next, Prepared, Plan, when, asks_at, rejects, misses, puts_op, puts_request, asks_with, clocks, ticks_next, clock_step, in_order, put_id, is_running, at_server, before_cluster, in_cluster, planned}
use Rattle.rq_play.specs.Asking.{op_in}
use Rattle.rq_play.proofs.Common.{if_case, id_self}

pub data IsBasic (c : Cluster) : Spoken → Type 0 where
  is_nothing : IsBasic c (c, [])
  is_shown : (i : NodeId) → one_of c.servers i ≡ true → IsBasic c (c, Shown i (state_in c i) ∷ [])
  is_act : (course : Course) (i : NodeId) (a : Act) → number_of a ≡ None → one_of c.servers i ≡ true → IsBasic c (acts course c i a)
  is_ask : (course : Course) (i : NodeId) (left : List ℕ) (shape : Shape) (timeout : ℕ) (op : Op) → one_of c.servers i ≡ true → IsBasic c (asks_at course c i left shape timeout op)
  is_rejected : (status : ℕ) (text : List ℕ) → IsBasic c (rejects c status text)
  is_missed : (i : NodeId) → one_of c.servers i ≡ true → IsBasic c (misses c i)
  is_clock : (moment : ℕ) → IsBasic c (clocks c moment)
  is_start : (course : Course) (i : NodeId) → one_of c.servers i ≡ true → IsBasic c (starts course c i (state_in c i))
  is_stop : (i : NodeId) → one_of c.servers i ≡ true → IsBasic c (stops c i (state_in c i))
  is_armed : (calls pick : ℕ) (i : NodeId) → IsBasic c (arms calls pick c i)
  is_cut : (cut : Bool) (i : NodeId) → IsBasic c (cuts cut c i)
  is_taken : (k : ℕ) → IsBasic c (took c k, [])
  is_delivered : (course : Course) (k : ℕ) (i : NodeId) → one_of c.servers i ≡ true → IsBasic c (acts course (took c k) i (world.Deliver k))

-- ---- packets

delivers_basic : (course : Course) (c : Cluster) (k : ℕ) (o : Option (Packet LogEntry)) → IsBasic c (delivers course c k o)
delivers_basic course c k None = IsBasic.is_nothing
delivers_basic course c k (Some p) = if_case (IsBasic c) (is_named c p.to) (acts course (took c k) p.to (world.Deliver k)) (took c k, []) (λ e. IsBasic.is_delivered course k p.to e) (λ e. IsBasic.is_taken k)

takes_basic : (course : Course) (c : Cluster) (k : ℕ) (o : Option (Packet LogEntry)) → IsBasic c (takes course c k o)
takes_basic course c k o = if_case (IsBasic c) (is_cut_off c o) (took c k, []) (delivers course c k o) (λ e. IsBasic.is_taken k) (λ e. delivers_basic course c k o)

lowest_basic : (course : Course) (c : Cluster) (o : Option ℕ) → IsBasic c (takes_lowest course c o)
lowest_basic course c None = IsBasic.is_nothing
lowest_basic course c (Some k) = takes_basic course c k (slice_get (now c).sent k)

-- ---- starts

one_at : (ids : List NodeId) (k : ℕ) (i : NodeId) → slice_get ids k ≡ Some i → one_of ids i ≡ true
one_at [] k i e = absurd (cc)
one_at (j ∷ ids) zero i e = ap (λ (b : Bool). if b then true else one_of ids i) (ap (bytes_eq i) (same e) ∙ id_self i)
  where
    same : Some j ≡ Some i → j ≡ i
    same e = cc
one_at (j ∷ ids) (suc k) i e = by (bytes_eq i j) (one_at ids k i e)
  where
    by : (b : Bool) → one_of ids i ≡ true → (if b then true else one_of ids i) ≡ true
    by true there = refl
    by false there = there

next_basic : (course : Course) (c : Cluster) (k : ℕ) (o : Option NodeId) → slice_get c.servers k ≡ o → IsBasic c (starts_next course c o)
next_basic course c k None e = IsBasic.is_nothing
next_basic course c k (Some i) e = IsBasic.is_start course i (one_at c.servers k i e)

-- ---- asks

op_basic : (course : Course) (c : Cluster) (i : NodeId) → one_of c.servers i ≡ true → (r : Requested) (left : List ℕ) (o : Option Op) → IsBasic c (puts_op course c i r left o)
op_basic course c i named r left (Some op) = IsBasic.is_ask course i left r.request.shape r.request.timeout op named
op_basic course c i named r left None = IsBasic.is_missed i named

request_basic : (course : Course) (c : Cluster) (i : NodeId) → one_of c.servers i ≡ true → (method target : List ℕ) (p : Prepared) (r : Result Requested Defect) → IsBasic c (puts_request course c i method target p r)
request_basic course c i named method target p (Ok r) = op_basic course c i named r p.left (op_in (op_at r.request.path r.request p.items))
request_basic course c i named method target p (Err defect) = IsBasic.is_rejected (status_of defect) (text_of method target defect)

ask_basic : (course : Course) (c : Cluster) (i : NodeId) → one_of c.servers i ≡ true → (method target body : List ℕ) (p : Prepared) (s : NodeState) → IsBasic c (asks_with course c i method target body p s)
ask_basic course c i named method target body p (Running n) = request_basic course c i named method target p (requested_of method target body)
ask_basic course c i named method target body p (Down kept rest) = IsBasic.is_missed i named

-- ---- ticks

one_over : (i j : NodeId) (ids more : List NodeId) → (one_of ids j ≡ true → one_of more j ≡ true) → one_of (i ∷ ids) j ≡ true → one_of (i ∷ more) j ≡ true
one_over i j ids more goes = by (bytes_eq j i)
  where
    by : (b : Bool) → (if b then true else one_of ids j) ≡ true → (if b then true else one_of more j) ≡ true
    by true there = refl
    by false there = goes there

one_swapped : (i j k : NodeId) (ids : List NodeId) → one_of (i ∷ j ∷ ids) k ≡ true → one_of (j ∷ i ∷ ids) k ≡ true
one_swapped i j k ids = by (bytes_eq k i) (bytes_eq k j)
  where
    by : (a b : Bool) → (if a then true else (if b then true else one_of ids k)) ≡ true → (if b then true else (if a then true else one_of ids k)) ≡ true
    by true true there = refl
    by true false there = refl
    by false true there = refl
    by false false there = there

put_one : (i j : NodeId) (ids : List NodeId) → one_of (put_id i ids) j ≡ true → one_of (i ∷ ids) j ≡ true
put_one i j [] there = there
put_one i j (k ∷ ids) there = if_case (λ (l : List NodeId). one_of l j ≡ true → one_of (i ∷ k ∷ ids) j ≡ true) (is_lt (slice_cmp nat_cmp i k)) (i ∷ k ∷ ids) (k ∷ put_id i ids)
    (λ e h. h)
    (λ e h. one_swapped k i j ids (one_over k j (put_id i ids) (i ∷ ids) (put_one i j ids) h))
    there

pub ordered_one : (ids : List NodeId) (j : NodeId) → one_of (in_order ids) j ≡ true → one_of ids j ≡ true
ordered_one [] j there = there
ordered_one (i ∷ ids) j there = one_over i j (in_order ids) ids (ordered_one ids j) (put_one i j (in_order ids) there)

tick_basic : (course : Course) (c : Cluster) (k : ℕ) (o : Option NodeId) → slice_get (in_order c.servers) k ≡ o → IsBasic c (ticks_next course c o)
tick_basic course c k None e = IsBasic.is_nothing
tick_basic course c k (Some i) e = IsBasic.is_act course i world.Tick refl (ordered_one c.servers i (one_at (in_order c.servers) k i e))

clock_basic : (moment : ℕ) (course : Course) (k : ℕ) (c : Cluster) → IsBasic c (clock_step moment course k c)
clock_basic moment course zero c = IsBasic.is_clock moment
clock_basic moment course (suc k) c = tick_basic course c k (slice_get (in_order c.servers) k) refl

-- ---- lines

abbrev pub PlanIsBasic : Plan → Type 0
PlanIsBasic plan = (course : Course) (k : ℕ) (d : Cluster) → d.servers ≡ plan.start.servers → IsBasic d (plan.step course k d)

abbrev pub BasicIf : Option Plan → Type 0
BasicIf None = Unit {0}
BasicIf (Some plan) = PlanIsBasic plan

when_basic : (b : Bool) (plan : Plan) → PlanIsBasic plan → BasicIf (when b plan)
when_basic true plan basic = basic
when_basic false plan basic = tt

module _ (c : Cluster) (i : NodeId) (named : one_of c.servers i ≡ true) where
  still : (d : Cluster) → d.servers ≡ c.servers → one_of d.servers i ≡ true
  still d same = ap (λ (ids : List NodeId). one_of ids i) same ∙ named

  action_basic : (p : Prepared) (action : Action) → BasicIf (at_server p c i action)
  action_basic p lines.Elect = λ course k d same. IsBasic.is_act course i world.Elect refl (still d same)
  action_basic p lines.Beat = λ course k d same. IsBasic.is_act course i world.Beat refl (still d same)
  action_basic p lines.Flush = λ course k d same. IsBasic.is_act course i world.Flush refl (still d same)
  action_basic p lines.Apply = λ course k d same. IsBasic.is_act course i world.Apply refl (still d same)
  action_basic p lines.Compact = λ course k d same. IsBasic.is_act course i world.Compact refl (still d same)
  action_basic p (lines.Ask method target body) = λ course k d same. ask_basic course d i (still d same) method target body p (state_in d i)
  action_basic p lines.Stop = when_basic (is_running (state_in c i)) _ (λ course k d same. IsBasic.is_stop i (still d same))
  action_basic p (lines.StopWithin calls pick) = when_basic (is_running (state_in c i)) _ (λ course k d same. IsBasic.is_armed calls pick i)
  action_basic p lines.Start = when_basic (not (is_running (state_in c i))) _ (λ course k d same. IsBasic.is_start course i (still d same))
  action_basic p lines.Cut = λ course k d same. IsBasic.is_cut true i
  action_basic p lines.Heal = λ course k d same. IsBasic.is_cut false i
  action_basic p lines.Show = λ course k d same. IsBasic.is_shown i (still d same)

before_basic : (c : Cluster) (line : Line) → BasicIf (before_cluster c line)
before_basic c lines.Skip = λ course k d same. IsBasic.is_nothing
before_basic c (lines.Cluster ids) = when_basic (can_name c ids) _ (λ course k d same. next_basic course d k (slice_get d.servers k) refl)
before_basic c (lines.At i action) = tt
before_basic c (lines.Deliver number) = tt
before_basic c (lines.Run times) = tt
before_basic c (lines.Clock moment) = tt

in_basic : (p : Prepared) (c : Cluster) (line : Line) → BasicIf (in_cluster p c line)
in_basic p c lines.Skip = λ course k d same. IsBasic.is_nothing
in_basic p c (lines.Cluster ids) = tt
in_basic p c (lines.At i action) = if_case BasicIf (is_named c i) (at_server p c i action) None (λ e. action_basic c i e p action) (λ e. tt)
in_basic p c (lines.Deliver zero) = tt
in_basic p c (lines.Deliver (suc j)) = when_basic (is_some (slice_get (now c).sent j)) _ (λ course k d same. delivers_basic course d j (slice_get (now d).sent j))
in_basic p c (lines.Run times) = λ course k d same. lowest_basic course d (lowest d.taken 0 (now d).sent)
in_basic p c (lines.Clock moment) = when_basic (nat_le (now c).moment moment) _ (λ course k d same. clock_basic moment course k d)

pub line_basic : (p : Prepared) (c : Cluster) (line : Line) (plan : Plan) → planned p c line ≡ Some plan → PlanIsBasic plan
line_basic p c line plan is = subst BasicIf is (if_case BasicIf (is_none c.servers) (before_cluster c line) (in_cluster p c line) (λ e. before_basic c line) (λ e. in_basic p c line))

-- ---- what a step leaves

start_servers : (course : Course) (c : Cluster) (i : NodeId) (s : NodeState) → (starts course c i s).0.servers ≡ c.servers
start_servers course c i (Running n) = refl
start_servers course c i (Down kept rest) = by course.fault
  where
    by : (f : Fault) → (goes_if c (opening c.first f course i) i (opens c.first f course i (c.extras i) kept rest).0.extra).servers ≡ c.servers
    by NoFault = refl
    by Reading = refl
    by Storing = refl

stop_servers : (c : Cluster) (i : NodeId) (s : NodeState) → (stops c i s).0.servers ≡ c.servers
stop_servers c i (Running n) = refl
stop_servers c i (Down kept rest) = refl

pub basic_servers : (c : Cluster) (w : Spoken) → IsBasic c w → w.0.servers ≡ c.servers
basic_servers c _ IsBasic.is_nothing = refl
basic_servers c _ (IsBasic.is_shown i named) = refl
basic_servers c _ (IsBasic.is_act course i a plain named) = refl
basic_servers c _ (IsBasic.is_ask course i left shape timeout op named) = refl
basic_servers c _ (IsBasic.is_rejected status text) = refl
basic_servers c _ (IsBasic.is_missed i named) = refl
basic_servers c _ (IsBasic.is_clock moment) = refl
basic_servers c _ (IsBasic.is_start course i named) = start_servers course c i (state_in c i)
basic_servers c _ (IsBasic.is_stop i named) = stop_servers c i (state_in c i)
basic_servers c _ (IsBasic.is_armed calls pick i) = refl
basic_servers c _ (IsBasic.is_cut cut i) = refl
basic_servers c _ (IsBasic.is_taken k) = refl
basic_servers c _ (IsBasic.is_delivered course k i named) = refl

start_first : (course : Course) (c : Cluster) (i : NodeId) (s : NodeState) → (starts course c i s).0.first ≡ c.first
start_first course c i (Running n) = refl
start_first course c i (Down kept rest) = by course.fault
  where
    by : (f : Fault) → (goes_if c (opening c.first f course i) i (opens c.first f course i (c.extras i) kept rest).0.extra).first ≡ c.first
    by NoFault = refl
    by Reading = refl
    by Storing = refl

stop_first : (c : Cluster) (i : NodeId) (s : NodeState) → (stops c i s).0.first ≡ c.first
stop_first c i (Running n) = refl
stop_first c i (Down kept rest) = refl

pub basic_first : (c : Cluster) (w : Spoken) → IsBasic c w → w.0.first ≡ c.first
basic_first c _ IsBasic.is_nothing = refl
basic_first c _ (IsBasic.is_shown i named) = refl
basic_first c _ (IsBasic.is_act course i a plain named) = refl
basic_first c _ (IsBasic.is_ask course i left shape timeout op named) = refl
basic_first c _ (IsBasic.is_rejected status text) = refl
basic_first c _ (IsBasic.is_missed i named) = refl
basic_first c _ (IsBasic.is_clock moment) = refl
basic_first c _ (IsBasic.is_start course i named) = start_first course c i (state_in c i)
basic_first c _ (IsBasic.is_stop i named) = stop_first c i (state_in c i)
basic_first c _ (IsBasic.is_armed calls pick i) = refl
basic_first c _ (IsBasic.is_cut cut i) = refl
basic_first c _ (IsBasic.is_taken k) = refl
basic_first c _ (IsBasic.is_delivered course k i named) = refl

-- ---- where a line begins: where it stands, or, of the cluster line, where its servers are named
pub data BeginsAt (c : Cluster) : Cluster → Type 0 where
  is_here : {start : Cluster} → start ≡ c → BeginsAt c start
  names : {start : Cluster} (ids : List NodeId) → is_none c.servers ≡ true → can_name c ids ≡ true → start ≡ named c ids → BeginsAt c start

abbrev BeginsIf : Cluster → Option Plan → Type 0
BeginsIf c None = Unit {0}
BeginsIf c (Some plan) = BeginsAt c plan.start

when_begins : (c : Cluster) (b : Bool) (plan : Plan) → (b ≡ true → BeginsAt c plan.start) → BeginsIf c (when b plan)
when_begins c true plan begins = begins refl
when_begins c false plan begins = tt

action_begins : (p : Prepared) (c : Cluster) (i : NodeId) (action : Action) → BeginsIf c (at_server p c i action)
action_begins p c i lines.Elect = BeginsAt.is_here refl
action_begins p c i lines.Beat = BeginsAt.is_here refl
action_begins p c i lines.Flush = BeginsAt.is_here refl
action_begins p c i lines.Apply = BeginsAt.is_here refl
action_begins p c i lines.Compact = BeginsAt.is_here refl
action_begins p c i (lines.Ask method target body) = BeginsAt.is_here refl
action_begins p c i lines.Stop = when_begins c (is_running (state_in c i)) _ (λ e. BeginsAt.is_here refl)
action_begins p c i (lines.StopWithin calls pick) = when_begins c (is_running (state_in c i)) _ (λ e. BeginsAt.is_here refl)
action_begins p c i lines.Start = when_begins c (not (is_running (state_in c i))) _ (λ e. BeginsAt.is_here refl)
action_begins p c i lines.Cut = BeginsAt.is_here refl
action_begins p c i lines.Heal = BeginsAt.is_here refl
action_begins p c i lines.Show = BeginsAt.is_here refl

before_begins : (c : Cluster) (line : Line) → is_none c.servers ≡ true → BeginsIf c (before_cluster c line)
before_begins c lines.Skip none = BeginsAt.is_here refl
before_begins c (lines.Cluster ids) none = when_begins c (can_name c ids) _ (λ can. BeginsAt.names ids none can refl)
before_begins c (lines.At i action) none = tt
before_begins c (lines.Deliver number) none = tt
before_begins c (lines.Run times) none = tt
before_begins c (lines.Clock moment) none = tt

in_begins : (p : Prepared) (c : Cluster) (line : Line) → BeginsIf c (in_cluster p c line)
in_begins p c lines.Skip = BeginsAt.is_here refl
in_begins p c (lines.Cluster ids) = tt
in_begins p c (lines.At i action) = if_case (BeginsIf c) (is_named c i) (at_server p c i action) None (λ e. action_begins p c i action) (λ e. tt)
in_begins p c (lines.Deliver zero) = tt
in_begins p c (lines.Deliver (suc j)) = when_begins c (is_some (slice_get (now c).sent j)) _ (λ e. BeginsAt.is_here refl)
in_begins p c (lines.Run times) = BeginsAt.is_here refl
in_begins p c (lines.Clock moment) = when_begins c (nat_le (now c).moment moment) _ (λ e. BeginsAt.is_here refl)

pub line_starts : (p : Prepared) (c : Cluster) (line : Line) (plan : Plan) → planned p c line ≡ Some plan → BeginsAt c plan.start
line_starts p c line plan is = subst (BeginsIf c) is (if_case (BeginsIf c) (is_none c.servers) (before_cluster c line) (in_cluster p c line) (λ e. before_begins c line e) (λ e. in_begins p c line))
