-- What is said is what is noted.
use Rattle.std.proofs.Common.{◌≡◌, ℕ, ◌+◌, if◌then◌else◌, Bool, true, false, Some, List, [], ◌∷◌, ◌++◌, length, refl, sym, ap, ◌∙◌, subst}
use Rattle.std.proofs.lemmas.List.{append-nil, append_assoc}
use Rattle.rq_wire.specs.declared.config.Member.{Member}
use Rattle.rq_history.specs.History.{NodeId}
use Rattle.rq_raft.specs.Node.{StoredRecord, Persistent, one_of}
use Rattle.rq_request.specs.declared.shape.Shape.{Shape}
use Rattle.rq_request.specs.declared.say.Answer.{Answer}
use Rattle.rq_world.specs.declared.log_entry.LogEntry.{LogEntry}
use Rattle.rq_world.specs.Node.{Node, Turn, members}
use Rattle.rq_world.specs.World.{World, NodeState, Running, Down, Act, Note, Op, act, note_of, place_of, at_place, happens_at, stops_at, fails_at, starts_at, fails_start, happens}
use Rattle.rq_world.specs.World as world
use Rattle.rq_play.specs.Line.{Line}
use Rattle.rq_play.specs.Line as lines
use Rattle.rq_play.specs.Said.{Said, said_notes, notes_of, gave}
use Rattle.rq_play.specs.Server.{Extra, Course, Fault, NoFault, Reading, Storing, Fate, Done, Struck, Failed, fate, puts, ended, moves, event_by, event_of, opens, opening}
use Rattle.rq_play.specs.Cluster.{Cluster, now, state_in, Spoken, acts, goes_if, starts, stops, took, is_first, is_allowed, named, Prepared, Plan, counts_ask, asks_at, planned, ran}
use Rattle.rq_play.specs.Runs.{Runs, Steps}
use Rattle.rq_play.specs.Promise.{IsTold}
use Rattle.rq_play.proofs.Common.{and_true}
use Rattle.rq_play.proofs.Basics.{IsBasic, PlanIsBasic, basic_servers, line_basic, BeginsAt, line_starts}

pub notes_both : (a b : List Said) → notes_of (a ++ b) ≡ notes_of a ++ notes_of b
notes_both [] b = refl
notes_both (s ∷ a) b = ap (λ (l : List Note). said_notes s ++ l) (notes_both a b) ∙ sym (append_assoc (said_notes s) (notes_of a) (notes_of b))

-- what was said is what was noted more
abbrev pub Tells : Cluster → Spoken → Type 0
Tells c w = (now w.0).book ≡ (now c).book ++ notes_of w.1

nothing_told : (c : Cluster) → Tells c (c, [])
nothing_told c = sym (append-nil (now c).book)

-- ---- acts

module _ (first : List Member) where
  puts_notes : (i : NodeId) (a : Act) → notes_of (puts i a) ≡ note_of first i a
  puts_notes i (world.Ask number timeout op) = refl
  puts_notes i world.Elect = refl
  puts_notes i world.Beat = refl
  puts_notes i world.Flush = refl
  puts_notes i world.Apply = refl
  puts_notes i world.Compact = refl
  puts_notes i (world.Deliver k) = refl
  puts_notes i world.Tick = refl
  puts_notes i world.Idle = refl

  gave_notes : (place : ℕ) (answers : List Answer) → notes_of (gave place answers) ≡ at_place first place answers
  gave_notes place [] = refl
  gave_notes place (a ∷ answers) = ap (λ (l : List Note). world.Answered a.number a.say place ∷ l) (gave_notes place answers)

  module _ (w : World) (i : NodeId) (course : Course) (a : Act) (extra : Extra) where
    abbrev rule : Node → Turn
    rule n = act first w.sent w.moment n a

    broken : notes_of (puts i a ++ Rattle.rq_play.specs.Said.Down i ∷ []) ≡ note_of first i a
    broken = notes_both (puts i a) (Rattle.rq_play.specs.Said.Down i ∷ []) ∙ append-nil (notes_of (puts i a)) ∙ puts_notes i a

    ended_tells : (n : Node) → w.nodes i ≡ Running n → (f : Fate) → (happens first w (event_by first f course i a)).book ≡ w.book ++ notes_of (ended first f course i a extra n (rule n)).said
    ended_tells n is Done =
        ap (λ (s : NodeState). (happens_at first w i a s).book) is
        ∙ ap (λ (l : List Note). w.book ++ (l ++ at_place first (place_of first n a) (rule n).answers)) (sym (puts_notes i a))
        ∙ ap (λ (l : List Note). w.book ++ (notes_of (puts i a) ++ l)) (sym (gave_notes (place_of first n a) (rule n).answers))
        ∙ ap (λ (l : List Note). w.book ++ l) (sym (notes_both (puts i a) (gave (place_of first n a) (rule n).answers)))
    ended_tells n is Struck = ap (λ (s : NodeState). (stops_at first w i a course.stands s).book) is ∙ ap (λ (l : List Note). w.book ++ l) (sym broken)
    ended_tells n is Failed = ap (λ (s : NodeState). (fails_at first w i a s).book) is ∙ ap (λ (l : List Note). w.book ++ l) (sym broken)

    event_tells : (s : NodeState) → w.nodes i ≡ s → (happens first w (event_of first course i a rule extra s)).book ≡ w.book ++ notes_of (moves first course i a rule extra s).said
    event_tells (Down kept rest) is = ap (λ (s : NodeState). (happens_at first w i a s).book) is ∙ ap (λ (l : List Note). w.book ++ l) (sym (puts_notes i a))
    event_tells (Running n) is = ended_tells n is (fate course extra.armed (rule n).stored)

acts_tell : (course : Course) (c : Cluster) (i : NodeId) (a : Act) → Tells c (acts course c i a)
acts_tell course c i a = event_tells c.first (now c) i course a (c.extras i) (state_in c i) refl

asks_tell : (course : Course) (c : Cluster) (i : NodeId) (left : List ℕ) (shape : Shape) (timeout : ℕ) (op : Op) → Tells c (asks_at course c i left shape timeout op)
asks_tell course c i left shape timeout op = acts_tell course (counts_ask c left shape) i (world.Ask (c.asks + 1) timeout op)

-- ---- starts and stops

stop_book : (first : List Member) (w : World) (i : NodeId) (s : NodeState) → (stops_at first w i world.Idle 0 s).book ≡ w.book ++ []
stop_book first w i (Running n) = refl
stop_book first w i (Down kept rest) = refl

start_book : (first : List Member) (w : World) (i : NodeId) (k : ℕ) (b : Bool) (s : NodeState) → (if b then starts_at first w i k s else w).book ≡ w.book ++ []
start_book first w i k false s = sym (append-nil w.book)
start_book first w i k true (Running n) = sym (append-nil w.book)
start_book first w i k true (Down kept rest) = sym (append-nil w.book)

fail_book : (first : List Member) (w : World) (i : NodeId) (k : ℕ) (s : NodeState) → (fails_start first w i k s).book ≡ w.book ++ []
fail_book first w i k (Running n) = sym (append-nil w.book)
fail_book first w i k (Down kept rest) = sym (append-nil w.book)

opens_tell : (course : Course) (c : Cluster) (i : NodeId) (kept : Persistent LogEntry) (rest : List (StoredRecord LogEntry)) (f : Fault)
    → Tells c (goes_if c (opening c.first f course i) i (opens c.first f course i (c.extras i) kept rest).0.extra, (opens c.first f course i (c.extras i) kept rest).1)
opens_tell course c i kept rest NoFault = start_book c.first (now c) i course.stands (one_of (members c.first) i) (state_in c i)
opens_tell course c i kept rest Reading = nothing_told c
opens_tell course c i kept rest Storing = fail_book c.first (now c) i course.stands (state_in c i)

starts_tell : (course : Course) (c : Cluster) (i : NodeId) (s : NodeState) → Tells c (starts course c i s)
starts_tell course c i (Running n) = nothing_told c
starts_tell course c i (Down kept rest) = opens_tell course c i kept rest course.fault

stops_tell : (c : Cluster) (i : NodeId) (s : NodeState) → Tells c (stops c i s)
stops_tell c i (Running n) = stop_book c.first (now c) i (state_in c i)
stops_tell c i (Down kept rest) = nothing_told c

-- ---- steps

pub basic_tells : (c : Cluster) (w : Spoken) → IsBasic c w → Tells c w
basic_tells c _ IsBasic.is_nothing = nothing_told c
basic_tells c _ (IsBasic.is_shown i named) = nothing_told c
basic_tells c _ (IsBasic.is_act course i a plain named) = acts_tell course c i a
basic_tells c _ (IsBasic.is_ask course i left shape timeout op named) = asks_tell course c i left shape timeout op
basic_tells c _ (IsBasic.is_rejected status text) = nothing_told c
basic_tells c _ (IsBasic.is_missed i named) = nothing_told c
basic_tells c _ (IsBasic.is_clock moment) = nothing_told c
basic_tells c _ (IsBasic.is_start course i named) = starts_tell course c i (state_in c i)
basic_tells c _ (IsBasic.is_stop i named) = stops_tell c i (state_in c i)
basic_tells c _ (IsBasic.is_armed calls pick i) = nothing_told c
basic_tells c _ (IsBasic.is_cut cut i) = nothing_told c
basic_tells c _ (IsBasic.is_taken k) = nothing_told c
basic_tells c _ (IsBasic.is_delivered course k i named) = acts_tell course (took c k) i (world.Deliver k)

-- ---- lines

-- behind some steps the servers are the same, and what was said is what was noted
pub ran_tells : (plan : Plan) → PlanIsBasic plan → (courses : List Course) → ((ran plan.step courses plan.start).0.servers ≡ plan.start.servers) × Tells plan.start (ran plan.step courses plan.start)
ran_tells plan basic [] = (refl, nothing_told plan.start)
ran_tells plan basic (course ∷ earlier) =
    let w = ran plan.step earlier plan.start in
    let t = plan.step course (length earlier) w.0 in
    let so_far = ran_tells plan basic earlier in
    let b = basic course (length earlier) w.0 so_far.0 in (
      basic_servers w.0 t b ∙ so_far.0,
      basic_tells w.0 t b ∙ ap (λ (l : List Note). l ++ notes_of t.1) so_far.1 ∙ append_assoc (now plan.start).book (notes_of w.1) (notes_of t.1)
          ∙ ap (λ (l : List Note). (now plan.start).book ++ l) (sym (notes_both w.1 t.1)),
    )

-- ---- where a line begins, the book is as before

line_begins : (p : Prepared) (c : Cluster) (line : Line) (plan : Plan) → planned p c line ≡ Some plan → (now plan.start).book ≡ (now c).book
line_begins p c line plan is = by (line_starts p c line plan is)
  where
    nothing_yet : (run : world.Run) → is_first run ≡ true → (world.world c.first run).book ≡ []
    nothing_yet world.First e = refl
    nothing_yet (world.Then run event) e = absurd (cc)

    by : BeginsAt c plan.start → (now plan.start).book ≡ (now c).book
    by (BeginsAt.is_here same) = ap (λ (d : Cluster). (now d).book) same
    by (BeginsAt.names ids none can same) = ap (λ (d : Cluster). (now d).book) same ∙ sym (nothing_yet c.run (and_true (is_allowed ids) (is_first c.run) can).1)

step_tells : (c : Cluster) (line : Line) (said : List Said) (next : Cluster) → Steps c line said next → Tells c (next, said)
step_tells c line said next s =
    let w = s.way in
    let begins = line_begins w.prepared c line w.plan w.stands in
    subst (Tells c) s.does ((ran_tells w.plan (line_basic w.prepared c line w.plan w.stands) w.courses).1 ∙ ap (λ (l : List Note). l ++ notes_of (ran w.plan.step w.courses w.plan.start).1) begins)

pub runs_are_told : (words : List ℕ) (ls : List Line) (said : List Said) (c : Cluster) → Runs words ls said c → IsTold said c
runs_are_told words _ _ _ Runs.start = refl
runs_are_told words _ _ _ (Runs.line {said = before} {c = from} l more next runs steps) =
    notes_both before more ∙ ap (λ (l : List Note). l ++ notes_of more) (runs_are_told words _ before from runs) ∙ sym (step_tells from l more next steps)
