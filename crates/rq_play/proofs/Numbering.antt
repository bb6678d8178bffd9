-- Asks are numbered one by one, so no two have one number.
use Rattle.std.proofs.Common.{◌≡◌, ◌≢◌, ◌≤◌, ◌<◌, ℕ, zero, suc, ◌+◌, nat_eq, if◌then◌else◌, Bool, true, false, cond, Option, Some, None, List, [], ◌∷◌, ◌++◌, length, refl, sym, ap, ◌∙◌, subst, arith}
use Rattle.std.specs.Prelude.{⊤, slice_get}
use Rattle.std.proofs.lemmas.Bool.Decides.{nat_tests}
use Rattle.std.proofs.lemmas.List.{append-nil}
use Rattle.rq_wire.specs.declared.config.Member.{Member}
use Rattle.rq_history.specs.History.{NodeId}
use Rattle.rq_request.specs.declared.say.Answer.{Answer}
use Rattle.rq_request.specs.declared.shape.Shape.{Shape}
use Rattle.rq_world.specs.Node.{Node, Turn}
use Rattle.rq_world.specs.World.{NodeState, Running, Down, Act, Note, Op, Event, Asked, Answered, place_of}
use Rattle.rq_world.specs.World as world
use Rattle.rq_world.specs.Promise.{op_of, number_of, asked_in, IsNew, IsNumbered, IsAcknowledged}
use Rattle.rq_world.specs.Appends.{WritesHavePlaces}
use Rattle.rq_play.specs.Promise.{HavePlaces}
use Rattle.rq_play.specs.Line.{Line}
use Rattle.rq_play.specs.Said.{Said, said_notes, notes_of, gave}
use Rattle.rq_play.specs.Said as said
use Rattle.rq_play.specs.Server.{Extra, Course, Fault, NoFault, Reading, Storing, Fate, Done, Struck, Failed, fate, puts, ended, moves, event_by, event_of, opens, opening}
use Rattle.rq_play.specs.Cluster.{Cluster, now, state_in, Spoken, rule_of, moved_in, acts, goes_if, starts, stops, took, asks_at, Plan, ran}
use Rattle.rq_play.specs.Runs.{Runs, Steps}
use Rattle.rq_play.specs.Book.{AreNumbered}
use Rattle.rq_play.proofs.Basics.{IsBasic, PlanIsBasic, basic_servers, line_basic, BeginsAt, line_starts}
use Rattle.rq_play.proofs.Telling.{Tells, basic_tells}

-- ---- what is said

numbered_both : (x y z : ℕ) (a b : List Said) → AreNumbered x a y → AreNumbered y b z → AreNumbered x (a ++ b) z
numbered_both x y z [] b first second = subst (λ (k : ℕ). AreNumbered k b z) (sym first) second
numbered_both x y z (said.Put number id op ∷ a) b (is, first) second = (is, numbered_both number y z a b first second)
numbered_both x y z (said.Rejected number status text ∷ a) b (is, first) second = (is, numbered_both number y z a b first second)
numbered_both x y z (said.Missed number id ∷ a) b (is, first) second = (is, numbered_both number y z a b first second)
numbered_both x y z (said.Gave number say place ∷ a) b first second = numbered_both x y z a b first second
numbered_both x y z (said.Up id node ∷ a) b first second = numbered_both x y z a b first second
numbered_both x y z (said.Down id ∷ a) b first second = numbered_both x y z a b first second
numbered_both x y z (said.Shown id state ∷ a) b first second = numbered_both x y z a b first second

-- no ask is put among these
abbrev AreSilent : List Said → Type 0
AreSilent talk = (n : ℕ) → AreNumbered n talk n

gave_silent : (place : ℕ) (answers : List Answer) → AreSilent (gave place answers)
gave_silent place [] n = refl
gave_silent place (a ∷ answers) n = gave_silent place answers n

-- ---- the book: numbers rise, from above the first of these up to the second

abbrev pub AreRising : ℕ → List Note → ℕ → Type 0
AreRising last [] most = last ≤ most
AreRising last (Asked number id op ∷ notes) most = (last < number) × AreRising number notes most
AreRising last (Answered number say place ∷ notes) most = AreRising last notes most

rising_from : (x y z : ℕ) (notes : List Note) → x ≤ y → AreRising y notes z → AreRising x notes z
rising_from x y z [] le rise = omega (arith, le, rise)
rising_from x y z (Asked number id op ∷ notes) le (lt, rise) = (omega (arith, le, lt), rise)
rising_from x y z (Answered number say place ∷ notes) le rise = rising_from x y z notes le rise

rising_both : (x y z : ℕ) (a b : List Note) → AreRising x a y → AreRising y b z → AreRising x (a ++ b) z
rising_both x y z [] b first second = rising_from x y z b first second
rising_both x y z (Asked number id op ∷ a) b (is, first) second = (is, rising_both number y z a b first second)
rising_both x y z (Answered number say place ∷ a) b first second = rising_both x y z a b first second

numbered_rise : (x y : ℕ) (talk : List Said) → AreNumbered x talk y → AreRising x (notes_of talk) y
numbered_rise x y [] is = omega (arith, is)
numbered_rise x y (said.Put number id op ∷ talk) (is, more) = (omega (arith, is), numbered_rise number y talk more)
numbered_rise x y (said.Rejected number status text ∷ talk) (is, more) = rising_from x number y (notes_of talk) (omega (arith, is)) (numbered_rise number y talk more)
numbered_rise x y (said.Missed number id ∷ talk) (is, more) = rising_from x number y (notes_of talk) (omega (arith, is)) (numbered_rise number y talk more)
numbered_rise x y (said.Gave number say place ∷ talk) more = numbered_rise x y talk more
numbered_rise x y (said.Up id node ∷ talk) more = numbered_rise x y talk more
numbered_rise x y (said.Down id ∷ talk) more = numbered_rise x y talk more
numbered_rise x y (said.Shown id state ∷ talk) more = numbered_rise x y talk more

-- numbers above the last weren't put
none_above : (last most number : ℕ) (book : List Note) → AreRising last book most → most < number → op_of book number ≡ None
none_above last most number [] is above = refl
none_above last most number (Asked k id op ∷ book) (is, rest) above = by (nat_eq k number) refl (none_above k most number book rest above)
  where
    below : (l m : ℕ) (notes : List Note) → AreRising l notes m → l ≤ m
    below l m [] e = omega (arith, e)
    below l m (Asked j id op ∷ notes) (e, more) = let b = below j m notes more in omega (arith, e, b)
    below l m (Answered j say place ∷ notes) more = below l m notes more

    by : (b : Bool) → nat_eq k number ≡ b → op_of book number ≡ None → (if b then Some op else op_of book number) ≡ None
    by false e h = h
    by true e h = let low = below k most book rest in let same : k ≡ number = grind (arith, nat_tests, e) in absurd (omega (arith, low, same, above))
none_above last most number (Answered k say place ∷ book) is above = none_above last most number book is above

-- a number that was put is above those before it
put_above : (last most number k : ℕ) (id : NodeId) (op : Op) (book : List Note) → AreRising last book most → slice_get book k ≡ Some (Asked number id op) → last < number
put_above last most number k id op [] is at = absurd (cc)
put_above last most number zero id op (Asked j home o ∷ book) (is, rest) at = let same : j ≡ number = ap number_in at in omega (arith, is, same)
  where
    number_in : Option Note → ℕ
    number_in None = 0
    number_in (Some (Asked j home o)) = j
    number_in (Some (Answered j say place)) = j
put_above last most number (suc k) id op (Asked j home o ∷ book) (is, rest) at = let h = put_above j most number k id op book rest at in omega (arith, is, h)
put_above last most number zero id op (Answered j say place ∷ book) is at = absurd (cc)
put_above last most number (suc k) id op (Answered j say place ∷ book) is at = put_above last most number k id op book is at

-- what an ask was put for is what its number is for
put_for : (last most number k : ℕ) (id : NodeId) (op : Op) (book : List Note) → AreRising last book most → slice_get book k ≡ Some (Asked number id op) → op_of book number ≡ Some op
put_for last most number k id op [] is at = absurd (cc)
put_for last most number zero id op (Asked j home o ∷ book) is at = let same : j ≡ number = ap number_in at in let equal : nat_eq j number ≡ true = grind (arith, nat_tests, same) in ap (λ (b : Bool). if b then Some o else op_of book number) equal ∙ ap op_in at
  where
    number_in : Option Note → ℕ
    number_in None = 0
    number_in (Some (Asked j home o)) = j
    number_in (Some (Answered j say place)) = j

    op_in : Option Note → Option Op
    op_in None = None
    op_in (Some (Asked j home o)) = Some o
    op_in (Some (Answered j say place)) = None
put_for last most number (suc k) id op (Asked j home o ∷ book) (is, rest) at =
    let low = put_above j most number k id op book rest at in
    let differs : nat_eq j number ≡ false = grind (arith, nat_tests, low) in
    ap (λ (b : Bool). if b then Some o else op_of book number) differs ∙ put_for j most number k id op book rest at
put_for last most number zero id op (Answered j say place ∷ book) is at = absurd (cc)
put_for last most number (suc k) id op (Answered j say place ∷ book) is at = put_for last most number k id op book is at

-- an acknowledged write has its place
pub have_places : (c : Cluster) → AreRising 0 (now c).book c.asks → WritesHavePlaces c.first c.run → HavePlaces c
have_places c rising places put answered index a =
    places.placed answered a.number index a.say a.is_answered (subst (λ (o : Option Op). IsAcknowledged o a.say) (sym (put_for 0 c.asks a.number put a.id a.op (now c).book rising a.is_put)) a.acknowledges)

-- ---- acts

module _ (first : List Member) (course : Course) (i : NodeId) (a : Act) (rule : Node → Turn) (extra : Extra) where
  -- what is said of an act is the ask, and then nothing is put
  record Talk (talk : List Said) : Type 0 where
    pub more : List Said
    pub is : talk ≡ puts i a ++ more
    pub silent : AreSilent more

  ended_talks : (n : Node) (t : Turn) (f : Fate) → Talk (ended first f course i a extra n t).said
  ended_talks n t Done = record { more = gave (place_of first n a) t.answers; is = refl; silent = gave_silent (place_of first n a) t.answers }
  ended_talks n t Struck = record { more = said.Down i ∷ []; is = refl; silent = λ n. refl }
  ended_talks n t Failed = record { more = said.Down i ∷ []; is = refl; silent = λ n. refl }

  talks : (s : NodeState) → Talk (moves first course i a rule extra s).said
  talks (Running n) = ended_talks n (rule n) (fate course extra.armed (rule n).stored)
  talks (Down kept rest) = record { more = []; is = sym (append-nil (puts i a)); silent = λ n. refl }

  asked_by : (f : Fate) → asked_in (event_by first f course i a) ≡ number_of a
  asked_by Done = refl
  asked_by Struck = refl
  asked_by Failed = refl

  asked_of : (s : NodeState) → asked_in (event_of first course i a rule extra s) ≡ number_of a
  asked_of (Running n) = asked_by (fate course extra.armed (rule n).stored)
  asked_of (Down kept rest) = refl

puts_none : (i : NodeId) (a : Act) → number_of a ≡ None → puts i a ≡ []
puts_none i (world.Ask number timeout op) e = absurd (cc)
puts_none i world.Elect e = refl
puts_none i world.Beat e = refl
puts_none i world.Flush e = refl
puts_none i world.Apply e = refl
puts_none i world.Compact e = refl
puts_none i (world.Deliver k) e = refl
puts_none i world.Tick e = refl
puts_none i world.Idle e = refl

-- ---- steps

pub record IsCounted (c : Cluster) : Type 0 where
  pub rising : AreRising 0 (now c).book c.asks
  pub apart : IsNumbered c.first c.run

-- what is said counts on, and the run goes on without two asks of one number
record Counts (c : Cluster) (w : Spoken) : Type 0 where
  pub on : AreNumbered c.asks w.1 w.0.asks
  pub apart : IsCounted c → IsNumbered w.0.first w.0.run

counted_on : (c : Cluster) (w : Spoken) → IsCounted c → Tells c w → Counts c w → IsCounted w.0
counted_on c w counted tells counts = record {
  rising = subst (λ (l : List Note). AreRising 0 l w.0.asks) (sym tells) (rising_both 0 c.asks w.0.asks (now c).book (notes_of w.1) counted.rising (numbered_rise c.asks w.0.asks w.1 counts.on));
  apart = counts.apart counted;
}

plain_counts : (course : Course) (c : Cluster) (i : NodeId) (a : Act) → number_of a ≡ None → Counts c (acts course c i a)
plain_counts course c i a plain =
    let t = talks c.first course i a (rule_of c a) (c.extras i) (state_in c i) in
    record {
      on = subst (λ (l : List Said). AreNumbered c.asks l c.asks) (sym (t.is ∙ ap (λ (l : List Said). l ++ t.more) (puts_none i a plain))) (t.silent c.asks);
      apart = λ counted. (counted.apart, subst (IsNew (now c).book) (sym (asked_of c.first course i a (rule_of c a) (c.extras i) (state_in c i) ∙ plain)) tt);
    }

ask_counts : (course : Course) (c : Cluster) (i : NodeId) (left : List ℕ) (shape : Shape) (timeout : ℕ) (op : Op) → Counts c (asks_at course c i left shape timeout op)
ask_counts course c i left shape timeout op =
    let a = world.Ask (c.asks + 1) timeout op in
    let t = talks c.first course i a (rule_of c a) (c.extras i) (state_in c i) in
    record {
      on = subst (λ (l : List Said). AreNumbered c.asks l (c.asks + 1)) (sym t.is) (refl, t.silent (c.asks + 1));
      apart = λ counted. (counted.apart, subst (IsNew (now c).book) (sym (asked_of c.first course i a (rule_of c a) (c.extras i) (state_in c i))) (none_above 0 c.asks (c.asks + 1) (now c).book counted.rising (omega arith)));
    }

same_counts : (c : Cluster) (d : Cluster) (talk : List Said) → AreSilent talk → d.asks ≡ c.asks → d.first ≡ c.first → d.run ≡ c.run → Counts c (d, talk)
same_counts c d talk silent asks first run = record {
  on = subst (AreNumbered c.asks talk) (sym asks) (silent c.asks);
  apart = λ counted. subst (λ (r : world.Run). IsNumbered d.first r) (sym run) (subst (λ (f : List Member). IsNumbered f c.run) (sym first) counted.apart);
}

start_counts : (course : Course) (c : Cluster) (i : NodeId) (s : NodeState) → Counts c (starts course c i s)
start_counts course c i (Running n) = same_counts c c [] (λ n. refl) refl refl refl
start_counts course c i (Down kept rest) = by course.fault
  where
    by : (f : Fault) → Counts c (goes_if c (opening c.first f course i) i (opens c.first f course i (c.extras i) kept rest).0.extra, (opens c.first f course i (c.extras i) kept rest).1)
    by NoFault = record { on = refl; apart = λ counted. (counted.apart, tt) }
    by Reading = record { on = refl; apart = λ counted. counted.apart }
    by Storing = record { on = refl; apart = λ counted. (counted.apart, tt) }

stop_counts : (c : Cluster) (i : NodeId) (s : NodeState) → Counts c (stops c i s)
stop_counts c i (Running n) = record { on = refl; apart = λ counted. (counted.apart, tt) }
stop_counts c i (Down kept rest) = record { on = refl; apart = λ counted. counted.apart }

basic_counts : (c : Cluster) (w : Spoken) → IsBasic c w → Counts c w
basic_counts c _ IsBasic.is_nothing = same_counts c c [] (λ n. refl) refl refl refl
basic_counts c _ (IsBasic.is_shown i named) = same_counts c c (said.Shown i (state_in c i) ∷ []) (λ n. refl) refl refl refl
basic_counts c _ (IsBasic.is_act course i a plain named) = plain_counts course c i a plain
basic_counts c _ (IsBasic.is_ask course i left shape timeout op named) = ask_counts course c i left shape timeout op
basic_counts c _ (IsBasic.is_rejected status text) = record { on = (refl, refl); apart = λ counted. counted.apart }
basic_counts c _ (IsBasic.is_missed i named) = record { on = (refl, refl); apart = λ counted. counted.apart }
basic_counts c _ (IsBasic.is_clock moment) = record { on = refl; apart = λ counted. (counted.apart, tt) }
basic_counts c _ (IsBasic.is_start course i named) = start_counts course c i (state_in c i)
basic_counts c _ (IsBasic.is_stop i named) = stop_counts c i (state_in c i)
basic_counts c _ (IsBasic.is_armed calls pick i) = record { on = refl; apart = λ counted. counted.apart }
basic_counts c _ (IsBasic.is_cut cut i) = record { on = refl; apart = λ counted. counted.apart }
basic_counts c _ (IsBasic.is_taken k) = record { on = refl; apart = λ counted. counted.apart }
basic_counts c _ (IsBasic.is_delivered course k i named) =
    let p = plain_counts course (took c k) i (world.Deliver k) refl in
    record { on = p.on; apart = λ counted. p.apart (record { rising = counted.rising; apart = counted.apart }) }

-- ---- lines and runs

record RanCounted (start : Cluster) (w : Spoken) : Type 0 where
  pub servers : w.0.servers ≡ start.servers
  pub counted : IsCounted w.0
  pub on : AreNumbered start.asks w.1 w.0.asks

ran_counted : (plan : Plan) → PlanIsBasic plan → IsCounted plan.start → (courses : List Course) → RanCounted plan.start (ran plan.step courses plan.start)
ran_counted plan basic counted [] = record { servers = refl; counted = counted; on = refl }
ran_counted plan basic counted (course ∷ earlier) =
    let w = ran plan.step earlier plan.start in
    let t = plan.step course (length earlier) w.0 in
    let so_far = ran_counted plan basic counted earlier in
    let b = basic course (length earlier) w.0 so_far.servers in
    let counts = basic_counts w.0 t b in
    record {
      servers = basic_servers w.0 t b ∙ so_far.servers;
      counted = counted_on w.0 t so_far.counted (basic_tells w.0 t b) counts;
      on = numbered_both plan.start.asks w.0.asks t.0.asks w.1 t.1 so_far.on counts.on;
    }

record BeginsCounted (c start : Cluster) : Type 0 where
  pub counted : IsCounted start
  pub asks : start.asks ≡ c.asks

begins_counted : (c start : Cluster) → IsCounted c → BeginsAt c start → BeginsCounted c start
begins_counted c start counted (BeginsAt.is_here same) = record { counted = subst IsCounted (sym same) counted; asks = ap (λ (d : Cluster). d.asks) same }
begins_counted c start counted (BeginsAt.names ids none can same) = record { counted = subst IsCounted (sym same) (record { rising = omega arith; apart = tt }); asks = ap (λ (d : Cluster). d.asks) same }

record StepCounts (c : Cluster) (talk : List Said) (next : Cluster) : Type 0 where
  pub counted : IsCounted next
  pub on : AreNumbered c.asks talk next.asks

step_counts : (c : Cluster) (line : Line) (talk : List Said) (next : Cluster) → Steps c line talk next → IsCounted c → StepCounts c talk next
step_counts c line talk next s counted =
    let w = s.way in
    let start = begins_counted c w.plan.start counted (line_starts w.prepared c line w.plan w.stands) in
    let r = ran_counted w.plan (line_basic w.prepared c line w.plan w.stands) start.counted w.courses in
    subst (λ (x : Spoken). StepCounts c x.1 x.0) s.does (record { counted = r.counted; on = subst (λ (n : ℕ). AreNumbered n (ran w.plan.step w.courses w.plan.start).1 (ran w.plan.step w.courses w.plan.start).0.asks) start.asks r.on })

pub step_counted : (c : Cluster) (line : Line) (talk : List Said) (next : Cluster) → Steps c line talk next → IsCounted c → IsCounted next
step_counted c line talk next s counted = (step_counts c line talk next s counted).counted

pub runs_are_counted : (words : List ℕ) (ls : List Line) (talk : List Said) (c : Cluster) → Runs words ls talk c → IsCounted c
runs_are_counted words _ _ _ Runs.start = record { rising = omega arith; apart = tt }
runs_are_counted words _ _ _ (Runs.line {said = before} {c = from} l more next runs steps) = step_counted from l more next steps (runs_are_counted words _ before from runs)

pub runs_are_numbered : (words : List ℕ) (ls : List Line) (talk : List Said) (c : Cluster) → Runs words ls talk c → AreNumbered 0 talk c.asks
runs_are_numbered words _ _ _ Runs.start = refl
runs_are_numbered words _ _ _ (Runs.line {said = before} {c = from} l more next runs steps) =
    numbered_both 0 from.asks next.asks before more (runs_are_numbered words _ before from runs) (step_counts from l more next steps (runs_are_counted words _ before from runs)).on
