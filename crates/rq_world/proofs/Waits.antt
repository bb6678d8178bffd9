-- Asks that wait at a node or stand in its queue, and what applying an entry and reading at a pass answer.
use Rattle.std.proofs.Common.{◌≡◌, ◌⊎◌, ◌<◌, ◌≤◌, ℕ, zero, suc, ◌+◌, ◌-◌, ◌==◌, List, [], ◌∷◌, ◌++◌, take, length, slice_get, Bool, true, false, Option, Some, None, refl, sym, ◌∙◌, ap, subst, inl, inr, arith}
use Rattle.std.specs.Prelude.{⊤, nat_lt, map, drop}
use Rattle.std.proofs.lemmas.List.{take-take}
use Rattle.rq_wire.specs.declared.config.Member.{Member}
use Rattle.rq_statement.specs.declared.item.Item.{Item}
use Rattle.rq_statement.specs.declared.res.Res.{Res}
use Rattle.rq_request.specs.declared.say.Say.TheVariants.{Results, Refused}
use Rattle.rq_request.specs.declared.say.NodeRefusal.TheVariants.{Lost, Timeout}
use Rattle.rq_request.specs.declared.say.Answer.{Answer}
use Rattle.rq_statement.specs.Statements.{Statements}
use Rattle.rq_engine.specs.declared.outcome.Outcome.{Outcome}
use Rattle.rq_engine.specs.declared.outcome.Outcome.TheVariants as outcomes
use Rattle.rq_engine.specs.Fold.{State, run, answer, outcome_behind}
use Rattle.rq_meaning.specs.Lists.{means, answers, means_or_answers, list_run}
use Rattle.rq_engine.specs.Fold as engine
use Rattle.rq_world.specs.declared.log_entry.LogEntry.{LogEntry}
use Rattle.rq_statement.specs.declared.command.Command.{Command}
use Rattle.rq_statement.specs.declared.command.Command.TheVariants.{StrongQuery, Batch}
use Rattle.rq_request.specs.declared.ask.Level.TheVariants as level
use Rattle.rq_world.specs.declared.waiting.Waiting.{Waiting}
use Rattle.rq_world.specs.Node.{QueuedWrite, PendingRead, Node, members, commands, replica_of}
use Rattle.rq_world.specs.Reads.{is_due}
use Rattle.rq_world.specs.Rules.{inserted, by_number, lost_all, is_expired, expired_waiting, expired_reads, queued_is_expired, expired_queued, live_waiting, live_reads, live_queue, waiting_numbers, batch_waits, say_of, said, answered, still_waiting, due_answers, not_due, write_command}
use Rattle.rq_world.specs.World.{Op, Write, Queue, Read, Note, at_place}
use Rattle.rq_world.specs.Promise.{IsPrefix, op_of, IsOutcome, IsResults, IsQueued, IsRight}
use Rattle.rq_world.proofs.Tests.{if_case, eq_true}
use Rattle.rq_world.proofs.Prefixes.{begins_get, get_within, take_next, replayed_on}
use Rattle.rq_world.proofs.Histories.{AllRight, op_kept}

-- what an ask puts into the log
abbrev pub entry_of : Op → Option Command
entry_of (Write list mixed) = Some (write_command list mixed)
entry_of (Queue list wait) = None
entry_of (Read items level.None limit) = None
entry_of (Read items level.Weak limit) = None
entry_of (Read items level.Linearizable limit) = None
entry_of (Read items level.Strong limit) = Some (StrongQuery items)

-- a queued ask that waits, whose list stands at this position of a batch
pub record InBatch (op : Op) (position : ℕ) (command : Command) : Type 0 where
  pub list : Statements
  pub is_queue : op ≡ Queue list true
  pub lists : List Statements
  pub is_batch : command ≡ Batch lists
  pub has : slice_get lists position ≡ Some list

-- the entry is that of the ask, which has a sequence number if it was queued
abbrev pub CommandFits : Op → ℕ → Option ℕ → Command → Type 0
CommandFits op position None command = (entry_of op ≡ Some command) × (position ≡ 0)
CommandFits op position (Some sequence) command = InBatch op position command

-- the ask waits for its entry, which is of this term
pub record Waits (book : List Note) (log : List LogEntry) (term : ℕ) (w : Waiting) : Type 0 where
  pub counts : 1 ≤ w.index
  pub op : Op
  pub asked : op_of book w.number ≡ Some op
  pub entry : LogEntry
  pub stands : slice_get log (w.index - 1) ≡ Some entry
  pub fits : CommandFits op w.position w.sequence entry.command
  pub in_term : entry.term ≡ term

abbrev pub AllWait : List Note → List LogEntry → ℕ → List Waiting → Type 0
AllWait book log term [] = ⊤
AllWait book log term (w ∷ ws) = Waits book log term w × AllWait book log term ws

pub wait_more : (book more : List Note) (old new : List LogEntry) (term : ℕ) (ws : List Waiting) → IsPrefix old new → AllWait book old term ws → AllWait (book ++ more) new term ws
wait_more book more old new term [] grows all = tt
wait_more book more old new term (w ∷ ws) grows (first, rest) = (
  record {
    counts = first.counts;
    op = first.op;
    asked = op_kept book more w.number first.op first.asked;
    entry = first.entry;
    stands = begins_get old new (w.index - 1) grows (get_within old (w.index - 1) first.entry first.stands) ∙ first.stands;
    fits = first.fits;
    in_term = first.in_term;
  },
  wait_more book more old new term ws grows rest,
)

pub wait_both : (book : List Note) (log : List LogEntry) (term : ℕ) (one two : List Waiting) → AllWait book log term one → AllWait book log term two → AllWait book log term (one ++ two)
wait_both book log term [] two none all = all
wait_both book log term (w ∷ one) two (first, rest) all = (first, wait_both book log term one two rest all)

pub wait_left : (book : List Note) (log : List LogEntry) (term index : ℕ) (ws : List Waiting) → AllWait book log term ws → AllWait book log term (still_waiting index ws)
wait_left book log term index [] all = tt
wait_left book log term index (w ∷ ws) (first, rest) = if_case (AllWait book log term) (w.index == index) (still_waiting index ws) (w ∷ ws) (λ _. wait_left book log term index ws rest) (λ _. (first, rest))

pub wait_late : (book : List Note) (log : List LogEntry) (term now : ℕ) (ws : List Waiting) → AllWait book log term ws → AllWait book log term (live_waiting now ws)
wait_late book log term now [] all = tt
wait_late book log term now (w ∷ ws) (one, rest) = if_case (AllWait book log term) (is_expired now w.asked w.timeout) (live_waiting now ws) (w ∷ live_waiting now ws) (λ _. wait_late book log term now ws rest) (λ _. (one, wait_late book log term now ws rest))

-- ---- the queue

-- it was asked so, and waits only if that ask waits
pub record IsHeld (book : List Note) (q : QueuedWrite) : Type 0 where
  pub wait : Bool
  pub asked : op_of book q.number ≡ Some (Queue q.list wait)
  pub waited : q.waits ≡ true → wait ≡ true

abbrev pub AllHeld : List Note → List QueuedWrite → Type 0
AllHeld book [] = ⊤
AllHeld book (q ∷ qs) = IsHeld book q × AllHeld book qs

pub held_more : (book more : List Note) (qs : List QueuedWrite) → AllHeld book qs → AllHeld (book ++ more) qs
held_more book more [] all = tt
held_more book more (q ∷ qs) (one, rest) = (record { wait = one.wait; asked = op_kept book more q.number (Queue q.list one.wait) one.asked; waited = one.waited }, held_more book more qs rest)

pub held_both : (book : List Note) (one two : List QueuedWrite) → AllHeld book one → AllHeld book two → AllHeld book (one ++ two)
held_both book [] two none all = all
held_both book (q ∷ one) two (first, rest) all = (first, held_both book one two rest all)

pub held_late : (book : List Note) (now : ℕ) (qs : List QueuedWrite) → AllHeld book qs → AllHeld book (live_queue now qs)
held_late book now [] all = tt
held_late book now (q ∷ qs) (one, rest) = (
  if_case (IsHeld book) (queued_is_expired now q) (record q { waits = false }) q (λ _. record { wait = one.wait; asked = one.asked; waited = λ e. absurd (cc) }) (λ _. one),
  held_late book now qs rest,
)

pub held_take : (book : List Note) (k : ℕ) (qs : List QueuedWrite) → AllHeld book qs → AllHeld book (take k qs)
held_take book zero qs all = tt
held_take book (suc k) [] all = tt
held_take book (suc k) (q ∷ qs) (one, rest) = (one, held_take book k qs rest)

pub held_drop : (book : List Note) (k : ℕ) (qs : List QueuedWrite) → AllHeld book qs → AllHeld book (drop k qs)
held_drop book zero qs all = all
held_drop book (suc k) [] all = tt
held_drop book (suc k) (q ∷ qs) (one, rest) = held_drop book k qs rest

abbrev pub lists_of : List QueuedWrite → List Statements
lists_of qs = map (λ (q : QueuedWrite). q.list) qs

-- what of a batch waits, waits for its entry
module _ (first : List Member) (book : List Note) (log : List LogEntry) (term index : ℕ) (counts : 1 ≤ index) (entry : LogEntry) (stands : slice_get log (index - 1) ≡ Some entry) (lists : List Statements) (is_batch : entry.command ≡ Batch lists) (in_term : entry.term ≡ term) where
  pub batch_wait : (position : ℕ) (qs : List QueuedWrite) → ((k : ℕ) → slice_get lists (position + k) ≡ slice_get (lists_of qs) k) → AllHeld book qs → AllWait book log term (batch_waits first index position qs)
  batch_wait position [] at all = tt
  batch_wait position (q ∷ qs) at (one, rest) = if_case (AllWait book log term) q.waits
      (record { index = index; number = q.number; asked = q.asked; timeout = q.timeout; position = position; sequence = Some q.sequence } ∷ batch_waits first index (position + 1) qs) (batch_waits first index (position + 1) qs)
      (λ w. (
        record {
          counts = counts;
          op = Queue q.list one.wait;
          asked = one.asked;
          entry = entry;
          stands = stands;
          fits = record { list = q.list; is_queue = ap (Queue q.list) (one.waited w); lists = lists; is_batch = is_batch; has = here };
          in_term = in_term;
        },
        batch_wait (position + 1) qs later rest,
      ))
      (λ _. batch_wait (position + 1) qs later rest)
    where
      here : slice_get lists position ≡ Some q.list
      here = let none : position + 0 ≡ position = omega arith in ap (slice_get lists) (sym none) ∙ at 0

      later : (k : ℕ) → slice_get lists (position + 1 + k) ≡ slice_get (lists_of qs) k
      later k = let one : position + 1 + k ≡ position + suc k = omega arith in ap (slice_get lists) one ∙ at (suc k)

-- ---- what waits stands in rising order of places

abbrev pub Above : Waiting → Waiting → Type 0
Above w v = (w.index < v.index) ⊎ ((w.index ≡ v.index) × (w.position < v.position))

abbrev pub AllAbove : Waiting → List Waiting → Type 0
AllAbove w [] = ⊤
AllAbove w (v ∷ vs) = Above w v × AllAbove w vs

abbrev pub Ascends : List Waiting → Type 0
Ascends [] = ⊤
Ascends (w ∷ ws) = AllAbove w ws × Ascends ws

-- all wait for this index, from this position on
abbrev pub AllFrom : ℕ → ℕ → List Waiting → Type 0
AllFrom index position [] = ⊤
AllFrom index position (w ∷ ws) = ((w.index ≡ index) × (position ≤ w.position)) × AllFrom index position ws

above_late : (w : Waiting) (now : ℕ) (ws : List Waiting) → AllAbove w ws → AllAbove w (live_waiting now ws)
above_late w now [] all = tt
above_late w now (v ∷ ws) (one, rest) = if_case (AllAbove w) (is_expired now v.asked v.timeout) (live_waiting now ws) (v ∷ live_waiting now ws) (λ _. above_late w now ws rest) (λ _. (one, above_late w now ws rest))

pub ascends_late : (now : ℕ) (ws : List Waiting) → Ascends ws → Ascends (live_waiting now ws)
ascends_late now [] all = tt
ascends_late now (w ∷ ws) (one, rest) = if_case Ascends (is_expired now w.asked w.timeout) (live_waiting now ws) (w ∷ live_waiting now ws) (λ _. ascends_late now ws rest) (λ _. (above_late w now ws one, ascends_late now ws rest))

pub ascends_left : (index : ℕ) (ws : List Waiting) → Ascends ws → Ascends (still_waiting index ws)
ascends_left index [] all = tt
ascends_left index (w ∷ ws) (one, rest) = if_case Ascends (w.index == index) (still_waiting index ws) (w ∷ ws) (λ _. ascends_left index ws rest) (λ _. (one, rest))

above_both : (w : Waiting) (index position : ℕ) (a b : List Waiting) → w.index < index → AllAbove w a → AllFrom index position b → AllAbove w (a ++ b)
above_both w index position [] [] lt all from = tt
above_both w index position [] (v ∷ b) lt all (one, rest) = (inl (omega (arith, lt, one.0)), above_both w index position [] b lt all rest)
above_both w index position (v ∷ a) b lt (one, rest) from = (one, above_both w index position a b lt rest from)

pub ascends_both : (book : List Note) (log : List LogEntry) (term position : ℕ) (a b : List Waiting) → AllWait book log term a → Ascends a → AllFrom (length log + 1) position b → Ascends b → Ascends (a ++ b)
ascends_both book log term position [] b waits one from two = two
ascends_both book log term position (w ∷ a) b (wait, waits) (one, rest) from two =
    let within = get_within log (w.index - 1) wait.entry wait.stands in
    (above_both w (length log + 1) position a b (omega (arith, within, wait.counts)) one from, ascends_both book log term position a b waits rest from two)

from_later : (index low high : ℕ) (ws : List Waiting) → low ≤ high → AllFrom index high ws → AllFrom index low ws
from_later index low high [] le all = tt
from_later index low high (w ∷ ws) le (one, rest) = ((one.0, omega (arith, le, one.1)), from_later index low high ws le rest)

above_from : (w : Waiting) (ws : List Waiting) → AllFrom w.index (w.position + 1) ws → AllAbove w ws
above_from w [] all = tt
above_from w (v ∷ ws) (one, rest) = (inr (sym one.0, omega (arith, one.1)), above_from w ws rest)

pub batch_from : (first : List Member) (index position : ℕ) (qs : List QueuedWrite) → AllFrom index position (batch_waits first index position qs)
batch_from first index position [] = tt
batch_from first index position (q ∷ qs) =
    let more = from_later index position (position + 1) (batch_waits first index (position + 1) qs) (omega arith) (batch_from first index (position + 1) qs) in
    if_case (AllFrom index position) q.waits (record { index = index; number = q.number; asked = q.asked; timeout = q.timeout; position = position; sequence = Some q.sequence } ∷ batch_waits first index (position + 1) qs) (batch_waits first index (position + 1) qs)
    (λ _. ((refl, omega arith), more)) (λ _. more)

pub batch_ascends : (first : List Member) (index position : ℕ) (qs : List QueuedWrite) → Ascends (batch_waits first index position qs)
batch_ascends first index position [] = tt
batch_ascends first index position (q ∷ qs) =
    let w : Waiting = record { index = index; number = q.number; asked = q.asked; timeout = q.timeout; position = position; sequence = Some q.sequence } in
    let more = batch_waits first index (position + 1) qs in
    if_case Ascends q.waits (w ∷ more) more (λ _. (above_from w more (batch_from first index (position + 1) qs), batch_ascends first index (position + 1) qs)) (λ _. batch_ascends first index (position + 1) qs)

above_get : (w v : Waiting) (ws : List Waiting) (k : ℕ) → AllAbove w ws → slice_get ws k ≡ Some v → Above w v
above_get w v [] k all e = absurd (cc)
above_get w v (x ∷ ws) zero (one, rest) e = subst (Above w) (some x v e) one
  where
    some : (x y : Waiting) → Some x ≡ Some y → x ≡ y
    some x y e = cc
above_get w v (x ∷ ws) (suc k) (one, rest) e = above_get w v ws k rest e

-- at one place waits one
pub ascends_get : (ws : List Waiting) (j k : ℕ) (w v : Waiting) → Ascends ws → slice_get ws j ≡ Some w → slice_get ws k ≡ Some v → w.index ≡ v.index → w.position ≡ v.position → j ≡ k
ascends_get [] j k w v all a b index position = absurd (cc)
ascends_get (x ∷ ws) zero zero w v all a b index position = refl
ascends_get (x ∷ ws) zero (suc k) w v (one, rest) a b index position = absurd (never (subst (λ (y : Waiting). Above y v) (some x w a) (above_get x v ws k one b)))
  where
    some : (x y : Waiting) → Some x ≡ Some y → x ≡ y
    some x y e = cc

    never : Above w v → Prim.⊥
    never (inl lt) = omega (arith, lt, index)
    never (inr (same, lt)) = omega (arith, lt, position)
ascends_get (x ∷ ws) (suc j) zero w v (one, rest) a b index position = absurd (never (subst (λ (y : Waiting). Above y w) (some x v b) (above_get x w ws j one a)))
  where
    some : (x y : Waiting) → Some x ≡ Some y → x ≡ y
    some x y e = cc

    never : Above v w → Prim.⊥
    never (inl lt) = omega (arith, lt, index)
    never (inr (same, lt)) = omega (arith, lt, position)
ascends_get (x ∷ ws) (suc j) (suc k) w v (one, rest) a b index position = ap suc (ascends_get ws j k w v rest a b index position)

-- ---- reads that wait for their pass

-- the read was asked
pub record IsRead (book : List Note) (r : PendingRead) : Type 0 where
  pub limit : Option ℕ
  pub asked : op_of book r.pass.id ≡ Some (Read r.items level.Linearizable limit)

abbrev pub AllRead : List Note → List PendingRead → Type 0
AllRead book [] = ⊤
AllRead book (r ∷ rs) = IsRead book r × AllRead book rs

pub read_more : (book more : List Note) (rs : List PendingRead) → AllRead book rs → AllRead (book ++ more) rs
read_more book more [] all = tt
read_more book more (r ∷ rs) (first, rest) = (record { limit = first.limit; asked = op_kept book more r.pass.id (Read r.items level.Linearizable first.limit) first.asked }, read_more book more rs rest)

pub read_both : (book : List Note) (one two : List PendingRead) → AllRead book one → AllRead book two → AllRead book (one ++ two)
read_both book [] two none all = all
read_both book (r ∷ one) two (first, rest) all = (first, read_both book one two rest all)

pub read_late : (book : List Note) (now : ℕ) (rs : List PendingRead) → AllRead book rs → AllRead book (live_reads now rs)
read_late book now [] all = tt
read_late book now (r ∷ rs) (one, rest) = if_case (AllRead book) (is_expired now r.asked r.timeout) (live_reads now rs) (r ∷ live_reads now rs) (λ _. read_late book now rs rest) (λ _. (one, read_late book now rs rest))

module _ (first : List Member) where
  pub read_left : (book : List Note) (n : Node) (rs : List PendingRead) → AllRead book rs → AllRead book (not_due first n rs)
  read_left book n [] all = tt
  read_left book n (r ∷ rs) (one, rest) = if_case (AllRead book) (is_due first n.raft r.pass) (not_due first n rs) (r ∷ not_due first n rs) (λ _. read_left book n rs rest) (λ _. (one, read_left book n rs rest))

  -- reads of the fold of a first_part of the one log
  pub due_right : (chosen : List LogEntry) (book : List Note) (place : ℕ) (n : Node) (rs : List PendingRead) → place ≤ length chosen → n.replica ≡ replica_of first (take place chosen) → AllRead book rs → AllRight first chosen book (at_place first place (due_answers first n rs))
  due_right chosen book place n [] le is all = tt
  due_right chosen book place n (r ∷ rs) le is (one, rest) = if_case (λ (l : List Answer). AllRight first chosen book (at_place first place l)) (is_due first n.raft r.pass) (record { number = r.pass.id; say = Results (answer n.replica r.items) } ∷ due_answers first n rs) (due_answers first n rs)
      (λ _. (
        subst (λ (o : Option Op). IsRight first chosen o (Results (answer n.replica r.items)) place) (sym one.asked) (le, ap (λ (d : State). answer d r.items) is),
        due_right chosen book place n rs le is rest,
      ))
      (λ _. due_right chosen book place n rs le is rest)

  -- ---- what is lost

  abbrev AllAsked : List Note → List ℕ → Type 0
  AllAsked book [] = ⊤
  AllAsked book (k ∷ ks) = ((op : Op) × (op_of book k ≡ Some op)) × AllAsked book ks

  asked_both : (book : List Note) (one two : List ℕ) → AllAsked book one → AllAsked book two → AllAsked book (one ++ two)
  asked_both book [] two none all = all
  asked_both book (k ∷ one) two (a, rest) all = (a, asked_both book one two rest all)

  waiting_asked : (book : List Note) (log : List LogEntry) (term : ℕ) (ws : List Waiting) → AllWait book log term ws → AllAsked book (map (λ (w : Waiting). w.number) ws)
  waiting_asked book log term [] all = tt
  waiting_asked book log term (w ∷ ws) (a, rest) = ((a.op, a.asked), waiting_asked book log term ws rest)

  reading_asked : (book : List Note) (rs : List PendingRead) → AllRead book rs → AllAsked book (map (λ (r : PendingRead). r.pass.id) rs)
  reading_asked book [] all = tt
  reading_asked book (r ∷ rs) (a, rest) = ((Read r.items level.Linearizable a.limit, a.asked), reading_asked book rs rest)

  waiting_all : (book : List Note) (log : List LogEntry) (at : ℕ) (n : Node) → AllWait book log at n.waiting → AllRead book n.pending_reads → AllAsked book (waiting_numbers n)
  waiting_all book log at n waits pending_reads = asked_both book (map (λ (w : Waiting). w.number) n.waiting) (map (λ (r : PendingRead). r.pass.id) n.pending_reads) (waiting_asked book log at n.waiting waits) (reading_asked book n.pending_reads pending_reads)

  put_right : (chosen : List LogEntry) (book : List Note) (place : ℕ) (a : Answer) (bs : List Answer) → IsRight first chosen (op_of book a.number) a.say place → AllRight first chosen book (at_place first place bs) → AllRight first chosen book (at_place first place (inserted a bs))
  put_right chosen book place a [] right all = (right, tt)
  put_right chosen book place a (b ∷ bs) right (one, rest) = if_case (λ (l : List Answer). AllRight first chosen book (at_place first place l)) (nat_lt a.number b.number) (a ∷ b ∷ bs) (b ∷ inserted a bs)
      (λ _. (right, (one, rest))) (λ _. (one, put_right chosen book place a bs right rest))

  all_lost : (chosen : List LogEntry) (book : List Note) (place term now : ℕ) (ks : List ℕ) → AllAsked book ks → AllRight first chosen book (at_place first place (lost_all term now ks))
  all_lost chosen book place term now [] all = tt
  all_lost chosen book place term now (k ∷ ks) (a, rest) = put_right chosen book place (record { number = k; say = Refused (Lost term now) }) (lost_all term now ks)
      (subst (λ (o : Option Op). IsRight first chosen o (Refused (Lost term now)) place) (sym a.1) tt) (all_lost chosen book place term now ks rest)

  -- what is lost is answered rightly
  pub lost_right : (chosen : List LogEntry) (book : List Note) (log : List LogEntry) (at place term now : ℕ) (n : Node) → AllWait book log at n.waiting → AllRead book n.pending_reads → AllRight first chosen book (at_place first place (lost_all term now (waiting_numbers n)))
  lost_right chosen book log at place term now n waits pending_reads = all_lost chosen book place term now (waiting_numbers n) (waiting_all book log at n waits pending_reads)

module _ (first : List Member) where
  -- lists of answers that are right in any order
  abbrev PacketsAreTrue : List LogEntry → List Note → ℕ → List Answer → Type 0
  PacketsAreTrue chosen book place [] = ⊤
  PacketsAreTrue chosen book place (a ∷ more) = IsRight first chosen (op_of book a.number) a.say place × PacketsAreTrue chosen book place more

  told_both : (chosen : List LogEntry) (book : List Note) (place : ℕ) (one two : List Answer) → PacketsAreTrue chosen book place one → PacketsAreTrue chosen book place two → PacketsAreTrue chosen book place (one ++ two)
  told_both chosen book place [] two none all = all
  told_both chosen book place (a ∷ one) two (right, rest) all = (right, told_both chosen book place one two rest all)

  told_in_order : (chosen : List LogEntry) (book : List Note) (place : ℕ) (l : List Answer) → PacketsAreTrue chosen book place l → AllRight first chosen book (at_place first place (by_number l))
  told_in_order chosen book place [] all = tt
  told_in_order chosen book place (a ∷ l) (right, rest) = put_right first chosen book place a (by_number l) right (told_in_order chosen book place l rest)

  late_waits : (chosen : List LogEntry) (book : List Note) (log : List LogEntry) (term place now : ℕ) (ws : List Waiting) → AllWait book log term ws → PacketsAreTrue chosen book place (expired_waiting now ws)
  late_waits chosen book log term place now [] all = tt
  late_waits chosen book log term place now (w ∷ ws) (one, rest) = if_case (PacketsAreTrue chosen book place) (is_expired now w.asked w.timeout) (record { number = w.number; say = Refused (Timeout w.asked now) } ∷ expired_waiting now ws) (expired_waiting now ws)
      (λ _. (subst (λ (o : Option Op). IsRight first chosen o (Refused (Timeout w.asked now)) place) (sym one.asked) tt, late_waits chosen book log term place now ws rest)) (λ _. late_waits chosen book log term place now ws rest)

  late_reads : (chosen : List LogEntry) (book : List Note) (place now : ℕ) (rs : List PendingRead) → AllRead book rs → PacketsAreTrue chosen book place (expired_reads now rs)
  late_reads chosen book place now [] all = tt
  late_reads chosen book place now (r ∷ rs) (one, rest) = if_case (PacketsAreTrue chosen book place) (is_expired now r.asked r.timeout) (record { number = r.pass.id; say = Refused (Timeout r.asked now) } ∷ expired_reads now rs) (expired_reads now rs)
      (λ _. (subst (λ (o : Option Op). IsRight first chosen o (Refused (Timeout r.asked now)) place) (sym one.asked) tt, late_reads chosen book place now rs rest)) (λ _. late_reads chosen book place now rs rest)

  late_held : (chosen : List LogEntry) (book : List Note) (place now : ℕ) (qs : List QueuedWrite) → AllHeld book qs → PacketsAreTrue chosen book place (expired_queued now qs)
  late_held chosen book place now [] all = tt
  late_held chosen book place now (q ∷ qs) (one, rest) = if_case (PacketsAreTrue chosen book place) (queued_is_expired now q) (record { number = q.number; say = Refused (Timeout q.asked now) } ∷ expired_queued now qs) (expired_queued now qs)
      (λ _. (subst (λ (o : Option Op). IsRight first chosen o (Refused (Timeout q.asked now)) place) (sym one.asked) tt, late_held chosen book place now qs rest)) (λ _. late_held chosen book place now qs rest)

  pub late_right : (chosen : List LogEntry) (book : List Note) (log : List LogEntry) (term place now : ℕ) (n : Node) → AllWait book log term n.waiting → AllRead book n.pending_reads → AllHeld book n.queue
      → AllRight first chosen book (at_place first place (by_number (expired_waiting now n.waiting ++ (expired_reads now n.pending_reads ++ expired_queued now n.queue))))
  late_right chosen book log term place now n waits pending_reads held = told_in_order chosen book place (expired_waiting now n.waiting ++ (expired_reads now n.pending_reads ++ expired_queued now n.queue))
      (told_both chosen book place (expired_waiting now n.waiting) (expired_reads now n.pending_reads ++ expired_queued now n.queue) (late_waits chosen book log term place now n.waiting waits)
      (told_both chosen book place (expired_reads now n.pending_reads) (expired_queued now n.queue) (late_reads chosen book place now n.pending_reads pending_reads) (late_held chosen book place now n.queue held)))

-- the outcome of its entry is the right answer to an ask that waits for it
module _ (first : List Member) (chosen : List LogEntry) (place : ℕ) (counts : 1 ≤ place) (entry : LogEntry) (stands : slice_get chosen (place - 1) ≡ Some entry) where
  abbrev outcome_of : Command → Outcome
  outcome_of command = outcome_behind (members first) (commands (take (place - 1) chosen)) command

  -- it has results
  by_results : (op : Op) (command : Command) (results : List Res) → entry.command ≡ command → outcome_of command ≡ outcomes.Results results
      → (IsOutcome first chosen place command results → IsResults first chosen op place results) → IsRight first chosen (Some op) (say_of (outcome_of command)) place
  by_results op command results is made right = subst (λ (o : Outcome). IsRight first chosen (Some op) (say_of o) place) (sym made) (right (record { counts = counts; entry = entry; stands = stands; is_command = is; outcome = made }))

  abbrev before : State
  before = replica_of first (take (place - 1) chosen)

  written : (list : Statements) (mixed : Bool) → (results : List Res) × (outcome_of (write_command list mixed) ≡ outcomes.Results results)
  unfolding run
  written list false = ((list_run means before.database list).1, refl)
  written list true = ((list_run means_or_answers before.database list).1, refl)

  asked_strongly : (items : List Item) → (results : List Res) × (outcome_of (StrongQuery items) ≡ outcomes.Results results)
  unfolding run
  asked_strongly items = (answers before.database items, refl)

  some : (a b : Command) → Some a ≡ Some b → a ≡ b
  some a b e = cc

  pub outcome_right : (op : Op) (command : Command) → entry.command ≡ command → entry_of op ≡ Some command → IsRight first chosen (Some op) (say_of (outcome_of command)) place
  outcome_right (Write list mixed) command is e =
      let w = written list mixed in
      let same = some (write_command list mixed) command e in
      subst (λ (c : Command). IsRight first chosen (Some (Write list mixed)) (say_of (outcome_of c)) place) same (by_results (Write list mixed) (write_command list mixed) w.0 (is ∙ sym same) w.1 (λ o. o))
  outcome_right (Queue list wait) command is e = absurd (cc)
  outcome_right (Read items level.None limit) command is e = absurd (cc)
  outcome_right (Read items level.Weak limit) command is e = absurd (cc)
  outcome_right (Read items level.Linearizable limit) command is e = absurd (cc)
  outcome_right (Read items level.Strong limit) command is e =
      let w = asked_strongly items in
      let same = some (StrongQuery items) command e in
      let op = Read items level.Strong limit in
      subst (λ (c : Command). IsRight first chosen (Some op) (say_of (outcome_of c)) place) same (by_results op (StrongQuery items) w.0 (is ∙ sym same) w.1 (λ o. o))

-- one entry more is applied, which the one log has too
module _ (first : List Member) (chosen log : List LogEntry) (applied : ℕ) (state : State) (replica_is : state ≡ replica_of first (take applied log))
    (first_part : take (applied + 1) chosen ≡ take (applied + 1) log) (entry : LogEntry) (is : slice_get log applied ≡ Some entry) where
  pub folds : replica_of first (take (applied + 1) log) ≡ (run state entry.command).0
  folds =
      ap (replica_of first) (take_next log applied entry is)
      ∙ replayed_on (engine.first (members first)) (take applied log) (entry ∷ [])
      ∙ ap (λ (s : State). (run s entry.command).0) (sym replica_is)

  get_take : (n : ℕ) (a : List LogEntry) (k : ℕ) → k < n → slice_get (take n a) k ≡ slice_get a k
  get_take zero a k lt = absurd (omega arith)
  get_take (suc n) [] k lt = refl
  get_take (suc n) (x ∷ a) zero lt = refl
  get_take (suc n) (x ∷ a) (suc k) lt = get_take n a k (omega arith)

  get_same : (a b : List LogEntry) (k : ℕ) → take (k + 1) a ≡ take (k + 1) b → slice_get a k ≡ slice_get b k
  get_same a b k e = sym (get_take (k + 1) a k (omega arith)) ∙ ap (λ (l : List LogEntry). slice_get l k) e ∙ get_take (k + 1) b k (omega arith)

  take_less : (a b : List LogEntry) (k : ℕ) → take (k + 1) a ≡ take (k + 1) b → take k a ≡ take k b
  take_less a b k e = sym (take-take k (k + 1) a (omega arith)) ∙ ap (take k) e ∙ take-take k (k + 1) b (omega arith)

  -- the answer to an ask that waits for the entry
  answer_right : (book : List Note) (term : ℕ) (w : Waiting) → w.index ≡ applied + 1 → Waits book log term w
      → IsRight first chosen (op_of book w.number) (said (run state entry.command).1 w.sequence) (applied + 1)
  answer_right book term w at asks = subst (λ (o : Option Op). IsRight first chosen o (said (run state entry.command).1 w.sequence) (applied + 1)) (sym asks.asked) (by_sequence w.sequence asks.fits)
    where
      index : w.index - 1 ≡ applied
      index = omega (arith, at)

      next : applied + 1 - 1 ≡ applied
      next = omega arith

      there : slice_get log applied ≡ Some asks.entry
      there = ap (slice_get log) (sym index) ∙ asks.stands

      command_in : Option LogEntry → Command
      command_in None = entry.command
      command_in (Some e) = e.command

      command : entry.command ≡ asks.entry.command
      command = ap command_in (sym is ∙ there)

      enqueued : slice_get chosen (applied + 1 - 1) ≡ Some asks.entry
      enqueued = ap (slice_get chosen) next ∙ get_same chosen log applied first_part ∙ there

      made : (run state entry.command).1 ≡ outcome_behind (members first) (commands (take (applied + 1 - 1) chosen)) asks.entry.command
      made =
          ap (λ (s : State). (run s entry.command).1) replica_is
          ∙ ap (λ (c : Command). (run (replica_of first (take applied log)) c).1) command
          ∙ ap (λ (l : List LogEntry). (run (replica_of first l) asks.entry.command).1) (sym (take_less chosen log applied first_part))
          ∙ ap (λ (k : ℕ). (run (replica_of first (take k chosen)) asks.entry.command).1) (sym next)

      by_sequence : (s : Option ℕ) → CommandFits asks.op w.position s asks.entry.command → IsRight first chosen (Some asks.op) (said (run state entry.command).1 s) (applied + 1)
      by_sequence None fits = subst (λ (o : Outcome). IsRight first chosen (Some asks.op) (say_of o) (applied + 1)) (sym made)
          (outcome_right first chosen (applied + 1) (omega arith) asks.entry enqueued asks.op asks.entry.command refl fits.0)
      by_sequence (Some sequence) fits = subst (λ (op : Op). IsQueued first chosen op (applied + 1)) (sym fits.is_queue)
          (record { counts = omega arith; entry = asks.entry; stands = enqueued; lists = fits.lists; is_batch = fits.is_batch; position = w.position; has = fits.has })

  pub answers_right : (book : List Note) (term : ℕ) (ws : List Waiting) → AllWait book log term ws
      → AllRight first chosen book (at_place first (applied + 1) (answered (applied + 1) (run state entry.command).1 ws))
  answers_right book term [] all = tt
  answers_right book term (w ∷ ws) (one, rest) = if_case (λ (l : List Answer). AllRight first chosen book (at_place first (applied + 1) l)) (w.index == applied + 1)
      (record { number = w.number; say = said (run state entry.command).1 w.sequence } ∷ answered (applied + 1) (run state entry.command).1 ws) []
      (λ same. (answer_right book term w (eq_true w.index (applied + 1) same) one, answers_right book term ws rest)) (λ _. tt)
