-- Runs keep what they promise.
use Rattle.std.proofs.Common.{◌≡◌, ◌<◌, ◌≤◌, ℕ, zero, suc, ◌+◌, ◌-◌, ◌==◌, nat_eq, List, [], ◌∷◌, ◌++◌, length, take, slice_get, Bool, true, false, if◌then◌else◌, Option, Some, None, refl, sym, ◌∙◌, ap, subst, arith}
use Rattle.std.specs.Prelude.{⊤}
use Rattle.std.proofs.lemmas.List.{append-nil, length-append, map-append}
use Rattle.rq_statement.specs.declared.item.Item.{Item}
use Rattle.rq_request.specs.declared.say.Say.{Say}
use Rattle.rq_request.specs.declared.say.Say.TheVariants.{Results, Queued, Loaded, Backup, Nodes, Ready, Changed, Moved, Refused}
use Rattle.rq_request.specs.declared.say.Answer.{Answer}
use Rattle.rq_statement.specs.declared.res.Res.{Res}
use Rattle.rq_engine.specs.Fold.{State, first, run, after, outcome_behind, answer}
use Rattle.rq_node.specs.declared.log_entry.LogEntry.{LogEntry}
use Rattle.rq_node.specs.declared.log_entry.Content.{Content}
use Rattle.rq_node.specs.declared.log_entry.Content.TheVariants.{NoOp, Execute}
use Rattle.rq_node.specs.declared.waiting.Waiting.{Waiting}
use Rattle.rq_node.specs.Node.{Node, StoredRecord, Turn}
use Rattle.rq_node.specs.Rules.{command_of, results_of, answered, left_waiting, ran, applied_content, applied_entry, apply_next, apply_times}
use Rattle.rq_script.specs.History.{Op, Write, Read, Note, Asked, Answered, at_place, applying}
use Rattle.rq_script.specs.Promise.{commands, folded, Begins, op_of, IsRight}
use Rattle.rq_script.proofs.Prefixes.{begins_get, begins_take_same, get_within, take_next, after_both}

-- ---- notes

-- what a note says is right
abbrev pub RightNote : List (List ℕ) → List LogEntry → List Note → Option Note → Type 0
RightNote ids chosen book None = ⊤
RightNote ids chosen book (Some (Asked number op)) = ⊤
RightNote ids chosen book (Some (Answered number say place)) = IsRight ids chosen (op_of book number) say place

abbrev pub AllRight : List (List ℕ) → List LogEntry → List Note → List Note → Type 0
AllRight ids chosen book [] = ⊤
AllRight ids chosen book (note ∷ notes) = RightNote ids chosen book (Some note) × AllRight ids chosen book notes

pub all_get : (ids : List (List ℕ)) (chosen : List LogEntry) (book notes : List Note) (k : ℕ) → AllRight ids chosen book notes → RightNote ids chosen book (slice_get notes k)
all_get ids chosen book [] k all = tt
all_get ids chosen book (note ∷ notes) zero (first, rest) = first
all_get ids chosen book (note ∷ notes) (suc k) (first, rest) = all_get ids chosen book notes k rest

pub all_both : (ids : List (List ℕ)) (chosen : List LogEntry) (book one two : List Note) → AllRight ids chosen book one → AllRight ids chosen book two → AllRight ids chosen book (one ++ two)
all_both ids chosen book [] two none all = all
all_both ids chosen book (note ∷ one) two (first, rest) all = (first, all_both ids chosen book one two rest all)

pub right_op : (ids : List (List ℕ)) (chosen : List LogEntry) (op : Option Op) (say : Say) (place : ℕ) → IsRight ids chosen op say place → (o : Op) × (op ≡ Some o)
right_op ids chosen None say place nothing = absurd nothing
right_op ids chosen (Some o) say place right = (o, refl)

right_more : (ids : List (List ℕ)) (old new : List LogEntry) (op : Option Op) (say : Say) (place : ℕ) → Begins old new → IsRight ids old op say place → IsRight ids new op say place
right_more ids old new None say place more nothing = absurd nothing
right_more ids old new (Some (Write items)) (Results results) place more right =
    let within = get_within old (place - 1) right.entry right.stands in
    record {
      counts = right.counts;
      entry = right.entry;
      stands = begins_get old new (place - 1) more within ∙ right.stands;
      is_list = right.is_list;
      outcome = right.outcome ∙ ap (λ (l : List LogEntry). results_of (outcome_behind ids (commands l) (command_of (Execute items)))) (sym (begins_take_same old new (place - 1) more (omega (arith, within))));
    }
right_more ids old new (Some (Read items)) (Results results) place (r, is) (within, right) = (
  let counts : length new ≡ length old + length r = ap length (sym is) ∙ length-append old r in omega (arith, counts, within),
  right ∙ ap (λ (l : List LogEntry). answer (folded ids l) items) (sym (begins_take_same old new place (r, is) within)),
)
right_more ids old new (Some op) (Refused refusal) place more right = tt
right_more ids old new (Some op) (Queued number) place more nothing = absurd nothing
right_more ids old new (Some op) Loaded place more nothing = absurd nothing
right_more ids old new (Some op) (Backup sql) place more nothing = absurd nothing
right_more ids old new (Some op) (Nodes members) place more nothing = absurd nothing
right_more ids old new (Some op) Ready place more nothing = absurd nothing
right_more ids old new (Some op) Changed place more nothing = absurd nothing
right_more ids old new (Some op) (Moved address) place more nothing = absurd nothing

pub all_chosen : (ids : List (List ℕ)) (old new : List LogEntry) (book notes : List Note) → Begins old new → AllRight ids old book notes → AllRight ids new book notes
all_chosen ids old new book [] grows all = tt
all_chosen ids old new book (Asked number op ∷ notes) grows (first, rest) = (tt, all_chosen ids old new book notes grows rest)
all_chosen ids old new book (Answered number say place ∷ notes) grows (first, rest) = (right_more ids old new (op_of book number) say place grows first, all_chosen ids old new book notes grows rest)

pub op_kept : (book more : List Note) (number : ℕ) (op : Op) → op_of book number ≡ Some op → op_of (book ++ more) number ≡ Some op
op_kept [] more number op is = absurd (cc)
op_kept (Asked k o ∷ book) more number op is = at (λ rest. op_kept book more number op rest) (nat_eq k number) refl
  where
    at : (op_of book number ≡ Some op → op_of (book ++ more) number ≡ Some op) → (b : Bool) → nat_eq k number ≡ b → op_of (Asked k o ∷ (book ++ more)) number ≡ Some op
    at on true same = ap (λ (b : Bool). if b then Some o else op_of (book ++ more) number) same ∙ sym (ap (λ (b : Bool). if b then Some o else op_of book number) same) ∙ is
    at on false other =
        ap (λ (b : Bool). if b then Some o else op_of (book ++ more) number) other
        ∙ on (sym (ap (λ (b : Bool). if b then Some o else op_of book number) other) ∙ is)
op_kept (Answered k say place ∷ book) more number op is = op_kept book more number op is

pub op_behind : (book more : List Note) (number : ℕ) → op_of book number ≡ None → op_of (book ++ more) number ≡ op_of more number
op_behind [] more number is = refl
op_behind (Asked k o ∷ book) more number is = at (λ rest. op_behind book more number rest) (nat_eq k number) refl
  where
    at : (op_of book number ≡ None → op_of (book ++ more) number ≡ op_of more number) → (b : Bool) → nat_eq k number ≡ b → op_of (Asked k o ∷ (book ++ more)) number ≡ op_of more number
    at on true same = let e = sym is ∙ ap (λ (b : Bool). if b then Some o else op_of book number) same in absurd (cc)
    at on false other =
        ap (λ (b : Bool). if b then Some o else op_of (book ++ more) number) other
        ∙ on (sym (ap (λ (b : Bool). if b then Some o else op_of book number) other) ∙ is)
op_behind (Answered k say place ∷ book) more number is = op_behind book more number is

pub all_more : (ids : List (List ℕ)) (old new : List LogEntry) (book more notes : List Note) → Begins old new → AllRight ids old book notes → AllRight ids new (book ++ more) notes
all_more ids old new book more [] grows all = tt
all_more ids old new book more (Asked number op ∷ notes) grows (first, rest) = (tt, all_more ids old new book more notes grows rest)
all_more ids old new book more (Answered number say place ∷ notes) grows (first, rest) =
    let op = right_op ids old (op_of book number) say place first in
    let same : op_of (book ++ more) number ≡ op_of book number = op_kept book more number op.0 op.1 ∙ sym op.1 in
    (subst (λ (o : Option Op). IsRight ids new o say place) (sym same) (right_more ids old new (op_of book number) say place grows first), all_more ids old new book more notes grows rest)

pub places_ask_nothing : (place : ℕ) (said : List Answer) (number : ℕ) → op_of (at_place place said) number ≡ None
places_ask_nothing place [] number = refl
places_ask_nothing place (answer ∷ said) number = places_ask_nothing place said number

pub applying_asks_nothing : (k : ℕ) (n : Node) (number : ℕ) → op_of (applying k n) number ≡ None
unfolding applying
applying_asks_nothing zero n number = refl
applying_asks_nothing (suc k) n number =
    let next = applied_entry n (slice_get n.log n.applied) in
    op_behind (at_place (n.applied + 1) next.answers) (applying k next.node) number (places_ask_nothing (n.applied + 1) next.answers number)
    ∙ applying_asks_nothing k next.node number

-- ---- asks that wait

-- the ask waits for an entry with its list
pub record Waits (book : List Note) (log : List LogEntry) (w : Waiting) : Type 0 where
  pub counts : 1 ≤ w.index
  pub items : List Item
  pub asked : op_of book w.number ≡ Some (Write items)
  pub entry : LogEntry
  pub stands : slice_get log (w.index - 1) ≡ Some entry
  pub is_list : entry.content ≡ Execute items

abbrev pub AllWait : List Note → List LogEntry → List Waiting → Type 0
AllWait book log [] = ⊤
AllWait book log (w ∷ ws) = Waits book log w × AllWait book log ws

pub wait_more : (book more : List Note) (old new : List LogEntry) (ws : List Waiting) → Begins old new → AllWait book old ws → AllWait (book ++ more) new ws
wait_more book more old new [] grows all = tt
wait_more book more old new (w ∷ ws) grows (first, rest) = (
  record {
    counts = first.counts;
    items = first.items;
    asked = op_kept book more w.number (Write first.items) first.asked;
    entry = first.entry;
    stands = begins_get old new (w.index - 1) grows (get_within old (w.index - 1) first.entry first.stands) ∙ first.stands;
    is_list = first.is_list;
  },
  wait_more book more old new ws grows rest,
)

pub wait_both : (book : List Note) (log : List LogEntry) (one two : List Waiting) → AllWait book log one → AllWait book log two → AllWait book log (one ++ two)
wait_both book log [] two none all = all
wait_both book log (w ∷ one) two (first, rest) all = (first, wait_both book log one two rest all)

wait_left : (book : List Note) (log : List LogEntry) (index : ℕ) (ws : List Waiting) → AllWait book log ws → AllWait book log (left_waiting index ws)
wait_left book log index [] all = tt
wait_left book log index (w ∷ ws) (first, rest) = at (w.index == index)
  where
    at : (b : Bool) → AllWait book log (if b then ws else w ∷ ws)
    at true = rest
    at false = (first, rest)

-- ---- a running node

-- its log begins with what was chosen
pub record Stands (ids : List (List ℕ)) (chosen : List LogEntry) (book : List Note) (n : Node) : Type 0 where
  pub grown : Begins chosen n.log
  pub inside : n.commit ≤ length n.log
  pub within : n.applied ≤ n.commit
  pub folds : n.replica ≡ folded ids (take n.applied n.log)
  pub waiting : AllWait book n.log n.waiting

abbrev items_in : Content → List Item
items_in NoOp = []
items_in (Execute items) = items

-- one entry more is applied
module _ (ids : List (List ℕ)) (chosen : List LogEntry) (book : List Note) (n : Node) (stands : Stands ids chosen book n) (covers : n.commit ≤ length chosen) (less : n.applied < n.commit)
    (entry : LogEntry) (is : slice_get n.log n.applied ≡ Some entry) where
  folds_one : (content : Content) → entry.content ≡ content → folded ids (take (n.applied + 1) n.log) ≡ (run n.replica (command_of content)).0
  folds_one content holds =
      ap (folded ids) (take_next n.log n.applied entry is)
      ∙ ap (after (first ids)) (map-append (λ (e : LogEntry). command_of e.content) (take n.applied n.log) (entry ∷ []))
      ∙ after_both (first ids) (commands (take n.applied n.log)) (commands (entry ∷ []))
      ∙ ap (λ (c : Content). (run (folded ids (take n.applied n.log)) (command_of c)).0) holds
      ∙ ap (λ (r : State). (run r (command_of content)).0) (sym stands.folds)

  after_noop : entry.content ≡ NoOp → Stands ids chosen book (ran n (n.applied + 1) NoOp)
  after_noop holds = record { grown = stands.grown; inside = stands.inside; within = omega (arith, less); folds = sym (folds_one NoOp holds); waiting = stands.waiting }

  after_list : (items : List Item) → entry.content ≡ Execute items → Stands ids chosen book (applied_content n (n.applied + 1) (Execute items)).node
  after_list items holds = record {
    grown = stands.grown;
    inside = stands.inside;
    within = omega (arith, less);
    folds = sym (folds_one (Execute items) holds);
    waiting = wait_left book n.log (n.applied + 1) n.waiting stands.waiting;
  }

  abbrev outcome : List Item → List Res
  outcome items = results_of (run n.replica (command_of (Execute items))).1

  -- the answer to the ask that waits for the entry
  answer_right : (items : List Item) → entry.content ≡ Execute items → (w : Waiting) → w.index ≡ n.applied + 1 → Waits book n.log w
      → IsRight ids chosen (op_of book w.number) (Results (outcome items)) (n.applied + 1)
  answer_right items holds w at asks =
      let index : w.index - 1 ≡ n.applied = omega (arith, at) in
      let next : n.applied + 1 - 1 ≡ n.applied = omega arith in
      let there : slice_get n.log n.applied ≡ Some asks.entry = ap (slice_get n.log) (sym index) ∙ asks.stands in
      let same : Some entry ≡ Some asks.entry = sym is ∙ there in
      let content : Execute items ≡ Execute asks.items = sym holds ∙ ap content_in same ∙ asks.is_list in
      let lists : items ≡ asks.items = ap items_in content in
      let put : slice_get chosen (n.applied + 1 - 1) ≡ Some asks.entry =
      ap (slice_get chosen) next ∙ sym (begins_get chosen n.log n.applied stands.grown (omega (arith, less, covers))) ∙ there in
      let made : outcome items ≡ results_of (outcome_behind ids (commands (take (n.applied + 1 - 1) chosen)) (command_of (Execute asks.items))) =
      ap (λ (r : State). results_of (run r (command_of (Execute items))).1) stands.folds
      ∙ ap (λ (i : List Item). results_of (outcome_behind ids (commands (take n.applied n.log)) (command_of (Execute i)))) lists
      ∙ ap (λ (l : List LogEntry). results_of (outcome_behind ids (commands l) (command_of (Execute asks.items)))) (begins_take_same chosen n.log n.applied stands.grown (omega (arith, less, covers)))
      ∙ ap (λ (k : ℕ). results_of (outcome_behind ids (commands (take k chosen)) (command_of (Execute asks.items)))) (sym next) in
      subst (λ (o : Option Op). IsRight ids chosen o (Results (outcome items)) (n.applied + 1)) (sym asks.asked)
      (record { counts = omega arith; entry = asks.entry; stands = put; is_list = asks.is_list; outcome = made })
    where
      content_in : Option LogEntry → Content
      content_in None = NoOp
      content_in (Some e) = e.content

  answers_right : (items : List Item) → entry.content ≡ Execute items → (ws : List Waiting) → AllWait book n.log ws
      → AllRight ids chosen book (at_place (n.applied + 1) (answered (n.applied + 1) (outcome items) ws))
  answers_right items holds [] all = tt
  answers_right items holds (w ∷ ws) (first, rest) = at (w.index == n.applied + 1) refl
    where
      said : List Answer
      said = record { number = w.number; say = Results (outcome items) } ∷ []

      at : (b : Bool) → (w.index == n.applied + 1) ≡ b → AllRight ids chosen book (at_place (n.applied + 1) (if b then said else []))
      at true same = (answer_right items holds w (grind arith) first, tt)
      at false other = tt

-- what applying the next entry makes
abbrev pub AppliesOne : List (List ℕ) → List LogEntry → List Note → Node → Turn → Type 0
AppliesOne ids chosen book n turn =
    Stands ids chosen book turn.node × AllRight ids chosen book (at_place (n.applied + 1) turn.answers)
    × (turn.node.applied ≡ n.applied + 1) × (turn.node.commit ≡ n.commit)

pub apply_one : (ids : List (List ℕ)) (chosen : List LogEntry) (book : List Note) (n : Node) → Stands ids chosen book n → n.commit ≤ length chosen → n.applied < n.commit
    → AppliesOne ids chosen book n (applied_entry n (slice_get n.log n.applied))
apply_one ids chosen book n stands covers less = at (slice_get n.log n.applied) refl
  where
    of_content : (entry : LogEntry) → slice_get n.log n.applied ≡ Some entry → (content : Content) → entry.content ≡ content
        → AppliesOne ids chosen book n (applied_content n (n.applied + 1) content)
    of_content entry is NoOp holds = (after_noop ids chosen book n stands covers less entry is holds, tt, refl, refl)
    of_content entry is (Execute items) holds =
        (after_list ids chosen book n stands covers less entry is items holds, answers_right ids chosen book n stands covers less entry is items holds n.waiting stands.waiting, refl, refl)

    missing : (log : List LogEntry) (k : ℕ) → k < length log → slice_get log k ≡ None → ⊥
    missing [] k lt none = absurd (omega (arith, lt))
    missing (e ∷ log) zero lt none = absurd (cc)
    missing (e ∷ log) (suc k) lt none = missing log k (omega (arith, lt)) none

    at : (entry : Option LogEntry) → slice_get n.log n.applied ≡ entry → AppliesOne ids chosen book n (applied_entry n entry)
    at None none = absurd (missing n.log n.applied (let e = stands.inside in omega (arith, less, e)) none)
    at (Some entry) is = of_content entry is entry.content refl

pub apply_all : (ids : List (List ℕ)) (chosen : List LogEntry) (book : List Note) (k : ℕ) (turn : Turn) → Stands ids chosen book turn.node → turn.node.commit ≤ length chosen
    → turn.node.applied + k ≤ turn.node.commit → Stands ids chosen book (apply_times k turn).node × AllRight ids chosen book (applying k turn.node)
unfolding apply_times applying
apply_all ids chosen book zero turn stands covers bound = (stands, tt)
apply_all ids chosen book (suc k) turn stands covers bound =
    let one = apply_one ids chosen book turn.node stands covers (omega (arith, bound)) in
    let next = applied_entry turn.node (slice_get turn.node.log turn.node.applied) in
    let still : next.node.commit ≤ length chosen = (let e = one.3 in omega (arith, covers, e)) in
    let more : next.node.applied + k ≤ next.node.commit = (let e = one.3 in let f = one.2 in omega (arith, bound, e, f)) in
    let rest = apply_all ids chosen book k (apply_next turn) one.0 still more in
    (rest.0, all_both ids chosen book (at_place (turn.node.applied + 1) next.answers) (applying k next.node) one.1 rest.1)

-- nothing is made durable
pub apply_stores : (k : ℕ) (turn : Turn) → (apply_times k turn).records ≡ turn.records
unfolding apply_times
apply_stores zero turn = refl
apply_stores (suc k) turn = apply_stores k (apply_next turn) ∙ (ap (λ (l : List StoredRecord). turn.records ++ l) (one (slice_get turn.node.log turn.node.applied)) ∙ append-nil turn.records)
  where
    of_content : (content : Content) → (applied_content turn.node (turn.node.applied + 1) content).records ≡ []
    of_content NoOp = refl
    of_content (Execute items) = refl

    one : (entry : Option LogEntry) → (applied_entry turn.node entry).records ≡ []
    one None = refl
    one (Some entry) = of_content entry.content
