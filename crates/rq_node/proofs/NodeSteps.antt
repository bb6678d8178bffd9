-- Steps of a node.
use Rattle.std.proofs.Common.{◌≡◌, ◌<◌, ◌≤◌, ℕ, zero, suc, ◌+◌, ◌-◌, List, [], ◌∷◌, ◌++◌, length, get_or, slice_get, Some, None, Option, refl, sym, ◌∙◌, ap, subst, arith}
use Rattle.std.proofs.lemmas.List.{append-nil}
use Rattle.std.proofs.lemmas.Option.{slice_get-get_or}
use Rattle.rq_request.specs.declared.say.Answer.{Answer}
use Rattle.rq_node.specs.declared.log_entry.LogEntry.{LogEntry}
use Rattle.rq_node.specs.declared.log_entry.Content.{Content}
use Rattle.rq_node.specs.declared.waiting.Waiting.{Waiting}
use Rattle.rq_statement.specs.declared.item.Item.{Item}
use Rattle.rq_statement.specs.declared.res.Res.{Res}
use Rattle.rq_engine.specs.declared.outcome.Outcome.{Outcome}
use Rattle.rq_engine.specs.declared.outcome.Outcome.TheVariants.{Results}
use Rattle.rq_engine.specs.Fold.{State, run}
use Rattle.rq_node.specs.declared.log_entry.Content.TheVariants.{NoOp, Execute}
use Rattle.rq_node.specs.Node.{Node, Turn, StoredRecord}
use Rattle.rq_node.specs.Rules.{apply_times, apply_next, applied_entry, applied_content, answered, command_of, left_waiting, results_of}

-- one entry more is applied
pub times_next : (a c : ℕ) (turn : Turn) → a < c → apply_times (c - a) turn ≡ apply_times (c - (a + 1)) (apply_next turn)
unfolding apply_times
times_next a c turn lt =
    let e : c - a ≡ suc (c - (a + 1)) = omega arith in
    ap (λ (n : ℕ). apply_times n turn) e

pub times_none : (a c : ℕ) (turn : Turn) → (a < c → ⊥) → apply_times (c - a) turn ≡ turn
unfolding apply_times
times_none a c turn ge =
    let e : c - a ≡ zero = omega arith in
    ap (λ (n : ℕ). apply_times n turn) e

-- the entry that is applied next, by what it holds
pub applies : (n : Node) (entry : LogEntry) (content : Content) → n.applied < length n.log → entry ≡ get_or n.log n.applied entry → entry.content ≡ content
    → applied_entry n (slice_get n.log n.applied) ≡ applied_content n (n.applied + 1) content
applies n entry content within is holds =
    ap (applied_entry n) (slice_get-get_or n.log n.applied entry within ∙ ap (λ (e : LogEntry). Some e) (sym is))
    ∙ ap (applied_content n (n.applied + 1)) holds

pub nothing_behind : (answers : List Answer) → answers ≡ answers ++ []
nothing_behind answers = sym (append-nil answers)

-- the same, where the node is seen by its parts
pub applies_seen : (n m : Node) (entry : LogEntry) (content : Content) → m ≡ n → n.applied < n.commit → m.commit ≤ length m.log
    → entry ≡ get_or m.log m.applied entry → entry.content ≡ content
    → applied_entry n (slice_get n.log n.applied) ≡ applied_content n (n.applied + 1) content
applies_seen n m entry content same less within is holds =
    let P : Node → Type 0 = λ k. k.applied < k.commit → applied_entry k (slice_get k.log k.applied) ≡ applied_content k (k.applied + 1) content in
    subst P same (λ below. applies m entry content (omega (arith, below, within)) is holds) less

applied_by_parts : (n m : Node) (entry : LogEntry) (content : Content) → m ≡ n → n.applied < n.commit → m.commit ≤ length m.log → entry ≡ get_or m.log m.applied entry → entry.content ≡ content
    → applied_content m (m.applied + 1) content ≡ applied_entry n (slice_get n.log n.applied)
applied_by_parts n m entry content same less within is holds =
    let turn = applies_seen n m entry content same less within is holds in
    sym (turn ∙ ap (λ (k : Node). applied_content k (k.applied + 1) content) (sym same))

-- the entry that begins a term leaves the replica as it was
no_op_leaves : (replica : State) → (run replica (command_of NoOp)).0 ≡ replica
unfolding run
no_op_leaves replica = refl

pub no_op_node : (n m : Node) (entry : LogEntry) → m ≡ n → n.applied < n.commit → m.commit ≤ length m.log → entry ≡ get_or m.log m.applied entry → entry.content ≡ NoOp
    → record m { applied = m.applied + 1 } ≡ (applied_entry n (slice_get n.log n.applied)).node
no_op_node n m entry same less within is holds =
    let next : Node = record m { applied = m.applied + 1 } in
    ap (λ (r : State). record next { replica = r }) (sym (no_op_leaves m.replica))
    ∙ ap (λ (t : Turn). t.node) (applied_by_parts n m entry NoOp same less within is holds)

-- what an entry with a list changes, by the new parts
module _ (n m : Node) (entry : LogEntry) (items : List Item) (same : m ≡ n) (less : n.applied < n.commit) (within : m.commit ≤ length m.log)
    (is : entry ≡ get_or m.log m.applied entry) (holds : entry.content ≡ Execute items) where
  executes : applied_content m (m.applied + 1) (Execute items) ≡ applied_entry n (slice_get n.log n.applied)
  executes = applied_by_parts n m entry (Execute items) same less within is holds

  pub executes_node : (waiting : List Waiting) (replica : State) → waiting ≡ left_waiting (m.applied + 1) m.waiting → replica ≡ (run m.replica (command_of (Execute items))).0
      → record m { applied = m.applied + 1; waiting = waiting; replica = replica } ≡ (applied_entry n (slice_get n.log n.applied)).node
  executes_node waiting replica left made =
      let next : Node = record m { applied = m.applied + 1 } in
      ap (λ (w : List Waiting). record next { waiting = w; replica = replica }) left
      ∙ ap (λ (r : State). record next { waiting = left_waiting (m.applied + 1) m.waiting; replica = r }) made
      ∙ ap (λ (t : Turn). t.node) executes

  pub executes_answers : (before after : List Answer) (results : List Res) → after ≡ before ++ answered (m.applied + 1) results m.waiting → results ≡ results_of (run m.replica (command_of (Execute items))).1
      → after ≡ before ++ (applied_entry n (slice_get n.log n.applied)).answers
  executes_answers before after results answers made =
      answers
      ∙ ap (λ (r : List Res). before ++ answered (m.applied + 1) r m.waiting) made
      ∙ ap (λ (t : Turn). before ++ t.answers) executes

-- an entry that is applied changes neither the log nor the commit
pub keeps_commit : (n : Node) (entry : Option LogEntry) → (applied_entry n entry).node.commit ≡ n.commit
keeps_commit n None = refl
keeps_commit n (Some entry) = by entry.content
  where
    by : (content : Content) → (applied_content n (n.applied + 1) content).node.commit ≡ n.commit
    by NoOp = refl
    by (Execute items) = refl

no_end : (log : List LogEntry) (k : ℕ) → k < length log → slice_get log k ≡ None → ⊥
no_end [] k within is = absurd (omega arith)
no_end (entry ∷ log) zero within is = absurd (cc)
no_end (entry ∷ log) (suc k) within is = no_end log k (omega arith) is

-- one entry more is applied, where one may be
pub counts_one : (n : Node) → n.applied < length n.log → (applied_entry n (slice_get n.log n.applied)).node.applied ≡ n.applied + 1
counts_one n within = by (slice_get n.log n.applied) refl
  where
    of_content : (content : Content) → (applied_content n (n.applied + 1) content).node.applied ≡ n.applied + 1
    of_content NoOp = refl
    of_content (Execute items) = refl

    by : (entry : Option LogEntry) → slice_get n.log n.applied ≡ entry → (applied_entry n entry).node.applied ≡ n.applied + 1
    by None is = absurd (no_end n.log n.applied within is)
    by (Some entry) is = of_content entry.content

-- nothing is stored where an entry is applied
stores_nothing : (n : Node) (entry : Option LogEntry) → (applied_entry n entry).records ≡ []
stores_nothing n None = refl
stores_nothing n (Some entry) = by entry.content
  where
    by : (content : Content) → (applied_content n (n.applied + 1) content).records ≡ []
    by NoOp = refl
    by (Execute items) = refl

-- a loop that has applied one entry more
module _ (n next : Node) (less : n.applied < n.commit) (within : n.commit ≤ length n.log) (is : next ≡ (applied_entry n (slice_get n.log n.applied)).node) where
  commit_is : next.commit ≡ n.commit
  commit_is = ap (λ (k : Node). k.commit) is ∙ keeps_commit n (slice_get n.log n.applied)

  applied_is : next.applied ≡ n.applied + 1
  applied_is = ap (λ (k : Node). k.applied) is ∙ counts_one n (omega arith)

  pub falls_by_one : next.commit - next.applied < n.commit - n.applied
  falls_by_one = let c = commit_is in let a = applied_is in omega arith

  pub times_go_on : (before after : List Answer) (total : Turn) → after ≡ before ++ (applied_entry n (slice_get n.log n.applied)).answers
      → apply_times (n.commit - n.applied) (record { node = n; records = []; answers = before }) ≡ total
      → apply_times (next.commit - next.applied) (record { node = next; records = []; answers = after }) ≡ total
  times_go_on before after total answers so_far =
      let turn = applied_entry n (slice_get n.log n.applied) in
      let rest : next.commit - next.applied ≡ n.commit - (n.applied + 1) = ap (λ (c : ℕ). c - next.applied) commit_is ∙ ap (λ (a : ℕ). n.commit - a) applied_is in
      ap (λ (k : ℕ). apply_times k (record { node = next; records = []; answers = after })) rest
      ∙ ap (λ (k : Node). apply_times (n.commit - (n.applied + 1)) (record { node = k; records = []; answers = after })) is
      ∙ ap (λ (s : List StoredRecord). apply_times (n.commit - (n.applied + 1)) (record { node = turn.node; records = s; answers = after })) (sym (stores_nothing n (slice_get n.log n.applied)))
      ∙ ap (λ (l : List Answer). apply_times (n.commit - (n.applied + 1)) (record { node = turn.node; records = turn.records; answers = l })) answers
      ∙ sym (times_next n.applied n.commit (record { node = n; records = []; answers = before }) less)
      ∙ so_far

-- the parts of what a list does
pub first_part : (made : State × Outcome) (replica : State) (results : List Res) → made ≡ (replica, Results results) → replica ≡ made.0
first_part made replica results is = sym (ap (λ (m : State × Outcome). m.0) is)

pub second_part : (made : State × Outcome) (replica : State) (results : List Res) → made ≡ (replica, Results results) → results ≡ results_of made.1
second_part made replica results is = sym (ap (λ (m : State × Outcome). results_of m.1) is)
