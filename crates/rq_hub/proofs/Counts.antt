-- Asks, answers and waits, counted by number.
use Rattle.std.proofs.Common.{ℕ, zero, suc, ◌≡◌, ◌+◌, ◌-◌, ◌^◌, ◌==◌, ◌||◌, nat_lt, Bool, true, false, cond, List, [], ◌∷◌, ◌++◌, length, slice_get, Option, Some, None, refl, ap, ◌∙◌, arith}
use Rattle.rq_statement.specs.declared.item.Item.{Item}
use Rattle.rq_statement.specs.declared.res.Res.{Res}
use Rattle.rq_statement.specs.Bytes.{execute_bytes}
use Rattle.rq_request.specs.declared.say.Answer.{Answer}
use Rattle.rq_request.specs.declared.say.Say.TheVariants.{Results, Refused}
use Rattle.rq_request.specs.declared.say.NodeRefusal.TheVariants.{NoLeader, EntryTooLarge}
use Rattle.rq_node.specs.declared.event.Event.{Event}
use Rattle.rq_node.specs.declared.event.Event.TheVariants.{Execute, Query, Elect, Apply}
use Rattle.rq_node.specs.declared.log_entry.LogEntry.{LogEntry}
use Rattle.rq_node.specs.declared.log_entry.Content.{Content}
use Rattle.rq_node.specs.declared.log_entry.Content.TheVariants as content
use Rattle.rq_node.specs.declared.waiting.Waiting.{Waiting}
use Rattle.rq_node.specs.Events.{rule, asked}
use Rattle.rq_node.specs.Node.{Node, Turn, Persistent, unchanged, says}
use Rattle.rq_node.specs.Rules.{is_leader, led, taken_up, execute_sized, answered, left_waiting, command_of, results_of, applied_content, applied_entry, apply_next, apply_times, started}
use Rattle.rq_node.specs.Sound.{most_bytes}
use Rattle.rq_engine.specs.Fold.{run as run_command}
use Rattle.rq_hub.specs.Runs.{stepped, ran, run, one_if, asks_of, asked_times, answered_times, waiting_times}

waiting_app : (x : ℕ) (ws vs : List Waiting) → waiting_times x (ws ++ vs) ≡ waiting_times x ws + waiting_times x vs
waiting_app x [] vs = omega arith
waiting_app x (w ∷ ws) vs = omega (arith, waiting_app x ws vs)

answered_app : (x : ℕ) (xs ys : List Answer) → answered_times x (xs ++ ys) ≡ answered_times x xs + answered_times x ys
answered_app x [] ys = omega arith
answered_app x (a ∷ xs) ys = omega (arith, answered_app x xs ys)

-- what comes in, and who waited, are what is answered and who waits
abbrev Counted : ℕ → ℕ → Node → Turn → Type 0
Counted x asks n t = asks + waiting_times x n.waiting ≡ answered_times x t.answers + waiting_times x t.node.waiting

sized_counts : (x : ℕ) (n : Node) (number : ℕ) (items : List Item) (size : ℕ) (b : Bool) → Counted x (one_if (number == x)) n (cond b (says n number (Refused (EntryTooLarge size))) (taken_up n number items))
sized_counts x n number items size true = omega arith
sized_counts x n number items size false = omega (arith, waiting_app x n.waiting (record { index = length n.log + 1; number = number } ∷ []))

execute_counts : (x : ℕ) (n : Node) (number : ℕ) (items : List Item) (b : Bool) → Counted x (one_if (number == x)) n (cond b (execute_sized n number items (length (execute_bytes items))) (says n number (Refused (NoLeader n.term))))
execute_counts x n number items true = sized_counts x n number items (length (execute_bytes items)) (nat_lt most_bytes (length (execute_bytes items)))
execute_counts x n number items false = omega arith

elect_counts : (x : ℕ) (n : Node) (b : Bool) → Counted x 0 n (cond b (unchanged n) (led n))
elect_counts x n true = omega arith
elect_counts x n false = omega arith

first_at : (x : ℕ) (results : List Res) (w : Waiting) (ws : List Waiting) (b : Bool)
    → one_if (w.number == x) + waiting_times x ws ≡ answered_times x (cond b (record { number = w.number; say = Results results } ∷ []) []) + waiting_times x (cond b ws (w ∷ ws))
first_at x results w ws true = omega arith
first_at x results w ws false = omega arith

first_counts : (x index : ℕ) (results : List Res) (ws : List Waiting) → waiting_times x ws ≡ answered_times x (answered index results ws) + waiting_times x (left_waiting index ws)
first_counts x index results [] = omega arith
first_counts x index results (w ∷ ws) = first_at x results w ws (w.index == index)

content_counts : (x : ℕ) (n : Node) (index : ℕ) (c : Content) → Counted x 0 n (applied_content n index c)
content_counts x n index content.NoOp = omega arith
content_counts x n index (content.Execute items) =
    omega (arith, first_counts x index (results_of (run_command n.replica (command_of (content.Execute items))).1) n.waiting)

entry_counts : (x : ℕ) (n : Node) (e : Option LogEntry) → Counted x 0 n (applied_entry n e)
entry_counts x n None = omega arith
entry_counts x n (Some entry) = content_counts x n (n.applied + 1) entry.content

-- what was answered and who waits stays, counted together
abbrev both : ℕ → Turn → ℕ
both x t = answered_times x t.answers + waiting_times x t.node.waiting

next_counts : (x : ℕ) (t : Turn) → both x (apply_next t) ≡ both x t
next_counts x t =
    let e = slice_get t.node.log t.node.applied in
    omega (arith, entry_counts x t.node e, answered_app x t.answers (applied_entry t.node e).answers)

times_counts : (x k : ℕ) (t : Turn) → both x (apply_times k t) ≡ both x t
unfolding apply_times
times_counts x zero t = refl
times_counts x (suc k) t = times_counts x k (apply_next t) ∙ next_counts x t

rule_counts : (x : ℕ) (n : Node) (e : Event) → Counted x (asks_of x (asked e)) n (rule e n)
rule_counts x n (Execute number items) = execute_counts x n number items (is_leader n.role)
rule_counts x n (Query number items) = omega arith
rule_counts x n Elect = elect_counts x n (is_leader n.role || (n.term == 2 ^ 64 - 1))
rule_counts x n Apply = omega (arith, times_counts x (n.commit - n.applied) (unchanged n))

ran_counts : (x : ℕ) (turn : Turn) (events : List Event) → asked_times x events + both x turn ≡ both x (ran turn events)
ran_counts x turn [] = omega arith
ran_counts x turn (e ∷ events) =
    omega (arith, ran_counts x (stepped turn e) events, rule_counts x turn.node e, answered_app x turn.answers (rule e turn.node).answers)

pub started_counts : (x : ℕ) (id : List ℕ) (kept : Persistent) (events : List Event) → asked_times x events ≡ answered_times x (run (started id kept).node events).answers + waiting_times x (run (started id kept).node events).node.waiting
started_counts x id kept events = omega (arith, ran_counts x (unchanged (started id kept).node) events)
