-- What waits at a running node is committed and not applied yet, so the next apply answers it.
use Rattle.std.proofs.Common.{◌≡◌, ◌≤◌, ◌<◌, ℕ, zero, suc, ◌+◌, ◌-◌, ◌==◌, ◌||◌, ◌^◌, nat_lt, List, [], ◌∷◌, ◌++◌, length, slice_get, Bool, true, false, if◌then◌else◌, bytes_eq, Option, Some, None, option_and_then, refl, sym, ◌∙◌, ap, subst, arith}
use Rattle.std.specs.Prelude.{⊤}
use Rattle.std.specs.Option.{option_map}
use Rattle.rq_statement.specs.declared.item.Item.{Item}
use Rattle.rq_request.specs.declared.say.Say.TheVariants.{Refused}
use Rattle.rq_request.specs.declared.say.NodeRefusal.TheVariants.{NoLeader, EntryTooLarge}
use Rattle.rq_statement.specs.Bytes.{execute_bytes}
use Rattle.rq_json.specs.Body.{texts_of}
use Rattle.rq_node.specs.declared.log_entry.LogEntry.{LogEntry}
use Rattle.rq_node.specs.declared.log_entry.Content.{Content}
use Rattle.rq_node.specs.declared.log_entry.Content.TheVariants.{NoOp, Execute as ExecuteList}
use Rattle.rq_node.specs.declared.waiting.Waiting.{Waiting}
use Rattle.rq_node.specs.Node.{Node, Persistent, StoredRecord, Turn, unchanged, says}
use Rattle.rq_node.specs.Rules.{is_leader, led, elect, taken_up, execute_sized, left_waiting, applied_content, applied_entry, apply_next, apply_times, execute, query, apply}
use Rattle.rq_node.specs.Sound.{most_bytes}
use Rattle.rq_node.specs.Files.{first_persistent}
use Rattle.rq_script.specs.ScriptLine.{Line, Skip, Cluster as ClusterLine, At, Elect, Apply, Execute, Query, Stop, StopWithin, Start, Show, line_of}
use Rattle.rq_script.specs.Cluster.{Stand, Running, Down, Server, Cluster, Written, new_server, Fault, NoFault, Reading, Storing, Course, Fate, Done, Struck, Failed, fate, ended, happens_at, opens, starts, stops, arms, shown, at_server, event_at, ask_at, founded, done, step}
use Rattle.rq_script.specs.Runs.{Runs}
use Rattle.rq_script.specs.History.{Note, node_at, node_in, history}
use Rattle.rq_script.specs.Answering.{AppliesAnswerAll}
use Rattle.rq_script.proofs.Histories.{Stands, Waits, AllWait, apply_one}
use Rattle.rq_script.proofs.Moments.{Fits, FitsAt}
use Rattle.rq_script.proofs.Promises.{moment}

-- the waiting asks' indexes rise, above `low` and up to `high`
abbrev Due : ℕ → List Waiting → ℕ → Type 0
Due low [] high = ⊤
Due low (w ∷ ws) high = (low < w.index) × (w.index ≤ high) × Due w.index ws high

due_more : (low : ℕ) (ws : List Waiting) (high next : ℕ) → high ≤ next → Due low ws high → Due low ws next
due_more low [] high next le due = tt
due_more low (w ∷ ws) high next le (above, within, rest) = (above, omega (arith, within, le), due_more w.index ws high next le rest)

due_behind : (low : ℕ) (ws : List Waiting) (high next number : ℕ) → low ≤ high → high < next → Due low ws high → Due low (ws ++ record { index = next; number = number } ∷ []) next
due_behind low [] high next number le less due = (omega (arith, le, less), omega arith, tt)
due_behind low (w ∷ ws) high next number le less (above, within, rest) = (above, omega (arith, within, less), due_behind w.index ws high next number within less rest)

none_due : (low : ℕ) (ws : List Waiting) → Due low ws low → ws ≡ []
none_due low [] due = refl
none_due low (w ∷ ws) (above, within, rest) = absurd (omega (arith, above, within))

-- ---- one entry

module _ (book : List Note) (n : Node) (entry : LogEntry) (is : slice_get n.log n.applied ≡ Some entry) where
  abbrev content_in : Option LogEntry → Content
  content_in None = NoOp
  content_in (Some e) = e.content

  -- the ask whose entry this is waits for a list
  waits_for_list : (w : Waiting) → w.index ≡ n.applied + 1 → Waits book n.log w → entry.content ≡ NoOp → ⊥
  waits_for_list w same asks none =
      let place : w.index - 1 ≡ n.applied = omega (arith, same) in
      let found : Some entry ≡ Some asks.entry = sym is ∙ ap (slice_get n.log) (sym place) ∙ asks.stands in
      let contents : entry.content ≡ asks.entry.content = ap content_in found in
      let lists = asks.is_list in
      absurd (cc)

  noop_due : (ws : List Waiting) (high : ℕ) → entry.content ≡ NoOp → AllWait book n.log ws → Due n.applied ws high → Due (n.applied + 1) ws high
  noop_due [] high none all due = tt
  noop_due (w ∷ ws) high none (asks, others) (above, within, rest) = at (w.index == n.applied + 1) refl
    where
      at : (b : Bool) → (w.index == n.applied + 1) ≡ b → Due (n.applied + 1) (w ∷ ws) high
      at true same = absurd (waits_for_list w (grind arith) asks none)
      at false other = let differs : w.index ≡ n.applied + 1 → ⊥ = λ e. (let f : (w.index == n.applied + 1) ≡ true = grind arith in absurd (cc)) in (omega (arith, above, differs), within, rest)

  list_due : (ws : List Waiting) (high : ℕ) → Due n.applied ws high → Due (n.applied + 1) (left_waiting (n.applied + 1) ws) high
  list_due [] high due = tt
  list_due (w ∷ ws) high (above, within, rest) = at (w.index == n.applied + 1) refl
    where
      at : (b : Bool) → (w.index == n.applied + 1) ≡ b → Due (n.applied + 1) (if b then ws else w ∷ ws) high
      at true same = let index : w.index ≡ n.applied + 1 = grind arith in subst (λ (k : ℕ). Due k ws high) index rest
      at false other = let differs : w.index ≡ n.applied + 1 → ⊥ = λ e. (let f : (w.index == n.applied + 1) ≡ true = grind arith in absurd (cc)) in (omega (arith, above, differs), within, rest)

  entry_due : AllWait book n.log n.waiting → Due n.applied n.waiting n.commit → (c : Content) → entry.content ≡ c
      → Due (applied_content n (n.applied + 1) c).node.applied (applied_content n (n.applied + 1) c).node.waiting (applied_content n (n.applied + 1) c).node.commit
  entry_due all due NoOp holds = noop_due n.waiting n.commit holds all due
  entry_due all due (ExecuteList items) holds = list_due n.waiting n.commit due

next_due : (ids : List (List ℕ)) (chosen : List LogEntry) (book : List Note) (n : Node) → Stands ids chosen book n → n.applied < n.commit → Due n.applied n.waiting n.commit
    → Due (applied_entry n (slice_get n.log n.applied)).node.applied (applied_entry n (slice_get n.log n.applied)).node.waiting (applied_entry n (slice_get n.log n.applied)).node.commit
next_due ids chosen book n stands less due = at (slice_get n.log n.applied) refl
  where
    at : (o : Option LogEntry) → slice_get n.log n.applied ≡ o → Due (applied_entry n o).node.applied (applied_entry n o).node.waiting (applied_entry n o).node.commit
    at None none = due
    at (Some entry) is = entry_due book n entry is stands.waiting due entry.content refl

-- all that is committed is applied, and nothing is due then
all_due : (ids : List (List ℕ)) (chosen : List LogEntry) (book : List Note) (k : ℕ) (turn : Turn) → Stands ids chosen book turn.node → turn.node.commit ≤ length chosen → turn.node.applied + k ≡ turn.node.commit
    → Due turn.node.applied turn.node.waiting turn.node.commit → (apply_times k turn).node.waiting ≡ []
unfolding apply_times
all_due ids chosen book zero turn stands covers bound due = none_due turn.node.applied turn.node.waiting (subst (λ (high : ℕ). Due turn.node.applied turn.node.waiting high) (omega (arith, bound)) due)
all_due ids chosen book (suc k) turn stands covers bound due =
    let one = apply_one ids chosen book turn.node stands covers (omega (arith, bound)) in
    let next = applied_entry turn.node (slice_get turn.node.log turn.node.applied) in
    let still : next.node.commit ≤ length chosen = (let e = one.3 in omega (arith, covers, e)) in
    let more : next.node.applied + k ≡ next.node.commit = (let e = one.3 in let f = one.2 in omega (arith, bound, e, f)) in
    all_due ids chosen book k (apply_next turn) one.0 still more (next_due ids chosen book turn.node stands (omega (arith, bound)) due)

answers_all : (ids : List (List ℕ)) (chosen : List LogEntry) (book : List Note) (n : Node) → Stands ids chosen book n → n.commit ≤ length chosen → Due n.applied n.waiting n.commit → AppliesAnswerAll n
answers_all ids chosen book n stands covers due =
    let within = stands.within in
    all_due ids chosen book (n.commit - n.applied) (unchanged n) stands covers (omega (arith, within)) due

-- ---- turns

abbrev IsDue : Stand → Type 0
IsDue (Running n) = Due n.applied n.waiting n.commit
IsDue (Down kept rest) = ⊤

ended_due : (f : Fate) (course : Course) (s : Server) (n : Node) (turn : Turn) (asked : List ℕ) → IsDue (Running turn.node) → IsDue (ended f course s n turn asked).0.stand
ended_due Done course s n turn asked due = due
ended_due Struck course s n turn asked due = tt
ended_due Failed course s n turn asked due = tt

elect_due : (n : Node) → n.commit ≤ length n.log → IsDue (Running n) → IsDue (Running (elect n).node)
elect_due n inside due = at (is_leader n.role || (n.term == 2 ^ 64 - 1))
  where
    at : (b : Bool) → IsDue (Running (if b then unchanged n else led n).node)
    at true = due
    at false = due_more n.applied n.waiting n.commit (length n.log + 1) (omega (arith, inside)) due

execute_due : (n : Node) (number : ℕ) (items : List Item) → n.applied ≤ n.commit → n.commit ≤ length n.log → IsDue (Running n) → IsDue (Running (execute n number items).node)
execute_due n number items within inside due = at (is_leader n.role)
  where
    sized : (b : Bool) → IsDue (Running (if b then says n number (Refused (EntryTooLarge (length (execute_bytes items)))) else taken_up n number items).node)
    sized true = due
    sized false = due_behind n.applied n.waiting (length n.log) (length n.log + 1) number (omega (arith, within, inside)) (omega arith) (due_more n.applied n.waiting n.commit (length n.log) inside due)

    at : (b : Bool) → IsDue (Running (if b then execute_sized n number items (length (execute_bytes items)) else says n number (Refused (NoLeader n.term))).node)
    at true = sized (nat_lt most_bytes (length (execute_bytes items)))
    at false = due

apply_due : (n : Node) → AppliesAnswerAll n → IsDue (Running (apply n).node)
apply_due n none = subst (λ (ws : List Waiting). Due (apply n).node.applied ws (apply n).node.commit) (sym none) tt

-- ---- lines

abbrev DueAt : Option Server → Type 0
DueAt None = ⊤
DueAt (Some s) = IsDue s.stand

abbrev MayDue : Option Written → Type 0
MayDue None = ⊤
MayDue (Some x) = DueAt x.0.server

abbrev ActDue : Option (Server × List ℕ) → Type 0
ActDue None = ⊤
ActDue (Some t) = IsDue t.0.stand

acted_due : (c : Cluster) (id : List ℕ) (s : Server) (act : Server → Option (Server × List ℕ)) → ActDue (act s) → MayDue (at_server (record c { server = Some s }) id act)
acted_due c id s act goes = by (bytes_eq s.id id)
  where
    acts : (o : Option (Server × List ℕ)) → ActDue o → MayDue (option_map (λ (t : Server × List ℕ). (record c { server = Some t.0 }, t.1)) o)
    acts None none = tt
    acts (Some t) made = made

    by : (b : Bool) → MayDue (if b then option_map (λ (t : Server × List ℕ). (record c { server = Some t.0 }, t.1)) (act s) else None)
    by true = acts (act s) goes
    by false = tt

module _ (chosen : List LogEntry) (book : List Note) where
  server_due : (c : Cluster) (id : List ℕ) (act : Server → Option (Server × List ℕ)) → FitsAt chosen book c.server → DueAt c.server
      → ((s : Server) (stand : Stand) → Fits (s.id ∷ []) chosen book stand → IsDue stand → ActDue (act (record s { stand = stand })))
      → MayDue (at_server c id act)
  server_due c id act fits due goes = at c.server fits due
    where
      at : (o : Option Server) → FitsAt chosen book o → DueAt o → MayDue (at_server (record c { server = o }) id act)
      at None here now = tt
      at (Some s) here now = acted_due c id s act (goes s s.stand here now)

  event_due : (course : Course) (rule : Node → Turn) (asked : List ℕ) → ((ids : List (List ℕ)) (n : Node) → Stands ids chosen book n → n.commit ≤ length chosen → IsDue (Running n) → IsDue (Running (rule n).node))
      → (s : Server) (stand : Stand) → Fits (s.id ∷ []) chosen book stand → IsDue stand → IsDue (happens_at course (record s { stand = stand }) rule asked).0.stand
  event_due course rule asked goes s (Running n) (stands, covers) due = ended_due (fate course s.armed (rule n).records) course (record s { stand = Running n }) n (rule n) asked (goes (s.id ∷ []) n stands covers due)
  event_due course rule asked goes s (Down kept rest) fits due = tt

  asked_due : (c : Cluster) (course : Course) (id body : List ℕ) (rule : ℕ → List Item → Node → Turn) (items : List Item) → FitsAt chosen book c.server → DueAt c.server
      → ((ids : List (List ℕ)) (n : Node) → Stands ids chosen book n → n.commit ≤ length chosen → IsDue (Running n) → IsDue (Running (rule (c.asks + 1) items n).node))
      → MayDue (ask_at course c id rule items body)
  asked_due c course id body rule items fits due goes = by (texts_of body)
    where
      by : (o : Option (List (List ℕ))) → MayDue (option_and_then (λ (t : List (List ℕ)). event_at course (record c { asks = c.asks + 1 }) id (rule (c.asks + 1) items) ((c.asks + 1) ∷ [])) o)
      by None = tt
      by (Some texts) = server_due (record c { asks = c.asks + 1 }) id (λ s. Some (happens_at course s (rule (c.asks + 1) items) ((c.asks + 1) ∷ []))) fits due (event_due course (rule (c.asks + 1) items) ((c.asks + 1) ∷ []) goes)

  opens_due : (course : Course) (s : Server) (kept : Persistent) (rest : List StoredRecord) (fault : Fault) → IsDue (opens (record course { fault = fault }) (record s { stand = Down kept rest }) kept rest).0.stand
  opens_due course s kept rest NoFault = tt
  opens_due course s kept rest Reading = tt
  opens_due course s kept rest Storing = tt

  found_due : (c : Cluster) (course : Course) (id : List ℕ) → MayDue (founded course c id)
  found_due c course id = at c.server
    where
      at : (o : Option Server) → MayDue (founded course (record c { server = o }) id)
      at None = opens_due course (new_server id) first_persistent [] course.fault
      at (Some s) = tt

  start_due : (course : Course) (s : Server) (stand : Stand) → Fits (s.id ∷ []) chosen book stand → IsDue stand → ActDue (starts course (record s { stand = stand }))
  start_due course s (Running n) fits due = tt
  start_due course s (Down kept rest) fits due = opens_due course s kept rest course.fault

  stop_due : (s : Server) (stand : Stand) → Fits (s.id ∷ []) chosen book stand → IsDue stand → ActDue (stops (record s { stand = stand }))
  stop_due s (Running n) fits due = tt
  stop_due s (Down kept rest) fits due = tt

  arm_due : (calls pick : ℕ) (s : Server) (stand : Stand) → Fits (s.id ∷ []) chosen book stand → IsDue stand → ActDue (arms calls pick (record s { stand = stand }))
  arm_due calls pick s (Running n) fits due = due
  arm_due calls pick s (Down kept rest) fits due = tt

  line_due : (c : Cluster) (line : Line) (items : List Item) (course : Course) → FitsAt chosen book c.server → DueAt c.server → MayDue (done items course c line)
  line_due c Skip items course fits due = due
  line_due c (ClusterLine id) items course fits due = found_due c course id
  line_due c (At id Elect) items course fits due = server_due c id (λ s. Some (happens_at course s elect [])) fits due (event_due course elect [] (λ ids n stands covers now. elect_due n stands.inside now))
  line_due c (At id Apply) items course fits due =
      server_due c id (λ s. Some (happens_at course s apply [])) fits due (event_due course apply [] (λ ids n stands covers now. apply_due n (answers_all ids chosen book n stands covers now)))
  line_due c (At id (Execute body)) items course fits due =
      asked_due c course id body (λ number read n. execute n number read) items fits due (λ ids n stands covers now. execute_due n (c.asks + 1) items stands.within stands.inside now)
  line_due c (At id (Query body)) items course fits due = asked_due c course id body (λ number read n. query n number read) items fits due (λ ids n stands covers now. now)
  line_due c (At id Stop) items course fits due = server_due c id stops fits due stop_due
  line_due c (At id (StopWithin calls pick)) items course fits due = server_due c id (arms calls pick) fits due (arm_due calls pick)
  line_due c (At id Start) items course fits due = server_due c id (starts course) fits due (start_due course)
  line_due c (At id Show) items course fits due = server_due c id (λ s. Some (s, shown s.id s.stand)) fits due (λ s stand here now. now)

  step_due : (c : Cluster) (bytes : List ℕ) (items : List Item) (course : Course) → FitsAt chosen book c.server → DueAt c.server → MayDue (step items course c bytes)
  unfolding step
  step_due c bytes items course fits due = at (line_of bytes)
    where
      at : (o : Option Line) → MayDue (option_and_then (done items course c) o)
      at None = tt
      at (Some line) = line_due c line items course fits due

due : {lines : _} {text : List ℕ} {c : Cluster} (run : Runs lines text c) → DueAt c.server
due Runs.start = tt
due (Runs.line {c} l more next run within (way, is)) = subst MayDue is (step_due (history run).chosen (history run).book c l.text way.items way.course (moment run).fits (due run))

pub all_answered : {lines : _} {text : List ℕ} {c : Cluster} (run : Runs lines text c) (n : Node) → node_in c ≡ Some n → AppliesAnswerAll n
all_answered {lines} {text} {c} run n is = at c.server (moment run).fits (due run) is
  where
    runs : (ids : List (List ℕ)) (stand : Stand) → Fits ids (history run).chosen (history run).book stand → IsDue stand → node_at stand ≡ Some n → AppliesAnswerAll n
    runs ids (Running m) (stands, covers) now same = let e : m ≡ n = cc in subst AppliesAnswerAll e (answers_all ids (history run).chosen (history run).book m stands covers now)
    runs ids (Down kept rest) fits now same = absurd (cc)

    at : (o : Option Server) → FitsAt (history run).chosen (history run).book o → DueAt o → option_and_then (λ (s : Server). node_at s.stand) o ≡ Some n → AppliesAnswerAll n
    at None fits now same = absurd (cc)
    at (Some s) fits now same = runs (s.id ∷ []) s.stand fits now same
