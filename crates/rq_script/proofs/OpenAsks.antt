-- The asks that a run leaves open are those that are written as pending.
use Rattle.std.proofs.Common.{◌≡◌, ℕ, zero, suc, ◌+◌, ◌-◌, ◌==◌, ◌||◌, ◌^◌, nat_lt, List, [], ◌∷◌, ◌++◌, length, slice_get, Bool, true, false, if◌then◌else◌, bytes_eq, Option, Some, None, option_and_then, refl, sym, ◌∙◌, ap, subst, append_assoc}
use Rattle.std.specs.Prelude.{⊤}
use Rattle.std.specs.Option.{option_map}
use Rattle.std.proofs.lemmas.List.{append-nil}
use Rattle.rq_statement.specs.declared.item.Item.{Item}
use Rattle.rq_statement.specs.declared.res.Res.{Res}
use Rattle.rq_request.specs.declared.say.Say.{Say}
use Rattle.rq_request.specs.declared.say.Say.TheVariants.{Results, Refused}
use Rattle.rq_request.specs.declared.say.NodeRefusal.TheVariants.{NoLeader, EntryTooLarge}
use Rattle.rq_engine.specs.Fold.{run, answer}
use Rattle.rq_statement.specs.Bytes.{execute_bytes}
use Rattle.rq_json.specs.Body.{texts_of}
use Rattle.rq_node.specs.declared.log_entry.LogEntry.{LogEntry}
use Rattle.rq_node.specs.declared.log_entry.Content.{Content}
use Rattle.rq_node.specs.declared.log_entry.Content.TheVariants as content
use Rattle.rq_node.specs.declared.waiting.Waiting.{Waiting}
use Rattle.rq_node.specs.Node.{Node, Persistent, StoredRecord, Turn, unchanged, says}
use Rattle.rq_node.specs.Rules.{is_leader, led, elect, taken_up, execute_sized, command_of, results_of, answered, left_waiting, applied_content, applied_entry, apply_next, apply_times, execute, query, apply}
use Rattle.rq_node.specs.Sound.{most_bytes}
use Rattle.rq_node.specs.Files.{first_persistent}
use Rattle.rq_script.specs.ScriptLine.{Line, Skip, Cluster as ClusterLine, At, Elect, Apply, Execute, Query, Stop, StopWithin, Start, Show, line_of}
use Rattle.rq_script.specs.Cluster.{Stand, Running, Down, Server, Cluster, Written, new_server, Fault, NoFault, Reading, Storing, Course, Fate, Done, Struck, Failed, fate, numbers, ended, happens, happens_at, opens, starts, stops, arms, shown, at_server, event_at, ask_at, founded, done, step, waiting_at, unanswered}
use Rattle.rq_script.specs.Runs.{Runs}
use Rattle.rq_script.specs.History.{Op, Write, Read, Note, Asked, Answered, at_place, said_by, said, applying, node_at, asking, applying_at, notes, notes_of, history}
use Rattle.rq_script.specs.OpenAsks.{Opens}
use Rattle.rq_script.proofs.Histories.{apply_stores}

opens_both : (a b c : List ℕ) (one two : List Note) → Opens a one b → Opens b two c → Opens a (one ++ two) c
opens_both a b c [] two first second = subst (λ (l : List ℕ). Opens l two c) (sym first) second
opens_both a b c (Asked number op ∷ one) two first second = opens_both (a ++ number ∷ []) b c one two first second
opens_both a b c (Answered number say place ∷ one) two (prefix, rest, is, first) second = (prefix, rest, is, opens_both (prefix ++ rest) b c one two first second)

-- ---- lists of numbers

numbers_more : (ws : List Waiting) (w : Waiting) → numbers (ws ++ w ∷ []) ≡ numbers ws ++ w.number ∷ []
numbers_more [] w = refl
numbers_more (v ∷ ws) w = ap (λ (l : List ℕ). v.number ∷ l) (numbers_more ws w)

all_lost : (a b : List ℕ) → a ++ b ≡ (a ++ (b ++ [])) ++ []
all_lost a b = sym (append-nil (a ++ (b ++ [])) ∙ ap (λ (l : List ℕ). a ++ l) (append-nil b))

one_lost : (a b : List ℕ) (number : ℕ) → (a ++ b) ++ number ∷ [] ≡ (a ++ (b ++ number ∷ [])) ++ []
one_lost a b number = append_assoc a b (number ∷ []) ∙ sym (append-nil (a ++ (b ++ number ∷ [])))

-- ---- applying

answered_opens : (lost : List ℕ) (place index : ℕ) (results : List Res) (ws : List Waiting)
    → Opens (lost ++ numbers ws) (at_place place (answered index results ws)) (lost ++ numbers (left_waiting index ws))
answered_opens lost place index results [] = refl
answered_opens lost place index results (w ∷ ws) = by (w.index == index)
  where
    by : (b : Bool) → Opens (lost ++ numbers (w ∷ ws)) (at_place place (if b then record { number = w.number; say = Results results } ∷ [] else [])) (lost ++ numbers (if b then ws else w ∷ ws))
    by true = (lost, numbers ws, refl, refl)
    by false = refl

entry_opens : (lost : List ℕ) (n : Node) (entry : Option LogEntry)
    → Opens (lost ++ numbers n.waiting) (at_place (n.applied + 1) (applied_entry n entry).answers) (lost ++ numbers (applied_entry n entry).node.waiting)
entry_opens lost n None = refl
entry_opens lost n (Some entry) = of_content entry.content
  where
    of_content : (c : Content) → Opens (lost ++ numbers n.waiting) (at_place (n.applied + 1) (applied_content n (n.applied + 1) c).answers) (lost ++ numbers (applied_content n (n.applied + 1) c).node.waiting)
    of_content content.NoOp = refl
    of_content (content.Execute items) = answered_opens lost (n.applied + 1) (n.applied + 1) (results_of (run n.replica (command_of (content.Execute items))).1) n.waiting

applying_opens : (k : ℕ) (lost : List ℕ) (turn : Turn) → Opens (lost ++ numbers turn.node.waiting) (applying k turn.node) (lost ++ numbers (apply_times k turn).node.waiting)
unfolding apply_times applying
applying_opens zero lost turn = refl
applying_opens (suc k) lost turn =
    let next = applied_entry turn.node (slice_get turn.node.log turn.node.applied) in
    opens_both (lost ++ numbers turn.node.waiting) (lost ++ numbers next.node.waiting) (lost ++ numbers (apply_times k (apply_next turn)).node.waiting) (at_place (turn.node.applied + 1) next.answers) (applying k next.node)
    (entry_opens lost turn.node (slice_get turn.node.log turn.node.applied)) (applying_opens k lost (apply_next turn))

-- ---- events

abbrev MayOpen : Option Server → List Note → Option Written → Type 0
MayOpen before noted None = ⊤
MayOpen before noted (Some x) = Opens (unanswered before) noted (unanswered x.0.server)

abbrev ActOpens : Server → List Note → Option (Server × List ℕ) → Type 0
ActOpens s noted None = ⊤
ActOpens s noted (Some t) = Opens (unanswered (Some s)) noted (unanswered (Some t.0))

elect_waits : (n : Node) → n.waiting ≡ (elect n).node.waiting
elect_waits n = at (is_leader n.role || (n.term == 2 ^ 64 - 1))
  where
    at : (b : Bool) → n.waiting ≡ (if b then unchanged n else led n).node.waiting
    at true = refl
    at false = refl

elect_ends : (f : Fate) (course : Course) (s : Server) (n : Node) → Opens (s.lost ++ numbers n.waiting) [] (unanswered (Some (ended f course s n (elect n) []).0))
elect_ends Done course s n = ap (λ (ws : List Waiting). s.lost ++ numbers ws) (elect_waits n)
elect_ends Struck course s n = all_lost s.lost (numbers n.waiting)
elect_ends Failed course s n = all_lost s.lost (numbers n.waiting)

elect_opens : (course : Course) (s : Server) (stand : Stand) → Opens (s.lost ++ waiting_at stand) [] (unanswered (Some (happens_at course (record s { stand = stand }) elect []).0))
elect_opens course s (Running n) = elect_ends (fate course s.armed (elect n).records) course (record s { stand = Running n }) n
elect_opens course s (Down kept rest) = ap (λ (l : List ℕ). l ++ []) (sym (append-nil s.lost))

apply_opens : (course : Course) (s : Server) (stand : Stand) → Opens (s.lost ++ waiting_at stand) (applying_at (node_at stand)) (unanswered (Some (happens_at course (record s { stand = stand }) apply []).0))
apply_opens course s (Down kept rest) = ap (λ (l : List ℕ). l ++ []) (sym (append-nil s.lost))
apply_opens course s (Running n) =
    subst (λ (l : List StoredRecord). Opens (s.lost ++ numbers n.waiting) (applying (n.commit - n.applied) n) (unanswered (Some (ended (fate course s.armed l) course (record s { stand = Running n }) n (apply n) []).0)))
    (sym (apply_stores (n.commit - n.applied) (unchanged n)))
    (applying_opens (n.commit - n.applied) s.lost (unchanged n))

-- how the rule of an ask goes at a node
data AskTurn (n : Node) (number : ℕ) (turn : Turn) : Type 0 where
  says_now : (say : Say) → turn ≡ says n number say → AskTurn n number turn
  takes : (items : List Item) → turn ≡ taken_up n number items → AskTurn n number turn

execute_turn : (n : Node) (number : ℕ) (items : List Item) → AskTurn n number (execute n number items)
execute_turn n number items = at (is_leader n.role)
  where
    sized : (b : Bool) → AskTurn n number (if b then says n number (Refused (EntryTooLarge (length (execute_bytes items)))) else taken_up n number items)
    sized true = says_now (Refused (EntryTooLarge (length (execute_bytes items)))) refl
    sized false = takes items refl

    at : (b : Bool) → AskTurn n number (if b then execute_sized n number items (length (execute_bytes items)) else says n number (Refused (NoLeader n.term)))
    at true = sized (nat_lt most_bytes (length (execute_bytes items)))
    at false = says_now (Refused (NoLeader n.term)) refl

taken_ends : (f : Fate) (course : Course) (s : Server) (n : Node) (number : ℕ) (items : List Item)
    → Opens ((s.lost ++ numbers n.waiting) ++ number ∷ []) (said_by f (taken_up n number items) n.applied) (unanswered (Some (ended f course s n (taken_up n number items) (number ∷ [])).0))
taken_ends Done course s n number items =
    append_assoc s.lost (numbers n.waiting) (number ∷ []) ∙ ap (λ (l : List ℕ). s.lost ++ l) (sym (numbers_more n.waiting (record { index = length n.log + 1; number = number })))
taken_ends Struck course s n number items = one_lost s.lost (numbers n.waiting) number
taken_ends Failed course s n number items = one_lost s.lost (numbers n.waiting) number

ask_runs : (course : Course) (s : Server) (n : Node) (number : ℕ) (op : Op) (turn : Turn) → AskTurn n number turn
    → Opens (s.lost ++ numbers n.waiting) (Asked number op ∷ said course s.armed turn n.applied) (unanswered (Some (happens course s n turn (number ∷ [])).0))
ask_runs course s n number op turn (says_now say is) =
    subst (λ (t : Turn). Opens (s.lost ++ numbers n.waiting) (Asked number op ∷ said course s.armed t n.applied) (unanswered (Some (happens course s n t (number ∷ [])).0))) (sym is)
    (s.lost ++ numbers n.waiting, [], refl, append-nil (s.lost ++ numbers n.waiting))
ask_runs course s n number op turn (takes items is) =
    subst (λ (t : Turn). Opens (s.lost ++ numbers n.waiting) (Asked number op ∷ said course s.armed t n.applied) (unanswered (Some (happens course s n t (number ∷ [])).0))) (sym is)
    (taken_ends (fate course s.armed (taken_up n number items).records) course s n number items)

ask_opens : (course : Course) (s : Server) (stand : Stand) (number : ℕ) (op : Op) (rule : Node → Turn) → ((n : Node) → AskTurn n number (rule n))
    → Opens (s.lost ++ waiting_at stand) (asking course (Some (record s { stand = stand })) number op rule) (unanswered (Some (happens_at course (record s { stand = stand }) rule (number ∷ [])).0))
ask_opens course s (Running n) number op rule turns = ask_runs course (record s { stand = Running n }) n number op (rule n) (turns n)
ask_opens course s (Down kept rest) number op rule turns = ap (λ (l : List ℕ). l ++ number ∷ []) (append-nil s.lost) ∙ sym (append-nil (s.lost ++ number ∷ []))

-- ---- at the server that is there

acted_opens : (c : Cluster) (id : List ℕ) (s : Server) (act : Server → Option (Server × List ℕ)) (noted : List Note) → ActOpens s noted (act s)
    → MayOpen (Some s) noted (at_server (record c { server = Some s }) id act)
acted_opens c id s act noted goes = by (bytes_eq s.id id)
  where
    acts : (o : Option (Server × List ℕ)) → ActOpens s noted o → MayOpen (Some s) noted (option_map (λ (t : Server × List ℕ). (record c { server = Some t.0 }, t.1)) o)
    acts None none = tt
    acts (Some t) told = told

    by : (b : Bool) → MayOpen (Some s) noted (if b then option_map (λ (t : Server × List ℕ). (record c { server = Some t.0 }, t.1)) (act s) else None)
    by true = acts (act s) goes
    by false = tt

server_opens : (c : Cluster) (id : List ℕ) (act : Server → Option (Server × List ℕ)) (noted : Option Server → List Note)
    → ((s : Server) (stand : Stand) → ActOpens (record s { stand = stand }) (noted (Some (record s { stand = stand }))) (act (record s { stand = stand })))
    → MayOpen c.server (noted c.server) (at_server c id act)
server_opens c id act noted goes = at c.server
  where
    at : (o : Option Server) → MayOpen o (noted o) (at_server (record c { server = o }) id act)
    at None = tt
    at (Some s) = acted_opens c id s act (noted (Some s)) (goes s s.stand)

asked_opens : (c : Cluster) (course : Course) (id body : List ℕ) (rule : ℕ → List Item → Node → Turn) (items : List Item) (op : Op) → ((n : Node) → AskTurn n (c.asks + 1) (rule (c.asks + 1) items n))
    → MayOpen c.server (asking course c.server (c.asks + 1) op (rule (c.asks + 1) items)) (ask_at course c id rule items body)
asked_opens c course id body rule items op turns = by (texts_of body)
  where
    by : (o : Option (List (List ℕ))) → MayOpen c.server (asking course c.server (c.asks + 1) op (rule (c.asks + 1) items))
        (option_and_then (λ (t : List (List ℕ)). event_at course (record c { asks = c.asks + 1 }) id (rule (c.asks + 1) items) ((c.asks + 1) ∷ [])) o)
    by None = tt
    by (Some texts) = server_opens (record c { asks = c.asks + 1 }) id (λ s. Some (happens_at course s (rule (c.asks + 1) items) ((c.asks + 1) ∷ [])))
        (λ o. asking course o (c.asks + 1) op (rule (c.asks + 1) items)) (λ s stand. ask_opens course s stand (c.asks + 1) op (rule (c.asks + 1) items) turns)

starts_opens : (course : Course) (s : Server) (kept : Persistent) (rest : List StoredRecord) (fault : Fault)
    → Opens (s.lost ++ []) [] (unanswered (Some (opens (record course { fault = fault }) (record s { stand = Down kept rest }) kept rest).0))
starts_opens course s kept rest NoFault = refl
starts_opens course s kept rest Reading = refl
starts_opens course s kept rest Storing = refl

found_opens : (c : Cluster) (course : Course) (id : List ℕ) → MayOpen c.server [] (founded course c id)
found_opens c course id = at c.server
  where
    at : (o : Option Server) → MayOpen o [] (founded course (record c { server = o }) id)
    at None = starts_opens course (new_server id) first_persistent [] course.fault
    at (Some s) = tt

start_opens : (course : Course) (s : Server) (stand : Stand) → ActOpens (record s { stand = stand }) [] (starts course (record s { stand = stand }))
start_opens course s (Running n) = tt
start_opens course s (Down kept rest) = starts_opens course s kept rest course.fault

stop_opens : (s : Server) (stand : Stand) → ActOpens (record s { stand = stand }) [] (stops (record s { stand = stand }))
stop_opens s (Running n) = all_lost s.lost (numbers n.waiting)
stop_opens s (Down kept rest) = tt

arm_opens : (calls pick : ℕ) (s : Server) (stand : Stand) → ActOpens (record s { stand = stand }) [] (arms calls pick (record s { stand = stand }))
arm_opens calls pick s (Running n) = refl
arm_opens calls pick s (Down kept rest) = tt

line_opens : (c : Cluster) (line : Line) (items : List Item) (course : Course) → MayOpen c.server (notes c line items course) (done items course c line)
line_opens c Skip items course = refl
line_opens c (ClusterLine id) items course = found_opens c course id
line_opens c (At id Elect) items course = server_opens c id (λ s. Some (happens_at course s elect [])) (λ _. []) (elect_opens course)
line_opens c (At id Apply) items course =
    server_opens c id (λ s. Some (happens_at course s apply [])) (λ o. applying_at (option_and_then (λ (s : Server). node_at s.stand) o)) (apply_opens course)
line_opens c (At id (Execute body)) items course = asked_opens c course id body (λ number read n. execute n number read) items (Write items) (λ n. execute_turn n (c.asks + 1) items)
line_opens c (At id (Query body)) items course = asked_opens c course id body (λ number read n. query n number read) items (Read items) (λ n. says_now (Results (answer n.replica items)) refl)
line_opens c (At id Stop) items course = server_opens c id stops (λ _. []) stop_opens
line_opens c (At id (StopWithin calls pick)) items course = server_opens c id (arms calls pick) (λ _. []) (arm_opens calls pick)
line_opens c (At id Start) items course = server_opens c id (starts course) (λ _. []) (start_opens course)
line_opens c (At id Show) items course = server_opens c id (λ s. Some (s, shown s.id s.stand)) (λ _. []) (λ s stand. refl)

step_opens : (c : Cluster) (bytes : List ℕ) (items : List Item) (course : Course) → MayOpen c.server (notes_of c (line_of bytes) items course) (step items course c bytes)
unfolding step
step_opens c bytes items course = at (line_of bytes)
  where
    at : (o : Option Line) → MayOpen c.server (notes_of c o items course) (option_and_then (done items course c) o)
    at None = tt
    at (Some line) = line_opens c line items course

pub open_asks : {lines : _} {text : List ℕ} {c : Cluster} (run : Runs lines text c) → Opens [] (history run).book (unanswered c.server)
unfolding history
open_asks Runs.start = refl
open_asks (Runs.line {c} l more next run within (way, is)) =
    opens_both [] (unanswered c.server) (unanswered next.server) (history run).book (notes_of c (line_of l.text) way.items way.course) (open_asks run)
    (subst (MayOpen c.server (notes_of c (line_of l.text) way.items way.course)) is (step_opens c l.text way.items way.course))
