-- Each list of each log comes from an ask of its own.
use Rattle.std.proofs.Common.{◌≡◌, ◌≤◌, ◌<◌, ℕ, zero, suc, ◌+◌, ◌-◌, ◌==◌, ◌||◌, ◌^◌, nat_lt, List, [], ◌∷◌, ◌++◌, length, take, slice_get, Bool, true, false, if◌then◌else◌, bytes_eq, Option, Some, None, option_and_then, refl, sym, ◌∙◌, subst, arith}
use Rattle.std.specs.Prelude.{⊤}
use Rattle.std.specs.Option.{option_map}
use Rattle.std.proofs.lemmas.List.{take_all}
use Rattle.rq_statement.specs.declared.item.Item.{Item}
use Rattle.rq_request.specs.declared.say.Say.{Say}
use Rattle.rq_request.specs.declared.say.Say.TheVariants.{Results, Refused}
use Rattle.rq_request.specs.declared.say.NodeRefusal.TheVariants.{NoLeader, EntryTooLarge}
use Rattle.rq_engine.specs.Fold.{answer}
use Rattle.rq_statement.specs.Bytes.{execute_bytes}
use Rattle.rq_json.specs.Body.{texts_of}
use Rattle.rq_node.specs.declared.log_entry.LogEntry.{LogEntry}
use Rattle.rq_node.specs.declared.log_entry.Content.{Content}
use Rattle.rq_node.specs.declared.log_entry.Content.TheVariants as content
use Rattle.rq_node.specs.Node.{Node, Persistent, StoredRecord, Vote, Splice, Boot, Turn, persistent_of, persistent_after, unchanged, says}
use Rattle.rq_node.specs.Rules.{is_leader, led, elect, taken_up, execute_sized, applied_content, applied_entry, apply_next, apply_times, execute, query, apply}
use Rattle.rq_node.specs.Sound.{most_bytes}
use Rattle.rq_node.specs.Files.{first_persistent}
use Rattle.rq_script.specs.ScriptLine.{Line, Skip, Cluster as ClusterLine, At, Elect, Apply, Execute, Query, Stop, StopWithin, Start, Show, line_of}
use Rattle.rq_script.specs.Cluster.{Stand, Running, Down, Server, Cluster, Written, new_server, Fault, NoFault, Reading, Storing, Course, Fate, Done, Struck, Failed, fate, ended, happens_at, opens, starts, stops, arms, shown, at_server, event_at, ask_at, founded, done, step}
use Rattle.rq_script.specs.Runs.{Runs}
use Rattle.rq_script.specs.History.{Op, Write, Note, Asked, said, asking, notes, notes_of, history}
use Rattle.rq_script.specs.Promise.{op_of}
use Rattle.rq_script.specs.FromAsks.{IsFromAsk, AreFromAsks, IsAsked}
use Rattle.rq_script.proofs.Histories.{op_kept, op_behind, apply_stores}
use Rattle.rq_script.proofs.Moments.{same_number}
use Rattle.rq_script.proofs.Promises.{moment}

-- ---- logs

from_more : (book more : List Note) (last : ℕ) (c : Content) (number : ℕ) → IsFromAsk book last c number → IsFromAsk (book ++ more) last c number
from_more book more last content.NoOp number is = is
from_more book more last (content.Execute items) number (above, op) = (above, op_kept book more number (Write items) op)

more_asked : (book more : List Note) (last : ℕ) (log : List LogEntry) (most next : ℕ) → most ≤ next → AreFromAsks book last log most → AreFromAsks (book ++ more) last log next
more_asked book more last [] most next le from = omega (arith, le, from)
more_asked book more last (entry ∷ log) most next le (number, is, rest) = (number, from_more book more last entry.content number is, more_asked book more number log most next le rest)

list_behind : (book : List Note) (last : ℕ) (log : List LogEntry) (term most number : ℕ) (items : List Item) → most < number → op_of book number ≡ Some (Write items) → AreFromAsks book last log most
    → AreFromAsks book last (log ++ record { term = term; content = content.Execute items } ∷ []) number
list_behind book last [] term most number items above op le = (number, (omega (arith, above, le), op), omega arith)
list_behind book last (entry ∷ log) term most number items above op (k, is, rest) = (k, is, list_behind book k log term most number items above op rest)

noop_behind : (book : List Note) (last : ℕ) (log : List LogEntry) (term most : ℕ) → AreFromAsks book last log most → AreFromAsks book last (log ++ record { term = term; content = content.NoOp } ∷ []) most
noop_behind book last [] term most le = (last, refl, le)
noop_behind book last (entry ∷ log) term most (k, is, rest) = (k, is, noop_behind book k log term most rest)

-- ---- what is kept

module _ (P : List LogEntry → Type 0) where
  nothing_persistent : (kept : Persistent) → P kept.log → (stands : ℕ) → P (persistent_after kept (take stands [])).log
  nothing_persistent kept p zero = p
  nothing_persistent kept p (suc k) = p

  boot_kept : (kept : Persistent) (boot : ℕ) → P kept.log → (stands : ℕ) → P (persistent_after kept (take stands (Boot boot ∷ []))).log
  boot_kept kept boot p zero = p
  boot_kept kept boot p (suc zero) = p
  boot_kept kept boot p (suc (suc k)) = p

  behind_all : (log entries : List LogEntry) → P (log ++ entries) → P (take (length log + 1 - 1) log ++ entries)
  behind_all log entries p = subst (λ (l : List LogEntry). P (l ++ entries)) (sym (take_all (length log + 1 - 1) log (omega arith))) p

  splice_kept : (kept : Persistent) (entries : List LogEntry) → P kept.log → P (kept.log ++ entries) → (stands : ℕ) → P (persistent_after kept (take stands (Splice (length kept.log + 1) entries ∷ []))).log
  splice_kept kept entries p q zero = p
  splice_kept kept entries p q (suc zero) = behind_all kept.log entries q
  splice_kept kept entries p q (suc (suc k)) = behind_all kept.log entries q

  vote_kept : (kept : Persistent) (term : ℕ) (vote : Option (List ℕ)) (entries : List LogEntry) → P kept.log → P (kept.log ++ entries)
      → (stands : ℕ) → P (persistent_after kept (take stands (Vote term vote ∷ Splice (length kept.log + 1) entries ∷ []))).log
  vote_kept kept term vote entries p q zero = p
  vote_kept kept term vote entries p q (suc k) = splice_kept (record kept { term = term; vote = vote }) entries p q k

  record Makes (n : Node) (turn : Turn) : Type 0 where
    pub after : P turn.node.log
    pub safe : (stands : ℕ) → P (persistent_after (persistent_of n) (take stands turn.records)).log

  abbrev Recovery : Stand → Type 0
  Recovery (Running n) = P n.log
  Recovery (Down kept rest) = (stands : ℕ) → P (persistent_after kept (take stands rest)).log

  ended_makes : (f : Fate) (course : Course) (s : Server) (n : Node) (turn : Turn) (asked : List ℕ) → Makes n turn → Recovery (ended f course s n turn asked).0.stand
  ended_makes Done course s n turn asked makes = makes.after
  ended_makes Struck course s n turn asked makes = nothing_persistent (persistent_after (persistent_of n) (take course.stands turn.records)) (makes.safe course.stands)
  ended_makes Failed course s n turn asked makes = makes.safe

  unchanged_makes : (n : Node) (turn : Turn) → turn.records ≡ [] → n.log ≡ turn.node.log → P n.log → Makes n turn
  unchanged_makes n turn none same p = record {
    after = subst P same p;
    safe = subst (λ (l : List StoredRecord). (stands : ℕ) → P (persistent_after (persistent_of n) (take stands l)).log) (sym none) (nothing_persistent (persistent_of n) p);
  }

-- ---- turns

entry_keeps_log : (n : Node) (entry : Option LogEntry) → n.log ≡ (applied_entry n entry).node.log
entry_keeps_log n None = refl
entry_keeps_log n (Some entry) = of_content entry.content
  where
    of_content : (c : Content) → n.log ≡ (applied_content n (n.applied + 1) c).node.log
    of_content content.NoOp = refl
    of_content (content.Execute items) = refl

apply_keeps_log : (k : ℕ) (turn : Turn) → turn.node.log ≡ (apply_times k turn).node.log
unfolding apply_times
apply_keeps_log zero turn = refl
apply_keeps_log (suc k) turn = entry_keeps_log turn.node (slice_get turn.node.log turn.node.applied) ∙ apply_keeps_log k (apply_next turn)

module _ (book : List Note) (asks : ℕ) where
  abbrev From : List LogEntry → Type 0
  From log = AreFromAsks book 0 log asks

  elect_makes : (n : Node) → From n.log → Makes From n (elect n)
  elect_makes n from = at (is_leader n.role || (n.term == 2 ^ 64 - 1))
    where
      longer : From (n.log ++ record { term = n.term + 1; content = content.NoOp } ∷ [])
      longer = noop_behind book 0 n.log (n.term + 1) asks from

      at : (b : Bool) → Makes From n (if b then unchanged n else led n)
      at true = unchanged_makes From n (unchanged n) refl refl from
      at false = record { after = longer; safe = vote_kept From (persistent_of n) (n.term + 1) (Some n.id) (record { term = n.term + 1; content = content.NoOp } ∷ []) from longer }

  apply_makes : (n : Node) → From n.log → Makes From n (apply n)
  apply_makes n from = unchanged_makes From n (apply n) (apply_stores (n.commit - n.applied) (unchanged n)) (apply_keeps_log (n.commit - n.applied) (unchanged n)) from

  says_makes : (n : Node) (number : ℕ) (say : Say) → From n.log → Makes From n (says n number say)
  says_makes n number say from = unchanged_makes From n (says n number say) refl refl from

-- the ask behind the last one
execute_makes : (book more : List Note) (asks : ℕ) (n : Node) (items : List Item) → op_of (book ++ more) (asks + 1) ≡ Some (Write items) → AreFromAsks book 0 n.log asks
    → Makes (From (book ++ more) (asks + 1)) n (execute n (asks + 1) items)
execute_makes book more asks n items op from = at (is_leader n.role)
  where
    before : From (book ++ more) (asks + 1) n.log
    before = more_asked book more 0 n.log asks (asks + 1) (omega arith) from

    longer : From (book ++ more) (asks + 1) (n.log ++ record { term = n.term; content = content.Execute items } ∷ [])
    longer = list_behind (book ++ more) 0 n.log n.term asks (asks + 1) items (omega arith) op (more_asked book more 0 n.log asks asks (omega arith) from)

    sized : (b : Bool) → Makes (From (book ++ more) (asks + 1)) n (if b then says n (asks + 1) (Refused (EntryTooLarge (length (execute_bytes items)))) else taken_up n (asks + 1) items)
    sized true = says_makes (book ++ more) (asks + 1) n (asks + 1) (Refused (EntryTooLarge (length (execute_bytes items)))) before
    sized false = record { after = longer; safe = splice_kept (From (book ++ more) (asks + 1)) (persistent_of n) (record { term = n.term; content = content.Execute items } ∷ []) before longer }

    at : (b : Bool) → Makes (From (book ++ more) (asks + 1)) n (if b then execute_sized n (asks + 1) items (length (execute_bytes items)) else says n (asks + 1) (Refused (NoLeader n.term)))
    at true = sized (nat_lt most_bytes (length (execute_bytes items)))
    at false = says_makes (book ++ more) (asks + 1) n (asks + 1) (Refused (NoLeader n.term)) before

-- ---- lines

stand_more : (book more : List Note) (asks next : ℕ) (stand : Stand) → asks ≤ next → IsAsked book asks stand → IsAsked (book ++ more) next stand
stand_more book more asks next (Running n) le from = more_asked book more 0 n.log asks next le from
stand_more book more asks next (Down kept rest) le from = λ stands. more_asked book more 0 (persistent_after kept (take stands rest)).log asks next le (from stands)

abbrev AskedAt : List Note → ℕ → Option Server → Type 0
AskedAt book asks None = ⊤
AskedAt book asks (Some s) = IsAsked book asks s.stand

abbrev MayMake : List Note → Option Written → Type 0
MayMake book None = ⊤
MayMake book (Some x) = AskedAt book x.0.asks x.0.server

abbrev ActMakes : List Note → ℕ → Option (Server × List ℕ) → Type 0
ActMakes book asks None = ⊤
ActMakes book asks (Some t) = IsAsked book asks t.0.stand

no_more : (book : List Note) (asks : ℕ) (stand : Stand) → IsAsked book asks stand → IsAsked (book ++ []) asks stand
no_more book asks stand from = stand_more book [] asks asks stand (omega arith) from

acted_makes : (book : List Note) (c : Cluster) (id : List ℕ) (s : Server) (act : Server → Option (Server × List ℕ)) → ActMakes book c.asks (act s) → MayMake book (at_server (record c { server = Some s }) id act)
acted_makes book c id s act goes = by (bytes_eq s.id id)
  where
    acts : (o : Option (Server × List ℕ)) → ActMakes book c.asks o → MayMake book (option_map (λ (t : Server × List ℕ). (record c { server = Some t.0 }, t.1)) o)
    acts None none = tt
    acts (Some t) made = made

    by : (b : Bool) → MayMake book (if b then option_map (λ (t : Server × List ℕ). (record c { server = Some t.0 }, t.1)) (act s) else None)
    by true = acts (act s) goes
    by false = tt

server_makes : (book noted : List Note) (c : Cluster) (id : List ℕ) (act : Server → Option (Server × List ℕ)) → AskedAt book c.asks c.server
    → ((s : Server) (stand : Stand) → IsAsked book c.asks stand → ActMakes (book ++ noted) c.asks (act (record s { stand = stand })))
    → MayMake (book ++ noted) (at_server c id act)
server_makes book noted c id act from goes = at c.server from
  where
    at : (o : Option Server) → AskedAt book c.asks o → MayMake (book ++ noted) (at_server (record c { server = o }) id act)
    at None here = tt
    at (Some s) here = acted_makes (book ++ noted) c id s act (goes s s.stand here)

is_asked : (book : List Note) (asks : ℕ) (stand : Stand) → Recovery (From book asks) stand → IsAsked book asks stand
is_asked book asks (Running n) is = is
is_asked book asks (Down kept rest) is = is

elect_line : (book : List Note) (asks : ℕ) (course : Course) (s : Server) (stand : Stand) → IsAsked book asks stand → IsAsked (book ++ []) asks (happens_at course (record s { stand = stand }) elect []).0.stand
elect_line book asks course s (Running n) from =
    is_asked (book ++ []) asks (happens_at course (record s { stand = Running n }) elect []).0.stand
    (ended_makes (From (book ++ []) asks) (fate course s.armed (elect n).records) course (record s { stand = Running n }) n (elect n) [] (elect_makes (book ++ []) asks n (more_asked book [] 0 n.log asks asks (omega arith) from)))
elect_line book asks course s (Down kept rest) from = no_more book asks (Down kept rest) from

apply_line : (book noted : List Note) (asks : ℕ) (course : Course) (s : Server) (stand : Stand) → IsAsked book asks stand → IsAsked (book ++ noted) asks (happens_at course (record s { stand = stand }) apply []).0.stand
apply_line book noted asks course s (Running n) from =
    is_asked (book ++ noted) asks (happens_at course (record s { stand = Running n }) apply []).0.stand
    (ended_makes (From (book ++ noted) asks) (fate course s.armed (apply n).records) course (record s { stand = Running n }) n (apply n) [] (apply_makes (book ++ noted) asks n (more_asked book noted 0 n.log asks asks (omega arith) from)))
apply_line book noted asks course s (Down kept rest) from = stand_more book noted asks asks (Down kept rest) (omega arith) from

asked_line : (book noted : List Note) (c : Cluster) (course : Course) (id body : List ℕ) (rule : ℕ → List Item → Node → Turn) (items : List Item) → AskedAt book c.asks c.server
    → ((n : Node) → AreFromAsks book 0 n.log c.asks → Makes (From (book ++ noted) (c.asks + 1)) n (rule (c.asks + 1) items n))
    → MayMake (book ++ noted) (ask_at course c id rule items body)
asked_line book noted c course id body rule items from turns = by (texts_of body)
  where
    counted : Cluster
    counted = record c { asks = c.asks + 1 }

    goes : (s : Server) (stand : Stand) → IsAsked book c.asks stand → IsAsked (book ++ noted) (c.asks + 1) (happens_at course (record s { stand = stand }) (rule (c.asks + 1) items) ((c.asks + 1) ∷ [])).0.stand
    goes s (Running n) here =
        is_asked (book ++ noted) (c.asks + 1) (happens_at course (record s { stand = Running n }) (rule (c.asks + 1) items) ((c.asks + 1) ∷ [])).0.stand
        (ended_makes (From (book ++ noted) (c.asks + 1)) (fate course s.armed (rule (c.asks + 1) items n).records) course (record s { stand = Running n }) n (rule (c.asks + 1) items n) ((c.asks + 1) ∷ []) (turns n here))
    goes s (Down kept rest) here = stand_more book noted c.asks (c.asks + 1) (Down kept rest) (omega arith) here

    at : (o : Option Server) → AskedAt book c.asks o → MayMake (book ++ noted) (event_at course (record counted { server = o }) id (rule (c.asks + 1) items) ((c.asks + 1) ∷ []))
    at None here = tt
    at (Some s) here = acted_makes (book ++ noted) counted id s (λ s. Some (happens_at course s (rule (c.asks + 1) items) ((c.asks + 1) ∷ []))) (goes s s.stand here)

    by : (o : Option (List (List ℕ))) → MayMake (book ++ noted) (option_and_then (λ (t : List (List ℕ)). event_at course (record c { asks = c.asks + 1 }) id (rule (c.asks + 1) items) ((c.asks + 1) ∷ [])) o)
    by None = tt
    by (Some texts) = at c.server from

opens_line : (book : List Note) (asks : ℕ) (course : Course) (s : Server) (kept : Persistent) (rest : List StoredRecord) (fault : Fault) → IsAsked book asks (Down kept rest)
    → IsAsked book asks (opens (record course { fault = fault }) (record s { stand = Down kept rest }) kept rest).0.stand
opens_line book asks course s kept rest NoFault from = from course.stands
opens_line book asks course s kept rest Reading from = from
opens_line book asks course s kept rest Storing from =
    boot_kept (From book asks) (persistent_after kept (take course.stands rest)) ((persistent_after kept (take course.stands rest)).boot + 1) (from course.stands)

found_line : (book : List Note) (c : Cluster) (course : Course) (id : List ℕ) → MayMake (book ++ []) (founded course c id)
found_line book c course id = at c.server
  where
    at : (o : Option Server) → MayMake (book ++ []) (founded course (record c { server = o }) id)
    at None = opens_line (book ++ []) c.asks course (new_server id) first_persistent [] course.fault (nothing_persistent (From (book ++ []) c.asks) first_persistent (omega arith))
    at (Some s) = tt

start_line : (book : List Note) (asks : ℕ) (course : Course) (s : Server) (stand : Stand) → IsAsked book asks stand → ActMakes (book ++ []) asks (starts course (record s { stand = stand }))
start_line book asks course s (Running n) from = tt
start_line book asks course s (Down kept rest) from = opens_line (book ++ []) asks course s kept rest course.fault (no_more book asks (Down kept rest) from)

stop_line : (book : List Note) (asks : ℕ) (s : Server) (stand : Stand) → IsAsked book asks stand → ActMakes (book ++ []) asks (stops (record s { stand = stand }))
stop_line book asks s (Running n) from = nothing_persistent (From (book ++ []) asks) (persistent_of n) (more_asked book [] 0 n.log asks asks (omega arith) from)
stop_line book asks s (Down kept rest) from = tt

arm_line : (book : List Note) (asks calls pick : ℕ) (s : Server) (stand : Stand) → IsAsked book asks stand → ActMakes (book ++ []) asks (arms calls pick (record s { stand = stand }))
arm_line book asks calls pick s (Running n) from = no_more book asks (Running n) from
arm_line book asks calls pick s (Down kept rest) from = tt

skip_line : (book : List Note) (c : Cluster) (o : Option Server) → AskedAt book c.asks o → AskedAt (book ++ []) c.asks o
skip_line book c None from = tt
skip_line book c (Some s) from = no_more book c.asks s.stand from

new_op : (book more : List Note) (number : ℕ) (op : Op) → op_of book number ≡ None → op_of (book ++ Asked number op ∷ more) number ≡ Some op
new_op book more number op fresh = op_behind book (Asked number op ∷ more) number fresh ∙ same_number number op more

-- what is noted of an ask begins with it
asking_op : (book : List Note) (course : Course) (o : Option Server) (number : ℕ) (op : Op) (rule : Node → Turn) → op_of book number ≡ None → op_of (book ++ asking course o number op rule) number ≡ Some op
asking_op book course None number op rule fresh = new_op book [] number op fresh
asking_op book course (Some s) number op rule fresh = at s.stand
  where
    at : (stand : Stand) → op_of (book ++ asking course (Some (record s { stand = stand })) number op rule) number ≡ Some op
    at (Running n) = new_op book (said course s.armed (rule n) n.applied) number op fresh
    at (Down kept rest) = new_op book [] number op fresh

line_makes : (book : List Note) (c : Cluster) (line : Line) (items : List Item) (course : Course) → op_of book (c.asks + 1) ≡ None → AskedAt book c.asks c.server
    → MayMake (book ++ notes c line items course) (done items course c line)
line_makes book c Skip items course fresh from = skip_line book c c.server from
line_makes book c (ClusterLine id) items course fresh from = found_line book c course id
line_makes book c (At id Elect) items course fresh from = server_makes book [] c id (λ s. Some (happens_at course s elect [])) from (elect_line book c.asks course)
line_makes book c (At id Apply) items course fresh from = server_makes book (notes c (At id Apply) items course) c id (λ s. Some (happens_at course s apply [])) from (apply_line book (notes c (At id Apply) items course) c.asks course)
line_makes book c (At id (Execute body)) items course fresh from =
    asked_line book (notes c (At id (Execute body)) items course) c course id body (λ number read n. execute n number read) items from
    (λ n here. execute_makes book (notes c (At id (Execute body)) items course) c.asks n items (asking_op book course c.server (c.asks + 1) (Write items) (λ n. execute n (c.asks + 1) items) fresh) here)
line_makes book c (At id (Query body)) items course fresh from =
    asked_line book (notes c (At id (Query body)) items course) c course id body (λ number read n. query n number read) items from
    (λ n here. says_makes (book ++ notes c (At id (Query body)) items course) (c.asks + 1) n (c.asks + 1) (Results (answer n.replica items)) (more_asked book (notes c (At id (Query body)) items course) 0 n.log c.asks (c.asks + 1) (omega arith) here))
line_makes book c (At id Stop) items course fresh from = server_makes book [] c id stops from (stop_line book c.asks)
line_makes book c (At id (StopWithin calls pick)) items course fresh from = server_makes book [] c id (arms calls pick) from (arm_line book c.asks calls pick)
line_makes book c (At id Start) items course fresh from = server_makes book [] c id (starts course) from (start_line book c.asks course)
line_makes book c (At id Show) items course fresh from = server_makes book [] c id (λ s. Some (s, shown s.id s.stand)) from (λ s stand here. no_more book c.asks stand here)

step_makes : (book : List Note) (c : Cluster) (bytes : List ℕ) (items : List Item) (course : Course) → op_of book (c.asks + 1) ≡ None → AskedAt book c.asks c.server
    → MayMake (book ++ notes_of c (line_of bytes) items course) (step items course c bytes)
unfolding step
step_makes book c bytes items course fresh from = at (line_of bytes)
  where
    at : (o : Option Line) → MayMake (book ++ notes_of c o items course) (option_and_then (done items course c) o)
    at None = tt
    at (Some line) = line_makes book c line items course fresh from

pub made : {lines : _} {text : List ℕ} {c : Cluster} (run : Runs lines text c) → AskedAt (history run).book c.asks c.server
unfolding history
made Runs.start = tt
made (Runs.line {c} l more next run within (way, is)) =
    subst (MayMake ((history run).book ++ notes_of c (line_of l.text) way.items way.course)) is
    (step_makes (history run).book c l.text way.items way.course ((moment run).fresh (c.asks + 1) (omega arith)) (made run))

pub from_asks : {lines : _} {text : List ℕ} {c : Cluster} (run : Runs lines text c) (s : Server) → c.server ≡ Some s → IsAsked (history run).book c.asks s.stand
from_asks {lines} {text} {c} run s is = subst (AskedAt (history run).book c.asks) is (made run)
