-- The asks of a run are numbered one by one.
use Rattle.std.proofs.Common.{ℕ, zero, suc, ◌+◌, ◌-◌, List, [], ◌∷◌, ◌++◌, slice_get, Bool, true, false, if◌then◌else◌, bytes_eq, Option, Some, None, option_and_then, refl, sym, subst}
use Rattle.std.specs.Prelude.{⊤}
use Rattle.std.specs.Option.{option_map}
use Rattle.rq_statement.specs.declared.item.Item.{Item}
use Rattle.rq_request.specs.declared.say.Answer.{Answer}
use Rattle.rq_json.specs.Body.{texts_of}
use Rattle.rq_node.specs.Node.{Node, Turn}
use Rattle.rq_node.specs.Rules.{elect, execute, query, apply, applied_entry}
use Rattle.rq_script.specs.ScriptLine.{Line, Skip, Cluster as ClusterLine, At, Elect, Apply, Execute, Query, Stop, StopWithin, Start, Show, line_of}
use Rattle.rq_script.specs.Cluster.{Stand, Running, Down, Armed, Server, Cluster, Written, Course, Fate, Done, Struck, Failed, fate, shown, happens_at, starts, stops, arms, at_server, event_at, ask_at, founded, done, step}
use Rattle.rq_script.specs.Runs.{Runs}
use Rattle.rq_script.specs.History.{Op, Write, Read, Note, Asked, Answered, at_place, said_by, said_at, applying, node_in, asking, applying_at, notes, notes_of, history}
use Rattle.rq_script.specs.Numbering.{AreNumbered}

numbered_both : (a b c : ℕ) (one two : List Note) → AreNumbered a one b → AreNumbered b two c → AreNumbered a (one ++ two) c
numbered_both a b c [] two first second = subst (λ (k : ℕ). AreNumbered k two c) (sym first) second
numbered_both a b c (Asked number op ∷ one) two (is, first) second = (is, numbered_both number b c one two first second)
numbered_both a b c (Answered number say place ∷ one) two first second = numbered_both a b c one two first second

-- ---- answers number nothing

placed : (a place : ℕ) (answers : List Answer) → AreNumbered a (at_place place answers) a
placed a place [] = refl
placed a place (answer ∷ answers) = placed a place answers

applies : (a k : ℕ) (n : Node) → AreNumbered a (applying k n) a
unfolding applying
applies a zero n = refl
applies a (suc k) n =
    let next = applied_entry n (slice_get n.log n.applied) in
    numbered_both a a a (at_place (n.applied + 1) next.answers) (applying k next.node) (placed a (n.applied + 1) next.answers) (applies a k next.node)

applies_at : (a : ℕ) (o : Option Node) → AreNumbered a (applying_at o) a
applies_at a None = refl
applies_at a (Some n) = applies a (n.commit - n.applied) n

says_by : (a : ℕ) (f : Fate) (turn : Turn) (place : ℕ) → AreNumbered a (said_by f turn place) a
says_by a Done turn place = placed a place turn.answers
says_by a Struck turn place = refl
says_by a Failed turn place = refl

says_at : (a : ℕ) (course : Course) (armed : Option Armed) (rule : Node → Turn) (stand : Stand) → AreNumbered a (said_at course armed rule stand) a
says_at a course armed rule (Running n) = says_by a (fate course armed (rule n).records) (rule n) n.applied
says_at a course armed rule (Down kept rest) = refl

asks : (a : ℕ) (course : Course) (o : Option Server) (op : Op) (rule : Node → Turn) → AreNumbered a (asking course o (a + 1) op rule) (a + 1)
asks a course None op rule = (refl, refl)
asks a course (Some s) op rule = (refl, says_at (a + 1) course s.armed rule s.stand)

-- ---- lines

abbrev MayNumber : ℕ → List Note → Option Written → Type 0
MayNumber a noted None = ⊤
MayNumber a noted (Some x) = AreNumbered a noted x.0.asks

acts : (a : ℕ) (noted : List Note) (c : Cluster) (id : List ℕ) (act : Server → Option (Server × List ℕ)) → AreNumbered a noted c.asks → MayNumber a noted (at_server c id act)
acts a noted c id act is = at c.server
  where
    made : (o : Option (Server × List ℕ)) → MayNumber a noted (option_map (λ (t : Server × List ℕ). (record c { server = Some t.0 }, t.1)) o)
    made None = tt
    made (Some t) = is

    by : (s : Server) (b : Bool) → MayNumber a noted (if b then option_map (λ (t : Server × List ℕ). (record c { server = Some t.0 }, t.1)) (act s) else None)
    by s true = made (act s)
    by s false = tt

    at : (o : Option Server) → MayNumber a noted (at_server (record c { server = o }) id act)
    at None = tt
    at (Some s) = by s (bytes_eq s.id id)

asked : (c : Cluster) (course : Course) (id body : List ℕ) (op : Op) (rule : ℕ → List Item → Node → Turn) (items : List Item)
    → MayNumber c.asks (asking course c.server (c.asks + 1) op (rule (c.asks + 1) items)) (ask_at course c id rule items body)
asked c course id body op rule items = by (texts_of body)
  where
    by : (o : Option (List (List ℕ))) → MayNumber c.asks (asking course c.server (c.asks + 1) op (rule (c.asks + 1) items))
        (option_and_then (λ (t : List (List ℕ)). event_at course (record c { asks = c.asks + 1 }) id (rule (c.asks + 1) items) ((c.asks + 1) ∷ [])) o)
    by None = tt
    by (Some texts) = acts c.asks (asking course c.server (c.asks + 1) op (rule (c.asks + 1) items)) (record c { asks = c.asks + 1 }) id
        (λ s. Some (happens_at course s (rule (c.asks + 1) items) ((c.asks + 1) ∷ []))) (asks c.asks course c.server op (rule (c.asks + 1) items))

founds : (c : Cluster) (course : Course) (id : List ℕ) → MayNumber c.asks [] (founded course c id)
founds c course id = at c.server
  where
    at : (o : Option Server) → MayNumber c.asks [] (founded course (record c { server = o }) id)
    at None = refl
    at (Some s) = tt

line_numbers : (c : Cluster) (line : Line) (items : List Item) (course : Course) → MayNumber c.asks (notes c line items course) (done items course c line)
line_numbers c Skip items course = refl
line_numbers c (ClusterLine id) items course = founds c course id
line_numbers c (At id Elect) items course = acts c.asks [] c id (λ s. Some (happens_at course s elect [])) refl
line_numbers c (At id Apply) items course = acts c.asks (applying_at (node_in c)) c id (λ s. Some (happens_at course s apply [])) (applies_at c.asks (node_in c))
line_numbers c (At id (Execute body)) items course = asked c course id body (Write items) (λ number read n. execute n number read) items
line_numbers c (At id (Query body)) items course = asked c course id body (Read items) (λ number read n. query n number read) items
line_numbers c (At id Stop) items course = acts c.asks [] c id stops refl
line_numbers c (At id (StopWithin calls pick)) items course = acts c.asks [] c id (arms calls pick) refl
line_numbers c (At id Start) items course = acts c.asks [] c id (starts course) refl
line_numbers c (At id Show) items course = acts c.asks [] c id (λ s. Some (s, shown s.id s.stand)) refl

step_numbers : (c : Cluster) (bytes : List ℕ) (items : List Item) (course : Course) → MayNumber c.asks (notes_of c (line_of bytes) items course) (step items course c bytes)
unfolding step
step_numbers c bytes items course = at (line_of bytes)
  where
    at : (o : Option Line) → MayNumber c.asks (notes_of c o items course) (option_and_then (done items course c) o)
    at None = tt
    at (Some line) = line_numbers c line items course

pub asks_numbered : {lines : _} {text : List ℕ} {c : Cluster} (run : Runs lines text c) → AreNumbered 0 (history run).book c.asks
unfolding history
asks_numbered Runs.start = refl
asks_numbered (Runs.line {c} l more next run within (way, is)) =
    numbered_both 0 c.asks next.asks (history run).book (notes_of c (line_of l.text) way.items way.course) (asks_numbered run)
    (subst (MayNumber c.asks (notes_of c (line_of l.text) way.items way.course)) is (step_numbers c l.text way.items way.course))
