-- What a line writes is what is noted of it, and reads see what was applied.
use Rattle.std.proofs.Common.{◌≡◌, inl, inr, ℕ, zero, suc, ◌+◌, ◌-◌, ◌==◌, ◌||◌, ◌^◌, nat_eq, List, [], ◌∷◌, ◌++◌, take, slice_get, Bool, true, false, if◌then◌else◌, bytes_eq, Option, Some, None, option_and_then, refl, sym, ◌∙◌, ap, subst, append_assoc, arith}
use Rattle.std.specs.Prelude.{⊤}
use Rattle.std.specs.Option.{option_map}
use Rattle.std.proofs.lemmas.List.{append-nil}
use Rattle.rq_statement.specs.declared.item.Item.{Item}
use Rattle.rq_request.specs.declared.say.Say.TheVariants.{Results}
use Rattle.rq_request.specs.declared.say.Answer.{Answer}
use Rattle.rq_engine.specs.Fold.{answer}
use Rattle.rq_json.specs.Body.{texts_of}
use Rattle.rq_node.specs.Node.{Node, Persistent, StoredRecord, Turn, persistent_after, unchanged}
use Rattle.rq_node.specs.Rules.{is_leader, led, elect, applied_entry, apply_next, apply_times, execute, query, apply, started}
use Rattle.rq_node.specs.Files.{first_persistent}
use Rattle.rq_script.specs.ScriptLine.{Line, Skip, Cluster as ClusterLine, At, Elect, Apply, Execute, Query, Stop, StopWithin, Start, Show, line_of}
use Rattle.rq_script.specs.ScriptText.{answers_text}
use Rattle.rq_script.specs.Cluster.{Stand, Running, Down, Server, Cluster, Written, new_server, Fault, NoFault, Reading, Storing, Course, Fate, Done, Struck, Failed, fate, ended, happens, happens_at, opens, starts, stops, arms, shown, at_server, event_at, ask_at, founded, done, step, Steps}
use Rattle.rq_script.specs.History.{Op, Write, Read, Note, Asked, Answered, at_place, said_by, said, applying, node_at, node_in, asking, applying_at, notes, notes_of}
use Rattle.rq_script.specs.Promise.{op_of}
use Rattle.rq_script.specs.Writing.{answers_in, IsState, is_up, is_down, is_shown, is_shown_down, Tells, SeesApplied, ReadsSeeApplied}
use Rattle.rq_script.proofs.Histories.{places_ask_nothing, applying_asks_nothing, apply_stores}

-- ---- the answers in notes

answers_places : (place : ℕ) (said : List Answer) → answers_in (at_place place said) ≡ said
unfolding answers_in
answers_places place [] = refl
answers_places place (answer ∷ said) = ap (λ (l : List Answer). answer ∷ l) (answers_places place said)

answers_both : (one two : List Note) → answers_in (one ++ two) ≡ answers_in one ++ answers_in two
unfolding answers_in
answers_both [] two = refl
answers_both (Asked number op ∷ one) two = answers_both one two
answers_both (Answered number say place ∷ one) two = ap (λ (l : List Answer). record { number = number; say = say } ∷ l) (answers_both one two)

-- applying gives the answers that are noted of it
apply_answers : (k : ℕ) (turn : Turn) → (apply_times k turn).answers ≡ turn.answers ++ answers_in (applying k turn.node)
unfolding apply_times applying answers_in
apply_answers zero turn = sym (append-nil turn.answers)
apply_answers (suc k) turn =
    let next = applied_entry turn.node (slice_get turn.node.log turn.node.applied) in
    apply_answers k (apply_next turn)
    ∙ append_assoc turn.answers next.answers (answers_in (applying k next.node))
    ∙ ap (λ (l : List Answer). turn.answers ++ l)
    (sym (answers_both (at_place (turn.node.applied + 1) next.answers) (applying k next.node)
    ∙ ap (λ (l : List Answer). l ++ answers_in (applying k next.node)) (answers_places (turn.node.applied + 1) next.answers)))

-- ---- what lines write

abbrev MayTell : List Note → Option Written → Type 0
MayTell noted None = ⊤
MayTell noted (Some x) = Tells x.1 noted

abbrev ActTells : List Note → Option (Server × List ℕ) → Type 0
ActTells noted None = ⊤
ActTells noted (Some t) = Tells t.1 noted

tells_nothing : Tells [] []
unfolding answers_in
tells_nothing = inl refl

tells_state : (text : List ℕ) → IsState text → Tells text []
unfolding answers_in
tells_state text is = inr (refl, is)

tells_asked : (text : List ℕ) (number : ℕ) (op : Op) (noted : List Note) → Tells text noted → Tells text (Asked number op ∷ noted)
unfolding answers_in
tells_asked text number op noted tells = tells

-- a turn that is done tells its answers, and one that is broken off that the node is down
ended_tells : (f : Fate) (course : Course) (s : Server) (n : Node) (turn : Turn) (asked : List ℕ) (place : ℕ)
    → Tells (ended f course s n turn asked).1 (said_by f turn place)
ended_tells Done course s n turn asked place = inl (ap answers_text (sym (answers_places place turn.answers)))
ended_tells Struck course s n turn asked place = tells_state (ended Struck course s n turn asked).1 (is_down s.id)
ended_tells Failed course s n turn asked place = tells_state (ended Failed course s n turn asked).1 (is_down s.id)

-- a turn without answers
silent_tells : (f : Fate) (course : Course) (s : Server) (n : Node) (turn : Turn) (asked : List ℕ) → turn.answers ≡ [] → Tells (ended f course s n turn asked).1 []
unfolding answers_in
silent_tells Done course s n turn asked none = inl (ap answers_text none)
silent_tells Struck course s n turn asked none = inr (refl, is_down s.id)
silent_tells Failed course s n turn asked none = inr (refl, is_down s.id)

elect_is_silent : (n : Node) → (elect n).answers ≡ []
elect_is_silent n = at (is_leader n.role || (n.term == 2 ^ 64 - 1))
  where
    at : (b : Bool) → (if b then unchanged n else led n).answers ≡ []
    at true = refl
    at false = refl

elect_tells : (course : Course) (s : Server) (stand : Stand) → Tells (happens_at course (record s { stand = stand }) elect []).1 []
elect_tells course s (Running n) = silent_tells (fate course s.armed (elect n).records) course (record s { stand = Running n }) n (elect n) [] (elect_is_silent n)
elect_tells course s (Down kept rest) = tells_nothing

apply_tells : (course : Course) (s : Server) (stand : Stand) → Tells (happens_at course (record s { stand = stand }) apply []).1 (applying_at (node_at stand))
apply_tells course s (Down kept rest) = tells_nothing
apply_tells course s (Running n) =
    subst (λ (l : List StoredRecord). Tells (ended (fate course s.armed l) course (record s { stand = Running n }) n (apply n) []).1 (applying (n.commit - n.applied) n))
    (sym (apply_stores (n.commit - n.applied) (unchanged n)))
    (inl (ap answers_text (apply_answers (n.commit - n.applied) (unchanged n))))

ask_tells : (course : Course) (s : Server) (stand : Stand) (number : ℕ) (op : Op) (rule : Node → Turn)
    → Tells (happens_at course (record s { stand = stand }) rule (number ∷ [])).1 (asking course (Some (record s { stand = stand })) number op rule)
ask_tells course s (Running n) number op rule =
    tells_asked (happens course (record s { stand = Running n }) n (rule n) (number ∷ [])).1 number op (said course s.armed (rule n) n.applied)
    (ended_tells (fate course s.armed (rule n).records) course (record s { stand = Running n }) n (rule n) (number ∷ []) n.applied)
ask_tells course s (Down kept rest) number op rule = tells_asked [] number op [] tells_nothing

-- ---- at the server that is there

acted_tells : (c : Cluster) (id : List ℕ) (s : Server) (act : Server → Option (Server × List ℕ)) (noted : List Note) → ActTells noted (act s)
    → MayTell noted (at_server (record c { server = Some s }) id act)
acted_tells c id s act noted tells = by (bytes_eq s.id id)
  where
    acts : (o : Option (Server × List ℕ)) → ActTells noted o → MayTell noted (option_map (λ (t : Server × List ℕ). (record c { server = Some t.0 }, t.1)) o)
    acts None none = tt
    acts (Some t) told = told

    by : (b : Bool) → MayTell noted (if b then option_map (λ (t : Server × List ℕ). (record c { server = Some t.0 }, t.1)) (act s) else None)
    by true = acts (act s) tells
    by false = tt

server_tells : (c : Cluster) (id : List ℕ) (act : Server → Option (Server × List ℕ)) (noted : Option Server → List Note)
    → ((s : Server) (stand : Stand) → ActTells (noted (Some (record s { stand = stand }))) (act (record s { stand = stand })))
    → MayTell (noted c.server) (at_server c id act)
server_tells c id act noted tells = at c.server
  where
    at : (o : Option Server) → MayTell (noted o) (at_server (record c { server = o }) id act)
    at None = tt
    at (Some s) = acted_tells c id s act (noted (Some s)) (tells s s.stand)

asked_tells : (c : Cluster) (course : Course) (id body : List ℕ) (rule : ℕ → List Item → Node → Turn) (items : List Item) (op : Op)
    → MayTell (asking course c.server (c.asks + 1) op (rule (c.asks + 1) items)) (ask_at course c id rule items body)
asked_tells c course id body rule items op = by (texts_of body)
  where
    by : (o : Option (List (List ℕ))) → MayTell (asking course c.server (c.asks + 1) op (rule (c.asks + 1) items))
        (option_and_then (λ (t : List (List ℕ)). event_at course (record c { asks = c.asks + 1 }) id (rule (c.asks + 1) items) ((c.asks + 1) ∷ [])) o)
    by None = tt
    by (Some texts) = server_tells (record c { asks = c.asks + 1 }) id (λ s. Some (happens_at course s (rule (c.asks + 1) items) ((c.asks + 1) ∷ [])))
        (λ o. asking course o (c.asks + 1) op (rule (c.asks + 1) items)) (λ s stand. ask_tells course s stand (c.asks + 1) op (rule (c.asks + 1) items))

opens_tells : (course : Course) (s : Server) (kept : Persistent) (rest : List StoredRecord) (fault : Fault) → Tells (opens (record course { fault = fault }) s kept rest).1 []
opens_tells course s kept rest NoFault = tells_state _ (is_up (started s.id (persistent_after kept (take course.stands rest))).node)
opens_tells course s kept rest Reading = tells_state _ (is_down s.id)
opens_tells course s kept rest Storing = tells_state _ (is_down s.id)

found_tells : (c : Cluster) (course : Course) (id : List ℕ) → MayTell [] (founded course c id)
found_tells c course id = at c.server
  where
    at : (o : Option Server) → MayTell [] (founded course (record c { server = o }) id)
    at None = opens_tells course (new_server id) first_persistent [] course.fault
    at (Some s) = tt

start_tells : (course : Course) (s : Server) (stand : Stand) → ActTells [] (starts course (record s { stand = stand }))
start_tells course s (Running n) = tt
start_tells course s (Down kept rest) = opens_tells course (record s { stand = Down kept rest }) kept rest course.fault

stop_tells : (s : Server) (stand : Stand) → ActTells [] (stops (record s { stand = stand }))
stop_tells s (Running n) = tells_state _ (is_down s.id)
stop_tells s (Down kept rest) = tt

arm_tells : (calls pick : ℕ) (s : Server) (stand : Stand) → ActTells [] (arms calls pick (record s { stand = stand }))
arm_tells calls pick s (Running n) = tells_nothing
arm_tells calls pick s (Down kept rest) = tt

show_tells : (s : Server) (stand : Stand) → Tells (shown s.id stand) []
show_tells s (Running n) = tells_state _ (is_shown n)
show_tells s (Down kept rest) = tells_state _ (is_shown_down s.id)

line_tells : (c : Cluster) (line : Line) (items : List Item) (course : Course) → MayTell (notes c line items course) (done items course c line)
line_tells c Skip items course = tells_nothing
line_tells c (ClusterLine id) items course = found_tells c course id
line_tells c (At id Elect) items course = server_tells c id (λ s. Some (happens_at course s elect [])) (λ _. []) (elect_tells course)
line_tells c (At id Apply) items course =
    server_tells c id (λ s. Some (happens_at course s apply [])) (λ o. applying_at (option_and_then (λ (s : Server). node_at s.stand) o)) (apply_tells course)
line_tells c (At id (Execute body)) items course = asked_tells c course id body (λ number read n. execute n number read) items (Write items)
line_tells c (At id (Query body)) items course = asked_tells c course id body (λ number read n. query n number read) items (Read items)
line_tells c (At id Stop) items course = server_tells c id stops (λ _. []) stop_tells
line_tells c (At id (StopWithin calls pick)) items course = server_tells c id (arms calls pick) (λ _. []) (arm_tells calls pick)
line_tells c (At id Start) items course = server_tells c id (starts course) (λ _. []) (start_tells course)
line_tells c (At id Show) items course = server_tells c id (λ s. Some (s, shown s.id s.stand)) (λ _. []) show_tells

step_tells : (c : Cluster) (bytes : List ℕ) (items : List Item) (course : Course) → MayTell (notes_of c (line_of bytes) items course) (step items course c bytes)
unfolding step
step_tells c bytes items course = at (line_of bytes)
  where
    at : (o : Option Line) → MayTell (notes_of c o items course) (option_and_then (done items course c) o)
    at None = tt
    at (Some line) = line_tells c line items course

pub told : (c : Cluster) (bytes text : List ℕ) (next : Cluster) (steps : Steps c bytes text next) → Tells text (notes_of c (line_of bytes) steps.0.items steps.0.course)
told c bytes text next (way, is) = subst (MayTell (notes_of c (line_of bytes) way.items way.course)) is (step_tells c bytes way.items way.course)

-- ---- reads

same_op : (number asked : ℕ) (op other : Op) (more : List Note) → number ≡ asked → op_of (Asked number op ∷ more) asked ≡ Some other → op ≡ other
same_op number asked op other more same is =
    let e : nat_eq number asked ≡ true = grind arith in
    let both : Some op ≡ Some other = sym (ap (λ (b : Bool). if b then Some op else op_of more asked) e) ∙ is in cc

-- behind the ask of a write no read is asked
write_reads_nothing : (number asked : ℕ) (list items : List Item) (more : List Note) → op_of more asked ≡ None → op_of (Asked number (Write list) ∷ more) asked ≡ Some (Read items) → ⊥
write_reads_nothing number asked list items more none is = at (nat_eq number asked) is
  where
    at : (b : Bool) → (if b then Some (Write list) else op_of more asked) ≡ Some (Read items) → ⊥
    at true wrong = absurd (cc)
    at false wrong = absurd (cc)

said_asks_nothing : (f : Fate) (turn : Turn) (place number : ℕ) → op_of (said_by f turn place) number ≡ None
said_asks_nothing Done turn place number = places_ask_nothing place turn.answers number
said_asks_nothing Struck turn place number = refl
said_asks_nothing Failed turn place number = refl

query_sees : (c : Cluster) (course : Course) (o : Option Server) (number : ℕ) (list : List Item) → ReadsSeeApplied (record c { server = o }) (asking course o number (Read list) (λ n. query n number list))
query_sees c course None number list zero asked results place items is op = absurd (cc)
query_sees c course None number list (suc k) asked results place items is op = absurd (cc)
query_sees c course (Some s) number list k asked results place items is op = at s.stand k is op
  where
    at : (stand : Stand) (k : ℕ)
        → slice_get (asking course (Some (record s { stand = stand })) number (Read list) (λ n. query n number list)) k ≡ Some (Answered asked (Results results) place)
        → op_of (asking course (Some (record s { stand = stand })) number (Read list) (λ n. query n number list)) asked ≡ Some (Read items)
        → SeesApplied (record c { server = Some (record s { stand = stand }) }) items results place
    at (Down kept rest) zero is op = absurd (cc)
    at (Down kept rest) (suc k) is op = absurd (cc)
    at (Running n) zero is op = absurd (cc)
    at (Running n) (suc (suc k)) is op = absurd (cc)
    at (Running n) (suc zero) is op =
        let noted : Some (Answered number (Results (answer n.replica list)) n.applied) ≡ Some (Answered asked (Results results) place) = is in
        let numbers : number ≡ asked = cc in
        let lists : Read list ≡ Read items = same_op number asked (Read list) (Read items) (Answered number (Results (answer n.replica list)) n.applied ∷ []) numbers op in
        let same : list ≡ items = cc in
        let given : answer n.replica list ≡ results = cc in
        record { node = n; runs = refl; sees = cc; outcome = sym given ∙ ap (answer n.replica) same }

write_sees : (c : Cluster) (course : Course) (o : Option Server) (number : ℕ) (list : List Item) (rule : Node → Turn) → ReadsSeeApplied c (asking course o number (Write list) rule)
write_sees c course None number list rule k asked results place items is op = absurd (write_reads_nothing number asked list items [] refl op)
write_sees c course (Some s) number list rule k asked results place items is op = at s.stand op
  where
    at : (stand : Stand) → op_of (asking course (Some (record s { stand = stand })) number (Write list) rule) asked ≡ Some (Read items) → SeesApplied c items results place
    at (Down kept rest) asks = absurd (write_reads_nothing number asked list items [] refl asks)
    at (Running n) asks =
        absurd (write_reads_nothing number asked list items (said course s.armed (rule n) n.applied) (said_asks_nothing (fate course s.armed (rule n).records) (rule n) n.applied asked) asks)

apply_sees : (c : Cluster) (o : Option Node) → ReadsSeeApplied c (applying_at o)
apply_sees c None k number results place items is op = absurd (cc)
apply_sees c (Some n) k number results place items is op = let none = applying_asks_nothing (n.commit - n.applied) n number in absurd (cc)

nothing_sees : (c : Cluster) → ReadsSeeApplied c []
nothing_sees c k number results place items is op = absurd (cc)

line_sees : (c : Cluster) (line : Line) (items : List Item) (course : Course) → ReadsSeeApplied c (notes c line items course)
line_sees c Skip items course = nothing_sees c
line_sees c (ClusterLine id) items course = nothing_sees c
line_sees c (At id Elect) items course = nothing_sees c
line_sees c (At id Apply) items course = apply_sees c (node_in c)
line_sees c (At id (Execute body)) items course = write_sees c course c.server (c.asks + 1) items (λ n. execute n (c.asks + 1) items)
line_sees c (At id (Query body)) items course = query_sees c course c.server (c.asks + 1) items
line_sees c (At id Stop) items course = nothing_sees c
line_sees c (At id (StopWithin calls pick)) items course = nothing_sees c
line_sees c (At id Start) items course = nothing_sees c
line_sees c (At id Show) items course = nothing_sees c

pub seen : (c : Cluster) (bytes text : List ℕ) (next : Cluster) (steps : Steps c bytes text next) → ReadsSeeApplied c (notes_of c (line_of bytes) steps.0.items steps.0.course)
seen c bytes text next (way, is) = at (line_of bytes)
  where
    at : (o : Option Line) → ReadsSeeApplied c (notes_of c o way.items way.course)
    at None = nothing_sees c
    at (Some line) = line_sees c line way.items way.course
