-- The places of the writes that were answered climb, and asks that wait are above them.
use Rattle.std.proofs.Common.{◌≡◌, ◌<◌, ◌≤◌, ℕ, zero, suc, ◌+◌, ◌-◌, ◌==◌, ◌||◌, ◌^◌, nat_lt, List, [], ◌∷◌, ◌++◌, length, take, slice_get, Bool, true, false, if◌then◌else◌, bytes_eq, Option, Some, None, option_and_then, refl, sym, ◌∙◌, ap, subst, arith}
use Rattle.std.specs.Prelude.{⊤}
use Rattle.std.specs.Option.{option_map}
use Rattle.std.proofs.lemmas.List.{length-append}
use Rattle.rq_statement.specs.declared.item.Item.{Item}
use Rattle.rq_statement.specs.declared.res.Res.{Res}
use Rattle.rq_request.specs.declared.say.Say.{Say}
use Rattle.rq_request.specs.declared.say.Say.TheVariants.{Results, Queued, Loaded, Backup, Nodes, Ready, Changed, Moved, Refused}
use Rattle.rq_request.specs.declared.say.NodeRefusal.TheVariants.{NoLeader, EntryTooLarge}
use Rattle.rq_engine.specs.Fold.{run, answer}
use Rattle.rq_statement.specs.Bytes.{execute_bytes}
use Rattle.rq_json.specs.Body.{texts_of}
use Rattle.rq_node.specs.declared.log_entry.LogEntry.{LogEntry}
use Rattle.rq_node.specs.declared.log_entry.Content.{Content}
use Rattle.rq_node.specs.declared.log_entry.Content.TheVariants as content
use Rattle.rq_node.specs.declared.waiting.Waiting.{Waiting}
use Rattle.rq_node.specs.Sound.{most_bytes}
use Rattle.rq_node.specs.Node.{Node, Persistent, StoredRecord, Turn, persistent_after, unchanged, says}
use Rattle.rq_node.specs.Rules.{is_leader, entry_in, risen, led, elect, waits, taken_up, execute_sized, execute, query, command_of, results_of, ran, applied_content, applied_entry, apply_next, apply_times, apply}
use Rattle.rq_node.specs.Files.{first_persistent}
use Rattle.rq_script.specs.ScriptLine.{Line, Skip, Cluster as ClusterLine, At, Elect, Apply, Execute, Query, Stop, StopWithin, Start, Show, line_of}
use Rattle.rq_script.specs.Cluster.{Stand, Running, Down, Server, Cluster, Written, new_server, Fault, NoFault, Reading, Storing, Course, Fate, Done, Struck, Failed, fate, ended, happens, happens_at, opens, starts, stops, arms, shown, at_server, event_at, ask_at, founded, done, step}
use Rattle.rq_script.specs.History.{Op, Write, Read, Note, Asked, Answered, History, at_place, said_by, said, applying, node_at, asking, applying_at, notes, notes_of}
use Rattle.rq_script.specs.Promise.{op_of}
use Rattle.rq_script.proofs.Prefixes.{begins_length}
use Rattle.rq_script.proofs.Histories.{AllRight, right_op, op_kept, op_behind}
use Rattle.rq_script.proofs.Moments.{Fits, FitsAt, Sound, same_number}

-- ---- places that climb

abbrev is_write : Option Op → Bool
is_write None = false
is_write (Some (Write items)) = true
is_write (Some (Read items)) = false

-- the results of a write
abbrev pub counts : Option Op → Say → Bool
counts op (Results results) = is_write op
counts op (Queued number) = false
counts op Loaded = false
counts op (Backup sql) = false
counts op (Nodes members) = false
counts op Ready = false
counts op Changed = false
counts op (Moved address) = false
counts op (Refused refusal) = false

-- the rest climbs from a place that is above, or from where it was
abbrev pub Behind : (ℕ → Type 0) → ℕ → ℕ → Bool → Type 0
Behind rest low place true = (low < place) × rest place
Behind rest low place false = rest low

-- the places of the answered writes among the notes climb from one mark to another
abbrev pub Climbs : List Note → ℕ → List Note → ℕ → Type 0
Climbs book low [] high = low ≤ high
Climbs book low (Asked number op ∷ notes) high = Climbs book low notes high
Climbs book low (Answered number say place ∷ notes) high = Behind (λ (mark : ℕ). Climbs book mark notes high) low place (counts (op_of book number) say)

climbs_from : (book notes : List Note) (low start high : ℕ) → low ≤ start → Climbs book start notes high → Climbs book low notes high
climbs_from book [] low start high le climbs = omega (arith, le, climbs)
climbs_from book (Asked number op ∷ notes) low start high le climbs = climbs_from book notes low start high le climbs
climbs_from book (Answered number say place ∷ notes) low start high le climbs =
    at (λ rest. climbs_from book notes low start high le rest) (counts (op_of book number) say) climbs
  where
    at : (Climbs book start notes high → Climbs book low notes high) → (b : Bool) → Behind (λ (mark : ℕ). Climbs book mark notes high) start place b
        → Behind (λ (mark : ℕ). Climbs book mark notes high) low place b
    at on true (less, rest) = (omega (arith, le, less), rest)
    at on false rest = on rest

pub climbs_both : (book one two : List Note) (low mid high : ℕ) → Climbs book low one mid → Climbs book mid two high → Climbs book low (one ++ two) high
climbs_both book [] two low mid high first second = climbs_from book two low mid high first second
climbs_both book (Asked number op ∷ one) two low mid high first second = climbs_both book one two low mid high first second
climbs_both book (Answered number say place ∷ one) two low mid high first second =
    at (λ start rest. climbs_both book one two start mid high rest second) (counts (op_of book number) say) first
  where
    at : ((start : ℕ) → Climbs book start one mid → Climbs book start (one ++ two) high) → (b : Bool) → Behind (λ (mark : ℕ). Climbs book mark one mid) low place b
        → Behind (λ (mark : ℕ). Climbs book mark (one ++ two) high) low place b
    at on true (less, rest) = (less, on place rest)
    at on false rest = on low rest

pub climbs_more : (ids : List (List ℕ)) (chosen : List LogEntry) (book more notes : List Note) (low high : ℕ) → AllRight ids chosen book notes → Climbs book low notes high → Climbs (book ++ more) low notes high
climbs_more ids chosen book more [] low high right climbs = climbs
climbs_more ids chosen book more (Asked number op ∷ notes) low high (first, rest) climbs = climbs_more ids chosen book more notes low high rest climbs
climbs_more ids chosen book more (Answered number say place ∷ notes) low high (first, rest) climbs =
    let op = right_op ids chosen (op_of book number) say place first in
    let same : op_of (book ++ more) number ≡ op_of book number = op_kept book more number op.0 op.1 ∙ sym op.1 in
    subst (λ (o : Option Op). Behind (λ (mark : ℕ). Climbs (book ++ more) mark notes high) low place (counts o say)) (sym same)
    (at (λ start behind. climbs_more ids chosen book more notes start high rest behind) (counts (op_of book number) say) climbs)
  where
    at : ((start : ℕ) → Climbs book start notes high → Climbs (book ++ more) start notes high) → (b : Bool) → Behind (λ (mark : ℕ). Climbs book mark notes high) low place b
        → Behind (λ (mark : ℕ). Climbs (book ++ more) mark notes high) low place b
    at on true (less, behind) = (less, on place behind)
    at on false behind = on low behind

climbs_tail : (book : List Note) (note : Note) (notes : List Note) (low high : ℕ) → Climbs book low (note ∷ notes) high → Climbs book low notes high
climbs_tail book (Asked number op) notes low high climbs = climbs
climbs_tail book (Answered number say place) notes low high climbs = at (counts (op_of book number) say) climbs
  where
    at : (b : Bool) → Behind (λ (mark : ℕ). Climbs book mark notes high) low place b → Climbs book low notes high
    at true (less, rest) = climbs_from book notes low place high (omega (arith, less)) rest
    at false rest = rest

-- behind an answered write
climbs_first : (book : List Note) (note : Note) (notes : List Note) (low high number place : ℕ) (results : List Res) (items : List Item) → Climbs book low (note ∷ notes) high
    → Some note ≡ Some (Answered number (Results results) place) → op_of book number ≡ Some (Write items) → (low < place) × Climbs book place notes high
climbs_first book (Asked k op) notes low high number place results items climbs is asked = absurd (cc)
climbs_first book (Answered k say spot) notes low high number place results items climbs is asked =
    let numbers : k ≡ number = cc in
    let says : say ≡ Results results = cc in
    let places : spot ≡ place = cc in
    let counted : counts (op_of book k) say ≡ true = ap (counts (op_of book k)) says ∙ ap (λ (m : ℕ). is_write (op_of book m)) numbers ∙ ap is_write asked in
    subst (λ (p : ℕ). (low < p) × Climbs book p notes high) places (subst (Behind (λ (mark : ℕ). Climbs book mark notes high) low spot) counted climbs)

climbs_get : (book notes : List Note) (low high k number place : ℕ) (results : List Res) (items : List Item) → Climbs book low notes high
    → slice_get notes k ≡ Some (Answered number (Results results) place) → op_of book number ≡ Some (Write items) → low < place
climbs_get book [] low high k number place results items climbs is asked = absurd (cc)
climbs_get book (note ∷ notes) low high zero number place results items climbs is asked = (climbs_first book note notes low high number place results items climbs is asked).0
climbs_get book (note ∷ notes) low high (suc k) number place results items climbs is asked =
    climbs_get book notes low high k number place results items (climbs_tail book note notes low high climbs) is asked

-- two answered writes at one place are one
pub climbs_apart : (book notes : List Note) (low high j k number other place : ℕ) (results more : List Res) (items items' : List Item) → Climbs book low notes high
    → slice_get notes j ≡ Some (Answered number (Results results) place) → slice_get notes k ≡ Some (Answered other (Results more) place)
    → op_of book number ≡ Some (Write items) → op_of book other ≡ Some (Write items') → j ≡ k
climbs_apart book [] low high j k number other place results more items items' climbs one two asked asked' = absurd (cc)
climbs_apart book (note ∷ notes) low high zero zero number other place results more items items' climbs one two asked asked' = refl
climbs_apart book (note ∷ notes) low high zero (suc k) number other place results more items items' climbs one two asked asked' =
    let first = climbs_first book note notes low high number place results items climbs one asked in
    let less : place < place = climbs_get book notes place high k other place more items' first.1 two asked' in
    absurd (omega (arith, less))
climbs_apart book (note ∷ notes) low high (suc j) zero number other place results more items items' climbs one two asked asked' =
    let first = climbs_first book note notes low high other place more items' climbs two asked' in
    let less : place < place = climbs_get book notes place high j number place results items first.1 one asked in
    absurd (omega (arith, less))
climbs_apart book (note ∷ notes) low high (suc j) (suc k) number other place results more items items' climbs one two asked asked' =
    ap suc (climbs_apart book notes low high j k number other place results more items items' (climbs_tail book note notes low high climbs) one two asked asked')

-- ---- asks that wait

-- the indexes for which asks wait rise from a mark, up to the last of the log
abbrev pub Rises : ℕ → List Waiting → ℕ → Type 0
Rises mark [] last = mark ≤ last
Rises mark (w ∷ ws) last = (mark < w.index) × Rises w.index ws last

rises_more : (ws : List Waiting) (mark last next : ℕ) → last ≤ next → Rises mark ws last → Rises mark ws next
rises_more [] mark last next le rises = omega (arith, le, rises)
rises_more (w ∷ ws) mark last next le (less, rest) = (less, rises_more ws w.index last next le rest)

rises_behind : (ws : List Waiting) (mark last number : ℕ) → Rises mark ws last → Rises mark (ws ++ record { index = last + 1; number = number } ∷ []) (last + 1)
rises_behind [] mark last number rises = (omega (arith, rises), omega arith)
rises_behind (w ∷ ws) mark last number (less, rest) = (less, rises_behind ws w.index last number rest)

-- what is noted climbs to a mark, and what waits then is above it
pub record Leaves (book : List Note) (low : ℕ) (notes : List Note) (most : ℕ) (n : Node) : Type 0 where
  pub mark : ℕ
  pub climbs : Climbs book low notes mark
  pub within : mark ≤ most
  pub rises : Rises mark n.waiting (length n.log)

-- one entry is applied
module _ (book : List Note) (low most : ℕ) (n : Node) (within : low ≤ most) (more : n.applied + 1 ≤ most) where
  abbrev LeavesOne : Turn → Type 0
  LeavesOne turn = Leaves book low (at_place (n.applied + 1) turn.answers) most turn.node × (turn.node.applied ≤ n.applied + 1)

  one_of_list : (items : List Item) (ws : List Waiting) → Rises low ws (length n.log) → LeavesOne (applied_content (record n { waiting = ws }) (n.applied + 1) (content.Execute items))
  one_of_list items [] rises = (record { mark = low; climbs = omega arith; within = within; rises = rises }, omega arith)
  one_of_list items (w ∷ ws) (less, rest) = (at (w.index == n.applied + 1) refl, omega arith)
    where
      turn : Bool → Turn
      turn b = record {
        node = record (ran n (n.applied + 1) (content.Execute items)) { waiting = if b then ws else w ∷ ws };
        records = [];
        answers = if b then record { number = w.number; say = Results (results_of (run n.replica (command_of (content.Execute items))).1) } ∷ [] else [];
      }

      counted : (b : Bool) → low < n.applied + 1 → Behind (λ (mark : ℕ). mark ≤ n.applied + 1) low (n.applied + 1) b
      counted true above = (above, omega arith)
      counted false above = omega (arith, above)

      at : (b : Bool) → (w.index == n.applied + 1) ≡ b → Leaves book low (at_place (n.applied + 1) (turn b).answers) most (turn b).node
      at true same =
          let index : w.index ≡ n.applied + 1 = grind arith in
          record {
            mark = n.applied + 1;
            climbs = counted (is_write (op_of book w.number)) (omega (arith, less, index));
            within = more;
            rises = subst (λ (m : ℕ). Rises m ws (length n.log)) index rest;
          }
      at false other = record { mark = low; climbs = omega arith; within = within; rises = (less, rest) }

  one_entry : Rises low n.waiting (length n.log) → (entry : Option LogEntry) → LeavesOne (applied_entry n entry)
  one_entry rises None = (record { mark = low; climbs = omega arith; within = within; rises = rises }, omega arith)
  one_entry rises (Some entry) = of_content entry.content
    where
      of_content : (held : Content) → LeavesOne (applied_content n (n.applied + 1) held)
      of_content content.NoOp = (record { mark = low; climbs = omega arith; within = within; rises = rises }, omega arith)
      of_content (content.Execute items) = one_of_list items n.waiting rises

applying_climbs : (book : List Note) (most k : ℕ) (turn : Turn) (low : ℕ) → low ≤ most → turn.node.applied + k ≤ most → Rises low turn.node.waiting (length turn.node.log)
    → Leaves book low (applying k turn.node) most (apply_times k turn).node
unfolding apply_times applying
applying_climbs book most zero turn low within bound rises = record { mark = low; climbs = omega arith; within = within; rises = rises }
applying_climbs book most (suc k) turn low within bound rises =
    let next = applied_entry turn.node (slice_get turn.node.log turn.node.applied) in
    let one = one_entry book low most turn.node within (omega (arith, bound)) rises (slice_get turn.node.log turn.node.applied) in
    let applied : next.node.applied ≤ turn.node.applied + 1 = one.1 in
    let rest = applying_climbs book most k (apply_next turn) one.0.mark one.0.within (omega (arith, bound, applied)) one.0.rises in
    record {
      mark = rest.mark;
      climbs = climbs_both book (at_place (turn.node.applied + 1) next.answers) (applying k next.node) low one.0.mark rest.mark one.0.climbs rest.climbs;
      within = rest.within;
      rises = rest.rises;
    }

-- ---- a line

-- the asks that wait at a running node are above the mark
abbrev pub Above : ℕ → Stand → Type 0
Above mark (Running n) = Rises mark n.waiting (length n.log)
Above mark (Down kept rest) = ⊤

abbrev pub AboveAt : ℕ → Option Server → Type 0
AboveAt mark None = ⊤
AboveAt mark (Some s) = Above mark s.stand

-- what is noted climbs to a mark, and what waits at the server then is above it
pub record Climbed (book : List Note) (low : ℕ) (notes : List Note) (most : ℕ) (server : Option Server) : Type 0 where
  pub mark : ℕ
  pub climbs : Climbs book low notes mark
  pub within : mark ≤ most
  pub above : AboveAt mark server

ended_above : (mark : ℕ) (f : Fate) (course : Course) (s : Server) (n : Node) (turn : Turn) (asked : List ℕ) → Rises mark turn.node.waiting (length turn.node.log)
    → Above mark (ended f course s n turn asked).0.stand
ended_above mark Done course s n turn asked rises = rises
ended_above mark Struck course s n turn asked rises = tt
ended_above mark Failed course s n turn asked rises = tt

elect_rises : (low : ℕ) (n : Node) → Rises low n.waiting (length n.log) → Rises low (elect n).node.waiting (length (elect n).node.log)
elect_rises low n rises = at (is_leader n.role || (n.term == 2 ^ 64 - 1))
  where
    entry : LogEntry
    entry = entry_in (risen n) content.NoOp

    at : (b : Bool) → Rises low (if b then unchanged n else led n).node.waiting (length (if b then unchanged n else led n).node.log)
    at true = rises
    at false = rises_more n.waiting low (length n.log) (length (n.log ++ entry ∷ [])) (let e = length-append n.log (entry ∷ []) in omega (arith, e)) rises

module _ (h : History) (low : ℕ) (within : low ≤ length h.chosen) where
  abbrev pub MayClimb : List Note → Option Written → Type 0
  MayClimb noted None = ⊤
  MayClimb noted (Some x) = Climbed (h.book ++ noted) low noted (length h.chosen) x.0.server

  abbrev ActClimbs : List Note → Option (Server × List ℕ) → Type 0
  ActClimbs noted None = ⊤
  ActClimbs noted (Some t) = Climbed (h.book ++ noted) low noted (length h.chosen) (Some t.0)

  -- nothing is noted
  unmoved : (server : Option Server) → AboveAt low server → Climbed (h.book ++ []) low [] (length h.chosen) server
  unmoved server above = record { mark = low; climbs = omega arith; within = within; above = above }

  elect_climbs : (course : Course) (s : Server) (stand : Stand) → Above low stand → ActClimbs [] (Some (happens_at course (record s { stand = stand }) elect []))
  elect_climbs course s (Running n) above =
      unmoved (Some (happens course (record s { stand = Running n }) n (elect n) []).0)
      (ended_above low (fate course s.armed (elect n).records) course (record s { stand = Running n }) n (elect n) [] (elect_rises low n above))
  elect_climbs course s (Down kept rest) above = unmoved (Some (happens_at course (record s { stand = Down kept rest }) elect []).0) tt

  apply_climbs : (course : Course) (s : Server) (stand : Stand) → Fits (s.id ∷ []) h.chosen h.book stand → Above low stand
      → ActClimbs (applying_at (node_at stand)) (Some (happens_at course (record s { stand = stand }) apply []))
  apply_climbs course s (Down kept rest) fits above = unmoved (Some (happens_at course (record s { stand = Down kept rest }) apply []).0) tt
  apply_climbs course s (Running n) fits above =
      let was_within : n.applied ≤ n.commit = fits.0.within in
      let covers : n.commit ≤ length h.chosen = fits.1 in
      let noted = applying (n.commit - n.applied) n in
      let leaves = applying_climbs (h.book ++ noted) (length h.chosen) (n.commit - n.applied) (unchanged n) low within (omega (arith, was_within, covers)) above in
      record {
        mark = leaves.mark;
        climbs = leaves.climbs;
        within = leaves.within;
        above = ended_above leaves.mark (fate course s.armed (apply n).records) course (record s { stand = Running n }) n (apply n) [] leaves.rises;
      }

  -- a turn of an ask, with what is noted of it
  abbrev Asks : Course → Server → Node → ℕ → Op → Turn → Type 0
  Asks course s n number op turn =
      Climbed (h.book ++ Asked number op ∷ said course s.armed turn n.applied) low (Asked number op ∷ said course s.armed turn n.applied) (length h.chosen)
      (Some (happens course s n turn (number ∷ [])).0)

  says_climbs : (course : Course) (s : Server) (n : Node) (number : ℕ) (op : Op) (say : Say)
      → counts (op_of (h.book ++ Asked number op ∷ Answered number say n.applied ∷ []) number) say ≡ false → Rises low n.waiting (length n.log) → Asks course s n number op (says n number say)
  says_climbs course s n number op say other rises = record {
    mark = low;
    climbs = subst (Behind (λ (mark : ℕ). mark ≤ low) low n.applied) (sym other) (omega arith);
    within = within;
    above = rises;
  }

  taken_climbs : (course : Course) (s : Server) (n : Node) (number : ℕ) (op : Op) (items : List Item) → Rises low n.waiting (length n.log) → Asks course s n number op (taken_up n number items)
  taken_climbs course s n number op items rises = at (fate course s.armed (taken_up n number items).records)
    where
      entry : LogEntry
      entry = entry_in (waits n number) (content.Execute items)

      above : Rises low (n.waiting ++ record { index = length n.log + 1; number = number } ∷ []) (length (n.log ++ entry ∷ []))
      above = subst (Rises low (n.waiting ++ record { index = length n.log + 1; number = number } ∷ [])) (sym (length-append n.log (entry ∷ [])))
          (rises_behind n.waiting low (length n.log) number rises)

      at : (f : Fate) → Climbed (h.book ++ Asked number op ∷ said_by f (taken_up n number items) n.applied) low (Asked number op ∷ said_by f (taken_up n number items) n.applied) (length h.chosen)
          (Some (ended f course s n (taken_up n number items) (number ∷ [])).0)
      at Done = record { mark = low; climbs = omega arith; within = within; above = above }
      at Struck = record { mark = low; climbs = omega arith; within = within; above = tt }
      at Failed = record { mark = low; climbs = omega arith; within = within; above = tt }

  execute_climbs : (course : Course) (s : Server) (n : Node) (number : ℕ) (items : List Item) → Rises low n.waiting (length n.log) → Asks course s n number (Write items) (execute n number items)
  execute_climbs course s n number items rises = at (is_leader n.role)
    where
      sized : (b : Bool) → Asks course s n number (Write items) (if b then says n number (Refused (EntryTooLarge (length (execute_bytes items)))) else taken_up n number items)
      sized true = says_climbs course s n number (Write items) (Refused (EntryTooLarge (length (execute_bytes items)))) refl rises
      sized false = taken_climbs course s n number (Write items) items rises

      at : (b : Bool) → Asks course s n number (Write items) (if b then execute_sized n number items (length (execute_bytes items)) else says n number (Refused (NoLeader n.term)))
      at true = sized (nat_lt most_bytes (length (execute_bytes items)))
      at false = says_climbs course s n number (Write items) (Refused (NoLeader n.term)) refl rises

  query_climbs : (course : Course) (s : Server) (n : Node) (number : ℕ) (items : List Item) → op_of h.book number ≡ None → Rises low n.waiting (length n.log)
      → Asks course s n number (Read items) (query n number items)
  query_climbs course s n number items fresh rises =
      let noted = Answered number (Results (answer n.replica items)) n.applied ∷ [] in
      says_climbs course s n number (Read items) (Results (answer n.replica items))
      (ap is_write (op_behind h.book (Asked number (Read items) ∷ noted) number fresh ∙ same_number number (Read items) noted)) rises

  -- ---- at the server that is there

  acted_climbs : (c : Cluster) (id : List ℕ) (s : Server) (act : Server → Option (Server × List ℕ)) (noted : List Note) → ActClimbs noted (act s)
      → MayClimb noted (at_server (record c { server = Some s }) id act)
  acted_climbs c id s act noted climbed = by (bytes_eq s.id id)
    where
      acts : (o : Option (Server × List ℕ)) → ActClimbs noted o → MayClimb noted (option_map (λ (t : Server × List ℕ). (record c { server = Some t.0 }, t.1)) o)
      acts None none = tt
      acts (Some t) good = good

      by : (b : Bool) → MayClimb noted (if b then option_map (λ (t : Server × List ℕ). (record c { server = Some t.0 }, t.1)) (act s) else None)
      by true = acts (act s) climbed
      by false = tt

  server_climbs : (c : Cluster) (id : List ℕ) (act : Server → Option (Server × List ℕ)) (noted : Option Server → List Note) → FitsAt h.chosen h.book c.server → AboveAt low c.server
      → ((s : Server) (stand : Stand) → Fits (s.id ∷ []) h.chosen h.book stand → Above low stand → ActClimbs (noted (Some (record s { stand = stand }))) (act (record s { stand = stand })))
      → MayClimb (noted c.server) (at_server c id act)
  server_climbs c id act noted fits above climbed = at c.server fits above
    where
      at : (o : Option Server) → FitsAt h.chosen h.book o → AboveAt low o → MayClimb (noted o) (at_server (record c { server = o }) id act)
      at None fit over = tt
      at (Some s) fit over = acted_climbs c id s act (noted (Some s)) (climbed s s.stand fit over)

  asked_climbs : (c : Cluster) (course : Course) (id body : List ℕ) (rule : ℕ → List Item → Node → Turn) (items : List Item) (op : Op) → FitsAt h.chosen h.book c.server → AboveAt low c.server
      → ((s : Server) (n : Node) → Rises low n.waiting (length n.log) → Asks course s n (c.asks + 1) op (rule (c.asks + 1) items n))
      → MayClimb (asking course c.server (c.asks + 1) op (rule (c.asks + 1) items)) (ask_at course c id rule items body)
  asked_climbs c course id body rule items op fits above asks = by (texts_of body)
    where
      at : (s : Server) (stand : Stand) → Fits (s.id ∷ []) h.chosen h.book stand → Above low stand
          → ActClimbs (asking course (Some (record s { stand = stand })) (c.asks + 1) op (rule (c.asks + 1) items))
          (Some (happens_at course (record s { stand = stand }) (rule (c.asks + 1) items) ((c.asks + 1) ∷ [])))
      at s (Running n) fit over = asks (record s { stand = Running n }) n over
      at s (Down kept rest) fit over = record { mark = low; climbs = omega arith; within = within; above = tt }

      by : (o : Option (List (List ℕ))) → MayClimb (asking course c.server (c.asks + 1) op (rule (c.asks + 1) items))
          (option_and_then (λ (t : List (List ℕ)). event_at course (record c { asks = c.asks + 1 }) id (rule (c.asks + 1) items) ((c.asks + 1) ∷ [])) o)
      by None = tt
      by (Some texts) = server_climbs (record c { asks = c.asks + 1 }) id (λ s. Some (happens_at course s (rule (c.asks + 1) items) ((c.asks + 1) ∷ [])))
          (λ o. asking course o (c.asks + 1) op (rule (c.asks + 1) items)) fits above at

  -- the log that a start shows has all that was chosen
  opens_climbs : (course : Course) (s : Server) (kept : Persistent) (rest : List StoredRecord) (fault : Fault) → ((stands : ℕ) → low ≤ length (persistent_after kept (take stands rest)).log)
      → ActClimbs [] (Some (opens (record course { fault = fault }) (record s { stand = Down kept rest }) kept rest))
  opens_climbs course s kept rest NoFault covers = unmoved (Some (opens (record course { fault = NoFault }) (record s { stand = Down kept rest }) kept rest).0) (covers course.stands)
  opens_climbs course s kept rest Reading covers = unmoved (Some (opens (record course { fault = Reading }) (record s { stand = Down kept rest }) kept rest).0) tt
  opens_climbs course s kept rest Storing covers = unmoved (Some (opens (record course { fault = Storing }) (record s { stand = Down kept rest }) kept rest).0) tt

  found_climbs : (c : Cluster) (course : Course) (id : List ℕ) → FitsAt h.chosen h.book c.server → MayClimb [] (founded course c id)
  found_climbs c course id fits = at c.server fits
    where
      at : (o : Option Server) → FitsAt h.chosen h.book o → MayClimb [] (founded course (record c { server = o }) id)
      at None none = opens_climbs course (new_server id) first_persistent [] course.fault (λ stands. (let empty = ap length none.0 in omega (arith, empty, within)))
      at (Some s) fit = tt

  start_climbs : (course : Course) (s : Server) (stand : Stand) → Fits (s.id ∷ []) h.chosen h.book stand → Above low stand → ActClimbs [] (starts course (record s { stand = stand }))
  start_climbs course s (Running n) fits above = tt
  start_climbs course s (Down kept rest) fits above =
      opens_climbs course s kept rest course.fault
      (λ stands. (let covers = begins_length h.chosen (persistent_after kept (take stands rest)).log (fits stands) in omega (arith, covers, within)))

  stop_climbs : (s : Server) (stand : Stand) → Fits (s.id ∷ []) h.chosen h.book stand → Above low stand → ActClimbs [] (stops (record s { stand = stand }))
  stop_climbs s (Running n) fits above = record { mark = low; climbs = omega arith; within = within; above = tt }
  stop_climbs s (Down kept rest) fits above = tt

  arm_climbs : (calls pick : ℕ) (s : Server) (stand : Stand) → Fits (s.id ∷ []) h.chosen h.book stand → Above low stand → ActClimbs [] (arms calls pick (record s { stand = stand }))
  arm_climbs calls pick s (Running n) fits above = record { mark = low; climbs = omega arith; within = within; above = above }
  arm_climbs calls pick s (Down kept rest) fits above = tt

  line_climbs : (c : Cluster) (line : Line) (items : List Item) (course : Course) → Sound h c → AboveAt low c.server → MayClimb (notes c line items course) (done items course c line)
  line_climbs c Skip items course sound above = unmoved c.server above
  line_climbs c (ClusterLine id) items course sound above = found_climbs c course id sound.fits
  line_climbs c (At id Elect) items course sound above =
      server_climbs c id (λ s. Some (happens_at course s elect [])) (λ _. []) sound.fits above (λ s stand _ over. elect_climbs course s stand over)
  line_climbs c (At id Apply) items course sound above =
      server_climbs c id (λ s. Some (happens_at course s apply [])) (λ o. applying_at (option_and_then (λ (s : Server). node_at s.stand) o)) sound.fits above (apply_climbs course)
  line_climbs c (At id (Execute body)) items course sound above =
      asked_climbs c course id body (λ number read n. execute n number read) items (Write items) sound.fits above (λ s n rises. execute_climbs course s n (c.asks + 1) items rises)
  line_climbs c (At id (Query body)) items course sound above =
      asked_climbs c course id body (λ number read n. query n number read) items (Read items) sound.fits above
      (λ s n rises. query_climbs course s n (c.asks + 1) items (sound.fresh (c.asks + 1) (omega arith)) rises)
  line_climbs c (At id Stop) items course sound above = server_climbs c id stops (λ _. []) sound.fits above stop_climbs
  line_climbs c (At id (StopWithin calls pick)) items course sound above = server_climbs c id (arms calls pick) (λ _. []) sound.fits above (arm_climbs calls pick)
  line_climbs c (At id Start) items course sound above = server_climbs c id (starts course) (λ _. []) sound.fits above (start_climbs course)
  line_climbs c (At id Show) items course sound above =
      server_climbs c id (λ s. Some (s, shown s.id s.stand)) (λ _. []) sound.fits above (λ s stand _ over. unmoved (Some (record s { stand = stand })) over)

  pub step_climbs : (c : Cluster) (bytes : List ℕ) (items : List Item) (course : Course) → Sound h c → AboveAt low c.server
      → MayClimb (notes_of c (line_of bytes) items course) (step items course c bytes)
  unfolding step
  step_climbs c bytes items course sound above = at (line_of bytes)
    where
      at : (o : Option Line) → MayClimb (notes_of c o items course) (option_and_then (done items course c) o)
      at None = tt
      at (Some line) = line_climbs c line items course sound above
