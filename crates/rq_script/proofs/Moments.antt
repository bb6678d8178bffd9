-- Each line of a run keeps what the run promises.
use Rattle.std.proofs.Common.{◌≡◌, ◌<◌, ◌≤◌, ℕ, zero, suc, ◌+◌, ◌-◌, ◌==◌, ◌||◌, ◌^◌, nat_eq, nat_lt, List, [], ◌∷◌, ◌++◌, length, take, slice_get, Bool, true, false, if◌then◌else◌, bytes_eq, Option, Some, None, option_and_then, refl, sym, ◌∙◌, ap, subst, arith}
use Rattle.std.specs.Prelude.{⊤}
use Rattle.std.specs.Option.{option_map}
use Rattle.std.proofs.lemmas.List.{append-nil, length-append, take_all}
use Rattle.rq_statement.specs.declared.item.Item.{Item}
use Rattle.rq_request.specs.declared.say.Say.{Say}
use Rattle.rq_request.specs.declared.say.Say.TheVariants.{Results, Refused}
use Rattle.rq_request.specs.declared.say.NodeRefusal.TheVariants.{NoLeader, EntryTooLarge}
use Rattle.rq_engine.specs.Fold.{State, answer}
use Rattle.rq_statement.specs.Bytes.{execute_bytes}
use Rattle.rq_json.specs.Body.{texts_of}
use Rattle.rq_node.specs.declared.log_entry.LogEntry.{LogEntry}
use Rattle.rq_node.specs.declared.log_entry.Content.TheVariants as content
use Rattle.rq_node.specs.declared.role.Role.{Role}
use Rattle.rq_node.specs.declared.role.Role.TheVariants.{Leader}
use Rattle.rq_node.specs.declared.waiting.Waiting.{Waiting}
use Rattle.rq_node.specs.Sound.{most_bytes}
use Rattle.rq_node.specs.Node.{Node, Persistent, StoredRecord, Vote, Splice, Boot, Turn, persistent_of, persistent_after, unchanged, says}
use Rattle.rq_node.specs.Rules.{is_leader, entry_in, risen, led, elect, taken_up, execute_sized, execute, query, apply, started}
use Rattle.rq_node.specs.Files.{first_persistent}
use Rattle.rq_script.specs.ScriptLine.{Line, Skip, Cluster as ClusterLine, At, Elect, Apply, Execute, Query, Stop, StopWithin, Start, Show}
use Rattle.rq_script.specs.Cluster.{Stand, Running, Down, Server, Cluster, Written, new_server, Fault, NoFault, Reading, Storing, Course, Fate, Done, Struck, Failed, fate, gone_down, ended, happens, happens_at, opens, starts, stops, arms, shown, first_ids, at_server, event_at, ask_at, founded, done}
use Rattle.rq_script.specs.History.{Op, Write, Read, Note, Asked, Answered, History, said_by, said, applying, node_at, node_in, asking, applying_at, notes, chosen_with}
use Rattle.rq_script.specs.Promise.{folded, Begins, op_of, IsRight, IsKept, Grows}
use Rattle.rq_script.proofs.Prefixes.{begins_same, begins_on, begins_more, begins_take_same, get_last, longest}
use Rattle.rq_script.proofs.Histories.{AllRight, all_both, all_more, all_chosen, op_behind, applying_asks_nothing, Waits, AllWait, wait_more, wait_both, Stands, apply_all, apply_stores}

-- a server's stand fits what was chosen and noted
abbrev pub Fits : List (List ℕ) → List LogEntry → List Note → Stand → Type 0
Fits ids chosen book (Running n) = Stands ids chosen book n × (n.commit ≤ length chosen)
Fits ids chosen book (Down kept rest) = IsKept chosen (Down kept rest)

abbrev pub FitsAt : List LogEntry → List Note → Option Server → Type 0
FitsAt chosen book None = (chosen ≡ []) × (book ≡ [])
FitsAt chosen book (Some s) = Fits (s.id ∷ []) chosen book s.stand

-- no ask of a higher number was noted
abbrev pub Fresh : List Note → ℕ → Type 0
Fresh book asks = (number : ℕ) → asks < number → op_of book number ≡ None

-- the history fits the cluster
pub record Sound (h : History) (c : Cluster) : Type 0 where
  pub fits : FitsAt h.chosen h.book c.server
  pub right : AllRight (first_ids c.server) h.chosen h.book h.book
  pub fresh : Fresh h.book c.asks

-- the history with these notes more
abbrev pub after : History → List Note → Cluster → History
after h more next = record { book = h.book ++ more; chosen = chosen_with (node_in next) h.chosen }

abbrev pub Goes : History → List Note → Cluster → Type 0
Goes h more next = Sound (after h more next) next × Grows h (after h more next)

abbrev pub MayGo : History → List Note → Option Written → Type 0
MayGo h more None = ⊤
MayGo h more (Some x) = Goes h more x.0

-- what is noted of a line is right by what was chosen before it
abbrev pub NotesFit : List (List ℕ) → History → List Note → ℕ → Type 0
NotesFit ids h more asks = AllRight ids h.chosen h.book h.book × AllRight ids h.chosen (h.book ++ more) more × Fresh (h.book ++ more) asks

-- ---- behind a line

ends : (h : History) (more : List Note) (next : Cluster) → NotesFit (first_ids next.server) h more next.asks
    → Begins h.chosen (chosen_with (node_in next) h.chosen) → FitsAt (chosen_with (node_in next) h.chosen) (h.book ++ more) next.server → Goes h more next
ends h more next (before, right, fresh) grows fits = (
  record {
    fits = fits;
    right = all_both (first_ids next.server) (chosen_with (node_in next) h.chosen) (h.book ++ more) h.book more
        (all_more (first_ids next.server) h.chosen (chosen_with (node_in next) h.chosen) h.book more h.book grows before)
        (all_chosen (first_ids next.server) h.chosen (chosen_with (node_in next) h.chosen) (h.book ++ more) more grows right);
    fresh = fresh;
  },
  record { chosen = grows; book = begins_more h.book more },
)

-- the server's node runs
goes_on : (h : History) (c : Cluster) (more : List Note) (s : Server) (n : Node) → NotesFit (s.id ∷ []) h more c.asks → Stands (s.id ∷ []) h.chosen (h.book ++ more) n
    → Goes h more (record c { server = Some (record s { stand = Running n }) })
goes_on h c more s n noted stands =
    let both = longest h.chosen n.commit n.log stands.grown stands.inside in
    ends h more (record c { server = Some (record s { stand = Running n }) }) noted both.more
    (record { grown = both.inside; inside = stands.inside; within = stands.within; folds = stands.folds; waiting = stands.waiting }, both.covers)

-- it is down
goes_down : (h : History) (c : Cluster) (more : List Note) (s : Server) (kept : Persistent) (rest : List StoredRecord) → NotesFit (s.id ∷ []) h more c.asks → IsKept h.chosen (Down kept rest)
    → Goes h more (record c { server = Some (record s { stand = Down kept rest }) })
goes_down h c more s kept rest noted safe = ends h more (record c { server = Some (record s { stand = Down kept rest }) }) noted (begins_same h.chosen) safe

-- a node that stays as it is
still : (ids : List (List ℕ)) (h : History) (more : List Note) (n : Node) → Stands ids h.chosen h.book n → Stands ids h.chosen (h.book ++ more) n
still ids h more n stands = record {
  grown = stands.grown;
  inside = stands.inside;
  within = stands.within;
  folds = stands.folds;
  waiting = wait_more h.book more n.log n.log n.waiting (begins_same n.log) stands.waiting;
}

-- a server stays as it stands
stays : (h : History) (c : Cluster) (more : List Note) (s : Server) (stand : Stand) → NotesFit (s.id ∷ []) h more c.asks → Fits (s.id ∷ []) h.chosen h.book stand
    → Goes h more (record c { server = Some (record s { stand = stand }) })
stays h c more s (Running n) noted (stands, covers) = goes_on h c more s n noted (still (s.id ∷ []) h more n stands)
stays h c more s (Down kept rest) noted safe = goes_down h c more s kept rest noted safe

-- nothing is noted
nothing : (h : History) (c : Cluster) → Sound h c → NotesFit (first_ids c.server) h [] c.asks
nothing h c sound = (sound.right, tt, λ number above. op_behind h.book [] number (sound.fresh number above))

-- ---- what is kept

keeps_nothing_more : (chosen : List LogEntry) (kept : Persistent) → Begins chosen kept.log → IsKept chosen (Down kept [])
keeps_nothing_more chosen kept begins zero = begins
keeps_nothing_more chosen kept begins (suc k) = begins

keeps_boot : (chosen : List LogEntry) (kept : Persistent) (boot : ℕ) → Begins chosen kept.log → IsKept chosen (Down kept (Boot boot ∷ []))
keeps_boot chosen kept boot begins zero = begins
keeps_boot chosen kept boot begins (suc zero) = begins
keeps_boot chosen kept boot begins (suc (suc k)) = begins

-- entries behind the last
spliced : (chosen log entries : List LogEntry) → Begins chosen log → Begins chosen (take (length log + 1 - 1) log ++ entries)
spliced chosen log entries begins =
    subst (λ (l : List LogEntry). Begins chosen (l ++ entries)) (sym (take_all (length log + 1 - 1) log (omega arith)))
    (begins_on chosen log (log ++ entries) begins (begins_more log entries))

keeps_splice : (chosen : List LogEntry) (kept : Persistent) (entries : List LogEntry) → Begins chosen kept.log → IsKept chosen (Down kept (Splice (length kept.log + 1) entries ∷ []))
keeps_splice chosen kept entries begins zero = begins
keeps_splice chosen kept entries begins (suc zero) = spliced chosen kept.log entries begins
keeps_splice chosen kept entries begins (suc (suc k)) = spliced chosen kept.log entries begins

keeps_vote : (chosen : List LogEntry) (kept : Persistent) (term : ℕ) (vote : Option (List ℕ)) (entries : List LogEntry) → Begins chosen kept.log
    → IsKept chosen (Down kept (Vote term vote ∷ Splice (length kept.log + 1) entries ∷ []))
keeps_vote chosen kept term vote entries begins zero = begins
keeps_vote chosen kept term vote entries begins (suc k) = keeps_splice chosen (record kept { term = term; vote = vote }) entries begins k

-- ---- a turn

-- where a turn leads, and what may be kept where it is broken off
pub record Leads (ids : List (List ℕ)) (h : History) (more : List Note) (n : Node) (turn : Turn) : Type 0 where
  pub stands : Stands ids h.chosen (h.book ++ more) turn.node
  pub safe : IsKept h.chosen (Down (persistent_of n) turn.records)

turn_good : (h : History) (c : Cluster) (s : Server) (n : Node) (course : Course) (turn : Turn) (asked : List ℕ) (more : List Note) → NotesFit (s.id ∷ []) h more c.asks → Leads (s.id ∷ []) h more n turn
    → (f : Fate) → Goes h more (record c { server = Some (ended f course s n turn asked).0 })
turn_good h c s n course turn asked more noted leads Done = goes_on h c more (ended Done course s n turn asked).0 turn.node noted leads.stands
turn_good h c s n course turn asked more noted leads Struck =
    goes_down h c more (ended Struck course s n turn asked).0 (persistent_after (persistent_of n) (take course.stands turn.records)) [] noted
    (keeps_nothing_more h.chosen (persistent_after (persistent_of n) (take course.stands turn.records)) (leads.safe course.stands))
turn_good h c s n course turn asked more noted leads Failed = goes_down h c more (ended Failed course s n turn asked).0 (persistent_of n) turn.records noted leads.safe

-- a turn that only answers, or does nothing
unchanged_leads : (ids : List (List ℕ)) (h : History) (more : List Note) (n : Node) → Stands ids h.chosen h.book n → Leads ids h more n (unchanged n)
unchanged_leads ids h more n stands = record { stands = still ids h more n stands; safe = keeps_nothing_more h.chosen (persistent_of n) stands.grown }

-- an entry more, which is committed at once
appended_stands : (ids : List (List ℕ)) (h : History) (more : List Note) (n : Node) (entry : LogEntry) (waiting : List Waiting) → Stands ids h.chosen h.book n → AllWait (h.book ++ more) (n.log ++ entry ∷ []) waiting
    → (term : ℕ) (vote : Option (List ℕ)) (role : Role)
    → Stands ids h.chosen (h.book ++ more) (record n { term = term; vote = vote; role = role; log = n.log ++ entry ∷ []; commit = length n.log + 1; waiting = waiting })
appended_stands ids h more n entry waiting stands all term vote role =
    let longer : Begins n.log (n.log ++ entry ∷ []) = begins_more n.log (entry ∷ []) in
    let count : length (n.log ++ entry ∷ []) ≡ length n.log + 1 = length-append n.log (entry ∷ []) in
    let was_within : n.applied ≤ n.commit = stands.within in
    let was_inside : n.commit ≤ length n.log = stands.inside in
    record {
      grown = begins_on h.chosen n.log (n.log ++ entry ∷ []) stands.grown longer;
      inside = omega (arith, count);
      within = omega (arith, was_within, was_inside);
      folds = stands.folds ∙ ap (folded ids) (sym (begins_take_same n.log (n.log ++ entry ∷ []) n.applied longer (omega (arith, was_within, was_inside))));
      waiting = all;
    }

-- ---- an event at the server that is there

abbrev pub MayAct : History → Cluster → List Note → Option (Server × List ℕ) → Type 0
MayAct h c more None = ⊤
MayAct h c more (Some t) = Goes h more (record c { server = Some t.0 })

-- at a server of another id nothing happens
acted_good : (h : History) (c : Cluster) (id : List ℕ) (s : Server) (act : Server → Option (Server × List ℕ)) (more : List Note) → MayAct h c more (act s)
    → MayGo h more (at_server (record c { server = Some s }) id act)
acted_good h c id s act more good = by (bytes_eq s.id id)
  where
    acts : (o : Option (Server × List ℕ)) → MayAct h c more o → MayGo h more (option_map (λ (t : Server × List ℕ). (record c { server = Some t.0 }, t.1)) o)
    acts None none = tt
    acts (Some t) goes = goes

    by : (b : Bool) → MayGo h more (if b then option_map (λ (t : Server × List ℕ). (record c { server = Some t.0 }, t.1)) (act s) else None)
    by true = acts (act s) good
    by false = tt

-- the lines that need a server: what is noted may hang on how it stands
server_good : (h : History) (c : Cluster) (id : List ℕ) (act : Server → Option (Server × List ℕ)) (more : Option Server → List Note) → Sound h c
    → ((s : Server) (stand : Stand) → Sound h (record c { server = Some (record s { stand = stand }) })
    → MayAct h c (more (Some (record s { stand = stand }))) (act (record s { stand = stand })))
    → MayGo h (more c.server) (at_server c id act)
server_good h c id act more sound good = at c.server sound
  where
    at : (o : Option Server) → Sound h (record c { server = o }) → MayGo h (more o) (at_server (record c { server = o }) id act)
    at None here = tt
    at (Some s) here = acted_good h c id s act (more (Some s)) (good s s.stand here)

-- ---- the lines

elect_leads : (ids : List (List ℕ)) (h : History) (n : Node) → Stands ids h.chosen h.book n → Leads ids h [] n (elect n)
elect_leads ids h n stands = at (is_leader n.role || (n.term == 2 ^ 64 - 1))
  where
    entry : LogEntry
    entry = entry_in (risen n) content.NoOp

    lead : Leads ids h [] n (led n)
    lead = record {
      stands = appended_stands ids h [] n entry n.waiting stands (wait_more h.book [] n.log (n.log ++ entry ∷ []) n.waiting (begins_more n.log (entry ∷ [])) stands.waiting) (n.term + 1) (Some n.id) Leader;
      safe = keeps_vote h.chosen (persistent_of n) (n.term + 1) (Some n.id) (entry ∷ []) stands.grown;
    }

    at : (b : Bool) → Leads ids h [] n (if b then unchanged n else led n)
    at true = unchanged_leads ids h [] n stands
    at false = lead

elect_good : (h : History) (c : Cluster) (course : Course) (s : Server) (stand : Stand) → Sound h (record c { server = Some (record s { stand = stand }) })
    → Goes h [] (record c { server = Some (happens_at course (record s { stand = stand }) elect []).0 })
elect_good h c course s (Running n) sound =
    turn_good h c (record s { stand = Running n }) n course (elect n) [] [] (nothing h (record c { server = Some (record s { stand = Running n }) }) sound)
    (elect_leads (s.id ∷ []) h n sound.fits.0) (fate course s.armed (elect n).records)
elect_good h c course s (Down kept rest) sound =
    goes_down h c [] (happens_at course (record s { stand = Down kept rest }) elect []).0 kept rest (nothing h (record c { server = Some (record s { stand = Down kept rest }) }) sound) sound.fits

apply_good : (h : History) (c : Cluster) (course : Course) (s : Server) (stand : Stand) → Sound h (record c { server = Some (record s { stand = stand }) })
    → Goes h (applying_at (node_at stand)) (record c { server = Some (happens_at course (record s { stand = stand }) apply []).0 })
apply_good h c course s (Down kept rest) sound =
    goes_down h c [] (happens_at course (record s { stand = Down kept rest }) apply []).0 kept rest (nothing h (record c { server = Some (record s { stand = Down kept rest }) }) sound) sound.fits
apply_good h c course s (Running n) sound =
    turn_good h c (record s { stand = Running n }) n course (apply n) [] noted (sound.right, both.1, fresh) leads (fate course s.armed (apply n).records)
  where
    noted : List Note
    noted = applying (n.commit - n.applied) n

    fresh : Fresh (h.book ++ noted) c.asks
    fresh = λ number above. op_behind h.book noted number (sound.fresh number above) ∙ applying_asks_nothing (n.commit - n.applied) n number

    bound : n.applied + (n.commit - n.applied) ≤ n.commit
    bound = let e = sound.fits.0.within in omega (arith, e)

    both : Stands (s.id ∷ []) h.chosen (h.book ++ noted) (apply n).node × AllRight (s.id ∷ []) h.chosen (h.book ++ noted) noted
    both = apply_all (s.id ∷ []) h.chosen (h.book ++ noted) (n.commit - n.applied) (unchanged n) (still (s.id ∷ []) h noted n sound.fits.0) sound.fits.1 bound

    leads : Leads (s.id ∷ []) h noted n (apply n)
    leads = record {
      stands = both.0;
      safe = subst (λ (l : List StoredRecord). IsKept h.chosen (Down (persistent_of n) l)) (sym (apply_stores (n.commit - n.applied) (unchanged n)))
          (keeps_nothing_more h.chosen (persistent_of n) sound.fits.0.grown);
    }

-- an ask whose number is new
pub same_number : (number : ℕ) (op : Op) (more : List Note) → op_of (Asked number op ∷ more) number ≡ Some op
same_number number op more = let e : nat_eq number number ≡ true = grind arith in ap (λ (b : Bool). if b then Some op else op_of more number) e

other_number : (number k : ℕ) (op : Op) (more : List Note) → number < k → op_of (Asked number op ∷ more) k ≡ op_of more k
other_number number k op more less = let e : nat_eq number k ≡ false = grind arith in ap (λ (b : Bool). if b then Some op else op_of more k) e

-- how the rule of an ask goes at a node: it answers and changes nothing, or it appends the list
pub data Ask (ids : List (List ℕ)) (chosen : List LogEntry) (n : Node) (number : ℕ) (op : Op) (turn : Turn) : Type 0 where
  says_now : (say : Say) → turn ≡ says n number say → IsRight ids chosen (Some op) say n.applied → Ask ids chosen n number op turn
  takes : (items : List Item) → op ≡ Write items → turn ≡ taken_up n number items → Ask ids chosen n number op turn

-- the list is answered later
said_later : (f : Fate) (n : Node) (number : ℕ) (items : List Item) (place : ℕ) → said_by f (taken_up n number items) place ≡ []
said_later Done n number items place = refl
said_later Struck n number items place = refl
said_later Failed n number items place = refl

module _ (s : Server) (h : History) (asks : ℕ) (right : AllRight (s.id ∷ []) h.chosen h.book h.book) (fresh : Fresh h.book asks) (op : Op) where
  abbrev pub noted : List Note → List Note
  noted more = Asked (asks + 1) op ∷ more

  asked_op : (more : List Note) → op_of (h.book ++ noted more) (asks + 1) ≡ Some op
  asked_op more = op_behind h.book (noted more) (asks + 1) (fresh (asks + 1) (omega arith)) ∙ same_number (asks + 1) op more

  fresh_behind : (more : List Note) → ((k : ℕ) → op_of more k ≡ None) → Fresh (h.book ++ noted more) (asks + 1)
  fresh_behind more none k above =
      op_behind h.book (noted more) k (fresh k (omega (arith, above))) ∙ other_number (asks + 1) k op more above ∙ none k

  -- the ask alone
  noted_alone : NotesFit (s.id ∷ []) h (noted []) (asks + 1)
  noted_alone = (right, (tt, tt), fresh_behind [] (λ _. refl))

  -- with its own answer
  noted_said : (say : Say) (place : ℕ) → IsRight (s.id ∷ []) h.chosen (Some op) say place → NotesFit (s.id ∷ []) h (noted (Answered (asks + 1) say place ∷ [])) (asks + 1)
  noted_said say place is = (
    right,
    (tt, (subst (λ (o : Option Op). IsRight (s.id ∷ []) h.chosen o say place) (sym (asked_op (Answered (asks + 1) say place ∷ []))) is, tt)),
    fresh_behind (Answered (asks + 1) say place ∷ []) (λ _. refl),
  )

  -- a list is appended
  taken_leads : (n : Node) (items : List Item) → op ≡ Write items → Stands (s.id ∷ []) h.chosen h.book n → Leads (s.id ∷ []) h (noted []) n (taken_up n (asks + 1) items)
  taken_leads n items is stands = record {
    stands = appended_stands (s.id ∷ []) h (noted []) n entry (n.waiting ++ w ∷ []) stands all n.term n.vote n.role;
    safe = keeps_splice h.chosen (persistent_of n) (entry ∷ []) stands.grown;
  }
    where
      entry : LogEntry
      entry = entry_in n (content.Execute items)

      w : Waiting
      w = record { index = length n.log + 1; number = asks + 1 }

      place : length n.log + 1 - 1 ≡ length n.log
      place = omega arith

      waits_for : Waits (h.book ++ noted []) (n.log ++ entry ∷ []) w
      waits_for = record {
        counts = omega arith;
        items = items;
        asked = asked_op [] ∙ ap (λ (o : Op). Some o) is;
        entry = entry;
        stands = ap (slice_get (n.log ++ entry ∷ [])) place ∙ get_last n.log entry;
        is_list = refl;
      }

      all : AllWait (h.book ++ noted []) (n.log ++ entry ∷ []) (n.waiting ++ w ∷ [])
      all = wait_both (h.book ++ noted []) (n.log ++ entry ∷ []) n.waiting (w ∷ [])
          (wait_more h.book (noted []) n.log (n.log ++ entry ∷ []) n.waiting (begins_more n.log (entry ∷ [])) stands.waiting) (waits_for, tt)

  -- a turn of an ask, with what is noted of it
  asked_turn : (c : Cluster) (course : Course) (n : Node) (turn : Turn) → c.asks ≡ asks + 1 → Stands (s.id ∷ []) h.chosen h.book n → Ask (s.id ∷ []) h.chosen n (asks + 1) op turn
      → Goes h (noted (said course s.armed turn n.applied)) (record c { server = Some (happens course s n turn ((asks + 1) ∷ [])).0 })
  asked_turn c course n turn counted stands (says_now say goes is) =
      subst (λ (t : Turn). Goes h (noted (said course s.armed t n.applied)) (record c { server = Some (happens course s n t ((asks + 1) ∷ [])).0 })) (sym goes)
      (turn_good h c s n course (says n (asks + 1) say) ((asks + 1) ∷ []) (noted (Answered (asks + 1) say n.applied ∷ []))
      (subst (NotesFit (s.id ∷ []) h (noted (Answered (asks + 1) say n.applied ∷ []))) (sym counted) (noted_said say n.applied is))
      (record { stands = still (s.id ∷ []) h (noted (Answered (asks + 1) say n.applied ∷ [])) n stands; safe = keeps_nothing_more h.chosen (persistent_of n) stands.grown }) Done)
  asked_turn c course n turn counted stands (takes items is goes) =
      subst (λ (t : Turn). Goes h (noted (said course s.armed t n.applied)) (record c { server = Some (happens course s n t ((asks + 1) ∷ [])).0 })) (sym goes)
      (at (fate course s.armed (taken_up n (asks + 1) items).records))
    where
      at : (f : Fate) → Goes h (noted (said_by f (taken_up n (asks + 1) items) n.applied)) (record c { server = Some (ended f course s n (taken_up n (asks + 1) items) ((asks + 1) ∷ [])).0 })
      at f =
          subst (λ (more : List Note). Goes h (noted more) (record c { server = Some (ended f course s n (taken_up n (asks + 1) items) ((asks + 1) ∷ [])).0 }))
          (sym (said_later f n (asks + 1) items n.applied))
          (turn_good h c s n course (taken_up n (asks + 1) items) ((asks + 1) ∷ []) (noted []) (subst (NotesFit (s.id ∷ []) h (noted [])) (sym counted) noted_alone) (taken_leads n items is stands) f)

-- an execute is refused, or appended
execute_asks : (ids : List (List ℕ)) (chosen : List LogEntry) (n : Node) (number : ℕ) (items : List Item) → Ask ids chosen n number (Write items) (execute n number items)
execute_asks ids chosen n number items = at (is_leader n.role)
  where
    sized : (b : Bool) → Ask ids chosen n number (Write items) (if b then says n number (Refused (EntryTooLarge (length (execute_bytes items)))) else taken_up n number items)
    sized true = says_now (Refused (EntryTooLarge (length (execute_bytes items)))) refl tt
    sized false = takes items refl refl

    at : (b : Bool) → Ask ids chosen n number (Write items) (if b then execute_sized n number items (length (execute_bytes items)) else says n number (Refused (NoLeader n.term)))
    at true = sized (nat_lt most_bytes (length (execute_bytes items)))
    at false = says_now (Refused (NoLeader n.term)) refl tt

query_asks : (ids : List (List ℕ)) (chosen : List LogEntry) (book : List Note) (n : Node) (number : ℕ) (items : List Item) → Stands ids chosen book n → n.commit ≤ length chosen
    → Ask ids chosen n number (Read items) (query n number items)
query_asks ids chosen book n number items stands covers =
    let was_within : n.applied ≤ n.commit = stands.within in
    says_now (Results (answer n.replica items)) refl (
      omega (arith, was_within, covers),
      ap (λ (r : State). answer r items) stands.folds
          ∙ ap (λ (l : List LogEntry). answer (folded ids l) items) (begins_take_same chosen n.log n.applied stands.grown (omega (arith, was_within, covers))),
    )

ask_good : (h : History) (c : Cluster) (course : Course) (id body : List ℕ) (rule : ℕ → List Item → Node → Turn) (items : List Item) (op : Op) → Sound h c
    → ((ids : List (List ℕ)) (n : Node) → Stands ids h.chosen h.book n → n.commit ≤ length h.chosen → Ask ids h.chosen n (c.asks + 1) op (rule (c.asks + 1) items n))
    → MayGo h (asking course c.server (c.asks + 1) op (rule (c.asks + 1) items)) (ask_at course c id rule items body)
ask_good h c course id body rule items op sound asks = by (texts_of body)
  where
    counted : Cluster
    counted = record c { asks = c.asks + 1 }

    at : (s : Server) (stand : Stand) → Sound h (record c { server = Some (record s { stand = stand }) })
        → Goes h (asking course (Some (record s { stand = stand })) (c.asks + 1) op (rule (c.asks + 1) items))
        (record c { asks = c.asks + 1; server = Some (happens_at course (record s { stand = stand }) (rule (c.asks + 1) items) ((c.asks + 1) ∷ [])).0 })
    at s (Running n) here =
        asked_turn (record s { stand = Running n }) h c.asks here.right here.fresh op (record c { asks = c.asks + 1 }) course n (rule (c.asks + 1) items n) refl here.fits.0 (asks (s.id ∷ []) n here.fits.0 here.fits.1)
    at s (Down kept rest) here =
        goes_down h (record c { asks = c.asks + 1 }) (Asked (c.asks + 1) op ∷ []) (happens_at course (record s { stand = Down kept rest }) (rule (c.asks + 1) items) ((c.asks + 1) ∷ [])).0 kept rest
        (noted_alone s h c.asks here.right here.fresh op) here.fits

    there : (o : Option Server) → Sound h (record c { server = o })
        → MayGo h (asking course o (c.asks + 1) op (rule (c.asks + 1) items)) (event_at course (record c { server = o; asks = c.asks + 1 }) id (rule (c.asks + 1) items) ((c.asks + 1) ∷ []))
    there None here = tt
    there (Some s) here = acted_good h (record c { asks = c.asks + 1 }) id s (λ s. Some (happens_at course s (rule (c.asks + 1) items) ((c.asks + 1) ∷ [])))
        (asking course (Some s) (c.asks + 1) op (rule (c.asks + 1) items)) (at s s.stand here)

    by : (o : Option (List (List ℕ))) → MayGo h (asking course c.server (c.asks + 1) op (rule (c.asks + 1) items))
        (option_and_then (λ (t : List (List ℕ)). event_at course (record c { asks = c.asks + 1 }) id (rule (c.asks + 1) items) ((c.asks + 1) ∷ [])) o)
    by None = tt
    by (Some texts) = there c.server sound

-- the files are opened
opens_good : (h : History) (c : Cluster) (s : Server) (kept : Persistent) (rest : List StoredRecord) (course : Course) (fault : Fault) → NotesFit (s.id ∷ []) h [] c.asks → IsKept h.chosen (Down kept rest)
    → Goes h [] (record c { server = Some (opens (record course { fault = fault }) (record s { stand = Down kept rest }) kept rest).0 })
opens_good h c s kept rest course NoFault noted safe =
    goes_on h c [] s (started s.id (persistent_after kept (take course.stands rest))).node noted
    (record { grown = safe course.stands; inside = omega arith; within = omega arith; folds = refl; waiting = tt })
opens_good h c s kept rest course Reading noted safe = goes_down h c [] (record s { failures = s.failures + 1 }) kept rest noted safe
opens_good h c s kept rest course Storing noted safe =
    goes_down h c [] (record s { failures = s.failures + 1 }) (persistent_after kept (take course.stands rest)) (started s.id (persistent_after kept (take course.stands rest))).records noted
    (keeps_boot h.chosen (persistent_after kept (take course.stands rest)) ((persistent_after kept (take course.stands rest)).boot + 1) (safe course.stands))

found_good : (h : History) (c : Cluster) (course : Course) (id : List ℕ) → Sound h c → MayGo h [] (founded course c id)
found_good h c course id sound = at c.server sound
  where
    at : (o : Option Server) → Sound h (record c { server = o }) → MayGo h [] (founded course (record c { server = o }) id)
    at None here =
        opens_good h c (new_server id) first_persistent [] course course.fault
        (subst (λ (b : List Note). AllRight (id ∷ []) h.chosen b b) (sym here.fits.1) tt, tt, (nothing h (record c { server = None }) here).2)
        (keeps_nothing_more h.chosen first_persistent (subst (λ (l : List LogEntry). Begins l []) (sym here.fits.0) (begins_same [])))
    at (Some s) here = tt

start_good : (h : History) (c : Cluster) (course : Course) (s : Server) (stand : Stand) → Sound h (record c { server = Some (record s { stand = stand }) })
    → MayAct h c [] (starts course (record s { stand = stand }))
start_good h c course s (Running n) sound = tt
start_good h c course s (Down kept rest) sound =
    opens_good h c s kept rest course course.fault (nothing h (record c { server = Some (record s { stand = Down kept rest }) }) sound) sound.fits

stop_good : (h : History) (c : Cluster) (s : Server) (stand : Stand) → Sound h (record c { server = Some (record s { stand = stand }) })
    → MayAct h c [] (stops (record s { stand = stand }))
stop_good h c s (Running n) sound =
    goes_down h c [] (gone_down (record s { stand = Running n }) n (persistent_of n) [] []) (persistent_of n) [] (nothing h (record c { server = Some (record s { stand = Running n }) }) sound)
    (keeps_nothing_more h.chosen (persistent_of n) sound.fits.0.grown)
stop_good h c s (Down kept rest) sound = tt

arm_good : (h : History) (c : Cluster) (calls pick : ℕ) (s : Server) (stand : Stand) → Sound h (record c { server = Some (record s { stand = stand }) })
    → MayAct h c [] (arms calls pick (record s { stand = stand }))
arm_good h c calls pick s (Running n) sound =
    stays h c [] (record s { armed = Some (record { calls = calls; pick = pick }) }) (Running n) (nothing h (record c { server = Some (record s { stand = Running n }) }) sound) sound.fits
arm_good h c calls pick s (Down kept rest) sound = tt

skip_good : (h : History) (c : Cluster) → Sound h c → Goes h [] c
skip_good h c sound = at c.server sound
  where
    at : (o : Option Server) → Sound h (record c { server = o }) → Goes h [] (record c { server = o })
    at None here = ends h [] (record c { server = None }) (nothing h (record c { server = None }) here) (begins_same h.chosen) (here.fits.0, append-nil h.book ∙ here.fits.1)
    at (Some s) here = stays h c [] s s.stand (nothing h (record c { server = Some s }) here) here.fits

show_good : (h : History) (c : Cluster) (s : Server) (stand : Stand) → Sound h (record c { server = Some (record s { stand = stand }) })
    → Goes h [] (record c { server = Some (record s { stand = stand }) })
show_good h c s stand sound = stays h c [] s stand (nothing h (record c { server = Some (record s { stand = stand }) }) sound) sound.fits

pub line_good : (h : History) (c : Cluster) (line : Line) (items : List Item) (course : Course) → Sound h c → MayGo h (notes c line items course) (done items course c line)
line_good h c Skip items course sound = skip_good h c sound
line_good h c (ClusterLine id) items course sound = found_good h c course id sound
line_good h c (At id Elect) items course sound = server_good h c id (λ s. Some (happens_at course s elect [])) (λ _. []) sound (elect_good h c course)
line_good h c (At id Apply) items course sound =
    server_good h c id (λ s. Some (happens_at course s apply [])) (λ o. applying_at (option_and_then (λ (s : Server). node_at s.stand) o)) sound (apply_good h c course)
line_good h c (At id (Execute body)) items course sound =
    ask_good h c course id body (λ number read n. execute n number read) items (Write items) sound (λ ids n _ _. execute_asks ids h.chosen n (c.asks + 1) items)
line_good h c (At id (Query body)) items course sound =
    ask_good h c course id body (λ number read n. query n number read) items (Read items) sound (λ ids n stands covers. query_asks ids h.chosen h.book n (c.asks + 1) items stands covers)
line_good h c (At id Stop) items course sound = server_good h c id stops (λ _. []) sound (stop_good h c)
line_good h c (At id (StopWithin calls pick)) items course sound = server_good h c id (arms calls pick) (λ _. []) sound (arm_good h c calls pick)
line_good h c (At id Start) items course sound = server_good h c id (starts course) (λ _. []) sound (start_good h c course)
line_good h c (At id Show) items course sound = server_good h c id (λ s. Some (s, shown s.id s.stand)) (λ _. []) sound (show_good h c)
