-- Lines at the server of a cluster.
use Rattle.std.proofs.Common.{◌≡◌, ◌⊎◌, inl, inr, ◌+◌, if◌then◌else◌, ℕ, Bool, true, false, not, List, [], ◌∷◌, ◌++◌, Option, Some, None, is_some, option_and_then, bytes_eq, refl, sym, ◌∙◌, ap, subst}
use Rattle.std.specs.Prelude.{SomeIff, MatchOption}
use Rattle.std.specs.Option.{option_map}
use Rattle.std.proofs.lemmas.List.{append-nil}
use Rattle.std.proofs.lemmas.Slice.Eq.{bytes_eq-Decides}
use Rattle.rq_outside.specs.declared.pair.DiskPair.{DiskPair}
use Rattle.rq_outside.specs.Disk.{DiskMeaning}
use Rattle.rq_statement.specs.declared.item.Item.{Item}
use Rattle.rq_json.specs.Body.{texts_of}
use Rattle.rq_node.specs.declared.event.Event.{Event}
use Rattle.rq_node.specs.declared.node.Node.{Node as RunningNode}
use Rattle.rq_node.specs.Node.{Node, Persistent, StoredRecord, Turn}
use Rattle.rq_node.specs.Rules.{elect, execute, query, apply}
use Rattle.rq_script.specs.Cluster.{Stand, Running, Down, Server, Cluster, Course, Written, at_server, event_at, ask_at, named, done, happens_at, stops, arms, starts, shown, whole}
use Rattle.rq_script.specs.Preparing.{listed, statements, AreRead}
use Rattle.rq_script.specs.ScriptText.{show_text, show_down_text}
use Rattle.rq_script.specs.ScriptLine.{Action, Line, Skip, At, Elect, Apply, Execute, Query, Stop, StopWithin, Start, Show}
use Rattle.rq_cluster.specs.Acting.{Act, event, turn, start as start_act, stop as stop_act, arm as arm_act, ShownAs, shown_at}
use Rattle.rq_cluster.specs.Events.{Puts, PutsNothing}
use Rattle.rq_cluster.specs.declared.host.Host.{Host}
use Rattle.rq_cluster.specs.declared.world.World.{World}
use Rattle.rq_cluster.specs.Refines.{RefinesServer, RefinesStand, RefinesHost, RefinesCluster, Goes, BreaksOff, Leads, DoesLine, BreaksLine, IsOutsideHere, with_host}
use Rattle.rq_cluster.specs.Recovery.{ServerStands}
use Rattle.rq_cluster.proofs.Turns.{node_shown, down_shown}

unnot : (b : Bool) → false ≡ not b → b ≡ true
unnot true is = refl
unnot false is = absurd (cc)

pub same_id : (id there given : List ℕ) → false ≡ not (bytes_eq there given) → there ≡ id → id ≡ given
same_id id there given is same = sym same ∙ (bytes_eq-Decides there given).0 (unnot (bytes_eq there given) is)

unis : (b : Bool) → true ≡ not b → b ≡ false
unis true is = absurd (cc)
unis false is = refl

pub other_id : (id there given : List ℕ) → true ≡ not (bytes_eq there given) → there ≡ id → bytes_eq id given ≡ false
other_id id there given is same = ap (λ (l : List ℕ). bytes_eq l given) (sym same) ∙ unis (bytes_eq there given) is

pub with_is : (w : World) (host : Host) → w.host ≡ Some host → with_host host w.asks ≡ w
with_is w host is = λ i. record w { host = sym is i }

some_of : {T : Type 0} (o : Option T) → is_some o ≡ true → (x : T) × (o ≡ Some x)
some_of None is = absurd (cc)
some_of (Some x) is = (x, refl)

pub none_of : {T : Type 0} (o : Option T) → is_some o ≡ false → o ≡ None
none_of None is = refl
none_of (Some x) is = absurd (cc)

-- ---- at the server that is there

at_is : (c : Cluster) (s : Server) (id : List ℕ) (act : Server → Option (Server × List ℕ)) (t : Server × List ℕ) → c.server ≡ Some s → bytes_eq s.id id ≡ true → act s ≡ Some t
    → at_server c id act ≡ Some (record c { server = Some t.0 }, t.1)
at_is c s id act t is same acts =
    let F : Server × List ℕ → Written = λ u. (record c { server = Some u.0 }, u.1) in
    ap (λ (o : Option Server). at_server (record c { server = o }) id act) is
    ∙ ap (λ (b : Bool). if b then option_map F (act s) else None) same
    ∙ ap (option_map F) acts

event_is : (course : Course) (c : Cluster) (s : Server) (id : List ℕ) (rule : Node → Turn) (asked : List ℕ) → c.server ≡ Some s → bytes_eq s.id id ≡ true
    → event_at course c id rule asked ≡ Some (record c { server = Some (event rule asked course s).0 }, (event rule asked course s).1)
event_is course c s id rule asked is same = at_is c s id (λ t. Some (happens_at course t rule asked)) (happens_at course s rule asked) is same refl

-- an ask whose body lists statements
ask_is : (course : Course) (c : Cluster) (s : Server) (id body : List ℕ) (texts : List (List ℕ)) (rule : ℕ → List Item → Node → Turn) (items : List Item)
    → texts_of body ≡ Some texts → c.server ≡ Some s → bytes_eq s.id id ≡ true
    → ask_at course c id rule items body
    ≡ Some (record c { server = Some (event (rule (c.asks + 1) items) ((c.asks + 1) ∷ []) course s).0; asks = c.asks + 1 }, (event (rule (c.asks + 1) items) ((c.asks + 1) ∷ []) course s).1)
ask_is course c s id body texts rule items lists is same =
    ap (option_and_then (λ (t : List (List ℕ)). event_at course (record c { asks = c.asks + 1 }) id (rule (c.asks + 1) items) ((c.asks + 1) ∷ []))) lists
    ∙ event_is course (record c { asks = c.asks + 1 }) s id (rule (c.asks + 1) items) ((c.asks + 1) ∷ []) is same

stop_is : (course : Course) (s : Server) (n : Node) → s.stand ≡ Running n → stops s ≡ Some (stop_act course s)
stop_is course s n is = ap (λ (st : Stand). stops (record s { stand = st })) is ∙ sym (ap (λ (st : Stand). Some (stop_act course (record s { stand = st }))) is)

arm_is : (calls pick : ℕ) (course : Course) (s : Server) (n : Node) → s.stand ≡ Running n → arms calls pick s ≡ Some (arm_act calls pick course s)
arm_is calls pick course s n is =
    ap (λ (st : Stand). arms calls pick (record s { stand = st })) is ∙ sym (ap (λ (st : Stand). Some (arm_act calls pick course (record s { stand = st }))) is)

start_is : (course : Course) (s : Server) (kept : Persistent) (rest : List StoredRecord) → s.stand ≡ Down kept rest → starts course s ≡ Some (start_act course s)
start_is course s kept rest is =
    ap (λ (st : Stand). starts course (record s { stand = st })) is ∙ sym (ap (λ (st : Stand). Some (start_act course (record s { stand = st }))) is)

-- what can't be done there
at_none : (c : Cluster) (s : Server) (id : List ℕ) (act : Server → Option (Server × List ℕ)) → c.server ≡ Some s → act s ≡ None → at_server c id act ≡ None
at_none c s id act is cannot =
    let F : Server × List ℕ → Written = λ u. (record c { server = Some u.0 }, u.1) in
    ap (λ (o : Option Server). at_server (record c { server = o }) id act) is
    ∙ ap (λ (o : Option (Server × List ℕ)). if bytes_eq s.id id then option_map F o else None) cannot
    ∙ by F (bytes_eq s.id id)
  where
    by : (F : Server × List ℕ → Written) (b : Bool) → (if b then option_map F None else None) ≡ None
    by F true = refl
    by F false = refl

-- where another server is named, and where none is there
at_other : (c : Cluster) (s : Server) (id : List ℕ) (act : Server → Option (Server × List ℕ)) → c.server ≡ Some s → bytes_eq s.id id ≡ false → at_server c id act ≡ None
at_other c s id act is other =
    let F : Server × List ℕ → Written = λ u. (record c { server = Some u.0 }, u.1) in
    ap (λ (o : Option Server). at_server (record c { server = o }) id act) is ∙ ap (λ (b : Bool). if b then option_map F (act s) else None) other

at_nobody : (c : Cluster) (id : List ℕ) (act : Server → Option (Server × List ℕ)) → c.server ≡ None → at_server c id act ≡ None
at_nobody c id act is = ap (λ (o : Option Server). at_server (record c { server = o }) id act) is

no_texts : (texts : Option (List (List ℕ))) (does : List (List ℕ) → Option Written) → ((t : List (List ℕ)) → does t ≡ None) → option_and_then does texts ≡ None
no_texts None does none = refl
no_texts (Some t) does none = none t

module _ (c : Cluster) (id : List ℕ) (none : (asks : ℕ) (act : Server → Option (Server × List ℕ)) → at_server (record c { asks = asks }) id act ≡ None) where
  nothing_at : (a : Action) → done [] whole c (At id a) ≡ None
  nothing_at Elect = none c.asks (λ s. Some (happens_at whole s elect []))
  nothing_at Apply = none c.asks (λ s. Some (happens_at whole s apply []))
  nothing_at (Execute body) = no_texts (texts_of body) (λ _. event_at whole (record c { asks = c.asks + 1 }) id (λ n. execute n (c.asks + 1) []) ((c.asks + 1) ∷ []))
      (λ _. none (c.asks + 1) (λ s. Some (happens_at whole s (λ n. execute n (c.asks + 1) []) ((c.asks + 1) ∷ []))))
  nothing_at (Query body) = no_texts (texts_of body) (λ _. event_at whole (record c { asks = c.asks + 1 }) id (λ n. query n (c.asks + 1) []) ((c.asks + 1) ∷ []))
      (λ _. none (c.asks + 1) (λ s. Some (happens_at whole s (λ n. query n (c.asks + 1) []) ((c.asks + 1) ∷ []))))
  nothing_at Stop = none c.asks stops
  nothing_at (StopWithin calls pick) = none c.asks (arms calls pick)
  nothing_at Start = none c.asks (starts whole)
  nothing_at Show = none c.asks (λ s. Some (s, shown s.id s.stand))

none_at : (c : Cluster) (id : List ℕ) (a : Action) → c.server ≡ None → done [] whole c (At id a) ≡ None
none_at c id a is = nothing_at c id (λ asks act. at_nobody (record c { asks = asks }) id act is) a

other_at : (c : Cluster) (s : Server) (id : List ℕ) (a : Action) → c.server ≡ Some s → bytes_eq s.id id ≡ false → done [] whole c (At id a) ≡ None
other_at c s id a is other = nothing_at c id (λ asks act. at_other (record c { asks = asks }) s id act is other) a

-- the server is printed
abbrev pub show_act : Act
show_act course s = (s, shown s.id s.stand)

abbrev same_asks : ℕ → ℕ
same_asks k = k

abbrev next_ask : ℕ → ℕ
next_ask k = k + 1

module _ {D F : Type 0} (told : Bool) (means : D → DiskMeaning) where
  -- the server that the world's host refines
  record IsServer (start pair : DiskPair D F) (host : Host) (c : Cluster) : Type 0 where
    s : Server
    there : c.server ≡ Some s
    refines : RefinesServer told means start pair host s

  server_refined : (start pair : DiskPair D F) (world : World) (host : Host) (c : Cluster) → world.host ≡ Some host → RefinesCluster told means start pair world c → IsServer start pair host c
  server_refined start pair world host c is refined = by c.server refl (subst (λ (o : Option Host). RefinesHost told means start pair o c.server) is refined.1)
    where
      by : (o : Option Server) → c.server ≡ o → RefinesHost told means start pair (Some host) o → IsServer start pair host c
      by (Some s) there refines = record { s = s; there = there; refines = refines }
      by None there nothing = absurd nothing

  -- the line does this at the server of the host
  pub record IsDone (line : Line) (act : Act) (items : List Item) (asks : ℕ → ℕ) (old : DiskPair D F) (from : World) (host : Host) : Type 0 where
    pub read : AreRead (statements line) items
    pub does : (start : DiskPair D F) (c : Cluster) (s : Server) (course : Course) → c.server ≡ Some s → RefinesServer told means start old host s → c.asks ≡ from.asks
        → done items course c line ≡ Some (record c { server = Some (act course s).0; asks = asks c.asks }, (act course s).1)

  module _ (line : Line) (act : Act) (items : List Item) (asks : ℕ → ℕ) (old new : DiskPair D F) (from : World) (host : Host)
      (d : IsDone line act items asks old from host) (is : from.host ≡ Some host) where
    pub line_does : (to : World) (after : Host) (before text : List ℕ) → to.host ≡ Some after → to.asks ≡ asks from.asks → Goes told means act old new host after before text
        → DoesLine told means line old new from to before text
    line_does to after before text there counts goes start c refined =
        let server = server_refined start old from host c is refined in
        let went = goes start server.s server.refines in
        let next : Cluster = record c { server = Some (act went.0 server.s).0; asks = asks c.asks } in (
          next,
          (act went.0 server.s).1,
          (items, went.0, d.read, d.does start c server.s went.0 server.there server.refines refined.0),
          went.2,
          (ap asks refined.0 ∙ sym counts, subst (λ (o : Option Host). RefinesHost told means start new o (Some (act went.0 server.s).0)) (sym there) went.1),
        )

    pub line_breaks : BreaksOff told means act old new host → BreaksLine told means line old new from
    line_breaks off start c refined =
        let server = server_refined start old from host c is refined in
        let broke = off start server.s server.refines in
        by server broke.0 broke.1 broke.2
      where
        by : (server : IsServer start old host c) (reached : Server) → ((reached ≡ server.s) ⊎ ((course : Course) × (reached ≡ (act course server.s).0))) → ServerStands told means start new (Some reached)
            → (reached : Cluster) × ((reached ≡ c) ⊎ (named c line ≡ Some reached) ⊎ ((written : List ℕ) × Leads c line written reached)) × ServerStands told means start new reached.server
        by server reached (inl same) stands =
            (c, inl refl, subst (λ (o : Option Server). ServerStands told means start new o) (ap (λ (r : Server). Some r) same ∙ sym server.there) stands)
        by server reached (inr (course, goes)) stands = (
          record c { server = Some (act course server.s).0; asks = asks c.asks },
          inr (inr ((act course server.s).1, (items, course, d.read, d.does start c server.s course server.there server.refines refined.0))),
          subst (λ (r : Server). ServerStands told means start new (Some r)) goes stands,
        )

  -- ---- each line

  module _ (old : DiskPair D F) (from : World) (host : Host) (id : List ℕ) (same : bytes_eq host.id id ≡ true) where
    this : (start : DiskPair D F) (s : Server) → RefinesServer told means start old host s → bytes_eq s.id id ≡ true
    this start s refines = ap (λ (i : List ℕ). bytes_eq i id) refines.id ∙ same

    pub elect_done : IsDone (At id Elect) (event elect []) [] same_asks old from host
    elect_done = record { read = tt; does = λ start c s course there refines asks. event_is course c s id elect [] there (this start s refines) }

    pub apply_done : IsDone (At id Apply) (event apply []) [] same_asks old from host
    apply_done = record { read = tt; does = λ start c s course there refines asks. event_is course c s id apply [] there (this start s refines) }

    pub show_done : IsDone (At id Show) show_act [] same_asks old from host
    show_done = record { read = tt; does = λ start c s course there refines asks. at_is c s id (λ t. Some (t, shown t.id t.stand)) (show_act course s) there (this start s refines) refl }

    pub stop_done : is_some host.node ≡ true → IsDone (At id Stop) stop_act [] same_asks old from host
    stop_done running = record {
      read = tt;
      does = λ start c s course there refines asks.
          let node = some_of host.node running in
          let at = node_shown told means start old host s refines node.0 node.1 in
          at_is c s id stops (stop_act course s) there (this start s refines) (stop_is course s at.n at.stand);
    }

    pub arm_done : (calls pick : ℕ) → is_some host.node ≡ true → IsDone (At id (StopWithin calls pick)) (arm_act calls pick) [] same_asks old from host
    arm_done calls pick running = record {
      read = tt;
      does = λ start c s course there refines asks.
          let node = some_of host.node running in
          let at = node_shown told means start old host s refines node.0 node.1 in
          at_is c s id (arms calls pick) (arm_act calls pick course s) there (this start s refines) (arm_is calls pick course s at.n at.stand);
    }

    pub start_done : is_some host.node ≡ false → IsDone (At id Start) start_act [] same_asks old from host
    start_done down = record {
      read = tt;
      does = λ start c s course there refines asks.
          let at = down_shown told means start old host s refines (none_of host.node down) in
          at_is c s id (starts course) (start_act course s) there (this start s refines) (start_is course s at.kept at.rest at.stand);
    }

    module _ (body : List ℕ) (texts : List (List ℕ)) (items : List Item) (number : ℕ) (lists : texts_of body ≡ Some texts) (read : AreRead texts items) (counts : number ≡ from.asks + 1) where
      ask_read : AreRead (listed (texts_of body)) items
      ask_read = subst (λ (o : Option (List (List ℕ))). AreRead (listed o) items) (sym lists) read

      ask_does : (rule : ℕ → List Item → Node → Turn) (start : DiskPair D F) (c : Cluster) (s : Server) (course : Course) → c.server ≡ Some s → RefinesServer told means start old host s → c.asks ≡ from.asks
          → ask_at course c id rule items body ≡ Some (record c { server = Some (event (rule number items) (number ∷ []) course s).0; asks = c.asks + 1 }, (event (rule number items) (number ∷ []) course s).1)
      ask_does rule start c s course there refines asks =
          subst (λ (k : ℕ). ask_at course c id rule items body ≡ Some (record c { server = Some (event (rule k items) (k ∷ []) course s).0; asks = c.asks + 1 }, (event (rule k items) (k ∷ []) course s).1))
          (ap (λ (k : ℕ). k + 1) asks ∙ sym counts) (ask_is course c s id body texts rule items lists there (this start s refines))

      pub execute_done : IsDone (At id (Execute body)) (event (λ n. execute n number items) (number ∷ [])) items next_ask old from host
      execute_done = record { read = ask_read; does = ask_does (λ number read n. execute n number read) }

      pub query_done : IsDone (At id (Query body)) (event (λ n. query n number items) (number ∷ [])) items next_ask old from host
      query_done = record { read = ask_read; does = ask_does (λ number read n. query n number read) }

  pub shown_goes : (pair : DiskPair D F) (host : Host) (before text : List ℕ) → ShownAs host before text → Goes told means show_act pair pair host host before text
  shown_goes pair host before text was start s refines = (whole, refines, was ∙ ap (λ (w : List ℕ). before ++ w) (by host.node s.stand refines.stand))
    where
      by : (o : Option RunningNode) (st : Stand) → RefinesStand told means pair s.id o st → shown_at host.id o ≡ shown s.id st
      by (Some node) (Running n) (state, _, _) = ap (λ (m : Node). show_text m) state
      by None (Down kept rest) _ = ap show_down_text (sym refines.id)
      by (Some node) (Down kept rest) nothing = absurd nothing
      by None (Running n) nothing = absurd nothing

  -- ---- an action at the server of a host

  module _ (old : DiskPair D F) (host : Host) (asks : ℕ) where
    same : bytes_eq host.id host.id ≡ true
    same = (bytes_eq-Decides host.id host.id).1 refl

    module _ (a : Action) (act : Act) (items : List Item) (counts : ℕ → ℕ) (d : IsDone (At host.id a) act items counts old (with_host host asks) host) (given : Action) (is : given ≡ a) where
      pub done_ok : (new : DiskPair D F) (after : Host) (count : ℕ) (before text : List ℕ) → count ≡ counts asks → Goes told means act old new host after before text
          → DoesLine told means (At host.id given) old new (with_host host asks) (with_host after count) before text
      done_ok new after count before text counted goes =
          subst (λ (b : Action). DoesLine told means (At host.id b) old new (with_host host asks) (with_host after count) before text) (sym is)
          (line_does (At host.id a) act items counts old new (with_host host asks) host d refl (with_host after count) after before text refl counted goes)

      pub done_breaks : (new : DiskPair D F) → BreaksOff told means act old new host → BreaksLine told means (At host.id given) old new (with_host host asks)
      done_breaks new off =
          subst (λ (b : Action). BreaksLine told means (At host.id b) old new (with_host host asks)) (sym is) (line_breaks (At host.id a) act items counts old new (with_host host asks) host d refl off)

    pub stop_here : is_some host.node ≡ true → IsDone (At host.id Stop) stop_act [] same_asks old (with_host host asks) host
    stop_here running = stop_done old (with_host host asks) host host.id same running

    pub arm_here : (calls pick : ℕ) → is_some host.node ≡ true → IsDone (At host.id (StopWithin calls pick)) (arm_act calls pick) [] same_asks old (with_host host asks) host
    arm_here calls pick running = arm_done old (with_host host asks) host host.id same calls pick running

    pub start_here : is_some host.node ≡ false → IsDone (At host.id Start) start_act [] same_asks old (with_host host asks) host
    start_here down = start_done old (with_host host asks) host host.id same down

    pub show_here : IsDone (At host.id Show) show_act [] same_asks old (with_host host asks) host
    show_here = show_done old (with_host host asks) host host.id same

    -- an event that an action puts to the node
    record IsPut (a : Action) (count : ℕ) (e : Event) : Type 0 where
      items : List Item
      counts : ℕ → ℕ
      d : IsDone (At host.id a) (turn e) items counts old (with_host host asks) host
      counted : count ≡ counts asks

    is_put : (a : Action) (count : ℕ) (e : Event) → Puts a asks count e → IsPut a count e
    is_put Elect count e (is, counted) = subst (λ (x : Event). IsPut Elect count x) (sym is) (record { items = []; counts = same_asks; d = elect_done old (with_host host asks) host host.id same; counted = counted })
    is_put Apply count e (is, counted) = subst (λ (x : Event). IsPut Apply count x) (sym is) (record { items = []; counts = same_asks; d = apply_done old (with_host host asks) host host.id same; counted = counted })
    is_put (Execute body) count e (number, items, is, ask) =
        subst (λ (x : Event). IsPut (Execute body) count x) (sym is)
        (record { items = items; counts = next_ask; d = execute_done old (with_host host asks) host host.id same body ask.texts items number ask.lists ask.read ask.next; counted = ask.counts })
    is_put (Query body) count e (number, items, is, ask) =
        subst (λ (x : Event). IsPut (Query body) count x) (sym is)
        (record { items = items; counts = next_ask; d = query_done old (with_host host asks) host host.id same body ask.texts items number ask.lists ask.read ask.next; counted = ask.counts })
    is_put Stop count e nothing = absurd nothing
    is_put (StopWithin calls pick) count e nothing = absurd nothing
    is_put Start count e nothing = absurd nothing
    is_put Show count e nothing = absurd nothing

    module _ (a : Action) (count : ℕ) (e : Event) (puts : Puts a asks count e) (new : DiskPair D F) where
      pub put_ok : (after : Host) (before text : List ℕ) → Goes told means (turn e) old new host after before text → DoesLine told means (At host.id a) old new (with_host host asks) (with_host after count) before text
      put_ok after before text goes = let p = is_put a count e puts in done_ok a (turn e) p.items p.counts p.d a refl new after count before text p.counted goes

      pub put_breaks : BreaksOff told means (turn e) old new host → BreaksLine told means (At host.id a) old new (with_host host asks)
      put_breaks off = let p = is_put a count e puts in done_breaks a (turn e) p.items p.counts p.d a refl new off

    -- ---- where it can't be done

    pub put_outside : (a : Action) → PutsNothing a → IsOutsideHere told means (At host.id a) old (with_host host asks)
    put_outside (Execute body) none = λ start c refined. ap (option_and_then (λ (t : List (List ℕ)). event_at whole (record c { asks = c.asks + 1 }) host.id (λ n. execute n (c.asks + 1) []) ((c.asks + 1) ∷ []))) none
    put_outside (Query body) none = λ start c refined. ap (option_and_then (λ (t : List (List ℕ)). event_at whole (record c { asks = c.asks + 1 }) host.id (λ n. query n (c.asks + 1) []) ((c.asks + 1) ∷ []))) none
    put_outside Elect nothing = absurd nothing
    put_outside Apply nothing = absurd nothing
    put_outside Stop nothing = absurd nothing
    put_outside (StopWithin calls pick) nothing = absurd nothing
    put_outside Start nothing = absurd nothing
    put_outside Show nothing = absurd nothing

    cannot : (a given : Action) → given ≡ a → ((start : DiskPair D F) (c : Cluster) → RefinesCluster told means start old (with_host host asks) c → done [] whole c (At host.id a) ≡ None)
        → IsOutsideHere told means (At host.id given) old (with_host host asks)
    cannot a given is outside = subst (λ (b : Action). IsOutsideHere told means (At host.id b) old (with_host host asks)) (sym is) outside

    pub stop_outside : (given : Action) → given ≡ Stop → is_some host.node ≡ false → IsOutsideHere told means (At host.id given) old (with_host host asks)
    stop_outside given is down = cannot Stop given is (λ start c refined.
        let server = server_refined start old (with_host host asks) host c refl refined in
        let at = down_shown told means start old host server.s server.refines (none_of host.node down) in
        at_none c server.s host.id stops server.there (ap (λ (st : Stand). stops (record server.s { stand = st })) at.stand))

    pub arm_outside : (given : Action) (calls pick : ℕ) → given ≡ StopWithin calls pick → is_some host.node ≡ false → IsOutsideHere told means (At host.id given) old (with_host host asks)
    arm_outside given calls pick is down = cannot (StopWithin calls pick) given is (λ start c refined.
        let server = server_refined start old (with_host host asks) host c refl refined in
        let at = down_shown told means start old host server.s server.refines (none_of host.node down) in
        at_none c server.s host.id (arms calls pick) server.there (ap (λ (st : Stand). arms calls pick (record server.s { stand = st })) at.stand))

    pub start_outside : (given : Action) → given ≡ Start → is_some host.node ≡ true → IsOutsideHere told means (At host.id given) old (with_host host asks)
    start_outside given is running = cannot Start given is (λ start c refined.
        let server = server_refined start old (with_host host asks) host c refl refined in
        let node = some_of host.node running in
        let at = node_shown told means start old host server.s server.refines node.0 node.1 in
        at_none c server.s host.id (starts whole) server.there (ap (λ (st : Stand). starts whole (record server.s { stand = st })) at.stand))

  -- no such server is there
  pub nobody_outside : (id : List ℕ) (a : Action) (old : DiskPair D F) (from : World) → from.host ≡ None → IsOutsideHere told means (At id a) old from
  nobody_outside id a old from none start c refined = none_at c id a (by c.server refl (subst (λ (o : Option Host). RefinesHost told means start old o c.server) none refined.1))
    where
      by : (o : Option Server) → c.server ≡ o → RefinesHost told means start old None o → c.server ≡ None
      by None there refines = there
      by (Some s) there nothing = absurd nothing

  pub other_outside : (id : List ℕ) (a : Action) (old : DiskPair D F) (from : World) (host : Host) → from.host ≡ Some host → bytes_eq host.id id ≡ false → IsOutsideHere told means (At id a) old from
  other_outside id a old from host is other start c refined =
      let server = server_refined start old from host c is refined in
      other_at c server.s id a server.there (ap (λ (i : List ℕ). bytes_eq i id) server.refines.id ∙ other)

  -- a line that is skipped
  pub skips : (pair : DiskPair D F) (world : World) (line : Line) (text : List ℕ) → line ≡ Skip → DoesLine told means line pair pair world world text text
  skips pair world line text is =
      subst (λ (l : Line). DoesLine told means l pair pair world world text text) (sym is)
      (λ start c refined. (c, [], ([], whole, tt, refl), sym (append-nil text), refined))

-- ---- what the parts of the code give

pub the_some : {T : Type 0} (o : Option T) (x v : T) (P : Type 0) → o ≡ Some x → SomeIff o P v → x ≡ v
the_some {T} o x v P is iff = (subst (λ (p : Option T). SomeIff p P v) is iff).1

pub of_some : {T : Type 0} (o : Option T) (x : T) (P : Type 0) (Q : T → Type 0) → o ≡ Some x → MatchOption o P Q → Q x
of_some {T} o x P Q is matches = subst (λ (p : Option T). MatchOption p P Q) is matches

pub of_none : {T : Type 0} (o : Option T) (P : Type 0) (Q : T → Type 0) → o ≡ None → MatchOption o P Q → P
of_none {T} o P Q is matches = subst (λ (p : Option T). MatchOption p P Q) is matches
