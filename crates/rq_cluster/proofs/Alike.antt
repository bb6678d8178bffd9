-- A line that can stand somewhere leads somewhere, whatever its statements are read as.
use Rattle.std.proofs.Common.{◌≡◌, ℕ, ◌+◌, List, [], ◌∷◌, Bool, true, false, bytes_eq, if◌then◌else◌, Option, Some, None, option_and_then, refl, sym, ◌∙◌, ap}
use Rattle.rq_statement.specs.declared.item.Item.{Item}
use Rattle.rq_json.specs.Body.{texts_of}
use Rattle.rq_settle.specs.Prepared.{IsPrepared}
use Rattle.rq_node.specs.Node.{Node, Turn}
use Rattle.rq_node.specs.Rules.{execute, query}
use Rattle.rq_script.specs.Cluster.{Server, Cluster, Course, whole, Written, happens_at, event_at, ask_at, done, step, Steps}
use Rattle.rq_script.specs.Preparing.{statements_in, AreRead}
use Rattle.rq_script.specs.ScriptLine.{Line, Skip, Cluster as ClusterLine, At, Elect, Apply, Execute, Query, Stop, StopWithin, Start, Show, line_of}

-- each text is prepared as some item
abbrev pub Readable : Type 0
Readable = (text : List ℕ) → (item : Item) × IsPrepared text item

some_items : Readable → (texts : List (List ℕ)) → (items : List Item) × AreRead texts items
some_items readable [] = ([], tt)
some_items readable (text ∷ texts) = let one = readable text in let rest = some_items readable texts in (one.0 ∷ rest.0, (one.1, rest.1))

module _ (course : Course) (c : Cluster) (id : List ℕ) (rule rule' : Node → Turn) (asked : List ℕ) where
  at_one : (r : Node → Turn) (s : Server) (b : Bool) → c.server ≡ Some s → bytes_eq s.id id ≡ b
      → event_at course c id r asked ≡ (if b then Some (record c { server = Some (happens_at course s r asked).0 }, (happens_at course s r asked).1) else None)
  at_one r s b is same =
      ap (λ (o : Option Server). event_at course (record c { server = o }) id r asked) is
      ∙ ap (λ (b : Bool). if b then Some (record c { server = Some (happens_at course s r asked).0 }, (happens_at course s r asked).1) else None) same

  at_none : (r : Node → Turn) → c.server ≡ None → event_at course c id r asked ≡ None
  at_none r is = ap (λ (o : Option Server). event_at course (record c { server = o }) id r asked) is

  events_alike : (x : Written) → event_at course c id rule asked ≡ Some x → (y : Written) × (event_at course c id rule' asked ≡ Some y)
  events_alike x is = at c.server refl
    where
      at : (o : Option Server) → c.server ≡ o → (y : Written) × (event_at course c id rule' asked ≡ Some y)
      at None none = let e = at_none rule none in absurd (cc)
      at (Some s) some = by (bytes_eq s.id id) refl
        where
          by : (b : Bool) → bytes_eq s.id id ≡ b → (y : Written) × (event_at course c id rule' asked ≡ Some y)
          by true same = ((record c { server = Some (happens_at course s rule' asked).0 }, (happens_at course s rule' asked).1), at_one rule' s true some same)
          by false other = let e = at_one rule s false some other in absurd (cc)

asks_alike : (course : Course) (c : Cluster) (id body : List ℕ) (rule : ℕ → List Item → Node → Turn) (items : List Item) (x : Written) → ask_at course c id rule [] body ≡ Some x
    → (y : Written) × (ask_at course c id rule items body ≡ Some y)
asks_alike course c id body rule items x is = at (texts_of body) refl
  where
    event : List Item → Option Written
    event read = event_at course (record c { asks = c.asks + 1 }) id (rule (c.asks + 1) read) ((c.asks + 1) ∷ [])

    at : (o : Option (List (List ℕ))) → texts_of body ≡ o → (y : Written) × (ask_at course c id rule items body ≡ Some y)
    at None none = let e : ask_at course c id rule [] body ≡ None = ap (option_and_then (λ (t : List (List ℕ)). event [])) none in absurd (cc)
    at (Some texts) some =
        let one : event [] ≡ Some x = sym (ap (option_and_then (λ (t : List (List ℕ)). event [])) some) ∙ is in
        let other = events_alike course (record c { asks = c.asks + 1 }) id (rule (c.asks + 1) []) (rule (c.asks + 1) items) ((c.asks + 1) ∷ []) x one in
        (other.0, ap (option_and_then (λ (t : List (List ℕ)). event items)) some ∙ other.1)

lines_alike : (course : Course) (c : Cluster) (line : Line) (items : List Item) (x : Written) → done [] course c line ≡ Some x → (y : Written) × (done items course c line ≡ Some y)
lines_alike course c Skip items x is = (x, is)
lines_alike course c (ClusterLine id) items x is = (x, is)
lines_alike course c (At id Elect) items x is = (x, is)
lines_alike course c (At id Apply) items x is = (x, is)
lines_alike course c (At id (Execute body)) items x is = asks_alike course c id body (λ number read n. execute n number read) items x is
lines_alike course c (At id (Query body)) items x is = asks_alike course c id body (λ number read n. query n number read) items x is
lines_alike course c (At id Stop) items x is = (x, is)
lines_alike course c (At id (StopWithin calls pick)) items x is = (x, is)
lines_alike course c (At id Start) items x is = (x, is)
lines_alike course c (At id Show) items x is = (x, is)

step_is : (items : List Item) (course : Course) (c : Cluster) (bytes : List ℕ) (o : Option Line) → line_of bytes ≡ o → step items course c bytes ≡ option_and_then (done items course c) o
unfolding step
step_is items course c bytes o is = ap (option_and_then (done items course c)) is

-- a line that can stand here leads somewhere
pub steps_somewhere : Readable → (c : Cluster) (bytes : List ℕ) (x : Written) → step [] whole c bytes ≡ Some x → (text : List ℕ) × (next : Cluster) × Steps c bytes text next
steps_somewhere readable c bytes x is = at (line_of bytes) refl
  where
    at : (o : Option Line) → line_of bytes ≡ o → (text : List ℕ) × (next : Cluster) × Steps c bytes text next
    at None none = let e = step_is [] whole c bytes None none in absurd (cc)
    at (Some line) some =
        let items = some_items readable (statements_in (line_of bytes)) in
        let other = lines_alike whole c line items.0 x (sym (step_is [] whole c bytes (Some line) some) ∙ is) in
        (other.0.1, other.0.0, (record { items = items.0; are_read = items.1; course = whole }, step_is items.0 whole c bytes (Some line) some ∙ other.1))
