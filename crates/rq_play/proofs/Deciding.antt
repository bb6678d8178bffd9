-- Each line leads somewhere, or can't stand, or no random word is left for it.
use Rattle.std.proofs.Common.{◌≡◌, ◌≤◌, ℕ, ◌+◌, Bool, true, false, ◌⊎◌, inl, inr, if◌then◌else◌, Option, Some, None, Result, Ok, Err, List, [], ◌∷◌, ◌++◌, length, replicate, refl, sym, ap, ◌∙◌, subst, arith}
use Rattle.std.proofs.lemmas.List.{length-replicate, append-nil}
use Rattle.std.specs.Prelude.{nat_le}
use Rattle.rq_history.specs.History.{NodeId}
use Rattle.rq_raft.specs.Node.{one_of}
use Rattle.rq_grammar.specs.declared.stmt.Stmt.{Stmt}
use Rattle.rq_sql.specs.declared.error.ReadError.{ReadError}
use Rattle.rq_sql.specs.Read.{Means}
use Rattle.rq_statement.specs.declared.item.Item.{Item}
use Rattle.rq_request.specs.declared.statement.Params.{Params}
use Rattle.rq_request.specs.declared.statement.Statement.{Statement}
use Rattle.rq_binding.specs.declared.params.BindError.{BindError}
use Rattle.rq_binding.specs.declared.planning.Refusal.{Refusal}
use Rattle.rq_binding.specs.Bound.{bound}
use Rattle.rq_binding.specs.Settles.{stmt_plan}
use Rattle.rq_preparing.specs.declared.preparing.PrepareError.TheVariants as errors
use Rattle.rq_preparing.specs.Prepared.{IsPrepared, IsUnprepared, IsSettledItem, IsBoundItem, IsReadItem, bound_words, words_needed}
use Rattle.rq_asking.specs.Asked.{ArePrepared, Stop}
use Rattle.rq_world.specs.World.{NodeState, Running, Down}
use Rattle.rq_play.specs.Line.{Action, Line}
use Rattle.rq_play.specs.Line as lines
use Rattle.rq_play.specs.Said.{Said}
use Rattle.rq_play.specs.Server.{whole}
use Rattle.rq_play.specs.Asking.{statements}
use Rattle.rq_play.specs.Cluster.{Cluster, now, state_in, is_named, is_none, Prepared, Plan, at_server, before_cluster, in_cluster, planned, ran}
use Rattle.rq_play.specs.Reading.{IsReadIn, AreReadAt, LackAt, LacksWords}
use Rattle.rq_play.specs.Runs.{IsOutside}
use Rattle.rq_play.specs.Promise.{Leads, IsDecided}

abbrev stands : Option Plan → Bool
stands None = false
stands (Some plan) = true

-- whether it stands doesn't hang on what its statements are read as
action_stands : (c : Cluster) (i : NodeId) (action : Action) (p q : Prepared) → stands (at_server p c i action) ≡ stands (at_server q c i action)
action_stands c i lines.Elect p q = refl
action_stands c i lines.Beat p q = refl
action_stands c i lines.Flush p q = refl
action_stands c i lines.Apply p q = refl
action_stands c i lines.Compact p q = refl
action_stands c i (lines.Ask method target body) p q = refl
action_stands c i lines.Stop p q = refl
action_stands c i (lines.StopWithin calls pick) p q = refl
action_stands c i lines.Start p q = refl
action_stands c i lines.Cut p q = refl
action_stands c i lines.Heal p q = refl
action_stands c i lines.Show p q = refl

named_stands : (c : Cluster) (line : Line) (p q : Prepared) → stands (in_cluster p c line) ≡ stands (in_cluster q c line)
named_stands c lines.Skip p q = refl
named_stands c (lines.Cluster ids) p q = refl
named_stands c (lines.At i action) p q = by (is_named c i)
  where
    by : (b : Bool) → stands (if b then at_server p c i action else None) ≡ stands (if b then at_server q c i action else None)
    by true = action_stands c i action p q
    by false = refl
named_stands c (lines.Deliver number) p q = refl
named_stands c (lines.Run times) p q = refl
named_stands c (lines.Clock moment) p q = refl

line_stands : (c : Cluster) (line : Line) (p q : Prepared) → stands (planned p c line) ≡ stands (planned q c line)
line_stands c line p q = by (is_none c.servers)
  where
    by : (b : Bool) → stands (if b then before_cluster c line else in_cluster p c line) ≡ stands (if b then before_cluster c line else in_cluster q c line)
    by true = refl
    by false = named_stands c line p q

some_of : (o : Option Plan) → stands o ≡ true → (plan : Plan) × (o ≡ Some plan)
some_of None e = absurd (cc)
some_of (Some plan) e = (plan, refl)

none_of : (o : Option Plan) → stands o ≡ false → o ≡ None
none_of None e = refl
none_of (Some plan) e = absurd (cc)

-- ---- words

both_long : (a b : List ℕ) → length (a ++ b) ≡ length a + length b
both_long [] b = omega arith
both_long (x ∷ a) b = let h = both_long a b in omega (arith, h)

-- what is prepared had as many words as it needs
settled_enough : (b : Stmt) (m : ℕ) (old new : List ℕ) (refusal : Option Refusal) (item : Item) → IsSettledItem true b m old new refusal item → (stmt_plan b m).words ≤ length old
settled_enough b m old new (Some r) item is =
    let took = is.1 refl in
    let long : length old ≡ length (took.words ++ new) = ap length took.is in
    let sum = both_long took.words new in
    let count = took.count in
    omega (arith, long, sum, count)
settled_enough b m old new None item is =
    let ws = is.1.words in
    let long : length old ≡ length (ws ++ new) = ap length (is.1.taken refl) in
    let sum = both_long ws new in
    let count = is.1.settles.count in
    omega (arith, long, sum, count)

bound_enough : (m : ℕ) (old new : List ℕ) (x : Result Stmt BindError) (item : Item) → IsBoundItem true m old new x item → bound_words m x ≤ length old
bound_enough m old new (Err e) item is = omega arith
bound_enough m old new (Ok s) item is = settled_enough s m old new (stmt_plan s m).refusal item is

read_enough : (text : List ℕ) (p : Params) (m : ℕ) (old new : List ℕ) (x : Result Stmt ReadError) (item : Item) → IsReadItem true text p m old new x item → words_needed p m x ≤ length old
read_enough text p m old new (Err e) item is = omega arith
read_enough text p m old new (Ok s) item is = bound_enough m old new (bound s p) item is

abbrev pub Answers : Type 0
Answers = (text : List ℕ) (answer other : Result Stmt ReadError) → Means text answer → Means text other → answer ≡ other

abbrev pub OneItem : Type 0
OneItem = (text : List ℕ) (params : Params) (moment : ℕ) (old one two : List ℕ) (item other : Item) → IsPrepared true text params moment old one item → IsPrepared true text params moment old two other → item ≡ other

abbrev pub OneRest : Type 0
OneRest = (text : List ℕ) (params : Params) (moment : ℕ) (old one two : List ℕ) (item other : Item) → IsPrepared true text params moment old one item → IsPrepared true text params moment old two other → one ≡ two

one_enough : Answers → (text : List ℕ) (p : Params) (m : ℕ) (old new : List ℕ) (item : Item) → IsPrepared true text p m old new item → IsUnprepared true text p m old [] errors.Draws → Prim.⊥
one_enough one text p m old new item is un =
    let took = un.took refl in
    let same : is.answer ≡ un.answer = one text is.answer un.answer is.means un.means in
    let enough : words_needed p m un.answer ≤ length old = subst (λ (x : Result Stmt ReadError). words_needed p m x ≤ length old) same (read_enough text p m old new is.answer item is.is) in
    let long : length old ≡ length took.words = ap length (took.is ∙ append-nil took.words) in
    let few = took.count in
    absurd (omega (arith, enough, long, few))

all_enough : Answers → OneRest → (m : ℕ) (list : List Statement) (words left : List ℕ) (items : List Item) → ArePrepared true m list words left items → Stop true m list words [] → Prim.⊥
all_enough one rest m [] words left items is stop = absurd stop
all_enough one rest m (s ∷ list) words left [] is stop = absurd is
all_enough one rest m (s ∷ list) words left (i ∷ items) (between, first, more) (inl un) = one_enough one s.text s.params m words between i first un
all_enough one rest m (s ∷ list) words left (i ∷ items) (between, first, more) (inr (other, j, second, stop)) =
    all_enough one rest m list between left items more (subst (λ (w : List ℕ). Stop true m list w []) (rest s.text s.params m words other between j i second first) stop)

state_enough : Answers → OneRest → (s : NodeState) (m : ℕ) (words : List ℕ) (list : List Statement) (p : Prepared) → AreReadAt s m words list p → LackAt s m words list → Prim.⊥
state_enough one rest (Running n) m words list p read lack = all_enough one rest m list words p.left p.items read lack
state_enough one rest (Down kept more) m words list p read lack = absurd lack

line_enough : Answers → OneRest → (c : Cluster) (line : Line) (p : Prepared) → IsReadIn c line p → LacksWords c line → Prim.⊥
line_enough one rest c lines.Skip p read lack = absurd lack
line_enough one rest c (lines.Cluster ids) p read lack = absurd lack
line_enough one rest c (lines.At i action) p read lack = state_enough one rest (state_in c i) (now c).moment c.words (statements action) p read lack.1
line_enough one rest c (lines.Deliver number) p read lack = absurd lack
line_enough one rest c (lines.Run times) p read lack = absurd lack
line_enough one rest c (lines.Clock moment) p read lack = absurd lack

-- ---- an ask at a server of the cluster can stand

some_named : (ids : List NodeId) (i : NodeId) → one_of ids i ≡ true → is_none ids ≡ false
some_named [] i e = absurd (cc)
some_named (j ∷ ids) i e = refl

ask_stands : (c : Cluster) (i : NodeId) (method target body : List ℕ) (p : Prepared) → is_named c i ≡ true → stands (planned p c (lines.At i (lines.Ask method target body))) ≡ true
ask_stands c i method target body p named =
    ap (λ (b : Bool). stands (if b then None else (if is_named c i then at_server p c i (lines.Ask method target body) else None))) (some_named c.servers i named)
    ∙ ap (λ (b : Bool). stands (if b then at_server p c i (lines.Ask method target body) else None)) named

nothing : Prepared
nothing = record { items = []; left = [] }

outside_clash : (o : Option Plan) → o ≡ None → stands o ≡ true → Prim.⊥
outside_clash o e f = let t : false ≡ true = sym (ap stands e) ∙ f in absurd (cc)

none_lack : (s : NodeState) (m : ℕ) (words : List ℕ) → LackAt s m words [] → Prim.⊥
none_lack (Running n) m words lack = absurd lack
none_lack (Down kept rest) m words lack = absurd lack

action_lacks : (c : Cluster) (i : NodeId) (action : Action) → is_named c i ≡ true → LackAt (state_in c i) (now c).moment c.words (statements action) → IsOutside c (lines.At i action) → Prim.⊥
action_lacks c i (lines.Ask method target body) named lack outside = outside_clash (planned nothing c (lines.At i (lines.Ask method target body))) (outside nothing) (ask_stands c i method target body nothing named)
action_lacks c i lines.Elect named lack outside = none_lack (state_in c i) (now c).moment c.words lack
action_lacks c i lines.Beat named lack outside = none_lack (state_in c i) (now c).moment c.words lack
action_lacks c i lines.Flush named lack outside = none_lack (state_in c i) (now c).moment c.words lack
action_lacks c i lines.Apply named lack outside = none_lack (state_in c i) (now c).moment c.words lack
action_lacks c i lines.Compact named lack outside = none_lack (state_in c i) (now c).moment c.words lack
action_lacks c i lines.Stop named lack outside = none_lack (state_in c i) (now c).moment c.words lack
action_lacks c i (lines.StopWithin calls pick) named lack outside = none_lack (state_in c i) (now c).moment c.words lack
action_lacks c i lines.Start named lack outside = none_lack (state_in c i) (now c).moment c.words lack
action_lacks c i lines.Cut named lack outside = none_lack (state_in c i) (now c).moment c.words lack
action_lacks c i lines.Heal named lack outside = none_lack (state_in c i) (now c).moment c.words lack
action_lacks c i lines.Show named lack outside = none_lack (state_in c i) (now c).moment c.words lack

line_lacks : (c : Cluster) (line : Line) → IsOutside c line → LacksWords c line → Prim.⊥
line_lacks c lines.Skip outside lack = absurd lack
line_lacks c (lines.Cluster ids) outside lack = absurd lack
line_lacks c (lines.At i action) outside (named, lack) = action_lacks c i action named lack outside
line_lacks c (lines.Deliver number) outside lack = absurd lack
line_lacks c (lines.Run times) outside lack = absurd lack
line_lacks c (lines.Clock moment) outside lack = absurd lack

-- ---- lines

pub decided : Answers → OneRest → (c : Cluster) (line : Line) → IsDecided c line
decided one rest c line = record {
  either = λ p read. by p read (stands (planned p c line)) refl;
  apart = λ leads outside. clash leads.2.way.stands (outside leads.2.way.prepared);
  enough = λ leads lack. line_enough one rest c line leads.2.way.prepared leads.2.way.is_read lack;
  stands = line_lacks c line;
}
  where
    leads : (p : Prepared) → IsReadIn c line p → (plan : Plan) → planned p c line ≡ Some plan → Leads c line
    leads p read plan is =
        let courses = replicate plan.count whole in
        let w = ran plan.step courses plan.start in
        (w.1, w.0, record { way = record { prepared = p; is_read = read; plan = plan; stands = is; courses = courses }; whole = length-replicate plan.count whole; does = refl })

    by : (p : Prepared) → IsReadIn c line p → (t : Bool) → stands (planned p c line) ≡ t → Leads c line ⊎ IsOutside c line
    by p read true e = let w = some_of (planned p c line) e in inl (leads p read w.0 w.1)
    by p read false e = inr (λ q. none_of (planned q c line) (line_stands c line q p ∙ e))

    clash : {a : Option Plan} {plan : Plan} → a ≡ Some plan → a ≡ None → Prim.⊥
    clash e f = cc
