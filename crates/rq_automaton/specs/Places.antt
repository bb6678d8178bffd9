-- The states between expressions: what each token leads to.
use Rattle.std.specs.Prelude.{Bool, true, false, if◌then◌else◌, List, [], ◌∷◌, ◌++◌, Option, Some, None}
use Rattle.rq_grammar.specs.declared.word.Word.TheVariants as w
use Rattle.rq_grammar.specs.declared.token.Token.{Token}
use Rattle.rq_grammar.specs.declared.token.Token.TheVariants as t
use Rattle.rq_grammar.specs.declared.expr.Expr.{Expr}
use Rattle.rq_grammar.specs.declared.stmt.ColumnKind.TheVariants as kind
use Rattle.rq_grammar.specs.declared.stmt.ColumnDef.{ColumnDef}
use Rattle.rq_grammar.specs.declared.stmt.ResultItem.{ResultItem}
use Rattle.rq_grammar.specs.declared.stmt.ResultItem.TheVariants as item
use Rattle.rq_grammar.specs.declared.stmt.OrderTerm.{OrderTerm}
use Rattle.rq_grammar.specs.declared.stmt.SelectStmt.{SelectStmt}
use Rattle.rq_grammar.specs.declared.stmt.InsertRows.TheVariants as rows
use Rattle.rq_grammar.specs.declared.stmt.Stmt.{Stmt}
use Rattle.rq_grammar.specs.declared.stmt.Stmt.TheVariants as stmt
use Rattle.rq_automaton.specs.declared.place.NewTable.{NewTable}
use Rattle.rq_automaton.specs.declared.place.Target.{Target}
use Rattle.rq_automaton.specs.declared.place.Query.{Query}
use Rattle.rq_automaton.specs.declared.place.Stage.{Stage}
use Rattle.rq_automaton.specs.declared.place.Stage.TheVariants as stage
use Rattle.rq_automaton.specs.declared.place.Place.{Place}
use Rattle.rq_automaton.specs.declared.place.CreatePlace.{CreatePlace}
use Rattle.rq_automaton.specs.declared.place.DropPlace.{DropPlace}
use Rattle.rq_automaton.specs.declared.place.InsertPlace.{InsertPlace}
use Rattle.rq_automaton.specs.declared.place.UpdatePlace.{UpdatePlace}
use Rattle.rq_automaton.specs.declared.place.DeletePlace.{DeletePlace}
use Rattle.rq_automaton.specs.declared.place.SelectPlace.{SelectPlace}
use Rattle.rq_automaton.specs.declared.place.Place.TheVariants as p
use Rattle.rq_automaton.specs.declared.place.CreatePlace.TheVariants as cp
use Rattle.rq_automaton.specs.declared.place.DropPlace.TheVariants as dp
use Rattle.rq_automaton.specs.declared.place.InsertPlace.TheVariants as ip
use Rattle.rq_automaton.specs.declared.place.UpdatePlace.TheVariants as up
use Rattle.rq_automaton.specs.declared.place.DeletePlace.TheVariants as del
use Rattle.rq_automaton.specs.declared.place.SelectPlace.TheVariants as sp
use Rattle.rq_automaton.specs.declared.frame.Clause.{Clause}
use Rattle.rq_automaton.specs.declared.frame.Clause.TheVariants as c
use Rattle.rq_automaton.specs.declared.frame.Frame.TheVariants as f
use Rattle.rq_automaton.specs.declared.frame.State.{State}
use Rattle.rq_automaton.specs.declared.frame.State.TheVariants as s
use Rattle.rq_grammar.specs.Words.{Text, is_reserved}
use Rattle.rq_grammar.specs.Statements.{plain_column}
use Rattle.rq_automaton.specs.Stack.{operand}

-- ---- parts

abbrev pub flat : Place → Option State
flat x = Some (s.Flat x)

-- an expression of the clause is to come
abbrev pub inside : Clause → Option State
inside x = Some (s.Operand (f.Clause x ∷ []))

-- the name that the token is
abbrev pub name_of : Token → Option Text
name_of (t.Word n c) = if is_reserved c then None else Some n
name_of (t.Quoted n) = Some n
name_of _ = None

abbrev pub on_name : Option Text → (Text → Place) → Option State
on_name (Some n) next = flat (next n)
on_name None next = None

-- where a flag isn't set yet
abbrev pub unset : Bool → Place → Option State
unset true x = None
unset false x = flat x

abbrev pub new_table : Bool → Text → NewTable
new_table b n = record { if_not_exists = b; table = n; columns = [] }

abbrev pub add_column : NewTable → ColumnDef → NewTable
add_column x d = record x { columns = x.columns ++ d ∷ [] }

abbrev pub create : NewTable → Stmt
create x = stmt.Create x.if_not_exists x.table x.columns

abbrev pub with_primary : ColumnDef → ColumnDef
with_primary d = record d { primary = true }

abbrev pub with_not_null : ColumnDef → ColumnDef
with_not_null d = record d { not_null = true }

abbrev pub with_unique : ColumnDef → ColumnDef
with_unique d = record d { unique = true }

abbrev pub target : Text → Option (List Text) → Target
target n ns = record { table = n; columns = ns }

abbrev pub insert : Target → List (List Expr) → Stmt
insert i rs = stmt.Insert i.table i.columns (rows.Values rs)

abbrev pub query : Option Target → Query
query i = record { target = i; select = record { results = []; table = None; filter = None; order = []; limit = None; offset = None } }

abbrev pub add_result : Query → ResultItem → Query
add_result q i = record q { select = record q.select { results = q.select.results ++ i ∷ [] } }

abbrev pub with_table : Query → Text → Query
with_table q n = record q { select = record q.select { table = Some n } }

abbrev pub with_filter : Query → Expr → Query
with_filter q a = record q { select = record q.select { filter = Some a } }

abbrev pub add_term : Query → OrderTerm → Query
add_term q i = record q { select = record q.select { order = q.select.order ++ i ∷ [] } }

abbrev pub with_limit : Query → Expr → Query
with_limit q a = record q { select = record q.select { limit = Some a } }

abbrev pub with_offset : Query → Expr → Query
with_offset q a = record q { select = record q.select { offset = Some a } }

abbrev pub select_into : Option Target → SelectStmt → Stmt
select_into None x = stmt.Select x
select_into (Some i) x = stmt.Insert i.table i.columns (rows.Select x)

abbrev pub selected : Query → Stmt
selected q = select_into q.target q.select

-- ---- the token behind a place

abbrev pub start : Token → Option State
start (t.Word n w.Create) = flat (p.Create cp.Begun)
start (t.Word n w.Drop) = flat (p.Drop dp.Begun)
start (t.Word n w.Insert) = flat (p.Insert ip.Begun)
start (t.Word n w.Update) = flat (p.Update up.Begun)
start (t.Word n w.Delete) = flat (p.Delete del.Begun)
start (t.Word n w.Select) = flat (p.Select (sp.Result (query None)))
start _ = None

abbrev pub behind_create : Token → Option State
behind_create (t.Word n w.Table) = flat (p.Create cp.Table)
behind_create _ = None

abbrev pub behind_create_table : Token → Option State
behind_create_table (t.Word n w.If) = flat (p.Create (cp.If n))
behind_create_table u = on_name (name_of u) (λ z. p.Create (cp.Named false z))

abbrev pub behind_create_named : Bool → Text → Token → Option State
behind_create_named b n t.Open = flat (p.Create (cp.ColumnStart (new_table b n)))
behind_create_named b n _ = None

abbrev pub behind_create_if : Text → Token → Option State
behind_create_if n (t.Word m w.Not) = flat (p.Create cp.IfNot)
behind_create_if n u = behind_create_named false n u

abbrev pub behind_create_if_not : Token → Option State
behind_create_if_not (t.Word n w.Exists) = flat (p.Create cp.IfNotExists)
behind_create_if_not _ = None

abbrev pub behind_column_name : NewTable → Text → Token → Option State
behind_column_name x n (t.Word m w.Integer) = flat (p.Create (cp.Column x (plain_column n kind.Integer)))
behind_column_name x n (t.Word m w.Text) = flat (p.Create (cp.Column x (plain_column n kind.Text)))
behind_column_name x n (t.Word m w.Blob) = flat (p.Create (cp.Column x (plain_column n kind.Blob)))
behind_column_name x n _ = None

abbrev pub behind_column : NewTable → ColumnDef → Token → Option State
behind_column x d (t.Word n w.Primary) = unset d.primary (p.Create (cp.ColumnPrimary x d))
behind_column x d (t.Word n w.Not) = unset d.not_null (p.Create (cp.ColumnNot x d))
behind_column x d (t.Word n w.Unique) = unset d.unique (p.Create (cp.Column x (with_unique d)))
behind_column x d t.Comma = flat (p.Create (cp.ColumnStart (add_column x d)))
behind_column x d t.Close = flat (p.Ended (create (add_column x d)))
behind_column x d _ = None

abbrev pub behind_primary : NewTable → ColumnDef → Token → Option State
behind_primary x d (t.Word n w.Key) = flat (p.Create (cp.Column x (with_primary d)))
behind_primary x d _ = None

abbrev pub behind_not : NewTable → ColumnDef → Token → Option State
behind_not x d (t.Word n w.Null) = flat (p.Create (cp.Column x (with_not_null d)))
behind_not x d _ = None

abbrev pub behind_drop : Token → Option State
behind_drop (t.Word n w.Table) = flat (p.Drop dp.Table)
behind_drop _ = None

abbrev pub behind_ended : Stmt → Token → Option State
behind_ended r t.Semi = flat (p.Ended r)
behind_ended r _ = None

abbrev pub behind_drop_table : Token → Option State
behind_drop_table (t.Word n w.If) = flat (p.Drop (dp.If n))
behind_drop_table u = on_name (name_of u) (λ n. p.Ended (stmt.Drop false n))

abbrev pub behind_drop_if : Text → Token → Option State
behind_drop_if n (t.Word m w.Exists) = flat (p.Drop dp.IfExists)
behind_drop_if n u = behind_ended (stmt.Drop false n) u

abbrev pub behind_insert : Token → Option State
behind_insert (t.Word n w.Into) = flat (p.Insert ip.Into)
behind_insert _ = None

abbrev pub behind_columns : Target → Token → Option State
behind_columns i (t.Word n w.Values) = flat (p.Insert (ip.Values i []))
behind_columns i (t.Word n w.Select) = flat (p.Select (sp.Result (query (Some i))))
behind_columns i _ = None

abbrev pub behind_table : Text → Token → Option State
behind_table n t.Open = flat (p.Insert (ip.NameStart n []))
behind_table n u = behind_columns (target n None) u

abbrev pub behind_names : Text → List Text → Token → Option State
behind_names n ns t.Comma = flat (p.Insert (ip.NameStart n ns))
behind_names n ns t.Close = flat (p.Insert (ip.Columns (target n (Some ns))))
behind_names n ns _ = None

abbrev pub behind_values : Target → List (List Expr) → Token → Option State
behind_values i rs t.Open = inside (c.Row i rs [])
behind_values i rs _ = None

abbrev pub behind_rows : Target → List (List Expr) → Token → Option State
behind_rows i rs t.Comma = flat (p.Insert (ip.Values i rs))
behind_rows i rs u = behind_ended (insert i rs) u

abbrev pub behind_update : Text → Token → Option State
behind_update n (t.Word m w.Set) = flat (p.Update (up.SetStart n []))
behind_update n _ = None

abbrev pub behind_set_name : Text → List (Text × Expr) → Text → Token → Option State
behind_set_name n is m t.Equal = inside (c.Set n is m)
behind_set_name n is m _ = None

abbrev pub behind_sets : Text → List (Text × Expr) → Token → Option State
behind_sets n is t.Comma = flat (p.Update (up.SetStart n is))
behind_sets n is (t.Word m w.Where) = inside (c.UpdateFilter n is)
behind_sets n is u = behind_ended (stmt.Update n is None) u

abbrev pub behind_delete : Token → Option State
behind_delete (t.Word n w.From) = flat (p.Delete del.From)
behind_delete _ = None

abbrev pub behind_delete_table : Text → Token → Option State
behind_delete_table n (t.Word m w.Where) = inside (c.DeleteFilter n)
behind_delete_table n u = behind_ended (stmt.Delete n None) u

abbrev pub result : Query → Token → Option State
result q t.Star = flat (p.Select (sp.Tail stage.Results (add_result q item.All)))
result q u = operand (f.Clause (c.Results q) ∷ []) u

abbrev pub behind_order : Query → Token → Option State
behind_order q (t.Word n w.By) = inside (c.Order q)
behind_order q _ = None

abbrev pub behind_order_by : Query → Token → Option State
behind_order_by q (t.Word n w.Limit) = inside (c.Limit q)
behind_order_by q u = behind_ended (selected q) u

abbrev pub behind_where : Query → Token → Option State
behind_where q (t.Word n w.Order) = flat (p.Select (sp.Order q))
behind_where q u = behind_order_by q u

abbrev pub behind_from : Query → Token → Option State
behind_from q (t.Word n w.Where) = inside (c.Filter q)
behind_from q u = behind_where q u

abbrev pub behind_results : Query → Token → Option State
behind_results q (t.Word n w.From) = flat (p.Select (sp.From q))
behind_results q u = behind_from q u

abbrev pub tail : Stage → Query → Token → Option State
tail stage.Results q t.Comma = flat (p.Select (sp.Result q))
tail stage.Results q u = behind_results q u
tail stage.Source q u = behind_from q u
tail stage.Filtered q u = behind_where q u
tail stage.Ordered q t.Comma = inside (c.Order q)
tail stage.Ordered q u = behind_order_by q u
tail stage.Limited q u = behind_ended (selected q) u

unfoldable pub create_step : CreatePlace → Token → Option State
create_step cp.Begun u = behind_create u
create_step cp.Table u = behind_create_table u
create_step (cp.If n) u = behind_create_if n u
create_step cp.IfNot u = behind_create_if_not u
create_step cp.IfNotExists u = on_name (name_of u) (λ z. p.Create (cp.Named true z))
create_step (cp.Named b n) u = behind_create_named b n u
create_step (cp.ColumnStart x) u = on_name (name_of u) (λ z. p.Create (cp.ColumnNamed x z))
create_step (cp.ColumnNamed x n) u = behind_column_name x n u
create_step (cp.Column x d) u = behind_column x d u
create_step (cp.ColumnPrimary x d) u = behind_primary x d u
create_step (cp.ColumnNot x d) u = behind_not x d u

unfoldable pub drop_step : DropPlace → Token → Option State
drop_step dp.Begun u = behind_drop u
drop_step dp.Table u = behind_drop_table u
drop_step (dp.If n) u = behind_drop_if n u
drop_step dp.IfExists u = on_name (name_of u) (λ n. p.Ended (stmt.Drop true n))

unfoldable pub insert_step : InsertPlace → Token → Option State
insert_step ip.Begun u = behind_insert u
insert_step ip.Into u = on_name (name_of u) (λ z. p.Insert (ip.Table z))
insert_step (ip.Table n) u = behind_table n u
insert_step (ip.NameStart n ns) u = on_name (name_of u) (λ m. p.Insert (ip.Names n (ns ++ m ∷ [])))
insert_step (ip.Names n ns) u = behind_names n ns u
insert_step (ip.Columns i) u = behind_columns i u
insert_step (ip.Values i rs) u = behind_values i rs u
insert_step (ip.Rows i rs) u = behind_rows i rs u

unfoldable pub update_step : UpdatePlace → Token → Option State
update_step up.Begun u = on_name (name_of u) (λ z. p.Update (up.Table z))
update_step (up.Table n) u = behind_update n u
update_step (up.SetStart n is) u = on_name (name_of u) (λ z. p.Update (up.SetName n is z))
update_step (up.SetName n is m) u = behind_set_name n is m u
update_step (up.Sets n is) u = behind_sets n is u

unfoldable pub delete_step : DeletePlace → Token → Option State
delete_step del.Begun u = behind_delete u
delete_step del.From u = on_name (name_of u) (λ z. p.Delete (del.Table z))
delete_step (del.Table n) u = behind_delete_table n u

unfoldable pub select_step : SelectPlace → Token → Option State
select_step (sp.Result q) u = result q u
select_step (sp.Alias q a) u = on_name (name_of u) (λ n. p.Select (sp.Tail stage.Results (add_result q (item.Value a (Some n)))))
select_step (sp.Tail g q) u = tail g q u
select_step (sp.From q) u = on_name (name_of u) (λ n. p.Select (sp.Tail stage.Source (with_table q n)))
select_step (sp.Order q) u = behind_order q u

unfoldable pub place_step : Place → Token → Option State
place_step p.Start u = start u
place_step (p.Create x) u = create_step x u
place_step (p.Drop x) u = drop_step x u
place_step (p.Insert x) u = insert_step x u
place_step (p.Update x) u = update_step x u
place_step (p.Delete x) u = delete_step x u
place_step (p.Select x) u = select_step x u
place_step (p.Ended r) u = behind_ended r u

-- the statement, if the tokens end here
unfoldable pub place_finish : Place → Option Stmt
place_finish (p.Drop (dp.If n)) = Some (stmt.Drop false n)
place_finish (p.Insert (ip.Rows i rs)) = Some (insert i rs)
place_finish (p.Update (up.Sets n is)) = Some (stmt.Update n is None)
place_finish (p.Delete (del.Table n)) = Some (stmt.Delete n None)
place_finish (p.Select (sp.Tail g q)) = Some (selected q)
place_finish (p.Ended r) = Some r
place_finish _ = None
