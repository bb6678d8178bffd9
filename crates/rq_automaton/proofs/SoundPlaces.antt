-- What is read is spelled so: the places between expressions.
use Rattle.std.proofs.Common.{◌≡◌, Bool, true, false, List, [], ◌∷◌, ◌++◌, Option, Some, refl, subst}
use Rattle.rq_grammar.specs.declared.word.Word.TheVariants as w
use Rattle.rq_grammar.specs.declared.token.Token.{Token}
use Rattle.rq_grammar.specs.declared.token.Token.TheVariants as t
use Rattle.rq_grammar.specs.declared.expr.Expr.{Expr}
use Rattle.rq_grammar.specs.declared.stmt.ColumnDef.{ColumnDef}
use Rattle.rq_grammar.specs.declared.stmt.ResultItem.{ResultItem}
use Rattle.rq_grammar.specs.declared.stmt.OrderTerm.{OrderTerm}
use Rattle.rq_grammar.specs.declared.stmt.Stmt.{Stmt}
use Rattle.rq_grammar.specs.declared.stmt.Stmt.TheVariants as stmt
use Rattle.rq_automaton.specs.declared.place.NewTable.{NewTable}
use Rattle.rq_automaton.specs.declared.place.Target.{Target}
use Rattle.rq_automaton.specs.declared.place.Query.{Query}
use Rattle.rq_automaton.specs.declared.place.Stage.TheVariants as stage
use Rattle.rq_automaton.specs.declared.place.Place.{Place}
use Rattle.rq_automaton.specs.declared.place.Place.TheVariants as p
use Rattle.rq_automaton.specs.declared.place.CreatePlace.TheVariants as cp
use Rattle.rq_automaton.specs.declared.place.DropPlace.TheVariants as dp
use Rattle.rq_automaton.specs.declared.place.InsertPlace.TheVariants as ip
use Rattle.rq_automaton.specs.declared.place.UpdatePlace.TheVariants as up
use Rattle.rq_automaton.specs.declared.place.DeletePlace.TheVariants as del
use Rattle.rq_automaton.specs.declared.place.SelectPlace.TheVariants as sp
use Rattle.rq_automaton.specs.declared.frame.State.{State}
use Rattle.rq_grammar.specs.Words.{Text, Tokens, Name, bare}
use Rattle.rq_grammar.specs.Statements as S
use Rattle.rq_grammar.specs.Statements.{rising}
use Rattle.rq_automaton.specs.Places as L
use Rattle.rq_automaton.specs.Places.{flat, name_of, on_name, unset, selected, place_step, create_step, drop_step, insert_step, update_step, delete_step, select_step, place_finish, behind_ended, behind_columns}
use Rattle.rq_automaton.proofs.Reached as R
use Rattle.rq_automaton.proofs.Reached.{Reached, Stacked, Within, Came}
use Rattle.rq_automaton.proofs.Sound.{put, set_down, named, name_on, column_on, result_on, operand_sound}

-- ---- parts that are absent

pub with_source : {x y : Tokens} {q : Query} → R.WithResults x q y → R.WithSource x q y
with_source (R.with_results o l) = R.with_source (R.with_results o l) S.no_from

pub with_filter : {x y : Tokens} {q : Query} → R.WithSource x q y → R.WithFilter x q y
with_filter (R.with_source (R.with_results o l) k) = R.with_filter (R.with_source (R.with_results o l) k) S.no_where

pub with_order : {x y : Tokens} {q : Query} → R.WithFilter x q y → R.WithOrder x q y
with_order (R.with_filter (R.with_source (R.with_results o l) k) g) = R.with_order (R.with_filter (R.with_source (R.with_results o l) k) g) S.no_order

pub with_limits : {x y : Tokens} {q : Query} → R.WithOrder x q y → R.WithLimits x q y
with_limits (R.with_order (R.with_filter (R.with_source (R.with_results o l) k) g) i) = R.with_limits (R.with_order (R.with_filter (R.with_source (R.with_results o l) k) g) i) S.no_limit

pub selected_sound : {x y : Tokens} {q : Query} → R.WithLimits x q y → S.Semis y → S.Spells x (selected q)
selected_sound (R.with_limits (R.with_order (R.with_filter (R.with_source (R.with_results R.no_target l) k) g) i) m) w = S.select_stmt (S.select l k g i m) w
selected_sound (R.with_limits (R.with_order (R.with_filter (R.with_source (R.with_results (R.in_target n j) l) k) g) i) m) w = S.insert_select n j (S.select l k g i m) w

then_rules : {c d d' : ColumnDef} {x y z : Tokens} → S.Rules c x d y → S.Rules d y d' z → S.Rules c x d' z
then_rules S.no_more r = r
then_rules (S.primary_key i q) r = S.primary_key i (then_rules q r)
then_rules (S.not_null i q) r = S.not_null i (then_rules q r)
then_rules (S.unique i q) r = S.unique i (then_rules q r)

column_then : {d d' : ColumnDef} {x y z : Tokens} → S.Column x d y → S.Rules d y d' z → S.Column x d' z
column_then (S.column n k q) r = S.column n k (then_rules q r)

-- ---- the token behind a place

start_sound : {y : Tokens} {q : State} (u : Token) → place_step p.Start u ≡ Some q → Reached (u ∷ y) q y
unfolding place_step create_step drop_step insert_step update_step delete_step select_step
start_sound (t.Word n w.Create) h = set_down h R.at_create
start_sound (t.Word n w.Drop) h = set_down h R.at_drop
start_sound (t.Word n w.Insert) h = set_down h R.at_insert
start_sound (t.Word n w.Update) h = set_down h R.at_update
start_sound (t.Word n w.Delete) h = set_down h R.at_delete
start_sound (t.Word n w.Select) h = set_down h (R.at_result R.no_target R.no_items)
start_sound _ h = absurd (cc)

create_sound : {l : Text} {y : Tokens} {q : State} (u : Token) → place_step (p.Create cp.Begun) u ≡ Some q → Reached (t.Word l w.Create ∷ u ∷ y) q y
unfolding place_step create_step drop_step insert_step update_step delete_step select_step
create_sound (t.Word n w.Table) h = set_down h R.at_create_table
create_sound _ h = absurd (cc)

create_table_sound : {l m : Text} {y : Tokens} {q : State} (u : Token) → place_step (p.Create cp.Table) u ≡ Some q → Reached (t.Word l w.Create ∷ t.Word m w.Table ∷ u ∷ y) q y
unfolding place_step create_step drop_step insert_step update_step delete_step select_step
create_table_sound (t.Word n w.If) h = set_down h R.at_create_if
create_table_sound u h = named u (λ z. p.Create (cp.Named false z)) h (λ n k. R.at_create_named S.always k)

create_if_sound : {l m n : Text} {y : Tokens} {q : State} (u : Token) → place_step (p.Create (cp.If n)) u ≡ Some q → Reached (t.Word l w.Create ∷ t.Word m w.Table ∷ t.Word n w.If ∷ u ∷ y) q y
unfolding place_step create_step drop_step insert_step update_step delete_step select_step
create_if_sound (t.Word n w.Not) h = set_down h R.at_create_if_not
create_if_sound t.Open h = set_down h (R.at_column_start (R.headed S.always (bare refl) R.no_items))
create_if_sound u h = absurd (cc)

create_if_not_sound : {l m n k : Text} {y : Tokens} {q : State} (u : Token) → place_step (p.Create cp.IfNot) u ≡ Some q → Reached (t.Word l w.Create ∷ t.Word m w.Table ∷ t.Word n w.If ∷ t.Word k w.Not ∷ u ∷ y) q y
unfolding place_step create_step drop_step insert_step update_step delete_step select_step
create_if_not_sound (t.Word n w.Exists) h = set_down h R.at_create_if_not_exists
create_if_not_sound u h = absurd (cc)

create_named_sound : {l m n : Text} {b : Bool} {v : Token} {x y : Tokens} {q : State} (u : Token) → S.IfNotExists b x (v ∷ u ∷ y) → Name n v → place_step (p.Create (cp.Named b n)) u ≡ Some q → Reached (t.Word l w.Create ∷ t.Word m w.Table ∷ x) q y
unfolding place_step create_step drop_step insert_step update_step delete_step select_step
create_named_sound t.Open i k h = set_down h (R.at_column_start (R.headed i k R.no_items))
create_named_sound u i k h = absurd (cc)

column_named_sound : {z : NewTable} {n : Text} {v : Token} {x y : Tokens} {q : State} (u : Token) → R.Headed x z (v ∷ u ∷ y) → Name n v → place_step (p.Create (cp.ColumnNamed z n)) u ≡ Some q → Reached x q y
unfolding place_step create_step drop_step insert_step update_step delete_step select_step
column_named_sound (t.Word m w.Integer) i k h = set_down h (R.at_column i (S.column k S.integer_kind S.no_more))
column_named_sound (t.Word m w.Text) i k h = set_down h (R.at_column i (S.column k S.text_kind S.no_more))
column_named_sound (t.Word m w.Blob) i k h = set_down h (R.at_column i (S.column k S.blob_kind S.no_more))
column_named_sound u i k h = absurd (cc)

add_column_on : {z : NewTable} {d : ColumnDef} {x y y' : Tokens} → R.Headed x z y → S.Column y d (t.Comma ∷ y') → R.Headed x (L.add_column z d) y'
add_column_on (R.headed i k b) j = R.headed i k (R.items (column_on b j))

create_spells : {z : NewTable} {d : ColumnDef} {x y y' : Tokens} → R.Headed x z y → S.Column y d (t.Close ∷ y') → S.Semis y' → S.Spells x (L.create (L.add_column z d))
create_spells (R.headed i k b) j e = S.create i k (column_on b j) e

when_unset : {q : State} (b : Bool) (k : Place) → unset b k ≡ Some q → (b ≡ false) × (flat k ≡ Some q)
when_unset false k h = (refl, h)
when_unset true k h = absurd (cc)

column_sound : {z : NewTable} {d : ColumnDef} {x y y' : Tokens} {q : State} (u : Token) → R.Headed x z y → S.Column y d (u ∷ y') → place_step (p.Create (cp.Column z d)) u ≡ Some q → Reached x q y'
unfolding place_step create_step drop_step insert_step update_step delete_step select_step
column_sound {d = d} (t.Word n w.Primary) i j h = let g = when_unset d.primary _ h in set_down g.1 (R.at_primary i j g.0)
column_sound {d = d} (t.Word n w.Not) i j h = let g = when_unset d.not_null _ h in set_down g.1 (R.at_not i j g.0)
column_sound {d = d} (t.Word n w.Unique) i j h = let g = when_unset d.unique _ h in set_down g.1 (R.at_column i (column_then j (S.unique g.0 S.no_more)))
column_sound t.Comma i j h = set_down h (R.at_column_start (add_column_on i j))
column_sound t.Close i j h = set_down h (R.at_ended (λ e. create_spells i j e))
column_sound u i j h = absurd (cc)

primary_sound : {z : NewTable} {d : ColumnDef} {n : Text} {x y y' : Tokens} {q : State} (u : Token) → R.Headed x z y → S.Column y d (t.Word n w.Primary ∷ u ∷ y') → d.primary ≡ false → place_step (p.Create (cp.ColumnPrimary z d)) u ≡ Some q → Reached x q y'
unfolding place_step create_step drop_step insert_step update_step delete_step select_step
primary_sound (t.Word n w.Key) i j g h = set_down h (R.at_column i (column_then j (S.primary_key g S.no_more)))
primary_sound u i j g h = absurd (cc)

not_sound : {z : NewTable} {d : ColumnDef} {n : Text} {x y y' : Tokens} {q : State} (u : Token) → R.Headed x z y → S.Column y d (t.Word n w.Not ∷ u ∷ y') → d.not_null ≡ false → place_step (p.Create (cp.ColumnNot z d)) u ≡ Some q → Reached x q y'
unfolding place_step create_step drop_step insert_step update_step delete_step select_step
not_sound (t.Word n w.Null) i j g h = set_down h (R.at_column i (column_then j (S.not_null g S.no_more)))
not_sound u i j g h = absurd (cc)

drop_sound : {l : Text} {y : Tokens} {q : State} (u : Token) → place_step (p.Drop dp.Begun) u ≡ Some q → Reached (t.Word l w.Drop ∷ u ∷ y) q y
unfolding place_step create_step drop_step insert_step update_step delete_step select_step
drop_sound (t.Word n w.Table) h = set_down h R.at_drop_table
drop_sound _ h = absurd (cc)

ended_sound : {x y : Tokens} {q : State} (r : Stmt) (u : Token) → (S.Semis (u ∷ y) → S.Spells x r) → behind_ended r u ≡ Some q → Reached x q y
ended_sound r t.Semi k h = set_down h (R.at_ended (λ e. k (S.semi e)))
ended_sound r u k h = absurd (cc)

drop_table_sound : {l m : Text} {y : Tokens} {q : State} (u : Token) → place_step (p.Drop dp.Table) u ≡ Some q → Reached (t.Word l w.Drop ∷ t.Word m w.Table ∷ u ∷ y) q y
unfolding place_step create_step drop_step insert_step update_step delete_step select_step
drop_table_sound (t.Word n w.If) h = set_down h R.at_drop_if
drop_table_sound u h = named u (λ n. p.Ended (stmt.Drop false n)) h (λ n k. R.at_ended (λ e. S.drop S.surely k e))

drop_if_sound : {l m n : Text} {y : Tokens} {q : State} (u : Token) → place_step (p.Drop (dp.If n)) u ≡ Some q → Reached (t.Word l w.Drop ∷ t.Word m w.Table ∷ t.Word n w.If ∷ u ∷ y) q y
unfolding place_step create_step drop_step insert_step update_step delete_step select_step
drop_if_sound (t.Word n w.Exists) h = set_down h R.at_drop_if_exists
drop_if_sound u h = ended_sound _ u (λ e. S.drop S.surely (bare refl) e) h

insert_sound : {l : Text} {y : Tokens} {q : State} (u : Token) → place_step (p.Insert ip.Begun) u ≡ Some q → Reached (t.Word l w.Insert ∷ u ∷ y) q y
unfolding place_step create_step drop_step insert_step update_step delete_step select_step
insert_sound (t.Word n w.Into) h = set_down h R.at_into
insert_sound _ h = absurd (cc)

columns_sound : {l m n : Text} {v : Token} {ns : Option (List Text)} {y z : Tokens} {q : State} (u : Token) → Name n v → S.ColumnNames z ns (u ∷ y) → behind_columns (L.target n ns) u ≡ Some q → Reached (t.Word l w.Insert ∷ t.Word m w.Into ∷ v ∷ z) q y
columns_sound (t.Word m w.Values) k j h = set_down h (R.at_values k j R.no_items)
columns_sound (t.Word m w.Select) k j h = set_down h (R.at_result (R.in_target k j) R.no_items)
columns_sound u k j h = absurd (cc)

table_sound : {l m n : Text} {v : Token} {y : Tokens} {q : State} (u : Token) → Name n v → place_step (p.Insert (ip.Table n)) u ≡ Some q → Reached (t.Word l w.Insert ∷ t.Word m w.Into ∷ v ∷ u ∷ y) q y
unfolding place_step create_step drop_step insert_step update_step delete_step select_step
table_sound t.Open k h = set_down h (R.at_name_start k R.no_items)
table_sound u k h = columns_sound u k S.no_names h

names_sound : {l m n : Text} {v : Token} {ns : List Text} {y z : Tokens} {q : State} (u : Token) → Name n v → S.NameList z ns (u ∷ y) → place_step (p.Insert (ip.Names n ns)) u ≡ Some q → Reached (t.Word l w.Insert ∷ t.Word m w.Into ∷ v ∷ t.Open ∷ z) q y
unfolding place_step create_step drop_step insert_step update_step delete_step select_step
names_sound t.Comma k j h = set_down h (R.at_name_start k (R.items j))
names_sound t.Close k j h = set_down h (R.at_columns k (S.these_names j))
names_sound u k j h = absurd (cc)

values_sound : {l m n i : Text} {v : Token} {ns : Option (List Text)} {rs : List (List Expr)} {y z z' : Tokens} {q : State} (u : Token) → Name n v → S.ColumnNames z ns (t.Word i w.Values ∷ z') → R.Before S.Rows z' rs (u ∷ y) → place_step (p.Insert (ip.Values (L.target n ns) rs)) u ≡ Some q → Reached (t.Word l w.Insert ∷ t.Word m w.Into ∷ v ∷ z) q y
unfolding place_step create_step drop_step insert_step update_step delete_step select_step
values_sound t.Open k j b h = put h (R.at_operand (R.clause_on (R.row_in k j b R.no_items)))
values_sound u k j b h = absurd (cc)

rows_sound : {l m n i : Text} {v : Token} {ns : Option (List Text)} {rs : List (List Expr)} {y z z' : Tokens} {q : State} (u : Token) → Name n v → S.ColumnNames z ns (t.Word i w.Values ∷ z') → S.Rows z' rs (u ∷ y) → place_step (p.Insert (ip.Rows (L.target n ns) rs)) u ≡ Some q → Reached (t.Word l w.Insert ∷ t.Word m w.Into ∷ v ∷ z) q y
unfolding place_step create_step drop_step insert_step update_step delete_step select_step
rows_sound t.Comma k j b h = set_down h (R.at_values k j (R.items b))
rows_sound u k j b h = ended_sound _ u (λ e. S.insert k j b e) h

update_sound : {l n : Text} {v : Token} {y : Tokens} {q : State} (u : Token) → Name n v → place_step (p.Update (up.Table n)) u ≡ Some q → Reached (t.Word l w.Update ∷ v ∷ u ∷ y) q y
unfolding place_step create_step drop_step insert_step update_step delete_step select_step
update_sound (t.Word m w.Set) k h = set_down h (R.at_set_start k R.no_items)
update_sound u k h = absurd (cc)

set_name_sound : {l m n i : Text} {v v' : Token} {is : List (Text × Expr)} {y z : Tokens} {q : State} (u : Token) → Name n v → R.Before S.SetList z is (v' ∷ u ∷ y) → Name i v' → place_step (p.Update (up.SetName n is i)) u ≡ Some q → Reached (t.Word l w.Update ∷ v ∷ t.Word m w.Set ∷ z) q y
unfolding place_step create_step drop_step insert_step update_step delete_step select_step
set_name_sound t.Equal k b j h = put h (R.at_operand (R.clause_on (R.set_in k b j)))
set_name_sound u k b j h = absurd (cc)

sets_sound : {l m n : Text} {v : Token} {is : List (Text × Expr)} {y z : Tokens} {q : State} (u : Token) → Name n v → S.SetList z is (u ∷ y) → place_step (p.Update (up.Sets n is)) u ≡ Some q → Reached (t.Word l w.Update ∷ v ∷ t.Word m w.Set ∷ z) q y
unfolding place_step create_step drop_step insert_step update_step delete_step select_step
sets_sound t.Comma k j h = set_down h (R.at_set_start k (R.items j))
sets_sound (t.Word i w.Where) k j h = put h (R.at_operand (R.clause_on (R.update_filter_in k j)))
sets_sound u k j h = ended_sound _ u (λ e. S.update k j S.no_where e) h

delete_sound : {l : Text} {y : Tokens} {q : State} (u : Token) → place_step (p.Delete del.Begun) u ≡ Some q → Reached (t.Word l w.Delete ∷ u ∷ y) q y
unfolding place_step create_step drop_step insert_step update_step delete_step select_step
delete_sound (t.Word n w.From) h = set_down h R.at_delete_from
delete_sound _ h = absurd (cc)

delete_table_sound : {l m n : Text} {v : Token} {y : Tokens} {q : State} (u : Token) → Name n v → place_step (p.Delete (del.Table n)) u ≡ Some q → Reached (t.Word l w.Delete ∷ t.Word m w.From ∷ v ∷ u ∷ y) q y
unfolding place_step create_step drop_step insert_step update_step delete_step select_step
delete_table_sound (t.Word i w.Where) k h = put h (R.at_operand (R.clause_on (R.delete_filter_in k)))
delete_table_sound u k h = ended_sound _ u (λ e. S.delete k S.no_where e) h

-- ---- the parts of a select

result_sound : {i : Option Target} {is : List ResultItem} {m : Text} {x y z : Tokens} {q : State} (u : Token) → R.Opening x i (t.Word m w.Select ∷ y) → R.Before S.ResultList y is (u ∷ z) → place_step (p.Select (sp.Result (R.results (L.query i) is))) u ≡ Some q → Reached x q z
unfolding place_step create_step drop_step insert_step update_step delete_step select_step
result_sound t.Star o b h = set_down h (R.tail_results (R.with_results o (result_on b S.all)))
result_sound u o b h = operand_sound u (R.clause_on (R.results_in o b)) h

order_by_sound : {d : Query} {x y : Tokens} {q : State} (u : Token) → R.WithOrder x d (u ∷ y) → L.behind_order_by d u ≡ Some q → Reached x q y
order_by_sound (t.Word n w.Limit) k h = put h (R.at_operand (R.clause_on (R.limit_in k)))
order_by_sound u k h = ended_sound _ u (λ e. selected_sound (with_limits k) e) h

where_sound : {d : Query} {x y : Tokens} {q : State} (u : Token) → R.WithFilter x d (u ∷ y) → L.behind_where d u ≡ Some q → Reached x q y
where_sound (t.Word n w.Order) k h = set_down h (R.at_order k)
where_sound u k h = order_by_sound u (with_order k) h

from_sound : {d : Query} {x y : Tokens} {q : State} (u : Token) → R.WithSource x d (u ∷ y) → L.behind_from d u ≡ Some q → Reached x q y
from_sound (t.Word n w.Where) k h = put h (R.at_operand (R.clause_on (R.filter_in k)))
from_sound u k h = where_sound u (with_filter k) h

results_sound : {d : Query} {x y : Tokens} {q : State} (u : Token) → R.WithResults x d (u ∷ y) → L.behind_results d u ≡ Some q → Reached x q y
results_sound (t.Word n w.From) k h = set_down h (R.at_from k)
results_sound u k h = from_sound u (with_source k) h

tail_results_sound : {d : Query} {x y : Tokens} {q : State} (u : Token) → R.WithResults x d (u ∷ y) → place_step (p.Select (sp.Tail stage.Results d)) u ≡ Some q → Reached x q y
unfolding place_step create_step drop_step insert_step update_step delete_step select_step
tail_results_sound t.Comma (R.with_results o l) h = set_down h (R.at_result o (R.items l))
tail_results_sound u k h = results_sound u k h

tail_ordered_sound : {d : Query} {is : List OrderTerm} {n m : Text} {x y z : Tokens} {q : State} (u : Token) → R.WithFilter x d (t.Word n w.Order ∷ t.Word m w.By ∷ y) → S.TermList y is (u ∷ z) → place_step (p.Select (sp.Tail stage.Ordered (R.terms d is))) u ≡ Some q → Reached x q z
unfolding place_step create_step drop_step insert_step update_step delete_step select_step
tail_ordered_sound t.Comma k l h = put h (R.at_operand (R.clause_on (R.order_in k (R.items l))))
tail_ordered_sound u k l h = order_by_sound u (R.with_order k (S.order_by l)) h

order_sound : {d : Query} {n : Text} {x y : Tokens} {q : State} (u : Token) → R.WithFilter x d (t.Word n w.Order ∷ u ∷ y) → place_step (p.Select (sp.Order d)) u ≡ Some q → Reached x q y
unfolding place_step create_step drop_step insert_step update_step delete_step select_step
order_sound (t.Word n w.By) (R.with_filter (R.with_source (R.with_results o l) k) g) h = put h (R.at_operand (R.clause_on (R.order_in (R.with_filter (R.with_source (R.with_results o l) k) g) R.no_items)))
order_sound u k h = absurd (cc)

-- ---- any place

pub place_sound : {x y : Tokens} {z : Place} {q : State} (u : Token) → Came x z (u ∷ y) → place_step z u ≡ Some q → Reached x q y
unfolding place_step create_step drop_step insert_step update_step delete_step select_step
place_sound u R.at_start h = start_sound u h
place_sound u R.at_create h = create_sound u h
place_sound u R.at_create_table h = create_table_sound u h
place_sound u R.at_create_if h = create_if_sound u h
place_sound u R.at_create_if_not h = create_if_not_sound u h
place_sound u R.at_create_if_not_exists h = named u (λ z. p.Create (cp.Named true z)) h (λ n k. R.at_create_named S.if_not_exists k)
place_sound u (R.at_create_named i k) h = create_named_sound u i k h
place_sound u (R.at_column_start {z = z} i) h = named u (λ n. p.Create (cp.ColumnNamed z n)) h (λ n k. R.at_column_named i k)
place_sound u (R.at_column_named i k) h = column_named_sound u i k h
place_sound u (R.at_column i j) h = column_sound u i j h
place_sound u (R.at_primary i j g) h = primary_sound u i j g h
place_sound u (R.at_not i j g) h = not_sound u i j g h
place_sound u R.at_drop h = drop_sound u h
place_sound u R.at_drop_table h = drop_table_sound u h
place_sound u R.at_drop_if h = drop_if_sound u h
place_sound u R.at_drop_if_exists h = named u (λ n. p.Ended (stmt.Drop true n)) h (λ n k. R.at_ended (λ e. S.drop S.if_exists k e))
place_sound u R.at_insert h = insert_sound u h
place_sound u R.at_into h = named u (λ z. p.Insert (ip.Table z)) h (λ n k. R.at_table k)
place_sound u (R.at_table k) h = table_sound u k h
place_sound u (R.at_name_start {n = n} {ns = ns} k b) h = named u (λ m. p.Insert (ip.Names n (ns ++ m ∷ []))) h (λ m j. R.at_names k (name_on b j))
place_sound u (R.at_names k j) h = names_sound u k j h
place_sound u (R.at_columns k j) h = columns_sound u k j h
place_sound u (R.at_values k j b) h = values_sound u k j b h
place_sound u (R.at_rows k j b) h = rows_sound u k j b h
place_sound u R.at_update h = named u (λ z. p.Update (up.Table z)) h (λ n k. R.at_update_table k)
place_sound u (R.at_update_table k) h = update_sound u k h
place_sound u (R.at_set_start {n = n} {is = is} k b) h = named u (λ z. p.Update (up.SetName n is z)) h (λ m j. R.at_set_name k b j)
place_sound u (R.at_set_name k b j) h = set_name_sound u k b j h
place_sound u (R.at_sets k j) h = sets_sound u k j h
place_sound u R.at_delete h = delete_sound u h
place_sound u R.at_delete_from h = named u (λ z. p.Delete (del.Table z)) h (λ n k. R.at_delete_table k)
place_sound u (R.at_delete_table k) h = delete_table_sound u k h
place_sound u (R.at_result o b) h = result_sound u o b h
place_sound u (R.at_alias o b k) h = named u _ h (λ n j. R.tail_results (R.with_results o (result_on b (S.value_as k j))))
place_sound u (R.tail_results k) h = tail_results_sound u k h
place_sound u (R.tail_source k) h = from_sound u k h
place_sound u (R.tail_filtered k) h = where_sound u k h
place_sound u (R.tail_ordered k l) h = tail_ordered_sound u k l h
place_sound u (R.tail_limited k) h = ended_sound _ u (λ e. selected_sound k e) h
place_sound u (R.at_from (R.with_results o l)) h = named u _ h (λ n k. R.tail_source (R.with_source (R.with_results o l) (S.from k)))
place_sound u (R.at_order k) h = order_sound u k h
place_sound u (R.at_ended k) h = ended_sound _ u k h

-- ---- the end

spelled : {x : Tokens} {r r' : Stmt} → Some r ≡ Some r' → S.Spells x r → S.Spells x r'
spelled {x = x} {r = r} {r' = r'} h k = let e : r ≡ r' = cc in subst (λ v. S.Spells x v) e k

pub place_end : {x : Tokens} {z : Place} {r : Stmt} → Came x z [] → place_finish z ≡ Some r → S.Spells x r
unfolding place_finish
place_end R.at_drop_if h = spelled h (S.drop S.surely (bare refl) S.end)
place_end (R.at_rows k j b) h = spelled h (S.insert k j b S.end)
place_end (R.at_sets k j) h = spelled h (S.update k j S.no_where S.end)
place_end (R.at_delete_table k) h = spelled h (S.delete k S.no_where S.end)
place_end (R.tail_results k) h = spelled h (selected_sound (with_limits (with_order (with_filter (with_source k)))) S.end)
place_end (R.tail_source k) h = spelled h (selected_sound (with_limits (with_order (with_filter k))) S.end)
place_end (R.tail_filtered k) h = spelled h (selected_sound (with_limits (with_order k)) S.end)
place_end (R.tail_ordered k l) h = spelled h (selected_sound (with_limits (R.with_order k (S.order_by l))) S.end)
place_end (R.tail_limited k) h = spelled h (selected_sound k S.end)
place_end (R.at_ended k) h = spelled h (k S.end)
place_end _ h = absurd (cc)
