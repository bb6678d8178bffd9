-- What is spelled is read: statements.
use Rattle.std.proofs.Common.{◌≡◌, ℕ, ◌≤◌, Bool, true, false, cond, List, [], ◌∷◌, ◌++◌, Option, Some, None, Ok, refl, ◌∙◌, ap, arith}
use Rattle.rq_grammar.specs.declared.word.Word.{Word}
use Rattle.rq_grammar.specs.declared.word.Word.TheVariants as w
use Rattle.rq_grammar.specs.declared.token.Token.{Token}
use Rattle.rq_grammar.specs.declared.token.Token.TheVariants as t
use Rattle.rq_grammar.specs.declared.expr.Expr.{Expr}
use Rattle.rq_grammar.specs.declared.stmt.ColumnKind.{ColumnKind}
use Rattle.rq_grammar.specs.declared.stmt.ColumnDef.{ColumnDef}
use Rattle.rq_grammar.specs.declared.stmt.ResultItem.{ResultItem}
use Rattle.rq_grammar.specs.declared.stmt.OrderTerm.{OrderTerm}
use Rattle.rq_grammar.specs.declared.stmt.SelectStmt.{SelectStmt}
use Rattle.rq_grammar.specs.declared.stmt.Stmt.{Stmt}
use Rattle.rq_grammar.specs.declared.stmt.Stmt.TheVariants as stmt
use Rattle.rq_automaton.specs.declared.place.NewTable.{NewTable}
use Rattle.rq_automaton.specs.declared.place.Target.{Target}
use Rattle.rq_automaton.specs.declared.place.Query.{Query}
use Rattle.rq_automaton.specs.declared.place.Stage.{Stage}
use Rattle.rq_automaton.specs.declared.place.Stage.TheVariants as stage
use Rattle.rq_automaton.specs.declared.place.Place.{Place}
use Rattle.rq_automaton.specs.declared.place.Place.TheVariants as p
use Rattle.rq_automaton.specs.declared.place.CreatePlace.TheVariants as cp
use Rattle.rq_automaton.specs.declared.place.DropPlace.TheVariants as dp
use Rattle.rq_automaton.specs.declared.place.InsertPlace.TheVariants as ip
use Rattle.rq_automaton.specs.declared.place.UpdatePlace.TheVariants as up
use Rattle.rq_automaton.specs.declared.place.DeletePlace.TheVariants as del
use Rattle.rq_automaton.specs.declared.place.SelectPlace.TheVariants as sp
use Rattle.rq_automaton.specs.declared.frame.Clause.{Clause}
use Rattle.rq_automaton.specs.declared.frame.Clause.TheVariants as c
use Rattle.rq_automaton.specs.declared.frame.Frame.TheVariants as f
use Rattle.rq_automaton.specs.declared.frame.State.{State}
use Rattle.rq_automaton.specs.declared.frame.State.TheVariants as s
use Rattle.rq_grammar.specs.Words.{Text, Tokens, Name, bare, quoted}
use Rattle.rq_grammar.specs.Statements as S
use Rattle.rq_grammar.specs.Statements.{plain_column, rising, falling}
use Rattle.rq_automaton.specs.Stack.{Stack, reduce, split}
use Rattle.rq_automaton.specs.Places.{flat, inside, name_of, on_name, unset, new_table, target, insert, query, add_result, add_term, select_into, selected, place_step, create_step, drop_step, insert_step, update_step, delete_step, select_step, place_finish}
use Rattle.rq_automaton.specs.Machine.{step, finish, parse, done, ended_at, ended_on, end_at, end_on, clause_on, land, landed, landed_end, Start}
use Rattle.rq_automaton.proofs.Reduce.{go, stop, went, never, never_end, as_step, as_end}
use Rattle.rq_automaton.proofs.Complete.{Then, complete, complete_some, row_list}

-- ---- names

pub is_named : {n : Text} {u : Token} → Name n u → name_of u ≡ Some n
is_named (bare {n = n} h) = ap (λ b. cond b None (Some n)) h
is_named quoted = refl

on_named : {n : Text} {u : Token} → Name n u → (next : Text → Place) → on_name (name_of u) next ≡ flat (next n)
on_named h next = ap (λ o. on_name o next) (is_named h)

-- ---- behind a clause's expression

-- the token may end an expression that isn't in parentheses
abbrev may_end : Token → Bool
may_end t.Comma = true
may_end t.Semi = true
may_end (t.Word n w.From) = true
may_end (t.Word n w.Where) = true
may_end (t.Word n w.Order) = true
may_end (t.Word n w.Limit) = true
may_end _ = false

done_ends : (u : Token) → may_end u ≡ true → (m : ℕ) (st : Stack) (b : Expr) → done m st b u ≡ split (ended_at u) (reduce 0 st b)
unfolding done
done_ends t.Comma h m st b = refl
done_ends t.Semi h m st b = refl
done_ends (t.Word n w.From) h m st b = refl
done_ends (t.Word n w.Where) h m st b = refl
done_ends (t.Word n w.Order) h m st b = refl
done_ends (t.Word n w.Limit) h m st b = refl
done_ends u h m st b = absurd (cc)

tail_ends : (g : Stage) (q : Query) (u : Token) (next : State) → place_step (p.Select (sp.Tail g q)) u ≡ Some next → may_end u ≡ true
unfolding place_step create_step drop_step insert_step update_step delete_step select_step
tail_ends g q t.Comma next h = refl
tail_ends g q t.Semi next h = refl
tail_ends g q (t.Word n w.From) next h = refl
tail_ends g q (t.Word n w.Where) next h = refl
tail_ends g q (t.Word n w.Order) next h = refl
tail_ends g q (t.Word n w.Limit) next h = refl
tail_ends stage.Results q u next h = absurd (cc)
tail_ends stage.Source q u next h = absurd (cc)
tail_ends stage.Filtered q u next h = absurd (cc)
tail_ends stage.Ordered q u next h = absurd (cc)
tail_ends stage.Limited q u next h = absurd (cc)

sets_ends : (n : Text) (is : List (Text × Expr)) (u : Token) (next : State) → place_step (p.Update (up.Sets n is)) u ≡ Some next → may_end u ≡ true
unfolding place_step create_step drop_step insert_step update_step delete_step select_step
sets_ends n is t.Comma next h = refl
sets_ends n is t.Semi next h = refl
sets_ends n is (t.Word m w.Where) next h = refl
sets_ends n is u next h = absurd (cc)

ended_ends : (r : Stmt) (u : Token) (next : State) → place_step (p.Ended r) u ≡ Some next → may_end u ≡ true
unfolding place_step create_step drop_step insert_step update_step delete_step select_step
ended_ends r t.Semi next h = refl
ended_ends r u next h = absurd (cc)

-- where the place takes the token, the expression may end before it
lands_ends : (x : Clause) (a : Expr) (u : Token) (next : State) → landed (land x a) u ≡ Some next → may_end u ≡ true
lands_ends (c.Row i rs xs) a u next h = absurd (cc)
lands_ends (c.Results q) a u next h = tail_ends _ _ u next h
lands_ends (c.Filter q) a u next h = tail_ends _ _ u next h
lands_ends (c.Order q) a u next h = tail_ends _ _ u next h
lands_ends (c.Limit q) a u next h = tail_ends _ _ u next h
lands_ends (c.Offset q) a u next h = tail_ends _ _ u next h
lands_ends (c.Set n is m) a u next h = sets_ends _ _ u next h
lands_ends (c.UpdateFilter n is) a u next h = ended_ends _ u next h
lands_ends (c.DeleteFilter n) a u next h = ended_ends _ u next h

on_results : (q : Query) (a : Expr) (u : Token) → may_end u ≡ true → clause_on (c.Results q) a u ≡ landed (land (c.Results q) a) u
unfolding clause_on
on_results q a (t.Word n w.As) h = absurd (cc)
on_results q a u h = refl

on_order : (q : Query) (a : Expr) (u : Token) → may_end u ≡ true → clause_on (c.Order q) a u ≡ landed (land (c.Order q) a) u
unfolding clause_on
on_order q a (t.Word n w.Asc) h = absurd (cc)
on_order q a (t.Word n w.Desc) h = absurd (cc)
on_order q a u h = refl

on_limit : (q : Query) (a : Expr) (u : Token) → may_end u ≡ true → clause_on (c.Limit q) a u ≡ landed (land (c.Limit q) a) u
unfolding clause_on
on_limit q a (t.Word n w.Offset) h = absurd (cc)
on_limit q a u h = refl

on_clause : (x : Clause) (a : Expr) (y : Place) (u : Token) → land x a ≡ Some y → may_end u ≡ true → clause_on x a u ≡ landed (land x a) u
unfolding clause_on
on_clause (c.Row i rs xs) a y u l h = absurd (cc)
on_clause (c.Results q) a y u l h = on_results q a u h
on_clause (c.Filter q) a y u l h = refl
on_clause (c.Order q) a y u l h = on_order q a u h
on_clause (c.Limit q) a y u l h = on_limit q a u h
on_clause (c.Offset q) a y u l h = refl
on_clause (c.Set n is m) a y u l h = refl
on_clause (c.UpdateFilter n is) a y u l h = refl
on_clause (c.DeleteFilter n) a y u l h = refl

-- the expression of a clause may end where the tokens go on behind it
clause_as : (x : Clause) (a : Expr) (y : Place) → land x a ≡ Some y → (toks : Tokens) (r : Stmt) → parse (s.Flat y) toks ≡ Ok r → Then 0 (f.Clause x ∷ []) a toks r
unfolding step finish ended_on end_on
clause_as x a y l [] r h m st' a' low same = as_end _ (s.Flat y) r (ap (split end_at) (same 0 (omega arith)) ∙ ap landed_end l) h
clause_as x a y l (u ∷ us) r h m st' a' low same =
    let n = went (s.Flat y) u us r h in
    let e = lands_ends x a u n.0 (ap (λ o. landed o u) l ∙ n.1) in
    as_step _ (s.Flat y) u us r (done_ends u e m st' a' ∙ ap (split (ended_at u)) (same 0 (omega arith)) ∙ on_clause x a y u l e ∙ ap (λ o. landed o u) l) h

-- a token that the clause takes behind its expression
clause_step : (x : Clause) (a : Expr) (u : Token) (toks : Tokens) (next : State) (r : Stmt) → clause_on x a u ≡ Some next → ((m : ℕ) (st : Stack) (b : Expr) → done m st b u ≡ split (ended_at u) (reduce 0 st b)) → parse next toks ≡ Ok r → Then 0 (f.Clause x ∷ []) a (u ∷ toks) r
unfolding step ended_on
clause_step x a u toks next r h ends k m st' a' low same = go _ _ _ _ r (ends m st' a' ∙ ap (split (ended_at u)) (same 0 (omega arith)) ∙ h) k

-- ---- the end

complete_ended : {y : Tokens} → S.Semis y → (r : Stmt) → parse (s.Flat (p.Ended r)) y ≡ Ok r
unfolding step finish place_step create_step drop_step insert_step update_step delete_step select_step place_finish
complete_ended S.end r = stop _ r refl
complete_ended (S.semi p) r = go _ _ _ _ r refl (complete_ended p r)

complete_selected : {y : Tokens} → S.Semis y → (g : Stage) (q : Query) → parse (s.Flat (p.Select (sp.Tail g q))) y ≡ Ok (selected q)
unfolding step finish place_step create_step drop_step insert_step update_step delete_step select_step place_finish
complete_selected S.end g q = stop _ _ refl
complete_selected (S.semi p) stage.Results q = go _ _ _ _ _ refl (complete_ended p _)
complete_selected (S.semi p) stage.Source q = go _ _ _ _ _ refl (complete_ended p _)
complete_selected (S.semi p) stage.Filtered q = go _ _ _ _ _ refl (complete_ended p _)
complete_selected (S.semi p) stage.Ordered q = go _ _ _ _ _ refl (complete_ended p _)
complete_selected (S.semi p) stage.Limited q = go _ _ _ _ _ refl (complete_ended p _)

-- ---- SELECT

result_as_operand : (q : Query) (y : Tokens) (r : Stmt) → parse (s.Operand (f.Clause (c.Results q) ∷ [])) y ≡ Ok r → parse (s.Flat (p.Select (sp.Result q))) y ≡ Ok r
unfolding step finish place_step create_step drop_step insert_step update_step delete_step select_step
result_as_operand q [] r h = absurd (never_end _ r refl h)
result_as_operand q (t.Star ∷ us) r h = absurd (never _ _ us r refl h)
result_as_operand q (u ∷ us) r h = as_step _ _ _ us r refl h

complete_result : {x y : Tokens} {i : ResultItem} → S.Result x i y → (q : Query) (r : Stmt) → parse (s.Flat (p.Select (sp.Tail stage.Results (add_result q i)))) y ≡ Ok r → parse (s.Flat (p.Select (sp.Result q))) x ≡ Ok r
unfolding step place_step create_step drop_step insert_step update_step delete_step select_step done clause_on
complete_result S.all q r h = go _ _ _ _ r refl h
complete_result (S.value {a = a} p) q r h = result_as_operand q _ r (complete p (f.Clause (c.Results q) ∷ []) (omega arith) (omega arith) r (clause_as (c.Results q) a _ refl _ r h))
complete_result (S.value_as {a = a} p n) q r h = result_as_operand q _ r (complete p (f.Clause (c.Results q) ∷ []) (omega arith) (omega arith) r (clause_step (c.Results q) a _ _ _ r refl (λ m st b. refl) (go _ _ _ _ r (on_named n _) h)))

abbrev results : Query → List ResultItem → Query
results q is = record q { select = record q.select { results = is } }

complete_results : {x y : Tokens} {is : List ResultItem} → S.ResultList x is y → (q : Query) (r : Stmt) → parse (s.Flat (p.Select (sp.Tail stage.Results (results q is)))) y ≡ Ok r → parse (s.Flat (p.Select (sp.Result (results q [])))) x ≡ Ok r
unfolding step place_step create_step drop_step insert_step update_step delete_step select_step
complete_results (S.first_result p) q r h = complete_result p (results q []) r h
complete_results (S.next_result {is = is} p p') q r h = complete_results p q r (go _ _ _ _ r refl (complete_result p' (results q is) r h))

complete_term : {x y : Tokens} {i : OrderTerm} → S.Term x i y → (q : Query) (r : Stmt) → parse (s.Flat (p.Select (sp.Tail stage.Ordered (add_term q i)))) y ≡ Ok r → parse (s.Operand (f.Clause (c.Order q) ∷ [])) x ≡ Ok r
unfolding done clause_on
complete_term (S.unmarked {a = a} p) q r h = complete p (f.Clause (c.Order q) ∷ []) (omega arith) (omega arith) r (clause_as (c.Order q) a _ refl _ r h)
complete_term (S.asc {a = a} p) q r h = complete p (f.Clause (c.Order q) ∷ []) (omega arith) (omega arith) r (clause_step (c.Order q) a _ _ _ r refl (λ m st b. refl) h)
complete_term (S.desc {a = a} p) q r h = complete p (f.Clause (c.Order q) ∷ []) (omega arith) (omega arith) r (clause_step (c.Order q) a _ _ _ r refl (λ m st b. refl) h)

abbrev terms : Query → List OrderTerm → Query
terms q is = record q { select = record q.select { order = is } }

complete_terms : {x y : Tokens} {is : List OrderTerm} → S.TermList x is y → (q : Query) (r : Stmt) → parse (s.Flat (p.Select (sp.Tail stage.Ordered (terms q is)))) y ≡ Ok r → parse (s.Operand (f.Clause (c.Order (terms q [])) ∷ [])) x ≡ Ok r
unfolding step place_step create_step drop_step insert_step update_step delete_step select_step
complete_terms (S.first_term p) q r h = complete_term p (terms q []) r h
complete_terms (S.next_term {is = is} p p') q r h = complete_terms p q r (go _ _ _ _ r refl (complete_term p' (terms q is) r h))

-- how far a stage has come
abbrev reach : Stage → ℕ
reach stage.Results = 0
reach stage.Source = 1
reach stage.Filtered = 2
reach stage.Ordered = 3
reach stage.Limited = 4

at_limit : (g : Stage) → reach g ≤ 3 → (q : Query) (n : Text) → place_step (p.Select (sp.Tail g q)) (t.Word n w.Limit) ≡ inside (c.Limit q)
unfolding place_step create_step drop_step insert_step update_step delete_step select_step
at_limit stage.Results h q n = refl
at_limit stage.Source h q n = refl
at_limit stage.Filtered h q n = refl
at_limit stage.Ordered h q n = refl
at_limit stage.Limited h q n = absurd (omega arith)

at_order : (g : Stage) → reach g ≤ 2 → (q : Query) (n : Text) → place_step (p.Select (sp.Tail g q)) (t.Word n w.Order) ≡ flat (p.Select (sp.Order q))
unfolding place_step create_step drop_step insert_step update_step delete_step select_step
at_order stage.Results h q n = refl
at_order stage.Source h q n = refl
at_order stage.Filtered h q n = refl
at_order g h q n = absurd (omega arith)

at_where : (g : Stage) → reach g ≤ 1 → (q : Query) (n : Text) → place_step (p.Select (sp.Tail g q)) (t.Word n w.Where) ≡ inside (c.Filter q)
unfolding place_step create_step drop_step insert_step update_step delete_step select_step
at_where stage.Results h q n = refl
at_where stage.Source h q n = refl
at_where g h q n = absurd (omega arith)

abbrev limits : Query → Option Expr → Option Expr → Query
limits q a b = record q { select = record q.select { limit = a; offset = b } }

complete_limits : {x y : Tokens} {a b : Option Expr} → S.Limits x a b y → S.Semis y → (g : Stage) → reach g ≤ 3 → (q : Query) → parse (s.Flat (p.Select (sp.Tail g (limits q None None)))) x ≡ Ok (selected (limits q a b))
unfolding step done clause_on
complete_limits S.no_limit w g h q = complete_selected w g _
complete_limits (S.limit {a = a} p) w g h q = go _ _ _ _ _ (at_limit g h _ _) (complete p (f.Clause (c.Limit (limits q None None)) ∷ []) (omega arith) (omega arith) _ (clause_as (c.Limit (limits q None None)) a _ refl _ _ (complete_selected w _ _)))
complete_limits (S.limit_offset {a = a} {b = b} p p') w g h q = go _ _ _ _ _ (at_limit g h _ _) (complete p (f.Clause (c.Limit (limits q None None)) ∷ []) (omega arith) (omega arith) _ (clause_step (c.Limit (limits q None None)) a _ _ _ _ refl (λ m st b. refl)
    (complete p' (f.Clause (c.Offset (limits q (Some a) None)) ∷ []) (omega arith) (omega arith) _ (clause_as (c.Offset (limits q (Some a) None)) b _ refl _ _ (complete_selected w _ _)))))

complete_order : {x x' y : Tokens} {is : List OrderTerm} {a b : Option Expr} → S.OrderBy x is x' → S.Limits x' a b y → S.Semis y → (g : Stage) → reach g ≤ 2 → (q : Query) → parse (s.Flat (p.Select (sp.Tail g (limits (terms q []) None None)))) x ≡ Ok (selected (limits (terms q is) a b))
unfolding step place_step create_step drop_step insert_step update_step delete_step select_step
complete_order S.no_order l w g h q = complete_limits l w g (omega arith) (terms q [])
complete_order (S.order_by p) l w g h q = go _ _ _ _ _ (at_order g h _ _) (go _ _ _ _ _ refl (complete_terms p (limits q None None) _ (complete_limits l w stage.Ordered (omega arith) (terms q _))))

abbrev filtered : Query → Option Expr → Query
filtered q a = record q { select = record q.select { filter = a } }

complete_where : {x x1 x2 y : Tokens} {f : Option Expr} {is : List OrderTerm} {a b : Option Expr} → S.Where x f x1 → S.OrderBy x1 is x2 → S.Limits x2 a b y → S.Semis y → (g : Stage) → reach g ≤ 1 → (q : Query) → parse (s.Flat (p.Select (sp.Tail g (limits (terms (filtered q None) []) None None)))) x ≡ Ok (selected (limits (terms (filtered q f) is) a b))
unfolding step
complete_where S.no_where o l w g h q = complete_order o l w g (omega arith) (filtered q None)
complete_where (S.filter {a = a} p) o l w g h q = go _ _ _ _ _ (at_where g h _ _) (complete p _ (omega arith) (omega arith) _ (clause_as (c.Filter (limits (terms (filtered q None) []) None None)) a _ refl _ _ (complete_order o l w stage.Filtered (omega arith) (filtered q (Some a)))))

abbrev sourced : Query → Option Text → Query
sourced q n = record q { select = record q.select { table = n } }

complete_from : {x x1 x2 x3 y : Tokens} {n : Option Text} {f : Option Expr} {is : List OrderTerm} {a b : Option Expr} → S.From x n x1 → S.Where x1 f x2 → S.OrderBy x2 is x3 → S.Limits x3 a b y → S.Semis y → (q : Query) → parse (s.Flat (p.Select (sp.Tail stage.Results (limits (terms (filtered (sourced q None) None) []) None None)))) x ≡ Ok (selected (limits (terms (filtered (sourced q n) f) is) a b))
unfolding step place_step create_step drop_step insert_step update_step delete_step select_step
complete_from S.no_from u o l w q = complete_where u o l w stage.Results (omega arith) (sourced q None)
complete_from (S.from {n = n} k) u o l w q = go _ _ _ _ _ refl (go _ _ _ _ _ (on_named k _) (complete_where u o l w stage.Source (omega arith) (sourced q (Some n))))

-- behind any place from which SELECT leads to a query
complete_select : {x y : Tokens} {q : SelectStmt} → S.Select x q y → S.Semis y → (z : Place) (i : Option Target) → ((n : Text) → place_step z (t.Word n w.Select) ≡ flat (p.Select (sp.Result (query i)))) → parse (s.Flat z) x ≡ Ok (select_into i q)
unfolding step
complete_select (S.select {m = m} k f u o l) w z i h = go _ _ _ _ _ (h m) (complete_results k (query i) _ (complete_from f u o l w (results (query i) _)))

-- ---- CREATE TABLE, DROP TABLE

complete_rules : {c d : ColumnDef} {x y : Tokens} → S.Rules c x d y → (z : NewTable) (r : Stmt) → parse (s.Flat (p.Create (cp.Column z d))) y ≡ Ok r → parse (s.Flat (p.Create (cp.Column z c))) x ≡ Ok r
unfolding step place_step create_step drop_step insert_step update_step delete_step select_step
complete_rules S.no_more z r h = h
complete_rules (S.primary_key {c = c} e k) z r h = go _ _ _ _ r (ap (λ b. unset b (p.Create (cp.ColumnPrimary z c))) e) (go _ _ _ _ r refl (complete_rules k z r h))
complete_rules (S.not_null {c = c} e k) z r h = go _ _ _ _ r (ap (λ b. unset b (p.Create (cp.ColumnNot z c))) e) (go _ _ _ _ r refl (complete_rules k z r h))
complete_rules (S.unique {c = c} e k) z r h = go _ _ _ _ r (ap (λ b. unset b (p.Create (cp.Column z (record c { unique = true })))) e) (complete_rules k z r h)

complete_kind : {v : Word} {k : ColumnKind} → S.Kind v k → (n m : Text) (y : Tokens) (z : NewTable) (r : Stmt) → parse (s.Flat (p.Create (cp.Column z (plain_column n k)))) y ≡ Ok r → parse (s.Flat (p.Create (cp.ColumnNamed z n))) (t.Word m v ∷ y) ≡ Ok r
unfolding step place_step create_step drop_step insert_step update_step delete_step select_step
complete_kind S.integer_kind n m y z r h = go _ _ _ _ r refl h
complete_kind S.text_kind n m y z r h = go _ _ _ _ r refl h
complete_kind S.blob_kind n m y z r h = go _ _ _ _ r refl h

complete_column : {x y : Tokens} {d : ColumnDef} → S.Column x d y → (z : NewTable) (r : Stmt) → parse (s.Flat (p.Create (cp.Column z d))) y ≡ Ok r → parse (s.Flat (p.Create (cp.ColumnStart z))) x ≡ Ok r
unfolding step place_step create_step drop_step insert_step update_step delete_step select_step
complete_column (S.column n k p) z r h = go _ _ _ _ r (on_named n _) (complete_kind k _ _ _ z r (complete_rules p z r h))

abbrev columns : NewTable → List ColumnDef → NewTable
columns z ds = record z { columns = ds }

complete_columns : {x y : Tokens} {ds : List ColumnDef} → S.ColumnList x ds y → (z : NewTable) (r : Stmt) → ((cs : List ColumnDef) (d : ColumnDef) → cs ++ d ∷ [] ≡ ds → parse (s.Flat (p.Create (cp.Column (columns z cs) d))) y ≡ Ok r) → parse (s.Flat (p.Create (cp.ColumnStart (columns z [])))) x ≡ Ok r
unfolding step place_step create_step drop_step insert_step update_step delete_step select_step
complete_columns (S.first_column p) z r h = complete_column p (columns z []) r (h [] _ refl)
complete_columns (S.next_column {cs = cs} k k') z r h = complete_columns k z r (λ ds d is. go _ _ _ _ r (ap (λ v. flat (p.Create (cp.ColumnStart (columns z v)))) is) (complete_column k' (columns z cs) r (h cs _ refl)))

complete_table : {y z : Tokens} {ds : List ColumnDef} → S.ColumnList y ds (t.Close ∷ z) → S.Semis z → (b : Bool) (n : Text) → parse (s.Flat (p.Create (cp.Named b n))) (t.Open ∷ y) ≡ Ok (stmt.Create b n ds)
unfolding step place_step create_step drop_step insert_step update_step delete_step select_step
complete_table k w b n = go _ _ _ _ _ refl (complete_columns k (new_table b n) _ (λ cs d is. go _ _ _ _ _ (ap (λ v. flat (p.Ended (stmt.Create b n v))) is) (complete_ended w _)))

create_if_as : (n : Text) (y : Tokens) (r : Stmt) → parse (s.Flat (p.Create (cp.Named false n))) y ≡ Ok r → parse (s.Flat (p.Create (cp.If n))) y ≡ Ok r
unfolding step finish place_step create_step drop_step insert_step update_step delete_step select_step place_finish
create_if_as n [] r h = absurd (never_end _ r refl h)
create_if_as n (t.Word m w.Not ∷ us) r h = absurd (never _ _ us r refl h)
create_if_as n (u ∷ us) r h = as_step _ _ _ us r refl h

create_named : {n : Text} {u : Token} → Name n u → (y : Tokens) (r : Stmt) → parse (s.Flat (p.Create (cp.Named false n))) y ≡ Ok r → parse (s.Flat (p.Create cp.Table)) (u ∷ y) ≡ Ok r
unfolding step place_step create_step drop_step insert_step update_step delete_step select_step
create_named (bare {n = n} {v = w.If} h) y r k = go _ _ _ _ r refl (create_if_as n y r k)
create_named (bare {n = n} h) y r k = go _ _ _ _ r (ap (λ b. on_name (cond b None (Some n)) (λ z. p.Create (cp.Named false z))) h) k
create_named quoted y r k = go _ _ _ _ r refl k

drop_if_as : (n : Text) (y : Tokens) (r : Stmt) → parse (s.Flat (p.Ended (stmt.Drop false n))) y ≡ Ok r → parse (s.Flat (p.Drop (dp.If n))) y ≡ Ok r
unfolding step finish place_step create_step drop_step insert_step update_step delete_step select_step place_finish
drop_if_as n [] r h = as_end _ _ r refl h
drop_if_as n (t.Word m w.Exists ∷ us) r h = absurd (never _ _ us r refl h)
drop_if_as n (u ∷ us) r h = as_step _ _ _ us r refl h

drop_named : {n : Text} {u : Token} → Name n u → (y : Tokens) (r : Stmt) → parse (s.Flat (p.Ended (stmt.Drop false n))) y ≡ Ok r → parse (s.Flat (p.Drop dp.Table)) (u ∷ y) ≡ Ok r
unfolding step place_step create_step drop_step insert_step update_step delete_step select_step
drop_named (bare {n = n} {v = w.If} h) y r k = go _ _ _ _ r refl (drop_if_as n y r k)
drop_named (bare {n = n} h) y r k = go _ _ _ _ r (ap (λ b. on_name (cond b None (Some n)) (λ n. p.Ended (stmt.Drop false n))) h) k
drop_named quoted y r k = go _ _ _ _ r refl k

-- ---- INSERT

complete_names : {x y : Tokens} {ns : List Text} → S.NameList x ns y → (n : Text) (r : Stmt) → parse (s.Flat (p.Insert (ip.Names n ns))) y ≡ Ok r → parse (s.Flat (p.Insert (ip.NameStart n []))) x ≡ Ok r
unfolding step place_step create_step drop_step insert_step update_step delete_step select_step
complete_names (S.first_name k) n r h = go _ _ _ _ r (on_named k (λ m. p.Insert (ip.Names n (m ∷ [])))) h
complete_names (S.next_name {ns = ns} q k) n r h = complete_names q n r (go _ _ _ _ r refl (go _ _ _ _ r (on_named k (λ m. p.Insert (ip.Names n (ns ++ m ∷ [])))) h))

table_as : (n : Text) (y : Tokens) (r : Stmt) → parse (s.Flat (p.Insert (ip.Columns (target n None)))) y ≡ Ok r → parse (s.Flat (p.Insert (ip.Table n))) y ≡ Ok r
unfolding step finish place_step create_step drop_step insert_step update_step delete_step select_step place_finish
table_as n [] r h = absurd (never_end _ r refl h)
table_as n (t.Open ∷ us) r h = absurd (never _ _ us r refl h)
table_as n (u ∷ us) r h = as_step _ _ _ us r refl h

complete_target : {x y : Tokens} {ns : Option (List Text)} → S.ColumnNames x ns y → (n : Text) (r : Stmt) → parse (s.Flat (p.Insert (ip.Columns (target n ns)))) y ≡ Ok r → parse (s.Flat (p.Insert (ip.Table n))) x ≡ Ok r
unfolding step place_step create_step drop_step insert_step update_step delete_step select_step
complete_target S.no_names n r h = table_as n _ r h
complete_target (S.these_names k) n r h = go _ _ _ _ r refl (complete_names k n r (go _ _ _ _ r refl h))

-- `)` behind a row
row_closed : (i : Target) (rs : List (List Expr)) (ys xs : List Expr) (a : Expr) (toks : Tokens) (r : Stmt) → ys ++ a ∷ [] ≡ xs → parse (s.Flat (p.Insert (ip.Rows i (rs ++ xs ∷ [])))) toks ≡ Ok r → Then 0 (f.Clause (c.Row i rs ys) ∷ []) a (t.Close ∷ toks) r
unfolding done clause_on
row_closed i rs ys xs a toks r is h = clause_step (c.Row i rs ys) a t.Close toks _ r (ap (λ v. flat (p.Insert (ip.Rows i (rs ++ v ∷ [])))) is) (λ m st b. refl) h

complete_rows : {x y : Tokens} {rs : List (List Expr)} → S.Rows x rs y → (i : Target) (r : Stmt) → parse (s.Flat (p.Insert (ip.Rows i rs))) y ≡ Ok r → parse (s.Flat (p.Insert (ip.Values i []))) x ≡ Ok r
unfolding step place_step create_step drop_step insert_step update_step delete_step select_step
complete_rows (S.first_row p) i r h = go _ _ _ _ r refl (complete_some p (λ xs. f.Clause (c.Row i [] xs)) [] (row_list i []) r (λ ys a is. row_closed i [] ys _ a _ r is h))
complete_rows (S.next_row {rs = rs} p q) i r h = complete_rows p i r (go _ _ _ _ r refl (go _ _ _ _ r refl (complete_some q (λ xs. f.Clause (c.Row i rs xs)) [] (row_list i rs) r (λ ys a is. row_closed i rs ys _ a _ r is h))))

complete_inserted : {y : Tokens} → S.Semis y → (i : Target) (rs : List (List Expr)) → parse (s.Flat (p.Insert (ip.Rows i rs))) y ≡ Ok (insert i rs)
unfolding step finish place_step create_step drop_step insert_step update_step delete_step select_step place_finish
complete_inserted S.end i rs = stop _ _ refl
complete_inserted (S.semi k) i rs = go _ _ _ _ _ refl (complete_ended k _)

-- ---- UPDATE, DELETE

complete_set : {x y : Tokens} {i : Text × Expr} → S.Set x i y → (n : Text) (is : List (Text × Expr)) (r : Stmt) → parse (s.Flat (p.Update (up.Sets n (is ++ i ∷ [])))) y ≡ Ok r → parse (s.Flat (p.Update (up.SetStart n is))) x ≡ Ok r
unfolding step place_step create_step drop_step insert_step update_step delete_step select_step
complete_set (S.set {n = m} {a = a} k q) n is r h = go _ _ _ _ r (on_named k (λ z. p.Update (up.SetName n is z))) (go _ _ _ _ r refl (complete q (f.Clause (c.Set n is m) ∷ []) (omega arith) (omega arith) r (clause_as (c.Set n is m) a _ refl _ r h)))

complete_sets : {x y : Tokens} {is : List (Text × Expr)} → S.SetList x is y → (n : Text) (r : Stmt) → parse (s.Flat (p.Update (up.Sets n is))) y ≡ Ok r → parse (s.Flat (p.Update (up.SetStart n []))) x ≡ Ok r
unfolding step place_step create_step drop_step insert_step update_step delete_step select_step
complete_sets (S.first_set k) n r h = complete_set k n [] r h
complete_sets (S.next_set {is = is} k k') n r h = complete_sets k n r (go _ _ _ _ r refl (complete_set k' n is r h))

complete_update : {x y : Tokens} {g : Option Expr} → S.Where x g y → S.Semis y → (n : Text) (is : List (Text × Expr)) → parse (s.Flat (p.Update (up.Sets n is))) x ≡ Ok (stmt.Update n is g)
unfolding step finish place_step create_step drop_step insert_step update_step delete_step select_step place_finish
complete_update S.no_where S.end n is = stop _ _ refl
complete_update S.no_where (S.semi w) n is = go _ _ _ _ _ refl (complete_ended w _)
complete_update (S.filter {a = a} k) w n is = go _ _ _ _ _ refl (complete k (f.Clause (c.UpdateFilter n is) ∷ []) (omega arith) (omega arith) _ (clause_as (c.UpdateFilter n is) a _ refl _ _ (complete_ended w _)))

complete_delete : {x y : Tokens} {g : Option Expr} → S.Where x g y → S.Semis y → (n : Text) → parse (s.Flat (p.Delete (del.Table n))) x ≡ Ok (stmt.Delete n g)
unfolding step finish place_step create_step drop_step insert_step update_step delete_step select_step place_finish
complete_delete S.no_where S.end n = stop _ _ refl
complete_delete S.no_where (S.semi w) n = go _ _ _ _ _ refl (complete_ended w _)
complete_delete (S.filter {a = a} k) w n = go _ _ _ _ _ refl (complete k (f.Clause (c.DeleteFilter n) ∷ []) (omega arith) (omega arith) _ (clause_as (c.DeleteFilter n) a _ refl _ _ (complete_ended w _)))

-- ---- any statement

pub complete_stmt : {x : Tokens} {r : Stmt} → S.Spells x r → parse Start x ≡ Ok r
unfolding step place_step create_step drop_step insert_step update_step delete_step select_step
complete_stmt (S.create {b = b} {n = n} S.always k l w) = go _ _ _ _ _ refl (go _ _ _ _ _ refl (create_named k _ _ (complete_table l w false n)))
complete_stmt (S.create {b = b} {n = n} S.if_not_exists k l w) = go _ _ _ _ _ refl (go _ _ _ _ _ refl (go _ _ _ _ _ refl (go _ _ _ _ _ refl (go _ _ _ _ _ refl (go _ _ _ _ _ (on_named k (λ z. p.Create (cp.Named true z))) (complete_table l w true n))))))
complete_stmt (S.drop S.surely k w) = go _ _ _ _ _ refl (go _ _ _ _ _ refl (drop_named k _ _ (complete_ended w _)))
complete_stmt (S.drop S.if_exists k w) = go _ _ _ _ _ refl (go _ _ _ _ _ refl (go _ _ _ _ _ refl (go _ _ _ _ _ refl (go _ _ _ _ _ (on_named k (λ n. p.Ended (stmt.Drop true n))) (complete_ended w _)))))
complete_stmt (S.insert {n = n} k l q w) = go _ _ _ _ _ refl (go _ _ _ _ _ refl (go _ _ _ _ _ (on_named k (λ z. p.Insert (ip.Table z))) (complete_target l n _ (go _ _ _ _ _ refl (complete_rows q _ _ (complete_inserted w _ _))))))
complete_stmt (S.insert_select {n = n} {ns = ns} k l q w) = go _ _ _ _ _ refl (go _ _ _ _ _ refl (go _ _ _ _ _ (on_named k (λ z. p.Insert (ip.Table z))) (complete_target l n _ (complete_select q w (p.Insert (ip.Columns (target n ns))) (Some (target n ns)) (λ m. refl)))))
complete_stmt (S.update {n = n} k l q w) = go _ _ _ _ _ refl (go _ _ _ _ _ (on_named k (λ z. p.Update (up.Table z))) (go _ _ _ _ _ refl (complete_sets l n _ (complete_update q w n _))))
complete_stmt (S.delete {n = n} k q w) = go _ _ _ _ _ refl (go _ _ _ _ _ refl (go _ _ _ _ _ (on_named k (λ z. p.Delete (del.Table z))) (complete_delete q w n)))
complete_stmt (S.select_stmt q w) = complete_select q w p.Start None (λ m. refl)
