-- Canonical text is UTF-8 without NUL.
use Rattle.std.proofs.Common.{◌≡◌, Bool, true, false, ◌&&◌, List, [], ◌∷◌, map, refl, sym, subst, ◌∙◌, Option, Some, None, arith}
use Rattle.std.specs.Prelude.{codes, bytes_eq, not}
use Rattle.std.specs.List.{AllByRecursion}
use Rattle.rq_values.specs.Text.{is_text}
use Rattle.rq_grammar.specs.declared.expr.BinaryOp.{BinaryOp}
use Rattle.rq_grammar.specs.declared.expr.BinaryOp.TheVariants as op
use Rattle.rq_grammar.specs.declared.expr.Expr.{Expr}
use Rattle.rq_grammar.specs.declared.expr.Expr.TheOpen.{Expr-F}
use Rattle.rq_grammar.specs.declared.expr.Expr.TheViews.{roll-Expr}
use Rattle.rq_grammar.specs.declared.expr.Expr.TheFolds.{fold-roll-Expr, ind-Expr, map-Expr}
use Rattle.rq_grammar.specs.declared.stmt.ColumnKind.{ColumnKind}
use Rattle.rq_grammar.specs.declared.stmt.ColumnKind.TheVariants as kind
use Rattle.rq_grammar.specs.declared.stmt.ColumnDef.{ColumnDef}
use Rattle.rq_grammar.specs.declared.stmt.ResultItem.{ResultItem}
use Rattle.rq_grammar.specs.declared.stmt.ResultItem.TheVariants as item
use Rattle.rq_grammar.specs.declared.stmt.OrderTerm.{OrderTerm}
use Rattle.rq_grammar.specs.declared.stmt.SelectStmt.{SelectStmt}
use Rattle.rq_grammar.specs.declared.stmt.InsertRows.{InsertRows}
use Rattle.rq_grammar.specs.declared.stmt.InsertRows.TheVariants as rows
use Rattle.rq_grammar.specs.declared.stmt.Stmt.{Stmt}
use Rattle.rq_grammar.specs.declared.stmt.Stmt.TheVariants as stmt
use Rattle.rq_grammar.specs.Words.{Text, is_reserved, is_time}
use Rattle.rq_grammar.specs.Grammar.{upper}
use Rattle.rq_grammar.specs.Spelling.{is_bare, word_of}
use Rattle.rq_grammar.specs.Proper.{all_of, is_some_of, proper_step, is_proper, is_callee, is_parameter, is_maybe, is_row, is_result, is_term, are_limits, is_select, is_set, are_rows, are_names, is_statement}
use Rattle.rq_print.specs.Text as spec
use Rattle.rq_print.specs.Text.{expr_step, expr_text, name_text, listed, listed_behind, operator_text, parameter_text, clause_text, name_clause_text, flag_text, text_of}
use Rattle.rq_print.specs.Written.{written_step, is_written, maybe_written, maybe_text, row_written, result_written, term_written, limits_written, select_written, column_written, names_written, rows_written, set_written, statement_written}
use Rattle.rq_canonical.proofs.GoodExpr.{split, bare_text, some_all}
use Rattle.rq_canonical.proofs.Texts.{IsText, join, plain, nothing, quoted, literal_is}

-- ---- pieces

name_is : (n : Text) → is_text n ≡ true → IsText (name_text n)
name_is n h = quoted 34 n (omega arith) refl h

bare_is : (n : Text) → is_bare n ≡ true → IsText n
bare_is n h = record { is = bare_text n h }

parameter_is : (n : Option Text) → is_parameter n ≡ true → IsText (parameter_text n)
parameter_is None h = plain (codes "?") refl
parameter_is (Some n) h = join (plain (codes ":") refl) (bare_is n h)

operator_is : (o : BinaryOp) → IsText (operator_text o)
operator_is op.Or = plain (codes " OR ") refl
operator_is op.And = plain (codes " AND ") refl
operator_is op.Equal = plain (codes " = ") refl
operator_is op.NotEqual = plain (codes " <> ") refl
operator_is op.Is = plain (codes " IS ") refl
operator_is op.IsNot = plain (codes " IS NOT ") refl
operator_is op.Like = plain (codes " LIKE ") refl
operator_is op.NotLike = plain (codes " NOT LIKE ") refl
operator_is op.Less = plain (codes " < ") refl
operator_is op.LessEqual = plain (codes " <= ") refl
operator_is op.Greater = plain (codes " > ") refl
operator_is op.GreaterEqual = plain (codes " >= ") refl
operator_is op.Add = plain (codes " + ") refl
operator_is op.Sub = plain (codes " - ") refl
operator_is op.Mul = plain (codes " * ") refl
operator_is op.Div = plain (codes " / ") refl
operator_is op.Rem = plain (codes " % ") refl
operator_is op.Concat = plain (codes " || ") refl

in_is : (d : Bool) → IsText (spec.in_text d)
in_is true = plain (codes " NOT IN (") refl
in_is false = plain (codes " IN (") refl

between_is : (d : Bool) → IsText (spec.between_text d)
between_is true = plain (codes " NOT BETWEEN ") refl
between_is false = plain (codes " BETWEEN ") refl

flag_is : (b : Bool) {x : Text} → IsText x → IsText (flag_text b x)
flag_is true h = h
flag_is false h = nothing

kind_is : (k : ColumnKind) → IsText (spec.kind_text k)
kind_is kind.Integer = plain (codes " INTEGER") refl
kind_is kind.Text = plain (codes " TEXT") refl
kind_is kind.Blob = plain (codes " BLOB") refl

-- ---- lists

behind_are : {before : Text} → IsText before → (xs : List Text) → AllByRecursion IsText xs → IsText (listed_behind before xs)
behind_are h [] all = nothing
behind_are h (x ∷ xs) all = join (join h all.0) (behind_are (plain (codes ", ") refl) xs all.1)

listed_are : (xs : List Text) → AllByRecursion IsText xs → IsText (listed xs)
listed_are xs all = behind_are nothing xs all

-- each item passes two tests
each : {A : Type 0} (f : A → Text) (proper written : A → Bool) → ((a : A) → proper a ≡ true → written a ≡ true → IsText (f a))
    → (xs : List A) → all_of (map proper xs) ≡ true → all_of (map written xs) ≡ true → AllByRecursion IsText (map f xs)
each f proper written one [] g h = tt
each f proper written one (x ∷ xs) g h =
    let c = split (proper x) (all_of (map proper xs)) g in
    let d = split (written x) (all_of (map written xs)) h in
    (one x c.0 d.0, each f proper written one xs c.1 d.1)

-- ---- expressions, each beside the proof of its parts

abbrev IsSo : Expr → Type 0
IsSo a = is_proper a ≡ true → is_written a ≡ true → IsText (expr_text a)

abbrev Item : Type 0
Item = (a : Expr) × IsSo a

abbrev bare_of : List Item → List Expr
bare_of = map (λ i. i.0)

items_are : (es : List Item) → all_of (map is_proper (bare_of es)) ≡ true → all_of (map is_written (bare_of es)) ≡ true → AllByRecursion IsText (map expr_text (bare_of es))
items_are [] g h = tt
items_are (i ∷ es) g h =
    let c = split (is_proper i.0) (all_of (map is_proper (bare_of es))) g in
    let d = split (is_written i.0) (all_of (map is_written (bare_of es))) h in
    (i.1 c.0 d.0, items_are es c.1 d.1)

open_is : IsText (codes "(")
open_is = plain (codes "(") refl

close_is : IsText (codes ")")
close_is = plain (codes ")") refl

callee_is : (n : Text) → is_callee n ≡ true → IsText n
callee_is n h = bare_is n (split (is_bare n) (bytes_eq (upper n) n && (not (is_reserved (word_of n)) && not (is_time (word_of n)))) h).0

-- one layer of an expression
layer : (x : Expr-F Item) → proper_step (map-Expr Expr Bool is_proper (map-Expr Item Expr (λ i. i.0) x)) ≡ true → written_step (map-Expr Expr Bool is_written (map-Expr Item Expr (λ i. i.0) x)) ≡ true
    → IsText (expr_step (map-Expr Expr Text expr_text (map-Expr Item Expr (λ i. i.0) x)))
layer (Expr-F.Literal a) g h = literal_is a g h
layer (Expr-F.Param n) g h = parameter_is n g
layer (Expr-F.Name n) g h = name_is n h
layer (Expr-F.Qualified n m) g h = let d = split (is_text n) (is_text m) h in join (join (name_is n d.0) (plain (codes ".") refl)) (name_is m d.1)
layer Expr-F.CurrentTimestamp g h = plain (codes "CURRENT_TIMESTAMP") refl
layer Expr-F.CurrentDate g h = plain (codes "CURRENT_DATE") refl
layer Expr-F.CurrentTime g h = plain (codes "CURRENT_TIME") refl
layer Expr-F.CountAll g h = plain (codes "COUNT(*)") refl
layer (Expr-F.Call n es) g h =
    let c = split (is_callee n) (all_of (map is_proper (bare_of es))) g in
    join (join (join (callee_is n c.0) open_is) (listed_are (map expr_text (bare_of es)) (items_are es c.1 h))) close_is
layer (Expr-F.Minus a) g h = join (join (plain (codes "-(") refl) (a.1 g h)) close_is
layer (Expr-F.Not a) g h = join (join (plain (codes "(NOT ") refl) (a.1 g h)) close_is
layer (Expr-F.Binary o a b) g h =
    let c = split (is_proper a.0) (is_proper b.0) g in
    let d = split (is_written a.0) (is_written b.0) h in
    join (join (join (join open_is (a.1 c.0 d.0)) (operator_is o)) (b.1 c.1 d.1)) close_is
layer (Expr-F.InList n a es) g h =
    let c = split (is_proper a.0) (all_of (map is_proper (bare_of es))) g in
    let d = split (is_written a.0) (all_of (map is_written (bare_of es))) h in
    join (join (join (join open_is (a.1 c.0 d.0)) (in_is n)) (listed_are (map expr_text (bare_of es)) (items_are es c.1 d.1))) (plain (codes "))") refl)
layer (Expr-F.Between n a b c) g h =
    let p = split (is_proper a.0) (is_proper b.0 && is_proper c.0) g in
    let q = split (is_proper b.0) (is_proper c.0) p.1 in
    let r = split (is_written a.0) (is_written b.0 && is_written c.0) h in
    let s = split (is_written b.0) (is_written c.0) r.1 in
    join (join (join (join (join (join open_is (a.1 p.0 r.0)) (between_is n)) (b.1 q.0 s.0)) (plain (codes " AND ") refl)) (c.1 q.1 s.1)) close_is

whole : (x : Expr-F Item) → IsSo (roll-Expr (map-Expr Item Expr (λ i. i.0) x))
whole x g h =
    let z = map-Expr Item Expr (λ i. i.0) x in
    subst IsText (sym (fold-roll-Expr Text expr_step z)) (layer x (sym (fold-roll-Expr Bool proper_step z) ∙ g) (sym (fold-roll-Expr Bool written_step z) ∙ h))

expr_is : (a : Expr) → IsSo a
expr_is = ind-Expr IsSo (λ x y is. subst (λ x. IsSo (roll-Expr x)) is (whole y))

-- ---- clauses

clause_is : {before : Text} → IsText before → (g : Option Expr) → is_maybe g ≡ true → maybe_written g ≡ true → IsText (clause_text before g)
clause_is b None g h = nothing
clause_is b (Some a) g h = join b (expr_is a g h)

name_clause_is : {before : Text} → IsText before → (n : Option Text) → maybe_text n ≡ true → IsText (name_clause_text before n)
name_clause_is b None h = nothing
name_clause_is b (Some n) h = join b (name_is n h)

where_is : (g : Option Expr) → is_maybe g ≡ true → maybe_written g ≡ true → IsText (clause_text (codes " WHERE ") g)
where_is = clause_is (plain (codes " WHERE ") refl)

result_is : (i : ResultItem) → is_result i ≡ true → result_written i ≡ true → IsText (spec.result_text i)
result_is item.All g h = plain (codes "*") refl
result_is (item.Value a n) g h = let d = split (is_written a) (maybe_text n) h in join (expr_is a g d.0) (name_clause_is (plain (codes " AS ") refl) n d.1)

term_is : (i : OrderTerm) → is_term i ≡ true → term_written i ≡ true → IsText (spec.term_text i)
term_is i g h = join (expr_is i.expr g h) (flag_is i.descending (plain (codes " DESC") refl))

order_is : (is : List OrderTerm) → all_of (map is_term is) ≡ true → all_of (map term_written is) ≡ true → IsText (spec.order_text is)
order_is [] g h = nothing
order_is (i ∷ is) g h = join (plain (codes " ORDER BY ") refl) (listed_are (map spec.term_text (i ∷ is)) (each spec.term_text is_term term_written term_is (i ∷ is) g h))

limit_is : (a b : Option Expr) → are_limits a b ≡ true → limits_written a b ≡ true → IsText (spec.limit_text a b)
limit_is None b g h = nothing
limit_is (Some a) b g h =
    let c = split (is_proper a) (is_maybe b) g in
    let d = split (is_written a) (maybe_written b) h in
    join (join (plain (codes " LIMIT ") refl) (expr_is a c.0 d.0)) (clause_is (plain (codes " OFFSET ") refl) b c.1 d.1)

select_is : (q : SelectStmt) → is_select q ≡ true → select_written q ≡ true → IsText (spec.select_text q)
select_is q g h =
    let c = split (is_some_of (map is_result q.results)) (is_maybe q.filter && (all_of (map is_term q.order) && are_limits q.limit q.offset)) g in
    let e = split (is_maybe q.filter) (all_of (map is_term q.order) && are_limits q.limit q.offset) c.1 in
    let k = split (all_of (map is_term q.order)) (are_limits q.limit q.offset) e.1 in
    let d = split (all_of (map result_written q.results)) (maybe_text q.table && (maybe_written q.filter && (all_of (map term_written q.order) && limits_written q.limit q.offset))) h in
    let m = split (maybe_text q.table) (maybe_written q.filter && (all_of (map term_written q.order) && limits_written q.limit q.offset)) d.1 in
    let r = split (maybe_written q.filter) (all_of (map term_written q.order) && limits_written q.limit q.offset) m.1 in
    let s = split (all_of (map term_written q.order)) (limits_written q.limit q.offset) r.1 in
    let results = listed_are (map spec.result_text q.results) (each spec.result_text is_result result_written result_is q.results (some_all (map is_result q.results) c.0) d.0) in
    let tail = join (join (where_is q.filter e.0 r.0) (order_is q.order k.0 s.0)) (limit_is q.limit q.offset k.1 s.1) in
    join (join (join (plain (codes "SELECT ") refl) results) (name_clause_is (plain (codes " FROM ") refl) q.table m.0)) tail

-- ---- statements

column_is : (d : ColumnDef) → column_written d ≡ true → IsText (spec.column_text d)
column_is d h =
    let rules = join (join (flag_is d.primary (plain (codes " PRIMARY KEY") refl)) (flag_is d.not_null (plain (codes " NOT NULL") refl))) (flag_is d.unique (plain (codes " UNIQUE") refl)) in
    join (join (name_is d.name h) (kind_is d.kind)) rules

names_are : (ns : Option (List Text)) → names_written ns ≡ true → IsText (spec.names_text ns)
names_are None h = nothing
names_are (Some ns) h = join (join (plain (codes " (") refl) (listed_are (map name_text ns) (each name_text is_text is_text (λ n g h. name_is n h) ns h h))) close_is

row_is : (xs : List Expr) → is_row xs ≡ true → row_written xs ≡ true → IsText (spec.row_text xs)
row_is xs g h = join (join open_is (listed_are (map expr_text xs) (each expr_text is_proper is_written expr_is xs (some_all (map is_proper xs) g) h))) close_is

inserted_is : (rs : InsertRows) → are_rows rs ≡ true → rows_written rs ≡ true → IsText (spec.inserted_text rs)
inserted_is (rows.Values rs) g h = join (plain (codes " VALUES ") refl) (listed_are (map spec.row_text rs) (each spec.row_text is_row row_written row_is rs (some_all (map is_row rs) g) h))
inserted_is (rows.Select q) g h = join (plain (codes " ") refl) (select_is q g h)

set_is : (i : Text × Expr) → is_set i ≡ true → set_written i ≡ true → IsText (spec.set_text i)
set_is i g h = let d = split (is_text i.0) (is_written i.1) h in join (join (name_is i.0 d.0) (plain (codes " = ") refl)) (expr_is i.1 g d.1)

statement_is : (s : Stmt) → is_statement s ≡ true → statement_written s ≡ true → IsText (text_of s)
statement_is (stmt.Create b n ds) g h =
    let d = split (is_text n) (all_of (map column_written ds)) h in
    let columns = listed_are (map spec.column_text ds) (each spec.column_text column_written column_written (λ d g h. column_is d h) ds d.1 d.1) in
    join (join (join (plain (codes "CREATE TABLE ") refl) (flag_is b (plain (codes "IF NOT EXISTS ") refl))) (name_is n d.0)) (join (join (plain (codes " (") refl) columns) close_is)
statement_is (stmt.Drop b n) g h = join (join (plain (codes "DROP TABLE ") refl) (flag_is b (plain (codes "IF EXISTS ") refl))) (name_is n h)
statement_is (stmt.Insert n ns rs) g h =
    let c = split (are_names ns) (are_rows rs) g in
    let d = split (is_text n) (names_written ns && rows_written rs) h in
    let e = split (names_written ns) (rows_written rs) d.1 in
    join (join (join (plain (codes "INSERT INTO ") refl) (name_is n d.0)) (names_are ns e.0)) (inserted_is rs c.1 e.1)
statement_is (stmt.Update n is f) g h =
    let c = split (is_some_of (map is_set is)) (is_maybe f) g in
    let d = split (is_text n) (all_of (map set_written is) && maybe_written f) h in
    let e = split (all_of (map set_written is)) (maybe_written f) d.1 in
    let sets = listed_are (map spec.set_text is) (each spec.set_text is_set set_written set_is is (some_all (map is_set is) c.0) e.0) in
    join (join (join (plain (codes "UPDATE ") refl) (name_is n d.0)) (join (plain (codes " SET ") refl) sets)) (where_is f c.1 e.1)
statement_is (stmt.Delete n f) g h =
    let d = split (is_text n) (maybe_written f) h in
    join (join (plain (codes "DELETE FROM ") refl) (name_is n d.0)) (where_is f g d.1)
statement_is (stmt.Select q) g h = select_is q g h

pub printed_is : (s : Stmt) → is_statement s ≡ true → statement_written s ≡ true → is_text (text_of s) ≡ true
printed_is s g h = (statement_is s g h).is
