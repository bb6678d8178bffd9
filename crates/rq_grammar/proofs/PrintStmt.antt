-- What is printed is spelled so: statements.
use Rattle.std.proofs.Common.{◌≡◌, Bool, true, false, List, [], ◌∷◌, ◌++◌, map, Option, Some, None, refl, sym, subst, append_assoc, append-nil}
use Rattle.std.specs.Prelude.{◌&&◌}
use Rattle.rq_grammar.specs.declared.token.Token.TheVariants as t
use Rattle.rq_grammar.specs.declared.expr.Expr.{Expr}
use Rattle.rq_grammar.specs.declared.stmt.ColumnKind.{ColumnKind}
use Rattle.rq_grammar.specs.declared.stmt.ColumnKind.TheVariants as kind
use Rattle.rq_grammar.specs.declared.stmt.ColumnDef.{ColumnDef}
use Rattle.rq_grammar.specs.declared.stmt.ResultItem.{ResultItem}
use Rattle.rq_grammar.specs.declared.stmt.ResultItem.TheVariants as item
use Rattle.rq_grammar.specs.declared.stmt.OrderTerm.{OrderTerm}
use Rattle.rq_grammar.specs.declared.stmt.SelectStmt.{SelectStmt}
use Rattle.rq_grammar.specs.declared.stmt.Stmt.{Stmt}
use Rattle.rq_grammar.specs.declared.stmt.Stmt.TheVariants as stmt
use Rattle.rq_grammar.specs.declared.stmt.InsertRows.{InsertRows}
use Rattle.rq_grammar.specs.declared.stmt.InsertRows.TheVariants as rows
use Rattle.rq_grammar.specs.Words.{Text, Tokens, quoted}
use Rattle.rq_grammar.specs.Grammar as G
use Rattle.rq_grammar.specs.Grammar.{upper}
use Rattle.rq_grammar.specs.Statements as S
use Rattle.rq_grammar.specs.Print as P
use Rattle.rq_grammar.specs.Print.{Front, word, operator, denial, more, commas, prefix_step, prefix, tokens_of}
use Rattle.rq_grammar.specs.Proper.{all_of, is_some_of, is_proper, is_maybe, is_row, is_result, is_term, are_limits, is_select, is_set, is_list, are_names, is_statement}
use Rattle.rq_grammar.proofs.PrintExpr.{both, printed}

-- ---- lists

items_of : (xs : List Expr) → all_of (map is_proper xs) ≡ true → (y : Tokens) (zs : List Expr) {x : Tokens} → G.Some_of x zs (more (map prefix xs) y) → G.Some_of x (zs ++ xs) y
items_of [] h y zs {x} q = subst (λ v. G.Some_of x v y) (sym (append-nil zs)) q
items_of (a ∷ xs) h y zs {x} q =
    let c = both (is_proper a) (all_of (map is_proper xs)) h in
    subst (λ v. G.Some_of x v y) (append_assoc zs (a ∷ []) xs) (items_of xs c.1 y (zs ++ a ∷ []) (G.more q (printed a c.0 0 _)))

print_items : (xs : List Expr) → is_row xs ≡ true → (y : Tokens) → G.Some_of (commas (map prefix xs) y) xs y
print_items [] h y = absurd (cc)
print_items (a ∷ xs) h y =
    let c = both (is_proper a) (all_of (map is_proper xs)) h in
    items_of xs c.1 y (a ∷ []) (G.one (printed a c.0 0 _))

-- a list of anything, from its first item and the rest
module _ {A : Type 0} (R : Tokens → List A → Tokens → Type 0) (show : A → Front) (test : A → Bool)
    (one : (a : A) → test a ≡ true → (y : Tokens) → R (show a y) (a ∷ []) y)
    (next : (x : Tokens) (xs : List A) (a : A) → test a ≡ true → (y : Tokens) → R x xs (t.Comma ∷ show a y) → R x (xs ++ a ∷ []) y) where
  list_of : (xs : List A) → all_of (map test xs) ≡ true → (y : Tokens) (bs : List A) {x : Tokens} → R x bs (more (map show xs) y) → R x (bs ++ xs) y
  list_of [] h y bs {x} q = subst (λ v. R x v y) (sym (append-nil bs)) q
  list_of (a ∷ xs) h y bs {x} q =
      let c = both (test a) (all_of (map test xs)) h in
      subst (λ v. R x v y) (append_assoc bs (a ∷ []) xs) (list_of xs c.1 y (bs ++ a ∷ []) (next x bs a c.0 (more (map show xs) y) q))

  print_list : (xs : List A) → is_some_of (map test xs) ≡ true → (y : Tokens) → R (commas (map show xs) y) xs y
  print_list [] h y = absurd (cc)
  print_list (a ∷ xs) h y =
      let c = both (test a) (all_of (map test xs)) h in
      list_of xs c.1 y (a ∷ []) (one a c.0 (more (map show xs) y))

all_anything : {A : Type 0} (xs : List A) → all_of (map (λ a. true) xs) ≡ true
all_anything [] = refl
all_anything (a ∷ xs) = all_anything xs

some_anything : {A : Type 0} (xs : List A) → is_list xs ≡ true → is_some_of (map (λ a. true) xs) ≡ true
some_anything [] h = absurd (cc)
some_anything (a ∷ xs) h = all_anything xs

-- ---- parts

print_where : (g : Option Expr) → is_maybe g ≡ true → (y : Tokens) → S.Where (P.filter g y) g y
print_where None h y = S.no_where
print_where (Some a) h y = S.filter (printed a h 0 y)

print_source : (n : Option Text) (y : Tokens) → S.From (P.source n y) n y
print_source None y = S.no_from
print_source (Some n) y = S.from quoted

print_result : (i : ResultItem) → is_result i ≡ true → (y : Tokens) → S.Result (P.result i y) i y
print_result item.All h y = S.all
print_result (item.Value a None) h y = S.value (printed a h 0 y)
print_result (item.Value a (Some n)) h y = S.value_as (printed a h 0 _) quoted

print_results : (is : List ResultItem) → is_some_of (map is_result is) ≡ true → (y : Tokens) → S.ResultList (commas (map P.result is) y) is y
print_results is h y = print_list S.ResultList P.result is_result (λ i h y. S.first_result (print_result i h y)) (λ x is i h y q. S.next_result q (print_result i h y)) is h y

shown : (a : Expr) (b : Bool) → is_proper a ≡ true → (y : Tokens) → S.Term (prefix a (P.direction b y)) (record { expr = a; descending = b }) y
shown a true h y = S.desc (printed a h 0 _)
shown a false h y = S.unmarked (printed a h 0 y)

print_term : (i : OrderTerm) → is_term i ≡ true → (y : Tokens) → S.Term (P.term i y) i y
print_term i h y = shown i.expr i.descending h y

print_terms : (is : List OrderTerm) → is_some_of (map is_term is) ≡ true → (y : Tokens) → S.TermList (commas (map P.term is) y) is y
print_terms is h y = print_list S.TermList P.term is_term (λ i h y. S.first_term (print_term i h y)) (λ x is i h y q. S.next_term q (print_term i h y)) is h y

print_order : (is : List OrderTerm) → all_of (map is_term is) ≡ true → (y : Tokens) → S.OrderBy (P.order_by is y) is y
print_order [] h y = S.no_order
print_order (i ∷ is) h y = S.order_by (print_terms (i ∷ is) h y)

print_limits : (a b : Option Expr) → are_limits a b ≡ true → (y : Tokens) → S.Limits (P.limit a b y) a b y
print_limits None None h y = S.no_limit
print_limits None (Some b) h y = absurd (cc)
print_limits (Some a) None h y = let c = both (is_proper a) true h in S.limit (printed a c.0 0 y)
print_limits (Some a) (Some b) h y = let c = both (is_proper a) (is_proper b) h in S.limit_offset (printed a c.0 0 _) (printed b c.1 0 y)

print_select : (q : SelectStmt) → is_select q ≡ true → (y : Tokens) → S.Select (P.select q y) q y
print_select q h y =
    let c = both (is_some_of (map is_result q.results)) (is_maybe q.filter && (all_of (map is_term q.order) && are_limits q.limit q.offset)) h in
    let d = both (is_maybe q.filter) (all_of (map is_term q.order) && are_limits q.limit q.offset) c.1 in
    let g = both (all_of (map is_term q.order)) (are_limits q.limit q.offset) d.1 in
    S.select (print_results q.results c.0 _) (print_source q.table _) (print_where q.filter d.0 _) (print_order q.order g.0 _) (print_limits q.limit q.offset g.1 y)

-- ---- INSERT, UPDATE

print_row : (xs : List Expr) → is_row xs ≡ true → (y : Tokens) → G.Some_of (commas (map prefix xs) (t.Close ∷ y)) xs (t.Close ∷ y)
print_row xs h y = print_items xs h (t.Close ∷ y)

print_rows : (rs : List (List Expr)) → is_some_of (map is_row rs) ≡ true → (y : Tokens) → S.Rows (commas (map P.row rs) y) rs y
print_rows rs h y = print_list S.Rows P.row is_row (λ r h y. S.first_row (print_row r h y)) (λ x rs r h y q. S.next_row q (print_row r h y)) rs h y

print_set : (i : Text × Expr) → is_set i ≡ true → (y : Tokens) → S.Set (P.set i y) i y
print_set i h y = S.set quoted (printed i.1 h 0 y)

print_sets : (is : List (Text × Expr)) → is_some_of (map is_set is) ≡ true → (y : Tokens) → S.SetList (commas (map P.set is) y) is y
print_sets is h y = print_list S.SetList P.set is_set (λ i h y. S.first_set (print_set i h y)) (λ x is i h y q. S.next_set q (print_set i h y)) is h y

print_name_list : (ns : List Text) → is_list ns ≡ true → (y : Tokens) → S.NameList (commas (map (λ n y. t.Quoted n ∷ y) ns) y) ns y
print_name_list ns h y = print_list S.NameList (λ n y. t.Quoted n ∷ y) (λ n. true) (λ n h y. S.first_name quoted) (λ x ns n h y q. S.next_name q quoted) ns (some_anything ns h) y

print_names : (ns : Option (List Text)) → are_names ns ≡ true → (y : Tokens) → S.ColumnNames (P.names ns y) ns y
print_names None h y = S.no_names
print_names (Some ns) h y = S.these_names (print_name_list ns h (t.Close ∷ y))

-- ---- CREATE TABLE

print_kind : (n : Text) (k : ColumnKind) (d : ColumnDef) (x y : Tokens) → S.Rules (S.plain_column n k) x d y → S.Column (t.Quoted n ∷ P.kind_word k x) d y
print_kind n kind.Integer d x y q = S.column quoted S.integer_kind q
print_kind n kind.Text d x y q = S.column quoted S.text_kind q
print_kind n kind.Blob d x y q = S.column quoted S.blob_kind q

print_rules : (n : Text) (k : ColumnKind) (a b c : Bool) (y : Tokens) → S.Rules (S.plain_column n k) (P.primary_rule a (P.not_null_rule b (P.unique_rule c y))) (record { name = n; kind = k; primary = a; not_null = b; unique = c }) y
print_rules n k true true true y = S.primary_key refl (S.not_null refl (S.unique refl S.no_more))
print_rules n k true true false y = S.primary_key refl (S.not_null refl S.no_more)
print_rules n k true false true y = S.primary_key refl (S.unique refl S.no_more)
print_rules n k true false false y = S.primary_key refl S.no_more
print_rules n k false true true y = S.not_null refl (S.unique refl S.no_more)
print_rules n k false true false y = S.not_null refl S.no_more
print_rules n k false false true y = S.unique refl S.no_more
print_rules n k false false false y = S.no_more

print_column : (d : ColumnDef) (y : Tokens) → S.Column (P.column d y) d y
print_column d y = print_kind d.name d.kind d _ y (print_rules d.name d.kind d.primary d.not_null d.unique y)

print_columns : (ds : List ColumnDef) → is_list ds ≡ true → (y : Tokens) → S.ColumnList (commas (map P.column ds) y) ds y
print_columns ds h y = print_list S.ColumnList P.column (λ d. true) (λ d h y. S.first_column (print_column d y)) (λ x ds d h y q. S.next_column q (print_column d y)) ds (some_anything ds h) y

print_if_not : (b : Bool) (y : Tokens) → S.IfNotExists b (P.if_not_exists b y) y
print_if_not true y = S.if_not_exists
print_if_not false y = S.always

print_if : (b : Bool) (y : Tokens) → S.IfExists b (P.if_exists b y) y
print_if true y = S.if_exists
print_if false y = S.surely

-- ---- any statement

print_insert : (n : Text) (ns : Option (List Text)) (rs : InsertRows) → is_statement (stmt.Insert n ns rs) ≡ true → S.Spells (tokens_of (stmt.Insert n ns rs)) (stmt.Insert n ns rs)
print_insert n ns (rows.Values rs) h = let c = both (are_names ns) (is_some_of (map is_row rs)) h in S.insert quoted (print_names ns c.0 _) (print_rows rs c.1 _) S.end
print_insert n ns (rows.Select q) h = let c = both (are_names ns) (is_select q) h in S.insert_select quoted (print_names ns c.0 _) (print_select q c.1 []) S.end

-- the canonical tokens of a proper statement spell it
pub printed_stmt : (r : Stmt) → is_statement r ≡ true → S.Spells (tokens_of r) r
printed_stmt (stmt.Create b n ds) h = S.create (print_if_not b _) quoted (print_columns ds h _) S.end
printed_stmt (stmt.Drop b n) h = S.drop (print_if b _) quoted S.end
printed_stmt (stmt.Insert n ns rs) h = print_insert n ns rs h
printed_stmt (stmt.Update n is g) h = let c = both (is_some_of (map is_set is)) (is_maybe g) h in S.update quoted (print_sets is c.0 _) (print_where g c.1 []) S.end
printed_stmt (stmt.Delete n g) h = S.delete quoted (print_where g h []) S.end
printed_stmt (stmt.Select q) h = S.select_stmt (print_select q h []) S.end
