-- A statement that is read is proper, and its names, texts and blobs are written so that they can be read.
use Rattle.std.proofs.Common.{◌≡◌, Bool, true, ◌&&◌, List, [], ◌∷◌, ◌++◌, map, refl, ap, ◌∙◌, Option}
use Rattle.rq_values.specs.Text.{is_text}
use Rattle.rq_grammar.specs.declared.expr.Expr.{Expr}
use Rattle.rq_grammar.specs.declared.stmt.ColumnDef.{ColumnDef}
use Rattle.rq_grammar.specs.declared.stmt.ResultItem.{ResultItem}
use Rattle.rq_grammar.specs.declared.stmt.OrderTerm.{OrderTerm}
use Rattle.rq_grammar.specs.declared.stmt.SelectStmt.{SelectStmt}
use Rattle.rq_grammar.specs.declared.stmt.Stmt.{Stmt}
use Rattle.rq_grammar.specs.Words.{Text, Tokens}
use Rattle.rq_grammar.specs.Statements as S
use Rattle.rq_grammar.specs.Statements.{rising, falling}
use Rattle.rq_grammar.specs.Proper.{all_of, is_some_of, is_proper, is_maybe, is_row, is_result, is_term, are_limits, is_select, is_set, is_list, are_names, is_statement}
use Rattle.rq_print.specs.Written.{is_written, maybe_written, maybe_text, row_written, result_written, term_written, limits_written, select_written, column_written, names_written, set_written, statement_written}
use Rattle.rq_canonical.proofs.GoodExpr.{Cut, and, name_text, all_more, some_more, some_one, at_good, some_good}

-- ---- names

list_more : {A : Type 0} (xs : List A) (a : A) → is_list (xs ++ a ∷ []) ≡ true
list_more [] a = refl
list_more (x ∷ xs) a = refl

names_good : {x y : Tokens} {ns : List Text} → S.NameList x ns y → Cut x → (is_list ns ≡ true) × (all_of (map is_text ns) ≡ true) × Cut y
names_good (S.first_name {n = n} p) c = (refl, all_more is_text [] n refl (name_text p c.0), c.1)
names_good (S.next_name {n = n} {ns = ns} p q) c = let r = names_good p c in (list_more ns n, all_more is_text ns n r.1 (name_text q r.2.1.0), r.2.1.1)

columns_good : {x y : Tokens} {ns : Option (List Text)} → S.ColumnNames x ns y → Cut x → (are_names ns ≡ true) × (names_written ns ≡ true) × Cut y
columns_good S.no_names c = (refl, refl, c)
columns_good (S.these_names p) c = let r = names_good p c.1 in (r.0, r.1, r.2.1)

-- ---- CREATE TABLE

rules_good : {c d : ColumnDef} {x y : Tokens} → S.Rules c x d y → Cut x → (d.name ≡ c.name) × Cut y
rules_good S.no_more c = (refl, c)
rules_good (S.primary_key h p) c = rules_good p c.1.1
rules_good (S.not_null h p) c = rules_good p c.1.1
rules_good (S.unique h p) c = rules_good p c.1

column_good : {d : ColumnDef} {x y : Tokens} → S.Column x d y → Cut x → (column_written d ≡ true) × Cut y
column_good (S.column p k q) c = let r = rules_good q c.1.1 in (ap is_text r.0 ∙ name_text p c.0, r.1)

definitions_good : {ds : List ColumnDef} {x y : Tokens} → S.ColumnList x ds y → Cut x → (is_list ds ≡ true) × (all_of (map column_written ds) ≡ true) × Cut y
definitions_good (S.first_column {c = d} p) c = let r = column_good p c in (refl, all_more column_written [] d refl r.0, r.1)
definitions_good (S.next_column {c = d} {cs = ds} p q) c =
    let r = definitions_good p c in
    let s = column_good q r.2.1 in
    (list_more ds d, all_more column_written ds d r.1 s.0, s.1)

behind_not_exists : {b : Bool} {x y : Tokens} → S.IfNotExists b x y → Cut x → Cut y
behind_not_exists S.always c = c
behind_not_exists S.if_not_exists c = c.1.1.1

behind_exists : {b : Bool} {x y : Tokens} → S.IfExists b x y → Cut x → Cut y
behind_exists S.surely c = c
behind_exists S.if_exists c = c.1.1

-- ---- SELECT

where_good : {g : Option Expr} {x y : Tokens} → S.Where x g y → Cut x → (is_maybe g ≡ true) × (maybe_written g ≡ true) × Cut y
where_good S.no_where c = (refl, refl, c)
where_good (S.filter p) c = let r = at_good p c.1 in (r.0.0, r.0.1, r.1)

result_good : {i : ResultItem} {x y : Tokens} → S.Result x i y → Cut x → (is_result i ≡ true) × (result_written i ≡ true) × Cut y
result_good S.all c = (refl, refl, c.1)
result_good (S.value {a = a} p) c = let r = at_good p c in (r.0.0, and (is_written a) true r.0.1 refl, r.1)
result_good (S.value_as {a = a} {n = n} p q) c = let r = at_good p c in (r.0.0, and (is_written a) (is_text n) r.0.1 (name_text q r.1.1.0), r.1.1.1)

results_good : {is : List ResultItem} {x y : Tokens} → S.ResultList x is y → Cut x → (is_some_of (map is_result is) ≡ true) × (all_of (map result_written is) ≡ true) × Cut y
results_good (S.first_result {i = i} p) c = let r = result_good p c in (some_one is_result i r.0, all_more result_written [] i refl r.1, r.2)
results_good (S.next_result {i = i} {is = is} p q) c =
    let r = results_good p c in
    let s = result_good q r.2.1 in
    (some_more is_result is i r.0 s.0, all_more result_written is i r.1 s.1, s.2)

from_good : {n : Option Text} {x y : Tokens} → S.From x n y → Cut x → (maybe_text n ≡ true) × Cut y
from_good S.no_from c = (refl, c)
from_good (S.from p) c = (name_text p c.1.0, c.1.1)

term_good : {i : OrderTerm} {x y : Tokens} → S.Term x i y → Cut x → (is_term i ≡ true) × (term_written i ≡ true) × Cut y
term_good (S.unmarked p) c = let r = at_good p c in (r.0.0, r.0.1, r.1)
term_good (S.asc p) c = let r = at_good p c in (r.0.0, r.0.1, r.1.1)
term_good (S.desc p) c = let r = at_good p c in (r.0.0, r.0.1, r.1.1)

terms_good : {is : List OrderTerm} {x y : Tokens} → S.TermList x is y → Cut x → (all_of (map is_term is) ≡ true) × (all_of (map term_written is) ≡ true) × Cut y
terms_good (S.first_term {i = i} p) c = let r = term_good p c in (all_more is_term [] i refl r.0, all_more term_written [] i refl r.1, r.2)
terms_good (S.next_term {i = i} {is = is} p q) c =
    let r = terms_good p c in
    let s = term_good q r.2.1 in
    (all_more is_term is i r.0 s.0, all_more term_written is i r.1 s.1, s.2)

order_good : {is : List OrderTerm} {x y : Tokens} → S.OrderBy x is y → Cut x → (all_of (map is_term is) ≡ true) × (all_of (map term_written is) ≡ true) × Cut y
order_good S.no_order c = (refl, refl, c)
order_good (S.order_by p) c = terms_good p c.1.1

limits_good : {a b : Option Expr} {x y : Tokens} → S.Limits x a b y → Cut x → (are_limits a b ≡ true) × (limits_written a b ≡ true) × Cut y
limits_good S.no_limit c = (refl, refl, c)
limits_good (S.limit {a = a} p) c = let r = at_good p c.1 in (and (is_proper a) true r.0.0 refl, and (is_written a) true r.0.1 refl, r.1)
limits_good (S.limit_offset {a = a} {b = b} p q) c =
    let r = at_good p c.1 in
    let s = at_good q r.1.1 in
    (and (is_proper a) (is_proper b) r.0.0 s.0.0, and (is_written a) (is_written b) r.0.1 s.0.1, s.1)

select_good : {q : SelectStmt} {x y : Tokens} → S.Select x q y → Cut x → (is_select q ≡ true) × (select_written q ≡ true) × Cut y
select_good (S.select {is = is} {n = n} {g = g} {ts = ts} {a = a} {b = b} p f w o l) c =
    let results = results_good p c.1 in
    let table = from_good f results.2 in
    let filter = where_good w table.1 in
    let order = order_good o filter.2 in
    let limits = limits_good l order.2 in (
      and (is_some_of (map is_result is)) (is_maybe g && (all_of (map is_term ts) && are_limits a b)) results.0
          (and (is_maybe g) (all_of (map is_term ts) && are_limits a b) filter.0 (and (all_of (map is_term ts)) (are_limits a b) order.0 limits.0)),
      and (all_of (map result_written is)) (maybe_text n && (maybe_written g && (all_of (map term_written ts) && limits_written a b))) results.1
          (and (maybe_text n) (maybe_written g && (all_of (map term_written ts) && limits_written a b)) table.0
          (and (maybe_written g) (all_of (map term_written ts) && limits_written a b) filter.1 (and (all_of (map term_written ts)) (limits_written a b) order.1 limits.1))),
      limits.2,
    )

-- ---- INSERT, UPDATE

rows_good : {rs : List (List Expr)} {x y : Tokens} → S.Rows x rs y → Cut x → (is_some_of (map is_row rs) ≡ true) × (all_of (map row_written rs) ≡ true) × Cut y
rows_good (S.first_row {xs = xs} p) c = let r = some_good p c.1 in (some_one is_row xs r.0.0, all_more row_written [] xs refl r.0.1, r.1.1)
rows_good (S.next_row {xs = xs} {rs = rs} p q) c =
    let r = rows_good p c in
    let s = some_good q r.2.1.1 in
    (some_more is_row rs xs r.0 s.0.0, all_more row_written rs xs r.1 s.0.1, s.1.1)

set_good : {i : Text × Expr} {x y : Tokens} → S.Set x i y → Cut x → (is_set i ≡ true) × (set_written i ≡ true) × Cut y
set_good (S.set {n = n} {a = a} p q) c = let r = at_good q c.1.1 in (r.0.0, and (is_text n) (is_written a) (name_text p c.0) r.0.1, r.1)

sets_good : {is : List (Text × Expr)} {x y : Tokens} → S.SetList x is y → Cut x → (is_some_of (map is_set is) ≡ true) × (all_of (map set_written is) ≡ true) × Cut y
sets_good (S.first_set {i = i} p) c = let r = set_good p c in (some_one is_set i r.0, all_more set_written [] i refl r.1, r.2)
sets_good (S.next_set {i = i} {is = is} p q) c =
    let r = sets_good p c in
    let s = set_good q r.2.1 in
    (some_more is_set is i r.0 s.0, all_more set_written is i r.1 s.1, s.2)

-- ---- statements

pub stmt_good : {x : Tokens} {s : Stmt} → S.Spells x s → Cut x → (is_statement s ≡ true) × (statement_written s ≡ true)
stmt_good (S.create {n = n} {cs = ds} f p l e) c =
    let named = behind_not_exists f c.1.1 in
    let r = definitions_good l named.1.1 in
    (r.0, and (is_text n) (all_of (map column_written ds)) (name_text p named.0) r.1)
stmt_good (S.drop f p e) c = (refl, name_text p (behind_exists f c.1.1).0)
stmt_good (S.insert {n = n} {ns = ns} {rs = rs} p m l e) c =
    let r = columns_good m c.1.1.1 in
    let s = rows_good l r.2.1 in (
      and (are_names ns) (is_some_of (map is_row rs)) r.0 s.0,
      and (is_text n) (names_written ns && all_of (map row_written rs)) (name_text p c.1.1.0) (and (names_written ns) (all_of (map row_written rs)) r.1 s.1),
    )
stmt_good (S.insert_select {n = n} {ns = ns} {q = q} p m l e) c =
    let r = columns_good m c.1.1.1 in
    let s = select_good l r.2 in
    (and (are_names ns) (is_select q) r.0 s.0, and (is_text n) (names_written ns && select_written q) (name_text p c.1.1.0) (and (names_written ns) (select_written q) r.1 s.1))
stmt_good (S.update {n = n} {is = is} {g = g} p l w e) c =
    let r = sets_good l c.1.1.1 in
    let s = where_good w r.2 in
    (and (is_some_of (map is_set is)) (is_maybe g) r.0 s.0, and (is_text n) (all_of (map set_written is) && maybe_written g) (name_text p c.1.0) (and (all_of (map set_written is)) (maybe_written g) r.1 s.1))
stmt_good (S.delete {n = n} {g = g} p w e) c =
    let s = where_good w c.1.1.1 in
    (s.0, and (is_text n) (maybe_written g) (name_text p c.1.1.0) s.1)
stmt_good (S.select_stmt p e) c = let s = select_good p c in (s.0, s.1)
