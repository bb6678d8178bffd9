-- The rows of an INSERT's select have as many values as it has results; and what every statement makes of a valid database is valid.
use Rattle.std.proofs.Common.{◌≡◌, ◌≢◌, ℕ, zero, suc, ◌+◌, ◌≤◌, Bool, true, List, [], ◌∷◌, map, length, take, drop, Option, Some, None, Ok, refl, sym, ap, subst, ◌∙◌}
use Rattle.std.specs.declared.cmp.Ordering.{Ordering}
use Rattle.std.specs.declared.cmp.Ordering.TheVariants.{Less, Equal, Greater}
use Rattle.std.specs.Ordering.{match_ordering}
use Rattle.std.specs.BTreeMap.{insert_entry}
use Rattle.std.proofs.lemmas.List.{length-map}
use Rattle.rq_values.specs.declared.value.Value.{Value}
use Rattle.rq_grammar.specs.declared.expr.Expr.{Expr}
use Rattle.rq_grammar.specs.declared.stmt.ColumnDef.{ColumnDef}
use Rattle.rq_grammar.specs.declared.stmt.SelectStmt.{SelectStmt}
use Rattle.rq_grammar.specs.declared.stmt.InsertRows.{InsertRows}
use Rattle.rq_grammar.specs.declared.stmt.InsertRows.TheVariants as rows
use Rattle.rq_grammar.specs.declared.stmt.Stmt.{Stmt}
use Rattle.rq_grammar.specs.declared.stmt.Stmt.TheVariants as stmt
use Rattle.rq_grammar.specs.Proper.{is_statement}
use Rattle.rq_eval.specs.Outcome.{Outcome, all_of}
use Rattle.rq_eval.specs.Names.{Row}
use Rattle.rq_eval.specs.Value.{Gives}
use Rattle.rq_eval.specs.declared.row.Scope.TheVariants as scope
use Rattle.rq_results.specs.declared.checking.Allowed.TheVariants as allowed
use Rattle.rq_results.specs.Checks.{Check, first, names_in, calls_in, names_check, calls_check, is_over_all}
use Rattle.rq_results.specs.Results.{Source, source_of, Shown, spread}
use Rattle.rq_select.specs.Sorting.{Entry, place_cmp, sorted_among, results_of, in_order}
use Rattle.rq_select.specs.Select.{Term, sort_value, with_terms, entry_of, cut, groups, members, shown_value, shown_rows, meets, filtered, term_of, limit_of, offset_of, rows_selected}
use Rattle.rq_select.specs.Parts.{rowids_where, result_count, result_rows}
use Rattle.rq_meaning.specs.declared.done.Done.{Done}
use Rattle.rq_meaning.specs.Database.{Table, Database, table_size, size_limit}
use Rattle.rq_meaning.specs.Checks.{list_check, count_check, values_check, in_rows, update_check, delete_check}
use Rattle.rq_meaning.specs.Changes.{none_inserted, in_turn, row_inserted, expressions_inserted, without_rows, rows_updated}
use Rattle.rq_meaning.specs.Statements.{as_inserted, values_inserted, from_source, from_table, select_inserted, inserted, updated, deleted, executed, others_size}
use Rattle.rq_meaning.specs.Valid.{ValidTable, Valid, Entered}
use Rattle.rq_meaning.proofs.Entering.{ok_then, ok_unless, all_ok, AllOk}
use Rattle.rq_meaning.proofs.Keeping.{Each, Counts, updated_keeps, values_keep, results_keep, deleted_keeps, length-all_ok}
use Rattle.rq_meaning.proofs.Databases.{changed_valid, created_valid, dropped_valid}

same_ok : {A : Type 0} (a b : A) → ◌≡◌ {A = Outcome A} (Ok a) (Ok b) → a ≡ b
same_ok a b e = cc

-- ---- rows of so many values

abbrev HasResults : ℕ → Entry → Type 0
HasResults n e = length e.1 ≡ n

entry_has : (gs : List Gives) (ts : List Term) (r : Row) (e : Entry) → entry_of gs ts r ≡ Ok e → HasResults (length gs) e
entry_has gs ts r e h =
    let a = ok_then (all_of (map (λ (g : Gives). g r) gs)) (with_terms ts r) e h in
    let b = ok_then (all_of (map (sort_value r a.0) ts)) (λ ks. Ok ((ks, r.rowid), a.0)) e a.2 in
    ap (λ (x : Entry). length x.1) (sym (same_ok ((b.0, r.rowid), a.0) e b.2)) ∙ length-all_ok (map (λ (g : Gives). g r) gs) a.0 (all_ok (map (λ (g : Gives). g r) gs) a.0 a.1) ∙ length-map gs (λ (g : Gives). g r)

entries_have : (gs : List Gives) (ts : List Term) (rs : List Row) (es : List Entry) → AllOk (map (entry_of gs ts) rs) es → Each (HasResults (length gs)) es
entries_have gs ts [] [] a = tt
entries_have gs ts [] (e ∷ es) a = absurd a
entries_have gs ts (r ∷ rs) [] a = absurd a
entries_have gs ts (r ∷ rs) (e ∷ es) a = (entry_has gs ts r e a.0, entries_have gs ts rs es a.1)

put_has : (n : ℕ) (es : List Entry) (e : Entry) → Each (HasResults n) es → HasResults n e → Each (HasResults n) (insert_entry place_cmp es e.0 e.1)
put_has n [] e all one = (one, tt)
put_has n (x ∷ es) e all one = by (place_cmp e.0 x.0) (put_has n es e all.1 one)
  where
    by : (o : Ordering) → Each (HasResults n) (insert_entry place_cmp es e.0 e.1) → Each (HasResults n) (match_ordering o ((e.0, e.1) ∷ x ∷ es) ((x.0, e.1) ∷ es) (x ∷ insert_entry place_cmp es e.0 e.1))
    by Less rest = (one, all)
    by Equal rest = (one, all.1)
    by Greater rest = (all.0, rest)

sorted_have : (n : ℕ) (es there : List Entry) → Each (HasResults n) there → Each (HasResults n) es → Each (HasResults n) (sorted_among there es)
sorted_have n [] there a b = a
sorted_have n (e ∷ es) there a b = sorted_have n es (insert_entry place_cmp there e.0 e.1) (put_has n there e a b.0) b.1

abbrev HasValues : ℕ → List Value → Type 0
HasValues n xs = length xs ≡ n

results_have : (n : ℕ) (es : List Entry) → Each (HasResults n) es → Each (HasValues n) (results_of es)
results_have n [] a = tt
results_have n (e ∷ es) a = (a.0, results_have n es a.1)

drop_have : {X : Type 0} (Q : X → Type 0) (k : ℕ) (xs : List X) → Each Q xs → Each Q (drop k xs)
drop_have Q zero xs a = a
drop_have Q (suc k) [] a = a
drop_have Q (suc k) (x ∷ xs) a = drop_have Q k xs a.1

take_have : {X : Type 0} (Q : X → Type 0) (k : ℕ) (xs : List X) → Each Q xs → Each Q (take k xs)
take_have Q zero xs a = tt
take_have Q (suc k) [] a = a
take_have Q (suc k) (x ∷ xs) a = (a.0, take_have Q k xs a.1)

cut_have : (n : ℕ) (limit : Option ℕ) (offset : ℕ) (xs : List (List Value)) → Each (HasValues n) xs → Each (HasValues n) (cut limit offset xs)
cut_have n None offset xs a = drop_have (HasValues n) offset xs a
cut_have n (Some k) offset xs a = take_have (HasValues n) k (drop offset xs) (drop_have (HasValues n) offset xs a)

shown_have : (gs : List Row → List Gives) (ts : List Term) (over : Bool) (limit : Option ℕ) (offset : ℕ) (left : List Row) (rs : List (List Value))
    → shown_rows gs ts over limit offset left ≡ Ok rs → Each (HasValues (length (gs (members over left)))) rs
shown_have gs ts over limit offset left rs e =
    let ms = gs (members over left) in
    let n = length ms in
    let a = ok_then (all_of (map (entry_of ms ts) (groups over left))) (λ es. Ok (cut limit offset (in_order es))) rs e in
    subst (Each (HasValues n)) (same_ok (cut limit offset (in_order a.0)) rs a.2)
    (cut_have n limit offset (in_order a.0) (results_have n (sorted_among [] a.0) (sorted_have n a.0 [] tt (entries_have ms ts (groups over left) a.0 (all_ok (map (entry_of ms ts) (groups over left)) a.0 a.1)))))

rows_have : (q : SelectStmt) (s : Source) (shown : List Shown) (rs : List (List Value)) → rows_selected q s.scope s.rows shown ≡ Ok rs → Each (HasValues (length shown)) rs
rows_have q s shown rs e =
    let over = is_over_all shown in
    let a = ok_unless (names_check s.scope shown q) _ rs e in
    let b = ok_unless (calls_check over shown q) _ rs a.1 in
    let c = ok_then (all_of (map (term_of s.scope shown) q.order)) _ rs b.1 in
    let d = ok_then (limit_of q.limit) _ rs c.2 in
    let f = ok_then (offset_of q.offset) _ rs d.2 in
    let g = ok_then (filtered (meets s.scope q.filter) [] s.rows) _ rs f.2 in
    let h = shown_have (λ all. map (shown_value s.scope over all) shown) c.0 over d.0 f.0 g.0 rs g.2 in
    subst (λ n. Each (HasValues n) rs) (length-map shown (shown_value s.scope over (members over g.0))) h

pub results_count : (q : SelectStmt) (s : Source) (count : ℕ) (rs : List (List Value)) → result_count q s ≡ Ok count → result_rows q s ≡ Ok rs → Each (HasValues count) rs
results_count q s count rs e f =
    let shown = spread (length s.columns) q.results in
    let a = ok_unless (names_check s.scope shown q) (Ok (length shown)) count e in
    subst (λ n. Each (HasValues n) rs) (same_ok (length shown) count a.1) (rows_have q s shown rs f)

-- ---- statements on one table

each_counts : (t : Table) (ns : Option (List (List ℕ))) (count : ℕ) (rs : List (List Value)) → Counts t ns count → Each (HasValues count) rs → Each (λ xs. Counts t ns (length xs)) rs
each_counts t ns count [] c a = tt
each_counts t ns count (x ∷ xs) c a = (subst (Counts t ns) (sym a.0) c, each_counts t ns count xs c a.1)

none_first : (c : Check) (cs : List Check) → first (c ∷ cs) ≡ None → (c ≡ None) × (first cs ≡ None)
none_first None cs e = (refl, e)
none_first (Some w) cs e = absurd (cc)

checked_counts : (t : Table) (ns : Option (List (List ℕ))) (rs : List (List Expr)) → first (map (λ xs. count_check t ns (length xs)) rs) ≡ None → Each (λ xs. Counts t ns (length xs)) rs
checked_counts t ns [] e = tt
checked_counts t ns (x ∷ xs) e = let a = none_first (count_check t ns (length x)) (map (λ ys. count_check t ns (length ys)) xs) e in (a.0, checked_counts t ns xs a.1)

-- a change of a table that keeps it valid
abbrev Keeps : (ℕ → Table → Outcome (Table × Done)) → Type 0
Keeps change = (others : ℕ) (t : Table) (p : Table × Done) → ValidTable t → others + table_size t ≤ size_limit → change others t ≡ Ok p → Entered others t p.0

first_of : (a b : Table × Done) → ◌≡◌ {A = Outcome (Table × Done)} (Ok a) (Ok b) → a.0 ≡ b.0
first_of a b e = ap (λ (x : Table × Done). x.0) (same_ok a b e)

third_clear : (a b c d : Check) → first (a ∷ b ∷ c ∷ d ∷ []) ≡ None → c ≡ None
third_clear None None None d e = refl
third_clear None None (Some w) d e = absurd (cc)
third_clear None (Some w) c d e = absurd (cc)
third_clear (Some w) b c d e = absurd (cc)

values_inserted_keep : (ns : Option (List (List ℕ))) (rs : List (List Expr)) → Keeps (values_inserted ns rs)
values_inserted_keep ns rs others t p valid within e =
    let a = ok_unless (values_check t ns rs) _ p e in
    let b = ok_then (in_turn (expressions_inserted others ns) rs (none_inserted t)) (λ s. Ok (as_inserted s)) p a.1 in
    let counts = third_clear (list_check t ns) (in_rows (names_in scope.Empty) rs) (first (map (λ (xs : List Expr). count_check t ns (length xs)) rs)) (in_rows (calls_in allowed.Columns) rs) a.0 in
    subst (Entered others t) (first_of (as_inserted b.0) p b.2) (values_keep others ns rs t b.0 valid within (checked_counts t ns rs counts) b.1)

select_inserted_keep : (db : Database) (ns : Option (List (List ℕ))) (q : SelectStmt) → Keeps (select_inserted db ns q)
select_inserted_keep db ns q others t p valid within e =
    let s = ok_then (source_of q.table (from_table db q)) (from_source ns q others t) p e in
    let a = ok_unless (list_check t ns) _ p s.2 in
    let b = ok_then (result_count q s.0) _ p a.1 in
    let c = ok_unless (count_check t ns b.0) _ p b.2 in
    let d = ok_then (result_rows q s.0) _ p c.1 in
    let f = ok_then (in_turn (row_inserted others ns) d.0 (none_inserted t)) (λ i. Ok (as_inserted i)) p d.2 in
    subst (Entered others t) (first_of (as_inserted f.0) p f.2) (results_keep others ns d.0 t f.0 valid within (each_counts t ns b.0 d.0 c.0 (results_count q s.0 b.0 d.0 b.1 d.1)) f.1)

inserted_keep : (db : Database) (ns : Option (List (List ℕ))) (rs : InsertRows) → Keeps (inserted db ns rs)
inserted_keep db ns (rows.Values rs) = values_inserted_keep ns rs
inserted_keep db ns (rows.Select q) = select_inserted_keep db ns q

updated_keep : (ss : List (List ℕ × Expr)) (f : Option Expr) → Keeps (updated ss f)
updated_keep ss f others t p valid within e =
    let a = ok_unless (update_check t ss f) _ p e in
    let b = ok_then (rowids_where t f) _ p a.1 in
    let c = ok_then (rows_updated others ss b.0 t) _ p b.2 in
    subst (Entered others t) (first_of (c.0, _) p c.2) (updated_keeps others ss b.0 t c.0 valid within c.1)

deleted_keep : (f : Option Expr) → Keeps (deleted f)
deleted_keep f others t p valid within e =
    let a = ok_unless (delete_check t f) _ p e in
    let b = ok_then (rowids_where t f) _ p a.1 in
    subst (Entered others t) (first_of (without_rows b.0 t, _) p b.2) (deleted_keeps others b.0 t valid within)

-- ---- all statements

has_columns : (cs : List ColumnDef) → is_statement (stmt.Create true [] cs) ≡ true → cs ≢ []
has_columns [] e f = absurd (cc)
has_columns (c ∷ cs) e f = absurd (cc)

on_keeps : (change : ℕ → Table → Outcome (Table × Done)) → Keeps change → (others : ℕ) (t : Table) (q : Table × Done) → ValidTable t → others + table_size t ≤ size_limit → change others t ≡ Ok q → Entered others t q.0
on_keeps change keeps others t q v w e = keeps others t q v w e

pub executed_valid : (db : Database) (s : Stmt) (p : Database × Done) → is_statement s ≡ true → Valid db → executed db s ≡ Ok p → Valid p.0
executed_valid db (stmt.Create b n cs) p proper valid e = created_valid db b n cs p (has_columns cs proper) valid e
executed_valid db (stmt.Drop b n) p proper valid e = dropped_valid db b n p valid e
executed_valid db (stmt.Insert n ns rs) p proper valid e = changed_valid db n (inserted db ns rs) p (λ t q v w h. inserted_keep db ns rs (others_size n db) t q v w h) valid e
executed_valid db (stmt.Update n ss f) p proper valid e = changed_valid db n (updated ss f) p (λ t q v w h. updated_keep ss f (others_size n db) t q v w h) valid e
executed_valid db (stmt.Delete n f) p proper valid e = changed_valid db n (deleted f) p (λ t q v w h. deleted_keep f (others_size n db) t q v w h) valid e
executed_valid db (stmt.Select q) p proper valid e = absurd (cc)
