-- What CREATE makes of the tables.
use Rattle.std.proofs.Common.{◌≡◌, ℕ, ◌+◌, ◌<◌, ◌≤◌, true, false, List, [], map, None, Ok, Err, sym, ap, ◌∙◌, arith}
use Rattle.std.specs.Prelude.{if◌then◌else◌, nat_le}
use Rattle.std.specs.Ordering.{int_cmp}
use Rattle.std.specs.List.{sum_by}
use Rattle.std.specs.FinMap as fin
use Rattle.std.specs.FinMap.{len-entries, len-empty}
use Rattle.std.proofs.lemmas.Bool.Decides.{nat_tests}
use Rattle.std.proofs.lemmas.List.{nil_from_length}
use Rattle.rq_values.specs.declared.value.Value.{Value}
use Rattle.rq_grammar.specs.declared.stmt.ColumnDef.{ColumnDef}
use Rattle.rq_eval.specs.declared.error.StmtError.TheVariants as error
use Rattle.rq_select.specs.Select.{unless}
use Rattle.rq_meaning.specs.Database.{Database, lower, table_of, with_table, row_size, empty_size, table_size, tables_size, size_limit}
use Rattle.rq_meaning.specs.Checks.{create_check}
use Rattle.rq_meaning.specs.Statements.{Effect, no_rows, if_within, new_created, nothing_done}
use Rattle.rq_tables.proofs.Names.{sum_insert}

none_there : {X : Type 0} → fin.entries (fin.empty {X = X} {R = int_cmp}) ≡ []
none_there {X = X} = nil_from_length _ (sym (len-entries (fin.empty {X = X} {R = int_cmp})) ∙ len-empty int_cmp X)

pub size_empty : (n : List ℕ) (cs : List ColumnDef) → table_size (no_rows n cs) ≡ empty_size n cs
size_empty n cs =
    let s : sum_by (row_size cs) (fin.values (fin.empty {X = List Value} {R = int_cmp})) ≡ 0 = ap (λ es. sum_by (row_size cs) (map (λ e. e.1) es)) none_there in
    omega (arith, s)

pub size_created : (db : Database) (n : List ℕ) (cs : List ColumnDef) → table_of n db ≡ None → tables_size (with_table n (no_rows n cs) db) ≡ tables_size db + empty_size n cs
size_created db n cs new =
    let a = sum_insert table_size db (lower n) (no_rows n cs) new in
    let b = size_empty n cs in
    omega (arith, a, b)

kept : (n m : ℕ) (x y : Effect) → n ≡ m → m ≤ size_limit → (if nat_le n size_limit then x else y) ≡ x
kept n m x y e h = ap (λ b. if b then x else y) (test n m e h)
  where
    test : (n m : ℕ) → n ≡ m → m ≤ size_limit → nat_le n size_limit ≡ true
    test n m e h = grind (arith, nat_tests)

full : (n m : ℕ) (x y : Effect) → n ≡ m → (m ≤ size_limit → ⊥) → (if nat_le n size_limit then x else y) ≡ y
full n m x y e h = ap (λ b. if b then x else y) (test n m e h)
  where
    test : (n m : ℕ) → n ≡ m → (m ≤ size_limit → ⊥) → nat_le n size_limit ≡ false
    test n m e h = let over : size_limit < m = omega (arith, h) in grind (arith, nat_tests)

pub created_within : (db new : Database) (n : List ℕ) (cs : List ColumnDef) → table_of n db ≡ None → tables_size db + empty_size n cs ≤ size_limit → new ≡ with_table n (no_rows n cs) db
    → if_within (with_table n (no_rows n cs) db) ≡ Ok (new, nothing_done)
created_within db new n cs none within is = kept _ _ _ _ (size_created db n cs none) within ∙ ap (λ d. Ok (d, nothing_done)) (sym is)

pub created_full : (db : Database) (n : List ℕ) (cs : List ColumnDef) → table_of n db ≡ None → create_check n cs ≡ None → (tables_size db + empty_size n cs ≤ size_limit → ⊥) → new_created db n cs ≡ Err error.Full
created_full db n cs none clear over =
    ap (λ c. unless c (if_within (with_table n (no_rows n cs) db))) clear ∙ full _ _ _ _ (size_created db n cs none) over
