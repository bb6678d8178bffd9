-- Sums over the rows of a table.
use Rattle.std.proofs.Common.{◌≡◌, ◌≤◌, ℕ, ℤ, ◌+◌, Bool, true, false, cond, List, [], ◌∷◌, map, Option, Some, None, refl, sym, ap, ◌∙◌, arith}
use Rattle.std.specs.declared.cmp.Ordering.{Ordering}
use Rattle.std.specs.declared.cmp.Ordering.TheVariants.{Less, Equal, Greater}
use Rattle.std.specs.Ordering.{int_cmp, is_eq, eq_by_cmp}
use Rattle.std.specs.Cmp.{int_cmp_total, eq_by_cmp_equiv}
use Rattle.std.specs.List.{sum_by}
use Rattle.std.specs.FinMap as fin
use Rattle.std.specs.FinMap.{FinMap, get-insert, get-remove, entries-insert, len-entries, len-empty, same_map, int_cmp-IsAntisymmetric}
use Rattle.std.specs.FinMap.Entries.{find, put, by_order}
use Rattle.std.proofs.lemmas.List.{nil_from_length}
use Rattle.std.proofs.lemmas.List.Sums.{sum_by-cons}
use Rattle.rq_grammar.specs.declared.stmt.ColumnDef.{ColumnDef}
use Rattle.rq_values.specs.declared.value.Value.{Value}
use Rattle.rq_meaning.specs.Database.{Table, with_row, without_row, row_size, empty_size, table_size}

put_sum : {X : Type 0} (f : X → ℕ) (k : ℤ) (v : X) (es : List (ℤ × X)) → find int_cmp k es ≡ None → sum_by f (map (λ e. e.1) (put int_cmp k v es)) ≡ sum_by f (map (λ e. e.1) es) + f v
put_sum f k v [] h = refl
put_sum f k v (e ∷ es) h = elim (int_cmp k e.0) as (λ o. cond (is_eq o) (Some e.1) (find int_cmp k es) ≡ None → sum_by f (map (λ e. e.1) (by_order o ((k, v) ∷ e ∷ es) ((e.0, v) ∷ es) (e ∷ put int_cmp k v es))) ≡ sum_by f (map (λ e. e.1) (e ∷ es)) + f v) [
  | Less ↦ λ g. let a = sum_by-cons f v (map (λ e. e.1) (e ∷ es)) in omega (arith, a)
  | Equal ↦ λ g. absurd (cc)
  | Greater ↦ λ g.
      let a = sum_by-cons f e.1 (map (λ e. e.1) (put int_cmp k v es)) in
      let b = sum_by-cons f e.1 (map (λ e. e.1) es) in
      let i = put_sum f k v es g in
      omega (arith, a, b, i)
] h

pub sum_insert : {X : Type 0} (f : X → ℕ) (m : FinMap int_cmp X) (k : ℤ) (v : X) → fin.get m k ≡ None → sum_by f (fin.values (fin.insert m k v)) ≡ sum_by f (fin.values m) + f v
sum_insert f m k v h = ap (λ es. sum_by f (map (λ e. e.1) es)) (entries-insert int_cmp_total m k v) ∙ put_sum f k v (fin.entries m) (sym (fin.get-entries m k) ∙ h)

back : {X : Type 0} (m : FinMap int_cmp X) (k : ℤ) (v : X) → fin.get m k ≡ Some v → fin.insert (fin.remove m k) k v ≡ m
back {X = X} m k v h = same_map int_cmp_total int_cmp-IsAntisymmetric _ _ (λ q. get-insert int_cmp_total (fin.remove m k) k v q ∙ ap (cond (eq_by_cmp int_cmp q k) (Some v)) (get-remove int_cmp_total m k q) ∙ by (eq_by_cmp int_cmp q k) (fin.get m q) (λ t. ap (fin.get m) (int_cmp-IsAntisymmetric q k (equal _ t)) ∙ h))
  where
    equal : (o : Ordering) → is_eq o ≡ true → o ≡ Equal
    equal Less e = absurd (cc)
    equal Equal e = refl
    equal Greater e = absurd (cc)

    by : (b : Bool) (o : Option X) → (b ≡ true → o ≡ Some v) → cond b (Some v) (cond b None o) ≡ o
    by true o e = sym (e refl)
    by false o e = refl

pub sum_remove : {X : Type 0} (f : X → ℕ) (m : FinMap int_cmp X) (k : ℤ) (v : X) → fin.get m k ≡ Some v → sum_by f (fin.values (fin.remove m k)) + f v ≡ sum_by f (fin.values m)
sum_remove f m k v h = sym (sum_insert f (fin.remove m k) k v (gone ∙ refl)) ∙ ap (λ n. sum_by f (fin.values n)) (back m k v h)
  where
    gone : fin.get (fin.remove m k) k ≡ None
    gone = get-remove int_cmp_total m k k ∙ ap (λ b. cond b None (fin.get m k)) ((eq_by_cmp_equiv int_cmp_total).refl k)

-- ---- what a table takes

pub size_without : (t : Table) (k : ℤ) (vs : List Value) → fin.get t.rows k ≡ Some vs → table_size (without_row k t) + row_size t.columns vs ≡ table_size t
size_without t k vs g = let s = sum_remove (row_size t.columns) t.rows k vs g in omega (arith, s)

gone_already : {X : Type 0} (m : FinMap int_cmp X) (k : ℤ) → fin.get m k ≡ None → fin.remove m k ≡ m
gone_already {X = X} m k h = same_map int_cmp_total int_cmp-IsAntisymmetric _ _ (λ q. get-remove int_cmp_total m k q ∙ by (eq_by_cmp int_cmp q k) (fin.get m q) (λ t. ap (fin.get m) (int_cmp-IsAntisymmetric q k (equal _ t)) ∙ h))
  where
    equal : (o : Ordering) → is_eq o ≡ true → o ≡ Equal
    equal Less e = absurd (cc)
    equal Equal e = refl
    equal Greater e = absurd (cc)

    by : (b : Bool) (o : Option X) → (b ≡ true → o ≡ None) → cond b None o ≡ o
    by true o e = sym (e refl)
    by false o e = refl

pub size_without_none : (t : Table) (k : ℤ) → fin.get t.rows k ≡ None → table_size (without_row k t) + 0 ≡ table_size t
size_without_none t k g = let s : table_size (without_row k t) ≡ table_size t = ap (λ m. empty_size t.name t.columns + sum_by (row_size t.columns) (fin.values m)) (gone_already t.rows k g) in omega (arith, s)

pub row_within : (t : Table) (k : ℤ) (vs : List Value) → fin.get t.rows k ≡ Some vs → row_size t.columns vs ≤ table_size t
row_within t k vs g = let s = size_without t k vs g in omega (arith, s)

pub size_with : (t : Table) (k : ℤ) (vs : List Value) → fin.get t.rows k ≡ None → table_size (with_row k vs t) ≡ table_size t + row_size t.columns vs
size_with t k vs g = let s = sum_insert (row_size t.columns) t.rows k vs g in omega (arith, s)

none_there : {X : Type 0} → fin.entries (fin.empty {X = X} {R = int_cmp}) ≡ []
none_there {X = X} = nil_from_length _ (sym (len-entries (fin.empty {X = X} {R = int_cmp})) ∙ len-empty int_cmp X)

pub size_empty : (name : List ℕ) (cs : List ColumnDef) (n : ℕ) → n ≡ empty_size name cs → n ≡ table_size (record { name = name; columns = cs; rows = fin.empty })
size_empty name cs n h =
    let s : sum_by (row_size cs) (fin.values (fin.empty {X = List Value} {R = int_cmp})) ≡ 0 = ap (λ es. sum_by (row_size cs) (map (λ e. e.1) es)) none_there in
    omega (arith, h, s)
