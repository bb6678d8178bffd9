-- What a look-up by a rowid or by a value tells.
use Rattle.std.proofs.Common.{◌≡◌, ℕ, ℤ, true, false, List, [], ◌∷◌, ◌++◌, length, map, take, ◌+◌, append_assoc, Option, Some, None, refl, sym, ap, subst, ◌∙◌, ◌<◌, ◌≤◌, ◌⊎◌, inl, inr, arith}
use Rattle.std.specs.Prelude.{slice_get, IfSome, IsSome}
use Rattle.std.specs.Ordering.{is_eq}
use Rattle.std.specs.Cmp.{int_cmp_total, eq_by_cmp_equiv}
use Rattle.std.specs.Cmp.Lexicographic.{nat_list_cmp_total as bytes_total}
use Rattle.std.proofs.lemmas.Bool.{cases_lt}
use Rattle.std.proofs.lemmas.Bool.Decides.{nat_tests}
use Rattle.std.proofs.lemmas.List.{take_at, map_push}
use Rattle.std.proofs.lemmas.Option.{slice_get_past, slice_get-get_or}
use Rattle.std.specs.FinMap as fin
use Rattle.std.specs.Option.{option_map}
use Rattle.rq_values.specs.declared.value.Value.{Value}
use Rattle.rq_values.specs.declared.value.Value.TheVariants.{Null, Int, Text, Blob}
use Rattle.rq_values.specs.Order.{value_cmp}
use Rattle.rq_rows.specs.Rows.{Filled, has, is_same, known, known_or}
use Rattle.rq_rows.specs.Slots.{Slot, shown}
use Rattle.rq_rows.specs.Covering.{Counted, Keyed}
use Rattle.rq_eval.specs.Names.{Row, value_or, value_at}
use Rattle.rq_results.specs.Table.{Table, as_row, row_at}
use Rattle.rq_select.specs.Finding.{NoneHas, OnlyHas}
use Rattle.rq_select.specs.Select.{at_most}
use Rattle.rq_changes.specs.Walking.{are_enough}

-- the place shows each row's rowid
abbrev pub Shows : Table → ℕ → Type 0
Shows t i = (k : ℤ) (vs : List Value) → fin.get t.rows k ≡ Some vs → value_at (as_row (k, vs)) i ≡ Int k

pub key_row : (t : Table) (key : ℤ) (vs : List Value) → fin.get t.rows key ≡ Some vs → row_at t key ≡ Some (as_row (key, vs))
key_row t key vs g = ap (option_map (λ ws. as_row (key, ws))) g

slice_get_some : {A : Type 0} (xs : List A) (i : ℕ) → i < length xs → IsSome (slice_get xs i)
slice_get_some (x ∷ xs) i h = subst IsSome (sym (slice_get-get_or (x ∷ xs) i x h)) refl
slice_get_some [] i h = absurd (omega (arith, h))

-- ---- rows have a value for each column

pub counted_row : (o : Option (List Value)) (rows : Filled) (n : ℕ) (k : ℤ) → Counted n rows → o ≡ fin.get rows k → IfSome o (λ vs. length vs ≡ n)
counted_row None rows n k counted e = tt
counted_row (Some vs) rows n k counted e = counted k vs (sym e)

value_of : (o : Option Value) (k : ℤ) (x : Value) → o ≡ Some x → value_or o k ≡ x
value_of o k x e = ap (λ p. value_or p k) e

-- the column that is the rowid shows it, and so does the place behind the columns
pub shows_at : (t : Table) (i : ℕ) → Keyed i t.rows → Shows t i
shows_at t i keyed k vs g = value_of (slice_get vs i) k (Int k) (keyed k vs g)

pub shows_behind : (t : Table) (i : ℕ) → Counted (length t.columns) t.rows → (i < length t.columns → false ≡ true) → Shows t i
shows_behind t i counted past k vs g = ap (λ p. value_or p k) (slice_get_past vs i (subst (λ n. n ≤ i) (sym (counted k vs g)) (by (cases_lt i (length t.columns)))))
  where
    by : (i < length t.columns) ⊎ (length t.columns ≤ i) → length t.columns ≤ i
    by (inr h) = h
    by (inl h) = clash (past h)
      where
        clash : false ≡ true → length t.columns ≤ i
        clash q = absurd (cc)

-- ---- a value of a UNIQUE column

itself : (v : Value) → is_eq (value_cmp v v) ≡ true
itself Null = refl
itself (Int n) = (eq_by_cmp_equiv int_cmp_total).refl n
itself (Text s) = (eq_by_cmp_equiv bytes_total).refl s
itself (Blob s) = (eq_by_cmp_equiv bytes_total).refl s

found_is : (o : Option Value) (k : ℤ) (x : Value) → IsSome o → value_or o k ≡ x → o ≡ Some x
found_is (Some y) k x s e = ap Some e
found_is None k x s e = absurd (cc)

pub has_value : (t : Table) (i : ℕ) (x : Value) (k : ℤ) (vs : List Value) → Counted (length t.columns) t.rows → i < length t.columns → known x ≡ Some x → fin.get t.rows k ≡ Some vs → value_at (as_row (k, vs)) i ≡ x → has i x (k, vs) ≡ true
has_value t i x k vs counted h known_x g e =
    let within : i < length vs = subst (λ n. i < n) (sym (counted k vs g)) h in
    ap (λ o. is_same x (known_or o)) (found_is (slice_get vs i) k x (slice_get_some vs i within) e)
    ∙ ap (is_same x) known_x
    ∙ itself x

pub value_only : (t : Table) (i : ℕ) (x : Value) (key : ℤ) → Counted (length t.columns) t.rows → i < length t.columns → known x ≡ Some x → ((j : ℤ) (r : List Value) → fin.get t.rows j ≡ Some r → has i x (j, r) ≡ true → j ≡ key) → OnlyHas t i x key
value_only t i x key counted h known_x only k vs g e = only k vs g (has_value t i x k vs counted h known_x g e)

pub value_none : (t : Table) (i : ℕ) (x : Value) → Counted (length t.columns) t.rows → i < length t.columns → known x ≡ Some x → ((j : ℤ) (r : List Value) → fin.get t.rows j ≡ Some r → has i x (j, r) ≡ false) → NoneHas t i x
value_none t i x counted h known_x none k vs g e = clash (sym (has_value t i x k vs counted h known_x g e) ∙ none k vs g)
  where
    clash : true ≡ false → ⊥
    clash q = absurd (cc)

-- ---- enough rows of a walk

pub enough : (most : Option ℕ) (all rest whole : List Row) (n : ℕ) → are_enough most n ≡ true → n ≡ length all → ((m : ℕ) → most ≡ Some m → length all ≤ m) → all ++ rest ≡ whole → all ≡ at_most most whole
enough None all rest whole n h is most e = absurd (cc)
enough (Some m) all rest whole n h is most e =
    let reached : m ≤ n = grind (arith, nat_tests) in
    let within : length all ≤ m = most m refl in
    sym (take_at all rest m (omega (arith, is))) ∙ ap (take m) e

pub one_more : (most : Option ℕ) (n k : ℕ) → are_enough most n ≡ false → k ≡ n + 1 → (m : ℕ) → most ≡ Some m → k ≤ m
one_more None n k h is m e = absurd (cc)
one_more (Some l) n k h is m e =
    let same : l ≡ m = cc in
    let below : n < l = grind (arith, nat_tests) in
    omega (arith, same)

shown_more : (es xs : List (ℤ × Slot)) (k : ℤ) (o : Slot) (r : List Value) → es ≡ (k, o) ∷ xs → o ≡ Some r → shown es ≡ (k, r) ∷ shown xs
shown_more es xs k o r e s = ap shown e ∙ ap (λ q. shown ((k, q) ∷ xs)) s

pub walk_more : {A : Type 0} (f : A → Row) (all new : List A) (x : A) (es xs : List (ℤ × Slot)) (k : ℤ) (o : Slot) (r : List Value) (whole : List Row) → new ≡ all ++ x ∷ [] → f x ≡ as_row (k, r) → es ≡ (k, o) ∷ xs → o ≡ Some r
    → map f all ++ map as_row (shown es) ≡ whole → map f new ++ map as_row (shown xs) ≡ whole
walk_more f all new x es xs k o r whole pushed is e s so =
    ap (λ ws. ws ++ map as_row (shown xs)) (ap (map f) pushed ∙ map_push f all x ∙ ap (λ w. map f all ++ w ∷ []) is)
    ∙ append_assoc (map f all) (as_row (k, r) ∷ []) (map as_row (shown xs))
    ∙ ap (λ ws. map f all ++ map as_row ws) (sym (shown_more es xs k o r e s))
    ∙ so
