-- Without ORDER BY and aggregates the first rows are enough, where WHERE leaves enough of them.
use Rattle.std.proofs.Common.{◌≡◌, ℕ, ℤ, ◌+◌, ◌≤◌, ◌<◌, zero, suc, Bool, true, false, T, List, [], ◌∷◌, ◌++◌, map, length, take, drop, Option, Some, None, Ok, Err, arith, refl, sym, ap, subst, ◌∙◌}
use Rattle.std.specs.Prelude.{◌&&◌, if◌then◌else◌, IfSome}
use Rattle.std.proofs.lemmas.List.{append-nil, append_assoc, take-map, drop-take, take-append-drop, take-append-le, take_all, length-take, length-map, map-append}
use Rattle.std.specs.declared.cmp.Ordering.{Ordering}
use Rattle.std.specs.declared.cmp.Ordering.TheVariants.{Less, Equal, Greater}
use Rattle.std.specs.Ordering.{int_cmp, is_lt, match_ordering, ordering_reverse}
use Rattle.std.specs.Cmp.{int_cmp_total}
use Rattle.std.specs.BTreeMap.{insert_entry}
use Rattle.std.specs.FinMap as fin
use Rattle.std.specs.FinMap.Entries.{is_sorted, below_all}
use Rattle.rq_values.specs.declared.value.Value.{Value}
use Rattle.rq_eval.specs.declared.resolved.ResolvedExpr.{ResolvedExpr}
use Rattle.rq_eval.specs.Outcome.{Outcome, then_with, all_behind}
use Rattle.rq_eval.specs.Names.{Row}
use Rattle.rq_results.specs.Table.{as_row, rows_of}
use Rattle.rq_select.specs.declared.planning.Plan.{Plan}
use Rattle.rq_select.specs.declared.terms.PlannedTerm.{PlannedTerm}
use Rattle.rq_select.specs.Sorting.{Entry, place_cmp, sorted_among, results_of, in_order}
use Rattle.rq_select.specs.Select.{Test, cut, entry_of, filtered, shown_rows}
use Rattle.rq_select.specs.Planned.{passes, gives, term_of, rows_planned}
use Rattle.rq_select.specs.Keys.{AllPlain, Fine}
use Rattle.rq_select.specs.Stopping.{IsEnough, IsPlain}
use Rattle.rq_select.proofs.Picking.{left, right}
use Rattle.rq_select.proofs.Tests.{plain_list}

abbrev Entries : Type 0
Entries = List (ℤ × List Value)

-- ---- rows in rising rowid are in order

reversed : (o : Ordering) → T (is_lt o) → ordering_reverse o ≡ Greater
reversed Less h = refl
reversed Equal h = absurd h
reversed Greater h = absurd h

greater : (j k : ℤ) → T (is_lt (int_cmp j k)) → int_cmp k j ≡ Greater
greater j k h = int_cmp_total.antisymm k j ∙ reversed (int_cmp j k) h

sorted_rest : (x : ℤ × List Value) (es : Entries) → T (is_sorted int_cmp (x ∷ es)) → T (is_sorted int_cmp es)
sorted_rest x es s = right (below_all int_cmp x.0 es) (is_sorted int_cmp es) s

-- the first is below any behind it
first_below : (y : ℤ × List Value) (there : Entries) (x : ℤ × List Value) (es : Entries) → T (below_all int_cmp y.0 (there ++ x ∷ es)) → T (is_lt (int_cmp y.0 x.0))
first_below y [] x es h = left _ _ h
first_below y (z ∷ there) x es h = first_below y there x es (right _ _ h)

module _ (w : ℤ × List Value → List Value) where
  abbrev placed : ℤ × List Value → Entry
  placed x = (([], x.0), w x)

  insert_end : (there : Entries) (x : ℤ × List Value) (es : Entries) → T (is_sorted int_cmp (there ++ x ∷ es)) → insert_entry place_cmp (map placed there) ([], x.0) (w x) ≡ map placed (there ++ x ∷ [])
  insert_end [] x es s = refl
  insert_end (y ∷ there) x es s =
      ap (λ o. match_ordering o (placed x ∷ map placed (y ∷ there)) ((([], y.0), w x) ∷ map placed there) (placed y ∷ insert_entry place_cmp (map placed there) ([], x.0) (w x))) (greater y.0 x.0 (first_below y there x es (left (below_all int_cmp y.0 (there ++ x ∷ es)) (is_sorted int_cmp (there ++ x ∷ es)) s)))
      ∙ ap (λ (zs : List Entry). placed y ∷ zs) (insert_end there x es (sorted_rest y (there ++ x ∷ es) s))

  sorted_end : (there es : Entries) → T (is_sorted int_cmp (there ++ es)) → sorted_among (map placed there) (map placed es) ≡ map placed (there ++ es)
  sorted_end there [] s = ap (map placed) (sym (append-nil there))
  sorted_end there (x ∷ es) s =
      ap (λ (zs : List Entry). sorted_among zs (map placed es)) (insert_end there x es s)
      ∙ sorted_end (there ++ x ∷ []) es (subst (λ (zs : Entries). T (is_sorted int_cmp zs)) (sym (append_assoc there (x ∷ []) es)) s)
      ∙ ap (map placed) (append_assoc there (x ∷ []) es)

  results_are : (es : Entries) → results_of (map placed es) ≡ map w es
  results_are [] = refl
  results_are (x ∷ es) = ap (λ (zs : List (List Value)). w x ∷ zs) (results_are es)

  ordered : (es : Entries) → T (is_sorted int_cmp es) → in_order (map placed es) ≡ map w es
  ordered es s = ap results_of (sorted_end [] es s) ∙ results_are es

-- ---- a WHERE that fails on no row

both : (a b : Bool) → T a → T b → T (a && b)
both true b p q = q
both false b p q = p

module _ (p : Test) (fine : Fine p) where
  -- the entries that pass
  abbrev if_passes : Bool → ℤ × List Value → Entries → Entries
  if_passes b x xs = if b then x ∷ xs else xs

  abbrev kept : Entries → Entries
  kept [] = []
  kept (x ∷ xs) = if_passes (fine (as_row x)).0 x (kept xs)

  -- what WHERE leaves
  filtered_is : (ks : List Row) (xs : Entries) → filtered p ks (map as_row xs) ≡ Ok (ks ++ map as_row (kept xs))
  filtered_is ks [] = ap (λ (zs : List Row). Ok zs) (sym (append-nil ks))
  filtered_is ks (x ∷ xs) =
      ap (λ (o : Outcome Bool). then_with o (λ b. filtered p (if b then ks ++ as_row x ∷ [] else ks) (map as_row xs))) (fine (as_row x)).1
      ∙ by (fine (as_row x)).0 (λ zs. filtered_is zs xs)
    where
      by : (b : Bool) → ((zs : List Row) → filtered p zs (map as_row xs) ≡ Ok (zs ++ map as_row (kept xs))) → filtered p (if b then ks ++ as_row x ∷ [] else ks) (map as_row xs) ≡ Ok (ks ++ map as_row (if_passes b x (kept xs)))
      by true ih = ih (ks ++ as_row x ∷ []) ∙ ap (λ (zs : List Row). Ok zs) (append_assoc ks (as_row x ∷ []) (map as_row (kept xs)))
      by false ih = ih ks

  kept_below : (k : ℤ) (xs : Entries) → T (below_all int_cmp k xs) → T (below_all int_cmp k (kept xs))
  kept_below k [] h = tt
  kept_below k (x ∷ xs) h = by (fine (as_row x)).0 (kept_below k xs (right _ _ h))
    where
      by : (b : Bool) → T (below_all int_cmp k (kept xs)) → T (below_all int_cmp k (if_passes b x (kept xs)))
      by true g = both _ _ (left _ _ h) g
      by false g = g

  kept_sorted : (xs : Entries) → T (is_sorted int_cmp xs) → T (is_sorted int_cmp (kept xs))
  kept_sorted [] s = tt
  kept_sorted (x ∷ xs) s = by (fine (as_row x)).0 (kept_sorted xs (right _ _ s)) (kept_below x.0 xs (left _ _ s))
    where
      by : (b : Bool) → T (is_sorted int_cmp (kept xs)) → T (below_all int_cmp x.0 (kept xs)) → T (is_sorted int_cmp (if_passes b x (kept xs)))
      by true g h = both _ _ h g
      by false g h = g

  kept_append : (xs ys : Entries) → kept (xs ++ ys) ≡ kept xs ++ kept ys
  kept_append [] ys = refl
  kept_append (x ∷ xs) ys = ap (if_passes (fine (as_row x)).0 x) (kept_append xs ys) ∙ by (fine (as_row x)).0
    where
      by : (b : Bool) → if_passes b x (kept xs ++ kept ys) ≡ if_passes b x (kept xs) ++ kept ys
      by true = refl
      by false = refl

-- ---- results that fail on no row

all_ok : {B : Type 0} (f : Row → Outcome B) (e : ℤ × List Value → B) → ((x : ℤ × List Value) → f (as_row x) ≡ Ok (e x)) → (there : List B) (es : Entries) → all_behind there (map f (map as_row es)) ≡ Ok (there ++ map e es)
all_ok {B = B} f e same there [] = ap (λ (zs : List B). Ok zs) (sym (append-nil there))
all_ok {B = B} f e same there (x ∷ es) =
    ap (λ (o : Outcome B). then_with o (λ v. all_behind (there ++ v ∷ []) (map f (map as_row es)))) (same x)
    ∙ all_ok f e same (there ++ e x ∷ []) es
    ∙ ap (λ (zs : List B). Ok zs) (append_assoc there (e x ∷ []) (map e es))

module _ (es : List ResolvedExpr) (plain : AllPlain es) where
  abbrev ended : ℤ → List Value → Outcome Entry
  ended rowid vs = Ok (([], rowid), vs)

  abbrev shown_of : ℤ × List Value → List Value
  shown_of x = (plain_list es plain (as_row x) []).0

  entry_is : (x : ℤ × List Value) → entry_of (gives es []) [] (as_row x) ≡ Ok (placed shown_of x)
  entry_is x = ap (λ (o : Outcome (List Value)). then_with o (ended x.0)) (plain_list es plain (as_row x) []).1

  shown_is : (p : Test) (fine : Fine p) (limit : Option ℕ) (offset : ℕ) (xs : Entries) → T (is_sorted int_cmp xs)
      → then_with (filtered p [] (map as_row xs)) (λ rows. shown_rows (gives es) [] false limit offset rows) ≡ Ok (cut limit offset (map shown_of (kept p fine xs)))
  shown_is p fine limit offset xs s =
      ap (λ (o : Outcome (List Row)). then_with o (λ rows. shown_rows (gives es) [] false limit offset rows)) (filtered_is p fine [] xs)
      ∙ ap (λ (o : Outcome (List Entry)). then_with o (λ ys. Ok (cut limit offset (in_order ys)))) (all_ok (entry_of (gives es []) []) (placed shown_of) entry_is [] (kept p fine xs))
      ∙ ap (λ (zs : List (List Value)). Ok (cut limit offset zs)) (ordered shown_of (kept p fine xs) (kept_sorted p fine xs s))

-- ---- the first rows

below_take : (k : ℤ) (n : ℕ) (xs : Entries) → T (below_all int_cmp k xs) → T (below_all int_cmp k (take n xs))
below_take k zero xs h = tt
below_take k (suc n) [] h = tt
below_take k (suc n) (x ∷ xs) h = both _ _ (left _ _ h) (below_take k n xs (right _ _ h))

sorted_take : (n : ℕ) (xs : Entries) → T (is_sorted int_cmp xs) → T (is_sorted int_cmp (take n xs))
sorted_take zero xs s = tt
sorted_take (suc n) [] s = tt
sorted_take (suc n) (x ∷ xs) s = both _ _ (below_take x.0 n xs (left _ _ s)) (sorted_take n xs (right _ _ s))

take_twice : {A : Type 0} (n : ℕ) (xs : List A) → take n (take n xs) ≡ take n xs
take_twice {A = A} zero xs = refl
take_twice {A = A} (suc n) [] = refl
take_twice {A = A} (suc n) (x ∷ xs) = ap (λ (zs : List A). x ∷ zs) (take_twice n xs)

cut_take : {A : Type 0} (limit offset : ℕ) (xs : List A) → cut (Some limit) offset (take (offset + limit) xs) ≡ cut (Some limit) offset xs
cut_take limit offset xs = ap (take limit) (drop-take offset limit xs) ∙ take_twice limit (drop offset xs)

-- what stands behind enough is cut off
cut_append : {A : Type 0} (limit offset : ℕ) (xs ys : List A) → offset + limit ≤ length xs → cut (Some limit) offset (xs ++ ys) ≡ cut (Some limit) offset xs
cut_append limit offset xs ys le =
    sym (cut_take limit offset (xs ++ ys))
    ∙ ap (cut (Some limit) offset) (take-append-le (offset + limit) xs ys le)
    ∙ cut_take limit offset xs

abbrev ok_list : Outcome (List Row) → List Row
ok_list (Ok rs) = rs
ok_list (Err e) = []

module _ (es : List ResolvedExpr) (plain : AllPlain es) (p : Test) (fine : Fine p) where
  kept_enough : (m n : ℕ) (xs : Entries) (rs : List Row) → filtered p [] (map as_row (take m xs)) ≡ Ok rs → n ≤ length rs → n ≤ length (map (shown_of es plain) (kept p fine (take m xs)))
  kept_enough m n xs rs is le =
      let same : map as_row (kept p fine (take m xs)) ≡ rs = ap ok_list (sym (filtered_is p fine [] (take m xs)) ∙ is) in
      let counts : length rs ≡ length (kept p fine (take m xs)) = ap length (sym same) ∙ length-map (kept p fine (take m xs)) as_row in
      subst (λ (k : ℕ). n ≤ k) (counts ∙ sym (length-map (kept p fine (take m xs)) (shown_of es plain))) le

  enough : (limit offset m : ℕ) (xs : Entries) (rs : List Row) → T (is_sorted int_cmp xs) → filtered p [] (map as_row (take m xs)) ≡ Ok rs → offset + limit ≤ length rs
      → then_with (filtered p [] (map as_row (take m xs))) (λ rows. shown_rows (gives es) [] false (Some limit) offset rows)
      ≡ then_with (filtered p [] (map as_row xs)) (λ rows. shown_rows (gives es) [] false (Some limit) offset rows)
  enough limit offset m xs rs s is le =
      let first = map (shown_of es plain) (kept p fine (take m xs)) in
      let others = map (shown_of es plain) (kept p fine (drop m xs)) in
      let whole : first ++ others ≡ map (shown_of es plain) (kept p fine xs) =
      sym (map-append (shown_of es plain) (kept p fine (take m xs)) (kept p fine (drop m xs)))
      ∙ ap (map (shown_of es plain)) (sym (kept_append p fine (take m xs) (drop m xs)) ∙ ap (kept p fine) (take-append-drop m xs)) in
      shown_is es plain p fine (Some limit) offset (take m xs) (sorted_take m xs s)
      ∙ ap (λ (zs : List (List Value)). Ok zs) (sym (cut_append limit offset first others (kept_enough m (offset + limit) xs rs is le)) ∙ ap (cut (Some limit) offset) whole)
      ∙ sym (shown_is es plain p fine (Some limit) offset xs s)

pub fine_without : Fine (passes None)
fine_without r = (true, refl)

-- of a plan
abbrev behind_where : Plan → ℕ → List Row → Outcome (List (List Value))
behind_where p limit rs = then_with (filtered (passes p.filter) [] rs) (λ rows. shown_rows (gives p.results) [] false (Some limit) p.offset rows)

plainly : (p : Plan) (limit : ℕ) → IsPlain p → p.limit ≡ Some limit → (rs : List Row) → rows_planned p rs ≡ behind_where p limit rs
plainly p limit plain limited rs =
    ap (λ (ts : List PlannedTerm). then_with (filtered (passes p.filter) [] rs) (λ rows. shown_rows (gives p.results) (map term_of ts) p.over_all p.limit p.offset rows)) plain.terms
    ∙ ap (λ (g : Bool). then_with (filtered (passes p.filter) [] rs) (λ rows. shown_rows (gives p.results) [] g p.limit p.offset rows)) plain.rows
    ∙ ap (λ (l : Option ℕ). then_with (filtered (passes p.filter) [] rs) (λ rows. shown_rows (gives p.results) [] false l p.offset rows)) limited

pub enough_rows : (p : Plan) (limit : ℕ) → IsPlain p → p.limit ≡ Some limit → IsEnough p (p.offset + limit)
enough_rows p limit plain limited t m h =
    let es = fin.entries t.rows in
    plainly p limit plain limited (take m (rows_of t))
    ∙ ap (behind_where p limit) (take-map as_row m es)
    ∙ enough p.results plain.results (passes p.filter) plain.filter limit p.offset m es h.0 (fin.entries_sorted t.rows) (ap (filtered (passes p.filter) []) (sym (take-map as_row m es)) ∙ h.1) h.2
    ∙ sym (plainly p limit plain limited (rows_of t))

pub enough_if_some : (p : Plan) (limit : ℕ) → IsPlain p → p.limit ≡ Some limit → (o : Option ℕ) → IfSome o (λ n. n ≡ p.offset + limit) → IfSome o (IsEnough p)
enough_if_some p limit plain limited None h = h
enough_if_some p limit plain limited (Some n) h = subst (IsEnough p) (sym h) (enough_rows p limit plain limited)

-- where fewer rows came than were asked for, they are all
pub all_came : {A : Type 0} (m : ℕ) (xs : List A) → length (take m xs) < m → take m xs ≡ xs
all_came m xs lt = take_all m xs (omega (arith, length-take m xs, lt))
