-- The sorted map is the sorted list.
use Rattle.std.proofs.Common.{◌≡◌, List, [], ◌∷◌, ◌++◌, refl, ap, ◌∙◌}
use Rattle.std.specs.Prelude.{map}
use Rattle.std.specs.declared.cmp.Ordering.{Ordering}
use Rattle.std.specs.declared.cmp.Ordering.TheVariants.{Less, Equal, Greater}
use Rattle.std.specs.Ordering.{match_ordering, ordering_then, int_cmp}
use Rattle.std.specs.BTreeMap.{insert_entry}
use Rattle.std.specs.Cmp.Lexicographic.{slice_cmp}
use Rattle.rq_values.specs.Order.{value_cmp}
use Rattle.rq_values.specs.declared.value.Value.{Value}
use Rattle.rq_values.specs.declared.value.Value.TheVariants.{Null, Int, Text, Blob}
use Rattle.rq_values.specs.contracts.value.ValueOrd.TheImpl.{cmp-value as value-value}
use Rattle.rq_select.specs.declared.sorting.SortTerm.{SortTerm}
use Rattle.rq_select.specs.declared.sorting.SortTerm.TheVariants.{Rising, Falling}
use Rattle.rq_select.specs.declared.sorting.SortKey.{SortKey}
use Rattle.rq_select.specs.contracts.sorting.SortTermOrd.TheImpl.{cmp-value as term-value}
use Rattle.rq_select.specs.contracts.sorting.SortKeyOrd.TheImpl.{cmp-value}
use Rattle.rq_select.specs.Sorting.{Place, Entry, term_cmp, place_cmp, sorted_among}
use Rattle.rq_select.specs.Planned.{as_place, viewed}

is_value_cmp : (x y : Value) → value-value.it x y ≡ value_cmp x y
is_value_cmp Null Null = refl
is_value_cmp Null (Int n) = refl
is_value_cmp Null (Text t) = refl
is_value_cmp Null (Blob b) = refl
is_value_cmp (Int m) Null = refl
is_value_cmp (Int m) (Int n) = refl
is_value_cmp (Int m) (Text t) = refl
is_value_cmp (Int m) (Blob b) = refl
is_value_cmp (Text s) Null = refl
is_value_cmp (Text s) (Int n) = refl
is_value_cmp (Text s) (Text t) = refl
is_value_cmp (Text s) (Blob b) = refl
is_value_cmp (Blob a) Null = refl
is_value_cmp (Blob a) (Int n) = refl
is_value_cmp (Blob a) (Text t) = refl
is_value_cmp (Blob a) (Blob b) = refl

term_is : (x y : SortTerm) → term-value.it x y ≡ term_cmp x y
term_is (Rising x) (Rising y) = is_value_cmp x y
term_is (Rising x) (Falling y) = refl
term_is (Falling x) (Rising y) = refl
term_is (Falling x) (Falling y) = is_value_cmp y.0 x.0

terms_are : (xs ys : List SortTerm) → slice_cmp term-value.it xs ys ≡ slice_cmp term_cmp xs ys
terms_are [] [] = refl
terms_are [] (y ∷ ys) = refl
terms_are (x ∷ xs) [] = refl
terms_are (x ∷ xs) (y ∷ ys) = ap (λ o. ordering_then o (slice_cmp term-value.it xs ys)) (term_is x y) ∙ ap (ordering_then (term_cmp x y)) (terms_are xs ys)

key_is : (a b : SortKey) → cmp-value.it a b ≡ place_cmp (as_place a) (as_place b)
key_is a b = ap (λ o. ordering_then o (int_cmp a.rowid b.rowid)) (terms_are a.terms.items b.terms.items)

pub viewed_insert : (es : List (SortKey × List Value)) (k : SortKey) (v : List Value) → viewed (insert_entry cmp-value.it es k v) ≡ insert_entry place_cmp (viewed es) (as_place k) v
viewed_insert [] k v = refl
viewed_insert (e ∷ es) k v = by (cmp-value.it k e.0) (viewed_insert es k v) ∙ ap (λ o. match_ordering o ((as_place k, v) ∷ viewed (e ∷ es)) ((as_place e.0, v) ∷ viewed es) ((as_place e.0, e.1) ∷ insert_entry place_cmp (viewed es) (as_place k) v)) (key_is k e.0)
  where
    by : (o : Ordering) → viewed (insert_entry cmp-value.it es k v) ≡ insert_entry place_cmp (viewed es) (as_place k) v → viewed (match_ordering o ((k, v) ∷ e ∷ es) ((e.0, v) ∷ es) (e ∷ insert_entry cmp-value.it es k v)) ≡ match_ordering o ((as_place k, v) ∷ viewed (e ∷ es)) ((as_place e.0, v) ∷ viewed es) ((as_place e.0, e.1) ∷ insert_entry place_cmp (viewed es) (as_place k) v)
    by Less ih = refl
    by Equal ih = refl
    by Greater ih = ap (λ ys. (as_place e.0, e.1) ∷ ys) ih

-- one more takes its place among those before it
pub sorted_next : (there es : List Entry) (e : Entry) → sorted_among there (es ++ e ∷ []) ≡ insert_entry place_cmp (sorted_among there es) e.0 e.1
sorted_next there [] e = refl
sorted_next there (x ∷ es) e = sorted_next (insert_entry place_cmp there x.0 x.1) es e
