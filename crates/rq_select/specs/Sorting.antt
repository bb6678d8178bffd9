-- The order of rows: by the terms of ORDER BY, then by the rowid, which makes the order strict.
use Rattle.std.specs.Prelude.{ℤ, Bool, if◌then◌else◌, List, [], ◌∷◌, map}
use Rattle.std.specs.declared.cmp.Ordering.{Ordering}
use Rattle.std.specs.declared.cmp.Ordering.TheVariants.{Less, Greater}
use Rattle.std.specs.Ordering.{int_cmp, ordering_then}
use Rattle.std.specs.BTreeMap.{insert_entry}
use Rattle.std.specs.Cmp.Lexicographic.{slice_cmp}
use Rattle.rq_values.specs.Order.{value_cmp}
use Rattle.rq_values.specs.declared.value.Value.{Value}
use Rattle.rq_select.specs.declared.sorting.SortTerm.{SortTerm}
use Rattle.rq_select.specs.declared.sorting.SortTerm.TheVariants.{Rising, Falling}

-- terms of one place both rise or both fall
abbrev pub term_cmp : SortTerm → SortTerm → Ordering
term_cmp (Rising x) (Rising y) = value_cmp x y
term_cmp (Rising x) (Falling y) = Less
term_cmp (Falling x) (Rising y) = Greater
term_cmp (Falling x) (Falling y) = value_cmp y.0 x.0

-- the values of the terms, and the rowid
abbrev pub Place : Type 0
Place = List SortTerm × ℤ

abbrev pub place_cmp : Place → Place → Ordering
place_cmp a b = ordering_then (slice_cmp term_cmp a.0 b.0) (int_cmp a.1 b.1)

abbrev pub sort_term : Bool → Value → SortTerm
sort_term descending v = if descending then Falling (record { 0 = v }) else Rising v

-- a row's place, and its results
abbrev pub Entry : Type 0
Entry = Place × List Value

-- each takes its place among those that are there
abbrev pub sorted_among : List Entry → List Entry → List Entry
sorted_among there [] = there
sorted_among there (e ∷ es) = sorted_among (insert_entry place_cmp there e.0 e.1) es

abbrev pub results_of : List Entry → List (List Value)
results_of es = map (λ (e : Entry). e.1) es

-- the results in order
abbrev pub in_order : List Entry → List (List Value)
in_order es = results_of (sorted_among [] es)
