-- Lists that are gone over.
use Rattle.std.proofs.Common.{◌≡◌, ℕ, ◌+◌, ◌<◌, ◌≤◌, Bool, true, false, cond, List, [], ◌∷◌, ◌++◌, map, length, get_or, take, drop, Some, None, refl, sym, ap, ◌∙◌, arith}
use Rattle.std.specs.Prelude.{slice_set, bytes_eq, ◌&&◌}
use Rattle.std.specs.Ordering.{eq_by_cmp}
use Rattle.std.specs.Cmp.Lexicographic.{texts_ties}
use Rattle.std.specs.List.{cons_option}
use Rattle.std.specs.Option.{option_or}
use Rattle.std.specs.FinMap.Entries.{find}
use Rattle.std.proofs.lemmas.List.{take_all, drop_all, take_more, take-append-drop}
use Rattle.std.proofs.lemmas.List.Edits.{map_over_more}
use Rattle.std.proofs.lemmas.List.Elements.{filter_map-append}
use Rattle.std.proofs.lemmas.List.Sums.{sum_by-append}
use Rattle.rq_meaning.specs.Database.{name_cmp, lower, table_size}
use Rattle.rq_changes.specs.Staged.{now_of}
use Rattle.rq_tables.specs.declared.entry.Entry.{Entry}
use Rattle.rq_tables.specs.Entries.{Named, named_if, at_now, listed, is_named, sized}
use Rattle.rq_tables.proofs.Names.{find_append, turned}

pub below_step : (f : Entry → Entry) (i : ℕ) (xs items : List Entry) (x w : Entry) → items ≡ map f (take i xs) ++ drop i xs → i < length xs → x ≡ get_or items i x → w ≡ f x → slice_set items i w ≡ map f (take (i + 1) xs) ++ drop (i + 1) xs
below_step f i xs items x w e l at g = ap (slice_set items i) g ∙ map_over_more f xs items i x l e at

pub below_end : (f : Entry → Entry) (i : ℕ) (xs items : List Entry) → items ≡ map f (take i xs) ++ drop i xs → i ≡ length xs → items ≡ map f xs
below_end f i xs items e g = e ∙ ap (λ ys. map f ys ++ drop i xs) (take_all i xs (omega (arith, g))) ∙ ap (λ ys. map f xs ++ ys) (drop_all i xs (omega (arith, g))) ∙ nothing (map f xs)
  where
    nothing : (ys : List Entry) → ys ++ [] ≡ ys
    nothing [] = refl
    nothing (y ∷ ys) = ap (λ zs. y ∷ zs) (nothing ys)

-- ---- the table of a name

listed_more : (es : List Entry) (i : ℕ) (d : Entry) → i < length es → listed at_now (take (i + 1) es) ≡ listed at_now (take i es) ++ cons_option (at_now (get_or es i d)) []
listed_more es i d l = ap (listed at_now) (take_more es i d l) ∙ filter_map-append at_now (take i es) (get_or es i d ∷ [])

not_named : (e : Entry) (n : List ℕ) → is_named e n ≡ false → find name_cmp (lower n) (cons_option (at_now e) []) ≡ None
not_named e n h = by e.now (bytes_eq (lower e.table.name) (lower n)) (texts_ties (lower e.table.name) (lower n)) h
  where
    by : (b c : Bool) → c ≡ eq_by_cmp name_cmp (lower e.table.name) (lower n) → (b && c) ≡ false → find name_cmp (lower n) (cons_option (named_if b (now_of e.table)) []) ≡ None
    by false c t h = refl
    by true c t h = ap (λ x. cond x (Some (now_of e.table)) None) (turned (lower n) (lower e.table.name) ∙ sym t ∙ h)

pub none_more : (es : List Entry) (n : List ℕ) (i : ℕ) (e : Entry) → i < length es → e ≡ get_or es i e → is_named e n ≡ false → find name_cmp (lower n) (listed at_now (take i es)) ≡ None → find name_cmp (lower n) (listed at_now (take (i + 1) es)) ≡ None
none_more es n i e l at h none =
    ap (find name_cmp (lower n)) (listed_more es i e l)
    ∙ find_append (lower n) (listed at_now (take i es)) (cons_option (at_now (get_or es i e)) [])
    ∙ ap (λ o. option_or o (find name_cmp (lower n) (cons_option (at_now (get_or es i e)) []))) none
    ∙ not_named (get_or es i e) n (ap (λ x. is_named x n) (sym at) ∙ h)

-- ---- sizes

pub sized_more : (es : List Entry) (i : ℕ) (e : Entry) → i < length es → e ≡ get_or es i e → sized (listed at_now (take (i + 1) es)) ≡ sized (listed at_now (take i es)) + sized (cons_option (at_now e) [])
sized_more es i e l at = ap sized (listed_more es i e l) ∙ sum_by-append (λ (x : Named). table_size x.1) (listed at_now (take i es)) (cons_option (at_now (get_or es i e)) []) ∙ ap (λ (x : Entry). sized (listed at_now (take i es)) + sized (cons_option (at_now x) [])) (sym at)

pub sized_part : (es : List Entry) (i : ℕ) → sized (listed at_now (take i es)) ≤ sized (listed at_now es)
sized_part es i =
    let whole = ap (λ xs. sized (listed at_now xs)) (sym (take-append-drop i es)) ∙ ap sized (filter_map-append at_now (take i es) (drop i es)) ∙ sum_by-append (λ (x : Named). table_size x.1) (listed at_now (take i es)) (listed at_now (drop i es)) in
    omega (arith, whole)
