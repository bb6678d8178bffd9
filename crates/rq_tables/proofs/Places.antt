-- The entry at a place, and what a change of it makes of the tables.
use Rattle.std.proofs.Common.{◌≡◌, ℕ, suc, ◌+◌, ◌<◌, ◌≤◌, true, false, List, [], ◌∷◌, ◌++◌, map, length, get_or, take, drop, Option, Some, None, refl, sym, ap, subst, ◌∙◌, arith}
use Rattle.std.specs.Prelude.{slice_set}
use Rattle.std.specs.List.{cons_option, remove}
use Rattle.std.specs.FinMap as fin
use Rattle.std.specs.FinMap.Entries.{find}
use Rattle.std.proofs.lemmas.List.{set_split, set-get_or}
use Rattle.std.proofs.lemmas.List.Elements.{filter_map-append}
use Rattle.std.proofs.lemmas.List.Sums.{sum_by-append, sum_by-cons}
use Rattle.rq_meaning.specs.Database.{Table, name_cmp, lower, table_of, with_table, table_size, tables_size, size_limit}
use Rattle.rq_changes.specs.Staged.{StagedTable, start_of, before_of, now_of}
use Rattle.rq_changes.specs.Making.{IsWithin}
use Rattle.rq_tables.specs.declared.entry.Entry.{Entry}
use Rattle.rq_tables.specs.Entries.{Named, named, named_if, at_start, at_before, at_now, listed, named_db, sized, now_db, Apart, IsState, Sound, Rest, fresh}
use Rattle.rq_tables.proofs.Names.{apart_set, apart_gone, apart_push, database_set, database_gone, database_push, found_at, size_is, get_listed}

-- ---- lists around a place

pub listed_set : (f : Entry → Option Named) (es : List Entry) (i : ℕ) (w : Entry) → i < length es → listed f (slice_set es i w) ≡ listed f (take i es) ++ cons_option (f w) (listed f (drop (suc i) es))
listed_set f es i w l = ap (listed f) (set_split es i w l) ∙ filter_map-append f (take i es) (w ∷ drop (suc i) es)

pub listed_at : (f : Entry → Option Named) (es : List Entry) (i : ℕ) (e : Entry) → i < length es → e ≡ get_or es i e → listed f es ≡ listed f (take i es) ++ cons_option (f e) (listed f (drop (suc i) es))
listed_at f es i e l at = ap (listed f) (sym (ap (slice_set es i) at ∙ set-get_or es i e)) ∙ listed_set f es i e l

pub listed_same : (f : Entry → Option Named) (es : List Entry) (i : ℕ) (e w : Entry) → i < length es → e ≡ get_or es i e → f w ≡ f e → listed f (slice_set es i w) ≡ listed f es
listed_same f es i e w l at same = listed_set f es i w l ∙ ap (λ o. listed f (take i es) ++ cons_option o (listed f (drop (suc i) es))) same ∙ sym (listed_at f es i e l at)

pub listed_gone : (f : Entry → Option Named) (es : List Entry) (i : ℕ) (w : Entry) → i < length es → f w ≡ None → listed f (slice_set es i w) ≡ listed f (remove es i)
listed_gone f es i w l none = listed_set f es i w l ∙ ap (λ o. listed f (take i es) ++ cons_option o (listed f (drop (suc i) es))) none ∙ sym (filter_map-append f (take i es) (drop (suc i) es))

pub same_state : (f g : Entry → Option Named) (es ws : List Entry) → listed g ws ≡ listed f es → IsState f es → IsState g ws
same_state f g es ws same s = record {
  apart = subst Apart (sym same) s.apart;
  within = subst (λ (xs : List Named). tables_size (named_db xs) ≤ size_limit) (sym same) s.within;
}

-- ---- the table that is there at a place

pub there : (es : List Entry) (i : ℕ) (e : Entry) → i < length es → e ≡ get_or es i e → e.now ≡ true
    → listed at_now es ≡ listed at_now (take i es) ++ named (now_of e.table) ∷ listed at_now (drop (suc i) es)
there es i e l at now = listed_at at_now es i e l at ∙ ap (λ b. listed at_now (take i es) ++ cons_option (named_if b (now_of e.table)) (listed at_now (drop (suc i) es))) now

left : (es : List Entry) (i : ℕ) → listed at_now (remove es i) ≡ listed at_now (take i es) ++ listed at_now (drop (suc i) es)
left es i = filter_map-append at_now (take i es) (drop (suc i) es)

apart_there : (es : List Entry) (i : ℕ) (e : Entry) → i < length es → e ≡ get_or es i e → e.now ≡ true → Sound es
    → Apart (listed at_now (take i es) ++ named (now_of e.table) ∷ listed at_now (drop (suc i) es))
apart_there es i e l at now s = subst Apart (there es i e l at now) s.now.apart

pub table_there : (es : List Entry) (i : ℕ) (e : Entry) → i < length es → e ≡ get_or es i e → e.now ≡ true → Sound es → fin.get (now_db es) (lower e.table.name) ≡ Some (now_of e.table)
table_there es i e l at now s =
    get_listed (listed at_now es) (lower e.table.name) ∙ ap (find name_cmp (lower e.table.name)) (there es i e l at now)
    ∙ found_at (lower e.table.name) (now_of e.table) (listed at_now (take i es)) (listed at_now (drop (suc i) es)) (apart_there es i e l at now s)

pub without_there : (es : List Entry) (i : ℕ) (e : Entry) → i < length es → e ≡ get_or es i e → e.now ≡ true → Sound es → now_db (remove es i) ≡ fin.remove (now_db es) (lower e.table.name)
without_there es i e l at now s =
    ap named_db (left es i)
    ∙ database_gone (lower e.table.name) (now_of e.table) (listed at_now (take i es)) (listed at_now (drop (suc i) es)) (apart_there es i e l at now s)
    ∙ ap (λ (xs : List Named). fin.remove (named_db xs) (lower e.table.name)) (sym (there es i e l at now))

apart_left : (es : List Entry) (i : ℕ) (e : Entry) → i < length es → e ≡ get_or es i e → e.now ≡ true → Sound es → Apart (listed at_now (remove es i))
apart_left es i e l at now s = subst Apart (sym (left es i)) (apart_gone (lower e.table.name) (now_of e.table) (listed at_now (take i es)) (listed at_now (drop (suc i) es)) (apart_there es i e l at now s))

sized_around : (xs ys : List Named) (k : List ℕ) (t : Table) → sized (xs ++ (k, t) ∷ ys) ≡ sized (xs ++ ys) + table_size t
sized_around xs ys k t =
    let f = (λ (x : Named). table_size x.1) in
    let a = sum_by-append f xs ((k, t) ∷ ys) in
    let b = sum_by-append f xs ys in
    let c = sum_by-cons f (k, t) ys in
    omega (arith, a, b, c)

sized_push : (xs : List Named) (k : List ℕ) (t : Table) → sized (xs ++ (k, t) ∷ []) ≡ sized xs + table_size t
sized_push xs k t =
    let f = (λ (x : Named). table_size x.1) in
    let a = sum_by-append f xs ((k, t) ∷ []) in
    let c = sum_by-cons f (k, t) [] in
    omega (arith, a, c)

size_sized : (xs : List Named) → Apart xs → tables_size (named_db xs) ≡ 4 + sized xs
size_sized xs h = size_is xs h

-- what all tables take, and what they take without the one at a place
pub size_there : (es : List Entry) (i : ℕ) (e : Entry) → i < length es → e ≡ get_or es i e → e.now ≡ true → Sound es → tables_size (now_db es) ≡ tables_size (now_db (remove es i)) + table_size (now_of e.table)
size_there es i e l at now s =
    let a = size_sized (listed at_now es) s.now.apart ∙ ap (λ xs. 4 + sized xs) (there es i e l at now) in
    let b = size_sized (listed at_now (remove es i)) (apart_left es i e l at now s) ∙ ap (λ xs. 4 + sized xs) (left es i) in
    let c = sized_around (listed at_now (take i es)) (listed at_now (drop (suc i) es)) (lower e.table.name) (now_of e.table) in
    omega (arith, a, b, c)

-- ---- a table changes

-- no more than its rows change
abbrev pub IsChange : StagedTable → StagedTable → Type 0
IsChange t w = w ≡ record t { rows = record t.rows { now = w.rows.now } }

abbrev pub with : Entry → StagedTable → Entry
with e w = record e { table = w }

name_kept : (t w : StagedTable) → IsChange t w → lower w.name ≡ lower t.name
name_kept t w c = ap (λ (x : StagedTable). lower x.name) c

set_start : (e : Entry) (w : StagedTable) → IsChange e.table w → at_start (with e w) ≡ at_start e
set_start e w c = ap (λ (x : StagedTable). named_if e.start (start_of x)) c

set_before : (e : Entry) (w : StagedTable) → IsChange e.table w → at_before (with e w) ≡ at_before e
set_before e w c = ap (λ (x : StagedTable). named_if e.before (before_of x)) c

set_there : (es : List Entry) (i : ℕ) (e : Entry) (w : StagedTable) → i < length es → e ≡ get_or es i e → e.now ≡ true → IsChange e.table w
    → listed at_now (slice_set es i (with e w)) ≡ listed at_now (take i es) ++ (lower e.table.name, now_of w) ∷ listed at_now (drop (suc i) es)
set_there es i e w l at now c =
    listed_set at_now es i (with e w) l
    ∙ ap (λ b. listed at_now (take i es) ++ cons_option (named_if b (now_of w)) (listed at_now (drop (suc i) es))) now
    ∙ ap (λ k. listed at_now (take i es) ++ (k, now_of w) ∷ listed at_now (drop (suc i) es)) (name_kept e.table w c)

pub set_rest : (es : List Entry) (i : ℕ) (e : Entry) (w : StagedTable) → i < length es → e ≡ get_or es i e → IsChange e.table w → Rest es (slice_set es i (with e w))
set_rest es i e w l at c = record {
  start = ap named_db (listed_same at_start es i e (with e w) l at (set_start e w c));
  before = ap named_db (listed_same at_before es i e (with e w) l at (set_before e w c));
}

pub set_now : (es : List Entry) (i : ℕ) (e : Entry) (w : StagedTable) → i < length es → e ≡ get_or es i e → e.now ≡ true → IsChange e.table w → Sound es → now_db (slice_set es i (with e w)) ≡ fin.insert (now_db es) (lower e.table.name) (now_of w)
set_now es i e w l at now c s =
    ap named_db (set_there es i e w l at now c)
    ∙ database_set (lower e.table.name) (now_of e.table) (now_of w) (listed at_now (take i es)) (listed at_now (drop (suc i) es)) (apart_there es i e l at now s)
    ∙ ap (λ (xs : List Named). fin.insert (named_db xs) (lower e.table.name) (now_of w)) (sym (there es i e l at now))

pub set_sound : (es : List Entry) (i : ℕ) (e : Entry) (w : StagedTable) → i < length es → e ≡ get_or es i e → e.now ≡ true → IsChange e.table w → Sound es → IsWithin (tables_size (now_db (remove es i))) (now_of w) → Sound (slice_set es i (with e w))
set_sound es i e w l at now c s within = record {
  start = same_state at_start at_start es (slice_set es i (with e w)) (listed_same at_start es i e (with e w) l at (set_start e w c)) s.start;
  before = same_state at_before at_before es (slice_set es i (with e w)) (listed_same at_before es i e (with e w) l at (set_before e w c)) s.before;
  now = record {
    apart = apart;
    within = enough;
  };
}
  where
    apart : Apart (listed at_now (slice_set es i (with e w)))
    apart = subst Apart (sym (set_there es i e w l at now c)) (apart_set (lower e.table.name) (now_of e.table) (now_of w) (listed at_now (take i es)) (listed at_now (drop (suc i) es)) (apart_there es i e l at now s))

    enough : tables_size (now_db (slice_set es i (with e w))) ≤ size_limit
    enough =
        let a = size_sized (listed at_now (slice_set es i (with e w))) apart ∙ ap (λ xs. 4 + sized xs) (set_there es i e w l at now c) in
        let b = size_sized (listed at_now (remove es i)) (apart_left es i e l at now s) ∙ ap (λ xs. 4 + sized xs) (left es i) in
        let d = sized_around (listed at_now (take i es)) (listed at_now (drop (suc i) es)) (lower e.table.name) (now_of w) in
        omega (arith, a, b, d, within)

-- ---- a table goes

abbrev pub gone : Entry → Entry
gone e = record e { now = false }

pub gone_rest : (es : List Entry) (i : ℕ) (e : Entry) → i < length es → e ≡ get_or es i e → Rest es (slice_set es i (gone e))
gone_rest es i e l at = record {
  start = ap named_db (listed_same at_start es i e (gone e) l at refl);
  before = ap named_db (listed_same at_before es i e (gone e) l at refl);
}

pub gone_now : (es : List Entry) (i : ℕ) (e : Entry) → i < length es → e ≡ get_or es i e → e.now ≡ true → Sound es → now_db (slice_set es i (gone e)) ≡ fin.remove (now_db es) (lower e.table.name)
gone_now es i e l at now s = ap named_db (listed_gone at_now es i (gone e) l refl) ∙ without_there es i e l at now s

pub gone_sound : (es : List Entry) (i : ℕ) (e : Entry) → i < length es → e ≡ get_or es i e → e.now ≡ true → Sound es → Sound (slice_set es i (gone e))
gone_sound es i e l at now s = record {
  start = same_state at_start at_start es (slice_set es i (gone e)) (listed_same at_start es i e (gone e) l at refl) s.start;
  before = same_state at_before at_before es (slice_set es i (gone e)) (listed_same at_before es i e (gone e) l at refl) s.before;
  now = record {
    apart = subst Apart (sym (listed_gone at_now es i (gone e) l refl)) (apart_left es i e l at now s);
    within = enough;
  };
}
  where
    enough : tables_size (now_db (slice_set es i (gone e))) ≤ size_limit
    enough =
        let a = ap (λ (xs : List Named). tables_size (named_db xs)) (listed_gone at_now es i (gone e) l refl) in
        let b = size_there es i e l at now s in
        let d = s.now.within in
        omega (arith, a, b, d)

-- ---- a table comes

listed_push : (f : Entry → Option Named) (es : List Entry) (e : Entry) → f e ≡ None → listed f (es ++ e ∷ []) ≡ listed f es
listed_push f es e none = filter_map-append f es (e ∷ []) ∙ ap (λ o. listed f es ++ cons_option o []) none ∙ nothing (listed f es)
  where
    nothing : (xs : List Named) → xs ++ [] ≡ xs
    nothing [] = refl
    nothing (x ∷ xs) = ap (λ ys. x ∷ ys) (nothing xs)

pub push_rest : (es : List Entry) (t : StagedTable) → Rest es (es ++ fresh t ∷ [])
push_rest es t = record {
  start = ap named_db (listed_push at_start es (fresh t) refl);
  before = ap named_db (listed_push at_before es (fresh t) refl);
}

pub push_now : (es : List Entry) (t : StagedTable) → table_of t.name (now_db es) ≡ None → now_db (es ++ fresh t ∷ []) ≡ with_table t.name (now_of t) (now_db es)
push_now es t new = ap named_db (filter_map-append at_now es (fresh t ∷ [])) ∙ database_push (lower t.name) (now_of t) (listed at_now es) (sym (get_listed (listed at_now es) (lower t.name)) ∙ new)

pub push_sound : (es : List Entry) (t : StagedTable) → Sound es → table_of t.name (now_db es) ≡ None → tables_size (now_db es) + table_size (now_of t) ≤ size_limit → Sound (es ++ fresh t ∷ [])
push_sound es t s new within = record {
  start = same_state at_start at_start es (es ++ fresh t ∷ []) (listed_push at_start es (fresh t) refl) s.start;
  before = same_state at_before at_before es (es ++ fresh t ∷ []) (listed_push at_before es (fresh t) refl) s.before;
  now = record { apart = apart; within = enough };
}
  where
    more : listed at_now (es ++ fresh t ∷ []) ≡ listed at_now es ++ named (now_of t) ∷ []
    more = filter_map-append at_now es (fresh t ∷ [])

    apart : Apart (listed at_now (es ++ fresh t ∷ []))
    apart = subst Apart (sym more) (apart_push (lower t.name) (now_of t) (listed at_now es) s.now.apart (sym (get_listed (listed at_now es) (lower t.name)) ∙ new))

    enough : tables_size (now_db (es ++ fresh t ∷ [])) ≤ size_limit
    enough =
        let a = size_sized (listed at_now (es ++ fresh t ∷ [])) apart ∙ ap (λ xs. 4 + sized xs) more in
        let b = size_sized (listed at_now es) s.now.apart in
        let c = sized_push (listed at_now es) (lower t.name) (now_of t) in
        omega (arith, a, b, c, within)

-- ---- all entries

pub listed_map : (f g : Entry → Option Named) (h : Entry → Entry) → ((e : Entry) → f (h e) ≡ g e) → (es : List Entry) → listed f (map h es) ≡ listed g es
listed_map f g h same [] = refl
listed_map f g h same (e ∷ es) = ap (λ o. cons_option o (listed f (map h es))) (same e) ∙ ap (cons_option (g e)) (listed_map f g h same es)
