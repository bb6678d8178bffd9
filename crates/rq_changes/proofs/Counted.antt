-- Each row of a select's answer has as many values as the select has results.
use Rattle.std.proofs.Common.{◌≡◌, ℕ, zero, suc, Bool, List, [], ◌∷◌, ◌++◌, length, map, take, drop, Option, Some, None, Ok, Err, refl, sym, ap, subst, ◌∙◌}
use Rattle.std.specs.Prelude.{slice_get}
use Rattle.std.specs.List.{AllByRecursion}
use Rattle.std.specs.BTreeMap.{insert_entry}
use Rattle.std.specs.Ordering.{match_ordering}
use Rattle.std.specs.declared.cmp.Ordering.{Ordering}
use Rattle.std.specs.declared.cmp.Ordering.TheVariants.{Less, Equal, Greater}
use Rattle.std.proofs.lemmas.List.{length-map}
use Rattle.rq_values.specs.declared.value.Value.{Value}
use Rattle.rq_grammar.specs.declared.stmt.SelectStmt.{SelectStmt}
use Rattle.rq_grammar.specs.declared.expr.Expr.{Expr}
use Rattle.rq_eval.specs.Outcome.{Outcome, then_with, all_behind, all_of}
use Rattle.rq_eval.specs.Names.{Row}
use Rattle.rq_eval.specs.Value.{Gives}
use Rattle.rq_eval.specs.declared.row.Scope.{Scope}
use Rattle.rq_results.specs.Results.{Source, Shown, spread}
use Rattle.rq_results.specs.Checks.{names_check, calls_check, is_over_all}
use Rattle.rq_select.specs.declared.sorting.SortTerm.{SortTerm}
use Rattle.rq_select.specs.Sorting.{Entry, Place, place_cmp, sorted_among, in_order}
use Rattle.rq_select.specs.Select.{meets, filtered, Term, term_of, limit_of, offset_of, sort_value, with_terms, entry_of, shown_value, groups, members, cut, shown_rows, answered, rows_selected}
use Rattle.rq_select.specs.Parts.{result_count, result_rows}
use Rattle.rq_changes.proofs.Steps.{unless_ok, then_ok}
use Rattle.rq_changes.proofs.Numbered.{length_all}

-- ---- facts of each element

all_push : {A : Type 0} (P : A → Type 0) (xs : List A) (x : A) → AllByRecursion P xs → P x → AllByRecursion P (xs ++ x ∷ [])
all_push P [] x a p = (p, tt)
all_push P (y ∷ ys) x a p = (a.0, all_push P ys x a.1 p)

all_behind_of : {A X : Type 0} (P : A → Type 0) (f : X → Outcome A) → ((x : X) (a : A) → f x ≡ Ok a → P a) → (vs : List A) (xs : List X) (ys : List A) → all_behind vs (map f xs) ≡ Ok ys → AllByRecursion P vs → AllByRecursion P ys
all_behind_of {A = A} P f each vs [] ys h p = let same : vs ≡ ys = cc in subst (AllByRecursion P) same p
all_behind_of {A = A} P f each vs (x ∷ xs) ys h p = by (f x) refl h (λ a is g. all_behind_of P f each (vs ++ a ∷ []) xs ys g (all_push P vs a p (each x a is)))
  where
    by : (o : Outcome A) → f x ≡ o → then_with o (λ v. all_behind (vs ++ v ∷ []) (map f xs)) ≡ Ok ys → ((a : A) → f x ≡ Ok a → all_behind (vs ++ a ∷ []) (map f xs) ≡ Ok ys → AllByRecursion P ys) → AllByRecursion P ys
    by (Err e) is g rest = absurd (cc)
    by (Ok a) is g rest = rest a is g

all_map : {A B : Type 0} (P : B → Type 0) (f : A → B) (xs : List A) → AllByRecursion (λ x. P (f x)) xs → AllByRecursion P (map f xs)
all_map P f [] a = tt
all_map P f (x ∷ xs) a = (a.0, all_map P f xs a.1)

all_take : {A : Type 0} (P : A → Type 0) (n : ℕ) (xs : List A) → AllByRecursion P xs → AllByRecursion P (take n xs)
all_take P zero xs a = tt
all_take P (suc n) [] a = tt
all_take P (suc n) (x ∷ xs) a = (a.0, all_take P n xs a.1)

all_drop : {A : Type 0} (P : A → Type 0) (n : ℕ) (xs : List A) → AllByRecursion P xs → AllByRecursion P (drop n xs)
all_drop P zero xs a = a
all_drop P (suc n) [] a = tt
all_drop P (suc n) (x ∷ xs) a = all_drop P n xs a.1

all_cut : {A : Type 0} (P : A → Type 0) (limit : Option ℕ) (offset : ℕ) (xs : List A) → AllByRecursion P xs → AllByRecursion P (cut limit offset xs)
all_cut P None offset xs a = all_drop P offset xs a
all_cut P (Some n) offset xs a = all_take P n (drop offset xs) (all_drop P offset xs a)

all_at : {A : Type 0} (P : A → Type 0) (xs : List A) (i : ℕ) (x : A) → AllByRecursion P xs → slice_get xs i ≡ Some x → P x
all_at P [] i x a e = absurd (cc)
all_at P (y ∷ ys) zero x a e = let same : y ≡ x = cc in subst P same a.0
all_at P (y ∷ ys) (suc i) x a e = all_at P ys i x a.1 e

-- ---- entries in order

abbrev Long : ℕ → Entry → Type 0
Long n e = length e.1 ≡ n

long_insert : (n : ℕ) (es : List Entry) (k : Place) (v : List Value) → AllByRecursion (Long n) es → length v ≡ n → AllByRecursion (Long n) (insert_entry place_cmp es k v)
long_insert n [] k v a h = (h, tt)
long_insert n (e ∷ es) k v a h = by (place_cmp k e.0) (long_insert n es k v a.1 h)
  where
    by : (o : Ordering) → AllByRecursion (Long n) (insert_entry place_cmp es k v) → AllByRecursion (Long n) (match_ordering o ((k, v) ∷ e ∷ es) ((e.0, v) ∷ es) (e ∷ insert_entry place_cmp es k v))
    by Less rest = (h, a)
    by Equal rest = (h, a.1)
    by Greater rest = (a.0, rest)

long_sorted : (n : ℕ) (there es : List Entry) → AllByRecursion (Long n) there → AllByRecursion (Long n) es → AllByRecursion (Long n) (sorted_among there es)
long_sorted n there [] a b = a
long_sorted n there (e ∷ es) a b = long_sorted n (insert_entry place_cmp there e.0 e.1) es (long_insert n there e.0 e.1 a b.0) b.1

-- ---- the rows of a select

long_with_terms : (ts : List Term) (r : Row) (vs : List Value) (e : Entry) → with_terms ts r vs ≡ Ok e → e.1 ≡ vs
long_with_terms ts r vs e h =
    let p = then_ok (all_of (map (sort_value r vs) ts)) (λ ks. Ok ((ks, r.rowid), vs)) e h in
    same p.0 p.2
  where
    same : (ks : List SortTerm) → ◌≡◌ {A = Outcome Entry} (Ok ((ks, r.rowid), vs)) (Ok e) → e.1 ≡ vs
    same ks q = let is : ((ks, r.rowid), vs) ≡ e = cc in sym (ap (λ (d : Entry). d.1) is)

long_entry : (gs : List Gives) (ts : List Term) (r : Row) (e : Entry) → entry_of gs ts r ≡ Ok e → Long (length gs) e
long_entry gs ts r e h =
    let p = then_ok (all_of (map (λ g. g r) gs)) (with_terms ts r) e h in
    ap length (long_with_terms ts r p.0 e p.2) ∙ length_all (map (λ g. g r) gs) p.0 p.1 ∙ length-map gs (λ (g : Gives). g r)

long_shown : (n : ℕ) (gs : List Row → List Gives) (ts : List Term) (over_all : Bool) (limit : Option ℕ) (offset : ℕ) (left : List Row) (rows : List (List Value)) → length (gs (members over_all left)) ≡ n
    → shown_rows gs ts over_all limit offset left ≡ Ok rows → AllByRecursion (λ (xs : List Value). length xs ≡ n) rows
long_shown n gs ts over_all limit offset left rows is h =
    let p = then_ok (all_of (map (entry_of (gs (members over_all left)) ts) (groups over_all left))) (λ es. Ok (cut limit offset (in_order es))) rows h in
    subst (AllByRecursion (λ (xs : List Value). length xs ≡ n)) (same p.0 p.2)
    (all_cut (λ (xs : List Value). length xs ≡ n) limit offset (in_order p.0) (all_map (λ (xs : List Value). length xs ≡ n) (λ (e : Entry). e.1) (sorted_among [] p.0) (long_sorted n [] p.0 tt
    (all_behind_of (Long n) (entry_of (gs (members over_all left)) ts) (λ r e q. long_entry (gs (members over_all left)) ts r e q ∙ is) [] (groups over_all left) p.0 p.1 tt))))
  where
    same : (es : List Entry) → ◌≡◌ {A = Outcome (List (List Value))} (Ok (cut limit offset (in_order es))) (Ok rows) → cut limit offset (in_order es) ≡ rows
    same es q = cc

long_answered : (s : Scope) (rs : List Shown) (over_all : Bool) (filter : Option Expr) (ts : List Term) (limit : Option ℕ) (offset : ℕ) (there : List Row) (rows : List (List Value)) → answered s rs over_all filter ts limit offset there ≡ Ok rows → AllByRecursion (λ (xs : List Value). length xs ≡ length rs) rows
long_answered s rs over_all filter ts limit offset there rows h =
    let p = then_ok (filtered (meets s filter) [] there) (λ left. shown_rows (λ all. map (shown_value s over_all all) rs) ts over_all limit offset left) rows h in
    long_shown (length rs) (λ all. map (shown_value s over_all all) rs) ts over_all limit offset p.0 rows (length-map rs (shown_value s over_all (members over_all p.0))) p.2

long_selected : (q : SelectStmt) (s : Scope) (there : List Row) (rs : List Shown) (rows : List (List Value)) → rows_selected q s there rs ≡ Ok rows → AllByRecursion (λ (xs : List Value). length xs ≡ length rs) rows
long_selected q s there rs rows h =
    let a = unless_ok (names_check s rs q) _ rows h in
    let b = unless_ok (calls_check (is_over_all rs) rs q) _ rows a.1 in
    let c = then_ok (all_of (map (term_of s rs) q.order)) _ rows b.1 in
    let d = then_ok (limit_of q.limit) _ rows c.2 in
    let e = then_ok (offset_of q.offset) _ rows d.2 in
    long_answered s rs (is_over_all rs) q.filter c.0 d.0 e.0 there rows e.2

pub rows_counted : (q : SelectStmt) (s : Source) (n : ℕ) (rows : List (List Value)) → result_count q s ≡ Ok n → result_rows q s ≡ Ok rows → (i : ℕ) (xs : List Value) → slice_get rows i ≡ Some xs → length xs ≡ n
rows_counted q s n rows c h i xs e =
    let rs = spread (length s.columns) q.results in
    all_at (λ (ys : List Value). length ys ≡ length rs) rows i xs (long_selected q s.scope s.rows rs rows h) e ∙ same (length rs) n (unless_ok (names_check s.scope rs q) (Ok (length rs)) n c).1
  where
    same : (m k : ℕ) → ◌≡◌ {A = Outcome ℕ} (Ok m) (Ok k) → m ≡ k
    same m k g = cc
