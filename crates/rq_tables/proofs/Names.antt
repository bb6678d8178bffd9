-- Tables under their names.
use Rattle.std.proofs.Common.{◌≡◌, ℕ, ◌+◌, Bool, true, false, cond, List, [], ◌∷◌, ◌++◌, map, Option, Some, None, refl, sym, ap, ◌∙◌, arith}
use Rattle.std.specs.declared.cmp.Ordering.{Ordering}
use Rattle.std.specs.declared.cmp.Ordering.TheVariants.{Less, Equal, Greater}
use Rattle.std.specs.Ordering.{is_eq, eq_by_cmp}
use Rattle.std.specs.Cmp.{eq_by_cmp_equiv}
use Rattle.std.specs.Cmp.Lexicographic.{nat_list_cmp_total}
use Rattle.std.specs.List.{sum_by}
use Rattle.std.specs.Option.{option_or}
use Rattle.std.specs.FinMap as fin
use Rattle.std.specs.FinMap.{get-insert, get-remove, get-from_entries, len-empty, entries-insert, same_map, nat_cmp-IsAntisymmetric, slice_cmp-IsAntisymmetric}
use Rattle.std.specs.FinMap.Entries.{find, put, by_order}
use Rattle.std.proofs.lemmas.List.{nil_from_length}
use Rattle.std.proofs.lemmas.List.Sums.{sum_by-cons}
use Rattle.rq_meaning.specs.Database.{Table, Database, name_cmp, table_size, tables_size}
use Rattle.rq_tables.specs.Entries.{Named, Apart, named_db}

equal : (o : Ordering) → is_eq o ≡ true → o ≡ Equal
equal Less e = absurd (cc)
equal Equal e = refl
equal Greater e = absurd (cc)

pub same_name : (a b : List ℕ) → eq_by_cmp name_cmp a b ≡ true → a ≡ b
same_name a b t = slice_cmp-IsAntisymmetric nat_cmp-IsAntisymmetric a b (equal _ t)

pub itself : (a : List ℕ) → eq_by_cmp name_cmp a a ≡ true
itself a = (eq_by_cmp_equiv nat_list_cmp_total).refl a

pub turned : (a b : List ℕ) → eq_by_cmp name_cmp a b ≡ eq_by_cmp name_cmp b a
turned a b = (eq_by_cmp_equiv nat_list_cmp_total).symm a b

pub same_database : (m n : Database) → ((q : List ℕ) → fin.get m q ≡ fin.get n q) → m ≡ n
same_database m n h = same_map nat_list_cmp_total (slice_cmp-IsAntisymmetric nat_cmp-IsAntisymmetric) m n h

pub get_listed : (xs : List Named) (q : List ℕ) → fin.get (named_db xs) q ≡ find name_cmp q xs
get_listed xs q = get-from_entries nat_list_cmp_total xs q

-- ---- what is found

pub find_append : (q : List ℕ) (xs ys : List Named) → find name_cmp q (xs ++ ys) ≡ option_or (find name_cmp q xs) (find name_cmp q ys)
find_append q [] ys = refl
find_append q (x ∷ xs) ys = elim (eq_by_cmp name_cmp q x.0) as (λ b. cond b (Some x.1) (find name_cmp q (xs ++ ys)) ≡ option_or (cond b (Some x.1) (find name_cmp q xs)) (find name_cmp q ys)) [
  | true ↦ refl
  | false ↦ find_append q xs ys
]

-- nothing is found before an entry, nor is it the entry, nor is it behind
pub record NotThere (b : Bool) (o p : Option Table) : Type 0 where
  pub before : o ≡ None
  pub here : b ≡ false
  pub behind : p ≡ None

not_there_by : (o p : Option Table) (b : Bool) (t : Table) → option_or o (cond b (Some t) p) ≡ None → NotThere b o p
not_there_by None p true t e = absurd (cc)
not_there_by None p false t e = record { before = refl; here = refl; behind = e }
not_there_by (Some x) p b t e = absurd (cc)

pub not_there : (q k : List ℕ) (t : Table) (xs ys : List Named) → find name_cmp q (xs ++ (k, t) ∷ ys) ≡ None → NotThere (eq_by_cmp name_cmp q k) (find name_cmp q xs) (find name_cmp q ys)
not_there q k t xs ys e = not_there_by _ _ _ t (sym (find_append q xs ((k, t) ∷ ys)) ∙ e)

still_not_there : (q k : List ℕ) (t w : Table) (xs ys : List Named) → find name_cmp q (xs ++ (k, t) ∷ ys) ≡ None → find name_cmp q (xs ++ (k, w) ∷ ys) ≡ None
still_not_there q k t w xs ys e =
    let n = not_there q k t xs ys e in
    find_append q xs ((k, w) ∷ ys) ∙ ap (λ o. option_or o (cond (eq_by_cmp name_cmp q k) (Some w) (find name_cmp q ys))) n.before ∙ ap (λ b. cond b (Some w) (find name_cmp q ys)) n.here ∙ n.behind

none_left : (q k : List ℕ) (t : Table) (xs ys : List Named) → find name_cmp q (xs ++ (k, t) ∷ ys) ≡ None → find name_cmp q (xs ++ ys) ≡ None
none_left q k t xs ys e = let n = not_there q k t xs ys e in find_append q xs ys ∙ ap (λ o. option_or o (find name_cmp q ys)) n.before ∙ n.behind

-- ---- names that differ

pub apart_set : (k : List ℕ) (t w : Table) (xs ys : List Named) → Apart (xs ++ (k, t) ∷ ys) → Apart (xs ++ (k, w) ∷ ys)
apart_set k t w [] ys h = h
apart_set k t w (x ∷ xs) ys h = (still_not_there x.0 k t w xs ys h.0, apart_set k t w xs ys h.1)

pub apart_gone : (k : List ℕ) (t : Table) (xs ys : List Named) → Apart (xs ++ (k, t) ∷ ys) → Apart (xs ++ ys)
apart_gone k t [] ys h = h.1
apart_gone k t (x ∷ xs) ys h = (none_left x.0 k t xs ys h.0, apart_gone k t xs ys h.1)

other : (b : Bool) (t : Table) (o : Option Table) → cond b (Some t) o ≡ None → (b ≡ false) × (o ≡ None)
other true t o e = absurd (cc)
other false t o e = (refl, e)

pub apart_push : (k : List ℕ) (t : Table) (xs : List Named) → Apart xs → find name_cmp k xs ≡ None → Apart (xs ++ (k, t) ∷ [])
apart_push k t [] h e = (refl, tt)
apart_push k t (x ∷ xs) h e =
    let o = other (eq_by_cmp name_cmp k x.0) x.1 (find name_cmp k xs) e in
    (find_append x.0 xs ((k, t) ∷ []) ∙ ap (λ p. option_or p (cond (eq_by_cmp name_cmp x.0 k) (Some t) None)) h.0 ∙ ap (λ c. cond c (Some t) None) (turned x.0 k ∙ o.0), apart_push k t xs h.1 o.1)

none_before : (k : List ℕ) (t : Table) (xs ys : List Named) → Apart (xs ++ (k, t) ∷ ys) → find name_cmp k xs ≡ None
none_before k t [] ys h = refl
none_before k t (x ∷ xs) ys h = ap (λ b. cond b (Some x.1) (find name_cmp k xs)) (turned k x.0 ∙ (not_there x.0 k t xs ys h.0).here) ∙ none_before k t xs ys h.1

none_behind : (k : List ℕ) (t : Table) (xs ys : List Named) → Apart (xs ++ (k, t) ∷ ys) → find name_cmp k ys ≡ None
none_behind k t [] ys h = h.0
none_behind k t (x ∷ xs) ys h = none_behind k t xs ys h.1

-- ---- the database of a list

found_set : (b : Bool) (o p : Option Table) (t w : Table) → (b ≡ true → o ≡ None) → option_or o (cond b (Some w) p) ≡ cond b (Some w) (option_or o (cond b (Some t) p))
found_set true o p t w h = ap (λ x. option_or x (Some w)) (h refl)
found_set false o p t w h = refl

found_gone : (b : Bool) (o p : Option Table) (t : Table) → (b ≡ true → o ≡ None) → (b ≡ true → p ≡ None) → option_or o p ≡ cond b None (option_or o (cond b (Some t) p))
found_gone true o p t h g = ap (λ x. option_or x p) (h refl) ∙ g refl
found_gone false o p t h g = refl

at_name : (q k : List ℕ) (xs : List Named) → find name_cmp k xs ≡ None → eq_by_cmp name_cmp q k ≡ true → find name_cmp q xs ≡ None
at_name q k xs h t = ap (λ n. find name_cmp n xs) (same_name q k t) ∙ h

pub database_set : (k : List ℕ) (t w : Table) (xs ys : List Named) → Apart (xs ++ (k, t) ∷ ys) → named_db (xs ++ (k, w) ∷ ys) ≡ fin.insert (named_db (xs ++ (k, t) ∷ ys)) k w
database_set k t w xs ys h = same_database _ _ (λ q.
    get_listed (xs ++ (k, w) ∷ ys) q ∙ find_append q xs ((k, w) ∷ ys)
    ∙ found_set (eq_by_cmp name_cmp q k) _ _ t w (at_name q k xs (none_before k t xs ys h))
    ∙ ap (cond (eq_by_cmp name_cmp q k) (Some w)) (sym (get_listed (xs ++ (k, t) ∷ ys) q ∙ find_append q xs ((k, t) ∷ ys)))
    ∙ sym (get-insert nat_list_cmp_total (named_db (xs ++ (k, t) ∷ ys)) k w q))

pub database_gone : (k : List ℕ) (t : Table) (xs ys : List Named) → Apart (xs ++ (k, t) ∷ ys) → named_db (xs ++ ys) ≡ fin.remove (named_db (xs ++ (k, t) ∷ ys)) k
database_gone k t xs ys h = same_database _ _ (λ q.
    get_listed (xs ++ ys) q ∙ find_append q xs ys
    ∙ found_gone (eq_by_cmp name_cmp q k) _ _ t (at_name q k xs (none_before k t xs ys h)) (at_name q k ys (none_behind k t xs ys h))
    ∙ ap (cond (eq_by_cmp name_cmp q k) None) (sym (get_listed (xs ++ (k, t) ∷ ys) q ∙ find_append q xs ((k, t) ∷ ys)))
    ∙ sym (get-remove nat_list_cmp_total (named_db (xs ++ (k, t) ∷ ys)) k q))

pub database_push : (k : List ℕ) (t : Table) (xs : List Named) → find name_cmp k xs ≡ None → named_db (xs ++ (k, t) ∷ []) ≡ fin.insert (named_db xs) k t
database_push k t xs h = same_database _ _ (λ q.
    get_listed (xs ++ (k, t) ∷ []) q ∙ find_append q xs ((k, t) ∷ [])
    ∙ by (eq_by_cmp name_cmp q k) (find name_cmp q xs) (at_name q k xs h)
    ∙ ap (cond (eq_by_cmp name_cmp q k) (Some t)) (sym (get_listed xs q))
    ∙ sym (get-insert nat_list_cmp_total (named_db xs) k t q))
  where
    by : (b : Bool) (o : Option Table) → (b ≡ true → o ≡ None) → option_or o (cond b (Some t) None) ≡ cond b (Some t) o
    by true o h = ap (λ x. option_or x (Some t)) (h refl)
    by false None h = refl
    by false (Some x) h = refl

pub found_at : (k : List ℕ) (t : Table) (xs ys : List Named) → Apart (xs ++ (k, t) ∷ ys) → find name_cmp k (xs ++ (k, t) ∷ ys) ≡ Some t
found_at k t xs ys h = find_append k xs ((k, t) ∷ ys) ∙ ap (λ o. option_or o (cond (eq_by_cmp name_cmp k k) (Some t) (find name_cmp k ys))) (none_before k t xs ys h) ∙ ap (λ b. cond b (Some t) (find name_cmp k ys)) (itself k)

-- ---- sizes

put_sum : (f : Table → ℕ) (k : List ℕ) (v : Table) (es : List Named) → find name_cmp k es ≡ None → sum_by f (map (λ e. e.1) (put name_cmp k v es)) ≡ f v + sum_by f (map (λ e. e.1) es)
put_sum f k v [] h = omega arith
put_sum f k v (e ∷ es) h = elim (name_cmp k e.0) as (λ o. cond (is_eq o) (Some e.1) (find name_cmp k es) ≡ None → sum_by f (map (λ e. e.1) (by_order o ((k, v) ∷ e ∷ es) ((e.0, v) ∷ es) (e ∷ put name_cmp k v es))) ≡ f v + sum_by f (map (λ e. e.1) (e ∷ es))) [
  | Less ↦ λ g. sum_by-cons f v (map (λ e. e.1) (e ∷ es))
  | Equal ↦ λ g. absurd (cc)
  | Greater ↦ λ g.
      let a = sum_by-cons f e.1 (map (λ e. e.1) (put name_cmp k v es)) in
      let b = sum_by-cons f e.1 (map (λ e. e.1) es) in
      let i = put_sum f k v es g in
      omega (arith, a, b, i)
] h

pub sum_insert : (f : Table → ℕ) (m : Database) (k : List ℕ) (v : Table) → fin.get m k ≡ None → sum_by f (fin.values (fin.insert m k v)) ≡ f v + sum_by f (fin.values m)
sum_insert f m k v h = ap (λ es. sum_by f (map (λ e. e.1) es)) (entries-insert nat_list_cmp_total m k v) ∙ put_sum f k v (fin.entries m) (sym (fin.get-entries m k) ∙ h)

none : Database
none = fin.empty

size_of_none : sum_by table_size (fin.values none) ≡ 0
unfolding none
size_of_none = ap (λ (es : List Named). sum_by table_size (map (λ e. e.1) es)) (nil_from_length (fin.entries none) (sym (fin.len-entries none) ∙ len-empty name_cmp Table))

pub size_of_list : (xs : List Named) → Apart xs → sum_by table_size (fin.values (named_db xs)) ≡ sum_by (λ (x : Named). table_size x.1) xs
unfolding none
size_of_list [] h = size_of_none
size_of_list (x ∷ xs) h =
    let i = size_of_list xs h.1 in
    let s = sum_insert table_size (named_db xs) x.0 x.1 (get_listed xs x.0 ∙ h.0) in
    let c = sum_by-cons (λ (y : Named). table_size y.1) x xs in
    omega (arith, i, s, c)

pub size_is : (xs : List Named) → Apart xs → tables_size (named_db xs) ≡ 4 + sum_by (λ (x : Named). table_size x.1) xs
size_is xs h = ap (λ n. 4 + n) (size_of_list xs h)
