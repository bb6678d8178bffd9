-- What statements make of a valid database is valid.
use Rattle.std.proofs.Common.{◌≡◌, ◌≢◌, ℕ, ◌+◌, ◌≤◌, ℤ, Bool, true, false, cond, List, [], ◌∷◌, map, Option, Some, None, Ok, Err, refl, sym, ap, subst, ◌∙◌, arith}
use Rattle.std.specs.Prelude.{is_some, if◌then◌else◌, nat_le}
use Rattle.std.specs.declared.cmp.Ordering.{Ordering}
use Rattle.std.specs.declared.cmp.Ordering.TheVariants.{Less, Equal, Greater}
use Rattle.std.specs.Ordering.{is_eq, eq_by_cmp}
use Rattle.std.specs.Cmp.{eq_by_cmp_equiv}
use Rattle.std.specs.Cmp.Lexicographic.{nat_list_cmp_total}
use Rattle.std.specs.List.{sum_by}
use Rattle.std.specs.FinMap as fin
use Rattle.std.specs.FinMap.{get-insert, get-remove, get-empty, entries-insert, same_map, nat_cmp-IsAntisymmetric, slice_cmp-IsAntisymmetric}
use Rattle.std.specs.FinMap.Entries.{find, put, by_order}
use Rattle.std.proofs.lemmas.List.Sums.{sum_by-cons}
use Rattle.std.proofs.lemmas.Bool.{leb-true}
use Rattle.rq_values.specs.declared.value.Value.{Value}
use Rattle.rq_grammar.specs.declared.stmt.ColumnDef.{ColumnDef}
use Rattle.rq_eval.specs.declared.error.StmtError.TheVariants as error
use Rattle.rq_eval.specs.Outcome.{Outcome, then_with}
use Rattle.rq_results.specs.Checks.{first}
use Rattle.rq_meaning.specs.declared.done.Done.{Done}
use Rattle.rq_meaning.specs.Database.{Table, Database, lower, name_cmp, table_of, with_table, without_table, table_size, tables_size, size_limit}
use Rattle.rq_meaning.specs.Rows.{needed}
use Rattle.rq_meaning.specs.Checks.{create_check}
use Rattle.rq_meaning.specs.Statements.{Effect, no_rows, if_within, new_created, again_created, created, none_dropped, dropped, others_size, on_table, nothing_done}
use Rattle.rq_meaning.specs.Valid.{ValidTable, Valid, Entered}
use Rattle.rq_meaning.proofs.Entering.{ok_then, ok_unless}

equal : (o : Ordering) → is_eq o ≡ true → o ≡ Equal
equal Less e = absurd (cc)
equal Equal e = refl
equal Greater e = absurd (cc)

same_name : (a b : List ℕ) → eq_by_cmp name_cmp a b ≡ true → a ≡ b
same_name a b t = slice_cmp-IsAntisymmetric nat_cmp-IsAntisymmetric a b (equal _ t)

-- ---- sizes

put_sum : (f : Table → ℕ) (k : List ℕ) (w : Table) (es : List (List ℕ × Table)) → find name_cmp k es ≡ None → sum_by f (map (λ e. e.1) (put name_cmp k w es)) ≡ f w + sum_by f (map (λ e. e.1) es)
put_sum f k w [] h = omega arith
put_sum f k w (e ∷ es) h = elim (name_cmp k e.0) as (λ o. cond (is_eq o) (Some e.1) (find name_cmp k es) ≡ None → sum_by f (map (λ e. e.1) (by_order o ((k, w) ∷ e ∷ es) ((e.0, w) ∷ es) (e ∷ put name_cmp k w es))) ≡ f w + sum_by f (map (λ e. e.1) (e ∷ es))) [
  | Less ↦ λ g. sum_by-cons f w (map (λ e. e.1) (e ∷ es))
  | Equal ↦ λ g. absurd (cc)
  | Greater ↦ λ g.
      let a = sum_by-cons f e.1 (map (λ e. e.1) (put name_cmp k w es)) in
      let b = sum_by-cons f e.1 (map (λ e. e.1) es) in
      let i = put_sum f k w es g in
      omega (arith, a, b, i)
] h

size_insert : (db : Database) (k : List ℕ) (w : Table) → fin.get db k ≡ None → tables_size (fin.insert db k w) ≡ tables_size db + table_size w
size_insert db k w h =
    let a = ap (λ es. sum_by table_size (map (λ (e : List ℕ × Table). e.1) es)) (entries-insert nat_list_cmp_total db k w) in
    let b = put_sum table_size k w (fin.entries db) (sym (fin.get-entries db k) ∙ h) in
    omega (arith, a, b)

gone : (db : Database) (k : List ℕ) → fin.get (fin.remove db k) k ≡ None
gone db k = get-remove nat_list_cmp_total db k k ∙ ap (λ b. cond b None (fin.get db k)) ((eq_by_cmp_equiv nat_list_cmp_total).refl k)

-- a table that comes in place of another
put_over : (db : Database) (k : List ℕ) (w : Table) → fin.insert (fin.remove db k) k w ≡ fin.insert db k w
put_over db k w = same_map nat_list_cmp_total (slice_cmp-IsAntisymmetric nat_cmp-IsAntisymmetric) _ _ (λ q.
    get-insert nat_list_cmp_total (fin.remove db k) k w q ∙ ap (cond (eq_by_cmp name_cmp q k) (Some w)) (get-remove nat_list_cmp_total db k q)
    ∙ by (eq_by_cmp name_cmp q k) (fin.get db q) ∙ sym (get-insert nat_list_cmp_total db k w q))
  where
    by : (b : Bool) (o : Option Table) → cond b (Some w) (cond b None o) ≡ cond b (Some w) o
    by true o = refl
    by false o = refl

put_back : (db : Database) (k : List ℕ) (t : Table) → fin.get db k ≡ Some t → fin.insert db k t ≡ db
put_back db k t g = same_map nat_list_cmp_total (slice_cmp-IsAntisymmetric nat_cmp-IsAntisymmetric) _ _ (λ q.
    get-insert nat_list_cmp_total db k t q ∙ by (eq_by_cmp name_cmp q k) (fin.get db q) (λ s. ap (fin.get db) (same_name q k s) ∙ g))
  where
    by : (b : Bool) (o : Option Table) → (b ≡ true → o ≡ Some t) → cond b (Some t) o ≡ o
    by true o h = sym (h refl)
    by false o h = refl

size_with : (db : Database) (k : List ℕ) (w : Table) → tables_size (fin.insert db k w) ≡ tables_size (fin.remove db k) + table_size w
size_with db k w = ap tables_size (sym (put_over db k w)) ∙ size_insert (fin.remove db k) k w (gone db k)

size_of_table : (db : Database) (k : List ℕ) (t : Table) → fin.get db k ≡ Some t → tables_size db ≡ tables_size (fin.remove db k) + table_size t
size_of_table db k t g = ap tables_size (sym (put_back db k t g)) ∙ size_with db k t

-- ---- a database with a table more, or changed

valid_with : (db : Database) (n : List ℕ) (w : Table) → Valid db → lower n ≡ lower w.name → ValidTable w → tables_size (with_table n w db) ≤ size_limit → Valid (with_table n w db)
valid_with db n w valid named fits size = record {
  named = λ k t g. each_name k t (eq_by_cmp name_cmp k (lower n)) refl (sym (get-insert nat_list_cmp_total db (lower n) w k) ∙ g);
  tables = λ k t g. each_table k t (eq_by_cmp name_cmp k (lower n)) (sym (get-insert nat_list_cmp_total db (lower n) w k) ∙ g);
  size = size;
}
  where
    same : (t : Table) → Some w ≡ Some t → w ≡ t
    same t e = cc

    each_name : (k : List ℕ) (t : Table) (b : Bool) → eq_by_cmp name_cmp k (lower n) ≡ b → cond b (Some w) (fin.get db k) ≡ Some t → k ≡ lower t.name
    each_name k t true s g = same_name k (lower n) s ∙ named ∙ ap (λ (x : Table). lower x.name) (same t g)
    each_name k t false s g = valid.named k t g

    each_table : (k : List ℕ) (t : Table) (b : Bool) → cond b (Some w) (fin.get db k) ≡ Some t → ValidTable t
    each_table k t true g = subst ValidTable (same t g) fits
    each_table k t false g = valid.tables k t g

valid_without : (db : Database) (n : List ℕ) → Valid db → is_some (table_of n db) ≡ true → Valid (without_table n db)
valid_without db n valid there = record {
  named = λ k t g. valid.named k t (left k t (eq_by_cmp name_cmp k (lower n)) (sym (get-remove nat_list_cmp_total db (lower n) k) ∙ g));
  tables = λ k t g. valid.tables k t (left k t (eq_by_cmp name_cmp k (lower n)) (sym (get-remove nat_list_cmp_total db (lower n) k) ∙ g));
  size = smaller (table_of n db) refl there;
}
  where
    left : (k : List ℕ) (t : Table) (b : Bool) → cond b None (fin.get db k) ≡ Some t → fin.get db k ≡ Some t
    left k t true g = absurd (cc)
    left k t false g = g

    smaller : (o : Option Table) → table_of n db ≡ o → is_some o ≡ true → tables_size (without_table n db) ≤ size_limit
    smaller None g e = absurd (cc)
    smaller (Some t) g e = let a = size_of_table db (lower n) t g in let b = valid.size in omega (arith, a, b)

same_ok : (p q : Database × Done) → ◌≡◌ {A = Effect} (Ok p) (Ok q) → p.0 ≡ q.0
same_ok p q e = let f : p ≡ q = cc in ap (λ x. x.0) f

-- ---- statements

-- a change of one table that leaves it valid
pub changed_valid : (db : Database) (n : List ℕ) (change : ℕ → Table → Outcome (Table × Done)) (p : Database × Done)
    → ((t : Table) (q : Table × Done) → ValidTable t → others_size n db + table_size t ≤ size_limit → change (others_size n db) t ≡ Ok q → Entered (others_size n db) t q.0)
    → Valid db → on_table db n change ≡ Ok p → Valid p.0
changed_valid db n change p keeps valid e =
    let a = ok_then (needed (error.NoTable n) (table_of n db)) (λ t. then_with (change (others_size n db) t) (λ q. Ok (with_table n q.0 db, q.1))) p e in
    let g = ok_needed (table_of n db) a.0 a.1 in
    let b = ok_then (change (others_size n db) a.0) (λ q. Ok (with_table n q.0 db, q.1)) p a.2 in
    let whole = size_of_table db (lower n) a.0 g in
    let r = keeps a.0 b.0 (valid.tables (lower n) a.0 g) (let s = valid.size in omega (arith, whole, s)) b.1 in
    let size = size_with db (lower n) b.0.0 in
    let within = r.within in
    subst Valid (same_ok (with_table n b.0.0 db, b.0.1) p b.2)
    (valid_with db n b.0.0 valid (valid.named (lower n) a.0 g ∙ ap lower (sym r.name)) r.valid (omega (arith, size, within)))
  where
    ok_needed : (o : Option Table) (t : Table) → needed (error.NoTable n) o ≡ Ok t → o ≡ Some t
    ok_needed None t f = absurd (cc)
    ok_needed (Some x) t f = cc

no_rows_valid : (n : List ℕ) (cs : List ColumnDef) → create_check n cs ≡ None → cs ≢ [] → ValidTable (no_rows n cs)
no_rows_valid n cs check some = record {
  declared = ap (λ c. first (c ∷ [])) check;
  some = some;
  rows = λ k vs g. absurd (none k vs g);
  unique = λ i c a u j k us vs x g h d e f. absurd (none j us g);
}
  where
    none : (k : ℤ) (vs : List Value) → fin.get (no_rows n cs).rows k ≡ Some vs → ⊥
    none k vs g = let f = sym g ∙ get-empty _ k in absurd (cc)

pub created_valid : (db : Database) (b : Bool) (n : List ℕ) (cs : List ColumnDef) (p : Database × Done) → cs ≢ [] → Valid db → created db b n cs ≡ Ok p → Valid p.0
created_valid db b n cs p some valid e = by (is_some (table_of n db)) b e
  where
    within : (d : Database) (l : Bool) → nat_le (tables_size d) size_limit ≡ l → (if l then Ok (d, nothing_done) else Err error.Full) ≡ Ok p → (tables_size d ≤ size_limit) × (d ≡ p.0)
    within d true s f = (leb-true (tables_size d) size_limit s, same_ok (d, nothing_done) p f)
    within d false s f = absurd (cc)

    new : new_created db n cs ≡ Ok p → Valid p.0
    new f =
        let a = ok_unless (create_check n cs) (if_within (with_table n (no_rows n cs) db)) p f in
        let w = within (with_table n (no_rows n cs) db) (nat_le (tables_size (with_table n (no_rows n cs) db)) size_limit) refl a.1 in
        subst Valid w.1 (valid_with db n (no_rows n cs) valid refl (no_rows_valid n cs a.0 some) w.0)

    by : (there b : Bool) → (if there then again_created db b n else new_created db n cs) ≡ Ok p → Valid p.0
    by true true f = subst Valid (same_ok (db, nothing_done) p f) valid
    by true false f = absurd (cc)
    by false b f = new f

pub dropped_valid : (db : Database) (b : Bool) (n : List ℕ) (p : Database × Done) → Valid db → dropped db b n ≡ Ok p → Valid p.0
dropped_valid db b n p valid e = by (is_some (table_of n db)) refl b e
  where
    by : (there : Bool) → is_some (table_of n db) ≡ there → (b : Bool) → (if there then Ok (without_table n db, nothing_done) else none_dropped db b n) ≡ Ok p → Valid p.0
    by true s b f = subst Valid (same_ok (without_table n db, nothing_done) p f) (valid_without db n valid s)
    by false s true f = subst Valid (same_ok (db, nothing_done) p f) valid
    by false s false f = absurd (cc)
