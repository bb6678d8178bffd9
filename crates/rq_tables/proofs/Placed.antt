-- What changes of entries make of the tables that they hold.
use Rattle.std.proofs.Common.{◌≡◌, ℕ, ◌+◌, ◌-◌, ◌≤◌, Bool, true, false, cond, List, [], ◌∷◌, ◌++◌, map, get_or, Option, Some, None, Result, Ok, Err, refl, sym, ap, subst, ◌∙◌, arith}
use Rattle.std.specs.Prelude.{slice_set, ◌||◌, OnOk, OnErr}
use Rattle.std.specs.List.{filter, remove, cons_option}
use Rattle.std.proofs.lemmas.List.{get_or_default}
use Rattle.std.specs.Option.{is_some}
use Rattle.std.specs.FinMap as fin
use Rattle.rq_values.specs.declared.memory.NoMemory.{NoMemory}
use Rattle.rq_eval.specs.declared.error.EvalError.{EvalError}
use Rattle.rq_eval.specs.declared.error.EvalError.TheVariants.{Says}
use Rattle.rq_eval.specs.declared.error.EvalError.TheVariants as eval
use Rattle.rq_eval.specs.declared.error.StmtError.TheVariants as error
use Rattle.rq_eval.specs.Outcome.{Outcome, then_with}
use Rattle.rq_meaning.specs.declared.done.Done.{Done}
use Rattle.rq_meaning.specs.Database.{Table, Database, lower, table_of, with_table, without_table, table_size, tables_size, size_limit}
use Rattle.rq_meaning.specs.Rows.{needed}
use Rattle.rq_grammar.specs.declared.stmt.SelectStmt.{SelectStmt}
use Rattle.rq_results.specs.Results.{source_of}
use Rattle.rq_results.specs.Viewed.{IsSaid}
use Rattle.rq_grammar.specs.declared.expr.Expr.{Expr}
use Rattle.rq_grammar.specs.declared.stmt.InsertRows.{InsertRows}
use Rattle.rq_grammar.specs.declared.stmt.InsertRows.TheVariants as rows
use Rattle.rq_meaning.specs.Statements.{on_table, others_size, from_table, from_source, inserted, values_inserted, select_inserted}
use Rattle.rq_changes.specs.Staged.{StagedTable, now_of}
use Rattle.rq_changes.specs.declared.inserting.Results.{Results}
use Rattle.rq_changes.specs.Making.{Makes, Prepares, IsWithin, results_inserted}
use Rattle.rq_tables.specs.declared.entry.Entry.{Entry}
use Rattle.rq_tables.specs.Entries.{Named, at_start, at_before, at_now, listed, sized, named_db, start_db, before_db, now_db, IsState, Sound, Rest, IsPlace, IsThere, is_used, fresh, begun, taken_back, all_taken_back, kept}
use Rattle.rq_tables.specs.Running.{Leaves}
use Rattle.rq_tables.proofs.Names.{get_listed, size_is}
use Rattle.rq_tables.proofs.Places.{IsChange, with, gone, same_state, listed_map, table_there, without_there, size_there, set_rest, set_now, set_sound, gone_rest, gone_now, gone_sound, push_rest, push_now, push_sound}

no_rest : (es : List Entry) → Rest es es
no_rest es = record { start = refl; before = refl }

-- ---- a table more

pub record Pushed (old ws : List Entry) (t : StagedTable) (r : Result (Unit {0}) NoMemory) : Type 0 where
  pub sound : Sound ws
  pub ok : OnOk r (now_db ws ≡ with_table t.name (now_of t) (now_db old))
  pub rest : Rest old ws

pushed_on : (es ws : List Entry) (t : StagedTable) (r : Result (Unit {0}) NoMemory) → OnOk r (ws ≡ es ++ fresh t ∷ []) → OnErr r (ws ≡ es) → Sound es
    → table_of t.name (now_db es) ≡ None → tables_size (now_db es) + table_size (now_of t) ≤ size_limit → Pushed es ws t r
pushed_on es ws t (Ok u) a b s n w = record { sound = subst Sound (sym a) (push_sound es t s n w); ok = ap now_db a ∙ push_now es t n; rest = subst (Rest es) (sym a) (push_rest es t) }
pushed_on es ws t (Err m) a b s n w = record { sound = subst Sound (sym b) s; ok = tt; rest = subst (Rest es) (sym b) (no_rest es) }

pub pushed : (es old ws : List Entry) (t : StagedTable) (r : Result (Unit {0}) NoMemory) → es ≡ old → OnOk r (ws ≡ es ++ fresh t ∷ []) → OnErr r (ws ≡ es) → Sound es
    → table_of t.name (now_db old) ≡ None → tables_size (now_db old) + table_size (now_of t) ≤ size_limit → Pushed old ws t r
pushed es old ws t r e a b s n w = subst (λ x. Pushed x ws t r) e (pushed_on es ws t r a b s
    (subst (λ x. table_of t.name (now_db x) ≡ None) (sym e) n)
    (subst (λ x. tables_size (now_db x) + table_size (now_of t) ≤ size_limit) (sym e) w))

-- ---- the table at a place

here : (es : List Entry) (i : ℕ) (e : Entry) → e ≡ get_or es i e → IsThere es i → e.now ≡ true
here es i e at t = ap (λ (x : Entry). x.now) at ∙ t.1 e

name_here : (es : List Entry) (n : List ℕ) (i : ℕ) (e : Entry) → e ≡ get_or es i e → IsPlace es n (Some i) → lower e.table.name ≡ lower n
name_here es n i e at p = ap (λ (x : Entry). lower x.table.name) at ∙ p.1 e

pub table_at_place : (es : List Entry) (n : List ℕ) (i : ℕ) (e : Entry) → e ≡ get_or es i e → IsPlace es n (Some i) → Sound es → table_of n (now_db es) ≡ Some (now_of e.table)
table_at_place es n i e at p s = ap (fin.get (now_db es)) (sym (name_here es n i e at p)) ∙ table_there es i e p.0.0 at (here es i e at p.0) s

pub others_at_place : (es : List Entry) (n : List ℕ) (i : ℕ) (e : Entry) → e ≡ get_or es i e → IsPlace es n (Some i) → Sound es → tables_size (now_db (remove es i)) ≡ others_size n (now_db es)
others_at_place es n i e at p s = ap tables_size (without_there es i e p.0.0 at (here es i e at p.0) s ∙ ap (fin.remove (now_db es)) (name_here es n i e at p))

pub size_at_place : (es : List Entry) (i : ℕ) (e : Entry) → e ≡ get_or es i e → IsThere es i → Sound es → tables_size (now_db es) ≡ tables_size (now_db (remove es i)) + table_size (now_of e.table)
size_at_place es i e at t s = size_there es i e t.0 at (here es i e at t) s

pub within_at_place : (es : List Entry) (i : ℕ) (e d : Entry) → e ≡ get_or es i e → IsThere es i → Sound es → IsWithin (tables_size (now_db (remove es i))) (now_of (get_or es i d).table)
within_at_place es i e d at t s =
    let same = get_or_default es i d e t.0 in
    subst (λ (x : Entry). IsWithin (tables_size (now_db (remove es i))) (now_of x.table)) (at ∙ sym same) enough
  where
    enough : tables_size (now_db (remove es i)) + table_size (now_of e.table) ≤ size_limit
    enough = let a = size_at_place es i e at t s in let b = s.now.within in omega (arith, a, b)

-- ---- a table changes

pub record Changed (old ws : List Entry) (i : ℕ) (e : Entry) (w : StagedTable) : Type 0 where
  pub sound : Sound ws
  pub rest : Rest old ws
  pub table : (n : List ℕ) → IsPlace old n (Some i) → table_of n (now_db old) ≡ Some (now_of e.table)
  pub now : (n : List ℕ) → IsPlace old n (Some i) → now_db ws ≡ with_table n (now_of w) (now_db old)

pub changed : (es old : List Entry) (i : ℕ) (e : Entry) (w : StagedTable) → es ≡ old → e ≡ get_or es i e → IsThere old i → IsChange e.table w → Sound es → IsWithin (tables_size (now_db (remove old i))) (now_of w)
    → Changed old (slice_set es i (with e w)) i e w
changed es old i e w same at t c s within = subst (λ x. Changed x (slice_set es i (with e w)) i e w) same (record {
  sound = set_sound es i e w t'.0 at (here es i e at t') c s (subst (λ x. IsWithin (tables_size (now_db (remove x i))) (now_of w)) (sym same) within);
  rest = set_rest es i e w t'.0 at c;
  table = λ n p. table_at_place es n i e at p s;
  now = λ n p. set_now es i e w t'.0 at (here es i e at t') c s ∙ ap (λ k. fin.insert (now_db es) k (now_of w)) (name_here es n i e at p);
})
  where
    t' : IsThere es i
    t' = subst (λ x. IsThere x i) (sym same) t

pub leaves_by : (db new : Database) (n : List ℕ) (t w : Table) (change : ℕ → Table → Outcome (Table × Done)) (others : ℕ) (r : Result Done EvalError)
    → table_of n db ≡ Some t → others ≡ others_size n db → new ≡ with_table n w db → Makes (change others t) w r → Leaves (on_table db n change) new r
leaves_by db new n t w change others r found is now m = subst (λ o. Leaves o new r) (sym whole) (by r m)
  where
    behind : Outcome (Table × Done) → Outcome (Database × Done)
    behind o = then_with o (λ p. Ok (with_table n p.0 db, p.1))

    whole : on_table db n change ≡ behind (change others t)
    whole = ap (λ o. then_with (needed (error.NoTable n) o) (λ u. behind (change (others_size n db) u))) found ∙ ap (λ k. behind (change k t)) (sym is)

    by : (r : Result Done EvalError) → Makes (change others t) w r → Leaves (behind (change others t)) new r
    by (Ok x) m = ap behind m ∙ ap (λ d. Ok (d, x)) (sym now)
    by (Err (Says e)) m = ap behind m
    by (Err eval.NoMemory) m = tt

-- ---- a table goes

pub record Gone (old ws : List Entry) (i : ℕ) : Type 0 where
  pub sound : Sound ws
  pub rest : Rest old ws
  pub gone : (n : List ℕ) → IsPlace old n (Some i) → now_db ws ≡ without_table n (now_db old)

pub is_gone : (es old : List Entry) (i : ℕ) (e : Entry) → es ≡ old → e ≡ get_or es i e → IsThere old i → Sound es → Gone old (slice_set es i (gone e)) i
is_gone es old i e same at t s = subst (λ x. Gone x (slice_set es i (gone e)) i) same (record {
  sound = gone_sound es i e t'.0 at (here es i e at t') s;
  rest = gone_rest es i e t'.0 at;
  gone = λ n p. gone_now es i e t'.0 at (here es i e at t') s ∙ ap (fin.remove (now_db es)) (name_here es n i e at p);
})
  where
    t' : IsThere es i
    t' = subst (λ x. IsThere x i) (sym same) t

-- ---- all entries

-- the states are now those of other entries
sound_by : (es ws : List Entry) (f g h : Entry → Option Named) → listed at_start ws ≡ listed f es → listed at_before ws ≡ listed g es → listed at_now ws ≡ listed h es
    → IsState f es → IsState g es → IsState h es → Sound ws
sound_by es ws f g h a b c x y z = record { start = same_state f at_start es ws a x; before = same_state g at_before es ws b y; now = same_state h at_now es ws c z }

pub record Begun (old ws : List Entry) : Type 0 where
  pub sound : Sound ws
  pub start : start_db ws ≡ start_db old
  pub before : before_db ws ≡ now_db old
  pub now : now_db ws ≡ now_db old

pub is_begun : (es old ws : List Entry) → es ≡ old → ws ≡ map begun es → Sound es → Begun old ws
is_begun es old ws same e s = subst (λ x. Begun x ws) same (subst (Begun es) (sym e) (record {
  sound = sound_by es (map begun es) at_start at_now at_now a b c s.start s.now s.now;
  start = ap named_db a;
  before = ap named_db b;
  now = ap named_db c;
}))
  where
    a : listed at_start (map begun es) ≡ listed at_start es
    a = listed_map at_start at_start begun (λ e. refl) es

    b : listed at_before (map begun es) ≡ listed at_now es
    b = listed_map at_before at_now begun (λ e. refl) es

    c : listed at_now (map begun es) ≡ listed at_now es
    c = listed_map at_now at_now begun (λ e. refl) es

pub record Back (old ws : List Entry) : Type 0 where
  pub sound : Sound ws
  pub start : start_db ws ≡ start_db old
  pub now : now_db ws ≡ before_db old

pub is_back : (es old ws : List Entry) → es ≡ old → ws ≡ map taken_back es → Sound es → Back old ws
is_back es old ws same e s = subst (λ x. Back x ws) same (subst (Back es) (sym e) (record {
  sound = sound_by es (map taken_back es) at_start at_before at_before a b c s.start s.before s.before;
  start = ap named_db a;
  now = ap named_db c;
}))
  where
    a : listed at_start (map taken_back es) ≡ listed at_start es
    a = listed_map at_start at_start taken_back (λ e. refl) es

    b : listed at_before (map taken_back es) ≡ listed at_before es
    b = listed_map at_before at_before taken_back (λ e. refl) es

    c : listed at_now (map taken_back es) ≡ listed at_before es
    c = listed_map at_now at_before taken_back (λ e. refl) es

-- entries that are not used are listed in no state
used : (f : Entry → Option Named) (h : Entry → Entry) → ((e : Entry) → is_used (h e) ≡ false → f (h e) ≡ None) → (es : List Entry) → listed f (filter is_used (map h es)) ≡ listed f (map h es)
used f h none [] = refl
used f h none (e ∷ es) = by (is_used (h e)) refl (used f h none es)
  where
    by : (b : Bool) → is_used (h e) ≡ b → listed f (filter is_used (map h es)) ≡ listed f (map h es) → listed f (cond b (h e ∷ filter is_used (map h es)) (filter is_used (map h es))) ≡ listed f (h e ∷ map h es)
    by true t ih = ap (cons_option (f (h e))) ih
    by false t ih = ih ∙ sym (ap (λ o. cons_option o (listed f (map h es))) (none e t))

first_of : (b c : Bool) → (b || c) ≡ false → b ≡ false
first_of true c e = e
first_of false c e = refl

second_of : (b c : Bool) → (b || c) ≡ false → c ≡ false
second_of true c e = absurd (cc)
second_of false c e = e

pub record Settled (g : Entry → Option Named) (old ws : List Entry) : Type 0 where
  pub sound : Sound ws
  pub start : start_db ws ≡ named_db (listed g old)
  pub now : now_db ws ≡ named_db (listed g old)

settled_by : (g : Entry → Option Named) (h : Entry → Entry) → ((e : Entry) → at_start (h e) ≡ g e) → ((e : Entry) → at_before (h e) ≡ g e) → ((e : Entry) → at_now (h e) ≡ g e)
    → ((e : Entry) → is_used (h e) ≡ false → g e ≡ None) → (es old us ws : List Entry) → es ≡ old → us ≡ map h es → ws ≡ filter is_used us → IsState g es → Settled g old ws
settled_by g h a b c none es old us ws same e f s = subst (λ x. Settled g x ws) same (subst (Settled g es) (sym (f ∙ ap (filter is_used) e)) (record {
  sound = sound_by es (filter is_used (map h es)) g g g (each at_start a) (each at_before b) (each at_now c) s s s;
  start = ap named_db (each at_start a);
  now = ap named_db (each at_now c);
}))
  where
    each : (k : Entry → Option Named) → ((e : Entry) → k (h e) ≡ g e) → listed k (filter is_used (map h es)) ≡ listed g es
    each k is = used k h (λ e u. is e ∙ none e u) es ∙ listed_map k g h is es

pub is_kept : (es old us ws : List Entry) → es ≡ old → us ≡ map kept es → ws ≡ filter is_used us → Sound es → Settled at_now old ws
is_kept es old us ws same e f s = settled_by at_now kept (λ e. refl) (λ e. refl) (λ e. refl)
    (λ e u. ap (λ b. at_now (record e { now = b })) (second_of e.now e.now u)) es old us ws same e f s.now

pub is_all_back : (es old us ws : List Entry) → es ≡ old → us ≡ map all_taken_back es → ws ≡ filter is_used us → Sound es → Settled at_start old ws
is_all_back es old us ws same e f s = settled_by at_start all_taken_back (λ e. refl) (λ e. refl) (λ e. refl)
    (λ e u. ap (λ b. at_start (record e { start = b })) (first_of e.start e.start u)) es old us ws same e f s.start

-- ---- sizes

pub none_sound : Sound []
none_sound = record { start = none_state at_start; before = none_state at_before; now = none_state at_now }
  where
    none_state : (f : Entry → Option Named) → IsState f []
    none_state f = record { apart = tt; within = let a = size_is [] tt in omega (arith, a) }

pub size_sound : (es : List Entry) → Sound es → tables_size (now_db es) ≡ 4 + sized (listed at_now es)
size_sound es s = size_is (listed at_now es) s.now.apart

pub size_within : (es : List Entry) → Sound es → 4 + sized (listed at_now es) ≤ size_limit
size_within es s = let a = size_sound es s in let b = s.now.within in omega (arith, a, b)

-- what the other tables take
pub record Others (es : List Entry) (i k : ℕ) : Type 0 where
  pub size : k ≡ tables_size (now_db (remove es i))
  pub others : (n : List ℕ) → IsPlace es n (Some i) → k ≡ others_size n (now_db es)
  pub within : (d : Entry) → IsWithin k (now_of (get_or es i d).table)

others_on : (es : List Entry) (i : ℕ) (e : Entry) → e ≡ get_or es i e → IsThere es i → Sound es → (total own : ℕ) → total ≡ tables_size (now_db es) → own ≡ table_size (now_of e.table) → Others es i (total - own)
others_on es i e at t s total own a b = record {
  size = left;
  others = λ n p. left ∙ others_at_place es n i e at p s;
  within = λ d. subst (λ k. IsWithin k (now_of (get_or es i d).table)) (sym left) (within_at_place es i e d at t s);
}
  where
    left : total - own ≡ tables_size (now_db (remove es i))
    left = let z = size_at_place es i e at t s in omega (arith, z, a, b)

pub others_are : (es old : List Entry) (i : ℕ) (e : Entry) → es ≡ old → e ≡ get_or es i e → IsThere old i → Sound es → (total own : ℕ) → total ≡ tables_size (now_db old) → own ≡ table_size (now_of e.table) → Others old i (total - own)
others_are es old i e same at t s total own a b = subst (λ x. Others x i (total - own)) same (others_on es i e at (subst (λ x. IsThere x i) (sym same) t) s total own (a ∙ ap (λ x. tables_size (now_db x)) (sym same)) b)

pub own_less : (es old : List Entry) (i : ℕ) (e : Entry) → es ≡ old → e ≡ get_or es i e → IsThere old i → Sound es → (total own : ℕ) → total ≡ tables_size (now_db old) → own ≡ table_size (now_of e.table) → own ≤ total
own_less es old i e same at t s total own a b =
    let z = size_at_place es i e at (subst (λ x. IsThere x i) (sym same) t) s in
    let y = a ∙ ap (λ x. tables_size (now_db x)) (sym same) in
    omega (arith, z, y, b)

pub found : (es old : List Entry) (n : List ℕ) (i : ℕ) (e : Entry) → es ≡ old → e ≡ get_or es i e → Sound es → IsPlace old n (Some i) → table_of n (now_db old) ≡ Some (now_of e.table)
found es old n i e same at s p = ap (λ x. table_of n (now_db x)) (sym same) ∙ table_at_place es n i e at (subst (λ x. IsPlace x n (Some i)) (sym same) p) s

pub not_found : (es : List Entry) (n : List ℕ) → IsPlace es n None → table_of n (now_db es) ≡ None
not_found es n h = get_listed (listed at_now es) (lower n) ∙ h

pub within_read : (es old : List Entry) (i : ℕ) (e : Entry) (k : ℕ) → es ≡ old → e ≡ get_or es i e → IsThere old i → ((d : Entry) → IsWithin k (now_of (get_or old i d).table)) → IsWithin k (now_of e.table)
within_read es old i e k same at t h = subst (λ (x : Entry). IsWithin k (now_of x.table)) (ap (λ xs. get_or xs i e) (sym same) ∙ sym at) (h e)

-- a table that is smaller is within the limit, together with the others
pub smaller_within : (es old : List Entry) (i : ℕ) (e : Entry) (w : StagedTable) → es ≡ old → e ≡ get_or es i e → IsThere old i → Sound es → table_size (now_of w) ≤ table_size (now_of e.table) → IsWithin (tables_size (now_db (remove old i))) (now_of w)
smaller_within es old i e w same at t s less = subst (λ x. IsWithin (tables_size (now_db (remove x i))) (now_of w)) same enough
  where
    t' : IsThere es i
    t' = subst (λ x. IsThere x i) (sym same) t

    enough : tables_size (now_db (remove es i)) + table_size (now_of w) ≤ size_limit
    enough = let a = size_at_place es i e at t' s in let b = s.now.within in omega (arith, a, b, less)

pub place_found : (es : List Entry) (n : List ℕ) (o : Option ℕ) → IsPlace es n o → Sound es → is_some o ≡ is_some (table_of n (now_db es))
place_found es n None h s = ap is_some (sym (not_found es n h))
place_found [] n (Some i) h s = absurd (omega (arith, h.0.0))
place_found (x ∷ xs) n (Some i) h s =
    let e = get_or (x ∷ xs) i x in
    ap is_some (sym (table_at_place (x ∷ xs) n i e (get_or_default (x ∷ xs) i x e h.0.0) h s))

-- ---- errors

pub fails_by : (db new : Database) (n : List ℕ) (t : Table) (change : ℕ → Table → Outcome (Table × Done)) (others : ℕ) (e : EvalError)
    → table_of n db ≡ Some t → others ≡ others_size n db → Makes (change others t) t (Err e) → Leaves (on_table db n change) new (Err e)
fails_by db new n t change others e found is m = subst (λ o. Leaves o new (Err e)) (sym whole) (by e m)
  where
    behind : Outcome (Table × Done) → Outcome (Database × Done)
    behind o = then_with o (λ p. Ok (with_table n p.0 db, p.1))

    whole : on_table db n change ≡ behind (change others t)
    whole = ap (λ o. then_with (needed (error.NoTable n) o) (λ u. behind (change (others_size n db) u))) found ∙ ap (λ k. behind (change k t)) (sym is)

    by : (e : EvalError) → Makes (change others t) t (Err e) → Leaves (behind (change others t)) new (Err e)
    by (Says e) m = ap behind m
    by eval.NoMemory m = tt

pub no_table_leaves : (db new : Database) (n : List ℕ) (change : ℕ → Table → Outcome (Table × Done)) (e : EvalError)
    → table_of n db ≡ None → IsSaid (error.NoTable n) e → Leaves (on_table db n change) new (Err e)
no_table_leaves db new n change (Says e) none said = ap (λ o. then_with (needed (error.NoTable n) o) (λ t. then_with (change (others_size n db) t) (λ p. Ok (with_table n p.0 db, p.1)))) none ∙ ap Err (sym said)
no_table_leaves db new n change eval.NoMemory none said = tt

-- ---- INSERT of a select

pub selected_makes : (db : Database) (ns : Option (List (List ℕ))) (q : SelectStmt) (others : ℕ) (t w : Table) (source : Option Table) (r : Results) (result : Result Done EvalError)
    → source ≡ from_table db q → Prepares (results_inserted others t) (then_with (source_of q.table source) (from_source ns q others t)) (Ok r) → Makes (results_inserted others t r) w result
    → Makes (select_inserted db ns q others t) w result
selected_makes db ns q others t w source r result f p m = subst (λ o. Makes o w result) (sym (ap (λ s. then_with (source_of q.table s) (from_source ns q others t)) (sym f) ∙ p)) m

pub selected_fails : (db : Database) (ns : Option (List (List ℕ))) (q : SelectStmt) (others : ℕ) (t : Table) (source : Option Table) (e : EvalError)
    → source ≡ from_table db q → Prepares (results_inserted others t) (then_with (source_of q.table source) (from_source ns q others t)) (Err e)
    → Makes (select_inserted db ns q others t) t (Err e)
selected_fails db ns q others t source (Says e) f p = ap (λ s. then_with (source_of q.table s) (from_source ns q others t)) (sym f) ∙ p
selected_fails db ns q others t source eval.NoMemory f p = tt

pub read_at : (es old : List Entry) (i : ℕ) (e d : Entry) → es ≡ old → e ≡ get_or es i e → IsThere old i → e ≡ get_or old i d
read_at es old i e d same at t = at ∙ ap (λ xs. get_or xs i e) same ∙ get_or_default old i e d t.0

-- ---- INSERT of either kind

pub values_leave : (db new : Database) (n : List ℕ) (ns : Option (List (List ℕ))) (rs : InsertRows) (xs ys : List (List Expr)) (r : Result Done EvalError)
    → rs ≡ rows.Values xs → ys ≡ xs → Leaves (on_table db n (values_inserted ns ys)) new r → Leaves (on_table db n (inserted db ns rs)) new r
values_leave db new n ns rs xs ys r is same h = subst (λ q. Leaves (on_table db n (inserted db ns q)) new r) (sym is) (subst (λ zs. Leaves (on_table db n (values_inserted ns zs)) new r) same h)

pub select_leaves : (db new : Database) (n : List ℕ) (ns : Option (List (List ℕ))) (rs : InsertRows) (q : SelectStmt) (r : Result Done EvalError)
    → rs ≡ rows.Select q → Leaves (on_table db n (select_inserted db ns q)) new r → Leaves (on_table db n (inserted db ns rs)) new r
select_leaves db new n ns rs q r is h = subst (λ s. Leaves (on_table db n (inserted db ns s)) new r) (sym is) h
