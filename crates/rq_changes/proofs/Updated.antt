-- Rows that are changed by places, and those of the statement.
use Rattle.std.proofs.Common.{◌≡◌, ◌<◌, ℕ, ℤ, pos, suc, ◌+◌, Bool, true, false, List, [], ◌∷◌, ◌++◌, length, map, get_or, take, drop, Option, Some, None, Ok, Err, refl, sym, ap, subst, ◌∙◌, append_assoc}
use Rattle.std.specs.Prelude.{if◌then◌else◌}
use Rattle.std.specs.FinMap as fin
use Rattle.std.specs.Option.{option_or, option_to_list}
use Rattle.std.proofs.lemmas.List.{drop_more, take_more, map-append}
use Rattle.rq_values.specs.declared.value.Value.{Value}
use Rattle.rq_values.specs.declared.value.Value.TheVariants.{Int}
use Rattle.rq_grammar.specs.declared.expr.Expr.{Expr}
use Rattle.rq_grammar.specs.declared.stmt.ColumnDef.{ColumnDef}
use Rattle.rq_eval.specs.declared.resolved.ResolvedExpr.{ResolvedExpr}
use Rattle.rq_eval.specs.declared.row.Scope.{Scope}
use Rattle.rq_eval.specs.declared.error.StmtError.{StmtError}
use Rattle.rq_eval.specs.declared.error.EvalError.{EvalError}
use Rattle.rq_eval.specs.declared.error.EvalError.TheVariants.{Says, NoMemory}
use Rattle.rq_eval.specs.Outcome.{Outcome, Answers, then_with, all_of}
use Rattle.rq_eval.specs.Names.{Row}
use Rattle.rq_eval.specs.Value.{value, value_in}
use Rattle.rq_eval.specs.Resolved.{resolved, evaluated, all_evaluated}
use Rattle.rq_results.specs.Table.{as_row, scope_of}
use Rattle.rq_results.specs.Checks.{Check, first, names_in}
use Rattle.rq_results.specs.Viewed.{Clears}
use Rattle.rq_select.specs.Select.{unless}
use Rattle.rq_select.specs.Parts.{rowids_where}
use Rattle.rq_meaning.specs.Database.{Table, with_row, without_row}
use Rattle.rq_meaning.specs.Rows.{has_rowid, hidden, all_columns, all_values, judged}
use Rattle.rq_meaning.specs.Checks.{place_of, places_of, named_check, set_check, set_checks, update_check}
use Rattle.rq_meaning.specs.Changes.{in_turn, all_set, assigned, changed, row_updated, rows_updated}
use Rattle.rq_meaning.specs.Statements.{done, updated}
use Rattle.rq_meaning.specs.Running.{Goes}
use Rattle.rq_changes.specs.Stepping.{place_pushed, set_names, sets_listed, rest_check, sets_resolved, assigned_by, assigned_row, moved, moved_row, updated_by, where_updated}
use Rattle.rq_changes.proofs.Steps.{check_both, then_same, then_then, unless_ok}
use Rattle.rq_changes.proofs.Named.{pushed_more}
use Rattle.rq_changes.proofs.Inserted.{Same, in_turn_same}

abbrev Set : Type 0
Set = List ℕ × Expr

abbrev FoundOnce : Type 0
FoundOnce = (rs : List Row) (s : Scope) (a : Expr) (g : Bool) (r : Row) → evaluated rs (resolved s a g) r ≡ value_in rs s a g r

-- ---- values over a row

values_are : FoundOnce → (s : Scope) (ss : List Set) (r : Row) → map (λ y. y r) (map (evaluated []) (map (λ (x : Set). resolved s x.1 false) ss)) ≡ map (λ (x : Set). value s x.1 r) ss
values_are found s [] r = refl
values_are found s (x ∷ xs) r =
    ap (λ o. o ∷ map (λ y. y r) (map (evaluated []) (map (λ (x : Set). resolved s x.1 false) xs))) (found [] s x.1 false r)
    ∙ ap (λ os. value s x.1 r ∷ os) (values_are found s xs r)

assigned_is : FoundOnce → (t u : Table) (ss : List Set) (k : ℤ) (vs : List Value) → Same t u → assigned_by u (places_of t (set_names ss)) (sets_resolved t ss) k vs ≡ assigned u ss k vs
assigned_is found t u ss k vs same =
    ap (λ os. then_with (all_of os) (λ ys. Ok (all_set (places_of t (set_names ss)) ys (all_values u.columns k vs)))) (values_are found (scope_of t) ss (as_row (k, vs)) ∙ sym (ap (λ w. map (λ (x : Set). value (scope_of w) x.1 (as_row (k, vs))) ss) same))
    ∙ ap (λ ps. then_with (all_of (map (λ (x : Set). value (scope_of u) x.1 (as_row (k, vs))) ss)) (λ ys. Ok (all_set ps ys (all_values u.columns k vs)))) (sym (ap (λ w. places_of w (set_names ss)) same))

pub resolved_more : (t : Table) (ss : List Set) (i : ℕ) (s : Set) (all new : List ResolvedExpr) (x : ResolvedExpr) → i < length ss → s ≡ get_or ss i s → new ≡ all ++ x ∷ [] → x ≡ resolved (scope_of t) s.1 false
    → all ++ sets_resolved t (drop i ss) ≡ sets_resolved t ss → new ++ sets_resolved t (drop (i + 1) ss) ≡ sets_resolved t ss
resolved_more t ss i s all new x h is pushed e so =
    ap (λ ys. ys ++ sets_resolved t (drop (i + 1) ss)) (pushed ∙ ap (λ y. all ++ y ∷ []) e)
    ∙ append_assoc all (resolved (scope_of t) s.1 false ∷ []) (sets_resolved t (drop (i + 1) ss))
    ∙ ap (λ ds. all ++ sets_resolved t ds) (sym (drop_more ss i s h ∙ ap (λ d. d ∷ drop (i + 1) ss) (sym is)))
    ∙ so

pub assigned_fails : (t : Table) (places : List ℕ) (xs : List ResolvedExpr) (k : ℤ) (o : Option (List Value)) (vs : List Value) (r : Row) (e : EvalError) → o ≡ Some vs → r ≡ as_row (k, vs) → Answers (all_evaluated [] xs r) (Err e) → Answers (assigned_row t places xs k o) (Err e)
assigned_fails t places xs k o vs r NoMemory h is a = tt
assigned_fails t places xs k o vs r (Says w) h is a =
    ap (assigned_row t places xs k) h
    ∙ ap (λ q. then_with (then_with q (λ ys. Ok (all_set places ys (all_values t.columns k vs)))) (λ ys. Ok (Some ys))) (ap (all_evaluated [] xs) (sym is) ∙ a)

pub length_assigned : (cs : List ColumnDef) (k : ℤ) (vs : List Value) → length vs ≡ length cs → length (all_values cs k vs) ≡ length (all_columns cs)
length_assigned cs k vs h = by (has_rowid cs)
  where
    by : (b : Bool) → length (if b then vs else Int k ∷ vs) ≡ length (if b then cs else hidden ∷ cs)
    by true = h
    by false = ap suc h

-- ---- rows in turn

one_updated : FoundOnce → (others : ℕ) (t u : Table) (ss : List Set) (k : ℤ) (o : Option (List Value)) → Same t u → then_with (assigned_row u (places_of t (set_names ss)) (sets_resolved t ss) k o) (moved_row others u k) ≡ changed others ss u k o
one_updated found others t u ss k None same = refl
one_updated found others t u ss k (Some vs) same =
    then_then (assigned_by u (places_of t (set_names ss)) (sets_resolved t ss) k vs) (λ ys. Ok (Some ys)) (moved_row others u k)
    ∙ ap (λ o. then_with o (moved others u k)) (assigned_is found t u ss k vs same)

moved_same : (t u : Table) (k : ℤ) (o : Outcome (ℤ × List Value)) (b : Table) → Same t u → then_with {A = ℤ × Table} (then_with o (λ p. Ok (p.0, with_row p.0 p.1 (without_row k u)))) (λ p. Ok p.1) ≡ Ok b → Same t b
moved_same t u k (Err e) b same h = absurd (cc)
moved_same t u k (Ok p) b same h =
    let is : with_row p.0 p.1 (without_row k u) ≡ b = cc in
    subst (Same t) is (ap (λ w. with_row p.0 p.1 (without_row k w)) same)

assigned_same : (others : ℕ) (t u : Table) (k : ℤ) (o : Outcome (List Value)) (b : Table) → Same t u → then_with o (moved others u k) ≡ Ok b → Same t b
assigned_same others t u k (Err e) b same h = absurd (cc)
assigned_same others t u k (Ok xs) b same h = moved_same t u k (judged others (without_row k u) (Some k) xs) b same h

changed_same : (others : ℕ) (t u : Table) (ss : List Set) (k : ℤ) (o : Option (List Value)) (b : Table) → Same t u → changed others ss u k o ≡ Ok b → Same t b
changed_same others t u ss k None b same h = let is : u ≡ b = cc in subst (Same t) is same
changed_same others t u ss k (Some vs) b same h = assigned_same others t u k (assigned u ss k vs) b same h

pub updates_in_turn : FoundOnce → (others : ℕ) (t : Table) (ss : List Set) (ks : List ℤ) → in_turn (updated_by others (places_of t (set_names ss)) (sets_resolved t ss)) ks t ≡ rows_updated others ss ks t
updates_in_turn found others t ss ks =
    in_turn_same (Same t) (updated_by others (places_of t (set_names ss)) (sets_resolved t ss)) (row_updated others ss)
    (λ u k same. one_updated found others t u ss k (fin.get u.rows k) same)
    (λ u b k same e. changed_same others t u ss k (fin.get u.rows k) b same e)
    ks t refl

pub update_fails : {A X : Type 0} (f : A → X → Outcome A) (xs : List X) (i : ℕ) (d x : X) (a new last : A) (o : Outcome A) (e : EvalError) → i < length xs → x ≡ get_or xs i d → Goes (f a x) new (Err e) → in_turn f (drop i xs) a ≡ o → Goes o last (Err e)
update_fails f xs i d x a new last o NoMemory h is g so = tt
update_fails f xs i d x a new last o (Says w) h is g so =
    sym so
    ∙ ap (λ ys. in_turn f ys a) (drop_more xs i d h)
    ∙ ap (λ q. then_with q (in_turn f (drop (i + 1) xs))) (ap (f a) (sym is) ∙ g)

-- ---- the names of SET, one after the other

pub set_at : (t : Table) (ss : List Set) (i : ℕ) (s : Set) → i < length ss → s ≡ get_or ss i s → first (set_checks t (set_names (take i ss)) (drop i ss)) ≡ option_or (set_check t (set_names (take i ss)) s) (first (set_checks t (set_names (take (i + 1) ss)) (drop (i + 1) ss)))
set_at t ss i s h is =
    ap (λ ds. first (set_checks t (set_names (take i ss)) ds)) (drop_more ss i s h ∙ ap (λ d. d ∷ drop (i + 1) ss) (sym is))
    ∙ ap (λ ns. option_or (set_check t (set_names (take i ss)) s) (first (set_checks t ns (drop (i + 1) ss)))) (sym (map-append (λ (x : Set). x.0) (take i ss) (s ∷ [])) ∙ ap set_names (ap (λ m. take i ss ++ m ∷ []) is ∙ sym (take_more ss i s h)))

failed_at : (t : Table) (ss : List Set) (places : List ℕ) (c d : Check) (w : StmtError) (o : Outcome (List ℕ)) → c ≡ Some w → unless (option_or c d) (Ok places) ≡ o → o ≡ Err w
failed_at t ss places c d w o h is = sym is ∙ ap (λ k. unless (option_or k d) (Ok places)) h

named_clear_at : (t : Table) (ss : List Set) (i : ℕ) (s : Set) (places new : List ℕ) → places ≡ places_of t (set_names (take i ss)) → place_pushed t places s.0 ≡ Ok new → named_check t (places_of t (set_names (take i ss))) s.0 (place_of t s.0) ≡ None
named_clear_at t ss i s places new at g = ap (λ ps. named_check t ps s.0 (place_of t s.0)) (sym at) ∙ (unless_ok (named_check t places s.0 (place_of t s.0)) (Ok (places ++ option_to_list (place_of t s.0))) new g).0

-- an expression with a name that is wrong
pub set_names_fail : (t : Table) (sc : Scope) (ss : List Set) (i : ℕ) (s : Set) (places new : List ℕ) (e : EvalError) → sc ≡ scope_of t → i < length ss → s ≡ get_or ss i s → places ≡ places_of t (set_names (take i ss)) → place_pushed t places s.0 ≡ Ok new → Clears (names_in sc s.1) (Err e)
    → unless (first (set_checks t (set_names (take i ss)) (drop i ss))) (Ok (places_of t (set_names ss))) ≡ sets_listed t ss → Answers (sets_listed t ss) (Err e)
set_names_fail t sc ss i s places new NoMemory over h is at g n so = tt
set_names_fail t sc ss i s places new (Says w) over h is at g n so =
    let named = named_clear_at t ss i s places new at g in
    let all : set_check t (set_names (take i ss)) s ≡ Some w = ap (λ c. option_or c (option_or (names_in (scope_of t) s.1) None)) named ∙ ap (λ c. option_or c None) (ap (λ q. names_in q s.1) (sym over) ∙ n) in
    failed_at t ss (places_of t (set_names ss)) (set_check t (set_names (take i ss)) s) (first (set_checks t (set_names (take (i + 1) ss)) (drop (i + 1) ss))) w (sets_listed t ss) all (ap (λ c. unless c (Ok (places_of t (set_names ss)))) (sym (set_at t ss i s h is)) ∙ so)

-- one assignment more
pub sets_more : (t : Table) (sc : Scope) (ss : List Set) (i : ℕ) (s : Set) (places new : List ℕ) → sc ≡ scope_of t → i < length ss → s ≡ get_or ss i s → places ≡ places_of t (set_names (take i ss)) → place_pushed t places s.0 ≡ Ok new → names_in sc s.1 ≡ None
    → first (set_checks t (set_names (take (i + 1) ss)) (drop (i + 1) ss)) ≡ first (set_checks t (set_names (take i ss)) (drop i ss))
sets_more t sc ss i s places new over h is at g n =
    let named = named_clear_at t ss i s places new at g in
    let all : set_check t (set_names (take i ss)) s ≡ None = ap (λ c. option_or c (option_or (names_in (scope_of t) s.1) None)) named ∙ ap (λ c. option_or c None) (ap (λ q. names_in q s.1) (sym over) ∙ n) in
    sym (set_at t ss i s h is ∙ ap (λ c. option_or c (first (set_checks t (set_names (take (i + 1) ss)) (drop (i + 1) ss)))) all)

pub set_places_more : (t : Table) (ss : List Set) (i : ℕ) (s : Set) (places new : List ℕ) → i < length ss → s ≡ get_or ss i s → places ≡ places_of t (set_names (take i ss)) → place_pushed t places s.0 ≡ Ok new → new ≡ places_of t (set_names (take (i + 1) ss))
set_places_more t ss i s places new h is at g =
    pushed_more t (set_names (take i ss)) s.0 places new at g
    ∙ ap (places_of t) (sym (map-append (λ (x : Set). x.0) (take i ss) (s ∷ [])) ∙ ap set_names (ap (λ m. take i ss ++ m ∷ []) is ∙ sym (take_more ss i s h)))

-- ---- the whole

listed_parts : (t : Table) (ss : List Set) (places : List ℕ) → sets_listed t ss ≡ Ok places → (first (set_checks t [] ss) ≡ None) × (places_of t (set_names ss) ≡ places)
listed_parts t ss places h = let p = unless_ok (first (set_checks t [] ss)) (Ok (places_of t (set_names ss))) places h in (p.0, same p.1)
  where
    same : ◌≡◌ {A = Outcome (List ℕ)} (Ok (places_of t (set_names ss))) (Ok places) → places_of t (set_names ss) ≡ places
    same q = cc

pub updated_is : FoundOnce → (others : ℕ) (t : Table) (ss : List Set) (f : Option Expr) (places : List ℕ) (xs : List ResolvedExpr) → sets_listed t ss ≡ Ok places → rest_check t ss f ≡ None → xs ≡ sets_resolved t ss → updated ss f others t ≡ where_updated others places xs f t
updated_is found others t ss f places xs h r is =
    let p = listed_parts t ss places h in
    let check : update_check t ss f ≡ None = check_both (first (set_checks t [] ss)) (rest_check t ss f) p.0 r in
    ap (λ c. unless c (then_with (rowids_where t f) (λ ks. then_with (rows_updated others ss ks t) (λ u. Ok (u, done (pos 0) (length ks)))))) check
    ∙ then_same (λ ks. then_with (rows_updated others ss ks t) (λ u. Ok (u, done (pos 0) (length ks)))) (λ ks. then_with (in_turn (updated_by others places xs) ks t) (λ u. Ok (u, done (pos 0) (length ks)))) (rowids_where t f) (λ ks e. ap (λ o. then_with o (λ u. Ok (u, done (pos 0) (length ks)))) (in_order ks p.1))
  where
    in_order : (ks : List ℤ) → places_of t (set_names ss) ≡ places → rows_updated others ss ks t ≡ in_turn (updated_by others places xs) ks t
    in_order ks q =
        sym (updates_in_turn found others t ss ks)
        ∙ ap (λ ps. in_turn (updated_by others ps (sets_resolved t ss)) ks t) q
        ∙ ap (λ ys. in_turn (updated_by others places ys) ks t) (sym is)
