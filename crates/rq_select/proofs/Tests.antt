-- Conditions part by part: which fail on no row, and what they want.
use Rattle.std.proofs.Common.{◌≡◌, ℕ, ℤ, ◌+◌, ◌<◌, Bool, true, false, List, [], ◌∷◌, ◌++◌, map, length, drop, get_or, add-one, drop-cons, Option, Some, None, Ok, Err, refl, sym, ap, subst, ◌∙◌}
use Rattle.std.specs.Prelude.{not}
use Rattle.std.specs.declared.cmp.Ordering.{Ordering}
use Rattle.std.specs.declared.cmp.Ordering.TheVariants.{Less, Equal, Greater}
use Rattle.std.specs.Ordering.{is_eq, is_ne, is_lt, is_le, is_gt, is_ge, int_cmp, nat_cmp}
use Rattle.std.specs.Cmp.Lexicographic.{slice_cmp}
use Rattle.std.specs.FinMap.{int_cmp-IsAntisymmetric, nat_cmp-IsAntisymmetric, slice_cmp-IsAntisymmetric}
use Rattle.rq_values.specs.Order.{value_cmp}
use Rattle.rq_values.specs.declared.value.Value.{Value}
use Rattle.rq_values.specs.declared.value.Value.TheVariants as v
use Rattle.rq_grammar.specs.declared.expr.BinaryOp.{BinaryOp}
use Rattle.rq_grammar.specs.declared.expr.BinaryOp.TheVariants as op
use Rattle.rq_operators.specs.declared.operators.UnaryOp.{UnaryOp}
use Rattle.rq_operators.specs.declared.operators.UnaryOp.TheVariants as u
use Rattle.rq_eval.specs.declared.resolved.ResolvedExpr.{ResolvedExpr}
use Rattle.rq_eval.specs.declared.resolved.ResolvedExpr.TheVariants as x
use Rattle.rq_eval.specs.declared.resolved.ResolvedExpr.TheOpen.{ResolvedExpr-F}
use Rattle.rq_eval.specs.declared.resolved.ResolvedExpr.TheViews.{roll-ResolvedExpr}
use Rattle.rq_eval.specs.declared.resolved.ResolvedExpr.TheFolds.{fold-roll-ResolvedExpr}
use Rattle.rq_operators.specs.Outcome as operators
use Rattle.rq_eval.specs.Outcome.{Outcome, then_with, all_of, all_behind, stated}
use Rattle.rq_operators.specs.Operators as o
use Rattle.rq_operators.specs.Operators.{truth, condition, or3, not3, and3, unless_null}
use Rattle.rq_operators.specs.Functions.{unary, binary}
use Rattle.rq_eval.specs.Names.{Row, value_at}
use Rattle.rq_eval.specs.Resolved.{evaluated, evaluated_step}
use Rattle.rq_eval.specs.Value.{Gives, on_one, on_two, in_values, between_values}
use Rattle.rq_select.specs.Select.{filtered, is_true, judged}
use Rattle.rq_select.specs.Planned.{passes}
use Rattle.rq_results.specs.Table.{Table, as_row, row_at}
use Rattle.rq_select.specs.Finding.{Finds}
use Rattle.rq_select.specs.declared.table.Lookup.{Lookup}
use Rattle.rq_select.specs.declared.table.Lookup.TheVariants as lookup
use Rattle.rq_select.specs.Keys.{IsPlain, IsTest, AlwaysPlain, AlwaysTest, AllPlain, is_comparison, is_junction, IsMet, EqualWants, Fine, MetByNone, MetByOnly, Tells, or_none, Left}
use Rattle.rq_select.proofs.Picking.{looked_up, none_found}

-- ---- the equations of the fold

ev_literal : (y : Value) → evaluated [] (x.Literal y) ≡ (λ r. Ok y)
unfolding roll-ResolvedExpr denote.Hole.Carrier.roll
ev_literal y = fold-roll-ResolvedExpr Gives (evaluated_step []) (ResolvedExpr-F.Literal y)

ev_column : (i : ℕ) → evaluated [] (x.Column i) ≡ (λ r. Ok (value_at r i))
unfolding roll-ResolvedExpr denote.Hole.Carrier.roll
ev_column i = fold-roll-ResolvedExpr Gives (evaluated_step []) (ResolvedExpr-F.Column i)

ev_unary : (h : UnaryOp) (y : ResolvedExpr) → evaluated [] (x.Unary h y) ≡ on_one h (evaluated [] y)
unfolding roll-ResolvedExpr denote.Hole.Carrier.roll
ev_unary h y = fold-roll-ResolvedExpr Gives (evaluated_step []) (ResolvedExpr-F.Unary h y)

ev_binary : (h : BinaryOp) (y z : ResolvedExpr) → evaluated [] (x.Binary h y z) ≡ on_two h (evaluated [] y) (evaluated [] z)
unfolding roll-ResolvedExpr denote.Hole.Carrier.roll
ev_binary h y z = fold-roll-ResolvedExpr Gives (evaluated_step []) (ResolvedExpr-F.Binary h y z)

ev_in_list : (y : ResolvedExpr) (ys : List ResolvedExpr) → evaluated [] (x.InList y ys) ≡ in_values (evaluated [] y) (map (evaluated []) ys)
unfolding roll-ResolvedExpr denote.Hole.Carrier.roll
ev_in_list y ys = fold-roll-ResolvedExpr Gives (evaluated_step []) (ResolvedExpr-F.InList y ys)

ev_between : (y z w : ResolvedExpr) → evaluated [] (x.Between y z w) ≡ between_values (evaluated [] y) (evaluated [] z) (evaluated [] w)
unfolding roll-ResolvedExpr denote.Hole.Carrier.roll
ev_between y z w = fold-roll-ResolvedExpr Gives (evaluated_step []) (ResolvedExpr-F.Between y z w)

-- ---- plain

literal_ok : (y : Value) (r : Row) → evaluated [] (x.Literal y) r ≡ Ok y
literal_ok y r = ap (λ (f : Gives). f r) (ev_literal y)

column_ok : (i : ℕ) (r : Row) → evaluated [] (x.Column i) r ≡ Ok (value_at r i)
column_ok i r = ap (λ (f : Gives). f r) (ev_column i)

pub plain_literal : (y : Value) → AlwaysPlain (x.Literal y)
plain_literal y r = (y, literal_ok y r)

pub plain_column : (i : ℕ) → AlwaysPlain (x.Column i)
plain_column i r = (value_at r i, column_ok i r)

pub plain_next : (es : List ResolvedExpr) (i : ℕ) (e : ResolvedExpr) → i < length es → e ≡ get_or es i e → AlwaysPlain e → AllPlain (drop (i + 1) es) → AllPlain (drop i es)
plain_next es i e lt is p h = subst AllPlain (sym (drop-cons es i e lt)) (subst AlwaysPlain is p, subst (λ n. AllPlain (drop n es)) (add-one i) h)

pub plain_list : (es : List ResolvedExpr) → AllPlain es → (r : Row) (there : List Value) → (vs : List Value) × (all_behind there (map (λ (g : Gives). g r) (map (evaluated []) es)) ≡ Ok vs)
plain_list [] h r there = (there, refl)
plain_list (e ∷ es) h r there =
    let p = h.0 r in
    let q = plain_list es h.1 r (there ++ p.0 ∷ []) in
    (q.0, ap (λ o. then_with o (λ w. all_behind (there ++ w ∷ []) (map (λ (g : Gives). g r) (map (evaluated []) es)))) p.1 ∙ q.1)

-- ---- tests

compares_values : (h : BinaryOp) → is_comparison h ≡ true → (a b : Value) → IsTest (stated (binary h a b))
compares_values op.Or t a b = absurd (cc)
compares_values op.And t a b = absurd (cc)
compares_values op.Equal t a b = (unless_null a b (is_eq (value_cmp a b)), refl)
compares_values op.NotEqual t a b = (unless_null a b (is_ne (value_cmp a b)), refl)
compares_values op.Is t a b = (Some (o.is_same a b), refl)
compares_values op.IsNot t a b = (Some (not (o.is_same a b)), refl)
compares_values op.Like t a b = absurd (cc)
compares_values op.NotLike t a b = absurd (cc)
compares_values op.Less t a b = (unless_null a b (is_lt (value_cmp a b)), refl)
compares_values op.LessEqual t a b = (unless_null a b (is_le (value_cmp a b)), refl)
compares_values op.Greater t a b = (unless_null a b (is_gt (value_cmp a b)), refl)
compares_values op.GreaterEqual t a b = (unless_null a b (is_ge (value_cmp a b)), refl)
compares_values op.Add t a b = absurd (cc)
compares_values op.Sub t a b = absurd (cc)
compares_values op.Mul t a b = absurd (cc)
compares_values op.Div t a b = absurd (cc)
compares_values op.Rem t a b = absurd (cc)
compares_values op.Concat t a b = absurd (cc)

pub condition_truth : (b : Option Bool) → condition (truth b) ≡ Ok b
condition_truth None = refl
condition_truth (Some true) = refl
condition_truth (Some false) = refl

logical_truths : (f : Option Bool → Option Bool → Option Bool) (a b : Option Bool) → IsTest (stated (o.logical f (truth a) (truth b)))
logical_truths f a b = (f a b, ap (λ z. stated (operators.then_with z (λ p. operators.then_with (condition (truth b)) (λ q. Ok (truth (f p q)))))) (condition_truth a) ∙ ap (λ z. stated (operators.then_with z (λ q. Ok (truth (f a q))))) (condition_truth b))

joins_values : (h : BinaryOp) → is_junction h ≡ true → (a b : Option Bool) → IsTest (stated (binary h (truth a) (truth b)))
joins_values op.Or t a b = logical_truths or3 a b
joins_values op.And t a b = logical_truths and3 a b
joins_values op.Equal t a b = absurd (cc)
joins_values op.NotEqual t a b = absurd (cc)
joins_values op.Is t a b = absurd (cc)
joins_values op.IsNot t a b = absurd (cc)
joins_values op.Like t a b = absurd (cc)
joins_values op.NotLike t a b = absurd (cc)
joins_values op.Less t a b = absurd (cc)
joins_values op.LessEqual t a b = absurd (cc)
joins_values op.Greater t a b = absurd (cc)
joins_values op.GreaterEqual t a b = absurd (cc)
joins_values op.Add t a b = absurd (cc)
joins_values op.Sub t a b = absurd (cc)
joins_values op.Mul t a b = absurd (cc)
joins_values op.Div t a b = absurd (cc)
joins_values op.Rem t a b = absurd (cc)
joins_values op.Concat t a b = absurd (cc)

two_then : (h : BinaryOp) (p q : Outcome Value) (a b : Value) → p ≡ Ok a → q ≡ Ok b → IsTest (stated (binary h a b)) → IsTest (then_with p (λ y. then_with q (λ z. stated (binary h y z))))
two_then h p q a b e f t = (t.0, ap (λ o. then_with o (λ y. then_with q (λ z. stated (binary h y z)))) e ∙ ap (λ o. then_with o (λ z. stated (binary h a z))) f ∙ t.1)

pub test_comparison : (h : BinaryOp) (y z : ResolvedExpr) → is_comparison h ≡ true → AlwaysPlain y → AlwaysPlain z → AlwaysTest (x.Binary h y z)
test_comparison h y z t p q r = subst (λ (f : Gives). IsTest (f r)) (sym (ev_binary h y z)) (two_then h (evaluated [] y r) (evaluated [] z r) (p r).0 (q r).0 (p r).1 (q r).1 (compares_values h t (p r).0 (q r).0))

pub test_junction : (h : BinaryOp) (y z : ResolvedExpr) → is_junction h ≡ true → AlwaysTest y → AlwaysTest z → AlwaysTest (x.Binary h y z)
test_junction h y z t p q r = subst (λ (f : Gives). IsTest (f r)) (sym (ev_binary h y z)) (two_then h (evaluated [] y r) (evaluated [] z r) (truth (p r).0) (truth (q r).0) (p r).1 (q r).1 (joins_values h t (p r).0 (q r).0))

pub test_not : (y : ResolvedExpr) → AlwaysTest y → AlwaysTest (x.Unary u.Not y)
test_not y p r = subst (λ (f : Gives). IsTest (f r)) (sym (ev_unary u.Not y)) (not3 (p r).0, ap (λ z. then_with z (λ a. stated (unary u.Not a))) (p r).1 ∙ ap (λ z. stated (operators.then_with z (λ b. Ok (truth (not3 b))))) (condition_truth (p r).0))

pub test_in_list : (y : ResolvedExpr) (ys : List ResolvedExpr) → AlwaysPlain y → AllPlain ys → AlwaysTest (x.InList y ys)
test_in_list y ys p qs r =
    let vs = plain_list ys qs r [] in
    subst (λ (f : Gives). IsTest (f r)) (sym (ev_in_list y ys))
    (o.or_equal (Some false) (p r).0 vs.0, ap (λ z. then_with z (λ a. then_with (all_of (map (λ (g : Gives). g r) (map (evaluated []) ys))) (λ bs. Ok (o.in_list a bs)))) (p r).1 ∙ ap (λ z. then_with z (λ bs. Ok (o.in_list (p r).0 bs))) vs.1)

pub test_between : (y z w : ResolvedExpr) → AlwaysPlain y → AlwaysPlain z → AlwaysPlain w → AlwaysTest (x.Between y z w)
test_between y z w p q s r =
    let a = (p r).0 in
    let b = (q r).0 in
    let c = (s r).0 in
    subst (λ (f : Gives). IsTest (f r)) (sym (ev_between y z w)) (
      and3 (unless_null a b (is_ge (value_cmp a b))) (unless_null a c (is_le (value_cmp a c))),
      ap (λ t. then_with t (λ a. then_with (evaluated [] z r) (λ b. then_with (evaluated [] w r) (λ c. Ok (o.between a b c))))) (p r).1
          ∙ ap (λ t. then_with t (λ b. then_with (evaluated [] w r) (λ c. Ok (o.between a b c)))) (q r).1
          ∙ ap (λ t. then_with t (λ c. Ok (o.between a b c))) (s r).1,
    )

-- ---- column = literal

abbrev equal_truth : Value → Value → Value
equal_truth a b = truth (unless_null a b (is_eq (value_cmp a b)))

equal_of : (c : Ordering) → truth (Some (is_eq c)) ≡ truth (Some true) → c ≡ Equal
equal_of Less h = absurd (cc)
equal_of Equal h = refl
equal_of Greater h = absurd (cc)

one_value : (a b : Value) → equal_truth a b ≡ truth (Some true) → a ≡ b
one_value v.Null b h = absurd (cc)
one_value (v.Int m) v.Null h = absurd (cc)
one_value (v.Int m) (v.Int n) h = ap v.Int (int_cmp-IsAntisymmetric m n (equal_of (int_cmp m n) h))
one_value (v.Int m) (v.Text t) h = absurd (cc)
one_value (v.Int m) (v.Blob t) h = absurd (cc)
one_value (v.Text s) v.Null h = absurd (cc)
one_value (v.Text s) (v.Int n) h = absurd (cc)
one_value (v.Text s) (v.Text t) h = ap v.Text (slice_cmp-IsAntisymmetric nat_cmp-IsAntisymmetric s t (equal_of (slice_cmp nat_cmp s t) h))
one_value (v.Text s) (v.Blob t) h = absurd (cc)
one_value (v.Blob s) v.Null h = absurd (cc)
one_value (v.Blob s) (v.Int n) h = absurd (cc)
one_value (v.Blob s) (v.Text t) h = absurd (cc)
one_value (v.Blob s) (v.Blob t) h = ap v.Blob (slice_cmp-IsAntisymmetric nat_cmp-IsAntisymmetric s t (equal_of (slice_cmp nat_cmp s t) h))

abbrev ok_or_null : Outcome Value → Value
ok_or_null (Ok y) = y
ok_or_null (Err e) = v.Null

abbrev ok_or_none : operators.Outcome (Option Bool) → Option Bool
ok_or_none (Ok y) = y
ok_or_none (Err e) = None

met_truth : (q : Option Bool) → IsMet (Ok (truth q)) → truth q ≡ truth (Some true)
met_truth q h = ap truth (ap ok_or_none (sym (condition_truth q) ∙ ap condition (ap ok_or_null h.1) ∙ h.2))

equal_is : (y z : ResolvedExpr) (r : Row) (a b : Value) → evaluated [] y r ≡ Ok a → evaluated [] z r ≡ Ok b → on_two op.Equal (evaluated [] y) (evaluated [] z) r ≡ Ok (truth (unless_null a b (is_eq (value_cmp a b))))
equal_is y z r a b e f = ap (λ t. then_with t (λ c. then_with (evaluated [] z r) (λ d. stated (binary op.Equal c d)))) e ∙ ap (λ t. then_with t (λ d. stated (binary op.Equal a d))) f

pub column_literal : (i : ℕ) (y : Value) → EqualWants (x.Column i) (x.Literal y) i y
column_literal i y r h = one_value (value_at r i) y (met_truth _ (subst IsMet (equal_is (x.Column i) (x.Literal y) r (value_at r i) y (column_ok i r) (literal_ok y r)) h))

pub literal_column : (i : ℕ) (y : Value) → EqualWants (x.Literal y) (x.Column i) i y
literal_column i y r h = sym (one_value y (value_at r i) (met_truth _ (subst IsMet (equal_is (x.Literal y) (x.Column i) r y (value_at r i) (literal_ok y r) (column_ok i r)) h)))

-- ---- AND

both_true : (p q : Option Bool) → and3 p q ≡ Some true → (p ≡ Some true) × (q ≡ Some true)
both_true None None h = absurd (cc)
both_true None (Some true) h = absurd (cc)
both_true None (Some false) h = absurd (cc)
both_true (Some true) None h = absurd (cc)
both_true (Some true) (Some true) h = (refl, refl)
both_true (Some true) (Some false) h = absurd (cc)
both_true (Some false) None h = absurd (cc)
both_true (Some false) (Some true) h = absurd (cc)
both_true (Some false) (Some false) h = absurd (cc)

abbrev Sides : operators.Outcome (Option Bool) → operators.Outcome (Option Bool) → Type 0
Sides c d = (c ≡ Ok (Some true)) × (d ≡ Ok (Some true))

junction : (c d : operators.Outcome (Option Bool)) (z : Value) → stated (operators.then_with c (λ a. operators.then_with d (λ b. Ok (truth (and3 a b))))) ≡ Ok z → condition z ≡ Ok (Some true) → Sides c d
junction (Err e) d z f g = absurd (cc)
junction (Ok p) (Err e) z f g = absurd (cc)
junction (Ok p) (Ok q) z f g =
    let t : and3 p q ≡ Some true = ap ok_or_none (sym (condition_truth (and3 p q)) ∙ ap condition (ap ok_or_null f) ∙ g) in
    let s = both_true p q t in
    (ap (λ y. Ok y) s.0, ap (λ y. Ok y) s.1)

met_sides : (a b : Outcome Value) → IsMet (then_with a (λ y. then_with b (λ z. stated (binary op.And y z)))) → IsMet a × IsMet b
met_sides (Err e) b h = lost h.1
  where
    lost : {P : Type 0} {z : Value} → ◌≡◌ {A = Outcome Value} (Err e) (Ok z) → P
    lost q = absurd (cc)
met_sides (Ok y) (Err e) h = lost h.1
  where
    lost : {P : Type 0} {z : Value} → ◌≡◌ {A = Outcome Value} (Err e) (Ok z) → P
    lost q = absurd (cc)
met_sides (Ok y) (Ok z) h = let s = junction (condition y) (condition z) h.0 h.1 h.2 in ((y, refl, s.0), (z, refl, s.1))

-- ---- the whole condition

-- what is told of `column = literal`
pub tells_equal : (t : Table) (a b : ResolvedExpr) (i : ℕ) (y : Value) (l : Lookup) → EqualWants a b i y → Finds t i y l → Tells t (x.Binary op.Equal a b) l
tells_equal t a b i y lookup.Unknown w f = tt
tells_equal t a b i y lookup.NoRow w f = λ k vs g m. f k vs g (w (as_row (k, vs)) (subst (λ (e : Gives). IsMet (e (as_row (k, vs)))) (ev_binary op.Equal a b) m))
tells_equal t a b i y (lookup.Row r) w f = (f.0, λ k vs g m. f.1 k vs g (w (as_row (k, vs)) (subst (λ (e : Gives). IsMet (e (as_row (k, vs)))) (ev_binary op.Equal a b) m)))

-- of a conjunct, and of the whole
pub tells_left : (t : Table) (a b : ResolvedExpr) (l : Lookup) → Tells t a l → Tells t (x.Binary op.And a b) l
tells_left t a b lookup.Unknown f = tt
tells_left t a b lookup.NoRow f = λ k vs g m. f k vs g (met_sides (evaluated [] a (as_row (k, vs))) (evaluated [] b (as_row (k, vs))) (subst (λ (e : Gives). IsMet (e (as_row (k, vs)))) (ev_binary op.And a b) m)).0
tells_left t a b (lookup.Row r) f = (f.0, λ k vs g m. f.1 k vs g (met_sides (evaluated [] a (as_row (k, vs))) (evaluated [] b (as_row (k, vs))) (subst (λ (e : Gives). IsMet (e (as_row (k, vs)))) (ev_binary op.And a b) m)).0)

pub tells_right : (t : Table) (a b : ResolvedExpr) (l : Lookup) → Tells t b l → Tells t (x.Binary op.And a b) l
tells_right t a b lookup.Unknown f = tt
tells_right t a b lookup.NoRow f = λ k vs g m. f k vs g (met_sides (evaluated [] a (as_row (k, vs))) (evaluated [] b (as_row (k, vs))) (subst (λ (e : Gives). IsMet (e (as_row (k, vs)))) (ev_binary op.And a b) m)).1
tells_right t a b (lookup.Row r) f = (f.0, λ k vs g m. f.1 k vs g (met_sides (evaluated [] a (as_row (k, vs))) (evaluated [] b (as_row (k, vs))) (subst (λ (e : Gives). IsMet (e (as_row (k, vs)))) (ev_binary op.And a b) m)).1)

pub fine_of : (e : ResolvedExpr) → AlwaysTest e → Fine (passes (Some e))
fine_of e h r = let t = h r in
    (is_true t.0, ap judged t.1 ∙ ap (λ o. then_with (stated o) (λ b. Ok (is_true b))) (condition_truth t.0))

abbrev said : Outcome Bool → Bool
said (Ok b) = b
said (Err e) = false

met_condition : (c : operators.Outcome (Option Bool)) → then_with (stated c) (λ b. Ok (is_true b)) ≡ Ok true → c ≡ Ok (Some true)
met_condition (Err e) h = absurd (cc)
met_condition (Ok None) h = absurd (clash_bool (ap said h))
  where
    clash_bool : false ≡ true → ⊥
    clash_bool q = absurd (cc)
met_condition (Ok (Some true)) h = refl
met_condition (Ok (Some false)) h = absurd (clash_bool (ap said h))
  where
    clash_bool : false ≡ true → ⊥
    clash_bool q = absurd (cc)

met_value : (o : Outcome Value) → judged o ≡ Ok true → IsMet o
met_value (Err e) h = absurd (cc)
met_value (Ok y) h = (y, refl, met_condition (condition y) h)

pub left_by_none : (t : Table) (e : ResolvedExpr) → AlwaysTest e → MetByNone t e → Left (Some e) [] t
left_by_none t e h none = sym (none_found (passes (Some e)) t (fine_of e h) (λ k vs g m. none k vs g (met_value (evaluated [] e (as_row (k, vs))) m)))

pub left_by_one : (t : Table) (e : ResolvedExpr) (r : Row) → AlwaysTest e → row_at t r.rowid ≡ Some r → MetByOnly t e r.rowid → Left (Some e) (r ∷ []) t
left_by_one t e r h there only =
    ap (λ o. filtered (passes (Some e)) [] (or_none o)) (sym there)
    ∙ sym (looked_up (passes (Some e)) t r.rowid (fine_of e h) (λ k vs g m. only k vs g (met_value (evaluated [] e (as_row (k, vs))) m)))
