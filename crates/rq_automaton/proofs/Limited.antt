-- Reading within limits.
use Rattle.std.proofs.Common.{◌≡◌, ℕ, ◌+◌, ◌≤◌, Bool, true, false, cond, [], ◌∷◌, Option, Some, None, Result, Ok, Err, refl, ◌∙◌, ap, subst, arith}
use Rattle.std.specs.Prelude.{nat_le, ◌&&◌}
use Rattle.std.proofs.lemmas.Bool.{le-leb, leb-true}
use Rattle.rq_grammar.specs.declared.expr.Expr.{Expr}
use Rattle.rq_grammar.specs.declared.expr.Expr.TheVariants as e
use Rattle.rq_grammar.specs.declared.stmt.ResultItem.TheVariants as item
use Rattle.rq_grammar.specs.declared.stmt.Stmt.{Stmt}
use Rattle.rq_automaton.specs.declared.place.Place.{Place}
use Rattle.rq_automaton.specs.declared.frame.Clause.{Clause}
use Rattle.rq_automaton.specs.declared.frame.Frame.TheVariants as f
use Rattle.rq_automaton.specs.declared.frame.State.{State}
use Rattle.rq_grammar.specs.Words.{Text, Tokens, bare_inside, quoted_inside}
use Rattle.rq_grammar.specs.Statements.{rising}
use Rattle.rq_grammar.specs.Grammar as G
use Rattle.rq_automaton.specs.Stack.{Stack, room, reduce, split}
use Rattle.rq_automaton.specs.Places.{place_finish}
use Rattle.rq_automaton.specs.Machine.{step, finish, parse, end_at, end_on, land, landed_end}
use Rattle.rq_grammar.specs.Depth.{depth, deepest, open_behind, most_open, Limits, Stop, TooDeep}
use Rattle.rq_automaton.specs.Load.{clause_least}
use Rattle.rq_automaton.specs.Weight.{least, place_weight, weight, due, limited, one_later, going, or_nothing, parse_within}
use Rattle.rq_automaton.proofs.Reduce.{go, stop, went, ends_here}
use Rattle.rq_automaton.proofs.Reached as R
use Rattle.rq_automaton.proofs.Reached.{Reached, Stacked, Within, Came}
use Rattle.rq_automaton.proofs.Sound.{Reduced, reduce_sound, weaken, room_max, both}
use Rattle.rq_automaton.proofs.SoundSteps.{land_sound, step_sound}
use Rattle.rq_automaton.proofs.Depths.{depth_name, results_more, order_more, sets_more}
use Rattle.rq_automaton.proofs.Deeper.{selected_depth, reduced_least, step_deeper, finish_deeper}
use Rattle.rq_automaton.proofs.Due.{widens}

-- ---- at the end

no_deeper : {r r' : Stmt} {n : ℕ} → Some r ≡ Some r' → deepest r ≤ n → deepest r' ≤ n
no_deeper {r = r} {r' = r'} {n = n} h l = let e : r ≡ r' = cc in subst (λ v. deepest v ≤ n) e l

place_no_deeper : {x y : Tokens} {z : Place} {r : Stmt} → Came x z y → place_finish z ≡ Some r → deepest r ≤ place_weight z
unfolding place_finish
place_no_deeper R.at_drop_if h = no_deeper h (omega arith)
place_no_deeper (R.at_rows k j b) h = no_deeper h (omega arith)
place_no_deeper (R.at_sets k j) h = no_deeper h (omega arith)
place_no_deeper (R.at_delete_table k) h = no_deeper h (omega arith)
place_no_deeper (R.tail_results {q = d} (R.with_results o l)) h = no_deeper h (omega (arith, selected_depth d))
place_no_deeper (R.tail_source {q = d} (R.with_source (R.with_results o l) k)) h = no_deeper h (omega (arith, selected_depth d))
place_no_deeper (R.tail_filtered {q = d} (R.with_filter (R.with_source (R.with_results o l) k) j)) h = no_deeper h (omega (arith, selected_depth d))
place_no_deeper (R.tail_ordered {q = d} {is = is} (R.with_filter (R.with_source (R.with_results o l) k) j) b) h = no_deeper h (omega (arith, selected_depth (R.terms d is)))
place_no_deeper (R.tail_limited {q = d} k) h = no_deeper h (omega (arith, selected_depth d))
place_no_deeper (R.at_ended k) h = no_deeper h (omega arith)
place_no_deeper _ h = absurd (cc)

settled : {n : ℕ} {z z' : Place} → Some z ≡ Some z' → place_weight z ≤ n → place_weight z' ≤ n
settled {n = n} {z = z} {z' = z'} h l = let e : z ≡ z' = cc in subst (λ v. place_weight v ≤ n) e l

land_no_deeper : {x y : Tokens} {k : Clause} {z : Place} → Within x k y → (a : Expr) → land k a ≡ Some z → place_weight z ≤ clause_least k (depth a)
land_no_deeper (R.row_in k j b b') a h = absurd (cc)
land_no_deeper (R.results_in {is = is} o b) a h = settled h (omega (arith, results_more is (item.Value a None)))
land_no_deeper (R.filter_in k) a h = settled h (omega arith)
land_no_deeper (R.order_in {is = is} k b) a h = settled h (omega (arith, order_more is (rising a)))
land_no_deeper (R.limit_in (R.with_order (R.with_filter (R.with_source (R.with_results o l) k) j) b)) a h = settled h (omega arith)
land_no_deeper (R.offset_in k r) a h = settled h (omega arith)
land_no_deeper (R.set_in {k = m} {is = is} k b j) a h = settled h (omega (arith, sets_more is (m, a)))
land_no_deeper (R.update_filter_in k j) a h = settled h (omega arith)
land_no_deeper (R.delete_filter_in k) a h = settled h (omega arith)

landed_no_deeper : {x : Tokens} {r : Stmt} {n : ℕ} (o : Option Place) → ((z : Place) → o ≡ Some z → Came x z []) → ((z : Place) → o ≡ Some z → place_weight z ≤ n) → landed_end o ≡ Some r → deepest r ≤ n
landed_no_deeper None k l h = absurd (cc)
landed_no_deeper (Some z) k l h = omega (arith, place_no_deeper (k z refl) h, l z refl)

clause_no_deeper : {x y : Tokens} {r : Stmt} (k : Clause) (st : Stack) (a : Expr) → Stacked x (f.Clause k ∷ st) y → G.At 0 y a [] → landed_end (land k a) ≡ Some r → deepest r ≤ clause_least k (depth a)
clause_no_deeper k st a (R.clause_on i) q h = landed_no_deeper (land k a) (λ z e. land_sound i q e) (λ z e. land_no_deeper i a e) h

end_no_deeper : {x : Tokens} {r : Stmt} (d : Stack × Expr) → Reduced x 0 d [] → split end_at d ≡ Some r → deepest r ≤ least d.0 (depth d.1)
unfolding end_on
end_no_deeper (f.Clause k ∷ st, a) i h = clause_no_deeper k st a i.stacked (weaken i.low i.at) h
end_no_deeper d i h = absurd (cc)

done_no_deeper : {x y : Tokens} {r : Stmt} {m : ℕ} (st : Stack) (a : Expr) → Stacked x st y → G.At m y a [] → room st ≤ m → split end_at (reduce 0 st a) ≡ Some r → deepest r ≤ least st (depth a)
done_no_deeper st a k q g h = omega (arith, end_no_deeper (reduce 0 st a) (reduce_sound 0 (omega arith) k q g (omega arith)) h, reduced_least 0 st a)

name_no_deeper : {x y : Tokens} {r : Stmt} (st : Stack) (n : Text) → Stacked x st y → G.At 9 y (e.Name n) [] → split end_at (reduce 0 st (e.Name n)) ≡ Some r → deepest r ≤ least st 1
name_no_deeper st n k q h = omega (arith, done_no_deeper st (e.Name n) k q (room_max st) h, ap (least st) (depth_name n))

finish_no_deeper : {x : Tokens} {z : State} {r : Stmt} → Reached x z [] → finish z ≡ Some r → deepest r ≤ weight z
unfolding finish
finish_no_deeper (R.at_place k) h = place_no_deeper k h
finish_no_deeper (R.at_quoted {st = st} {n = n} k) h = name_no_deeper st n k (G.name quoted_inside) h
finish_no_deeper (R.at_named {st = st} {n = n} i j k) h = name_no_deeper st n k (G.name (bare_inside i j)) h
finish_no_deeper (R.at_count {st = st} {n = n} k) h = name_no_deeper st n k (G.name (bare_inside refl refl)) h
finish_no_deeper (R.at_done {st = st} {a = a} k q g l) h = done_no_deeper st a k q g h
finish_no_deeper _ h = absurd (cc)

-- ---- what a step within the limits says

or_nothing_ok : (o : Option Stmt) (r : Stmt) → or_nothing o ≡ Ok r → o ≡ Some r
or_nothing_ok None r h = absurd (cc)
or_nothing_ok (Some k) r h = cc

pub one_later_ok : (o : Result Stmt (Stop × ℕ)) (r : Stmt) → one_later o ≡ Ok r → o ≡ Ok r
one_later_ok (Err n) r h = absurd (cc)
one_later_ok (Ok k) r h = h

pub going_ok : (o : Result State Stop) (f : State → Result Stmt (Stop × ℕ)) (r : Stmt) → going o f ≡ Ok r → (z : State) × (o ≡ Ok z) × (f z ≡ Ok r)
going_ok (Err n) f r h = absurd (cc)
going_ok (Ok z) f r h = (z, refl, one_later_ok (f z) r h)

abbrev chosen : Bool → State → Result State Stop
chosen b q = cond b (Ok q) (Err TooDeep)

pub record IsWithin (l : Limits) (n : ℕ) (q : State) : Type 0 where
  pub shallow : weight q ≤ l.depth
  pub narrow : n + due q ≤ l.parens

chosen_ok : (b : Bool) (k q : State) → chosen b k ≡ Ok q → (b ≡ true) × (k ≡ q)
chosen_ok true k q h = (refl, cc)
chosen_ok false k q h = absurd (cc)

pub limited_ok : (l : Limits) (n : ℕ) (o : Option State) (q : State) → limited l n o ≡ Ok q → (o ≡ Some q) × IsWithin l n q
limited_ok l n None q h = absurd (cc)
limited_ok l n (Some k) q h =
    let c = chosen_ok (nat_le (weight k) l.depth && nat_le (n + due k) l.parens) k q h in
    let b = both (nat_le (weight k) l.depth) (nat_le (n + due k) l.parens) c.0 in
    (ap Some c.1, subst (IsWithin l n) c.1 (record { shallow = leb-true (weight k) l.depth b.0; narrow = leb-true (n + due k) l.parens b.1 }))

limited_gives : (l : Limits) (n : ℕ) (o : Option State) (q : State) → o ≡ Some q → IsWithin l n q → limited l n o ≡ Ok q
limited_gives l n o q h i = ap (limited l n) h ∙ ap (λ b. chosen (b && nat_le (n + due q) l.parens) q) (le-leb (weight q) l.depth i.shallow) ∙ ap (λ b. chosen b q) (le-leb (n + due q) l.parens i.narrow)

-- ---- what is read

pub record ReadsWithin (l : Limits) (n : ℕ) (z : State) (y : Tokens) (r : Stmt) : Type 0 where
  pub reads : parse z y ≡ Ok r
  pub shallow : deepest r ≤ l.depth
  pub narrow : most_open n y ≤ l.parens

-- what is read within the limits is read, and within them
pub within_reads : {x : Tokens} (l : Limits) (n : ℕ) (y : Tokens) (z : State) (r : Stmt) → Reached x z y → IsWithin l n z → parse_within l n z y ≡ Ok r → ReadsWithin l n z y r
unfolding parse_within
within_reads l n [] z r k i h = let e = or_nothing_ok (finish z) r h in record { reads = stop z r e; shallow = omega (arith, finish_no_deeper k e, i.shallow); narrow = omega (arith, i.narrow) }
within_reads l n (u ∷ us) z r k i h =
    let o = going_ok (limited l (open_behind n u) (step z u)) (λ q. parse_within l (open_behind n u) q us) r h in
    let j = limited_ok l (open_behind n u) (step z u) o.0 o.1 in
    let t = within_reads l (open_behind n u) us o.0 r (step_sound u k j.0) j.1 o.2 in
    record { reads = go z u us o.0 r j.0 t.reads; shallow = t.shallow; narrow = omega (arith, t.narrow, i.narrow) }

-- what is read is no less deep than any state on the way
pub weighs : (y : Tokens) (z : State) (r : Stmt) → parse z y ≡ Ok r → weight z ≤ deepest r
weighs [] z r h = finish_deeper z (ends_here z r h)
weighs (u ∷ us) z r h = let n = went z u us r h in omega (arith, step_deeper z u n.1, weighs us n.0 r n.2)

-- what is read and within the limits is read within them
pub reads_within : (l : Limits) (n : ℕ) (y : Tokens) (z : State) (r : Stmt) → parse z y ≡ Ok r → deepest r ≤ l.depth → most_open n y ≤ l.parens → parse_within l n z y ≡ Ok r
unfolding parse_within
reads_within l n [] z r h d w = ap or_nothing (ends_here z r h)
reads_within l n (u ∷ us) z r h d w =
    let o = went z u us r h in
    let m = open_behind n u in
    ap (λ o. going o (λ q. parse_within l m q us)) (limited_gives l m (step z u) o.0 o.1 (record { shallow = omega (arith, weighs us o.0 r o.2, d); narrow = omega (arith, widens us o.0 r o.2 m, w) })) ∙ ap one_later (reads_within l m us o.0 r o.2 d (omega (arith, w)))
