-- Each state goes on to a statement that is no deeper than the state's weight, and opens no more than is due.
use Rattle.std.proofs.Common.{◌≡◌, ℕ, suc, ◌+◌, ◌≤◌, max, Bool, true, false, List, [], ◌∷◌, ◌++◌, Option, Some, None, Ok, refl, ◌∙◌, ap, arith, pos}
use Rattle.std.specs.Prelude.{neg_ℤ}
use Rattle.std.proofs.lemmas.Bool.{le-leb}
use Rattle.rq_values.specs.declared.value.Value.TheVariants as v
use Rattle.rq_grammar.specs.declared.word.Word.TheVariants as w
use Rattle.rq_grammar.specs.declared.token.Token.{Token}
use Rattle.rq_grammar.specs.declared.token.Token.TheVariants as t
use Rattle.rq_grammar.specs.declared.expr.BinaryOp.{BinaryOp}
use Rattle.rq_grammar.specs.declared.expr.BinaryOp.TheVariants as op
use Rattle.rq_grammar.specs.declared.expr.Expr.{Expr}
use Rattle.rq_grammar.specs.declared.expr.Expr.TheVariants as e
use Rattle.rq_grammar.specs.declared.stmt.ColumnDef.{ColumnDef}
use Rattle.rq_grammar.specs.declared.stmt.ResultItem.{ResultItem}
use Rattle.rq_grammar.specs.declared.stmt.ResultItem.TheVariants as item
use Rattle.rq_grammar.specs.declared.stmt.OrderTerm.{OrderTerm}
use Rattle.rq_grammar.specs.declared.stmt.Stmt.{Stmt}
use Rattle.rq_grammar.specs.declared.stmt.Stmt.TheVariants as stmt
use Rattle.rq_automaton.specs.declared.place.NewTable.{NewTable}
use Rattle.rq_automaton.specs.declared.place.Target.{Target}
use Rattle.rq_automaton.specs.declared.place.Query.{Query}
use Rattle.rq_automaton.specs.declared.place.Stage.{Stage}
use Rattle.rq_automaton.specs.declared.place.Stage.TheVariants as stage
use Rattle.rq_automaton.specs.declared.place.Place.{Place}
use Rattle.rq_automaton.specs.declared.place.Place.TheVariants as p
use Rattle.rq_automaton.specs.declared.place.CreatePlace.TheVariants as cp
use Rattle.rq_automaton.specs.declared.place.DropPlace.TheVariants as dp
use Rattle.rq_automaton.specs.declared.place.InsertPlace.TheVariants as ip
use Rattle.rq_automaton.specs.declared.place.UpdatePlace.TheVariants as up
use Rattle.rq_automaton.specs.declared.place.DeletePlace.TheVariants as del
use Rattle.rq_automaton.specs.declared.place.SelectPlace.TheVariants as sp
use Rattle.rq_automaton.specs.declared.frame.Clause.{Clause}
use Rattle.rq_automaton.specs.declared.frame.Clause.TheVariants as c
use Rattle.rq_automaton.specs.declared.frame.Frame.TheVariants as f
use Rattle.rq_automaton.specs.declared.frame.State.{State}
use Rattle.rq_automaton.specs.declared.frame.State.TheVariants as s
use Rattle.rq_grammar.specs.Words.{Text, Tokens}
use Rattle.rq_grammar.specs.Grammar as G
use Rattle.rq_grammar.specs.Grammar.{level, upper}
use Rattle.rq_grammar.specs.Statements.{rising}
use Rattle.rq_automaton.specs.Stack.{Stack, room, split, and_at}
use Rattle.rq_automaton.specs.Places as L
use Rattle.rq_automaton.specs.Places.{place_step, create_step, drop_step, insert_step, update_step, delete_step, select_step, place_finish, selected, add_result, target, new_table}
use Rattle.rq_automaton.specs.Machine.{step, finish, parse, done, ended_at, ended_on, end_at, end_on, clause_on, land, landed_end}
use Rattle.rq_grammar.specs.Depth.{depth, rows_depth, results_depth, sets_depth, deepest, open_behind, most_open}
use Rattle.rq_automaton.specs.Load.{stage_depth, clause_least}
use Rattle.rq_automaton.specs.Weight.{least, place_weight, weight, place_due, due}
use Rattle.rq_automaton.proofs.Reduce.{reduce_closed, Same, go, stop}
use Rattle.rq_automaton.proofs.Complete.{quoted_as_done, named_as_done}
use Rattle.rq_automaton.proofs.Reached as R
use Rattle.rq_automaton.proofs.Reached.{Reached, Stacked, Within, Came}
use Rattle.rq_automaton.proofs.Sound.{room_max}
use Rattle.rq_automaton.proofs.Depths.{depth_literal, depth_param, depth_timestamp, depth_date, depth_time, depth_name, depth_qualified, depth_count_all, depth_call, depth_minus, depth_not, depth_binary, depth_in, depth_between, depths_more, rows_more, results_more, order_more, sets_more}
use Rattle.rq_automaton.proofs.Deeper.{deeper, selected_depth}

-- the state goes on to a statement of no more than depth d, opening no more than e
pub record EndsIn (d e : ℕ) (z : State) : Type 0 where
  pub rest : Tokens
  pub stmt : Stmt
  pub reads : parse z rest ≡ Ok stmt
  pub shallow : deepest stmt ≤ d
  pub narrow : (n : ℕ) → most_open n rest ≤ n + e

before : {d e e' : ℕ} (z : State) (u : Token) (next : State) → ((n : ℕ) → open_behind n u + e' ≤ n + e) → step z u ≡ Some next → EndsIn d e' next → EndsIn d e z
before z u next l h k = record { rest = u ∷ k.rest; stmt = k.stmt; reads = go z u k.rest next k.stmt h k.reads; shallow = k.shallow; narrow = λ n. omega (arith, l n, k.narrow (open_behind n u)) }

here : {d e : ℕ} (z : State) (r : Stmt) → finish z ≡ Some r → deepest r ≤ d → EndsIn d e z
here z r h l = record { rest = []; stmt = r; reads = stop z r h; shallow = l; narrow = λ n. omega arith }

wider : {m n e : ℕ} (z : State) → m ≤ n → EndsIn m e z → EndsIn n e z
wider z h k = record { rest = k.rest; stmt = k.stmt; reads = k.reads; shallow = omega (arith, k.shallow); narrow = k.narrow }

-- the clause can end behind any expression
abbrev pub CanEnd : Clause → Type 0
CanEnd k = (a : Expr) (m : ℕ) (st' : Stack) (a' : Expr) → Same 0 st' a' (f.Clause k ∷ []) a → EndsIn (clause_least k (depth a)) 0 (s.Done st' m a')

-- the stack's own rules, whatever the tokens are
pub data Fit : Stack → Type 0 where
  binary_fit : {st : Stack} {o : BinaryOp} {a : Expr} → Fit st → room st ≤ level o → Fit (f.Binary o a ∷ st)
  not_fit : {st : Stack} → room st ≤ 3 → Fit st → Fit (f.Not ∷ st)
  plus_fit : {st : Stack} → Fit st → Fit (f.Plus ∷ st)
  minus_fit : {st : Stack} → Fit st → Fit (f.Minus ∷ st)
  low_fit : {st : Stack} {d : Bool} {a : Expr} → Fit st → room st ≤ 4 → Fit (f.Low d a ∷ st)
  high_fit : {st : Stack} {d : Bool} {a b : Expr} → Fit st → room st ≤ 4 → Fit (f.High d a b ∷ st)
  paren_fit : {st : Stack} → Fit st → Fit (f.Paren ∷ st)
  args_fit : {st : Stack} {n : Text} {xs : List Expr} → Fit st → Fit (f.Args n xs ∷ st)
  among_fit : {st : Stack} {d : Bool} {a : Expr} {xs : List Expr} → Fit st → room st ≤ 4 → Fit (f.Among d a xs ∷ st)
  clause_fit : {k : Clause} → CanEnd k → Fit (f.Clause k ∷ [])

-- ---- the end of a clause

ending : (k : Clause) (a : Expr) (z : Place) (r : Stmt) → land k a ≡ Some z → place_finish z ≡ Some r → (m : ℕ) (st' : Stack) (a' : Expr) → Same 0 st' a' (f.Clause k ∷ []) a → finish (s.Done st' m a') ≡ Some r
unfolding finish end_on
ending k a z r l h m st' a' same = ap (split end_at) (same 0 (omega arith)) ∙ ap landed_end l ∙ h

row_ends : (i : Target) (rs : List (List Expr)) (xs : List Expr) → CanEnd (c.Row i rs xs)
unfolding step finish done ended_on clause_on place_finish
row_ends i rs xs a m st' a' same = before {e' = 0} _ t.Close (s.Flat (p.Insert (ip.Rows i (rs ++ (xs ++ a ∷ []) ∷ [])))) (λ n. omega arith) (ap (split (ended_at t.Close)) (same 0 (omega arith))) (here _ _ refl (omega (arith, rows_more rs (xs ++ a ∷ []), depths_more xs a)))

set_ends : (n : Text) (is : List (Text × Expr)) (k : Text) → CanEnd (c.Set n is k)
unfolding place_finish
set_ends n is k a m st' a' same = here _ (stmt.Update n (is ++ (k, a) ∷ []) None) (ending (c.Set n is k) a _ _ refl refl m st' a' same) (omega (arith, sets_more is (k, a)))

order_ends : (i : Option Target) (is : List ResultItem) (n : Option Text) (g : Option Expr) (ts : List OrderTerm) → CanEnd (c.Order (R.terms (R.filtered (R.sourced (R.results (L.query i) is) n) g) ts))
unfolding place_finish
order_ends i is n g ts a m st' a' same =
    let d = R.terms (R.filtered (R.sourced (R.results (L.query i) is) n) g) ts in
    here _ (selected (L.add_term d (rising a))) (ending (c.Order d) a _ _ refl refl m st' a' same) (omega (arith, selected_depth (L.add_term d (rising a)), order_more ts (rising a)))

clause_ends : {x y : Tokens} {k : Clause} → Within x k y → CanEnd k
unfolding place_finish
clause_ends (R.row_in {n = n} {ns = ns} {rs = rs} {xs = xs} k j b b') a m st' a' same = row_ends (target n ns) rs xs a m st' a' same
clause_ends (R.results_in {i = i} {is = is} o b) a m st' a' same = let d = R.results (L.query i) is in here _ (selected (add_result d (item.Value a None))) (ending (c.Results d) a _ _ refl refl m st' a' same) (omega (arith, selected_depth (add_result d (item.Value a None)), results_more is (item.Value a None)))
clause_ends (R.filter_in (R.with_source {n = n} (R.with_results {i = i} {is = is} o l) k)) a m st' a' same =
    let d = R.sourced (R.results (L.query i) is) n in
    here _ (selected (L.with_filter d a)) (ending (c.Filter d) a _ _ refl refl m st' a' same) (omega (arith, selected_depth (L.with_filter d a)))
clause_ends (R.order_in {is = ts} (R.with_filter {a = g} (R.with_source {n = n} (R.with_results {i = i} {is = is} o l) k) j) b) a m st' a' same = order_ends i is n g ts a m st' a' same
clause_ends (R.limit_in (R.with_order {is = ts} (R.with_filter {a = g} (R.with_source {n = n} (R.with_results {i = i} {is = is} o l) k) j) b)) a m st' a' same =
    let d = R.terms (R.filtered (R.sourced (R.results (L.query i) is) n) g) ts in
    here _ (selected (L.with_limit d a)) (ending (c.Limit d) a _ _ refl refl m st' a' same) (omega (arith, selected_depth (L.with_limit d a)))
clause_ends (R.offset_in {a = b'} (R.with_order {is = ts} (R.with_filter {a = g} (R.with_source {n = n} (R.with_results {i = i} {is = is} o l) k) j) b) r) a m st' a' same =
    let d = L.with_limit (R.terms (R.filtered (R.sourced (R.results (L.query i) is) n) g) ts) b' in
    here _ (selected (L.with_offset d a)) (ending (c.Offset d) a _ _ refl refl m st' a' same) (omega (arith, selected_depth (L.with_offset d a)))
clause_ends (R.set_in {n = n} {k = k} {is = is} h b j) a m st' a' same = set_ends n is k a m st' a' same
clause_ends (R.update_filter_in {n = n} {is = is} h j) a m st' a' same = here _ (stmt.Update n is (Some a)) (ending (c.UpdateFilter n is) a _ _ refl refl m st' a' same) (omega arith)
clause_ends (R.delete_filter_in {n = n} h) a m st' a' same = here _ (stmt.Delete n (Some a)) (ending (c.DeleteFilter n) a _ _ refl refl m st' a' same) (omega arith)

pub fit : {x y : Tokens} {st : Stack} → Stacked x st y → Fit st
fit (R.binary_on q h r w) = binary_fit (fit q) h
fit (R.not_on h q) = not_fit h (fit q)
fit (R.plus_on q) = plus_fit (fit q)
fit (R.plus_again q) = fit q
fit (R.minus_on n q) = minus_fit (fit q)
fit (R.low_on q h r d) = low_fit (fit q) h
fit (R.high_on q h r d r') = high_fit (fit q) h
fit (R.paren_on q) = paren_fit (fit q)
fit (R.args_on i j q b) = args_fit (fit q)
fit (R.among_on q h r d b) = among_fit (fit q) h
fit (R.clause_on i) = clause_fit (clause_ends i)

-- ---- behind an operand

closes_paren : (st : Stack) (a : Expr) (m : ℕ) (st' : Stack) (a' : Expr) → Same 0 st' a' (f.Paren ∷ st) a → step (s.Done st' m a') t.Close ≡ Some (s.Done st 9 a)
unfolding step done ended_on
closes_paren st a m st' a' same = ap (split (ended_at t.Close)) (same 0 (omega arith))

closes_args : (n : Text) (xs : List Expr) (st : Stack) (a : Expr) (m : ℕ) (st' : Stack) (a' : Expr) → Same 0 st' a' (f.Args n xs ∷ st) a → step (s.Done st' m a') t.Close ≡ Some (s.Done st 9 (e.Call n (xs ++ a ∷ [])))
unfolding step done ended_on
closes_args n xs st a m st' a' same = ap (split (ended_at t.Close)) (same 0 (omega arith))

closes_among : (d : Bool) (b : Expr) (xs : List Expr) (st : Stack) (a : Expr) (m : ℕ) (st' : Stack) (a' : Expr) → Same 0 st' a' (f.Among d b xs ∷ st) a → step (s.Done st' m a') t.Close ≡ Some (s.Done st 4 (e.InList d b (xs ++ a ∷ [])))
unfolding step done ended_on
closes_among d b xs st a m st' a' same = ap (split (ended_at t.Close)) (same 0 (omega arith))

goes_high : (d : Bool) (b : Expr) (st : Stack) (a : Expr) (m : ℕ) (st' : Stack) (a' : Expr) → Same 2 st' a' (f.Low d b ∷ st) a → step (s.Done st' m a') (t.Word [] w.And) ≡ Some (s.Operand (f.High d b a ∷ st))
unfolding step done
goes_high d b st a m st' a' same = ap (split (and_at m)) (same 2 (omega arith))

zero_expr : Expr
zero_expr = e.Literal (v.Int (pos 0))

zero_step : (st : Stack) → step (s.Operand st) (t.Numeral 0) ≡ Some (s.Done st 9 zero_expr)
unfolding step zero_expr
zero_step st = refl

zero_depth : depth zero_expr ≡ 1
unfolding zero_expr
zero_depth = depth_literal (v.Int (pos 0))

-- whatever is still open can be ended, behind an operand
ends : {st : Stack} → Fit st → (k m : ℕ) (st' : Stack) (a' a : Expr) → k ≤ m → room st ≤ k → Same k st' a' st a → EndsIn (least st (depth a)) 0 (s.Done st' m a')
ends {st = f.Binary o b ∷ st} (binary_fit q fits) k m st' a' a l h same = wider _ (omega (arith, ap (least st) (depth_binary o b a))) (ends q (level o) m st' a' (e.Binary o b a) (omega arith) fits (λ j n. same j (omega arith) ∙ reduce_closed j (f.Binary o b) st a (le-leb j (level o) n)))
ends {st = f.Not ∷ st} (not_fit fits q) k m st' a' a l h same = wider _ (omega (arith, ap (least st) (depth_not a))) (ends q 3 m st' a' (e.Not a) (omega arith) fits (λ j n. same j (omega arith) ∙ reduce_closed j f.Not st a (le-leb j 3 n)))
ends {st = f.Plus ∷ st} (plus_fit q) k m st' a' a l h same = ends q k m st' a' a l (omega (arith, room_max st)) same
ends {st = f.Minus ∷ st} (minus_fit q) k m st' a' a l h same = wider _ (omega (arith, ap (least st) (depth_minus a))) (ends q k m st' a' (e.Minus a) l (omega (arith, room_max st)) same)
ends {st = f.Low d b ∷ st} (low_fit q fits) k m st' a' a l h same =
    wider _ (deeper st (depth (e.Between d b a zero_expr)) _ (omega (arith, depth_between d b a zero_expr, zero_depth)))
    (before {e' = 0} _ (t.Word [] w.And) (s.Operand (f.High d b a ∷ st)) (λ n. omega arith) (goes_high d b st a m st' a' (λ j i. same j (omega arith)))
    (before {e' = 0} _ (t.Numeral 0) (s.Done (f.High d b a ∷ st) 9 zero_expr) (λ n. omega arith) (zero_step _)
    (ends q 4 9 (f.High d b a ∷ st) zero_expr (e.Between d b a zero_expr) (omega arith) fits (λ j i. reduce_closed j (f.High d b a) st zero_expr (le-leb j 4 i)))))
ends {st = f.High d b c ∷ st} (high_fit q fits) k m st' a' a l h same = wider _ (omega (arith, ap (least st) (depth_between d b c a))) ((ends q 4 m st' a' (e.Between d b c a) (omega arith) fits (λ j i. same j (omega arith) ∙ reduce_closed j (f.High d b c) st a (le-leb j 4 i))))
ends {st = f.Paren ∷ st} (paren_fit q) k m st' a' a l h same = before _ t.Close (s.Done st 9 a) (λ n. omega arith) (closes_paren st a m st' a' (λ j i. same j (omega arith))) (ends q 9 9 st a a (omega arith) (room_max st) (λ j i. refl))
ends {st = f.Args n xs ∷ st} (args_fit q) k m st' a' a l h same = wider _ (deeper st (depth (e.Call n (xs ++ a ∷ []))) _ (omega (arith, depth_call n (xs ++ a ∷ []), depths_more xs a))) (before _ t.Close (s.Done st 9 (e.Call n (xs ++ a ∷ []))) (λ n. omega arith) (closes_args n xs st a m st' a' (λ j i. same j (omega arith))) (ends q 9 9 st _ _ (omega arith) (room_max st) (λ j i. refl)))
ends {st = f.Among d b xs ∷ st} (among_fit q fits) k m st' a' a l h same = wider _ (deeper st (depth (e.InList d b (xs ++ a ∷ []))) _ (omega (arith, depth_in d b (xs ++ a ∷ []), depths_more xs a))) (before _ t.Close (s.Done st 4 (e.InList d b (xs ++ a ∷ []))) (λ n. omega arith) (closes_among d b xs st a m st' a' (λ j i. same j (omega arith))) (ends q 4 4 st _ _ (omega arith) fits (λ j i. refl)))
ends {st = f.Clause y ∷ st} (clause_fit i) k m st' a' a l h same = i a m st' a' (λ j n. same j (omega arith))
ends {st = []} bad k m st' a' a l h same = elim bad [ ]

ends_done : (st : Stack) → Fit st → (m : ℕ) (a : Expr) → room st ≤ m → EndsIn (least st (depth a)) 0 (s.Done st m a)
ends_done st q m a h = ends q m m st a a (omega arith) h (λ j i. refl)

ends_operand : (st : Stack) → Fit st → EndsIn (least st 1) 0 (s.Operand st)
ends_operand st q = before _ (t.Numeral 0) (s.Done st 9 zero_expr) (λ n. omega arith) (zero_step st) (wider _ (omega (arith, ap (least st) zero_depth)) (ends_done st q 9 _ (room_max st)))

-- ---- places

the_name : Token
the_name = t.Quoted []

ends_selected : {x y : Tokens} {g : Stage} {d : Query} → Came x (p.Select (sp.Tail g d)) y → EndsIn (stage_depth g d) 0 (s.Flat (p.Select (sp.Tail g d)))
unfolding finish place_finish
ends_selected (R.tail_results {q = d} (R.with_results o l)) = here _ (selected _) refl (omega (arith, selected_depth d))
ends_selected (R.tail_source {q = d} (R.with_source (R.with_results o l) k)) = here _ (selected _) refl (omega (arith, selected_depth d))
ends_selected (R.tail_filtered {q = d} (R.with_filter (R.with_source (R.with_results o l) k) j)) = here _ (selected _) refl (omega (arith, selected_depth d))
ends_selected (R.tail_ordered {q = d} {is = is} (R.with_filter (R.with_source (R.with_results o l) k) j) b) = here _ (selected _) refl (omega (arith, selected_depth (R.terms d is)))
ends_selected (R.tail_limited {q = d} k) = here _ (selected _) refl (omega (arith, selected_depth d))

ends_ended : (r : Stmt) → EndsIn (deepest r) 0 (s.Flat (p.Ended r))
unfolding finish place_finish
ends_ended r = here _ r refl (omega arith)

ends_result : (i : Option Target) (is : List ResultItem) → EndsIn (results_depth is) 0 (s.Flat (p.Select (sp.Result (R.results (L.query i) is))))
unfolding step finish place_step create_step drop_step insert_step update_step delete_step select_step place_finish
ends_result i is =
    let d = add_result (R.results (L.query i) is) item.All in
    before {e' = 0} _ t.Star (s.Flat (p.Select (sp.Tail stage.Results d))) (λ n. omega arith) refl (here _ (selected d) refl (omega (arith, selected_depth d, results_more is item.All)))

ends_column : (z : NewTable) (d : ColumnDef) → EndsIn 0 0 (s.Flat (p.Create (cp.Column z d)))
unfolding step place_step create_step drop_step insert_step update_step delete_step select_step
ends_column z d = before {e' = 0} _ t.Close (s.Flat (p.Ended (L.create (L.add_column z d)))) (λ n. omega arith) refl (ends_ended _)

ends_kind : (z : NewTable) (n : Text) → EndsIn 0 0 (s.Flat (p.Create (cp.ColumnNamed z n)))
unfolding step place_step create_step drop_step insert_step update_step delete_step select_step
ends_kind z n = before {e' = 0} _ (t.Word [] w.Text) (s.Flat (p.Create (cp.Column z _))) (λ n. omega arith) refl (ends_column _ _)

ends_columns : (z : NewTable) → EndsIn 0 0 (s.Flat (p.Create (cp.ColumnStart z)))
unfolding step place_step create_step drop_step insert_step update_step delete_step select_step
ends_columns z = before {e' = 0} _ (t.Quoted []) (s.Flat (p.Create (cp.ColumnNamed z []))) (λ n. omega arith) refl (ends_kind z [])

ends_create_named : (b : Bool) (n : Text) → EndsIn 0 1 (s.Flat (p.Create (cp.Named b n)))
unfolding step place_step create_step drop_step insert_step update_step delete_step select_step
ends_create_named b n = before {e' = 0} _ t.Open (s.Flat (p.Create (cp.ColumnStart (new_table b n)))) (λ n. omega arith) refl (ends_columns _)

ends_create_table : EndsIn 0 1 (s.Flat (p.Create cp.Table))
unfolding step place_step create_step drop_step insert_step update_step delete_step select_step
ends_create_table = before {e' = 1} _ (t.Quoted []) (s.Flat (p.Create (cp.Named false []))) (λ n. omega arith) refl (ends_create_named _ _)

ends_create_if_not_exists : EndsIn 0 1 (s.Flat (p.Create cp.IfNotExists))
unfolding step place_step create_step drop_step insert_step update_step delete_step select_step
ends_create_if_not_exists = before {e' = 1} _ (t.Quoted []) (s.Flat (p.Create (cp.Named true []))) (λ n. omega arith) refl (ends_create_named _ _)

ends_drop_table : EndsIn 0 0 (s.Flat (p.Drop dp.Table))
unfolding step place_step create_step drop_step insert_step update_step delete_step select_step
ends_drop_table = before {e' = 0} _ (t.Quoted []) (s.Flat (p.Ended (stmt.Drop false []))) (λ n. omega arith) refl (ends_ended _)

ends_target : (i : Target) → EndsIn 0 0 (s.Flat (p.Insert (ip.Columns i)))
unfolding step place_step create_step drop_step insert_step update_step delete_step select_step
ends_target i = before {e' = 0} _ (t.Word [] w.Select) (s.Flat (p.Select (sp.Result (L.query (Some i))))) (λ n. omega arith) refl (ends_result (Some i) [])

ends_table : (n : Text) → EndsIn 0 0 (s.Flat (p.Insert (ip.Table n)))
unfolding step place_step create_step drop_step insert_step update_step delete_step select_step
ends_table n = before {e' = 0} _ (t.Word [] w.Select) (s.Flat (p.Select (sp.Result (L.query (Some (target n None)))))) (λ n. omega arith) refl (ends_result (Some (target n None)) [])

ends_into : EndsIn 0 0 (s.Flat (p.Insert ip.Into))
unfolding step place_step create_step drop_step insert_step update_step delete_step select_step
ends_into = before {e' = 0} _ (t.Quoted []) (s.Flat (p.Insert (ip.Table []))) (λ n. omega arith) refl (ends_table [])

ends_names : (n : Text) (ns : List Text) → EndsIn 0 0 (s.Flat (p.Insert (ip.Names n ns)))
unfolding step place_step create_step drop_step insert_step update_step delete_step select_step
ends_names n ns = before {e' = 0} _ t.Close (s.Flat (p.Insert (ip.Columns (target n (Some ns))))) (λ n. omega arith) refl (ends_target _)

ends_name_start : (n : Text) (ns : List Text) → EndsIn 0 0 (s.Flat (p.Insert (ip.NameStart n ns)))
unfolding step place_step create_step drop_step insert_step update_step delete_step select_step
ends_name_start n ns = before {e' = 0} _ (t.Quoted []) (s.Flat (p.Insert (ip.Names n (ns ++ [] ∷ [])))) (λ n. omega arith) refl (ends_names _ _)

ends_values : (i : Target) (rs : List (List Expr)) → EndsIn (max 1 (rows_depth rs)) 1 (s.Flat (p.Insert (ip.Values i rs)))
unfolding step place_step create_step drop_step insert_step update_step delete_step select_step
ends_values i rs = before {e' = 0} _ t.Open (s.Operand (f.Clause (c.Row i rs []) ∷ [])) (λ n. omega arith) refl (wider _ (omega arith) (ends_operand _ (clause_fit (row_ends i rs []))))

ends_set_name : (n : Text) (is : List (Text × Expr)) (m : Text) → EndsIn (max 1 (sets_depth is)) 0 (s.Flat (p.Update (up.SetName n is m)))
unfolding step place_step create_step drop_step insert_step update_step delete_step select_step
ends_set_name n is m = before {e' = 0} _ t.Equal (s.Operand (f.Clause (c.Set n is m) ∷ [])) (λ n. omega arith) refl (wider _ (omega arith) (ends_operand _ (clause_fit (set_ends n is m))))

ends_set_start : (n : Text) (is : List (Text × Expr)) → EndsIn (max 1 (sets_depth is)) 0 (s.Flat (p.Update (up.SetStart n is)))
unfolding step place_step create_step drop_step insert_step update_step delete_step select_step
ends_set_start n is = before {e' = 0} _ (t.Quoted []) (s.Flat (p.Update (up.SetName n is []))) (λ n. omega arith) refl (ends_set_name _ _ _)

ends_update_table : (n : Text) → EndsIn 1 0 (s.Flat (p.Update (up.Table n)))
unfolding step place_step create_step drop_step insert_step update_step delete_step select_step
ends_update_table n = before {e' = 0} _ (t.Word [] w.Set) (s.Flat (p.Update (up.SetStart n []))) (λ n. omega arith) refl (ends_set_start n [])

ends_delete_table : (n : Text) → EndsIn 0 0 (s.Flat (p.Delete (del.Table n)))
unfolding finish place_finish
ends_delete_table n = here _ (stmt.Delete n None) refl (omega arith)

ends_delete_from : EndsIn 0 0 (s.Flat (p.Delete del.From))
unfolding step place_step create_step drop_step insert_step update_step delete_step select_step
ends_delete_from = before {e' = 0} _ (t.Quoted []) (s.Flat (p.Delete (del.Table []))) (λ n. omega arith) refl (ends_delete_table [])

ends_place : {x y : Tokens} {z : Place} → Came x z y → EndsIn (place_weight z) (place_due z) (s.Flat z)
unfolding step finish place_step create_step drop_step insert_step update_step delete_step select_step place_finish
ends_place R.at_start = before {e' = 0} _ (t.Word [] w.Select) (s.Flat (p.Select (sp.Result (L.query None)))) (λ n. omega arith) refl (ends_result None [])
ends_place R.at_create = before {e' = 1} _ (t.Word [] w.Table) (s.Flat (p.Create cp.Table)) (λ n. omega arith) refl ends_create_table
ends_place R.at_create_table = ends_create_table
ends_place (R.at_create_if {n = n}) = before {e' = 0} _ t.Open (s.Flat (p.Create (cp.ColumnStart (new_table false n)))) (λ n. omega arith) refl (ends_columns _)
ends_place R.at_create_if_not = before {e' = 1} _ (t.Word [] w.Exists) (s.Flat (p.Create cp.IfNotExists)) (λ n. omega arith) refl ends_create_if_not_exists
ends_place R.at_create_if_not_exists = ends_create_if_not_exists
ends_place (R.at_create_named {b = b} {n = n} i k) = ends_create_named b n
ends_place (R.at_column_start {z = z} i) = ends_columns z
ends_place (R.at_column_named {z = z} {n = n} i k) = ends_kind z n
ends_place (R.at_column {z = z} {d = d} i j) = ends_column z d
ends_place (R.at_primary {z = z} {d = d} i j g) = before {e' = 0} _ (t.Word [] w.Key) (s.Flat (p.Create (cp.Column z (L.with_primary d)))) (λ n. omega arith) refl (ends_column _ _)
ends_place (R.at_not {z = z} {d = d} i j g) = before {e' = 0} _ (t.Word [] w.Null) (s.Flat (p.Create (cp.Column z (L.with_not_null d)))) (λ n. omega arith) refl (ends_column _ _)
ends_place R.at_drop = before {e' = 0} _ (t.Word [] w.Table) (s.Flat (p.Drop dp.Table)) (λ n. omega arith) refl ends_drop_table
ends_place R.at_drop_table = ends_drop_table
ends_place (R.at_drop_if {n = n}) = here _ (stmt.Drop false n) refl (omega arith)
ends_place R.at_drop_if_exists = before {e' = 0} _ (t.Quoted []) (s.Flat (p.Ended (stmt.Drop true []))) (λ n. omega arith) refl (ends_ended _)
ends_place R.at_insert = before {e' = 0} _ (t.Word [] w.Into) (s.Flat (p.Insert ip.Into)) (λ n. omega arith) refl ends_into
ends_place R.at_into = ends_into
ends_place (R.at_table {n = n} k) = ends_table n
ends_place (R.at_name_start {n = n} {ns = ns} k b) = ends_name_start n ns
ends_place (R.at_names {n = n} {ns = ns} k j) = ends_names n ns
ends_place (R.at_columns {n = n} {ns = ns} k j) = ends_target (target n ns)
ends_place (R.at_values {n = n} {ns = ns} {rs = rs} k j b) = ends_values (target n ns) rs
ends_place (R.at_rows {n = n} {ns = ns} {rs = rs} k j b) = here _ (L.insert (target n ns) rs) refl (omega arith)
ends_place R.at_update = before {e' = 0} _ (t.Quoted []) (s.Flat (p.Update (up.Table []))) (λ n. omega arith) refl (ends_update_table [])
ends_place (R.at_update_table {n = n} k) = ends_update_table n
ends_place (R.at_set_start {n = n} {is = is} k b) = ends_set_start n is
ends_place (R.at_set_name {n = n} {k = m} {is = is} k b j) = ends_set_name n is m
ends_place (R.at_sets {n = n} {is = is} k j) = here _ (stmt.Update n is None) refl (omega arith)
ends_place R.at_delete = before {e' = 0} _ (t.Word [] w.From) (s.Flat (p.Delete del.From)) (λ n. omega arith) refl ends_delete_from
ends_place R.at_delete_from = ends_delete_from
ends_place (R.at_delete_table {n = n} k) = ends_delete_table n
ends_place (R.at_result {i = i} {is = is} o b) = ends_result i is
ends_place (R.at_alias {i = i} {is = is} {a = a} o b k) =
    let d = add_result (R.results (L.query i) is) (item.Value a (Some [])) in
    before {e' = 0} _ (t.Quoted []) (s.Flat (p.Select (sp.Tail stage.Results d))) (λ n. omega arith) refl (here _ (selected d) refl (omega (arith, selected_depth d, results_more is (item.Value a (Some [])))))
ends_place (R.tail_results k) = ends_selected (R.tail_results k)
ends_place (R.tail_source k) = ends_selected (R.tail_source k)
ends_place (R.tail_filtered k) = ends_selected (R.tail_filtered k)
ends_place (R.tail_ordered k l) = ends_selected (R.tail_ordered k l)
ends_place (R.tail_limited k) = ends_selected (R.tail_limited k)
ends_place (R.at_from (R.with_results {i = i} {is = is} o l)) =
    let d = L.with_table (R.results (L.query i) is) [] in
    before {e' = 0} _ (t.Quoted []) (s.Flat (p.Select (sp.Tail stage.Source d))) (λ n. omega arith) refl (here _ (selected d) refl (omega (arith, selected_depth d)))
ends_place (R.at_order (R.with_filter {a = g} (R.with_source {n = n} (R.with_results {i = i} {is = is} o l) k) j)) =
    before {e' = 0} _ (t.Word [] w.By) (s.Operand (f.Clause (c.Order (R.filtered (R.sourced (R.results (L.query i) is) n) g)) ∷ [])) (λ n. omega arith) refl (wider _ (omega arith) (ends_operand _ (clause_fit (order_ends i is n g []))))
ends_place (R.at_ended {r = r} k) = ends_ended r

-- ---- any state

name_ends : (st : Stack) (n : Text) → Fit st → EndsIn (least st 1) 0 (s.Done st 9 (e.Name n))
name_ends st n i = wider _ (omega (arith, ap (least st) (depth_name n))) (ends_done st i 9 (e.Name n) (room_max st))

empty_call : (st : Stack) (n : Text) → Fit st → EndsIn (least st 2) 0 (s.Done st 9 (e.Call n []))
empty_call st n i = wider _ (deeper st (depth (e.Call n [])) 2 (omega (arith, depth_call n []))) (ends_done st i 9 _ (room_max st))

empty_list : (st : Stack) (d : Bool) (a : Expr) → Fit st → room st ≤ 4 → EndsIn (least st (suc (depth a))) 0 (s.Listed st d a)
unfolding step
empty_list st d a i h = before {e' = 0} (s.Listed st d a) t.Close (s.Done st 4 (e.InList d a [])) (λ n. omega arith) refl (wider _ (deeper st (depth (e.InList d a [])) (suc (depth a)) (omega (arith, depth_in d a []))) (ends_done st i 4 _ h))

in_ends : (st : Stack) (d : Bool) (a : Expr) → Fit st → room st ≤ 4 → EndsIn (least st (suc (depth a))) 1 (s.In st d a)
unfolding step
in_ends st d a i h = before {e' = 0} (s.In st d a) t.Open (s.Listed st d a) (λ n. omega arith) refl (empty_list st d a i h)

atom_depth : {u : Token} {a : Expr} → G.Atom u a → depth a ≡ 1
atom_depth G.null = depth_literal v.Null
atom_depth (G.number {n = n} h) = depth_literal (v.Int (pos n))
atom_depth (G.text {n = n}) = depth_literal (v.Text n)
atom_depth (G.blob {n = n}) = depth_literal (v.Blob n)
atom_depth (G.param {n = n}) = depth_param n
atom_depth G.current_timestamp = depth_timestamp
atom_depth G.current_date = depth_date
atom_depth G.current_time = depth_time

some_depth : {k : ℕ} {x y : Tokens} {a : Expr} → G.At k x a y → 1 ≤ depth a
some_depth (G.atom q) = omega (arith, atom_depth q)
some_depth (G.negative {n = n} h) = omega (arith, depth_literal (v.Int (neg_ℤ (pos n))))
some_depth (G.name {n = n} q) = omega (arith, depth_name n)
some_depth (G.qualified {n = n} {m = m} q r) = omega (arith, depth_qualified n m)
some_depth G.count_all = omega (arith, depth_count_all)
some_depth (G.call {n = n} {xs = xs} i j l) = omega (arith, depth_call (upper n) xs)
some_depth (G.paren q) = some_depth q
some_depth (G.plus q) = some_depth q
some_depth (G.minus {a = a} i q) = omega (arith, depth_minus a)
some_depth (G.not {a = a} i q) = omega (arith, depth_not a)
some_depth (G.binary {o = o} {a = a} {b = b} i q w r) = omega (arith, depth_binary o a b)
some_depth (G.among {d = d} {a = a} {xs = xs} i q w l) = omega (arith, depth_in d a xs)
some_depth (G.between {d = d} {a = a} {b = b} {c = c} i q w r r') = omega (arith, depth_between d a b c)

pub ends_any : {x y : Tokens} {z : State} → Reached x z y → EndsIn (weight z) (due z) z
unfolding step
ends_any (R.at_place k) = ends_place k
ends_any (R.at_operand q) = ends_operand _ (fit q)
ends_any (R.at_signed {st = st} q) = before {e' = 0} (s.Signed st) (t.Numeral 0) (s.Done st 9 (e.Literal (v.Int (neg_ℤ (pos 0))))) (λ n. omega arith) refl (wider _ (omega (arith, ap (least st) (depth_literal (v.Int (neg_ℤ (pos 0)))))) (ends_done st (fit q) 9 _ (room_max st)))
ends_any (R.at_quoted {st = st} {n = n} q) = let k = name_ends st n (fit q) in record { rest = k.rest; stmt = k.stmt; reads = quoted_as_done st n k.rest k.stmt k.reads; shallow = k.shallow; narrow = k.narrow }
ends_any (R.at_named {st = st} {n = n} i j q) = let k = name_ends st n (fit q) in record { rest = k.rest; stmt = k.stmt; reads = named_as_done st false n k.rest k.stmt k.reads; shallow = k.shallow; narrow = k.narrow }
ends_any (R.at_count {st = st} {n = n} q) = let k = name_ends st n (fit q) in record { rest = k.rest; stmt = k.stmt; reads = named_as_done st true n k.rest k.stmt k.reads; shallow = k.shallow; narrow = k.narrow }
ends_any (R.at_dotted {st = st} {n = n} u q) = before {e' = 0} (s.Dotted st n) (t.Quoted []) (s.Done st 9 (e.Qualified n [])) (λ n. omega arith) refl (wider _ (omega (arith, ap (least st) (depth_qualified n []))) (ends_done st (fit q) 9 _ (room_max st)))
ends_any (R.at_opened {st = st} {n = n} i j q) = before {e' = 0} _ t.Close (s.Done st 9 (e.Call (upper n) [])) (λ n. omega arith) refl (empty_call st (upper n) (fit q))
ends_any (R.at_opened_count {st = st} {n = n} q) = before {e' = 0} _ t.Star (s.Counted st) (λ n. omega arith) refl (before {e' = 0} _ t.Close (s.Done st 9 e.CountAll) (λ n. omega arith) refl (wider _ (omega (arith, ap (least st) depth_count_all)) (ends_done st (fit q) 9 _ (room_max st))))
ends_any (R.at_counted {st = st} q) = before {e' = 0} _ t.Close (s.Done st 9 e.CountAll) (λ n. omega arith) refl (wider _ (omega (arith, ap (least st) depth_count_all)) (ends_done st (fit q) 9 _ (room_max st)))
ends_any (R.at_done {st = st} {m = m} {a = a} q r h l) = ends_done st (fit q) m a h
ends_any (R.at_denied {st = st} {a = a} q r h) = before {e' = 0} _ (t.Word [] w.Like) (s.Operand (f.Binary op.NotLike a ∷ st)) (λ n. omega arith) refl (wider _ (deeper st (suc (max (depth a) 1)) (suc (depth a)) (omega (arith, some_depth r))) (ends_operand _ (binary_fit (fit q) h)))
ends_any (R.at_is {st = st} {a = a} q r h) = before {e' = 0} (s.Is st a) (t.Word [] w.Not) (s.Operand (f.Binary op.IsNot a ∷ st)) (λ n. omega arith) refl (ends_operand _ (binary_fit (fit q) h))
ends_any (R.at_in {st = st} {d = d} {a = a} q r h i) = in_ends st d a (fit q) h
ends_any (R.at_listed {st = st} {d = d} {a = a} q r h i) = empty_list st d a (fit q) h
