-- A token never makes a statement less deep.
use Rattle.std.proofs.Common.{◌≡◌, ℕ, suc, ◌≤◌, ◌^◌, max, Bool, true, false, cond, List, [], ◌∷◌, ◌++◌, Option, Some, None, refl, ◌∙◌, ap, subst, arith, pos}
use Rattle.std.specs.Prelude.{nat_le, nat_lt, ◌&&◌, ◌||◌, neg_ℤ}
use Rattle.rq_values.specs.declared.value.Value.TheVariants as v
use Rattle.rq_grammar.specs.declared.word.Word.{Word}
use Rattle.rq_grammar.specs.declared.word.Word.TheVariants as w
use Rattle.rq_grammar.specs.declared.token.Token.{Token}
use Rattle.rq_grammar.specs.declared.token.Token.TheVariants as t
use Rattle.rq_grammar.specs.declared.expr.BinaryOp.{BinaryOp}
use Rattle.rq_grammar.specs.declared.expr.BinaryOp.TheVariants as op
use Rattle.rq_grammar.specs.declared.expr.Expr.{Expr}
use Rattle.rq_grammar.specs.declared.expr.Expr.TheVariants as e
use Rattle.rq_grammar.specs.declared.stmt.ResultItem.TheVariants as item
use Rattle.rq_grammar.specs.declared.stmt.SelectStmt.{SelectStmt}
use Rattle.rq_grammar.specs.declared.stmt.Stmt.{Stmt}
use Rattle.rq_grammar.specs.declared.stmt.Stmt.TheVariants as stmt
use Rattle.rq_automaton.specs.declared.place.Target.{Target}
use Rattle.rq_automaton.specs.declared.place.Query.{Query}
use Rattle.rq_automaton.specs.declared.place.Stage.{Stage}
use Rattle.rq_automaton.specs.declared.place.Stage.TheVariants as stage
use Rattle.rq_automaton.specs.declared.place.Place.{Place}
use Rattle.rq_automaton.specs.declared.place.Place.TheVariants as p
use Rattle.rq_automaton.specs.declared.place.DropPlace.TheVariants as dp
use Rattle.rq_automaton.specs.declared.place.InsertPlace.TheVariants as ip
use Rattle.rq_automaton.specs.declared.place.UpdatePlace.TheVariants as up
use Rattle.rq_automaton.specs.declared.place.DeletePlace.TheVariants as del
use Rattle.rq_automaton.specs.declared.place.SelectPlace.TheVariants as sp
use Rattle.rq_automaton.specs.declared.frame.Clause.{Clause}
use Rattle.rq_automaton.specs.declared.frame.Clause.TheVariants as c
use Rattle.rq_automaton.specs.declared.frame.Frame.{Frame}
use Rattle.rq_automaton.specs.declared.frame.Frame.TheVariants as f
use Rattle.rq_automaton.specs.declared.frame.State.{State}
use Rattle.rq_automaton.specs.declared.frame.State.TheVariants as s
use Rattle.rq_grammar.specs.Words.{Text, is_reserved, is_time}
use Rattle.rq_grammar.specs.Grammar.{level}
use Rattle.rq_grammar.specs.Statements.{rising, falling}
use Rattle.rq_automaton.specs.Stack as K
use Rattle.rq_automaton.specs.Stack.{Stack, room, closes, build, reduce, tied, grouped, with_plus, split, and_at, operand, operand_word}
use Rattle.rq_automaton.specs.Stack.{binary as binary_at}
use Rattle.rq_automaton.specs.Places as L
use Rattle.rq_automaton.specs.Places.{flat, name_of, on_name, selected, place_step, create_step, drop_step, insert_step, update_step, delete_step, select_step, place_finish, behind_ended}
use Rattle.rq_automaton.specs.Machine as M
use Rattle.rq_automaton.specs.Machine.{step, finish, done, ended_at, ended_on, end_at, end_on, clause_on, land, landed, landed_end}
use Rattle.rq_grammar.specs.Depth.{depth, rows_depth, sets_depth, select_depth, deepest}
use Rattle.rq_automaton.specs.Load.{stage_depth, clause_least}
use Rattle.rq_automaton.specs.Weight.{least, place_weight, weight}
use Rattle.rq_automaton.proofs.Depths.{depth_literal, depth_param, depth_name, depth_qualified, depth_timestamp, depth_date, depth_time, depth_count_all, depth_call, depth_minus, depth_not, depth_binary, depth_in, depth_between, depths_more, rows_more, results_more, order_more, sets_more}
use Rattle.rq_automaton.proofs.Sound.{guard, unless, on_some}

pub clause_deeper : (k : Clause) (d d' : ℕ) → d ≤ d' → clause_least k d ≤ clause_least k d'
clause_deeper (c.Row i rs xs) d d' h = omega arith
clause_deeper (c.Results q) d d' h = omega arith
clause_deeper (c.Filter q) d d' h = omega arith
clause_deeper (c.Order q) d d' h = omega arith
clause_deeper (c.Limit q) d d' h = omega arith
clause_deeper (c.Offset q) d d' h = omega arith
clause_deeper (c.Set n is m) d d' h = omega arith
clause_deeper (c.UpdateFilter n is) d d' h = omega arith
clause_deeper (c.DeleteFilter n) d d' h = omega arith

-- deeper operands make deeper statements
pub deeper : (st : Stack) (d d' : ℕ) → d ≤ d' → least st d ≤ least st d'
deeper [] d d' h = h
deeper (f.Binary o a ∷ st) d d' h = deeper st _ _ (omega arith)
deeper (f.Not ∷ st) d d' h = deeper st _ _ (omega arith)
deeper (f.Plus ∷ st) d d' h = deeper st _ _ h
deeper (f.Minus ∷ st) d d' h = deeper st _ _ (omega arith)
deeper (f.Low n a ∷ st) d d' h = deeper st _ _ (omega arith)
deeper (f.High n a b ∷ st) d d' h = deeper st _ _ (omega arith)
deeper (f.Paren ∷ st) d d' h = deeper st _ _ h
deeper (f.Args n xs ∷ st) d d' h = deeper st _ _ (omega arith)
deeper (f.Among n a xs ∷ st) d d' h = deeper st _ _ (omega arith)
deeper (f.Clause k ∷ st) d d' h = clause_deeper k d d' h

-- a frame that ends
closed : (k : ℕ) (g : Frame) (st : Stack) (a : Expr) → closes k g ≡ true → least st (depth (build g a)) ≡ least (g ∷ st) (depth a)
closed k (f.Binary o b) st a h = ap (least st) (depth_binary o b a)
closed k f.Not st a h = ap (least st) (depth_not a)
closed k f.Plus st a h = refl
closed k f.Minus st a h = ap (least st) (depth_minus a)
closed k (f.High n b c) st a h = ap (least st) (depth_between n b c a)
closed k g st a h = absurd (cc)

-- ending what ends changes nothing
pub reduced_least : (k : ℕ) (st : Stack) (a : Expr) → least (reduce k st a).0 (depth (reduce k st a).1) ≡ least st (depth a)
reduced_least k [] a = refl
reduced_least k (g ∷ st) a = elim (closes k g) as (λ b. closes k g ≡ b → least (cond b (reduce k st (build g a)) (g ∷ st, a)).0 (depth (cond b (reduce k st (build g a)) (g ∷ st, a)).1) ≡ least (g ∷ st) (depth a)) [
  | true ↦ λ h. reduced_least k st (build g a) ∙ closed k g st a h
  | false ↦ λ h. refl
] refl

-- ---- operands

pub moved : {n : ℕ} {z q : State} → Some z ≡ Some q → n ≤ weight z → n ≤ weight q
moved {n = n} {z = z} {q = q} h l = let e : z ≡ q = cc in subst (λ v. n ≤ weight v) e l

pub set_deeper : {n : ℕ} {z : Place} {q : State} → flat z ≡ Some q → n ≤ place_weight z → n ≤ weight q
set_deeper h l = moved h l

plus_least : (st : Stack) (d : ℕ) → least (with_plus st) d ≡ least st d
plus_least [] d = refl
plus_least (f.Plus ∷ st) d = refl
plus_least (g ∷ st) d = refl

word_deeper : {q : State} (st : Stack) (n : Text) (k : Word) → operand_word st n k ≡ Some q → least st 1 ≤ weight q
word_deeper st n w.Null h = moved h (deeper st 1 _ (omega (arith, depth_literal v.Null)))
word_deeper st n w.CurrentTimestamp h = moved h (deeper st 1 _ (omega (arith, depth_timestamp)))
word_deeper st n w.CurrentDate h = moved h (deeper st 1 _ (omega (arith, depth_date)))
word_deeper st n w.CurrentTime h = moved h (deeper st 1 _ (omega (arith, depth_time)))
word_deeper st n w.Not h = let g = guard (nat_le (room st) 3) _ _ h in moved g.1 (deeper st 1 2 (omega arith))
word_deeper st n w.Count h = moved h (omega arith)
word_deeper st n k h = let g = unless (is_reserved k) (s.Named st false n) _ h in moved g.1 (omega arith)

pub operand_deeper : {q : State} (st : Stack) (u : Token) → operand st u ≡ Some q → least st 1 ≤ weight q
operand_deeper st (t.Word n k) h = word_deeper st n k h
operand_deeper st (t.Quoted n) h = moved h (omega arith)
operand_deeper st (t.String n) h = moved h (deeper st 1 _ (omega (arith, depth_literal (v.Text n))))
operand_deeper st (t.Blob n) h = moved h (deeper st 1 _ (omega (arith, depth_literal (v.Blob n))))
operand_deeper st (t.Numeral n) h = let g = guard (nat_lt n (2 ^ 63)) _ _ h in moved g.1 (deeper st 1 _ (omega (arith, depth_literal (v.Int (pos n)))))
operand_deeper st (t.Parameter n) h = moved h (deeper st 1 _ (omega (arith, depth_param n)))
operand_deeper st t.Open h = moved h (omega arith)
operand_deeper st t.Plus h = moved h (omega (arith, plus_least st 1))
operand_deeper st t.Minus h = moved h (omega arith)
operand_deeper st u h = absurd (cc)

-- ---- places

named_deeper : {m : ℕ} {q : State} (u : Token) (next : Text → Place) → on_name (name_of u) next ≡ Some q → ((n : Text) → m ≤ place_weight (next n)) → m ≤ weight q
named_deeper (t.Word n k) next h l = set_deeper (on_some (is_reserved k) n next h).1 (l n)
named_deeper (t.Quoted n) next h l = set_deeper h (l n)
named_deeper _ next h l = absurd (cc)

ended_deeper : {q : State} (r : Stmt) (u : Token) → behind_ended r u ≡ Some q → deepest r ≤ weight q
ended_deeper r t.Semi h = set_deeper h (omega arith)
ended_deeper r u h = absurd (cc)

into_depth : (i : Option Target) (q : SelectStmt) → deepest (L.select_into i q) ≡ select_depth q
into_depth None q = refl
into_depth (Some i) q = refl

pub selected_depth : (q : Query) → deepest (selected q) ≡ select_depth q.select
selected_depth q = into_depth q.target q.select

-- the rest of a select, from a stage on
order_by_deeper : {q : State} (d : Query) (u : Token) → L.behind_order_by d u ≡ Some q → stage_depth stage.Ordered d ≤ weight q
order_by_deeper d (t.Word n w.Limit) h = moved h (omega arith)
order_by_deeper d u h = omega (arith, ended_deeper (selected d) u h, selected_depth d)

where_deeper : {q : State} (d : Query) (u : Token) → L.behind_where d u ≡ Some q → stage_depth stage.Filtered d ≤ weight q
where_deeper d (t.Word n w.Order) h = set_deeper h (omega arith)
where_deeper d u h = omega (arith, order_by_deeper d u h)

from_deeper : {q : State} (d : Query) (u : Token) → L.behind_from d u ≡ Some q → stage_depth stage.Source d ≤ weight q
from_deeper d (t.Word n w.Where) h = moved h (omega arith)
from_deeper d u h = omega (arith, where_deeper d u h)

results_deeper : {q : State} (d : Query) (u : Token) → L.behind_results d u ≡ Some q → stage_depth stage.Results d ≤ weight q
results_deeper d (t.Word n w.From) h = set_deeper h (omega arith)
results_deeper d u h = from_deeper d u h

tail_deeper : {q : State} (g : Stage) (d : Query) (u : Token) → L.tail g d u ≡ Some q → stage_depth g d ≤ weight q
tail_deeper stage.Results d t.Comma h = set_deeper h (omega arith)
tail_deeper stage.Results d u h = results_deeper d u h
tail_deeper stage.Source d u h = from_deeper d u h
tail_deeper stage.Filtered d u h = where_deeper d u h
tail_deeper stage.Ordered d t.Comma h = moved h (omega arith)
tail_deeper stage.Ordered d u h = order_by_deeper d u h
tail_deeper stage.Limited d u h = omega (arith, ended_deeper (selected d) u h, selected_depth d)

result_deeper : {q : State} (d : Query) (u : Token) → L.result d u ≡ Some q → stage_depth stage.Results d ≤ weight q
result_deeper d t.Star h = set_deeper h (omega (arith, results_more d.select.results item.All))
result_deeper d u h = omega (arith, operand_deeper (f.Clause (c.Results d) ∷ []) u h)

order_place_deeper : {q : State} (d : Query) (u : Token) → L.behind_order d u ≡ Some q → max 1 (stage_depth stage.Filtered d) ≤ weight q
order_place_deeper d (t.Word n w.By) h = moved h (omega arith)
order_place_deeper d u h = absurd (cc)

values_deeper : {q : State} (i : Target) (rs : List (List Expr)) (u : Token) → L.behind_values i rs u ≡ Some q → max 1 (rows_depth rs) ≤ weight q
values_deeper i rs t.Open h = moved h (omega arith)
values_deeper i rs u h = absurd (cc)

rows_deeper : {q : State} (i : Target) (rs : List (List Expr)) (u : Token) → L.behind_rows i rs u ≡ Some q → rows_depth rs ≤ weight q
rows_deeper i rs t.Comma h = set_deeper h (omega arith)
rows_deeper i rs u h = ended_deeper (L.insert i rs) u h

update_deeper : {q : State} (n : Text) (u : Token) → L.behind_update n u ≡ Some q → 1 ≤ weight q
update_deeper n (t.Word m w.Set) h = set_deeper h (omega arith)
update_deeper n u h = absurd (cc)

set_name_deeper : {q : State} (n : Text) (is : List (Text × Expr)) (m : Text) (u : Token) → L.behind_set_name n is m u ≡ Some q → max 1 (sets_depth is) ≤ weight q
set_name_deeper n is m t.Equal h = moved h (omega arith)
set_name_deeper n is m u h = absurd (cc)

sets_deeper : {q : State} (n : Text) (is : List (Text × Expr)) (u : Token) → L.behind_sets n is u ≡ Some q → sets_depth is ≤ weight q
sets_deeper n is t.Comma h = set_deeper h (omega arith)
sets_deeper n is (t.Word m w.Where) h = moved h (omega arith)
sets_deeper n is u h = omega (arith, ended_deeper (stmt.Update n is None) u h)

pub place_deeper : {q : State} (z : Place) (u : Token) → place_step z u ≡ Some q → place_weight z ≤ weight q
unfolding place_step create_step drop_step insert_step update_step delete_step select_step
place_deeper (p.Insert (ip.Values i rs)) u h = values_deeper i rs u h
place_deeper (p.Insert (ip.Rows i rs)) u h = rows_deeper i rs u h
place_deeper (p.Update up.Begun) u h = named_deeper u (λ z. p.Update (up.Table z)) h (λ n. omega arith)
place_deeper (p.Update (up.Table n)) u h = update_deeper n u h
place_deeper (p.Update (up.SetStart n is)) u h = named_deeper u (λ z. p.Update (up.SetName n is z)) h (λ m. omega arith)
place_deeper (p.Update (up.SetName n is m)) u h = set_name_deeper n is m u h
place_deeper (p.Update (up.Sets n is)) u h = sets_deeper n is u h
place_deeper (p.Select (sp.Result d)) u h = result_deeper d u h
place_deeper (p.Select (sp.Alias d a)) u h = named_deeper u (λ n. p.Select (sp.Tail stage.Results (L.add_result d (item.Value a (Some n))))) h (λ n. omega (arith, results_more d.select.results (item.Value a (Some n))))
place_deeper (p.Select (sp.Tail g d)) u h = tail_deeper g d u h
place_deeper (p.Select (sp.From d)) u h = named_deeper u (λ n. p.Select (sp.Tail stage.Source (L.with_table d n))) h (λ n. omega arith)
place_deeper (p.Select (sp.Order d)) u h = order_place_deeper d u h
place_deeper (p.Ended r) u h = ended_deeper r u h
place_deeper _ u h = omega arith

-- ---- behind a clause's expression

settled : {n : ℕ} {z z' : Place} → Some z ≡ Some z' → n ≤ place_weight z → n ≤ place_weight z'
settled {n = n} {z = z} {z' = z'} h l = let e : z ≡ z' = cc in subst (λ v. n ≤ place_weight v) e l

land_deeper : (k : Clause) (a : Expr) (z : Place) → land k a ≡ Some z → clause_least k (depth a) ≤ place_weight z
land_deeper (c.Row i rs xs) a z h = absurd (cc)
land_deeper (c.Results d) a z h = settled h (omega (arith, results_more d.select.results (item.Value a None)))
land_deeper (c.Filter d) a z h = settled h (omega arith)
land_deeper (c.Order d) a z h = settled h (omega (arith, order_more d.select.order (rising a)))
land_deeper (c.Limit d) a z h = settled h (omega arith)
land_deeper (c.Offset d) a z h = settled h (omega arith)
land_deeper (c.Set n is m) a z h = settled h (omega (arith, sets_more is (m, a)))
land_deeper (c.UpdateFilter n is) a z h = settled h (omega arith)
land_deeper (c.DeleteFilter n) a z h = settled h (omega arith)

landed_deeper : {q : State} {n : ℕ} (o : Option Place) (u : Token) → ((z : Place) → o ≡ Some z → n ≤ place_weight z) → landed o u ≡ Some q → n ≤ weight q
landed_deeper None u l h = absurd (cc)
landed_deeper (Some z) u l h = omega (arith, l z refl, place_deeper z u h)

lands_deeper : {q : State} (k : Clause) (a : Expr) (u : Token) → landed (land k a) u ≡ Some q → clause_least k (depth a) ≤ weight q
lands_deeper k a u h = landed_deeper (land k a) u (land_deeper k a) h

row_deeper : {q : State} (i : Target) (rs : List (List Expr)) (xs : List Expr) (a : Expr) (u : Token) → M.row_on i rs xs a u ≡ Some q → clause_least (c.Row i rs xs) (depth a) ≤ weight q
row_deeper i rs xs a t.Comma h = moved h (omega (arith, depths_more xs a))
row_deeper i rs xs a t.Close h = set_deeper h (omega (arith, rows_more rs (xs ++ a ∷ []), depths_more xs a))
row_deeper i rs xs a u h = absurd (cc)

results_on_deeper : {q : State} (d : Query) (a : Expr) (u : Token) → M.results_on d a u ≡ Some q → clause_least (c.Results d) (depth a) ≤ weight q
results_on_deeper d a (t.Word n w.As) h = set_deeper h (omega arith)
results_on_deeper d a u h = lands_deeper (c.Results d) a u h

order_on_deeper : {q : State} (d : Query) (a : Expr) (u : Token) → M.order_on d a u ≡ Some q → clause_least (c.Order d) (depth a) ≤ weight q
order_on_deeper d a (t.Word n w.Asc) h = set_deeper h (omega (arith, order_more d.select.order (rising a)))
order_on_deeper d a (t.Word n w.Desc) h = set_deeper h (omega (arith, order_more d.select.order (falling a)))
order_on_deeper d a u h = lands_deeper (c.Order d) a u h

limit_on_deeper : {q : State} (d : Query) (a : Expr) (u : Token) → M.limit_on d a u ≡ Some q → clause_least (c.Limit d) (depth a) ≤ weight q
limit_on_deeper d a (t.Word n w.Offset) h = moved h (omega arith)
limit_on_deeper d a u h = lands_deeper (c.Limit d) a u h

clause_on_deeper : {q : State} (k : Clause) (a : Expr) (u : Token) → clause_on k a u ≡ Some q → clause_least k (depth a) ≤ weight q
unfolding clause_on
clause_on_deeper (c.Row i rs xs) a u h = row_deeper i rs xs a u h
clause_on_deeper (c.Results d) a u h = results_on_deeper d a u h
clause_on_deeper (c.Order d) a u h = order_on_deeper d a u h
clause_on_deeper (c.Limit d) a u h = limit_on_deeper d a u h
clause_on_deeper (c.Filter d) a u h = lands_deeper (c.Filter d) a u h
clause_on_deeper (c.Offset d) a u h = lands_deeper (c.Offset d) a u h
clause_on_deeper (c.Set n is m) a u h = lands_deeper (c.Set n is m) a u h
clause_on_deeper (c.UpdateFilter n is) a u h = lands_deeper (c.UpdateFilter n is) a u h
clause_on_deeper (c.DeleteFilter n) a u h = lands_deeper (c.DeleteFilter n) a u h

-- ---- behind an operand

args_deeper : {q : State} (n : Text) (xs : List Expr) (st : Stack) (a : Expr) (u : Token) → M.args_on n xs st a u ≡ Some q → least (f.Args n xs ∷ st) (depth a) ≤ weight q
args_deeper n xs st a t.Comma h = moved h (deeper st _ _ (omega (arith, depths_more xs a)))
args_deeper n xs st a t.Close h = moved h (deeper st _ _ (omega (arith, depth_call n (xs ++ a ∷ []), depths_more xs a)))
args_deeper n xs st a u h = absurd (cc)

among_deeper : {q : State} (d : Bool) (b : Expr) (xs : List Expr) (st : Stack) (a : Expr) (u : Token) → M.among_on d b xs st a u ≡ Some q → least (f.Among d b xs ∷ st) (depth a) ≤ weight q
among_deeper d b xs st a t.Comma h = moved h (deeper st _ _ (omega (arith, depths_more xs a)))
among_deeper d b xs st a t.Close h = moved h (deeper st _ _ (omega (arith, depth_in d b (xs ++ a ∷ []), depths_more xs a)))
among_deeper d b xs st a u h = absurd (cc)

paren_deeper : {q : State} (st : Stack) (a : Expr) (u : Token) → M.paren_on st a u ≡ Some q → least (f.Paren ∷ st) (depth a) ≤ weight q
paren_deeper st a t.Close h = moved h (omega arith)
paren_deeper st a u h = absurd (cc)

ended_on_deeper : {q : State} (u : Token) (r : Stack × Expr) → split (ended_at u) r ≡ Some q → least r.0 (depth r.1) ≤ weight q
unfolding ended_on
ended_on_deeper u (f.Paren ∷ st, a) h = paren_deeper st a u h
ended_on_deeper u (f.Args n xs ∷ st, a) h = args_deeper n xs st a u h
ended_on_deeper u (f.Among d b xs ∷ st, a) h = among_deeper d b xs st a u h
ended_on_deeper u (f.Clause k ∷ st, a) h = clause_on_deeper k a u h
ended_on_deeper u r h = absurd (cc)

tied_deeper : {q : State} (k m : ℕ) (r : Stack × Expr) (f : Stack → Expr → State) → tied k m r f ≡ Some q → least r.0 (depth r.1) ≤ weight (f r.0 r.1) → least r.0 (depth r.1) ≤ weight q
tied_deeper k m r f h l = moved (guard (nat_le k m && nat_le (room r.0) k) _ _ h).1 l

binary_deeper : {q : State} (o : BinaryOp) (m : ℕ) (st : Stack) (a : Expr) → binary_at o m st a ≡ Some q → least st (depth a) ≤ weight q
binary_deeper o m st a h =
    let r = reduce (level o) st a in
    let l = tied_deeper (level o) m r (λ st a. s.Operand (f.Binary o a ∷ st)) h (deeper r.0 _ _ (omega arith)) in
    omega (arith, l, reduced_least (level o) st a)

group_deeper : {q : State} (f : Stack → Expr → State) (m : ℕ) (st : Stack) (a : Expr) → grouped m st a f ≡ Some q → ((st : Stack) (a : Expr) → least st (depth a) ≤ weight (f st a)) → least st (depth a) ≤ weight q
group_deeper f m st a h g =
    let r = reduce 4 st a in
    let l = tied_deeper 4 m r f h (g r.0 r.1) in
    omega (arith, l, reduced_least 4 st a)

and_deeper : {q : State} (m : ℕ) (r : Stack × Expr) → split (and_at m) r ≡ Some q → least r.0 (depth r.1) ≤ weight q
and_deeper m (f.Low d a ∷ st, b) h = moved h (omega arith)
and_deeper m (g ∷ st, b) h = tied_deeper 2 m (g ∷ st, b) (λ st a. s.Operand (f.Binary op.And a ∷ st)) h (deeper (g ∷ st) _ _ (omega arith))
and_deeper m ([], b) h = tied_deeper 2 m ([], b) (λ st a. s.Operand (f.Binary op.And a ∷ st)) h (omega arith)

ends_deeper : {q : State} (st : Stack) (a : Expr) (u : Token) → split (ended_at u) (reduce 0 st a) ≡ Some q → least st (depth a) ≤ weight q
ends_deeper st a u h = omega (arith, ended_on_deeper u (reduce 0 st a) h, reduced_least 0 st a)

done_word_deeper : {q : State} (m : ℕ) (st : Stack) (a : Expr) (n : Text) (k : Word) → M.done_word m st a n k ≡ Some q → least st (depth a) ≤ weight q
done_word_deeper m st a n w.Or h = binary_deeper op.Or m st a h
done_word_deeper m st a n w.And h = omega (arith, and_deeper m (reduce 2 st a) h, reduced_least 2 st a)
done_word_deeper m st a n w.Is h = group_deeper s.Is m st a h (λ st a. deeper st _ _ (omega arith))
done_word_deeper m st a n w.Like h = binary_deeper op.Like m st a h
done_word_deeper m st a n w.Not h = group_deeper s.Denied m st a h (λ st a. deeper st _ _ (omega arith))
done_word_deeper m st a n w.In h = group_deeper (λ st a. s.In st false a) m st a h (λ st a. deeper st _ _ (omega arith))
done_word_deeper m st a n w.Between h = group_deeper (λ st a. s.Operand (f.Low false a ∷ st)) m st a h (λ st a. deeper st _ _ (omega arith))
done_word_deeper m st a n w.As h = ends_deeper st a (t.Word n w.As) h
done_word_deeper m st a n w.From h = ends_deeper st a (t.Word n w.From) h
done_word_deeper m st a n w.Where h = ends_deeper st a (t.Word n w.Where) h
done_word_deeper m st a n w.Order h = ends_deeper st a (t.Word n w.Order) h
done_word_deeper m st a n w.Asc h = ends_deeper st a (t.Word n w.Asc) h
done_word_deeper m st a n w.Desc h = ends_deeper st a (t.Word n w.Desc) h
done_word_deeper m st a n w.Limit h = ends_deeper st a (t.Word n w.Limit) h
done_word_deeper m st a n w.Offset h = ends_deeper st a (t.Word n w.Offset) h
done_word_deeper m st a n _ h = absurd (cc)

done_deeper : {q : State} (m : ℕ) (st : Stack) (a : Expr) (u : Token) → done m st a u ≡ Some q → least st (depth a) ≤ weight q
unfolding done
done_deeper m st a (t.Word n k) h = done_word_deeper m st a n k h
done_deeper m st a t.Equal h = binary_deeper op.Equal m st a h
done_deeper m st a t.EqualEqual h = binary_deeper op.Equal m st a h
done_deeper m st a t.LessGreater h = binary_deeper op.NotEqual m st a h
done_deeper m st a t.BangEqual h = binary_deeper op.NotEqual m st a h
done_deeper m st a t.Less h = binary_deeper op.Less m st a h
done_deeper m st a t.LessEqual h = binary_deeper op.LessEqual m st a h
done_deeper m st a t.Greater h = binary_deeper op.Greater m st a h
done_deeper m st a t.GreaterEqual h = binary_deeper op.GreaterEqual m st a h
done_deeper m st a t.Plus h = binary_deeper op.Add m st a h
done_deeper m st a t.Minus h = binary_deeper op.Sub m st a h
done_deeper m st a t.Star h = binary_deeper op.Mul m st a h
done_deeper m st a t.Slash h = binary_deeper op.Div m st a h
done_deeper m st a t.Percent h = binary_deeper op.Rem m st a h
done_deeper m st a t.BarBar h = binary_deeper op.Concat m st a h
done_deeper m st a t.Comma h = ends_deeper st a t.Comma h
done_deeper m st a t.Close h = ends_deeper st a t.Close h
done_deeper m st a t.Semi h = ends_deeper st a t.Semi h
done_deeper m st a _ h = absurd (cc)

-- ---- any step

as_name : {q : State} (st : Stack) (n : Text) (u : Token) → done 9 st (e.Name n) u ≡ Some q → least st 1 ≤ weight q
as_name st n u h = omega (arith, done_deeper 9 st (e.Name n) u h, deeper st 1 (depth (e.Name n)) (omega (arith, depth_name n)))

quoted_deeper : {q : State} (st : Stack) (n : Text) (u : Token) → M.quoted st n u ≡ Some q → least st 1 ≤ weight q
quoted_deeper st n t.Dot h = moved h (omega arith)
quoted_deeper st n u h = as_name st n u h

named_on_deeper : {q : State} (st : Stack) (b : Bool) (n : Text) (u : Token) → M.named st b n u ≡ Some q → least st 1 ≤ weight q
named_on_deeper st b n t.Dot h = moved h (omega arith)
named_on_deeper st true n t.Open h = moved h (omega arith)
named_on_deeper st false n t.Open h = moved h (deeper st 1 2 (omega arith))
named_on_deeper st b n u h = as_name st n u h

dotted_deeper : {q : State} (st : Stack) (n : Text) (u : Token) → K.dotted st n u ≡ Some q → least st 1 ≤ weight q
dotted_deeper st n (t.Word m k) h = let g = unless (is_reserved k || is_time k) (s.Done st 9 (e.Qualified n m)) _ h in moved g.1 (deeper st 1 _ (omega (arith, depth_qualified n m)))
dotted_deeper st n (t.Quoted m) h = moved h (deeper st 1 _ (omega (arith, depth_qualified n m)))
dotted_deeper st n _ h = absurd (cc)

opened_deeper : {q : State} (st : Stack) (b : Bool) (n : Text) (u : Token) → K.opened st b n u ≡ Some q → weight (s.Opened st b n) ≤ weight q
opened_deeper st true n t.Close h = moved h (deeper st 1 _ (omega (arith, depth_call n [])))
opened_deeper st false n t.Close h = moved h (deeper st 2 _ (omega (arith, depth_call n [])))
opened_deeper st true n t.Star h = moved h (omega arith)
opened_deeper st true n u h = omega (arith, operand_deeper (f.Args n [] ∷ st) u h, deeper st 1 (suc (max 1 (max 0 1))) (omega arith))
opened_deeper st false n u h = omega (arith, operand_deeper (f.Args n [] ∷ st) u h)

counted_deeper : {q : State} (st : Stack) (u : Token) → K.counted st u ≡ Some q → least st 1 ≤ weight q
counted_deeper st t.Close h = moved h (deeper st 1 _ (omega (arith, depth_count_all)))
counted_deeper st _ h = absurd (cc)

signed_deeper : {q : State} (st : Stack) (u : Token) → K.signed st u ≡ Some q → least st 1 ≤ weight q
signed_deeper st (t.Numeral n) h = let g = guard (nat_le n (2 ^ 63)) _ _ h in moved g.1 (deeper st 1 _ (omega (arith, depth_literal (v.Int (neg_ℤ (pos n))))))
signed_deeper st u h = omega (arith, operand_deeper (f.Minus ∷ st) u h, deeper st 1 2 (omega arith))

denied_deeper : {q : State} (st : Stack) (a : Expr) (u : Token) → K.denied st a u ≡ Some q → least st (suc (depth a)) ≤ weight q
denied_deeper st a (t.Word n w.Like) h = moved h (deeper st _ _ (omega arith))
denied_deeper st a (t.Word n w.In) h = moved h (deeper st _ _ (omega arith))
denied_deeper st a (t.Word n w.Between) h = moved h (deeper st _ _ (omega arith))
denied_deeper st a _ h = absurd (cc)

is_deeper : {q : State} (st : Stack) (a : Expr) (u : Token) → K.is st a u ≡ Some q → least st (suc (max (depth a) 1)) ≤ weight q
is_deeper st a (t.Word n w.Not) h = moved h (omega arith)
is_deeper st a u h = operand_deeper (f.Binary op.Is a ∷ st) u h

in_deeper : {q : State} (st : Stack) (d : Bool) (a : Expr) (u : Token) → K.among st d a u ≡ Some q → least st (suc (depth a)) ≤ weight q
in_deeper st d a t.Open h = moved h (omega arith)
in_deeper st d a _ h = absurd (cc)

listed_deeper : {q : State} (st : Stack) (d : Bool) (a : Expr) (u : Token) → K.listed st d a u ≡ Some q → least st (suc (depth a)) ≤ weight q
listed_deeper st d a t.Close h = moved h (deeper st _ _ (omega (arith, depth_in d a [])))
listed_deeper st d a u h = omega (arith, operand_deeper (f.Among d a [] ∷ st) u h, deeper st (suc (depth a)) (suc (max (depth a) (max 0 1))) (omega arith))

pub step_deeper : {q : State} (z : State) (u : Token) → step z u ≡ Some q → weight z ≤ weight q
unfolding step
step_deeper (s.Flat z) u h = place_deeper z u h
step_deeper (s.Operand st) u h = operand_deeper st u h
step_deeper (s.Signed st) u h = signed_deeper st u h
step_deeper (s.Quoted st n) u h = quoted_deeper st n u h
step_deeper (s.Named st b n) u h = named_on_deeper st b n u h
step_deeper (s.Dotted st n) u h = dotted_deeper st n u h
step_deeper (s.Opened st b n) u h = opened_deeper st b n u h
step_deeper (s.Counted st) u h = counted_deeper st u h
step_deeper (s.Done st m a) u h = done_deeper m st a u h
step_deeper (s.Denied st a) u h = denied_deeper st a u h
step_deeper (s.Is st a) u h = is_deeper st a u h
step_deeper (s.In st d a) u h = in_deeper st d a u h
step_deeper (s.Listed st d a) u h = listed_deeper st d a u h

-- ---- the end

ends_at : {r r' : Stmt} {n : ℕ} → Some r ≡ Some r' → n ≤ deepest r → n ≤ deepest r'
ends_at {r = r} {r' = r'} {n = n} h l = let e : r ≡ r' = cc in subst (λ v. n ≤ deepest v) e l

tail_ends : (g : Stage) (d : Query) → stage_depth g d ≤ deepest (selected d)
tail_ends stage.Results d = omega (arith, selected_depth d)
tail_ends stage.Source d = omega (arith, selected_depth d)
tail_ends stage.Filtered d = omega (arith, selected_depth d)
tail_ends stage.Ordered d = omega (arith, selected_depth d)
tail_ends stage.Limited d = omega (arith, selected_depth d)

place_finish_deeper : {r : Stmt} (z : Place) → place_finish z ≡ Some r → place_weight z ≤ deepest r
unfolding place_finish
place_finish_deeper (p.Insert (ip.Rows i rs)) h = ends_at h (omega arith)
place_finish_deeper (p.Update (up.Sets n is)) h = ends_at h (omega arith)
place_finish_deeper (p.Select (sp.Tail g d)) h = ends_at h (tail_ends g d)
place_finish_deeper (p.Ended r) h = ends_at h (omega arith)
place_finish_deeper (p.Drop (dp.If n)) h = omega arith
place_finish_deeper (p.Delete (del.Table n)) h = omega arith
place_finish_deeper _ h = absurd (cc)

landed_end_deeper : {r : Stmt} {n : ℕ} (o : Option Place) → ((z : Place) → o ≡ Some z → n ≤ place_weight z) → landed_end o ≡ Some r → n ≤ deepest r
landed_end_deeper None l h = absurd (cc)
landed_end_deeper (Some z) l h = omega (arith, l z refl, place_finish_deeper z h)

end_deeper : {r : Stmt} (d : Stack × Expr) → split end_at d ≡ Some r → least d.0 (depth d.1) ≤ deepest r
unfolding end_on
end_deeper (f.Clause k ∷ st, a) h = landed_end_deeper (land k a) (land_deeper k a) h
end_deeper d h = absurd (cc)

done_end_deeper : {r : Stmt} (st : Stack) (a : Expr) → split end_at (reduce 0 st a) ≡ Some r → least st (depth a) ≤ deepest r
done_end_deeper st a h = omega (arith, end_deeper (reduce 0 st a) h, reduced_least 0 st a)

pub finish_deeper : {r : Stmt} (z : State) → finish z ≡ Some r → weight z ≤ deepest r
unfolding finish
finish_deeper (s.Flat z) h = place_finish_deeper z h
finish_deeper (s.Quoted st n) h = omega (arith, done_end_deeper st (e.Name n) h, deeper st 1 (depth (e.Name n)) (omega (arith, depth_name n)))
finish_deeper (s.Named st b n) h = omega (arith, done_end_deeper st (e.Name n) h, deeper st 1 (depth (e.Name n)) (omega (arith, depth_name n)))
finish_deeper (s.Done st m a) h = done_end_deeper st a h
finish_deeper _ h = absurd (cc)
