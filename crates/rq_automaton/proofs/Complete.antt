-- What is spelled is read: expressions.
use Rattle.std.proofs.Common.{◌≡◌, ℕ, ◌≤◌, ◌^◌, Bool, true, false, cond, List, [], ◌∷◌, ◌++◌, Some, None, Ok, refl, ◌∙◌, ap, arith, pos}
use Rattle.std.specs.Prelude.{nat_le, ◌&&◌, ◌||◌, neg_ℤ}
use Rattle.std.proofs.lemmas.Bool.{le-leb}
use Rattle.rq_values.specs.declared.value.Value.TheVariants as v
use Rattle.rq_grammar.specs.declared.word.Word.{Word}
use Rattle.rq_grammar.specs.declared.word.Word.TheVariants as w
use Rattle.rq_grammar.specs.declared.token.Token.{Token}
use Rattle.rq_grammar.specs.declared.token.Token.TheVariants as t
use Rattle.rq_grammar.specs.declared.expr.BinaryOp.{BinaryOp}
use Rattle.rq_grammar.specs.declared.expr.BinaryOp.TheVariants as op
use Rattle.rq_grammar.specs.declared.expr.Expr.{Expr}
use Rattle.rq_grammar.specs.declared.expr.Expr.TheVariants as e
use Rattle.rq_grammar.specs.declared.stmt.Stmt.{Stmt}
use Rattle.rq_automaton.specs.declared.place.Target.{Target}
use Rattle.rq_automaton.specs.declared.frame.Clause.TheVariants as c
use Rattle.rq_automaton.specs.declared.frame.Frame.{Frame}
use Rattle.rq_automaton.specs.declared.frame.Frame.TheVariants as f
use Rattle.rq_automaton.specs.declared.frame.State.{State}
use Rattle.rq_automaton.specs.declared.frame.State.TheVariants as s
use Rattle.rq_grammar.specs.Words.{Text, Tokens, is_reserved, is_time, NameInside, bare_inside, quoted_inside, is_numeral}
use Rattle.rq_grammar.specs.Grammar as G
use Rattle.rq_grammar.specs.Grammar.{level, upper}
use Rattle.rq_automaton.specs.Stack.{Stack, order, room, closes, reduce, tied, grouped, with_plus, split, and_at, operand, operand_word}
use Rattle.rq_automaton.specs.Stack.{binary as binary_at}
use Rattle.rq_automaton.specs.Machine.{step, finish, parse, done, ended_at, ended_on, clause_on}
use Rattle.rq_automaton.proofs.Reduce.{level_max, level_not_3, below, reduce_closed, reduce_open, reduce_stays, Same, go, never, never_end, as_step, as_end}

-- a list of expressions, as far as it is read
pub record IsList (F : List Expr → Frame) (st : Stack) : Type 0 where
  pub order_0 : (xs : List Expr) → order (F xs) ≡ 0
  pub stays_open : (j : ℕ) (xs : List Expr) → closes j (F xs) ≡ false
  pub comma : (xs : List Expr) (a : Expr) → ended_at t.Comma (F xs ∷ st) a ≡ Some (s.Operand (F (xs ++ a ∷ []) ∷ st))

-- ---- what is decided by the token after

pub quoted_as_done : (st : Stack) (n : Text) (y : Tokens) (r : Stmt) → parse (s.Done st 9 (e.Name n)) y ≡ Ok r → parse (s.Quoted st n) y ≡ Ok r
unfolding step finish done
quoted_as_done st n [] r h = as_end _ _ r refl h
quoted_as_done st n (t.Dot ∷ us) r h = absurd (never _ _ us r refl h)
quoted_as_done st n (u ∷ us) r h = as_step _ _ _ us r refl h

pub named_as_done : (st : Stack) (b : Bool) (n : Text) (y : Tokens) (r : Stmt) → parse (s.Done st 9 (e.Name n)) y ≡ Ok r → parse (s.Named st b n) y ≡ Ok r
unfolding step finish done
named_as_done st b n [] r h = as_end _ _ r refl h
named_as_done st b n (t.Dot ∷ us) r h = absurd (never _ _ us r refl h)
named_as_done st b n (t.Open ∷ us) r h = absurd (never _ _ us r refl h)
named_as_done st b n (u ∷ us) r h = as_step _ _ _ us r refl h

opened_as_operand : (st : Stack) (b : Bool) (n : Text) (y : Tokens) (r : Stmt) → parse (s.Operand (f.Args n [] ∷ st)) y ≡ Ok r → parse (s.Opened st b n) y ≡ Ok r
unfolding step finish
opened_as_operand st b n [] r h = absurd (never_end _ r refl h)
opened_as_operand st b n (t.Close ∷ us) r h = absurd (never _ _ us r refl h)
opened_as_operand st true n (t.Star ∷ us) r h = absurd (never _ _ us r refl h)
opened_as_operand st false n (t.Star ∷ us) r h = absurd (never _ _ us r refl h)
opened_as_operand st b n (u ∷ us) r h = as_step _ _ _ us r refl h

listed_as_operand : (st : Stack) (n : Bool) (a : Expr) (y : Tokens) (r : Stmt) → parse (s.Operand (f.Among n a [] ∷ st)) y ≡ Ok r → parse (s.Listed st n a) y ≡ Ok r
unfolding step finish
listed_as_operand st n a [] r h = absurd (never_end _ r refl h)
listed_as_operand st n a (t.Close ∷ us) r h = absurd (never _ _ us r refl h)
listed_as_operand st n a (u ∷ us) r h = as_step _ _ _ us r refl h

is_as_operand : (st : Stack) (a : Expr) (y : Tokens) (r : Stmt) → parse (s.Operand (f.Binary op.Is a ∷ st)) y ≡ Ok r → parse (s.Is st a) y ≡ Ok r
unfolding step finish
is_as_operand st a [] r h = absurd (never_end _ r refl h)
is_as_operand st a (t.Word n w.Not ∷ us) r h = absurd (never _ _ us r refl h)
is_as_operand st a (u ∷ us) r h = as_step _ _ _ us r refl h

signed_as_operand : (st : Stack) (u : Token) (us : Tokens) (r : Stmt) → is_numeral u ≡ false → parse (s.Operand (f.Minus ∷ st)) (u ∷ us) ≡ Ok r → parse (s.Signed st) (u ∷ us) ≡ Ok r
unfolding step
signed_as_operand st (t.Numeral n) us r k h = absurd (cc)
signed_as_operand st u us r k h = as_step _ _ _ us r refl h

-- ---- names

abbrev is_count : Word → Bool
is_count w.Count = true
is_count _ = false

named_word : (st : Stack) (n : Text) (c : Word) → is_reserved c ≡ false → is_time c ≡ false → operand_word st n c ≡ Some (s.Named st (is_count c) n)
named_word st n w.Null h i = absurd (cc)
named_word st n w.CurrentTimestamp h i = absurd (cc)
named_word st n w.CurrentDate h i = absurd (cc)
named_word st n w.CurrentTime h i = absurd (cc)
named_word st n w.Not h i = absurd (cc)
named_word st n w.Count h i = refl
named_word st n c h i = ap (λ b. cond b None (Some (s.Named st false n))) h

read_name : {n : Text} {u : Token} → NameInside n u → (st : Stack) (y : Tokens) (r : Stmt) → parse (s.Done st 9 (e.Name n)) y ≡ Ok r → parse (s.Operand st) (u ∷ y) ≡ Ok r
unfolding step
read_name (bare_inside {n = n} {v = c} h i) st y r k = go _ _ _ _ r (named_word st n c h i) (named_as_done st (is_count c) n y r k)
read_name (quoted_inside {n = n}) st y r k = go _ _ _ _ r refl (quoted_as_done st n y r k)

read_dotted : {n : Text} {u : Token} → NameInside n u → (st : Stack) (y : Tokens) (r : Stmt) → parse (s.Dotted st n) y ≡ Ok r → parse (s.Operand st) (u ∷ t.Dot ∷ y) ≡ Ok r
unfolding step
read_dotted (bare_inside {n = n} {v = c} h i) st y r k = go _ _ _ _ r (named_word st n c h i) (go _ _ _ _ r refl k)
read_dotted quoted_inside st y r k = go _ _ _ _ r refl (go _ _ _ _ r refl k)

read_column : (n : Text) {m : Text} {u : Token} → NameInside m u → (st : Stack) (y : Tokens) (r : Stmt) → parse (s.Done st 9 (e.Qualified n m)) y ≡ Ok r → parse (s.Dotted st n) (u ∷ y) ≡ Ok r
unfolding step
read_column n (bare_inside {n = m} {v = c} h i) st y r k = go _ _ _ _ r (ap (λ b. cond (b || is_time c) None (Some (s.Done st 9 (e.Qualified n m)))) h ∙ ap (λ b. cond b None (Some (s.Done st 9 (e.Qualified n m)))) i) k
read_column n quoted_inside st y r k = go _ _ _ _ r refl k

read_call : (n : Text) (c : Word) → is_reserved c ≡ false → is_time c ≡ false → (st : Stack) (y : Tokens) (r : Stmt) → parse (s.Opened st (is_count c) (upper n)) y ≡ Ok r → parse (s.Operand st) (t.Word n c ∷ t.Open ∷ y) ≡ Ok r
unfolding step
read_call n c h i st y r k = go _ _ _ _ r (named_word st n c h i) (go _ _ _ _ r refl k)

read_atom : {a : Expr} {u : Token} → G.Atom u a → (st : Stack) → operand st u ≡ Some (s.Done st 9 a)
read_atom G.null st = refl
read_atom (G.number {n = n} h) st = ap (λ b. cond b (Some (s.Done st 9 (e.Literal (v.Int (pos n))))) None) (below n (2 ^ 63) h)
read_atom G.text st = refl
read_atom G.blob st = refl
read_atom G.param st = refl
read_atom G.current_timestamp st = refl
read_atom G.current_date st = refl
read_atom G.current_time st = refl

-- ---- operators

abbrev Next : Type 0
Next = Stack → Expr → State

tied_gives : (k m : ℕ) (p : Stack × Expr) (st : Stack) (a : Expr) (next : Next) → p ≡ (st, a) → k ≤ m → room st ≤ k → tied k m p next ≡ Some (next st a)
tied_gives k m p st a next is low fits =
    ap (λ q. tied k m q next) is ∙ ap (λ b. cond (b && nat_le (room st) k) (Some (next st a)) None) (le-leb k m low) ∙ ap (λ b. cond b (Some (next st a)) None) (le-leb (room st) k fits)

and_gives : (m : ℕ) (st : Stack) (b : Expr) → 2 ≤ m → room st ≤ 2 → and_at m st b ≡ Some (s.Operand (f.Binary op.And b ∷ st))
and_gives m [] b low fits = tied_gives 2 m _ _ _ (λ st a. s.Operand (f.Binary op.And a ∷ st)) refl low fits
and_gives m (f.Low n a ∷ st) b low fits = absurd (omega arith)
and_gives m (x ∷ st) b low fits = tied_gives 2 m _ _ _ (λ st a. s.Operand (f.Binary op.And a ∷ st)) refl low fits

-- what stands behind an operand, once all that binds more tightly has ended
record Behind (k m : ℕ) (st' : Stack) (a' : Expr) (st : Stack) (a : Expr) : Type 0 where
  low : k ≤ m
  fits : room st ≤ k
  reduces : reduce k st' a' ≡ (st, a)

group_gives : {m : ℕ} {st' st : Stack} {a' a : Expr} (next : Next) → Behind 4 m st' a' st a → grouped m st' a' next ≡ Some (next st a)
group_gives next b = tied_gives 4 _ _ _ _ next b.reduces b.low b.fits

binary_gives : (o : BinaryOp) {m : ℕ} {st' st : Stack} {a' a : Expr} → Behind (level o) m st' a' st a → binary_at o m st' a' ≡ Some (s.Operand (f.Binary o a ∷ st))
binary_gives o b = tied_gives (level o) _ _ _ _ (λ st a. s.Operand (f.Binary o a ∷ st)) b.reduces b.low b.fits

at_operator : {o : BinaryOp} {y y' : Tokens} → G.Spelled o y y' → {m : ℕ} {st' st : Stack} {a' a : Expr} → Behind (level o) m st' a' st a → (r : Stmt) → parse (s.Operand (f.Binary o a ∷ st)) y' ≡ Ok r → parse (s.Done st' m a') y ≡ Ok r
unfolding step done
at_operator G.or_word b r h = go _ _ _ _ r (binary_gives op.Or b) h
at_operator G.and_word b r h = go _ _ _ _ r (ap (split (and_at _)) b.reduces ∙ and_gives _ _ _ b.low b.fits) h
at_operator G.equal b r h = go _ _ _ _ r (binary_gives op.Equal b) h
at_operator G.equal_equal b r h = go _ _ _ _ r (binary_gives op.Equal b) h
at_operator G.less_greater b r h = go _ _ _ _ r (binary_gives op.NotEqual b) h
at_operator G.bang_equal b r h = go _ _ _ _ r (binary_gives op.NotEqual b) h
at_operator G.is_word b r h = go _ _ _ _ r (group_gives s.Is b) (is_as_operand _ _ _ r h)
at_operator G.is_not b r h = go _ _ _ _ r (group_gives s.Is b) (go _ _ _ _ r refl h)
at_operator G.like b r h = go _ _ _ _ r (binary_gives op.Like b) h
at_operator G.not_like b r h = go _ _ _ _ r (group_gives s.Denied b) (go _ _ _ _ r refl h)
at_operator G.less b r h = go _ _ _ _ r (binary_gives op.Less b) h
at_operator G.less_equal b r h = go _ _ _ _ r (binary_gives op.LessEqual b) h
at_operator G.greater b r h = go _ _ _ _ r (binary_gives op.Greater b) h
at_operator G.greater_equal b r h = go _ _ _ _ r (binary_gives op.GreaterEqual b) h
at_operator G.add b r h = go _ _ _ _ r (binary_gives op.Add b) h
at_operator G.sub b r h = go _ _ _ _ r (binary_gives op.Sub b) h
at_operator G.mul b r h = go _ _ _ _ r (binary_gives op.Mul b) h
at_operator G.div b r h = go _ _ _ _ r (binary_gives op.Div b) h
at_operator G.rem b r h = go _ _ _ _ r (binary_gives op.Rem b) h
at_operator G.concat b r h = go _ _ _ _ r (binary_gives op.Concat b) h

at_in : {d : Bool} {n : Text} {y y' : Tokens} → G.Denial d y (t.Word n w.In ∷ t.Open ∷ y') → {m : ℕ} {st' st : Stack} {a' a : Expr} → Behind 4 m st' a' st a → (r : Stmt) → parse (s.Listed st d a) y' ≡ Ok r → parse (s.Done st' m a') y ≡ Ok r
unfolding step done
at_in G.plain b r h = go _ _ _ _ r (group_gives (λ st a. s.In st false a) b) (go _ _ _ _ r refl h)
at_in G.denied b r h = go _ _ _ _ r (group_gives s.Denied b) (go _ _ _ _ r refl (go _ _ _ _ r refl h))

at_between : {d : Bool} {n : Text} {y y' : Tokens} → G.Denial d y (t.Word n w.Between ∷ y') → {m : ℕ} {st' st : Stack} {a' a : Expr} → Behind 4 m st' a' st a → (r : Stmt) → parse (s.Operand (f.Low d a ∷ st)) y' ≡ Ok r → parse (s.Done st' m a') y ≡ Ok r
unfolding step done
at_between G.plain b r h = go _ _ _ _ r (group_gives (λ st a. s.Operand (f.Low false a ∷ st)) b) h
at_between G.denied b r h = go _ _ _ _ r (group_gives s.Denied b) (go _ _ _ _ r refl h)

args_list : (n : Text) (st : Stack) → IsList (f.Args n) st
unfolding ended_on
args_list n st = record { order_0 = λ xs. refl; stays_open = λ j xs. refl; comma = λ xs a. refl }

among_list : (d : Bool) (a : Expr) (st : Stack) → IsList (f.Among d a) st
unfolding ended_on
among_list d a st = record { order_0 = λ xs. refl; stays_open = λ j xs. refl; comma = λ xs a. refl }

pub row_list : (i : Target) (rows : List (List Expr)) → IsList (λ xs. f.Clause (c.Row i rows xs)) []
unfolding ended_on clause_on
row_list i rows = record { order_0 = λ xs. refl; stays_open = λ j xs. refl; comma = λ xs a. refl }

behind : (k : ℕ) {m : ℕ} {st' st : Stack} {a' a : Expr} → k ≤ m → room st ≤ k → Same k st' a' st a → (k ≡ 3 → ⊥) → k ≤ 8 → Behind k m st' a' st a
behind k {st = st} {a = a} low fits same n top = record { low = low; fits = fits; reduces = same k (omega arith) ∙ reduce_stays k st a fits n top }

abbrev pub Then : ℕ → Stack → Expr → Tokens → Stmt → Type 0
Then k st a y r = (m : ℕ) (st' : Stack) (a' : Expr) → k ≤ m → Same k st' a' st a → parse (s.Done st' m a') y ≡ Ok r

-- whatever is the last item
abbrev pub ThenList : (List Expr → Frame) → List Expr → Stack → Tokens → Stmt → Type 0
ThenList F xs st y r = (ys : List Expr) (a : Expr) → ys ++ a ∷ [] ≡ xs → Then 0 (F ys ∷ st) a y r

room_plus : (st : Stack) → room (with_plus st) ≤ 9
room_plus [] = omega arith
room_plus (f.Plus ∷ st) = omega arith
room_plus (x ∷ st) = omega arith

reduce_plus : (j : ℕ) (st : Stack) (a : Expr) → reduce j (with_plus st) a ≡ reduce j st a
reduce_plus j [] a = refl
reduce_plus j (f.Plus ∷ st) a = refl
reduce_plus j (x ∷ st) a = refl

-- `)` behind the last item
closed_args : (n : Text) (ys xs : List Expr) (st st' : Stack) (a a' : Expr) (m : ℕ) (y : Tokens) (r : Stmt) → ys ++ a ∷ [] ≡ xs → Same 0 st' a' (f.Args n ys ∷ st) a → parse (s.Done st 9 (e.Call n xs)) y ≡ Ok r → parse (s.Done st' m a') (t.Close ∷ y) ≡ Ok r
unfolding step done ended_on
closed_args n ys xs st st' a a' m y r is same h = go _ _ _ _ r (ap (split (ended_at t.Close)) (same 0 (omega arith)) ∙ ap (λ xs. Some (s.Done st 9 (e.Call n xs))) is) h

closed_among : (d : Bool) (b : Expr) (ys xs : List Expr) (st st' : Stack) (a a' : Expr) (m : ℕ) (y : Tokens) (r : Stmt) → ys ++ a ∷ [] ≡ xs → Same 0 st' a' (f.Among d b ys ∷ st) a → parse (s.Done st 4 (e.InList d b xs)) y ≡ Ok r → parse (s.Done st' m a') (t.Close ∷ y) ≡ Ok r
unfolding step done ended_on
closed_among d b ys xs st st' a a' m y r is same h = go _ _ _ _ r (ap (split (ended_at t.Close)) (same 0 (omega arith)) ∙ ap (λ xs. Some (s.Done st 4 (e.InList d b xs))) is) h

closed_paren : (st st' : Stack) (a a' : Expr) (m : ℕ) (y : Tokens) (r : Stmt) → Same 0 st' a' (f.Paren ∷ st) a → parse (s.Done st 9 a) y ≡ Ok r → parse (s.Done st' m a') (t.Close ∷ y) ≡ Ok r
unfolding step done ended_on
closed_paren st st' a a' m y r same h = go _ _ _ _ r (ap (split (ended_at t.Close)) (same 0 (omega arith))) h

comma_list : (F : List Expr → Frame) (ys xs : List Expr) (st st' : Stack) (a a' : Expr) (m : ℕ) (y : Tokens) (r : Stmt) → IsList F st → ys ++ a ∷ [] ≡ xs → Same 0 st' a' (F ys ∷ st) a → parse (s.Operand (F xs ∷ st)) y ≡ Ok r → parse (s.Done st' m a') (t.Comma ∷ y) ≡ Ok r
unfolding step done
comma_list F ys xs st st' a a' m y r l is same h = go _ _ _ _ r (ap (split (ended_at t.Comma)) (same 0 (omega arith) ∙ reduce_open 0 (F ys) st a (l.stays_open 0 ys)) ∙ l.comma ys a ∙ ap (λ zs. Some (s.Operand (F zs ∷ st))) is) h

and_between : (d : Bool) (n : Text) (a b b' : Expr) (st st' : Stack) (m : ℕ) (y : Tokens) (r : Stmt) → Same 5 st' b' (f.Low d a ∷ st) b → parse (s.Operand (f.High d a b ∷ st)) y ≡ Ok r → parse (s.Done st' m b') (t.Word n w.And ∷ y) ≡ Ok r
unfolding step done
and_between d n a b b' st st' m y r same h = go _ _ _ _ r (ap (split (and_at m)) (same 2 (omega arith))) h

mutual
  unfolding step

  pub complete : {k : ℕ} {x y : Tokens} {a : Expr} → G.At k x a y → (st : Stack) → room st ≤ k → k ≤ 9 → (r : Stmt) → Then k st a y r → parse (s.Operand st) x ≡ Ok r
  complete (G.atom p) st fits top r next = go _ _ _ _ r (read_atom p st) (next 9 st _ (omega arith) (λ j h. refl))
  complete (G.negative {n = n} h) st fits top r next = go _ _ _ _ r refl (go _ _ _ _ r (ap (λ b. cond b (Some (s.Done st 9 (e.Literal (v.Int (neg_ℤ (pos n)))))) None) (le-leb n (2 ^ 63) h)) (next 9 st _ (omega arith) (λ j h. refl)))
  complete (G.name p) st fits top r next = read_name p st _ r (next 9 st _ (omega arith) (λ j h. refl))
  complete (G.qualified p q) st fits top r next = read_dotted p st _ r (read_column _ q st _ r (next 9 st _ (omega arith) (λ j h. refl)))
  complete G.count_all st fits top r next = go _ _ _ _ r refl (go _ _ _ _ r refl (go _ _ _ _ r refl (go _ _ _ _ r refl (next 9 st _ (omega arith) (λ j h. refl)))))
  complete (G.call {c = c} h i G.none) st fits top r next = read_call _ c h i st _ r (go _ _ _ _ r refl (next 9 st _ (omega arith) (λ j h. refl)))
  complete (G.call {n = n} {c = c} h i (G.some p)) st fits top r next = read_call _ c h i st _ r (opened_as_operand st _ _ _ r (complete_some p (f.Args (upper n)) st (args_list (upper n) st) r (λ ys a is m st' a' low same. closed_args _ ys _ st st' a a' m _ r is same (next 9 st _ (omega arith) (λ j h. refl)))))
  complete (G.paren p) st fits top r next = go _ _ _ _ r refl (complete p (f.Paren ∷ st) (omega arith) (omega arith) r (λ m st' a' low same. closed_paren st st' _ a' m _ r same (next 9 st _ (omega arith) (λ j h. refl))))
  complete (G.plus p) st fits top r next = go _ _ _ _ r refl (complete p (with_plus st) (room_plus st) (omega arith) r (λ m st' a' low same. next m st' a' (omega arith) (λ j h. same j (omega arith) ∙ reduce_plus j st _)))
  complete (G.minus n p) st fits top r next = go _ _ _ _ r refl (signed_as_operand st _ _ r n (complete p (f.Minus ∷ st) (omega arith) (omega arith) r (λ m st' a' low same. next m st' a' (omega arith) (λ j h. same j (omega arith)))))
  complete (G.not le p) st fits top r next = go _ _ _ _ r (ap (λ b. cond b (Some (s.Operand (f.Not ∷ st))) None) (le-leb (room st) 3 (omega arith))) (complete p (f.Not ∷ st) (omega arith) (omega arith) r (λ m st' a' low same. next m st' a' (omega arith) (λ j h. same j (omega arith) ∙ reduce_closed j f.Not st _ (le-leb j 3 (omega arith)))))
  complete (G.binary {o = o} {a = a} le p w q) st fits top r next = complete p st (omega arith) (omega (arith, level_max o)) r (λ m st' a' low same. at_operator w (behind (level o) low (omega arith) same (level_not_3 o) (omega (arith, level_max o))) r (complete q (f.Binary o a ∷ st) (omega arith) (omega (arith, level_max o)) r (λ m st' a' low same. next m st' a' (omega arith) (λ j h. same j (omega arith) ∙ reduce_closed j (f.Binary o a) st _ (le-leb j (level o) (omega arith))))))
  complete (G.among {d = d} {a = a} le p w G.none) st fits top r next = complete p st (omega arith) (omega arith) r (λ m st' a' low same. at_in w (behind 4 low (omega arith) same (λ h. omega arith) (omega arith)) r (go _ _ _ _ r refl (next 4 st _ le (λ j h. refl))))
  complete (G.among {d = d} {a = a} le p w (G.some l)) st fits top r next = complete p st (omega arith) (omega arith) r (λ m st' a' low same. at_in w (behind 4 low (omega arith) same (λ h. omega arith) (omega arith)) r (listed_as_operand st d a _ r (complete_some l (f.Among d a) st (among_list d a st) r (λ ys c is m st' a' low same. closed_among d a ys _ st st' c a' m _ r is same (next 4 st _ le (λ j h. refl))))))
  complete (G.between {d = d} {a = a} {b = b} le p w q q') st fits top r next = complete p st (omega arith) (omega arith) r (λ m st' a' low same. at_between w (behind 4 low (omega arith) same (λ h. omega arith) (omega arith)) r (complete q (f.Low d a ∷ st) (omega arith) (omega arith) r (λ m st' a' low same. and_between d _ a b a' st st' m _ r same (complete q' (f.High d a b ∷ st) (omega arith) (omega arith) r (λ m st' a' low same. next m st' a' (omega arith) (λ j h. same j (omega arith) ∙ reduce_closed j (f.High d a b) st _ (le-leb j 4 (omega arith))))))))

  pub complete_some : {x y : Tokens} {xs : List Expr} → G.Some_of x xs y → (F : List Expr → Frame) (st : Stack) → IsList F st → (r : Stmt) → ThenList F xs st y r → parse (s.Operand (F [] ∷ st)) x ≡ Ok r
  complete_some (G.one p) F st l r next = complete p (F [] ∷ st) (omega (arith, l.order_0 [])) (omega arith) r (next [] _ refl)
  complete_some (G.more {xs = xs} p q) F st l r next = complete_some p F st l r (λ ys a is m st' a' low same. comma_list F ys xs st st' a a' m _ r l is same (complete q (F xs ∷ st) (omega (arith, l.order_0 xs)) (omega arith) r (next xs _ refl)))
