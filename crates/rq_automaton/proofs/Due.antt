-- The parentheses that are due come, and others close no more than are open.
use Rattle.std.proofs.Common.{◌≡◌, ℕ, suc, ◌+◌, ◌≤◌, max, Bool, true, false, List, [], ◌∷◌, Some, Ok, refl, subst, arith}
use Rattle.rq_grammar.specs.declared.word.Word.TheVariants as w
use Rattle.rq_grammar.specs.declared.token.Token.{Token}
use Rattle.rq_grammar.specs.declared.token.Token.TheVariants as t
use Rattle.rq_grammar.specs.declared.expr.Expr.{Expr}
use Rattle.rq_grammar.specs.declared.stmt.Stmt.{Stmt}
use Rattle.rq_automaton.specs.declared.place.Target.{Target}
use Rattle.rq_automaton.specs.declared.place.Place.{Place}
use Rattle.rq_automaton.specs.declared.place.Place.TheVariants as p
use Rattle.rq_automaton.specs.declared.place.CreatePlace.TheVariants as cp
use Rattle.rq_automaton.specs.declared.place.InsertPlace.TheVariants as ip
use Rattle.rq_automaton.specs.declared.frame.State.{State}
use Rattle.rq_automaton.specs.declared.frame.State.TheVariants as s
use Rattle.rq_grammar.specs.Words.{Text, Tokens, is_reserved}
use Rattle.rq_automaton.specs.Places as L
use Rattle.rq_automaton.specs.Places.{name_of, on_name, place_step, create_step, drop_step, insert_step, update_step, delete_step, select_step, place_finish}
use Rattle.rq_automaton.specs.Stack as K
use Rattle.rq_automaton.specs.Machine.{step, finish, parse}
use Rattle.rq_grammar.specs.Depth.{open_behind, most_open}
use Rattle.rq_automaton.specs.Weight.{place_due, due}
use Rattle.rq_automaton.proofs.Reduce.{went, ends_here}
use Rattle.rq_automaton.proofs.Sound.{on_some}

owed : {m : ℕ} {z q : State} (n : ℕ) → Some z ≡ Some q → m ≤ n + due z → m ≤ n + due q
owed {m = m} {z = z} {q = q} n h l = let e : z ≡ q = cc in subst (λ v. m ≤ n + due v) e l

create_due : {q : State} (u : Token) → L.behind_create u ≡ Some q → (n : ℕ) → n + 1 ≤ open_behind n u + due q
create_due (t.Word m w.Table) h n = owed n h (omega arith)
create_due _ h n = absurd (cc)

named_due : {q : State} (b : Bool) (u : Token) → on_name (name_of u) (λ z. p.Create (cp.Named b z)) ≡ Some q → (n : ℕ) → n + 1 ≤ open_behind n u + due q
named_due b (t.Word m k) h n = owed n (on_some (is_reserved k) m (λ z. p.Create (cp.Named b z)) h).1 (omega arith)
named_due b (t.Quoted m) h n = owed n h (omega arith)
named_due b _ h n = absurd (cc)

table_due : {q : State} (u : Token) → L.behind_create_table u ≡ Some q → (n : ℕ) → n + 1 ≤ open_behind n u + due q
table_due (t.Word m w.If) h n = owed n h (omega arith)
table_due u h n = named_due false u h n

opened_due : {q : State} (b : Bool) (m : Text) (u : Token) → L.behind_create_named b m u ≡ Some q → (n : ℕ) → n + 1 ≤ open_behind n u + due q
opened_due b m t.Open h n = owed (suc n) h (omega arith)
opened_due b m _ h n = absurd (cc)

if_due : {q : State} (m : Text) (u : Token) → L.behind_create_if m u ≡ Some q → (n : ℕ) → n + 1 ≤ open_behind n u + due q
if_due m (t.Word k w.Not) h n = owed n h (omega arith)
if_due m u h n = opened_due false m u h n

if_not_due : {q : State} (u : Token) → L.behind_create_if_not u ≡ Some q → (n : ℕ) → n + 1 ≤ open_behind n u + due q
if_not_due (t.Word k w.Exists) h n = owed n h (omega arith)
if_not_due _ h n = absurd (cc)

values_due : {q : State} (i : Target) (rs : List (List Expr)) (u : Token) → L.behind_values i rs u ≡ Some q → (n : ℕ) → n + 1 ≤ open_behind n u + due q
values_due i rs t.Open h n = owed (suc n) h (omega arith)
values_due i rs _ h n = absurd (cc)

in_due : {q : State} (st : K.Stack) (d : Bool) (a : Expr) (u : Token) → K.among st d a u ≡ Some q → (n : ℕ) → n + 1 ≤ open_behind n u + due q
in_due st d a t.Open h n = owed (suc n) h (omega arith)
in_due st d a _ h n = absurd (cc)

place_step_due : {q : State} (z : Place) (u : Token) → place_step z u ≡ Some q → (n : ℕ) → n + place_due z ≤ max n (open_behind n u + due q)
unfolding place_step create_step drop_step insert_step update_step delete_step select_step
place_step_due (p.Create cp.Begun) u h n = omega (arith, create_due u h n)
place_step_due (p.Create cp.Table) u h n = omega (arith, table_due u h n)
place_step_due (p.Create (cp.If m)) u h n = omega (arith, if_due m u h n)
place_step_due (p.Create cp.IfNot) u h n = omega (arith, if_not_due u h n)
place_step_due (p.Create cp.IfNotExists) u h n = omega (arith, named_due true u h n)
place_step_due (p.Create (cp.Named b m)) u h n = omega (arith, opened_due b m u h n)
place_step_due (p.Insert (ip.Values i rs)) u h n = omega (arith, values_due i rs u h n)
place_step_due _ u h n = omega arith

pub step_due : {q : State} (z : State) (u : Token) → step z u ≡ Some q → (n : ℕ) → n + due z ≤ max n (open_behind n u + due q)
unfolding step
step_due (s.Flat z) u h n = place_step_due z u h n
step_due (s.In st d a) u h n = omega (arith, in_due st d a u h n)
step_due _ u h n = omega arith

place_finish_due : {r : Stmt} (z : Place) → place_finish z ≡ Some r → place_due z ≡ 0
unfolding place_finish
place_finish_due (p.Create cp.Begun) h = absurd (cc)
place_finish_due (p.Create cp.Table) h = absurd (cc)
place_finish_due (p.Create (cp.If m)) h = absurd (cc)
place_finish_due (p.Create cp.IfNot) h = absurd (cc)
place_finish_due (p.Create cp.IfNotExists) h = absurd (cc)
place_finish_due (p.Create (cp.Named b m)) h = absurd (cc)
place_finish_due (p.Insert (ip.Values i rs)) h = absurd (cc)
place_finish_due _ h = refl

finish_due : {r : Stmt} (z : State) → finish z ≡ Some r → due z ≡ 0
unfolding finish
finish_due (s.Flat z) h = place_finish_due z h
finish_due (s.In st d a) h = absurd (cc)
finish_due _ h = refl

-- what is read opens what was due
pub widens : (y : Tokens) (z : State) (r : Stmt) → parse z y ≡ Ok r → (n : ℕ) → n + due z ≤ most_open n y
widens [] z r h n = omega (arith, finish_due z (ends_here z r h))
widens (u ∷ us) z r h n = let k = went z u us r h in omega (arith, step_due z u k.1 n, widens us k.0 r k.2 (open_behind n u))
