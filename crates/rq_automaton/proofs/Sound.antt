-- What is read is spelled so.
use Rattle.std.proofs.Common.{◌≡◌, ℕ, ◌≤◌, ◌^◌, Bool, true, false, cond, List, [], ◌∷◌, ◌++◌, Some, None, refl, subst, arith}
use Rattle.std.specs.Prelude.{nat_le, nat_lt, ◌&&◌, ◌||◌}
use Rattle.std.proofs.lemmas.Bool.{leb-true}
use Rattle.std.proofs.lemmas.Bool.Decides.{nat_tests}
use Rattle.rq_grammar.specs.declared.word.Word.{Word}
use Rattle.rq_grammar.specs.declared.word.Word.TheVariants as w
use Rattle.rq_grammar.specs.declared.token.Token.{Token}
use Rattle.rq_grammar.specs.declared.token.Token.TheVariants as t
use Rattle.rq_grammar.specs.declared.expr.Expr.{Expr}
use Rattle.rq_grammar.specs.declared.stmt.ColumnDef.{ColumnDef}
use Rattle.rq_grammar.specs.declared.stmt.ResultItem.{ResultItem}
use Rattle.rq_grammar.specs.declared.stmt.OrderTerm.{OrderTerm}
use Rattle.rq_automaton.specs.declared.place.Place.{Place}
use Rattle.rq_automaton.specs.declared.frame.Frame.{Frame}
use Rattle.rq_automaton.specs.declared.frame.Frame.TheVariants as f
use Rattle.rq_automaton.specs.declared.frame.State.{State}
use Rattle.rq_automaton.specs.declared.frame.State.TheVariants as s
use Rattle.rq_grammar.specs.Words.{Text, Tokens, is_reserved, Name, bare, quoted}
use Rattle.rq_grammar.specs.Grammar as G
use Rattle.rq_grammar.specs.Grammar.{level, upper}
use Rattle.rq_grammar.specs.Statements as S
use Rattle.rq_grammar.specs.Statements.{rising}
use Rattle.rq_automaton.specs.Stack.{Stack, room, closes, build, reduce, with_plus, operand, operand_word}
use Rattle.rq_automaton.specs.Places.{flat, name_of, on_name}
use Rattle.rq_automaton.proofs.Reduce.{level_max}
use Rattle.rq_automaton.proofs.Reached as R
use Rattle.rq_automaton.proofs.Reached.{Reached, Stacked, Within, Came}

-- ---- tools

pub weaken : {k m : ℕ} {x y : Tokens} {a : Expr} → k ≤ m → G.At m x a y → G.At k x a y
weaken h (G.atom q) = G.atom q
weaken h (G.negative l) = G.negative l
weaken h (G.name n) = G.name n
weaken h (G.qualified n m) = G.qualified n m
weaken h G.count_all = G.count_all
weaken h (G.call i j l) = G.call i j l
weaken h (G.paren q) = G.paren q
weaken h (G.plus q) = G.plus q
weaken h (G.minus n q) = G.minus n q
weaken h (G.not l q) = G.not (omega arith) q
weaken h (G.binary l q o r) = G.binary (omega arith) q o r
weaken h (G.among l q d r) = G.among (omega arith) q d r
weaken h (G.between l q d r r') = G.between (omega arith) q d r r'

pub room_max : (st : Stack) → room st ≤ 9
room_max [] = omega arith
room_max (f.Binary o a ∷ st) = omega (arith, level_max o)
room_max (f.Not ∷ st) = omega arith
room_max (f.Plus ∷ st) = omega arith
room_max (f.Minus ∷ st) = omega arith
room_max (f.Low n a ∷ st) = omega arith
room_max (f.High n a b ∷ st) = omega arith
room_max (x ∷ st) = omega arith

pub put : {x y : Tokens} {z q : State} → Some z ≡ Some q → Reached x z y → Reached x q y
put {x = x} {y = y} {z = z} {q = q} h r = let e : z ≡ q = cc in subst (λ v. Reached x v y) e r

pub set_down : {x y : Tokens} {z : Place} {q : State} → flat z ≡ Some q → Came x z y → Reached x q y
set_down h r = put h (R.at_place r)

pub guard : {A : Type 0} (b : Bool) (z : A) (q : A) → cond b (Some z) None ≡ Some q → (b ≡ true) × (Some z ≡ Some q)
guard true z q h = (refl, h)
guard false z q h = absurd (cc)

pub unless : {A : Type 0} (b : Bool) (z : A) (q : A) → cond b None (Some z) ≡ Some q → (b ≡ false) × (Some z ≡ Some q)
unless false z q h = (refl, h)
unless true z q h = absurd (cc)

pub neither : (a b : Bool) → (a || b) ≡ false → (a ≡ false) × (b ≡ false)
neither false false h = (refl, refl)
neither a b h = absurd (cc)

pub both : (a b : Bool) → (a && b) ≡ true → (a ≡ true) × (b ≡ true)
both true true h = (refl, refl)
both a b h = absurd (cc)

-- a name leads on
pub on_some : {q : State} (b : Bool) (n : Text) (next : Text → Place) → on_name (cond b None (Some n)) next ≡ Some q → (b ≡ false) × (flat (next n) ≡ Some q)
on_some false n next h = (refl, h)
on_some true n next h = absurd (cc)

pub named : {x y : Tokens} {q : State} (u : Token) (next : Text → Place) → on_name (name_of u) next ≡ Some q → ((n : Text) → Name n u → Came x (next n) y) → Reached x q y
named (t.Word n k) next h r = let g = on_some (is_reserved k) n next h in set_down g.1 (r n (bare g.0))
named (t.Quoted n) next h r = set_down h (r n quoted)
named _ next h r = absurd (cc)

-- an item is added
pub item_on : {x y z : Tokens} {xs : List Expr} {a : Expr} → R.Before G.Some_of x xs y → G.At 0 y a z → G.Some_of x (xs ++ a ∷ []) z
item_on R.no_items q = G.one q
item_on (R.items q) r = G.more q r

pub row_on : {x y z : Tokens} {rows : List (List Expr)} {xs : List Expr} → R.Before S.Rows x rows (t.Open ∷ y) → G.Some_of y xs (t.Close ∷ z) → S.Rows x (rows ++ xs ∷ []) z
row_on R.no_items q = S.first_row q
row_on (R.items q) r = S.next_row q r

pub name_on : {x y : Tokens} {ns : List Text} {n : Text} {u : Token} → R.Before S.NameList x ns (u ∷ y) → Name n u → S.NameList x (ns ++ n ∷ []) y
name_on R.no_items k = S.first_name k
name_on (R.items q) k = S.next_name q k

pub column_on : {x y z : Tokens} {ds : List ColumnDef} {d : ColumnDef} → R.Before S.ColumnList x ds y → S.Column y d z → S.ColumnList x (ds ++ d ∷ []) z
column_on R.no_items q = S.first_column q
column_on (R.items q) r = S.next_column q r

pub result_on : {x y z : Tokens} {is : List ResultItem} {i : ResultItem} → R.Before S.ResultList x is y → S.Result y i z → S.ResultList x (is ++ i ∷ []) z
result_on R.no_items q = S.first_result q
result_on (R.items q) r = S.next_result q r

pub term_on : {x y z : Tokens} {is : List OrderTerm} {i : OrderTerm} → R.Before S.TermList x is y → S.Term y i z → S.TermList x (is ++ i ∷ []) z
term_on R.no_items q = S.first_term q
term_on (R.items q) r = S.next_term q r

pub set_on : {x y z : Tokens} {is : List (Text × Expr)} {i : Text × Expr} → R.Before S.SetList x is y → S.Set y i z → S.SetList x (is ++ i ∷ []) z
set_on R.no_items q = S.first_set q
set_on (R.items q) r = S.next_set q r

-- ---- the stack is reduced

pub record Reduced (x : Tokens) (k : ℕ) (q : Stack × Expr) (z : Tokens) : Type 0 where
  pub from : Tokens
  pub level : ℕ
  pub stacked : Stacked x q.0 from
  pub at : G.At level from q.1 z
  pub low : k ≤ level
  pub fits : room q.0 ≤ level

module _ (k : ℕ) (top : k ≤ 9) where
  pub reduced_open : {x y z : Tokens} {st : Stack} {m : ℕ} {a : Expr} → Stacked x st y → G.At m y a z → room st ≤ m → k ≤ m → Reduced x k (st, a) z
  reduced_open q r h l = record { from = _; level = _; stacked = q; at = r; low = l; fits = h }

  pub either : {x z : Tokens} (g : Frame) (st : Stack) (a : Expr) → (closes k g ≡ true → Reduced x k (reduce k st (build g a)) z) → (closes k g ≡ false → Reduced x k (g ∷ st, a) z) → Reduced x k (reduce k (g ∷ st) a) z
  either {x = x} {z = z} g st a c o = elim (closes k g) as (λ b. (b ≡ true → Reduced x k (reduce k st (build g a)) z) → (b ≡ false → Reduced x k (g ∷ st, a) z) → Reduced x k (cond b (reduce k st (build g a)) (g ∷ st, a)) z) [ true ↦ λ c o. c refl | false ↦ λ c o. o refl ] c o

  pub reduce_sound : {x y z : Tokens} {st : Stack} {m : ℕ} {a : Expr} → Stacked x st y → G.At m y a z → room st ≤ m → k ≤ m → Reduced x k (reduce k st a) z
  reduce_sound {st = f.Binary o b ∷ st} {a = a} (R.binary_on q fits r w) r' h l = either (f.Binary o b) st a (λ c. reduce_sound q (G.binary (omega arith) r w (weaken h r')) fits (leb-true k (level o) c)) (λ c. reduced_open (R.binary_on q fits r w) r' h l)
  reduce_sound {st = f.Not ∷ st} {a = a} (R.not_on fits q) r h l = either f.Not st a (λ c. reduce_sound q (G.not (omega arith) (weaken h r)) fits (leb-true k 3 c)) (λ c. reduced_open (R.not_on fits q) r h l)
  reduce_sound (R.plus_on q) r h l = reduce_sound {m = 9} q (G.plus (weaken h r)) (room_max _) top
  reduce_sound (R.plus_again q) r h l = reduce_sound {m = 9} q (G.plus (weaken h r)) (omega arith) top
  reduce_sound (R.minus_on n q) r h l = reduce_sound {m = 9} q (G.minus n (weaken h r)) (room_max _) top
  reduce_sound (R.low_on q fits r d) r' h l = reduced_open (R.low_on q fits r d) r' h l
  reduce_sound {st = f.High n b c ∷ st} {a = a} (R.high_on q fits r d r') r'' h l = either (f.High n b c) st a (λ c. reduce_sound q (G.between (omega arith) r d r' (weaken h r'')) fits (leb-true k 4 c)) (λ c. reduced_open (R.high_on q fits r d r') r'' h l)
  reduce_sound (R.paren_on q) r h l = reduced_open (R.paren_on q) r h l
  reduce_sound (R.args_on i j q b) r h l = reduced_open (R.args_on i j q b) r h l
  reduce_sound (R.among_on q fits r d b) r' h l = reduced_open (R.among_on q fits r d b) r' h l
  reduce_sound (R.clause_on q) r h l = reduced_open (R.clause_on q) r h l

-- ---- a token where an operand is to come

pub plus_stacked : {x y : Tokens} (st : Stack) → Stacked x st (t.Plus ∷ y) → Stacked x (with_plus st) y
plus_stacked [] q = R.plus_on q
plus_stacked (f.Plus ∷ st) q = R.plus_again q
plus_stacked (g ∷ st) q = R.plus_on q

pub atom_sound : {x y : Tokens} {st : Stack} {u : Token} {a : Expr} {next : State} → G.Atom u a → Stacked x st (u ∷ y) → Some (s.Done st 9 a) ≡ Some next → Reached x next y
atom_sound {st = st} k q h = put h (R.at_done q (G.atom k) (room_max st) (omega arith))

pub word_sound : {x y : Tokens} {st : Stack} {n : Text} {next : State} (k : Word) → Stacked x st (t.Word n k ∷ y) → operand_word st n k ≡ Some next → Reached x next y
word_sound w.Null q h = atom_sound G.null q h
word_sound w.CurrentTimestamp q h = atom_sound G.current_timestamp q h
word_sound w.CurrentDate q h = atom_sound G.current_date q h
word_sound w.CurrentTime q h = atom_sound G.current_time q h
word_sound {st = st} w.Not q h = let g = guard (nat_le (room st) 3) _ _ h in put g.1 (R.at_operand (R.not_on (leb-true (room st) 3 g.0) q))
word_sound w.Count q h = put h (R.at_count q)
word_sound {st = st} {n = n} k q h = let g = unless (is_reserved k) (s.Named st false n) _ h in put g.1 (R.at_named g.0 refl q)

pub operand_sound : {x y : Tokens} {st : Stack} {next : State} (u : Token) → Stacked x st (u ∷ y) → operand st u ≡ Some next → Reached x next y
operand_sound (t.Word n k) q h = word_sound k q h
operand_sound (t.Quoted n) q h = put h (R.at_quoted q)
operand_sound (t.String n) q h = atom_sound G.text q h
operand_sound (t.Blob n) q h = atom_sound G.blob q h
operand_sound {st = st} (t.Numeral n) q h = let g = guard (nat_lt n (2 ^ 63)) _ _ h in atom_sound (G.number (grind (arith, nat_tests))) q g.1
operand_sound (t.Parameter n) q h = atom_sound G.param q h
operand_sound t.Open q h = put h (R.at_operand (R.paren_on q))
operand_sound {st = st} t.Plus q h = put h (R.at_operand (plus_stacked st q))
operand_sound t.Minus q h = put h (R.at_signed q)
operand_sound u q h = absurd (cc)
