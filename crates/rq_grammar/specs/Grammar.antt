-- Expressions, as docs/SQL.md has them. A relation `R x v y` says that the tokens x begin with a spelling of v, and y is left.
use Rattle.std.specs.Prelude.{ℕ, suc, ◌≤◌, ◌<◌, ◌≡◌, ◌^◌, Bool, true, false, List, [], ◌∷◌, ◌++◌, map, Option, pos, neg_ℤ}
use Rattle.std.specs.Char.{to_ascii_uppercase}
use Rattle.rq_values.specs.declared.value.Value.TheVariants as v
use Rattle.rq_grammar.specs.declared.word.Word.{Word}
use Rattle.rq_grammar.specs.declared.word.Word.TheVariants as w
use Rattle.rq_grammar.specs.declared.token.Token.{Token}
use Rattle.rq_grammar.specs.declared.token.Token.TheVariants as t
use Rattle.rq_grammar.specs.declared.expr.BinaryOp.{BinaryOp}
use Rattle.rq_grammar.specs.declared.expr.BinaryOp.TheVariants as op
use Rattle.rq_grammar.specs.declared.expr.Expr.{Expr}
use Rattle.rq_grammar.specs.declared.expr.Expr.TheVariants as e
use Rattle.rq_grammar.specs.Words.{Text, Tokens, is_reserved, is_time, NameInside, is_numeral}

-- How tightly an operator binds. NOT has level 3, a prefix sign 9.
abbrev pub level : BinaryOp → ℕ
level op.Or = 1
level op.And = 2
level op.Equal = 4
level op.NotEqual = 4
level op.Is = 4
level op.IsNot = 4
level op.Like = 4
level op.NotLike = 4
level op.Less = 5
level op.LessEqual = 5
level op.Greater = 5
level op.GreaterEqual = 5
level op.Add = 6
level op.Sub = 6
level op.Mul = 7
level op.Div = 7
level op.Rem = 7
level op.Concat = 8

pub data Spelled : BinaryOp → Tokens → Tokens → Type 0 where
  or_word : {n : Text} {y : Tokens} → Spelled op.Or (t.Word n w.Or ∷ y) y
  and_word : {n : Text} {y : Tokens} → Spelled op.And (t.Word n w.And ∷ y) y
  equal : {y : Tokens} → Spelled op.Equal (t.Equal ∷ y) y
  equal_equal : {y : Tokens} → Spelled op.Equal (t.EqualEqual ∷ y) y
  less_greater : {y : Tokens} → Spelled op.NotEqual (t.LessGreater ∷ y) y
  bang_equal : {y : Tokens} → Spelled op.NotEqual (t.BangEqual ∷ y) y
  is_word : {n : Text} {y : Tokens} → Spelled op.Is (t.Word n w.Is ∷ y) y
  is_not : {n m : Text} {y : Tokens} → Spelled op.IsNot (t.Word n w.Is ∷ t.Word m w.Not ∷ y) y
  like : {n : Text} {y : Tokens} → Spelled op.Like (t.Word n w.Like ∷ y) y
  not_like : {n m : Text} {y : Tokens} → Spelled op.NotLike (t.Word n w.Not ∷ t.Word m w.Like ∷ y) y
  less : {y : Tokens} → Spelled op.Less (t.Less ∷ y) y
  less_equal : {y : Tokens} → Spelled op.LessEqual (t.LessEqual ∷ y) y
  greater : {y : Tokens} → Spelled op.Greater (t.Greater ∷ y) y
  greater_equal : {y : Tokens} → Spelled op.GreaterEqual (t.GreaterEqual ∷ y) y
  add : {y : Tokens} → Spelled op.Add (t.Plus ∷ y) y
  sub : {y : Tokens} → Spelled op.Sub (t.Minus ∷ y) y
  mul : {y : Tokens} → Spelled op.Mul (t.Star ∷ y) y
  div : {y : Tokens} → Spelled op.Div (t.Slash ∷ y) y
  rem : {y : Tokens} → Spelled op.Rem (t.Percent ∷ y) y
  concat : {y : Tokens} → Spelled op.Concat (t.BarBar ∷ y) y

-- `NOT` or nothing
pub data Denial : Bool → Tokens → Tokens → Type 0 where
  plain : {y : Tokens} → Denial false y y
  denied : {n : Text} {y : Tokens} → Denial true (t.Word n w.Not ∷ y) y

-- an operand of one token
pub data Atom : Token → Expr → Type 0 where
  null : {n : Text} → Atom (t.Word n w.Null) (e.Literal v.Null)
  number : {n : ℕ} → n < 2 ^ 63 → Atom (t.Numeral n) (e.Literal (v.Int (pos n)))
  text : {n : Text} → Atom (t.String n) (e.Literal (v.Text n))
  blob : {n : List ℕ} → Atom (t.Blob n) (e.Literal (v.Blob n))
  param : {n : Option Text} → Atom (t.Parameter n) (e.Param n)
  current_timestamp : {n : Text} → Atom (t.Word n w.CurrentTimestamp) e.CurrentTimestamp
  current_date : {n : Text} → Atom (t.Word n w.CurrentDate) e.CurrentDate
  current_time : {n : Text} → Atom (t.Word n w.CurrentTime) e.CurrentTime

-- a call's name as it is kept
abbrev pub upper : Text → Text
upper = map to_ascii_uppercase

mutual
  -- an expression whose outermost operator has this level or binds more tightly
  pub data At : ℕ → Tokens → Expr → Tokens → Type 0 where
    atom : {k : ℕ} {a : Expr} {u : Token} {y : Tokens} → Atom u a → At k (u ∷ y) a y
    negative : {k n : ℕ} {y : Tokens} → n ≤ 2 ^ 63 → At k (t.Minus ∷ t.Numeral n ∷ y) (e.Literal (v.Int (neg_ℤ (pos n)))) y
    name : {k : ℕ} {n : Text} {u : Token} {y : Tokens} → NameInside n u → At k (u ∷ y) (e.Name n) y
    qualified : {k : ℕ} {n m : Text} {u u' : Token} {y : Tokens} → NameInside n u → NameInside m u' → At k (u ∷ t.Dot ∷ u' ∷ y) (e.Qualified n m) y
    count_all : {k : ℕ} {n : Text} {y : Tokens} → At k (t.Word n w.Count ∷ t.Open ∷ t.Star ∷ t.Close ∷ y) e.CountAll y
    call : {k : ℕ} {n : Text} {c : Word} {xs : List Expr} {x y : Tokens} → is_reserved c ≡ false → is_time c ≡ false → Listed x xs y → At k (t.Word n c ∷ t.Open ∷ x) (e.Call (upper n) xs) y
    paren : {k : ℕ} {a : Expr} {x y : Tokens} → At 0 x a (t.Close ∷ y) → At k (t.Open ∷ x) a y
    plus : {k : ℕ} {a : Expr} {x y : Tokens} → At 9 x a y → At k (t.Plus ∷ x) a y
    minus : {k : ℕ} {a : Expr} {u : Token} {x y : Tokens} → is_numeral u ≡ false → At 9 (u ∷ x) a y → At k (t.Minus ∷ u ∷ x) (e.Minus a) y
    not : {k : ℕ} {a : Expr} {n : Text} {x y : Tokens} → k ≤ 3 → At 3 x a y → At k (t.Word n w.Not ∷ x) (e.Not a) y
    binary : {k : ℕ} {o : BinaryOp} {a b : Expr} {x y y' z : Tokens} → k ≤ level o → At (level o) x a y → Spelled o y y' → At (suc (level o)) y' b z → At k x (e.Binary o a b) z
    among : {k : ℕ} {d : Bool} {a : Expr} {n : Text} {xs : List Expr} {x y y' z : Tokens} → k ≤ 4 → At 4 x a y → Denial d y (t.Word n w.In ∷ t.Open ∷ y') → Listed y' xs z → At k x (e.InList d a xs) z
    between : {k : ℕ} {d : Bool} {a b c : Expr} {n m : Text} {x y y' z z' : Tokens} → k ≤ 4 → At 4 x a y → Denial d y (t.Word n w.Between ∷ y') → At 5 y' b (t.Word m w.And ∷ z) → At 5 z c z' → At k x (e.Between d a b c) z'

  -- at least one expression, with commas between
  pub data Some_of : Tokens → List Expr → Tokens → Type 0 where
    one : {a : Expr} {x y : Tokens} → At 0 x a y → Some_of x (a ∷ []) y
    more : {a : Expr} {xs : List Expr} {x y z : Tokens} → Some_of x xs (t.Comma ∷ y) → At 0 y a z → Some_of x (xs ++ a ∷ []) z

  -- any number of them, and `)`
  pub data Listed : Tokens → List Expr → Tokens → Type 0 where
    none : {y : Tokens} → Listed (t.Close ∷ y) [] y
    some : {xs : List Expr} {x y : Tokens} → Some_of x xs (t.Close ∷ y) → Listed x xs y
