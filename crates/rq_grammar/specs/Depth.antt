-- How deep a statement is, how many parentheses are open, and where reading within limits of both stops, as docs/SQL.md has them.
use Rattle.std.specs.Prelude.{ℕ, suc, ◌-◌, ◌≡◌, ◌≤◌, ◌<◌, max, List, [], ◌∷◌, ◌++◌, map, length, take, Option, Some, None}
use Rattle.rq_grammar.specs.declared.token.Token.{Token}
use Rattle.rq_grammar.specs.declared.token.Token.TheVariants as t
use Rattle.rq_grammar.specs.declared.expr.Expr.{Expr}
use Rattle.rq_grammar.specs.declared.expr.Expr.TheOpen.{Expr-F}
use Rattle.rq_grammar.specs.declared.expr.Expr.TheFolds.{fold-Expr}
use Rattle.rq_grammar.specs.declared.stmt.ResultItem.{ResultItem}
use Rattle.rq_grammar.specs.declared.stmt.ResultItem.TheVariants as item
use Rattle.rq_grammar.specs.declared.stmt.OrderTerm.{OrderTerm}
use Rattle.rq_grammar.specs.declared.stmt.SelectStmt.{SelectStmt}
use Rattle.rq_grammar.specs.declared.stmt.InsertRows.TheVariants as rows
use Rattle.rq_grammar.specs.declared.stmt.Stmt.{Stmt}
use Rattle.rq_grammar.specs.declared.stmt.Stmt.TheVariants as stmt
use Rattle.rq_grammar.specs.Words.{Text, Tokens}
use Rattle.rq_grammar.specs.Statements.{Spells, GoesOn}

-- ---- depth

abbrev pub most : List ℕ → ℕ
most [] = 0
most (n ∷ ns) = max n (most ns)

-- a call without arguments counts as two
abbrev pub depth_step : Expr-F ℕ → ℕ
depth_step (Expr-F.Call n xs) = suc (max 1 (most xs))
depth_step (Expr-F.Minus a) = suc a
depth_step (Expr-F.Not a) = suc a
depth_step (Expr-F.Binary o a b) = suc (max a b)
depth_step (Expr-F.InList n a xs) = suc (max a (most xs))
depth_step (Expr-F.Between n a b c) = suc (max a (max b c))
depth_step _ = 1

-- the nodes on the longest path
abbrev pub depth : Expr → ℕ
depth = fold-Expr ℕ depth_step

abbrev pub depths : List Expr → ℕ
depths xs = most (map depth xs)

abbrev pub rows_depth : List (List Expr) → ℕ
rows_depth rs = most (map depths rs)

abbrev pub maybe_depth : Option Expr → ℕ
maybe_depth None = 0
maybe_depth (Some a) = depth a

abbrev pub item_depth : ResultItem → ℕ
item_depth item.All = 0
item_depth (item.Value a n) = depth a

abbrev pub results_depth : List ResultItem → ℕ
results_depth is = most (map item_depth is)

abbrev pub term_depth : OrderTerm → ℕ
term_depth i = depth i.expr

abbrev pub order_depth : List OrderTerm → ℕ
order_depth is = most (map term_depth is)

abbrev pub set_depth : Text × Expr → ℕ
set_depth i = depth i.1

abbrev pub sets_depth : List (Text × Expr) → ℕ
sets_depth is = most (map set_depth is)

abbrev pub select_depth : SelectStmt → ℕ
select_depth q = max (results_depth q.results) (max (maybe_depth q.filter) (max (order_depth q.order) (max (maybe_depth q.limit) (maybe_depth q.offset))))

abbrev pub deepest : Stmt → ℕ
deepest (stmt.Create b n ds) = 0
deepest (stmt.Drop b n) = 0
deepest (stmt.Insert n ns (rows.Values rs)) = rows_depth rs
deepest (stmt.Insert n ns (rows.Select q)) = select_depth q
deepest (stmt.Update n is g) = max (sets_depth is) (maybe_depth g)
deepest (stmt.Delete n g) = maybe_depth g
deepest (stmt.Select q) = select_depth q

-- ---- parentheses

-- how many `(` are open behind the token, where n were before it
abbrev pub open_behind : ℕ → Token → ℕ
open_behind n t.Open = suc n
open_behind n t.Close = n - 1
open_behind n _ = n

-- the most that are open at any place
abbrev pub most_open : ℕ → Tokens → ℕ
most_open n [] = n
most_open n (u ∷ us) = max n (most_open (open_behind n u) us)

-- ---- limits

pub record Limits : Type 0 where
  pub depth : ℕ
  pub parens : ℕ

abbrev pub the_limits : Limits
the_limits = record { depth = 100; parens = 250 }

-- the tokens spell the statement, and both are within the limits
pub record SpellsWithin (l : Limits) (x : Tokens) (r : Stmt) : Type 0 where
  pub spells : Spells x r
  pub shallow : deepest r ≤ l.depth
  pub narrow : most_open 0 x ≤ l.parens

-- some statement within the limits begins with these tokens
abbrev pub GoesOnWithin : Limits → Tokens → Type 0
GoesOnWithin l prefix = (rest : Tokens) × (r : Stmt) × SpellsWithin l (prefix ++ rest) r

-- why reading stops at a token: no statement goes on with it, or only one beyond the limits
pub data Stop : Type 0 where
  NoStatement : Stop
  TooDeep : Stop

-- why the token at the place, or the end there, is refused
abbrev pub Refuses : Limits → Tokens → Stop → ℕ → Type 0
Refuses l x NoStatement n = (n < length x → GoesOn (take (suc n) x) → ⊥) × (n ≡ length x → (r : Stmt) → Spells x r → ⊥)
Refuses l x TooDeep n = (n < length x) × GoesOn (take (suc n) x) × (GoesOnWithin l (take (suc n) x) → ⊥)

-- the place at which reading within the limits stops
pub record StopsAt (l : Limits) (x : Tokens) (stop : Stop) (n : ℕ) : Type 0 where
  pub within : n ≤ length x
  pub goes_on : GoesOnWithin l (take n x)
  pub refuses : Refuses l x stop n
