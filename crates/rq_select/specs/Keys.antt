-- Conditions that fail on no row, and the value that they want in a column.
use Rattle.std.specs.Prelude.{◌≡◌, ℕ, ℤ, Bool, true, false, List, [], ◌∷◌, map, Option, Some, None, Result, Ok, Err, Vec}
use Rattle.std.specs.FinMap as fin
use Rattle.rq_values.specs.declared.memory.NoMemory.{NoMemory}
use Rattle.rq_values.specs.declared.value.Value.{Value}
use Rattle.rq_eval.specs.declared.resolved.ResolvedExpr.{ResolvedExpr}
use Rattle.rq_grammar.specs.declared.expr.BinaryOp.{BinaryOp}
use Rattle.rq_grammar.specs.declared.expr.BinaryOp.TheVariants as op
use Rattle.rq_eval.specs.declared.resolved.ResolvedExpr.TheVariants as expr
use Rattle.rq_eval.specs.declared.row.RowView.{RowView}
use Rattle.rq_eval.specs.Outcome.{Outcome}
use Rattle.rq_operators.specs.Operators.{truth, condition}
use Rattle.rq_eval.specs.Names.{Row, row_of, value_at}
use Rattle.rq_eval.specs.Resolved.{evaluated}
use Rattle.rq_eval.specs.Value.{on_two}
use Rattle.rq_select.specs.declared.table.Lookup.{Lookup}
use Rattle.rq_select.specs.declared.table.Lookup.TheVariants as lookup
use Rattle.rq_results.specs.Table.{Table, as_row, rows_of, row_at}
use Rattle.rq_select.specs.Select.{Test, filtered}
use Rattle.rq_select.specs.Planned.{passes}

-- ---- conditions

-- a value comes out
abbrev pub IsPlain : Outcome Value → Type 0
IsPlain o = (x : Value) × (o ≡ Ok x)

-- a truth value comes out
abbrev pub IsTest : Outcome Value → Type 0
IsTest o = (b : Option Bool) × (o ≡ Ok (truth b))

abbrev pub AlwaysPlain : ResolvedExpr → Type 0
AlwaysPlain e = (r : Row) → IsPlain (evaluated [] e r)

abbrev pub AlwaysTest : ResolvedExpr → Type 0
AlwaysTest e = (r : Row) → IsTest (evaluated [] e r)

abbrev pub AllPlain : List ResolvedExpr → Type 0
AllPlain [] = Unit {0}
AllPlain (e ∷ es) = AlwaysPlain e × AllPlain es

abbrev pub is_comparison : BinaryOp → Bool
is_comparison op.Or = false
is_comparison op.And = false
is_comparison op.Equal = true
is_comparison op.NotEqual = true
is_comparison op.Is = true
is_comparison op.IsNot = true
is_comparison op.Like = false
is_comparison op.NotLike = false
is_comparison op.Less = true
is_comparison op.LessEqual = true
is_comparison op.Greater = true
is_comparison op.GreaterEqual = true
is_comparison op.Add = false
is_comparison op.Sub = false
is_comparison op.Mul = false
is_comparison op.Div = false
is_comparison op.Rem = false
is_comparison op.Concat = false

abbrev pub is_junction : BinaryOp → Bool
is_junction op.Or = true
is_junction op.And = true
is_junction op.Equal = false
is_junction op.NotEqual = false
is_junction op.Is = false
is_junction op.IsNot = false
is_junction op.Like = false
is_junction op.NotLike = false
is_junction op.Less = false
is_junction op.LessEqual = false
is_junction op.Greater = false
is_junction op.GreaterEqual = false
is_junction op.Add = false
is_junction op.Sub = false
is_junction op.Mul = false
is_junction op.Div = false
is_junction op.Rem = false
is_junction op.Concat = false

-- a condition that is true
abbrev pub IsMet : Outcome Value → Type 0
IsMet o = (x : Value) × (o ≡ Ok x) × (condition x ≡ Ok (Some true))

-- where `left = right` is true, the value stands at the place
abbrev pub EqualWants : ResolvedExpr → ResolvedExpr → ℕ → Value → Type 0
EqualWants a b i y = (r : Row) → IsMet (on_two op.Equal (evaluated [] a) (evaluated [] b) r) → value_at r i ≡ y

-- ---- tests of rows

-- the test fails on no row
abbrev pub Fine : Test → Type 0
Fine p = (r : Row) → (b : Bool) × (p r ≡ Ok b)

abbrev pub equal : ResolvedExpr → ResolvedExpr → ResolvedExpr
equal a b = expr.Binary op.Equal a b

-- the condition is true for no row of the table; and for that of one rowid alone
abbrev pub MetByNone : Table → ResolvedExpr → Type 0
MetByNone t e = (k : ℤ) (vs : List Value) → fin.get t.rows k ≡ Some vs → IsMet (evaluated [] e (as_row (k, vs))) → ⊥

abbrev pub MetByOnly : Table → ResolvedExpr → ℤ → Type 0
MetByOnly t e rowid = (k : ℤ) (vs : List Value) → fin.get t.rows k ≡ Some vs → IsMet (evaluated [] e (as_row (k, vs))) → k ≡ rowid

-- what a look-up tells of a condition
abbrev pub Tells : Table → ResolvedExpr → Lookup → Type 0
Tells t e lookup.Unknown = Unit {0}
Tells t e lookup.NoRow = MetByNone t e
Tells t e (lookup.Row r) = (row_at t r.rowid ≡ Some (row_of r)) × MetByOnly t e r.rowid

-- the rows of a table that pass have one rowid
abbrev pub OnlyAt : Test → Table → ℤ → Type 0
OnlyAt p t k = (j : ℤ) (vs : List Value) → fin.get t.rows j ≡ Some vs → p (as_row (j, vs)) ≡ Ok true → j ≡ k

abbrev pub or_none : Option Row → List Row
or_none None = []
or_none (Some r) = r ∷ []

-- of some rows WHERE leaves what it leaves of all rows of the table
abbrev pub Left : Option ResolvedExpr → List Row → Table → Type 0
Left f rows t = filtered (passes f) [] rows ≡ filtered (passes f) [] (rows_of t)

-- rows that are found, if any are
abbrev pub FindsRows : {Z : Type 0} → Option ResolvedExpr → Table → Result (Option (Vec RowView Z)) NoMemory → Type 0
FindsRows f t (Ok (Some rows)) = Left f (map row_of rows.items) t
FindsRows f t (Ok None) = Unit {0}
FindsRows f t (Err e) = Unit {0}
