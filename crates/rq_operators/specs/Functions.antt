-- The functions: their names, how many arguments each takes, and what the operators and the functions of one value give.
use Rattle.std.specs.Prelude.{ℕ, Bool, not, if◌then◌else◌, nat_eq, nat_le, List, [], ◌∷◌, codes, bytes_eq, Option, Some, None, Ok}
use Rattle.std.specs.Ordering.{is_eq, is_ne, is_lt, is_le, is_gt, is_ge}
use Rattle.rq_values.specs.declared.value.Value.{Value}
use Rattle.rq_grammar.specs.declared.expr.BinaryOp.{BinaryOp}
use Rattle.rq_grammar.specs.declared.expr.BinaryOp.TheVariants as op
use Rattle.rq_operators.specs.declared.arithmetic.Arithmetic.TheVariants as ar
use Rattle.rq_operators.specs.declared.operators.TimePart.TheVariants as part
use Rattle.rq_operators.specs.declared.operators.UnaryOp.{UnaryOp}
use Rattle.rq_operators.specs.declared.operators.UnaryOp.TheVariants as u
use Rattle.rq_operators.specs.declared.operators.AggregateOp.TheVariants as a
use Rattle.rq_operators.specs.declared.operators.Function.{Function}
use Rattle.rq_operators.specs.declared.operators.Function.TheVariants as f
use Rattle.rq_operators.specs.Outcome.{Outcome, then_with}
use Rattle.rq_operators.specs.Operators as o
use Rattle.rq_operators.specs.Texts as t

-- the functions and their names: those of one row, and those over all rows
abbrev pub functions : List (List ℕ × Function)
functions =
    (codes "ABS", f.Unary u.Abs)
    ∷ (codes "LENGTH", f.Unary u.Length)
    ∷ (codes "LOWER", f.Unary u.Lower)
    ∷ (codes "UPPER", f.Unary u.Upper)
    ∷ (codes "HEX", f.Unary u.Hex)
    ∷ (codes "TYPEOF", f.Unary u.TypeOf)
    ∷ (codes "DATE", f.Unary (u.Part part.Date))
    ∷ (codes "TIME", f.Unary (u.Part part.Time))
    ∷ (codes "DATETIME", f.Unary (u.Part part.DateTime))
    ∷ (codes "COALESCE", f.Coalesce)
    ∷ (codes "IFNULL", f.IfNull)
    ∷ (codes "RANDOM", f.Random)
    ∷ (codes "RANDOMBLOB", f.RandomBlob)
    ∷ (codes "COUNT", f.Aggregate a.Count)
    ∷ (codes "SUM", f.Aggregate a.Sum)
    ∷ (codes "MIN", f.Aggregate a.Min)
    ∷ (codes "MAX", f.Aggregate a.Max)
    ∷ []

-- the first that has the name
abbrev pub named_among : List (List ℕ × Function) → List ℕ → Option Function
named_among [] n = None
named_among (h ∷ hs) n = if bytes_eq h.0 n then Some h.1 else named_among hs n

-- a call's name stands in upper case
unfoldable pub function_of : List ℕ → Option Function
function_of n = named_among functions n

abbrev pub takes : Function → ℕ → Bool
takes (f.Unary h) n = nat_eq n 1
takes f.Coalesce n = nat_le 2 n
takes f.IfNull n = nat_eq n 2
takes (f.Aggregate h) n = nat_eq n 1
takes f.Random n = nat_eq n 0
takes f.RandomBlob n = nat_eq n 1

abbrev pub unary : UnaryOp → Value → Outcome Value
unary u.Minus x = o.on_integer o.negative x
unary u.Not x = o.logical_not x
unary u.Abs x = o.on_integer o.absolute x
unary u.Length x = t.length_of x
unary u.Lower x = t.on_text t.lower x
unary u.Upper x = t.on_text t.upper x
unary u.Hex x = Ok (t.hex x)
unary u.TypeOf x = Ok (t.type_of x)
unary (u.Part h) x = t.time_part h x

abbrev pub binary : BinaryOp → Value → Value → Outcome Value
binary op.Or x y = o.logical o.or3 x y
binary op.And x y = o.logical o.and3 x y
binary op.Equal x y = o.compared is_eq x y
binary op.NotEqual x y = o.compared is_ne x y
binary op.Is x y = Ok (o.truth (Some (o.is_same x y)))
binary op.IsNot x y = Ok (o.truth (Some (not (o.is_same x y))))
binary op.Like x y = t.on_texts t.like_value x y
binary op.NotLike x y = then_with (t.on_texts t.like_value x y) o.logical_not
binary op.Less x y = o.compared is_lt x y
binary op.LessEqual x y = o.compared is_le x y
binary op.Greater x y = o.compared is_gt x y
binary op.GreaterEqual x y = o.compared is_ge x y
binary op.Add x y = o.arithmetic ar.Add x y
binary op.Sub x y = o.arithmetic ar.Sub x y
binary op.Mul x y = o.arithmetic ar.Mul x y
binary op.Div x y = o.arithmetic ar.Div x y
binary op.Rem x y = o.arithmetic ar.Rem x y
binary op.Concat x y = t.on_texts t.concatenated x y

abbrev pub not_like : BinaryOp
not_like = op.NotLike
