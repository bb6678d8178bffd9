-- Operators that are tokens of their own.
use Rattle.std.specs.Prelude.{Option, Some, None}
use Rattle.rq_grammar.specs.declared.token.Token.{Token}
use Rattle.rq_grammar.specs.declared.token.Token.TheVariants as t
use Rattle.rq_grammar.specs.declared.expr.BinaryOp.{BinaryOp}
use Rattle.rq_grammar.specs.declared.expr.BinaryOp.TheVariants as op

-- the operator that the token is by itself
abbrev pub mark_operator : Token → Option BinaryOp
mark_operator t.Equal = Some op.Equal
mark_operator t.EqualEqual = Some op.Equal
mark_operator t.LessGreater = Some op.NotEqual
mark_operator t.BangEqual = Some op.NotEqual
mark_operator t.Less = Some op.Less
mark_operator t.LessEqual = Some op.LessEqual
mark_operator t.Greater = Some op.Greater
mark_operator t.GreaterEqual = Some op.GreaterEqual
mark_operator t.Plus = Some op.Add
mark_operator t.Minus = Some op.Sub
mark_operator t.Star = Some op.Mul
mark_operator t.Slash = Some op.Div
mark_operator t.Percent = Some op.Rem
mark_operator t.BarBar = Some op.Concat
mark_operator _ = None
