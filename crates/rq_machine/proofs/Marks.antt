-- What a token does that is an operator by itself.
use Rattle.std.proofs.Common.{◌≡◌, ℕ, Some, ap}
use Rattle.rq_grammar.specs.declared.token.Token.{Token}
use Rattle.rq_grammar.specs.declared.token.Token.TheVariants as t
use Rattle.rq_grammar.specs.declared.expr.BinaryOp.{BinaryOp}
use Rattle.rq_grammar.specs.declared.expr.Expr.{Expr}
use Rattle.rq_automaton.specs.Stack.{Stack, binary}
use Rattle.rq_automaton.specs.Machine.{done}
use Rattle.rq_machine.specs.Marks.{mark_operator}

same : (o o' : BinaryOp) (m : ℕ) (st : Stack) (a : Expr) → Some o ≡ Some o' → binary o m st a ≡ binary o' m st a
same o o' m st a h = let e : o ≡ o' = cc in ap (λ o. binary o m st a) e

pub operator_done : (m : ℕ) (st : Stack) (a : Expr) (u : Token) (o : BinaryOp) → mark_operator u ≡ Some o → done m st a u ≡ binary o m st a
unfolding done
operator_done m st a t.Equal o h = same _ o m st a h
operator_done m st a t.EqualEqual o h = same _ o m st a h
operator_done m st a t.LessGreater o h = same _ o m st a h
operator_done m st a t.BangEqual o h = same _ o m st a h
operator_done m st a t.Less o h = same _ o m st a h
operator_done m st a t.LessEqual o h = same _ o m st a h
operator_done m st a t.Greater o h = same _ o m st a h
operator_done m st a t.GreaterEqual o h = same _ o m st a h
operator_done m st a t.Plus o h = same _ o m st a h
operator_done m st a t.Minus o h = same _ o m st a h
operator_done m st a t.Star o h = same _ o m st a h
operator_done m st a t.Slash o h = same _ o m st a h
operator_done m st a t.Percent o h = same _ o m st a h
operator_done m st a t.BarBar o h = same _ o m st a h
operator_done m st a _ o h = absurd (cc)
