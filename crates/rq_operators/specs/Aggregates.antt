-- Aggregates: what COUNT, SUM, MIN and MAX have so far, and one more value.
-- Source: SQLite, "Built-in Aggregate Functions", but that SUM takes integers alone and that overflow is an error.
use Rattle.std.specs.Prelude.{Bool, ◌||◌, if◌then◌else◌, Ok, Err, pos}
use Rattle.std.specs.Ordering.{is_lt, is_gt}
use Rattle.rq_values.specs.Order.{value_cmp}
use Rattle.rq_values.specs.declared.value.Value.{Value}
use Rattle.rq_values.specs.declared.value.Value.TheVariants as v
use Rattle.rq_operators.specs.declared.error.ValueError.TheVariants as error
use Rattle.rq_operators.specs.declared.arithmetic.Arithmetic.TheVariants as ar
use Rattle.rq_operators.specs.declared.operators.AggregateOp.{AggregateOp}
use Rattle.rq_operators.specs.declared.operators.AggregateOp.TheVariants as a
use Rattle.rq_operators.specs.Outcome.{Outcome}
use Rattle.rq_operators.specs.Operators as o

-- the sum so far, NULL at first, and one more
abbrev pub added : Value → Value → Outcome Value
added v.Null y = o.arithmetic ar.Add (v.Int (pos 0)) y
added (v.Int m) y = o.arithmetic ar.Add (v.Int m) y
added (v.Text s) y = Err error.NotInteger
added (v.Blob s) y = Err error.NotInteger

-- the value so far, or the new one where there was none or the new one is better
abbrev pub chosen : (Value → Value → Bool) → Value → Value → Value
chosen better x y = if o.is_null x || better y x then y else x

abbrev pub is_less : Value → Value → Bool
is_less y x = is_lt (value_cmp y x)

abbrev pub is_greater : Value → Value → Bool
is_greater y x = is_gt (value_cmp y x)

-- what an aggregate has so far, and one more value that isn't NULL
abbrev pub accumulated : AggregateOp → Value → Value → Outcome Value
accumulated a.Count x y = added x (v.Int (pos 1))
accumulated a.Sum x y = added x y
accumulated a.Min x y = Ok (chosen is_less x y)
accumulated a.Max x y = Ok (chosen is_greater x y)

-- over no row
abbrev pub start : AggregateOp → Value
start a.Count = v.Int (pos 0)
start a.Sum = v.Null
start a.Min = v.Null
start a.Max = v.Null

-- NULLs aren't counted
abbrev pub one_more : AggregateOp → Value → Value → Outcome Value
one_more h x y = if o.is_null y then Ok x else accumulated h x y
