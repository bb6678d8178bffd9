-- The operators over values, as docs/SQL.md has them under "The value of an expression".
-- Source: SQLite, "SQL Language Expressions", but that no kind is turned into another and that overflow is an error.
use Rattle.std.specs.Prelude.{◌^◌, Bool, true, false, not, ◌||◌, if◌then◌else◌, nat_lt, List, [], ◌∷◌, Option, Some, None, Ok, Err, ℤ, pos, negsuc, ◌+ℤ◌, ◌-ℤ◌, ◌*ℤ◌, neg_ℤ, int_div, int_rem, int_lt}
use Rattle.std.specs.declared.cmp.Ordering.{Ordering}
use Rattle.std.specs.Ordering.{int_eq, is_eq, is_le, is_ge}
use Rattle.rq_values.specs.Order.{value_cmp}
use Rattle.rq_values.specs.declared.value.Value.{Value}
use Rattle.rq_values.specs.declared.value.Value.TheVariants as v
use Rattle.rq_operators.specs.declared.error.ValueError.TheVariants as error
use Rattle.rq_operators.specs.declared.arithmetic.Arithmetic.{Arithmetic}
use Rattle.rq_operators.specs.declared.arithmetic.Arithmetic.TheVariants as a
use Rattle.rq_operators.specs.declared.arithmetic.Sign.{Sign}
use Rattle.rq_operators.specs.declared.arithmetic.Sign.TheVariants as sign
use Rattle.rq_operators.specs.declared.logic.Junction.{Junction}
use Rattle.rq_operators.specs.declared.logic.Junction.TheVariants as j
use Rattle.rq_operators.specs.Outcome.{Outcome, then_with}

-- ---- three-valued logic

abbrev pub truth : Option Bool → Value
truth None = v.Null
truth (Some true) = v.Int (pos 1)
truth (Some false) = v.Int (pos 0)

-- a condition is an integer, where 0 is false, or NULL
abbrev pub condition : Value → Outcome (Option Bool)
condition v.Null = Ok None
condition (v.Int n) = Ok (Some (not (int_eq n (pos 0))))
condition (v.Text t) = Err error.NotCondition
condition (v.Blob b) = Err error.NotCondition

abbrev pub or3 : Option Bool → Option Bool → Option Bool
or3 (Some true) y = Some true
or3 (Some false) y = y
or3 None (Some true) = Some true
or3 None (Some false) = None
or3 None None = None

abbrev pub not3 : Option Bool → Option Bool
not3 None = None
not3 (Some b) = Some (not b)

abbrev pub and3 : Option Bool → Option Bool → Option Bool
and3 x y = not3 (or3 (not3 x) (not3 y))

-- both operands are judged, the left first
abbrev pub logical : (Option Bool → Option Bool → Option Bool) → Value → Value → Outcome Value
logical f x y = then_with (condition x) (λ p. then_with (condition y) (λ q. Ok (truth (f p q))))

abbrev pub junction : Junction → Option Bool → Option Bool → Option Bool
junction j.Or = or3
junction j.And = and3

abbrev pub logical_not : Value → Outcome Value
logical_not x = then_with (condition x) (λ p. Ok (truth (not3 p)))

-- ---- comparison

abbrev pub is_null : Value → Bool
is_null v.Null = true
is_null (v.Int n) = false
is_null (v.Text t) = false
is_null (v.Blob b) = false

abbrev pub either_null : Value → Value → Bool
either_null x y = is_null x || is_null y

-- unknown where one of the two is NULL
abbrev pub unless_null : Value → Value → Bool → Option Bool
unless_null x y b = if either_null x y then None else Some b

abbrev pub equal3 : Value → Value → Option Bool
equal3 x y = unless_null x y (is_eq (value_cmp x y))

abbrev pub compared : (Ordering → Bool) → Value → Value → Outcome Value
compared f x y = Ok (truth (unless_null x y (f (value_cmp x y))))

-- IS, for which NULL is a value
abbrev pub is_same : Value → Value → Bool
is_same x y = is_eq (value_cmp x y)

-- x = a OR x = b OR ..
abbrev pub or_equal : Option Bool → Value → List Value → Option Bool
or_equal p x [] = p
or_equal p x (y ∷ ys) = or_equal (or3 p (equal3 x y)) x ys

abbrev pub in_list : Value → List Value → Value
in_list x ys = truth (or_equal (Some false) x ys)

-- x >= low AND x <= high
abbrev pub between : Value → Value → Value → Value
between x low high = truth (and3 (unless_null x low (is_ge (value_cmp x low))) (unless_null x high (is_le (value_cmp x high))))

-- COALESCE
abbrev pub first_non_null : List Value → Value
first_non_null [] = v.Null
first_non_null (x ∷ xs) = if is_null x then first_non_null xs else x

-- ---- arithmetic

abbrev pub fits : ℤ → Bool
fits (pos n) = nat_lt n (2 ^ 63)
fits (negsuc n) = nat_lt n (2 ^ 63)

abbrev pub in_range : ℤ → Outcome Value
in_range z = if fits z then Ok (v.Int z) else Err error.IntegerOverflow

abbrev pub integer : Value → Outcome ℤ
integer v.Null = Err error.NotInteger
integer (v.Int n) = Ok n
integer (v.Text t) = Err error.NotInteger
integer (v.Blob b) = Err error.NotInteger

abbrev pub sum : ℤ → ℤ → Outcome Value
sum m n = in_range (m +ℤ n)

abbrev pub difference : ℤ → ℤ → Outcome Value
difference m n = in_range (m -ℤ n)

abbrev pub product : ℤ → ℤ → Outcome Value
product m n = in_range (m *ℤ n)

-- rounded toward zero; by zero it is NULL
abbrev pub quotient : ℤ → ℤ → Outcome Value
quotient m n = if int_eq n (pos 0) then Ok v.Null else in_range (int_div m n)

abbrev pub remainder : ℤ → ℤ → Outcome Value
remainder m n = if int_eq n (pos 0) then Ok v.Null else Ok (v.Int (int_rem m n))

abbrev pub calculated : Arithmetic → ℤ → ℤ → Outcome Value
calculated a.Add m n = sum m n
calculated a.Sub m n = difference m n
calculated a.Mul m n = product m n
calculated a.Div m n = quotient m n
calculated a.Rem m n = remainder m n

-- NULL where one is NULL, else both are integers, the left judged first
abbrev pub arithmetic : Arithmetic → Value → Value → Outcome Value
arithmetic h x y = if either_null x y then Ok v.Null else then_with (integer x) (λ m. then_with (integer y) (λ n. calculated h m n))

abbrev pub on_integer : (ℤ → Outcome Value) → Value → Outcome Value
on_integer f x = if is_null x then Ok v.Null else then_with (integer x) f

abbrev pub negative : ℤ → Outcome Value
negative n = in_range (neg_ℤ n)

abbrev pub absolute : ℤ → Outcome Value
absolute n = if int_lt n (pos 0) then in_range (neg_ℤ n) else Ok (v.Int n)

abbrev pub signed : Sign → ℤ → Outcome Value
signed sign.Minus n = negative n
signed sign.Absolute n = absolute n
