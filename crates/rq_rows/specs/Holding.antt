-- Which row holds a value.
use Rattle.std.specs.Prelude.{ℤ, Bool, List, Option}
use Rattle.std.specs.Ordering.{is_eq}
use Rattle.std.specs.Map.{lookup}
use Rattle.std.specs.declared.cmp.Ordering.{Ordering}
use Rattle.rq_values.specs.declared.value.Value.{Value}
use Rattle.rq_values.specs.contracts.value.ValueOrd.TheImpl.{cmp-value}

-- the order that the keys of the map have; it is that of values
abbrev pub key_cmp : Value → Value → Ordering
key_cmp = cmp-value.it

abbrev pub same : Value → Value → Bool
same v w = is_eq (key_cmp v w)

abbrev pub held : List (Value × ℤ) → Value → Option ℤ
held es v = lookup (same v) es
