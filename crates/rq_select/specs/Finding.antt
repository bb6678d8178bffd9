-- What a table tells of the rows that have a value in a column.
use Rattle.std.specs.Prelude.{◌≡◌, ℕ, ℤ, List, Some}
use Rattle.std.specs.FinMap as fin
use Rattle.rq_values.specs.declared.value.Value.{Value}
use Rattle.rq_eval.specs.Names.{row_of, value_at}
use Rattle.rq_results.specs.Table.{Table, as_row, row_at}
use Rattle.rq_select.specs.declared.table.Lookup.{Lookup}
use Rattle.rq_select.specs.declared.table.Lookup.TheVariants as lookup

-- no row of the table has the value at the place; and only the row of that rowid has it
abbrev pub NoneHas : Table → ℕ → Value → Type 0
NoneHas t i x = (k : ℤ) (vs : List Value) → fin.get t.rows k ≡ Some vs → value_at (as_row (k, vs)) i ≡ x → ⊥

abbrev pub OnlyHas : Table → ℕ → Value → ℤ → Type 0
OnlyHas t i x rowid = (k : ℤ) (vs : List Value) → fin.get t.rows k ≡ Some vs → value_at (as_row (k, vs)) i ≡ x → k ≡ rowid

-- what a look-up tells
abbrev pub Finds : Table → ℕ → Value → Lookup → Type 0
Finds t i x lookup.Unknown = Unit {0}
Finds t i x lookup.NoRow = NoneHas t i x
Finds t i x (lookup.Row r) = (row_at t r.rowid ≡ Some (row_of r)) × OnlyHas t i x r.rowid
