-- The slots of a table, what they show, and what taking changes back gives.
use Rattle.std.specs.Prelude.{ℤ, List, [], ◌∷◌, Option, Some, None}
use Rattle.std.specs.Ordering.{int_cmp}
use Rattle.std.specs.FinMap as fin
use Rattle.std.specs.FinMap.{FinMap}
use Rattle.rq_values.specs.declared.value.Value.{Value}
use Rattle.rq_rows.specs.Rows.{Filled, Row}
use Rattle.rq_rows.specs.declared.change.Change.{Change}

-- a slot shows a row, or nothing
abbrev pub Slot : Type 0
Slot = Option (List Value)

abbrev pub Slots : Type 0
Slots = FinMap int_cmp Slot

abbrev pub slots_of : List (ℤ × Slot) → Slots
slots_of es = fin.from_entries es

abbrev pub joined : Option Slot → Slot
joined None = None
joined (Some o) = o

-- the slots with one as it was: with that content, or gone
abbrev pub put_slot : Slots → ℤ → Option Slot → Slots
put_slot s k None = fin.remove s k
put_slot s k (Some o) = fin.insert s k o

-- the rows with a rowid as a slot has it
abbrev pub put : Filled → ℤ → Slot → Filled
put m k None = fin.remove m k
put m k (Some row) = fin.insert m k row

abbrev pub shown_by : List (ℤ × Slot) → Filled
shown_by [] = fin.empty
shown_by (e ∷ es) = put (shown_by es) e.0 e.1

-- the rows that the slots show
abbrev pub live : Slots → Filled
live s = shown_by (fin.entries s)

-- the changes taken back, the last one first
abbrev pub undone : List Change → Slots → Slots
undone [] s = s
undone (l ∷ ls) s = put_slot (undone ls s) l.key l.old

-- the slots that show a row
abbrev pub shown : List (ℤ × Slot) → List Row
shown [] = []
shown ((k, None) ∷ es) = shown es
shown ((k, Some row) ∷ es) = (k, row) ∷ shown es
