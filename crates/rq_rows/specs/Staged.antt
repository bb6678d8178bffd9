-- Rows whose changes can be taken back.
use Rattle.std.specs.Prelude.{ℕ, ◌≡◌, List, [], ◌∷◌, length, drop, IsSome, refl}
use Rattle.std.specs.FinMap as fin
use Rattle.std.specs.Coded.{Coded, code_by, coded×, coded_ℤ, coded_list}
use Rattle.rq_values.specs.declared.value.Value.{Value}
use Rattle.rq_grammar.specs.declared.stmt.ColumnDef.{ColumnDef}
use Rattle.rq_rows.specs.Rows.{Filled}
use Rattle.rq_rows.specs.declared.change.Change.{Change}
use Rattle.rq_rows.specs.Slots.{Slots, joined, live, undone}
use Rattle.rq_rows.specs.Covering.{Held, Covers, Valid, HasHolders}

-- the rows as the command found them, as the statement did, and as they are
pub record Staged : Type 0 where
  pub columns : List ColumnDef
  pub start : Filled
  pub before : Filled
  pub now : Filled

-- what the slots and the log of changes, the statement's from a mark on, stand for
abbrev pub staged : List ColumnDef → ℕ → Slots → List Change → Staged
staged cs mark s ls = record { columns = cs; start = live (undone ls s); before = live (undone (drop mark ls) s); now = live s }

-- each state on the way back is valid
abbrev pub Valids : List ColumnDef → List Change → Slots → Type 0
Valids cs [] s = Valid cs (live s)
Valids cs (l ∷ ls) s = Valid cs (live (undone (l ∷ ls) s)) × Valids cs ls s

-- to go back needs no memory
abbrev pub Ready : List ColumnDef → List Held → List Change → Slots → Type 0
Ready cs hs [] s = Unit {0}
Ready cs hs (l ∷ ls) s = IsSome (fin.get (undone ls s) l.key) × HasHolders cs hs (joined l.old) × Ready cs hs ls s

pub record Sound (cs : List ColumnDef) (hs : List Held) (s : Slots) (log : List Change) : Type 0 where
  pub matched : length hs ≡ length cs
  pub covers : Covers cs hs (live s)
  pub valids : Valids cs log s
  pub ready : Ready cs hs log s

abbrev pub filled_code : Coded Value → Coded Filled
filled_code v = fin.code coded_ℤ (coded_list v)

abbrev pub staged_code : Coded ColumnDef → Coded Value → Coded Staged
staged_code c v =
    code_by (List ColumnDef × (Filled × (Filled × Filled)))
    (coded× (coded_list c) (coded× (filled_code v) (coded× (filled_code v) (filled_code v))))
    (λ s. (s.columns, (s.start, (s.before, s.now))))
    (λ p. record { columns = p.0; start = p.1.0; before = p.1.1.0; now = p.1.1.1 })
    (λ _. refl)
