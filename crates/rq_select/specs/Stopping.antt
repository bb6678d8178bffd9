-- How many rows are enough.
use Rattle.std.specs.Prelude.{◌≡◌, ℕ, ◌≤◌, false, List, [], length, take, Ok}
use Rattle.rq_eval.specs.Names.{Row}
use Rattle.rq_results.specs.Table.{Table, rows_of}
use Rattle.rq_select.specs.declared.planning.Plan.{Plan}
use Rattle.rq_select.specs.Select.{filtered}
use Rattle.rq_select.specs.Planned.{passes, rows_planned}
use Rattle.rq_select.specs.Keys.{AllPlain, Fine}

-- a plan without ORDER BY and aggregates, whose WHERE and results fail on no row
pub record IsPlain (p : Plan) : Type 0 where
  pub rows : p.over_all ≡ false
  pub filter : Fine (passes p.filter)
  pub terms : p.terms ≡ []
  pub results : AllPlain p.results

-- of so many of the rows WHERE is true
abbrev pub LeavesEnough : Plan → ℕ → List Row → Type 0
LeavesEnough p n rows = (left : List Row) × (filtered (passes p.filter) [] rows ≡ Ok left) × (n ≤ length left)

-- where WHERE leaves so many of the first rows of a table, a plan shows of these what it shows of all rows
abbrev pub IsEnough : Plan → ℕ → Type 0
IsEnough p n = (t : Table) (m : ℕ) → LeavesEnough p n (take m (rows_of t)) → rows_planned p (take m (rows_of t)) ≡ rows_planned p (rows_of t)
