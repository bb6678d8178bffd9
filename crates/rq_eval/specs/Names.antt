-- What the names in an expression name: the columns of a table in their order, and behind them its rowid.
use Rattle.std.specs.Prelude.{ℕ, ◌+◌, Bool, if◌then◌else◌, List, [], ◌∷◌, map, codes, bytes_eq, Option, Some, None, ℤ, slice_get}
use Rattle.std.specs.Char.{to_ascii_lowercase}
use Rattle.rq_values.specs.declared.value.Value.{Value}
use Rattle.rq_values.specs.declared.value.Value.TheVariants as v
use Rattle.rq_eval.specs.declared.row.Scope.{Scope}
use Rattle.rq_eval.specs.declared.row.Scope.TheVariants as scope
use Rattle.rq_eval.specs.declared.row.RowView.{RowView}

-- without ASCII case
abbrev pub is_same_name : List ℕ → List ℕ → Bool
is_same_name a b = bytes_eq (map to_ascii_lowercase a) (map to_ascii_lowercase b)

-- the place of the first column that has the name, counted on from i; behind the columns stands the rowid, which is named `rowid`
abbrev pub place_from : ℕ → List (List ℕ) → List ℕ → Option ℕ
place_from i [] n = if is_same_name (codes "rowid") n then Some i else None
place_from i (c ∷ cs) n = if is_same_name c n then Some i else place_from (i + 1) cs n

abbrev pub place : Scope → List ℕ → Option ℕ
place scope.Empty n = None
place (scope.Table t cs) n = place_from 0 cs n

-- of a name behind a table's
abbrev pub qualified_place : Scope → List ℕ → List ℕ → Option ℕ
qualified_place scope.Empty t n = None
qualified_place (scope.Table s cs) t n = if is_same_name s t then place_from 0 cs n else None

-- the values of a row's columns, and its rowid
pub record Row : Type 0 where
  pub values : List Value
  pub rowid : ℤ

abbrev pub row_of : RowView → Row
row_of r = record { values = r.values.now; rowid = r.rowid }

-- the value of a column, or the rowid
abbrev pub value_or : Option Value → ℤ → Value
value_or None rowid = v.Int rowid
value_or (Some x) rowid = x

abbrev pub value_at : Row → ℕ → Value
value_at r i = value_or (slice_get r.values i) r.rowid
