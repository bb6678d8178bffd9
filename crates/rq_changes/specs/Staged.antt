-- A table whose changes can be taken back.
use Rattle.std.specs.Prelude.{ℕ, ◌≡◌, ◌≤◌, List, refl}
use Rattle.std.specs.Coded.{Coded, code_by, coded×, coded_ℕ, coded_list}
use Rattle.rq_values.specs.declared.value.Value.{Value}
use Rattle.rq_grammar.specs.declared.stmt.ColumnDef.{ColumnDef}
use Rattle.rq_eval.specs.declared.row.Scope.{Scope}
use Rattle.rq_results.specs.Table.{scope_of}
use Rattle.rq_rows.specs.Rows.{Filled}
use Rattle.rq_rows.specs.Staged as rows
use Rattle.rq_meaning.specs.Database.{Table, table_size, size_limit}
use Rattle.rq_meaning.specs.Rows.{all_columns}

-- a name, and the rows as the command found them, as the statement did, and as they are
pub record StagedTable : Type 0 where
  pub name : List ℕ
  pub rows : rows.Staged

abbrev pub table_with : List ℕ → List ColumnDef → Filled → Table
table_with n cs rows = record { name = n; columns = cs; rows = rows }

abbrev pub start_of : StagedTable → Table
start_of s = table_with s.name s.rows.columns s.rows.start

abbrev pub before_of : StagedTable → Table
before_of s = table_with s.name s.rows.columns s.rows.before

abbrev pub now_of : StagedTable → Table
now_of s = table_with s.name s.rows.columns s.rows.now

abbrev pub IsSize : ℕ → Table → Type 0
IsSize n t = (n ≡ table_size t) × (n ≤ size_limit)

-- what is kept beside the rows: what names may name, all columns, and the sizes
pub record Kept (sc : Scope) (cs : List ColumnDef) (a b n : ℕ) (s : StagedTable) : Type 0 where
  pub scope : sc ≡ scope_of (now_of s)
  pub all : cs ≡ all_columns s.rows.columns
  pub start : IsSize a (start_of s)
  pub before : IsSize b (before_of s)
  pub now : IsSize n (now_of s)

abbrev pub table_code : Coded ColumnDef → Coded Value → Coded StagedTable
table_code c v =
    code_by (List ℕ × rows.Staged) (coded× (coded_list coded_ℕ) (rows.staged_code c v))
    (λ s. (s.name, s.rows))
    (λ p. record { name = p.0; rows = p.1 })
    (λ _. refl)
