-- The code by which proofs tell states apart.
use Rattle.std.specs.Prelude.{ℕ, List, refl}
use Rattle.std.specs.Coded.{Coded, code_by, coded×, coded_ℕ, coded_list}
use Rattle.std.specs.FinMap as fin
use Rattle.rq_values.specs.declared.value.Value.{Value}
use Rattle.rq_grammar.specs.declared.stmt.ColumnDef.{ColumnDef}
use Rattle.rq_rows.specs.Rows.{Filled}
use Rattle.rq_rows.specs.Staged.{filled_code}
use Rattle.rq_meaning.specs.Database.{Table, Database}
use Rattle.rq_engine.specs.Fold.{State, Marks}

abbrev pub table_code : Coded ColumnDef → Coded Value → Coded Table
table_code c v =
    code_by (List ℕ × (List ColumnDef × Filled)) (coded× (coded_list coded_ℕ) (coded× (coded_list c) (filled_code v)))
    (λ t. (t.name, (t.columns, t.rows)))
    (λ p. record { name = p.0; columns = p.1.0; rows = p.1.1 })
    (λ _. refl)

abbrev pub marks_code : Coded Marks
marks_code = coded_list (coded× (coded_list coded_ℕ) (coded× coded_ℕ coded_ℕ))

abbrev pub state_code : Coded ColumnDef → Coded Value → Coded State
state_code c v =
    code_by (Database × (Marks × List (List ℕ))) (coded× (fin.code (coded_list coded_ℕ) (table_code c v)) (coded× marks_code (coded_list (coded_list coded_ℕ))))
    (λ s. (s.database, (s.marks, s.ids)))
    (λ p. record { database = p.0; marks = p.1.0; ids = p.1.1 })
    (λ _. refl)
