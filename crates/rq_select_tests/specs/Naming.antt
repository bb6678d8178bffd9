-- The names in a table's scope are its columns'.
use Rattle.std.specs.Prelude.{◌≡◌, ℕ, List, [], map}
use Rattle.rq_grammar.specs.declared.stmt.ColumnDef.{ColumnDef}
use Rattle.rq_eval.specs.declared.row.Scope.{Scope}
use Rattle.rq_eval.specs.declared.row.Scope.TheVariants as scope

abbrev pub names_of : List ColumnDef → List (List ℕ)
names_of cs = map (λ (c : ColumnDef). c.name) cs

abbrev pub name_in : Scope → List ℕ
name_in scope.Empty = []
name_in (scope.Table name columns) = name

abbrev pub IsNamed : Scope → List ColumnDef → Type 0
IsNamed s cs = s ≡ scope.Table (name_in s) (names_of cs)
