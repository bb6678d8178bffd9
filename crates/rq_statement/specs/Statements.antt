-- Lists of items.
use Rattle.std.specs.Prelude.{Bool, List, refl}
use Rattle.std.specs.Coded.{Coded, code_by, coded×, coded_bool, coded_list}
use Rattle.rq_statement.specs.declared.item.Item.{Item}

-- the items of a request, which take effect as a transaction or each by itself
pub record Statements : Type 0 where
  pub transaction : Bool
  pub items : List Item

abbrev pub statements_code : Coded Item → Coded Statements
statements_code item = code_by (Bool × List Item) (coded× coded_bool (coded_list item)) (λ s. (s.transaction, s.items)) (λ p. record { transaction = p.0; items = p.1 }) (λ _. refl)
