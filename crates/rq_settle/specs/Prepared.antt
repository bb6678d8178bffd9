-- What a statement's text is, made ready for the log: docs/SQL.md, "Settled statements" and "Errors of reading".
use Rattle.std.specs.Prelude.{◌≡◌, ◌-◌, ◌==◌, nat_le, ℕ, if◌then◌else◌, List, [], ◌++◌, length, take, drop, codes, Result, Ok, Err}
use Rattle.std.specs.Fmt.{decimal}
use Rattle.rq_grammar.specs.declared.stmt.Stmt.{Stmt}
use Rattle.rq_sql.specs.declared.error.ReadError.{ReadError}
use Rattle.rq_sql.specs.declared.error.ReadError.TheVariants as e
use Rattle.rq_sql.specs.Read.{most_bytes, Means}
use Rattle.rq_print.specs.Text.{text_of}
use Rattle.rq_statement.specs.Fixed.{statement_fixed}
use Rattle.rq_statement.specs.declared.item.Item.{Item}
use Rattle.rq_statement.specs.declared.item.Item.TheVariants.{Run, Fail}
use Rattle.rq_settle.specs.Refused.{too_long, incomplete, near, not_in_profile, too_deep}

-- the bytes of a text between two places
abbrev pub source : List ℕ → ℕ → ℕ → List ℕ
source text from upto = take (upto - from) (drop from text)

abbrev pub not_built : List ℕ
not_built = codes "not built"

-- at the text's end there is no token, and more is wanted
abbrev pub near_text : List ℕ → ℕ → ℕ → List ℕ
near_text text from upto = if from == upto then incomplete else near (source text from upto)

-- the error of a statement that isn't read
abbrev pub error_text : List ℕ → ReadError → List ℕ
error_text text (e.TooLong n) = too_long n
error_text text (e.Near from upto) = near_text text from upto
error_text text (e.NotInProfile from upto) = not_in_profile (source text from upto)
error_text text (e.TooDeep place) = too_deep
error_text text e.NoMemory = []

-- a canonical text of so many bytes
abbrev pub too_large : ℕ → List ℕ
too_large n = codes "statement too large: " ++ decimal n

-- a statement runs where its canonical text is no longer than what is read
abbrev pub item_of_fixed : Stmt → Item
item_of_fixed stmt = if nat_le (length (text_of stmt)) most_bytes then Run stmt else Fail (too_large (length (text_of stmt)))

-- parameters, random nodes and time nodes aren't built
abbrev pub item_of_statement : Stmt → Item
item_of_statement stmt = if statement_fixed stmt then item_of_fixed stmt else Fail not_built

abbrev pub item_of : List ℕ → Result Stmt ReadError → Item
item_of text (Ok stmt) = item_of_statement stmt
item_of text (Err error) = Fail (error_text text error)

-- what the text means, as an item
pub record IsPrepared (text : List ℕ) (item : Item) : Type 0 where
  pub answer : Result Stmt ReadError
  pub means : Means text answer
  pub is : item ≡ item_of text answer
