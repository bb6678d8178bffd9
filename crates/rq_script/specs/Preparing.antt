-- What the statements of a line are read as.
use Rattle.std.specs.Prelude.{ℕ, List, [], ◌∷◌, Option, Some, None, ⊤}
use Rattle.rq_statement.specs.declared.item.Item.{Item}
use Rattle.rq_json.specs.Body.{texts_of}
use Rattle.rq_settle.specs.Prepared.{IsPrepared}
use Rattle.rq_script.specs.ScriptLine.{Line, Skip, Cluster, At, Elect, Apply, Execute, Query, Stop, StopWithin, Start, Show}

-- the texts of the statements that a body lists, none where it isn't a list
abbrev pub listed : Option (List (List ℕ)) → List (List ℕ)
listed None = []
listed (Some texts) = texts

-- the statements of a line
abbrev pub statements : Line → List (List ℕ)
statements (At id (Execute body)) = listed (texts_of body)
statements (At id (Query body)) = listed (texts_of body)
statements Skip = []
statements (Cluster id) = []
statements (At id Elect) = []
statements (At id Apply) = []
statements (At id Stop) = []
statements (At id (StopWithin calls pick)) = []
statements (At id Start) = []
statements (At id Show) = []

abbrev pub statements_in : Option Line → List (List ℕ)
statements_in None = []
statements_in (Some line) = statements line

-- each item is what its statement's text is prepared as
abbrev pub AreRead : List (List ℕ) → List Item → Type 0
AreRead [] [] = ⊤
AreRead [] (item ∷ items) = ⊥
AreRead (text ∷ texts) [] = ⊥
AreRead (text ∷ texts) (item ∷ items) = IsPrepared text item × AreRead texts items
