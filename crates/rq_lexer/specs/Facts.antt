-- What is true of the tokens of every text.
use Rattle.std.specs.Prelude.{◌≡◌, ℕ, ◌<◌, ◌≤◌, List, [], ◌∷◌, Option, Some, None, Result, Ok, Err}
use Rattle.rq_values.specs.declared.memory.NoMemory.{NoMemory}
use Rattle.rq_grammar.specs.declared.token.Token.{Token}
use Rattle.rq_grammar.specs.declared.token.Token.TheVariants as t
use Rattle.rq_lexer.specs.declared.placed.Placed.{Placed}
use Rattle.rq_lexer.specs.Spelled.{IsSpelled}

-- what the tokens of a text are: each has a spelling, or stands in no statement
abbrev pub IsCut : Token → Type 0
IsCut t.Other = Unit {0}
IsCut u = IsSpelled u

-- each token is some bytes of the text, behind those before it
abbrev pub InOrder : ℕ → ℕ → List Placed → Type 0
InOrder from upto [] = Unit {0}
InOrder from upto (p ∷ more) = (from ≤ p.start) × (p.start < p.end) × (p.end ≤ upto) × IsCut p.token × InOrder p.end upto more

-- What a lexer's answer is, where `old` are the tokens that were still to come, and `new` those that are still to come.
abbrev pub IsNext : List Placed → List Placed → Result (Option Placed) NoMemory → Type 0
IsNext old new (Ok (Some p)) = old ≡ p ∷ new
IsNext old new (Ok None) = (old ≡ []) × (new ≡ [])
IsNext old new (Err e) = new ≡ old
