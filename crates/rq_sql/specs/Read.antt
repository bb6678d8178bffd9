-- What `read` answers, as docs/SQL.md, "What is refused, and where", has it. A text is a list of bytes, and a place in it an offset in bytes.
use Rattle.std.specs.Prelude.{ℕ, ◌≡◌, ◌≤◌, ◌<◌, ◌^◌, ◌==◌, Bool, true, false, List, [], ◌∷◌, length, drop, Result, Ok, Err}
use Rattle.rq_grammar.specs.declared.word.Word.TheVariants as w
use Rattle.rq_grammar.specs.declared.token.Token.{Token}
use Rattle.rq_grammar.specs.declared.token.Token.TheVariants as t
use Rattle.rq_grammar.specs.declared.stmt.Stmt.{Stmt}
use Rattle.rq_grammar.specs.Words.{Text}
use Rattle.rq_grammar.specs.Depth as depth
use Rattle.rq_grammar.specs.Depth.{the_limits, SpellsWithin, StopsAt, Stop}
use Rattle.rq_lexer.specs.declared.placed.Placed.{Placed}
use Rattle.rq_lexer.specs.Lex.{lex}
use Rattle.rq_lexer.specs.Spelled.{tokens_in}
use Rattle.rq_sql.specs.declared.error.ReadError.{ReadError}
use Rattle.rq_sql.specs.declared.error.ReadError.TheVariants as e

-- how many bytes a text may have
abbrev pub most_bytes : ℕ
most_bytes = 4194304

-- a word of SQL that stands in no statement, or a numeral that isn't plain digits below 2 ^ 63
abbrev pub is_out_of_profile : Token → Bool
is_out_of_profile (t.Word n (w.OutOfProfile reserved)) = true
is_out_of_profile (t.Numeral n) = n == 2 ^ 63
is_out_of_profile (t.OtherNumeral n) = true
is_out_of_profile _ = false

-- the refusal at a token that begins and ends at these places, and whether it is out of the profile
abbrev pub at_place : Stop → Bool → ℕ → ℕ → ReadError
at_place depth.TooDeep is_out from upto = e.TooDeep from
at_place depth.NoStatement true from upto = e.NotInProfile from upto
at_place depth.NoStatement false from upto = e.Near from upto

abbrev pub at_token : Stop → Placed → ReadError
at_token stop p = at_place stop (is_out_of_profile p.token) p.start p.end

-- the refusal at the first of the tokens; where none is left, the empty span at the end of a text of this size
abbrev pub at_prefix : ℕ → Stop → List Placed → ReadError
at_prefix size stop [] = e.Near size size
at_prefix size stop (p ∷ more) = at_token stop p

-- the refusal where reading stops behind n tokens
abbrev pub refusal : Text → Stop → ℕ → ReadError
refusal text stop n = at_prefix (length text) stop (drop n (lex text))

-- the text isn't too long, and is refused so
pub record IsRefused (text : Text) (error : ReadError) : Type 0 where
  pub short : length text ≤ most_bytes
  pub stop : Stop
  pub before : ℕ
  pub stops : StopsAt the_limits (tokens_in text) stop before
  pub told : error ≡ refusal text stop before

-- the answer that a text has by itself
abbrev pub Means : Text → Result Stmt ReadError → Type 0
Means text (Ok stmt) = (length text ≤ most_bytes) × SpellsWithin the_limits (tokens_in text) stmt
Means text (Err (e.TooLong n)) = (most_bytes < n) × (n ≡ length text)
Means text (Err e.NoMemory) = ⊥
Means text (Err error) = IsRefused text error

-- the text's answer, or want of memory
abbrev pub Reads : Text → Result Stmt ReadError → Type 0
Reads text (Err e.NoMemory) = Unit {0}
Reads text answer = Means text answer

-- the first answer, or want of memory
abbrev pub ReadsOnly : Result Stmt ReadError → Result Stmt ReadError → Type 0
ReadsOnly wanted (Err e.NoMemory) = Unit {0}
ReadsOnly wanted answer = answer ≡ wanted
