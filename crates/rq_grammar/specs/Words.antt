-- Words and names, as docs/SQL.md has them.
use Rattle.std.specs.Prelude.{ℕ, ◌≡◌, Bool, true, false, List}
use Rattle.rq_grammar.specs.declared.word.Word.{Word}
use Rattle.rq_grammar.specs.declared.word.Word.TheVariants as w
use Rattle.rq_grammar.specs.declared.token.Token.{Token}
use Rattle.rq_grammar.specs.declared.token.Token.TheVariants as t

abbrev pub Text : Type 0
Text = List ℕ

abbrev pub Tokens : Type 0
Tokens = List Token

-- reserved words are no names
abbrev pub is_reserved : Word → Bool
is_reserved w.And = true
is_reserved w.As = true
is_reserved w.Between = true
is_reserved w.Create = true
is_reserved w.Delete = true
is_reserved w.Drop = true
is_reserved w.From = true
is_reserved w.In = true
is_reserved w.Insert = true
is_reserved w.Into = true
is_reserved w.Is = true
is_reserved w.Limit = true
is_reserved w.Not = true
is_reserved w.Null = true
is_reserved w.Or = true
is_reserved w.Order = true
is_reserved w.Primary = true
is_reserved w.Select = true
is_reserved w.Set = true
is_reserved w.Table = true
is_reserved w.Unique = true
is_reserved w.Update = true
is_reserved w.Values = true
is_reserved w.Where = true
is_reserved (w.OutOfProfile b) = b
is_reserved _ = false

-- the word is the time node in an expression
abbrev pub is_time : Word → Bool
is_time w.CurrentDate = true
is_time w.CurrentTime = true
is_time w.CurrentTimestamp = true
is_time _ = false

-- a name
pub data Name : Text → Token → Type 0 where
  bare : {n : Text} {v : Word} → is_reserved v ≡ false → Name n (t.Word n v)
  quoted : {n : Text} → Name n (t.Quoted n)

-- a name inside an expression, where no bare time word is one
pub data NameInside : Text → Token → Type 0 where
  bare_inside : {n : Text} {v : Word} → is_reserved v ≡ false → is_time v ≡ false → NameInside n (t.Word n v)
  quoted_inside : {n : Text} → NameInside n (t.Quoted n)

-- a numeral in the profile, or behind a prefix minus
abbrev pub is_numeral : Token → Bool
is_numeral (t.Numeral n) = true
is_numeral _ = false
