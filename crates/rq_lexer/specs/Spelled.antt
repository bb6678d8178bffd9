-- How tokens are spelled. A printed statement is its tokens' spellings with blanks between some of them.
use Rattle.std.specs.Prelude.{◌≡◌, ℕ, ◌+◌, ◌/◌, ◌%◌, ◌^◌, ◌≤◌, Bool, true, false, not, ◌&&◌, ◌==◌, nat_lt, if◌then◌else◌, [], ◌∷◌, ◌++◌, map, slice_index, Some, None, codes}
use Rattle.std.specs.Char.{is_ascii_digit}
use Rattle.std.specs.Fmt.{decimal}
use Rattle.std.specs.List.{flat_map, list_all}
use Rattle.rq_values.specs.Text.{is_text}
use Rattle.rq_grammar.specs.declared.token.Token.{Token}
use Rattle.rq_grammar.specs.declared.token.Token.TheVariants as t
use Rattle.rq_grammar.specs.Words.{Text, Tokens}
use Rattle.rq_grammar.specs.Spelling.{is_in_word, is_bare, word_of}
use Rattle.rq_lexer.specs.Lex.{lex, is_in_numeral, is_integer}

-- the tokens of a text without their places
abbrev pub tokens_in : Text → Tokens
tokens_in z = map (λ p. p.token) (lex z)

-- each quote twice
abbrev pub doubled_byte : ℕ → ℕ → Text
doubled_byte quote b = if b == quote then quote ∷ b ∷ [] else b ∷ []

abbrev pub doubled : ℕ → Text → Text
doubled quote inside = flat_map (doubled_byte quote) inside

abbrev pub in_quotes : ℕ → Text → Text
in_quotes quote inside = quote ∷ (doubled quote inside ++ quote ∷ [])

-- `0` to `9`, `A` to `F`
abbrev pub hex_digit : ℕ → ℕ
hex_digit digit = if nat_lt digit 10 then 48 + digit else 55 + digit

abbrev pub hex_byte : ℕ → Text
hex_byte b = hex_digit (b / 16) ∷ hex_digit (b % 16) ∷ []

-- a token's spelling; a parameter with a name has a `:` before it
abbrev pub bytes_of : Token → Text
bytes_of (t.Word n v) = n
bytes_of (t.Quoted n) = in_quotes 34 n
bytes_of (t.String n) = in_quotes 39 n
bytes_of (t.Blob bytes) = 88 ∷ 39 ∷ (flat_map hex_byte bytes ++ 39 ∷ [])
bytes_of (t.Numeral n) = decimal n
bytes_of (t.OtherNumeral n) = n
bytes_of (t.Parameter None) = codes "?"
bytes_of (t.Parameter (Some n)) = 58 ∷ n
bytes_of t.Equal = codes "="
bytes_of t.EqualEqual = codes "=="
bytes_of t.LessGreater = codes "<>"
bytes_of t.BangEqual = codes "!="
bytes_of t.Less = codes "<"
bytes_of t.LessEqual = codes "<="
bytes_of t.Greater = codes ">"
bytes_of t.GreaterEqual = codes ">="
bytes_of t.Plus = codes "+"
bytes_of t.Minus = codes "-"
bytes_of t.Star = codes "*"
bytes_of t.Slash = codes "/"
bytes_of t.Percent = codes "%"
bytes_of t.BarBar = codes "||"
bytes_of t.Dot = codes "."
bytes_of t.Comma = codes ","
bytes_of t.Open = codes "("
bytes_of t.Close = codes ")"
bytes_of t.Semi = codes ";"
bytes_of t.Other = []

-- The tokens that have a spelling. A word's class is that of its spelling, and a name or text in quotes is UTF-8 without NUL.
abbrev pub IsSpelled : Token → Type 0
IsSpelled (t.Word n v) = (is_bare n ≡ true) × (v ≡ word_of n)
IsSpelled (t.Quoted n) = is_text n ≡ true
IsSpelled (t.String n) = is_text n ≡ true
IsSpelled (t.Blob bytes) = list_all (λ b. nat_lt b 256) bytes ≡ true
IsSpelled (t.Numeral n) = n ≤ 2 ^ 63
IsSpelled (t.OtherNumeral n) = (is_ascii_digit (slice_index n 0) ≡ true) × (list_all is_in_numeral n ≡ true) × (is_integer n ≡ false)
IsSpelled (t.Parameter (Some n)) = is_bare n ≡ true
IsSpelled t.Other = ⊥
IsSpelled _ = Unit {0}

-- The token ends before the byte, 0 at the end of a text: the byte doesn't prolong it.
abbrev pub ends_before : Token → ℕ → Bool
ends_before (t.Word n v) b = not (is_in_word b) && not (b == 39)
ends_before (t.Quoted n) b = not (b == 34)
ends_before (t.String n) b = not (b == 39)
ends_before (t.Numeral n) b = not (is_in_numeral b)
ends_before (t.OtherNumeral n) b = not (is_in_numeral b)
ends_before (t.Parameter (Some n)) b = not (is_in_word b)
ends_before t.Equal b = not (b == 61)
ends_before t.Less b = not (b == 61) && not (b == 62)
ends_before t.Greater b = not (b == 61)
ends_before t.Minus b = not (b == 45)
ends_before t.Slash b = not (b == 42)
ends_before _ b = true
