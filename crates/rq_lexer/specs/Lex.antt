-- How a text is cut into tokens, as docs/SQL.md, Tokens, has it. A text is a list of bytes, and a place in it an offset in bytes.
use Rattle.std.specs.Prelude.{ℕ, zero, suc, ◌+◌, ◌-◌, ◌*◌, ◌%◌, ◌^◌, Bool, true, false, not, ◌&&◌, ◌||◌, ◌==◌, nat_le, nat_lt, if◌then◌else◌, List, [], ◌∷◌, length, take, drop, slice_index, Option, Some, None, codes}
use Rattle.std.specs.Char.{is_ascii_digit, is_ascii_hexdigit, digit_value}
use Rattle.std.specs.List.{prefix_len, list_all, fold}
use Rattle.std.specs.Str.{is_utf8}
use Rattle.rq_values.specs.Text.{is_text}
use Rattle.rq_grammar.specs.declared.token.Token.{Token}
use Rattle.rq_grammar.specs.declared.token.Token.TheVariants as t
use Rattle.rq_grammar.specs.Words.{Text}
use Rattle.rq_grammar.specs.Spelling.{begins_word, is_in_word, word_of}
use Rattle.rq_lexer.specs.declared.placed.Placed.{Placed}

-- ---- blanks and comments

abbrev pub is_blank : ℕ → Bool
is_blank b = b == 32 || b == 9 || b == 13 || b == 10

abbrev pub is_in_line : ℕ → Bool
is_in_line b = not (b == 10)

-- The place behind `*/`, or the end. `at` is the place of the start, and `star` says that a `*` stands before it.
abbrev pub behind_comment : ℕ → Bool → Text → ℕ
behind_comment at star [] = at
behind_comment at star (b ∷ z) = if star && b == 47 then at + 1 else behind_comment (at + 1) (b == 42) z

-- how long the blank or the comment before it is, 0 where there is none
unfoldable pub blank_len : Text → ℕ
blank_len z =
    let b = slice_index z 0 in
    let c = slice_index z 1 in
    if is_blank b then 1
    else (if b == 45 && c == 45 then prefix_len is_in_line z
    else (if b == 47 && c == 42 then behind_comment 2 false (drop 2 z)
    else 0))

-- ---- tokens: each definition gives the token before it, and how long it is

abbrev pub Front : Type 0
Front = Token × ℕ

unfoldable pub word : Text → Front
word z = let n = prefix_len is_in_word z in (t.Word (take n z) (word_of (take n z)), n)

-- `:`, `@` or `$`, and the name behind it
unfoldable pub parameter : Text → Front
parameter z = let n = prefix_len is_in_word (drop 1 z) in (t.Parameter (Some (take n (drop 1 z))), n + 1)

-- ---- numerals

abbrev pub is_in_numeral : ℕ → Bool
is_in_numeral b = is_in_word b || b == 46

-- the number that digits spell
abbrev pub number_of : Text → ℕ
number_of = fold (λ n b. 10 * n + (b - 48)) 0

-- plain digits up to 2 ^ 63
unfoldable pub is_integer : Text → Bool
is_integer run = list_all is_ascii_digit run && nat_le (number_of run) (2 ^ 63)

unfoldable pub numeral : Text → Front
numeral z = let n = prefix_len is_in_numeral z in (if is_integer (take n z) then t.Numeral (number_of (take n z)) else t.OtherNumeral (take n z), n)

-- ---- quotes

-- How many bytes there are up to the closing quote and with it, and None where none closes. `n` have been passed; `is_open` says that
-- the last of them is a quote that closes, unless one more doubles it.
abbrev pub closing : ℕ → ℕ → Bool → Text → Option ℕ
closing quote n is_open [] = if is_open then Some n else None
closing quote n is_open (b ∷ z) = if is_open && not (b == quote) then Some n else closing quote (n + 1) (not is_open && b == quote) z

-- Each doubled quote once. `is_second` says that the byte before it is the second of two.
abbrev pub undoubled : ℕ → Bool → Text → Text
undoubled quote is_second [] = []
undoubled quote is_second (b ∷ z) = if is_second then undoubled quote false z else b ∷ undoubled quote (b == quote) z

abbrev pub up_to_closing : ℕ → Text → Option ℕ → Option Text × ℕ
up_to_closing quote z None = (None, length z)
up_to_closing quote z (Some n) = let inside = undoubled quote false (take (n - 1) z) in (if is_text inside then Some inside else None, n)

-- behind an opening quote: what is quoted, None where it isn't closed or is no text; and how long that is with the closing quote
unfoldable pub quoted : ℕ → Text → Option Text × ℕ
quoted quote z = up_to_closing quote z (closing quote 0 false z)

abbrev pub or_other : (Text → Token) → Option Text → Token
or_other make None = t.Other
or_other make (Some inside) = make inside

unfoldable pub string : Text → Front
string z = let q = quoted 39 (drop 1 z) in (or_other t.String q.0, q.1 + 1)

unfoldable pub quoted_name : Text → Front
quoted_name z = let q = quoted 34 (drop 1 z) in (or_other t.Quoted q.0, q.1 + 1)

-- the bytes that pairs of hexadecimal digits spell
abbrev pub bytes_of_hex : Text → List ℕ
bytes_of_hex (a ∷ b ∷ z) = (16 * digit_value a + digit_value b) ∷ bytes_of_hex z
bytes_of_hex _ = []

unfoldable pub is_hex : Text → Bool
is_hex digits = list_all is_ascii_hexdigit digits && length digits % 2 == 0

abbrev pub is_no_quote : ℕ → Bool
is_no_quote b = not (b == 39)

-- `X'`, and what stands up to the first quote and with it
unfoldable pub blob : Text → Front
blob z =
    let inside = drop 2 z in
    let n = prefix_len is_no_quote inside in
    if nat_lt n (length inside) then (if is_hex (take n inside) then t.Blob (bytes_of_hex (take n inside)) else t.Other, n + 3)
    else (t.Other, length z)

-- ---- marks, and all other bytes

abbrev pub Marks : Type 0
Marks = List (Text × Token)

abbrev pub long_marks : Marks
long_marks = (codes "==", t.EqualEqual) ∷ (codes "<>", t.LessGreater) ∷ (codes "!=", t.BangEqual) ∷ (codes "<=", t.LessEqual) ∷ (codes ">=", t.GreaterEqual) ∷ (codes "||", t.BarBar) ∷ []

abbrev pub short_marks : Marks
short_marks = (codes "=", t.Equal) ∷ (codes "<", t.Less) ∷ (codes ">", t.Greater) ∷ (codes "+", t.Plus) ∷ (codes "-", t.Minus) ∷ (codes "*", t.Star) ∷ (codes "/", t.Slash) ∷ (codes "%", t.Percent) ∷ (codes ".", t.Dot) ∷ (codes ",", t.Comma) ∷ (codes "(", t.Open) ∷ (codes ")", t.Close) ∷ (codes ";", t.Semi) ∷ (codes "?", t.Parameter None) ∷ []

-- the mark's bytes from the place i on stand in the text
abbrev pub stands_at : ℕ → Text → Text → Bool
stands_at i z [] = true
stands_at i z (b ∷ mark) = slice_index z i == b && stands_at (i + 1) z mark

abbrev pub mark_among : Marks → Text → Option Token
mark_among [] z = None
mark_among (m ∷ ms) z = if stands_at 0 z m.0 then Some m.1 else mark_among ms z

-- a well-formed character, the shortest prefix that is UTF-8; else one byte
unfoldable pub char_len : Text → ℕ
char_len z =
    if is_utf8 (take 1 z) then 1
    else (if is_utf8 (take 2 z) then 2
    else (if is_utf8 (take 3 z) then 3
    else (if is_utf8 (take 4 z) then 4
    else 1)))

abbrev pub or_char : Text → Option Token → Front
or_char z None = (t.Other, char_len z)
or_char z (Some mark) = (mark, 1)

abbrev pub or_short : Text → Option Token → Front
or_short z None = or_char z (mark_among short_marks z)
or_short z (Some mark) = (mark, 2)

unfoldable pub mark : Text → Front
mark z = or_short z (mark_among long_marks z)

-- ---- the tokens of a text

abbrev pub is_x : ℕ → Bool
is_x b = b == 88 || b == 120

abbrev pub is_sigil : ℕ → Bool
is_sigil b = b == 58 || b == 64 || b == 36

-- the token before a text that isn't empty and has neither blank nor comment before it
unfoldable pub prefix : Text → Front
prefix z =
    let b = slice_index z 0 in
    let c = slice_index z 1 in
    if is_x b && c == 39 then blob z
    else (if begins_word b then word z
    else (if is_ascii_digit b then numeral z
    else (if b == 39 then string z
    else (if b == 34 then quoted_name z
    else (if is_sigil b && begins_word c then parameter z
    else mark z)))))

-- what stands before it, with its length: None is a blank or a comment
abbrev pub piece_of : ℕ → Front → Option Token × ℕ
piece_of zero f = (Some f.0, f.1)
piece_of n f = (None, n)

unfoldable pub piece : Text → Option Token × ℕ
piece z = piece_of (blank_len z) (prefix z)

abbrev pub placed : ℕ → Option Token × ℕ → List Placed → List Placed
placed at (None, len) more = more
placed at (Some u, len) more = (record { token = u; start = at; end = at + len }) ∷ more

-- The tokens from the place `at` on. `left` bytes are left of the piece there.
unfoldable pub lex_from : ℕ → ℕ → Text → List Placed
lex_from at left [] = []
lex_from at (suc left) (b ∷ z) = lex_from (at + 1) left z
lex_from at zero (b ∷ z) = let p = piece (b ∷ z) in placed at p (lex_from (at + 1) (p.1 - 1) z)

unfoldable pub lex : Text → List Placed
lex = lex_from 0 0
