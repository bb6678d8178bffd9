-- Operators and functions over texts, as docs/SQL.md has them under "The value of an expression".
-- Source: SQLite, "Built-In Scalar SQL Functions", "Date And Time Functions"; `||` and LIKE: "SQL Language Expressions".
use Rattle.std.specs.Prelude.{ℕ, if◌then◌else◌, List, [], ◌++◌, map, flat_map, length, codes, Some, Ok, Err, pos}
use Rattle.std.specs.Str.{chars}
use Rattle.std.specs.Fmt.{signed_decimal}
use Rattle.std.specs.Char.{to_ascii_lowercase, to_ascii_uppercase}
use Rattle.rq_values.specs.declared.value.Value.{Value}
use Rattle.rq_values.specs.declared.value.Value.TheVariants as v
use Rattle.rq_texts.specs.Like.{like}
use Rattle.rq_texts.specs.Hex.{hex_byte}
use Rattle.rq_texts.specs.TimeText.{is_time_text, date, time, date_time}
use Rattle.rq_operators.specs.Outcome.{Outcome, then_with}
use Rattle.rq_operators.specs.Operators.{truth, is_null, either_null, in_range}
use Rattle.rq_operators.specs.declared.operators.TimePart.{TimePart}
use Rattle.rq_operators.specs.declared.operators.TimePart.TheVariants as part
use Rattle.rq_operators.specs.declared.texts.TextPair.{TextPair}
use Rattle.rq_operators.specs.declared.texts.TextPair.TheVariants as pair
use Rattle.rq_operators.specs.declared.texts.LetterCase.{LetterCase}
use Rattle.rq_operators.specs.declared.texts.LetterCase.TheVariants as letters
use Rattle.rq_operators.specs.declared.error.ValueError.TheVariants as error

-- a text, or an integer as its decimal text
abbrev pub spelled : Value → Outcome (List ℕ)
spelled v.Null = Err error.NotText
spelled (v.Int n) = Ok (signed_decimal n)
spelled (v.Text t) = Ok t
spelled (v.Blob b) = Err error.NotText

-- NULL where one is NULL, else of the texts of both, the left judged first
abbrev pub on_texts : (List ℕ → List ℕ → Value) → Value → Value → Outcome Value
on_texts f x y = if either_null x y then Ok v.Null else then_with (spelled x) (λ s. then_with (spelled y) (λ t. Ok (f s t)))

abbrev pub on_text : (List ℕ → Value) → Value → Outcome Value
on_text f x = if is_null x then Ok v.Null else then_with (spelled x) (λ s. Ok (f s))

abbrev pub concatenated : List ℕ → List ℕ → Value
concatenated s t = v.Text (s ++ t)

abbrev pub like_value : List ℕ → List ℕ → Value
like_value s pattern = truth (Some (like (chars pattern) (chars s)))

abbrev pub on_pair : TextPair → List ℕ → List ℕ → Value
on_pair pair.Join s t = concatenated s t
on_pair pair.Like s t = like_value s t

abbrev pub lower : List ℕ → Value
lower s = v.Text (map to_ascii_lowercase s)

abbrev pub upper : List ℕ → Value
upper s = v.Text (map to_ascii_uppercase s)

abbrev pub in_case : LetterCase → List ℕ → Value
in_case letters.Lower s = lower s
in_case letters.Upper s = upper s

-- characters of a text or a decimal text, bytes of a blob
abbrev pub length_of : Value → Outcome Value
length_of v.Null = Ok v.Null
length_of (v.Int n) = in_range (pos (length (signed_decimal n)))
length_of (v.Text t) = in_range (pos (length (chars t)))
length_of (v.Blob b) = in_range (pos (length b))

abbrev pub bytes_of : Value → List ℕ
bytes_of v.Null = []
bytes_of (v.Int n) = signed_decimal n
bytes_of (v.Text t) = t
bytes_of (v.Blob b) = b

abbrev pub hex : Value → Value
hex x = v.Text (flat_map hex_byte (bytes_of x))

abbrev pub kind_of : Value → List ℕ
kind_of v.Null = codes "null"
kind_of (v.Int n) = codes "integer"
kind_of (v.Text t) = codes "text"
kind_of (v.Blob b) = codes "blob"

abbrev pub type_of : Value → Value
type_of x = v.Text (kind_of x)

-- DATE, TIME and DATETIME of a valid time text
abbrev pub part_of : TimePart → List ℕ → List ℕ
part_of part.Date s = date s
part_of part.Time s = time s
part_of part.DateTime s = date_time s

abbrev pub time_part : TimePart → Value → Outcome Value
time_part h v.Null = Ok v.Null
time_part h (v.Int n) = Err error.NotTimeText
time_part h (v.Text s) = if is_time_text s then Ok (v.Text (part_of h s)) else Err error.NotTimeText
time_part h (v.Blob b) = Err error.NotTimeText
