-- The body of an ask: a JSON list of strings, each a statement.
use Rattle.std.specs.Prelude.{if◌then◌else◌, ℕ, List, [], ◌∷◌, Option, Some, None, option_map, option_and_then}
use Rattle.std.specs.Str.{is_utf8}
use Rattle.serde_json.specs.Data.{Data, Items, no_items, item}
use Rattle.serde_json.specs.Read.{read}
use Rattle.serde_json.specs.Find.{as_array, as_str}
use Rattle.rq_values.specs.Text.{is_text}

-- a string without NUL
abbrev pub text_in : Data → Option (List ℕ)
text_in value = option_and_then (λ text. if is_text text then Some text else None) (as_str value)

-- all values, each a string without NUL
abbrev pub texts_in : Items → Option (List (List ℕ))
texts_in no_items = Some []
texts_in (item value values) = option_and_then (λ text. option_map (λ texts. text ∷ texts) (texts_in values)) (text_in value)

abbrev pub listed_texts : Data → Option (List (List ℕ))
listed_texts value = option_and_then texts_in (as_array value)

-- the JSON value that a body spells
abbrev pub json_of : List ℕ → Option Data
json_of body = if is_utf8 body then read body else None

-- the statements that a body lists, if it is a JSON list of strings without NUL
abbrev pub texts_of : List ℕ → Option (List (List ℕ))
texts_of body = option_and_then listed_texts (json_of body)
