-- The statements that a body lists, or its first defect, as docs/API.md has it, "Bodies".
use Rattle.std.specs.Prelude.{◌≡◌, ◌⊎◌, ℕ, suc, ◌+◌, pos, if◌then◌else◌, nat_lt, List, [], ◌∷◌, ◌++◌, Option, Some, None, Result, Ok, Err, option_map, option_and_then}
use Rattle.std.specs.Str.{is_utf8}
use Rattle.serde_json.specs.Data.{Data, null, boolean, number, string, array, object, Items, no_items, item, Members, no_members, member}
use Rattle.serde_json.specs.Read.{read}
use Rattle.serde_json.specs.Find.{as_object, as_str, as_i64}
use Rattle.rq_values.specs.Text.{is_text}
use Rattle.rq_values.specs.declared.value.Value.{Value}
use Rattle.rq_values.specs.declared.value.Value.TheVariants.{Null, Int, Text}
use Rattle.rq_request.specs.declared.statement.Statement.{Statement}
use Rattle.rq_request.specs.declared.statement.Params.{Params}
use Rattle.rq_request.specs.declared.statement.Params.TheVariants as params
use Rattle.rq_bodies.specs.declared.error.BodyError.{BodyError}
use Rattle.rq_bodies.specs.declared.error.BodyError.TheVariants.{NotJson, NotAList, TooMany, BadStatement, BadValue, NoMemory}

-- ---- lists of things of which each may be refused

-- a thing, or this error where there is none
abbrev pub or_error : {A : Type 0} → BodyError → Option A → Result A BodyError
or_error e None = Err e
or_error e (Some a) = Ok a

abbrev pub result_map : {A B : Type 0} → (A → B) → Result A BodyError → Result B BodyError
result_map f (Ok a) = Ok (f a)
result_map f (Err e) = Err e

-- the first error counts
abbrev pub result_cons : {A : Type 0} → Result A BodyError → Result (List A) BodyError → Result (List A) BodyError
result_cons (Err e) rest = Err e
result_cons (Ok a) rest = result_map (λ list. a ∷ list) rest

-- a list before what follows
abbrev pub result_append : {A : Type 0} → List A → Result (List A) BodyError → Result (List A) BodyError
result_append prefix rest = result_map (λ list. prefix ++ list) rest

-- ---- values

-- a string without NUL
abbrev pub text_if : List ℕ → Option (List ℕ)
text_if s = if is_text s then Some s else None

abbrev pub text_of : Data → Option (List ℕ)
text_of json = option_and_then text_if (as_str json)

abbrev pub value_of : Data → Option Value
value_of null = Some Null
value_of (boolean b) = Some (Int (if b then pos 1 else pos 0))
value_of (number n) = option_map Int (as_i64 n)
value_of (string s) = option_map Text (text_if s)
value_of (array items) = None
value_of (object ms) = None

abbrev pub named_value : List ℕ → Data → Option (List ℕ × Value)
named_value name json = option_and_then (λ k. option_map (λ v. (k, v)) (value_of json)) (text_if name)

-- ---- statements: n is the statement's number, j that of the value

abbrev pub values_from : ℕ → ℕ → Items → Result (List Value) BodyError
values_from n j no_items = Ok []
values_from n j (item json items) = result_cons (or_error (BadValue n j) (value_of json)) (values_from n (j + 1) items)

abbrev pub named_from : ℕ → ℕ → Members → Result (List (List ℕ × Value)) BodyError
named_from n j no_members = Ok []
named_from n j (member name json members) = result_cons (or_error (BadValue n j) (named_value name json)) (named_from n (j + 1) members)

abbrev pub listed_params : ℕ → Items → Result Params BodyError
listed_params n items = result_map params.List (values_from n 1 items)

-- the members are in the order of their keys, each with its last value
abbrev pub named_params : ℕ → Members → Result Params BodyError
named_params n members = result_map params.Named (named_from n 1 members)

-- the one object that stands there, if that is all
abbrev pub only_object : Items → Option Members
only_object no_items = None
only_object (item json no_items) = as_object json
only_object (item json (item next items)) = None

abbrev pub params_by : ℕ → Items → Option Members → Result Params BodyError
params_by n items None = listed_params n items
params_by n items (Some members) = named_params n members

-- what stands behind a statement's text
abbrev pub params_of : ℕ → Items → Result Params BodyError
params_of n items = params_by n items (only_object items)

abbrev pub joined : List ℕ → Result Params BodyError → Result Statement BodyError
joined text given = result_map (λ ps. record { text = text; params = ps }) given

abbrev pub plain : ℕ → List ℕ → Result Statement BodyError
plain n s = or_error (BadStatement n) (option_map (λ text. record { text = text; params = params.None }) (text_if s))

abbrev pub with_text : ℕ → Option (List ℕ) → Items → Result Statement BodyError
with_text n None items = Err (BadStatement n)
with_text n (Some text) items = joined text (params_of n items)

abbrev pub with_values : ℕ → Items → Result Statement BodyError
with_values n no_items = Err (BadStatement n)
with_values n (item json items) = with_text n (text_of json) items

abbrev pub statement_of : ℕ → Data → Result Statement BodyError
statement_of n null = Err (BadStatement n)
statement_of n (boolean b) = Err (BadStatement n)
statement_of n (number x) = Err (BadStatement n)
statement_of n (string s) = plain n s
statement_of n (array items) = with_values n items
statement_of n (object ms) = Err (BadStatement n)

-- ---- bodies

abbrev pub statements_from : ℕ → Items → Result (List Statement) BodyError
statements_from n no_items = Ok []
statements_from n (item json items) = result_cons (statement_of n json) (statements_from (n + 1) items)

abbrev pub count : Items → ℕ
count no_items = 0
count (item json items) = suc (count items)

abbrev pub statements : Items → Result (List Statement) BodyError
statements items = if nat_lt 10000 (count items) then Err (TooMany (count items)) else statements_from 1 items

abbrev pub listed : Data → Result (List Statement) BodyError
listed null = Err NotAList
listed (boolean b) = Err NotAList
listed (number n) = Err NotAList
listed (string s) = Err NotAList
listed (array items) = statements items
listed (object ms) = Err NotAList

-- the JSON value that a body spells
abbrev pub json_of : List ℕ → Option Data
json_of body = if is_utf8 body then read body else None

abbrev pub listed_if : Option Data → Result (List Statement) BodyError
listed_if None = Err NotJson
listed_if (Some json) = listed json

abbrev pub parsed : List ℕ → Result (List Statement) BodyError
parsed body = listed_if (json_of body)

-- what is meant, or want of memory
abbrev pub Answers : {A : Type 0} → Result A BodyError → Result A BodyError → Type 0
Answers meant result = (result ≡ meant) ⊎ (result ≡ Err NoMemory)
