-- The body of a reply: JSON by its tokens, or a short text.
use Rattle.std.specs.Prelude.{ℕ, ◌==◌, ℤ, pos, Bool, true, false, if◌then◌else◌, List, [], ◌∷◌, ◌++◌, length, map, flat_map, codes, decimal, Option, Some, None}
use Rattle.std.specs.Ordering.{int_eq, nat_cmp, match_ordering}
use Rattle.std.specs.Cmp.Lexicographic.{slice_cmp}
use Rattle.std.specs.Fmt.{signed_decimal}
use Rattle.json.specs.Token.{Token, begin_object, end_object, begin_array, end_array, key, string, number, boolean, null}
use Rattle.base64.specs.Engines.{standard}
use Rattle.base64.specs.GeneralPurpose.{encode_of}
use Rattle.rq_values.specs.declared.value.Value.{Value}
use Rattle.rq_values.specs.declared.value.Value.TheVariants.{Null, Int, Text, Blob}
use Rattle.rq_replies.specs.Output.{text}
use Rattle.rq_statement.specs.declared.res.Res.{Res}
use Rattle.rq_statement.specs.declared.res.Res.TheVariants.{Done, Rows, Error}
use Rattle.rq_request.specs.declared.say.Say.{Say}
use Rattle.rq_request.specs.declared.say.Say.TheVariants.{Results, Queued, Loaded, Backup, Nodes, Ready, Changed, Moved, Refused}
use Rattle.rq_request.specs.declared.ask.Member.{Member}
use Rattle.rq_request.specs.declared.say.NodeRefusal.{NodeRefusal}
use Rattle.rq_request.specs.declared.say.NodeRefusal.TheVariants.{Stale, NoLeader, EntryTooLarge, QueuedTooLarge, QueueFull, Lost, Timeout}
use Rattle.rq_request.specs.declared.shape.Shape.{Shape}

abbrev pub array_of : List Token → List Token
array_of tokens = begin_array ∷ (tokens ++ end_array ∷ [])

abbrev pub object_of : List Token → List Token
object_of tokens = begin_object ∷ (tokens ++ end_object ∷ [])

-- a value of a row; a blob is base64 text
abbrev pub value_token : Value → Token
value_token Null = null
value_token (Int n) = number (signed_decimal n)
value_token (Text text) = string text
value_token (Blob bytes) = string (encode_of standard bytes)

-- ---- a read's result as lists

abbrev pub row_tokens : List Value → List Token
row_tokens row = array_of (map value_token row)

abbrev pub texts_member : List ℕ → List (List ℕ) → List Token
texts_member name texts = key name ∷ array_of (map string texts)

abbrev pub values_member : List (List Value) → List Token
values_member rows = if length rows == 0 then [] else key (codes "values") ∷ array_of (flat_map row_tokens rows)

-- ---- a read's result as objects

-- the pairs, which are in the order of their keys, with this one in its place; it takes that of an equal key
abbrev pub put : {A : Type 0} → List ℕ → A → List (List ℕ × A) → List (List ℕ × A)
put k a [] = (k, a) ∷ []
put k a ((l, b) ∷ pairs) = match_ordering (slice_cmp nat_cmp k l) ((k, a) ∷ (l, b) ∷ pairs) ((k, a) ∷ pairs) ((l, b) ∷ put k a pairs)

-- headings and what stands under them, in order and as far as both lists go, put into the pairs found
abbrev pub paired : {A : Type 0} → List (List ℕ) → List A → List (List ℕ × A) → List (List ℕ × A)
paired [] under found = found
paired (heading ∷ headings) [] found = found
paired (heading ∷ headings) (a ∷ under) found = paired headings under (put heading a found)

abbrev pub pair_tokens : List ℕ × Token → List Token
pair_tokens pair = key pair.0 ∷ pair.1 ∷ []

-- an object with these headings as keys
abbrev pub object_under : List (List ℕ) → List Token → List Token
object_under headings under = object_of (flat_map pair_tokens (paired headings under []))

abbrev pub row_object : List (List ℕ) → List Value → List Token
row_object headings row = object_under headings (map value_token row)

abbrev pub rows_member : List (List ℕ) → List (List Value) → List Token
rows_member headings rows = if length rows == 0 then [] else key (codes "rows") ∷ array_of (flat_map (row_object headings) rows)

-- ---- results; what is 0 or empty is left output

abbrev pub id_member : ℤ → List Token
id_member id = if int_eq id (pos 0) then [] else key (codes "last_insert_id") ∷ number (signed_decimal id) ∷ []

abbrev pub affected_member : ℕ → List Token
affected_member rows = if rows == 0 then [] else key (codes "rows_affected") ∷ number (decimal rows) ∷ []

abbrev pub table_members : Bool → List (List ℕ) → List (List ℕ) → List (List Value) → List Token
table_members false columns types rows =
    texts_member (codes "columns") columns ++ (texts_member (codes "types") types ++ values_member rows)
table_members true columns types rows =
    rows_member columns rows ++ (key (codes "types") ∷ object_under columns (map string types))

abbrev pub result_members : Bool → Res → List Token
result_members associative (Done id rows) = id_member id ++ affected_member rows
result_members associative (Rows columns types rows) = table_members associative columns types rows
result_members associative (Error text) = key (codes "error") ∷ string text ∷ []

abbrev pub result_tokens : Bool → Res → List Token
result_tokens associative result = object_of (result_members associative result)

abbrev pub results_member : Bool → List Res → List Token
results_member associative results = key (codes "results") ∷ array_of (flat_map (result_tokens associative) results)

-- ---- replies

-- whether a server is the leader that is known, and whether it votes
unfoldable pub server_flags : Bool → Bool → List Token
server_flags leads votes = key (codes "leader") ∷ boolean leads ∷ key (codes "voter") ∷ boolean votes ∷ []

unfoldable pub server_members : List ℕ → Bool → Bool → List Token
server_members address leads votes = key (codes "addr") ∷ string address ∷ server_flags leads votes

-- a server, its id as the key
abbrev pub server_tokens : Member × Bool → List Token
server_tokens server = key server.0.id ∷ object_of (server_members server.0.http server.1 server.0.voter)

-- the members of the one object that a reply in JSON is; servers stand in their list's order
abbrev pub reply_members : Bool → Say → List Token
reply_members associative (Results results) = results_member associative results
reply_members associative (Queued n) = results_member associative [] ++ key (codes "sequence_number") ∷ number (decimal n) ∷ []
reply_members associative Loaded = results_member associative []
reply_members associative (Nodes servers) = flat_map server_tokens servers
reply_members associative (Backup sql) = []
reply_members associative Ready = []
reply_members associative Changed = []
reply_members associative (Moved address) = []
reply_members associative (Refused refusal) = []

abbrev pub contact_text : Option ℕ → List ℕ
contact_text None = codes "none"
contact_text (Some moment) = decimal moment

-- what was and what is
abbrev pub with_now : List ℕ → ℕ → ℕ → List ℕ
with_now words before now = words ++ (decimal before ++ (codes ", now " ++ decimal now))

abbrev pub refusal_text : NodeRefusal → List ℕ
refusal_text (Stale contact now limit) = codes "stale: contact " ++ (contact_text contact ++ (codes ", now " ++ (decimal now ++ (codes ", limit " ++ decimal limit))))
refusal_text (NoLeader term) = codes "leader not found: term " ++ decimal term
refusal_text (EntryTooLarge size) = codes "entry too large: " ++ decimal size
refusal_text (QueuedTooLarge size) = codes "queued request too large: " ++ decimal size
refusal_text (QueueFull held) = codes "queue full: " ++ decimal held
refusal_text (Lost term now) = with_now (codes "leadership lost: term ") term now
refusal_text (Timeout asked now) = with_now (codes "timeout: asked ") asked now

abbrev pub json_reply : Shape → Say → List ℕ
json_reply shape say = text shape.pretty (object_of (reply_members shape.associative say))

abbrev pub body_of : Shape → Say → List ℕ
body_of shape (Results results) = json_reply shape (Results results)
body_of shape (Queued n) = json_reply shape (Queued n)
body_of shape Loaded = json_reply shape Loaded
body_of shape (Nodes servers) = json_reply shape (Nodes servers)
body_of shape Changed = json_reply shape Changed
body_of shape Ready = codes "ready"
body_of shape (Backup sql) = sql
body_of shape (Moved address) = []
body_of shape (Refused refusal) = refusal_text refusal
