-- The values of random nodes and time nodes, with the words to come and the texts of the moment.
use Rattle.std.specs.Prelude.{ℕ, ◌/◌, List, [], ◌∷◌, take, drop, flat_map, slice_index, Option, Some, None, pos}
use Rattle.std.specs.Int.{w64, to_le_bytes}
use Rattle.rq_values.specs.declared.value.Value.{Value}
use Rattle.rq_values.specs.declared.value.Value.TheVariants as v
use Rattle.rq_moments.specs.declared.shown.Shown.{Shown}
use Rattle.rq_binding.specs.declared.node.Part.{Part}
use Rattle.rq_binding.specs.declared.node.Part.TheVariants as part
use Rattle.rq_binding.specs.declared.node.Drawn.{Drawn}
use Rattle.rq_binding.specs.declared.node.Drawn.TheVariants as drawn
use Rattle.rq_binding.specs.declared.node.Node.{Node}
use Rattle.rq_binding.specs.declared.node.Node.TheVariants as node
use Rattle.rq_binding.specs.Plan.{blob_bytes, drawn_words}

abbrev pub part_of : Shown → Part → List ℕ
part_of t part.Timestamp = t.timestamp
part_of t part.Date = t.date
part_of t part.Time = t.time

-- of a moment in range, a text
abbrev pub moment_value : Option Shown → Part → Value
moment_value None p = v.Null
moment_value (Some t) p = v.Text (part_of t p)

-- the first so many of the little-endian bytes of the words
abbrev pub blob_value : ℕ → List ℕ → Value
blob_value n ws = v.Blob (take n (flat_map (to_le_bytes w64) ws))

-- the value of a node with its own words: RANDOM() is its word shifted right by one
abbrev pub drawn_value : Option Shown → Drawn → List ℕ → Value
drawn_value t drawn.Random ws = v.Int (pos (slice_index ws 0 / 2))
drawn_value t (drawn.Blob n) ws = blob_value (blob_bytes n) ws
drawn_value t (drawn.Moment p) ws = moment_value t p

-- the value of a node, where these are the words to come; NULL for a parameter, which is no such node
abbrev pub node_value : Option Shown → Node → List ℕ → Value
node_value t (node.Drawn d) ws = drawn_value t d (take (drawn_words d) ws)
node_value t (node.Parameter n) ws = v.Null

abbrev pub left_of : Node → List ℕ → List ℕ
left_of (node.Drawn d) ws = drop (drawn_words d) ws
left_of (node.Parameter n) ws = ws

-- the value of each node
abbrev pub drawn_values : Option Shown → List Node → List ℕ → List Value
drawn_values t [] ws = []
drawn_values t (n ∷ ns) ws = node_value t n ws ∷ drawn_values t ns (left_of n ws)
