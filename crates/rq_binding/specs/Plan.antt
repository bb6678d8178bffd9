-- What settling a statement takes: its first refusal in source order, and the words that the nodes before it need.
use Rattle.std.specs.Prelude.{ℕ, suc, ◌+◌, ◌/◌, Bool, true, false, ◌&&◌, nat_le, if◌then◌else◌, List, [], ◌∷◌, Option, Some, None, ℤ, pos, negsuc}
use Rattle.rq_moments.specs.Moment.{is_in_range}
use Rattle.rq_binding.specs.declared.node.Drawn.{Drawn}
use Rattle.rq_binding.specs.declared.node.Drawn.TheVariants as drawn
use Rattle.rq_binding.specs.declared.node.Node.{Node}
use Rattle.rq_binding.specs.declared.node.Node.TheVariants as node
use Rattle.rq_binding.specs.declared.planning.Refusal.{Refusal}
use Rattle.rq_binding.specs.declared.planning.Refusal.TheVariants as refusal
use Rattle.rq_binding.specs.declared.planning.Plan.{Plan}
use Rattle.rq_binding.specs.declared.statement_nodes.Places.{Places}

-- RANDOMBLOB takes 1 to 1,024 bytes
abbrev pub is_size : ℤ → Bool
is_size (pos n) = nat_le 1 n && nat_le n 1024
is_size (negsuc n) = false

abbrev pub size_of : ℤ → ℕ
size_of (pos n) = n
size_of (negsuc n) = 0

-- why the k-th node is refused, with an argument of RANDOMBLOB
abbrev pub blob_refusal : ℕ → Option ℤ → Option Refusal
blob_refusal k None = Some (refusal.BlobArgument k)
blob_refusal k (Some n) = if is_size n then None else Some (refusal.BlobSize n)

-- why the k-th node is refused, where it stands in ORDER BY or doesn't
abbrev pub drawn_refusal : Bool → ℕ → ℕ → Drawn → Option Refusal
drawn_refusal ordered k moment drawn.Random = if ordered then Some (refusal.RandomInOrder k) else None
drawn_refusal ordered k moment (drawn.Blob n) = if ordered then Some (refusal.RandomInOrder k) else blob_refusal k n
drawn_refusal ordered k moment (drawn.Moment p) = if is_in_range moment then None else Some (refusal.MomentRange moment)

abbrev pub refusal_of : Bool → ℕ → ℕ → Node → Option Refusal
refusal_of ordered k moment (node.Drawn d) = drawn_refusal ordered k moment d
refusal_of ordered k moment (node.Parameter n) = None

-- how many words of 8 bytes so many bytes need
abbrev pub words_in : ℕ → ℕ
words_in n = (n + 7) / 8

abbrev pub blob_bytes : Option ℤ → ℕ
blob_bytes None = 0
blob_bytes (Some n) = size_of n

abbrev pub drawn_words : Drawn → ℕ
drawn_words drawn.Random = 1
drawn_words (drawn.Blob n) = words_in (blob_bytes n)
drawn_words (drawn.Moment p) = 0

abbrev pub words_for : Node → ℕ
words_for (node.Drawn d) = drawn_words d
words_for (node.Parameter n) = 0

abbrev pub start : Plan
start = record { nodes = 0; words = 0; refusal = None }

abbrev pub and_node : Plan → ℕ → Option Refusal → Plan
and_node p words None = record { nodes = suc p.nodes; words = p.words + words; refusal = None }
and_node p words (Some r) = record { nodes = suc p.nodes; words = p.words; refusal = Some r }

-- nothing behind a refusal counts
abbrev pub planned_node : Option Refusal → Bool → ℕ → Plan → Node → Plan
planned_node (Some r) ordered moment p n = p
planned_node None ordered moment p n = and_node p (words_for n) (refusal_of ordered (suc p.nodes) moment n)

abbrev pub planned : Bool → ℕ → List Node → Plan → Plan
planned ordered moment [] p = p
planned ordered moment (n ∷ ns) p = planned ordered moment ns (planned_node p.refusal ordered moment p n)

abbrev pub plan_of : ℕ → Places → Plan
plan_of moment ps = planned false moment ps.behind (planned true moment ps.ordered (planned false moment ps.before start))
