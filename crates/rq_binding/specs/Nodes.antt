-- The nodes that become literals before a statement enters the log, in source order: by a node's first token.
use Rattle.std.specs.Prelude.{Bool, false, ◌&&◌, if◌then◌else◌, List, [], ◌∷◌, ◌++◌, map, Option, Some, None, codes, bytes_eq, ℤ}
use Rattle.rq_values.specs.declared.value.Value.{Value}
use Rattle.rq_values.specs.declared.value.Value.TheVariants as v
use Rattle.rq_grammar.specs.Words.{Text}
use Rattle.rq_grammar.specs.declared.expr.Expr.{Expr}
use Rattle.rq_grammar.specs.declared.expr.Expr.TheVariants as e
use Rattle.rq_grammar.specs.declared.expr.Expr.TheOpen.{Expr-F}
use Rattle.rq_grammar.specs.declared.expr.Expr.TheFolds.{fold-Expr}
use Rattle.rq_statement.specs.Sights.{is_moment_call, is_now as is_now_text}
use Rattle.rq_binding.specs.declared.node.Sort.{Sort}
use Rattle.rq_binding.specs.declared.node.Sort.TheVariants as sort
use Rattle.rq_binding.specs.declared.node.Part.{Part}
use Rattle.rq_binding.specs.declared.node.Part.TheVariants as part
use Rattle.rq_binding.specs.declared.node.Drawn.{Drawn}
use Rattle.rq_binding.specs.declared.node.Drawn.TheVariants as drawn
use Rattle.rq_binding.specs.declared.node.Node.{Node}
use Rattle.rq_binding.specs.declared.node.Node.TheVariants as node

-- the literal that an expression is
abbrev pub literal_of : Expr → Option Value
literal_of (e.Literal a) = Some a
literal_of _ = None

abbrev pub integer_of : Option Value → Option ℤ
integer_of (Some (v.Int n)) = Some n
integer_of _ = None

-- the literal 'now', in any ASCII case
abbrev pub is_now : Option Value → Bool
is_now (Some (v.Text t)) = is_now_text t
is_now _ = false

-- the random node or time node that a call is, by its name and its arguments where they are literals
abbrev pub drawn_without : Text → Option Drawn
drawn_without n = if bytes_eq n (codes "RANDOM") then Some drawn.Random else (if is_moment_call n then Some (drawn.Moment part.Timestamp) else None)

abbrev pub drawn_with : Text → Option Value → Option Drawn
drawn_with n x = if bytes_eq n (codes "RANDOMBLOB") then Some (drawn.Blob (integer_of x)) else (if is_moment_call n && is_now x then Some (drawn.Moment part.Timestamp) else None)

abbrev pub drawn_call : Text → List (Option Value) → Option Drawn
drawn_call n [] = drawn_without n
drawn_call n (x ∷ []) = drawn_with n x
drawn_call n (x ∷ y ∷ xs) = None

abbrev pub call_node : Sort → Text → List (Option Value) → Option Drawn
call_node sort.Parameters n xs = None
call_node sort.Drawn n xs = drawn_call n xs

abbrev pub parameter_nodes : Sort → Option Text → List Node
parameter_nodes sort.Parameters n = node.Parameter n ∷ []
parameter_nodes sort.Drawn n = []

abbrev pub moment_nodes : Sort → Part → List Node
moment_nodes sort.Parameters p = []
moment_nodes sort.Drawn p = node.Drawn (drawn.Moment p) ∷ []

-- what is seen of an expression: the literal that it is, and its nodes
pub record Seen : Type 0 where
  pub literal : Option Value
  pub nodes : List Node

abbrev pub joined : List Seen → List Node
joined [] = []
joined (a ∷ xs) = a.nodes ++ joined xs

abbrev pub literals : List Seen → List (Option Value)
literals = map (λ a. a.literal)

-- nothing within a node is looked at
abbrev pub node_or : Option Drawn → List Node → List Node
node_or (Some a) ns = node.Drawn a ∷ []
node_or None ns = ns

abbrev pub within : List Node → Seen
within ns = record { literal = None; nodes = ns }

abbrev pub seen_step : Sort → Expr-F Seen → Seen
seen_step s (Expr-F.Literal a) = record { literal = Some a; nodes = [] }
seen_step s (Expr-F.Param n) = within (parameter_nodes s n)
seen_step s (Expr-F.Name n) = within []
seen_step s (Expr-F.Qualified n m) = within []
seen_step s Expr-F.CurrentTimestamp = within (moment_nodes s part.Timestamp)
seen_step s Expr-F.CurrentDate = within (moment_nodes s part.Date)
seen_step s Expr-F.CurrentTime = within (moment_nodes s part.Time)
seen_step s Expr-F.CountAll = within []
seen_step s (Expr-F.Call n xs) = within (node_or (call_node s n (literals xs)) (joined xs))
seen_step s (Expr-F.Minus a) = within a.nodes
seen_step s (Expr-F.Not a) = within a.nodes
seen_step s (Expr-F.Binary o a b) = within (a.nodes ++ b.nodes)
seen_step s (Expr-F.InList d a xs) = within (a.nodes ++ joined xs)
seen_step s (Expr-F.Between d a b c) = within (a.nodes ++ b.nodes ++ c.nodes)

abbrev pub seen : Sort → Expr → Seen
seen s = fold-Expr Seen (seen_step s)

-- the nodes of an expression, and of expressions one after the other
abbrev pub nodes : Sort → Expr → List Node
nodes s a = (seen s a).nodes

abbrev pub all_nodes : Sort → List Expr → List Node
all_nodes s [] = []
all_nodes s (a ∷ xs) = nodes s a ++ all_nodes s xs
