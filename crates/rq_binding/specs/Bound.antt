-- A statement with the values of its parameters.
use Rattle.std.specs.Prelude.{ℕ, suc, ◌≡◌, ◌==◌, if◌then◌else◌, List, [], ◌∷◌, length, Option, Some, None, Result, Ok, Err, bytes_eq}
use Rattle.rq_values.specs.declared.value.Value.{Value}
use Rattle.rq_values.specs.declared.value.Value.TheVariants as v
use Rattle.rq_grammar.specs.Words.{Text}
use Rattle.rq_grammar.specs.declared.stmt.Stmt.{Stmt}
use Rattle.rq_binding.specs.declared.node.Sort.TheVariants as sort
use Rattle.rq_binding.specs.declared.node.Node.{Node}
use Rattle.rq_binding.specs.declared.node.Node.TheVariants as node
use Rattle.rq_request.specs.declared.statement.Params.{Params}
use Rattle.rq_request.specs.declared.statement.Params.TheVariants as params
use Rattle.rq_binding.specs.declared.params.BindError.{BindError}
use Rattle.rq_binding.specs.declared.params.BindError.TheVariants as errors
use Rattle.rq_binding.specs.Statements.{stmt_nodes, in_order, stmt_filled}

abbrev pub list_of : Params → List Value
list_of (params.List vs) = vs
list_of params.None = []
list_of (params.Named ms) = []

abbrev pub named_of : Params → List (Text × Value)
named_of (params.Named ms) = ms
named_of params.None = []
named_of (params.List vs) = []

-- how many `?` there are
abbrev pub positions : List Node → ℕ
positions [] = 0
positions (node.Parameter None ∷ ns) = suc (positions ns)
positions (node.Parameter (Some n) ∷ ns) = positions ns
positions (node.Drawn d ∷ ns) = positions ns

-- the value of a name
abbrev pub find : Text → List (Text × Value) → Option Value
find n [] = None
find n (m ∷ ms) = if bytes_eq m.0 n then Some m.1 else find n ms

abbrev pub or_missing : Text → Option Value → Option Text → Option Text
or_missing n None o = Some n
or_missing n (Some x) o = o

-- the first name without a value
abbrev pub missing : List (Text × Value) → List Node → Option Text
missing ms [] = None
missing ms (node.Parameter None ∷ ns) = missing ms ns
missing ms (node.Parameter (Some n) ∷ ns) = or_missing n (find n ms) (missing ms ns)
missing ms (node.Drawn d ∷ ns) = missing ms ns

abbrev pub or_null : Option Value → Value
or_null None = v.Null
or_null (Some x) = x

abbrev pub first_of : List Value → Option Value
first_of [] = None
first_of (x ∷ vs) = Some x

abbrev pub behind : List Value → List Value
behind [] = []
behind (x ∷ vs) = vs

-- the value of a parameter: `?` takes the next, a name its own; NULL stands for what isn't there
abbrev pub value_of : List (Text × Value) → Node → List Value → Value
value_of ms (node.Parameter None) vs = or_null (first_of vs)
value_of ms (node.Parameter (Some n)) vs = or_null (find n ms)
value_of ms (node.Drawn d) vs = v.Null

-- what is left of the list
abbrev pub left_of : Node → List Value → List Value
left_of (node.Parameter None) vs = behind vs
left_of (node.Parameter (Some n)) vs = vs
left_of (node.Drawn d) vs = vs

-- the value of each parameter
abbrev pub chosen : List (Text × Value) → List Node → List Value → List Value
chosen ms [] vs = []
chosen ms (n ∷ ns) vs = value_of ms n vs ∷ chosen ms ns (left_of n vs)

abbrev pub parameters_of : Stmt → List Node
parameters_of s = in_order (stmt_nodes sort.Parameters s)

abbrev pub bound_or : Option Text → Stmt → Result Stmt BindError
bound_or (Some n) s = Err (errors.Missing n)
bound_or None s = Ok s

-- the count is looked at first
abbrev pub bound : Stmt → Params → Result Stmt BindError
bound s p =
    if positions (parameters_of s) == length (list_of p)
    then bound_or (missing (named_of p) (parameters_of s)) (stmt_filled sort.Parameters s (chosen (named_of p) (parameters_of s) (list_of p))).0
    else Err (errors.Count (positions (parameters_of s)) (length (list_of p)))

-- an error is the definition's; want of memory is none
abbrev pub IsUnbound : Result Stmt BindError → BindError → Type 0
IsUnbound expected errors.NoMemory = Unit {0}
IsUnbound expected (errors.Count n m) = expected ≡ Err (errors.Count n m)
IsUnbound expected (errors.Missing n) = expected ≡ Err (errors.Missing n)
