-- Which values may take the place of nodes.
use Rattle.std.specs.Prelude.{ℕ, Bool, false, ◌&&◌, ◌^◌, not, nat_lt, List, map, Option, Some}
use Rattle.rq_values.specs.declared.value.Value.{Value}
use Rattle.rq_grammar.specs.Words.{Text}
use Rattle.rq_grammar.specs.Proper.{all_of, is_literal}
use Rattle.rq_binding.specs.declared.node.Sort.{Sort}
use Rattle.rq_binding.specs.declared.node.Sort.TheVariants as sort
use Rattle.rq_request.specs.declared.statement.Params.{Params}
use Rattle.rq_binding.specs.Nodes.{is_now}
use Rattle.rq_binding.specs.Bound.{list_of, named_of}

-- 'now', which as an argument would be a moment again
abbrev pub is_moment : Sort → Option Value → Bool
is_moment sort.Parameters x = false
is_moment sort.Drawn x = is_now x

-- a literal that can be written and leaves no node
abbrev pub is_usable : Sort → Value → Bool
is_usable s x = is_literal x && not (is_moment s (Some x))

abbrev pub are_usable : Sort → List Value → Bool
are_usable s vs = all_of (map (is_usable s) vs)

-- words of 64 bits
abbrev pub are_words : List ℕ → Bool
are_words ws = all_of (map (λ w. nat_lt w (2 ^ 64)) ws)

abbrev pub is_named_literal : Text × Value → Bool
is_named_literal m = is_literal m.1

-- values whose integers have 64 bits
abbrev pub are_literals : Params → Bool
are_literals p = all_of (map is_literal (list_of p)) && all_of (map is_named_literal (named_of p))
