use Rattle.std.proofs.Common.{◌≡◌, map, drop}
use Rattle.rq_grammar.specs.Proper.{all_of, is_literal}
use Rattle.rq_binding.proofs.known.know_list.Given as goal

-- what is still to be looked at decides
abbrev pub invariant-loop-value : goal.invariant-loop-value
invariant-loop-value l = all_of (map is_literal (drop l.value-index l.list)) ≡ all_of (map is_literal l.list)
