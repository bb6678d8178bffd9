use Rattle.std.proofs.Common.{◌≡◌, map, drop}
use Rattle.rq_grammar.specs.Proper.{all_of}
use Rattle.rq_binding.specs.Usable.{is_named_literal}
use Rattle.rq_binding.proofs.known.know_named.Given as goal

-- what is still to be looked at decides
abbrev pub invariant-loop-pair : goal.invariant-loop-pair
invariant-loop-pair l = all_of (map is_named_literal (drop l.pair-index l.named)) ≡ all_of (map is_named_literal l.named)
