use Rattle.std.proofs.Common.{◌≡◌, drop}
use Rattle.std.specs.Prelude.{map}
use Rattle.rq_values.specs.Text.{is_text}
use Rattle.rq_grammar.specs.Proper.{all_of}
use Rattle.rq_print.proofs.written.know_texts.Given as goal

-- what is still to be looked at decides
abbrev pub invariant-loop-text : goal.invariant-loop-text
invariant-loop-text l = all_of (map is_text (drop l.text-index l.texts)) ≡ all_of (map is_text l.texts)
