use Rattle.std.proofs.Common.{◌≡◌, drop}
use Rattle.rq_binding.specs.Usable.{are_words}
use Rattle.rq_binding.proofs.known.know_words.Given as goal

-- what is still to be looked at decides
abbrev pub invariant-loop-word : goal.invariant-loop-word
invariant-loop-word l = are_words (drop l.word-index l.words) ≡ are_words l.words
