use Rattle.std.proofs.Common.{◌≡◌, length}
use Rattle.std.specs.Prelude.{bytes_eq}
use Rattle.rq_grammar.specs.Grammar.{upper}
use Rattle.rq_lexer.proofs.words.is_word.Given as goal

abbrev pub invariant-loop-word : goal.invariant-loop-word
invariant-loop-word l = bytes_eq l.capitals (upper l.word) ≡ bytes_eq l.initial.capitals (upper l.initial.word)

abbrev pub decreases-loop-word : goal.decreases-loop-word
decreases-loop-word l = length l.word
