use Rattle.std.proofs.Common.{◌≡◌, length, map}
use Rattle.rq_grammar.specs.Grammar.{upper}
use Rattle.rq_grammar.specs.Spelling.{word_among}
use Rattle.rq_lexer.proofs.words.word_among.Given as goal

abbrev pub invariant-loop-words : goal.invariant-loop-words
invariant-loop-words l = word_among (map (λ w. (w.0.now, w.1)) l.words) (upper l.word) ≡ word_among (map (λ w. (w.0.now, w.1)) l.initial.words) (upper l.word)

abbrev pub decreases-loop-words : goal.decreases-loop-words
decreases-loop-words l = length l.words
