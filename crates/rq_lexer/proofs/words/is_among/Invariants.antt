use Rattle.std.proofs.Common.{◌≡◌, length, map}
use Rattle.rq_grammar.specs.Grammar.{upper}
use Rattle.rq_grammar.specs.Spelling.{is_among}
use Rattle.rq_lexer.proofs.words.is_among.Given as goal

abbrev pub invariant-loop-words : goal.invariant-loop-words
invariant-loop-words l = is_among (map (λ w. w.now) l.words) (upper l.word) ≡ is_among (map (λ w. w.now) l.initial.words) (upper l.word)

abbrev pub decreases-loop-words : goal.decreases-loop-words
decreases-loop-words l = length l.words
