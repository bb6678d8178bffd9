use Rattle.rq_grammar.specs.Spelling.{word_of}
use Rattle.rq_lexer.proofs.words.word_of.Goals as goal

pub returns : goal.returns
unfolding word_of
returns c = c.word_among.ensures
