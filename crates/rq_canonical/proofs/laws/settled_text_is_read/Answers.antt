use Rattle.rq_canonical.proofs.laws.settled_text_is_read.Goals as goal

pub returns-clause-read : goal.returns-clause-read
returns-clause-read c = λ s is. c.printed_text_is_read.ensures.printed s is.proper is.written is.shallow is.short

pub returns-clause-text : goal.returns-clause-text
returns-clause-text c = λ s is. c.canonical_text_is_text.ensures s is.proper is.written
