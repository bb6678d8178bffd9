use Rattle.rq_canonical.proofs.Again.{read_again, printed_again}
use Rattle.rq_canonical.proofs.laws.printed_text_is_read.Goals as goal

pub returns-clause-printed : goal.returns-clause-printed
returns-clause-printed c =
    let law = c.canonical_text_is_read.ensures in
    read_again law.tokens law.spells

pub returns-clause-again : goal.returns-clause-again
returns-clause-again c =
    let law = c.canonical_text_is_read.ensures in
    printed_again law.tokens law.spells c.tokens_in_order.ensures.tokens
