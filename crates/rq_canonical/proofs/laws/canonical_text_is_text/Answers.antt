use Rattle.rq_canonical.proofs.PrintedTexts.{printed_is}
use Rattle.rq_canonical.proofs.laws.canonical_text_is_text.Goals as goal

pub returns : goal.returns
returns c = printed_is
