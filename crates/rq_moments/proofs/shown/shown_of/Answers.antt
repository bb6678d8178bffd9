use Rattle.rq_moments.proofs.Parts.{all_show}
use Rattle.rq_moments.proofs.shown.shown_of.Goals as goal

pub returns-in-Ok : goal.returns-in-Ok
returns-in-Ok c = all_show c.shown_parts.result c.args.moment c.args.date _ _ c.requires c.in_ok-date.ensures c.in-Ok.ensures c.shown_parts.ensures
