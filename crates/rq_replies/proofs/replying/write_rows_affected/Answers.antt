use Rattle.std.proofs.lemmas.Bool.{ne_eqb}
use Rattle.rq_replies.proofs.replying.write_rows_affected.Goals as goal

pub returns : goal.returns
returns c = simp (ne_eqb c.args.rows 0 c.if-rows-eq0.false) c.write_count.ensures
