use Rattle.std.proofs.Common.{w64}
use Rattle.std.proofs.lemmas.Int.{to_z-of_z}
use Rattle.rq_replies.proofs.ReplyMembers.{int_eq-zero}
use Rattle.rq_replies.proofs.replying.write_last_insert_id.Goals as goal

pub returns : goal.returns
returns c =
    simp (int_eq-zero c.args.id c.if-id-eq0.false) (simp (to_z-of_z w64 c.args.id c.ranges.id) at c.write_int.ensures)
