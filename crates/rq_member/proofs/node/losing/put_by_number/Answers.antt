use Rattle.std.proofs.Common.{◌≡◌, ◌∙◌, ap, sym, subst, length}
use Rattle.rq_member.proofs.Answering.{inserted_as}
use Rattle.rq_member.proofs.node.losing.put_by_number.Goals as goal

pub returns : goal.returns
returns c = λ list so.
    c.in_ok-insert.ensures.items ∙ inserted_as c.as_slice.result.now c.args.answers.now.items list c.args.answer c.place_of-at.result c.as_slice.ensures.value so c.place_of-at.ensures.within c.place_of-at.ensures.behind c.place_of-at.ensures.before
