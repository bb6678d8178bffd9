use Rattle.std.proofs.Common.{◌≡◌, ◌∙◌, refl, sym}
use Rattle.rq_member.proofs.Answering.{forgotten, stayed}
use Rattle.rq_member.proofs.node.State.forget_lost.Goals as goal

pub returns-then-has_left : goal.returns-then-has_left
returns-then-has_left g c = forgotten _ _ c.args.self.now c.self.view_is refl c.clear.ensures.items c.clear-then-has_left.ensures.items (sym c.has_left.ensures ∙ c.if-has_left.true)

pub returns-else-has_left : goal.returns-else-has_left
returns-else-has_left g c = stayed c.args.self.now (sym c.has_left.ensures ∙ c.if-has_left.false)
