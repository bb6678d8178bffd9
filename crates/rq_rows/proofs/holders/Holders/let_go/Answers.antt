use Rattle.std.proofs.Common.{None, cond, ap, ◌∙◌}
use Rattle.rq_rows.specs.Holding.{held, same}
use Rattle.rq_rows.proofs.holders.Holders.let_go.Goals as goal

pub returns : goal.returns
returns c =
    λ q. c.remove-to.ensures.updates.0 q ∙ ap (λ es. cond (same c.args.value.now q) None (held es q)) c.self.view_is
