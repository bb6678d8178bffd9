use Rattle.std.proofs.Common.{Some, cond, ap, ◌∙◌, w64, FitsSigned}
use Rattle.std.proofs.lemmas.Int.{to_z-of_z}
use Rattle.rq_rows.specs.Holding.{held, same}
use Rattle.rq_rows.proofs.holders.Holders.hold.Goals as goal

pub returns-clause-ok : goal.returns-clause-ok
returns-clause-ok c =
    let fits : FitsSigned w64 c.args.to = c.ranges.to in
    let changed = simp to_z-of_z at c.in_ok-insert.ensures.updates.0 in
    λ q. changed q ∙ ap (λ k. cond (same k q) (Some c.args.to) (held c.self.inside.keys.entries q)) c.in_ok-key.ensures
    ∙ ap (λ es. cond (same c.args.value.now q) (Some c.args.to) (held es q)) c.self.view_is
