use Rattle.std.proofs.Common.{Some, cond, ap, sym, subst, ◌∙◌, IsSome, w64, FitsSigned}
use Rattle.std.proofs.lemmas.Int.{to_z-of_z}
use Rattle.rq_rows.specs.Holding.{held, same}
use Rattle.rq_rows.proofs.holders.Holders.point.Goals as goal

pub returns : goal.returns
returns c =
    let fits : FitsSigned w64 c.args.to = c.ranges.to in
    let there = subst (λ es. IsSome (held es c.args.value.now)) (sym c.self.view_is) c.requires in
    λ q. simp to_z-of_z (((c.get_mut.follows.holds c.args.to).3 there).0 q ∙ ap (λ es. cond (same c.args.value.now q) (Some c.args.to) (held es q)) c.self.view_is)
