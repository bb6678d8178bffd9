use Rattle.std.proofs.Common.{rules, ◌≡◌, [], ◌∷◌, ◌++◌, sym, subst}
use Rattle.std.specs.Prelude.{All}
use Rattle.rq_cluster.specs.EmptyPairs.{IsMade, AreMade}
use Rattle.rq_cluster.specs.Recovery.{IsNew}
use Rattle.rq_cluster.proofs.Emptiness.{one_more_new, one_more_made}
use Rattle.rq_cluster.proofs.new_pairs.nine_pairs.Goals as goal

pub loop-place-preserved : goal.loop-place-preserved
loop-place-preserved g c =
    let pairs = c.loop-place.pairs.items in
    let pair = c.in_ok-new_pair.field-0 in
    let now : c.push.new.self.items ≡ pairs ++ pair ∷ [] = c.in_ok-push.ensures.items in
    let made = g.M.MakesDisks.made c.args.maker.now in
    record {
      count = search rules;
      fresh = subst (All (IsNew g.D.Disk.told g.D.Disk.means)) (sym now) (one_more_new g.D.Disk.told g.D.Disk.means pairs pair c.loop-place.invariant.fresh c.in_ok-new_pair.ensures.new);
      made = subst (AreMade made) (sym now) (one_more_made made pairs pair c.loop-place.invariant.made (subst (λ n. IsMade made n pair) (sym c.loop-place.invariant.count) c.in_ok-new_pair.ensures.made));
    }
