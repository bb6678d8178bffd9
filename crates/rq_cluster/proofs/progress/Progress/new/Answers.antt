use Rattle.std.proofs.Common.{ℕ, List, [], sym, subst}
use Rattle.rq_script.specs.Cluster.{first_cluster}
use Rattle.rq_cluster.specs.Feed.{After}
use Rattle.rq_cluster.proofs.Cutting.{started}
use Rattle.rq_cluster.proofs.progress.Progress.new.Goals as goal

pub returns-clause-after : goal.returns-clause-after
returns-clause-after c = subst (λ (h : List ℕ). After [] [] first_cluster 1 h 0) (sym c.new-2.ensures.items) started
