use Rattle.std.proofs.Common.{◌≡◌, ◌-◌, ℕ, suc, List, length, false, nat_eq, arith}
use Rattle.rq_cluster.proofs.Lists.{cr_gone, cr_kept}
use Rattle.rq_cluster.proofs.feeding.without_cr.Goals as goal

has_some : (line : List ℕ) (b : _) → b ≡ nat_eq (length line) 0 → b ≡ false → length line ≡ suc (length line - 1)
has_some line b is free = grind arith

pub returns-then-line-eq13 : goal.returns-then-line-eq13
returns-then-line-eq13 c = cr_gone c.args.line.now (length c.args.line.now - 1) (has_some c.args.line.now c.is_empty.result c.is_empty.ensures c.if-is_empty.false) c.if-line-eq13.true

pub returns-else-line-eq13 : goal.returns-else-line-eq13
returns-else-line-eq13 c = cr_kept c.args.line.now (length c.args.line.now - 1) (has_some c.args.line.now c.is_empty.result c.is_empty.ensures c.if-is_empty.false) c.if-line-eq13.false
