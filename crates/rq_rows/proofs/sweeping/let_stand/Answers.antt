use Rattle.std.proofs.Common.{sym, subst}
use Rattle.rq_rows.specs.Covering.{Covers}
use Rattle.rq_rows.proofs.sweeping.let_stand.Goals as goal

pub release_changed-requires-clause-covers : goal.release_changed-requires-clause-covers
release_changed-requires-clause-covers c = subst (Covers c.args.columns.now c.args.holders.now.items) (sym c.settle.ensures) c.requires.covers
