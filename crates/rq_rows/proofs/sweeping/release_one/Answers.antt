use Rattle.std.proofs.Common.{sym, ◌∙◌}
use Rattle.rq_rows.proofs.sweeping.release_one.Goals as goal

pub release-requires : goal.release-requires
release-requires c = c.requires (sym c.is_unique.ensures ∙ c.if-not-is_unique.false)
