use Rattle.std.proofs.Common.{ap, ◌∙◌, length}
use Rattle.std.specs.Option.{option_copied}
use Rattle.rq_changes.specs.Staged.{now_of}
use Rattle.rq_changes.proofs.Inserted.{length_laid}
use Rattle.rq_changes.proofs.inserting.insert_row.Goals as goal

pub enter-requires-clause-count : goal.enter-requires-clause-count
enter-requires-clause-count c = ap length c.in-Ok.ensures ∙ length_laid (now_of c.args.table.now) (option_copied c.args.places) c.args.values c.requires.fits
