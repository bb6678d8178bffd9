use Rattle.std.specs.Option.{option_copied}
use Rattle.rq_changes.proofs.Inserted.{fits_same, length_values}
use Rattle.rq_changes.proofs.inserting.insert_expressions.Goals as goal

pub insert_row-requires-clause-fits : goal.insert_row-requires-clause-fits
insert_row-requires-clause-fits c = fits_same c.args.table.now.rows.columns (option_copied c.args.places) c.args.exprs.now c.in-Ok.values (length_values c.args.exprs.now c.in-Ok.values c.in-Ok.ensures) c.requires.fits
