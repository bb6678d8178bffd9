use Rattle.std.proofs.Common.{ap, sym, ◌∙◌, Ok}
use Rattle.rq_eval.specs.declared.error.StmtError.TheVariants as error
use Rattle.rq_changes.specs.Stepping.{stored_at}
use Rattle.rq_changes.proofs.Steps.{said_goes}
use Rattle.rq_changes.proofs.Stored.{stored_same, stored_other, stored_none}
use Rattle.rq_changes.proofs.storing.store_one.Goals as goal

pub returns-then-fits : goal.returns-then-fits
returns-then-fits c = stored_same c.args.table.now c.args.column.now c.args.at c.args.row.now.items c.index.result.now c.requires c.index.ensures (c.fits.ensures c.if-fits.true)

pub returns-in-Ok-Some : goal.returns-in-Ok-Some
returns-in-Ok-Some c =
    stored_other c.args.table.now c.args.column.now c.args.at c.args.row.now.items c.index-3.result.now c.in-Ok-Some.value c.requires c.index-3.ensures (sym (rw c.in-Ok-Some.field-0-is at c.in-Ok-Some.ensures))
    ∙ ap Ok (sym c.set_cell.ensures)

pub returns-in-Ok-None : goal.returns-in-Ok-None
returns-in-Ok-None c =
    let t = c.args.table.now in
    let column = c.args.column.now in
    let row = c.args.row.now.items in
    said_goes (stored_at t column c.args.at row) row (error.CannotStore c.kind_of-kind.result column.kind t column.name) c.cannot_store.result c.cannot_store.ensures
    (stored_none t column c.args.at row c.index-2.result.now c.index-3.result.now c.kind_of-kind.result c.requires c.index-2.ensures c.index-3.ensures c.kind_of-kind.ensures (sym (rw c.in-Ok-None.field-0-is at c.in-Ok-None.ensures)))
