use Rattle.std.proofs.Common.{ℕ, List, Option, subst, sym}
use Rattle.std.specs.Option.{option_copied}
use Rattle.rq_eval.specs.Outcome.{Outcome}
use Rattle.rq_meaning.specs.declared.done.Done.{Done}
use Rattle.rq_meaning.specs.Database.{Table}
use Rattle.rq_changes.specs.Making.{Makes, AllFit}
use Rattle.rq_changes.specs.Staged.{now_of}
use Rattle.rq_changes.proofs.Inserted.{counts_fit, counts_clear, values_are}
use Rattle.rq_changes.proofs.inserting.insert_values.Goals as goal

pub insert_rows-requires-clause-fits : goal.insert_rows-requires-clause-fits
insert_rows-requires-clause-fits c =
    let t = now_of c.args.table.now in
    let ns = option_copied c.args.names in
    let rows = c.args.rows.now in
    subst (λ (q : Option (List ℕ)). AllFit t.columns q rows) (sym c.slice_of.ensures)
    (counts_fit t ns c.in-Ok.places rows c.in-Ok.ensures (counts_clear t ns rows c.in-Ok-check_rows.ensures))

pub returns-in-Ok-check_rows-clause-makes : goal.returns-in-Ok-check_rows-clause-makes
returns-in-Ok-check_rows-clause-makes c =
    let t = now_of c.args.table.now in
    let ns = option_copied c.args.names in
    let rows = c.args.rows.now in
    subst (λ (o : Outcome (Table × Done)). Makes o (now_of c.insert_rows.new.table) c.insert_rows.result)
    (sym (values_are c.args.others t ns c.in-Ok.places rows c.in-Ok.ensures c.in-Ok-check_rows.ensures))
    (rw c.slice_of.ensures at c.insert_rows.ensures.makes)
