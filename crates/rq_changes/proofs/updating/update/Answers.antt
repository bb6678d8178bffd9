use Rattle.std.proofs.Common.{subst, sym}
use Rattle.rq_eval.specs.Outcome.{Outcome}
use Rattle.rq_meaning.specs.declared.done.Done.{Done}
use Rattle.rq_meaning.specs.Database.{Table}
use Rattle.rq_changes.specs.Making.{Makes}
use Rattle.rq_changes.specs.Staged.{now_of}
use Rattle.rq_changes.proofs.Updated.{updated_is}
use Rattle.rq_changes.proofs.updating.update.Goals as goal

pub returns-in-Ok-resolved_sets-clause-makes : goal.returns-in-Ok-resolved_sets-clause-makes
returns-in-Ok-resolved_sets-clause-makes c =
    subst (λ (o : Outcome (Table × Done)). Makes o (now_of c.update_where.new.table) c.update_where.result)
    (sym (updated_is c.names_are_found_once.ensures c.args.others (now_of c.args.table.now) c.args.sets.now c.args.filter.now c.in-Ok.places c.in-Ok-resolved_sets.exprs c.in-Ok.ensures c.in-Ok-check_rest.ensures c.in-Ok-resolved_sets.ensures))
    (rw (c.as_slice.ensures, c.as_slice-in-Ok-resolved_sets.ensures) at c.update_where.ensures.makes)
