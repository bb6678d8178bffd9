use Rattle.std.proofs.Common.{◌+◌, ◌≤◌, sym, subst}
use Rattle.rq_meaning.specs.Database.{empty_size, size_limit}
use Rattle.rq_tables.specs.Entries.{now_db}
use Rattle.rq_tables.proofs.Created.{created_full}
use Rattle.rq_tables.proofs.creating.create_new.Goals as goal

pub returns-in-None-clause-leaves : goal.returns-in-None-clause-leaves
returns-in-None-clause-leaves c = created_full (now_db c.args.tables.now) c.args.name.now c.args.columns.now c.requires.new c.in-Ok.ensures
    (λ h. c.in-None.ensures (subst (λ k. k + empty_size c.args.name.now c.args.columns.now ≤ size_limit) (sym c.size-size.ensures.size) h))
