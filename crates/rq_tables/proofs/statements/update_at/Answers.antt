use Rattle.std.proofs.Common.{subst, sym, length, ◌<◌, arith}
use Rattle.rq_changes.specs.Staged.{now_of}
use Rattle.rq_changes.specs.Making.{IsWithin}
use Rattle.rq_tables.specs.Entries.{now_db}
use Rattle.rq_meaning.specs.Statements as spec
use Rattle.rq_tables.proofs.Placed.{changed, leaves_by, within_read}
use Rattle.rq_tables.proofs.statements.update_at.Goals as goal

pub index_mut-requires : goal.index_mut-requires
index_mut-requires c = omega (arith, subst (λ es. c.args.place < length es) (sym c.tables.view_is) c.requires.0, c.tables.inside.entries.ok)

pub update-requires : goal.update-requires
update-requires c = record { within = within_read c.tables.inside.entries.items c.args.tables.now c.args.place c.index_mut.result.now c.others-others.result c.tables.view_is c.index_mut.ensures.value c.requires c.others-others.ensures.within }

pub invariant_of-tables : goal.invariant_of-tables
invariant_of-tables c = (changed c.tables.inside.entries.items c.args.tables.now c.args.place c.index_mut.result.now c.update.new.table c.tables.view_is c.index_mut.ensures.value c.requires c.update.ensures.rest c.tables.invariant (subst (λ k. IsWithin k (now_of c.update.new.table)) c.others-others.ensures.size c.update.ensures.within)).sound

pub returns-clause-leaves : goal.returns-clause-leaves
returns-clause-leaves c = λ n p.
    let d = changed c.tables.inside.entries.items c.args.tables.now c.args.place c.index_mut.result.now c.update.new.table c.tables.view_is c.index_mut.ensures.value c.requires c.update.ensures.rest c.tables.invariant (subst (λ k. IsWithin k (now_of c.update.new.table)) c.others-others.ensures.size c.update.ensures.within) in
    leaves_by (now_db c.args.tables.now) _ n (now_of c.index_mut.result.now.table) (now_of c.update.new.table) (spec.updated c.args.sets.now c.args.filter.now) c.others-others.result c.update.result (d.table n p) (c.others-others.ensures.others n p) (d.now n p) c.update.ensures.makes

pub returns-clause-rest : goal.returns-clause-rest
returns-clause-rest c = (changed c.tables.inside.entries.items c.args.tables.now c.args.place c.index_mut.result.now c.update.new.table c.tables.view_is c.index_mut.ensures.value c.requires c.update.ensures.rest c.tables.invariant (subst (λ k. IsWithin k (now_of c.update.new.table)) c.others-others.ensures.size c.update.ensures.within)).rest
