use Rattle.std.proofs.Common.{subst, sym, length, ◌<◌, arith, refl}
use Rattle.rq_changes.specs.Staged.{now_of}
use Rattle.rq_tables.specs.Entries.{now_db}
use Rattle.rq_meaning.specs.Statements as spec
use Rattle.rq_tables.proofs.Placed.{changed, leaves_by, smaller_within}
use Rattle.rq_tables.proofs.statements.delete_at.Goals as goal

pub index_mut-requires : goal.index_mut-requires
index_mut-requires c = omega (arith, subst (λ es. c.args.place < length es) (sym c.tables.view_is) c.requires.0, c.tables.inside.entries.ok)

pub invariant_of-tables : goal.invariant_of-tables
invariant_of-tables c = (changed c.tables.inside.entries.items c.args.tables.now c.args.place c.index_mut.result.now c.delete.new.table c.tables.view_is c.index_mut.ensures.value c.requires c.delete.ensures.rest c.tables.invariant (smaller_within c.tables.inside.entries.items c.args.tables.now c.args.place c.index_mut.result.now c.delete.new.table c.tables.view_is c.index_mut.ensures.value c.requires c.tables.invariant c.delete.ensures.smaller)).sound

pub returns-clause-leaves : goal.returns-clause-leaves
returns-clause-leaves c = λ n p.
    let d = changed c.tables.inside.entries.items c.args.tables.now c.args.place c.index_mut.result.now c.delete.new.table c.tables.view_is c.index_mut.ensures.value c.requires c.delete.ensures.rest c.tables.invariant (smaller_within c.tables.inside.entries.items c.args.tables.now c.args.place c.index_mut.result.now c.delete.new.table c.tables.view_is c.index_mut.ensures.value c.requires c.tables.invariant c.delete.ensures.smaller) in
    let others = spec.others_size n (now_db c.args.tables.now) in
    leaves_by (now_db c.args.tables.now) _ n (now_of c.index_mut.result.now.table) (now_of c.delete.new.table) (spec.deleted c.args.filter.now) others c.delete.result (d.table n p) refl (d.now n p) (c.delete.ensures.makes others)

pub returns-clause-rest : goal.returns-clause-rest
returns-clause-rest c = (changed c.tables.inside.entries.items c.args.tables.now c.args.place c.index_mut.result.now c.delete.new.table c.tables.view_is c.index_mut.ensures.value c.requires c.delete.ensures.rest c.tables.invariant (smaller_within c.tables.inside.entries.items c.args.tables.now c.args.place c.index_mut.result.now c.delete.new.table c.tables.view_is c.index_mut.ensures.value c.requires c.tables.invariant c.delete.ensures.smaller)).rest
