use Rattle.std.proofs.Common.{Ok, ap, ◌∙◌, sym, arith}
use Rattle.rq_meaning.specs.Database.{with_table, table_size}
use Rattle.rq_changes.specs.Staged.{StagedTable, now_of}
use Rattle.rq_tables.specs.Entries.{now_db}
use Rattle.rq_tables.proofs.Created.{size_empty, created_within}
use Rattle.rq_tables.proofs.creating.push_new.Goals as goal

pub push-requires-clause-within : goal.push-requires-clause-within
push-requires-clause-within c =
    let a = ap (λ (t : StagedTable). table_size (now_of t)) c.in-Ok.ensures ∙ size_empty c.args.name.now c.args.columns.now in
    omega (arith, a, c.requires.size, c.requires.within)

pub returns-in-Ok-push-clause-leaves : goal.returns-in-Ok-push-clause-leaves
returns-in-Ok-push-clause-leaves c =
    let is = c.in-Ok-push.ensures.ok ∙ ap (λ (t : StagedTable). with_table t.name (now_of t) (now_db c.args.tables.now)) c.in-Ok.ensures in
    created_within (now_db c.args.tables.now) (now_db c.push.new.self) c.args.name.now c.args.columns.now c.requires.new (omega (arith, c.requires.size, c.requires.within)) is
    ∙ ap (λ d. Ok (now_db c.push.new.self, d)) (sym c.nothing_done.ensures)
