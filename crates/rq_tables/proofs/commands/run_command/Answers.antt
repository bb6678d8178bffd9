use Rattle.std.proofs.Common.{ap, sym, ◌∙◌}
use Rattle.rq_statement.specs.declared.command.Command.TheVariants as command
use Rattle.rq_engine.specs.Fold as fold
use Rattle.rq_tables.specs.Entries.{now_db}
use Rattle.rq_tables.specs.Commands as spec
use Rattle.rq_tables.proofs.Outcomes.{of_command, runs_nothing, runs_execute, runs_request, runs_query, runs_load, runs_batch, runs_config, runs_once, runs_stale}
use Rattle.rq_tables.proofs.commands.run_command.Goals as goal

pub returns-in-NoOp-clause-means : goal.returns-in-NoOp-clause-means
returns-in-NoOp-clause-means c =
    ap (fold.run (spec.state (now_db c.args.tables.now) c.args.marks.now.entries c.args.ids.now.keys)) c.in-NoOp.is ∙ runs_nothing (now_db c.args.tables.now) c.args.marks.now.entries c.args.ids.now.keys

pub returns-in-Config-clause-means : goal.returns-in-Config-clause-means
returns-in-Config-clause-means c =
    of_command (now_db c.args.tables.now) (now_db c.args.tables.now) c.args.marks.now.entries c.args.ids.now.keys c.args.command.now _ c.config.result (c.in-Config.is ∙ ap command.Config (sym c.as_slice.ensures))
    (runs_config (now_db c.args.tables.now) c.args.marks.now.entries c.args.ids.now.keys c.as_slice.result.now c.config.result c.config.ensures)

pub returns-in-Execute-clause-means : goal.returns-in-Execute-clause-means
returns-in-Execute-clause-means c =
    of_command (now_db c.args.tables.now) (now_db c.list_outcome.new.tables) c.args.marks.now.entries c.args.ids.now.keys c.args.command.now _ c.alone.result c.in-Execute.is
    (runs_execute (now_db c.args.tables.now) (now_db c.list_outcome.new.tables) c.args.marks.now.entries c.args.ids.now.keys c.in-Execute.list c.list_outcome.result c.alone.result c.alone.ensures c.list_outcome.ensures.means)

pub returns-in-Request-clause-means : goal.returns-in-Request-clause-means
returns-in-Request-clause-means c =
    of_command (now_db c.args.tables.now) (now_db c.list_outcome-in-Request.new.tables) c.args.marks.now.entries c.args.ids.now.keys c.args.command.now _ c.alone-in-Request.result c.in-Request.is
    (runs_request (now_db c.args.tables.now) (now_db c.list_outcome-in-Request.new.tables) c.args.marks.now.entries c.args.ids.now.keys c.in-Request.list c.list_outcome-in-Request.result c.alone-in-Request.result c.alone-in-Request.ensures c.list_outcome-in-Request.ensures.means)

pub returns-in-StrongQuery-clause-means : goal.returns-in-StrongQuery-clause-means
returns-in-StrongQuery-clause-means c =
    of_command (now_db c.args.tables.now) (now_db c.args.tables.now) c.args.marks.now.entries c.args.ids.now.keys c.args.command.now _ c.alone-in-StrongQuery.result (c.in-StrongQuery.is ∙ ap command.StrongQuery (sym c.as_slice-in-StrongQuery.ensures))
    (runs_query (now_db c.args.tables.now) c.args.marks.now.entries c.args.ids.now.keys c.as_slice-in-StrongQuery.result.now c.query_outcome.result c.alone-in-StrongQuery.result c.alone-in-StrongQuery.ensures c.query_outcome.ensures)

pub returns-in-Load-clause-means : goal.returns-in-Load-clause-means
returns-in-Load-clause-means c =
    of_command (now_db c.args.tables.now) (now_db c.load_outcome.new.tables) c.args.marks.now.entries c.args.ids.now.keys c.args.command.now _ c.alone-in-Load.result (c.in-Load.is ∙ ap command.Load (sym c.as_slice-in-Load.ensures))
    (runs_load (now_db c.args.tables.now) (now_db c.load_outcome.new.tables) c.args.marks.now.entries c.args.ids.now.keys c.as_slice-in-Load.result.now c.load_outcome.result c.alone-in-Load.result c.alone-in-Load.ensures c.load_outcome.ensures.means)

pub returns-in-Batch-clause-means : goal.returns-in-Batch-clause-means
returns-in-Batch-clause-means c =
    of_command (now_db c.args.tables.now) (now_db c.batch_outcome.new.tables) c.args.marks.now.entries c.args.ids.now.keys c.args.command.now _ c.alone-in-Batch.result (c.in-Batch.is ∙ ap command.Batch (sym c.as_slice-in-Batch.ensures))
    (runs_batch (now_db c.args.tables.now) (now_db c.batch_outcome.new.tables) c.args.marks.now.entries c.args.ids.now.keys c.as_slice-in-Batch.result.now c.batch_outcome.result c.alone-in-Batch.result c.alone-in-Batch.ensures c.batch_outcome.ensures.means)

pub returns-then-is_newer-clause-means : goal.returns-then-is_newer-clause-means
returns-then-is_newer-clause-means c =
    of_command (now_db c.args.tables.now) (now_db c.run_once.new.tables) c.args.marks.now.entries c.args.ids.now.keys c.args.command.now _ c.run_once.result c.in-Once.is
    (runs_once (now_db c.args.tables.now) (now_db c.run_once.new.tables) c.args.marks.now.entries c.args.ids.now.keys c.in-Once.id c.in-Once.boot c.in-Once.number c.in-Once.list c.run_once.result
    (ap (λ o. fold.is_newer o c.in-Once.boot c.in-Once.number) (sym c.mark_of.ensures) ∙ sym c.is_newer.ensures ∙ c.if-is_newer.true) c.run_once.ensures.means)

pub returns-else-is_newer-clause-means : goal.returns-else-is_newer-clause-means
returns-else-is_newer-clause-means c =
    ap (fold.run (spec.state (now_db c.args.tables.now) c.args.marks.now.entries c.args.ids.now.keys)) c.in-Once.is
    ∙ runs_stale (now_db c.args.tables.now) c.args.marks.now.entries c.args.ids.now.keys c.in-Once.id c.in-Once.boot c.in-Once.number c.in-Once.list
    (ap (λ o. fold.is_newer o c.in-Once.boot c.in-Once.number) (sym c.mark_of.ensures) ∙ sym c.is_newer.ensures ∙ c.if-is_newer.false)
