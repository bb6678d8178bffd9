use Rattle.std.proofs.Common.{sym, ◌∙◌}
use Rattle.std.proofs.lemmas.Option.{slice_get_within}
use Rattle.rq_changes.specs.Staged.{now_of}
use Rattle.rq_changes.proofs.Lookups.{shows_at}
use Rattle.rq_changes.proofs.table.Table.row_in.Goals as goal

pub row_by_rowid-requires : goal.row_by_rowid-requires
row_by_rowid-requires c = shows_at (now_of c.args.self.now) c.args.place (c.know_valid.ensures.keyed c.args.place c.args.column.now c.requires (sym c.is_rowid.ensures ∙ c.if-is_rowid.true))

pub row_with-requires-clause-within : goal.row_with-requires-clause-within
row_with-requires-clause-within c = slice_get_within c.args.self.now.rows.columns c.args.place c.args.column.now c.requires
