use Rattle.std.proofs.Common.{length}
use Rattle.std.specs.Option.{option_copied}
use Rattle.rq_changes.proofs.Lookups.{counted_row}
use Rattle.rq_changes.proofs.table.Table.get.Goals as goal

pub returns-clause-count : goal.returns-clause-count
returns-clause-count c = counted_row (option_copied c.row.result) c.args.self.now.rows.now (length c.args.self.now.rows.columns) _ c.know_valid.ensures.counted c.row.ensures
