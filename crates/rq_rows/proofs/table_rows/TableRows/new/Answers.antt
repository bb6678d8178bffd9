use Rattle.std.proofs.Common.{arith}
use Rattle.rq_rows.proofs.Steps.{fresh, seen_none}
use Rattle.rq_rows.proofs.table_rows.TableRows.new.Goals as goal

pub invariant_of-result : goal.invariant_of-result
invariant_of-result c = (
  omega arith,
  fresh c.args.columns c.in-Ok.holders.items c.new.result.entries c.new-in-Ok.result.items
      (omega (arith, c.in-Ok.holders.ok, c.in-Ok.ensures, c.len.ensures)) c.new.ensures.empty c.new-in-Ok.ensures.items,
)

pub returns-in-Ok : goal.returns-in-Ok
returns-in-Ok c = seen_none c.args.columns c.new.result.entries c.new-in-Ok.result.items c.new.ensures.empty c.new-in-Ok.ensures.items
