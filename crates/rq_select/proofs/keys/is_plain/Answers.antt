use Rattle.std.proofs.Common.{sym, subst}
use Rattle.rq_select.specs.Keys.{AlwaysPlain}
use Rattle.rq_select.proofs.Tests.{plain_column}
use Rattle.rq_select.proofs.keys.is_plain.Goals as goal

pub returns-in-Column : goal.returns-in-Column
returns-in-Column c = λ h. subst AlwaysPlain (sym c.in-Column.is) (plain_column c.in-Column.field-0)
