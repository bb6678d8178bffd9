use Rattle.std.proofs.Common.{◌≡◌}
use Rattle.std.specs.List.{filter}
use Rattle.rq_meaning.specs.Lists.{is_error}
use Rattle.rq_tables.proofs.lists.errors.Given as goal

abbrev pub invariant-loop-res : goal.invariant-loop-res
invariant-loop-res l = l.all ≡ filter is_error l.yielded
