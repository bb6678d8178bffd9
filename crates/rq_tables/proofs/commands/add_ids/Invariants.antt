use Rattle.std.proofs.Common.{◌≡◌, drop}
use Rattle.rq_engine.specs.Fold as spec
use Rattle.rq_tables.proofs.commands.add_ids.Given as goal

abbrev pub invariant-loop-id : goal.invariant-loop-id
invariant-loop-id l = spec.with_ids l.known.keys (drop l.id-index l.ids) ≡ spec.with_ids l.fn.known.keys l.ids
