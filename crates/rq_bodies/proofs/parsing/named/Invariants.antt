use Rattle.std.proofs.Common.{◌≡◌, ◌+◌, length}
use Rattle.serde_json.specs.View.{members_view}
use Rattle.rq_bodies.specs.Body.{named_from, result_append}
use Rattle.rq_bodies.proofs.parsing.named.Given as goal

abbrev pub invariant-loop-name : goal.invariant-loop-name
invariant-loop-name l =
    named_from l.fn.number 1 (members_view l.fn.members.entries) ≡ result_append l.found.items (named_from l.fn.number (length l.found.items + 1) (members_view l.name-iterator))
