use Rattle.std.proofs.Common.{◌≡◌, ◌-◌, ℕ, List}
use Rattle.rq_values.specs.Reading.{many_at}
use Rattle.rq_statement.specs.declared.item.Item.{Item}
use Rattle.rq_command.specs.Reading.{IsPreparing}
use Rattle.rq_command.specs.Commands.{statements_at}
use Rattle.rq_command.proofs.Loop.{with_prefix}
use Rattle.rq_command.proofs.commands.next_lists.Given as goal

abbrev pub invariant-loop : goal.invariant-loop
invariant-loop l = (item_of : List ℕ → Item) → IsPreparing item_of → with_prefix l.lists (many_at (statements_at item_of l.limit) (l.count - l.counter) l.rest) ≡ many_at (statements_at item_of l.limit) l.count l.bytes
