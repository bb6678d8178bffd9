use Rattle.std.proofs.Common.{◌≡◌, ◌++◌, length}
use Rattle.std.specs.Prelude.{IsTrue}
use Rattle.rq_binding.proofs.drawing.draw.Given as goal

-- the words so far are those that are no longer to come
abbrev pub invariant-loop-turn : goal.invariant-loop-turn
invariant-loop-turn g l = (length l.words ≡ l._turn) × (IsTrue g.R.Draws.told → g.R.Draws.words l.fn.draws ≡ l.words ++ g.R.Draws.words l.draws) × (g.R.Draws.faults l.draws ≡ g.R.Draws.faults l.fn.draws)
