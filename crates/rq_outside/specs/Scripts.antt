-- The numbers that a script has still to give, and the calls that are to fail.
use Rattle.std.specs.Prelude.{◌≡◌, ℕ, ◌+◌, ◌-◌, ◌^◌, ◌==◌, min, Bool, List, Option, Some, None, drop, length, slice_index, nat_eq, if◌then◌else◌}
use Rattle.std.specs.List.{list_any}
use Rattle.rq_outside.specs.declared.in_memory.clock.ScriptClock.{ScriptClock}
use Rattle.rq_outside.specs.declared.in_memory.clock.SureClock.{SureClock}
use Rattle.rq_outside.specs.declared.in_memory.draws.ScriptDraws.{ScriptDraws}
use Rattle.rq_outside.specs.declared.in_memory.draws.SureDraws.{SureDraws}
use Rattle.rq_outside.specs.declared.in_memory.faults.Faults.{Faults}
use Rattle.rq_outside.specs.declared.in_memory.script.Script.{Script}

-- the numbers of a script from the next one on
abbrev pub to_come : Script → List ℕ
to_come script = drop script.given script.numbers.items

-- the moments that a clock has still to give
abbrev pub moments_of : ScriptClock → List ℕ
moments_of clock = to_come clock.moments

-- the words that draws have still to give
abbrev pub words_of : ScriptDraws → List ℕ
words_of draws = to_come draws.words

-- the calls that are to fail, by their numbers from 1
abbrev pub stated_of : ScriptDraws → List ℕ
stated_of draws = draws.faults.stated.items

-- the next call is one of those
abbrev pub strikes_next : Faults → Bool
strikes_next faults = list_any (λ (call : ℕ). nat_eq call (min (faults.calls + 1) (2 ^ 64 - 1))) faults.stated.items

-- what is shown of the first fault
abbrev pub first_fault_of : Faults → Option (Unit {0})
first_fault_of faults = if faults.count == 0 then None else Some tt

-- What a script that never ends gives next: the first number to come, past the last one that again, and 0 where there is none.
abbrev pub next_of : Script → ℕ
next_of script = slice_index script.numbers.items (min script.given (length script.numbers.items - 1))

-- one more number was given of the same ones
pub record GoesOn (old new : Script) : Type 0 where
  pub numbers : new.numbers.items ≡ old.numbers.items
  pub given : min new.given (length old.numbers.items) ≡ min (old.given + 1) (length old.numbers.items)

-- a script of these numbers, of which none was given
pub record Begins (numbers : List ℕ) (script : Script) : Type 0 where
  pub is : script.numbers.items ≡ numbers
  pub given : script.given ≡ 0
