-- The definition leaves one answer.
use Rattle.std.proofs.Common.{◌≡◌, Result, Ok, Err, refl, ap}
use Rattle.rq_automaton.specs.declared.frame.State.{State}
use Rattle.rq_grammar.specs.Depth as depth
use Rattle.rq_machine.specs.declared.stop.Stop.{Stop}
use Rattle.rq_machine.specs.declared.stop.Stop.TheVariants as stop
use Rattle.rq_machine.specs.Stop.{stop_of, Answers}

one_stop : (a b : Stop) → stop_of a ≡ stop_of b → a ≡ b
one_stop stop.NoStatement stop.NoStatement h = refl
one_stop stop.NoStatement stop.TooDeep h = absurd (cc)
one_stop stop.TooDeep stop.NoStatement h = absurd (cc)
one_stop stop.TooDeep stop.TooDeep h = refl

pub one_answer : (is : Result State depth.Stop) (r r' : Result State Stop) → Answers is r → Answers is r' → r ≡ r'
one_answer is (Ok q) (Ok q') h k = cc
one_answer is (Ok q) (Err s) h k = absurd (cc)
one_answer is (Err s) (Ok q) h k = absurd (cc)
one_answer is (Err s) (Err s') h k = let e : stop_of s ≡ stop_of s' = cc in ap Err (one_stop s s' e)
