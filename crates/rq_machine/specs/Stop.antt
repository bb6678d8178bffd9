-- Why the machine stops, in code and in the grammar's words.
use Rattle.std.specs.Prelude.{ℕ, ◌≡◌, Result, Ok, Err, MatchResult}
use Rattle.rq_grammar.specs.declared.token.Token.{Token}
use Rattle.rq_automaton.specs.declared.frame.State.{State}
use Rattle.rq_grammar.specs.Depth as depth
use Rattle.rq_grammar.specs.Depth.{the_limits, open_behind}
use Rattle.rq_automaton.specs.Machine.{step}
use Rattle.rq_automaton.specs.Weight.{limited}
use Rattle.rq_machine.specs.declared.stop.Stop.{Stop}
use Rattle.rq_machine.specs.declared.stop.Stop.TheVariants as stop

abbrev pub stop_of : Stop → depth.Stop
stop_of stop.NoStatement = depth.NoStatement
stop_of stop.TooDeep = depth.TooDeep

-- the answer is what the definition says, in code's words
abbrev pub Answers : Result State depth.Stop → Result State Stop → Type 0
Answers is r = MatchResult r (λ q. is ≡ Ok q) (λ stop. is ≡ Err (stop_of stop))

-- the answer behind a token, where so many parentheses are open before it
abbrev pub Advances : ℕ → State → Token → Result State Stop → Type 0
Advances opened q u r = Answers (limited the_limits (open_behind opened u) (step q u)) r
