-- What is answered from a state of the machine on.
use Rattle.std.specs.Prelude.{ℕ, ◌≡◌, ◌≤◌, ◌<◌, List, map, length, drop, Result, Ok, Err}
use Rattle.rq_grammar.specs.declared.stmt.Stmt.{Stmt}
use Rattle.rq_automaton.specs.declared.frame.State.{State}
use Rattle.rq_grammar.specs.Depth.{the_limits, Stop}
use Rattle.rq_automaton.specs.Weight.{parse_within}
use Rattle.rq_lexer.specs.declared.placed.Placed.{Placed}
use Rattle.rq_sql.specs.declared.error.ReadError.{ReadError}
use Rattle.rq_sql.specs.declared.error.ReadError.TheVariants as e
use Rattle.rq_sql.specs.declared.steps.Next.{Next}
use Rattle.rq_sql.specs.declared.steps.Next.TheVariants as n
use Rattle.rq_sql.specs.Read.{at_prefix}

-- the machine's answer over these tokens, with its place in a text of this size
abbrev pub told : ℕ → List Placed → Result Stmt (Stop × ℕ) → Result Stmt ReadError
told size ps (Ok stmt) = Ok stmt
told size ps (Err k) = Err (at_prefix size k.0 (drop k.1 ps))

-- the answer from a state on, where `opened` parentheses are open and the tokens are still to come
unfoldable pub runs : ℕ → ℕ → State → List Placed → Result Stmt ReadError
runs size opened q ps = told size ps (parse_within the_limits opened q (map (λ p. p.token) ps))

-- what a step answers, where `old` are the tokens before it and `new` those behind it
abbrev pub IsNext : ℕ → ℕ → State → List Placed → List Placed → Result Next ReadError → Type 0
IsNext size opened q old new (Ok (n.Further m z)) = (runs size opened q old ≡ runs size m z new) × (m ≤ 250) × (length new < length old)
IsNext size opened q old new (Ok (n.Whole stmt)) = runs size opened q old ≡ Ok stmt
IsNext size opened q old new (Err e.NoMemory) = Unit {0}
IsNext size opened q old new (Err error) = runs size opened q old ≡ Err error
