-- A query's parameters, as docs/API.md has it, "Parameters".
use Rattle.std.specs.Prelude.{ℕ, ◌+◌, ◌-◌, ◌*◌, List, [], ◌∷◌, Bool, ◌&&◌, Option, Some, None, is_some, is_none, option_map, if◌then◌else◌, ◌==◌, nat_lt, codes}
use Rattle.std.specs.Char.{is_ascii_digit}
use Rattle.std.specs.Str.{bytes_eq}
use Rattle.std.specs.Str.Lossy.{utf8_lossy}
use Rattle.form_urlencoded.specs.Form.{decode, raw_pairs}
use Rattle.rq_values.specs.Text.{is_text}
use Rattle.rq_route.specs.Paths.{takes_level, takes_queue}
use Rattle.rq_route.specs.declared.path.Path.{Path}
use Rattle.rq_request.specs.declared.ask.Level.{Level}
use Rattle.rq_request.specs.declared.ask.Level.TheVariants as level
use Rattle.rq_route.specs.declared.parameters.Given.{Given}
use Rattle.rq_route.specs.declared.parameters.Key.{Key}
use Rattle.rq_route.specs.declared.parameters.Key.TheVariants as key

-- the text that a name or a value stands for
abbrev pub text : List ℕ → List ℕ
text bytes = utf8_lossy (decode bytes)

-- the first value of the key
abbrev pub value_in : List ℕ → List (List ℕ × List ℕ) → Option (List ℕ)
value_in name [] = None
value_in name (p ∷ ps) = if bytes_eq (text p.0) name then Some (text p.1) else value_in name ps

unfoldable pub value_of : List ℕ → List ℕ → Option (List ℕ)
value_of name query = value_in name (raw_pairs query)

-- a flag is on where its key is there
abbrev pub is_on : List ℕ → List ℕ → Bool
is_on name query = is_some (value_of name query)

abbrev pub level_named : List ℕ → Option Level
level_named name = if bytes_eq name (codes "none") then Some level.None else (if bytes_eq name (codes "weak") then Some level.Weak else None)

-- weak, where none is named
abbrev pub level_of : Option (List ℕ) → Option Level
level_of None = Some level.Weak
level_of (Some name) = level_named name

abbrev pub unit_of : List ℕ → Option ℕ
unit_of name = if bytes_eq name (codes "ms") then Some 1 else (if bytes_eq name (codes "s") then Some 1000 else (if bytes_eq name (codes "m") then Some 60000 else None))

-- more digits, at most ten in all, and a unit
abbrev pub duration_from : ℕ → ℕ → List ℕ → Option ℕ
duration_from value count [] = None
duration_from value count (b ∷ bytes) =
    if is_ascii_digit b then (if nat_lt count 10 then duration_from (value * 10 + (b - 48)) (count + 1) bytes else None)
    else (if count == 0 then None else option_map (λ unit. value * unit) (unit_of (b ∷ bytes)))

-- milliseconds
unfoldable pub duration : List ℕ → Option ℕ
duration text = duration_from 0 0 text

-- ten seconds, where none is named
abbrev pub timeout_of : Option (List ℕ) → Option ℕ
timeout_of None = Some 10000
timeout_of (Some text) = duration text

-- the statement that a query names
abbrev pub statement_of : Option (List ℕ) → Option (List ℕ)
statement_of None = None
statement_of (Some text) = if is_text text then Some text else None

-- it names one only where the method asks for it
abbrev pub statement_if : Bool → List ℕ → Option (List ℕ)
statement_if asks query = if asks then statement_of (value_of (codes "q") query) else None

-- the first of a list of tests that is met
abbrev pub first_met : List (Bool × Key) → Option Key
first_met [] = None
first_met (t ∷ ts) = if t.0 then Some t.1 else first_met ts

-- what a query gives; the test says whether it is to name the statement
unfoldable pub given_of : Bool → List ℕ → Given
given_of asks query = record {
  level = level_of (value_of (codes "level") query);
  freshness = is_on (codes "freshness") query;
  timeout = timeout_of (value_of (codes "timeout") query);
  queue = is_on (codes "queue") query;
  wait = is_on (codes "wait") query;
  asks = asks;
  statement = statement_if asks query;
  transaction = is_on (codes "transaction") query;
  associative = is_on (codes "associative") query;
  pretty = is_on (codes "pretty") query;
}

-- the first parameter that is malformed or missing
abbrev pub first_bad : Path → Given → Option Key
first_bad path given = first_met (
    (takes_level path && is_none given.level, key.Level)
    ∷ (takes_level path && given.freshness, key.Freshness)
    ∷ (is_none given.timeout, key.Timeout)
    ∷ (takes_queue path && given.queue, key.Queue)
    ∷ (takes_queue path && given.wait, key.Wait)
    ∷ (given.asks && is_none given.statement, key.Q) ∷ [])
