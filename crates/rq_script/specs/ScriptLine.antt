-- The lines of a script, as docs/SCRIPT.md, "Lines", has them.
use Rattle.std.specs.Prelude.{if◌then◌else◌, ◌+◌, ◌-◌, ◌*◌, ◌^◌, ◌==◌, ◌&&◌, min, nat_le, ℕ, Bool, false, List, [], ◌∷◌, length, take, drop, position, bytes_eq, codes, Option, Some, None, option_and_then}
use Rattle.std.specs.List.{list_all}
use Rattle.rq_values.specs.Text.{is_id}

-- what is done at one server
pub data Action : Type 0 where
  Elect : Action
  Apply : Action
  Execute : (body : List ℕ) → Action
  Query : (body : List ℕ) → Action
  Stop : Action  -- at once
  StopWithin : (calls pick : ℕ) → Action  -- in the event that needs more than so many changing calls
  Start : Action
  Show : Action

pub data Line : Type 0 where
  Skip : Line  -- an empty line, or a comment
  Cluster : (id : List ℕ) → Line
  At : (id : List ℕ) (action : Action) → Line  -- at the server of this id

-- what stands behind this prefix, if the bytes begin with it
abbrev pub behind : List ℕ → List ℕ → Option (List ℕ)
behind prefix bytes = if bytes_eq (take (length prefix) bytes) prefix then Some (drop (length prefix) bytes) else None

-- a line with what is behind its first words, or another one where it has other words
abbrev pub or_other : Option (List ℕ) → (List ℕ → Option Line) → Option Line → Option Line
or_other (Some rest) line other = line rest
or_other None line other = other

-- the line of an id that is all that is left
abbrev pub of_id : (List ℕ → Line) → List ℕ → Option Line
of_id line id = if is_id id then Some (line id) else None

-- and where an action is done at the server of that id
abbrev pub of_action : Action → List ℕ → Option Line
of_action action = of_id (λ id. At id action)

-- method and target with their body
abbrev pub request_of : List ℕ → List ℕ → Option Line
request_of id rest =
    or_other (behind (codes " POST /db/execute ") rest) (λ body. Some (At id (Execute body)))
    (or_other (behind (codes " POST /db/query?level=none ") rest) (λ body. Some (At id (Query body))) None)

-- an ask: its id goes up to the first blank
abbrev pub ask_of : List ℕ → Option Line
ask_of rest = option_and_then (λ k. if is_id (take k rest) then request_of (take k rest) (drop k rest) else None) (position (λ byte. byte == 32) rest)

abbrev pub is_digit : ℕ → Bool
is_digit byte = nat_le 48 byte && nat_le byte 57

-- the number that decimal digits spell behind those that spell this one
abbrev pub value_behind : ℕ → List ℕ → ℕ
value_behind value [] = value
value_behind value (digit ∷ digits) = value_behind (10 * value + (digit - 48)) digits

-- digits without a leading zero
abbrev pub is_number : List ℕ → Bool
is_number [] = false
is_number (digit ∷ []) = is_digit digit
is_number (digit ∷ next ∷ digits) = list_all is_digit (digit ∷ next ∷ digits) && nat_le 49 digit

-- A number of calls. One of 2 ^ 64 - 1 or more is taken as 2 ^ 64 - 1, which no script reaches.
abbrev pub calls_of : List ℕ → Option ℕ
calls_of digits = if is_number digits then Some (min (value_behind 0 digits) (2 ^ 64 - 1)) else None

-- 0 to 3
abbrev pub pick_of : List ℕ → Option ℕ
pick_of (digit ∷ []) = if nat_le 48 digit && nat_le digit 51 then Some (digit - 48) else None
pick_of digits = None

-- what stands before the first blank, and what behind it
abbrev pub cut_at_blank : {A : Type 0} → List ℕ → Option A → (List ℕ → List ℕ → Option A) → Option A
cut_at_blank {A} bytes whole parts = by (position (λ byte. byte == 32) bytes)
  where
    by : Option ℕ → Option A
    by None = whole
    by (Some k) = parts (take k bytes) (drop (k + 1) bytes)

-- K and P of `stop ID K P`
abbrev pub stop_within_of : List ℕ → List ℕ → Option Line
stop_within_of id rest =
    cut_at_blank rest None (λ digits pick. option_and_then (λ calls. option_and_then (λ p. Some (At id (StopWithin calls p))) (pick_of pick)) (calls_of digits))

abbrev pub stop_of : List ℕ → Option Line
stop_of rest = cut_at_blank rest (of_action Stop rest) (λ id more. if is_id id then stop_within_of id more else None)

abbrev pub command_of : List ℕ → Option Line
command_of bytes =
    or_other (behind (codes "cluster ") bytes) (of_id Cluster)
    (or_other (behind (codes "elect ") bytes) (of_action Elect)
    (or_other (behind (codes "apply ") bytes) (of_action Apply)
    (or_other (behind (codes "ask ") bytes) ask_of
    (or_other (behind (codes "stop ") bytes) stop_of
    (or_other (behind (codes "start ") bytes) (of_action Start)
    (or_other (behind (codes "show ") bytes) (of_action Show) None))))))

-- the line that the bytes spell, if they spell one
abbrev pub line_of : List ℕ → Option Line
line_of [] = Some Skip
line_of (byte ∷ bytes) = if byte == 35 then Some Skip else command_of (byte ∷ bytes)
