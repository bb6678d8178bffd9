-- The line that bytes spell: docs/SCRIPT.md, "Lines".
use Rattle.std.specs.Prelude.{if◌then◌else◌, ◌+◌, ◌-◌, ◌*◌, ◌^◌, ◌==◌, ◌&&◌, min, nat_le, ℕ, Bool, true, false, List, [], ◌∷◌, ◌++◌, length, take, drop, position, bytes_eq, codes, Option, Some, None, option_and_then}
use Rattle.std.specs.List.{list_all}
use Rattle.rq_values.specs.Text.{is_id}
use Rattle.rq_play.specs.Line.{Action, Elect, Beat, Flush, Apply, Compact, Ask, Stop, StopWithin, Start, Cut, Heal, Show, Line, Skip, Cluster, At, Deliver, Run, Clock}
use Rattle.rq_lines.specs.declared.form.Form.{Form}
use Rattle.rq_lines.specs.declared.form.Form.TheVariants as form

-- ---- words

-- what stands before the first blank, and what behind it; or all of it, where there is none
abbrev pub cut_at_blank : {A : Type 0} → List ℕ → (List ℕ → A) → (List ℕ → List ℕ → A) → A
cut_at_blank {A} bytes whole parts = by (position (λ byte. byte == 32) bytes)
  where
    by : Option ℕ → A
    by None = whole bytes
    by (Some k) = parts (take k bytes) (drop (k + 1) bytes)

-- the words of bytes, of the first of which these are read, with one blank between two
abbrev pub words_behind : List ℕ → List ℕ → List (List ℕ)
words_behind held [] = held ∷ []
words_behind held (byte ∷ bytes) = if byte == 32 then held ∷ words_behind [] bytes else words_behind (held ++ byte ∷ []) bytes

abbrev pub words_of : List ℕ → List (List ℕ)
words_of bytes = words_behind [] bytes

abbrev pub is_word : List ℕ → Bool
is_word [] = false
is_word (byte ∷ bytes) = true

-- ---- numbers

abbrev pub is_digit : ℕ → Bool
is_digit byte = nat_le 48 byte && nat_le byte 57

-- the number that decimal digits spell behind those that spell this one
abbrev pub value_behind : ℕ → List ℕ → ℕ
value_behind value [] = value
value_behind value (digit ∷ digits) = value_behind (10 * value + (digit - 48)) digits

-- digits without a leading zero
abbrev pub is_number : List ℕ → Bool
is_number [] = false
is_number (digit ∷ []) = is_digit digit
is_number (digit ∷ next ∷ digits) = list_all is_digit (digit ∷ next ∷ digits) && nat_le 49 digit

-- One of 2 ^ 64 - 1 or more is taken as 2 ^ 64 - 1, which no script reaches.
abbrev pub number_of : List ℕ → Option ℕ
number_of digits = if is_number digits then Some (min (value_behind 0 digits) (2 ^ 64 - 1)) else None

-- 0 to 3
abbrev pub pick_of : List ℕ → Option ℕ
pick_of (digit ∷ []) = if nat_le 48 digit && nat_le digit 51 then Some (digit - 48) else None
pick_of digits = None

-- ---- what stands behind a line's first word and its blank

-- an id that is all that is left
abbrev pub of_action : Action → List ℕ → Option Line
of_action action id = if is_id id then Some (At id action) else None

abbrev pub cluster_of : List ℕ → Option Line
cluster_of rest = if list_all is_id (words_of rest) then Some (Cluster (words_of rest)) else None

-- the target and, behind a blank, the body, which is empty where there is none
abbrev pub target_of : List ℕ → List ℕ → List ℕ → List ℕ → Option Line
target_of id method target body = if is_word target then Some (At id (Ask method target body)) else None

abbrev pub request_of : List ℕ → List ℕ → List ℕ → Option Line
request_of id method rest = if is_word method then cut_at_blank rest (λ target. target_of id method target []) (λ target body. target_of id method target body) else None

abbrev pub behind_id : List ℕ → List ℕ → Option Line
behind_id id rest = cut_at_blank rest (λ method. None) (λ method more. request_of id method more)

abbrev pub ask_of : List ℕ → Option Line
ask_of rest = cut_at_blank rest (λ id. None) (λ id more. if is_id id then behind_id id more else None)

-- K and P of `stop ID K P`
abbrev pub armed_of : List ℕ → List ℕ → List ℕ → Option Line
armed_of id digits pick = option_and_then (λ calls. option_and_then (λ p. Some (At id (StopWithin calls p))) (pick_of pick)) (number_of digits)

abbrev pub within_of : List ℕ → List ℕ → Option Line
within_of id rest = cut_at_blank rest (λ digits. None) (λ digits pick. armed_of id digits pick)

abbrev pub stop_of : List ℕ → Option Line
stop_of rest = cut_at_blank rest (λ id. of_action Stop id) (λ id more. if is_id id then within_of id more else None)

abbrev pub deliver_of : List ℕ → Option Line
deliver_of rest = option_and_then (λ number. Some (Deliver number)) (number_of rest)

-- at most so often
abbrev pub most_times : ℕ
most_times = 100000

abbrev pub times_of : ℕ → Option Line
times_of times = if nat_le times most_times then Some (Run times) else None

abbrev pub run_of : List ℕ → Option Line
run_of rest = option_and_then times_of (number_of rest)

-- a moment has at most so many digits
abbrev pub most_digits : ℕ
most_digits = 15

abbrev pub clock_of : List ℕ → Option Line
clock_of rest = if nat_le (length rest) most_digits then option_and_then (λ moment. Some (Clock moment)) (number_of rest) else None

-- ---- lines

abbrev pub form_of : List ℕ → Option Form
form_of word =
    if bytes_eq word (codes "cluster") then Some form.Cluster
    else if bytes_eq word (codes "elect") then Some form.Elect
    else if bytes_eq word (codes "beat") then Some form.Beat
    else if bytes_eq word (codes "flush") then Some form.Flush
    else if bytes_eq word (codes "apply") then Some form.Apply
    else if bytes_eq word (codes "compact") then Some form.Compact
    else if bytes_eq word (codes "ask") then Some form.Ask
    else if bytes_eq word (codes "stop") then Some form.Stop
    else if bytes_eq word (codes "start") then Some form.Start
    else if bytes_eq word (codes "cut") then Some form.Cut
    else if bytes_eq word (codes "heal") then Some form.Heal
    else if bytes_eq word (codes "show") then Some form.Show
    else if bytes_eq word (codes "deliver") then Some form.Deliver
    else if bytes_eq word (codes "run") then Some form.Run
    else if bytes_eq word (codes "clock") then Some form.Clock
    else None

abbrev pub of_form : Form → List ℕ → Option Line
of_form form.Cluster rest = cluster_of rest
of_form form.Elect rest = of_action Elect rest
of_form form.Beat rest = of_action Beat rest
of_form form.Flush rest = of_action Flush rest
of_form form.Apply rest = of_action Apply rest
of_form form.Compact rest = of_action Compact rest
of_form form.Ask rest = ask_of rest
of_form form.Stop rest = stop_of rest
of_form form.Start rest = of_action Start rest
of_form form.Cut rest = of_action Cut rest
of_form form.Heal rest = of_action Heal rest
of_form form.Show rest = of_action Show rest
of_form form.Deliver rest = deliver_of rest
of_form form.Run rest = run_of rest
of_form form.Clock rest = clock_of rest

abbrev pub of_word : List ℕ → List ℕ → Option Line
of_word word rest = option_and_then (λ form. of_form form rest) (form_of word)

-- the line that the bytes spell, if they spell one
abbrev pub line_of : List ℕ → Option Line
line_of [] = Some Skip
line_of (byte ∷ bytes) = if byte == 35 then Some Skip else cut_at_blank (byte ∷ bytes) (λ word. None) of_word
