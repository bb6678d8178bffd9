-- The lines of a script, and their limits, as docs/SCRIPT.md has them, "Lines".
use Rattle.std.specs.Prelude.{if◌then◌else◌, ◌<◌, ◌≤◌, ◌⊎◌, ◌+◌, ℕ, List, [], ◌∷◌, ◌++◌, length, nat_eq}
use Rattle.rq_values.specs.declared.limits.TheConstants.{MAX_LINE, MAX_SCRIPT}

-- a line without its end, and the number of bytes of the script up to its end
pub record Line : Type 0 where
  pub text : List ℕ
  pub upto : ℕ

-- without a CR at the end
abbrev pub drop_cr : List ℕ → List ℕ
drop_cr [] = []
drop_cr (byte ∷ []) = if nat_eq byte 13 then [] else byte ∷ []
drop_cr (byte ∷ next ∷ bytes) = byte ∷ drop_cr (next ∷ bytes)

-- the lines of these bytes, where so many bytes came before them, of which `held` stand on the first line;
-- `last` says what comes of bytes with no LF behind them
unfoldable pub lines_by : (ℕ → List ℕ → List Line) → ℕ → List ℕ → List ℕ → List Line
lines_by last at held [] = last at held
lines_by last at held (byte ∷ bytes) =
    if nat_eq byte 10 then record { text = drop_cr held; upto = at + 1 } ∷ lines_by last (at + 1) [] bytes
    else lines_by last (at + 1) (held ++ byte ∷ []) bytes

-- bytes with no LF behind them are a line, if there are any
abbrev pub last_line : ℕ → List ℕ → List Line
last_line at [] = []
last_line at (byte ∷ bytes) = record { text = byte ∷ bytes; upto = at } ∷ []

-- ended by LF, a CR before it dropped, the last LF optional
abbrev pub lines_of : List ℕ → List Line
lines_of bytes = lines_by last_line 0 [] bytes

-- those that have their LF
abbrev pub whole_lines : List ℕ → List Line
whole_lines bytes = lines_by (λ _ _. []) 0 [] bytes

-- longer than a line may be, or ends behind the longest script
abbrev pub IsOver : Line → Type 0
IsOver line = (MAX_LINE < length line.text) ⊎ (MAX_SCRIPT < line.upto)

-- within both limits
pub record IsWithin (line : Line) : Type 0 where
  pub line_fits : length line.text ≤ MAX_LINE
  pub script_fits : line.upto ≤ MAX_SCRIPT
