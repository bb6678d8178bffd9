-- The last lines, as docs/SCRIPT.md has them, "The end".
use Rattle.std.specs.Prelude.{◌≡◌, ℕ, List, ◌++◌, codes}
use Rattle.std.specs.Fmt.{decimal}

-- line n is the first outside the grammar
abbrev pub stopped_line : ℕ → List ℕ
stopped_line n = codes "stopped: line " ++ (decimal n ++ codes "\n")

-- word n of the command line is the first wrong or missing one
abbrev pub stopped_word : ℕ → List ℕ → List ℕ
stopped_word n word = codes "stopped: word " ++ (decimal n ++ (codes ": " ++ (word ++ codes "\n")))

-- the source failed
abbrev pub read_fault : List ℕ
read_fault = codes "stopped: read fault\n"

abbrev pub IsPrefix : List ℕ → List ℕ → Type 0
IsPrefix prefix whole = (rest : List ℕ) × (prefix ++ rest ≡ whole)

-- a last line, whole with this status, or a prefix of it where the sink failed or memory ran out
pub data LastLine (status : ℕ) (line : List ℕ) : ℕ → List ℕ → Type 0 where
  whole : LastLine status line status line
  sink : (out : List ℕ) → IsPrefix out line → LastLine status line 5 out
  memory : (out : List ℕ) → IsPrefix out line → LastLine status line 6 out
