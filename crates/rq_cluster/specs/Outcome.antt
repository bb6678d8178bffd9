-- What is written with each status, and what the files keep, as docs/SCRIPT.md has it, "The end".
use Rattle.std.specs.Prelude.{◌≡◌, ◌⊎◌, ℕ, List, ◌∷◌, ◌++◌, Bool, IsTrue, ⊤}
use Rattle.rq_script.specs.Cluster.{Cluster, Steps, MayReach, IsStarted, ending}
use Rattle.rq_script.specs.Lines.{Line, IsWithin, lines_of, whole_lines}
use Rattle.rq_script.specs.Runs.{Runs, StopsAt}
use Rattle.rq_cluster.specs.LastLines.{stopped_line, read_fault, IsPrefix}

-- how a script ends with each status, where a source with these bytes left has those left at the end, and has failed or not:
-- the text of its lines, and what is written behind it. `Stays` holds of the cluster that the files keep: the last one
pub data Ends (bytes left : List ℕ) (Failed : Type 0) (Stays : Cluster → Type 0) : ℕ → List ℕ → List ℕ → Type 0 where
  done : (text : List ℕ) (c : Cluster) → Runs (lines_of bytes) text c → IsStarted c → Stays c → Ends bytes left Failed Stays 0 text (ending c)
  outside : (n : ℕ) (text : List ℕ) (c : Cluster) → StopsAt (lines_of bytes) n text c → Stays c → Ends bytes left Failed Stays 3 text (stopped_line n)
  -- all lines that were read whole before the fault are done
  fault : (read text : List ℕ) (c : Cluster)
      → Failed → bytes ≡ read ++ left → Runs (whole_lines read) text c → Stays c → Ends bytes left Failed Stays 4 text read_fault

-- a prefix of what is written with some status
abbrev pub CutShort : List ℕ → List ℕ → Type 0 → List ℕ → Type 0
CutShort bytes left Failed out = (status : ℕ) × (text last : List ℕ) × Ends bytes left Failed (λ _. ⊤) status text last × IsPrefix out (text ++ last)

-- how far the lines have come where a script is broken off after this text: the files keep the cluster after the lines done,
-- or one of the line in hand
pub data BrokenOff (all : List Line) (Stays : Cluster → Type 0) : List ℕ → Type 0 where
  -- before a line
  before : (lines more : List Line) (text : List ℕ) (c : Cluster) → all ≡ lines ++ more → Runs lines text c → Stays c → BrokenOff all Stays text
  -- in the events of a line
  within : (lines : List Line) (l : Line) (more : List Line) (text : List ℕ) (c reached : Cluster)
      → all ≡ lines ++ l ∷ more → Runs lines text c → IsWithin l → MayReach c l.text reached → Stays reached → BrokenOff all Stays text
  -- in the text of a line
  writing : (lines : List Line) (l : Line) (more : List Line) (text : List ℕ) (c : Cluster) (prefix said : List ℕ) (next : Cluster)
      → all ≡ lines ++ l ∷ more → Runs lines text c → IsWithin l → Steps c l.text said next → IsPrefix prefix said → Stays next → BrokenOff all Stays (text ++ prefix)

-- and with the end of a script
pub data Reached (bytes left : List ℕ) (Failed : Type 0) (Stays : Cluster → Type 0) : List ℕ → Type 0 where
  in_lines : (out : List ℕ) → BrokenOff (lines_of bytes) Stays out → Reached bytes left Failed Stays out
  in_last : (status : ℕ) (text last prefix : List ℕ) → Ends bytes left Failed Stays status text last → IsPrefix prefix last → Reached bytes left Failed Stays (text ++ prefix)

-- what is written with each status, and what the files keep: all of it, or a prefix of it where the sink failed or memory ran out
pub data Wrote (bytes left : List ℕ) (Failed : Type 0) (Stays : Cluster → Type 0) : ℕ → List ℕ → Type 0 where
  all : (status : ℕ) (text last : List ℕ) → Ends bytes left Failed Stays status text last → Wrote bytes left Failed Stays status (text ++ last)
  sink : (out : List ℕ) → CutShort bytes left Failed out → Reached bytes left Failed Stays out → Wrote bytes left Failed Stays 5 out
  memory : (out : List ℕ) → CutShort bytes left Failed out → Reached bytes left Failed Stays out → Wrote bytes left Failed Stays 6 out

-- P holds of what a sink took, and it is what came to the bytes taken, where the sink tells them
abbrev pub Took : Bool → List ℕ → List ℕ → (List ℕ → Type 0) → Type 0
Took told old new P = (out : List ℕ) × (IsTrue told → new ≡ old ++ out) × P out

-- the statuses
abbrev pub IsStatus : ℕ → Type 0
IsStatus n = (n ≡ 0) ⊎ (n ≡ 2) ⊎ (n ≡ 3) ⊎ (n ≡ 4) ⊎ (n ≡ 5) ⊎ (n ≡ 6)
