-- Runs of the lines of a script, and the first line outside, as docs/SCRIPT.md has them, "Lines".
use Rattle.std.specs.Prelude.{◌≡◌, ◌⊎◌, ◌+◌, ℕ, List, [], ◌∷◌, ◌++◌, length}
use Rattle.rq_script.specs.Cluster.{Cluster, first_cluster, Steps, IsOutside, IsStarted}
use Rattle.rq_script.specs.Lines.{Line, IsOver, IsWithin}

-- the lines, one after the other, may write this text and lead from the first cluster to that one
pub data Runs : List Line → List ℕ → Cluster → Type 0 where
  start : Runs [] [] first_cluster
  line : {lines : List Line} {text : List ℕ} {c : Cluster} (l : Line) (more : List ℕ) (next : Cluster)
      → Runs lines text c → IsWithin l → Steps c l.text more next → Runs (lines ++ l ∷ []) (text ++ more) next

-- the first line outside has this number, and the lines before it ran, wrote this text and led to this cluster
pub data StopsAt (all : List Line) : ℕ → List ℕ → Cluster → Type 0 where
  at_line : (lines : List Line) (l : Line) (more : List Line) (text : List ℕ) (c : Cluster)
      → all ≡ lines ++ l ∷ more → Runs lines text c → IsOver l ⊎ IsOutside c l.text → StopsAt all (length lines + 1) text c
  -- a cluster line that is missing is charged to the line after the last
  at_end : (text : List ℕ) (c : Cluster) → Runs all text c → (IsStarted c → ⊥) → StopsAt all (length all + 1) text c
