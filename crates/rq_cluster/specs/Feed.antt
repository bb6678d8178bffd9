-- What a piece of a script does.
use Rattle.std.specs.Prelude.{◌≡◌, ◌≢◌, ◌<◌, ◌≤◌, ◌+◌, ℕ, List, [], ◌++◌, length, slice_index, Bool}
use Rattle.rq_outside.specs.declared.pair.DiskPair.{DiskPair}
use Rattle.rq_outside.specs.Disk.{DiskMeaning}
use Rattle.rq_script.specs.Cluster.{Cluster, Steps, MayReach}
use Rattle.rq_script.specs.Lines.{Line, lines_by, lines_of}
use Rattle.rq_script.specs.Runs.{Runs, StopsAt}
use Rattle.rq_cluster.specs.declared.progress.Progress.{Progress}
use Rattle.rq_cluster.specs.LastLines.{IsPrefix}
use Rattle.rq_cluster.specs.Outcome.{Took}
use Rattle.rq_cluster.specs.Refines.{Refines}

-- after these bytes: the lines so far have run and written this text, and `held` stand on the line to come, which has this number
pub record After (read text : List ℕ) (c : Cluster) (number : ℕ) (held : List ℕ) (count : ℕ) : Type 0 where
  pub lines : List Line
  pub runs : Runs lines text c
  pub number_is : number ≡ length lines + 1
  pub count_is : count ≡ length read
  -- whatever follows
  pub cut : (last : ℕ → List ℕ → List Line) (rest : List ℕ) → lines_by last 0 [] (read ++ rest) ≡ lines ++ lines_by last count held rest

-- the first line outside has this number, and the files keep the cluster before it
abbrev pub StopsKept : (Cluster → Type 0) → ℕ → List Line → List ℕ → Type 0
StopsKept Stays number all text = (c : Cluster) × StopsAt all number text c × Stays c

-- a line is broken off after this text of it, and the files keep a cluster of it
pub data PartOf (Stays : Cluster → Type 0) (c : Cluster) (line : List ℕ) : List ℕ → Type 0 where
  none : Stays c → PartOf Stays c line []
  within : (reached : Cluster) → length line ≤ 2097152 → MayReach c line reached → Stays reached → PartOf Stays c line []
  writing : (prefix said : List ℕ) (next : Cluster) → length line ≤ 2097152 → Steps c line said next → IsPrefix prefix said → Stays next → PartOf Stays c line prefix

module _ {D F : Type 0} (tells : Bool) (means : D → DiskMeaning) where
  -- So far a script came after these bytes, which wrote this text, from pairs that were as at the start to these
  abbrev pub IsAfter : List (DiskPair D F) → List (DiskPair D F) → List ℕ → List ℕ → Progress → Type 0
  IsAfter start pairs read text progress = (c : Cluster) × After read text c progress.number progress.held.items progress.read × Refines tells means start pairs progress.world c

  module _ (from_pairs to_pairs : List (DiskPair D F)) (told : Bool) (old new : List ℕ) where
    -- with this piece the script goes on
    abbrev pub GoesOn : Progress → Progress → List ℕ → Type 0
    GoesOn from to piece =
        (start : List (DiskPair D F)) (read text : List ℕ) → IsAfter start from_pairs read text from → Took told old new (λ out. IsAfter start to_pairs (read ++ piece) (text ++ out) to)

    -- within these bytes the script stops, and P holds of the pairs at the start, of its lines and of all that was written
    abbrev pub Stopped : Progress → List ℕ → (List (DiskPair D F) → List Line → List ℕ → Type 0) → Type 0
    Stopped from bytes P =
        (start : List (DiskPair D F)) (read text : List ℕ) → IsAfter start from_pairs read text from → Took told old new (λ out. P start (lines_of (read ++ bytes)) (text ++ out))

-- no byte is an LF
abbrev pub HasNoLineEnd : List ℕ → Type 0
HasNoLineEnd bytes = (k : ℕ) → k < length bytes → slice_index bytes k ≢ 10

-- some of the lines have run
abbrev pub IsBetween : Cluster → List Line → List ℕ → Type 0
IsBetween c all text = (lines more : List Line) × (all ≡ lines ++ more) × Runs lines text c

-- all the lines have run, and a line after them would have this number
pub record AtEnd (all : List Line) (text : List ℕ) (c : Cluster) (number : ℕ) : Type 0 where
  pub runs : Runs all text c
  pub number_is : number ≡ length all + 1
