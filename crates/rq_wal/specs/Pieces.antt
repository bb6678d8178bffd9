-- Several pieces, one after the other.
use Rattle.std.specs.Prelude.{◌≤◌, ◌+◌, ℕ, List, [], ◌∷◌, length, take}
use Rattle.rq_wal.specs.Gate.{EndsIn, with_frame}

-- what is done, with the frames of these pieces more
abbrev pub with_frames : List ℕ → List (List ℕ) → List ℕ
with_frames done [] = done
with_frames done (piece ∷ pieces) = with_frames (with_frame done piece) pieces

-- how many bytes they take
abbrev pub bytes_of : List (List ℕ) → ℕ
bytes_of [] = 0
bytes_of (piece ∷ pieces) = length piece + bytes_of pieces

-- the file ends in what is done, with the frames of the first of the pieces more
abbrev pub HasSomePieces : List ℕ → List (List ℕ) → List ℕ → Type 0
HasSomePieces done pieces file = (k : ℕ) × (k ≤ length pieces) × EndsIn (with_frames done (take k pieces)) file
