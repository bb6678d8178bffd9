-- A file of open frames, and then a closed gate, behind which nothing counts.
use Rattle.std.specs.Prelude.{◌≡◌, ◌≢◌, ◌⊎◌, ◌<◌, ◌≤◌, ◌-◌, ℕ, List, [], ◌∷◌, ◌++◌, length, take}
use Rattle.std.specs.List.{flat_map}
use Rattle.rq_outside.specs.Disk.{DiskMeaning, Only}
use Rattle.rq_wire.specs.declared.frame.Frame.{Frame}
use Rattle.rq_wal.specs.Spelling.{gated}

-- the file is what is done, and then a closed gate
pub record EndsIn (done file : List ℕ) : Type 0 where
  pub gate : ℕ
  pub rest : List ℕ
  pub closed : gate ≢ 1
  pub split : file ≡ done ++ gate ∷ rest

-- a closed gate stands at this place, and all is on the disk
pub record IsAtRest (disk : DiskMeaning) (place : ℕ) : Type 0 where
  pub within : place < length disk.content
  pub ends : EndsIn (take place disk.content) disk.content
  pub durable : Only disk.content disk.images

-- the file ends in what is done, with the first of the frames more
abbrev pub HasSomeOf : List ℕ → List Frame → List ℕ → Type 0
HasSomeOf done frames file = (k : ℕ) × (k ≤ length frames) × EndsIn (done ++ flat_map gated (take k frames)) file

-- a piece is a frame and the closed gate behind it
abbrev pub frame_of : List ℕ → List ℕ
frame_of piece = take (length piece - 1) piece

abbrev pub IsPiece : List ℕ → Type 0
IsPiece piece = piece ≡ frame_of piece ++ 0 ∷ []

-- what is done, with one frame more
abbrev pub with_frame : List ℕ → List ℕ → List ℕ
with_frame done piece = done ++ 1 ∷ frame_of piece

-- the file ends in what is done, with one frame more or without it
abbrev pub IsBeforeOrAfter : List ℕ → List ℕ → List ℕ → Type 0
IsBeforeOrAfter done piece file = EndsIn done file ⊎ EndsIn (with_frame done piece) file
