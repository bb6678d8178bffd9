-- Logs that stand in a file, and what is read of them.
use Rattle.std.specs.Prelude.{◌≡◌, ◌≢◌, ◌<◌, ◌^◌, true, ℕ, List, ◌∷◌, ◌++◌, length, Ok, Some}
use Rattle.rq_values.specs.Exact.{AreBytes}
use Rattle.rq_wal.specs.declared.base.Base.{Base}
use Rattle.rq_wal.specs.declared.base.Stored.{Stored}
use Rattle.rq_wire.specs.declared.frame.Frame.{Frame}
use Rattle.rq_wal.specs.Gate.{EndsIn}
use Rattle.rq_wal.specs.Reading.{file_gives}
use Rattle.rq_wal.specs.Replace.{generation_of, is_open}
use Rattle.rq_wal.specs.Rules.{AreAllowed}
use Rattle.rq_wal.specs.Spelling.{base_bytes, prefix_bytes}
use Rattle.rq_wal.specs.Stored.{started, stored_after}

-- these bytes are an open file up to a frame's gate, with frames that the rules allow, and stand for what is stored
pub record IsLog (first : Base) (generation : ℕ) (stored : Stored) (done : List ℕ) : Type 0 where
  pub frames : List Frame
  pub allowed : AreAllowed (started first) frames
  pub folds : stored_after first frames ≡ stored
  pub small : generation < 2 ^ 63
  pub fits : length (base_bytes first) < 2 ^ 64
  pub is : done ≡ prefix_bytes generation first frames

-- a file is such a log, and then a closed gate
pub record HasLog (first : Base) (stored : Stored) (file : List ℕ) : Type 0 where
  pub generation : ℕ
  pub current : generation_of file ≡ Some generation
  pub done : List ℕ
  pub log : IsLog first generation stored done
  pub ends : EndsIn done file

-- what was written is read, whatever stands behind the closed gate
abbrev pub ReadsWritten : Type 0
ReadsWritten = (first : Base) (generation number gate : ℕ) (stored : Stored) (done rest : List ℕ) → IsLog first generation stored done → gate ≢ 1 → file_gives first number (done ++ gate ∷ rest) ≡ Ok stored

-- and nothing else is
abbrev pub ReadsNothingElse : Type 0
ReadsNothingElse = (first : Base) (number : ℕ) (stored : Stored) (file : List ℕ) → AreBytes file → is_open file ≡ true → file_gives first number file ≡ Ok stored → HasLog first stored file
