-- What the calls of a disk do to its content, and what a crash may leave between two syncs.
use Rattle.std.specs.Prelude.{◌≡◌, ◌⊎◌, ℕ, ◌+◌, ◌≤◌, min, max, List, ◌++◌, length, take, drop}

-- What a disk means to its callers: the content as it reads, the images that a crash now may leave, the moment as a
-- number that doesn't fall, the images that a crash at some moment since a time might have left, the count of faults,
-- and the room that was made: so many bytes in so many changing calls.
pub record DiskMeaning : Type 1 where
  pub content : List ℕ
  pub images : List ℕ → Type 0
  pub moment : ℕ
  pub since : ℕ → List ℕ → Type 0
  pub faults : ℕ
  pub room_bytes : ℕ
  pub room_calls : ℕ

-- new is old with these bytes at this place
abbrev pub Holds : List ℕ → ℕ → List ℕ → List ℕ → Type 0
Holds old at bytes new = new ≡ take at old ++ bytes ++ drop (at + length bytes) old

-- after a write of n bytes that isn't synced: any bytes in the range and past the old end, the same elsewhere
pub record Torn (at n : ℕ) (old new : List ℕ) : Type 0 where
  pub before : take at new ≡ take at old
  pub after : drop (at + n) new ≡ drop (at + n) old
  pub no_shorter : length old ≤ length new
  pub no_longer : length new ≤ max (length old) (at + n)

-- after a cut that isn't synced: some length between
pub record Cut (to : ℕ) (old new : List ℕ) : Type 0 where
  pub no_shorter : min to (length old) ≤ length new
  pub prefix : take (length new) old ≡ new

-- each new image is an old one after a step
abbrev pub Follows : (List ℕ → List ℕ → Type 0) → (List ℕ → Type 0) → (List ℕ → Type 0) → Type 0
Follows step old new = (c : List ℕ) → new c → (d : List ℕ) × old d × step d c

-- a crash leaves this and nothing else
abbrev pub Only : List ℕ → (List ℕ → Type 0) → Type 0
Only file images = (c : List ℕ) → images c → c ≡ file

-- Time goes on: a crash since t might have left what it might have left before, or what it may leave now.
pub record Elapses (old new : DiskMeaning) : Type 0 where
  pub later : old.moment ≤ new.moment
  pub nothing_else : (t : ℕ) (c : List ℕ) → t ≤ old.moment → new.since t c → old.since t c ⊎ new.images c
  pub keeps : (t : ℕ) (c : List ℕ) → t ≤ old.moment → old.since t c → new.since t c

-- the content and the images are as before
pub record Stays (old new : DiskMeaning) : Type 0 where
  pub content : new.content ≡ old.content
  pub no_more : (c : List ℕ) → new.images c → old.images c
  pub no_fewer : (c : List ℕ) → old.images c → new.images c

-- the room is as before
pub record KeepsRoom (old new : DiskMeaning) : Type 0 where
  pub bytes : new.room_bytes ≡ old.room_bytes
  pub calls : new.room_calls ≡ old.room_calls

-- there is room for so many bytes in so many calls
pub record HasRoom (disk : DiskMeaning) (n k : ℕ) : Type 0 where
  pub bytes : n ≤ disk.room_bytes
  pub calls : k ≤ disk.room_calls

-- k changing calls that write n bytes together use no more of the room
pub record Uses (n k : ℕ) (old new : DiskMeaning) : Type 0 where
  pub bytes : old.room_bytes ≤ new.room_bytes + n
  pub calls : old.room_calls ≤ new.room_calls + k

-- a crash at any moment since old leaves an image that has P
pub record LeavesOnly (old new : DiskMeaning) (P : List ℕ → Type 0) : Type 0 where
  pub later : old.moment ≤ new.moment
  pub each : (c : List ℕ) → new.since old.moment c → P c
  -- for a run that began earlier
  pub before : (t : ℕ) (c : List ℕ) → t ≤ old.moment → new.since t c → old.since t c ⊎ P c
