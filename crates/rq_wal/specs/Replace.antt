-- Which of two files is the current one.
use Rattle.std.specs.Prelude.{◌≡◌, ◌⊎◌, ◌<◌, ◌==◌, ◌&&◌, Bool, nat_le, ℕ, List, length, take, drop, get_or, nat_lt, Option, Some, None, if◌then◌else◌}
use Rattle.std.specs.Int.{w64, from_le_bytes}

-- the generation in a header, where it is whole and its first byte is 1
unfoldable pub in_header : List ℕ → Option ℕ
in_header header = if nat_lt (length header) 23 then None else (if get_or header 0 0 == 1 then Some (from_le_bytes w64 (take 8 (drop 7 header))) else None)

-- The generation of an open file. A file is open where it has a whole header and its first byte is 1
abbrev pub generation_of : List ℕ → Option ℕ
generation_of file = in_header (take 23 file)

-- a file is open where it has a whole header and its first byte is 1
abbrev pub is_open : List ℕ → Bool
is_open file = nat_le 23 (length file) && (get_or file 0 0 == 1)

-- it is closed, or open with a lower generation
abbrev pub IsBelow : ℕ → List ℕ → Type 0
IsBelow generation file = (generation_of file ≡ None) ⊎ ((g : ℕ) × (generation_of file ≡ Some g) × (g < generation))

-- it isn't current yet, or it is the new file, whole
abbrev pub IsOldOrNew : ℕ → List ℕ → List ℕ → Type 0
IsOldOrNew generation new file = IsBelow generation file ⊎ (file ≡ new)

-- The bytes of the current file of two: the open one, of two the one with the greater generation, and the first where the
-- generations are equal
abbrev pub newer : Option ℕ → Option ℕ → List ℕ → List ℕ → Option (List ℕ)
newer None None one two = None
newer (Some g) None one two = Some one
newer None (Some h) one two = Some two
newer (Some g) (Some h) one two = if nat_lt g h then Some two else Some one

abbrev pub current : List ℕ → List ℕ → Option (List ℕ)
current one two = newer (generation_of one) (generation_of two) one two
