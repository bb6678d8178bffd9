-- What a log file stands for, read from left to right, as docs/FORMATS.md, "The file pair", has it.
--
-- A field that is wrong is told with the number of bytes from it on, as in rq_values: so its place is the file's length
-- less that number. A field that is cut off has its place at the file's end.
use Rattle.std.specs.Prelude.{ℕ, zero, suc, ◌+◌, ◌-◌, ◌==◌, ◌&&◌, Bool, List, [], ◌∷◌, length, take, drop, get_or, slice_get, Option, Some, None, Result, Ok, Err, nat_lt, nat_le, if◌then◌else◌}
use Rattle.std.specs.Int.{w64, from_le_bytes}
use Rattle.rq_values.specs.declared.error.DecodeError.{DecodeError}
use Rattle.rq_values.specs.declared.error.DecodeError.TheVariants.{Short, Kind, Long, NotText, Order, Rule, Text, Trailing, NoMemory}
use Rattle.rq_values.specs.Reading.{◌>>=◌, made, checked, u8_at, u32_at, u64_at, id_at, option_at, many_at, sized_at}
use Rattle.rq_wire.specs.declared.entry.Entry.{Entry}
use Rattle.rq_wire.specs.Reading.{entry_at}
use Rattle.rq_wal.specs.declared.base.Base.{Base}
use Rattle.rq_wal.specs.declared.base.Stored.{Stored}
use Rattle.rq_wal.specs.declared.error.OpenError.{OpenError}
use Rattle.rq_wal.specs.declared.error.OpenError.TheVariants.{NotAWal, Version}
use Rattle.rq_wire.specs.declared.frame.Frame.{Frame}
use Rattle.rq_wire.specs.declared.frame.Frame.TheVariants.{Vote, Splice, Boot}
use Rattle.rq_wal.specs.Spelling.{base_bytes}
use Rattle.rq_wal.specs.Stored.{started, applied}
use Rattle.rq_wal.specs.Replace.{generation_of}

-- the limit of a text's or a command's length
abbrev pub text_limit : ℕ
text_limit = 8388608

-- a field that breaks a rule
abbrev pub breaks : {A : Type 0} → ℕ → A → DecodeError
breaks left _ = Rule left

-- ---- frames

-- a boot is below 2 ^ 63
abbrev pub is_small : ℕ → Bool
is_small n = nat_lt n 9223372036854775808

-- a Splice begins above the base, and at most one past the last entry
abbrev pub is_next : Stored → ℕ → Bool
is_next stored from = nat_lt stored.base.index from && nat_le from (stored.base.index + length stored.entries + 1)

-- a Splice has at least one entry
abbrev pub is_some : ℕ → Bool
is_some count = nat_lt 0 count

unfoldable pub some_entries_at : List ℕ → Result (List Entry × List ℕ) DecodeError
some_entries_at bytes = do
  count ← checked u32_at is_some breaks bytes
  many_at (entry_at text_limit) count.0 count.1

unfoldable pub vote_at : List ℕ → Result (Frame × List ℕ) DecodeError
vote_at bytes = do
  term ← u64_at bytes
  made (option_at (id_at text_limit)) (Vote term.0) term.1

unfoldable pub splice_at : Stored → List ℕ → Result (Frame × List ℕ) DecodeError
splice_at stored bytes = do
  from ← checked u64_at (is_next stored) breaks bytes
  made some_entries_at (Splice from.0) from.1

unfoldable pub boot_at : List ℕ → Result (Frame × List ℕ) DecodeError
boot_at = made (checked u64_at is_small breaks) Boot

-- what a frame of this kind says
unfoldable pub payload_at : Stored → ℕ → List ℕ → Result (Frame × List ℕ) DecodeError
payload_at stored kind bytes = if kind == 1 then vote_at bytes else (if kind == 2 then splice_at stored bytes else boot_at bytes)

abbrev pub is_kind : ℕ → Bool
is_kind kind = nat_lt 0 kind && nat_le kind 3

-- a frame, behind what is stored so far
unfoldable pub frame_at : Stored → List ℕ → Result (Frame × List ℕ) DecodeError
frame_at stored bytes = do
  kind ← checked u8_at is_kind Kind bytes
  sized_at u32_at (payload_at stored kind.0) kind.1

-- Frames behind open gates, up to a closed gate: what is stored then, and the bytes from the closed gate on. A frame has
-- at least one byte, so there are at most as many as bytes.
unfoldable pub frames_at : ℕ → Stored → List ℕ → Result (Stored × List ℕ) DecodeError
frames_at zero stored bytes = Err (Short 0)
frames_at (suc most) stored [] = Err (Short 0)
frames_at (suc most) stored (gate ∷ rest) = if gate == 1 then (frame_at stored rest >>= λ frame. frames_at most (applied stored frame.0) frame.1) else Ok (stored, gate ∷ rest)

-- ---- a file

-- just these bytes, which spell a thing: the first byte that is another is wrong
unfoldable pub spelled_at : {A : Type 0} → A → List ℕ → List ℕ → Result (A × List ℕ) DecodeError
spelled_at thing [] bytes = Ok (thing, bytes)
spelled_at thing (byte ∷ text) [] = Err (Short 0)
spelled_at thing (byte ∷ text) (found ∷ rest) = if found == byte then spelled_at thing text rest else Err (Rule (length (found ∷ rest)))

-- The base with its length. A base is never replaced yet, so each file has the first one.
unfoldable pub base_at : Base → List ℕ → Result (Base × List ℕ) DecodeError
base_at first = sized_at u64_at (spelled_at first (base_bytes first))

-- a file from the base's length on: what is stored, and the bytes from the closed gate on
unfoldable pub log_at : Base → List ℕ → Result (Stored × List ℕ) DecodeError
log_at first bytes = do
  base ← base_at first bytes
  frames_at (length base.1 + 1) (started base.0) base.1

-- how many bytes there are from the wrong field on
abbrev pub left_of : DecodeError → ℕ
left_of (Short left) = left
left_of (Kind left byte) = left
left_of (Long left len) = left
left_of (NotText left) = left
left_of (Order left) = left
left_of (Rule left) = left
left_of (Text left) = left
left_of (Trailing left) = left
left_of NoMemory = 0

-- a file leaves the format at this place, where this byte stands
abbrev pub leaves_at : ℕ → List ℕ → ℕ → OpenError
leaves_at number file place = NotAWal number place (slice_get file place)

abbrev pub is_magic : List ℕ → Bool
is_magic file = get_or file 1 0 == 82 && (get_or file 2 0 == 81 && (get_or file 3 0 == 87 && (get_or file 4 0 == 65 && get_or file 5 0 == 76)))

-- The first field of an open file's header that is wrong: RQWAL, the version, or a generation of 2 ^ 63 or more.
unfoldable pub header_fault : ℕ → List ℕ → Option OpenError
header_fault number file =
    if is_magic file then (if get_or file 6 0 == 1 then (if is_small (from_le_bytes w64 (take 8 (drop 7 file))) then None else Some (leaves_at number file 7))
    else Some (Version (get_or file 6 0))) else Some (leaves_at number file 1)

-- what is stored in an open file behind a header that is right
abbrev pub stored_of : ℕ → List ℕ → Result (Stored × List ℕ) DecodeError → Result Stored OpenError
stored_of number file (Ok read) = Ok read.0
stored_of number file (Err wrong) = Err (leaves_at number file (length file - left_of wrong))

-- a fault that comes first
abbrev pub unless_ : Option OpenError → Result Stored OpenError → Result Stored OpenError
unless_ None result = result
unless_ (Some fault) result = Err fault

-- a fault that comes afterwards
abbrev pub then_ : Result Stored OpenError → Option OpenError → Result Stored OpenError
then_ (Ok stored) (Some fault) = Err fault
then_ result fault = result

-- the current file of a pair, as the file with this number: what is stored in it
abbrev pub file_gives : Base → ℕ → List ℕ → Result Stored OpenError
file_gives first number file = unless_ (header_fault number file) (stored_of number file (log_at first (drop 15 file)))

-- What the content of two files stands for: what is stored in the current one, and `first` where neither is open. Of an
-- open file that isn't current only the header must be right. File one is looked at before file two.
abbrev pub by_generations : Base → Option ℕ → Option ℕ → List ℕ → List ℕ → Result Stored OpenError
by_generations first None None one two = Ok (started first)
by_generations first (Some g) None one two = file_gives first 1 one
by_generations first None (Some h) one two = file_gives first 2 two
by_generations first (Some g) (Some h) one two =
    if nat_lt g h then unless_ (header_fault 1 one) (file_gives first 2 two) else then_ (file_gives first 1 one) (header_fault 2 two)

unfoldable pub pair_gives : Base → List ℕ → List ℕ → Result Stored OpenError
pair_gives first one two = by_generations first (generation_of one) (generation_of two) one two
