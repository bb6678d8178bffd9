-- How bases, frames and a whole log file are spelled, as docs/FORMATS.md, "The file pair", has it.
use Rattle.std.specs.Prelude.{ℕ, List, [], ◌∷◌, ◌++◌, length}
use Rattle.std.specs.List.{flat_map}
use Rattle.rq_values.specs.Spelling.{u64_bytes, sized, option_bytes, list_bytes}
use Rattle.rq_wire.specs.Spelling.{config_bytes, entry_bytes}
use Rattle.rq_wal.specs.declared.base.Base.{Base}
use Rattle.rq_wire.specs.declared.frame.Frame.{Frame}
use Rattle.rq_wire.specs.declared.frame.Frame.TheVariants.{Vote, Splice, Boot}

-- a base, what its node knows of itself: term, vote, boot
abbrev pub own_bytes : Base → List ℕ
own_bytes base = u64_bytes base.term ++ (option_bytes sized base.vote ++ u64_bytes base.boot)

-- a base, what stands for the log: index, the term at the index, the configuration there, the state's image
abbrev pub snapshot_bytes : Base → List ℕ
snapshot_bytes base = u64_bytes base.index ++ (u64_bytes base.last_term ++ (config_bytes base.config ++ sized base.state))

abbrev pub base_bytes : Base → List ℕ
base_bytes base = own_bytes base ++ snapshot_bytes base

-- the byte that says which frame it is
abbrev pub kind_of : Frame → ℕ
kind_of (Vote term vote) = 1
kind_of (Splice from entries) = 2
kind_of (Boot boot) = 3

-- what the frame says
abbrev pub payload_bytes : Frame → List ℕ
payload_bytes (Vote term vote) = u64_bytes term ++ option_bytes sized vote
payload_bytes (Splice from entries) = u64_bytes from ++ list_bytes entry_bytes entries
payload_bytes (Boot boot) = u64_bytes boot

-- a frame: its kind, its payload's length, and the payload
abbrev pub frame_bytes : Frame → List ℕ
frame_bytes frame = kind_of frame ∷ sized (payload_bytes frame)

-- a frame as it is added: with a closed gate behind it
abbrev pub piece_of : Frame → List ℕ
piece_of frame = frame_bytes frame ++ 0 ∷ []

-- a frame as it stands in a file: behind an open gate
abbrev pub gated : Frame → List ℕ
gated frame = 1 ∷ frame_bytes frame

-- what stands behind a file's gate: RQWAL, the version, the generation, the base's length, and the base
abbrev pub body_bytes : ℕ → Base → List ℕ
body_bytes generation base = (82 ∷ 81 ∷ 87 ∷ 65 ∷ 76 ∷ 1 ∷ []) ++ (u64_bytes generation ++ (u64_bytes (length (base_bytes base)) ++ base_bytes base))

-- an open file up to the gate behind its last frame
abbrev pub prefix_bytes : ℕ → Base → List Frame → List ℕ
prefix_bytes generation base frames = 1 ∷ (body_bytes generation base ++ flat_map gated frames)

-- an open file, with the closed gate at its end
abbrev pub file_bytes : ℕ → Base → List Frame → List ℕ
file_bytes generation base frames = prefix_bytes generation base frames ++ 0 ∷ []
