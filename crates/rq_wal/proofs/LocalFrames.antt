-- A frame is read from the start of the bytes.
use Rattle.std.proofs.Common.{ℕ, ◌≡◌, ◌≤◌, ◌==◌, List, length, Ok, cond, ap, arith, length-append}
use Rattle.rq_values.specs.declared.error.DecodeError.TheVariants.{Kind}
use Rattle.rq_values.specs.Reading.{made, checked, u8_at, u32_at, u64_at, id_at, option_at, many_at, sized_at}
use Rattle.rq_values.specs.Local.{IsLocal}
use Rattle.rq_values.proofs.Local.{local_bind, local_made, local_checked, local_choice, local_u8, local_u32, local_u64, local_id, local_option, local_many, local_sized}
use Rattle.rq_wire.specs.Reading.{entry_at}
use Rattle.rq_wire.proofs.Local.{local_entry}
use Rattle.rq_wal.specs.declared.base.Stored.{Stored}
use Rattle.rq_wire.specs.declared.frame.Frame.{Frame}
use Rattle.rq_wire.specs.declared.frame.Frame.TheVariants.{Vote, Splice, Boot}
use Rattle.rq_wal.specs.Reading.{text_limit, breaks, is_small, is_next, is_some, is_kind, some_entries_at, vote_at, splice_at, boot_at, payload_at, frame_at}

local_entries : IsLocal some_entries_at
unfolding some_entries_at
local_entries = local_bind (checked u32_at is_some breaks) (many_at (entry_at text_limit)) (local_checked u32_at is_some breaks local_u32) (local_many (entry_at text_limit) (local_entry text_limit))

local_vote : IsLocal vote_at
unfolding vote_at
local_vote = local_bind u64_at (λ term. made (option_at (id_at text_limit)) (Vote term)) local_u64 (λ term. local_made (option_at (id_at text_limit)) (Vote term) (local_option (id_at text_limit) (local_id text_limit)))

local_splice : (stored : Stored) → IsLocal (splice_at stored)
unfolding splice_at
local_splice stored =
    local_bind (checked u64_at (is_next stored) breaks) (λ from. made some_entries_at (Splice from)) (local_checked u64_at (is_next stored) breaks local_u64) (λ from. local_made some_entries_at (Splice from) local_entries)

local_boot : IsLocal boot_at
unfolding boot_at
local_boot = local_made (checked u64_at is_small breaks) Boot (local_checked u64_at is_small breaks local_u64)

local_payload : (stored : Stored) (kind : ℕ) → IsLocal (payload_at stored kind)
unfolding payload_at
local_payload stored kind =
    local_choice (kind == 1) vote_at (λ bytes. cond (kind == 2) (splice_at stored bytes) (boot_at bytes)) local_vote (local_choice (kind == 2) (splice_at stored) boot_at (local_splice stored) local_boot)

local_frame : (stored : Stored) → IsLocal (frame_at stored)
unfolding frame_at
local_frame stored =
    local_bind (checked u8_at is_kind Kind) (λ kind. sized_at u32_at (payload_at stored kind)) (local_checked u8_at is_kind Kind local_u8) (λ kind. local_sized u32_at (payload_at stored kind) local_u32 (local_payload stored kind))

pub no_longer : (stored : Stored) (bytes : List ℕ) (frame : Frame) (rest : List ℕ) → frame_at stored bytes ≡ Ok (frame, rest) → length rest ≤ length bytes
no_longer stored bytes frame rest h = let s = local_frame stored bytes frame rest h in omega (arith, ap length s.is, length-append s.prefix rest)
