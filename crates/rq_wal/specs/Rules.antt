-- Which frames may follow what is stored, as docs/FORMATS.md, "The file pair", has it.
use Rattle.std.specs.Prelude.{◌≡◌, ◌<◌, ◌^◌, true, List, [], ◌∷◌, length}
use Rattle.rq_values.specs.Text.{is_id}
use Rattle.rq_values.specs.Exact.{IsNamed, IsNoneOr, AreProper}
use Rattle.rq_wire.specs.Exact.{IsEntry}
use Rattle.rq_wal.specs.declared.base.Stored.{Stored}
use Rattle.rq_wire.specs.declared.frame.Frame.{Frame}
use Rattle.rq_wire.specs.declared.frame.Frame.TheVariants.{Vote, Splice, Boot}
use Rattle.rq_wal.specs.Reading.{text_limit, is_small, is_next, is_some}
use Rattle.rq_wal.specs.Spelling.{payload_bytes}
use Rattle.rq_wal.specs.Stored.{applied}

-- a frame that keeps the rules, with lengths within their limits
abbrev pub IsAllowed : Stored → Frame → Type 0
IsAllowed stored (Vote term vote) = (term < 2 ^ 64) × IsNoneOr (IsNamed is_id text_limit) vote
IsAllowed stored (Splice from entries) =
    ((from < 2 ^ 64) × (is_next stored from ≡ true)) × (((length entries < 2 ^ 32) × (is_some (length entries) ≡ true)) × AreProper (IsEntry text_limit) entries)
IsAllowed stored (Boot boot) = (boot < 2 ^ 64) × (is_small boot ≡ true)

-- frames, one behind the other
abbrev pub AreAllowed : Stored → List Frame → Type 0
AreAllowed stored [] = Unit {0}
AreAllowed stored (frame ∷ frames) = (IsAllowed stored frame × (length (payload_bytes frame) < 2 ^ 32)) × AreAllowed (applied stored frame) frames
