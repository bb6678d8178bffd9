use Rattle.std.proofs.Common.{◌≡◌, ◌<◌, ◌≤◌, ◌^◌, ◌-◌, ◌∙◌, List, length, map, drop, sym, subst, arith, ap}
use Rattle.rq_values.specs.Exact.{AreProper}
use Rattle.rq_wire.specs.Exact.{IsEntry}
use Rattle.rq_wire.specs.declared.entry.Entry.{Entry}
use Rattle.rq_wire.specs.declared.frame.Frame.{Frame}
use Rattle.rq_wal.specs.Reading.{text_limit}
use Rattle.rq_wal.specs.Rules.{IsAllowed}
use Rattle.rq_wal.specs.Spelling.{payload_bytes}
use Rattle.rq_world.specs.declared.log_entry.LogEntry.{LogEntry}
use Rattle.rq_member.specs.Files.{stored_entry, AreReadable}
use Rattle.rq_member.proofs.Framing.{splice_allowed}
use Rattle.rq_member.proofs.frames.splice_frame.Goals as goal

pub returns-clause-allowed : goal.returns-clause-allowed
returns-clause-allowed c = λ stored base first next some readable.
    let log = drop (c.args.from - 1) c.args.core.now.node.log in
    let here : c.entries_from-entries.result.now ≡ log = c.entries_from-entries.ensures in
    let entries = c.in_ok-entries.entries in
    let spelled : entries ≡ map stored_entry log = c.in_ok-entries.ensures.stored ∙ ap (λ (l : List LogEntry). map stored_entry l) here in
    let sound : AreReadable log → AreProper (IsEntry text_limit) entries = λ all. c.in_ok-entries.ensures.sound (subst AreReadable (sym here) all) in
    subst (λ (f : Frame). IsAllowed stored f × (length (payload_bytes f) < 2 ^ 32)) (sym c.splice_of.ensures.frame)
    (splice_allowed stored c.args.from log entries spelled sound c.splice_of.ensures.fits (omega (arith, ap length here, c.if-entries-ge-MOST_ENTRIES.false)) base first next some readable)
