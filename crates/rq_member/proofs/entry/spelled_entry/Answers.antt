use Rattle.std.proofs.Common.{◌≡◌, sym, subst}
use Rattle.rq_wire.specs.declared.entry.Entry.{Entry}
use Rattle.rq_wire.specs.Exact.{IsEntry}
use Rattle.rq_wal.specs.Reading.{text_limit}
use Rattle.rq_world.specs.declared.log_entry.LogEntry.{LogEntry}
use Rattle.rq_member.specs.Files.{IsReadable}
use Rattle.rq_member.proofs.entry.spelled_entry.Goals as goal

pub returns-clause-sound : goal.returns-clause-sound
returns-clause-sound c = λ reads. subst (λ (e : Entry). IsEntry text_limit e) (sym c.entry_with.ensures.entry) (c.entry_with.ensures.fits, c.in_ok-body.ensures.sound (subst (λ (e : LogEntry). IsReadable e.command) (sym c.entry.view_is) reads))
