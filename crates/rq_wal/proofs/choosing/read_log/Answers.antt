use Rattle.std.proofs.Common.{List, ℕ, Some, sym, ap, ◌∙◌}
use Rattle.rq_wal.specs.Current.{number_of}
use Rattle.rq_wal.specs.Reading.{log_at}
use Rattle.rq_wal.proofs.Chosen.{is_generation, opens_by, all_bytes}
use Rattle.rq_wal.proofs.FilesRead.{is_read}
use Rattle.rq_wal.proofs.choosing.read_log.Goals as goal

pub returns-in-Ok-clause-generation : goal.returns-in-Ok-clause-generation
returns-in-Ok-clause-generation c = is_generation c.args.file.now c.requires.long (opens_by c.args.file.now c.requires.open) ∙ ap Some (sym c.number_in.ensures)

pub returns-in-Ok-clause-read : goal.returns-in-Ok-clause-read
returns-in-Ok-clause-read c =
    is_read c.args.first.now c.in-Ok.stored (number_of c.args.no) c.args.file.now c.in-Ok.rest.now (all_bytes c.args.file.now c.type_inv.file) c.requires.open c.requires.header
    (ap (λ (l : List ℕ). log_at c.args.first.now l) (sym c.split_at.ensures.back) ∙ c.in-Ok.ensures) _ c.number_in.ensures c.saturating_sub.ensures
