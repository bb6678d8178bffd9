use Rattle.std.proofs.Common.{Some, sym, ap, ◌∙◌}
use Rattle.rq_wal.proofs.Chosen.{is_generation, no_generation}
use Rattle.rq_wal.proofs.Headers.{short}
use Rattle.rq_wal.proofs.Opened.{is_open_by}
use Rattle.rq_wal.proofs.choosing.generation.Goals.{then-file-lt23-via-then-file-lt23, then-file-lt23-via-else-file-lt23+then-file-ne1}
use Rattle.rq_wal.proofs.choosing.generation.Goals as goal

pub returns-then-file-lt23-clause-value : goal.returns-then-file-lt23-clause-value
returns-then-file-lt23-clause-value c = elim c.then-file-lt23.branch [
  | then-file-lt23-via-then-file-lt23 w ↦ sym (short c.args.file.now w.if-file-lt23.true)
  | then-file-lt23-via-else-file-lt23+then-file-ne1 w ↦ sym (no_generation c.args.file.now w.if-file-ne1.true)
]

pub returns-clause-value : goal.returns-clause-value
returns-clause-value c = ap Some c.number_in.ensures ∙ sym (is_generation c.args.file.now c.if-file-lt23.false c.if-file-ne1.false)

pub returns-clause-open : goal.returns-clause-open
returns-clause-open c = is_open_by c.args.file.now c.if-file-lt23.false c.if-file-ne1.false
