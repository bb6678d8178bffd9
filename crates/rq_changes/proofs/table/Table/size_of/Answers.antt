use Rattle.std.proofs.Common.{sym, ap, ◌∙◌, arith, w64, FitsSigned}
use Rattle.std.specs.Option.{option_copied}
use Rattle.std.proofs.lemmas.Int.{to_z-of_z}
use Rattle.rq_changes.specs.Staged.{now_of}
use Rattle.rq_changes.proofs.Sums.{size_without, size_without_none, row_within}
use Rattle.rq_changes.proofs.table.Table.size_of.Goals as goal

pub returns-in-Some-with_row_size : goal.returns-in-Some-with_row_size
returns-in-Some-with_row_size c =
    let fits : FitsSigned w64 c.args.key = c.ranges.key in
    let row = simp to_z-of_z at (sym c.get.ensures.row ∙ ap option_copied c.in-Some.is) in
    let whole = size_without (now_of c.args.self.now) c.args.key c.in-Some.row.now row in
    omega (arith, whole, rw c.columns.ensures at c.in-Some-with_row_size.ensures)

pub returns-in-None-with_row_size : goal.returns-in-None-with_row_size
returns-in-None-with_row_size c =
    let fits : FitsSigned w64 c.args.key = c.ranges.key in
    let row = simp to_z-of_z at (sym c.get.ensures.row ∙ ap option_copied c.in-Some.is) in
    let within = row_within (now_of c.args.self.now) c.args.key c.in-Some.row.now row in
    absurd ((rw c.columns.ensures at c.in-None-with_row_size.ensures) (omega (arith, within, c.size-most.ensures.size, c.size-most.ensures.limit)))

pub returns-in-None : goal.returns-in-None
returns-in-None c =
    let fits : FitsSigned w64 c.args.key = c.ranges.key in
    size_without_none (now_of c.args.self.now) c.args.key (simp to_z-of_z at (sym c.get.ensures.row ∙ ap option_copied c.in-None.is))
