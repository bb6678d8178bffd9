use Rattle.std.proofs.Common.{ap, sym, ◌+◌, ◌++◌, ◌∙◌, List, take, drop, w64, FitsSigned, arith}
use Rattle.std.proofs.lemmas.Int.{to_z-of_z}
use Rattle.std.proofs.lemmas.List.{drop_all, take-append-drop}
use Rattle.rq_values.specs.declared.value.Value.{Value}
use Rattle.rq_meaning.specs.Rows.{with_rowid}
use Rattle.rq_changes.proofs.Judged.{next_laid}
use Rattle.rq_changes.proofs.judging.lay_rowid.Goals as goal

pub loop-i-preserved : goal.loop-i-preserved
loop-i-preserved c =
    let fits : FitsSigned w64 c.args.key = c.ranges.key in
    let cs = c.args.columns.now in
    let step = next_laid c.args.key cs c.loop-i.i c.index-columns-i.result c.loop-i.row.items (omega arith) c.index-columns-i.is in
    simp to_z-of_z (ap (λ (ws : List Value). take (c.loop-i.i + 1) ws ++ with_rowid c.args.key (drop (c.loop-i.i + 1) cs) (drop (c.loop-i.i + 1) ws)) (simp to_z-of_z at c.lay_one.ensures) ∙ step ∙ (simp to_z-of_z at c.loop-i.invariant))

pub returns : goal.returns
returns c =
    let fits : FitsSigned w64 c.args.key = c.ranges.key in
    let row = c.loop-i.row.items in
    (sym (take-append-drop c.loop-i.i row) ∙ ap (λ ds. take c.loop-i.i row ++ with_rowid c.args.key ds (drop c.loop-i.i row)) (sym (drop_all c.loop-i.i c.args.columns.now (omega arith))) ∙ (simp to_z-of_z at c.loop-i.invariant))
