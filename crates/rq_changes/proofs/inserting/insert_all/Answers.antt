use Rattle.std.proofs.Common.{ap, ◌∙◌, suc, List, rules, w64, FitsSigned}
use Rattle.std.specs.Prelude.{slice_get}
use Rattle.std.specs.Option.{option_copied}
use Rattle.std.proofs.lemmas.Int.{to_z-of_z}
use Rattle.rq_values.specs.declared.value.Value.{Value}
use Rattle.rq_changes.specs.Staged.{now_of}
use Rattle.rq_changes.proofs.Inserted.{left_more}
use Rattle.rq_changes.proofs.inserting.insert_all.Goals as goal

pub loop-row-preserved : goal.loop-row-preserved
loop-row-preserved c =
    let fits : FitsSigned w64 c.in-Ok.key = search rules in
    let l = c.loop-row in
    let step = c.in-Some.ensures.steps.0 in
    let rest = c.next.new.self.rest.items in
    record {
      rest = search rules;
      within = c.in-Ok.ensures.within;
      fits = λ i xs e. l.invariant.fits (suc i) xs (ap (λ (ys : List (List Value)). slice_get ys (suc i)) step ∙ e);
      so_far = simp to_z-of_z (left_more c.args.others (option_copied c.args.places) c.args.rows (now_of c.args.table.now) c.len-count.result l.row-iterator.rest.items rest c.in-Some.row (now_of l.table) (now_of c.insert_row.new.table) _ c.in-Ok.key step c.in-Ok.ensures.gives l.invariant.so_far);
    }
