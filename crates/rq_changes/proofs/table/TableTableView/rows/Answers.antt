use Rattle.std.proofs.Common.{◌≡◌, ◌≤◌, ◌+◌, sym, ap, subst, ◌∙◌, map, length, rules, arith, w64, FitsSigned}
use Rattle.std.proofs.lemmas.Int.{to_z-of_z}
use Rattle.std.proofs.lemmas.List.{length-map, length_push}
use Rattle.rq_eval.specs.Names.{row_of}
use Rattle.rq_results.specs.Table.{as_row, rows_of}
use Rattle.rq_rows.specs.Slots.{shown}
use Rattle.rq_changes.specs.Staged.{now_of}
use Rattle.rq_changes.proofs.Lookups.{enough, one_more, walk_more}
use Rattle.rq_changes.proofs.table.TableTableView.rows.Goals as goal

pub returns-then-are_enough : goal.returns-then-are_enough
returns-then-are_enough c =
    let l = c.loop-key in
    let count = length-map l.all.items row_of in
    enough c.args.most (map row_of l.all.items) (map as_row (shown l.key-iterator)) (rows_of (now_of c.args.self.now)) c.len.result (sym c.are_enough.ensures ∙ c.if-are_enough.true) (omega (arith, count, c.len.ensures, l.all.ok))
    (λ m e. subst (λ k. k ≤ m) (sym count) (l.invariant.within m e)) l.invariant.so_far

pub loop-key-preserved-in-Continue-1 : goal.loop-key-preserved-in-Continue-1
loop-key-preserved-in-Continue-1 c =
    let l = c.loop-key in
    let fits : FitsSigned w64 c.in-Some.key.now = search rules in
    let pushed = c.in_ok-push-in-Some-slot.ensures.items in
    let more : length c.push.new.self.items ≡ length l.all.items + 1 = ap length pushed ∙ length_push l.all.items c.view_of.result in
    let seen = rw c.as_slice.ensures at (simp to_z-of_z at c.view_of.ensures) in
    record {
      so_far = walk_more row_of l.all.items c.push.new.self.items c.view_of.result l.key-iterator c.next.new.self c.in-Some.key.now c.in-Some.slot.now c.in-Some-slot.row (rows_of (now_of c.args.self.now)) pushed seen c.in-Some.ensures.steps c.in-Some-slot.is l.invariant.so_far;
      within = one_more c.args.most c.len.result (length c.push.new.self.items) (sym c.are_enough.ensures ∙ c.if-are_enough.false) (omega (arith, more, c.len.ensures, l.all.ok));
    }
