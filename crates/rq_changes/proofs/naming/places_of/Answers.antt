use Rattle.std.proofs.Common.{ap, sym, ◌∙◌, Ok, arith}
use Rattle.rq_select.specs.Select.{unless}
use Rattle.rq_meaning.specs.Checks.{places_of}
use Rattle.rq_changes.specs.Staged.{now_of}
use Rattle.rq_changes.proofs.Named.{places_more, names_more}
use Rattle.rq_changes.proofs.naming.places_of.Goals as goal

pub loop-name-preserved : goal.loop-name-preserved
loop-name-preserved c =
    let t = now_of c.args.table.now in
    let ns = c.args.names.now in
    let l = c.loop-name in
    record {
      places = places_more t ns l.name-index c.name-item.result l.places c.push_name.new.places (omega arith) c.name-item.is l.invariant.places c.in-Ok.ensures;
      so_far = ap (λ k. unless k (Ok (places_of t ns))) (sym (names_more t ns l.name-index c.name-item.result l.places c.push_name.new.places (omega arith) c.name-item.is l.invariant.places c.in-Ok.ensures)) ∙ l.invariant.so_far;
    }
