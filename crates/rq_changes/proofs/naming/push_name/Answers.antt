use Rattle.std.proofs.Common.{ap, sym, ◌∙◌, Ok, true, false}
use Rattle.rq_eval.specs.declared.error.StmtError.TheVariants as error
use Rattle.rq_changes.specs.Staged.{now_of}
use Rattle.rq_changes.specs.Stepping.{place_pushed}
use Rattle.rq_changes.proofs.Steps.{said_goes}
use Rattle.rq_changes.proofs.Named.{pushed_at}
use Rattle.rq_changes.proofs.naming.push_name.Goals as goal

pub returns-then-is_among : goal.returns-then-is_among
returns-then-is_among c =
    let t = now_of c.args.table.now in
    let n = c.args.name.now in
    let places = c.args.places.now in
    said_goes (place_pushed t places n) places (error.DuplicateColumn n) c.is_double.result c.is_double.ensures
    (pushed_at t places n c.in-Some.place true (sym c.place_of.ensures ∙ c.in-Some.is) (rw c.as_slice.ensures at (sym c.is_among.ensures ∙ c.if-is_among.true)))

pub returns-in-Ok : goal.returns-in-Ok
returns-in-Ok c =
    let t = now_of c.args.table.now in
    let n = c.args.name.now in
    let places = c.args.places.now in
    pushed_at t places n c.in-Some.place false (sym c.place_of.ensures ∙ c.in-Some.is) (rw c.as_slice.ensures at (sym c.is_among.ensures ∙ c.if-is_among.false))
    ∙ ap Ok (sym c.in-Ok.ensures.ok)
