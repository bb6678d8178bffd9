use Rattle.std.proofs.Common.{sym, ◌∙◌, w64, FitsSigned, rules}
use Rattle.std.proofs.lemmas.Int.{to_z-of_z}
use Rattle.rq_rows.specs.Slots.{slots_of, live}
use Rattle.rq_rows.proofs.Left.{cover_less}
use Rattle.rq_rows.proofs.sweeping.release.Goals as goal

pub returns-then-not-has_value : goal.returns-then-not-has_value
returns-then-not-has_value c =
    let fits : FitsSigned w64 c.in-Some.key = search rules in
    let unused = simp to_z-of_z at c.has_value.ensures in
    cover_less c.args.at c.args.holders.now c.let_go.new.self (live (slots_of c.args.slots.now.entries)) c.args.value.now c.in-Some.key c.requires
    (sym c.get.ensures ∙ c.in-Some.is) (sym unused ∙ c.if-not-has_value.true) c.let_go.ensures
