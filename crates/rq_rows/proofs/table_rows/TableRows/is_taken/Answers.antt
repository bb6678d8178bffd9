use Rattle.std.proofs.Common.{ap, sym, ◌∙◌}
use Rattle.std.specs.Option.{option_copied}
use Rattle.rq_rows.specs.Rows.{is_taken}
use Rattle.rq_rows.proofs.Finding.{taken_by}
use Rattle.rq_rows.proofs.table_rows.TableRows.is_taken.Goals as goal

pub returns-in-Some : goal.returns-in-Some
returns-in-Some c =
    c.is_some.ensures ∙ taken_by c.args.at c.in-Some.value.now c.args.self.now.now c.find.result c.find.ensures.finds
    ∙ ap (is_taken c.args.at c.args.self.now.now) (ap option_copied (sym c.in-Some.is) ∙ c.key_at.ensures)
