use Rattle.std.proofs.Common.{◌≡◌, subst, ◌∙◌}
use Rattle.std.specs.Prelude.{is_some}
use Rattle.rq_meaning.specs.Database.{table_of}
use Rattle.rq_tables.specs.Entries.{IsPlace, now_db}
use Rattle.rq_tables.proofs.Placed.{place_found}
use Rattle.rq_tables.proofs.staged.StagedTables.place_of.Goals as goal

pub returns-clause-place : goal.returns-clause-place
returns-clause-place c = subst (λ es. IsPlace es c.args.name.now c.place_of.result) (c.as_slice.ensures.value ∙ c.self.view_is) c.place_of.ensures

pub returns-clause-found : goal.returns-clause-found
returns-clause-found c = subst (λ es. is_some c.place_of.result ≡ is_some (table_of c.args.name.now (now_db es))) c.self.view_is
    (place_found c.self.inside.entries.items c.args.name.now c.place_of.result (subst (λ es. IsPlace es c.args.name.now c.place_of.result) c.as_slice.ensures.value c.place_of.ensures) c.self.invariant)
