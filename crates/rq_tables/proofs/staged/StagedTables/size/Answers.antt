use Rattle.std.proofs.Common.{subst, sym, ap, ◌∙◌, ◌+◌, ◌≤◌, arith}
use Rattle.rq_meaning.specs.Database.{tables_size, size_limit}
use Rattle.rq_tables.specs.Entries.{listed, at_now, now_db, sized}
use Rattle.rq_tables.proofs.Placed.{size_sound, size_within}
use Rattle.rq_tables.proofs.staged.StagedTables.size.Goals as goal

pub size_of-requires : goal.size_of-requires
size_of-requires c = subst (λ es. 4 + sized (listed at_now es) ≤ size_limit) (sym c.as_slice.ensures.value) (size_within c.self.inside.entries.items c.self.invariant)

pub returns-clause-size : goal.returns-clause-size
returns-clause-size c =
    c.size_of.ensures ∙ ap (λ es. 4 + sized (listed at_now es)) c.as_slice.ensures.value
    ∙ sym (size_sound c.self.inside.entries.items c.self.invariant) ∙ ap (λ es. tables_size (now_db es)) c.self.view_is

pub returns-clause-limit : goal.returns-clause-limit
returns-clause-limit c =
    let a = c.size_of.ensures ∙ ap (λ es. 4 + sized (listed at_now es)) c.as_slice.ensures.value in
    let b = size_within c.self.inside.entries.items c.self.invariant in
    omega (arith, a, b)
