use Rattle.std.proofs.Common.{arith, sym, subst}
use Rattle.rq_rows.specs.Slots.{slots_of, live}
use Rattle.rq_rows.specs.Covering.{Covers}
use Rattle.rq_rows.proofs.Steps.{kept}
use Rattle.rq_rows.proofs.table_rows.TableRows.keep.Goals as goal

pub let_stand-requires-clause-covers : goal.let_stand-requires-clause-covers
let_stand-requires-clause-covers c = subst (λ cs. Covers cs c.self.inside.holders.items (live (slots_of c.self.inside.slots.entries))) (sym c.as_slice.ensures) c.self.invariant.1.covers

pub invariant_of-self : goal.invariant_of-self
invariant_of-self c = (
  omega arith,
  kept _ c.self.inside.holders.items _ (slots_of c.self.inside.slots.entries) (slots_of c.let_stand.new.slots.entries) c.self.inside.log.items _ c.self.invariant.1
      (omega (arith, c.let_stand.new.holders.ok, c.let_stand.ensures.len, c.self.inside.holders.ok, c.self.invariant.1.matched)) (subst (λ cs. Covers cs c.let_stand.new.holders.items (live (slots_of c.let_stand.new.slots.entries))) c.as_slice.ensures c.let_stand.ensures.covers) c.let_stand.ensures.rows c.clear.ensures.items,
)
