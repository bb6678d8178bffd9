use Rattle.std.proofs.Common.{subst}
use Rattle.rq_rows.specs.Slots.{slots_of}
use Rattle.rq_rows.specs.Covering.{Valid}
use Rattle.rq_rows.specs.Staged.{Staged}
use Rattle.rq_rows.proofs.Back.{valids_last}
use Rattle.rq_rows.proofs.table_rows.TableRows.know_valid.Goals as goal

pub returns : goal.returns
returns c = subst (λ (s : Staged). Valid s.columns s.now) c.self.view_is (valids_last c.self.inside.columns c.self.inside.log.items (slots_of c.self.inside.slots.entries) c.self.invariant.1.valids)
