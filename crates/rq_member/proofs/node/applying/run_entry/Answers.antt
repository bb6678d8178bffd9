use Rattle.rq_member.proofs.Applying.{answers_due}
use Rattle.rq_member.proofs.node.applying.run_entry.Goals as goal

pub returns-clause-read : goal.returns-clause-read
returns-clause-read g c = answers_due (λ b. b.now) _ c.in_ok-due.due.items c.as_slice.result.now _ _ c.in_ok-done.ensures.read c.as_slice.ensures.value c.in_ok-due.ensures
