use Rattle.std.proofs.Common.{length, sym, ap}
use Rattle.rq_node.proofs.Turning.{apply_stores}
use Rattle.rq_node.proofs.node.Node.apply.Goals as goal

pub returns-clause-effects : goal.returns-clause-effects
returns-clause-effects c = record { stored = sym (ap length (apply_stores c.args.self.now.state)); answers = c.in_ok-answers.ensures.answers }
