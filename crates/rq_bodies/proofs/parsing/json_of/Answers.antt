use Rattle.std.proofs.Common.{sym, ◌∙◌}
use Rattle.rq_bodies.proofs.JsonBodies.{json_of-text, json_of-none}
use Rattle.rq_bodies.proofs.parsing.json_of.Goals as goal

pub returns-in-Ok : goal.returns-in-Ok
returns-in-Ok c = sym (json_of-text _ c.in-Ok.ensures.ok.0 ∙ c.in-Ok.ensures.ok.1)

pub returns-in_default : goal.returns-in_default
returns-in_default c =
    sym (json_of-none _ (c.in-Err.ensures.err (λ memory. c.in_default.not-Memory (c.classify.ensures.memory.1 memory))))
