use Rattle.std.proofs.Common.{[], List, ℕ, sym, subst, refl, ◌∙◌}
use Rattle.std.proofs.lemmas.List.{append-nil}
use Rattle.rq_cluster.specs.Outcome.{Took}
use Rattle.rq_cluster.specs.LastLines.{stopped_line, LastLine}
use Rattle.rq_cluster.proofs.ending.stop_at.Goals as goal

pub returns-in-Ok-clause-wrote : goal.returns-in-Ok-clause-wrote
returns-in-Ok-clause-wrote g c =
    subst (λ (l : List ℕ). Took g.K.Sink.told (g.K.Sink.taken c.args.sink.now) (g.K.Sink.taken c.last_line.new.sink) (LastLine 3 l c.last_line.result)) (c.as_bytes.ensures.value ∙ c.in-Ok.ensures.ok) c.last_line.ensures.wrote

pub returns-in-Err-clause-wrote : goal.returns-in-Err-clause-wrote
returns-in-Err-clause-wrote g c = ([], (λ t. sym (append-nil (g.K.Sink.taken c.args.sink.now))), LastLine.memory [] (stopped_line c.args.number, refl))
