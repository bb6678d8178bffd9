use Rattle.std.proofs.Common.{[], sym, refl, flat_map}
use Rattle.std.proofs.lemmas.List.{append-nil}
use Rattle.rq_script.specs.ScriptText.{pending_text}
use Rattle.rq_cluster.specs.LastLines.{LastLine}
use Rattle.rq_cluster.specs.Refines.{pending_in}
use Rattle.rq_cluster.proofs.ending.give_ending.Goals as goal

pub returns-clause-wrote : goal.returns-clause-wrote
returns-clause-wrote g c = ([], (λ t. sym (append-nil (g.K.Sink.taken c.args.sink.now))), LastLine.memory [] (flat_map pending_text (pending_in c.args.world.now.host), refl))
