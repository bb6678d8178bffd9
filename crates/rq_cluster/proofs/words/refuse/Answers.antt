use Rattle.std.proofs.Common.{[], sym, refl}
use Rattle.std.proofs.lemmas.List.{append-nil}
use Rattle.rq_cluster.specs.LastLines.{stopped_word, LastLine}
use Rattle.rq_cluster.proofs.words.refuse.Goals as goal

pub returns-in-Err-clause-wrote : goal.returns-in-Err-clause-wrote
returns-in-Err-clause-wrote g c = ([], (λ t. sym (append-nil (g.K.Sink.taken c.args.sink.now))), LastLine.memory [] (stopped_word c.args.place c.args.word.now, refl))
