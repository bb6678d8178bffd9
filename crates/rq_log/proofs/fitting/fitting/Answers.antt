use Rattle.std.proofs.Common.{rules}
use Rattle.rq_log.proofs.Lengths.{stopped_is}
use Rattle.rq_log.proofs.fitting.fitting.Goals as goal

pub returns-then-len-room : goal.returns-then-len-room
returns-then-len-room c = stopped_is c.args.list.now c.loop-k.k c.loop-k.room c.entry_len-len.result c.index-list-k.result (search rules) (search rules) (search rules) (search rules) (search rules) c.max.result (search rules)
