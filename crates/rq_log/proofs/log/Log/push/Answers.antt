use Rattle.std.proofs.Common.{rules, vec_capacity}
use Rattle.rq_log.proofs.Newest.{pushed_config, pushed_plain}
use Rattle.rq_log.proofs.log.Log.push.Goals as goal

pub invariant_of-self-then-is_config : goal.invariant_of-self-then-is_config
invariant_of-self-then-is_config g c = pushed_config g.E.LogEntry.entries c.self.inside.entries.items c.push.new.self.items c.args.entry c.len-count.result c.self.inside.config_at c.clear.new.self.items (vec_capacity c.push.new.self)
    (search rules) (search rules) (search rules) (search rules) c.self.invariant.newest (search rules)

pub invariant_of-self-else-is_config : goal.invariant_of-self-else-is_config
invariant_of-self-else-is_config g c = pushed_plain g.E.LogEntry.entries c.self.inside.entries.items c.push.new.self.items c.args.entry c.len-count.result c.self.inside.config_at c.clear.new.self.items (vec_capacity c.push.new.self)
    (search rules) (search rules) (search rules) (search rules) c.self.invariant.newest (search rules)
