use Rattle.std.proofs.Common.{rules}
use Rattle.std.proofs.lemmas.List.Elements.{filter_from_retain}
use Rattle.rq_tables.specs.Entries.{is_used}
use Rattle.rq_tables.proofs.all_entries.sweep.Goals as goal

pub returns : goal.returns
returns c = filter_from_retain _ is_used (λ p x b q k. search rules) _ c.args.entries.now.items c.retain.new.self.items c.retain.ensures.filtered
