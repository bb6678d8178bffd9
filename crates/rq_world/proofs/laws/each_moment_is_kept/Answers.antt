use Rattle.std.proofs.Common.{refl}
use Rattle.rq_raft.specs.Entries.{entry_view}
use Rattle.rq_world.specs.Node.{log_entries}
use Rattle.rq_world.proofs.Promises.{each_moment_is_kept}
use Rattle.rq_world.proofs.laws.each_moment_is_kept.Goals as goal

pub returns : goal.returns
returns c = λ first. each_moment_is_kept (record {
  first = first;
  moves = c.turns_are_moves.ensures log_entries first (record { of_term = λ term. refl; plain = λ term. refl });
  one_leader = c.one_leader.ensures (entry_view log_entries);
  logs_match = c.logs_match.ensures (entry_view log_entries);
  leaders_grow = c.leaders_grow.ensures (entry_view log_entries);
  commits_are_backed = c.commits_are_backed.ensures (entry_view log_entries);
  committed_stays = c.committed_stays.ensures (entry_view log_entries);
  prefixes_agree = c.committed_prefixes_agree.ensures (entry_view log_entries);
  moments = c.moments_are_ordered.ensures;
}) (c.leaders_lead_on.ensures log_entries first)
