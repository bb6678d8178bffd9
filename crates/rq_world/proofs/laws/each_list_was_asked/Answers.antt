use Rattle.std.proofs.Common.{refl}
use Rattle.rq_raft.specs.Entries.{entry_view}
use Rattle.rq_world.specs.Node.{log_entries}
use Rattle.rq_world.proofs.Origins.{each_list}
use Rattle.rq_world.proofs.laws.each_list_was_asked.Goals as goal

pub returns : goal.returns
returns c = λ first. each_list (record {
  first = first;
  moves = c.turns_are_moves.ensures log_entries first (record { of_term = λ term. refl; plain = λ term. refl });
  one_leader = c.one_leader.ensures (entry_view log_entries);
  logs_match = c.logs_match.ensures (entry_view log_entries);
  leaders_grow = c.leaders_grow.ensures (entry_view log_entries);
  commits_are_backed = c.commits_are_backed.ensures (entry_view log_entries);
  committed_stays = c.committed_stays.ensures (entry_view log_entries);
  prefixes_agree = c.committed_prefixes_agree.ensures (entry_view log_entries);
  moments = c.moments_are_ordered.ensures;
}) (record {
  lead_on = c.leaders_lead_on.ensures log_entries first;
  probes = (c.probes_are_kept.ensures log_entries first).0;
  come = (c.probes_are_kept.ensures log_entries first).1;
  time_goes_on = c.time_goes_on.ensures (entry_view log_entries);
  stand_once = c.leaders_do_not_stand_again.ensures (entry_view log_entries);
  leaders_cover = c.leaders_cover.ensures (entry_view log_entries);
})
