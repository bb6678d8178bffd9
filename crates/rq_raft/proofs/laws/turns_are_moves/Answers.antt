use Rattle.rq_raft.specs.Entries.{entry_view}
use Rattle.rq_raft.proofs.Statements.{are_moves}
use Rattle.rq_raft.proofs.laws.turns_are_moves.Goals as goal

pub returns : goal.returns
returns g c = λ entries first right. are_moves (record {
  entries = entries;
  first = first;
  right = right;
  one_leader = c.one_leader.ensures (entry_view entries);
  logs_match = c.logs_match.ensures (entry_view entries);
  leaders_grow = c.leaders_grow.ensures (entry_view entries);
  leaders_agree = c.leaders_agree.ensures (entry_view entries);
  commits_are_backed = c.commits_are_backed.ensures (entry_view entries);
  moments = c.moments_are_ordered.ensures;
  local = c.changes_are_local.ensures;
})
