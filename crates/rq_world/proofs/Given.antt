-- What all lemmas are told: the first configuration, that turns are moves, and the laws of histories.
use Rattle.std.specs.Prelude.{List}
use Rattle.rq_wire.specs.declared.config.Member.{Member}
use Rattle.rq_history.specs.History.{History}
use Rattle.rq_history.specs.Laws.{OneLeaderATerm, LogsMatch, LeadersGrow, CommitsAreBacked, CommittedStays, CommittedPrefixesAgree, MomentsAreOrdered, IsRun}
use Rattle.rq_raft.specs.Entries.{entry_view, voters}
use Rattle.rq_raft.specs.Laws.{AreMoves}
use Rattle.rq_world.specs.declared.log_entry.LogEntry.{LogEntry}
use Rattle.rq_world.specs.Node.{log_entries}

pub record Given : Type 0 where
  pub first : List Member
  pub moves : AreMoves log_entries first
  pub one_leader : OneLeaderATerm (entry_view log_entries)
  pub logs_match : LogsMatch (entry_view log_entries)
  pub leaders_grow : LeadersGrow (entry_view log_entries)
  pub commits_are_backed : CommitsAreBacked (entry_view log_entries)
  pub committed_stays : CommittedStays (entry_view log_entries)
  pub prefixes_agree : CommittedPrefixesAgree (entry_view log_entries)
  pub moments : MomentsAreOrdered LogEntry

abbrev pub Run : Given → History LogEntry → Type 0
Run g h = IsRun (entry_view log_entries) (voters g.first) h
