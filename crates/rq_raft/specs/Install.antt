-- A snapshot is made, or comes from a leader: docs/RAFT.md, "Compact", "Install". Source: the extended Raft paper, section 7.
use Rattle.std.specs.Prelude.{ℕ, ◌==◌, nat_lt, nat_le, ◌&&◌, if◌then◌else◌, Bool, List, [], ◌∷◌, ◌++◌, length, drop}
use Rattle.rq_history.specs.History.{term_at}
use Rattle.rq_raft.specs.Entries.{Entries, entry_view}
use Rattle.rq_raft.specs.Node.{RaftNode, InstallSay, Packet, Replace, RaftTurn, unchanged, say, is_leader}
use Rattle.rq_raft.specs.Append.{becomes_follower}

-- Compact: what is applied is in the snapshot
abbrev pub compact : {E : Type 0} → RaftNode E → RaftTurn E
compact n = if nat_lt n.base n.applied then record { node = record n { base = n.applied }; stored = Replace n.applied n.log ∷ []; packets = [] } else unchanged n

module _ {E : Type 0} (entries : Entries E) where
  -- the own entries behind the list follow it where the own entry at its end has the list's last term
  abbrev pub has_last : RaftNode E → List E → Bool
  has_last n list = nat_le (length list) (length n.log) && (term_at (entry_view entries) n.log (length list) == term_at (entry_view entries) list (length list))

  abbrev pub log_with : RaftNode E → List E → List E
  log_with n list = list ++ (if has_last n list then drop (length list) n.log else [])

  abbrev pub replaced : RaftNode E → List E → RaftTurn E
  replaced n list = record {
    node = record n { log = log_with n list; base = length list; commit = length list; applied = length list };
    stored = Replace (length list) (log_with n list) ∷ [];
    packets = [];
  }

  -- what isn't beyond the own commit index changes nothing
  abbrev pub installs : RaftNode E → List E → RaftTurn E
  installs n list = if nat_le (length list) n.commit then unchanged n else replaced n list

  abbrev pub install : RaftNode E → ℕ → Packet E → ℕ → List E → RaftTurn E
  install n moment p probe list =
      if nat_lt p.term n.term then say (unchanged n) p.from (InstallSay 0 0)
      else if is_leader n.role then unchanged n
      else say (installs (becomes_follower n p.from moment) list) p.from (InstallSay (length list) probe)
