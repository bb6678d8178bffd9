-- What contracts see of a running node.
use Rattle.std.specs.Prelude.{◌≡◌, Bool, IsTrue, not, ◌&&◌, if◌then◌else◌, List, [], Option}
use Rattle.rq_outside.specs.declared.pair.DiskPair.{DiskPair}
use Rattle.rq_outside.specs.Disk.{DiskMeaning}
use Rattle.rq_wal.specs.declared.file.WalFile.{WalFile}
use Rattle.rq_wire.specs.declared.config.Member.{Member}
use Rattle.rq_request.specs.declared.say.Answer.{Answer}
use Rattle.rq_raft.specs.Node.{RaftNode, is_leader}
use Rattle.rq_world.specs.declared.log_entry.LogEntry.{LogEntry}
use Rattle.rq_world.specs.Node.{Node, persistent_of}
use Rattle.rq_world.specs.Rules.{lost_all, waiting_numbers}
use Rattle.rq_member.specs.Files.{AreReadable, HasFile}

-- a node now, its part that agrees with others before that part's last change, and the first members
pub record Held : Type 0 where
  pub node : Node
  pub before : RaftNode LogEntry
  pub first : List Member

-- the node before the last change of its part that agrees with others
abbrev pub node_before : Held → Node
node_before h = record h.node { raft = h.before }

-- it led, and doesn't any more
abbrev pub has_left : Held → Bool
has_left h = is_leader h.before.role && not (is_leader h.node.raft.role)

-- the answers to what is lost by that change
abbrev pub lost_answers : Held → List Answer
lost_answers h = if has_left h then lost_all h.before.term h.node.raft.term (waiting_numbers h.node) else []

-- and the node without what is lost
abbrev pub without_lost : Held → Node
without_lost h = if has_left h then record h.node { waiting = []; pending_reads = [] } else h.node

-- the running node's file is open, and has what the node keeps, which can be read again
pub record IsOpen {D F : Type 0} (first : List Member) (told : Bool) (means : D → DiskMeaning) (pair : DiskPair D F) (n : Node) (file : Option WalFile) : Type 0 where
  pub has : HasFile first told means pair (persistent_of n) file
  pub base : n.raft.base ≡ 0
  pub readable : AreReadable n.raft.log
