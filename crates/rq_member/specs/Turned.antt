-- What an event is in the world, and what a turn did to a node and its files.
use Rattle.std.specs.Prelude.{ℕ, ⊤, ◌≡◌, ◌⊎◌, ◌≤◌, ◌<◌, ◌+◌, ◌++◌, ◌^◌, zero, suc, nat_le, if◌then◌else◌, Bool, List, [], ◌∷◌, length, map, Option, None, Some, Result, Ok, Err}
use Rattle.rq_outside.specs.declared.pair.DiskPair.{DiskPair}
use Rattle.rq_outside.specs.Disk.{DiskMeaning}
use Rattle.rq_wire.specs.declared.config.Member.{Member}
use Rattle.rq_wire.specs.declared.entry.Entry.{Entry}
use Rattle.rq_wal.specs.declared.file.WalFile.{WalFile}
use Rattle.rq_log.specs.declared.packet.Packet.{Packet as InPacket}
use Rattle.rq_log.specs.declared.packet.Message.{Message as InMessage}
use Rattle.rq_log.specs.declared.packet.Message.TheVariants as message
use Rattle.rq_log.specs.Incoming.{packet_in}
use Rattle.rq_log.specs.Views.{spell}
use Rattle.rq_request.specs.declared.say.Answer.{Answer}
use Rattle.rq_raft.specs.Node.{Packet, persistent_after}
use Rattle.rq_world.specs.declared.log_entry.LogEntry.{LogEntry}
use Rattle.rq_world.specs.Node.{Node, Turn, persistent_of, unchanged}
use Rattle.rq_world.specs.World.{Op, asked as ask_turn}
use Rattle.rq_world.specs.World as world
use Rattle.rq_world.specs.Rules.{elect, beat, flush, receive, tick, apply}
use Rattle.rq_member.specs.declared.event.Event.{Event}
use Rattle.rq_member.specs.declared.event.Event.TheVariants as event
use Rattle.rq_member.specs.declared.event.Op.{Op as TheOp}
use Rattle.rq_member.specs.declared.event.Op.TheVariants as op
use Rattle.rq_member.specs.declared.event.Effects.{Effects}
use Rattle.rq_member.specs.declared.turn_error.TurnError.{TurnError}
use Rattle.rq_member.specs.declared.turn_error.TurnError.TheVariants as errors
use Rattle.rq_member.specs.Files.{stored_entry, AreReadable, CanBeRead}
use Rattle.rq_values.specs.declared.error.DecodeError.{DecodeError}
use Rattle.rq_member.specs.Reading.{IsUnreadable}
use Rattle.rq_member.specs.Storing.{refusal_in, HasStored}

-- ---- events

abbrev pub op_of : TheOp → Op
op_of (op.Write list mixed) = world.Write list mixed
op_of (op.Queue list wait) = world.Queue list wait
op_of (op.Read items level limit) = world.Read items level limit

-- a message as the log has it: its entries are spelled as those of a log file
abbrev pub IsMessage : InMessage Entry → InMessage LogEntry → Type 0
IsMessage (message.VoteAsk index term) m = m ≡ message.VoteAsk index term
IsMessage (message.VoteSay granted) m = m ≡ message.VoteSay granted
IsMessage (message.AppendSay ok at probe) m = m ≡ message.AppendSay ok at probe
IsMessage (message.Append prev prev_term commit probe entries) m =
    (list : List LogEntry) × (m ≡ message.Append prev prev_term commit probe list) × (entries ≡ map stored_entry list) × AreReadable list

-- a packet is read as this one
pub record IsPacket (p : InPacket Entry) (q : InPacket LogEntry) : Type 0 where
  pub term : q.term ≡ p.term
  pub sender : q.from ≡ p.from
  pub receiver : q.to ≡ p.to
  pub says : IsMessage p.message q.message

-- the turn of the world for an event other than Apply, at this moment
abbrev pub IsTurn : List Member → ℕ → Node → Event → Turn → Type 0
IsTurn first moment n (event.Ask ask) t = t ≡ ask_turn first n ask.number moment ask.timeout (op_of ask.op)
IsTurn first moment n event.Elect t = t ≡ elect first n
IsTurn first moment n event.Beat t = t ≡ beat first n
IsTurn first moment n event.Flush t = t ≡ flush first n
IsTurn first moment n (event.Deliver p) t = (q : InPacket LogEntry) × IsPacket p.now q × (t ≡ receive first n moment (Some (packet_in q)))
IsTurn first moment n (event.Apply most) t = ⊥
IsTurn first moment n event.Tick t = t ≡ tick n moment

-- one turn behind another
abbrev pub followed : Turn → Turn → Turn
followed t u = record { node = u.node; stored = t.stored ++ u.stored; packets = t.packets ++ u.packets; answers = t.answers ++ u.answers }

-- so many entries are applied, one after the other
abbrev pub applies : List Member → ℕ → Node → Turn
applies first zero n = unchanged n
applies first (suc k) n = followed (applies first k n) (apply first (applies first k n).node)

-- the ask that an event puts
abbrev pub asked : Event → Option ℕ
asked (event.Ask ask) = Some ask.number
asked event.Elect = None
asked event.Beat = None
asked event.Flush = None
asked (event.Deliver p) = None
asked (event.Apply most) = None
asked event.Tick = None

-- ---- what a turn did

-- these are the effects of the turn; its packets' entries stand in its log
pub record Brings (t : Turn) (effects : Effects) : Type 0 where
  pub stored : effects.stored ≡ length t.stored
  pub packets : spell t.node.raft.log effects.packets ≡ t.packets
  pub answers : effects.answers ≡ t.answers

-- the node is the turn's, and these are its effects; on a refusal it is as it was
abbrev pub Turned : Turn → Node → Node → Result Effects TurnError → Type 0
Turned t n node (Ok effects) = (node ≡ t.node) × Brings t effects
Turned t n node (Err error) = node ≡ n

-- what holds where a turn was done, or a disk failed in it: another refusal leaves all as it was
abbrev pub IfDone : Result Effects TurnError → Type 0 → Type 0
IfDone (Ok effects) P = P
IfDone (Err errors.Disk) P = P
IfDone (Err other) P = ⊤

-- a disk failed, the engine's device failed, or there was no memory
abbrev pub IsFault : TurnError → Type 0
IsFault e = (e ≡ errors.Disk) ⊎ (e ≡ errors.NoMemory) ⊎ (e ≡ errors.Engine)

module _ {D F : Type 0} (first : List Member) (told : Bool) (means : D → DiskMeaning) where
  -- a turn of a node over its files: what it stores is what its node keeps then, and can be read again
  pub record Did (t : Turn) (old new : DiskPair D F) (n node : Node) (file : Option WalFile) (result : Result Effects TurnError) : Type 0 where
    pub turned : Turned t n node result
    pub kept : persistent_of t.node ≡ persistent_after (persistent_of n) t.stored
    pub readable : CanBeRead (persistent_of n) t.stored
    pub stored : HasStored first told means (persistent_of n) t.stored old new file (refusal_in result)

  -- at least one, where there is any, and at most so many entries were applied
  pub record DidApply (most : ℕ) (old new : DiskPair D F) (n node : Node) (file : Option WalFile) (result : Result Effects TurnError) : Type 0 where
    pub count : ℕ
    pub at_most : count ≤ most
    pub some : 0 < most → n.raft.applied < n.raft.commit → refusal_in result ≡ None → 0 < count
    pub did : Did (applies first count n) old new n node file result

-- ---- refusals

-- the first of these that has come to 2 ^ 62
abbrev pub first_ended : List ℕ → Option ℕ
first_ended [] = None
first_ended (count ∷ counts) = if nat_le (2 ^ 62) count then Some count else first_ended counts

-- the last index, the probe counter, the generation of the file and the queue's last number
abbrev pub ended : Node → ℕ → Option ℕ
ended n generation = first_ended (length n.raft.log ∷ n.raft.probe ∷ generation ∷ n.last ∷ [])

-- an append doesn't begin beyond what an index can be
abbrev pub IsNear : InMessage Entry → Type 0
IsNear (message.VoteAsk index term) = ⊤
IsNear (message.VoteSay granted) = ⊤
IsNear (message.AppendSay ok at probe) = ⊤
IsNear (message.Append prev prev_term commit probe entries) = prev < 2 ^ 62

-- how an entry of a packet that is none of a log is told
abbrev pub entry_refusal : ℕ → Option DecodeError → TurnError
entry_refusal index None = errors.Config index
entry_refusal index (Some error) = errors.Packet index error

-- the entries behind this index are none of a log, and told so
abbrev pub IsWrongEntries : ℕ → List Entry → TurnError → Type 0
IsWrongEntries prev entries e = (index : ℕ) × (why : Option DecodeError) × (e ≡ entry_refusal index why) × IsUnreadable prev entries index why

abbrev pub IsWrongMessage : InMessage Entry → TurnError → Type 0
IsWrongMessage (message.VoteAsk index term) e = ⊥
IsWrongMessage (message.VoteSay granted) e = ⊥
IsWrongMessage (message.AppendSay ok at probe) e = ⊥
IsWrongMessage (message.Append prev prev_term commit probe entries) e = (prev < 2 ^ 62) × IsWrongEntries prev entries e

abbrev pub IsWrong : Event → TurnError → Type 0
IsWrong (event.Ask ask) e = ⊥
IsWrong event.Elect e = ⊥
IsWrong event.Beat e = ⊥
IsWrong event.Flush e = ⊥
IsWrong (event.Deliver p) e = IsWrongMessage p.now.message e
IsWrong (event.Apply most) e = ⊥
IsWrong event.Tick e = ⊥

-- when a turn may be refused so; a disk's cause is in what was spent, and want of memory is told of none
abbrev pub IsCause : Event → Node → ℕ → TurnError → Type 0
IsCause what n generation (errors.Ended count) = ended n generation ≡ Some count
IsCause what n generation (errors.Packet index error) = IsWrong what (errors.Packet index error)
IsCause what n generation (errors.Config index) = IsWrong what (errors.Config index)
IsCause what n generation errors.Disk = ⊤
IsCause what n generation errors.Engine = ⊤
IsCause what n generation errors.NoMemory = ⊤
