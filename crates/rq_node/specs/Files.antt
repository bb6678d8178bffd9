-- What the log files of a node have of it: docs/FORMATS.md, "The file pair".
use Rattle.std.specs.Prelude.{ℕ, List, [], ◌∷◌, ◌++◌, map, codes, None, true}
use Rattle.rq_values.specs.Spelling.{u32_bytes, sized}
use Rattle.rq_wire.specs.declared.config.Member.{Member}
use Rattle.rq_wire.specs.declared.entry.Entry.{Entry}
use Rattle.rq_wire.specs.declared.entry.Body.{Body}
use Rattle.rq_wire.specs.declared.entry.Body.TheVariants as body
use Rattle.rq_wal.specs.declared.base.Base.{Base}
use Rattle.rq_wal.specs.declared.base.Stored.{Stored}
use Rattle.rq_wire.specs.declared.frame.Frame.{Frame}
use Rattle.rq_wire.specs.declared.frame.Frame.TheVariants as frame
use Rattle.rq_statement.specs.Bytes.{execute_bytes}
use Rattle.rq_node.specs.declared.log_entry.LogEntry.{LogEntry}
use Rattle.rq_node.specs.declared.log_entry.Content.{Content}
use Rattle.rq_node.specs.declared.log_entry.Content.TheVariants.{NoOp, Execute}
use Rattle.rq_node.specs.Node.{Persistent, StoredRecord, Vote, Splice, Boot}

-- the node is the one voter, at two ports of its name
abbrev pub first_config : List ℕ → List Member
first_config id = record { id = id; voter = true; http = id ++ codes ":4001"; raft = id ++ codes ":4002" } ∷ []

-- no tables, no marks, and the one id
abbrev pub first_image : List ℕ → List ℕ
first_image id = 1 ∷ (u32_bytes 0 ++ (u32_bytes 0 ++ (u32_bytes 1 ++ sized id)))

-- the base of a new node: an empty log
abbrev pub first_base : List ℕ → Base
first_base id = record { term = 0; vote = None; boot = 0; index = 0; last_term = 0; config = first_config id; state = first_image id }

-- what a new node keeps, which never booted
abbrev pub first_persistent : Persistent
first_persistent = record { term = 0; vote = None; boot = 0; log = [] }

-- what an entry is in the log file
abbrev pub body_of : Content → Body
body_of NoOp = body.NoOp
body_of (Execute items) = body.Data (execute_bytes items)

abbrev pub stored_entry : LogEntry → Entry
stored_entry entry = record { term = entry.term; body = body_of entry.content }

-- what a file stands for that has what a node keeps
abbrev pub stored_of : List ℕ → Persistent → Stored
stored_of id kept = record { base = first_base id; term = kept.term; vote = kept.vote; boot = kept.boot; entries = map stored_entry kept.log }

-- the frame that makes a thing durable
abbrev pub frame_of : StoredRecord → Frame
frame_of (Vote term vote) = frame.Vote term vote
frame_of (Splice from entries) = frame.Splice from (map stored_entry entries)
frame_of (Boot boot) = frame.Boot boot
