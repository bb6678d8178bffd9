-- The history of a script's lines: the book of asks and answers, and the one log that was chosen. docs/RAFT.md, "What a run promises".
use Rattle.std.specs.Prelude.{◌+◌, ◌-◌, if◌then◌else◌, nat_lt, ℕ, zero, suc, List, [], ◌∷◌, ◌++◌, length, take, map, slice_get, Option, Some, None, option_and_then}
use Rattle.rq_statement.specs.declared.item.Item.{Item}
use Rattle.rq_request.specs.declared.say.Say.{Say}
use Rattle.rq_request.specs.declared.say.Answer.{Answer}
use Rattle.rq_node.specs.declared.log_entry.LogEntry.{LogEntry}
use Rattle.rq_node.specs.Node.{Node, Turn}
use Rattle.rq_node.specs.Rules.{execute, query, applied_entry}
use Rattle.rq_script.specs.ScriptLine.{Line, Skip, Cluster as ClusterLine, At, Elect, Apply, Execute, Query, Stop, StopWithin, Start, Show, line_of}
use Rattle.rq_script.specs.Cluster.{Stand, Running, Down, Armed, Server, Cluster, Course, Fate, Done, Struck, Failed, fate, Way}
use Rattle.rq_script.specs.Runs.{Runs}

-- what an ask is for
pub data Op : Type 0 where
  Write : (items : List Item) → Op
  Read : (items : List Item) → Op

-- an ask was put to a node, or it was answered at a place: the index of its entry, or how many entries the replica had applied that was read
pub data Note : Type 0 where
  Asked : (number : ℕ) (op : Op) → Note
  Answered : (number : ℕ) (say : Say) (place : ℕ) → Note

-- answers at one place
abbrev pub at_place : ℕ → List Answer → List Note
at_place place answers = map (λ (answer : Answer). Answered answer.number answer.say place) answers

-- the answers of a turn: one that is broken off gives none
abbrev pub said_by : Fate → Turn → ℕ → List Note
said_by Done turn place = at_place place turn.answers
said_by Struck turn place = []
said_by Failed turn place = []

abbrev pub said : Course → Option Armed → Turn → ℕ → List Note
said course armed turn place = said_by (fate course armed turn.records) turn place

-- the answers where a node applies so many entries, each at the index of its entry
unfoldable pub applying : ℕ → Node → List Note
applying zero n = []
applying (suc k) n =
    let next = applied_entry n (slice_get n.log n.applied) in
    at_place (n.applied + 1) next.answers ++ applying k next.node

-- the node that runs
abbrev pub node_at : Stand → Option Node
node_at (Running n) = Some n
node_at (Down kept rest) = None

abbrev pub node_in : Cluster → Option Node
node_in c = option_and_then (λ (s : Server). node_at s.stand) c.server

-- what is noted of an ask
abbrev pub said_at : Course → Option Armed → (Node → Turn) → Stand → List Note
said_at course armed rule (Running n) = said course armed (rule n) n.applied
said_at course armed rule (Down kept rest) = []

abbrev pub asking : Course → Option Server → ℕ → Op → (Node → Turn) → List Note
asking course None number op rule = Asked number op ∷ []
asking course (Some s) number op rule = Asked number op ∷ said_at course s.armed rule s.stand

abbrev pub applying_at : Option Node → List Note
applying_at None = []
applying_at (Some n) = applying (n.commit - n.applied) n

-- what is noted of a line
abbrev pub notes : Cluster → Line → List Item → Course → List Note
notes c Skip items course = []
notes c (ClusterLine id) items course = []
notes c (At id Elect) items course = []
notes c (At id Apply) items course = applying_at (node_in c)
notes c (At id (Execute body)) items course = asking course c.server (c.asks + 1) (Write items) (λ n. execute n (c.asks + 1) items)
notes c (At id (Query body)) items course = asking course c.server (c.asks + 1) (Read items) (λ n. query n (c.asks + 1) items)
notes c (At id Stop) items course = []
notes c (At id (StopWithin calls pick)) items course = []
notes c (At id Start) items course = []
notes c (At id Show) items course = []

abbrev pub notes_of : Cluster → Option Line → List Item → Course → List Note
notes_of c None items course = []
notes_of c (Some line) items course = notes c line items course

-- the longer of two lists, of two of one length the first
abbrev pub longer : List LogEntry → List LogEntry → List LogEntry
longer one two = if nat_lt (length one) (length two) then two else one

-- the log that was chosen, where this was chosen before: the longest that a node has committed
abbrev pub chosen_with : Option Node → List LogEntry → List LogEntry
chosen_with None before = before
chosen_with (Some n) before = longer before (take n.commit n.log)

-- the book in order, and the log that was chosen
pub record History : Type 0 where
  pub book : List Note
  pub chosen : List LogEntry

abbrev pub first_history : History
first_history = record { book = []; chosen = [] }

-- the history after a line that went this way
abbrev pub history_after : History → Cluster → (bytes : List ℕ) → Way bytes → Cluster → History
history_after h c bytes way next = record {
  book = h.book ++ notes_of c (line_of bytes) way.items way.course;
  chosen = chosen_with (node_in next) h.chosen;
}

-- the history of a run
unfoldable pub history : {lines : _} {text : List ℕ} {c : Cluster} → Runs lines text c → History
history Runs.start = first_history
history (Runs.line {c} l more next run within steps) = history_after (history run) c l.text steps.0 next
