-- What an event says: its text, as docs/SCRIPT.md, "Output", has it, and its notes in the world's book.
use Rattle.std.specs.Prelude.{ℕ, List, [], ◌∷◌, ◌++◌, flat_map, map, length, codes, decimal}
use Rattle.rq_history.specs.History.{NodeId}
use Rattle.rq_raft.specs.declared.role.Role.{Role}
use Rattle.rq_raft.specs.declared.role.Role.TheVariants.{Follower, Candidate, Leader}
use Rattle.rq_request.specs.declared.say.Say.{Say}
use Rattle.rq_request.specs.declared.say.Say.TheVariants.{Moved}
use Rattle.rq_request.specs.declared.say.Answer.{Answer}
use Rattle.rq_request.specs.Say.{status_of}
use Rattle.rq_request.specs.declared.shape.Shape.{Shape}
use Rattle.rq_replies.specs.Reply.{body_of}
use Rattle.rq_world.specs.Node.{Node}
use Rattle.rq_world.specs.World.{Op, Note, Asked, Answered, NodeState}
use Rattle.rq_world.specs.World as world

pub data Said : Type 0 where
  Up : (id : NodeId) (node : Node) → Said  -- the server was opened, and runs as this node
  Down : (id : NodeId) → Said  -- the server went down, or couldn't be opened
  Put : (number : ℕ) (id : NodeId) (op : Op) → Said  -- an ask was put to the node that runs at the server
  Rejected : (number status : ℕ) (text : List ℕ) → Said  -- an ask's request was refused with this reply, before a node was asked
  Missed : (number : ℕ) (id : NodeId) → Said  -- an ask found no node that runs at the server
  Gave : (number : ℕ) (say : Say) (place : ℕ) → Said  -- an ask was answered, at a place
  Shown : (id : NodeId) (state : NodeState) → Said

-- ---- its text

-- up ID boot B term T last L
abbrev pub up_text : NodeId → ℕ → ℕ → ℕ → List ℕ
up_text id boot term last = codes "up " ++ id ++ codes " boot " ++ decimal boot ++ codes " term " ++ decimal term ++ codes " last " ++ decimal last ++ codes "\n"

-- down ID
abbrev pub down_text : NodeId → List ℕ
down_text id = codes "down " ++ id ++ codes "\n"

-- answer K S BODY
abbrev pub answer_text : ℕ → ℕ → List ℕ → List ℕ
answer_text number status body = codes "answer " ++ decimal number ++ codes " " ++ decimal status ++ codes " " ++ body ++ codes "\n"

-- the address to which a request is sent on stands in place of a body
abbrev pub written_body : Shape → Say → List ℕ
written_body shape (Moved address) = address
written_body shape say = body_of shape say

abbrev pub role_text : Role → List ℕ
role_text Follower = codes "follower"
role_text Candidate = codes "candidate"
role_text Leader = codes "leader"

-- how a node stands
pub record Standing : Type 0 where
  pub role : Role
  pub term : ℕ
  pub base : ℕ
  pub last : ℕ
  pub commit : ℕ
  pub applied : ℕ

abbrev pub standing_of : Node → Standing
standing_of n = record { role = n.raft.role; term = n.raft.term; base = n.raft.base; last = length n.raft.log; commit = n.raft.commit; applied = n.raft.applied }

-- show ID ROLE term T base B last L commit C applied A
abbrev pub show_text : NodeId → Standing → List ℕ
show_text id s =
    codes "show " ++ id ++ codes " " ++ role_text s.role ++ codes " term " ++ decimal s.term ++ codes " base " ++ decimal s.base ++ codes " last " ++ decimal s.last
    ++ codes " commit " ++ decimal s.commit ++ codes " applied " ++ decimal s.applied ++ codes "\n"

-- show ID down
abbrev pub show_down_text : NodeId → List ℕ
show_down_text id = codes "show " ++ id ++ codes " down\n"

abbrev pub state_text : NodeId → NodeState → List ℕ
state_text id (world.Running n) = show_text id (standing_of n)
state_text id (world.Down kept rest) = show_down_text id

-- with the shape of each ask's reply
abbrev pub said_text : (ℕ → Shape) → Said → List ℕ
said_text shapes (Up id node) = up_text id node.boot node.raft.term (length node.raft.log)
said_text shapes (Down id) = down_text id
said_text shapes (Put number id op) = []
said_text shapes (Rejected number status text) = answer_text number status text
said_text shapes (Missed number id) = []
said_text shapes (Gave number say place) = answer_text number (status_of say) (written_body (shapes number) say)
said_text shapes (Shown id state) = state_text id state

-- what is written
abbrev pub text_of : (ℕ → Shape) → List Said → List ℕ
text_of shapes said = flat_map (said_text shapes) said

-- ---- its notes

abbrev pub said_notes : Said → List Note
said_notes (Up id node) = []
said_notes (Down id) = []
said_notes (Put number id op) = Asked number id op ∷ []
said_notes (Rejected number status text) = []
said_notes (Missed number id) = []
said_notes (Gave number say place) = Answered number say place ∷ []
said_notes (Shown id state) = []

-- what is noted
abbrev pub notes_of : List Said → List Note
notes_of [] = []
notes_of (s ∷ said) = said_notes s ++ notes_of said

-- ---- what asks and answers say

abbrev pub gave : ℕ → List Answer → List Said
gave place answers = map (λ (a : Answer). Gave a.number a.say place) answers

-- pending K
abbrev pub pending_text : ℕ → List ℕ
pending_text number = codes "pending " ++ decimal number ++ codes "\n"
