-- What a script writes, as docs/SCRIPT.md, "Output", has it.
use Rattle.std.specs.Prelude.{ℕ, false, List, ◌++◌, flat_map, length, codes, decimal}
use Rattle.rq_request.specs.declared.say.Answer.{Answer}
use Rattle.rq_node.specs.Node.{Node}
use Rattle.rq_node.specs.declared.role.Role.{Role}
use Rattle.rq_node.specs.declared.role.Role.TheVariants.{Follower, Candidate, Leader}
use Rattle.rq_request.specs.Say.{status_of}
use Rattle.rq_request.specs.declared.shape.Shape.{Shape}
use Rattle.rq_replies.specs.Reply.{body_of}

-- up ID boot B term T last L
abbrev pub up_text : Node → List ℕ
up_text n = codes "up " ++ n.id ++ codes " boot " ++ decimal n.boot ++ codes " term " ++ decimal n.term ++ codes " last " ++ decimal (length n.log) ++ codes "\n"

-- down ID
abbrev pub down_text : List ℕ → List ℕ
down_text id = codes "down " ++ id ++ codes "\n"

-- lists, without blanks
abbrev pub plain : Shape
plain = record { associative = false; pretty = false }

-- answer K S BODY
abbrev pub answer_text : Answer → List ℕ
answer_text answer = codes "answer " ++ decimal answer.number ++ codes " " ++ decimal (status_of answer.say) ++ codes " " ++ body_of plain answer.say ++ codes "\n"

abbrev pub answers_text : List Answer → List ℕ
answers_text answers = flat_map answer_text answers

-- pending K
abbrev pub pending_text : ℕ → List ℕ
pending_text number = codes "pending " ++ decimal number ++ codes "\n"

abbrev pub role_text : Role → List ℕ
role_text Follower = codes "follower"
role_text Candidate = codes "candidate"
role_text Leader = codes "leader"

-- show ID ROLE term T base B last L commit C applied A
abbrev pub show_text : Node → List ℕ
show_text n =
    codes "show " ++ n.id ++ codes " " ++ role_text n.role ++ codes " term " ++ decimal n.term ++ codes " base 0 last " ++ decimal (length n.log)
    ++ codes " commit " ++ decimal n.commit ++ codes " applied " ++ decimal n.applied ++ codes "\n"

-- show ID down
abbrev pub show_down_text : List ℕ → List ℕ
show_down_text id = codes "show " ++ id ++ codes " down\n"
