-- The replies to requests: docs/API.md, "Requests", "Refusals" and "Replies".
use Rattle.std.specs.Prelude.{◌≡◌, ◌⊎◌, ℕ, Bool, true, false, IsTrue, List, [], ◌∷◌, ◌++◌, codes, slice_get, Option, Some, None, Result, Ok, Err}
use Rattle.rq_http.specs.declared.port.Reply.{Reply}
use Rattle.rq_replies.specs.Reply.{body_of}
use Rattle.rq_request.specs.Say.{status_of}
use Rattle.rq_request.specs.declared.ask.Ask.{Ask}
use Rattle.rq_request.specs.declared.say.Answer.{Answer}
use Rattle.rq_request.specs.declared.say.Say.{Say}
use Rattle.rq_request.specs.declared.say.Say.TheVariants.{Results, Queued, Loaded, Backup, Nodes, Ready, Changed, Moved, Refused}
use Rattle.rq_request.specs.declared.shape.Shape.{Shape}
use Rattle.rq_asking.specs.declared.reading.Requested.{Requested}
use Rattle.rq_asking.specs.declared.reading.Defect.{Defect}
use Rattle.rq_asking.specs.Requested.{requested_of, text_of, status_of as defect_status}
use Rattle.rq_asking.specs.Asked.{IsAsk}
use Rattle.rq_node.specs.declared.event.Event.{Event}
use Rattle.rq_node.specs.Node.{Node}
use Rattle.rq_hub.specs.Runs.{run}
use Rattle.rq_desk.specs.Asks.{unbuilt_of}
use Rattle.rq_desk.specs.declared.unbuilt.Unbuilt.{Unbuilt}
use Rattle.rq_desk.specs.declared.unbuilt.Unbuilt.TheVariants as unbuilt

-- a reply in plain text
abbrev pub plain : ℕ → List ℕ → Reply
plain status text = record { status = status; json = false; location = None; body = text }

abbrev pub out_of_memory : Reply
out_of_memory = plain 507 (codes "out of memory")

-- the reply to a request that has a defect
abbrev pub defect_reply : List ℕ → List ℕ → Defect → Reply
defect_reply method target defect = plain (defect_status defect) (text_of method target defect)

-- ---- what isn't built

abbrev pub unbuilt_text : Unbuilt → List ℕ
unbuilt_text unbuilt.Transaction = codes "bad parameter: transaction"
unbuilt_text unbuilt.Mixed = codes "not built: a list that writes and reads"
unbuilt_text unbuilt.Level = codes "bad parameter: level"
unbuilt_text unbuilt.Freshness = codes "bad parameter: freshness"
unbuilt_text unbuilt.Kind = codes "not built"

abbrev pub unbuilt_reply : Unbuilt → Reply
unbuilt_reply u = plain 400 (unbuilt_text u)

-- ---- what a node says

abbrev pub is_json : Say → Bool
is_json (Results results) = true
is_json (Queued number) = true
is_json Loaded = true
is_json (Backup sql) = false
is_json (Nodes members) = true
is_json Ready = false
is_json Changed = true
is_json (Moved address) = false
is_json (Refused refusal) = false

abbrev pub location_of : Say → Option (List ℕ)
location_of (Results results) = None
location_of (Queued number) = None
location_of Loaded = None
location_of (Backup sql) = None
location_of (Nodes members) = None
location_of Ready = None
location_of Changed = None
location_of (Moved address) = Some address
location_of (Refused refusal) = None

-- the reply that says what a node said
abbrev pub said_reply : Shape → Say → Reply
said_reply shape say = record { status = status_of say; json = is_json say; location = location_of say; body = body_of shape say }

-- it says what a rule answered to the ask of this number, at a node that was opened so
pub record IsSaid (start : Node) (number : ℕ) (shape : Shape) (reply : Reply) : Type 0 where
  pub events : List Event
  pub place : ℕ
  pub answer : Answer
  pub given : slice_get (run start events).answers place ≡ Some answer
  pub his : answer.number ≡ number
  pub is : reply ≡ said_reply shape answer.say

-- ---- what a desk was put, where it tells

pub record Puts : Type 0 where
  pub told : Bool
  pub before : List Ask
  pub after : List Ask

-- nothing
abbrev pub PutNothing : Puts → Type 0
PutNothing puts = IsTrue puts.told → puts.after ≡ puts.before

-- this ask, and no other
abbrev pub PutOne : Puts → Ask → Type 0
PutOne puts ask = IsTrue puts.told → puts.after ≡ puts.before ++ ask ∷ []

-- ---- the reply to a request

-- the ask is put, and its answer said; or what of it isn't built is said, and nothing is put
abbrev pub AnswersAsk : Node → Puts → Shape → Ask → Option Unbuilt → Reply → Type 0
AnswersAsk start puts shape ask None reply = PutOne puts ask × IsSaid start ask.number shape reply
AnswersAsk start puts shape ask (Some u) reply = PutNothing puts × (reply ≡ unbuilt_reply u)

-- what a request may use: random words that tell those to come or not, before and after, and the moment
pub record Given : Type 0 where
  pub told : Bool
  pub before : List ℕ
  pub after : List ℕ
  pub moment : ℕ

-- the ask of a request, with what was given for it, is answered
pub record IsAnswered (start : Node) (puts : Puts) (given : Given) (target : List ℕ) (requested : Requested) (reply : Reply) : Type 0 where
  pub number : ℕ
  pub ask : Ask
  pub is : IsAsk given.told requested target number given.moment given.before given.after ask
  pub answers : AnswersAsk start puts requested.request.shape ask (unbuilt_of ask.op) reply

-- the reply to a request that means this, or has this defect
abbrev pub IsReplyTo : Node → Puts → Given → List ℕ → List ℕ → Result Requested Defect → Reply → Type 0
IsReplyTo start puts given method target (Err defect) reply = PutNothing puts × (reply ≡ defect_reply method target defect)
IsReplyTo start puts given method target (Ok requested) reply = IsAnswered start puts given target requested reply

-- the reply to a request
abbrev pub IsReply : Node → Puts → Given → List ℕ → List ℕ → List ℕ → Reply → Type 0
IsReply start puts given method target body reply = (reply ≡ out_of_memory) ⊎ IsReplyTo start puts given method target (requested_of method target body) reply
