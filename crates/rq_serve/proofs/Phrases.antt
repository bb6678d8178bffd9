-- Each reply has a status with a phrase.
use Rattle.std.proofs.Common.{◌≡◌, inl, inr, refl, ap, subst, sym, ℕ, List, Option, Some, None, Result, Ok, Err}
use Rattle.rq_http.specs.Exchange.{HasPhrase}
use Rattle.rq_http.specs.declared.port.Reply.{Reply}
use Rattle.rq_bodies.specs.ErrorText.{error_status}
use Rattle.rq_bodies.specs.declared.error.BodyError.{BodyError}
use Rattle.rq_bodies.specs.declared.error.BodyError.TheVariants as body
use Rattle.rq_request.specs.Say.{status_of, refusal_status}
use Rattle.rq_request.specs.declared.say.Say.{Say}
use Rattle.rq_request.specs.declared.say.Say.TheVariants as say
use Rattle.rq_request.specs.declared.say.NodeRefusal.{NodeRefusal}
use Rattle.rq_request.specs.declared.say.NodeRefusal.TheVariants as refuses
use Rattle.rq_route.specs.Refusal.{status_of as refused_status}
use Rattle.rq_route.specs.declared.refusal.Refusal.{Refusal}
use Rattle.rq_route.specs.declared.refusal.Refusal.TheVariants as refusal
use Rattle.rq_request.specs.declared.ask.Ask.{Ask}
use Rattle.rq_request.specs.declared.shape.Shape.{Shape}
use Rattle.rq_asking.specs.declared.reading.Requested.{Requested}
use Rattle.rq_asking.specs.declared.reading.Defect.{Defect}
use Rattle.rq_asking.specs.declared.reading.Defect.TheVariants as defects
use Rattle.rq_asking.specs.Requested.{requested_of, status_of as defect_status}
use Rattle.rq_node.specs.Node.{Node}
use Rattle.rq_desk.specs.Asks.{unbuilt_of}
use Rattle.rq_desk.specs.declared.unbuilt.Unbuilt.{Unbuilt}
use Rattle.rq_serve.specs.Replies.{Puts, Given, AnswersAsk, IsReplyTo, IsReply, out_of_memory, defect_reply, said_reply, unbuilt_reply}

ok : HasPhrase 200
ok = inl refl

moved : HasPhrase 301
moved = inr (inl refl)

bad : HasPhrase 400
bad = inr (inr (inl refl))

not_found : HasPhrase 404
not_found = inr (inr (inr (inl refl)))

not_allowed : HasPhrase 405
not_allowed = inr (inr (inr (inr (inl refl))))

too_large : HasPhrase 413
too_large = inr (inr (inr (inr (inr (inl refl)))))

unavailable : HasPhrase 503
unavailable = inr (inr (inr (inr (inr (inr (inl refl))))))

insufficient : HasPhrase 507
insufficient = inr (inr (inr (inr (inr (inr (inr refl))))))

node_refusal : (r : NodeRefusal) → HasPhrase (refusal_status r)
node_refusal (refuses.Stale contact now limit) = unavailable
node_refusal (refuses.NoLeader term) = unavailable
node_refusal (refuses.EntryTooLarge size) = too_large
node_refusal (refuses.QueuedTooLarge size) = too_large
node_refusal (refuses.QueueFull held) = unavailable
node_refusal (refuses.Lost term now) = unavailable
node_refusal (refuses.Timeout asked now) = unavailable

said : (s : Say) → HasPhrase (status_of s)
said (say.Results results) = ok
said (say.Queued number) = ok
said say.Loaded = ok
said (say.Backup sql) = ok
said (say.Nodes members) = ok
said say.Ready = ok
said say.Changed = ok
said (say.Moved address) = moved
said (say.Refused r) = node_refusal r

defect : (e : BodyError) → HasPhrase (error_status e)
defect body.NotJson = bad
defect body.NotAList = bad
defect (body.TooMany count) = bad
defect (body.BadStatement k) = bad
defect (body.BadValue k j) = bad
defect body.BadMember = bad
defect body.NoMemory = insufficient

refused : (r : Refusal) → HasPhrase (refused_status r)
refused refusal.NoPath = not_found
refused refusal.NoMethod = not_allowed
refused (refusal.LongBody n) = too_large
refused (refusal.Parameter key) = bad

defect_phrase : (d : Defect) → HasPhrase (defect_status d)
defect_phrase (defects.Routing r) = refused r
defect_phrase (defects.Body e) = defect e
defect_phrase defects.NoMemory = insufficient

phrase_as : (reply : Reply) (status : ℕ) → reply.status ≡ status → HasPhrase status → HasPhrase reply.status
phrase_as reply status e phrase = subst HasPhrase (sym e) phrase

of_reply : (reply other : Reply) → reply ≡ other → HasPhrase other.status → HasPhrase reply.status
of_reply reply other e phrase = phrase_as reply other.status (ap (λ (x : Reply). x.status) e) phrase

ask_phrase : (start : Node) (puts : Puts) (shape : Shape) (ask : Ask) (u : Option Unbuilt) (reply : Reply) → AnswersAsk start puts shape ask u reply → HasPhrase reply.status
ask_phrase start puts shape ask None reply (put, s) = of_reply reply (said_reply shape s.answer.say) s.is (said s.answer.say)
ask_phrase start puts shape ask (Some u) reply (put, is) = of_reply reply (unbuilt_reply u) is bad

pub answered_phrase : (start : Node) (puts : Puts) (given : Given) (method target : List ℕ) (r : Result Requested Defect) (reply : Reply) → IsReplyTo start puts given method target r reply → HasPhrase reply.status
answered_phrase start puts given method target (Err d) reply (put, is) = of_reply reply (defect_reply method target d) is (defect_phrase d)
answered_phrase start puts given method target (Ok r) reply a = ask_phrase start puts r.request.shape a.ask (unbuilt_of a.ask.op) reply a.answers

pub reply_phrase : (start : Node) (puts : Puts) (given : Given) (method target bytes : List ℕ) (reply : Reply) → IsReply start puts given method target bytes reply → HasPhrase reply.status
reply_phrase start puts given method target bytes reply (inl memory) = of_reply reply out_of_memory memory insufficient
reply_phrase start puts given method target bytes reply (inr other) = answered_phrase start puts given method target (requested_of method target bytes) reply other
