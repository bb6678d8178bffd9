-- What a connection does, as docs/API.md has it, "Connections".
use Rattle.std.specs.Prelude.{◌≡◌, ◌<◌, ◌+◌, ℕ, List, [], ◌∷◌, ◌++◌, Bool, true, false, length, codes, decimal, None, IsTrue}
use Rattle.rq_http.specs.declared.port.Reply.{Reply}
use Rattle.rq_http.specs.declared.head.Refusal.{Refusal}
use Rattle.rq_http.specs.declared.head.Refusal.TheVariants.{BadHead, LongBody}
use Rattle.rq_http.specs.declared.connection.Served.{Served}
use Rattle.rq_http.specs.declared.connection.Turn.{Turn}
use Rattle.rq_http.specs.declared.connection.Turn.TheVariants as turn
use Rattle.rq_http.specs.declared.connection.Served.TheVariants.{Done, Short, Refused, Limit}
use Rattle.rq_http.specs.Exchange.{Exchange}
use Rattle.rq_http.specs.Request.{Request, IsNext, IsRefused, IsUnfinished}
use Rattle.rq_http.specs.Response.{response}
use Rattle.rq_http.specs.Streams.{IsPrefix}

-- a request and its reply
abbrev pub exchange : Request → Reply → Exchange
exchange r reply = record { method = r.method; target = r.target; body = r.body; reply = reply }

-- a plain text with a status
abbrev pub plain : ℕ → List ℕ → Reply
plain status text = record { status = status; json = false; location = None; body = text }

-- the reply to a head that is refused
abbrev pub refusal_reply : Refusal → Reply
refusal_reply BadHead = plain 400 (codes "bad head")
refusal_reply (LongBody n) = plain 413 (codes "body too long: " ++ decimal n)

-- the first requests of the bytes were answered so, with this text, and these bytes are left
pub data Answered (bytes : List ℕ) : List Exchange → List ℕ → List ℕ → Type 0 where
  none : Answered bytes [] [] bytes
  next : (done : List Exchange) (text left : List ℕ) (r : Request) (reply : Reply) (rest : List ℕ)
      → Answered bytes done text left → length done + 1 < 10000 → IsNext left r false rest
      → Answered bytes (done ++ exchange r reply ∷ []) (text ++ response false reply) rest

-- how a connection ends: what it answers, the requests with their replies, and all that is written
pub data Ends (bytes : List ℕ) : Served → List Exchange → List ℕ → Type 0 where
  -- between two requests
  complete : (done : List Exchange) (text : List ℕ) → Answered bytes done text [] → Ends bytes (Done (length done)) done text
  -- the connection ends after this request
  closed : (done : List Exchange) (text left : List ℕ) (r : Request) (reply : Reply) (rest : List ℕ)
      → Answered bytes done text left → length done < 10000 → IsNext left r true rest
      → Ends bytes (Done (length done + 1)) (done ++ exchange r reply ∷ []) (text ++ response true reply)
  -- within a request
  short : (done : List Exchange) (text left : List ℕ) → Answered bytes done text left → 0 < length left → IsUnfinished left
      → Ends bytes (Short (length done) (length left)) done text
  -- a head is refused
  refused : (done : List Exchange) (text left : List ℕ) (refusal : Refusal) → Answered bytes done text left → IsRefused left refusal
      → Ends bytes (Refused (length done + 1)) done (text ++ response true (refusal_reply refusal))
  -- the last request that is answered
  limit : (done : List Exchange) (text left : List ℕ) (r : Request) (reply : Reply) (rest : List ℕ)
      → Answered bytes done text left → length done + 1 ≡ 10000 → IsNext left r false rest
      → Ends bytes (Limit 10000) (done ++ exchange r reply ∷ []) (text ++ response true reply)

-- how far a connection that is broken off has come: the requests that the port answered, and what is written
pub data BrokenOff (bytes : List ℕ) : List Exchange → List ℕ → Type 0 where
  between : (done : List Exchange) (text left : List ℕ) → Answered bytes done text left → BrokenOff bytes done text
  -- in the response to one more request
  answering : (done : List Exchange) (text left : List ℕ) (r : Request) (reply : Reply) (closes last : Bool) (rest front : List ℕ)
      → Answered bytes done text left → IsNext left r closes rest → IsPrefix front (response last reply)
      → BrokenOff bytes (done ++ exchange r reply ∷ []) (text ++ front)
  refusing : (done : List Exchange) (text left : List ℕ) (refusal : Refusal) (front : List ℕ)
      → Answered bytes done text left → IsRefused left refusal → IsPrefix front (response true (refusal_reply refusal))
      → BrokenOff bytes done (text ++ front)

-- the bytes left, the bytes taken and the requests answered
pub record Outer : Type 0 where
  pub left : List ℕ
  pub taken : List ℕ
  pub asked : List Exchange

-- which of these are told
pub record Tells : Type 0 where
  pub source : Bool
  pub sink : Bool
  pub port : Bool

-- P holds of what was written and of the requests that were answered, where they are told
abbrev pub Happens : Tells → Outer → Outer → (List ℕ → List Exchange → Type 0) → Type 0
Happens tells old new P =
    (out : List ℕ) × (done : List Exchange) × (IsTrue tells.sink → new.taken ≡ old.taken ++ out) × (IsTrue tells.port → new.asked ≡ old.asked ++ done) × P out done

-- these requests of what was read were answered with this text, and these bytes are held
pub record Stands (read : List ℕ) (done : List Exchange) (text held : List ℕ) (count : ℕ) : Type 0 where
  pub answered : (more : List ℕ) → Answered (read ++ more) done text (held ++ more)
  pub count_is : count ≡ length done

-- one more request was answered, and these bytes are held now
abbrev pub GoesOn : Tells → Outer → Outer → List ℕ → ℕ → List ℕ → Type 0
GoesOn tells old new held count held_new =
    (read : List ℕ) (done : List Exchange) (text : List ℕ) → Stands read done text held count
    → Happens tells old new (λ out more. Stands read (done ++ more) (text ++ out) held_new (count + 1))

-- the connection comes to E, whatever follows the bytes held
abbrev pub ComesTo : Tells → Outer → Outer → List ℕ → ℕ → (List ℕ → List Exchange → List ℕ → Type 0) → Type 0
ComesTo tells old new held count E =
    (read : List ℕ) (done : List Exchange) (text : List ℕ) → Stands read done text held count
    → (rest : List ℕ) → Happens tells old new (λ out more. E (read ++ rest) (done ++ more) (text ++ out))

-- what a turn comes to that has read all that it needs
abbrev pub IsTurn : Tells → Outer → Outer → List ℕ → ℕ → List ℕ → Turn → Type 0
IsTurn tells old new held count held_new turn.On = (count + 1 < 10000) × GoesOn tells old new held count held_new
IsTurn tells old new held count held_new (turn.End served) = ComesTo tells old new held count (λ bytes. Ends bytes served)

-- one more request was read and answered
abbrev pub ReadsOn : Tells → Outer → Outer → List ℕ → ℕ → List ℕ → Type 0
ReadsOn tells old new held count held_new =
    (read : List ℕ) (done : List Exchange) (text : List ℕ) → Stands read done text held count
    → (got : List ℕ) × (IsTrue tells.source → old.left ≡ got ++ new.left)
    × Happens tells old new (λ out more. Stands (read ++ got) (done ++ more) (text ++ out) held_new (count + 1))

-- over all the bytes left the connection comes to E
abbrev pub Finally : Tells → Outer → Outer → List ℕ → ℕ → (List ℕ → List Exchange → List ℕ → Type 0) → Type 0
Finally tells old new held count E =
    (read : List ℕ) (done : List Exchange) (text : List ℕ) → Stands read done text held count
    → (bytes : List ℕ) × (IsTrue tells.source → bytes ≡ old.left)
    × Happens tells old new (λ out more. E (read ++ bytes) (done ++ more) (text ++ out))

-- what a turn comes to
abbrev pub IsWholeTurn : Tells → Outer → Outer → List ℕ → ℕ → List ℕ → Turn → Type 0
IsWholeTurn tells old new held count held_new turn.On = (count + 1 < 10000) × ReadsOn tells old new held count held_new
IsWholeTurn tells old new held count held_new (turn.End served) = Finally tells old new held count (λ bytes. Ends bytes served)

-- the response to a request was written, or a part of it
abbrev pub IsAnswer : Request → Bool → List ℕ → List Exchange → Type 0
IsAnswer r last out done = (reply : Reply) × (out ≡ response last reply) × (done ≡ exchange r reply ∷ [])

pub data IsPartOfAnswer (r : Request) (last : Bool) : List ℕ → List Exchange → Type 0 where
  unasked : IsPartOfAnswer r last [] []
  part : (reply : Reply) (front : List ℕ) → IsPrefix front (response last reply) → IsPartOfAnswer r last front (exchange r reply ∷ [])

-- the whole of a connection over these bytes
abbrev pub Runs : Tells → Outer → Outer → (List ℕ → List Exchange → List ℕ → Type 0) → Type 0
Runs tells old new E =
    (bytes : List ℕ) × (IsTrue tells.source → bytes ≡ old.left) × Happens tells old new (λ out done. E bytes done out)

abbrev pub request_of : Exchange → Request
request_of e = record { method = e.method; target = e.target; body = e.body }

abbrev pub reply_of : Exchange → Reply
reply_of e = e.reply

-- each response that was begun was written whole
abbrev pub IsWhole : List ℕ → List Exchange → List ℕ → Type 0
IsWhole bytes done text = (left : List ℕ) × Answered bytes done text left
