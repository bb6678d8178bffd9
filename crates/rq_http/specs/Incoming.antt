-- What is held of a connection's bytes.
use Rattle.std.specs.Prelude.{◌≡◌, ◌≤◌, ⊤, [], Bool, IsTrue, ℕ, List, ◌++◌, ◌+◌, length, take, drop}
use Rattle.httparse.specs.Grammar.{RequestHead}
use Rattle.httparse.specs.Spans.{span_bytes, IsWithin}
use Rattle.rq_http.specs.declared.place.Front.{Front}
use Rattle.rq_http.specs.declared.place.Front.TheVariants.{Head, Part, Broken}
use Rattle.rq_http.specs.declared.incoming.Asked.{Asked}
use Rattle.rq_http.specs.declared.incoming.Judged.{Judged}
use Rattle.rq_http.specs.declared.incoming.Judged.TheVariants as judged
use Rattle.rq_http.specs.declared.incoming.Next.{Next}
use Rattle.rq_http.specs.declared.incoming.Next.TheVariants as next
use Rattle.rq_http.specs.declared.connection.Turn.{Turn}
use Rattle.rq_http.specs.declared.connection.Turn.TheVariants as turn
use Rattle.rq_http.specs.Front.{front_of}
use Rattle.rq_http.specs.Request.{Request, IsNext, IsRefused, IsUnfinished, IsHead, fields_of}
use Rattle.rq_http.specs.declared.head.Framing.TheVariants.{Body}
use Rattle.rq_http.specs.Framing.{framing_of, closes_after}

-- what stands at the start, whatever follows; only a part may still become something else
abbrev pub IsFound : List ℕ → Front → Type 0
IsFound held (Head size) = (size ≤ length held) × (size ≤ 16384) × ((more : List ℕ) → front_of (held ++ more) ≡ Head size)
IsFound held Broken = (more : List ℕ) → front_of (held ++ more) ≡ Broken
IsFound held (Part place) = front_of held ≡ Part place

-- the request whose parts stand there
abbrev pub request_at : List ℕ → Asked → Request
request_at held asked = record { method = span_bytes held asked.method; target = span_bytes held asked.target; body = span_bytes held asked.body }

-- this request is the next one, whatever follows
pub record IsAsked (held : List ℕ) (asked : Asked) : Type 0 where
  pub method : IsWithin (length held) asked.method
  pub target : IsWithin (length held) asked.target
  pub body : IsWithin (length held) asked.body
  pub next : (more : List ℕ) → IsNext (held ++ more) (request_at held asked) asked.closes (drop asked.body.end held ++ more)

-- the head of so many bytes is that of this request
pub record IsComing (held : List ℕ) (size : ℕ) (asked : Asked) : Type 0 where
  pub h : RequestHead
  pub head : IsHead (take size held) h
  pub count : ℕ
  pub framing : framing_of (fields_of h) ≡ Body count
  pub start : asked.body.start ≡ size
  pub end : asked.body.end ≡ size + count
  pub method : span_bytes (take size held) asked.method ≡ h.method
  pub target : span_bytes (take size held) asked.target ≡ h.target
  pub method_within : IsWithin (length (take size held)) asked.method
  pub target_within : IsWithin (length (take size held)) asked.target
  pub closes : asked.closes ≡ closes_after h.method h.minor (fields_of h)

-- what the head of so many bytes says of what follows it
abbrev pub IsJudged : List ℕ → ℕ → Judged → Type 0
IsJudged held size (judged.Coming asked) = IsComing held size asked
IsJudged held size (judged.Refused refusal) = (more : List ℕ) → IsRefused (held ++ more) refusal

-- what comes next, whatever follows; at the end of the input a part of a request
abbrev pub IsBrought : Bool → List ℕ → List ℕ → Next → Type 0
IsBrought told left held (next.Request asked) = IsAsked held asked
IsBrought told left held (next.Refused refusal) = (more : List ℕ) → IsRefused (held ++ more) refusal
IsBrought told left held next.End = (IsTrue told → left ≡ []) × IsUnfinished held

-- a head ends no earlier than at this place
abbrev pub EndsFrom : ℕ → Front → Type 0
EndsFrom scanned (Head size) = scanned ≤ size
EndsFrom scanned (Part place) = ⊤
EndsFrom scanned Broken = ⊤

-- at most one read, of 4,096 bytes, is held behind the head
abbrev pub IsNearHead : List ℕ → Front → Type 0
IsNearHead held (Head size) = length held ≤ size + 4096
IsNearHead held (Part place) = ⊤
IsNearHead held Broken = ⊤

-- at most one read is held behind the request, which has at most 16,384 + 1,048,576 bytes
abbrev pub IsNearRequest : List ℕ → Next → Type 0
IsNearRequest held (next.Request asked) = (length held ≤ asked.body.end + 4096) × (asked.body.end ≤ 1064960)
IsNearRequest held (next.Refused refusal) = ⊤
IsNearRequest held next.End = ⊤

-- at most one read is held between two requests
abbrev pub IsNearTurn : List ℕ → Turn → Type 0
IsNearTurn held turn.On = length held ≤ 4096
IsNearTurn held (turn.End served) = ⊤
