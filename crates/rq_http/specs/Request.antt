-- The requests of a connection's bytes, as docs/API.md has it, "Heads" and "Connections".
use Rattle.std.specs.Prelude.{◌≡◌, ◌≤◌, ◌<◌, ◌+◌, ℕ, List, [], ◌++◌, Bool, map, take, drop, length}
use Rattle.httparse.specs.Grammar.{RequestHead, ReadsRequest}
use Rattle.httparse.specs.Spans.{name_and_value}
use Rattle.http1.specs.Fields.{Header}
use Rattle.rq_http.specs.declared.place.Place.{Place}
use Rattle.rq_http.specs.declared.place.Front.TheVariants.{Head, Part, Broken}
use Rattle.rq_http.specs.declared.head.Framing.TheVariants.{Bad, Body, Long}
use Rattle.rq_http.specs.declared.head.Refusal.{Refusal}
use Rattle.rq_http.specs.declared.head.Refusal.TheVariants.{BadHead, LongBody}
use Rattle.rq_http.specs.Front.{front_of}
use Rattle.rq_http.specs.Framing.{framing_of, closes_after}

pub record Request : Type 0 where
  pub method : List ℕ
  pub target : List ℕ
  pub body : List ℕ

-- the names and values of a head's fields
abbrev pub fields_of : RequestHead → List Header
fields_of h = map name_and_value h.fields

-- the bytes are this head, of at most 64 fields
abbrev pub IsHead : List ℕ → RequestHead → Type 0
IsHead bytes h = ReadsRequest bytes h [] × (length h.fields ≤ 64)

-- the request at the start, whether the connection ends after it, and what follows
pub record IsNext (bytes : List ℕ) (r : Request) (closes : Bool) (rest : List ℕ) : Type 0 where
  pub size : ℕ
  pub front : front_of bytes ≡ Head size
  pub h : RequestHead
  pub head : IsHead (take size bytes) h
  pub framing : framing_of (fields_of h) ≡ Body (length r.body)
  pub follows : drop size bytes ≡ r.body ++ rest
  pub method : h.method ≡ r.method
  pub target : h.target ≡ r.target
  pub closes_is : closes ≡ closes_after h.method h.minor (fields_of h)

-- the head at the start is refused
pub data IsRefused (bytes : List ℕ) : Refusal → Type 0 where
  broken : front_of bytes ≡ Broken → IsRefused bytes BadHead
  -- no head within the limits whose body is framed
  bad : (size : ℕ) → front_of bytes ≡ Head size
      → ((h : RequestHead) → IsHead (take size bytes) h → framing_of (fields_of h) ≡ Bad) → IsRefused bytes BadHead
  long : (size : ℕ) (h : RequestHead) (n : ℕ) → front_of bytes ≡ Head size → IsHead (take size bytes) h
      → framing_of (fields_of h) ≡ Long n → IsRefused bytes (LongBody n)

-- the bytes are a part of a request
pub data IsUnfinished (bytes : List ℕ) : Type 0 where
  in_head : (place : Place) → front_of bytes ≡ Part place → IsUnfinished bytes
  in_body : (size : ℕ) (h : RequestHead) (n : ℕ) → front_of bytes ≡ Head size → IsHead (take size bytes) h
      → framing_of (fields_of h) ≡ Body n → length bytes < size + n → IsUnfinished bytes
