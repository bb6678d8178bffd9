-- A head that was read.
use Rattle.std.specs.Prelude.{◌≡◌, ℕ, List, length}
use Rattle.httparse.specs.Grammar.{RequestHead}
use Rattle.httparse.specs.Spans.{span_bytes, IsWithin}
use Rattle.rq_http.specs.declared.head.ReadHead.{ReadHead}
use Rattle.rq_http.specs.Framing.{framing_of, closes_after}
use Rattle.rq_http.specs.Request.{IsHead, fields_of}

-- the bytes are a head, whose parts stand there
pub record IsReadHead (bytes : List ℕ) (head : ReadHead) : Type 0 where
  pub h : RequestHead
  pub is : IsHead bytes h
  pub method : span_bytes bytes head.method ≡ h.method
  pub target : span_bytes bytes head.target ≡ h.target
  pub method_within : IsWithin (length bytes) head.method
  pub target_within : IsWithin (length bytes) head.target
  pub framing : head.framing ≡ framing_of (fields_of h)
  pub closes : head.closes ≡ closes_after h.method h.minor (fields_of h)
