-- What a head says of the body and of the connection, as docs/API.md has it, "Heads" and "Connections".
use Rattle.std.specs.Prelude.{ℕ, List, Bool, ◌||◌, ◌&&◌, not, if◌then◌else◌, ◌==◌, nat_le, codes}
use Rattle.std.specs.Str.{bytes_eq}
use Rattle.std.specs.List.{list_any}
use Rattle.http1.specs.Text.{eq_ignore_case}
use Rattle.http1.specs.Fields.{Header, is_named, known_fields}
use Rattle.http1.specs.declared.fields.KnownFields.{KnownFields}
use Rattle.http1.specs.declared.fields.ContentLength.{ContentLength}
use Rattle.http1.specs.declared.fields.ContentLength.TheVariants as Length
use Rattle.http1.specs.declared.fields.TransferEncoding.{TransferEncoding}
use Rattle.http1.specs.declared.fields.TransferEncoding.TheVariants as Coding
use Rattle.rq_http.specs.declared.head.Framing.{Framing}
use Rattle.rq_http.specs.declared.head.Framing.TheVariants.{Bad, Body, Long}

-- a Content-Encoding other than identity
abbrev pub is_encoded : Header → Bool
is_encoded h = is_named (codes "content-encoding") h && not (eq_ignore_case h.1 (codes "identity"))

-- a body of so many bytes, or one that is too long
abbrev pub sized : ℕ → Framing
sized n = if nat_le n 1048576 then Body n else Long n

-- the length is one plain number, or there is none
abbrev pub by_length : KnownFields → ContentLength → Framing
by_length known Length.Absent = Body 0
by_length known (Length.Value n) = if known.plain_framing && (known.framing_fields == 1) then sized n else Bad
by_length known Length.Invalid = Bad

-- and there is no Transfer-Encoding
abbrev pub by_coding : KnownFields → TransferEncoding → Framing
by_coding known Coding.Absent = by_length known known.content_length
by_coding known Coding.Chunked = Bad
by_coding known Coding.Other = Bad
by_coding known Coding.Blank = Bad
by_coding known Coding.Invalid = Bad

-- what the fields say of the body
abbrev pub framing_of : List Header → Framing
framing_of headers =
    let known = known_fields headers in
    if list_any is_encoded headers then Bad else by_coding known known.transfer_encoding

-- a HEAD request, whose response a client takes to have no body
abbrev pub is_head_method : List ℕ → Bool
is_head_method method = bytes_eq method (codes "HEAD")

-- the connection ends after this request: it is one of HTTP/1.0 or a HEAD, or its client closes
abbrev pub closes_after : List ℕ → ℕ → List Header → Bool
closes_after method minor headers = is_head_method method || ((minor == 0) || (known_fields headers).close)
