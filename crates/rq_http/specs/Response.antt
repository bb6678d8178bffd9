-- The bytes of a response, as docs/API.md has it, "Responses".
use Rattle.std.specs.Prelude.{ℕ, List, [], ◌++◌, Bool, Option, Some, None, if◌then◌else◌, length, codes, decimal}
use Rattle.http.specs.StatusCode.{status_text}
use Rattle.rq_http.specs.declared.port.Reply.{Reply}

unfoldable pub status_line : ℕ → List ℕ
status_line status = codes "HTTP/1.1 " ++ status_text status ++ codes "\r\n"

unfoldable pub type_line : Bool → List ℕ
type_line json =
    if json then codes "Content-Type: application/json; charset=utf-8\r\n" else codes "Content-Type: text/plain; charset=utf-8\r\n"

unfoldable pub length_line : ℕ → List ℕ
length_line n = codes "Content-Length: " ++ decimal n ++ codes "\r\n"

unfoldable pub location_line : Option (List ℕ) → List ℕ
location_line None = []
location_line (Some location) = codes "Location: " ++ location ++ codes "\r\n"

unfoldable pub close_line : Bool → List ℕ
close_line closes = if closes then codes "Connection: close\r\n" else []

-- the bytes of a response; the test says whether the connection ends with it
unfoldable pub response : Bool → Reply → List ℕ
response closes reply =
    status_line reply.status ++ type_line reply.json ++ length_line (length reply.body)
    ++ location_line reply.location ++ close_line closes ++ codes "\r\n" ++ reply.body
