-- The text of a body's defect, as docs/API.md has it, "Refusals".
use Rattle.std.specs.Prelude.{ℕ, List, ◌++◌, codes, decimal}
use Rattle.rq_bodies.specs.declared.error.BodyError.{BodyError}
use Rattle.rq_bodies.specs.declared.error.BodyError.TheVariants.{NotJson, NotAList, TooMany, BadStatement, BadValue, BadMember, NoMemory}

abbrev pub error_text : BodyError → List ℕ
error_text NotJson = codes "body is not JSON"
error_text NotAList = codes "body is not a list"
error_text (TooMany count) = codes "too many statements: " ++ decimal count
error_text (BadStatement k) = codes "statement " ++ (decimal k ++ codes ": not a statement")
error_text (BadValue k j) = codes "statement " ++ (decimal k ++ (codes ", value " ++ (decimal j ++ codes ": not a value")))
error_text BadMember = codes "bad member"
error_text NoMemory = codes "out of memory"

abbrev pub error_status : BodyError → ℕ
error_status NotJson = 400
error_status NotAList = 400
error_status (TooMany count) = 400
error_status (BadStatement k) = 400
error_status (BadValue k j) = 400
error_status BadMember = 400
error_status NoMemory = 507
