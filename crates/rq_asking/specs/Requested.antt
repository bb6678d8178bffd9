-- A request with its statements, or its first defect, as docs/API.md has it, "Requests".
use Rattle.std.specs.Prelude.{◌≡◌, ◌⊎◌, ℕ, List, [], ◌∷◌, length, Option, Some, None, Result, Ok, Err, codes}
use Rattle.rq_request.specs.declared.statement.Statement.{Statement}
use Rattle.rq_request.specs.declared.statement.Params.TheVariants as params
use Rattle.rq_route.specs.declared.request.Request.{Request}
use Rattle.rq_route.specs.declared.routing.Routed.{Routed}
use Rattle.rq_route.specs.declared.routing.Routed.TheVariants.{Taken, Refused}
use Rattle.rq_route.specs.Refusal.{status_of as routing_status, text_of as routing_text}
use Rattle.rq_route.specs.Routing.{route_of}
use Rattle.rq_bodies.specs.declared.error.BodyError.{BodyError}
use Rattle.rq_bodies.specs.Body.{parsed}
use Rattle.rq_bodies.specs.ErrorText.{error_status, error_text}
use Rattle.rq_asking.specs.declared.reading.Requested.{Requested}
use Rattle.rq_asking.specs.declared.reading.Defect.{Defect}
use Rattle.rq_asking.specs.declared.reading.Defect.TheVariants as defect

-- the statement that a GET names
abbrev pub named : List ℕ → List Statement
named text = record { text = text; params = params.None } ∷ []

abbrev pub of_body : Result (List Statement) BodyError → Result (List Statement) Defect
of_body (Ok list) = Ok list
of_body (Err error) = Err (defect.Body error)

-- the statement that the target names, where it names one, else those of the body
abbrev pub listed : Option (List ℕ) → List ℕ → Result (List Statement) Defect
listed (Some text) body = Ok (named text)
listed None body = of_body (parsed body)

abbrev pub with_statements : Request → Result (List Statement) Defect → Result Requested Defect
with_statements request (Ok list) = Ok (record { request = request; statements = list })
with_statements request (Err error) = Err error

abbrev pub taken : List ℕ → Routed → Result Requested Defect
taken body (Refused refusal) = Err (defect.Routing refusal)
taken body (Taken request) = with_statements request (listed request.statement body)

-- the body is looked at last
abbrev pub requested_of : List ℕ → List ℕ → List ℕ → Result Requested Defect
requested_of method target body = taken body (route_of method target (length body))

-- what is meant, or want of memory
abbrev pub Answers : {A : Type 0} → Result A Defect → Result A Defect → Type 0
Answers meant result = (result ≡ meant) ⊎ (result ≡ Err defect.NoMemory)

-- ---- the reply to a defect

abbrev pub status_of : Defect → ℕ
status_of (defect.Routing refusal) = routing_status refusal
status_of (defect.Body error) = error_status error
status_of defect.NoMemory = 507

abbrev pub text_of : List ℕ → List ℕ → Defect → List ℕ
text_of method target (defect.Routing refusal) = routing_text method target refusal
text_of method target (defect.Body error) = error_text error
text_of method target defect.NoMemory = codes "out of memory"
