-- What a request asks for, or its first refusal, as docs/API.md has it, "Requests".
use Rattle.std.specs.Prelude.{ℕ, List, ◌&&◌, Option, Some, None, if◌then◌else◌, nat_lt}
use Rattle.rq_route.specs.declared.path.Path.{Path}
use Rattle.rq_route.specs.declared.parameters.Given.{Given}
use Rattle.rq_route.specs.declared.parameters.Key.{Key}
use Rattle.rq_request.specs.declared.ask.Level.{Level}
use Rattle.rq_request.specs.declared.ask.Level.TheVariants.{Weak}
use Rattle.rq_route.specs.declared.request.Request.{Request}
use Rattle.rq_route.specs.declared.routing.Routed.{Routed}
use Rattle.rq_route.specs.declared.routing.Routed.TheVariants.{Taken, Refused}
use Rattle.rq_route.specs.declared.refusal.Refusal.TheVariants as refusal
use Rattle.rq_route.specs.Paths.{path_at, has_method, is_get, takes_level, takes_transaction}
use Rattle.rq_route.specs.Parameters.{given_of, first_bad}
use Rattle.rq_route.specs.Target.{origin_form, path_part, query_part}

abbrev pub or_weak : Option Level → Level
or_weak None = Weak
or_weak (Some level) = level

abbrev pub level_at : Path → Option Level → Level
level_at path level = if takes_level path then or_weak level else Weak

-- ten seconds, where none is given
abbrev pub timeout_in : Option ℕ → ℕ
timeout_in None = 10000
timeout_in (Some timeout) = timeout

-- what a request asks for whose parameters are none of them bad
abbrev pub request_of : Path → Given → Request
request_of path given = record {
  path = path;
  statement = given.statement;
  level = level_at path given.level;
  transaction = takes_transaction path && given.transaction;
  timeout = timeout_in given.timeout;
  shape = record { associative = takes_level path && given.associative; pretty = given.pretty };
}

abbrev pub by_key : Path → Given → Option Key → Routed
by_key path given None = Taken (request_of path given)
by_key path given (Some key) = Refused (refusal.Parameter key)

abbrev pub by_given : Path → Given → Routed
by_given path given = by_key path given (first_bad path given)

abbrev pub by_path : List ℕ → List ℕ → ℕ → Path → Routed
by_path method query size path =
    if has_method path method
    then (if nat_lt 1048576 size then Refused (refusal.LongBody size) else by_given path (given_of (is_get method) query))
    else Refused refusal.NoMethod

abbrev pub at_path : List ℕ → List ℕ → ℕ → Option Path → Routed
at_path method query size None = Refused refusal.NoPath
at_path method query size (Some path) = by_path method query size path

-- the first refusal in this order: path, method, length, parameters
abbrev pub route_of : List ℕ → List ℕ → ℕ → Routed
route_of method target size = at_path method (query_part (origin_form target)) size (path_at (path_part (origin_form target)))
