-- The replies to requests that are refused, as docs/API.md has it, "Refusals".
use Rattle.std.specs.Prelude.{ℕ, List, ◌++◌, codes, decimal}
use Rattle.rq_route.specs.declared.parameters.Key.{Key}
use Rattle.rq_route.specs.declared.parameters.Key.TheVariants as key
use Rattle.rq_route.specs.declared.refusal.Refusal.{Refusal}
use Rattle.rq_route.specs.declared.refusal.Refusal.TheVariants.{NoPath, NoMethod, LongBody, Parameter}
use Rattle.rq_route.specs.Target.{origin_form, path_part}

abbrev pub key_text : Key → List ℕ
key_text key.Level = codes "level"
key_text key.Freshness = codes "freshness"
key_text key.Timeout = codes "timeout"
key_text key.Queue = codes "queue"
key_text key.Wait = codes "wait"
key_text key.Q = codes "q"

abbrev pub status_of : Refusal → ℕ
status_of NoPath = 404
status_of NoMethod = 405
status_of (LongBody n) = 413
status_of (Parameter key) = 400

-- the text of the reply; a path is shown as it is written, without the query
abbrev pub text_of : List ℕ → List ℕ → Refusal → List ℕ
text_of method target NoPath = codes "no such path: " ++ path_part (origin_form target)
text_of method target NoMethod = codes "method not allowed: " ++ method
text_of method target (LongBody n) = codes "body too long: " ++ decimal n
text_of method target (Parameter key) = codes "bad parameter: " ++ key_text key
