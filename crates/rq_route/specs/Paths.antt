-- The paths that are served, and their methods, as docs/API.md has it, "Paths".
use Rattle.std.specs.Prelude.{ℕ, List, [], ◌∷◌, Bool, true, false, ◌||◌, Option, Some, None, if◌then◌else◌, codes}
use Rattle.std.specs.Str.{bytes_eq, is_utf8}
use Rattle.percent_encoding.specs.Percent.{percent_decode}
use Rattle.rq_route.specs.declared.path.Path.{Path}
use Rattle.rq_route.specs.declared.path.Path.TheVariants.{Execute, Query, Request}

-- the entry whose text the path is
abbrev pub place_of : {V : Type 0} → List ℕ → List (List ℕ × V) → Option V
place_of path [] = None
place_of path (e ∷ es) = if bytes_eq e.0 path then Some e.1 else place_of path es

abbrev pub table : List (List ℕ × Path)
table = (codes "/db/execute", Execute) ∷ (codes "/db/query", Query) ∷ (codes "/db/request", Request) ∷ []

-- a path is UTF-8
abbrev pub path_named : List ℕ → Option Path
path_named text = if is_utf8 text then place_of text table else None

-- each escape of a path stands for its byte
abbrev pub path_at : List ℕ → Option Path
path_at path = path_named (percent_decode path)

abbrev pub takes_level : Path → Bool
takes_level Execute = false
takes_level Query = true
takes_level Request = true

abbrev pub takes_queue : Path → Bool
takes_queue Execute = true
takes_queue Query = false
takes_queue Request = false

abbrev pub takes_transaction : Path → Bool
takes_transaction Execute = true
takes_transaction Query = false
takes_transaction Request = true

abbrev pub is_post : List ℕ → Bool
is_post method = bytes_eq method (codes "POST")

abbrev pub is_get : List ℕ → Bool
is_get method = bytes_eq method (codes "GET")

abbrev pub has_method : Path → List ℕ → Bool
has_method Execute method = is_post method
has_method Query method = is_post method || is_get method
has_method Request method = is_post method
