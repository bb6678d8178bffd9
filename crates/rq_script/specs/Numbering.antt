-- How asks are numbered. docs/RAFT.md, "What a run promises".
use Rattle.std.specs.Prelude.{◌≡◌, ◌+◌, ℕ, List, [], ◌∷◌}
use Rattle.rq_script.specs.History.{Note, Asked, Answered}

-- the asks of these notes are numbered one by one, from behind the first of these numbers up to the second
abbrev pub AreNumbered : ℕ → List Note → ℕ → Type 0
AreNumbered last [] most = last ≡ most
AreNumbered last (Asked number op ∷ notes) most = (number ≡ last + 1) × AreNumbered number notes most
AreNumbered last (Answered number say place ∷ notes) most = AreNumbered last notes most
