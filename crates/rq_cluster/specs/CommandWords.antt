-- The words of the command line, as docs/SCRIPT.md has them, "The end".
use Rattle.std.specs.Prelude.{if◌then◌else◌, ℕ, Bool, List, [], ◌∷◌, Option, Some, None, nat_eq, codes}
use lib.Pointwise.{pointwise}

abbrev pub is_cluster : List ℕ → Bool
is_cluster word = pointwise nat_eq word (codes "cluster")

-- the place, from 1, of the first wrong or missing word, and that word: only `cluster` is right
abbrev pub wrong_word : List (List ℕ) → Option (ℕ × List ℕ)
wrong_word [] = Some (1, [])
wrong_word (first ∷ []) = if is_cluster first then None else Some (1, first)
wrong_word (first ∷ second ∷ _) = if is_cluster first then Some (2, second) else Some (1, first)
