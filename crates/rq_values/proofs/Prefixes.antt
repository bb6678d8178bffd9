-- What keeps the start of a buffer.
use Rattle.std.proofs.Common.{◌≡◌, ℕ, List, ◌++◌, length, take, drop, sym, ap, ◌∙◌, append_assoc}
use Rattle.std.proofs.lemmas.List.{take-append-drop}
use Rattle.std.proofs.Math.Seq.{take-append_seam}
use Rattle.rq_values.specs.Writing.{KeepsPrefix}

-- what keeps more keeps less
pub KeepsPrefix-append : (old piece new : List ℕ) → KeepsPrefix (old ++ piece) new → KeepsPrefix old new
KeepsPrefix-append old piece new keeps =
    let n = length (old ++ piece) in
    ap (take (length old)) (sym (take-append-drop n new) ∙ ap (λ (l : List ℕ). l ++ drop n new) keeps ∙ append_assoc old piece (drop n new))
    ∙ take-append_seam old (piece ++ drop n new)
