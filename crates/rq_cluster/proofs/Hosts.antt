-- Asks that wait at a host.
use Rattle.std.proofs.Common.{◌≡◌, ℕ, List, ◌++◌, sym, ◌∙◌, ap, append_assoc}
use Rattle.std.proofs.lemmas.List.{map-append}
use Rattle.rq_node.specs.declared.waiting.Waiting.{Waiting}
use Rattle.rq_script.specs.Cluster.{numbers}

-- the asks that wait, in two pieces
pub two_pieces : (before : List ℕ) (first rest all : List Waiting) → first ++ rest ≡ all
    → (before ++ numbers first) ++ numbers rest ≡ before ++ numbers all
two_pieces before first rest all is =
    append_assoc before (numbers first) (numbers rest)
    ∙ ap (λ (l : List ℕ). before ++ l) (sym (map-append (λ (w : Waiting). w.number) first rest) ∙ ap numbers is)
