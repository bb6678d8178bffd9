use Rattle.std.proofs.Common.{◌++◌, List, ℕ, ap, ◌∙◌, append_assoc}
use Rattle.std.specs.Prelude.{codes, decimal}
use Rattle.rq_cluster.proofs.words.refusal.Goals as goal

pub returns : goal.returns
returns c =
    let word = c.args.word.now in
    let a = decimal c.args.place in
    let prefix = codes "stopped: word " in
    let mid = codes ": " in
    let last = codes "\n" in
    let first = c.in_ok-line.ensures.items ∙ c.as_bytes.ensures.value ∙ c.in_ok-prefix.ensures.ok in
    c.in_ok-extend_from_slice-2.ensures.items ∙ ap (λ (l : List ℕ). l ++ last) (c.in_ok-extend_from_slice.ensures.items ∙ ap (λ (l : List ℕ). l ++ word) first)
    ∙ append_assoc (prefix ++ (a ++ mid)) word last ∙ append_assoc prefix (a ++ mid) (word ++ last) ∙ ap (λ (l : List ℕ). prefix ++ l) (append_assoc a mid (word ++ last))
