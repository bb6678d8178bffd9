use Rattle.std.proofs.Common.{◌++◌, ap, ◌∙◌}
use Rattle.std.specs.Prelude.{codes, List, ℕ}
use Rattle.rq_eval.specs.ErrorText as spec
use Rattle.rq_eval.proofs.Pieces.{both_put}
use Rattle.rq_eval.proofs.error_text.put_cannot_store.Goals as goal

pub returns : goal.returns
returns c =
    both_put c.put_column.result c.put_column.new.text c.args.text.now c.push_plain.new.self (spec.value_in c.args.value c.args.kind) (codes " column " ++ c.args.table.now ++ codes "." ++ c.args.column.now)
    (c.in_ok-push_plain.ensures.ok ∙ ap (λ (z : List ℕ). c.args.text.now ++ z) c.kinds.ensures.words) c.put_column.ensures
