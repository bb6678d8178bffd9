use Rattle.std.proofs.Common.{◌++◌}
use Rattle.std.specs.Prelude.{codes}
use Rattle.rq_eval.specs.ErrorText as spec
use Rattle.rq_eval.proofs.Pieces.{both_put}
use Rattle.rq_eval.proofs.error_text.put_value_count.Goals as goal

pub returns : goal.returns
returns c =
    both_put c.put_counts.result c.put_counts.new.text c.args.text.now c.put_named.new.text (codes "table " ++ c.args.table.now ++ codes " has ")
    (spec.counted c.args.columns (codes " columns but ") ++ spec.counted c.args.values (codes " values were supplied"))
    c.in_ok-put_named.ensures c.put_counts.ensures
