use Rattle.rq_eval.specs.ErrorText as spec
use Rattle.rq_eval.proofs.Pieces.{both_put}
use Rattle.rq_eval.proofs.error_text.put_counts.Goals as goal

pub returns : goal.returns
returns c =
    both_put c.put_count-2.result c.put_count-2.new.text c.args.text.now c.put_count.new.text (spec.counted c.args.first c.args.between.now) (spec.counted c.args.second c.args.behind.now)
    c.in_ok-put_count.ensures c.put_count-2.ensures
