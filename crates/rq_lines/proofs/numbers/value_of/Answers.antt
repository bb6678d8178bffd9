use Rattle.std.proofs.Common.{◌^◌, ◌-◌, arith}
use Rattle.rq_lines.proofs.Digits.{digit_more}
use Rattle.rq_lines.proofs.numbers.value_of.Goals as goal

pub loop-digit-preserved : goal.loop-digit-preserved
loop-digit-preserved c =
    digit_more c.args.digits.now c.loop-digit.digit-index c.from.result c.loop-digit.value (2 ^ 64 - 1) c.saturating_mul.result c.saturating_add-value.result (omega arith) (cc) c.loop-digit.invariant c.saturating_mul.ensures c.saturating_add-value.ensures
