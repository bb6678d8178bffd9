use Rattle.std.proofs.Common.{sym, ◌∙◌, arith}
use Rattle.std.proofs.lemmas.Result.{err_from_is_err_and}
use Rattle.rq_wal.proofs.SpelledRead.{ends, differs, agrees, shorter, spelled_out}
use Rattle.rq_wal.proofs.reading.next_spelled.Goals as goal

pub returns-in_err-found-clause-gives : goal.returns-in_err-found-clause-gives
returns-in_err-found-clause-gives c thing =
    let p = err_from_is_err_and c.from_residual.result c.from_residual.ensures.1 in
    rw (p.1, p.2) (ends thing c.args.text.now c.loop-at.at c.loop-at-test.true c.in_err-found.field-0.0 c.loop-at.rest.now c.args.bytes.now c.in_err-found.ensures.gives (c.loop-at.invariant.comes thing))

pub returns-then-found-text-clause-gives : goal.returns-then-found-text-clause-gives
returns-then-found-text-clause-gives c thing =
    sym (c.loop-at.invariant.comes thing) ∙ differs thing c.args.text.now c.loop-at.at c.loop-at-test.true c.in_ok-found.found c.loop-at.rest.now c.in_ok-found.after.now c.in_ok-found.ensures.gives c.if-found-text.true

pub loop-at-preserved : goal.loop-at-preserved
loop-at-preserved c = record {
  comes = λ thing. sym (agrees thing c.args.text.now c.loop-at.at c.loop-at-test.true c.in_ok-found.found c.loop-at.rest.now c.in_ok-found.after.now c.in_ok-found.ensures.gives c.if-found-text.false) ∙ c.loop-at.invariant.comes thing;
  len = omega (arith, c.loop-at.invariant.len, shorter c.loop-at.rest.now c.in_ok-found.found c.in_ok-found.after.now c.in_ok-found.ensures.gives);
}

pub returns-clause-gives : goal.returns-clause-gives
returns-clause-gives c thing =
    sym (c.loop-at.invariant.comes thing) ∙ spelled_out thing c.args.text.now c.loop-at.rest.now c.loop-at.at c.loop-at-test.false
