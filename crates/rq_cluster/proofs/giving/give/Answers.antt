use Rattle.std.proofs.Common.{◌++◌, List, ℕ, take, drop, ap, ◌∙◌, append_assoc, length-drop, arith}
use Rattle.std.proofs.lemmas.List.{take-append-drop, take_rest}
use Rattle.std.proofs.lemmas.Result.{err_from_is_err_and}
use Rattle.rq_cluster.proofs.Lists.{take_on}
use Rattle.rq_cluster.proofs.giving.give.Goals as goal

pub returns-in_err-given-clause-err : goal.returns-in_err-given-clause-err
returns-in_err-given-clause-err g c =
    let p = err_from_is_err_and c.from_residual.result c.from_residual.ensures.1 in
    let text = c.args.text.now in
    rw (p.1)
    (take c.loop-given.given text, (λ told. c.in_err-given.ensures.failed told ∙ c.loop-given.invariant.told told), (drop c.loop-given.given text, take-append-drop c.loop-given.given text))

pub loop-given-preserved : goal.loop-given-preserved
loop-given-preserved g c =
    let text = c.args.text.now in
    let given = c.loop-given.given in
    let count = c.in_ok-given.field-0 in
    record {
      within = omega (arith, c.loop-given.invariant.within, c.in_ok-given.ensures.count, length-drop given text);
      told = λ told. c.in_ok-given.ensures.took told ∙ ap (λ (l : List ℕ). g.K.Sink.taken c.loop-given.sink ++ take count l) (take_rest text given) ∙ ap (λ (l : List ℕ). l ++ take count (drop given text)) (c.loop-given.invariant.told told)
          ∙ append_assoc (g.K.Sink.taken c.args.sink.now) (take given text) (take count (drop given text)) ∙ ap (λ (l : List ℕ). g.K.Sink.taken c.args.sink.now ++ l) (take_on given count text);
      later = omega (arith, c.loop-given.invariant.later, c.in_ok-given.ensures.later);
    }
