use Rattle.std.proofs.Common.{◌≡◌, ◌++◌, take}
use Rattle.rq_script.specs.ScriptText.{answers_text}
use Rattle.rq_script.proofs.saying.write_answers.Given as goal

abbrev pub invariant-loop-answer : goal.invariant-loop-answer
invariant-loop-answer l = l.text.items ≡ l.initial.text.items ++ answers_text (take l.answer-index l.answers)
