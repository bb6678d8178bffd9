use Rattle.std.proofs.Common.{ap, ◌∙◌}
use Rattle.std.specs.Prelude.{is_some}
use Rattle.rq_changes.proofs.Texts.{plain_is_read}
use Rattle.rq_changes.proofs.storing.read_integer.Goals as goal

pub returns-clause-plain : goal.returns-clause-plain
returns-clause-plain c = λ h. ap is_some c.ok.ensures.value ∙ plain_is_read c.args.text.now c.as_str.result.now c.parse.result h c.as_str.ensures.value c.parse.ensures.value.0
