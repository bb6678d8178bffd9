use Rattle.std.proofs.Common.{◌≡◌, true, sym, ap, subst, ◌∙◌, w64}
use Rattle.std.specs.Fmt.{signed_decimal}
use Rattle.std.proofs.lemmas.Int.{to_z-of_z}
use Rattle.rq_values.specs.Text.{is_text}
use Rattle.rq_values.proofs.Plain.{text_of_integer}
use Rattle.rq_values.proofs.text.Text.of_integer.Goals as goal

pub invariant_of-result : goal.invariant_of-result
invariant_of-result c =
    let digits = c.in_ok-digits.ensures.ok ∙ ap signed_decimal (to_z-of_z w64 c.args.number c.ranges.number) in
    subst (λ v. is_text v.items ≡ true) (sym c.into_bytes.ensures.value) (text_of_integer c.in_ok-digits.digits c.args.number digits c.ranges.number)
