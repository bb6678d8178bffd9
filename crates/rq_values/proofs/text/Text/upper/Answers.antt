use Rattle.std.proofs.Common.{◌≡◌, true, sym, ap, subst, ◌∙◌, map}
use Rattle.std.specs.Char.{to_ascii_uppercase}
use Rattle.rq_values.specs.Text.{is_text}
use Rattle.rq_values.proofs.Plain.{text_of_raised}
use Rattle.rq_values.proofs.text.Text.upper.Goals as goal

pub invariant_of-result : goal.invariant_of-result
invariant_of-result c =
    let same = c.in_ok-high.ensures.ok ∙ ap (map to_ascii_uppercase) c.as_str.ensures.value in
    subst (λ v. is_text v.items ≡ true) (sym c.into_bytes.ensures.value) (text_of_raised c.in_ok-high.high c.args.self.now same c.as_str.ensures.text)
