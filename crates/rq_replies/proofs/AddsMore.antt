-- What is added in two steps.
use Rattle.std.proofs.Common.{◌≡◌, List, ◌++◌, Result, Ok, Err, ap, ◌∙◌}
use Rattle.std.proofs.lemmas.List.{append_assoc}
use Rattle.json.specs.Token.{Token}
use Rattle.rq_replies.specs.declared.output.Output.{Output}
use Rattle.rq_replies.specs.Output.{Adds, prefix_in, layout_in, tokens_in}

pub then_adds : {T E : Type 0} (r : Result T E) (old mid new : Output) (a b : List Token)
    → prefix_in mid ≡ prefix_in old → layout_in mid ≡ layout_in old → tokens_in mid ≡ tokens_in old ++ a → Adds r mid new b → Adds r old new (a ++ b)
then_adds (Ok x) old mid new a b f l t h = (h.0 ∙ f, h.1 ∙ l, h.2 ∙ ap (λ m. m ++ b) t ∙ append_assoc (tokens_in old) a b)
then_adds (Err e) old mid new a b f l t h = (h.0 ∙ f, h.1 ∙ l, tt)
