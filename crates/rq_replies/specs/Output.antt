-- JSON behind a buffer's bytes, in one of its two layouts.
use Rattle.std.specs.Prelude.{◌≡◌, ℕ, Bool, true, false, List, ◌++◌, Result, OnOk}
use Rattle.json.specs.Token.{Token}
use Rattle.json.specs.Print.{print}
use Rattle.json.specs.Layout as layouts
use Rattle.rq_replies.specs.declared.output.Output.{Output}
use Rattle.rq_replies.specs.declared.output.Output.TheVariants.{Compact, Pretty}

-- JSON without blanks, or with a line for each item
abbrev pub text : Bool → List Token → List ℕ
text true tokens = layouts.pretty tokens
text false tokens = print tokens

abbrev pub tokens_in : Output → List Token
tokens_in (Compact writer) = writer.tokens
tokens_in (Pretty prefix tokens) = tokens

-- the bytes before it
abbrev pub prefix_in : Output → List ℕ
prefix_in (Compact writer) = writer.before
prefix_in (Pretty prefix tokens) = prefix.items

-- whether it has a line for each item
abbrev pub layout_in : Output → Bool
layout_in (Compact writer) = false
layout_in (Pretty prefix tokens) = true

-- an Ok adds these tokens; the layout and the bytes before it stay
abbrev pub Adds : {T E : Type 0} → Result T E → Output → Output → List Token → Type 0
Adds result old new tokens =
    (prefix_in new ≡ prefix_in old) × (layout_in new ≡ layout_in old) × OnOk result (tokens_in new ≡ tokens_in old ++ tokens)
