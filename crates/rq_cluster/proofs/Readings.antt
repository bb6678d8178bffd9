-- Statements that are read.
use Rattle.std.proofs.Common.{◌≡◌, ◌<◌, ◌+◌, ℕ, List, [], ◌∷◌, ◌++◌, length, take, get_or, Option, Some, sym, ◌∙◌, ap, subst}
use Rattle.std.proofs.lemmas.List.{take_more}
use Rattle.rq_statement.specs.declared.item.Item.{Item}
use Rattle.rq_json.specs.Body.{texts_of}
use Rattle.rq_settle.specs.Prepared.{IsPrepared}
use Rattle.rq_script.specs.Preparing.{listed, AreRead}

pub none_read : AreRead [] []
none_read = tt

read_on : (texts : List (List ℕ)) (items : List Item) (text : List ℕ) (item : Item) → AreRead texts items → IsPrepared text item → AreRead (texts ++ text ∷ []) (items ++ item ∷ [])
read_on [] [] text item all one = (one, tt)
read_on [] (i ∷ items) text item all one = absurd all
read_on (t ∷ texts) [] text item all one = absurd all
read_on (t ∷ texts) (i ∷ items) text item (first, rest) one = (first, read_on texts items text item rest one)

pub one_more_read : (texts : List (List ℕ)) (items : List Item) (at : ℕ) (text : List ℕ) (item : Item) → at < length texts → text ≡ get_or texts at text
    → AreRead (take at texts) items → IsPrepared text item → AreRead (take (at + 1) texts) (items ++ item ∷ [])
one_more_read texts items at text item within is all one =
    subst (λ (l : List (List ℕ)). AreRead l (items ++ item ∷ []))
    (ap (λ (t : List ℕ). take at texts ++ t ∷ []) is ∙ sym (take_more texts at text within))
    (read_on (take at texts) items text item all one)

pub are_read : (body : List ℕ) (texts : List (List ℕ)) (items : List Item) → texts_of body ≡ Some texts → AreRead texts items → AreRead (listed (texts_of body)) items
are_read body texts items lists read = subst (λ (o : Option (List (List ℕ))). AreRead (listed o) items) (sym lists) read

-- each text is prepared as some item
abbrev pub Readable : Type 0
Readable = (text : List ℕ) → (item : Item) × IsPrepared text item

pub some_items : Readable → (texts : List (List ℕ)) → (items : List Item) × AreRead texts items
some_items readable [] = ([], tt)
some_items readable (text ∷ texts) = let one = readable text in let rest = some_items readable texts in (one.0 ∷ rest.0, (one.1, rest.1))
