-- A request with its target, its number, the words to come and the moment has one ask.
use Rattle.std.proofs.Common.{◌≡◌, ℕ, true, List, [], ◌∷◌, refl, sym, ◌∙◌, ap, subst}
use Rattle.rq_request.specs.declared.ask.Ask.{Ask}
use Rattle.rq_request.specs.declared.statement.Params.{Params}
use Rattle.rq_request.specs.declared.statement.Statement.{Statement}
use Rattle.rq_statement.specs.declared.item.Item.{Item}
use Rattle.rq_preparing.specs.Prepared.{IsPrepared}
use Rattle.rq_asking.specs.declared.reading.Requested.{Requested}
use Rattle.rq_asking.specs.Asked.{ArePrepared, ask_with, IsAsk}

abbrev pub OneItem : Type 0
OneItem = (text : List ℕ) (params : Params) (moment : ℕ) (old one two : List ℕ) (item other : Item) → IsPrepared true text params moment old one item → IsPrepared true text params moment old two other → item ≡ other

abbrev pub OneRest : Type 0
OneRest = (text : List ℕ) (params : Params) (moment : ℕ) (old one two : List ℕ) (item other : Item) → IsPrepared true text params moment old one item → IsPrepared true text params moment old two other → one ≡ two

prepared_once : OneItem → OneRest → (m : ℕ) (statements : List Statement) (old one two : List ℕ) (items others : List Item) → ArePrepared true m statements old one items → ArePrepared true m statements old two others → (items ≡ others) × (one ≡ two)
prepared_once same left m [] old one two [] [] a b = (refl, a refl ∙ sym (b refl))
prepared_once same left m [] old one two [] (o ∷ others) a b = absurd b
prepared_once same left m [] old one two (i ∷ items) others a b = absurd a
prepared_once same left m (s ∷ rest) old one two [] others a b = absurd a
prepared_once same left m (s ∷ rest) old one two (i ∷ items) [] a b = absurd b
prepared_once same left m (s ∷ rest) old one two (i ∷ items) (o ∷ others) a b =
    let item : i ≡ o = same s.text s.params m old a.0 b.0 i o a.1 b.1 in
    let between : a.0 ≡ b.0 = left s.text s.params m old a.0 b.0 i o a.1 b.1 in
    let more = prepared_once same left m rest b.0 one two items others (subst (λ (words : List ℕ). ArePrepared true m rest words one items) between a.2) b.2 in
    (ap (λ (x : Item). x ∷ items) item ∙ ap (λ (xs : List Item). o ∷ xs) more.0, more.1)

pub one_ask : OneItem → OneRest → (r : Requested) (target : List ℕ) (number m : ℕ) (old one two : List ℕ) (ask other : Ask) → IsAsk true r target number m old one ask → IsAsk true r target number m old two other → ask ≡ other
one_ask same left r target number m old one two ask other a b =
    a.is ∙ ap (ask_with r target number) (prepared_once same left m r.statements old one two a.items b.items a.prepared b.prepared).0 ∙ sym b.is

pub one_rest : OneItem → OneRest → (r : Requested) (target : List ℕ) (number m : ℕ) (old one two : List ℕ) (ask other : Ask) → IsAsk true r target number m old one ask → IsAsk true r target number m old two other → one ≡ two
one_rest same left r target number m old one two ask other a b = (prepared_once same left m r.statements old one two a.items b.items a.prepared b.prepared).1
