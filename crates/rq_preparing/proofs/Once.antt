-- A text with its parameters, the words to come and the moment is prepared as one item.
use Rattle.std.proofs.Common.{◌≡◌, ℕ, true, List, [], ◌∷◌, ◌++◌, length, Option, Some, None, Result, Ok, Err, refl, sym, ◌∙◌, ap, subst, arith}
use Rattle.rq_grammar.specs.declared.stmt.Stmt.{Stmt}
use Rattle.rq_request.specs.declared.statement.Params.{Params}
use Rattle.rq_sql.specs.declared.error.ReadError.{ReadError}
use Rattle.rq_sql.specs.Read.{Means}
use Rattle.rq_statement.specs.declared.item.Item.{Item}
use Rattle.rq_binding.specs.declared.params.BindError.{BindError}
use Rattle.rq_binding.specs.declared.planning.Refusal.{Refusal}
use Rattle.rq_binding.specs.Bound.{bound}
use Rattle.rq_binding.specs.Settles.{stmt_plan, Settles}
use Rattle.rq_settle.specs.Prepared.{item_of_fixed}
use Rattle.rq_preparing.specs.Prepared.{IsSettledItem, IsBoundItem, IsReadItem, IsPrepared}

-- two beginnings of one list that are as long as each other are equal, and so is what is left
pub one_front : (old ws vs one two : List ℕ) → old ≡ ws ++ one → old ≡ vs ++ two → length ws ≡ length vs → (ws ≡ vs) × (one ≡ two)
one_front old [] [] one two a b same = (refl, sym a ∙ b)
one_front old [] (v ∷ vs) one two a b same = absurd (omega (arith, same))
one_front old (w ∷ ws) [] one two a b same = absurd (omega (arith, same))
one_front [] (w ∷ ws) (v ∷ vs) one two a b same = absurd (cc)
one_front (x ∷ old) (w ∷ ws) (v ∷ vs) one two a b same =
    let rest = one_front old ws vs one two (cc) (cc) (omega (arith, same)) in
    (cc, rest.1)

abbrev pub Answers : Type 0
Answers = (text : List ℕ) (answer other : Result Stmt ReadError) → Means text answer → Means text other → answer ≡ other

abbrev pub Settlings : Type 0
Settlings = (s : Stmt) (moment : ℕ) (ws : List ℕ) (r u : Stmt) → Settles s moment ws r → Settles s moment ws u → r ≡ u

settled : Settlings → (s : Stmt) (m : ℕ) (old one two : List ℕ) (x : Option Refusal) (item other : Item) → IsSettledItem true s m old one x item → IsSettledItem true s m old two x other → (item ≡ other) × (one ≡ two)
settled once s m old one two (Some r) item other a b =
    let t = a.1 refl in
    let u = b.1 refl in
    (a.0 ∙ sym b.0, (one_front old t.words u.words one two t.is u.is (t.count ∙ sym u.count)).1)
settled once s m old one two None item other a b =
    let front = one_front old a.1.words b.1.words one two (a.1.taken refl) (b.1.taken refl) (a.1.settles.count ∙ sym b.1.settles.count) in
    let same : a.0 ≡ b.0 = once s m b.1.words a.0 b.0 (subst (λ (ws : List ℕ). Settles s m ws a.0) front.0 a.1.settles) b.1.settles in
    (a.2 ∙ ap item_of_fixed same ∙ sym b.2, front.1)

bound_once : Settlings → (m : ℕ) (old one two : List ℕ) (x : Result Stmt BindError) (item other : Item) → IsBoundItem true m old one x item → IsBoundItem true m old two x other → (item ≡ other) × (one ≡ two)
bound_once once m old one two (Err e) item other a b = (a.0 ∙ sym b.0, a.1 refl ∙ sym (b.1 refl))
bound_once once m old one two (Ok s) item other a b = settled once s m old one two (stmt_plan s m).refusal item other a b

read_once : Settlings → (text : List ℕ) (p : Params) (m : ℕ) (old one two : List ℕ) (x : Result Stmt ReadError) (item other : Item) → IsReadItem true text p m old one x item → IsReadItem true text p m old two x other → (item ≡ other) × (one ≡ two)
read_once once text p m old one two (Err e) item other a b = (a.0 ∙ sym b.0, a.1 refl ∙ sym (b.1 refl))
read_once once text p m old one two (Ok s) item other a b = bound_once once m old one two (bound s p) item other a b

prepared_once : Answers → Settlings → (text : List ℕ) (p : Params) (m : ℕ) (old one two : List ℕ) (item other : Item) → IsPrepared true text p m old one item → IsPrepared true text p m old two other → (item ≡ other) × (one ≡ two)
prepared_once answers once text p m old one two item other a b =
    read_once once text p m old one two b.answer item other
    (subst (λ (x : Result Stmt ReadError). IsReadItem true text p m old one x item) (answers text a.answer b.answer a.means b.means) a.is)
    b.is

pub one_item : Answers → Settlings → (text : List ℕ) (p : Params) (m : ℕ) (old one two : List ℕ) (item other : Item) → IsPrepared true text p m old one item → IsPrepared true text p m old two other → item ≡ other
one_item answers once text p m old one two item other a b = (prepared_once answers once text p m old one two item other a b).0

pub one_rest : Answers → Settlings → (text : List ℕ) (p : Params) (m : ℕ) (old one two : List ℕ) (item other : Item) → IsPrepared true text p m old one item → IsPrepared true text p m old two other → one ≡ two
one_rest answers once text p m old one two item other a b = (prepared_once answers once text p m old one two item other a b).1
