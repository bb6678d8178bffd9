-- Statements prepared one after the other: what is done of those to come is done of all.
use Rattle.std.proofs.Common.{◌≡◌, ◌≤◌, ◌<◌, ◌+◌, inl, inr, ℕ, Bool, List, [], ◌∷◌, ◌++◌, length, drop, get_or, refl, sym, ◌∙◌, ap, subst, append-nil, append_assoc}
use Rattle.std.proofs.lemmas.List.{drop_all, drop_more}
use Rattle.rq_request.specs.declared.statement.Statement.{Statement}
use Rattle.rq_statement.specs.declared.item.Item.{Item}
use Rattle.rq_preparing.specs.declared.preparing.PrepareError.{PrepareError}
use Rattle.rq_preparing.specs.declared.preparing.PrepareError.TheVariants as errors
use Rattle.rq_preparing.specs.Prepared.{IsPrepared, IsUnprepared}
use Rattle.rq_asking.specs.Asked.{ArePrepared, Stop, IsUnasked}

-- with these items of the statements before, where the words to come were the old ones and are these
pub record Carries (told : Bool) (moment : ℕ) (all rest : List Statement) (old now : List ℕ) (items : List Item) : Type 0 where
  pub prepared : (new : List ℕ) (more : List Item) → ArePrepared told moment rest now new more → ArePrepared told moment all old new (items ++ more)
  pub stop : (new : List ℕ) → Stop told moment rest now new → Stop told moment all old new

pub start : (told : Bool) (moment : ℕ) (all : List Statement) (old : List ℕ) → Carries told moment all all old old []
start told moment all old = record { prepared = λ new more h. h; stop = λ new h. h }

pub step : (told : Bool) (moment : ℕ) (all rest : List Statement) (s : Statement) (old now next : List ℕ) (items : List Item) (i : Item)
    → Carries told moment all (s ∷ rest) old now items → IsPrepared told s.text s.params moment now next i → Carries told moment all rest old next (items ++ i ∷ [])
step told moment all rest s old now next items i c p = record {
  prepared = λ new more h. subst (λ (list : List Item). ArePrepared told moment all old new list) (sym (append_assoc items (i ∷ []) more)) (c.prepared new (i ∷ more) (next, p, h));
  stop = λ new h. c.stop new (inr (next, i, p, h));
}

-- the statement of this place, with its text and the list that has its item
pub step_at : (told : Bool) (moment : ℕ) (all : List Statement) (at : ℕ) (s : Statement) (text : List ℕ) (old now next : List ℕ) (items : List Item) (i : Item) (list : List Item)
    → at < length all → s ≡ get_or all at s → text ≡ s.text → list ≡ items ++ i ∷ [] → Carries told moment all (drop at all) old now items → IsPrepared told text s.params moment now next i
    → Carries told moment all (drop (at + 1) all) old next list
step_at told moment all at s text old now next items i list within is same pushed c p =
    subst (λ (x : List Item). Carries told moment all (drop (at + 1) all) old next x) (sym pushed)
    (step told moment all (drop (at + 1) all) s old now next items i
    (subst (λ (rest : List Statement). Carries told moment all rest old now items) (drop_more all at s within ∙ ap (λ (t : Statement). t ∷ drop (at + 1) all) (sym is)) c)
    (subst (λ (x : List ℕ). IsPrepared told x s.params moment now next i) same p))

pub done : (told : Bool) (moment : ℕ) (all : List Statement) (at : ℕ) (old now : List ℕ) (items : List Item)
    → length all ≤ at → Carries told moment all (drop at all) old now items → ArePrepared told moment all old now items
done told moment all at old now items within c =
    let last : Carries told moment all [] old now items = subst (λ (rest : List Statement). Carries told moment all rest old now items) (drop_all at all within) c in
    subst (λ (list : List Item). ArePrepared told moment all old now list) (append-nil items) (last.prepared now [] (λ t. refl))

pub unasked : (told : Bool) (moment : ℕ) (all rest : List Statement) (s : Statement) (old now new : List ℕ) (items : List Item) (error : PrepareError)
    → Carries told moment all (s ∷ rest) old now items → IsUnprepared told s.text s.params moment now new error → IsUnasked told moment all old new error
unasked told moment all rest s old now new items errors.Draws c u = c.stop new (inl u)
unasked told moment all rest s old now new items errors.NoMemory c u = tt
