-- Two quorums have a voter in common.
use Rattle.std.proofs.Common.{◌≡◌, ℕ, ◌+◌, ◌<◌, ◌≤◌, Bool, true, false, List, [], ◌∷◌, ◌++◌, length, refl, arith, cond}
use Rattle.std.specs.List.{count_by}
use Rattle.std.proofs.lemmas.List.{length-append}
use Rattle.std.proofs.lemmas.List.Sums.{sum_by-cons}
use Rattle.rq_history.specs.History.{NodeId}
use Rattle.rq_history.specs.Quorum.{Quorum, HaveCommon}

abbrev Common : (s t : NodeId → Bool) → Type 0
Common s t = (v : NodeId) × (s v ≡ true) × (t v ≡ true)

step : (s t : NodeId → Bool) (v : NodeId) (n a b : ℕ) → (n < a + b → Common s t) → (p q : Bool) → s v ≡ p → t v ≡ q
    → 1 + n < (cond p 1 0 + a) + (cond q 1 0 + b) → Common s t
step s t v n a b more true true sv tv h = (v, sv, tv)
step s t v n a b more true false sv tv h = more (omega arith)
step s t v n a b more false true sv tv h = more (omega arith)
step s t v n a b more false false sv tv h = more (omega arith)

pub common : (s t : NodeId → Bool) (vs : List NodeId) → length vs < count_by s vs + count_by t vs → Common s t
common s t [] h = absurd (omega arith)
common s t (v ∷ vs) h = step s t v (length vs) (count_by s vs) (count_by t vs) (common s t vs) (s v) (t v) refl refl
    (omega (arith, sum_by-cons (λ (x : NodeId). cond (s x) 1 0) v vs, sum_by-cons (λ (x : NodeId). cond (t x) 1 0) v vs))

-- in one list of voters
pub in_one : (vs : List NodeId) → HaveCommon vs vs
in_one vs s t p q = common s t vs (omega arith)

pub quorums_meet : (vs ws : List NodeId) (P Q : NodeId → Type 0) → HaveCommon vs ws → Quorum vs P → Quorum ws Q → (v : NodeId) × P v × Q v
quorums_meet vs ws P Q meet p q =
    let c = meet p.in_set q.in_set p.most q.most in
    (c.0, p.each c.0 c.1, q.each c.0 c.2)

pub common_swap : (vs ws : List NodeId) → HaveCommon vs ws → HaveCommon ws vs
common_swap vs ws m s t p q = let c = m t s q p in (c.0, c.2, c.1)

-- a voter more adds one at most
count_more : (t : NodeId → Bool) (before after : List NodeId) (m : NodeId) → count_by t (before ++ m ∷ after) ≤ count_by t (before ++ after) + 1
count_more t [] after m = omega (arith, sum_by-cons (λ (x : NodeId). cond (t x) 1 0) m after, one (t m))
  where
    one : (b : Bool) → cond b 1 0 ≤ 1
    one true = omega arith
    one false = omega arith
count_more t (v ∷ before) after m = omega (
  arith,
  count_more t before after m,
  sum_by-cons (λ (x : NodeId). cond (t x) 1 0) v (before ++ m ∷ after),
  sum_by-cons (λ (x : NodeId). cond (t x) 1 0) v (before ++ after),
)

-- one voter more
pub one_more : (before after : List NodeId) (m : NodeId) → HaveCommon (before ++ after) (before ++ m ∷ after)
one_more before after m s t p q = common s t (before ++ after) (omega (arith, length-append before (m ∷ after), length-append before after, count_more t before after m))

-- one voter less
pub one_less : (before after : List NodeId) (m : NodeId) → HaveCommon (before ++ m ∷ after) (before ++ after)
one_less before after m = common_swap (before ++ after) (before ++ m ∷ after) (one_more before after m)
