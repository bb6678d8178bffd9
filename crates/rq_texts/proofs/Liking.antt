-- The first run that is found will do.
use Rattle.std.proofs.Common.{◌≡◌, ℕ, zero, suc, ◌+◌, ◌≤◌, ◌<◌, Bool, true, false, not, ◌&&◌, ◌||◌, ◌==◌, if◌then◌else◌, List, [], ◌∷◌, length, drop, take, get_or, ◌-◌, refl, sym, ap, ◌∙◌, arith}
use Rattle.std.specs.Prelude.{nat_eq}
use Rattle.std.proofs.lemmas.List.{drop_more, take_all, drop-drop, length-drop}
use Rattle.std.proofs.lemmas.Bool.Decides.{nat_tests}
use Rattle.rq_texts.specs.Like.{stands_for, some_rest, one_then, like, is_first_run}

-- ---- tests

or_left : (a b : Bool) → a ≡ true → (a || b) ≡ true
or_left a b h = cc

or_right : (a b : Bool) → b ≡ true → (a || b) ≡ true
or_right true b h = refl
or_right false b h = h

and_left : (a b : Bool) → (a && b) ≡ true → a ≡ true
and_left true b h = refl
and_left false b h = h

and_right : (a b : Bool) → (a && b) ≡ true → b ≡ true
and_right true b h = h
and_right false b h = absurd (cc)

not_true : (a : Bool) → not a ≡ true → a ≡ false
not_true true h = absurd (cc)
not_true false h = refl

same_tests : (a b : Bool) → (a ≡ true → b ≡ true) → (b ≡ true → a ≡ true) → a ≡ b
same_tests true b f g = sym (f refl)
same_tests false true f g = g refl
same_tests false false f g = refl

-- ---- rests

pub some_here : (f : List ℕ → Bool) (t : List ℕ) → f t ≡ true → some_rest f t ≡ true
some_here f [] h = h
some_here f (c ∷ cs) h = or_left (f (c ∷ cs)) (some_rest f cs) h

some_before : (f : List ℕ → Bool) (n : ℕ) (t : List ℕ) → some_rest f (drop (suc n) t) ≡ true → some_rest f (drop n t) ≡ true
some_before f zero [] h = h
some_before f (suc n) [] h = h
some_before f zero (c ∷ cs) h = or_right (f (c ∷ cs)) (some_rest f cs) h
some_before f (suc n) (c ∷ cs) h = some_before f n cs h

-- ---- the first `%`

pub first_within : (n : ℕ) (p : List ℕ) → is_first_run n p ≡ true → n < length p
first_within n [] h = absurd (cc)
first_within zero (p ∷ ps) h = omega arith
first_within (suc n) (p ∷ ps) h = let e = first_within n ps (and_right (not (p == 37)) (is_first_run n ps) h) in omega arith

at_run : (p : ℕ) (ps s : List ℕ) → (p == 37) ≡ true → like (p ∷ ps) s ≡ some_rest (like ps) s
at_run p ps s h = ap (λ (b : Bool). if b then some_rest (like ps) s else one_then p (like ps) s) h

past_one : (p : ℕ) (ps s : List ℕ) → (p == 37) ≡ false → like (p ∷ ps) s ≡ one_then p (like ps) s
past_one p ps s h = ap (λ (b : Bool). if b then some_rest (like ps) s else one_then p (like ps) s) h

-- what is like the pattern has, behind the characters before the `%`, a rest that is like what follows it
after_first : (n : ℕ) (p s : List ℕ) → is_first_run n p ≡ true → like p s ≡ true → some_rest (like (drop (suc n) p)) (drop n s) ≡ true
after_first n [] s first is = absurd (cc)
after_first zero (p ∷ ps) s first is = sym (at_run p ps s first) ∙ is
after_first (suc n) (p ∷ ps) s first is =
    on (λ cs h. after_first n ps cs (and_right (not (p == 37)) (is_first_run n ps) first) h) s
    (sym (past_one p ps s (not_true (p == 37) (and_left (not (p == 37)) (is_first_run n ps) first))) ∙ is)
  where
    on : ((cs : List ℕ) → like ps cs ≡ true → some_rest (like (drop (suc n) ps)) (drop n cs) ≡ true)
        → (s : List ℕ) → one_then p (like ps) s ≡ true → some_rest (like (drop (suc n) ps)) (drop (suc n) s) ≡ true
    on next [] h = absurd (cc)
    on next (c ∷ cs) h = next cs (and_right (stands_for p c) (like ps cs) h)

later_rest : (n : ℕ) (p t : List ℕ) → is_first_run n p ≡ true → some_rest (like p) t ≡ true → some_rest (like (drop (suc n) p)) (drop n t) ≡ true
later_rest n p [] first some = after_first n p [] first some
later_rest n p (c ∷ cs) first some = by (later_rest n p cs first) (like p (c ∷ cs)) refl
  where
    by : (some_rest (like p) cs ≡ true → some_rest (like (drop (suc n) p)) (drop n cs) ≡ true) → (b : Bool) → like p (c ∷ cs) ≡ b → some_rest (like (drop (suc n) p)) (drop n (c ∷ cs)) ≡ true
    by next true is = after_first n p (c ∷ cs) first is
    by next false is = some_before (like (drop (suc n) p)) n (c ∷ cs) (next (sym (ap (λ (b : Bool). b || some_rest (like p) cs) is) ∙ some))

pub first_will_do : (n : ℕ) (p t : List ℕ) → is_first_run n p ≡ true → like p t ≡ some_rest (like (drop (suc n) p)) (drop n t) → some_rest (like p) t ≡ some_rest (like (drop (suc n) p)) (drop n t)
first_will_do n p t first is =
    same_tests (some_rest (like p) t) (some_rest (like (drop (suc n) p)) (drop n t)) (later_rest n p t first) (λ h. some_here (like p) t (is ∙ h))

-- ---- steps of the matcher, where a pattern's rest begins with p and a text's with c

pub like_at_run : (p : ℕ) (z ps s : List ℕ) → z ≡ p ∷ ps → p ≡ 37 → like z s ≡ some_rest (like ps) s
like_at_run p z ps s e h = ap (λ (z : List ℕ). like z s) e ∙ at_run p ps s (ap (λ (n : ℕ). n == 37) h)

pub first_at_run : (p : ℕ) (z ps : List ℕ) → z ≡ p ∷ ps → p ≡ 37 → is_first_run 0 z ≡ true
first_at_run p z ps e h = ap (is_first_run 0) e ∙ ap (λ (n : ℕ). n == 37) h

no_run : (p : ℕ) → (p ≡ 37 → ⊥) → (p == 37) ≡ false
no_run p h = grind (arith, nat_tests)

pub like_past : (p c : ℕ) (z ps s cs : List ℕ) → z ≡ p ∷ ps → s ≡ c ∷ cs → (p ≡ 37 → ⊥) → stands_for p c ≡ true → like z s ≡ like ps cs
like_past p c z ps s cs e f h k =
    ap (λ (z : List ℕ). like z s) e ∙ ap (like (p ∷ ps)) f ∙ past_one p ps (c ∷ cs) (no_run p h) ∙ ap (λ (b : Bool). b && like ps cs) k

pub like_other : (p c : ℕ) (z ps s cs : List ℕ) → z ≡ p ∷ ps → s ≡ c ∷ cs → (p ≡ 37 → ⊥) → stands_for p c ≡ false → like z s ≡ false
like_other p c z ps s cs e f h k =
    ap (λ (z : List ℕ). like z s) e ∙ ap (like (p ∷ ps)) f ∙ past_one p ps (c ∷ cs) (no_run p h) ∙ ap (λ (b : Bool). b && like ps cs) k

pub like_ended : (p : ℕ) (z ps s : List ℕ) → z ≡ p ∷ ps → length s ≡ 0 → (p ≡ 37 → ⊥) → like z s ≡ false
like_ended p z ps [] e f h = ap (λ (z : List ℕ). like z []) e ∙ past_one p ps [] (no_run p h)
like_ended p z ps (c ∷ cs) e f h = absurd (omega (arith, f))

pub first_past : (p n : ℕ) (z ps : List ℕ) → z ≡ p ∷ ps → (p ≡ 37 → ⊥) → is_first_run n ps ≡ is_first_run (suc n) z
first_past p n z ps e h = sym (ap (is_first_run (suc n)) e ∙ ap (λ (b : Bool). not b && is_first_run n ps) (no_run p h))

pub like_end : (z s : List ℕ) → length z ≡ 0 → (b : Bool) → b ≡ nat_eq (length s) 0 → like z s ≡ b
like_end [] [] h b e = sym e
like_end [] (c ∷ cs) h b e = grind (arith, nat_tests)
like_end (p ∷ ps) s h b e = absurd (omega (arith, h))

pub from_drop : (z : List ℕ) (i x : ℕ) → i < length z → x ≡ get_or z i x → drop i z ≡ x ∷ drop (i + 1) z
from_drop z i x h e = drop_more z i x h ∙ ap (λ (y : ℕ). y ∷ drop (i + 1) z) (sym e)

-- a slice from a place to the end
pub rest_is : (n : ℕ) (t : List ℕ) → take (length t - n) (drop n t) ≡ drop n t
rest_is n t = take_all (length t - n) (drop n t) (omega (arith, length-drop n t))

-- what the loop over the pattern answers
pub at_percent : (p t : List ℕ) (i x : ℕ) → i < length p → x ≡ get_or p i x → x ≡ 37 → i ≤ length t
    → like (drop i p) (drop i t) ≡ like p t → is_first_run 0 (drop i p) ≡ is_first_run (i + 0) p
    → (i < length p) × (is_first_run i p ≡ true) × (i ≤ length t) × (like p t ≡ some_rest (like (drop (suc i) p)) (drop i t))
at_percent p t i x h e is le same plain =
    let z = from_drop p i x h e in
    let one : i + 1 ≡ suc i = omega arith in
    let none : i + 0 ≡ i = omega arith in (
      h,
      ap (λ (n : ℕ). is_first_run n p) (sym none) ∙ sym plain ∙ first_at_run x (drop i p) (drop (i + 1) p) z is,
      le,
      sym same ∙ like_at_run x (drop i p) (drop (i + 1) p) (drop i t) z is ∙ ap (λ (n : ℕ). some_rest (like (drop n p)) (drop i t)) one,
    )

pub plain_past : (p : List ℕ) (i x n : ℕ) → i < length p → x ≡ get_or p i x → (x ≡ 37 → ⊥) → ((k : ℕ) → is_first_run k (drop i p) ≡ is_first_run (i + k) p)
    → is_first_run n (drop (i + 1) p) ≡ is_first_run (i + 1 + n) p
plain_past p i x n h e is plain =
    let one : i + suc n ≡ i + 1 + n = omega arith in
    first_past x n (drop i p) (drop (i + 1) p) (from_drop p i x h e) is ∙ plain (suc n) ∙ ap (λ (k : ℕ). is_first_run k p) one

pub same_past : (p t : List ℕ) (i x c : ℕ) → i < length p → i < length t → x ≡ get_or p i x → c ≡ get_or t i c → (x ≡ 37 → ⊥) → true ≡ stands_for x c
    → like (drop i p) (drop i t) ≡ like p t → like (drop (i + 1) p) (drop (i + 1) t) ≡ like p t
same_past p t i x c h k e f is stands same =
    sym (like_past x c (drop i p) (drop (i + 1) p) (drop i t) (drop (i + 1) t) (from_drop p i x h e) (from_drop t i c k f) is (sym stands)) ∙ same

pub at_end : (p t : List ℕ) (i : ℕ) → i ≤ length p → length p ≤ i → i ≤ length t → like (drop i p) (drop i t) ≡ like p t → like p t ≡ nat_eq (length p) (length t)
at_end p t i h k le same =
    sym same ∙ like_end (drop i p) (drop i t) (omega (arith, length-drop i p)) (nat_eq (length p) (length t)) (by (length-drop i t))
  where
    by : length (drop i t) ≡ length t - i → nat_eq (length p) (length t) ≡ nat_eq (length (drop i t)) 0
    by e = grind (arith, nat_tests)

-- what the search answers
pub find_percent : (p t : List ℕ) (start n : ℕ) → start ≤ length t
    → (n < length p) × (is_first_run n p ≡ true) × (n ≤ length (drop start t)) × (like p (drop start t) ≡ some_rest (like (drop (suc n) p)) (drop n (drop start t)))
    → some_rest (like p) (drop start t) ≡ some_rest (like p) t
    → (0 < n + 1) × (n + 1 ≤ length p) × (start + n ≤ length t) × (some_rest (like p) t ≡ some_rest (like (drop (n + 1) p)) (drop (start + n) t))
find_percent p t start n le h same =
    let one : suc n ≡ n + 1 = omega arith in (
      omega arith,
      omega (arith, h.0),
      omega (arith, h.2, length-drop start t),
      sym same ∙ first_will_do n p (drop start t) h.1 h.3
          ∙ ap (λ (k : ℕ). some_rest (like (drop k p)) (drop n (drop start t))) one
          ∙ ap (some_rest (like (drop (n + 1) p))) (drop-drop n start t),
    )

some_past : (f : List ℕ → Bool) (z : List ℕ) (c : ℕ) (cs : List ℕ) → z ≡ c ∷ cs → f z ≡ false → some_rest f z ≡ some_rest f cs
some_past f z c cs e h = ap (some_rest f) e ∙ ap (λ (b : Bool). b || some_rest f cs) (sym (ap f e) ∙ h)

pub find_past : (p t : List ℕ) (start : ℕ) → start < length t → like p (drop start t) ≡ false → some_rest (like p) (drop start t) ≡ some_rest (like p) t → some_rest (like p) (drop (start + 1) t) ≡ some_rest (like p) t
find_past p t start h is same = sym (some_past (like p) (drop start t) (get_or t start 0) (drop (start + 1) t) (drop_more t start 0 h) is) ∙ same

-- one more run
pub like_on : (z s : List ℕ) (p t m k : ℕ) (b : Bool) → some_rest (like (drop p z)) (drop t s) ≡ b
    → some_rest (like (drop p z)) (drop t s) ≡ some_rest (like (drop m (drop p z))) (drop k (drop t s)) → some_rest (like (drop (p + m) z)) (drop (t + k) s) ≡ b
like_on z s p t m k b same h =
    sym (ap (λ (z : List ℕ). some_rest (like z) (drop k (drop t s))) (drop-drop m p z) ∙ ap (some_rest (like (drop (p + m) z))) (drop-drop k t s)) ∙ sym h ∙ same
