-- Answers in rising order of their numbers, and what waits no more.
use Rattle.std.proofs.Common.{◌≡◌, ℕ, zero, suc, ◌+◌, ◌-◌, ◌<◌, ◌≤◌, ◌&&◌, Bool, true, false, cond, List, [], ◌∷◌, ◌++◌, length, take, drop, map, get_or, slice_get, Option, Some, None, Result, Ok, Err, OnOk, OnErr, refl, sym, ap, ◌∙◌, subst, arith}
use Rattle.std.specs.Prelude.{nat_lt, nat_le, insert, remove, slice_set}
use Rattle.std.proofs.lemmas.Bool.Decides.{nat_tests}
use Rattle.std.proofs.lemmas.List.{map-append}
use Rattle.rq_queue.specs.Numbers.{Contents}
use Rattle.rq_request.specs.declared.say.Answer.{Answer}
use Rattle.rq_request.specs.declared.say.Say.TheVariants.{Refused}
use Rattle.rq_request.specs.declared.say.NodeRefusal.TheVariants.{Lost, Timeout}
use Rattle.rq_world.specs.Node.{Node, PendingRead, QueuedWrite}
use Rattle.rq_world.specs.declared.waiting.Waiting.{Waiting}
use Rattle.rq_member.specs.Held.{Held, has_left, without_lost}
use Rattle.rq_world.specs.Rules.{inserted, by_number, lost_all, is_expired, expired_waiting, expired_reads, expired_queued, queued_is_expired, live_waiting, live_reads, live_queue}

-- ---- lists

pub taken_more : {T : Type 0} (l : List T) (k : ℕ) (x : T) → slice_get l k ≡ Some x → take (k + 1) l ≡ take k l ++ x ∷ []
taken_more [] k x is = absurd (cc)
taken_more (y ∷ l) zero x is = let e : y ≡ x = cc in ap (λ z. z ∷ []) e
taken_more (y ∷ l) (suc k) x is =
    let e : suc k + 1 ≡ suc (k + 1) = omega arith in
    ap (λ (m : ℕ). take m (y ∷ l)) e ∙ ap (λ r. y ∷ r) (taken_more l k x is)

pub found : {T : Type 0} (l : List T) (k : ℕ) (x : T) → k < length l → x ≡ get_or l k x → slice_get l k ≡ Some x
found [] k x less is = absurd (omega arith)
found (y ∷ l) zero x less is = ap Some (sym is)
found (y ∷ l) (suc k) x less is = found l k x (omega arith) is

at_end : {T : Type 0} (l : List T) (k : ℕ) → length l ≤ k → take k l ≡ l
at_end [] zero less = refl
at_end [] (suc k) less = refl
at_end (y ∷ l) zero less = absurd (omega arith)
at_end (y ∷ l) (suc k) less = ap (λ r. y ∷ r) (at_end l k (omega arith))

pub taken_all : {T : Type 0} (l : List T) (k : ℕ) → length l ≤ k → take k l ≡ l
taken_all l k less = at_end l k less

-- ---- rising order

-- an answer before those that have its number
abbrev put : Answer → List Answer → List Answer
put a [] = a ∷ []
put a (b ∷ l) = cond (nat_lt b.number a.number) (b ∷ put a l) (a ∷ b ∷ l)

put_after : (a b : Answer) (l : List Answer) → nat_lt b.number a.number ≡ true → put a (b ∷ l) ≡ b ∷ put a l
put_after a b l is = ap (λ (t : Bool). cond t (b ∷ put a l) (a ∷ b ∷ l)) is

put_before : (a b : Answer) (l : List Answer) → nat_lt b.number a.number ≡ false → put a (b ∷ l) ≡ a ∷ b ∷ l
put_before a b l is = ap (λ (t : Bool). cond t (b ∷ put a l) (a ∷ b ∷ l)) is

in_before : (a b : Answer) (l : List Answer) → nat_lt a.number b.number ≡ true → inserted a (b ∷ l) ≡ a ∷ b ∷ l
in_before a b l is = ap (λ (t : Bool). cond t (a ∷ b ∷ l) (b ∷ inserted a l)) is

in_after : (a b : Answer) (l : List Answer) → nat_lt a.number b.number ≡ false → inserted a (b ∷ l) ≡ b ∷ inserted a l
in_after a b l is = ap (λ (t : Bool). cond t (a ∷ b ∷ l) (b ∷ inserted a l)) is

lower : (x b a : ℕ) → nat_lt b a ≡ true → nat_lt x b ≡ true → nat_lt x a ≡ true
lower x b a one two = grind (arith, nat_tests)

between : (x b a : ℕ) → nat_lt b a ≡ false → nat_lt x b ≡ false → nat_lt x a ≡ true → b < b
between x b a one two three = absurd (grind (arith, nat_tests))

not_lower : (x b a : ℕ) → nat_lt b a ≡ false → nat_lt x b ≡ false → nat_lt x a ≡ false
not_lower x b a one two = grind (arith, nat_tests)

commute : (x a : Answer) (l : List Answer) → inserted x (put a l) ≡ put a (inserted x l)
commute x a [] = by (nat_lt x.number a.number) refl
  where
    by : (r : Bool) → nat_lt x.number a.number ≡ r → inserted x (a ∷ []) ≡ put a (x ∷ [])
    by true is = in_before x a [] is ∙ sym (put_after a x [] is)
    by false is = in_after x a [] is ∙ sym (put_before a x [] is)
commute x a (b ∷ l) = by (commute x a l) (nat_lt b.number a.number) (nat_lt x.number b.number) (nat_lt x.number a.number) refl refl refl
  where
    by : inserted x (put a l) ≡ put a (inserted x l) → (p q r : Bool) → nat_lt b.number a.number ≡ p → nat_lt x.number b.number ≡ q → nat_lt x.number a.number ≡ r → inserted x (put a (b ∷ l)) ≡ put a (inserted x (b ∷ l))
    by so true true r p q _ =
        ap (inserted x) (put_after a b l p) ∙ in_before x b (put a l) q
        ∙ sym (ap (put a) (in_before x b l q) ∙ put_after a x (b ∷ l) (lower x.number b.number a.number p q) ∙ ap (λ (m : List Answer). x ∷ m) (put_after a b l p))
    by so true false r p q _ =
        ap (inserted x) (put_after a b l p) ∙ in_after x b (put a l) q ∙ ap (λ (m : List Answer). b ∷ m) so
        ∙ sym (ap (put a) (in_after x b l q) ∙ put_after a b (inserted x l) p)
    by so false true true p q r =
        ap (inserted x) (put_before a b l p) ∙ in_before x a (b ∷ l) r
        ∙ sym (ap (put a) (in_before x b l q) ∙ put_after a x (b ∷ l) r ∙ ap (λ (m : List Answer). x ∷ m) (put_before a b l p))
    by so false true false p q r =
        ap (inserted x) (put_before a b l p) ∙ in_after x a (b ∷ l) r ∙ ap (λ (m : List Answer). a ∷ m) (in_before x b l q)
        ∙ sym (ap (put a) (in_before x b l q) ∙ put_before a x (b ∷ l) r)
    by so false false r p q _ =
        ap (inserted x) (put_before a b l p) ∙ in_after x a (b ∷ l) (not_lower x.number b.number a.number p q) ∙ ap (λ (m : List Answer). a ∷ m) (in_after x b l q)
        ∙ sym (ap (put a) (in_after x b l q) ∙ put_before a b (inserted x l) p)

put_last : (l : List Answer) (a : Answer) → by_number (l ++ a ∷ []) ≡ put a (by_number l)
put_last [] a = refl
put_last (x ∷ l) a = ap (inserted x) (put_last l a) ∙ commute x a (by_number l)

-- each has at least this number
abbrev AreFrom : ℕ → List Answer → Type 0
AreFrom n [] = Unit {0}
AreFrom n (b ∷ l) = (n ≤ b.number) × AreFrom n l

abbrev AreRising : List Answer → Type 0
AreRising [] = Unit {0}
AreRising (b ∷ l) = AreFrom b.number l × AreRising l

from_less : (m n : ℕ) (l : List Answer) → m ≤ n → AreFrom n l → AreFrom m l
from_less m n [] less all = tt
from_less m n (b ∷ l) less all = (omega (arith, less, all.0), from_less m n l less all.1)

from_in : (n : ℕ) (x : Answer) (l : List Answer) → n ≤ x.number → AreFrom n l → AreFrom n (inserted x l)
from_in n x [] less all = (less, tt)
from_in n x (b ∷ l) less all = by (from_in n x l less all.1) (nat_lt x.number b.number)
  where
    by : AreFrom n (inserted x l) → (t : Bool) → AreFrom n (cond t (x ∷ b ∷ l) (b ∷ inserted x l))
    by more true = (less, all)
    by more false = (all.0, more)

is_less : (m n : ℕ) → nat_lt m n ≡ true → m ≤ n
is_less m n is = grind (arith, nat_tests)

is_not_less : (m n : ℕ) → nat_lt m n ≡ false → n ≤ m
is_not_less m n is = grind (arith, nat_tests)

rising_in : (x : Answer) (l : List Answer) → AreRising l → AreRising (inserted x l)
rising_in x [] all = (tt, tt)
rising_in x (b ∷ l) all = by (rising_in x l all.1) (nat_lt x.number b.number) refl
  where
    by : AreRising (inserted x l) → (t : Bool) → nat_lt x.number b.number ≡ t → AreRising (cond t (x ∷ b ∷ l) (b ∷ inserted x l))
    by more true is = ((is_less x.number b.number is, from_less x.number b.number l (is_less x.number b.number is) all.0), all)
    by more false is = (from_in b.number x l (is_not_less x.number b.number is) all.0, more)

rising : (l : List Answer) → AreRising (by_number l)
rising [] = tt
rising (x ∷ l) = rising_in x (by_number l) (rising l)

from_at : (n : ℕ) (l : List Answer) (k : ℕ) (y : Answer) → AreFrom n l → slice_get l k ≡ Some y → n ≤ y.number
from_at n [] k y all is = absurd (cc)
from_at n (b ∷ l) zero y all is = let e : b ≡ y = cc in subst (λ (z : Answer). n ≤ z.number) e all.0
from_at n (b ∷ l) (suc k) y all is = from_at n l k y all.1 is

some_at : {T : Type 0} (l : List T) (k : ℕ) → k < length l → (y : T) × (slice_get l k ≡ Some y)
some_at [] k less = absurd (omega arith)
some_at (y ∷ l) zero less = (y, refl)
some_at (y ∷ l) (suc k) less = some_at l k (omega arith)

low_test : (m n : ℕ) → m < n → nat_lt m n ≡ true
low_test m n less = grind (arith, nat_tests)

high_test : (m n : ℕ) → n ≤ m → nat_lt m n ≡ false
high_test m n less = grind (arith, nat_tests)

placed : (l : List Answer) (a : Answer) (at : ℕ) → AreRising l → at ≤ length l
    → ((k : ℕ) (b : Answer) → at ≤ k → slice_get l k ≡ Some b → a.number ≤ b.number) → ((k : ℕ) (b : Answer) → k + 1 ≡ at → slice_get l k ≡ Some b → b.number < a.number)
    → insert l at a ≡ put a l
placed [] a zero all within behind before = refl
placed [] a (suc at) all within behind before = absurd (omega arith)
placed (b ∷ l) a zero all within behind before = sym (put_before a b l (high_test b.number a.number (behind 0 b (omega arith) refl)))
placed (b ∷ l) a (suc at) all within behind before =
    ap (λ (m : List Answer). b ∷ m) (placed l a at all.1 (omega arith) (λ k c less is. behind (suc k) c (omega arith) is) (λ k c e is. before (suc k) c (omega (arith, e)) is))
    ∙ sym (put_after a b l (low_test b.number a.number (low at before within)))
  where
    low : (at : ℕ) → ((k : ℕ) (c : Answer) → k + 1 ≡ suc at → slice_get (b ∷ l) k ≡ Some c → c.number < a.number) → suc at ≤ suc (length l) → b.number < a.number
    low zero before within = before 0 b (omega arith) refl
    low (suc j) before within =
        let y = some_at l j (omega arith) in
        let one = before (suc j) y.0 (omega arith) y.1 in
        let two = from_at b.number l j y.0 all.0 y.1 in
        omega (arith, one, two)

pub inserted_at : (items : List Answer) (list : List Answer) (a : Answer) (at : ℕ) → items ≡ by_number list → at ≤ length items
    → ((k : ℕ) (b : Answer) → at ≤ k → slice_get items k ≡ Some b → a.number ≤ b.number) → ((k : ℕ) (b : Answer) → k + 1 ≡ at → slice_get items k ≡ Some b → b.number < a.number)
    → insert items at a ≡ by_number (list ++ a ∷ [])
inserted_at items list a at is within behind before =
    placed items a at (subst AreRising (sym is) (rising list)) within behind before ∙ ap (put a) is ∙ sym (put_last list a)

-- one place nearer to the front
pub behind_more : (items : List Answer) (number at k : ℕ) (x a : Answer) → x ≡ get_or items (at - 1) x → 0 < at → at ≤ length items → number ≤ x.number
    → ((k : ℕ) (a : Answer) → at ≤ k → slice_get items k ≡ Some a → number ≤ a.number) → at - 1 ≤ k → slice_get items k ≡ Some a → number ≤ a.number
behind_more items number at k x a is some within low behind less has = by (nat_le at k) refl
  where
    over : nat_le at k ≡ true → at ≤ k
    over t = grind (arith, nat_tests)

    under : nat_le at k ≡ false → at - 1 ≡ k
    under t = grind (arith, nat_tests)

    by : (t : Bool) → nat_le at k ≡ t → number ≤ a.number
    by true t = behind k a (over t) has
    by false t =
        let e = under t in
        let one : slice_get items k ≡ Some x = ap (slice_get items) (sym e) ∙ found items (at - 1) x (omega arith) is in
        let two : Some x ≡ Some a = sym one ∙ has in
        let same : x ≡ a = cc in
        subst (λ (z : Answer). number ≤ z.number) same low

pub before_this : (items : List Answer) (number at k : ℕ) (x a : Answer) → x ≡ get_or items (at - 1) x → at ≤ length items → x.number < number → k + 1 ≡ at → slice_get items k ≡ Some a → a.number < number
before_this items number at k x a is within low e has =
    let there : at - 1 ≡ k = omega (arith, e) in
    let one : slice_get items k ≡ Some x = ap (slice_get items) (sym there) ∙ found items (at - 1) x (omega (arith, e, within)) is in
    let two : Some x ≡ Some a = sym one ∙ has in
    let same : x ≡ a = cc in
    subst (λ (z : Answer). z.number < number) same low

-- ---- what is lost

pub lost_more : {T : Type 0} (number_of : T → ℕ) (term now : ℕ) (items before new : List Answer) (numbers : List ℕ) (l : List T) (k : ℕ) (x : T) (a : Answer) → a ≡ record { number = number_of x; say = Refused (Lost term now) } → k < length l → x ≡ get_or l k x
    → before ≡ lost_all term now (numbers ++ map number_of (take k l)) → ((list : List Answer) → before ≡ by_number list → new ≡ by_number (list ++ a ∷ []))
    → new ≡ lost_all term now (numbers ++ map number_of (take (k + 1) l))
lost_more number_of term now items before new numbers l k x a says less is so more =
    let lose : ℕ → Answer = λ (number : ℕ). record { number = number; say = Refused (Lost term now) } in
    let all = numbers ++ map number_of (take k l) in
    let last : numbers ++ map number_of (take (k + 1) l) ≡ all ++ number_of x ∷ [] =
    ap (λ m. numbers ++ map number_of m) (taken_more l k x (found l k x less is)) ∙ ap (λ (m : List ℕ). numbers ++ m) (map-append number_of (take k l) (x ∷ [])) ∙ sym (append_three numbers (map number_of (take k l)) (number_of x ∷ [])) in
    more (map lose all) so ∙ ap (λ (b : Answer). by_number (map lose all ++ b ∷ [])) says ∙ ap by_number (sym (map-append lose all (number_of x ∷ []))) ∙ sym (ap (lost_all term now) last)
  where
    append_three : (a b c : List ℕ) → (a ++ b) ++ c ≡ a ++ (b ++ c)
    append_three [] b c = refl
    append_three (x ∷ a) b c = ap (λ (m : List ℕ). x ∷ m) (append_three a b c)

-- ---- what has waited as long as it may

append_last : {T : Type 0} (a b c : List T) → (a ++ b) ++ c ≡ a ++ (b ++ c)
append_last [] b c = refl
append_last (x ∷ a) b c = ap (λ m. x ∷ m) (append_last a b c)

append_none : {T : Type 0} (a : List T) → a ++ [] ≡ a
append_none [] = refl
append_none (x ∷ a) = ap (λ m. x ∷ m) (append_none a)

-- a list of what is made of those that pass a test
pub record IsPicked {T A : Type 0} (pick : List T → List A) (test : T → Bool) (made : T → A) : Type 0 where
  pub none : pick [] ≡ []
  pub more : (x : T) (l : List T) → pick (x ∷ l) ≡ cond (test x) (made x ∷ pick l) (pick l)

module _ {T A : Type 0} (pick : List T → List A) (test : T → Bool) (made : T → A) (is : IsPicked pick test made) where
  pub picked_append : (l m : List T) → pick (l ++ m) ≡ pick l ++ pick m
  picked_append [] m = ap (λ n. n ++ pick m) (sym is.none)
  picked_append (x ∷ l) m = is.more x (l ++ m) ∙ by (picked_append l m) (test x) ∙ ap (λ n. n ++ pick m) (sym (is.more x l))
    where
      by : pick (l ++ m) ≡ pick l ++ pick m → (t : Bool) → cond t (made x ∷ pick (l ++ m)) (pick (l ++ m)) ≡ cond t (made x ∷ pick l) (pick l) ++ pick m
      by so true = ap (λ n. made x ∷ n) so
      by so false = so

  pub picked_then : (l : List T) (k : ℕ) (x : T) → slice_get l k ≡ Some x → test x ≡ true → pick (take (k + 1) l) ≡ pick (take k l) ++ made x ∷ []
  picked_then l k x at holds =
      ap pick (taken_more l k x at) ∙ picked_append (take k l) (x ∷ [])
      ∙ ap (λ n. pick (take k l) ++ n) (is.more x [] ∙ ap (λ (t : Bool). cond t (made x ∷ pick []) (pick [])) holds ∙ ap (λ n. made x ∷ n) is.none)

  pub picked_else : (l : List T) (k : ℕ) (x : T) → slice_get l k ≡ Some x → test x ≡ false → pick (take (k + 1) l) ≡ pick (take k l)
  picked_else l k x at fails =
      ap pick (taken_more l k x at) ∙ picked_append (take k l) (x ∷ [])
      ∙ ap (λ n. pick (take k l) ++ n) (is.more x [] ∙ ap (λ (t : Bool). cond t (made x ∷ pick []) (pick [])) fails ∙ is.none) ∙ append_none (pick (take k l))

pub picks_waiting : (now : ℕ) → IsPicked (expired_waiting now) (λ w. is_expired now w.asked w.timeout) (λ w. record { number = w.number; say = Refused (Timeout w.asked now) })
picks_waiting now = record { none = refl; more = λ w l. refl }

pub picks_reads : (now : ℕ) → IsPicked (expired_reads now) (λ r. is_expired now r.asked r.timeout) (λ r. record { number = r.pass.id; say = Refused (Timeout r.asked now) })
picks_reads now = record { none = refl; more = λ r l. refl }

pub picks_queued : (now : ℕ) → IsPicked (expired_queued now) (λ q. queued_is_expired now q) (λ q. record { number = q.number; say = Refused (Timeout q.asked now) })
picks_queued now = record { none = refl; more = λ q l. refl }

module _ {T : Type 0} (pick : List T → List Answer) (test : T → Bool) (made : T → Answer) (is : IsPicked pick test made) where
  pub answer_more : (l : List T) (k : ℕ) (x : T) (a : Answer) (before new list : List Answer) → slice_get l k ≡ Some x → test x ≡ true → a ≡ made x
      → ((m : List Answer) → before ≡ by_number m → new ≡ by_number (m ++ a ∷ [])) → before ≡ by_number (list ++ pick (take k l)) → new ≡ by_number (list ++ pick (take (k + 1) l))
  answer_more l k x a before new list at holds same more so =
      more (list ++ pick (take k l)) so ∙ ap by_number (append_last list (pick (take k l)) (a ∷ []))
      ∙ ap (λ (b : Answer). by_number (list ++ (pick (take k l) ++ b ∷ []))) same ∙ ap (λ m. by_number (list ++ m)) (sym (picked_then pick test made is l k x at holds))

  pub answer_on : (l : List T) (k : ℕ) (x : T) (new list : List Answer) → slice_get l k ≡ Some x → test x ≡ false → new ≡ by_number (list ++ pick (take k l)) → new ≡ by_number (list ++ pick (take (k + 1) l))
  answer_on l k x new list at fails so = so ∙ ap (λ m. by_number (list ++ m)) (sym (picked_else pick test made is l k x at fails))

  pub answer_end : (l : List T) (k : ℕ) (new list : List Answer) → length l ≤ k → new ≡ by_number (list ++ pick (take k l)) → new ≡ by_number (list ++ pick l)
  answer_end l k new list end so = so ∙ ap (λ m. by_number (list ++ pick m)) (at_end l k end)

-- the queued asks that have waited as long as they may, one place further
pub queued_more : (now : ℕ) (l : List QueuedWrite) (k : ℕ) (x : QueuedWrite) (before new list : List Answer) → slice_get l k ≡ Some x → ((m : List Answer) → before ≡ by_number m → new ≡ by_number (m ++ expired_queued now (x ∷ [])))
    → before ≡ by_number (list ++ expired_queued now (take k l)) → new ≡ by_number (list ++ expired_queued now (take (k + 1) l))
queued_more now l k x before new list at more so =
    more (list ++ expired_queued now (take k l)) so ∙ ap by_number (append_last list (expired_queued now (take k l)) (expired_queued now (x ∷ [])))
    ∙ ap (λ (m : List Answer). by_number (list ++ m)) (sym (picked_append (expired_queued now) _ _ (picks_queued now) (take k l) (x ∷ [])) ∙ ap (expired_queued now) (sym (taken_more l k x at)))

-- a list of those that fail a test
pub record IsKept {T : Type 0} (keep : List T → List T) (test : T → Bool) : Type 0 where
  pub none : keep [] ≡ []
  pub more : (x : T) (l : List T) → keep (x ∷ l) ≡ cond (test x) (keep l) (x ∷ keep l)

pub keeps_waiting : (now : ℕ) → IsKept (live_waiting now) (λ w. is_expired now w.asked w.timeout)
keeps_waiting now = record { none = refl; more = λ w l. refl }

pub keeps_reads : (now : ℕ) → IsKept (live_reads now) (λ r. is_expired now r.asked r.timeout)
keeps_reads now = record { none = refl; more = λ r l. refl }

module _ {T : Type 0} (keep : List T → List T) (test : T → Bool) (is : IsKept keep test) where
  pub kept_without : (l : List T) (k : ℕ) (x : T) → slice_get l k ≡ Some x → test x ≡ true → take k l ++ keep (drop k l) ≡ take k (remove l k) ++ keep (drop k (remove l k))
  kept_without [] k x at holds = absurd (cc)
  kept_without (y ∷ l) zero x at holds =
      let same : y ≡ x = cc in
      is.more y l ∙ ap (λ (t : Bool). cond t (keep l) (y ∷ keep l)) (ap test same ∙ holds)
  kept_without (y ∷ l) (suc k) x at holds = ap (λ m. y ∷ m) (kept_without l k x at holds)

  pub kept_over : (l : List T) (k : ℕ) (x : T) → slice_get l k ≡ Some x → test x ≡ false → take k l ++ keep (drop k l) ≡ take (k + 1) l ++ keep (drop (k + 1) l)
  kept_over [] k x at fails = absurd (cc)
  kept_over (y ∷ l) zero x at fails =
      let same : y ≡ x = cc in
      is.more y l ∙ ap (λ (t : Bool). cond t (keep l) (y ∷ keep l)) (ap test same ∙ fails)
  kept_over (y ∷ l) (suc k) x at fails =
      let e : suc k + 1 ≡ suc (k + 1) = omega arith in
      ap (λ m. y ∷ m) (kept_over l k x at fails) ∙ sym (ap (λ (m : ℕ). take m (y ∷ l) ++ keep (drop m (y ∷ l))) e)

  pub kept_all : (l : List T) (k : ℕ) → length l ≤ k → take k l ++ keep (drop k l) ≡ l
  kept_all [] zero end = is.none
  kept_all [] (suc k) end = is.none
  kept_all (y ∷ l) zero end = absurd (omega arith)
  kept_all (y ∷ l) (suc k) end = ap (λ m. y ∷ m) (kept_all l k (omega arith))

-- ---- what is queued waits no more

abbrev pub live : ℕ → QueuedWrite → QueuedWrite
live now q = cond (queued_is_expired now q) (record q { waits = false }) q

no_wait : (q : QueuedWrite) → q.waits ≡ false → record q { waits = false } ≡ q
no_wait q is = λ i. record q { waits = sym is i }

pub live_then : (now : ℕ) (q : QueuedWrite) → is_expired now q.asked q.timeout ≡ true → live now q ≡ record q { waits = false }
live_then now q expired = by q.waits refl
  where
    by : (w : Bool) → q.waits ≡ w → cond (w && is_expired now q.asked q.timeout) (record q { waits = false }) q ≡ record q { waits = false }
    by true is = ap (λ (t : Bool). cond t (record q { waits = false }) q) expired
    by false is = sym (no_wait q is)

pub live_else : (now : ℕ) (q : QueuedWrite) → is_expired now q.asked q.timeout ≡ false → live now q ≡ q
live_else now q fails = by q.waits
  where
    by : (w : Bool) → cond (w && is_expired now q.asked q.timeout) (record q { waits = false }) q ≡ q
    by true = ap (λ (t : Bool). cond t (record q { waits = false }) q) fails
    by false = refl

-- the first so many wait no more where they have waited as long as they may
abbrev pub half_live : ℕ → ℕ → List QueuedWrite → List QueuedWrite
half_live now k l = live_queue now (take k l) ++ drop k l

pub half_at : (now : ℕ) (l : List QueuedWrite) (k : ℕ) (x : QueuedWrite) → slice_get (half_live now k l) k ≡ Some x → slice_get l k ≡ Some x
half_at now [] zero x at = at
half_at now [] (suc k) x at = at
half_at now (q ∷ l) zero x at = at
half_at now (q ∷ l) (suc k) x at = half_at now l k x at

pub half_set : (now : ℕ) (l : List QueuedWrite) (k : ℕ) (x : QueuedWrite) → slice_get l k ≡ Some x → slice_set (half_live now k l) k (live now x) ≡ half_live now (k + 1) l
half_set now [] k x at = absurd (cc)
half_set now (q ∷ l) zero x at = let same : q ≡ x = cc in λ i. live now (sym same i) ∷ l
half_set now (q ∷ l) (suc k) x at =
    let e : suc k + 1 ≡ suc (k + 1) = omega arith in
    ap (λ m. live now q ∷ m) (half_set now l k x at) ∙ sym (ap (λ (m : ℕ). half_live now m (q ∷ l)) e)

pub half_on : (now : ℕ) (l : List QueuedWrite) (k : ℕ) (x : QueuedWrite) → slice_get l k ≡ Some x → live now x ≡ x → half_live now k l ≡ half_live now (k + 1) l
half_on now [] k x at same = absurd (cc)
half_on now (q ∷ l) zero x at is = let same : q ≡ x = cc in ap (λ (m : QueuedWrite). m ∷ l) (sym (ap (live now) same ∙ is ∙ sym same))
half_on now (q ∷ l) (suc k) x at is =
    let e : suc k + 1 ≡ suc (k + 1) = omega arith in
    ap (λ m. live now q ∷ m) (half_on now l k x at is) ∙ sym (ap (λ (m : ℕ). half_live now m (q ∷ l)) e)

pub half_all : (now : ℕ) (l : List QueuedWrite) (k : ℕ) → length l ≤ k → half_live now k l ≡ live_queue now l
half_all now [] zero end = refl
half_all now [] (suc k) end = refl
half_all now (q ∷ l) zero end = absurd (omega arith)
half_all now (q ∷ l) (suc k) end = ap (λ m. live now q ∷ m) (half_all now l k (omega arith))

pub half_length : (now : ℕ) (l : List QueuedWrite) (k : ℕ) → length (half_live now k l) ≡ length l
half_length now [] zero = refl
half_length now [] (suc k) = refl
half_length now (q ∷ l) zero = refl
half_length now (q ∷ l) (suc k) = ap suc (half_length now l k)

pub forget_one : (now : ℕ) (all before after : Contents QueuedWrite) (k : ℕ) (x y : QueuedWrite) → before ≡ record all { items = half_live now k all.items } → slice_get before.items k ≡ Some x → y ∷ [] ≡ live_queue now (x ∷ [])
    → after ≡ record { items = slice_set before.items k y; last = before.last } → after ≡ record all { items = half_live now (k + 1) all.items }
forget_one now all before after k x y is at one set =
    let here = half_at now all.items k x (sym (ap (λ (c : Contents QueuedWrite). slice_get c.items k) is) ∙ at) in
    let same : y ≡ live now x = cc in
    set ∙ (λ i. record { items = slice_set (is i).items k (same i); last = (is i).last }) ∙ ap (λ (l : List QueuedWrite). record all { items = l }) (half_set now all.items k x here)

-- ---- a node without what is lost

pub forgotten : (v now h : Held) → v ≡ h → now ≡ record v { node = record v.node { waiting = now.node.waiting; pending_reads = now.node.pending_reads } } → now.node.waiting ≡ [] → now.node.pending_reads ≡ [] → has_left h ≡ true → now ≡ record h { node = without_lost h }
forgotten v now h is same waits reads left =
    same ∙ (λ i. record v { node = record v.node { waiting = waits i; pending_reads = reads i } })
    ∙ ap (λ (k : Held). record k { node = record k.node { waiting = []; pending_reads = [] } }) is
    ∙ ap (λ (t : Bool). record h { node = cond t (record h.node { waiting = []; pending_reads = [] }) h.node }) (sym left)

pub stayed : (h : Held) → has_left h ≡ false → h ≡ record h { node = without_lost h }
stayed h left = ap (λ (t : Bool). record h { node = cond t (record h.node { waiting = []; pending_reads = [] }) h.node }) (sym left)

pub on_ok : {T E : Type 0} (r : Result T E) (P Q : Type 0) → (P → Q) → OnOk r P → OnOk r Q
on_ok (Ok value) P Q so holds = so holds
on_ok (Err error) P Q so holds = tt

pub on_err : {T E : Type 0} (r : Result T E) (P Q : Type 0) → (P → Q) → OnErr r P → OnErr r Q
on_err (Ok value) P Q so holds = tt
on_err (Err error) P Q so holds = so holds

pub all_expired : {E : Type 0} (now : ℕ) (n : Node) (ws : List Waiting) (rs : List PendingRead) (qs : List QueuedWrite) (none one two three : List Answer) (r : Result (Unit {0}) E) → ws ≡ n.waiting → rs ≡ n.pending_reads → qs ≡ n.queue → none ≡ []
    → ((list : List Answer) → none ≡ by_number list → one ≡ by_number (list ++ expired_waiting now ws)) → ((list : List Answer) → one ≡ by_number list → two ≡ by_number (list ++ expired_reads now rs))
    → OnOk r ((list : List Answer) → two ≡ by_number list → three ≡ by_number (list ++ expired_queued now qs))
    → OnOk r (three ≡ by_number (expired_waiting now n.waiting ++ (expired_reads now n.pending_reads ++ expired_queued now n.queue)))
all_expired now n ws rs qs none one two three r w rd q empty first second =
    on_ok r ((list : List Answer) → two ≡ by_number list → three ≡ by_number (list ++ expired_queued now qs)) (three ≡ by_number (expired_waiting now n.waiting ++ (expired_reads now n.pending_reads ++ expired_queued now n.queue)))
    (λ third. third (expired_waiting now ws ++ expired_reads now rs) (second (expired_waiting now ws) (first [] empty))
    ∙ ap by_number (append_last (expired_waiting now ws) (expired_reads now rs) (expired_queued now qs))
    ∙ (λ i. by_number (expired_waiting now (w i) ++ (expired_reads now (rd i) ++ expired_queued now (q i)))))

pub inserted_as : (slice items : List Answer) (list : List Answer) (a : Answer) (at : ℕ) → slice ≡ items → items ≡ by_number list → at ≤ length slice
    → ((k : ℕ) (b : Answer) → at ≤ k → slice_get slice k ≡ Some b → a.number ≤ b.number) → ((k : ℕ) (b : Answer) → k + 1 ≡ at → slice_get slice k ≡ Some b → b.number < a.number)
    → insert items at a ≡ by_number (list ++ a ∷ [])
inserted_as slice items list a at same is within behind before = ap (λ (l : List Answer). insert l at a) (sym same) ∙ inserted_at slice list a at (same ∙ is) within behind before

pub expired_as : (now : ℕ) (r : PendingRead) (asked timeout : ℕ) (result : Bool) → result ≡ is_expired now asked timeout → asked ≡ r.asked → timeout ≡ r.timeout → is_expired now r.asked r.timeout ≡ result
expired_as now r asked timeout result is one two = (λ i. is_expired now (sym one i) (sym two i)) ∙ sym is

pub answer_as : (now : ℕ) (r : PendingRead) (a : Answer) (asked id : ℕ) → a ≡ record { number = id; say = Refused (Timeout asked now) } → asked ≡ r.asked → id ≡ r.pass.id → a ≡ record { number = r.pass.id; say = Refused (Timeout r.asked now) }
answer_as now r a asked id is one two = is ∙ (λ i. record { number = two i; say = Refused (Timeout (one i) now) })
