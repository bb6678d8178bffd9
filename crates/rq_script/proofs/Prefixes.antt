-- Prefixes of lists, and the fold of a log.
use Rattle.std.proofs.Common.{◌≡◌, ◌<◌, ◌≤◌, ℕ, zero, suc, ◌+◌, List, [], ◌∷◌, ◌++◌, length, take, drop, slice_get, nat_lt, Bool, true, false, if◌then◌else◌, Option, Some, None, refl, sym, ◌∙◌, ap, subst, append_assoc, arith}
use Rattle.std.proofs.lemmas.List.{append-nil, take-append-drop, take-append-le, length-append, length-take-le}
use Rattle.rq_statement.specs.declared.command.Command.{Command}
use Rattle.rq_engine.specs.Fold.{State, run, after}
use Rattle.rq_node.specs.declared.log_entry.LogEntry.{LogEntry}
use Rattle.rq_script.specs.History.{longer}
use Rattle.rq_script.specs.Promise.{Begins}

module _ {T : Type 0} where
  pub begins_same : (xs : List T) → Begins xs xs
  begins_same xs = ([], append-nil xs)

  pub begins_on : (a b c : List T) → Begins a b → Begins b c → Begins a c
  begins_on a b c (r, first) (s, second) = (r ++ s, sym (append_assoc a r s) ∙ ap (λ (l : List T). l ++ s) first ∙ second)

  pub begins_more : (a b : List T) → Begins a (a ++ b)
  begins_more a b = (b, refl)

  pub begins_take : (n : ℕ) (xs : List T) → Begins (take n xs) xs
  begins_take n xs = (drop n xs, take-append-drop n xs)

  get_prefix : (a r : List T) (k : ℕ) → k < length a → slice_get (a ++ r) k ≡ slice_get a k
  get_prefix [] r k lt = absurd (omega (arith, lt))
  get_prefix (x ∷ a) r zero lt = refl
  get_prefix (x ∷ a) r (suc k) lt = get_prefix a r k (omega (arith, lt))

  pub begins_get : (a b : List T) (k : ℕ) → Begins a b → k < length a → slice_get b k ≡ slice_get a k
  begins_get a b k (r, is) lt = ap (λ (l : List T). slice_get l k) (sym is) ∙ get_prefix a r k lt

  pub begins_take_same : (a b : List T) (n : ℕ) → Begins a b → n ≤ length a → take n b ≡ take n a
  begins_take_same a b n (r, is) le = ap (take n) (sym is) ∙ take-append-le n a r le

  begins_in : (a r : List T) (n : ℕ) → length a ≤ n → Begins a (take n (a ++ r))
  begins_in [] r n le = (take n r, refl)
  begins_in (x ∷ a) r zero le = absurd (omega (arith, le))
  begins_in (x ∷ a) r (suc n) le = let rest = begins_in a r n (omega (arith, le)) in (rest.0, ap (λ (l : List T). x ∷ l) rest.1)

  -- of two prefixes of a list the longer begins with the shorter
  pub begins_both : (a b : List T) (n : ℕ) → Begins a b → length a ≤ n → Begins a (take n b)
  begins_both a b n (r, is) le = subst (λ (l : List T). Begins a (take n l)) is (begins_in a r n le)

  pub begins_length : (a b : List T) → Begins a b → length a ≤ length b
  begins_length a b (r, is) = let e : length b ≡ length a + length r = ap length (sym is) ∙ length-append a r in omega (arith, e)

  pub get_within : (a : List T) (k : ℕ) (x : T) → slice_get a k ≡ Some x → k < length a
  get_within [] k x is = absurd (cc)
  get_within (y ∷ a) zero x is = omega arith
  get_within (y ∷ a) (suc k) x is = let e = get_within a k x is in omega (arith, e)

  pub get_last : (a : List T) (x : T) → slice_get (a ++ x ∷ []) (length a) ≡ Some x
  get_last [] x = refl
  get_last (y ∷ a) x = get_last a x

  pub take_next : (a : List T) (k : ℕ) (x : T) → slice_get a k ≡ Some x → take (k + 1) a ≡ take k a ++ x ∷ []
  take_next [] k x is = absurd (cc)
  take_next (y ∷ a) zero x is = let one : zero + 1 ≡ suc zero = omega arith in ap (λ (n : ℕ). take n (y ∷ a)) one ∙ ap (λ (o : Option T). or_empty o) is
    where
      or_empty : Option T → List T
      or_empty None = []
      or_empty (Some z) = z ∷ []
  take_next (y ∷ a) (suc k) x is = let next : suc k + 1 ≡ suc (k + 1) = omega arith in ap (λ (n : ℕ). take n (y ∷ a)) next ∙ ap (λ (l : List T). y ∷ l) (take_next a k x is)

-- the longer of a prefix of the log and its first n entries
pub record Longest (prefix : List LogEntry) (n : ℕ) (log : List LogEntry) : Type 0 where
  pub more : Begins prefix (longer prefix (take n log))
  pub inside : Begins (longer prefix (take n log)) log
  pub covers : n ≤ length (longer prefix (take n log))

pub longest : (prefix : List LogEntry) (n : ℕ) (log : List LogEntry) → Begins prefix log → n ≤ length log → Longest prefix n log
longest prefix n log begins le = at (nat_lt (length prefix) (length (take n log))) refl
  where
    count : length (take n log) ≡ n
    count = length-take-le n log le

    of_longer : (l : List LogEntry) → longer prefix (take n log) ≡ l → Begins prefix l → Begins l log → n ≤ length l → Longest prefix n log
    of_longer l is more inside covers = record {
      more = subst (Begins prefix) (sym is) more;
      inside = subst (λ (x : List LogEntry). Begins x log) (sym is) inside;
      covers = subst (λ (x : List LogEntry). n ≤ length x) (sym is) covers;
    }

    at : (t : Bool) → nat_lt (length prefix) (length (take n log)) ≡ t → Longest prefix n log
    at true lt =
        let less : length prefix < length (take n log) = grind arith in
        of_longer (take n log) (ap (λ (t : Bool). if t then take n log else prefix) lt)
        (begins_both prefix log n begins (omega (arith, less, count))) (begins_take n log) (omega (arith, count))
    at false ge =
        let most : (length prefix < length (take n log) → ⊥) = λ lt. (let e : nat_lt (length prefix) (length (take n log)) ≡ true = grind arith in absurd (cc)) in
        of_longer prefix (ap (λ (t : Bool). if t then take n log else prefix) ge)
        (begins_same prefix) begins (omega (arith, most, count))

pub after_both : (s : State) (one two : List Command) → after s (one ++ two) ≡ after (after s one) two
after_both s [] two = refl
after_both s (command ∷ one) two = after_both (run s command).0 one two
