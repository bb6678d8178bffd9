-- Prefixes of lists, and what a log makes of a replica.
use Rattle.std.proofs.Common.{◌≡◌, ◌<◌, ◌≤◌, ℕ, zero, suc, ◌+◌, List, [], ◌∷◌, ◌++◌, length, take, drop, slice_get, Option, Some, None, refl, sym, ◌∙◌, ap, subst, append_assoc, arith}
use Rattle.std.proofs.lemmas.List.{append-nil, take-append-drop, take-append-le, length-append}
use Rattle.rq_statement.specs.declared.command.Command.{Command}
use Rattle.rq_engine.specs.Fold.{State, run, after}
use Rattle.rq_world.specs.declared.log_entry.LogEntry.{LogEntry}
use Rattle.rq_world.specs.Node.{commands}
use Rattle.rq_world.specs.Promise.{IsPrefix}

module _ {T : Type 0} where
  pub begins_same : (xs : List T) → IsPrefix xs xs
  begins_same xs = ([], append-nil xs)

  pub begins_on : (a b c : List T) → IsPrefix a b → IsPrefix b c → IsPrefix a c
  begins_on a b c (r, first) (s, second) = (r ++ s, sym (append_assoc a r s) ∙ ap (λ (l : List T). l ++ s) first ∙ second)

  pub begins_more : (a b : List T) → IsPrefix a (a ++ b)
  begins_more a b = (b, refl)

  pub begins_take : (n : ℕ) (xs : List T) → IsPrefix (take n xs) xs
  begins_take n xs = (drop n xs, take-append-drop n xs)

  get_prefix : (a r : List T) (k : ℕ) → k < length a → slice_get (a ++ r) k ≡ slice_get a k
  get_prefix [] r k lt = absurd (omega (arith, lt))
  get_prefix (x ∷ a) r zero lt = refl
  get_prefix (x ∷ a) r (suc k) lt = get_prefix a r k (omega (arith, lt))

  pub begins_get : (a b : List T) (k : ℕ) → IsPrefix a b → k < length a → slice_get b k ≡ slice_get a k
  begins_get a b k (r, is) lt = ap (λ (l : List T). slice_get l k) (sym is) ∙ get_prefix a r k lt

  pub begins_take_same : (a b : List T) (n : ℕ) → IsPrefix a b → n ≤ length a → take n b ≡ take n a
  begins_take_same a b n (r, is) le = ap (take n) (sym is) ∙ take-append-le n a r le

  begins_in : (a r : List T) (n : ℕ) → length a ≤ n → IsPrefix a (take n (a ++ r))
  begins_in [] r n le = (take n r, refl)
  begins_in (x ∷ a) r zero le = absurd (omega (arith, le))
  begins_in (x ∷ a) r (suc n) le = let rest = begins_in a r n (omega (arith, le)) in (rest.0, ap (λ (l : List T). x ∷ l) rest.1)

  -- of two prefixes of a list the longer begins with the shorter
  pub begins_both : (a b : List T) (n : ℕ) → IsPrefix a b → length a ≤ n → IsPrefix a (take n b)
  begins_both a b n (r, is) le = subst (λ (l : List T). IsPrefix a (take n l)) is (begins_in a r n le)

  pub begins_length : (a b : List T) → IsPrefix a b → length a ≤ length b
  begins_length a b (r, is) = let e : length b ≡ length a + length r = ap length (sym is) ∙ length-append a r in omega (arith, e)

  pub get_within : (a : List T) (k : ℕ) (x : T) → slice_get a k ≡ Some x → k < length a
  get_within [] k x is = absurd (cc)
  get_within (y ∷ a) zero x is = omega arith
  get_within (y ∷ a) (suc k) x is = let e = get_within a k x is in omega (arith, e)

  pub get_last : (a : List T) (x : T) → slice_get (a ++ x ∷ []) (length a) ≡ Some x
  get_last [] x = refl
  get_last (y ∷ a) x = get_last a x

  pub take_next : (a : List T) (k : ℕ) (x : T) → slice_get a k ≡ Some x → take (k + 1) a ≡ take k a ++ x ∷ []
  take_next [] k x is = absurd (cc)
  take_next (y ∷ a) zero x is = let one : zero + 1 ≡ suc zero = omega arith in ap (λ (n : ℕ). take n (y ∷ a)) one ∙ ap (λ (o : Option T). or_empty o) is
    where
      or_empty : Option T → List T
      or_empty None = []
      or_empty (Some z) = z ∷ []
  take_next (y ∷ a) (suc k) x is = let next : suc k + 1 ≡ suc (k + 1) = omega arith in ap (λ (n : ℕ). take n (y ∷ a)) next ∙ ap (λ (l : List T). y ∷ l) (take_next a k x is)

after_on : (state : State) (a b : List Command) → after state (a ++ b) ≡ after (after state a) b
after_on state [] b = refl
after_on state (command ∷ a) b = after_on (run state command).0 a b

commands_both : (a b : List LogEntry) → commands (a ++ b) ≡ commands a ++ commands b
commands_both [] b = refl
commands_both (entry ∷ a) b = ap (λ (l : List Command). entry.command ∷ l) (commands_both a b)

pub replayed_on : (state : State) (a b : List LogEntry) → after state (commands (a ++ b)) ≡ after (after state (commands a)) (commands b)
replayed_on state a b = ap (after state) (commands_both a b) ∙ after_on state (commands a) (commands b)

pub prefix_begins : {T : Type 0} (a b : List T) → take (length a) b ≡ a → IsPrefix a b
prefix_begins a b f = (drop (length a) b, ap (λ l. l ++ drop (length a) b) (sym f) ∙ take-append-drop (length a) b)
