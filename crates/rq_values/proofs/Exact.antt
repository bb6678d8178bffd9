-- Which readers and spellings belong together.
use Rattle.std.proofs.Common.{Bool, true, false, ◌≡◌, ℕ, zero, suc, ◌≤◌, ◌<◌, ◌^◌, ◌==◌, List, [], ◌∷◌, ◌++◌, length, take, drop, Option, Some, None, Result, Ok, Err, nat_lt, nat_le, cond, refl, sym, ap, subst, ◌∙◌, arith, append_assoc, length-append, take-append-drop, FitsSigned, get_or}
use Rattle.std.proofs.lemmas.Bool.Decides.{nat_tests}
use Rattle.std.proofs.lemmas.List.{take_at, drop_at, length-take-le}
use Rattle.std.proofs.lemmas.Nat.{from_le_bytes-to_le_bytes_4, from_le_bytes-to_le_bytes_8, le_bytes_4, le_bytes_8}
use Rattle.std.proofs.lemmas.Int.{of_z-to_z, to_z-of_z}
use Rattle.std.proofs.Math.Facts.{Fits-of_z, Fits-of_lt, sfits_to_z}
use Rattle.std.specs.List.{flat_map}
use Rattle.std.specs.Int.{w32, w64, to_le_bytes, from_le_bytes, cast_signed, cast_unsigned}
use Rattle.rq_values.specs.declared.error.DecodeError.{DecodeError}
use Rattle.rq_values.specs.declared.error.DecodeError.TheVariants.{Short, Kind, Long, NotText}
use Rattle.rq_values.specs.declared.value.Value.{Value}
use Rattle.rq_values.specs.declared.value.Value.TheVariants as values
use Rattle.rq_values.specs.Text.{is_text, is_id, is_addr}
use Rattle.rq_values.specs.Order.{rank_of}
use Rattle.rq_values.specs.Spelling.{bool_bytes, u32_bytes, u64_bytes, i64_bytes, sized, option_bytes, list_bytes, value_bytes}
use Rattle.rq_values.specs.Reading.{◌>>=◌, done, made, checked, prefix_at, u8_at, kind_at, bool_at, u32_at, u64_at, i64_at, length_at, bytes_at, text_at, id_at, addr_at, option_at, many_at, list_at, rising_at, rising_list_at, value_at}
use Rattle.rq_values.proofs.Local.{bind_ok, guard_ok, short_ok, ok_is, not_below, not_below_le}
use Rattle.rq_values.specs.Exact.{AreBytes, AreProper, Follow, IsExact, IsKind, IsNamed, IsNoneOr, IsProper, IsWithin, Stood}

-- ---- bytes

pub AreBytes-take : (n : ℕ) (bytes : List ℕ) → AreBytes bytes → AreBytes (take n bytes)
AreBytes-take zero bytes h = tt
AreBytes-take (suc n) [] h = tt
AreBytes-take (suc n) (b ∷ bytes) h = (h.0, AreBytes-take n bytes h.1)

pub AreBytes-drop : (n : ℕ) (bytes : List ℕ) → AreBytes bytes → AreBytes (drop n bytes)
AreBytes-drop zero bytes h = h
AreBytes-drop (suc n) [] h = tt
AreBytes-drop (suc n) (b ∷ bytes) h = AreBytes-drop n bytes h.1

below_256 : (bytes : List ℕ) → AreBytes bytes → (i : ℕ) → get_or bytes i 0 < 256
below_256 [] h i = omega arith
below_256 (b ∷ bytes) h zero = h.0
below_256 (b ∷ bytes) h (suc i) = below_256 bytes h.1 i

-- ---- the combinators

pub exact_done : {A : Type 0} (thing : A) → IsExact (done thing) (λ _. []) (λ a. a ≡ thing)
exact_done {A} thing = record {
  reads = λ a rest is. ap (λ (x : A). Ok (x, rest)) (sym is);
  stood = λ bytes a rest all h.
      let e = ok_is (thing, bytes) (a, rest) (Ok (thing, bytes)) refl h in
      record { is = ap (λ x. x.1) e; proper = sym (ap (λ x. x.0) e); behind = subst AreBytes (ap (λ x. x.1) e) all };
}

-- one reader, and then another: of the whole, part is what the first one reads
pub exact_bind : {A B : Type 0} (one : List ℕ → Result (A × List ℕ) DecodeError) (next : A → List ℕ → Result (B × List ℕ) DecodeError) (s : A → List ℕ) (t : A → B → List ℕ) (P : A → Type 0) (Q : A → B → Type 0) (part : B → A)
    → IsExact one s P → ((a : A) → P a → IsExact (next a) (t a) (Q a)) → ((a : A) (b : B) → Q a b → part b ≡ a)
    → IsExact (λ bytes. one bytes >>= λ x. next x.0 x.1) (λ b. s (part b) ++ t (part b) b) (λ b. P (part b) × Q (part b) b)
exact_bind {A} {B} one next s t P Q part first second parts = record {
  reads = λ b rest proper.
      ap (λ r. r >>= λ x. next x.0 x.1) (ap one (append_assoc (s (part b)) (t (part b) b) rest) ∙ first.reads (part b) (t (part b) b ++ rest) proper.0)
      ∙ (second (part b) proper.0).reads b rest proper.1;
  stood = λ bytes b rest all h.
      let found = bind_ok (one bytes) (λ x. next x.0 x.1) (b, rest) h in
      let a = found.0.0 in
      let prefix = first.stood bytes a found.0.1 all found.1 in
      let back = (second a prefix.proper).stood found.0.1 b rest prefix.behind found.2 in
      let same : part b ≡ a = parts a b back.proper in
      record {
        is = prefix.is ∙ ap (λ (l : List ℕ). s a ++ l) back.is ∙ sym (append_assoc (s a) (t a b) rest) ∙ ap (λ (x : A). (s x ++ t x b) ++ rest) (sym same);
        proper = subst (λ (x : A). P x × Q x b) (sym same) (prefix.proper, back.proper);
        behind = back.behind;
      };
}

-- a thing made of another that can be had back
pub exact_made : {A B : Type 0} (one : List ℕ → Result (A × List ℕ) DecodeError) (s : A → List ℕ) (P : A → Type 0) (f : A → B) (back : B → A) (Q : B → Type 0)
    → IsExact one s P → ((b : B) → Q b → P (back b) × (f (back b) ≡ b)) → ((a : A) → P a → Q (f a) × (back (f a) ≡ a)) → IsExact (made one f) (λ b. s (back b)) Q
exact_made {A} {B} one s P f back Q exact there here = record {
  reads = λ b rest proper.
      let p = there b proper in
      ap (λ r. r >>= λ x. Ok (f x.0, x.1)) (exact.reads (back b) rest p.0) ∙ ap (λ (x : B). Ok (x, rest)) p.1;
  stood = λ bytes b rest all h.
      let found = bind_ok (one bytes) (λ x. Ok (f x.0, x.1)) (b, rest) h in
      let e = ok_is (f found.0.0, found.0.1) (b, rest) (Ok (f found.0.0, found.0.1)) refl found.2 in
      let prefix = exact.stood bytes found.0.0 found.0.1 all found.1 in
      let p = here found.0.0 prefix.proper in
      record {
        is = prefix.is ∙ ap (λ (x : A). s x ++ found.0.1) (sym p.1) ∙ (λ i. s (back (e i).0) ++ (e i).1);
        proper = subst Q (ap (λ x. x.0) e) p.0;
        behind = subst AreBytes (ap (λ x. x.1) e) prefix.behind;
      };
}

-- a thing that passes a test
pub exact_checked : {A : Type 0} (one : List ℕ → Result (A × List ℕ) DecodeError) (s : A → List ℕ) (P : A → Type 0) (test : A → Bool) (why : ℕ → A → DecodeError)
    → IsExact one s P → IsExact (checked one test why) s (λ a. P a × (test a ≡ true))
exact_checked {A} one s P test why exact = record {
  reads = λ a rest proper.
      ap (λ r. r >>= λ x. cond (test x.0) (Ok x) (Err (why (length (s a ++ rest)) x.0))) (exact.reads a rest proper.0)
      ∙ ap (λ b. cond b (Ok (a, rest)) (Err (why (length (s a ++ rest)) a))) proper.1;
  stood = λ bytes a rest all h.
      let found = bind_ok (one bytes) (λ x. cond (test x.0) (Ok x) (Err (why (length bytes) x.0))) (a, rest) h in
      let passed = guard_ok (test found.0.0) found.0 (a, rest) (why (length bytes) found.0.0) found.2 in
      let prefix = exact.stood bytes found.0.0 found.0.1 all found.1 in
      record {
        is = prefix.is ∙ (λ i. s (passed.1 i).0 ++ (passed.1 i).1);
        proper = subst (λ (x : A). P x × (test x ≡ true)) (ap (λ x. x.0) passed.1) (prefix.proper, passed.0);
        behind = subst AreBytes (ap (λ x. x.1) passed.1) prefix.behind;
      };
}

-- the same reader with its spelling and its proper things said otherwise
pub exact_same : {A : Type 0} (one : List ℕ → Result (A × List ℕ) DecodeError) (s t : A → List ℕ) (P Q : A → Type 0)
    → IsExact one s P → ((a : A) → P a → s a ≡ t a) → ((a : A) → P a → Q a) → ((a : A) → Q a → P a) → IsExact one t Q
exact_same {A} one s t P Q exact same there here = record {
  reads = λ a rest proper. ap (λ (l : List ℕ). one (l ++ rest)) (sym (same a (here a proper))) ∙ exact.reads a rest (here a proper);
  stood = λ bytes a rest all h.
      let prefix = exact.stood bytes a rest all h in
      record { is = prefix.is ∙ ap (λ (l : List ℕ). l ++ rest) (same a prefix.proper); proper = there a prefix.proper; behind = prefix.behind };
}

-- ---- the fields

pub exact_prefix : (n : ℕ) → IsExact (prefix_at n) (λ l. l) (λ l. (length l ≡ n) × AreBytes l)
unfolding prefix_at
exact_prefix n = record {
  reads = λ l rest proper.
      let enough : nat_lt (length (l ++ rest)) n ≡ false = not_below (length (l ++ rest)) n (omega (arith, length-append l rest, proper.0)) in
      λ i. cond {A = Result (List ℕ × List ℕ) DecodeError} (enough i) (Err (Short 0)) (Ok (take_at l rest n proper.0 i, drop_at l rest n proper.0 i));
  stood = λ bytes l rest all h.
      let whole = short_ok (nat_lt (length bytes) n) (take n bytes, drop n bytes) (l, rest) (Short 0) h in
      let long : n ≤ length bytes = not_below_le (length bytes) n whole.0 in
      record {
        is = sym (take-append-drop n bytes) ∙ (λ i. (whole.1 i).0 ++ (whole.1 i).1);
        proper = (ap length (sym (ap (λ x. x.0) whole.1)) ∙ length-take-le n bytes long, subst AreBytes (ap (λ x. x.0) whole.1) (AreBytes-take n bytes all));
        behind = subst AreBytes (ap (λ x. x.1) whole.1) (AreBytes-drop n bytes all);
      };
}

pub exact_u8 : IsExact u8_at (λ byte. byte ∷ []) (λ byte. byte < 256)
unfolding u8_at
exact_u8 = record {
  reads = λ byte rest proper. refl;
  stood = stood;
}
  where
    stood : (bytes : List ℕ) (a : ℕ) (rest : List ℕ) → AreBytes bytes → u8_at bytes ≡ Ok (a, rest) → Stood (λ byte. byte ∷ []) (λ byte. byte < 256) bytes a rest
    stood [] a rest all h = absurd (cc)
    stood (byte ∷ bytes) a rest all h =
        let e = ok_is (byte, bytes) (a, rest) (Ok (byte, bytes)) refl h in
        record { is = λ i. (e i).0 ∷ (e i).1; proper = subst (λ (n : ℕ). n < 256) (ap (λ x. x.0) e) all.0; behind = subst AreBytes (ap (λ x. x.1) e) all.1 }

bytes_of_4 : (n : ℕ) → AreBytes (to_le_bytes w32 n)
bytes_of_4 n = (omega arith, (omega arith, (omega arith, (omega arith, tt))))

bytes_of_8 : (n : ℕ) → AreBytes (to_le_bytes w64 n)
bytes_of_8 n = (omega arith, (omega arith, (omega arith, (omega arith, (omega arith, (omega arith, (omega arith, (omega arith, tt))))))))

below_4 : (l : List ℕ) → length l ≡ 4 → AreBytes l → from_le_bytes w32 l < 2 ^ 32
below_4 [] e h = absurd (omega arith)
below_4 (a ∷ []) e h = absurd (omega arith)
below_4 (a ∷ b ∷ []) e h = absurd (omega arith)
below_4 (a ∷ b ∷ c ∷ []) e h = absurd (omega arith)
below_4 (a ∷ b ∷ c ∷ d ∷ []) e h = let p = h.0 in let q = h.1.0 in let r = h.1.1.0 in let s = h.1.1.1.0 in omega arith
below_4 (a ∷ b ∷ c ∷ d ∷ f ∷ l) e h = absurd (omega arith)

below_8 : (l : List ℕ) → length l ≡ 8 → AreBytes l → from_le_bytes w64 l < 2 ^ 64
below_8 [] e h = absurd (omega arith)
below_8 (a ∷ []) e h = absurd (omega arith)
below_8 (a ∷ b ∷ []) e h = absurd (omega arith)
below_8 (a ∷ b ∷ c ∷ []) e h = absurd (omega arith)
below_8 (a ∷ b ∷ c ∷ d ∷ []) e h = absurd (omega arith)
below_8 (a ∷ b ∷ c ∷ d ∷ a' ∷ []) e h = absurd (omega arith)
below_8 (a ∷ b ∷ c ∷ d ∷ a' ∷ b' ∷ []) e h = absurd (omega arith)
below_8 (a ∷ b ∷ c ∷ d ∷ a' ∷ b' ∷ c' ∷ []) e h = absurd (omega arith)
below_8 (a ∷ b ∷ c ∷ d ∷ a' ∷ b' ∷ c' ∷ d' ∷ []) e h =
    let p = h.0 in let q = h.1.0 in let r = h.1.1.0 in let s = h.1.1.1.0 in
    let p' = h.1.1.1.1.0 in let q' = h.1.1.1.1.1.0 in let r' = h.1.1.1.1.1.1.0 in let s' = h.1.1.1.1.1.1.1.0 in omega arith
below_8 (a ∷ b ∷ c ∷ d ∷ a' ∷ b' ∷ c' ∷ d' ∷ f ∷ l) e h = absurd (omega arith)

pub exact_u32 : IsExact u32_at u32_bytes (λ n. n < 2 ^ 32)
unfolding u32_at u32_bytes
exact_u32 = exact_made (prefix_at 4) (λ l. l) (λ l. (length l ≡ 4) × AreBytes l) (from_le_bytes w32) (to_le_bytes w32) (λ n. n < 2 ^ 32) (exact_prefix 4)
    (λ n fits. ((refl, bytes_of_4 n), from_le_bytes-to_le_bytes_4 n fits))
    (λ l proper. (below_4 l proper.0 proper.1, le_bytes_4 l (from_le_bytes w32 l) proper.0 (below_256 l proper.1) refl))

pub exact_u64 : IsExact u64_at u64_bytes (λ n. n < 2 ^ 64)
unfolding u64_at u64_bytes
exact_u64 = exact_made (prefix_at 8) (λ l. l) (λ l. (length l ≡ 8) × AreBytes l) (from_le_bytes w64) (to_le_bytes w64) (λ n. n < 2 ^ 64) (exact_prefix 8)
    (λ n fits. ((refl, bytes_of_8 n), from_le_bytes-to_le_bytes_8 n fits))
    (λ l proper. (below_8 l proper.0 proper.1, le_bytes_8 l (from_le_bytes w64 l) proper.0 (below_256 l proper.1) refl))

pub exact_i64 : IsExact i64_at i64_bytes (FitsSigned w64)
unfolding i64_at i64_bytes u64_bytes
exact_i64 =
    exact_made u64_at u64_bytes (λ n. n < 2 ^ 64) (cast_signed w64) (cast_unsigned w64) (FitsSigned w64) exact_u64
    (λ number fits. ((Fits-of_z fits).fits, to_z-of_z w64 number fits))
    (λ n fits. (sfits_to_z (Fits-of_lt fits), of_z-to_z w64 n fits))

within : (m n : ℕ) → nat_le m n ≡ true → m ≤ n
within m n h = grind (arith, nat_tests)

tested : (m n : ℕ) → m ≤ n → nat_le m n ≡ true
tested m n h = grind (arith, nat_tests)

pub exact_bytes : (limit : ℕ) → IsExact (bytes_at limit) sized (IsWithin limit)
unfolding bytes_at length_at
exact_bytes limit =
    exact_same (bytes_at limit) sized sized (λ l. ((length l < 2 ^ 32) × (nat_le (length l) limit ≡ true)) × ((length l ≡ length l) × AreBytes l)) (IsWithin limit)
    (exact_bind (length_at limit) prefix_at u32_bytes (λ _ l. l) (λ n. (n < 2 ^ 32) × (nat_le n limit ≡ true)) (λ n l. (length l ≡ n) × AreBytes l) length
    (exact_checked u32_at u32_bytes (λ n. n < 2 ^ 32) (λ len. nat_le len limit) Long exact_u32) (λ n _. exact_prefix n) (λ n l proper. proper.0))
    (λ l _. refl) (λ l p. (within (length l) limit p.0.1, p.0.0, p.1.1)) (λ l p. ((p.1, tested (length l) limit p.0), (refl, p.2)))

pub exact_text : (limit : ℕ) → IsExact (text_at limit) sized (IsNamed is_text limit)
unfolding text_at
exact_text limit = exact_checked (bytes_at limit) sized (IsWithin limit) is_text (λ left _. NotText left) (exact_bytes limit)

pub exact_id : (limit : ℕ) → IsExact (id_at limit) sized (IsNamed is_id limit)
unfolding id_at
exact_id limit = exact_checked (bytes_at limit) sized (IsWithin limit) is_id (λ left _. NotText left) (exact_bytes limit)

pub exact_addr : (limit : ℕ) → IsExact (addr_at limit) sized (IsNamed is_addr limit)
unfolding addr_at
exact_addr limit = exact_checked (bytes_at limit) sized (IsWithin limit) is_addr (λ left _. NotText left) (exact_bytes limit)

pub exact_kind : (most : ℕ) → IsExact (kind_at most) (λ kind. kind ∷ []) (IsKind most)
unfolding kind_at
exact_kind most = exact_checked u8_at (λ kind. kind ∷ []) (λ kind. kind < 256) (λ kind. nat_le kind most) Kind exact_u8

pub exact_bool : IsExact bool_at bool_bytes (λ _. Unit {0})
unfolding bool_at
exact_bool =
    exact_same bool_at (λ b. byte_of b ∷ []) bool_bytes (λ _. Unit {0}) (λ _. Unit {0})
    (exact_made (kind_at 1) (λ kind. kind ∷ []) (IsKind 1) (λ kind. kind == 1) byte_of (λ _. Unit {0}) (exact_kind 1) there here)
    same (λ b p. p) (λ b p. p)
  where
    byte_of : Bool → ℕ
    byte_of false = 0
    byte_of true = 1

    there : (b : Bool) → Unit {0} → IsKind 1 (byte_of b) × ((byte_of b == 1) ≡ b)
    there false p = ((omega arith, refl), refl)
    there true p = ((omega arith, refl), refl)

    here : (kind : ℕ) → IsKind 1 kind → Unit {0} × (byte_of (kind == 1) ≡ kind)
    here zero p = (tt, refl)
    here (suc zero) p = (tt, refl)
    here (suc (suc n)) p = absurd (let q = within (suc (suc n)) 1 p.1 in omega arith)

    same : (b : Bool) → Unit {0} → byte_of b ∷ [] ≡ bool_bytes b
    same false p = refl
    same true p = refl

-- ---- options and lists

tag_of : {A : Type 0} → Option A → ℕ
tag_of None = 0
tag_of (Some thing) = 1

inside : {A : Type 0} → (A → List ℕ) → Option A → List ℕ
inside s None = []
inside s (Some thing) = s thing

abbrev OfTag : {A : Type 0} → (A → Type 0) → ℕ → Option A → Type 0
OfTag P tag thing = (tag_of thing ≡ tag) × IsNoneOr P thing

option_none : {A : Type 0} (s : A → List ℕ) (P : A → Type 0) → IsExact (done None) (inside s) (OfTag P 0)
unfolding tag_of inside
option_none {A} s P = exact_same (done None) (λ _. []) (inside s) (λ o. o ≡ None) (OfTag P 0) (exact_done None) (λ o e. ap (inside s) (sym e)) (λ o e. subst (OfTag P 0) (sym e) (refl, tt)) only
  where
    only : (o : Option A) → OfTag P 0 o → o ≡ None
    only None p = refl
    only (Some thing) p = absurd (omega (arith, p.0))

option_some : {A : Type 0} (one : List ℕ → Result (A × List ℕ) DecodeError) (s : A → List ℕ) (P : A → Type 0) → IsExact one s P → IsExact (made one Some) (inside s) (OfTag P 1)
unfolding tag_of inside
option_some {A} one s P exact = record { reads = reads; stood = stood }
  where
    reads : (o : Option A) (rest : List ℕ) → OfTag P 1 o → made one Some (inside s o ++ rest) ≡ Ok (o, rest)
    reads None rest p = absurd (omega (arith, p.0))
    reads (Some a) rest p = ap (λ r. r >>= λ x. Ok (Some x.0, x.1)) (exact.reads a rest p.1)

    stood : (bytes : List ℕ) (o : Option A) (rest : List ℕ) → AreBytes bytes → made one Some bytes ≡ Ok (o, rest) → Stood (inside s) (OfTag P 1) bytes o rest
    stood bytes o rest all h =
        let found = bind_ok (one bytes) (λ x. Ok (Some x.0, x.1)) (o, rest) h in
        let e = ok_is (Some found.0.0, found.0.1) (o, rest) (Ok (Some found.0.0, found.0.1)) refl found.2 in
        let prefix = exact.stood bytes found.0.0 found.0.1 all found.1 in
        record {
          is = prefix.is ∙ (λ i. inside s (e i).0 ++ (e i).1);
          proper = subst (OfTag P 1) (ap (λ x. x.0) e) (refl, prefix.proper);
          behind = subst AreBytes (ap (λ x. x.1) e) prefix.behind;
        }

option_inside : {A : Type 0} → (List ℕ → Result (A × List ℕ) DecodeError) → ℕ → List ℕ → Result (Option A × List ℕ) DecodeError
option_inside one tag bytes = cond (tag == 0) (done None bytes) (made one Some bytes)

exact_inside : {A : Type 0} (one : List ℕ → Result (A × List ℕ) DecodeError) (s : A → List ℕ) (P : A → Type 0) → IsExact one s P → (tag : ℕ) → IsKind 1 tag → IsExact (option_inside one tag) (inside s) (OfTag P tag)
unfolding option_inside
exact_inside one s P exact zero p = option_none s P
exact_inside one s P exact (suc zero) p = option_some one s P exact
exact_inside one s P exact (suc (suc n)) p = absurd (let q = within (suc (suc n)) 1 p.1 in omega arith)

pub exact_option : {A : Type 0} (one : List ℕ → Result (A × List ℕ) DecodeError) (s : A → List ℕ) (P : A → Type 0) → IsExact one s P → IsExact (option_at one) (option_bytes s) (IsNoneOr P)
unfolding option_at option_inside tag_of inside
exact_option {A} one s P exact =
    exact_same (option_at one) (λ o. tag_of o ∷ inside s o) (option_bytes s) (λ o. IsKind 1 (tag_of o) × OfTag P (tag_of o) o) (IsNoneOr P)
    (exact_bind (kind_at 1) (option_inside one) (λ kind. kind ∷ []) (λ _. inside s) (IsKind 1) (OfTag P) tag_of (exact_kind 1) (exact_inside one s P exact) (λ kind o p. p.0))
    same (λ o p. p.1.1) (λ o p. (tagged o, (refl, p)))
  where
    same : (o : Option A) → IsKind 1 (tag_of o) × OfTag P (tag_of o) o → tag_of o ∷ inside s o ≡ option_bytes s o
    same None p = refl
    same (Some thing) p = refl

    tagged : (o : Option A) → IsKind 1 (tag_of o)
    tagged None = (omega arith, refl)
    tagged (Some thing) = (omega arith, refl)

-- things read behind that one
abbrev led_by : {A : Type 0} → A → Result (List A × List ℕ) DecodeError → Result (List A × List ℕ) DecodeError
led_by thing read = read >>= λ more. Ok (thing ∷ more.0, more.1)

many_none : {A : Type 0} (one : List ℕ → Result (A × List ℕ) DecodeError) (s : A → List ℕ) (P : A → Type 0) → IsExact (many_at one 0) (flat_map s) (λ things. (length things ≡ 0) × AreProper P things)
unfolding many_at
many_none {A} one s P = record { reads = reads; stood = stood }
  where
    reads : (things : List A) (rest : List ℕ) → (length things ≡ 0) × AreProper P things → done {A = List A} [] (flat_map s things ++ rest) ≡ Ok (things, rest)
    reads [] rest p = refl
    reads (x ∷ things) rest p = absurd (omega (arith, p.0))

    stood : (bytes : List ℕ) (things : List A) (rest : List ℕ) → AreBytes bytes → done {A = List A} [] bytes ≡ Ok (things, rest) → Stood (flat_map s) (λ things. (length things ≡ 0) × AreProper P things) bytes things rest
    stood bytes things rest all h =
        let e = ok_is ([], bytes) (things, rest) (Ok ([], bytes)) refl h in
        record {
          is = λ i. flat_map s (e i).0 ++ (e i).1;
          proper = subst (λ (l : List A). (length l ≡ 0) × AreProper P l) (ap (λ x. x.0) e) (refl, tt);
          behind = subst AreBytes (ap (λ x. x.1) e) all;
        }

many_more : {A : Type 0} (one : List ℕ → Result (A × List ℕ) DecodeError) (s : A → List ℕ) (P : A → Type 0) → IsExact one s P → (n : ℕ)
    → IsExact (many_at one n) (flat_map s) (λ things. (length things ≡ n) × AreProper P things) → IsExact (many_at one (suc n)) (flat_map s) (λ things. (length things ≡ suc n) × AreProper P things)
unfolding many_at
many_more {A} one s P exact n others = record { reads = reads; stood = stood }
  where
    reads : (things : List A) (rest : List ℕ) → (length things ≡ suc n) × AreProper P things → (one (flat_map s things ++ rest) >>= λ first. led_by first.0 (many_at one n first.1)) ≡ Ok (things, rest)
    reads [] rest p = absurd (omega (arith, p.0))
    reads (x ∷ things) rest p =
        let len : length things ≡ n = omega (arith, p.0) in
        ap (λ r. r >>= λ first. led_by first.0 (many_at one n first.1)) (ap one (append_assoc (s x) (flat_map s things) rest) ∙ exact.reads x (flat_map s things ++ rest) p.1.0)
        ∙ ap (led_by x) (others.reads things rest (len, p.1.1))

    stood : (bytes : List ℕ) (things : List A) (rest : List ℕ) → AreBytes bytes → (one bytes >>= λ first. led_by first.0 (many_at one n first.1)) ≡ Ok (things, rest) → Stood (flat_map s) (λ things. (length things ≡ suc n) × AreProper P things) bytes things rest
    stood bytes things rest all h =
        let found = bind_ok (one bytes) (λ first. led_by first.0 (many_at one n first.1)) (things, rest) h in
        let x = found.0.0 in
        let more = bind_ok (many_at one n found.0.1) (λ more. Ok (x ∷ more.0, more.1)) (things, rest) found.2 in
        let e = ok_is (x ∷ more.0.0, more.0.1) (things, rest) (Ok (x ∷ more.0.0, more.0.1)) refl more.2 in
        let prefix = exact.stood bytes x found.0.1 all found.1 in
        let back = others.stood found.0.1 more.0.0 more.0.1 prefix.behind more.1 in
        record {
          is = prefix.is ∙ ap (λ (l : List ℕ). s x ++ l) back.is ∙ sym (append_assoc (s x) (flat_map s more.0.0) more.0.1) ∙ (λ i. flat_map s (e i).0 ++ (e i).1);
          proper = subst (λ (l : List A). (length l ≡ suc n) × AreProper P l) (ap (λ x. x.0) e) (ap suc back.proper.0, (prefix.proper, back.proper.1));
          behind = subst AreBytes (ap (λ x. x.1) e) back.behind;
        }

pub exact_many : {A : Type 0} (one : List ℕ → Result (A × List ℕ) DecodeError) (s : A → List ℕ) (P : A → Type 0) → IsExact one s P → (n : ℕ) → IsExact (many_at one n) (flat_map s) (λ things. (length things ≡ n) × AreProper P things)
exact_many one s P exact zero = many_none one s P
exact_many one s P exact (suc n) = many_more one s P exact n (exact_many one s P exact n)

pub exact_list : {A : Type 0} (one : List ℕ → Result (A × List ℕ) DecodeError) (s : A → List ℕ) (P : A → Type 0) → IsExact one s P → IsExact (list_at one) (list_bytes s) (λ things. (length things < 2 ^ 32) × AreProper P things)
unfolding list_at
exact_list {A} one s P exact =
    exact_same (list_at one) (list_bytes s) (list_bytes s) (λ things. (length things < 2 ^ 32) × ((length things ≡ length things) × AreProper P things)) (λ things. (length things < 2 ^ 32) × AreProper P things)
    (exact_bind u32_at (many_at one) u32_bytes (λ _. flat_map s) (λ n. n < 2 ^ 32) (λ n things. (length things ≡ n) × AreProper P things) length exact_u32 (λ n _. exact_many one s P exact n) (λ n things p. p.0))
    (λ things _. refl) (λ things p. (p.0, p.1.1)) (λ things p. (p.0, (refl, p.1)))

rising_none : {A : Type 0} (one : Option A → List ℕ → Result (A × List ℕ) DecodeError) (s : A → List ℕ) (P : Option A → A → Type 0) (last : Option A)
    → IsExact (rising_at one 0 last) (flat_map s) (λ things. (length things ≡ 0) × Follow P last things)
unfolding rising_at
rising_none {A} one s P last = record { reads = reads; stood = stood }
  where
    reads : (things : List A) (rest : List ℕ) → (length things ≡ 0) × Follow P last things → done {A = List A} [] (flat_map s things ++ rest) ≡ Ok (things, rest)
    reads [] rest p = refl
    reads (x ∷ things) rest p = absurd (omega (arith, p.0))

    stood : (bytes : List ℕ) (things : List A) (rest : List ℕ) → AreBytes bytes → done {A = List A} [] bytes ≡ Ok (things, rest) → Stood (flat_map s) (λ things. (length things ≡ 0) × Follow P last things) bytes things rest
    stood bytes things rest all h =
        let e = ok_is ([], bytes) (things, rest) (Ok ([], bytes)) refl h in
        record {
          is = λ i. flat_map s (e i).0 ++ (e i).1;
          proper = subst (λ (l : List A). (length l ≡ 0) × Follow P last l) (ap (λ x. x.0) e) (refl, tt);
          behind = subst AreBytes (ap (λ x. x.1) e) all;
        }

rising_more : {A : Type 0} (one : Option A → List ℕ → Result (A × List ℕ) DecodeError) (s : A → List ℕ) (P : Option A → A → Type 0) → ((last : Option A) → IsExact (one last) s (P last)) → (n : ℕ)
    → ((last : Option A) → IsExact (rising_at one n last) (flat_map s) (λ things. (length things ≡ n) × Follow P last things)) → (last : Option A)
    → IsExact (rising_at one (suc n) last) (flat_map s) (λ things. (length things ≡ suc n) × Follow P last things)
unfolding rising_at
rising_more {A} one s P exact n others last = record { reads = reads; stood = stood }
  where
    reads : (things : List A) (rest : List ℕ) → (length things ≡ suc n) × Follow P last things → (one last (flat_map s things ++ rest) >>= λ first. led_by first.0 (rising_at one n (Some first.0) first.1)) ≡ Ok (things, rest)
    reads [] rest p = absurd (omega (arith, p.0))
    reads (x ∷ things) rest p =
        let len : length things ≡ n = omega (arith, p.0) in
        ap (λ r. r >>= λ first. led_by first.0 (rising_at one n (Some first.0) first.1)) (ap (one last) (append_assoc (s x) (flat_map s things) rest) ∙ (exact last).reads x (flat_map s things ++ rest) p.1.0)
        ∙ ap (led_by x) ((others (Some x)).reads things rest (len, p.1.1))

    stood : (bytes : List ℕ) (things : List A) (rest : List ℕ) → AreBytes bytes → (one last bytes >>= λ first. led_by first.0 (rising_at one n (Some first.0) first.1)) ≡ Ok (things, rest) → Stood (flat_map s) (λ things. (length things ≡ suc n) × Follow P last things) bytes things rest
    stood bytes things rest all h =
        let found = bind_ok (one last bytes) (λ first. led_by first.0 (rising_at one n (Some first.0) first.1)) (things, rest) h in
        let x = found.0.0 in
        let more = bind_ok (rising_at one n (Some x) found.0.1) (λ more. Ok (x ∷ more.0, more.1)) (things, rest) found.2 in
        let e = ok_is (x ∷ more.0.0, more.0.1) (things, rest) (Ok (x ∷ more.0.0, more.0.1)) refl more.2 in
        let prefix = (exact last).stood bytes x found.0.1 all found.1 in
        let back = (others (Some x)).stood found.0.1 more.0.0 more.0.1 prefix.behind more.1 in
        record {
          is = prefix.is ∙ ap (λ (l : List ℕ). s x ++ l) back.is ∙ sym (append_assoc (s x) (flat_map s more.0.0) more.0.1) ∙ (λ i. flat_map s (e i).0 ++ (e i).1);
          proper = subst (λ (l : List A). (length l ≡ suc n) × Follow P last l) (ap (λ x. x.0) e) (ap suc back.proper.0, (prefix.proper, back.proper.1));
          behind = subst AreBytes (ap (λ x. x.1) e) back.behind;
        }

pub exact_rising : {A : Type 0} (one : Option A → List ℕ → Result (A × List ℕ) DecodeError) (s : A → List ℕ) (P : Option A → A → Type 0) → ((last : Option A) → IsExact (one last) s (P last)) → (n : ℕ) (last : Option A)
    → IsExact (rising_at one n last) (flat_map s) (λ things. (length things ≡ n) × Follow P last things)
exact_rising one s P exact zero last = rising_none one s P last
exact_rising one s P exact (suc n) last = rising_more one s P exact n (exact_rising one s P exact n) last

pub exact_rising_list : {A : Type 0} (one : Option A → List ℕ → Result (A × List ℕ) DecodeError) (s : A → List ℕ) (P : Option A → A → Type 0) → ((last : Option A) → IsExact (one last) s (P last))
    → IsExact (rising_list_at one) (list_bytes s) (λ things. (length things < 2 ^ 32) × Follow P None things)
unfolding rising_list_at
exact_rising_list {A} one s P exact =
    exact_same (rising_list_at one) (list_bytes s) (list_bytes s) (λ things. (length things < 2 ^ 32) × ((length things ≡ length things) × Follow P None things)) (λ things. (length things < 2 ^ 32) × Follow P None things)
    (exact_bind u32_at (λ n. rising_at one n None) u32_bytes (λ _. flat_map s) (λ n. n < 2 ^ 32) (λ n things. (length things ≡ n) × Follow P None things) length exact_u32 (λ n _. exact_rising one s P exact n None) (λ n things p. p.0))
    (λ things _. refl) (λ things p. (p.0, p.1.1)) (λ things p. (p.0, (refl, p.1)))

-- ---- values

-- what stands behind the kind's byte
abbrev content_of : Value → List ℕ
content_of values.Null = []
content_of (values.Int number) = i64_bytes number
content_of (values.Text text) = sized text
content_of (values.Blob bytes) = sized bytes

abbrev OfKind : ℕ → ℕ → Value → Type 0
OfKind limit kind value = (rank_of value ≡ kind) × IsProper limit value

exact_null : (limit : ℕ) → IsExact (done values.Null) content_of (OfKind limit 0)
exact_null limit = exact_same (done values.Null) (λ _. []) content_of (λ v. v ≡ values.Null) (OfKind limit 0) (exact_done values.Null) (λ v e. ap content_of (sym e)) (λ v e. subst (OfKind limit 0) (sym e) (refl, tt)) only
  where
    only : (v : Value) → OfKind limit 0 v → v ≡ values.Null
    only values.Null p = refl
    only (values.Int number) p = absurd (omega (arith, p.0))
    only (values.Text text) p = absurd (omega (arith, p.0))
    only (values.Blob bytes) p = absurd (omega (arith, p.0))

exact_int : (limit : ℕ) → IsExact (made u64_at (λ number. values.Int (cast_signed w64 number))) content_of (OfKind limit 1)
unfolding i64_bytes u64_bytes
exact_int limit =
    exact_same (made u64_at (λ number. values.Int (cast_signed w64 number))) (λ v. u64_bytes (number_of v)) content_of (OfKind limit 1) (OfKind limit 1)
    (exact_made u64_at u64_bytes (λ n. n < 2 ^ 64) (λ number. values.Int (cast_signed w64 number)) number_of (OfKind limit 1) exact_u64 there
    (λ n fits. ((refl, sfits_to_z (Fits-of_lt fits)), of_z-to_z w64 n fits)))
    same (λ v p. p) (λ v p. p)
  where
    number_of : Value → ℕ
    number_of values.Null = 0
    number_of (values.Int number) = cast_unsigned w64 number
    number_of (values.Text text) = 0
    number_of (values.Blob bytes) = 0

    there : (v : Value) → OfKind limit 1 v → (number_of v < 2 ^ 64) × (values.Int (cast_signed w64 (number_of v)) ≡ v)
    there values.Null p = absurd (omega (arith, p.0))
    there (values.Int number) p = ((Fits-of_z p.1).fits, ap values.Int (to_z-of_z w64 number p.1))
    there (values.Text text) p = absurd (omega (arith, p.0))
    there (values.Blob bytes) p = absurd (omega (arith, p.0))

    same : (v : Value) → OfKind limit 1 v → u64_bytes (number_of v) ≡ content_of v
    same values.Null p = absurd (omega (arith, p.0))
    same (values.Int number) p = refl
    same (values.Text text) p = absurd (omega (arith, p.0))
    same (values.Blob bytes) p = absurd (omega (arith, p.0))

held_by : Value → List ℕ
held_by values.Null = []
held_by (values.Int number) = []
held_by (values.Text text) = text
held_by (values.Blob bytes) = bytes

exact_text_value : (limit : ℕ) → IsExact (made (text_at limit) values.Text) content_of (OfKind limit 2)
unfolding held_by
exact_text_value limit =
    exact_same (made (text_at limit) values.Text) (λ v. sized (held_by v)) content_of (OfKind limit 2) (OfKind limit 2)
    (exact_made (text_at limit) sized (IsNamed is_text limit) values.Text held_by (OfKind limit 2) (exact_text limit) there (λ text proper. ((refl, proper), refl)))
    same (λ v p. p) (λ v p. p)
  where
    there : (v : Value) → OfKind limit 2 v → IsNamed is_text limit (held_by v) × (values.Text (held_by v) ≡ v)
    there values.Null p = absurd (omega (arith, p.0))
    there (values.Int number) p = absurd (omega (arith, p.0))
    there (values.Text text) p = (p.1, refl)
    there (values.Blob bytes) p = absurd (omega (arith, p.0))

    same : (v : Value) → OfKind limit 2 v → sized (held_by v) ≡ content_of v
    same values.Null p = absurd (omega (arith, p.0))
    same (values.Int number) p = absurd (omega (arith, p.0))
    same (values.Text text) p = refl
    same (values.Blob bytes) p = absurd (omega (arith, p.0))

exact_blob_value : (limit : ℕ) → IsExact (made (bytes_at limit) values.Blob) content_of (OfKind limit 3)
unfolding held_by
exact_blob_value limit =
    exact_same (made (bytes_at limit) values.Blob) (λ v. sized (held_by v)) content_of (OfKind limit 3) (OfKind limit 3)
    (exact_made (bytes_at limit) sized (IsWithin limit) values.Blob held_by (OfKind limit 3) (exact_bytes limit) there (λ bytes proper. ((refl, proper), refl)))
    same (λ v p. p) (λ v p. p)
  where
    there : (v : Value) → OfKind limit 3 v → IsWithin limit (held_by v) × (values.Blob (held_by v) ≡ v)
    there values.Null p = absurd (omega (arith, p.0))
    there (values.Int number) p = absurd (omega (arith, p.0))
    there (values.Text text) p = absurd (omega (arith, p.0))
    there (values.Blob bytes) p = (p.1, refl)

    same : (v : Value) → OfKind limit 3 v → sized (held_by v) ≡ content_of v
    same values.Null p = absurd (omega (arith, p.0))
    same (values.Int number) p = absurd (omega (arith, p.0))
    same (values.Text text) p = absurd (omega (arith, p.0))
    same (values.Blob bytes) p = refl

content_at : ℕ → ℕ → List ℕ → Result (Value × List ℕ) DecodeError
content_at limit kind bytes =
    cond (kind == 0) (done values.Null bytes) (cond (kind == 1) (made u64_at (λ number. values.Int (cast_signed w64 number)) bytes)
    (cond (kind == 2) (made (text_at limit) values.Text bytes) (made (bytes_at limit) values.Blob bytes)))

exact_content : (limit kind : ℕ) → IsKind 3 kind → IsExact (content_at limit kind) content_of (OfKind limit kind)
unfolding content_at
exact_content limit zero p = exact_null limit
exact_content limit (suc zero) p = exact_int limit
exact_content limit (suc (suc zero)) p = exact_text_value limit
exact_content limit (suc (suc (suc zero))) p = exact_blob_value limit
exact_content limit (suc (suc (suc (suc n)))) p = absurd (let q = within (suc (suc (suc (suc n)))) 3 p.1 in omega arith)

pub exact_value : (limit : ℕ) → IsExact (value_at limit) value_bytes (IsProper limit)
unfolding value_at content_at
exact_value limit =
    exact_same (value_at limit) (λ v. rank_of v ∷ content_of v) value_bytes (λ v. IsKind 3 (rank_of v) × OfKind limit (rank_of v) v) (IsProper limit)
    (exact_bind (kind_at 3) (content_at limit) (λ kind. kind ∷ []) (λ _. content_of) (IsKind 3) (OfKind limit) rank_of (exact_kind 3) (exact_content limit) (λ kind v p. p.0))
    same (λ v p. p.1.1) (λ v p. (ranked v, (refl, p)))
  where
    same : (v : Value) → IsKind 3 (rank_of v) × OfKind limit (rank_of v) v → rank_of v ∷ content_of v ≡ value_bytes v
    same values.Null p = refl
    same (values.Int number) p = refl
    same (values.Text text) p = refl
    same (values.Blob bytes) p = refl

    ranked : (v : Value) → IsKind 3 (rank_of v)
    ranked values.Null = (omega arith, refl)
    ranked (values.Int number) = (omega arith, refl)
    ranked (values.Text text) = (omega arith, refl)
    ranked (values.Blob bytes) = (omega arith, refl)
