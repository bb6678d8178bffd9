-- The parts of a time text are texts.
use Rattle.std.proofs.Common.{Bool, true, false, ◌≡◌, ℕ, zero, suc, ◌<◌, ◌≤◌, ◌-◌, ◌&&◌, ◌==◌, nat_lt, List, [], ◌∷◌, length, drop, take, slice_index, ◌⊎◌, inl, inr, refl, ap, ◌∙◌, arith, eqb-true}
use Rattle.std.specs.Prelude.{◌||◌}
use Rattle.std.specs.List.{list_all}
use Rattle.std.specs.Str.{is_utf8, IsUtf8, IsCharBoundary}
use Rattle.std.proofs.lemmas.Bool.Decides.{nat_tests}
use Rattle.std.proofs.lemmas.List.{length-take-le}
use Rattle.std.proofs.lemmas.Str.{IsUtf8-from_is_utf8, is_utf8-from_IsUtf8, IsUtf8-take, IsUtf8-drop, IsCharBoundary-after_ascii}
use Rattle.rq_values.specs.Text.{is_text}
use Rattle.rq_texts.proofs.Liking.{rest_is}
use Rattle.rq_texts.specs.TimeText.{is_time_text, starts_with_date, ends_with_time, is_time_of_day}

both : (a b : Bool) → a ≡ true → b ≡ true → (a && b) ≡ true
both a b h k = cc

left : (a b : Bool) → (a && b) ≡ true → a ≡ true
left true b h = refl
left false b h = h

right : (a b : Bool) → (a && b) ≡ true → b ≡ true
right true b h = h
right false b h = absurd (cc)

utf8_from_text : (bytes : List ℕ) → is_text bytes ≡ true → IsUtf8 bytes
unfolding is_text
utf8_from_text bytes h = IsUtf8-from_is_utf8 bytes (left (is_utf8 bytes) (list_all (λ byte. nat_lt 0 byte) bytes) h)

no_nul_in_text : (bytes : List ℕ) → is_text bytes ≡ true → list_all (λ byte. nat_lt 0 byte) bytes ≡ true
unfolding is_text
no_nul_in_text bytes h = right (is_utf8 bytes) (list_all (λ byte. nat_lt 0 byte) bytes) h

text_from_both : (bytes : List ℕ) → IsUtf8 bytes → list_all (λ byte. nat_lt 0 byte) bytes ≡ true → is_text bytes ≡ true
unfolding is_text
text_from_both bytes h k = both (is_utf8 bytes) (list_all (λ byte. nat_lt 0 byte) bytes) (is_utf8-from_IsUtf8 bytes h) k

-- ---- parts of a time text

no_nul_taken : (n : ℕ) (s : List ℕ) → list_all (λ byte. nat_lt 0 byte) s ≡ true → list_all (λ byte. nat_lt 0 byte) (take n s) ≡ true
no_nul_taken zero s h = refl
no_nul_taken (suc n) [] h = refl
no_nul_taken (suc n) (b ∷ s) h = both (nat_lt 0 b) (list_all (λ byte. nat_lt 0 byte) (take n s)) (left (nat_lt 0 b) (list_all (λ byte. nat_lt 0 byte) s) h)
    (no_nul_taken n s (right (nat_lt 0 b) (list_all (λ byte. nat_lt 0 byte) s) h))

no_nul_dropped : (n : ℕ) (s : List ℕ) → list_all (λ byte. nat_lt 0 byte) s ≡ true → list_all (λ byte. nat_lt 0 byte) (drop n s) ≡ true
no_nul_dropped zero s h = h
no_nul_dropped (suc n) [] h = refl
no_nul_dropped (suc n) (b ∷ s) h = no_nul_dropped n s (right (nat_lt 0 b) (list_all (λ byte. nat_lt 0 byte) s) h)

either : (a b : Bool) → (a || b) ≡ true → (a ≡ true) ⊎ (b ≡ true)
either true b h = inl refl
either false b h = inr h

-- a time text has ten bytes, or more and a blank behind ten
time_text_form : (s : List ℕ) → is_time_text s ≡ true → (length s ≡ 10) ⊎ ((length s ≡ 19) × (slice_index s 10 ≡ 32))
unfolding is_time_text
time_text_form s h = by (either (length s == 10) ((length s == 19) && ends_with_time s) (right (starts_with_date s) ((length s == 10) || ((length s == 19) && ends_with_time s)) h))
  where
    by : ((length s == 10) ≡ true) ⊎ (((length s == 19) && ends_with_time s) ≡ true) → (length s ≡ 10) ⊎ ((length s ≡ 19) × (slice_index s 10 ≡ 32))
    by (inl e) = inl (eqb-true (length s) 10 e)
    by (inr e) =
        inr (
          eqb-true (length s) 19 (left (length s == 19) (ends_with_time s) e),
          eqb-true (slice_index s 10) 32 (left (slice_index s 10 == 32) (is_time_of_day s) (right (length s == 19) (ends_with_time s) e)),
        )

time_text_long : (s : List ℕ) → is_time_text s ≡ true → 10 ≤ length s
time_text_long s h = by (time_text_form s h)
  where
    by : (length s ≡ 10) ⊎ ((length s ≡ 19) × (slice_index s 10 ≡ 32)) → 10 ≤ length s
    by (inl e) = omega (arith, e)
    by (inr e) = omega (arith, e.0)

date_is_text : (s : List ℕ) → is_text s ≡ true → is_time_text s ≡ true → is_text (take 10 s) ≡ true
date_is_text s t h = text_from_both (take 10 s) (IsUtf8-take s 10 (utf8_from_text s t) (by (time_text_form s h))) (no_nul_taken 10 s (no_nul_in_text s t))
  where
    by : (length s ≡ 10) ⊎ ((length s ≡ 19) × (slice_index s 10 ≡ 32)) → IsCharBoundary s 10
    by (inl e) = (omega (arith, e), λ l. absurd (omega (arith, e, l)))
    by (inr e) = (omega (arith, e.0), λ l k. absurd (omega (arith, e.1, k)))

time_is_text : (s : List ℕ) → is_text s ≡ true → is_time_text s ≡ true → 10 < length s → is_text (drop 11 s) ≡ true
time_is_text s t h long = by (time_text_form s h)
  where
    by : (length s ≡ 10) ⊎ ((length s ≡ 19) × (slice_index s 10 ≡ 32)) → is_text (drop 11 s) ≡ true
    by (inl e) = absurd (omega (arith, e, long))
    by (inr e) = text_from_both (drop 11 s) (IsUtf8-drop s 11 (utf8_from_text s t) (IsCharBoundary-after_ascii s 10 (utf8_from_text s t) long (omega (arith, e.1)))) (no_nul_dropped 11 s (no_nul_in_text s t))

-- the same of the bytes that are read
pub ten_taken : (b s : List ℕ) → b ≡ s → is_time_text s ≡ true → 10 ≡ length (take 10 b)
ten_taken b s e h = let long = time_text_long s h in let same = ap length e in omega (arith, length-take-le 10 b (omega arith))

pub date_read : (b s : List ℕ) → b ≡ s → is_text s ≡ true → is_time_text s ≡ true → is_text (take 10 b) ≡ true
date_read b s e t h = ap (λ (z : List ℕ). is_text (take 10 z)) e ∙ date_is_text s t h

pub time_read : (b s : List ℕ) → b ≡ s → is_text s ≡ true → is_time_text s ≡ true → true ≡ nat_lt 10 (length b) → is_text (take (length b - 11) (drop 11 b)) ≡ true
time_read b s e t h long =
    ap is_text (rest_is 11 b) ∙ ap (λ (z : List ℕ). is_text (drop 11 z)) e ∙ time_is_text s t h (by (length s) (long ∙ ap (λ (z : List ℕ). nat_lt 10 (length z)) e))
  where
    by : (n : ℕ) → true ≡ nat_lt 10 n → 10 < n
    by n h = grind (arith, nat_tests)
