-- Characters before a token's source.
use Rattle.std.proofs.Common.{◌≡◌, ◌≤◌, ◌<◌, ℕ, zero, suc, pred, ◌+◌, nat_lt, ◌&&◌, Bool, true, false, if◌then◌else◌, List, [], ◌∷◌, ◌++◌, length, take, drop, refl, sym, ◌∙◌, ap, append_assoc, arith}
use Rattle.std.proofs.lemmas.List.{take_all, drop-drop}
use Rattle.std.proofs.lemmas.Str.{IsUtf8-append, IsUtf8-from_is_utf8, is_utf8-from_IsUtf8}
use Rattle.std.proofs.lemmas.List.Folds.{list_all-append}
use Rattle.std.specs.List.{list_all}
use lib.Utf8.{encode}
use Rattle.std.specs.Str.{is_utf8, IsUtf8}
use Rattle.rq_values.specs.Text.{is_text}
use Rattle.rq_settle.specs.Shown.{replacement, char_len, is_zero, shown_from}

pub is_text_by : (bytes : List ℕ) → is_utf8 bytes && list_all (λ byte. nat_lt 0 byte) bytes ≡ is_text bytes
unfolding is_text
is_text_by bytes = refl

pub is_text_both : (bytes : List ℕ) (b : Bool) → true ≡ is_utf8 bytes → b ≡ list_all (λ byte. nat_lt 0 byte) bytes → b ≡ is_text bytes
is_text_both bytes b one two = two ∙ ap (λ (c : Bool). c && list_all (λ byte. nat_lt 0 byte) bytes) one ∙ is_text_by bytes

pub is_text_not : (bytes : List ℕ) → false ≡ is_utf8 bytes → false ≡ is_text bytes
is_text_not bytes one = ap (λ (c : Bool). c && list_all (λ byte. nat_lt 0 byte) bytes) one ∙ is_text_by bytes

same_prefix : (m n : ℕ) (z : List ℕ) → length z ≤ m → length z ≤ n → is_text (take m z) ≡ is_text (take n z)
same_prefix m n z one two = ap is_text (take_all m z one ∙ sym (take_all n z two))

-- a longer prefix that is a text, where a shorter one isn't, is there
longer_there : (n : ℕ) (z : List ℕ) → is_text (take n z) ≡ false → is_text (take (suc n) z) ≡ true → suc n ≤ length z
longer_there n z short long =
    let none : (length z ≤ n → ⊥) = λ le. (let e = same_prefix n (suc n) z le (omega (arith, le)) in absurd (cc)) in
    omega (arith, none)

pub char_within : (z : List ℕ) → 0 < length z → char_len z ≤ length z
char_within z some = one (is_text (take 1 z)) refl
  where
    four : (a b c d : Bool) → is_text (take 1 z) ≡ a → is_text (take 2 z) ≡ b → is_text (take 3 z) ≡ c → is_text (take 4 z) ≡ d → (if a then 1 else (if b then 2 else (if c then 3 else (if d then 4 else 0)))) ≤ length z
    four true b c d p q r s = some
    four false true c d p q r s = longer_there 1 z p q
    four false false true d p q r s = longer_there 2 z q r
    four false false false true p q r s = longer_there 3 z r s
    four false false false false p q r s = omega arith

    one : (a : Bool) → is_text (take 1 z) ≡ a → char_len z ≤ length z
    one a p = four (is_text (take 1 z)) (is_text (take 2 z)) (is_text (take 3 z)) (is_text (take 4 z)) refl refl refl refl

pub char_text : (z : List ℕ) → 0 < char_len z → is_text (take (char_len z) z) ≡ true
char_text z = by (is_text (take 1 z)) (is_text (take 2 z)) (is_text (take 3 z)) (is_text (take 4 z)) refl refl refl refl
  where
    by : (a b c d : Bool) → is_text (take 1 z) ≡ a → is_text (take 2 z) ≡ b → is_text (take 3 z) ≡ c → is_text (take 4 z) ≡ d
        → 0 < (if a then 1 else (if b then 2 else (if c then 3 else (if d then 4 else 0)))) → is_text (take (if a then 1 else (if b then 2 else (if c then 3 else (if d then 4 else 0)))) z) ≡ true
    by true b c d p q r s some = p
    by false true c d p q r s some = q
    by false false true d p q r s some = r
    by false false false true p q r s some = s
    by false false false false p q r s some = absurd (omega (arith, some))

-- the rest of a character
pub shown_on : (k : ℕ) (z : List ℕ) → k ≤ length z → shown_from k z ≡ take k z ++ shown_from 0 (drop k z)
shown_on zero z le = refl
shown_on (suc k) [] le = absurd (omega (arith, le))
shown_on (suc k) (b ∷ z) le = ap (λ (l : List ℕ). b ∷ l) (shown_on k z (omega (arith, le)))

pub shown_bad : (z : List ℕ) → 0 < length z → char_len z ≡ 0 → shown_from 0 z ≡ replacement ++ shown_from 0 (drop 1 z)
shown_bad [] some is = absurd (omega (arith, some))
shown_bad (b ∷ z) some is = ap (λ (n : ℕ). if is_zero n then replacement ++ shown_from 0 z else b ∷ shown_from (pred n) z) is

pub shown_good : (z : List ℕ) (n : ℕ) → 0 < n → n ≤ length z → char_len z ≡ n → shown_from 0 z ≡ take n z ++ shown_from 0 (drop n z)
shown_good z zero some le is = absurd (omega (arith, some))
shown_good [] (suc n) some le is = absurd (omega (arith, le))
shown_good (b ∷ z) (suc n) some le is =
    ap (λ (m : ℕ). if is_zero m then replacement ++ shown_from 0 z else b ∷ shown_from (pred m) z) is
    ∙ ap (λ (l : List ℕ). b ∷ l) (shown_on n z (omega (arith, le)))

-- one step of showing
pub show_bad : (source into : List ℕ) (at : ℕ) → at < length source → char_len (drop at source) ≡ 0 → 0 < length (drop at source)
    → into ++ shown_from 0 (drop at source) ≡ (into ++ replacement) ++ shown_from 0 (drop (at + 1) source)
show_bad source into at less is some =
    ap (λ (l : List ℕ). into ++ l) (shown_bad (drop at source) some is ∙ ap (λ (l : List ℕ). replacement ++ shown_from 0 l) (drop-drop 1 at source))
    ∙ sym (append_assoc into replacement (shown_from 0 (drop (at + 1) source)))

pub show_good : (source into : List ℕ) (at n : ℕ) → 0 < n → n ≤ length (drop at source) → n ≡ char_len (drop at source)
    → into ++ shown_from 0 (drop at source) ≡ (into ++ take n (drop at source)) ++ shown_from 0 (drop (at + n) source)
show_good source into at n some le is =
    ap (λ (l : List ℕ). into ++ l) (shown_good (drop at source) n some le (sym is) ∙ ap (λ (l : List ℕ). take n (drop at source) ++ shown_from 0 l) (drop-drop n at source))
    ∙ sym (append_assoc into (take n (drop at source)) (shown_from 0 (drop (at + n) source)))

-- two texts behind each other are a text
pub both_texts : (a b : List ℕ) → is_text a ≡ true → is_text b ≡ true → is_text (a ++ b) ≡ true
unfolding is_text
both_texts a b one two =
    let first = and_parts (is_utf8 a) (list_all (λ byte. nat_lt 0 byte) a) one in
    let second = and_parts (is_utf8 b) (list_all (λ byte. nat_lt 0 byte) b) two in
    let utf8 : is_utf8 (a ++ b) ≡ true = is_utf8-from_IsUtf8 (a ++ b) (IsUtf8-append a b (IsUtf8-from_is_utf8 a first.0) (IsUtf8-from_is_utf8 b second.0)) in
    let whole : list_all (λ byte. nat_lt 0 byte) (a ++ b) ≡ true =
    list_all-append (λ byte. nat_lt 0 byte) a b ∙ ap (λ (c : Bool). c && list_all (λ byte. nat_lt 0 byte) b) first.1 ∙ second.1 in
    ap (λ (c : Bool). c && list_all (λ byte. nat_lt 0 byte) (a ++ b)) utf8 ∙ whole
  where
    and_parts : (x y : Bool) → (x && y) ≡ true → (x ≡ true) × (y ≡ true)
    and_parts true y is = (refl, is)
    and_parts false y is = absurd (cc)

replacement_utf8 : IsUtf8 replacement
unfolding encode
replacement_utf8 = (65533 ∷ [], (refl, refl))

pub replacement_text : is_text replacement ≡ true
unfolding is_text
replacement_text = ap (λ (c : Bool). c && list_all (λ byte. nat_lt 0 byte) replacement) (is_utf8-from_IsUtf8 replacement replacement_utf8)
