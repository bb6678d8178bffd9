-- Each token before a text is some of its bytes, and is as `IsCut` says.
use Rattle.std.proofs.Common.{Bool, true, false, ◌≡◌, ℕ, suc, ◌+◌, ◌-◌, ◌*◌, ◌%◌, ◌<◌, ◌≤◌, ◌^◌, ◌&&◌, not, cond, nat_lt, nat_le, [], ◌∷◌, take, drop, length, refl, ap, subst, ◌∙◌, arith, Option, Some, None, length-drop}
use Rattle.std.specs.Prelude.{slice_index, ◌==◌}
use Rattle.std.specs.Char.{is_ascii_digit, is_ascii_hexdigit, digit_value}
use Rattle.std.specs.List.{list_all, prefix_len}
use Rattle.std.proofs.lemmas.Bool.Decides.{nat_tests}
use Rattle.std.proofs.lemmas.Grind.{common_steps}
use Rattle.std.proofs.lemmas.List.Sums.{prefix_len-le-length}
use Rattle.rq_values.specs.Text.{is_text}
use Rattle.rq_grammar.specs.declared.token.Token.{Token}
use Rattle.rq_grammar.specs.declared.token.Token.TheVariants as t
use Rattle.rq_grammar.specs.Words.{Text}
use Rattle.rq_grammar.specs.Spelling.{begins_word, is_in_word, is_bare}
use Rattle.rq_lexer.specs.Lex.{Front, Marks, is_in_numeral, is_integer, number_of, word, parameter, numeral, closing, undoubled, up_to_closing, quoted, or_other, string, quoted_name, is_hex, bytes_of_hex, is_no_quote, blob, mark_among, stands_at, long_marks, short_marks, char_len, or_char, or_short, mark, is_x, is_sigil, prefix}
use Rattle.rq_lexer.specs.Facts.{IsCut}
use Rattle.rq_lexer.proofs.Plain.{both, left, right, run_passes}

pub record IsPrefixOf (z : Text) (f : Front) : Type 0 where
  pub some : 1 ≤ f.1
  pub within : f.1 ≤ length z
  pub cut : IsCut f.0

pub by_test : (P : Front → Type 0) (b : Bool) (x y : Front) → (b ≡ true → P x) → (b ≡ false → P y) → P (cond b x y)
by_test P true x y f g = f refl
by_test P false x y f g = g refl

by_token : (b : Bool) (u v : Token) → (b ≡ true → IsCut u) → (b ≡ false → IsCut v) → IsCut (cond b u v)
by_token true u v f g = f refl
by_token false u v f g = g refl

run_more : (p : ℕ → Bool) (b : ℕ) (z : Text) → p b ≡ true → prefix_len p (b ∷ z) ≡ suc (prefix_len p z)
run_more p b z h = let e : 1 + prefix_len p z ≡ suc (prefix_len p z) = omega arith in ap (λ t. cond t (1 + prefix_len p z) 0) h ∙ e

in_word : (b : ℕ) → begins_word b ≡ true → is_in_word b ≡ true
in_word b h = cc

in_numeral : (b : ℕ) → is_ascii_digit b ≡ true → is_in_numeral b ≡ true
in_numeral b h = grind (arith, nat_tests)

bare_run : (b : ℕ) (z : Text) → begins_word b ≡ true → is_bare (take (prefix_len is_in_word (b ∷ z)) (b ∷ z)) ≡ true
unfolding is_bare
bare_run b z h = ap (λ n. is_bare (take n (b ∷ z))) (run_more is_in_word b z (in_word b h)) ∙ both (begins_word b) (list_all is_in_word (take (prefix_len is_in_word z) z)) h (run_passes is_in_word z)

word_is : (z : Text) → 1 ≤ length z → begins_word (slice_index z 0) ≡ true → IsPrefixOf z (word z)
unfolding word
word_is [] some h = absurd (omega arith)
word_is (b ∷ z) some h =
    let more = run_more is_in_word b z (in_word b h) in
    record { some = omega arith; within = prefix_len-le-length is_in_word (b ∷ z); cut = (bare_run b z h, refl) }

parameter_is : (z : Text) → 1 ≤ length z → begins_word (slice_index z 1) ≡ true → IsPrefixOf z (parameter z)
unfolding parameter
parameter_is [] some h = absurd (omega arith)
parameter_is (a ∷ []) some h = absurd (cc)
parameter_is (a ∷ b ∷ z) some h =
    let within = prefix_len-le-length is_in_word (b ∷ z) in
    record { some = omega arith; within = omega arith; cut = bare_run b z h }

at_most : (n : ℕ) → nat_le n (2 ^ 63) ≡ true → n ≤ 2 ^ 63
at_most n h = grind (arith, nat_tests)

integer_most : (run : Text) → is_integer run ≡ true → number_of run ≤ 2 ^ 63
unfolding is_integer
integer_most run h = at_most (number_of run) (right (list_all is_ascii_digit run) (nat_le (number_of run) (2 ^ 63)) h)

numeral_is : (z : Text) → 1 ≤ length z → is_ascii_digit (slice_index z 0) ≡ true → IsPrefixOf z (numeral z)
unfolding numeral
numeral_is [] some h = absurd (omega arith)
numeral_is (b ∷ z) some h =
    let more = run_more is_in_numeral b z (in_numeral b h) in
    let run = take (prefix_len is_in_numeral (b ∷ z)) (b ∷ z) in
    record {
      some = omega arith;
      within = prefix_len-le-length is_in_numeral (b ∷ z);
      cut = by_token (is_integer run) (t.Numeral (number_of run)) (t.OtherNumeral run) (λ is. integer_most run is)
          (λ is. (ap (λ n. is_ascii_digit (slice_index (take n (b ∷ z)) 0)) more ∙ h, run_passes is_in_numeral (b ∷ z), is));
    }

closing_step : (q n : ℕ) (is_open : Bool) (b : ℕ) (z : Text) (m : ℕ) → closing q n is_open (b ∷ z) ≡ Some m → (closing q (n + 1) (not is_open && b == q) z ≡ Some m → m ≤ n + 1 + length z) → m ≤ n + suc (length z)
closing_step q n is_open b z m h more = by_case (is_open && not (b == q)) refl
  where
    by_case : (c : Bool) → (is_open && not (b == q)) ≡ c → m ≤ n + suc (length z)
    by_case true is = let e : n ≡ m = cc in omega arith
    by_case false is =
        let k : closing q (n + 1) (not is_open && b == q) z ≡ Some m = cc in
        let most = more k in
        omega arith

closing_within : (q n : ℕ) (is_open : Bool) (z : Text) (m : ℕ) → closing q n is_open z ≡ Some m → m ≤ n + length z
closing_within q n true [] m h = let e : n ≡ m = cc in omega arith
closing_within q n false [] m h = absurd (cc)
closing_within q n is_open (b ∷ z) m h = closing_step q n is_open b z m h (λ k. closing_within q (n + 1) (not is_open && b == q) z m k)

pub record IsQuoted (z : Text) (r : Option Text × ℕ) : Type 0 where
  pub within : r.1 ≤ length z
  pub text : (s : Text) → r.0 ≡ Some s → is_text s ≡ true

is_inside : (s : Text) (r : Text) → cond (is_text s) (Some s) None ≡ Some r → is_text r ≡ true
is_inside s r h = by_case (is_text s) refl
  where
    by_case : (c : Bool) → is_text s ≡ c → is_text r ≡ true
    by_case true is = let e : s ≡ r = cc in cc
    by_case false is = absurd (cc)

quoted_is : (q : ℕ) (z : Text) → IsQuoted z (quoted q z)
unfolding quoted
quoted_is q z = by_case (closing q 0 false z) refl
  where
    by_case : (o : Option ℕ) → closing q 0 false z ≡ o → IsQuoted z (up_to_closing q z o)
    by_case None e = record { within = omega arith; text = λ s h. absurd (cc) }
    by_case (Some n) e = record { within = let most = closing_within q 0 false z n e in omega arith; text = λ s h. is_inside (undoubled q false (take (n - 1) z)) s h }

or_other_is : (make : Text → Token) (o : Option Text) → ((s : Text) → o ≡ Some s → IsCut (make s)) → IsCut (or_other make o)
or_other_is make None h = tt
or_other_is make (Some s) h = h s refl

string_is : (z : Text) → 1 ≤ length z → IsPrefixOf z (string z)
unfolding string
string_is [] some = absurd (omega arith)
string_is (b ∷ z) some =
    let q = quoted_is 39 z in
    record { some = omega arith; within = omega (arith, q.within); cut = or_other_is t.String (quoted 39 z).0 q.text }

quoted_name_is : (z : Text) → 1 ≤ length z → IsPrefixOf z (quoted_name z)
unfolding quoted_name
quoted_name_is [] some = absurd (omega arith)
quoted_name_is (b ∷ z) some =
    let q = quoted_is 34 z in
    record { some = omega arith; within = omega (arith, q.within); cut = or_other_is t.Quoted (quoted 34 z).0 q.text }

hex_below : (d : ℕ) → is_ascii_hexdigit d ≡ true → digit_value d < 16
hex_below d h = grind (arith, nat_tests)

byte_below : (a b : ℕ) → a < 16 → b < 16 → nat_lt (16 * a + b) 256 ≡ true
byte_below a b h k = let small : 16 * a + b < 256 = omega arith in less (16 * a + b) small
  where
    less : (n : ℕ) → n < 256 → nat_lt n 256 ≡ true
    less n h = grind (arith, nat_tests)

hex_bytes_below : (z : Text) → list_all is_ascii_hexdigit z ≡ true → list_all (λ b. nat_lt b 256) (bytes_of_hex z) ≡ true
hex_bytes_below [] h = refl
hex_bytes_below (a ∷ []) h = refl
hex_bytes_below (a ∷ b ∷ z) h =
    let behind = right (is_ascii_hexdigit a) (list_all is_ascii_hexdigit (b ∷ z)) h in
    both (nat_lt (16 * digit_value a + digit_value b) 256) (list_all (λ b. nat_lt b 256) (bytes_of_hex z))
    (byte_below (digit_value a) (digit_value b) (hex_below a (left (is_ascii_hexdigit a) (list_all is_ascii_hexdigit (b ∷ z)) h)) (hex_below b (left (is_ascii_hexdigit b) (list_all is_ascii_hexdigit z) behind)))
    (hex_bytes_below z (right (is_ascii_hexdigit b) (list_all is_ascii_hexdigit z) behind))

hex_bytes : (z : Text) → is_hex z ≡ true → list_all (λ b. nat_lt b 256) (bytes_of_hex z) ≡ true
unfolding is_hex
hex_bytes z h = hex_bytes_below z (left (list_all is_ascii_hexdigit z) (length z % 2 == 0) h)

blob_is : (z : Text) → 1 ≤ length z → IsPrefixOf z (blob z)
unfolding blob
blob_is z some =
    let inside = drop 2 z in
    let n = prefix_len is_no_quote inside in
    by_test (IsPrefixOf z) (nat_lt n (length inside)) (cond (is_hex (take n inside)) (t.Blob (bytes_of_hex (take n inside))) t.Other, n + 3) (t.Other, length z)
    (λ h. record {
      some = omega arith;
      within = long n (length inside) (length z) h (length-drop 2 z);
      cut = by_token (is_hex (take n inside)) (t.Blob (bytes_of_hex (take n inside))) t.Other (λ is. hex_bytes (take n inside) is) (λ _. tt);
    })
    (λ h. record { some = some; within = omega arith; cut = tt })
  where
    long : (n m k : ℕ) → nat_lt n m ≡ true → m ≡ k - 2 → n + 3 ≤ k
    long n m k h e = grind (arith, nat_tests)

char_len_is : (z : Text) → 1 ≤ length z → (1 ≤ char_len z) × (char_len z ≤ length z)
unfolding char_len
char_len_is [] some = absurd (omega arith)
char_len_is (a ∷ []) some = grind (arith, common_steps)
char_len_is (a ∷ b ∷ []) some = grind (arith, common_steps)
char_len_is (a ∷ b ∷ c ∷ []) some = grind (arith, common_steps)
char_len_is (a ∷ b ∷ c ∷ d ∷ z) some = grind (arith, common_steps)

-- the first byte of a mark is not 0
abbrev AreMarks : ℕ → Marks → Type 0
AreMarks len [] = Unit {0}
AreMarks len (m ∷ ms) = IsCut m.1 × ((z : Text) → stands_at 0 z m.0 ≡ true → len ≤ length z) × AreMarks len ms

mark_step : (len : ℕ) (m : Text × Token) (ms : Marks) (z : Text) (u : Token) → AreMarks len (m ∷ ms) → mark_among (m ∷ ms) z ≡ Some u → (mark_among ms z ≡ Some u → IsCut u × (len ≤ length z)) → IsCut u × (len ≤ length z)
mark_step len m ms z u are h more = by_case (stands_at 0 z m.0) refl
  where
    by_case : (c : Bool) → stands_at 0 z m.0 ≡ c → IsCut u × (len ≤ length z)
    by_case true is = let e : m.1 ≡ u = cc in (subst IsCut e are.0, are.1 z is)
    by_case false is = let k : mark_among ms z ≡ Some u = cc in more k

mark_is_one : (len : ℕ) (ms : Marks) (z : Text) (u : Token) → AreMarks len ms → mark_among ms z ≡ Some u → IsCut u × (len ≤ length z)
mark_is_one len [] z u are h = absurd (cc)
mark_is_one len (m ∷ ms) z u are h = mark_step len m ms z u are h (λ k. mark_is_one len ms z u are.2 k)

two : (a b : ℕ) (z : Text) → 0 < b → (slice_index z 0 == a && (slice_index z 1 == b && true)) ≡ true → 2 ≤ length z
two a b [] some h = grind (arith, nat_tests)
two a b (c ∷ []) some h = grind (arith, nat_tests)
two a b (c ∷ d ∷ z) some h = omega arith

long_are : AreMarks 2 long_marks
long_are =
    let some : (a b : ℕ) → 0 < b → (z : Text) → (slice_index z 0 == a && (slice_index z 1 == b && true)) ≡ true → 2 ≤ length z = λ a b h z is. two a b z h is in
    (tt, some 61 61 (omega arith), (tt, some 60 62 (omega arith), (tt, some 33 61 (omega arith), (tt, some 60 61 (omega arith), (tt, some 62 61 (omega arith), (tt, some 124 124 (omega arith), tt))))))

short_are : AreMarks 0 short_marks
short_are =
    let any : (len : ℕ) → 0 ≤ len = λ len. omega arith in (
      tt,
      λ z h. any (length z),
      (
        tt,
        λ z h. any (length z),
        (
          tt,
          λ z h. any (length z),
          (
            tt,
            λ z h. any (length z),
            (
              tt,
              λ z h. any (length z),
              (
                tt,
                λ z h. any (length z),
                (
                  tt,
                  λ z h. any (length z),
                  (tt, λ z h. any (length z), (tt, λ z h. any (length z), (tt, λ z h. any (length z), (tt, λ z h. any (length z), (tt, λ z h. any (length z), (tt, λ z h. any (length z), (tt, λ z h. any (length z), tt))))))),
                ),
              ),
            ),
          ),
        ),
      ),
    )

mark_is : (z : Text) → 1 ≤ length z → IsPrefixOf z (mark z)
unfolding mark
mark_is z some = long (mark_among long_marks z) refl
  where
    char : IsPrefixOf z (t.Other, char_len z)
    char = let is = char_len_is z some in record { some = is.0; within = is.1; cut = tt }

    short : (o : Option Token) → mark_among short_marks z ≡ o → IsPrefixOf z (or_char z o)
    short None h = char
    short (Some u) h = record { some = omega arith; within = some; cut = (mark_is_one 0 short_marks z u short_are h).0 }

    long : (o : Option Token) → mark_among long_marks z ≡ o → IsPrefixOf z (or_short z o)
    long None h = short (mark_among short_marks z) refl
    long (Some u) h = let is = mark_is_one 2 long_marks z u long_are h in record { some = omega arith; within = is.1; cut = is.0 }

pub prefix_is : (z : Text) → 1 ≤ length z → IsPrefixOf z (prefix z)
unfolding prefix
prefix_is z some =
    let b = slice_index z 0 in
    let c = slice_index z 1 in
    by_test (IsPrefixOf z) (is_x b && c == 39) (blob z) _ (λ h. blob_is z some)
    (λ _. by_test (IsPrefixOf z) (begins_word b) (word z) _ (λ h. word_is z some h)
    (λ _. by_test (IsPrefixOf z) (is_ascii_digit b) (numeral z) _ (λ h. numeral_is z some h)
    (λ _. by_test (IsPrefixOf z) (b == 39) (string z) _ (λ h. string_is z some)
    (λ _. by_test (IsPrefixOf z) (b == 34) (quoted_name z) _ (λ h. quoted_name_is z some)
    (λ _. by_test (IsPrefixOf z) (is_sigil b && begins_word c) (parameter z) (mark z) (λ h. parameter_is z some (right (is_sigil b) (begins_word c) h))
    (λ _. mark_is z some))))))
