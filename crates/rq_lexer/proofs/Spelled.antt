-- What a token spells is read as that token.
use Rattle.std.proofs.Common.{Bool, true, false, ◌≡◌, ℕ, zero, suc, ◌+◌, ◌-◌, ◌*◌, ◌/◌, ◌%◌, ◌<◌, ◌≤◌, ◌^◌, ◌&&◌, not, cond, nat_lt, nat_le, List, [], ◌∷◌, ◌++◌, map, take, drop, length, refl, sym, ap, ◌∙◌, arith, Option, Some, None, append_assoc, length-append}
use Rattle.std.specs.Prelude.{slice_index, ◌==◌}
use Rattle.std.specs.Char.{is_ascii_digit, is_ascii_hexdigit, digit_value}
use Rattle.std.specs.Fmt.{decimal}
use Rattle.std.specs.List.{list_all, prefix_len, flat_map, AllByRecursion}
use Rattle.std.proofs.lemmas.Bool.Decides.{nat_tests}
use Rattle.std.proofs.Math.Seq.{take-append_seam, drop-append_seam}
use Rattle.std.proofs.lemmas.Fmt.{decimal_by_steps, decimal_nonempty}
use Rattle.std.proofs.lemmas.List.Folds.{list_all-append}
use Rattle.std.proofs.lemmas.List.Sums.{fold-append}
use Rattle.rq_values.specs.Text.{is_text}
use Rattle.rq_grammar.specs.declared.token.Token.{Token}
use Rattle.rq_grammar.specs.declared.token.Token.TheVariants as t
use Rattle.rq_grammar.specs.Words.{Text}
use Rattle.rq_grammar.specs.Spelling.{begins_word, is_in_word, is_bare, word_of}
use Rattle.rq_lexer.specs.declared.placed.Placed.{Placed}
use Rattle.rq_lexer.specs.Lex.{Front, is_blank, blank_len, is_in_numeral, is_integer, number_of, word, parameter, numeral, closing, undoubled, up_to_closing, quoted, or_other, string, quoted_name, is_hex, bytes_of_hex, is_no_quote, blob, or_short, mark, is_in_line, behind_comment, is_x, prefix, piece_of, piece, placed, lex_from, lex}
use Rattle.rq_lexer.specs.Facts.{IsCut, InOrder}
use Rattle.rq_lexer.specs.Spelled.{tokens_in, doubled, in_quotes, hex_digit, hex_byte, bytes_of, IsSpelled, ends_before}
use Rattle.rq_lexer.proofs.Plain.{both, left, right}
use Rattle.rq_lexer.proofs.Cut.{past, blank_goes, lex_in_order}

-- ---- what is cut off

token_of : Placed → Token
token_of p = p.token

placed_tokens : (p : Option Token × ℕ) (at at' : ℕ) (more more' : List Placed) → map (λ q. q.token) more ≡ map (λ q. q.token) more' → map (λ q. q.token) (placed at p more) ≡ map (λ q. q.token) (placed at' p more')
placed_tokens (None, n) at at' more more' e = e
placed_tokens (Some u, n) at at' more more' e = ap (λ us. u ∷ us) e

-- the tokens are the same at each place
same_tokens : (at at' left : ℕ) (z : Text) → map (λ q. q.token) (lex_from at left z) ≡ map (λ q. q.token) (lex_from at' left z)
unfolding lex_from
same_tokens at at' left [] = refl
same_tokens at at' (suc left) (b ∷ z) = same_tokens (at + 1) (at' + 1) left z
same_tokens at at' zero (b ∷ z) =
    let p = piece (b ∷ z) in
    placed_tokens p at at' (lex_from (at + 1) (p.1 - 1) z) (lex_from (at' + 1) (p.1 - 1) z) (same_tokens (at + 1) (at' + 1) (p.1 - 1) z)

cut_off : (s rest : Text) (u : Token) → 1 ≤ length s → piece (s ++ rest) ≡ (Some u, length s) → tokens_in (s ++ rest) ≡ u ∷ tokens_in rest
unfolding lex lex_from
cut_off [] rest u some h = absurd (omega arith)
cut_off (b ∷ w) rest u some h =
    let one : suc (length w) - 1 ≡ length w = omega arith in
    ap (λ p. map (λ q. q.token) (placed 0 p (lex_from (0 + 1) (p.1 - 1) (w ++ rest)))) h
    ∙ ap (λ n. u ∷ map (λ q. q.token) (lex_from (0 + 1) n (w ++ rest))) one
    ∙ ap (λ ps. u ∷ map (λ q. q.token) ps) (past (0 + 1) (length w) (w ++ rest))
    ∙ ap (λ y. u ∷ map (λ q. q.token) (lex_from (0 + 1 + length w) 0 y)) (drop-append_seam w rest)
    ∙ ap (λ us. u ∷ us) (same_tokens (0 + 1 + length w) 0 0 rest)

pub blank_off : (rest : Text) → tokens_in (32 ∷ rest) ≡ tokens_in rest
unfolding lex blank_len
blank_off rest = ap (map (λ q. q.token)) (blank_goes 0 (32 ∷ rest) (omega arith)) ∙ same_tokens (0 + 1) 0 0 rest

piece_is : (z : Text) (u : Token) (n : ℕ) → blank_len z ≡ 0 → prefix z ≡ (u, n) → piece z ≡ (Some u, n)
unfolding piece
piece_is z u n h e = ap (λ k. piece_of k (prefix z)) h ∙ ap (λ (f : Front). piece_of 0 f) e

-- ---- choices

no_blank : (p q q' r r' : Bool) (n m : ℕ) → p ≡ false → q ≡ false → r ≡ false → cond p 1 (cond (q && q') n (cond (r && r') m 0)) ≡ 0
no_blank p q q' r r' n m h k l = rw (h, k, l) refl

no_blank_in_prefix : (b : ℕ) (y : Text) → is_blank b ≡ false → (b == 45) ≡ false → (b == 47) ≡ false → blank_len (b ∷ y) ≡ 0
unfolding blank_len
no_blank_in_prefix b y h k l = no_blank (is_blank b) (b == 45) (slice_index y 0 == 45) (b == 47) (slice_index y 0 == 42) _ _ h k l

second : (p q : Bool) (x y z : Front) → p ≡ false → q ≡ true → cond p x (cond q y z) ≡ y
second p q x y z h k = rw (h, k) refl

third : (p p' q r : Bool) (x y z v : Front) → p ≡ false → q ≡ false → r ≡ true → cond (p && p') x (cond q y (cond r z v)) ≡ z
third p p' q r x y z v h k l = rw (h, k, l) refl

-- ---- runs

run_is : (p : ℕ → Bool) (s rest : Text) → list_all p s ≡ true → p (slice_index rest 0) ≡ false → prefix_len p (s ++ rest) ≡ length s
run_is p [] [] h stops = refl
run_is p [] (b ∷ rest) h stops = ap (λ t. cond t (1 + prefix_len p rest) 0) stops
run_is p (b ∷ s) rest h stops =
    let e : 1 + length s ≡ suc (length s) = omega arith in
    ap (λ t. cond t (1 + prefix_len p (s ++ rest)) 0) (left (p b) (list_all p s) h) ∙ ap (λ n. 1 + n) (run_is p s rest (right (p b) (list_all p s) h) stops) ∙ e

false_from_not : (b : Bool) → not b ≡ true → b ≡ false
false_from_not true h = absurd (cc)
false_from_not false h = refl

-- ---- words and parameters

begins_no_blank : (b : ℕ) → begins_word b ≡ true → is_blank b ≡ false
begins_no_blank b h = grind (arith, nat_tests)

begins_no_minus : (b : ℕ) → begins_word b ≡ true → (b == 45) ≡ false
begins_no_minus b h = grind (arith, nat_tests)

begins_no_slash : (b : ℕ) → begins_word b ≡ true → (b == 47) ≡ false
begins_no_slash b h = grind (arith, nat_tests)

all_in_word : (n : Text) → is_bare n ≡ true → list_all is_in_word n ≡ true
unfolding is_bare
all_in_word [] h = absurd (cc)
all_in_word (b ∷ n) h = both (is_in_word b) (list_all is_in_word n) (first b (left (begins_word b) (list_all is_in_word n) h)) (right (begins_word b) (list_all is_in_word n) h)
  where
    first : (b : ℕ) → begins_word b ≡ true → is_in_word b ≡ true
    first b h = cc

begins : (b : ℕ) (n : Text) → is_bare (b ∷ n) ≡ true → begins_word b ≡ true
unfolding is_bare
begins b n h = left (begins_word b) (list_all is_in_word n) h

some_bare : (n : Text) → is_bare n ≡ true → 1 ≤ length n
unfolding is_bare
some_bare [] h = absurd (cc)
some_bare (b ∷ n) h = omega arith

no_quote_behind : (n rest : Text) → list_all is_in_word n ≡ true → (slice_index rest 0 == 39) ≡ false → (slice_index (n ++ rest) 0 == 39) ≡ false
no_quote_behind [] rest h k = k
no_quote_behind (b ∷ n) rest h k = in_word b (left (is_in_word b) (list_all is_in_word n) h)
  where
    in_word : (b : ℕ) → is_in_word b ≡ true → (b == 39) ≡ false
    in_word b h = grind (arith, nat_tests)

and_false : (p q : Bool) → q ≡ false → (p && q) ≡ false
and_false true q h = h
and_false false q h = refl

word_prefix : (n rest : Text) → is_bare n ≡ true → is_in_word (slice_index rest 0) ≡ false → word (n ++ rest) ≡ (t.Word n (word_of n), length n)
unfolding word
word_prefix n rest bare stops =
    ap (λ k. (t.Word (take k (n ++ rest)) (word_of (take k (n ++ rest))), k)) (run_is is_in_word n rest (all_in_word n bare) stops)
    ∙ ap (λ m. (t.Word m (word_of m), length n)) (take-append_seam n rest)

word_piece : (n rest : Text) → is_bare n ≡ true → is_in_word (slice_index rest 0) ≡ false → (slice_index rest 0 == 39) ≡ false → piece (n ++ rest) ≡ (Some (t.Word n (word_of n)), length n)
unfolding prefix
word_piece [] rest bare stops quote = absurd (omega (arith, some_bare [] bare))
word_piece (b ∷ n) rest bare stops quote =
    let h = begins b n bare in
    let no = no_quote_behind n rest (right (is_in_word b) (list_all is_in_word n) (all_in_word (b ∷ n) bare)) quote in
    piece_is (b ∷ (n ++ rest)) (t.Word (b ∷ n) (word_of (b ∷ n))) (suc (length n)) (no_blank_in_prefix b (n ++ rest) (begins_no_blank b h) (begins_no_minus b h) (begins_no_slash b h))
    (second (is_x b && slice_index (n ++ rest) 0 == 39) (begins_word b) _ (word (b ∷ (n ++ rest))) _ (and_false (is_x b) (slice_index (n ++ rest) 0 == 39) no) h ∙ word_prefix (b ∷ n) rest bare stops)

parameter_piece : (n rest : Text) → is_bare n ≡ true → is_in_word (slice_index rest 0) ≡ false → piece (58 ∷ (n ++ rest)) ≡ (Some (t.Parameter (Some n)), suc (length n))
unfolding prefix blank_len parameter
parameter_piece [] rest bare stops = absurd (omega (arith, some_bare [] bare))
parameter_piece (b ∷ n) rest bare stops =
    let e : suc (length n) + 1 ≡ suc (suc (length n)) = omega arith in
    piece_is (58 ∷ b ∷ (n ++ rest)) (t.Parameter (Some (b ∷ n))) (suc (suc (length n))) refl
    (ap (λ c. cond c (parameter (58 ∷ b ∷ (n ++ rest))) (mark (58 ∷ b ∷ (n ++ rest)))) (begins b n bare)
    ∙ ap (λ k. (t.Parameter (Some (take k (b ∷ (n ++ rest)))), k + 1)) (run_is is_in_word (b ∷ n) rest (all_in_word (b ∷ n) bare) stops)
    ∙ ap (λ m. (t.Parameter (Some m), suc (length n) + 1)) (take-append_seam (b ∷ n) rest)
    ∙ ap (λ k. (t.Parameter (Some (b ∷ n)), k)) e)

-- ---- numerals

numeral_prefix : (s rest : Text) (u : Token) → list_all is_in_numeral s ≡ true → is_in_numeral (slice_index rest 0) ≡ false → cond (is_integer s) (t.Numeral (number_of s)) (t.OtherNumeral s) ≡ u → numeral (s ++ rest) ≡ (u, length s)
unfolding numeral
numeral_prefix s rest u h stops is =
    ap (λ k. (cond (is_integer (take k (s ++ rest))) (t.Numeral (number_of (take k (s ++ rest)))) (t.OtherNumeral (take k (s ++ rest))), k)) (run_is is_in_numeral s rest h stops)
    ∙ ap (λ m. (cond (is_integer m) (t.Numeral (number_of m)) (t.OtherNumeral m), length s)) (take-append_seam s rest)
    ∙ ap (λ v. (v, length s)) is

digit_no_blank : (b : ℕ) → is_ascii_digit b ≡ true → is_blank b ≡ false
digit_no_blank b h = grind (arith, nat_tests)

digit_no_minus : (b : ℕ) → is_ascii_digit b ≡ true → (b == 45) ≡ false
digit_no_minus b h = grind (arith, nat_tests)

digit_no_slash : (b : ℕ) → is_ascii_digit b ≡ true → (b == 47) ≡ false
digit_no_slash b h = grind (arith, nat_tests)

digit_no_x : (b : ℕ) → is_ascii_digit b ≡ true → is_x b ≡ false
digit_no_x b h = grind (arith, nat_tests)

digit_no_word : (b : ℕ) → is_ascii_digit b ≡ true → begins_word b ≡ false
digit_no_word b h = grind (arith, nat_tests)

numeral_piece : (s rest : Text) (u : Token) → 1 ≤ length s → is_ascii_digit (slice_index s 0) ≡ true → list_all is_in_numeral s ≡ true → is_in_numeral (slice_index rest 0) ≡ false → cond (is_integer s) (t.Numeral (number_of s)) (t.OtherNumeral s) ≡ u → piece (s ++ rest) ≡ (Some u, length s)
unfolding prefix
numeral_piece [] rest u some d h stops is = absurd (omega arith)
numeral_piece (b ∷ s) rest u some d h stops is =
    piece_is (b ∷ (s ++ rest)) u (suc (length s)) (no_blank_in_prefix b (s ++ rest) (digit_no_blank b d) (digit_no_minus b d) (digit_no_slash b d))
    (third (is_x b) (slice_index (s ++ rest) 0 == 39) (begins_word b) (is_ascii_digit b) _ _ (numeral (b ∷ (s ++ rest))) _ (digit_no_x b d) (digit_no_word b d) d ∙ numeral_prefix (b ∷ s) rest u h stops is)

-- what the digits of a number are
pub record IsDecimal (n : ℕ) (s : Text) : Type 0 where
  pub digits : list_all is_ascii_digit s ≡ true
  pub some : is_ascii_digit (slice_index s 0) ≡ true
  pub number : number_of s ≡ n

last_digit : (d : ℕ) → d < 10 → is_ascii_digit (48 + d) ≡ true
last_digit d h = grind (arith, nat_tests)

first_of_append : (s y : Text) → is_ascii_digit (slice_index s 0) ≡ true → is_ascii_digit (slice_index (s ++ y) 0) ≡ true
first_of_append [] y h = absurd (cc)
first_of_append (b ∷ s) y h = h

decimal_is : (n : ℕ) → n < 2 ^ 64 → IsDecimal n (decimal n)
decimal_is = decimal_by_steps IsDecimal
    (λ n h. let e : 10 * 0 + (48 + n - 48) ≡ n = omega arith in record { digits = both (is_ascii_digit (48 + n)) true (last_digit n h) refl; some = last_digit n h; number = e })
    (λ n ds h is.
    let d = n % 10 in
    let small : d < 10 = omega arith in
    let e : 10 * (n / 10) + (48 + d - 48) ≡ n = omega arith in
    record {
      digits = list_all-append is_ascii_digit ds ((48 + d) ∷ []) ∙ both (list_all is_ascii_digit ds) (list_all is_ascii_digit ((48 + d) ∷ [])) is.digits (both (is_ascii_digit (48 + d)) true (last_digit d small) refl);
      some = first_of_append ds ((48 + d) ∷ []) is.some;
      number = fold-append (λ n b. 10 * n + (b - 48)) 0 ds ((48 + d) ∷ []) ∙ ap (λ k. 10 * k + (48 + d - 48)) is.number ∙ e;
    })

-- ---- quotes

same : (q : ℕ) → (q == q) ≡ true
same q = grind (arith, nat_tests)

is_same : (b q : ℕ) → (b == q) ≡ true → b ≡ q
is_same b q h = grind (arith, nat_tests)

closing_step : (q n : ℕ) (is_open : Bool) (b : ℕ) (z : Text) → (is_open && not (b == q)) ≡ false → closing q n is_open (b ∷ z) ≡ closing q (n + 1) (not is_open && b == q) z
closing_step q n is_open b z h = ap (λ c. cond c (Some n) (closing q (n + 1) (not is_open && b == q) z)) h

-- behind the last quote
closed : (q n : ℕ) (rest : Text) → (slice_index rest 0 == q) ≡ false → closing q n true rest ≡ Some n
closed q n [] h = refl
closed q n (b ∷ rest) h = ap (λ c. cond (not c) (Some n) (closing q (n + 1) false rest)) h

closing_quote : (q n : ℕ) (rest : Text) → (slice_index rest 0 == q) ≡ false → closing q n false (q ∷ rest) ≡ Some (n + 1)
closing_quote q n rest h = closing_step q n false q rest refl ∙ ap (λ c. closing q (n + 1) c rest) (same q) ∙ closed q (n + 1) rest h

closing_two : (q n b : ℕ) (z : Text) → (b == q) ≡ true → closing q n false (q ∷ b ∷ z) ≡ closing q (n + 1 + 1) false z
closing_two q n b z h =
    closing_step q n false q (b ∷ z) refl ∙ ap (λ c. closing q (n + 1) c (b ∷ z)) (same q)
    ∙ closing_step q (n + 1) true b z (ap not h)

closing_other : (q n b : ℕ) (z : Text) → (b == q) ≡ false → closing q n false (b ∷ z) ≡ closing q (n + 1) false z
closing_other q n b z h = closing_step q n false b z refl ∙ ap (λ c. closing q (n + 1) c z) h

closing_doubled : (q n : ℕ) (s rest : Text) → (slice_index rest 0 == q) ≡ false → closing q n false (doubled q s ++ q ∷ rest) ≡ Some (n + length (doubled q s) + 1)
closing_doubled q n [] rest h = let e : n + 1 ≡ n + 0 + 1 = omega arith in closing_quote q n rest h ∙ ap Some e
closing_doubled q n (b ∷ s) rest h = by_case (b == q) refl (λ k. closing_doubled q k s rest h)
  where
    by_case : (c : Bool) → (b == q) ≡ c → ((k : ℕ) → closing q k false (doubled q s ++ q ∷ rest) ≡ Some (k + length (doubled q s) + 1))
        → closing q n false ((cond c (q ∷ b ∷ []) (b ∷ []) ++ doubled q s) ++ q ∷ rest) ≡ Some (n + length (cond c (q ∷ b ∷ []) (b ∷ []) ++ doubled q s) + 1)
    by_case true is more =
        let e : n + 1 + 1 + length (doubled q s) + 1 ≡ n + suc (suc (length (doubled q s))) + 1 = omega arith in
        closing_two q n b (doubled q s ++ q ∷ rest) is ∙ more (n + 1 + 1) ∙ ap Some e
    by_case false is more =
        let e : n + 1 + length (doubled q s) + 1 ≡ n + suc (length (doubled q s)) + 1 = omega arith in
        closing_other q n b (doubled q s ++ q ∷ rest) is ∙ more (n + 1) ∙ ap Some e

undoubled_doubled : (q : ℕ) (s : Text) → undoubled q false (doubled q s) ≡ s
undoubled_doubled q [] = refl
undoubled_doubled q (b ∷ s) = by_case (b == q) refl (undoubled_doubled q s)
  where
    by_case : (c : Bool) → (b == q) ≡ c → undoubled q false (doubled q s) ≡ s → undoubled q false (cond c (q ∷ b ∷ []) (b ∷ []) ++ doubled q s) ≡ b ∷ s
    by_case true is more = ap (λ c. q ∷ undoubled q c (b ∷ doubled q s)) (same q) ∙ ap (λ y. q ∷ y) more ∙ ap (λ k. k ∷ s) (sym (is_same b q is))
    by_case false is more = ap (λ c. b ∷ undoubled q c (doubled q s)) is ∙ ap (λ y. b ∷ y) more

inside_quotes : (q : ℕ) (s rest : Text) → is_text s ≡ true → (slice_index rest 0 == q) ≡ false → quoted q (doubled q s ++ q ∷ rest) ≡ (Some s, length (doubled q s) + 1)
unfolding quoted
inside_quotes q s rest h stops =
    let d = doubled q s in
    let y = d ++ q ∷ rest in
    let one : 0 + length d + 1 ≡ length d + 1 = omega arith in
    let prefix : length d + 1 - 1 ≡ length d = omega arith in
    let inside : undoubled q false (take (length d + 1 - 1) y) ≡ s = ap (λ n. undoubled q false (take n y)) prefix ∙ ap (undoubled q false) (take-append_seam d (q ∷ rest)) ∙ undoubled_doubled q s in
    ap (up_to_closing q y) (closing_doubled q 0 s rest stops ∙ ap Some one)
    ∙ ap (λ (m : Text). (cond (is_text m) (Some m) None, length d + 1)) inside
    ∙ ap (λ c. (cond c (Some s) None, length d + 1)) h

in_quotes_before : (q : ℕ) (s rest : Text) → in_quotes q s ++ rest ≡ q ∷ (doubled q s ++ q ∷ rest)
in_quotes_before q s rest = ap (λ y. q ∷ y) (append_assoc (doubled q s) (q ∷ []) rest)

length_quotes : (q : ℕ) (s : Text) → length (in_quotes q s) ≡ length (doubled q s) + 1 + 1
length_quotes q s = let l = length-append (doubled q s) (q ∷ []) in let e : suc (length (doubled q s ++ q ∷ [])) ≡ length (doubled q s) + 1 + 1 = omega arith in e

string_piece : (s rest : Text) → is_text s ≡ true → (slice_index rest 0 == 39) ≡ false → piece (in_quotes 39 s ++ rest) ≡ (Some (t.String s), length (in_quotes 39 s))
unfolding prefix blank_len string
string_piece s rest h stops =
    let y = doubled 39 s ++ 39 ∷ rest in
    let made : string (39 ∷ y) ≡ (t.String s, length (doubled 39 s) + 1 + 1) = ap (λ (r : Option Text × ℕ). (or_other t.String r.0, r.1 + 1)) (inside_quotes 39 s rest h stops) in
    ap piece (in_quotes_before 39 s rest) ∙ piece_is (39 ∷ y) (t.String s) (length (doubled 39 s) + 1 + 1) refl made ∙ ap (λ n. (Some (t.String s), n)) (sym (length_quotes 39 s))

quoted_piece : (s rest : Text) → is_text s ≡ true → (slice_index rest 0 == 34) ≡ false → piece (in_quotes 34 s ++ rest) ≡ (Some (t.Quoted s), length (in_quotes 34 s))
unfolding prefix blank_len quoted_name
quoted_piece s rest h stops =
    let y = doubled 34 s ++ 34 ∷ rest in
    let made : quoted_name (34 ∷ y) ≡ (t.Quoted s, length (doubled 34 s) + 1 + 1) = ap (λ (r : Option Text × ℕ). (or_other t.Quoted r.0, r.1 + 1)) (inside_quotes 34 s rest h stops) in
    ap piece (in_quotes_before 34 s rest) ∙ piece_is (34 ∷ y) (t.Quoted s) (length (doubled 34 s) + 1 + 1) refl made ∙ ap (λ n. (Some (t.Quoted s), n)) (sym (length_quotes 34 s))

-- ---- blobs

hex_in_hex : (d : ℕ) → d < 16 → is_ascii_hexdigit (hex_digit d) ≡ true
hex_in_hex d h = grind (arith, nat_tests)

hex_no_quote : (d : ℕ) → d < 16 → is_no_quote (hex_digit d) ≡ true
hex_no_quote d h = grind (arith, nat_tests)

hex_value : (d : ℕ) → d < 16 → digit_value (hex_digit d) ≡ d
hex_value d h = grind (arith, nat_tests)

high : (b : ℕ) → nat_lt b 256 ≡ true → b / 16 < 16
high b h = let small : b < 256 = grind (arith, nat_tests) in omega arith

low : (b : ℕ) → b % 16 < 16
low b = omega arith

all_hex : (p : ℕ → Bool) → ((d : ℕ) → d < 16 → p (hex_digit d) ≡ true) → (bytes : Text) → list_all (λ b. nat_lt b 256) bytes ≡ true → list_all p (flat_map hex_byte bytes) ≡ true
all_hex p one [] h = refl
all_hex p one (b ∷ bytes) h =
    both (p (hex_digit (b / 16))) (p (hex_digit (b % 16)) && list_all p (flat_map hex_byte bytes)) (one (b / 16) (high b (left (nat_lt b 256) (list_all (λ b. nat_lt b 256) bytes) h)))
    (both (p (hex_digit (b % 16))) (list_all p (flat_map hex_byte bytes)) (one (b % 16) (low b)) (all_hex p one bytes (right (nat_lt b 256) (list_all (λ b. nat_lt b 256) bytes) h)))

even : (bytes : Text) → length (flat_map hex_byte bytes) % 2 ≡ 0
even [] = refl
even (b ∷ bytes) = let e = even bytes in omega arith

hex_spelled : (bytes : Text) → list_all (λ b. nat_lt b 256) bytes ≡ true → is_hex (flat_map hex_byte bytes) ≡ true
unfolding is_hex
hex_spelled bytes h = both (list_all is_ascii_hexdigit (flat_map hex_byte bytes)) (length (flat_map hex_byte bytes) % 2 == 0) (all_hex is_ascii_hexdigit hex_in_hex bytes h) (ap (λ n. n == 0) (even bytes))

whole : (b : ℕ) → 16 * (b / 16) + b % 16 ≡ b
whole b = omega arith

hex_read : (bytes : Text) → list_all (λ b. nat_lt b 256) bytes ≡ true → bytes_of_hex (flat_map hex_byte bytes) ≡ bytes
hex_read [] h = refl
hex_read (b ∷ bytes) h =
    let x = hex_value (b / 16) (high b (left (nat_lt b 256) (list_all (λ b. nat_lt b 256) bytes) h)) in
    let y = hex_value (b % 16) (low b) in
    ap (λ n. (16 * n + digit_value (hex_digit (b % 16))) ∷ bytes_of_hex (flat_map hex_byte bytes)) x ∙ ap (λ n. (16 * (b / 16) + n) ∷ bytes_of_hex (flat_map hex_byte bytes)) y ∙ ap (λ n. n ∷ bytes_of_hex (flat_map hex_byte bytes)) (whole b)
    ∙ ap (λ z. b ∷ z) (hex_read bytes (right (nat_lt b 256) (list_all (λ b. nat_lt b 256) bytes) h))

less : (n m : ℕ) → n < m → nat_lt n m ≡ true
less n m h = grind (arith, nat_tests)

blob_prefix : (hex bytes rest : Text) → list_all is_no_quote hex ≡ true → is_hex hex ≡ true → bytes_of_hex hex ≡ bytes → blob (88 ∷ 39 ∷ (hex ++ 39 ∷ rest)) ≡ (t.Blob bytes, length hex + 3)
unfolding blob
blob_prefix hex bytes rest free h e =
    let y = hex ++ 39 ∷ rest in
    let n = run_is is_no_quote hex (39 ∷ rest) free refl in
    let l = length-append hex (39 ∷ rest) in
    let short : length hex < length y = omega arith in
    ap (λ k. cond (nat_lt k (length (hex ++ 39 ∷ rest))) (cond (is_hex (take k (hex ++ 39 ∷ rest))) (t.Blob (bytes_of_hex (take k (hex ++ 39 ∷ rest)))) t.Other, k + 3) (t.Other, suc (suc (length (hex ++ 39 ∷ rest))))) n
    ∙ ap (λ c. cond c (cond (is_hex (take (length hex) (hex ++ 39 ∷ rest))) (t.Blob (bytes_of_hex (take (length hex) (hex ++ 39 ∷ rest)))) t.Other, length hex + 3) (t.Other, suc (suc (length (hex ++ 39 ∷ rest))))) (less (length hex) (length y) short)
    ∙ ap (λ m. (cond (is_hex m) (t.Blob (bytes_of_hex m)) t.Other, length hex + 3)) (take-append_seam hex (39 ∷ rest))
    ∙ ap (λ c. (cond c (t.Blob (bytes_of_hex hex)) t.Other, length hex + 3)) h
    ∙ ap (λ m. (t.Blob m, length hex + 3)) e

blob_piece : (bytes rest : Text) → list_all (λ b. nat_lt b 256) bytes ≡ true → piece (bytes_of (t.Blob bytes) ++ rest) ≡ (Some (t.Blob bytes), length (bytes_of (t.Blob bytes)))
unfolding prefix blank_len
blob_piece bytes rest h =
    let l = length-append (flat_map hex_byte bytes) (39 ∷ []) in
    let e : length (flat_map hex_byte bytes) + 3 ≡ suc (suc (length (flat_map hex_byte bytes ++ 39 ∷ []))) = omega arith in
    let made = blob_prefix (flat_map hex_byte bytes) bytes rest (all_hex is_no_quote hex_no_quote bytes h) (hex_spelled bytes h) (hex_read bytes h) in
    ap (λ z. piece (88 ∷ 39 ∷ z)) (append_assoc (flat_map hex_byte bytes) (39 ∷ []) rest)
    ∙ piece_is (88 ∷ 39 ∷ (flat_map hex_byte bytes ++ 39 ∷ rest)) (t.Blob bytes) (length (flat_map hex_byte bytes) + 3) refl made
    ∙ ap (λ k. (Some (t.Blob bytes), k)) e

-- ---- marks

equal_piece : (rest : Text) → (slice_index rest 0 == 61) ≡ false → piece (61 ∷ rest) ≡ (Some t.Equal, 1)
unfolding prefix blank_len mark
equal_piece rest h = piece_is (61 ∷ rest) t.Equal 1 refl (ap (λ c. or_short (61 ∷ rest) (cond (c && true) (Some t.EqualEqual) None)) h)

less_piece : (rest : Text) → (slice_index rest 0 == 61) ≡ false → (slice_index rest 0 == 62) ≡ false → piece (60 ∷ rest) ≡ (Some t.Less, 1)
unfolding prefix blank_len mark
less_piece rest h k =
    piece_is (60 ∷ rest) t.Less 1 refl
    (ap (λ c. or_short (60 ∷ rest) (cond (c && true) (Some t.LessGreater) (cond (slice_index rest 0 == 61 && true) (Some t.LessEqual) None))) k ∙ ap (λ c. or_short (60 ∷ rest) (cond (c && true) (Some t.LessEqual) None)) h)

greater_piece : (rest : Text) → (slice_index rest 0 == 61) ≡ false → piece (62 ∷ rest) ≡ (Some t.Greater, 1)
unfolding prefix blank_len mark
greater_piece rest h = piece_is (62 ∷ rest) t.Greater 1 refl (ap (λ c. or_short (62 ∷ rest) (cond (c && true) (Some t.GreaterEqual) None)) h)

minus_piece : (rest : Text) → (slice_index rest 0 == 45) ≡ false → piece (45 ∷ rest) ≡ (Some t.Minus, 1)
unfolding prefix blank_len mark
minus_piece rest h = piece_is (45 ∷ rest) t.Minus 1 (ap (λ c. cond c (prefix_len is_in_line (45 ∷ rest)) 0) h) refl

slash_piece : (rest : Text) → (slice_index rest 0 == 42) ≡ false → piece (47 ∷ rest) ≡ (Some t.Slash, 1)
unfolding prefix blank_len mark
slash_piece rest h = piece_is (47 ∷ rest) t.Slash 1 (ap (λ c. cond c (behind_comment 2 false (drop 1 rest)) 0) h) refl

-- ---- every token

wider : (z : Text) → list_all is_ascii_digit z ≡ true → list_all is_in_numeral z ≡ true
wider [] h = refl
wider (b ∷ z) h = both (is_in_numeral b) (list_all is_in_numeral z) (one b (left (is_ascii_digit b) (list_all is_ascii_digit z) h)) (wider z (right (is_ascii_digit b) (list_all is_ascii_digit z) h))
  where
    one : (b : ℕ) → is_ascii_digit b ≡ true → is_in_numeral b ≡ true
    one b h = grind (arith, nat_tests)

is_integer_decimal : (n : ℕ) (s : Text) → n ≤ 2 ^ 63 → IsDecimal n s → is_integer s ≡ true
unfolding is_integer
is_integer_decimal n s h is = both (list_all is_ascii_digit s) (nat_le (number_of s) (2 ^ 63)) is.digits (ap (λ k. nat_le k (2 ^ 63)) is.number ∙ most n h)
  where
    most : (n : ℕ) → n ≤ 2 ^ 63 → nat_le n (2 ^ 63) ≡ true
    most n h = grind (arith, nat_tests)

number_piece : (n : ℕ) (rest : Text) → n ≤ 2 ^ 63 → is_in_numeral (slice_index rest 0) ≡ false → piece (decimal n ++ rest) ≡ (Some (t.Numeral n), length (decimal n))
number_piece n rest h stops =
    let small : n < 2 ^ 64 = omega arith in
    let is = decimal_is n small in
    let chosen : cond (is_integer (decimal n)) (t.Numeral (number_of (decimal n))) (t.OtherNumeral (decimal n)) ≡ t.Numeral n =
    ap (λ c. cond c (t.Numeral (number_of (decimal n))) (t.OtherNumeral (decimal n))) (is_integer_decimal n (decimal n) h is) ∙ ap t.Numeral is.number in
    numeral_piece (decimal n) rest (t.Numeral n) (decimal_nonempty n small) is.some (wider (decimal n) is.digits) stops chosen

some_digit : (n : Text) → is_ascii_digit (slice_index n 0) ≡ true → 1 ≤ length n
some_digit [] h = absurd (cc)
some_digit (b ∷ n) h = omega arith

pub some_bytes : (u : Token) → IsSpelled u → 1 ≤ length (bytes_of u)
some_bytes (t.Word n v) h = some_bare n h.0
some_bytes (t.Quoted n) h = omega arith
some_bytes (t.String n) h = omega arith
some_bytes (t.Blob bytes) h = omega arith
some_bytes (t.Numeral n) h = let small : n < 2 ^ 64 = omega arith in decimal_nonempty n small
some_bytes (t.OtherNumeral n) h = some_digit n h.0
some_bytes (t.Parameter None) h = omega arith
some_bytes (t.Parameter (Some n)) h = omega arith
some_bytes t.Equal h = omega arith
some_bytes t.EqualEqual h = omega arith
some_bytes t.LessGreater h = omega arith
some_bytes t.BangEqual h = omega arith
some_bytes t.Less h = omega arith
some_bytes t.LessEqual h = omega arith
some_bytes t.Greater h = omega arith
some_bytes t.GreaterEqual h = omega arith
some_bytes t.Plus h = omega arith
some_bytes t.Minus h = omega arith
some_bytes t.Star h = omega arith
some_bytes t.Slash h = omega arith
some_bytes t.Percent h = omega arith
some_bytes t.BarBar h = omega arith
some_bytes t.Dot h = omega arith
some_bytes t.Comma h = omega arith
some_bytes t.Open h = omega arith
some_bytes t.Close h = omega arith
some_bytes t.Semi h = omega arith
some_bytes t.Other h = absurd h

piece_spelled : (u : Token) (rest : Text) → IsSpelled u → ends_before u (slice_index rest 0) ≡ true → piece (bytes_of u ++ rest) ≡ (Some u, length (bytes_of u))
unfolding prefix blank_len mark
piece_spelled (t.Word n v) rest h stops =
    word_piece n rest h.0 (false_from_not (is_in_word (slice_index rest 0)) (left (not (is_in_word (slice_index rest 0))) (not (slice_index rest 0 == 39)) stops)) (false_from_not (slice_index rest 0 == 39) (right (not (is_in_word (slice_index rest 0))) (not (slice_index rest 0 == 39)) stops))
    ∙ ap (λ w. (Some (t.Word n w), length n)) (sym h.1)
piece_spelled (t.Quoted n) rest h stops = quoted_piece n rest h (false_from_not (slice_index rest 0 == 34) stops)
piece_spelled (t.String n) rest h stops = string_piece n rest h (false_from_not (slice_index rest 0 == 39) stops)
piece_spelled (t.Blob bytes) rest h stops = blob_piece bytes rest h
piece_spelled (t.Numeral n) rest h stops = number_piece n rest h (false_from_not (is_in_numeral (slice_index rest 0)) stops)
piece_spelled (t.OtherNumeral n) rest h stops =
    numeral_piece n rest (t.OtherNumeral n) (some_digit n h.0) h.0 h.1 (false_from_not (is_in_numeral (slice_index rest 0)) stops) (ap (λ c. cond c (t.Numeral (number_of n)) (t.OtherNumeral n)) h.2)
piece_spelled (t.Parameter None) rest h stops = piece_is (63 ∷ rest) (t.Parameter None) 1 refl refl
piece_spelled (t.Parameter (Some n)) rest h stops = parameter_piece n rest h (false_from_not (is_in_word (slice_index rest 0)) stops)
piece_spelled t.Equal rest h stops = equal_piece rest (false_from_not (slice_index rest 0 == 61) stops)
piece_spelled t.EqualEqual rest h stops = piece_is (61 ∷ 61 ∷ rest) t.EqualEqual 2 refl refl
piece_spelled t.LessGreater rest h stops = piece_is (60 ∷ 62 ∷ rest) t.LessGreater 2 refl refl
piece_spelled t.BangEqual rest h stops = piece_is (33 ∷ 61 ∷ rest) t.BangEqual 2 refl refl
piece_spelled t.Less rest h stops =
    less_piece rest (false_from_not (slice_index rest 0 == 61) (left (not (slice_index rest 0 == 61)) (not (slice_index rest 0 == 62)) stops)) (false_from_not (slice_index rest 0 == 62) (right (not (slice_index rest 0 == 61)) (not (slice_index rest 0 == 62)) stops))
piece_spelled t.LessEqual rest h stops = piece_is (60 ∷ 61 ∷ rest) t.LessEqual 2 refl refl
piece_spelled t.Greater rest h stops = greater_piece rest (false_from_not (slice_index rest 0 == 61) stops)
piece_spelled t.GreaterEqual rest h stops = piece_is (62 ∷ 61 ∷ rest) t.GreaterEqual 2 refl refl
piece_spelled t.Plus rest h stops = piece_is (43 ∷ rest) t.Plus 1 refl refl
piece_spelled t.Minus rest h stops = minus_piece rest (false_from_not (slice_index rest 0 == 45) stops)
piece_spelled t.Star rest h stops = piece_is (42 ∷ rest) t.Star 1 refl refl
piece_spelled t.Slash rest h stops = slash_piece rest (false_from_not (slice_index rest 0 == 42) stops)
piece_spelled t.Percent rest h stops = piece_is (37 ∷ rest) t.Percent 1 refl refl
piece_spelled t.BarBar rest h stops = piece_is (124 ∷ 124 ∷ rest) t.BarBar 2 refl refl
piece_spelled t.Dot rest h stops = piece_is (46 ∷ rest) t.Dot 1 refl refl
piece_spelled t.Comma rest h stops = piece_is (44 ∷ rest) t.Comma 1 refl refl
piece_spelled t.Open rest h stops = piece_is (40 ∷ rest) t.Open 1 refl refl
piece_spelled t.Close rest h stops = piece_is (41 ∷ rest) t.Close 1 refl refl
piece_spelled t.Semi rest h stops = piece_is (59 ∷ rest) t.Semi 1 refl refl
piece_spelled t.Other rest h stops = absurd h

pub spelled : (u : Token) (rest : Text) → IsSpelled u → ends_before u (slice_index rest 0) ≡ true → tokens_in (bytes_of u ++ rest) ≡ u ∷ tokens_in rest
spelled u rest h stops = cut_off (bytes_of u) rest u (some_bytes u h) (piece_spelled u rest h stops)

pub no_tokens : tokens_in [] ≡ []
unfolding lex lex_from
no_tokens = refl

cut_in_order : (from upto : ℕ) (ps : List Placed) → InOrder from upto ps → AllByRecursion IsCut (map (λ p. p.token) ps)
cut_in_order from upto [] h = tt
cut_in_order from upto (p ∷ ps) h = (h.3, cut_in_order p.end upto ps h.4)

pub all_cut : (z : Text) → AllByRecursion IsCut (tokens_in z)
all_cut z = cut_in_order 0 (length z) (lex z) (lex_in_order z)
