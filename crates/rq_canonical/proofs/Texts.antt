-- Pieces of text: each is UTF-8 without NUL.
use Rattle.std.proofs.Common.{◌≡◌, ◌<◌, ◌≤◌, ⊎_elim, ℕ, suc, ◌+◌, ◌/◌, ◌%◌, ◌^◌, ◌&&◌, nat_lt, Bool, true, false, if◌then◌else◌, List, [], ◌∷◌, ◌++◌, length, get_or, refl, sym, ap, subst, ◌∙◌, append-nil, arith, pos, negsuc}
use Rattle.std.specs.Prelude.{◌==◌}
use Rattle.std.specs.List.{list_all}
use Rattle.std.specs.Str.{is_utf8, IsAscii, IsUtf8}
use Rattle.std.specs.Fmt.{decimal}
use Rattle.std.proofs.lemmas.Bool.{cases_lt, leb-true}
use Rattle.std.proofs.lemmas.Bool.Decides.{nat_tests}
use Rattle.std.proofs.lemmas.Fmt.{decimal_by_steps}
use Rattle.std.proofs.lemmas.Grind.{flat_map-append}
use Rattle.std.proofs.lemmas.List.Folds.{list_all-append}
use Rattle.std.proofs.lemmas.Str.{IsUtf8-append, IsUtf8-encode, IsUtf8-nil, IsUtf8-from_is_utf8, is_utf8-from_IsUtf8, IsUtf8-from_ascii, encode_ascii, inside_one}
use Rattle.std.proofs.lemmas.Str.Ascii.{IsAscii-cons, IsAscii-nil}
use lib.Utf8.{scalar, scalars, encode, encodes}
use Rattle.rq_values.specs.Text.{is_text}
use Rattle.rq_values.specs.declared.value.Value.{Value}
use Rattle.rq_values.specs.declared.value.Value.TheVariants as v
use Rattle.rq_grammar.specs.Words.{Text}
use Rattle.rq_grammar.specs.Proper.{is_literal}
use Rattle.rq_lexer.specs.Spelled.{doubled_byte, doubled, in_quotes, hex_digit, hex_byte}
use Rattle.rq_print.specs.Text.{hex_text, literal_text}
use Rattle.rq_print.specs.Written.{literal_written}
use Rattle.rq_canonical.proofs.GoodExpr.{and, split}

pub record IsText (z : Text) : Type 0 where
  pub is : is_text z ≡ true

abbrev no_nul : Text → Bool
no_nul z = list_all (λ byte. nat_lt 0 byte) z

both : (z : Text) → IsUtf8 z → no_nul z ≡ true → IsText z
unfolding is_text
both z utf8 full = record { is = and (is_utf8 z) (no_nul z) (is_utf8-from_IsUtf8 z utf8) full }

parts : (z : Text) → is_text z ≡ true → IsUtf8 z × (no_nul z ≡ true)
unfolding is_text
parts z h = let d = split (is_utf8 z) (no_nul z) h in (IsUtf8-from_is_utf8 z d.0, d.1)

pub join : {a b : Text} → IsText a → IsText b → IsText (a ++ b)
join {a} {b} p q =
    let c = parts a p.is in
    let d = parts b q.is in
    both (a ++ b) (IsUtf8-append a b c.0 d.0) (list_all-append (λ byte. nat_lt 0 byte) a b ∙ and (no_nul a) (no_nul b) c.1 d.1)

-- ---- ASCII without NUL

abbrev pub is_plain : Text → Bool
is_plain z = list_all (λ byte. nat_lt 0 byte && nat_lt byte 128) z

below : (byte : ℕ) → nat_lt byte 128 ≡ true → byte < 128
below byte h = grind (arith, nat_tests)

plain_ascii : (z : Text) → is_plain z ≡ true → IsAscii z
plain_ascii [] h = IsAscii-nil
plain_ascii (b ∷ z) h =
    let d = split (nat_lt 0 b && nat_lt b 128) (is_plain z) h in
    IsAscii-cons b z (below b (split (nat_lt 0 b) (nat_lt b 128) d.0).1) (plain_ascii z d.1)

plain_no_nul : (z : Text) → is_plain z ≡ true → no_nul z ≡ true
plain_no_nul [] h = refl
plain_no_nul (b ∷ z) h =
    let d = split (nat_lt 0 b && nat_lt b 128) (is_plain z) h in
    and (nat_lt 0 b) (no_nul z) (split (nat_lt 0 b) (nat_lt b 128) d.0).0 (plain_no_nul z d.1)

pub plain : (z : Text) → is_plain z ≡ true → IsText z
plain z h = both z (IsUtf8-from_ascii z (plain_ascii z h)) (plain_no_nul z h)

pub nothing : IsText []
nothing = plain [] refl

-- ---- what stands in quotes

other : (q b : ℕ) → (b ≡ q → ⊥) → (b == q) ≡ false
other q b h = grind (arith, nat_tests)

-- where no byte is the quote, none is doubled
undoubled : (q : ℕ) (z : Text) → ((k : ℕ) → k < length z → get_or z k 0 ≡ q → ⊥) → doubled q z ≡ z
undoubled q [] none = refl
undoubled q (b ∷ z) none =
    ap (λ (c : Bool). (if c then q ∷ b ∷ [] else b ∷ []) ++ doubled q z) (other q b (λ is. none 0 (omega arith) is))
    ∙ ap (λ (t : Text). b ∷ t) (undoubled q z (λ k less is. none (suc k) (omega (arith, less)) is))

doubled_ascii : (q b : ℕ) → q < 128 → b < 128 → IsUtf8 (doubled_byte q b)
doubled_ascii q b low small = by (b == q)
  where
    by : (c : Bool) → IsUtf8 (if c then q ∷ b ∷ [] else b ∷ [])
    by true = IsUtf8-from_ascii (q ∷ b ∷ []) (IsAscii-cons q (b ∷ []) low (IsAscii-cons b [] small IsAscii-nil))
    by false = IsUtf8-from_ascii (b ∷ []) (IsAscii-cons b [] small IsAscii-nil)

-- a character, whose bytes are all no ASCII or one that is
doubled_char : (q c : ℕ) → q < 128 → scalar c ≡ true → IsUtf8 (doubled q (encode c))
doubled_char q c low is = ⊎_elim small large (cases_lt c 128)
  where
    small : c < 128 → IsUtf8 (doubled q (encode c))
    small less = subst (λ (z : Text). IsUtf8 (doubled q z)) (sym (encode_ascii c less)) (subst IsUtf8 (sym (append-nil (doubled_byte q c))) (doubled_ascii q c low less))

    large : 128 ≤ c → IsUtf8 (doubled q (encode c))
    large le =
        subst IsUtf8
        (sym (undoubled q (encode c) (λ k less same. let inside = inside_one c [] (encode c) k (sym (append-nil (encode c))) less (omega (arith, same, low)) in omega (arith, inside, same, low, le))))
        (IsUtf8-encode c is)

doubled_chars : (q : ℕ) → q < 128 → (cs : List ℕ) → scalars cs ≡ true → IsUtf8 (doubled q (encodes cs))
doubled_chars q low [] h = IsUtf8-nil
doubled_chars q low (c ∷ cs) h =
    let d = split (scalar c) (scalars cs) h in
    subst IsUtf8 (sym (flat_map-append (doubled_byte q) (encode c) (encodes cs)))
    (IsUtf8-append (doubled q (encode c)) (doubled q (encodes cs)) (doubled_char q c low d.0) (doubled_chars q low cs d.1))

doubled_no_nul : (q : ℕ) → nat_lt 0 q ≡ true → (z : Text) → no_nul z ≡ true → no_nul (doubled q z) ≡ true
doubled_no_nul q some [] h = refl
doubled_no_nul q some (b ∷ z) h =
    let d = split (nat_lt 0 b) (no_nul z) h in
    by (b == q) (and (nat_lt 0 b) (no_nul (doubled q z)) d.0 (doubled_no_nul q some z d.1))
  where
    by : (c : Bool) → (nat_lt 0 b && no_nul (doubled q z)) ≡ true → no_nul ((if c then q ∷ b ∷ [] else b ∷ []) ++ doubled q z) ≡ true
    by true rest = and (nat_lt 0 q) (nat_lt 0 b && no_nul (doubled q z)) some rest
    by false rest = rest

pub quoted : (q : ℕ) (z : Text) → q < 128 → is_plain (q ∷ []) ≡ true → is_text z ≡ true → IsText (in_quotes q z)
quoted q z low mark h =
    let d = parts z h in
    let some = (split (nat_lt 0 q) true (plain_no_nul (q ∷ []) mark)).0 in
    let utf8 = subst (λ (t : Text). IsUtf8 (doubled q t)) d.0.1.1 (doubled_chars q low d.0.0 d.0.1.0) in
    join (plain (q ∷ []) mark) (join (both (doubled q z) utf8 (doubled_no_nul q some z d.1)) (plain (q ∷ []) mark))

-- ---- literals

plain_join : (a b : Text) → is_plain a ≡ true → is_plain b ≡ true → is_plain (a ++ b) ≡ true
plain_join a b p q = list_all-append (λ byte. nat_lt 0 byte && nat_lt byte 128) a b ∙ and (is_plain a) (is_plain b) p q

plain_digit : (d : ℕ) → d < 10 → is_plain ((48 + d) ∷ []) ≡ true
plain_digit d h = grind (arith, nat_tests)

plain_decimal : (n : ℕ) → n < 2 ^ 64 → is_plain (decimal n) ≡ true
plain_decimal = decimal_by_steps (λ n z. is_plain z ≡ true) plain_digit (λ n ds le is. plain_join ds ((48 + n % 10) ∷ []) is (plain_digit (n % 10) (omega arith)))

plain_hex : (d : ℕ) → d < 16 → (nat_lt 0 (hex_digit d) && nat_lt (hex_digit d) 128) ≡ true
plain_hex d h = grind (arith, nat_tests)

byte_below : (b : ℕ) → nat_lt b 256 ≡ true → b < 256
byte_below b h = grind (arith, nat_tests)

plain_blob : (bytes : List ℕ) → list_all (λ b. nat_lt b 256) bytes ≡ true → is_plain (hex_text bytes) ≡ true
plain_blob [] h = refl
plain_blob (b ∷ bytes) h =
    let d = split (nat_lt b 256) (list_all (λ b. nat_lt b 256) bytes) h in
    let small = byte_below b d.0 in
    plain_join (hex_byte b) (hex_text bytes)
    (and (nat_lt 0 (hex_digit (b / 16)) && nat_lt (hex_digit (b / 16)) 128) ((nat_lt 0 (hex_digit (b % 16)) && nat_lt (hex_digit (b % 16)) 128) && true) (plain_hex (b / 16) (omega (arith, small)))
    (and (nat_lt 0 (hex_digit (b % 16)) && nat_lt (hex_digit (b % 16)) 128) true (plain_hex (b % 16) (omega arith)) refl))
    (plain_blob bytes d.1)

within : (n : ℕ) → nat_lt n (2 ^ 63) ≡ true → n < 2 ^ 64
within n h = let below : n < 2 ^ 63 = grind (arith, nat_tests) in omega arith

pub literal_is : (a : Value) → is_literal a ≡ true → literal_written a ≡ true → IsText (literal_text a)
literal_is v.Null g h = plain (literal_text v.Null) refl
literal_is (v.Int (pos n)) g h = plain (decimal n) (plain_decimal n (within n g))
literal_is (v.Int (negsuc n)) g h = let le = leb-true (suc n) (2 ^ 63) g in plain (45 ∷ decimal (suc n)) (plain_decimal (suc n) (omega (arith, le)))
literal_is (v.Text n) g h = quoted 39 n (omega arith) refl h
literal_is (v.Blob bytes) g h = join (join (plain (88 ∷ 39 ∷ []) refl) (plain (hex_text bytes) (plain_blob bytes h))) (plain (39 ∷ []) refl)
