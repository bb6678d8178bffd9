-- Which readers depend on nothing behind what they read, and steps that went well.
use Rattle.std.proofs.Common.{Bool, true, false, ◌≡◌, ℕ, zero, suc, ◌+◌, ◌≤◌, ◌==◌, List, [], ◌∷◌, ◌++◌, length, take, drop, Option, Some, None, Result, Ok, Err, nat_lt, nat_le, cond, refl, sym, ap, ◌∙◌, arith, append_assoc, length-append, take-append-drop}
use Rattle.std.proofs.lemmas.Bool.Decides.{nat_tests}
use Rattle.std.proofs.lemmas.List.{take_at, drop_at, length-take-le}
use Rattle.std.specs.Int.{w32, w64, from_le_bytes, cast_signed}
use Rattle.rq_values.specs.declared.error.DecodeError.{DecodeError}
use Rattle.rq_values.specs.declared.error.DecodeError.TheVariants.{Short, Kind, Long, NotText, Rule}
use Rattle.rq_values.specs.declared.value.Value.TheVariants as values
use Rattle.rq_values.specs.Text.{is_text, is_id, is_addr}
use Rattle.rq_values.specs.Reading.{◌>>=◌, done, made, checked, prefix_at, u8_at, kind_at, bool_at, u32_at, u64_at, i64_at, length_at, bytes_at, text_at, id_at, addr_at, option_at, many_at, list_at, rising_at, rising_list_at, sized_at, value_at}
use Rattle.rq_values.specs.Local.{IsLocal}

-- ---- steps that went well

pub bind_ok : {A B : Type 0} (r : Result A DecodeError) (f : A → Result B DecodeError) (y : B) → (r >>= f) ≡ Ok y → (x : A) × (r ≡ Ok x) × (f x ≡ Ok y)
bind_ok (Ok x) f y h = (x, refl, h)
bind_ok (Err e) f y h = absurd (cc)

pub guard_ok : {A : Type 0} (b : Bool) (x y : A) (e : DecodeError) → cond {A = Result A DecodeError} b (Ok x) (Err e) ≡ Ok y → (b ≡ true) × (x ≡ y)
guard_ok true x y e h = (refl, cc)
guard_ok false x y e h = absurd (cc)

pub short_ok : {A : Type 0} (b : Bool) (x y : A) (e : DecodeError) → cond {A = Result A DecodeError} b (Err e) (Ok x) ≡ Ok y → (b ≡ false) × (x ≡ y)
short_ok false x y e h = (refl, cc)
short_ok true x y e h = absurd (cc)

pub ok_is : {A : Type 0} (x y : A) (r : Result A DecodeError) → r ≡ Ok x → r ≡ Ok y → x ≡ y
ok_is x y r p q = cc

pub eq_true : (m n : ℕ) → (m == n) ≡ true → m ≡ n
eq_true m n h = grind (arith, nat_tests)

pub is_eq : (m n : ℕ) → m ≡ n → (m == n) ≡ true
is_eq m n h = grind (arith, nat_tests)

pub not_below : (m n : ℕ) → n ≤ m → nat_lt m n ≡ false
not_below m n le = grind (arith, nat_tests)

pub not_below_le : (m n : ℕ) → nat_lt m n ≡ false → n ≤ m
not_below_le m n h = grind (arith, nat_tests)

-- ---- the combinators

pub local_done : {A : Type 0} (thing : A) → IsLocal (done thing)
local_done {A} thing bytes a rest h = record { prefix = []; is = ap (λ r. rest_of bytes r) h; again = λ z. ap (λ r. ok_with r z) h }
  where
    rest_of : List ℕ → Result (A × List ℕ) DecodeError → List ℕ
    rest_of d (Ok x) = x.1
    rest_of d (Err e) = d

    ok_with : Result (A × List ℕ) DecodeError → List ℕ → Result (A × List ℕ) DecodeError
    ok_with (Ok x) z = Ok (x.0, z)
    ok_with (Err e) z = Err e

-- one reader, and then another
pub local_bind : {A B : Type 0} (one : List ℕ → Result (A × List ℕ) DecodeError) (next : A → List ℕ → Result (B × List ℕ) DecodeError) → IsLocal one → ((a : A) → IsLocal (next a)) → IsLocal (λ bytes. one bytes >>= λ x. next x.0 x.1)
local_bind one next local after bytes b rest h =
    let first = bind_ok (one bytes) (λ x. next x.0 x.1) (b, rest) h in
    let s = local bytes first.0.0 first.0.1 first.1 in
    let t = after first.0.0 first.0.1 b rest first.2 in
    record {
      prefix = s.prefix ++ t.prefix;
      is = s.is ∙ ap (λ (l : List ℕ). s.prefix ++ l) t.is ∙ sym (append_assoc s.prefix t.prefix rest);
      again = λ z. ap (λ r. r >>= λ x. next x.0 x.1) (ap one (append_assoc s.prefix t.prefix z) ∙ s.again (t.prefix ++ z)) ∙ t.again z;
    }

-- a thing made of another
pub local_made : {A B : Type 0} (one : List ℕ → Result (A × List ℕ) DecodeError) (f : A → B) → IsLocal one → IsLocal (made one f)
local_made one f local = local_bind one (λ a. done (f a)) local (λ a. local_done (f a))

-- a thing that passes a test
pub local_checked : {A : Type 0} (one : List ℕ → Result (A × List ℕ) DecodeError) (test : A → Bool) (why : ℕ → A → DecodeError) → IsLocal one → IsLocal (checked one test why)
local_checked one test why local bytes a rest h =
    let first = bind_ok (one bytes) (λ x. cond (test x.0) (Ok x) (Err (why (length bytes) x.0))) (a, rest) h in
    let passed = guard_ok (test first.0.0) first.0 (a, rest) (why (length bytes) first.0.0) first.2 in
    let is_a : first.0.0 ≡ a = ap (λ x. x.0) passed.1 in
    let s = local bytes a rest (first.1 ∙ ap Ok passed.1) in
    record {
      prefix = s.prefix;
      is = s.is;
      again = λ z. ap (λ r. r >>= λ x. cond (test x.0) (Ok x) (Err (why (length (s.prefix ++ z)) x.0))) (s.again z)
          ∙ ap (λ b. cond b (Ok (a, z)) (Err (why (length (s.prefix ++ z)) a))) (ap test (sym is_a) ∙ passed.0);
    }

-- one of two readers
pub local_choice : {A : Type 0} (b : Bool) (one two : List ℕ → Result (A × List ℕ) DecodeError) → IsLocal one → IsLocal two → IsLocal (λ bytes. cond {A = Result (A × List ℕ) DecodeError} b (one bytes) (two bytes))
local_choice true one two local other = local
local_choice false one two local other = other

-- ---- the fields

pub local_prefix : (n : ℕ) → IsLocal (prefix_at n)
unfolding prefix_at
local_prefix n bytes a rest h =
    let whole = short_ok (nat_lt (length bytes) n) (take n bytes, drop n bytes) (a, rest) (Short 0) h in
    let long : n ≤ length bytes = not_below_le (length bytes) n whole.0 in
    let prefix = take n bytes in
    let size : length prefix ≡ n = length-take-le n bytes long in
    record {
      prefix = prefix;
      is = sym (take-append-drop n bytes) ∙ ap (λ (l : List ℕ). prefix ++ l) (ap (λ x. x.1) whole.1);
      again = λ z.
          let enough : nat_lt (length (prefix ++ z)) n ≡ false = not_below (length (prefix ++ z)) n (omega (arith, length-append prefix z, size)) in
          (λ i. cond {A = Result (List ℕ × List ℕ) DecodeError} (enough i) (Err (Short 0)) (Ok (take_at prefix z n size i, drop_at prefix z n size i)))
          ∙ ap (λ (l : List ℕ). Ok (l, z)) (ap (λ x. x.0) whole.1);
    }

pub local_u8 : IsLocal u8_at
unfolding u8_at
local_u8 [] a rest h = absurd (cc)
local_u8 (byte ∷ bytes) a rest h =
    let same = ok_is (byte, bytes) (a, rest) (Ok (byte, bytes)) refl h in
    record {
      prefix = byte ∷ [];
      is = ap (λ (l : List ℕ). byte ∷ l) (ap (λ x. x.1) same);
      again = λ z. ap (λ (k : ℕ). Ok (k, z)) (ap (λ x. x.0) same);
    }

pub local_kind : (most : ℕ) → IsLocal (kind_at most)
unfolding kind_at
local_kind most = local_checked u8_at (λ kind. nat_le kind most) Kind local_u8

pub local_bool : IsLocal bool_at
unfolding bool_at
local_bool = local_made (kind_at 1) (λ kind. kind == 1) (local_kind 1)

pub local_u32 : IsLocal u32_at
unfolding u32_at
local_u32 = local_made (prefix_at 4) (from_le_bytes w32) (local_prefix 4)

pub local_u64 : IsLocal u64_at
unfolding u64_at
local_u64 = local_made (prefix_at 8) (from_le_bytes w64) (local_prefix 8)

pub local_i64 : IsLocal i64_at
unfolding i64_at
local_i64 = local_made u64_at (cast_signed w64) local_u64

pub local_length : (limit : ℕ) → IsLocal (length_at limit)
unfolding length_at
local_length limit = local_checked u32_at (λ len. nat_le len limit) Long local_u32

pub local_bytes : (limit : ℕ) → IsLocal (bytes_at limit)
unfolding bytes_at
local_bytes limit = local_bind (length_at limit) prefix_at (local_length limit) local_prefix

pub local_text : (limit : ℕ) → IsLocal (text_at limit)
unfolding text_at
local_text limit = local_checked (bytes_at limit) is_text (λ left _. NotText left) (local_bytes limit)

pub local_id : (limit : ℕ) → IsLocal (id_at limit)
unfolding id_at
local_id limit = local_checked (bytes_at limit) is_id (λ left _. NotText left) (local_bytes limit)

pub local_addr : (limit : ℕ) → IsLocal (addr_at limit)
unfolding addr_at
local_addr limit = local_checked (bytes_at limit) is_addr (λ left _. NotText left) (local_bytes limit)

pub local_option : {A : Type 0} (one : List ℕ → Result (A × List ℕ) DecodeError) → IsLocal one → IsLocal (option_at one)
unfolding option_at
local_option one local =
    local_bind (kind_at 1) (λ kind bytes. cond (kind == 0) (done None bytes) (made one Some bytes)) (local_kind 1)
    (λ kind. local_choice (kind == 0) (done None) (made one Some) (local_done None) (local_made one Some local))

pub local_many : {A : Type 0} (one : List ℕ → Result (A × List ℕ) DecodeError) → IsLocal one → (n : ℕ) → IsLocal (many_at one n)
unfolding many_at
local_many one local zero = local_done []
local_many {A} one local (suc n) = local_bind one (λ x bytes. many_at one n bytes >>= λ others. Ok (x ∷ others.0, others.1)) local (λ x. local_made (many_at one n) (λ others. x ∷ others) (local_many one local n))

pub local_list : {A : Type 0} (one : List ℕ → Result (A × List ℕ) DecodeError) → IsLocal one → IsLocal (list_at one)
unfolding list_at
local_list one local = local_bind u32_at (many_at one) local_u32 (local_many one local)

pub local_rising : {A : Type 0} (one : Option A → List ℕ → Result (A × List ℕ) DecodeError) → ((last : Option A) → IsLocal (one last)) → (n : ℕ) (last : Option A) → IsLocal (rising_at one n last)
unfolding rising_at
local_rising one local zero last = local_done []
local_rising {A} one local (suc n) last =
    local_bind (one last) (λ x bytes. rising_at one n (Some x) bytes >>= λ others. Ok (x ∷ others.0, others.1)) (local last)
    (λ x. local_made (rising_at one n (Some x)) (λ others. x ∷ others) (local_rising one local n (Some x)))

pub local_rising_list : {A : Type 0} (one : Option A → List ℕ → Result (A × List ℕ) DecodeError) → ((last : Option A) → IsLocal (one last)) → IsLocal (rising_list_at one)
unfolding rising_list_at
local_rising_list one local = local_bind u32_at (λ count. rising_at one count None) local_u32 (λ count. local_rising one local count None)

-- a length is filled by what stands behind it, whatever stands behind that
pub local_sized : {A : Type 0} (size : List ℕ → Result (ℕ × List ℕ) DecodeError) (one : List ℕ → Result (A × List ℕ) DecodeError) → IsLocal size → IsLocal one → IsLocal (sized_at size one)
unfolding sized_at
local_sized {A} size one local_size local bytes a rest h =
    let len = bind_ok (size bytes) (λ n. one n.1 >>= λ x. cond {A = Result (A × List ℕ) DecodeError} (length n.1 == n.0 + length x.1) (Ok x) (Err (Rule (length bytes)))) (a, rest) h in
    let thing = bind_ok (one len.0.1) (λ x. cond {A = Result (A × List ℕ) DecodeError} (length len.0.1 == len.0.0 + length x.1) (Ok x) (Err (Rule (length bytes)))) (a, rest) len.2 in
    let passed = guard_ok (length len.0.1 == len.0.0 + length thing.0.1) thing.0 (a, rest) (Rule (length bytes)) thing.2 in
    let s = local_size bytes len.0.0 len.0.1 len.1 in
    let t = local len.0.1 a rest (thing.1 ∙ ap Ok passed.1) in
    let filled : length len.0.1 ≡ len.0.0 + length rest = eq_true _ _ passed.0 ∙ ap (λ x. len.0.0 + length x.1) passed.1 in
    let fits : length t.prefix ≡ len.0.0 = omega (arith, filled, ap length t.is, length-append t.prefix rest) in
    record {
      prefix = s.prefix ++ t.prefix;
      is = s.is ∙ ap (λ (l : List ℕ). s.prefix ++ l) t.is ∙ sym (append_assoc s.prefix t.prefix rest);
      again = λ z.
          let check : (length (t.prefix ++ z) == len.0.0 + length z) ≡ true = is_eq (length (t.prefix ++ z)) (len.0.0 + length z) (omega (arith, fits, length-append t.prefix z)) in
          ap (λ r. r >>= λ n. one n.1 >>= λ x. cond {A = Result (A × List ℕ) DecodeError} (length n.1 == n.0 + length x.1) (Ok x) (Err (Rule (length ((s.prefix ++ t.prefix) ++ z))))) (ap size (append_assoc s.prefix t.prefix z) ∙ s.again (t.prefix ++ z))
          ∙ ap (λ r. r >>= λ x. cond {A = Result (A × List ℕ) DecodeError} (length (t.prefix ++ z) == len.0.0 + length x.1) (Ok x) (Err (Rule (length ((s.prefix ++ t.prefix) ++ z))))) (t.again z)
          ∙ ap (λ b. cond {A = Result (A × List ℕ) DecodeError} b (Ok (a, z)) (Err (Rule (length ((s.prefix ++ t.prefix) ++ z))))) check;
    }

pub local_value : (limit : ℕ) → IsLocal (value_at limit)
unfolding value_at
local_value limit =
    let int = made u64_at (λ number. values.Int (cast_signed w64 number)) in
    let text = made (text_at limit) values.Text in
    let blob = made (bytes_at limit) values.Blob in
    local_bind (kind_at 3) (λ kind bytes. cond (kind == 0) (done values.Null bytes) (cond (kind == 1) (int bytes) (cond (kind == 2) (text bytes) (blob bytes)))) (local_kind 3)
    (λ kind. local_choice (kind == 0) (done values.Null) (λ bytes. cond (kind == 1) (int bytes) (cond (kind == 2) (text bytes) (blob bytes))) (local_done values.Null)
    (local_choice (kind == 1) int (λ bytes. cond (kind == 2) (text bytes) (blob bytes)) (local_made u64_at (λ number. values.Int (cast_signed w64 number)) local_u64)
    (local_choice (kind == 2) text blob (local_made (text_at limit) values.Text (local_text limit)) (local_made (bytes_at limit) values.Blob (local_bytes limit)))))
