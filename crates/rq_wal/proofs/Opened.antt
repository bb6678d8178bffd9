-- The header of a new file, and files that aren't open.
use Rattle.std.proofs.Common.{Bool, true, false, ◌≡◌, ◌≤◌, ◌<◌, ⊎_elim, ℕ, ◌^◌, List, [], ◌∷◌, ◌++◌, length, take, drop, get_or, Option, Some, None, nat_lt, nat_le, nat_eq, leb-true, ◌&&◌, cond, refl, sym, ◌∙◌, ap, arith, append_assoc, length-append, length-take}
use Rattle.std.proofs.lemmas.Bool.{cases_lt}
use Rattle.std.proofs.lemmas.Bool.Decides.{nat_tests}
use Rattle.std.proofs.lemmas.List.{take_at, drop_at}
use Rattle.std.proofs.lemmas.Nat.{from_le_bytes-to_le_bytes_8}
use Rattle.std.specs.Int.{w64, from_le_bytes}
use Rattle.rq_values.specs.Spelling.{u64_bytes}
use Rattle.rq_wal.specs.declared.base.Base.{Base}
use Rattle.rq_wal.specs.Spelling.{base_bytes, body_bytes}
use Rattle.rq_wal.specs.Replace.{in_header, generation_of, is_open}
use Rattle.rq_wal.proofs.Headers.{short, shut_header}

pub long_number : (n : ℕ) → length (u64_bytes n) ≡ 8
unfolding u64_bytes
long_number n = refl

pub reads_number : (n : ℕ) → n < 2 ^ 64 → from_le_bytes w64 (u64_bytes n) ≡ n
unfolding u64_bytes
reads_number n lt = from_le_bytes-to_le_bytes_8 n lt

pub not_short : (header : List ℕ) → 23 ≤ length header → nat_lt (length header) 23 ≡ false
not_short header le = grind (arith, nat_tests)

-- a header by its parts
header_reads : (generation : ℕ) (header prefix number behind : List ℕ) → length prefix ≡ 7 → length number ≡ 8 → 8 ≤ length behind → get_or prefix 0 0 ≡ 1 → header ≡ prefix ++ (number ++ behind) → get_or header 0 0 ≡ 1 → from_le_bytes w64 number ≡ generation → in_header header ≡ Some generation
unfolding in_header
header_reads generation header prefix number behind seven eight more one is first reads =
    let enough : nat_lt (length header) 23 ≡ false = not_short header (omega (arith, ap length is, length-append prefix (number ++ behind), length-append number behind)) in
    let open_gate : nat_eq (get_or header 0 0) 1 ≡ true = ap (λ (n : ℕ). nat_eq n 1) first in
    let there : take 8 (drop 7 header) ≡ number = ap (λ (l : List ℕ). take 8 (drop 7 l)) is ∙ ap (λ (l : List ℕ). take 8 l) (drop_at prefix (number ++ behind) 7 seven) ∙ take_at number behind 8 eight in
    ap (λ (b : Bool). cond b None (cond (nat_eq (get_or header 0 0) 1) (Some (from_le_bytes w64 (take 8 (drop 7 header)))) None)) enough
    ∙ ap (λ (b : Bool). cond b (Some (from_le_bytes w64 (take 8 (drop 7 header)))) None) open_gate
    ∙ ap (λ (l : List ℕ). Some (from_le_bytes w64 l)) there ∙ ap Some reads

pub new_generation : (generation : ℕ) (base : Base) (z : List ℕ) → generation < 2 ^ 64 → generation_of (1 ∷ (body_bytes generation base ++ z)) ≡ Some generation
new_generation generation base z lt =
    let number = u64_bytes generation in
    let size = u64_bytes (length (base_bytes base)) in
    let prefix : List ℕ = 1 ∷ 82 ∷ 81 ∷ 87 ∷ 65 ∷ 76 ∷ 1 ∷ [] in
    let tail = number ++ (size ++ base_bytes base) in
    let rest = base_bytes base ++ z in
    let whole : tail ++ z ≡ number ++ (size ++ rest) = append_assoc number (size ++ base_bytes base) z ∙ ap (λ (l : List ℕ). number ++ l) (append_assoc size (base_bytes base) z) in
    let cut : take 16 (tail ++ z) ≡ number ++ size =
    ap (λ (l : List ℕ). take 16 l) (whole ∙ sym (append_assoc number size rest)) ∙ take_at (number ++ size) rest 16 (omega (arith, length-append number size, long_number generation, long_number (length (base_bytes base)))) in
    header_reads generation (take 23 (prefix ++ (tail ++ z))) prefix number size refl (long_number generation) (omega (arith, long_number (length (base_bytes base)))) refl
    (ap (λ (l : List ℕ). prefix ++ l) cut) refl (reads_number generation lt)

pub and_true : (a b : Bool) → (a && b) ≡ true → (a ≡ true) × (b ≡ true)
and_true true b h = (refl, h)
and_true false b h = absurd (cc)

-- the test for an open file
pub first_byte : (file : List ℕ) → get_or (take 23 file) 0 0 ≡ get_or file 0 0
first_byte [] = refl
first_byte (x ∷ file) = refl

pub is_open_by : (file : List ℕ) → 23 ≤ length file → get_or file 0 0 ≡ 1 → is_open file ≡ true
is_open_by file le one =
    let long : nat_le 23 (length file) ≡ true = grind (arith, nat_tests) in
    let gate : nat_eq (get_or file 0 0) 1 ≡ true = ap (λ (n : ℕ). nat_eq n 1) one in
    ap (λ (b : Bool). b && nat_eq (get_or file 0 0) 1) long ∙ gate

pub differ : true ≡ false → ⊥
differ same = cc

pub closed_file : (file : List ℕ) → is_open file ≡ false → generation_of file ≡ None
closed_file file shut = ⊎_elim (λ lt. short file lt) (λ ge. shut_header (take 23 file) (λ one. differ (sym (is_open_by file ge (sym (first_byte file) ∙ one)) ∙ shut))) (cases_lt (length file) 23)

pub open_file : (file : List ℕ) → is_open file ≡ true → generation_of file ≡ None → ⊥
unfolding in_header
open_file file is none =
    let both = and_true (nat_le 23 (length file)) (nat_eq (get_or file 0 0) 1) is in
    let long : 23 ≤ length (take 23 file) = omega (arith, length-take 23 file, leb-true 23 (length file) both.0) in
    let enough : nat_lt (length (take 23 file)) 23 ≡ false = not_short (take 23 file) long in
    let gate : nat_eq (get_or (take 23 file) 0 0) 1 ≡ true = ap (λ (n : ℕ). nat_eq n 1) (first_byte file) ∙ both.1 in
    let value : Option ℕ = Some (from_le_bytes w64 (take 8 (drop 7 (take 23 file)))) in
    let some : generation_of file ≡ value =
    ap (λ (b : Bool). cond b None (cond (nat_eq (get_or (take 23 file) 0 0) 1) value None)) enough ∙ ap (λ (b : Bool). cond b value None) gate in
    let clash : value ≡ None = sym some ∙ none in cc
