-- The generation of an open file.
use Rattle.std.proofs.Common.{true, false, ◌≡◌, ◌≢◌, ℕ, suc, Fits, w8, ◌≤◌, ◌==◌, Bool, List, [], ◌∷◌, length, take, drop, get_or, Option, Some, None, nat_lt, nat_le, nat_eq, cond, refl, sym, ap, ◌∙◌, arith, length-take}
use Rattle.std.proofs.lemmas.Bool.Decides.{nat_tests}
use Rattle.std.proofs.lemmas.List.{take-take}
use Rattle.std.specs.Int.{w64, from_le_bytes}
use Rattle.rq_values.specs.Exact.{AreBytes}
use Rattle.rq_wal.specs.Replace.{in_header, generation_of, is_open}
use Rattle.rq_wal.proofs.FilesRead.{number_at}
use Rattle.rq_wal.proofs.Headers.{shut_header}
use Rattle.rq_wal.proofs.Opened.{and_true, first_byte, not_short}

number_of_prefix : (file : List ℕ) → 23 ≤ length file → take 8 (drop 7 (take 23 file)) ≡ take 8 (drop 7 file)
number_of_prefix [] le = refl
number_of_prefix (a ∷ []) le = refl
number_of_prefix (a ∷ b ∷ []) le = refl
number_of_prefix (a ∷ b ∷ c ∷ []) le = refl
number_of_prefix (a ∷ b ∷ c ∷ d ∷ []) le = refl
number_of_prefix (a ∷ b ∷ c ∷ d ∷ e ∷ []) le = refl
number_of_prefix (a ∷ b ∷ c ∷ d ∷ e ∷ f ∷ []) le = refl
number_of_prefix (a ∷ b ∷ c ∷ d ∷ e ∷ f ∷ g ∷ rest) le = take-take 8 16 rest (omega arith)

pub is_generation : (file : List ℕ) → 23 ≤ length file → get_or file 0 0 ≡ 1 → generation_of file ≡ Some (number_at file)
unfolding in_header
is_generation file le one =
    let header = take 23 file in
    let value : Option ℕ = Some (from_le_bytes w64 (take 8 (drop 7 header))) in
    let enough : nat_lt (length header) 23 ≡ false = not_short header (omega (arith, length-take 23 file, le)) in
    let gate : nat_eq (get_or header 0 0) 1 ≡ true = ap (λ (n : ℕ). nat_eq n 1) (first_byte file ∙ one) in
    ap (λ (b : Bool). cond b None (cond (nat_eq (get_or header 0 0) 1) value None)) enough
    ∙ ap (λ (b : Bool). cond b value None) gate
    ∙ ap (λ (l : List ℕ). Some (from_le_bytes w64 l)) (number_of_prefix file le)

pub no_generation : (file : List ℕ) → get_or file 0 0 ≢ 1 → generation_of file ≡ None
no_generation file ne = shut_header (take 23 file) (λ one. ne (sym (first_byte file) ∙ one))

-- what the type of a file says
pub all_bytes : (file : List ℕ) → ((i : ℕ) → Fits w8 (get_or file i 0)) → AreBytes file
all_bytes [] fits = tt
all_bytes (byte ∷ file) fits = ((fits 0).fits, all_bytes file (λ i. fits (suc i)))

is_number : (m n : ℕ) → (m == n) ≡ true → m ≡ n
is_number m n h = grind (arith, nat_tests)

pub opens_by : (file : List ℕ) → is_open file ≡ true → get_or file 0 0 ≡ 1
opens_by file is = let both = and_true (nat_le 23 (length file)) (get_or file 0 0 == 1) is in is_number (get_or file 0 0) 1 both.1
