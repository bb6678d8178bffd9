-- An open file by its header and its log.
use Rattle.std.proofs.Common.{Bool, true, false, ◌≡◌, ℕ, ◌+◌, ◌-◌, ◌≤◌, ◌<◌, ◌^◌, ◌==◌, ◌&&◌, List, [], ◌∷◌, ◌++◌, length, take, drop, Option, Some, None, Result, Ok, Err, nat_le, leb-true, cond, refl, sym, ap, subst, ◌∙◌, arith, append_assoc, length-append}
use Rattle.std.proofs.lemmas.Bool.Decides.{nat_tests}
use Rattle.std.proofs.lemmas.List.{take_at, drop_at}
use Rattle.std.specs.Int.{w64, from_le_bytes}
use Rattle.std.specs.List.{flat_map}
use Rattle.rq_values.specs.declared.error.DecodeError.{DecodeError}
use Rattle.rq_values.specs.declared.error.DecodeError.TheVariants.{Short}
use Rattle.rq_values.specs.Reading.{◌>>=◌, prefix_at, u64_at}
use Rattle.rq_values.proofs.Local.{not_below}
use Rattle.rq_values.specs.Spelling.{u64_bytes}
use Rattle.rq_values.specs.Exact.{AreBytes}
use Rattle.rq_values.proofs.Exact.{AreBytes-drop, exact_u64}
use Rattle.rq_wal.specs.declared.base.Base.{Base}
use Rattle.rq_wal.specs.declared.base.Stored.{Stored}
use Rattle.rq_wal.specs.declared.error.OpenError.{OpenError}
use Rattle.rq_wire.specs.declared.frame.Frame.{Frame}
use Rattle.rq_wal.specs.declared.file.WalFile.{WalFile}
use Rattle.rq_wal.specs.Current.{IsRead}
use Rattle.rq_wal.specs.Log.{IsLog, HasLog, ReadsWritten, ReadsNothingElse}
use Rattle.rq_wal.specs.Reading.{is_magic, is_small, header_fault, leaves_at, unless_, stored_of, file_gives, log_at}
use Rattle.rq_wal.specs.Replace.{generation_of, is_open}
use Rattle.rq_wal.specs.Spelling.{base_bytes, body_bytes, prefix_bytes, gated}
use Rattle.rq_wal.specs.Stored.{started}
use Rattle.rq_wal.specs.WalFile.{wal_end, wal_generation}
use Rattle.rq_wal.proofs.ExactLog.{Frames, sized_base, log_again, log_stood}
use Rattle.rq_wal.proofs.Opened.{reads_number, long_number, new_generation}

is_small_by : (n : ℕ) → n < 2 ^ 63 → is_small n ≡ true
is_small_by n lt = grind (arith, nat_tests)

-- what stands behind the generation
abbrev tail_of : Base → List Frame → ℕ → List ℕ → List ℕ
tail_of first frames gate rest = sized_base first ++ (flat_map gated frames ++ gate ∷ rest)

abbrev head_of : List ℕ
head_of = 1 ∷ 82 ∷ 81 ∷ 87 ∷ 65 ∷ 76 ∷ 1 ∷ []

prefix_is : (generation : ℕ) (first : Base) (frames : List Frame) (gate : ℕ) (rest : List ℕ) → prefix_bytes generation first frames ++ gate ∷ rest ≡ head_of ++ (u64_bytes generation ++ tail_of first frames gate rest)
prefix_is generation first frames gate rest =
    let number = u64_bytes generation in
    let log = flat_map gated frames in
    ap (λ (l : List ℕ). head_of ++ l)
    (append_assoc (number ++ sized_base first) log (gate ∷ rest) ∙ append_assoc number (sized_base first) (log ++ gate ∷ rest))

-- a header that is right
header_right : (number generation : ℕ) (tail : List ℕ) → generation < 2 ^ 63 → header_fault number (head_of ++ (u64_bytes generation ++ tail)) ≡ None
unfolding header_fault
header_right number generation tail lt =
    let file = head_of ++ (u64_bytes generation ++ tail) in
    let reads : from_le_bytes w64 (take 8 (u64_bytes generation ++ tail)) ≡ generation = ap (from_le_bytes w64) (take_at (u64_bytes generation) tail 8 (long_number generation)) ∙ reads_number generation (omega arith) in
    ap (λ (n : ℕ). cond {A = Option OpenError} (is_small n) None (Some (leaves_at number file 7))) reads
    ∙ ap (λ (b : Bool). cond {A = Option OpenError} b None (Some (leaves_at number file 7))) (is_small_by generation lt)

pub header_right_of : (number generation : ℕ) (first : Base) (frames : List Frame) (gate : ℕ) (rest : List ℕ) → generation < 2 ^ 63 → header_fault number (prefix_bytes generation first frames ++ gate ∷ rest) ≡ None
header_right_of number generation first frames gate rest lt = ap (header_fault number) (prefix_is generation first frames gate rest) ∙ header_right number generation (tail_of first frames gate rest) lt

pub written : ReadsWritten
written first generation number gate stored done rest log ne =
    let file = head_of ++ (u64_bytes generation ++ tail_of first log.frames gate rest) in
    let is : done ++ gate ∷ rest ≡ file = ap (λ (l : List ℕ). l ++ gate ∷ rest) log.is ∙ prefix_is generation first log.frames gate rest in
    let behind : drop 15 file ≡ tail_of first log.frames gate rest = drop_at (u64_bytes generation) (tail_of first log.frames gate rest) 8 (long_number generation) in
    ap (file_gives first number) is
    ∙ ap (λ (fault : Option OpenError). unless_ fault (stored_of number file (log_at first (drop 15 file)))) (header_right number generation (tail_of first log.frames gate rest) log.small)
    ∙ ap (λ (r : Result (Stored × List ℕ) DecodeError). stored_of number file r) (ap (log_at first) behind ∙ log_again first log.frames gate rest log.fits log.allowed ne)
    ∙ ap Ok log.folds

-- ---- and nothing else

unless_ok : (fault : Option OpenError) (r : Result Stored OpenError) (stored : Stored) → unless_ fault r ≡ Ok stored → (fault ≡ None) × (r ≡ Ok stored)
unless_ok None r stored h = (refl, h)
unless_ok (Some fault) r stored h = absurd (cc)

stored_ok : (number : ℕ) (file : List ℕ) (r : Result (Stored × List ℕ) DecodeError) (stored : Stored) → stored_of number file r ≡ Ok stored → (rest : List ℕ) × (r ≡ Ok (stored, rest))
stored_ok number file (Ok read) stored h = let same : read.0 ≡ stored = cc in (read.1, ap (λ (s : Stored). Ok (s, read.1)) same)
stored_ok number file (Err wrong) stored h = absurd (cc)

none_if : (b : Bool) (x : Option OpenError) (e : OpenError) → cond b x (Some e) ≡ None → (b ≡ true) × (x ≡ None)
none_if true x e h = (refl, h)
none_if false x e h = absurd (cc)

both_true : (a b : Bool) → (a && b) ≡ true → (a ≡ true) × (b ≡ true)
both_true true b h = (refl, h)
both_true false b h = absurd (cc)

is_number : (m n : ℕ) → (m == n) ≡ true → m ≡ n
is_number m n h = grind (arith, nat_tests)

below : (n : ℕ) → is_small n ≡ true → n < 2 ^ 63
below n h = grind (arith, nat_tests)

u64_is : (l : List ℕ) → 8 ≤ length l → u64_at l ≡ Ok (from_le_bytes w64 (take 8 l), drop 8 l)
unfolding u64_at prefix_at
u64_is l le = ap (λ (b : Bool). cond {A = Result (List ℕ × List ℕ) DecodeError} b (Err (Short 0)) (Ok (take 8 l, drop 8 l)) >>= λ x. Ok (from_le_bytes w64 x.0, x.1)) (not_below (length l) 8 le)

-- the number in a header
abbrev pub number_at : List ℕ → ℕ
number_at file = from_le_bytes w64 (take 8 (drop 7 file))

-- the first bytes of an open file that has no fault in its header
header_read : (number : ℕ) (file : List ℕ) → AreBytes file → is_open file ≡ true → header_fault number file ≡ None → (number_at file < 2 ^ 63) × (file ≡ head_of ++ (u64_bytes (number_at file) ++ drop 15 file))
unfolding header_fault
header_read number [] all is right = absurd (cc)
header_read number (a ∷ []) all is right = absurd (cc)
header_read number (a ∷ b ∷ []) all is right = absurd (cc)
header_read number (a ∷ b ∷ c ∷ []) all is right = absurd (cc)
header_read number (a ∷ b ∷ c ∷ d ∷ []) all is right = absurd (cc)
header_read number (a ∷ b ∷ c ∷ d ∷ e ∷ []) all is right = absurd (cc)
header_read number (a ∷ b ∷ c ∷ d ∷ e ∷ f ∷ []) all is right = absurd (cc)
header_read number (a ∷ b ∷ c ∷ d ∷ e ∷ f ∷ g ∷ rest) all is right =
    let file = a ∷ b ∷ c ∷ d ∷ e ∷ f ∷ g ∷ rest in
    let opens = both_true (nat_le 23 (length file)) (a == 1) is in
    let magic = none_if (is_magic file) _ _ right in
    let version = none_if (g == 1) _ _ magic.1 in
    let small = none_if (is_small (from_le_bytes w64 (take 8 rest))) _ _ version.1 in
    let m1 = both_true (b == 82) _ magic.0 in
    let m2 = both_true (c == 81) _ m1.1 in
    let m3 = both_true (d == 87) _ m2.1 in
    let m4 = both_true (e == 65) _ m3.1 in
    let long : 23 ≤ length file = leb-true 23 (length file) opens.0 in
    let stood = exact_u64.stood rest (from_le_bytes w64 (take 8 rest)) (drop 8 rest) (AreBytes-drop 7 file all) (u64_is rest (omega (arith, long))) in
    let is_a : a ≡ 1 = is_number a 1 opens.1 in
    let is_b : b ≡ 82 = is_number b 82 m1.0 in
    let is_c : c ≡ 81 = is_number c 81 m2.0 in
    let is_d : d ≡ 87 = is_number d 87 m3.0 in
    let is_e : e ≡ 65 = is_number e 65 m4.0 in
    let is_f : f ≡ 76 = is_number f 76 m4.1 in
    let is_g : g ≡ 1 = is_number g 1 version.0 in
    (below (from_le_bytes w64 (take 8 rest)) small.0, λ i. is_a i ∷ is_b i ∷ is_c i ∷ is_d i ∷ is_e i ∷ is_f i ∷ is_g i ∷ stood.is i)

pub prefix_generation : (generation : ℕ) (first : Base) (frames : List Frame) (z : List ℕ) → generation < 2 ^ 63 → generation_of (prefix_bytes generation first frames ++ z) ≡ Some generation
prefix_generation generation first frames z lt =
    ap (λ (l : List ℕ). generation_of (1 ∷ l)) (append_assoc (body_bytes generation first) (flat_map gated frames) z) ∙ new_generation generation first (flat_map gated frames ++ z) (omega arith)

-- a file that was read, with the bytes from the closed gate on
module _ (first : Base) (stored : Stored) (number : ℕ) (file rest : List ℕ) (all : AreBytes file) (is : is_open file ≡ true) (right : header_fault number file ≡ None) (read : log_at first (drop 15 file) ≡ Ok (stored, rest)) where
  header : (number_at file < 2 ^ 63) × (file ≡ head_of ++ (u64_bytes (number_at file) ++ drop 15 file))
  header = header_read number file all is right

  stood : (length (base_bytes first) < 2 ^ 64) × ((mid : List ℕ) × (drop 15 file ≡ sized_base first ++ mid) × Frames (started first) mid stored rest)
  stood = log_stood first (drop 15 file) stored rest (AreBytes-drop 15 file all) read

  found : Frames (started first) stood.1.0 stored rest
  found = stood.1.2

  done : List ℕ
  done = prefix_bytes (number_at file) first found.frames

  whole : file ≡ done ++ found.gate ∷ found.behind
  unfolding done
  whole = header.1 ∙ ap (λ (l : List ℕ). head_of ++ (u64_bytes (number_at file) ++ l)) (stood.1.1 ∙ ap (λ (l : List ℕ). sized_base first ++ l) (found.is ∙ ap (λ (l : List ℕ). flat_map gated found.frames ++ l) found.at))
      ∙ sym (prefix_is (number_at file) first found.frames found.gate found.behind)

  log_of : (l : List ℕ) → l ≡ done → IsLog first (number_at file) stored l
  unfolding done
  log_of l same = record { frames = found.frames; allowed = found.allowed; folds = sym found.folds; small = header.0; fits = stood.0; is = same }

  pub generation_is : generation_of file ≡ Some (number_at file)
  unfolding done
  generation_is = ap generation_of whole ∙ prefix_generation (number_at file) first found.frames (found.gate ∷ found.behind) header.0

  pub has_log : HasLog first stored file
  has_log = record { generation = number_at file; current = generation_is; done = done; log = log_of done refl; ends = record { gate = found.gate; rest = found.behind; closed = found.shut; split = whole } }

  sizes : length file ≡ length done + length rest
  sizes = omega (arith, ap length whole, length-append done (found.gate ∷ found.behind), ap length found.at)

  pub is_read : (wal : WalFile) → wal_generation wal ≡ number_at file → wal_end wal ≡ length file - length rest → IsRead first wal stored file
  is_read wal generation end =
      let at : length done ≡ wal_end wal = omega (arith, sizes, end) in
      let prefix : take (wal_end wal) file ≡ done = ap (λ (l : List ℕ). take (wal_end wal) l) whole ∙ take_at done (found.gate ∷ found.behind) (wal_end wal) at in
      record {
        log = subst (λ (g : ℕ). IsLog first g stored (take (wal_end wal) file)) (sym generation) (log_of (take (wal_end wal) file) prefix);
        within = omega (arith, at, ap length whole, length-append done (found.gate ∷ found.behind));
        ends = record { gate = found.gate; rest = found.behind; closed = found.shut; split = whole ∙ ap (λ (l : List ℕ). l ++ found.gate ∷ found.behind) (sym prefix) };
      }

pub nothing_else : ReadsNothingElse
nothing_else first number stored file all is gives =
    let parts = unless_ok (header_fault number file) (stored_of number file (log_at first (drop 15 file))) stored gives in
    let log = stored_ok number file (log_at first (drop 15 file)) stored parts.1 in
    has_log first stored number file log.0 all is parts.0 log.1
