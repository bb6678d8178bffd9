-- Reading given bytes one after the other, as a loop does.
use Rattle.std.proofs.Common.{◌≡◌, ◌≢◌, ℕ, ◌+◌, ◌<◌, ◌≤◌, List, [], ◌∷◌, length, drop, get_or, Ok, Err, refl, sym, ap, ◌∙◌, arith}
use Rattle.std.proofs.lemmas.Bool.{OnFalse_at, OnFalse_from}
use Rattle.std.proofs.lemmas.Bool.Decides.{nat_tests}
use Rattle.std.proofs.lemmas.List.{drop_more, drop_all}
use Rattle.rq_values.specs.declared.error.DecodeError.{DecodeError}
use Rattle.rq_values.specs.declared.error.DecodeError.TheVariants.{Short, Rule}
use Rattle.rq_values.specs.Fault.{is_want_of_memory}
use Rattle.rq_values.specs.Reading.{Fails, u8_at}
use Rattle.rq_values.proofs.Local.{ok_is}
use Rattle.rq_wal.specs.declared.base.Base.{Base}
use Rattle.rq_wal.specs.Reading.{spelled_at}

same_byte : (thing : Base) (text : List ℕ) (byte found : ℕ) (rest : List ℕ) → found ≡ byte → spelled_at thing (byte ∷ text) (found ∷ rest) ≡ spelled_at thing text rest
unfolding spelled_at
same_byte thing text byte found rest is = grind (arith, nat_tests)

other_byte : (thing : Base) (text : List ℕ) (byte found : ℕ) (rest : List ℕ) → found ≢ byte → spelled_at thing (byte ∷ text) (found ∷ rest) ≡ Err (Rule (length (found ∷ rest)))
unfolding spelled_at
other_byte thing text byte found rest ne = grind (arith, nat_tests)

no_byte : (thing : Base) (byte : ℕ) (text : List ℕ) → spelled_at thing (byte ∷ text) [] ≡ Err (Short 0)
unfolding spelled_at
no_byte thing byte text = refl

all_bytes : (thing : Base) (rest : List ℕ) → spelled_at thing [] rest ≡ Ok (thing, rest)
unfolding spelled_at
all_bytes thing rest = refl

first_byte : (rest : List ℕ) (found : ℕ) (after : List ℕ) → u8_at rest ≡ Ok (found, after) → rest ≡ found ∷ after
unfolding u8_at
first_byte [] found after h = absurd (cc)
first_byte (byte ∷ rest) found after h =
    let e = ok_is (byte, rest) (found, after) (Ok (byte, rest)) refl h in λ i. (e i).0 ∷ (e i).1

module _ (thing : Base) (text : List ℕ) (at : ℕ) (lt : at < length text) where
  abbrev byte : ℕ
  byte = get_or text at 0

  next : drop at text ≡ byte ∷ drop (at + 1) text
  next = drop_more text at 0 lt

  cut_off : (wrong : DecodeError) (rest : List ℕ) → u8_at rest ≡ Err wrong → spelled_at thing (drop at text) rest ≡ Err wrong
  unfolding u8_at
  cut_off wrong [] h =
      let short : Short 0 ≡ wrong = cc in
      ap (λ (l : List ℕ). spelled_at thing l []) next ∙ no_byte thing byte (drop (at + 1) text) ∙ ap (λ (w : DecodeError). Err w) short
  cut_off wrong (x ∷ rest) h = absurd (cc)

  pub ends : (e : DecodeError) (rest bytes : List ℕ) → Fails e (u8_at rest) → spelled_at thing (drop at text) rest ≡ spelled_at thing text bytes → Fails e (spelled_at thing text bytes)
  ends e rest bytes fails comes = OnFalse_from (is_want_of_memory e) (spelled_at thing text bytes ≡ Err e) (λ known. sym comes ∙ cut_off e rest (OnFalse_at known fails))

  pub differs : (found : ℕ) (rest after : List ℕ) → u8_at rest ≡ Ok (found, after) → found ≢ byte → spelled_at thing (drop at text) rest ≡ Err (Rule (length rest))
  differs found rest after read ne =
      let split = first_byte rest found after read in
      (λ i. spelled_at thing (next i) (split i)) ∙ other_byte thing (drop (at + 1) text) byte found after ne ∙ ap (λ (l : List ℕ). Err (Rule (length l))) (sym split)

  pub agrees : (found : ℕ) (rest after : List ℕ) → u8_at rest ≡ Ok (found, after) → found ≡ byte → spelled_at thing (drop at text) rest ≡ spelled_at thing (drop (at + 1) text) after
  agrees found rest after read same = (λ i. spelled_at thing (next i) (first_byte rest found after read i)) ∙ same_byte thing (drop (at + 1) text) byte found after same

pub shorter : (rest : List ℕ) (found : ℕ) (after : List ℕ) → u8_at rest ≡ Ok (found, after) → length rest ≡ 1 + length after
shorter rest found after read = omega (arith, ap length (first_byte rest found after read))

pub spelled_out : (thing : Base) (text rest : List ℕ) (n : ℕ) → length text ≤ n → spelled_at thing (drop n text) rest ≡ Ok (thing, rest)
spelled_out thing text rest n le = ap (λ (l : List ℕ). spelled_at thing l rest) (drop_all n text le) ∙ all_bytes thing rest
