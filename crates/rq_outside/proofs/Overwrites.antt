-- One byte more over what is there, or past the end.
use Rattle.std.proofs.Common.{◌≡◌, ◌≤◌, ◌<◌, ℕ, zero, suc, ◌+◌, List, [], ◌∷◌, ◌++◌, length, get_or, set, take, drop, refl, sym, ◌∙◌, ap, arith, append_assoc, length-append}
use Rattle.std.proofs.lemmas.List.{take_more, drop_more, drop_all, append-nil, length-take-le}
use Rattle.rq_outside.specs.Replay.{overwritten}

pub set_behind : (xs : List ℕ) (y : ℕ) (ys : List ℕ) (n b : ℕ) → n ≡ length xs → set (xs ++ y ∷ ys) n b ≡ xs ++ b ∷ ys
set_behind [] y ys zero b is = refl
set_behind [] y ys (suc n) b is = absurd (omega arith)
set_behind (x ∷ xs) y ys zero b is = absurd (omega arith)
set_behind (x ∷ xs) y ys (suc n) b is = ap (λ (l : List ℕ). x ∷ l) (set_behind xs y ys n b (omega arith))

module _ (old piece : List ℕ) (at i : ℕ) (place : at ≤ length old) (lt : i < length piece) where
  abbrev byte : ℕ
  byte = get_or piece i 0

  prefix : List ℕ
  prefix = take at old ++ take i piece

  far : length (take i piece) ≡ i
  far = length-take-le i piece (omega arith)

  size : length (take at old ++ take i piece) ≡ at + i
  size = omega (arith, length-append (take at old) (take i piece), far, length-take-le at old place)

  written : overwritten old at (take i piece) ≡ (take at old ++ take i piece) ++ drop (at + i) old
  written = ap (λ (n : ℕ). (take at old ++ take i piece) ++ drop (at + n) old) far

  more : take at old ++ take (i + 1) piece ≡ (take at old ++ take i piece) ++ byte ∷ []
  more = ap (λ (l : List ℕ). take at old ++ l) (take_more piece i 0 lt) ∙ sym (append_assoc (take at old) (take i piece) (byte ∷ []))

  next : overwritten old at (take (i + 1) piece) ≡ (take at old ++ take i piece) ++ byte ∷ drop (at + (i + 1)) old
  next = (λ j. more j ++ drop (at + length-take-le (i + 1) piece (omega arith) j) old) ∙ append_assoc (take at old ++ take i piece) (byte ∷ []) (drop (at + (i + 1)) old)

  pub over : at + i < length old → set (overwritten old at (take i piece)) (at + i) byte ≡ overwritten old at (take (i + 1) piece)
  over within =
      let tail : drop (at + i) old ≡ get_or old (at + i) 0 ∷ drop (at + (i + 1)) old = drop_more old (at + i) 0 within ∙ ap (λ (n : ℕ). get_or old (at + i) 0 ∷ drop n old) (omega arith) in
      ap (λ (l : List ℕ). set l (at + i) byte) (written ∙ ap (λ (l : List ℕ). (take at old ++ take i piece) ++ l) tail)
      ∙ set_behind (take at old ++ take i piece) (get_or old (at + i) 0) (drop (at + (i + 1)) old) (at + i) byte (sym size) ∙ sym next

  pub past : length old ≤ at + i → overwritten old at (take i piece) ++ byte ∷ [] ≡ overwritten old at (take (i + 1) piece)
  past end =
      ap (λ (l : List ℕ). l ++ byte ∷ []) (written ∙ ap (λ (l : List ℕ). (take at old ++ take i piece) ++ l) (drop_all (at + i) old end) ∙ append-nil (take at old ++ take i piece))
      ∙ sym (next ∙ ap (λ (l : List ℕ). (take at old ++ take i piece) ++ byte ∷ l) (drop_all (at + (i + 1)) old (omega arith)))
