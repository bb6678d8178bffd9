-- What a crash leaves of a file that is emptied, closed, written again and opened.
use Rattle.std.proofs.Common.{◌≡◌, ◌≢◌, ◌⊎◌, ◌<◌, ◌≤◌, inl, inr, ⊎_elim, ℕ, ◌+◌, min, List, [], ◌∷◌, ◌++◌, length, take, get_or, None, sym, ◌∙◌, ap, subst, arith, length-take}
use Rattle.std.proofs.lemmas.Bool.{cases_eq, cases_lt}
use Rattle.std.proofs.lemmas.Bool.Decides.{nat_tests}
use Rattle.std.proofs.lemmas.List.{take-take, take_min, drop_all, append-nil}
use Rattle.rq_outside.specs.Disk.{Holds, Torn, Cut}
use Rattle.rq_wal.specs.Replace.{in_header, generation_of, IsBelow, IsOldOrNew}

pub short_header : (header : List ℕ) → length header < 23 → in_header header ≡ None
unfolding in_header
short_header header lt = grind (arith, nat_tests)

pub shut_header : (header : List ℕ) → get_or header 0 0 ≢ 1 → in_header header ≡ None
unfolding in_header
shut_header header ne = grind (arith, nat_tests)

pub short : (file : List ℕ) → length file < 23 → generation_of file ≡ None
short file lt = short_header (take 23 file) (omega (arith, length-take 23 file))

pub shut : (x : ℕ) (file : List ℕ) → x ≢ 1 → generation_of (x ∷ file) ≡ None
shut x file ne = shut_header (take 23 (x ∷ file)) ne

-- a prefix of a file is short, or it has the file's generation
prefix : (file : List ℕ) (n : ℕ) → n ≤ length file → (generation_of (take n file) ≡ None) ⊎ (generation_of (take n file) ≡ generation_of file)
prefix file n le = ⊎_elim (λ lt. inl (short (take n file) (omega (arith, length-take n file)))) (λ ge. inr (ap in_header (take-take 23 n file ge))) (cases_lt n 23)

pub cut_below : (generation : ℕ) (old file : List ℕ) → IsBelow generation old → Cut 0 old file → IsBelow generation file
cut_below generation old file below cut = subst (IsBelow generation) cut.prefix (part (prefix old (min (length file) (length old)) (omega arith)))
  where
    again : take (min (length file) (length old)) old ≡ take (length file) old
    again = take_min (length file) old

    lower : generation_of (take (length file) old) ≡ generation_of old → IsBelow generation old → IsBelow generation (take (length file) old)
    lower same (inl none) = inl (same ∙ none)
    lower same (inr some) = inr (some.0, same ∙ some.1, some.2)

    part : (generation_of (take (min (length file) (length old)) old) ≡ None) ⊎ (generation_of (take (min (length file) (length old)) old) ≡ generation_of old) → IsBelow generation (take (length file) old)
    part (inl none) = inl (sym (ap generation_of again) ∙ none)
    part (inr same) = lower (sym (ap generation_of again) ∙ same) below

pub torn_byte : (generation : ℕ) (file : List ℕ) → Torn 0 1 [] file → IsBelow generation file
torn_byte generation file torn = inl (short file (omega (arith, torn.no_longer)))

pub torn_rest : (generation n : ℕ) (file : List ℕ) → Torn 1 n (0 ∷ []) file → IsBelow generation file
torn_rest generation n [] torn = absurd (omega (arith, torn.no_shorter))
torn_rest generation n (x ∷ file) torn = inl (shut x file (let zero_is : x ≡ 0 = ap (λ (l : List ℕ). get_or l 0 0) torn.before in omega arith))

pub torn_open : (generation : ℕ) (rest file : List ℕ) → Torn 0 1 (0 ∷ rest) file → IsOldOrNew generation (1 ∷ rest) file
torn_open generation rest [] torn = absurd (omega (arith, torn.no_shorter))
torn_open generation rest (x ∷ file) torn = ⊎_elim (λ is. inr (λ i. is i ∷ torn.after i)) (λ ne. inl (inl (shut x file ne))) (cases_eq x 1)

pub behind_gate : (rest file : List ℕ) → Holds (0 ∷ []) 1 rest file → file ≡ 0 ∷ rest
behind_gate rest file holds = holds ∙ ap (λ (l : List ℕ). (0 ∷ rest) ++ l) (drop_all (1 + length rest) (0 ∷ []) (omega arith)) ∙ append-nil (0 ∷ rest)

pub open_gate : (rest file : List ℕ) → Holds (0 ∷ rest) 0 (1 ∷ []) file → file ≡ 1 ∷ rest
open_gate rest file holds = holds
