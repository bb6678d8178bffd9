-- What a crash leaves in each of the two steps of an append.
use Rattle.std.proofs.Common.{◌≡◌, ◌≢◌, ◌<◌, ◌⊎◌, inl, inr, ℕ, ◌+◌, List, [], ◌∷◌, ◌++◌, length, get_or, take, drop, sym, ◌∙◌, ap, arith, append_assoc, length-append, take-append-drop}
use Rattle.std.proofs.lemmas.Bool.{cases_eq}
use Rattle.std.proofs.lemmas.List.{take_at, drop_at, drop-drop, drop_more}
use Rattle.rq_outside.specs.Disk.{Holds, Torn}
use Rattle.rq_wal.specs.Gate.{EndsIn}

module _ (done rest frame : List ℕ) (g place : ℕ) (closed : g ≢ 1) (is : length done ≡ place) where
  abbrev pub piece : List ℕ
  piece = frame ++ 0 ∷ []

  abbrev pub file : List ℕ
  file = done ++ g ∷ rest

  abbrev behind : List ℕ
  behind = drop (length piece) rest

  -- the frame stands behind the closed gate
  abbrev pub staged : List ℕ
  staged = done ++ g ∷ (piece ++ behind)

  through : take (place + 1) file ≡ done ++ g ∷ []
  through = ap (λ (l : List ℕ). take (place + 1) l) (sym (append_assoc done (g ∷ []) rest)) ∙ take_at (done ++ g ∷ []) rest (place + 1) (omega (arith, is, length-append done (g ∷ [])))

  after : (k : ℕ) → drop (place + 1 + k) file ≡ drop k rest
  after k = sym (drop-drop k (place + 1) file) ∙ ap (λ (l : List ℕ). drop k l) (ap (λ (l : List ℕ). drop (place + 1) l) (sym (append_assoc done (g ∷ []) rest)) ∙ drop_at (done ++ g ∷ []) rest (place + 1) (omega (arith, is, length-append done (g ∷ []))))

  -- the closed gate stands in each outcome of the first write
  pub torn_behind : (c : List ℕ) → Torn (place + 1) (length piece) file c → EndsIn done c
  torn_behind c torn = record {
    gate = g;
    rest = drop (place + 1) c;
    closed = closed;
    split = sym (take-append-drop (place + 1) c) ∙ ap (λ (l : List ℕ). l ++ drop (place + 1) c) (torn.before ∙ through) ∙ append_assoc done (g ∷ []) (drop (place + 1) c);
  }

  pub written_behind : (c : List ℕ) → Holds file (place + 1) piece c → c ≡ staged
  written_behind c holds =
      holds
      ∙ ap (λ (l : List ℕ). l ++ piece ++ drop (place + 1 + length piece) file) through
      ∙ ap (λ (l : List ℕ). (done ++ g ∷ []) ++ piece ++ l) (after (length piece))
      ∙ ap (λ (l : List ℕ). l ++ behind) (append_assoc done (g ∷ []) piece)
      ∙ append_assoc done (g ∷ piece) behind

  prefix : take place staged ≡ done
  prefix = take_at done (g ∷ (piece ++ behind)) place is

  back : drop (place + 1) staged ≡ piece ++ behind
  back = ap (λ (l : List ℕ). drop (place + 1) l) (sym (append_assoc done (g ∷ []) (piece ++ behind))) ∙ drop_at (done ++ g ∷ []) (piece ++ behind) (place + 1) (omega (arith, is, length-append done (g ∷ [])))

  -- done, an open gate, the frame, and a closed gate
  opened : done ++ 1 ∷ (piece ++ behind) ≡ (done ++ 1 ∷ frame) ++ 0 ∷ behind
  opened = ap (λ (l : List ℕ). done ++ 1 ∷ l) (append_assoc frame (0 ∷ []) behind) ∙ sym (append_assoc done (1 ∷ frame) (0 ∷ behind))

  -- the frame stands whole in each outcome of the second write
  pub torn_gate : (c : List ℕ) → Torn place 1 staged c → EndsIn done c ⊎ EndsIn (done ++ 1 ∷ frame) c
  torn_gate c torn =
      let gate = get_or c place 0 in
      let long : place < length c = omega (arith, is, torn.no_shorter, length-append done (g ∷ (piece ++ behind))) in
      let tail : drop place c ≡ gate ∷ (piece ++ behind) = drop_more c place 0 long ∙ ap (λ (l : List ℕ). gate ∷ l) (torn.after ∙ back) in
      let whole : c ≡ done ++ gate ∷ (piece ++ behind) = sym (take-append-drop place c) ∙ ap (λ (l : List ℕ). l ++ drop place c) (torn.before ∙ prefix) ∙ ap (λ (l : List ℕ). done ++ l) tail in
      elim (cases_eq gate 1) [
        | inl is_open ↦ inr (record { gate = 0; rest = behind; closed = omega arith; split = whole ∙ ap (λ (n : ℕ). done ++ n ∷ (piece ++ behind)) is_open ∙ opened })
        | inr shut ↦ inl (record { gate = gate; rest = piece ++ behind; closed = shut; split = whole })
      ]

  pub written_gate : (c : List ℕ) → Holds staged place (1 ∷ []) c → c ≡ (done ++ 1 ∷ frame) ++ 0 ∷ behind
  written_gate c holds =
      holds
      ∙ ap (λ (l : List ℕ). l ++ (1 ∷ []) ++ drop (place + 1) staged) prefix
      ∙ ap (λ (l : List ℕ). done ++ (1 ∷ []) ++ l) back
      ∙ append_assoc done (1 ∷ []) (piece ++ behind)
      ∙ opened
