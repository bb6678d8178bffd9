-- An append in terms of what the disk means before it, between its two writes, and after it.
use Rattle.std.proofs.Common.{◌≡◌, ◌≤◌, inl, ℕ, ◌+◌, List, [], ◌∷◌, ◌++◌, length, take, drop, sym, ◌∙◌, ap, subst, arith, length-append}
use Rattle.std.proofs.lemmas.List.{take_at, length-take-le}
use Rattle.rq_outside.specs.Disk.{DiskMeaning, Holds, Torn, Only}
use Rattle.rq_wal.specs.Gate.{IsAtRest, IsPiece, IsBeforeOrAfter, frame_of, with_frame}
use Rattle.rq_wal.proofs.Crash.{staged, torn_behind, written_behind, torn_gate, written_gate}

module _ (old mid : DiskMeaning) (place : ℕ) (piece : List ℕ) (is : IsPiece piece) (rest : IsAtRest old place) where
  abbrev done : List ℕ
  done = take place old.content

  abbrev P : List ℕ → Type 0
  P = IsBeforeOrAfter done piece

  there : length done ≡ place
  there = length-take-le place old.content (omega (arith, rest.within))

  pub first_torn : (c : List ℕ) → Torn (place + 1) (length piece) old.content c → P c
  first_torn c torn =
      let at_file = subst (λ (f : List ℕ). Torn (place + 1) (length piece) f c) rest.ends.split torn in
      let at_piece = subst (λ (p : List ℕ). Torn (place + 1) (length p) (done ++ rest.ends.gate ∷ rest.ends.rest) c) is at_file in
      inl (torn_behind done rest.ends.rest (frame_of piece) rest.ends.gate place rest.ends.closed there c at_piece)

  module _ (holds : Holds old.content (place + 1) piece mid.content) where
    abbrev stage : List ℕ
    stage = staged done rest.ends.rest (frame_of piece) rest.ends.gate place rest.ends.closed there

    is_staged : mid.content ≡ stage
    is_staged =
        let at_file = subst (λ (f : List ℕ). Holds f (place + 1) piece mid.content) rest.ends.split holds in
        let at_piece = subst (λ (p : List ℕ). Holds (done ++ rest.ends.gate ∷ rest.ends.rest) (place + 1) p mid.content) is at_file in
        written_behind done rest.ends.rest (frame_of piece) rest.ends.gate place rest.ends.closed there mid.content at_piece

    pub second_torn : (c : List ℕ) → Torn place 1 mid.content c → P c
    second_torn c torn =
        torn_gate done rest.ends.rest (frame_of piece) rest.ends.gate place rest.ends.closed there c (subst (λ (f : List ℕ). Torn place 1 f c) is_staged torn)

    pub long : place ≤ length mid.content
    long = omega (arith, ap length is_staged, there, length-append done (rest.ends.gate ∷ ((frame_of piece ++ 0 ∷ []) ++ drop (length (frame_of piece ++ 0 ∷ [])) rest.ends.rest)))

    module _ (new : DiskMeaning) (gate : Holds mid.content place (1 ∷ []) new.content) (durable : Only new.content new.images) where
      abbrev tail : List ℕ
      tail = drop (length (frame_of piece ++ 0 ∷ [])) rest.ends.rest

      is_done : new.content ≡ with_frame done piece ++ 0 ∷ tail
      is_done = written_gate done rest.ends.rest (frame_of piece) rest.ends.gate place rest.ends.closed there new.content (subst (λ (f : List ℕ). Holds f place (1 ∷ []) new.content) is_staged gate)

      size : length (with_frame done piece) ≡ place + length piece
      size = omega (arith, there, length-append done (1 ∷ frame_of piece), ap length is, length-append (frame_of piece) (0 ∷ []))

      pub prefix : take (place + length piece) new.content ≡ with_frame done piece
      prefix = ap (λ (l : List ℕ). take (place + length piece) l) is_done ∙ take_at (with_frame done piece) (0 ∷ tail) (place + length piece) size

      pub at_rest : IsAtRest new (place + length piece)
      at_rest = record {
        within = omega (arith, ap length is_done, size, length-append (with_frame done piece) (0 ∷ tail));
        ends = record { gate = 0; rest = tail; closed = omega arith; split = is_done ∙ ap (λ (l : List ℕ). l ++ 0 ∷ tail) (sym prefix) };
        durable = durable;
      }
