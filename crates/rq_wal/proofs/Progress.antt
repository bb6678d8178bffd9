-- How far the writing of several frames has come.
use Rattle.std.proofs.Common.{◌≡◌, ◌<◌, inl, inr, ℕ, ◌+◌, ◌*◌, Bool, IsTrue, List, [], ◌∷◌, ◌++◌, length, take, drop, get_or, refl, sym, ◌∙◌, ap, subst, arith}
use Rattle.std.proofs.lemmas.List.{take_more, drop_more}
use Rattle.rq_outside.specs.Disk.{DiskMeaning, LeavesOnly, HasRoom, Uses}
use Rattle.rq_wal.specs.Gate.{EndsIn, IsAtRest, IsBeforeOrAfter, with_frame}
use Rattle.rq_wal.specs.Pieces.{with_frames, bytes_of, HasSomePieces}
use Rattle.rq_wal.proofs.Moments.{started, then, OnlyNow}

abbrev Pieces : Type 0
Pieces = List (List ℕ)

pub with_frames-push : (done : List ℕ) (pieces : Pieces) (piece : List ℕ) → with_frames done (pieces ++ piece ∷ []) ≡ with_frame (with_frames done pieces) piece
with_frames-push done [] piece = refl
with_frames-push done (p ∷ pieces) piece = with_frames-push (with_frame done p) pieces piece

pub record Progress (told : Bool) (old now : DiskMeaning) (place end : ℕ) (pieces : Pieces) (i : ℕ) : Type 0 where
  pub at_rest : IsTrue told → IsAtRest now end
  pub done : IsTrue told → take end now.content ≡ with_frames (take place old.content) (take i pieces)
  pub moments : IsTrue told → LeavesOnly old now (HasSomePieces (take place old.content) pieces)
  pub size : end + bytes_of (drop i pieces) ≡ place + bytes_of pieces
  pub room : HasRoom now (bytes_of (drop i pieces) + length (drop i pieces)) (4 * length (drop i pieces))

module _ (told : Bool) (old : DiskMeaning) (place : ℕ) (pieces : Pieces) where
  pub begun : (IsTrue told → OnlyNow old) → (IsTrue told → IsAtRest old place) → HasRoom old (bytes_of pieces + length pieces) (4 * length pieces) → Progress told old old place place pieces 0
  begun only rest room = record {
    at_rest = rest;
    done = λ _. refl;
    moments = λ t. started old _ (λ c left. (0, omega arith, let r = rest t in subst (EndsIn (take place old.content)) (sym (r.durable c (only t c left))) r.ends));
    size = refl;
    room = room;
  }

  module _ (now : DiskMeaning) (end i : ℕ) (piece : List ℕ) (so_far : Progress told old now place end pieces i) (lt : i < length pieces) (is : get_or pieces i piece ≡ piece) (text : List ℕ) (same : text ≡ piece) where
    next : drop i pieces ≡ piece ∷ drop (i + 1) pieces
    next = drop_more pieces i piece lt ∙ ap (λ (p : List ℕ). p ∷ drop (i + 1) pieces) is

    taken : take (i + 1) pieces ≡ take i pieces ++ piece ∷ []
    taken = take_more pieces i piece lt ∙ ap (λ (p : List ℕ). take i pieces ++ p ∷ []) is

    bytes : bytes_of (drop i pieces) ≡ length piece + bytes_of (drop (i + 1) pieces)
    bytes = ap bytes_of next

    count : length (drop i pieces) ≡ length (drop (i + 1) pieces) + 1
    count = omega (arith, ap length next)

    size_is : length text ≡ length piece
    size_is = ap length same

    one_more : (t : IsTrue told) → with_frame (take end now.content) text ≡ with_frames (take place old.content) (take (i + 1) pieces)
    one_more t = (λ j. with_frame (so_far.done t j) (same j)) ∙ sym (ap (λ (ps : Pieces). with_frames (take place old.content) ps) taken ∙ with_frames-push (take place old.content) (take i pieces) piece)

    some : (t : IsTrue told) (c : List ℕ) → IsBeforeOrAfter (take end now.content) text c → HasSomePieces (take place old.content) pieces c
    some t c (inl before) = (i, omega arith, subst (λ (l : List ℕ). EndsIn l c) (so_far.done t) before)
    some t c (inr after) = (i + 1, omega arith, subst (λ (l : List ℕ). EndsIn l c) (one_more t) after)

    pub moments_of : (new : DiskMeaning) → (IsTrue told → LeavesOnly now new (IsBeforeOrAfter (take end now.content) text)) → IsTrue told → LeavesOnly old new (HasSomePieces (take place old.content) pieces)
    moments_of new step t = then old now new _ _ _ (so_far.moments t) (step t) (λ c p. p) (some t)

    pub went_on : (new : DiskMeaning) (k : ℕ) → end + length text ≡ k → (IsTrue told → IsAtRest new (end + length text)) → (IsTrue told → take (end + length text) new.content ≡ with_frame (take end now.content) text)
        → (IsTrue told → LeavesOnly now new (IsBeforeOrAfter (take end now.content) text)) → Uses (length text + 1) 4 now new → Progress told old new place k pieces (i + 1)
    went_on new k is_k rest done step uses = subst (λ (n : ℕ). Progress told old new place n pieces (i + 1)) is_k goes
      where
        goes : Progress told old new place (end + length text) pieces (i + 1)
        goes = record {
          at_rest = rest;
          done = λ t. done t ∙ one_more t;
          moments = moments_of new step;
          size = omega (arith, so_far.size, bytes, size_is);
          room = record { bytes = omega (arith, so_far.room.bytes, bytes, count, uses.bytes, size_is); calls = omega (arith, so_far.room.calls, count, uses.calls) };
        }
