-- Frames as they are added, and as they stand in the file.
use Rattle.std.proofs.Common.{All, slice_index_or, ◌≡◌, ◌≤◌, ℕ, ◌-◌, List, [], ◌∷◌, ◌++◌, length, map, take, sym, ◌∙◌, ap, subst, arith, append_assoc, length-append}
use Rattle.std.proofs.lemmas.List.{take_at, append-nil, take-map, length-map}
use Rattle.std.proofs.lemmas.List.Elements.{All-map}
use Rattle.std.specs.List.{flat_map}
use Rattle.rq_wire.specs.declared.frame.Frame.{Frame}
use Rattle.rq_wal.specs.Gate.{EndsIn, HasSomeOf, IsPiece, frame_of, with_frame}
use Rattle.rq_wal.specs.Pieces.{with_frames, HasSomePieces}
use Rattle.rq_wal.specs.Spelling.{frame_bytes, piece_of, gated}

frame_is : (x : List ℕ) → frame_of (x ++ 0 ∷ []) ≡ x
frame_is x = take_at x (0 ∷ []) (length (x ++ 0 ∷ []) - 1) (omega (arith, length-append x (0 ∷ [])))

is_piece : (x : List ℕ) → IsPiece (x ++ 0 ∷ [])
is_piece x = ap (λ (l : List ℕ). l ++ 0 ∷ []) (sym (frame_is x))

pub all_pieces : (frames : List Frame) → All IsPiece (map piece_of frames)
all_pieces frames = All-map IsPiece piece_of frames (λ k d lt. is_piece (frame_bytes (slice_index_or frames k d)))

pub framed : (done : List ℕ) (frames : List Frame) → with_frames done (map piece_of frames) ≡ done ++ flat_map gated frames
framed done [] = sym (append-nil done)
framed done (frame ∷ frames) =
    framed (with_frame done (piece_of frame)) frames
    ∙ ap (λ (l : List ℕ). (done ++ 1 ∷ l) ++ flat_map gated frames) (frame_is (frame_bytes frame))
    ∙ append_assoc done (1 ∷ frame_bytes frame) (flat_map gated frames)

pub some_framed : (done : List ℕ) (frames : List Frame) (file : List ℕ) → HasSomePieces done (map piece_of frames) file → HasSomeOf done frames file
some_framed done frames file some =
    let k = some.0 in (
      k,
      subst (λ (n : ℕ). k ≤ n) (length-map frames piece_of) some.1,
      subst (λ (l : List ℕ). EndsIn l file) (ap (λ (ps : List (List ℕ)). with_frames done ps) (take-map piece_of k frames) ∙ framed done (take k frames)) some.2,
    )
