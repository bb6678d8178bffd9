-- What a byte and a piece do to what was written.
use Rattle.std.proofs.Common.{◌≡◌, ◌≤◌, ◌<◌, ◌⊎◌, inl, inr, ⊎_elim, ◌+◌, ℕ, List, [], ◌∷◌, ◌++◌, length, take, drop, get_or, Bool, IsTrue, Result, Ok, Err, IsErrOf, refl, sym, ap, subst, ◌∙◌, append_assoc}
use Rattle.std.proofs.lemmas.List.{append-nil, take-append-drop, take_more, drop_more}
use Rattle.rq_outside.specs.declared.pair.DiskPair.{DiskPair}
use Rattle.rq_outside.specs.Disk.{DiskMeaning}
use Rattle.rq_script.specs.Cluster.{Cluster, Steps, IsOutside}
use Rattle.rq_script.specs.Lines.{Line, drop_cr, lines_of}
use Rattle.rq_script.specs.Runs.{StopsAt}
use Rattle.rq_cluster.specs.declared.progress.Progress.{Progress}
use Rattle.rq_cluster.specs.declared.world.World.{World}
use Rattle.rq_cluster.specs.Outcome.{Took, BrokenOff}
use Rattle.rq_cluster.specs.Feed.{After, IsAfter, PartOf, StopsKept, GoesOn, Stopped}
use Rattle.rq_cluster.specs.Refines.{Refines}
use Rattle.rq_cluster.specs.Recovery.{Holds}
use Rattle.rq_cluster.proofs.Cutting.{line_out, line_done, line_broken, broken_before}

-- nothing more was written
pub unwritten : (told : Bool) (old new : List ℕ) (P : List ℕ → Type 0) (text : List ℕ) → (IsTrue told → new ≡ old) → P text → Took told old new (λ out. P (text ++ out))
unwritten told old new P text same p = ([], (λ t. same t ∙ sym (append-nil old)), subst P (sym (append-nil text)) p)

module _ (read text : List ℕ) (c : Cluster) (number : ℕ) (held : List ℕ) (count : ℕ) (s : After read text c number held count) (line : List ℕ) (is : line ≡ drop_cr held) where
  pub end_done : (next : Cluster) (more : List ℕ) → count + 1 ≤ 67108864 → length line ≤ 2097152 → Steps c line more next → After (read ++ 10 ∷ []) (text ++ more) next (number + 1) [] (count + 1)
  end_done next more within fits step =
      line_done read text c number held count s more next (subst (λ (l : List ℕ). length l ≤ 2097152) is fits) within (subst (λ (l : List ℕ). Steps c l more next) is step)

  pub end_outside : (rest : List ℕ) → (2097152 < length line) ⊎ IsOutside c line → StopsAt (lines_of (read ++ 10 ∷ rest)) number text c
  end_outside rest out = line_out read text c number held count s rest (⊎_elim (λ long. inl (inl (subst (λ (l : List ℕ). 2097152 < length l) is long))) (λ o. inr (subst (IsOutside c) is o)) out)

  pub end_part : (Stays : Cluster → Type 0) (rest out : List ℕ) → count + 1 ≤ 67108864 → PartOf Stays c line out → BrokenOff (lines_of (read ++ 10 ∷ rest)) Stays (text ++ out)
  end_part Stays rest out within part = line_broken read text c number held count s Stays rest out within (subst (λ (l : List ℕ). PartOf Stays c l out) is part)

joined : (told : Bool) (t0 t1 t2 x y : List ℕ) → (IsTrue told → t1 ≡ t0 ++ x) → (IsTrue told → t2 ≡ t1 ++ y) → IsTrue told → t2 ≡ t0 ++ (x ++ y)
joined told t0 t1 t2 x y first second t = second t ∙ ap (λ (l : List ℕ). l ++ y) (first t) ∙ append_assoc t0 x y

module _ {D F : Type 0} (tells : Bool) (means : D → DiskMeaning) where
  -- these pairs keep the cluster before the first line outside, or one of the line that is broken off
  abbrev pub Outside : List (DiskPair D F) → ℕ → List (DiskPair D F) → List Line → List ℕ → Type 0
  Outside pairs number start = StopsKept (Holds tells means start pairs) number

  abbrev pub Broken : List (DiskPair D F) → List (DiskPair D F) → List Line → List ℕ → Type 0
  Broken pairs start all out = BrokenOff all (Holds tells means start pairs) out

  -- no piece
  pub goes_none : (pairs : List (DiskPair D F)) (told : Bool) (t0 : List ℕ) (a : Progress) → GoesOn tells means pairs pairs told t0 t0 a a []
  goes_none pairs told t0 a start read text s =
      unwritten told t0 t0 (λ (t : List ℕ). IsAfter tells means start pairs (read ++ []) t a) text (λ t. refl) (subst (λ (r : List ℕ). IsAfter tells means start pairs r text a) (sym (append-nil read)) s)

  -- bytes that are held
  pub goes_held : (pairs : List (DiskPair D F)) (told : Bool) (t0 : List ℕ) (a b : Progress) (bytes : List ℕ) → b.world ≡ a.world
      → ((read text : List ℕ) (c : Cluster) → After read text c a.number a.held.items a.read → After (read ++ bytes) text c b.number b.held.items b.read)
      → GoesOn tells means pairs pairs told t0 t0 a b bytes
  goes_held pairs told t0 a b bytes same on start read text (c, after, refines) =
      unwritten told t0 t0 (λ (t : List ℕ). IsAfter tells means start pairs (read ++ bytes) t b) text (λ t. refl)
      (c, on read text c after, subst (λ (w : World). Refines tells means start pairs w c) (sym same) refines)

  -- one piece after another
  module _ (p0 p1 p2 : List (DiskPair D F)) (told : Bool) (t0 t1 t2 : List ℕ) (a b : Progress) where
    pub goes_after : (c : Progress) (piece more : List ℕ) → GoesOn tells means p0 p1 told t0 t1 a b piece → GoesOn tells means p1 p2 told t1 t2 b c more → GoesOn tells means p0 p2 told t0 t2 a c (piece ++ more)
    goes_after c piece more first second start read text s =
        let f = first start read text s in
        let g = second start (read ++ piece) (text ++ f.0) f.2 in (
          f.0 ++ g.0,
          joined told t0 t1 t2 f.0 g.0 f.1 g.1,
          subst (λ (r : List ℕ). IsAfter tells means start p2 r (text ++ (f.0 ++ g.0)) c) (append_assoc read piece more)
              (subst (λ (t : List ℕ). IsAfter tells means start p2 ((read ++ piece) ++ more) t c) (append_assoc text f.0 g.0) g.2),
        )

    pub stopped_after : (P : List (DiskPair D F) → List Line → List ℕ → Type 0) (piece more : List ℕ) → GoesOn tells means p0 p1 told t0 t1 a b piece → Stopped tells means p1 p2 told t1 t2 b more P
        → Stopped tells means p0 p2 told t0 t2 a (piece ++ more) P
    stopped_after P piece more first second start read text s =
        let f = first start read text s in
        let g = second start (read ++ piece) (text ++ f.0) f.2 in (
          f.0 ++ g.0,
          joined told t0 t1 t2 f.0 g.0 f.1 g.1,
          subst (λ (r : List ℕ). P start (lines_of r) (text ++ (f.0 ++ g.0))) (append_assoc read piece more)
              (subst (λ (t : List ℕ). P start (lines_of ((read ++ piece) ++ more)) t) (append_assoc text f.0 g.0) g.2),
        )

  -- the script is broken off before a line, whatever follows
  pub broken_after : (p0 p1 : List (DiskPair D F)) (told : Bool) (t0 t1 : List ℕ) (a b : Progress) (piece rest : List ℕ)
      → ((start : List (DiskPair D F)) (c : Cluster) → Refines tells means start p1 b.world c → Holds tells means start p1 c) → GoesOn tells means p0 p1 told t0 t1 a b piece
      → Stopped tells means p0 p1 told t0 t1 a (piece ++ rest) (Broken p1)
  broken_after p0 p1 told t0 t1 a b piece rest kept goes start read text s =
      let f = goes start read text s in (
        f.0,
        f.1,
        subst (λ (r : List ℕ). BrokenOff (lines_of r) (Holds tells means start p1) (text ++ f.0)) (append_assoc read piece rest)
            (broken_before (read ++ piece) (text ++ f.0) f.2.0 b.number b.held.items b.read f.2.1 (Holds tells means start p1) rest (kept start f.2.0 f.2.2)),
      )

pub more_read : (all read piece mid new : List ℕ) → all ≡ read ++ mid → mid ≡ piece ++ new → all ≡ read ++ (piece ++ new)
more_read all read piece mid new first second = first ∙ ap (λ (l : List ℕ). read ++ l) second

abbrev error_of : {T E : Type 0} → E → Result T E → E
error_of e (Err x) = x
error_of e (Ok _) = e

-- the same error of another result
pub of_other : {A B E : Type 0} (e d : E) → IsErrOf {T = A} (Err e) d → IsErrOf {T = B} (Err e) d
of_other e d is = ap Err (ap (error_of e) is)

-- a prefix of a piece, and the rest of it with what follows
pub prefix_rest : (n : ℕ) (piece rest : List ℕ) → take n piece ++ (drop n piece ++ rest) ≡ piece ++ rest
prefix_rest n piece rest = sym (append_assoc (take n piece) (drop n piece) rest) ∙ ap (λ (l : List ℕ). l ++ rest) (take-append-drop n piece)

-- a line, its LF, and what follows
pub line_rest : (n : ℕ) (piece rest : List ℕ) → n < length piece → get_or piece n 0 ≡ 10 → take n piece ++ (10 ∷ (drop (n + 1) piece ++ rest)) ≡ piece ++ rest
line_rest n piece rest lt is =
    ap (λ (b : ℕ). take n piece ++ (b ∷ (drop (n + 1) piece ++ rest))) (sym is) ∙ ap (λ (l : List ℕ). take n piece ++ (l ++ rest)) (sym (drop_more piece n 0 lt)) ∙ prefix_rest n piece rest

pub line_prefix : (n : ℕ) (piece : List ℕ) → n < length piece → get_or piece n 0 ≡ 10 → take n piece ++ 10 ∷ [] ≡ take (n + 1) piece
line_prefix n piece lt is = ap (λ (b : ℕ). take n piece ++ b ∷ []) (sym is) ∙ sym (take_more piece n 0 lt)
