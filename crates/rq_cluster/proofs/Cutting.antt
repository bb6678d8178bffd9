-- Lines out of bytes, a byte more.
use Rattle.std.proofs.Common.{◌≡◌, ◌≢◌, ◌≤◌, ◌<◌, ◌⊎◌, inl, inr, ⊎_elim, ◌+◌, ℕ, suc, List, [], ◌∷◌, ◌++◌, length, nat_eq, true, false, Bool, if◌then◌else◌, refl, sym, ap, subst, ◌∙◌, append_assoc, length-append, arith}
use Rattle.std.proofs.lemmas.List.{append-nil}
use Rattle.std.proofs.lemmas.Bool.{cases_eq}
use Rattle.rq_script.specs.Cluster.{Cluster, first_cluster, Steps, IsOutside}
use Rattle.rq_script.specs.Lines.{Line, drop_cr, lines_by, last_line, lines_of, IsOver}
use Rattle.rq_cluster.specs.Outcome.{BrokenOff}
use Rattle.rq_script.specs.Runs.{Runs, StopsAt}
use Rattle.rq_cluster.specs.Feed.{After, PartOf, IsBetween, HasNoLineEnd}

pub started : After [] [] first_cluster 1 [] 0
started = record { lines = []; runs = Runs.start; number_is = refl; count_is = refl; cut = λ last rest. refl }

-- the line that ends here
abbrev pub ended : List ℕ → ℕ → Line
ended held count = record { text = drop_cr held; upto = count + 1 }

pub at_end : (last : ℕ → List ℕ → List Line) (at : ℕ) (held rest : List ℕ) → lines_by last at held (10 ∷ rest) ≡ ended held at ∷ lines_by last (at + 1) [] rest
unfolding lines_by
at_end last at held rest = refl

pub at_byte : (last : ℕ → List ℕ → List Line) (at : ℕ) (held : List ℕ) (byte : ℕ) (rest : List ℕ) → byte ≢ 10 → lines_by last at held (byte ∷ rest) ≡ lines_by last (at + 1) (held ++ byte ∷ []) rest
unfolding lines_by
at_byte last at held byte rest other = let e : nat_eq byte 10 ≡ false = grind arith in rw e refl

pub at_last : (last : ℕ → List ℕ → List Line) (at : ℕ) (held : List ℕ) → lines_by last at held [] ≡ last at held
unfolding lines_by
at_last last at held = refl

module _ (read text : List ℕ) (w : Cluster) (number : ℕ) (held : List ℕ) (count : ℕ) (s : After read text w number held count) where
  pub byte_held : (byte : ℕ) → byte ≢ 10 → After (read ++ byte ∷ []) text w number (held ++ byte ∷ []) (count + 1)
  byte_held byte other = record {
    lines = s.lines;
    runs = s.runs;
    number_is = s.number_is;
    count_is = omega (arith, s.count_is, length-append read (byte ∷ []));
    cut = λ last rest. ap (lines_by last 0 []) (append_assoc read (byte ∷ []) rest) ∙ s.cut last (byte ∷ rest) ∙ ap (λ (ls : List Line). s.lines ++ ls) (at_byte last count held byte rest other);
  }

  pub line_done : (more : List ℕ) (next : Cluster) → length (drop_cr held) ≤ 2097152 → count + 1 ≤ 67108864 → Steps w (drop_cr held) more next → After (read ++ 10 ∷ []) (text ++ more) next (number + 1) [] (count + 1)
  line_done more next fits within step = record {
    lines = s.lines ++ ended held count ∷ [];
    runs = Runs.line (ended held count) more next s.runs (record { line_fits = fits; script_fits = within }) step;
    number_is = omega (arith, s.number_is, length-append s.lines (ended held count ∷ []));
    count_is = omega (arith, s.count_is, length-append read (10 ∷ []));
    cut = λ last rest. ap (lines_by last 0 []) (append_assoc read (10 ∷ []) rest) ∙ s.cut last (10 ∷ rest) ∙ ap (λ (ls : List Line). s.lines ++ ls) (at_end last count held rest)
        ∙ sym (append_assoc s.lines (ended held count ∷ []) (lines_by last (count + 1) [] rest));
  }

  -- a line outside comes next, whatever follows
  pub stops : (rest : List ℕ) (l : Line) (more : List Line) → lines_by last_line count held rest ≡ l ∷ more → IsOver l ⊎ IsOutside w l.text → StopsAt (lines_of (read ++ rest)) number text w
  stops rest l more is out = subst (λ (n : ℕ). StopsAt (lines_of (read ++ rest)) n text w) (sym s.number_is)
      (StopsAt.at_line s.lines l more text w (s.cut last_line rest ∙ ap (λ (ls : List Line). s.lines ++ ls) is) s.runs out)

  pub line_out : (rest : List ℕ) → IsOver (ended held count) ⊎ IsOutside w (drop_cr held) → StopsAt (lines_of (read ++ 10 ∷ rest)) number text w
  line_out rest out = stops (10 ∷ rest) (ended held count) (lines_by last_line (count + 1) [] rest) (at_end last_line count held rest) out

  -- the lines so far are some of the lines, whatever follows
  pub between : (rest : List ℕ) → IsBetween w (lines_of (read ++ rest)) text
  between rest = (s.lines, lines_by last_line count held rest, s.cut last_line rest, s.runs)

  pub broken_before : (Stays : Cluster → Type 0) (rest : List ℕ) → Stays w → BrokenOff (lines_of (read ++ rest)) Stays text
  broken_before Stays rest kept = BrokenOff.before s.lines (lines_by last_line count held rest) text w (s.cut last_line rest) s.runs kept

  -- the line that is held is broken off
  pub line_broken : (Stays : Cluster → Type 0) (rest out : List ℕ) → count + 1 ≤ 67108864 → PartOf Stays w (drop_cr held) out → BrokenOff (lines_of (read ++ 10 ∷ rest)) Stays (text ++ out)
  line_broken Stays rest _ far (PartOf.none kept) = subst (BrokenOff (lines_of (read ++ 10 ∷ rest)) Stays) (sym (append-nil text)) (broken_before Stays (10 ∷ rest) kept)
  line_broken Stays rest _ far (PartOf.within reached fits reach kept) = subst (BrokenOff (lines_of (read ++ 10 ∷ rest)) Stays) (sym (append-nil text))
      (BrokenOff.within s.lines (ended held count) (lines_by last_line (count + 1) [] rest) text w reached (s.cut last_line (10 ∷ rest) ∙ ap (λ (ls : List Line). s.lines ++ ls) (at_end last_line count held rest)) s.runs
      (record { line_fits = fits; script_fits = far }) reach kept)
  line_broken Stays rest _ far (PartOf.writing prefix said next fits step pre kept) =
      BrokenOff.writing s.lines (ended held count) (lines_by last_line (count + 1) [] rest) text w prefix said next (s.cut last_line (10 ∷ rest) ∙ ap (λ (ls : List Line). s.lines ++ ls) (at_end last_line count held rest)) s.runs
      (record { line_fits = fits; script_fits = far }) step pre kept

-- a line is as long as what is held of it, but for a CR
pub length-drop_cr : (held : List ℕ) → length held ≤ length (drop_cr held) + 1
length-drop_cr [] = omega arith
length-drop_cr (byte ∷ []) = at (nat_eq byte 13)
  where
    at : (b : Bool) → 1 ≤ length (if b then [] else byte ∷ []) + 1
    at true = omega arith
    at false = omega arith
length-drop_cr (byte ∷ next ∷ bytes) = omega (arith, length-drop_cr (next ∷ bytes))

-- the first line has what is held of it
pub record First (at : ℕ) (held : List ℕ) (ls : List Line) : Type 0 where
  pub l : Line
  pub more : List Line
  pub is : ls ≡ l ∷ more
  pub long : length held ≤ length l.text + 1
  pub far : at ≤ l.upto

pub first : (rest : List ℕ) (at : ℕ) (held : List ℕ) → 0 < length held → First at held (lines_by last_line at held rest)
first [] at [] some = absurd (omega (arith, some))
first [] at (byte ∷ bytes) some = record { l = record { text = byte ∷ bytes; upto = at }; more = []; is = at_last last_line at (byte ∷ bytes); long = omega arith; far = omega arith }
first (byte ∷ rest) at held some = ⊎_elim ends (goes (first rest (at + 1) (held ++ byte ∷ []) (omega (arith, some, length-append held (byte ∷ []))))) (cases_eq byte 10)
  where
    ends : byte ≡ 10 → First at held (lines_by last_line at held (byte ∷ rest))
    ends is = record { l = ended held at; more = lines_by last_line (at + 1) [] rest; is = ap (λ (b : ℕ). lines_by last_line at held (b ∷ rest)) is ∙ at_end last_line at held rest; long = length-drop_cr held; far = omega arith }

    goes : First (at + 1) (held ++ byte ∷ []) (lines_by last_line (at + 1) (held ++ byte ∷ []) rest) → byte ≢ 10 → First at held (lines_by last_line at held (byte ∷ rest))
    goes f other =
        record { l = f.l; more = f.more; is = at_byte last_line at held byte rest other ∙ f.is; long = omega (arith, f.long, length-append held (byte ∷ [])); far = omega (arith, f.far) }

-- bytes with no LF among them are held
pub bytes_held : (bytes read text : List ℕ) (w : Cluster) (number : ℕ) (held : List ℕ) (count : ℕ) → After read text w number held count → HasNoLineEnd bytes
    → After (read ++ bytes) text w number (held ++ bytes) (count + length bytes)
bytes_held [] read text w number held count s free =
    let e : count ≡ count + 0 = omega arith in
    subst (λ (n : ℕ). After (read ++ []) text w number (held ++ []) n) e
    (subst (λ (r : List ℕ). After r text w number (held ++ []) count) (sym (append-nil read)) (subst (λ (h : List ℕ). After read text w number h count) (sym (append-nil held)) s))
bytes_held (byte ∷ bytes) read text w number held count s free =
    let on = bytes_held bytes (read ++ byte ∷ []) text w number (held ++ byte ∷ []) (count + 1) (byte_held read text w number held count s byte (free 0 (omega arith))) (λ k lt. free (suc k) (omega (arith, lt))) in
    let e : (count + 1) + length bytes ≡ count + suc (length bytes) = omega arith in
    subst (λ (n : ℕ). After (read ++ byte ∷ bytes) text w number (held ++ byte ∷ bytes) n) e
    (subst (λ (r : List ℕ). After r text w number (held ++ byte ∷ bytes) ((count + 1) + length bytes)) (append_assoc read (byte ∷ []) bytes)
    (subst (λ (h : List ℕ). After ((read ++ byte ∷ []) ++ bytes) text w number h ((count + 1) + length bytes)) (append_assoc held (byte ∷ []) bytes) on))

-- more bytes than a line may have, or than a script may have
pub over_out : (bytes rest read text : List ℕ) (w : Cluster) (number : ℕ) (held : List ℕ) (count : ℕ) → After read text w number held count → HasNoLineEnd bytes
    → 0 < length held + length bytes → (2097153 < length held + length bytes) ⊎ (67108864 < count + length bytes) → StopsAt (lines_of (read ++ (bytes ++ rest))) number text w
over_out bytes rest read text w number held count s free some over =
    let size = length-append held bytes in
    let f = first rest (count + length bytes) (held ++ bytes) (omega (arith, some, size)) in
    subst (λ (r : List ℕ). StopsAt (lines_of r) number text w) (append_assoc read bytes rest)
    (stops (read ++ bytes) text w number (held ++ bytes) (count + length bytes) (bytes_held bytes read text w number held count s free) rest f.l f.more f.is
    (inl (⊎_elim (λ (long : 2097153 < length held + length bytes). inl (omega (arith, f.long, long, size))) (λ (far : 67108864 < count + length bytes). inr (omega (arith, f.far, far))) over)))
