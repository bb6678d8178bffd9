-- Ends of scripts, and what is written with each status.
use Rattle.std.proofs.Common.{◌≡◌, ◌≤◌, ◌<◌, ◌⊎◌, inl, inr, ⊎_elim, ◌+◌, ℕ, List, [], ◌∷◌, ◌++◌, length, Bool, refl, sym, ap, subst, ◌∙◌, append_assoc, length-append, arith}
use Rattle.std.specs.Prelude.{⊤}
use Rattle.std.proofs.lemmas.List.{append-nil}
use Rattle.rq_script.specs.Cluster.{Cluster, Steps, IsOutside}
use Rattle.rq_script.specs.Lines.{Line, lines_by, last_line, lines_of, whole_lines}
use Rattle.rq_cluster.specs.LastLines.{LastLine}
use Rattle.rq_cluster.specs.Outcome.{Took, Ends, BrokenOff, Reached, Wrote}
use Rattle.rq_script.specs.Runs.{Runs, StopsAt}
use Rattle.rq_cluster.specs.Feed.{After, PartOf, AtEnd}
use Rattle.rq_cluster.proofs.Cutting.{at_last}
use Rattle.rq_cluster.proofs.Alike.{Readable}
use Rattle.rq_cluster.proofs.Whole.{cut_of, cut_short}

last_is : (count : ℕ) (held : List ℕ) → 0 < length held → last_line count held ≡ record { text = held; upto = count } ∷ []
last_is count [] some = absurd (omega (arith, some))
last_is count (byte ∷ bytes) some = refl

module _ (read text : List ℕ) (w : Cluster) (number : ℕ) (held : List ℕ) (count : ℕ) (s : After read text w number held count) where
  all_lines : (last : ℕ → List ℕ → List Line) → lines_by last 0 [] read ≡ s.lines ++ last count held
  all_lines last = ap (lines_by last 0 []) (sym (append-nil read)) ∙ s.cut last [] ∙ ap (λ (ls : List Line). s.lines ++ ls) (at_last last count held)

  -- those that have their LF
  pub whole_runs : Runs (whole_lines read) text w
  whole_runs = subst (λ (ls : List Line). Runs ls text w) (sym (all_lines (λ _ _. []) ∙ append-nil s.lines)) s.runs

  pub end_none : length held ≡ 0 → AtEnd (lines_of read) text w number
  end_none none = at held none (all_lines last_line)
    where
      at : (h : List ℕ) → length h ≡ 0 → lines_of read ≡ s.lines ++ last_line count h → AtEnd (lines_of read) text w number
      at [] e is = let same = is ∙ append-nil s.lines in record { runs = subst (λ (ls : List Line). Runs ls text w) (sym same) s.runs; number_is = s.number_is ∙ ap (λ (ls : List Line). length ls + 1) (sym same) }
      at (b ∷ bs) e is = absurd (omega (arith, e))

  some_lines : 0 < length held → lines_of read ≡ s.lines ++ record { text = held; upto = count } ∷ []
  some_lines some = all_lines last_line ∙ ap (λ (ls : List Line). s.lines ++ ls) (last_is count held some)

  pub end_some : (more : List ℕ) (next : Cluster) → 0 < length held → count ≤ 67108864 → length held ≤ 2097152 → Steps w held more next → AtEnd (lines_of read) (text ++ more) next (number + 1)
  end_some more next some within fits step = record {
    runs = subst (λ (ls : List Line). Runs ls (text ++ more) next) (sym (some_lines some)) (Runs.line (record { text = held; upto = count }) more next s.runs (record { line_fits = fits; script_fits = within }) step);
    number_is = omega (arith, s.number_is, ap length (some_lines some), length-append s.lines (record { text = held; upto = count } ∷ []));
  }

  pub out_some : 0 < length held → (2097152 < length held) ⊎ IsOutside w held → StopsAt (lines_of read) number text w
  out_some some out = subst (λ (n : ℕ). StopsAt (lines_of read) n text w) (sym s.number_is)
      (StopsAt.at_line s.lines (record { text = held; upto = count }) [] text w (some_lines some) s.runs (⊎_elim (λ long. inl (inl long)) (λ o. inr o) out))

  pub part_some : (Stays : Cluster → Type 0) (out : List ℕ) → 0 < length held → count ≤ 67108864 → PartOf Stays w held out → BrokenOff (lines_of read) Stays (text ++ out)
  part_some Stays _ some far (PartOf.none kept) = subst (BrokenOff (lines_of read) Stays) (sym (append-nil text)) (BrokenOff.before s.lines (last_line count held) text w (all_lines last_line) s.runs kept)
  part_some Stays _ some far (PartOf.within reached fits reach kept) = subst (BrokenOff (lines_of read) Stays) (sym (append-nil text))
      (BrokenOff.within s.lines (record { text = held; upto = count }) [] text w reached (some_lines some) s.runs (record { line_fits = fits; script_fits = far }) reach kept)
  part_some Stays _ some far (PartOf.writing prefix said next fits step pre kept) =
      BrokenOff.writing s.lines (record { text = held; upto = count }) [] text w prefix said next (some_lines some) s.runs (record { line_fits = fits; script_fits = far }) step pre kept

pub map_took : (told : Bool) (t0 t1 : List ℕ) (A B : List ℕ → Type 0) → ((out : List ℕ) → A out → B out) → Took told t0 t1 A → Took told t0 t1 B
map_took told t0 t1 A B f (out, took, a) = (out, took, f out a)

-- whatever the files keep
any_files : (bytes left : List ℕ) (Failed : Type 0) (Stays : Cluster → Type 0) (status : ℕ) (text last : List ℕ) → Ends bytes left Failed Stays status text last → Ends bytes left Failed (λ _. ⊤) status text last
any_files bytes left Failed Stays _ _ _ (Ends.done text w runs begun kept) = Ends.done text w runs begun tt
any_files bytes left Failed Stays _ _ _ (Ends.outside n text w stops kept) = Ends.outside n text w stops tt
any_files bytes left Failed Stays _ _ _ (Ends.fault read text w failed is runs kept) = Ends.fault read text w failed is runs tt

module _ (bytes left : List ℕ) (Failed : Type 0) (Stays : Cluster → Type 0) where
  -- a last line behind the text of the lines done
  pub with_last : (status : ℕ) (line text : List ℕ) (r : ℕ) (out : List ℕ) → Ends bytes left Failed Stays status text line → LastLine status line r out → Wrote bytes left Failed Stays r (text ++ out)
  with_last status line text _ _ ends LastLine.whole = Wrote.all status text line ends
  with_last status line text _ _ ends (LastLine.sink out pre) =
      Wrote.sink (text ++ out) (status, text, line, any_files bytes left Failed Stays status text line ends, (pre.0, append_assoc text out pre.0 ∙ ap (λ (l : List ℕ). text ++ l) pre.1)) (Reached.in_last status text line out ends pre)
  with_last status line text _ _ ends (LastLine.memory out pre) =
      Wrote.memory (text ++ out) (status, text, line, any_files bytes left Failed Stays status text line ends, (pre.0, append_assoc text out pre.0 ∙ ap (λ (l : List ℕ). text ++ l) pre.1)) (Reached.in_last status text line out ends pre)

  -- lines, and then a last line
  pub finished : (told : Bool) (t0 t1 t2 : List ℕ) (status : ℕ) (line text : List ℕ) (r : ℕ) → Took told t0 t1 (λ out. Ends bytes left Failed Stays status (text ++ out) line) → Took told t1 t2 (LastLine status line r)
      → Took told t0 t2 (λ out. Wrote bytes left Failed Stays r (text ++ out))
  finished told t0 t1 t2 status line text r (x, first, ends) (y, second, last) = (
    x ++ y,
    (λ t. second t ∙ ap (λ (l : List ℕ). l ++ y) (first t) ∙ append_assoc t0 x y),
    subst (λ (o : List ℕ). Wrote bytes left Failed Stays r o) (append_assoc text x y) (with_last status line (text ++ x) r y ends last),
  )

  pub cut_sink : Readable → (out : List ℕ) → BrokenOff (lines_of bytes) Stays out → Wrote bytes left Failed Stays 5 out
  cut_sink readable out broken = Wrote.sink out (cut_short readable bytes left Failed out (cut_of (lines_of bytes) Stays out broken)) (Reached.in_lines out broken)

  pub cut_memory : Readable → (out : List ℕ) → BrokenOff (lines_of bytes) Stays out → Wrote bytes left Failed Stays 6 out
  cut_memory readable out broken = Wrote.memory out (cut_short readable bytes left Failed out (cut_of (lines_of bytes) Stays out broken)) (Reached.in_lines out broken)

-- without a fault of the source
wider_ends : (bytes left : List ℕ) (Failed : Type 0) (Stays : Cluster → Type 0) (status : ℕ) (text last : List ℕ) → Ends bytes [] ⊥ Stays status text last → Ends bytes left Failed Stays status text last
wider_ends bytes left Failed Stays _ _ _ (Ends.done text w runs begun kept) = Ends.done text w runs begun kept
wider_ends bytes left Failed Stays _ _ _ (Ends.outside n text w stops kept) = Ends.outside n text w stops kept
wider_ends bytes left Failed Stays _ _ _ (Ends.fault read text w failed is runs kept) = absurd failed

wider_reached : (bytes left : List ℕ) (Failed : Type 0) (Stays : Cluster → Type 0) (out : List ℕ) → Reached bytes [] ⊥ Stays out → Reached bytes left Failed Stays out
wider_reached bytes left Failed Stays _ (Reached.in_lines out broken) = Reached.in_lines out broken
wider_reached bytes left Failed Stays _ (Reached.in_last status text last prefix ends pre) = Reached.in_last status text last prefix (wider_ends bytes left Failed Stays status text last ends) pre

pub wider : (bytes left : List ℕ) (Failed : Type 0) (Stays : Cluster → Type 0) (status : ℕ) (out : List ℕ) → Wrote bytes [] ⊥ Stays status out → Wrote bytes left Failed Stays status out
wider bytes left Failed Stays _ _ (Wrote.all status text last ends) = Wrote.all status text last (wider_ends bytes left Failed Stays status text last ends)
wider bytes left Failed Stays _ _ (Wrote.sink out (k, text, last, ends, pre) reached) = Wrote.sink out (k, text, last, wider_ends bytes left Failed (λ _. ⊤) k text last ends, pre) (wider_reached bytes left Failed Stays out reached)
wider bytes left Failed Stays _ _ (Wrote.memory out (k, text, last, ends, pre) reached) = Wrote.memory out (k, text, last, wider_ends bytes left Failed (λ _. ⊤) k text last ends, pre) (wider_reached bytes left Failed Stays out reached)

-- one script part after another
pub after_took : (told : Bool) (t0 t1 t2 : List ℕ) (A B : List ℕ → Type 0) → Took told t0 t1 A → ((out : List ℕ) → A out → Took told t1 t2 (λ more. B (out ++ more))) → Took told t0 t2 B
after_took told t0 t1 t2 A B (x, first, a) f =
    let g = f x a in
    (x ++ g.0, (λ t. g.1 t ∙ ap (λ (l : List ℕ). l ++ g.0) (first t) ∙ append_assoc t0 x g.0), g.2)
