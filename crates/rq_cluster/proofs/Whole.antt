-- Every script has a whole text.
use Rattle.std.proofs.Common.{◌≡◌, ◌≤◌, ◌<◌, ◌⊎◌, inl, inr, ⊎_elim, ◌+◌, ℕ, List, [], ◌∷◌, ◌++◌, length, sym, ap, subst, ◌∙◌, append_assoc, arith}
use Rattle.std.proofs.lemmas.List.{append-nil}
use Rattle.rq_script.specs.Cluster.{Cluster, Steps, IsOutside, IsStarted, ending}
use Rattle.rq_script.specs.Lines.{Line, lines_of, IsOver, IsWithin}
use Rattle.rq_cluster.specs.LastLines.{stopped_line, IsPrefix}
use Rattle.rq_cluster.specs.Outcome.{Ends, CutShort, BrokenOff}
use Rattle.rq_script.specs.Runs.{Runs, StopsAt}
use Rattle.rq_cluster.proofs.Alike.{Readable}
use Rattle.rq_cluster.proofs.WorldLaws.{stepped, started_or_not}

within : (l : Line) → IsOver l ⊎ IsWithin l
within l = ⊎_elim
    (λ (a : 2097152 < length l.text). inl (inl a))
    (λ (fits : length l.text ≤ 2097152). ⊎_elim (λ (b : 67108864 < l.upto). inl (inr b)) (λ (far : l.upto ≤ 67108864). inr (record { line_fits = fits; script_fits = far })) (cut l.upto 67108864))
    (cut (length l.text) 2097152)
  where
    cut : (a b : ℕ) → (b < a) ⊎ (a ≤ b)
    cut a b = grind arith

abbrev Goal : List Line → List ℕ → Type 0
Goal all text = ((out : List ℕ) × (last : Cluster) × Runs all (text ++ out) last × IsStarted last) ⊎ ((n : ℕ) × (out : List ℕ) × (w : Cluster) × StopsAt all n (text ++ out) w)

-- after some of the lines there is a whole text that goes on from theirs
pub goes_on : Readable → (all more lines : List Line) (text : List ℕ) (w : Cluster) → all ≡ lines ++ more → Runs lines text w
    → Goal all text
goes_on readable all [] lines text w is runs = at (started_or_not w)
  where
    here : Runs all (text ++ []) w
    here = subst (λ (ls : List Line). Runs ls (text ++ []) w) (sym (is ∙ append-nil lines)) (subst (λ (t : List ℕ). Runs lines t w) (sym (append-nil text)) runs)

    at : IsStarted w ⊎ (IsStarted w → ⊥) → Goal all text
    at (inl started) = inl ([], w, here, started)
    at (inr free) = inr (length all + 1, [], w, StopsAt.at_end (text ++ []) w here free)
goes_on readable all (l ∷ more) lines text w is runs = ⊎_elim over (fits (λ next_text next next_is next_runs. goes_on readable all more (lines ++ l ∷ []) next_text next next_is next_runs)) (within l)
  where
    stop : IsOver l ⊎ IsOutside w l.text → Goal all text
    stop out = inr (length lines + 1, [], w, subst (λ (t : List ℕ). StopsAt all (length lines + 1) t w) (sym (append-nil text)) (StopsAt.at_line lines l more text w is runs out))

    over : IsOver l → Goal all text
    over out = stop (inl out)

    again : (t : List ℕ) → Goal all (text ++ t) → Goal all text
    again t found = ⊎_elim
        (λ f. inl (t ++ f.0, f.1, subst (λ (x : List ℕ). Runs all x f.1) (append_assoc text t f.0) f.2, f.3))
        (λ f. inr (f.0, t ++ f.1, f.2, subst (λ (x : List ℕ). StopsAt all f.0 x f.2) (append_assoc text t f.1) f.3))
        found

    fits : ((next_text : List ℕ) (next : Cluster) → all ≡ (lines ++ l ∷ []) ++ more → Runs (lines ++ l ∷ []) next_text next → Goal all next_text) → IsWithin l → Goal all text
    fits on ok = ⊎_elim
        (λ (s : (t : List ℕ) × (next : Cluster) × Steps w l.text t next). again s.0 (on (text ++ s.0) s.1 (is ∙ sym (append_assoc lines (l ∷ []) more)) (Runs.line l s.0 s.1 runs ok s.2)))
        (λ (out : IsOutside w l.text). stop (inr out))
        (stepped readable w l.text)

-- a prefix of the text of a run of some of the lines
abbrev pub IsCut : List Line → List ℕ → Type 0
IsCut all out = (lines more : List Line) × (text : List ℕ) × (w : Cluster) × (all ≡ lines ++ more) × Runs lines text w × IsPrefix out text

pub cut_of : (all : List Line) (Stays : Cluster → Type 0) (out : List ℕ) → BrokenOff all Stays out → IsCut all out
cut_of all Stays _ (BrokenOff.before lines more text w is runs kept) = (lines, more, text, w, is, runs, ([], append-nil text))
cut_of all Stays _ (BrokenOff.within lines l more text w reached is runs ok reach kept) = (lines, l ∷ more, text, w, is, runs, ([], append-nil text))
cut_of all Stays _ (BrokenOff.writing lines l more text w prefix said next is runs ok step pre kept) =
    (lines ++ l ∷ [], more, text ++ said, next, is ∙ sym (append_assoc lines (l ∷ []) more), Runs.line l said next runs ok step, (pre.0, append_assoc text prefix pre.0 ∙ ap (λ (t : List ℕ). text ++ t) pre.1))

pub cut_short : Readable → (bytes left : List ℕ) (Failed : Type 0) (out : List ℕ) → IsCut (lines_of bytes) out → CutShort bytes left Failed out
cut_short readable bytes left Failed out (lines, more, text, w, is, runs, (rest, prefix)) = ⊎_elim
    (λ f. (0, text ++ f.0, ending f.1, Ends.done (text ++ f.0) f.1 f.2 f.3 tt, longer f.0 (ending f.1)))
    (λ f. (3, text ++ f.1, stopped_line f.0, Ends.outside f.0 (text ++ f.1) f.2 f.3 tt, longer f.1 (stopped_line f.0)))
    (goes_on readable (lines_of bytes) more lines text w is runs)
  where
    longer : (a b : List ℕ) → IsPrefix out ((text ++ a) ++ b)
    longer a b = (rest ++ (a ++ b), sym (append_assoc out rest (a ++ b)) ∙ ap (λ (t : List ℕ). t ++ (a ++ b)) prefix ∙ sym (append_assoc text a b))
