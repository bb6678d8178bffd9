-- Steps of an append.
use Rattle.std.proofs.Common.{◌≡◌, ℕ, ◌+◌, ◌-◌, ◌<◌, ◌≤◌, nat_lt, true, List, [], ◌∷◌, ◌++◌, length, get_or, drop, take, refl, sym, ap, ◌∙◌, arith}
use Rattle.std.specs.Prelude.{◌==◌, Some}
use Rattle.std.proofs.lemmas.List.{drop_more, length-take}
use Rattle.std.proofs.lemmas.Grind.{common_steps}
use Rattle.std.proofs.Math.Seq.{drop-append_seam}
use Rattle.rq_history.specs.History.{term_at}
use Rattle.rq_raft.specs.Entries.{Entries, entry_view}
use Rattle.rq_raft.specs.Node.{Splice}
use Rattle.rq_raft.specs.Append.{matching_count}
use Rattle.rq_log.specs.Views.{stored_of}

module _ {E : Type 0} (entries : Entries E) where
  pub already_one : (log : List E) (at : ℕ) (e : E) (es : List E) → at < length log → term_at (entry_view entries) log (at + 1) ≡ entries.term_of e → matching_count entries log at (e ∷ es) ≡ matching_count entries log (at + 1) es + 1
  already_one log at e es below same = let lower : nat_lt at (length log) ≡ true = grind arith in let equal : (term_at (entry_view entries) log (at + 1) == entries.term_of e) ≡ true = grind arith in rw (lower, equal) refl

  already_none : (log : List E) (at : ℕ) (e : E) (es : List E) → (at < length log → term_at (entry_view entries) log (at + 1) ≡ entries.term_of e → ⊥) → matching_count entries log at (e ∷ es) ≡ 0
  already_none log at e es differ = grind (arith, common_steps)

  pub matching_on : (log : List E) (at : ℕ) (es : List E) (k : ℕ) (e : E) → k < length es → e ≡ get_or es k e → at < length log → term_at (entry_view entries) log (at + 1) ≡ entries.term_of e → matching_count entries log at (drop k es) ≡ matching_count entries log (at + 1) (drop (k + 1) es) + 1
  matching_on log at es k e within is below same = ap (matching_count entries log at) (drop_more es k e within ∙ ap (λ (x : E). x ∷ drop (k + 1) es) (sym is)) ∙ already_one log at e (drop (k + 1) es) below same

  pub matching_off : (log : List E) (at : ℕ) (es : List E) (k : ℕ) (e : E) → k < length es → e ≡ get_or es k e → (at < length log → term_at (entry_view entries) log (at + 1) ≡ entries.term_of e → ⊥) → matching_count entries log at (drop k es) ≡ 0
  matching_off log at es k e within is differ = ap (matching_count entries log at) (drop_more es k e within ∙ ap (λ (x : E). x ∷ drop (k + 1) es) (sym is)) ∙ already_none log at e (drop (k + 1) es) differ

pub stored_tail : {E : Type 0} (log es : List E) (at : ℕ) → at ≤ length log → stored_of (take at log ++ es) (Some (at + 1)) ≡ Splice (at + 1) es ∷ []
stored_tail log es at within = let len = length-take at log in let m : at + 1 - 1 ≡ length (take at log) = omega arith in
    ap (λ (l : List _). Splice (at + 1) l ∷ []) (ap (λ (k : ℕ). drop k (take at log ++ es)) m ∙ drop-append_seam (take at log) es)
