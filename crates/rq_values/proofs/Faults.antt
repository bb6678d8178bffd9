-- A fault keeps its cause when it is given its place.
use Rattle.std.proofs.Common.{◌≡◌, ℕ, Bool, true, false, List, Result, Ok, Err, refl, sym, ap, ◌∙◌}
use Rattle.std.proofs.lemmas.Bool.{OnFalse_at, OnFalse_from}
use Rattle.rq_values.specs.declared.error.DecodeError.{DecodeError}
use Rattle.rq_values.specs.declared.error.DecodeError.TheVariants.{Short, Kind, Long, NotText, Order, Rule, Text, Trailing, NoMemory}
use Rattle.rq_values.specs.Fault.{is_want_of_memory, placed}
use Rattle.rq_values.specs.Place.{placed_answer, whole_answer, IsAnswer}
use Rattle.rq_values.specs.Reading.{Fails, NeedsNoMemory}

same_cause : (total : ℕ) (e : DecodeError) → is_want_of_memory (placed total e) ≡ is_want_of_memory e
same_cause total (Short left) = refl
same_cause total (Kind left byte) = refl
same_cause total (Long left len) = refl
same_cause total (NotText left) = refl
same_cause total (Order left) = refl
same_cause total (Rule left) = refl
same_cause total (Text left) = refl
same_cause total (Trailing left) = refl
same_cause total NoMemory = refl

-- a call that takes no memory gives the fault itself
pub sure_fault : {A : Type 0} (total : ℕ) (e : DecodeError) (read : Result (A × List ℕ) DecodeError) → is_want_of_memory e ≡ false → Fails e read → Err (placed total e) ≡ placed_answer total read
sure_fault total e read sure fails = sym (ap (placed_answer total) (OnFalse_at sure fails))

pub placed_fault : {A : Type 0} (total : ℕ) (e : DecodeError) (read : Result (A × List ℕ) DecodeError) → Fails e read → IsAnswer (Err (placed total e)) (placed_answer total read)
placed_fault total e read fails =
    OnFalse_from (is_want_of_memory (placed total e)) (Err (placed total e) ≡ placed_answer total read)
    (λ known. sym (ap (placed_answer total) (OnFalse_at (sym (same_cause total e) ∙ known) fails)))

pub whole_fault : {A : Type 0} (total : ℕ) (e : DecodeError) (read : Result (A × List ℕ) DecodeError) → Fails e read → IsAnswer (Err (placed total e)) (whole_answer total read)
whole_fault total e read fails =
    OnFalse_from (is_want_of_memory (placed total e)) (Err (placed total e) ≡ whole_answer total read)
    (λ known. sym (ap (whole_answer total) (OnFalse_at (sym (same_cause total e) ∙ known) fails)))
