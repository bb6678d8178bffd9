-- Reading frames one after the other, as a loop does.
use Rattle.std.proofs.Common.{◌≡◌, ◌≢◌, ℕ, zero, suc, ◌<◌, List, [], ◌∷◌, length, Result, Ok, Err, sym, ap, ◌∙◌, arith}
use Rattle.std.proofs.lemmas.Bool.{OnFalse_at, OnFalse_from}
use Rattle.std.proofs.lemmas.Bool.Decides.{nat_tests}
use Rattle.rq_values.specs.declared.error.DecodeError.{DecodeError}
use Rattle.rq_values.specs.declared.error.DecodeError.TheVariants.{Short}
use Rattle.rq_values.specs.Fault.{is_want_of_memory}
use Rattle.rq_values.specs.Reading.{◌>>=◌, Fails}
use Rattle.rq_wal.specs.declared.base.Stored.{Stored}
use Rattle.rq_wire.specs.declared.frame.Frame.{Frame}
use Rattle.rq_wal.specs.Stored.{applied}
use Rattle.rq_wal.specs.Reading.{frame_at, frames_at}
use Rattle.rq_wal.proofs.LocalFrames.{no_longer}

-- reading from here gives what reading from the start gives
abbrev pub Comes : Stored → List ℕ → Result (Stored × List ℕ) DecodeError → Type 0
Comes stored rest total = (most : ℕ) × (length rest < most) × (frames_at most stored rest ≡ total)

pub opened : (stored : Stored) (bytes : List ℕ) (frame : Frame) (rest : List ℕ) (most : ℕ) → frame_at stored bytes ≡ Ok (frame, rest) → frames_at (suc most) stored (1 ∷ bytes) ≡ frames_at most (applied stored frame) rest
unfolding frames_at
opened stored bytes frame rest most is = ap (λ r. r >>= λ f. frames_at most (applied stored f.0) f.1) is

faulty : (stored : Stored) (bytes : List ℕ) (most : ℕ) (wrong : DecodeError) → frame_at stored bytes ≡ Err wrong → frames_at (suc most) stored (1 ∷ bytes) ≡ Err wrong
unfolding frames_at
faulty stored bytes most wrong is = ap (λ r. r >>= λ f. frames_at most (applied stored f.0) f.1) is

pub closed : (stored : Stored) (gate : ℕ) (rest : List ℕ) (most : ℕ) → gate ≢ 1 → frames_at (suc most) stored (gate ∷ rest) ≡ Ok (stored, gate ∷ rest)
unfolding frames_at
closed stored gate rest most shut = grind (arith, nat_tests)

pub one_frame : (stored : Stored) (bytes : List ℕ) (frame : Frame) (rest : List ℕ) (total : Result (Stored × List ℕ) DecodeError) → frame_at stored bytes ≡ Ok (frame, rest) → Comes stored (1 ∷ bytes) total → Comes (applied stored frame) rest total
one_frame stored bytes frame rest total is (zero, lt, same) = absurd (omega arith)
one_frame stored bytes frame rest total is (suc most, lt, same) = (most, omega (arith, no_longer stored bytes frame rest is), sym (opened stored bytes frame rest most is) ∙ same)

its_fault : (e : DecodeError) (stored : Stored) (bytes : List ℕ) (total : Result (Stored × List ℕ) DecodeError) → frame_at stored bytes ≡ Err e → Comes stored (1 ∷ bytes) total → total ≡ Err e
its_fault e stored bytes total is (zero, lt, same) = absurd (omega arith)
its_fault e stored bytes total is (suc most, lt, same) = sym same ∙ faulty stored bytes most e is

pub a_fault : (e : DecodeError) (stored : Stored) (bytes : List ℕ) (total : Result (Stored × List ℕ) DecodeError) → Fails e (frame_at stored bytes) → Comes stored (1 ∷ bytes) total → Fails e total
a_fault e stored bytes total fails comes = OnFalse_from (is_want_of_memory e) (total ≡ Err e) (λ known. its_fault e stored bytes total (OnFalse_at known fails) comes)

pub no_gate : (stored : Stored) (total : Result (Stored × List ℕ) DecodeError) → Comes stored [] total → total ≡ Err (Short 0)
unfolding frames_at
no_gate stored total (zero, lt, same) = sym same
no_gate stored total (suc most, lt, same) = sym same

pub shut_gate : (stored : Stored) (gate : ℕ) (rest : List ℕ) (total : Result (Stored × List ℕ) DecodeError) → gate ≢ 1 → Comes stored (gate ∷ rest) total → total ≡ Ok (stored, gate ∷ rest)
shut_gate stored gate rest total shut (zero, lt, same) = absurd (omega arith)
shut_gate stored gate rest total shut (suc most, lt, same) = sym same ∙ closed stored gate rest most shut
