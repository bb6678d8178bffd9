-- A log is read exactly where it was written.
use Rattle.std.proofs.Common.{◌≡◌, ◌≢◌, inl, inr, ℕ, zero, suc, ◌+◌, ◌≤◌, ◌<◌, ◌^◌, List, [], ◌∷◌, ◌++◌, length, Ok, refl, sym, ap, subst, ◌∙◌, arith, append_assoc, length-append}
use Rattle.std.proofs.lemmas.Bool.{cases_eq}
use Rattle.std.proofs.lemmas.Bool.Decides.{nat_tests}
use Rattle.std.specs.List.{flat_map}
use Rattle.rq_values.specs.Spelling.{u64_bytes}
use Rattle.rq_values.specs.Reading.{◌>>=◌, u64_at}
use Rattle.rq_values.proofs.Local.{bind_ok, ok_is}
use Rattle.rq_values.specs.Exact.{AreBytes, IsExact, Stood}
use Rattle.rq_values.proofs.Exact.{exact_u64}
use Rattle.rq_wal.specs.declared.base.Base.{Base}
use Rattle.rq_wal.specs.declared.base.Stored.{Stored}
use Rattle.rq_wire.specs.declared.frame.Frame.{Frame}
use Rattle.rq_wal.specs.Spelling.{base_bytes, frame_bytes, gated}
use Rattle.rq_wal.specs.Stored.{started, applied, applied_all, stored_after}
use Rattle.rq_wal.specs.Reading.{frame_at, frames_at, spelled_at, base_at, log_at}
use Rattle.rq_wal.specs.Rules.{AreAllowed}
use Rattle.rq_wal.proofs.ExactFrames.{exact_sized, exact_frame}
use Rattle.rq_wal.proofs.FramesRead.{opened, closed}

-- ---- frames

pub frames_again : (stored : Stored) (frames : List Frame) (most gate : ℕ) (rest : List ℕ) → AreAllowed stored frames → gate ≢ 1 → length frames < most → frames_at most stored (flat_map gated frames ++ gate ∷ rest) ≡ Ok (applied_all stored frames, gate ∷ rest)
frames_again stored frames zero gate rest all ne lt = absurd (omega arith)
frames_again stored [] (suc most) gate rest all ne lt = closed stored gate rest most ne
frames_again stored (frame ∷ frames) (suc most) gate rest all ne lt =
    let behind = flat_map gated frames ++ gate ∷ rest in
    ap (λ (l : List ℕ). frames_at (suc most) stored (1 ∷ l)) (append_assoc (frame_bytes frame) (flat_map gated frames) (gate ∷ rest))
    ∙ opened stored (frame_bytes frame ++ behind) frame behind most ((exact_frame stored).reads frame behind all.0)
    ∙ frames_again (applied stored frame) frames most gate rest all.1 ne (omega arith)

-- frames that were read, and the closed gate behind them
pub record Frames (stored : Stored) (bytes : List ℕ) (last : Stored) (rest : List ℕ) : Type 0 where
  pub frames : List Frame
  pub gate : ℕ
  pub behind : List ℕ
  pub shut : gate ≢ 1
  pub is : bytes ≡ flat_map gated frames ++ rest
  pub at : rest ≡ gate ∷ behind
  pub allowed : AreAllowed stored frames
  pub folds : last ≡ applied_all stored frames

none_read : (stored : Stored) (bytes : List ℕ) (y : Stored × List ℕ) → frames_at zero stored bytes ≡ Ok y → ⊥
unfolding frames_at
none_read stored bytes y h = cc

end_read : (most : ℕ) (stored : Stored) (y : Stored × List ℕ) → frames_at (suc most) stored [] ≡ Ok y → ⊥
unfolding frames_at
end_read most stored y h = cc

open_read : (most : ℕ) (stored : Stored) (gate : ℕ) (bytes : List ℕ) (y : Stored × List ℕ) → gate ≡ 1 → frames_at (suc most) stored (gate ∷ bytes) ≡ Ok y → (frame_at stored bytes >>= λ f. frames_at most (applied stored f.0) f.1) ≡ Ok y
unfolding frames_at
open_read most stored gate bytes y is h = subst (λ (g : ℕ). frames_at (suc most) stored (g ∷ bytes) ≡ Ok y) is h

frames_shut : (stored : Stored) (gate : ℕ) (bytes : List ℕ) (last : Stored) (rest : List ℕ) → gate ≢ 1 → stored ≡ last → gate ∷ bytes ≡ rest → Frames stored (gate ∷ bytes) last rest
frames_shut stored gate bytes last rest ne same at = record { frames = []; gate = gate; behind = bytes; shut = ne; is = at; at = sym at; allowed = tt; folds = sym same }

frames_open : (stored : Stored) (gate : ℕ) (bytes : List ℕ) (frame : Frame) (mid : List ℕ) (last : Stored) (rest : List ℕ) → gate ≡ 1 → Stood frame_bytes (λ f. AreAllowed stored (f ∷ [])) bytes frame mid → Frames (applied stored frame) mid last rest → Frames stored (gate ∷ bytes) last rest
frames_open stored gate bytes frame mid last rest one s t = record {
  frames = frame ∷ t.frames;
  gate = t.gate;
  behind = t.behind;
  shut = t.shut;
  is = (λ i. one i ∷ s.is i) ∙ ap (λ (l : List ℕ). 1 ∷ (frame_bytes frame ++ l)) t.is ∙ ap (λ (l : List ℕ). 1 ∷ l) (sym (append_assoc (frame_bytes frame) (flat_map gated t.frames) rest));
  at = t.at;
  allowed = (s.proper.0, t.allowed);
  folds = t.folds;
}

pub frames_stood : (most : ℕ) (stored : Stored) (bytes : List ℕ) (last : Stored) (rest : List ℕ) → AreBytes bytes → frames_at most stored bytes ≡ Ok (last, rest) → Frames stored bytes last rest
frames_stood zero stored bytes last rest all h = absurd (none_read stored bytes (last, rest) h)
frames_stood (suc most) stored [] last rest all h = absurd (end_read most stored (last, rest) h)
frames_stood (suc most) stored (gate ∷ bytes) last rest all h = elim (cases_eq gate 1) [
  | inl is ↦
      let first = bind_ok (frame_at stored bytes) (λ f. frames_at most (applied stored f.0) f.1) (last, rest) (open_read most stored gate bytes (last, rest) is h) in
      let s = (exact_frame stored).stood bytes first.0.0 first.0.1 all.1 first.1 in
      frames_open stored gate bytes first.0.0 first.0.1 last rest is (record { is = s.is; proper = (s.proper, tt); behind = s.behind }) (frames_stood most (applied stored first.0.0) first.0.1 last rest s.behind first.2)
  | inr ne ↦
      let same = ok_is (stored, gate ∷ bytes) (last, rest) (frames_at (suc most) stored (gate ∷ bytes)) (closed stored gate bytes most ne) h in
      frames_shut stored gate bytes last rest ne (ap (λ x. x.0) same) (ap (λ x. x.1) same)
]

-- ---- the base

same_byte : {A : Type 0} (thing : A) (text : List ℕ) (byte : ℕ) (rest : List ℕ) → spelled_at thing (byte ∷ text) (byte ∷ rest) ≡ spelled_at thing text rest
unfolding spelled_at
same_byte thing text byte rest = grind (arith, nat_tests)

all_bytes : {A : Type 0} (thing : A) (rest : List ℕ) → spelled_at thing [] rest ≡ Ok (thing, rest)
unfolding spelled_at
all_bytes thing rest = refl

spelled_again : {A : Type 0} (thing : A) (text rest : List ℕ) → spelled_at thing text (text ++ rest) ≡ Ok (thing, rest)
spelled_again thing [] rest = all_bytes thing rest
spelled_again thing (byte ∷ text) rest = same_byte thing text byte (text ++ rest) ∙ spelled_again thing text rest

no_byte : {A : Type 0} (thing : A) (text : List ℕ) (byte : ℕ) (y : A × List ℕ) → spelled_at thing (byte ∷ text) [] ≡ Ok y → ⊥
unfolding spelled_at
no_byte thing text byte y h = cc

byte_read : {A : Type 0} (thing : A) (text : List ℕ) (byte found : ℕ) (rest : List ℕ) (y : A × List ℕ) → spelled_at thing (byte ∷ text) (found ∷ rest) ≡ Ok y → (found ≡ byte) × (spelled_at thing text rest ≡ Ok y)
unfolding spelled_at
byte_read thing text byte found rest y h = elim (cases_eq found byte) [
  | inl is ↦ (is, sym (ap (λ (n : ℕ). spelled_at thing (n ∷ text) (found ∷ rest)) (sym is) ∙ same_byte thing text found rest) ∙ ap (λ (n : ℕ). spelled_at thing (n ∷ text) (found ∷ rest)) (sym is) ∙ ap (λ (n : ℕ). spelled_at thing (n ∷ text) (found ∷ rest)) is ∙ h)
  | inr ne ↦ absurd (grind (arith, nat_tests))
]

spelled_stood : {A : Type 0} (thing : A) (text bytes : List ℕ) (a : A) (rest : List ℕ) → AreBytes bytes → spelled_at thing text bytes ≡ Ok (a, rest) → Stood (λ _. text) (λ a. a ≡ thing) bytes a rest
spelled_stood {A} thing [] bytes a rest all h =
    let e = ok_is (thing, bytes) (a, rest) (spelled_at thing [] bytes) (all_bytes thing bytes) h in
    record { is = ap (λ x. x.1) e; proper = sym (ap (λ x. x.0) e); behind = subst AreBytes (ap (λ x. x.1) e) all }
spelled_stood thing (byte ∷ text) [] a rest all h = absurd (no_byte thing text byte (a, rest) h)
spelled_stood thing (byte ∷ text) (found ∷ bytes) a rest all h =
    let read = byte_read thing text byte found bytes (a, rest) h in
    let more = spelled_stood thing text bytes a rest all.1 read.1 in
    record { is = λ i. read.0 i ∷ more.is i; proper = more.proper; behind = more.behind }

exact_base : (first : Base) → IsExact (base_at first) (λ _. u64_bytes (length (base_bytes first)) ++ base_bytes first) (λ a. (a ≡ first) × (length (base_bytes first) < 2 ^ 64))
unfolding base_at
exact_base first =
    exact_sized u64_at u64_bytes (λ n. n < 2 ^ 64) (spelled_at first (base_bytes first)) (λ _. base_bytes first) (λ a. a ≡ first) exact_u64
    (record { reads = λ a rest is. spelled_again first (base_bytes first) rest ∙ ap (λ (b : Base). Ok (b, rest)) (sym is); stood = spelled_stood first (base_bytes first) })

-- ---- both

few : (frames : List Frame) → length frames ≤ length (flat_map gated frames)
few [] = omega arith
few (frame ∷ frames) = omega (arith, few frames, length-append (gated frame) (flat_map gated frames))

log_is : (first : Base) (bytes : List ℕ) (rest : List ℕ) → base_at first bytes ≡ Ok (first, rest) → log_at first bytes ≡ frames_at (length rest + 1) (started first) rest
unfolding log_at
log_is first bytes rest h = ap (λ r. r >>= λ b. frames_at (length b.1 + 1) (started b.0) b.1) h

log_read : (first : Base) (bytes : List ℕ) (y : Stored × List ℕ) → log_at first bytes ≡ Ok y → (x : Base × List ℕ) × (base_at first bytes ≡ Ok x) × (frames_at (length x.1 + 1) (started x.0) x.1 ≡ Ok y)
unfolding log_at
log_read first bytes y h = bind_ok (base_at first bytes) (λ b. frames_at (length b.1 + 1) (started b.0) b.1) y h

-- the base's length, and the base
abbrev pub sized_base : Base → List ℕ
sized_base first = u64_bytes (length (base_bytes first)) ++ base_bytes first

pub log_again : (first : Base) (frames : List Frame) (gate : ℕ) (rest : List ℕ) → length (base_bytes first) < 2 ^ 64 → AreAllowed (started first) frames → gate ≢ 1
    → log_at first (sized_base first ++ (flat_map gated frames ++ gate ∷ rest)) ≡ Ok (stored_after first frames, gate ∷ rest)
log_again first frames gate rest fits all ne =
    let behind = flat_map gated frames ++ gate ∷ rest in
    log_is first (sized_base first ++ behind) behind ((exact_base first).reads first behind (refl, fits))
    ∙ frames_again (started first) frames (length behind + 1) gate rest all ne (omega (arith, few frames, length-append (flat_map gated frames) (gate ∷ rest)))

pub log_stood : (first : Base) (bytes : List ℕ) (stored : Stored) (rest : List ℕ) → AreBytes bytes → log_at first bytes ≡ Ok (stored, rest) → (length (base_bytes first) < 2 ^ 64) × ((mid : List ℕ) × (bytes ≡ sized_base first ++ mid) × Frames (started first) mid stored rest)
log_stood first bytes stored rest all h =
    let found = log_read first bytes (stored, rest) h in
    let base = (exact_base first).stood bytes found.0.0 found.0.1 all found.1 in
    let frames = frames_stood (length found.0.1 + 1) (started found.0.0) found.0.1 stored rest base.behind found.2 in
    (base.proper.1, (found.0.1, base.is, subst (λ (b : Base). Frames (started b) found.0.1 stored rest) base.proper.0 frames))
