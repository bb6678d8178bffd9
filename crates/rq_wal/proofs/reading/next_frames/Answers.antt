use Rattle.std.proofs.Common.{Ok, ◌≡◌, ◌+◌, ◌∷◌, List, ℕ, length, sym, ◌∙◌, ap, subst, arith}
use Rattle.std.proofs.lemmas.Result.{err_from_is_err_and}
use Rattle.rq_values.specs.declared.error.DecodeError.{DecodeError}
use Rattle.rq_values.specs.Reading.{Fails}
use Rattle.rq_wal.specs.Reading.{frames_at}
use Rattle.rq_wal.specs.declared.base.Stored.{Stored}
use Rattle.rq_wal.proofs.FramesRead.{Comes, one_frame, a_fault, no_gate, shut_gate}
use Rattle.rq_wal.proofs.LocalFrames.{no_longer}
use Rattle.rq_wal.proofs.reading.next_frames.Goals as goal

pub returns-in_err-gate : goal.returns-in_err-gate
returns-in_err-gate c =
    let total = frames_at (length c.args.bytes.now + 1) c.args.first c.args.bytes.now in
    let p = err_from_is_err_and c.from_residual.result c.from_residual.ensures.1 in
    let comes = subst (λ (l : List ℕ). Comes c.frames.stored l total) c.in_err-gate.ensures.none.1 c.frames.invariant in
    rw (p.1, p.2) (subst (λ (e : DecodeError). Fails e total) (sym c.in_err-gate.ensures.none.0) (no_gate c.frames.stored total comes))

pub returns-then-gate-ne1 : goal.returns-then-gate-ne1
returns-then-gate-ne1 c =
    let total = frames_at (length c.args.bytes.now + 1) c.args.first c.args.bytes.now in
    let is = c.in_ok-gate.ensures.found in
    let comes = subst (λ (l : List ℕ). Comes c.frames.stored l total) is c.frames.invariant in
    subst (λ (l : List ℕ). total ≡ Ok (c.frames.stored, l)) (sym is) (shut_gate c.frames.stored c.in_ok-gate.gate c.in_ok-gate.behind.now total c.if-gate-ne1.true comes)

pub returns-in_err-frame : goal.returns-in_err-frame
returns-in_err-frame c =
    let total = frames_at (length c.args.bytes.now + 1) c.args.first c.args.bytes.now in
    let p = err_from_is_err_and c.from_residual-in_err-frame.result c.from_residual-in_err-frame.ensures.1 in
    let is = c.in_ok-gate.ensures.found ∙ ap (λ (n : ℕ). n ∷ c.in_ok-gate.behind.now) c.if-gate-ne1.false in
    let comes = subst (λ (l : List ℕ). Comes c.frames.stored l total) is c.frames.invariant in
    rw (p.1, p.2) (a_fault c.in_err-frame.field-0.0 c.frames.stored c.in_ok-gate.behind.now total c.in_err-frame.ensures comes)

pub frames-smaller : goal.frames-smaller
frames-smaller c =
    omega (arith, ap length c.in_ok-gate.ensures.found, no_longer c.frames.stored c.in_ok-gate.behind.now c.in_ok-frame.frame c.in_ok-frame.after.now c.in_ok-frame.ensures)

pub frames-preserved : goal.frames-preserved
frames-preserved c =
    let total = frames_at (length c.args.bytes.now + 1) c.args.first c.args.bytes.now in
    let is = c.in_ok-gate.ensures.found ∙ ap (λ (n : ℕ). n ∷ c.in_ok-gate.behind.now) c.if-gate-ne1.false in
    let comes = subst (λ (l : List ℕ). Comes c.frames.stored l total) is c.frames.invariant in
    subst (λ (s : Stored). Comes s c.in_ok-frame.after.now total) (sym c.in_ok-stored.ensures)
    (one_frame c.frames.stored c.in_ok-gate.behind.now c.in_ok-frame.frame c.in_ok-frame.after.now total c.in_ok-frame.ensures comes)
