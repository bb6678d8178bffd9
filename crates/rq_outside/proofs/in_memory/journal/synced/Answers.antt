use Rattle.std.proofs.Common.{◌≡◌, ◌+◌, ◌-◌, ℕ, true, false, drop, sym, ◌∙◌, ap, arith}
use Rattle.rq_outside.specs.Replay.{has_no_sync}
use Rattle.rq_outside.proofs.Picks.{synced_found, synced_none}
use Rattle.rq_outside.proofs.in_memory.journal.synced.Goals as goal
use Rattle.rq_outside.proofs.in_memory.journal.synced.Goals.{in-Sync, in_default}

pub returns-then-matches-clause-count : goal.returns-then-matches-clause-count
returns-then-matches-clause-count c =
    let calls = c.args.calls.now in
    let kept : ℕ = c.loop-kept.kept in
    elim c.match-matches.branch [
      | in-Sync w ↦ (
          let again : kept - 1 + 1 ≡ kept = omega (arith, c.loop-kept-test.true) in
          let free : has_no_sync (drop (kept - 1 + 1) calls) ≡ true = ap (λ (n : ℕ). has_no_sync (drop n calls)) again ∙ c.loop-kept.invariant.after in
          sym again ∙ sym (synced_found calls (kept - 1) (omega (arith, c.loop-kept-test.true, c.loop-kept.invariant.within)) w.in-Sync.is free))
      | in_default w ↦ (let clash : true ≡ false = sym c.if-matches.true ∙ w.matches-is in absurd (cc))
    ]

pub returns-clause-count : goal.returns-clause-count
returns-clause-count c =
    let none : c.loop-kept.kept ≡ 0 = omega (arith, c.loop-kept-test.false) in
    sym (synced_none c.args.calls.now (ap (λ (n : ℕ). has_no_sync (drop n c.args.calls.now)) (sym none) ∙ c.loop-kept.invariant.after))
