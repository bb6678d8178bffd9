use Rattle.std.proofs.Common.{◌+◌, ℕ, List, length, drop, sym, ◌∙◌, ap, subst, arith, length-drop}
use Rattle.rq_outside.specs.Replay.{IsTornBy, is_valid, torn_after, left_after}
use Rattle.rq_outside.proofs.Replays.{total_step, no_sync_step, valid_step, torn_step}
use Rattle.rq_outside.proofs.Picks.{is_torn, tear_step, valid_torn}
use Rattle.rq_outside.proofs.in_memory.journal.tear.Goals as goal

pub tear_call-len-requires-clause-total : goal.tear_call-len-requires-clause-total
tear_call-len-requires-clause-total c = omega (arith, total_step c.args.calls.now c.loop-call.call-index c.loop-call-test.true, c.loop-call.invariant.total)

pub tear_call-len-requires-clause-valid : goal.tear_call-len-requires-clause-valid
tear_call-len-requires-clause-valid c = (valid_step c.args.calls.now c.loop-call.call-index c.loop-call-test.true c.loop-call.rest.now c.loop-call.image.items c.loop-call.invariant.valid).0

pub tear_call-len-requires-clause-room : goal.tear_call-len-requires-clause-room
tear_call-len-requires-clause-room c = omega (arith, total_step c.args.calls.now c.loop-call.call-index c.loop-call-test.true, c.loop-call.invariant.len, c.loop-call.invariant.capacity, c.requires.room)

pub split_at-requires : goal.split_at-requires
split_at-requires c = omega (arith, c.tear_call-len.ensures.count, total_step c.args.calls.now c.loop-call.call-index c.loop-call-test.true, c.loop-call.invariant.total)

pub loop-call-preserved : goal.loop-call-preserved
loop-call-preserved c =
    let so_far = c.loop-call.invariant in
    let calls = c.args.calls.now in
    let i = c.loop-call.call-index in
    let lt = c.loop-call-test.true in
    let step = total_step calls i lt in
    let back = c.split_at.ensures.back ∙ ap (λ (n : ℕ). drop n c.loop-call.rest.now) c.tear_call-len.ensures.count in
    let pick = c.args.pick in
    let pos = c.requires.made in
    let image = c.loop-call.image.items in
    let is = c.tear_call-len.ensures.items in
    let valid_here = (valid_step calls i lt c.loop-call.rest.now image so_far.valid).0 in
    let torn_here = is_torn pick _ c.loop-call.rest.now image pos (omega (arith, step, so_far.total)) valid_here (no_sync_step calls i lt so_far.no_sync).0 in
    record {
      items = (λ j. torn_after pick (drop (i + 1) calls) (back j) (is j)) ∙ sym (tear_step calls i lt pick pos c.loop-call.rest.now image) ∙ so_far.items;
      valid = (λ j. is_valid (drop (i + 1) calls) (back j) (is j)) ∙ valid_torn calls i lt pick pos c.loop-call.rest.now image so_far.valid;
      torn = λ f left. so_far.torn f (torn_step calls i lt c.loop-call.rest.now image c.tear_call-len.new.image.items so_far.no_sync (subst (IsTornBy _ image) (sym is) torn_here) f
          (subst (λ (l : List ℕ). left_after (drop (i + 1) calls) l c.tear_call-len.new.image.items f) back left));
      no_sync = (no_sync_step calls i lt so_far.no_sync).1;
      total = omega (arith, step, so_far.total, ap length c.split_at.ensures.back, length-drop c.tear_call-len.result c.loop-call.rest.now, c.tear_call-len.ensures.count);
      len = omega (arith, step, so_far.len, c.tear_call-len.ensures.len);
      capacity = omega (arith, so_far.capacity, c.tear_call-len.ensures.capacity);
    }
