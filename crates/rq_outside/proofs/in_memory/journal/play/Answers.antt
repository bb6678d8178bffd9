use Rattle.std.proofs.Common.{◌+◌, ℕ, length, drop, sym, ◌∙◌, ap, arith, length-drop}
use Rattle.rq_outside.specs.Replay.{is_valid, content_after}
use Rattle.rq_outside.proofs.Replays.{total_step, content_step, valid_step}
use Rattle.rq_outside.proofs.in_memory.journal.play.Goals as goal

pub play_call-len-requires-clause-total : goal.play_call-len-requires-clause-total
play_call-len-requires-clause-total c = omega (arith, total_step c.args.calls.now c.loop-call.call-index c.loop-call-test.true, c.loop-call.invariant.total)

pub play_call-len-requires-clause-valid : goal.play_call-len-requires-clause-valid
play_call-len-requires-clause-valid c = (valid_step c.args.calls.now c.loop-call.call-index c.loop-call-test.true c.loop-call.rest.now c.loop-call.image.items c.loop-call.invariant.valid).0

pub play_call-len-requires-clause-room : goal.play_call-len-requires-clause-room
play_call-len-requires-clause-room c = omega (arith, total_step c.args.calls.now c.loop-call.call-index c.loop-call-test.true, c.loop-call.invariant.len, c.loop-call.invariant.count, c.loop-call.invariant.capacity, c.requires.room)

pub split_at-requires : goal.split_at-requires
split_at-requires c = omega (arith, c.play_call-len.ensures.count, total_step c.args.calls.now c.loop-call.call-index c.loop-call-test.true, c.loop-call.invariant.total)

pub overflow_add-count : goal.overflow_add-count
overflow_add-count c = omega (arith, c.play_call-len.ensures.count, total_step c.args.calls.now c.loop-call.call-index c.loop-call-test.true, c.loop-call.invariant.count, c.requires.total)

pub loop-call-preserved : goal.loop-call-preserved
loop-call-preserved c =
    let so_far = c.loop-call.invariant in
    let calls = c.args.calls.now in
    let i = c.loop-call.call-index in
    let lt = c.loop-call-test.true in
    let step = total_step calls i lt in
    let rest_is = ap (λ (n : ℕ). drop n c.loop-call.rest.now) (sym c.play_call-len.ensures.count) ∙ sym c.split_at.ensures.back in
    let image_is = sym c.play_call-len.ensures.items in
    record {
      items = (λ j. content_after (drop (i + 1) calls) (sym rest_is j) (sym image_is j)) ∙ sym (content_step calls i lt c.loop-call.rest.now c.loop-call.image.items) ∙ so_far.items;
      valid = (λ j. is_valid (drop (i + 1) calls) (sym rest_is j) (sym image_is j)) ∙ (valid_step calls i lt c.loop-call.rest.now c.loop-call.image.items so_far.valid).1;
      total = omega (arith, step, so_far.total, ap length c.split_at.ensures.back, length-drop c.play_call-len.result c.loop-call.rest.now, c.play_call-len.ensures.count);
      count = omega (arith, step, so_far.count, c.play_call-len.ensures.count);
      len = omega (arith, so_far.len, c.play_call-len.ensures.len, c.play_call-len.ensures.count);
      capacity = omega (arith, so_far.capacity, c.play_call-len.ensures.capacity);
    }
