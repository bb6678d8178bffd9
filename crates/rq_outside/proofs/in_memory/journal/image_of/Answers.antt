use Rattle.std.proofs.Common.{ℕ, List, length, take, drop, sym, ◌∙◌, ap, subst, arith, length-drop}
use Rattle.rq_outside.specs.declared.in_memory.journal.Call.{Call}
use Rattle.rq_outside.specs.Replay.{total_of, is_valid, content_after, torn_after, picked, left_after}
use Rattle.rq_outside.proofs.Replays.{total-take, prefix_valid, back_valid, prefix_total, all_left}
use Rattle.rq_outside.proofs.Picks.{none_made, unmade}
use Rattle.rq_outside.proofs.in_memory.journal.image_of.Goals as goal

pub returns-then-pick-eq0-clause-items : goal.returns-then-pick-eq0-clause-items
returns-then-pick-eq0-clause-items c =
    let calls = c.args.calls.now in
    let w = c.args.written.now in
    let first = c.args.first.now in
    let k = c.synced.result in
    let start_is = c.play-from.ensures.items ∙ (λ j. content_after (c.split_at.ensures.front j) w (c.replace.ensures.items j)) in
    start_is
    ∙ sym (none_made (drop k calls) (drop (total_of (take k calls)) w) (content_after (take k calls) w first))
    ∙ ap (λ (n : ℕ). torn_after 0 (drop n calls) (drop (total_of (take n calls)) w) (content_after (take n calls) w first)) c.synced.ensures.count
    ∙ ap (λ (p : ℕ). picked p calls w first) (sym c.if-pick-eq0.true)

pub returns-then-pick-eq0-clause-image : goal.returns-then-pick-eq0-clause-image
returns-then-pick-eq0-clause-image c =
    let calls = c.args.calls.now in
    let w = c.args.written.now in
    let first = c.args.first.now in
    let k = c.synced.result in
    let start_is = c.play-from.ensures.items ∙ (λ j. content_after (c.split_at.ensures.front j) w (c.replace.ensures.items j)) in
    all_left calls w first k (omega (arith, c.requires.total)) c.requires.valid c.play-from.new.image.items c.play-from.new.image.items start_is c.synced.ensures.after
    (unmade (drop k calls) (drop (total_of (take k calls)) w) c.play-from.new.image.items c.synced.ensures.after)

pub returns-then-pick-eq0-clause-len : goal.returns-then-pick-eq0-clause-len
returns-then-pick-eq0-clause-len c =
    omega (arith, c.play-from.ensures.len, c.replace.ensures.len, ap total_of c.split_at.ensures.front, total-take c.synced.result c.args.calls.now, c.requires.total)

pub play-from-requires-clause-total : goal.play-from-requires-clause-total
play-from-requires-clause-total c = omega (arith, ap total_of c.split_at.ensures.front, total-take c.synced.result c.args.calls.now, c.requires.total)

pub play-from-requires-clause-valid : goal.play-from-requires-clause-valid
play-from-requires-clause-valid c =
    (λ j. is_valid (c.split_at.ensures.front j) c.args.written.now (c.replace.ensures.items j))
    ∙ prefix_valid c.args.calls.now c.args.written.now c.args.first.now c.synced.result (omega (arith, c.requires.total)) c.requires.valid

pub play-from-requires-clause-room : goal.play-from-requires-clause-room
play-from-requires-clause-room c =
    omega (arith, c.replace.ensures.len, c.replace.ensures.capacity, c.requires.room, ap total_of c.split_at.ensures.front, total-take c.synced.result c.args.calls.now, c.requires.total)

pub split_at-requires-2 : goal.split_at-requires-2
split_at-requires-2 c = omega (arith, c.play-from.ensures.count, ap total_of c.split_at.ensures.front, total-take c.synced.result c.args.calls.now, c.requires.total)

pub tear-requires-clause-total : goal.tear-requires-clause-total
tear-requires-clause-total c =
    let halves = prefix_total c.args.calls.now c.args.written.now c.args.first.now c.synced.result (omega (arith, c.requires.total)) c.requires.valid in
    omega (arith, halves, ap total_of c.split_at.ensures.front, ap total_of c.split_at.ensures.back, ap length c.split_at-2.ensures.back, length-drop c.play-from.result c.args.written.now, c.play-from.ensures.count, c.requires.total)

pub tear-requires-clause-valid : goal.tear-requires-clause-valid
tear-requires-clause-valid c =
    let calls = c.args.calls.now in
    let w = c.args.written.now in
    let k = c.synced.result in
    let start_is = c.play-from.ensures.items ∙ (λ j. content_after (c.split_at.ensures.front j) w (c.replace.ensures.items j)) in
    let later_is = c.split_at-2.ensures.back ∙ ap (λ (n : ℕ). drop n w) (c.play-from.ensures.count ∙ ap total_of c.split_at.ensures.front) in
    (λ j. is_valid (c.split_at.ensures.back j) (later_is j) (start_is j)) ∙ back_valid calls w c.args.first.now k (omega (arith, c.requires.total)) c.requires.valid

pub tear-requires-clause-room : goal.tear-requires-clause-room
tear-requires-clause-room c =
    let halves = prefix_total c.args.calls.now c.args.written.now c.args.first.now c.synced.result (omega (arith, c.requires.total)) c.requires.valid in
    omega (arith, halves, ap total_of c.split_at.ensures.front, ap total_of c.split_at.ensures.back, c.play-from.ensures.len, c.play-from.ensures.capacity, c.replace.ensures.len, c.replace.ensures.capacity, c.requires.room, c.requires.total)

pub returns-clause-len : goal.returns-clause-len
returns-clause-len c =
    let halves = prefix_total c.args.calls.now c.args.written.now c.args.first.now c.synced.result (omega (arith, c.requires.total)) c.requires.valid in
    omega (arith, halves, ap total_of c.split_at.ensures.front, ap total_of c.split_at.ensures.back, c.play-from.ensures.len, c.tear.ensures.len, c.replace.ensures.len, c.requires.total)

pub returns-clause-image : goal.returns-clause-image
returns-clause-image c =
    let calls = c.args.calls.now in
    let w = c.args.written.now in
    let first = c.args.first.now in
    let k = c.synced.result in
    let start_is = c.play-from.ensures.items ∙ (λ j. content_after (c.split_at.ensures.front j) w (c.replace.ensures.items j)) in
    let later_is = c.split_at-2.ensures.back ∙ ap (λ (n : ℕ). drop n w) (c.play-from.ensures.count ∙ ap total_of c.split_at.ensures.front) in
    let at_calls = subst (λ (cs : List Call). left_after cs c.split_at-2.result.1.now c.play-from.new.image.items c.tear.new.image.items) c.split_at.ensures.back c.tear.ensures.torn in
    let at_written = subst (λ (l : List ℕ). left_after (drop k calls) l c.play-from.new.image.items c.tear.new.image.items) later_is at_calls in
    all_left calls w first k (omega (arith, c.requires.total)) c.requires.valid c.play-from.new.image.items c.tear.new.image.items start_is c.synced.ensures.after at_written

pub returns-clause-items : goal.returns-clause-items
returns-clause-items c =
    let calls = c.args.calls.now in
    let w = c.args.written.now in
    let first = c.args.first.now in
    let start_is = c.play-from.ensures.items ∙ (λ j. content_after (c.split_at.ensures.front j) w (c.replace.ensures.items j)) in
    let later_is = c.split_at-2.ensures.back ∙ ap (λ (n : ℕ). drop n w) (c.play-from.ensures.count ∙ ap total_of c.split_at.ensures.front) in
    c.tear.ensures.items
    ∙ (λ j. torn_after c.args.pick (c.split_at.ensures.back j) (later_is j) (start_is j))
    ∙ ap (λ (n : ℕ). torn_after c.args.pick (drop n calls) (drop (total_of (take n calls)) w) (content_after (take n calls) w first)) c.synced.ensures.count
