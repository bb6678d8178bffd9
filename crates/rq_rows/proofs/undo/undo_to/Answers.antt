use Rattle.std.proofs.Common.{ap, sym, subst, ◌∙◌, arith, drop}
use Rattle.std.specs.Prelude.{IsSome}
use Rattle.rq_rows.specs.Slots.{slots_of, put_slot, undone}
use Rattle.rq_rows.specs.Staged.{Valids, Ready}
use Rattle.rq_rows.proofs.Live.{undone_more, get_slots}
use Rattle.rq_rows.proofs.Back.{valids_last, valids_less, ready_pop, ready_more, undone_drop}
use Rattle.rq_rows.proofs.undo.undo_to.Goals as goal

pub undo_one-requires-clause-slot : goal.undo_one-requires-clause-slot
undo_one-requires-clause-slot c =
    subst IsSome (get_slots c.loop-log.slots.entries c.in-Some.change.key) (ready_pop c.args.columns.now c.loop-log.holders.items c.pop.new.self.items c.in-Some.change (slots_of c.loop-log.slots.entries) (subst (λ ls. Ready c.args.columns.now c.loop-log.holders.items ls (slots_of c.loop-log.slots.entries)) c.in-Some.ensures.items c.loop-log.invariant.sound.ready)).0

pub undo_one-requires-clause-ready : goal.undo_one-requires-clause-ready
undo_one-requires-clause-ready c =
    (ready_pop c.args.columns.now c.loop-log.holders.items c.pop.new.self.items c.in-Some.change (slots_of c.loop-log.slots.entries) (subst (λ ls. Ready c.args.columns.now c.loop-log.holders.items ls (slots_of c.loop-log.slots.entries)) c.in-Some.ensures.items c.loop-log.invariant.sound.ready)).1

pub undo_one-requires-clause-valid : goal.undo_one-requires-clause-valid
undo_one-requires-clause-valid c =
    valids_last c.args.columns.now c.pop.new.self.items (put_slot (slots_of c.loop-log.slots.entries) c.in-Some.change.key c.in-Some.change.old)
    (valids_less c.args.columns.now c.pop.new.self.items c.in-Some.change (slots_of c.loop-log.slots.entries) (subst (λ ls. Valids c.args.columns.now ls (slots_of c.loop-log.slots.entries)) c.in-Some.ensures.items c.loop-log.invariant.sound.valids))

pub loop-log-preserved : goal.loop-log-preserved
loop-log-preserved c =
    let cs = c.args.columns.now in
    let s = slots_of c.loop-log.slots.entries in
    let ls = c.pop.new.self.items in
    let l = c.in-Some.change in
    let items = c.in-Some.ensures.items in
    let shows = c.undo_one.ensures.shows in
    record {
      mark = omega (arith, c.in-Some.ensures.len, c.loop-log-test.true, c.len.ensures);
      len = c.undo_one.ensures.len ∙ c.loop-log.invariant.len;
      sound = record {
        matched = omega (arith, c.undo_one.new.holders.ok, c.loop-log.holders.ok, c.undo_one.ensures.len, c.loop-log.invariant.sound.matched);
        covers = c.undo_one.ensures.covers;
        valids = subst (Valids cs ls) (sym shows) (valids_less cs ls l s (subst (λ xs. Valids cs xs s) items c.loop-log.invariant.sound.valids));
        ready = ready_more cs c.loop-log.holders.items c.undo_one.new.holders.items ls (slots_of c.undo_one.new.slots.entries) c.undo_one.ensures.more
            (subst (Ready cs c.loop-log.holders.items ls) (sym shows) (ready_pop cs c.loop-log.holders.items ls l s (subst (λ xs. Ready cs c.loop-log.holders.items xs s) items c.loop-log.invariant.sound.ready)).2);
      };
      start = ap (undone ls) shows ∙ sym (undone_more ls l s) ∙ sym (ap (λ xs. undone xs s) items) ∙ c.loop-log.invariant.start;
      now = ap (undone (drop c.args.mark ls)) shows ∙ sym (undone_drop c.args.mark ls l s (omega (arith, c.in-Some.ensures.len, c.loop-log-test.true, c.len.ensures, c.pop.new.self.ok))) ∙ sym (ap (λ xs. undone (drop c.args.mark xs) s) items) ∙ c.loop-log.invariant.now;
    }
