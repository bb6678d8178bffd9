use Rattle.std.proofs.Common.{◌≡◌, ◌+◌, take, arith}
use Rattle.rq_tables.specs.Entries.{listed, at_now, sized}
use Rattle.rq_tables.proofs.Below.{sized_more, sized_part}
use Rattle.rq_tables.proofs.all_entries.size_of.Goals as goal

pub overflow_add-size : goal.overflow_add-size
overflow_add-size c =
    let so_far : c.loop-entry.size ≡ 4 + sized (listed at_now (take c.loop-entry.entry-index c.args.entries.now)) = c.loop-entry.invariant in
    let more = sized_more c.args.entries.now c.loop-entry.entry-index c.entry-item.result c.loop-entry-test.true c.entry-item.is in
    let part = sized_part c.args.entries.now (c.loop-entry.entry-index + 1) in
    omega (arith, so_far, more, part, c.size_now-size.ensures, c.requires)

pub loop-entry-preserved : goal.loop-entry-preserved
loop-entry-preserved c =
    let so_far : c.loop-entry.size ≡ 4 + sized (listed at_now (take c.loop-entry.entry-index c.args.entries.now)) = c.loop-entry.invariant in
    let more = sized_more c.args.entries.now c.loop-entry.entry-index c.entry-item.result c.loop-entry-test.true c.entry-item.is in
    omega (arith, so_far, more, c.size_now-size.ensures)
