use Rattle.std.proofs.Common.{arith}
use Rattle.rq_rows.specs.Slots.{slots_of, live}
use Rattle.rq_rows.proofs.Left.{covers_set}
use Rattle.rq_rows.proofs.Covered.{at_get}
use Rattle.rq_rows.proofs.sweeping.release_all.Goals as goal

pub release_one-requires : goal.release_one-requires
release_one-requires c =
    c.loop-i.invariant.covers c.loop-i.i c.index-columns-i.result c.index_mut.result.now
    (at_get c.args.columns.now c.loop-i.i c.index-columns-i.result c.loop-i-test.true c.index-columns-i.is)
    (at_get c.loop-i.holders.items c.loop-i.i c.index_mut.result.now (omega (arith, c.loop-i-test.true, c.loop-i.invariant.len, c.requires.len, c.loop-i.holders.ok)) c.index_mut.ensures.value)

pub loop-i-preserved : goal.loop-i-preserved
loop-i-preserved c = record {
  len = c.loop-i.invariant.len;
  covers = covers_set c.args.columns.now c.loop-i.holders.items (live (slots_of c.args.slots.now.entries)) c.loop-i.i c.index-columns-i.result c.index_mut.result.now c.release_one.new.holders c.loop-i.invariant.covers
      (at_get c.args.columns.now c.loop-i.i c.index-columns-i.result c.loop-i-test.true c.index-columns-i.is)
      (at_get c.loop-i.holders.items c.loop-i.i c.index_mut.result.now (omega (arith, c.loop-i-test.true, c.loop-i.invariant.len, c.requires.len, c.loop-i.holders.ok)) c.index_mut.ensures.value)
      c.release_one.ensures;
}
