use Rattle.std.proofs.Common.{arith}
use Rattle.rq_tables.specs.Entries.{taken_back}
use Rattle.rq_tables.proofs.Below.{below_step, below_end}
use Rattle.rq_tables.proofs.all_entries.take_each_back.Goals as goal

pub loop-i-preserved : goal.loop-i-preserved
loop-i-preserved c = record {
  len = c.loop-i.invariant.len;
  so_far = below_step taken_back c.loop-i.i c.args.entries.now.items c.loop-i.entries.items c.index_mut.result.now c.take_back.new.self c.loop-i.invariant.so_far
      (omega (arith, c.loop-i-test.true, c.len-i-end.ensures, c.loop-i.invariant.len, c.loop-i.entries.ok, c.args.entries.now.ok)) c.index_mut.ensures.value c.take_back.ensures;
}

pub returns : goal.returns
returns c = below_end taken_back c.loop-i.i c.args.entries.now.items c.loop-i.entries.items c.loop-i.invariant.so_far (omega (arith, c.loop-i-test.false, c.loop-i.auto.i-end, c.len-i-end.ensures, c.args.entries.now.ok))
