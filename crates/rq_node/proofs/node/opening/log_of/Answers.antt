use Rattle.std.proofs.Common.{◌≡◌, ◌∷◌, ◌++◌, ◌+◌, [], List, take, map, sym, subst}
use Rattle.rq_node.specs.declared.log_entry.LogEntry.{LogEntry}
use Rattle.rq_node.specs.Files.{stored_entry}
use Rattle.rq_node.specs.Sound.{AreReadable}
use Rattle.rq_node.proofs.Readable.{IsPrefixOf, readable_more, spelled_more, prefix_more, place_in, stored_at}
use Rattle.rq_node.proofs.Refusals.{no_log}
use Rattle.rq_node.proofs.node.opening.log_of.Goals as goal

pub returns-in-Err-clause-refused : goal.returns-in-Err-clause-refused
returns-in-Err-clause-refused c = λ log all is.
    let n = place_in c.args.entries.now log c.loop-place.place is c.loop-place-test.true in
    c.in-Err.ensures.refused n.entry (n.readable all) (stored_at c.args.entries.now log c.loop-place.place is c.loop-place-test.true c.index-entries-place.result c.index-entries-place.is)

pub loop-place-preserved : goal.loop-place-preserved
loop-place-preserved c =
    let grown : c.push.new.self.items ≡ c.loop-place.log.items ++ c.in-Ok.entry ∷ [] = c.in_ok-push-in-Ok.ensures.items in
    record {
      readable = subst AreReadable (sym grown) (readable_more c.loop-place.log.items c.in-Ok.entry c.loop-place.invariant.readable c.in-Ok.ensures.readable);
      spelled = subst (λ (l : List LogEntry). take (c.loop-place.place + 1) c.args.entries.now ≡ map stored_entry l) (sym grown)
          (spelled_more c.args.entries.now c.loop-place.place c.index-entries-place.result c.loop-place.log.items c.in-Ok.entry c.loop-place-test.true c.index-entries-place.is c.in-Ok.ensures.spelled c.loop-place.invariant.spelled);
      prefix = subst (IsPrefixOf c.args.entries.now (c.loop-place.place + 1)) (sym grown)
          (prefix_more c.args.entries.now c.loop-place.place c.loop-place.log.items c.index-entries-place.result c.in-Ok.entry c.loop-place-test.true c.index-entries-place.is c.in-Ok.ensures.ok c.loop-place.invariant.prefix);
    }

pub returns-in-Err-clause-wrong : goal.returns-in-Err-clause-wrong
returns-in-Err-clause-wrong c =
    no_log c.args.entries.now c.loop-place.place c.index-entries-place.result c.loop-place.log.items c.in-Err.error c.loop-place-test.true c.index-entries-place.is
    c.loop-place.invariant.spelled c.loop-place.invariant.readable c.in-Err.ensures.wrong
