use Rattle.std.proofs.Common.{◌≡◌, ◌∷◌, ◌++◌, ◌+◌, ◌∙◌, [], List, take, map, sym, subst, arith}
use Rattle.rq_world.specs.declared.log_entry.LogEntry.{LogEntry}
use Rattle.rq_member.specs.Files.{stored_entry, AreReadable}
use Rattle.rq_member.proofs.Readable.{IsPrefixOf, readable_more, spelled_more, prefix_more, prefix_refused, unreadable}
use Rattle.rq_member.proofs.reading.entries_of.Goals as goal

pub loop-place-preserved : goal.loop-place-preserved
loop-place-preserved c =
    let grown : c.push.new.self.items ≡ c.loop-place.log.items ++ c.in-Ok.entry ∷ [] = c.in-Ok-push.ensures.items in
    record {
      readable = subst AreReadable (sym grown) (readable_more c.loop-place.log.items c.in-Ok.entry c.loop-place.invariant.readable c.in-Ok.ensures.readable);
      spelled = subst (λ (l : List LogEntry). take (c.loop-place.place + 1) c.args.entries.now ≡ map stored_entry l) (sym grown)
          (spelled_more c.args.entries.now c.loop-place.place c.index-entries-place.result c.loop-place.log.items c.in-Ok.entry c.loop-place-test.true c.index-entries-place.is c.in-Ok.ensures.spelled c.loop-place.invariant.spelled);
      prefix = subst (IsPrefixOf c.args.entries.now (c.loop-place.place + 1)) (sym grown)
          (prefix_more c.args.entries.now c.loop-place.place c.loop-place.log.items c.index-entries-place.result c.entry_of.result c.in-Ok.entry c.in-Ok.is c.loop-place-test.true c.index-entries-place.is c.entry_of.ensures.ok c.loop-place.invariant.prefix);
    }

pub returns-in-Err-clause-refused : goal.returns-in-Err-clause-refused
returns-in-Err-clause-refused c = λ log all is.
    prefix_refused c.args.entries.now c.loop-place.place c.index-entries-place.result c.entry_of.result c.in-Err.error c.in-Err.is c.loop-place-test.true c.index-entries-place.is c.entry_of.ensures.ok log all is

pub returns-in-Err-clause-wrong : goal.returns-in-Err-clause-wrong
returns-in-Err-clause-wrong c =
    unreadable c.args.behind c.args.entries.now c.loop-place.place c.index-entries-place.result c.loop-place.log.items c.in-Err.error c.loop-place-test.true c.index-entries-place.is
    c.loop-place.invariant.spelled c.loop-place.invariant.readable c.in-Err.ensures.wrong
