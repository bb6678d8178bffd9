use Rattle.std.proofs.Common.{◌≡◌, take, map}
use Rattle.rq_member.specs.Files.{stored_entry, AreReadable}
use Rattle.rq_member.proofs.Readable.{IsPrefixOf}
use Rattle.rq_member.proofs.reading.entries_of.Given as goal

abbrev pub invariant-loop-place : goal.invariant-loop-place
invariant-loop-place l = record {
  readable : AreReadable l.log.items;
  spelled : take l.place l.entries ≡ map stored_entry l.log.items;
  prefix : IsPrefixOf l.entries l.place l.log.items;
}
