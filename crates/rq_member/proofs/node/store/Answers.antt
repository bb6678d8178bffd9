use Rattle.std.proofs.Common.{◌≡◌, ◌∙◌, [], List, length, false, true, None, Some, Option, refl, sym, subst, arith}
use Rattle.rq_raft.specs.Node.{StoredRecord}
use Rattle.rq_world.specs.declared.log_entry.LogEntry.{LogEntry}
use Rattle.rq_member.specs.Storing.{HasStored}
use Rattle.rq_wal.proofs.Spending.{spends_none}
use Rattle.rq_member.proofs.Turning.{rests}
use Rattle.rq_wal.specs.declared.file.WalFile.{WalFile}
use Rattle.rq_member.specs.Files.{first_base, stored_of, HasFile}
use Rattle.rq_member.proofs.Storing.{stored_spent, some_since, none_since, file_at_rest, file_after, some_stand, no_records, some_records, none_is, some_is}
use Rattle.rq_member.proofs.node.store.Goals as goal

pub write-requires-clause-at_rest : goal.write-requires-clause-at_rest
write-requires-clause-at_rest g c κs within = λ tells.
    c.ready.ensures.at_rest tells
    (file_at_rest c.requires.open.0 g.D.Disk.told g.D.Disk.means c.args.disks.now c.requires.open.1 c.args.file.now c.in-Some.wal (sym c.take.ensures.value ∙ c.in-Some.is) c.requires.open.2 tells)

pub returns-in-Ok-write-clause-stored : goal.returns-in-Ok-write-clause-stored
returns-in-Ok-write-clause-stored g c = λ first kept records is allowed has.
    let told = g.D.Disk.told in
    let means = g.D.Disk.means in
    let some : c.args.file.now ≡ Some c.in-Some.wal = sym c.take.ensures.value ∙ c.in-Some.is in
    let had = subst (λ (f : Option WalFile). HasFile first told means c.args.disks.now kept f) some has in
    record {
      files = λ tells. file_after first told means c.write.new.disks c.in-Ok-write.wal kept records c.args.frames.now is
          (c.in-Ok-write.ensures.current tells (first_base first) (stored_of first kept) c.args.frames.now c.in-Ok.ensures.batch allowed (c.ready.ensures.current tells (first_base first) (stored_of first kept) (had tells)));
      moments = some_since first told means c.args.disks.now c.ready.new.disks c.write.new.disks c.in-Some.wal c.ready.new.self kept records c.args.frames.now c.ready.ensures.file is had c.ready.ensures.waits
          (λ tells current room. c.in-Ok-write.ensures.moments tells c.args.disks.now (first_base first) (stored_of first kept) c.args.frames.now c.in-Ok.ensures.batch allowed current room);
      spent = stored_spent means false c.args.disks.now c.ready.new.disks c.write.new.disks records c.args.frames.now c.in-Ok.batch is c.in-Ok.ensures.batch c.ready.ensures.spent c.in-Ok-write.ensures.spent;
    }

pub returns-in-Err-write-clause-stored : goal.returns-in-Err-write-clause-stored
returns-in-Err-write-clause-stored g c = λ first kept records is allowed has.
    let told = g.D.Disk.told in
    let means = g.D.Disk.means in
    let some : c.args.file.now ≡ Some c.in-Some.wal = sym c.take.ensures.value ∙ c.in-Some.is in
    let had = subst (λ (f : Option WalFile). HasFile first told means c.args.disks.now kept f) some has in
    record {
      files = (
        c.take.ensures.after,
        some_stand first told means c.write.new.disks kept records c.args.frames.now is
            (λ tells. c.in-Err-write.ensures.some_now tells (first_base first) (stored_of first kept) c.args.frames.now c.in-Ok.ensures.batch allowed
            (c.ready.ensures.current tells (first_base first) (stored_of first kept) (had tells))),
      );
      moments = some_since first told means c.args.disks.now c.ready.new.disks c.write.new.disks c.in-Some.wal c.ready.new.self kept records c.args.frames.now c.ready.ensures.file is had c.ready.ensures.waits
          (λ tells current room. c.in-Err-write.ensures.moments tells c.args.disks.now (first_base first) (stored_of first kept) c.args.frames.now c.in-Ok.ensures.batch allowed current room);
      spent = (
        some_records records c.args.frames.now is (some_is (length c.args.frames.now) c.is_empty.result c.is_empty.ensures c.if-is_empty.false),
        stored_spent means true c.args.disks.now c.ready.new.disks c.write.new.disks records c.args.frames.now c.in-Ok.batch is c.in-Ok.ensures.batch c.ready.ensures.spent c.in-Err-write.ensures.spent,
      );
    }

pub returns-in-Err-clause-stored : goal.returns-in-Err-clause-stored
returns-in-Err-clause-stored g c = λ first kept records is allowed has.
    let told = g.D.Disk.told in
    let means = g.D.Disk.means in
    let some : c.args.file.now ≡ Some c.in-Some.wal = sym c.take.ensures.value ∙ c.in-Some.is in
    let had = subst (λ (f : Option WalFile). HasFile first told means c.args.disks.now kept f) some has in
    record {
      files = λ tells. c.ready.ensures.current tells (first_base first) (stored_of first kept) (had tells);
      moments = none_since first told means c.logs_stand_while_room_is_made.ensures c.args.disks.now c.ready.new.disks c.in-Some.wal kept [] had c.ready.ensures.waits;
      spent = c.ready.ensures.spent;
    }

pub returns-then-is_empty-clause-stored : goal.returns-then-is_empty-clause-stored
returns-then-is_empty-clause-stored g c = λ first kept records is allowed has.
    let told = g.D.Disk.told in
    let means = g.D.Disk.means in
    let none : records ≡ [] = no_records records c.args.frames.now is (none_is (length c.args.frames.now) c.is_empty.result c.is_empty.ensures c.if-is_empty.true) in
    subst (λ (l : List (StoredRecord LogEntry)). HasStored first told means kept l c.args.disks.now c.args.disks.now c.args.file.now None) (sym none)
    (record { files = has; moments = rests first told means c.logs_stand_while_room_is_made.ensures c.args.disks.now kept [] c.args.file.now has; spent = spends_none means c.args.disks.now })
