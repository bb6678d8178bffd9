use Rattle.std.proofs.Common.{◌≡◌, ◌∷◌, ◌∙◌, true, false, Some, Option, refl, sym, subst}
use Rattle.rq_wal.specs.Rules.{AreAllowed}
use Rattle.rq_wal.specs.declared.file.WalFile.{WalFile}
use Rattle.rq_node.specs.Files.{first_base, frame_of, stored_of}
use Rattle.rq_node.specs.Recovery.{HasFile}
use Rattle.rq_node.proofs.FileSteps.{stored_spent, file_at_rest, file_more, some_stand, some_since, none_since}
use Rattle.rq_node.proofs.node.store.Goals as goal

pub write-requires-clause-at_rest : goal.write-requires-clause-at_rest
write-requires-clause-at_rest g c κs within = λ tells.
    c.ready.ensures.at_rest tells
    (file_at_rest g.D.Disk.told g.D.Disk.means c.args.disks.now c.requires.open.0 c.requires.open.1 c.args.file.now c.in-Some.wal (sym c.take.ensures.value ∙ c.in-Some.is) c.requires.open.2 tells)

pub returns-in-Ok-write-clause-ok : goal.returns-in-Ok-write-clause-ok
returns-in-Ok-write-clause-ok g c = λ id kept items is allowed has.
    let told = g.D.Disk.told in
    let means = g.D.Disk.means in
    let some : c.args.file.now ≡ Some c.in-Some.wal = sym c.take.ensures.value ∙ c.in-Some.is in
    file_more told means c.args.disks.now c.write.new.disks c.in-Some.wal c.in-Ok-write.wal id kept items c.args.frames.now is allowed
    (subst (λ (f : Option WalFile). HasFile told means c.args.disks.now id kept f) some has)
    (λ tells each current. c.in-Ok-write.ensures.current tells (first_base id) (stored_of id kept) c.args.frames.now c.in-Ok.ensures.batch each (c.ready.ensures.current tells (first_base id) (stored_of id kept) current))

pub returns-in-Err-write-clause-failed : goal.returns-in-Err-write-clause-failed
returns-in-Err-write-clause-failed g c = λ refused id kept first more is allowed has.
    let told = g.D.Disk.told in
    let means = g.D.Disk.means in
    let some : c.args.file.now ≡ Some c.in-Some.wal = sym c.take.ensures.value ∙ c.in-Some.is in
    let current = subst (λ (f : Option WalFile). HasFile told means c.args.disks.now id kept f) some has in
    record {
      first = first;
      more = more;
      some = refl;
      stands = some_stand told means c.write.new.disks id kept (first ∷ more) c.args.frames.now is
          (λ tells. c.in-Err-write.ensures.some_now tells (first_base id) (stored_of id kept) c.args.frames.now c.in-Ok.ensures.batch (subst (AreAllowed (stored_of id kept)) (sym is) allowed)
          (c.ready.ensures.current tells (first_base id) (stored_of id kept) (current tells)));
    }

pub returns-in-Ok-write-clause-moments : goal.returns-in-Ok-write-clause-moments
returns-in-Ok-write-clause-moments g c = λ id kept items is allowed has.
    let told = g.D.Disk.told in
    let means = g.D.Disk.means in
    let some : c.args.file.now ≡ Some c.in-Some.wal = sym c.take.ensures.value ∙ c.in-Some.is in
    some_since told means c.args.disks.now c.ready.new.disks c.write.new.disks c.in-Some.wal c.ready.new.self id kept items c.args.frames.now c.ready.ensures.file is allowed
    (subst (λ (f : Option WalFile). HasFile told means c.args.disks.now id kept f) some has) c.ready.ensures.waits
    (λ tells stored each current room. c.in-Ok-write.ensures.moments tells c.args.disks.now (first_base id) stored c.args.frames.now c.in-Ok.ensures.batch each current room)

pub returns-in-Err-write-clause-moments : goal.returns-in-Err-write-clause-moments
returns-in-Err-write-clause-moments g c = λ id kept items is allowed has.
    let told = g.D.Disk.told in
    let means = g.D.Disk.means in
    let some : c.args.file.now ≡ Some c.in-Some.wal = sym c.take.ensures.value ∙ c.in-Some.is in
    some_since told means c.args.disks.now c.ready.new.disks c.write.new.disks c.in-Some.wal c.ready.new.self id kept items c.args.frames.now c.ready.ensures.file is allowed
    (subst (λ (f : Option WalFile). HasFile told means c.args.disks.now id kept f) some has) c.ready.ensures.waits
    (λ tells stored each current room. c.in-Err-write.ensures.moments tells c.args.disks.now (first_base id) stored c.args.frames.now c.in-Ok.ensures.batch each current room)

pub returns-in-Err-clause-moments : goal.returns-in-Err-clause-moments
returns-in-Err-clause-moments g c = λ id kept items is allowed has.
    let told = g.D.Disk.told in
    let means = g.D.Disk.means in
    let some : c.args.file.now ≡ Some c.in-Some.wal = sym c.take.ensures.value ∙ c.in-Some.is in
    none_since told means c.logs_stand_while_room_is_made.ensures c.args.disks.now c.ready.new.disks c.in-Some.wal id kept items
    (subst (λ (f : Option WalFile). HasFile told means c.args.disks.now id kept f) some has) c.ready.ensures.waits

pub returns-in-Ok-write-clause-spent : goal.returns-in-Ok-write-clause-spent
returns-in-Ok-write-clause-spent g c =
    stored_spent g.D.Disk.means false c.args.disks.now c.ready.new.disks c.write.new.disks c.args.frames.now c.in-Ok.batch c.in-Ok.ensures.batch c.ready.ensures.spent c.in-Ok-write.ensures.spent

pub returns-in-Err-write-clause-spent : goal.returns-in-Err-write-clause-spent
returns-in-Err-write-clause-spent g c = (
  λ _. stored_spent g.D.Disk.means true c.args.disks.now c.ready.new.disks c.write.new.disks c.args.frames.now c.in-Ok.batch c.in-Ok.ensures.batch c.ready.ensures.spent c.in-Err-write.ensures.spent,
  λ none. absurd (cc),
)
