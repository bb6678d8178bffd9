use Rattle.std.proofs.Common.{refl}
use Rattle.rq_outside.specs.Pair.{disk_at}
use Rattle.rq_wal.proofs.AtRest.{stays_at_rest}
use Rattle.rq_wal.proofs.ImagesNow.{no_more}
use Rattle.rq_wal.proofs.LogMore.{current_kept}
use Rattle.rq_wal.proofs.Since.{room_only}
use Rattle.rq_wal.proofs.file.WalFile.make_room.Goals as goal

pub returns-clause-at_rest : goal.returns-clause-at_rest
returns-clause-at_rest g c told rest =
    stays_at_rest (g.D.Disk.means (disk_at c.args.disks.now c.args.self.now.file)) (g.D.Disk.means (disk_at c.ready.new.self c.args.self.now.file)) c.args.self.now.end (c.ready.ensures.same told) rest

pub returns-clause-current : goal.returns-clause-current
returns-clause-current g c told first stored current =
    current_kept g.D.Disk.means first c.args.disks.now c.ready.new.self c.args.self.now _ stored refl c.ready.ensures.other (c.ready.ensures.same told) current

pub returns-clause-now : goal.returns-clause-now
returns-clause-now g c told first = no_more g.D.Disk.means first c.args.disks.now c.ready.new.self c.args.self.now.file c.ready.ensures.other (c.ready.ensures.same told).no_more

pub returns-clause-waits : goal.returns-clause-waits
returns-clause-waits g c told = room_only g.D.Disk.means c.args.disks.now c.ready.new.self c.args.self.now c.ready.ensures.other (c.ready.ensures.same told) (c.ready.ensures.time told)
