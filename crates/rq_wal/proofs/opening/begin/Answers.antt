use Rattle.std.proofs.Common.{inl, ◌∙◌, ap}
use Rattle.rq_outside.specs.declared.pair.FileNo.TheVariants.{One}
use Rattle.rq_outside.specs.Pair.{disk_at}
use Rattle.rq_wal.specs.Current.{IsBegun}
use Rattle.rq_wal.specs.Replace.{generation_of}
use Rattle.rq_wal.proofs.Moments.{started}
use Rattle.rq_wal.proofs.opening.begin.Goals as goal

pub returns-in-Err-clause-moments : goal.returns-in-Err-clause-moments
returns-in-Err-clause-moments g c told =
    let old = g.D.Disk.means (disk_at c.args.disks.now One) in
    started old (IsBegun c.args.first.now) (λ c_ left. inl (ap generation_of (c.requires.durable told c_ (g.met.D.Disk.only_now told (disk_at c.args.disks.now One) c_ left)) ∙ c.requires.closed told))
