use Rattle.std.proofs.Common.{◌∙◌, Bool, sym, subst}
use Rattle.rq_outside.specs.declared.pair.FileNo.TheVariants.{One, Two}
use Rattle.rq_outside.specs.Pair.{disk_at}
use Rattle.rq_wal.specs.Spends.{SpendsMost}
use Rattle.rq_wal.proofs.Found.{found_in, refused_in}
use Rattle.rq_wal.proofs.Spending.{never_failed}
use Rattle.rq_wal.proofs.opening.find.Goals as goal

pub returns-clause-found : goal.returns-clause-found
returns-clause-found g c told =
    found_in c.args.first.now c.choose.result _ _ (g.D.Disk.means (disk_at c.args.disks.now One)).content (g.D.Disk.means (disk_at c.args.disks.now Two)).content
    (c.deref.ensures.value ∙ c.in_ok-one.ensures.one_bytes told) (c.deref-2.ensures.value ∙ c.in_ok-one.ensures.two_bytes told) c.choose.ensures.found

pub returns-clause-refused : goal.returns-clause-refused
returns-clause-refused g c told =
    refused_in c.args.first.now c.choose.result _ _ (g.D.Disk.means (disk_at c.args.disks.now One)).content (g.D.Disk.means (disk_at c.args.disks.now Two)).content
    (c.deref.ensures.value ∙ c.in_ok-one.ensures.one_bytes told) (c.deref-2.ensures.value ∙ c.in_ok-one.ensures.two_bytes told) c.choose.ensures.refused

pub returns-clause-spent : goal.returns-clause-spent
returns-clause-spent g c = subst (λ (failed : Bool). SpendsMost g.D.Disk.means 2 failed c.args.disks.now c.look.new.disks) (sym (never_failed c.choose.result c.choose.ensures.no_disk)) c.in_ok-one.ensures.spent
