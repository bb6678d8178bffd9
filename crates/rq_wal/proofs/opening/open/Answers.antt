use Rattle.std.proofs.Common.{◌≡◌, ◌≤◌, ◌∙◌, sym, subst}
use Rattle.rq_outside.specs.declared.pair.FileNo.TheVariants.{One, Two}
use Rattle.rq_outside.specs.Pair.{disk_at}
use Rattle.rq_wal.specs.Current.{SomeImageGives}
use Rattle.rq_wal.proofs.ImagesNow.{each_given, since_now}
use Rattle.rq_wal.proofs.Settled.{gives_in, current_in, images_in, moments_in, later_in, opened_of, new_of, none_found, rest_in, unchanged_in, refused_so}
use Rattle.rq_wal.proofs.Recovery.{always_kept}
use Rattle.rq_wal.specs.Spends.{disk_failed}
use Rattle.rq_wal.proofs.Spending.{within_then}
use Rattle.rq_wal.proofs.opening.open.Goals as goal

pub returns-in_err-found-clause-any_moment : goal.returns-in_err-found-clause-any_moment
returns-in_err-found-clause-any_moment g c told =
    let means = g.D.Disk.means in
    let first = c.args.first.now in
    always_kept means first (SomeImageGives means first c.args.disks.now) c.args.disks.now (each_given means first c.args.disks.now) c.find.new.disks (c.find.ensures.one_moments told) (c.find.ensures.two_moments told)

pub returns-in_err-found-clause-now : goal.returns-in_err-found-clause-now
returns-in_err-found-clause-now g c told =
    let means = g.D.Disk.means in
    let first = c.args.first.now in
    since_now means first (g.met.D.Disk.counts_now told) (SomeImageGives means first c.args.disks.now) c.args.disks.now c.find.new.disks (c.find.ensures.one_moments told).later (c.find.ensures.two_moments told).later
    (returns-in_err-found-clause-any_moment g c told)

pub returns-clause-gives : goal.returns-clause-gives
returns-clause-gives g c told =
    gives_in c.args.first.now (g.D.Disk.means (disk_at c.args.disks.now One)).content (g.D.Disk.means (disk_at c.args.disks.now Two)).content c.in_ok-found.found c.settle.result (c.in_ok-found.ensures.found told) c.settle.ensures.same c.settle.ensures.stored

pub returns-clause-current : goal.returns-clause-current
returns-clause-current g c told =
    let means = g.D.Disk.means in
    current_in means c.args.first.now c.args.disks.now c.find.new.disks c.settle.new.disks c.in_ok-found.found c.settle.result (c.in_ok-found.ensures.found told) (c.in_ok-found.ensures.one told) (c.in_ok-found.ensures.two told)
    (c.in_ok-found.ensures.one_durable told) (c.in_ok-found.ensures.two_durable told) c.settle.ensures.found c.settle.ensures.same c.settle.ensures.two
    (λ none. new_of means c.args.first.now c.settle.new.disks c.settle.result (c.settle.ensures.file none) (c.settle.ensures.generation none) (c.settle.ensures.end none) (c.settle.ensures.fits none) (c.settle.ensures.stored none) (c.settle.ensures.written told none) (c.settle.ensures.at_rest told none))

pub returns-clause-images : goal.returns-clause-images
returns-clause-images g c told =
    let means = g.D.Disk.means in
    images_in means c.args.first.now c.settle.new.disks c.settle.result
    (current_in means c.args.first.now c.args.disks.now c.find.new.disks c.settle.new.disks c.in_ok-found.found c.settle.result (c.in_ok-found.ensures.found told) (c.in_ok-found.ensures.one told) (c.in_ok-found.ensures.two told)
    (c.in_ok-found.ensures.one_durable told) (c.in_ok-found.ensures.two_durable told) c.settle.ensures.found c.settle.ensures.same c.settle.ensures.two
    (λ none. new_of means c.args.first.now c.settle.new.disks c.settle.result (c.settle.ensures.file none) (c.settle.ensures.generation none) (c.settle.ensures.end none) (c.settle.ensures.fits none) (c.settle.ensures.stored none) (c.settle.ensures.written told none) (c.settle.ensures.at_rest told none)))

pub returns-clause-any_moment : goal.returns-clause-any_moment
returns-clause-any_moment g c told =
    let means = g.D.Disk.means in
    moments_in means c.args.first.now c.args.disks.now c.find.new.disks c.settle.new.disks c.in_ok-found.found (c.in_ok-found.ensures.found told) (c.in_ok-found.ensures.one_moments told) (c.in_ok-found.ensures.two_moments told)
    c.settle.ensures.found c.settle.ensures.two (c.settle.ensures.moments told) (g.met.D.Disk.reads_an_image told (disk_at c.args.disks.now One)) (g.met.D.Disk.reads_an_image told (disk_at c.args.disks.now Two))

pub returns-clause-now : goal.returns-clause-now
returns-clause-now g c told =
    let means = g.D.Disk.means in
    let old = c.args.disks.now in
    let new = c.settle.new.disks in
    since_now means c.args.first.now (g.met.D.Disk.counts_now told) (SomeImageGives means c.args.first.now old) old new
    (later_in means c.args.first.now old c.find.new.disks new c.in_ok-found.found (c.in_ok-found.ensures.one_moments told).later c.settle.ensures.found (c.settle.ensures.moments told))
    (subst (λ d. (means (disk_at old Two)).moment ≤ (means d).moment) (sym c.settle.ensures.two) (c.in_ok-found.ensures.two_moments told).later)
    (returns-clause-any_moment g c told)

pub returns-clause-opened : goal.returns-clause-opened
returns-clause-opened g c told =
    opened_of g.D.Disk.means c.args.first.now c.args.disks.now (g.met.D.Disk.reads_an_image told (disk_at c.args.disks.now One)) (g.met.D.Disk.reads_an_image told (disk_at c.args.disks.now Two)) c.settle.result (returns-clause-gives g c told)

pub returns-clause-refused : goal.returns-clause-refused
returns-clause-refused g c told = refused_so c.settle.result _ c.settle.ensures.refusals

pub returns-clause-at_rest : goal.returns-clause-at_rest
returns-clause-at_rest g c =
    let means = g.D.Disk.means in
    rest_in means c.args.first.now g.D.Disk.told c.settle.new.disks c.settle.result
    (λ told. current_in means c.args.first.now c.args.disks.now c.find.new.disks c.settle.new.disks c.in_ok-found.found c.settle.result (c.in_ok-found.ensures.found told) (c.in_ok-found.ensures.one told) (c.in_ok-found.ensures.two told)
    (c.in_ok-found.ensures.one_durable told) (c.in_ok-found.ensures.two_durable told) c.settle.ensures.found c.settle.ensures.same c.settle.ensures.two
    (λ none. new_of means c.args.first.now c.settle.new.disks c.settle.result (c.settle.ensures.file none) (c.settle.ensures.generation none) (c.settle.ensures.end none) (c.settle.ensures.fits none) (c.settle.ensures.stored none) (c.settle.ensures.written told none) (c.settle.ensures.at_rest told none)))

pub returns-clause-unchanged : goal.returns-clause-unchanged
returns-clause-unchanged g c told =
    unchanged_in c.settle.result ((g.D.Disk.means (disk_at c.settle.new.disks One)).content ≡ (g.D.Disk.means (disk_at c.args.disks.now One)).content) c.settle.ensures.refusals (λ none. c.settle.ensures.no_memory told none ∙ c.in_ok-found.ensures.one told)

pub returns-clause-refusals : goal.returns-clause-refusals
returns-clause-refusals g c told = refused_so c.settle.result _ c.settle.ensures.refusals

pub returns-clause-spent : goal.returns-clause-spent
returns-clause-spent g c = within_then g.D.Disk.means 2 8 (disk_failed c.settle.result) c.args.disks.now c.find.new.disks c.settle.new.disks c.in_ok-found.ensures.spent c.settle.ensures.spent

pub returns-clause-stored : goal.returns-clause-stored
returns-clause-stored g c told shut shut' = c.settle.ensures.stored (none_found c.args.first.now _ _ c.in_ok-found.found (c.in_ok-found.ensures.found told) shut shut')

pub returns-clause-file : goal.returns-clause-file
returns-clause-file g c told shut shut' = c.settle.ensures.file (none_found c.args.first.now _ _ c.in_ok-found.found (c.in_ok-found.ensures.found told) shut shut')

pub returns-clause-generation : goal.returns-clause-generation
returns-clause-generation g c told shut shut' = c.settle.ensures.generation (none_found c.args.first.now _ _ c.in_ok-found.found (c.in_ok-found.ensures.found told) shut shut')

pub returns-clause-end : goal.returns-clause-end
returns-clause-end g c told shut shut' = c.settle.ensures.end (none_found c.args.first.now _ _ c.in_ok-found.found (c.in_ok-found.ensures.found told) shut shut')

pub returns-clause-written : goal.returns-clause-written
returns-clause-written g c told shut shut' = c.settle.ensures.written told (none_found c.args.first.now _ _ c.in_ok-found.found (c.in_ok-found.ensures.found told) shut shut')
