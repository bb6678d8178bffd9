use Rattle.std.proofs.Common.{◌∷◌, [], List, ℕ, length, true, false, inl, ◌∙◌, sym, ap, arith, rules, length-append}
use Rattle.rq_outside.specs.declared.pair.FileNo.TheVariants.{One}
use Rattle.rq_outside.specs.Pair.{disk_at}
use Rattle.rq_wal.specs.Replace.{generation_of}
use Rattle.rq_wal.specs.Spelling.{body_bytes}
use Rattle.rq_wal.proofs.Recovery.{begun_moments, emptied_moments, new_file, body_size}
use Rattle.rq_wal.proofs.AtRest.{ends_at_rest}
use Rattle.rq_wal.proofs.Opened.{new_generation}
use Rattle.rq_wal.specs.Spends.{SpendsMost}
use Rattle.rq_wal.proofs.Spending.{room_spent, spends_then, within}
use Rattle.rq_wal.proofs.opening.write_body.Goals as goal

pub begin_replace-requires-clause-below : goal.begin_replace-requires-clause-below
begin_replace-requires-clause-below g c κs live told = inl (ap generation_of (c.ready.ensures.same told).content ∙ c.requires.closed told)

pub finish_replace-requires-clause-rest : goal.finish_replace-requires-clause-rest
finish_replace-requires-clause-rest g c κs live = ap (λ (l : List ℕ). generation_of (1 ∷ l)) c.requires.body ∙ new_generation 1 c.args.first.now (0 ∷ []) (omega arith)

pub returns-clause-at_rest : goal.returns-clause-at_rest
returns-clause-at_rest g c told =
    let body = body_bytes 1 c.args.first.now in
    ends_at_rest (g.D.Disk.means (disk_at c.finish_replace.new.disks One)) (1 ∷ body) _ (c.in_ok-finish_replace.ensures.open_now told ∙ ap (λ (l : List ℕ). 1 ∷ l) c.requires.body)
    (c.in_ok-finish_replace.ensures.durable told) (omega (arith, ap length c.requires.body, length-append body (0 ∷ [])))

pub returns-in_err-finish_replace-clause-moments : goal.returns-in_err-finish_replace-clause-moments
returns-in_err-finish_replace-clause-moments g c told =
    let means = g.D.Disk.means in
    begun_moments c.args.first.now (means (disk_at c.args.disks.now One)) (means (disk_at c.ready.new.self One)) (means (disk_at c.begin_replace.new.disks One)) (means (disk_at c.finish_replace.new.disks One)) c.args.body.now
    (c.requires.closed told) (c.requires.durable told) (g.met.D.Disk.only_now told (disk_at c.args.disks.now One)) (c.ready.ensures.same told) (c.ready.ensures.time told) (c.begin_replace.ensures.any_moment told) (c.finish_replace.ensures.any_moment told)
    (new_file c.args.first.now c.args.body.now c.requires.body)
    (body_size c.args.first.now (length c.args.body.now) (sym (ap length c.requires.body)) (search rules))

pub returns-clause-moments : goal.returns-clause-moments
returns-clause-moments g c told =
    let means = g.D.Disk.means in
    begun_moments c.args.first.now (means (disk_at c.args.disks.now One)) (means (disk_at c.ready.new.self One)) (means (disk_at c.begin_replace.new.disks One)) (means (disk_at c.finish_replace.new.disks One)) c.args.body.now
    (c.requires.closed told) (c.requires.durable told) (g.met.D.Disk.only_now told (disk_at c.args.disks.now One)) (c.ready.ensures.same told) (c.ready.ensures.time told) (c.begin_replace.ensures.any_moment told) (c.finish_replace.ensures.any_moment told)
    (new_file c.args.first.now c.args.body.now c.requires.body)
    (body_size c.args.first.now (length c.args.body.now) (sym (ap length c.requires.body)) (search rules))

pub returns-in_err-finish_replace-clause-spent : goal.returns-in_err-finish_replace-clause-spent
returns-in_err-finish_replace-clause-spent g c =
    let means = g.D.Disk.means in
    let begun = spends_then means 0 4 false c.args.disks.now c.ready.new.self c.begin_replace.new.disks
    (room_spent means c.args.disks.now c.ready.new.self One c.ready.ensures.other c.ready.ensures.faults c.ready.ensures.arm c.ready.ensures.own) c.in_ok-begin_replace.ensures.spent in
    let broke : SpendsMost means 8 true c.args.disks.now c.finish_replace.new.disks = within means 8 8 true _ _ (spends_then means 4 4 true _ _ _ begun c.in_err-finish_replace.ensures.spent) (omega arith) in
    search rules

pub returns-in_err-begin_replace-clause-moments : goal.returns-in_err-begin_replace-clause-moments
returns-in_err-begin_replace-clause-moments g c told =
    let means = g.D.Disk.means in
    emptied_moments c.args.first.now (means (disk_at c.args.disks.now One)) (means (disk_at c.ready.new.self One)) (means (disk_at c.begin_replace.new.disks One))
    (c.requires.closed told) (c.requires.durable told) (g.met.D.Disk.only_now told (disk_at c.args.disks.now One)) (c.ready.ensures.same told) (c.ready.ensures.time told) (c.begin_replace.ensures.any_moment told)
