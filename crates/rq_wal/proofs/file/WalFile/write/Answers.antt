use Rattle.std.proofs.Common.{◌≡◌, List, ℕ, take, map, ◌∙◌, ap, subst, refl}
use Rattle.rq_outside.specs.Pair.{other, disk_at}
use Rattle.rq_wal.specs.Pieces.{with_frames, HasSomePieces}
use Rattle.rq_wal.specs.Spelling.{piece_of}
use Rattle.rq_wal.proofs.Framed.{framed, some_framed}
use Rattle.rq_wal.specs.Stored.{applied_all}
use Rattle.rq_wal.specs.Current.{IsSome}
use Rattle.rq_wal.proofs.ImagesNow.{since_now_at}
use Rattle.rq_wal.proofs.LogMore.{current_more, some_stand}
use Rattle.rq_wal.proofs.Moments.{weaker}
use Rattle.rq_wal.proofs.Since.{since_began}
use Rattle.rq_wal.proofs.Recovery.{images_give}
use Rattle.rq_wal.proofs.file.WalFile.write.Goals as goal

pub returns-clause-written : goal.returns-clause-written
returns-clause-written g c told frames same =
    let done = take c.args.self.end (g.D.Disk.means (disk_at c.args.disks.now c.args.self.file)).content in
    let is : c.deref.result.now ≡ map piece_of frames = c.deref.ensures.value ∙ c.batch.view_is ∙ same in
    c.in_ok-end.ensures.done told ∙ ap (λ (ps : List (List ℕ)). with_frames done ps) is ∙ framed done frames

pub returns-in_err-end-clause-any_moment : goal.returns-in_err-end-clause-any_moment
returns-in_err-end-clause-any_moment g c told frames same =
    let old = g.D.Disk.means (disk_at c.args.disks.now c.args.self.file) in
    let new = g.D.Disk.means (disk_at c.write_frames.new.disks c.args.self.file) in
    let done = take c.args.self.end old.content in
    let is : c.deref.result.now ≡ map piece_of frames = c.deref.ensures.value ∙ c.batch.view_is ∙ same in
    weaker old new _ _ (c.write_frames.ensures.any_moment told) (λ f some. some_framed done frames f (subst (λ (ps : List (List ℕ)). HasSomePieces done ps f) is some))

pub returns-clause-any_moment : goal.returns-clause-any_moment
returns-clause-any_moment g c told frames same =
    let old = g.D.Disk.means (disk_at c.args.disks.now c.args.self.file) in
    let new = g.D.Disk.means (disk_at c.write_frames.new.disks c.args.self.file) in
    let done = take c.args.self.end old.content in
    let is : c.deref.result.now ≡ map piece_of frames = c.deref.ensures.value ∙ c.batch.view_is ∙ same in
    weaker old new _ _ (c.write_frames.ensures.any_moment told) (λ f some. some_framed done frames f (subst (λ (ps : List (List ℕ)). HasSomePieces done ps f) is some))

pub returns-clause-current : goal.returns-clause-current
returns-clause-current g c told first stored frames same allowed current =
    current_more g.D.Disk.means first c.args.disks.now c.write_frames.new.disks c.args.self stored frames allowed current c.write_frames.ensures.other _ refl refl (returns-clause-written g c told frames same) (c.in_ok-end.ensures.at_rest told)

pub returns-clause-images : goal.returns-clause-images
returns-clause-images g c told first stored frames same allowed current =
    images_give g.D.Disk.means first c.write_frames.new.disks _ (applied_all stored frames) (returns-clause-current g c told first stored frames same allowed current)

pub returns-clause-some_stand : goal.returns-clause-some_stand
returns-clause-some_stand g c told first stored frames same allowed current =
    some_stand g.D.Disk.means first c.args.disks.now c.write_frames.new.disks c.args.self stored frames allowed current c.write_frames.ensures.other (returns-clause-any_moment g c told frames same)
    (g.met.D.Disk.only_now told (disk_at c.args.disks.now (other c.args.self.file)))

pub returns-in_err-end-clause-some_stand : goal.returns-in_err-end-clause-some_stand
returns-in_err-end-clause-some_stand g c told first stored frames same allowed current =
    some_stand g.D.Disk.means first c.args.disks.now c.write_frames.new.disks c.args.self stored frames allowed current c.write_frames.ensures.other (returns-in_err-end-clause-any_moment g c told frames same)
    (g.met.D.Disk.only_now told (disk_at c.args.disks.now (other c.args.self.file)))

pub returns-clause-some_now : goal.returns-clause-some_now
returns-clause-some_now g c told first stored frames same allowed current =
    since_now_at g.D.Disk.means first (g.met.D.Disk.counts_now told) (IsSome stored frames) c.args.disks.now c.write_frames.new.disks c.args.self.file c.write_frames.ensures.other (c.write_frames.ensures.any_moment told).later
    (returns-clause-some_stand g c told first stored frames same allowed current)

pub returns-in_err-end-clause-some_now : goal.returns-in_err-end-clause-some_now
returns-in_err-end-clause-some_now g c told first stored frames same allowed current =
    since_now_at g.D.Disk.means first (g.met.D.Disk.counts_now told) (IsSome stored frames) c.args.disks.now c.write_frames.new.disks c.args.self.file c.write_frames.ensures.other (c.write_frames.ensures.any_moment told).later
    (returns-in_err-end-clause-some_stand g c told first stored frames same allowed current)

pub returns-clause-moments : goal.returns-clause-moments
returns-clause-moments g c told began first stored frames same allowed current room =
    since_began g.D.Disk.means (g.met.D.Disk.only_now told) first began c.args.disks.now c.args.self stored frames allowed current room c.write_frames.new.disks c.write_frames.ensures.other (returns-clause-any_moment g c told frames same)

pub returns-in_err-end-clause-moments : goal.returns-in_err-end-clause-moments
returns-in_err-end-clause-moments g c told began first stored frames same allowed current room =
    since_began g.D.Disk.means (g.met.D.Disk.only_now told) first began c.args.disks.now c.args.self stored frames allowed current room c.write_frames.new.disks c.write_frames.ensures.other (returns-in_err-end-clause-any_moment g c told frames same)
