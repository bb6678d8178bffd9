use Rattle.std.proofs.Common.{rules, ◌≡◌, ◌++◌, [], List, ℕ, take, refl, sym, ap, ◌∙◌, subst, arith, append_assoc}
use Rattle.std.proofs.lemmas.List.{append-nil}
use Rattle.rq_cluster.specs.Feed.{GoesOn, Stopped}
use Rattle.rq_cluster.proofs.Pieces.{Outside, Broken, goes_none, goes_after, stopped_after, broken_after, more_read}
use Rattle.rq_cluster.proofs.reading_lines.read_all.Goals as goal

pub reading-init : goal.reading-init
reading-init g c = record {
  goes = λ told. ([], refl, goes_none g.D.Disk.told g.D.Disk.means c.args.disks.now.items g.K.Sink.told (g.K.Sink.taken c.args.sink.now) c.args.progress.now);
  ready = c.requires.ready;
  later = omega arith;
  source = omega arith;
}

pub returns-in-Err-clause-part : goal.returns-in-Err-clause-part
returns-in-Err-clause-part g c told =
    let taken = g.K.Sink.taken in
    let p0 = c.args.disks.now.items in
    let p1 = c.reading.disks.items in
    let r = c.reading.invariant.goes told in
    let P = Broken g.D.Disk.told g.D.Disk.means p1 in
    subst (λ (l : List ℕ). Stopped g.D.Disk.told g.D.Disk.means p0 p1 g.K.Sink.told (taken c.args.sink.now) (taken c.reading.sink) c.args.progress.now l P) (sym r.1)
    (broken_after g.D.Disk.told g.D.Disk.means p0 p1 g.K.Sink.told (taken c.args.sink.now) (taken c.reading.sink) c.args.progress.now c.reading.progress
    r.0 (g.S.Source.left c.reading.source)
    (λ start w refines. c.refined_clusters_stand.ensures start p1 c.reading.progress.world w refines) r.2)

pub returns-in-Ok-eq0-clause-ok : goal.returns-in-Ok-eq0-clause-ok
returns-in-Ok-eq0-clause-ok g c told =
    let taken = g.K.Sink.taken in
    let r = c.reading.invariant.goes told in
    let none : g.S.Source.left c.reading.source ≡ [] = c.in-Ok-eq0.ensures.end told (search rules) (search rules) in
    subst (λ (l : List ℕ). GoesOn g.D.Disk.told g.D.Disk.means c.args.disks.now.items c.reading.disks.items g.K.Sink.told (taken c.args.sink.now) (taken c.reading.sink) c.args.progress.now c.reading.progress l)
    (sym (r.1 ∙ ap (λ (l : List ℕ). r.0 ++ l) none ∙ append-nil r.0)) r.2

pub reading-preserved : goal.reading-preserved
reading-preserved g c =
    let taken = g.K.Sink.taken in
    let p0 = c.args.disks.now.items in
    let p1 = c.reading.disks.items in
    let p2 = c.feed.new.disks.items in
    let piece : List ℕ = take c.in-Ok.count c.read.new.into in
    record {
      goes = λ told. let r = c.reading.invariant.goes told in (
        r.0 ++ piece,
        more_read (g.S.Source.left c.args.source.now) r.0 piece (g.S.Source.left c.reading.source) (g.S.Source.left c.read.new.self) r.1 (c.in-Ok.ensures.moved told) ∙ sym (append_assoc r.0 piece (g.S.Source.left c.read.new.self)),
        goes_after g.D.Disk.told g.D.Disk.means p0 p1 p2 g.K.Sink.told (taken c.args.sink.now) (taken c.reading.sink) (taken c.feed.new.sink) c.args.progress.now c.reading.progress c.feed.new.progress r.0 piece r.2 c.in-Ok-feed.ensures.ok,
      );
      ready = c.in-Ok-feed.ensures.ready;
      later = omega (arith, c.reading.invariant.later, c.in-Ok-feed.ensures.later);
      source = omega (arith, c.reading.invariant.source, c.read.ensures.cause.later);
    }

pub returns-in-Err-feed-clause-outside : goal.returns-in-Err-feed-clause-outside
returns-in-Err-feed-clause-outside g c is told =
    let taken = g.K.Sink.taken in
    let p0 = c.args.disks.now.items in
    let p1 = c.reading.disks.items in
    let p2 = c.feed.new.disks.items in
    let piece : List ℕ = take c.in-Ok.count c.read.new.into in
    let r = c.reading.invariant.goes told in
    let P = Outside g.D.Disk.told g.D.Disk.means p2 c.feed.new.progress.number in
    let all = more_read (g.S.Source.left c.args.source.now) r.0 piece (g.S.Source.left c.reading.source) (g.S.Source.left c.read.new.self) r.1 (c.in-Ok.ensures.moved told) in
    subst (λ (l : List ℕ). Stopped g.D.Disk.told g.D.Disk.means p0 p2 g.K.Sink.told (taken c.args.sink.now) (taken c.feed.new.sink) c.args.progress.now l P) (sym all)
    (stopped_after g.D.Disk.told g.D.Disk.means p0 p1 p2 g.K.Sink.told (taken c.args.sink.now) (taken c.reading.sink) (taken c.feed.new.sink) c.args.progress.now c.reading.progress P r.0 (piece ++ g.S.Source.left c.read.new.self)
    r.2 (c.in-Err-feed.ensures.outside is (g.S.Source.left c.read.new.self)))

pub returns-in-Err-feed-clause-part : goal.returns-in-Err-feed-clause-part
returns-in-Err-feed-clause-part g c told =
    let taken = g.K.Sink.taken in
    let p0 = c.args.disks.now.items in
    let p1 = c.reading.disks.items in
    let p2 = c.feed.new.disks.items in
    let piece : List ℕ = take c.in-Ok.count c.read.new.into in
    let P = Broken g.D.Disk.told g.D.Disk.means p2 in
    let r = c.reading.invariant.goes told in
    let all = more_read (g.S.Source.left c.args.source.now) r.0 piece (g.S.Source.left c.reading.source) (g.S.Source.left c.read.new.self) r.1 (c.in-Ok.ensures.moved told) in
    subst (λ (l : List ℕ). Stopped g.D.Disk.told g.D.Disk.means p0 p2 g.K.Sink.told (taken c.args.sink.now) (taken c.feed.new.sink) c.args.progress.now l P) (sym all)
    (stopped_after g.D.Disk.told g.D.Disk.means p0 p1 p2 g.K.Sink.told (taken c.args.sink.now) (taken c.reading.sink) (taken c.feed.new.sink) c.args.progress.now c.reading.progress P r.0 (piece ++ g.S.Source.left c.read.new.self)
    r.2 (c.in-Err-feed.ensures.part (g.S.Source.left c.read.new.self)))
