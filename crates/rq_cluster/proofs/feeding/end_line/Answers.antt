use Rattle.std.proofs.Common.{◌+◌, ◌++◌, ◌∷◌, ◌∙◌, ap, arith, subst, sym, refl, inl, inr, ℕ, List, []}
use Rattle.rq_script.specs.Lines.{drop_cr, lines_of}
use Rattle.rq_cluster.specs.Outcome.{BrokenOff}
use Rattle.rq_cluster.specs.Feed.{After, StopsKept}
use Rattle.rq_cluster.specs.Recovery.{Holds}
use Rattle.rq_cluster.proofs.Cutting.{line_out, broken_before}
use Rattle.rq_cluster.proofs.Pieces.{end_done, end_outside, end_part, unwritten}
use Rattle.rq_cluster.proofs.feeding.end_line.Goals as goal

pub returns-in-Err-clause-outside : goal.returns-in-Err-clause-outside
returns-in-Err-clause-outside g c is rest start read text s =
    let sh = c.args.progress.now in
    let o = c.in-Err.ensures.outside is start s.0 s.2 in
    unwritten g.K.Sink.told (g.K.Sink.taken c.args.sink.now) (g.K.Sink.taken c.do_line.new.sink)
    (λ (t : List ℕ). StopsKept (Holds g.D.Disk.told g.D.Disk.means start c.do_line.new.disks.items) sh.number (lines_of (read ++ 10 ∷ rest)) t) text (c.in-Err.ensures.unwritten is)
    (s.0, end_outside read text s.0 sh.number sh.held.items sh.read s.1 c.without_cr.result.now (c.without_cr.ensures ∙ ap drop_cr c.deref.ensures.value) rest o.0, o.1)

pub returns-in-Err-clause-part : goal.returns-in-Err-clause-part
returns-in-Err-clause-part g c rest start read text s =
    let sh = c.args.progress.now in
    let p = c.in-Err.ensures.part start s.0 s.2 in (
      p.0,
      p.1,
      end_part read text s.0 sh.number sh.held.items sh.read s.1 c.without_cr.result.now (c.without_cr.ensures ∙ ap drop_cr c.deref.ensures.value)
          (Holds g.D.Disk.told g.D.Disk.means start c.do_line.new.disks.items) rest p.0 (omega (arith, sh.within, c.if-progress-eq-MAX_SCRIPT.false)) p.2,
    )

pub returns-in-Ok-clause-ok : goal.returns-in-Ok-clause-ok
returns-in-Ok-clause-ok g c start read text s =
    let sh = c.args.progress.now in
    let o = c.in-Ok.ensures.ok start s.0 s.2 in
    let d = end_done read text s.0 sh.number sh.held.items sh.read s.1 c.without_cr.result.now (c.without_cr.ensures ∙ ap drop_cr c.deref.ensures.value)
    o.0 o.1 (omega (arith, sh.within, c.if-progress-eq-MAX_SCRIPT.false)) o.2 o.3 in
    (o.1, o.4, (o.0, subst (λ (h : List ℕ). After (read ++ 10 ∷ []) (text ++ o.1) o.0 (sh.number + 1) h (sh.read + 1)) (sym {A = List ℕ} c.clear.ensures.items) d, o.5))

pub returns-then-progress-eq-MAX_SCRIPT-clause-outside : goal.returns-then-progress-eq-MAX_SCRIPT-clause-outside
returns-then-progress-eq-MAX_SCRIPT-clause-outside g c is rest start read text s =
    let sh = c.args.progress.now in
    let taken = g.K.Sink.taken c.args.sink.now in
    unwritten g.K.Sink.told taken taken (λ (t : List ℕ). StopsKept (Holds g.D.Disk.told g.D.Disk.means start c.args.disks.now.items) sh.number (lines_of (read ++ 10 ∷ rest)) t) text (λ t. refl) (
      s.0,
      line_out read text s.0 sh.number sh.held.items sh.read s.1 rest (inl (inr (omega (arith, c.if-progress-eq-MAX_SCRIPT.true)))),
      c.refined_clusters_stand.ensures start c.args.disks.now.items sh.world s.0 s.2,
    )

pub returns-then-progress-eq-MAX_SCRIPT-clause-part : goal.returns-then-progress-eq-MAX_SCRIPT-clause-part
returns-then-progress-eq-MAX_SCRIPT-clause-part g c rest start read text s =
    let sh = c.args.progress.now in
    let taken = g.K.Sink.taken c.args.sink.now in
    let K = Holds g.D.Disk.told g.D.Disk.means start c.args.disks.now.items in
    unwritten g.K.Sink.told taken taken (BrokenOff (lines_of (read ++ 10 ∷ rest)) K) text (λ t. refl)
    (broken_before read text s.0 sh.number sh.held.items sh.read s.1 K (10 ∷ rest) (c.refined_clusters_stand.ensures start c.args.disks.now.items sh.world s.0 s.2))
