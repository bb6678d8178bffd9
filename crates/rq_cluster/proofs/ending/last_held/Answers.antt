use Rattle.std.proofs.Common.{◌≡◌, ◌≤◌, ◌<◌, List, ℕ, Bool, true, false, nat_eq, length, subst, refl, ⊎_elim, inl, inr, arith}
use Rattle.rq_script.specs.Cluster.{Cluster, Steps, IsOutside}
use Rattle.rq_script.specs.Lines.{lines_of}
use Rattle.rq_cluster.specs.declared.feeding.Stop.TheVariants.{Outside as StopOutside}
use Rattle.rq_cluster.specs.Feed.{AtEnd, PartOf, StopsKept}
use Rattle.rq_cluster.specs.Refines.{Refines}
use Rattle.rq_cluster.specs.Recovery.{Holds}
use Rattle.rq_cluster.proofs.Pieces.{unwritten, of_other}
use Rattle.rq_cluster.proofs.Finishing.{end_none, end_some, out_some, part_some}
use Rattle.rq_cluster.proofs.ending.last_held.Goals as goal

is_none : (b : Bool) (n : ℕ) → b ≡ nat_eq n 0 → b ≡ true → n ≡ 0
is_none b n is yes_it = grind arith

is_some : (b : Bool) (n : ℕ) → b ≡ nat_eq n 0 → b ≡ false → 0 < n
is_some b n is free = grind arith

pub returns-then-is_empty-clause-ok : goal.returns-then-is_empty-clause-ok
returns-then-is_empty-clause-ok g c start read text s =
    let sh = c.args.progress.now in
    let taken = g.K.Sink.taken c.args.sink.now in
    let none : length sh.held.items ≡ 0 = omega (arith, sh.held.ok.0, is_none c.is_empty.result sh.held.len c.is_empty.ensures c.if-is_empty.true) in
    unwritten g.K.Sink.told taken taken (λ (t : List ℕ). (w : Cluster) × AtEnd (lines_of read) t w sh.number × Refines g.D.Disk.told g.D.Disk.means start c.args.disks.now.items sh.world w) text (λ t. refl)
    (s.0, end_none read text s.0 sh.number sh.held.items sh.read s.1 none, s.2)

pub returns-in-Ok-clause-ok : goal.returns-in-Ok-clause-ok
returns-in-Ok-clause-ok g c start read text s =
    let sh = c.args.progress.now in
    let o = c.in-Ok.ensures.ok start s.0 s.2 in
    let some : 0 < length sh.held.items = omega (arith, sh.held.ok.0, is_some c.is_empty.result sh.held.len c.is_empty.ensures c.if-is_empty.false) in (
      o.1,
      o.4,
      (
        o.0,
        end_some read text s.0 sh.number sh.held.items sh.read s.1 o.1 o.0 some (omega (arith, sh.within))
            (subst (λ (l : List ℕ). length l ≤ 2097152) c.deref.ensures.value o.2) (subst (λ (l : List ℕ). Steps s.0 l o.1 o.0) c.deref.ensures.value o.3),
        o.5,
      ),
    )

pub returns-in-Err-clause-outside : goal.returns-in-Err-clause-outside
returns-in-Err-clause-outside g c is start read text s =
    let sh = c.args.progress.now in
    let K = Holds g.D.Disk.told g.D.Disk.means start c.do_line.new.disks.items in
    let some : 0 < length sh.held.items = omega (arith, sh.held.ok.0, is_some c.is_empty.result sh.held.len c.is_empty.ensures c.if-is_empty.false) in
    let o = c.in-Err.ensures.outside (of_other c.in-Err.stop StopOutside is) start s.0 s.2 in
    unwritten g.K.Sink.told (g.K.Sink.taken c.args.sink.now) (g.K.Sink.taken c.do_line.new.sink) (λ (t : List ℕ). StopsKept K sh.number (lines_of read) t) text (c.in-Err.ensures.unwritten (of_other c.in-Err.stop StopOutside is)) (
      s.0,
      out_some read text s.0 sh.number sh.held.items sh.read s.1 some
          (⊎_elim (λ long. inl (subst (λ (l : List ℕ). 2097152 < length l) c.deref.ensures.value long)) (λ out. inr (subst (IsOutside s.0) c.deref.ensures.value out)) o.0),
      o.1,
    )

pub returns-in-Err-clause-part : goal.returns-in-Err-clause-part
returns-in-Err-clause-part g c start read text s =
    let sh = c.args.progress.now in
    let K = Holds g.D.Disk.told g.D.Disk.means start c.do_line.new.disks.items in
    let p = c.in-Err.ensures.part start s.0 s.2 in
    let some : 0 < length sh.held.items = omega (arith, sh.held.ok.0, is_some c.is_empty.result sh.held.len c.is_empty.ensures c.if-is_empty.false) in
    (p.0, p.1, part_some read text s.0 sh.number sh.held.items sh.read s.1 K p.0 some (omega (arith, sh.within)) (subst (λ (l : List ℕ). PartOf K s.0 l p.0) c.deref.ensures.value p.2))
