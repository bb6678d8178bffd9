-- A cluster that is founded, and what the bytes of a line do.
use Rattle.std.proofs.Common.{◌≡◌, ◌⊎◌, inl, inr, ◌<◌, ℕ, zero, suc, Bool, IsTrue, List, [], ◌∷◌, ◌++◌, length, slice_get, Option, Some, None, Result, Ok, option_and_then, refl, sym, ◌∙◌, ap, subst, arith}
use Rattle.std.specs.Prelude.{OnOk, Err}
use Rattle.std.proofs.Math.ListN.{set}
use Rattle.std.proofs.lemmas.List.{length-set}
use Rattle.std.proofs.lemmas.List.Elements.{All-nil}
use Rattle.rq_outside.specs.declared.pair.DiskPair.{DiskPair}
use Rattle.rq_outside.specs.declared.pair.Arm.TheVariants.{Off, Struck}
use Rattle.rq_outside.specs.Disk.{DiskMeaning}
use Rattle.rq_statement.specs.declared.item.Item.{Item}
use Rattle.rq_wal.specs.declared.base.Base.{Base}
use Rattle.rq_wal.specs.Current.{AreClosed}
use Rattle.rq_wal.specs.Reading.{pair_gives, by_generations}
use Rattle.rq_wal.specs.Replace.{generation_of}
use Rattle.rq_wal.specs.Stored.{started}
use Rattle.rq_node.specs.declared.log_entry.LogEntry.{LogEntry}
use Rattle.rq_node.specs.declared.node.Node.{Node as RunningNode}
use Rattle.rq_node.specs.Files.{first_base, first_persistent}
use Rattle.rq_node.specs.Sound.{IsPersistentReadable}
use Rattle.rq_node.specs.Recovery.{Stands, IsItemReadable}
use Rattle.rq_script.specs.Cluster.{Down, Server, Cluster, Course, whole, new_server, founded, named, done, step, Steps, MayReach, IsOutside}
use Rattle.rq_script.specs.Preparing.{statements_in, AreRead}
use Rattle.rq_script.specs.ScriptLine.{Line, Cluster as ClusterLine, line_of}
use Rattle.rq_cluster.specs.Acting.{start as start_act}
use Rattle.rq_cluster.specs.declared.host.Host.{Host}
use Rattle.rq_cluster.specs.declared.world.World.{World}
use Rattle.rq_cluster.specs.Refines.{RefinesServer, RefinesStand, RefinesHost, RefinesCluster, Goes, BreaksOff, Leads, DoesLine, BreaksLine, IsOutsideHere, Does, Breaks, Refines, armed_of}
use Rattle.rq_cluster.specs.Recovery.{IsNew, Rises, ServerStands, Holds}

-- two closed files stand for the first base
closed_gives : (first : Base) (one two : List ℕ) → AreClosed one two → pair_gives first one two ≡ Ok (started first)
unfolding pair_gives
closed_gives first one two (closed_one, closed_two) =
    ap (λ (g : Option ℕ). by_generations first g (generation_of two) one two) closed_one
    ∙ ap (λ (g : Option ℕ). by_generations first None g one two) closed_two

-- a host that is new
pub record IsFresh (host : Host) (id : List ℕ) : Type 0 where
  pub is_id : host.id ≡ id
  pub node : host.node ≡ None
  pub armed : host.armed ≡ None
  pub lost : host.lost.items ≡ []
  pub failures : host.failures ≡ 0

founds : (course : Course) (c : Cluster) (id : List ℕ) → c.server ≡ None
    → founded course c id ≡ Some (record c { server = Some (start_act course (new_server id)).0 }, (start_act course (new_server id)).1)
founds course c id none = ap (λ (o : Option Server). founded course (record c { server = o }) id) none

module _ {D F : Type 0} (told : Bool) (means : D → DiskMeaning) where
  new_refines : (start pair : DiskPair D F) (host : Host) (id : List ℕ) → IsTrue told → IsNew told means pair → Rises told means 0 start pair → IsFresh host id
      → RefinesServer told means start pair host (new_server id)
  new_refines start pair host id tells new rises h = record {
    tells = tells;
    id = sym h.is_id;
    lost = sym h.lost;
    failures = sym h.failures;
    armed = sym (ap armed_of h.armed);
    arm = λ struck. (let e : Off ≡ Struck = sym new.unarmed ∙ struck in absurd (cc));
    rises = rises;
    stand = subst (λ (o : Option RunningNode). RefinesStand told means pair id o (Down first_persistent [])) (sym h.node)
        (stands, (All-nil (λ (entry : LogEntry). IsPersistentReadable entry.content), All-nil IsItemReadable));
    spent = λ _. refl;
  }
    where
      stands : Stands told means pair id first_persistent []
      stands t one two in_one in_two = (0, closed_gives (first_base id) one two (new.closed t one two in_one in_two))

  no_server : (start pair : DiskPair D F) (world : World) (c : Cluster) → world.host ≡ None → RefinesCluster told means start pair world c
      → (c.server ≡ None) × IsTrue told × IsNew told means pair × Rises told means 0 start pair
  no_server start pair world c is refined = by c.server refl (subst (λ (o : Option Host). RefinesHost told means start pair o c.server) is refined.1)
    where
      by : (o : Option Server) → c.server ≡ o → RefinesHost told means start pair None o → (c.server ≡ None) × IsTrue told × IsNew told means pair × Rises told means 0 start pair
      by None there (tells, new, rises) = (there, tells, new, rises)
      by (Some s) there nothing = absurd nothing

  -- ---- the cluster line

  module _ (old new : DiskPair D F) (from : World) (host : Host) (id : List ℕ) (is : from.host ≡ None) (h : IsFresh host id) where
    pub found_does : (to : World) (after : Host) (before text : List ℕ) → to.host ≡ Some after → to.asks ≡ from.asks → Goes told means start_act old new host after before text
        → DoesLine told means (ClusterLine id) old new from to before text
    found_does to after before text there counts goes start c refined =
        let none = no_server start old from c is refined in
        let went = goes start (new_server id) (new_refines start old host id none.1 none.2 none.3 h) in
        let next : Cluster = record c { server = Some (start_act went.0 (new_server id)).0 } in (
          next,
          (start_act went.0 (new_server id)).1,
          ([], went.0, tt, founds went.0 c id none.0),
          went.2,
          (refined.0 ∙ sym counts, subst (λ (o : Option Host). RefinesHost told means start new o (Some (start_act went.0 (new_server id)).0)) (sym there) went.1),
        )

    pub found_breaks : BreaksOff told means start_act old new host → BreaksLine told means (ClusterLine id) old new from
    found_breaks off start c refined =
        let none = no_server start old from c is refined in
        let broke = off start (new_server id) (new_refines start old host id none.1 none.2 none.3 h) in
        by none.0 broke.0 broke.1 broke.2
      where
        by : c.server ≡ None → (reached : Server) → ((reached ≡ new_server id) ⊎ ((course : Course) × (reached ≡ (start_act course (new_server id)).0))) → ServerStands told means start new (Some reached)
            → (reached : Cluster) × ((reached ≡ c) ⊎ (named c (ClusterLine id) ≡ Some reached) ⊎ ((written : List ℕ) × Leads c (ClusterLine id) written reached)) × ServerStands told means start new reached.server
        by none reached (inl same) stands = (
          record c { server = Some (new_server id) },
          inr (inl (ap (λ (o : Option Server). named (record c { server = o }) (ClusterLine id)) none)),
          subst (λ (r : Server). ServerStands told means start new (Some r)) same stands,
        )
        by none reached (inr (course, goes)) stands = (
          record c { server = Some (start_act course (new_server id)).0 },
          inr (inr ((start_act course (new_server id)).1, ([], course, tt, founds course c id none))),
          subst (λ (r : Server). ServerStands told means start new (Some r)) goes stands,
        )

  -- ---- want of memory, before anything was touched

  module _ (stands : (start pair : DiskPair D F) (host : Option Host) (server : Option Server) → RefinesHost told means start pair host server → ServerStands told means start pair server) where
    pub breaks_untouched : (line : Line) (old new : DiskPair D F) (from : World) → new ≡ old → BreaksLine told means line old new from
    breaks_untouched line old new from same start c refined =
        (c, inl refl, subst (λ (p : DiskPair D F). ServerStands told means start p c.server) (sym same) (stands start old from.host c.server refined.1))

    pub breaks_unread : (bytes : List ℕ) (old new : DiskPair D F) (from : World) → new ≡ old → Breaks told means bytes old new from
    breaks_unread bytes old new from same start c refined =
        (c, inl refl, subst (λ (p : DiskPair D F). ServerStands told means start p c.server) (sym same) (stands start old from.host c.server refined.1))

-- ---- the bytes of a line

step_is : (items : List Item) (course : Course) (c : Cluster) (bytes : List ℕ) (line : Line) → line_of bytes ≡ Some line → step items course c bytes ≡ done items course c line
unfolding step
step_is items course c bytes line is = ap (option_and_then (done items course c)) is

step_none : (items : List Item) (course : Course) (c : Cluster) (bytes : List ℕ) → line_of bytes ≡ None → step items course c bytes ≡ None
unfolding step
step_none items course c bytes is = ap (option_and_then (done items course c)) is

pub outside_unread : (c : Cluster) (bytes : List ℕ) → line_of bytes ≡ None → IsOutside c bytes
outside_unread c bytes is = step_none [] whole c bytes is

pub outside_by : (c : Cluster) (bytes : List ℕ) (line : Line) → line_of bytes ≡ Some line → done [] whole c line ≡ None → IsOutside c bytes
outside_by c bytes line is none = step_is [] whole c bytes line is ∙ none

leads_steps : (c next : Cluster) (bytes written : List ℕ) (line : Line) → line_of bytes ≡ Some line → Leads c line written next → Steps c bytes written next
leads_steps c next bytes written line is (items, course, read, does) = (
  record { items = items; are_read = subst (λ (o : Option Line). AreRead (statements_in o) items) (sym is) read; course = course },
  step_is items course c bytes line is ∙ does,
)

module _ {D F : Type 0} (told : Bool) (means : D → DiskMeaning) (bytes : List ℕ) (line : Line) (is : line_of bytes ≡ Some line) (old new : DiskPair D F) (from : World) where
  pub does_bytes : (to : World) (before text : List ℕ) → DoesLine told means line old new from to before text → Does told means bytes old new from to before text
  does_bytes to before text does start c refined =
      let d = does start c refined in
      (d.0, d.1, leads_steps c d.0 bytes d.1 line is d.2, d.3, d.4)

  pub breaks_bytes : BreaksLine told means line old new from → Breaks told means bytes old new from
  breaks_bytes breaks start c refined =
      let b = breaks start c refined in
      (b.0, by b.0 b.1, b.2)
    where
      by : (reached : Cluster) → ((reached ≡ c) ⊎ (named c line ≡ Some reached) ⊎ ((written : List ℕ) × Leads c line written reached)) → MayReach c bytes reached
      by reached (inl same) = inl same
      by reached (inr (inl within)) = inr (inl (ap (option_and_then (named c)) is ∙ within))
      by reached (inr (inr (written, leads))) = inr (inr (written, leads_steps c reached bytes written line is leads))

  pub outside_bytes : IsOutsideHere told means line old from → (start : DiskPair D F) (c : Cluster) → RefinesCluster told means start old from c → IsOutside c bytes
  outside_bytes outside start c refined = outside_by c bytes line is (outside start c refined)

pub on_ok_map : {T E : Type 0} (r : Result T E) (P Q : Type 0) → (P → Q) → OnOk r P → OnOk r Q
on_ok_map (Ok x) P Q f holds = f holds
on_ok_map (Err e) P Q f holds = tt

-- ---- nine pairs, of which the first one is the server's

first_of : {T : Type 0} (xs : List T) → length xs ≡ 9 → (x : T) × (slice_get xs 0 ≡ Some x)
first_of [] count = absurd (omega (arith, count))
first_of (x ∷ xs) count = (x, refl)

first_set : {T : Type 0} (xs : List T) (x y : T) → slice_get (set xs 0 y) 0 ≡ Some x → x ≡ y
first_set [] x y at = absurd (cc)
first_set (z ∷ xs) x y at = let e : Some y ≡ Some x = at in cc

other_set : {T : Type 0} (xs : List T) (k : ℕ) (y : T) → 0 < k → slice_get (set xs 0 y) k ≡ slice_get xs k
other_set [] k y above = refl
other_set (z ∷ xs) zero y above = absurd (omega (arith, above))
other_set (z ∷ xs) (suc k) y above = refl

same_some : {T : Type 0} (o : Option T) (x y : T) → o ≡ Some x → o ≡ Some y → x ≡ y
same_some o x y one two = cc

module _ {D F : Type 0} (told : Bool) (means : D → DiskMeaning) (pairs : List (DiskPair D F)) (old new : DiskPair D F) (from : World) (there : slice_get pairs 0 ≡ Some old) where
  pub step_does : (bytes : List ℕ) (to : World) (before text : List ℕ) → Does told means bytes old new from to before text
      → (start : List (DiskPair D F)) (c : Cluster) → Refines told means start pairs from c
      → (next : Cluster) × (written : List ℕ) × Steps c bytes written next × (text ≡ before ++ written) × Refines told means start (set pairs 0 new) to next
  step_does bytes to before text does start c refines =
      let s = first_of start refines.began in
      let d = does s.0 c (refines.first s.0 old s.1 there) in (
        d.0,
        d.1,
        d.2,
        d.3,
        record {
          tells = refines.tells;
          began = refines.began;
          count = length-set pairs 0 new ∙ refines.count;
          first = λ was now b n.
              subst (λ (p : DiskPair D F). RefinesCluster told means p now to d.0) (same_some (slice_get start 0) s.0 was s.1 b)
              (subst (λ (p : DiskPair D F). RefinesCluster told means s.0 p to d.0) (sym (first_set pairs now new n)) d.4);
          others = λ k above. other_set pairs k new above ∙ refines.others k above;
        },
      )

  module _ (start : List (DiskPair D F)) (c : Cluster) (refines : Refines told means start pairs from c) where
    holds : (reached : Cluster) → ((was : DiskPair D F) → slice_get start 0 ≡ Some was → ServerStands told means was new reached.server) → Holds told means start (set pairs 0 new) reached
    holds reached stands = record {
      count = length-set pairs 0 new ∙ refines.count;
      first = λ was now b n. subst (λ (p : DiskPair D F). ServerStands told means was p reached.server) (sym (first_set pairs now new n)) (stands was b);
      others = λ k above. other_set pairs k new above ∙ refines.others k above;
    }

    -- the line can't stand here
    pub step_outside : (bytes : List ℕ) → ((start : DiskPair D F) (c : Cluster) → RefinesCluster told means start old from c → IsOutside c bytes) → new ≡ old → Holds told means start pairs c
        → IsOutside c bytes × Holds told means start (set pairs 0 new) c
    step_outside bytes outside same held =
        let s = first_of start refines.began in (
          outside s.0 c (refines.first s.0 old s.1 there),
          holds c (λ was b. subst (λ (p : DiskPair D F). ServerStands told means was p c.server) (sym same) (held.first was old b there)),
        )

    -- want of memory broke it off
    pub step_breaks : (bytes : List ℕ) → Breaks told means bytes old new from → (reached : Cluster) × MayReach c bytes reached × Holds told means start (set pairs 0 new) reached
    step_breaks bytes breaks =
        let s = first_of start refines.began in
        let b = breaks s.0 c (refines.first s.0 old s.1 there) in
        (b.0, b.1, holds b.0 (λ was at. subst (λ (p : DiskPair D F). ServerStands told means p new b.0.server) (same_some (slice_get start 0) s.0 was s.1 at) b.2))
