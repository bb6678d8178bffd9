-- Nodes that start, stop and are armed.
use Rattle.std.proofs.Common.{◌≡◌, ◌⊎◌, inl, inr, ◌≤◌, ◌+◌, ◌-◌, ◌^◌, ℕ, zero, suc, Bool, true, false, List, [], ◌∷◌, ◌++◌, take, Option, Some, None, refl, sym, ◌∙◌, ap, subst, arith}
use Rattle.std.specs.Prelude.{All}
use Rattle.std.proofs.lemmas.List.{append-nil}
use Rattle.std.proofs.lemmas.List.Elements.{All-take, All-cons, All-nil}
use Rattle.rq_outside.specs.declared.pair.DiskPair.{DiskPair}
use Rattle.rq_outside.specs.declared.pair.Arm.{Arm}
use Rattle.rq_outside.specs.declared.pair.Arm.TheVariants.{Off, Passes, Struck}
use Rattle.rq_outside.specs.Disk.{DiskMeaning}
use Rattle.rq_outside.specs.Pair.{arm_of}
use Rattle.rq_wal.specs.Spends.{ArmAfter, DeviceRose, Cause, SpendsMost}
use Rattle.rq_wal.proofs.Spending.{struck_short}
use Rattle.rq_node.specs.declared.node.Node.{Node as RunningNode}
use Rattle.rq_node.specs.declared.error.NodeError.{NodeError}
use Rattle.rq_node.specs.declared.error.NodeError.TheVariants as errors
use Rattle.rq_node.specs.Node.{Node, StoredRecord, Boot, persistent_of, persistent_after}
use Rattle.rq_node.specs.Rules.{started}
use Rattle.rq_node.specs.Sound.{AreReadable}
use Rattle.rq_node.specs.Recovery.{IsOpen, Stands, IsItemReadable, FailedOpening}
use Rattle.rq_script.specs.Cluster.{Stand, Running, Down, Armed, Server, Course, NoFault, Reading, Storing, gone_down, numbers, opens}
use Rattle.rq_script.specs.ScriptText.{up_text}
use Rattle.rq_cluster.specs.Acting.{Act, Crashed, start as start_act, stop as stop_act, arm as arm_act}
use Rattle.rq_cluster.specs.declared.arming.Arming.{Arming}
use Rattle.rq_cluster.specs.declared.host.Host.{Host}
use Rattle.rq_cluster.specs.Refines.{RefinesServer, RefinesStand, IsArmed, LetsPass, armed_of}
use Rattle.rq_cluster.specs.Recovery.{Rises, StandsAs, ServerStands}
use Rattle.rq_cluster.proofs.Pairs.{LogsStand, open_stands, SameDisks, NoFewer, fewer_same, fewer_spent, rises_on, rises_more, stands_same}
use Rattle.rq_cluster.proofs.Turns.{IsDown, node_shown, down_shown}
use Rattle.rq_cluster.proofs.Downs.{GoesDown, down_breaks, readable_after, settled, fewer_crashed}

take_none : (k : ℕ) → take {A = StoredRecord} k [] ≡ []
take_none zero = refl
take_none (suc k) = refl

-- a pair that passes all calls isn't stopped by an opening
not_stopped : (new : Arm) (k : ℕ) (failed : Bool) → k ≤ 14 → ArmAfter k failed (Passes (2 ^ 64 - 1)) new → new ≡ Struck → ⊥
not_stopped new k true few after struck = let less = struck_short k (2 ^ 64 - 1) new after struck in omega (arith, less, few)
not_stopped new k false few after struck = let e : Passes (2 ^ 64 - 1 - k) ≡ Struck = sym after.1 ∙ struck in absurd (cc)

module _ {D F : Type 0} (told : Bool) (means : D → DiskMeaning) where
  -- what a host refines stands in its pair
  pub refines_stands : LogsStand F means → (start pair : DiskPair D F) (host : Host) (s : Server) → RefinesServer told means start pair host s → ServerStands told means start pair (Some s)
  refines_stands law start pair host s refines = (by host.node s.stand refines.stand, refines.rises)
    where
      by : (o : Option RunningNode) (st : Stand) → RefinesStand told means pair s.id o st → StandsAs told means pair s.id st
      by (Some node) (Running n) (state, named, opened) =
          subst (λ (i : List ℕ). Stands told means pair i (persistent_of n) []) named
          (subst (λ (m : Node). Stands told means pair m.id (persistent_of m) []) state (open_stands told means law pair node opened))
      by None (Down kept rest) (stands, readable) = stands
      by (Some node) (Down kept rest) nothing = absurd nothing
      by None (Running n) nothing = absurd nothing

  -- nothing has happened
  pub breaks_before : LogsStand F means → (act : Act) (start pair : DiskPair D F) (host : Host) (s : Server) → RefinesServer told means start pair host s
      → (reached : Server) × ((reached ≡ s) ⊎ ((course : Course) × (reached ≡ (act course s).0))) × ServerStands told means start pair (Some reached)
  breaks_before law act start pair host s refines = (s, inl refl, refines_stands law start pair host s refines)

  -- the event was done
  pub breaks_after : LogsStand F means → (act : Act) (start pair : DiskPair D F) (host : Host) (s : Server) → (course : Course) × RefinesServer told means start pair host (act course s).0
      → (reached : Server) × ((reached ≡ s) ⊎ ((course : Course) × (reached ≡ (act course s).0))) × ServerStands told means start pair (Some reached)
  breaks_after law act start pair host s (course, refines) = ((act course s).0, inr (course, refl), refines_stands law start pair host (act course s).0 refines)

  -- ---- starting

  module _ (start old : DiskPair D F) (from : Host) (s : Server) (refines : RefinesServer told means start old from s) (down : from.node ≡ None)
      (mid new : DiskPair D F) (same : SameDisks old mid) (lets : LetsPass told means mid s.armed) (failed : Bool) (spent : SpendsMost means 14 failed mid new) where
    pub is_down : IsDown told means start old from s refines
    is_down = down_shown told means start old from s refines down

    pub unarmed : s.armed ≡ None
    unarmed = refines.spent down

    free : arm_of new ≡ Struck → ⊥
    free = not_stopped (arm_of new) spent.count failed spent.few (subst (λ (m : Arm). ArmAfter spent.count failed m (arm_of new)) (subst (λ (o : Option Armed). LetsPass told means mid o) unarmed lets) spent.spends.arm)

    later : NoFewer told means mid new
    later = fewer_spent told means spent.count failed mid new spent.spends

    pub stood : Stands told means mid s.id is_down.kept is_down.rest
    stood = stands_same told means old mid s.id is_down.kept is_down.rest same is_down.stands

    was : Rises told means s.failures start mid
    was = rises_on told means s.failures start old mid refines.rises (fewer_same told means old mid same)

    abbrev opened_as : Course → Server × List ℕ
    opened_as course = opens course s is_down.kept is_down.rest

    starts_as : (course : Course) → start_act course s ≡ opened_as course
    starts_as course =
        ap (λ (st : Stand). start_act course (record s { stand = st })) is_down.stand
        ∙ ap (λ (st : Stand). opens course (record s { stand = st }) is_down.kept is_down.rest) (sym is_down.stand)

    -- the node runs
    pub starts_running : (to : Host) (node : RunningNode) (before text : List ℕ) → to.id ≡ from.id → to.lost ≡ from.lost → to.failures ≡ from.failures → to.armed ≡ from.armed → to.node ≡ Some node
        → ((k : ℕ) × (node.state ≡ (started s.id (persistent_after is_down.kept (take k is_down.rest))).node)) → IsOpen told means new node → text ≡ before ++ up_text node.state
        → (course : Course) × RefinesServer told means start new to (start_act course s).0 × (text ≡ before ++ (start_act course s).1)
    starts_running to node before text id lost failures armed runs (k, state) opened text_is =
        let course : Course = record { fault = NoFault; stands = k } in
        let turn = started s.id (persistent_after is_down.kept (take k is_down.rest)) in
        let next : Server = record s { stand = Running turn.node } in
        let refines_next : RefinesServer told means start new to next = record {
          tells = refines.tells;
          id = refines.id ∙ sym id;
          lost = refines.lost ∙ ap (λ l. l.items) (sym lost);
          failures = refines.failures ∙ sym failures;
          armed = refines.armed ∙ ap armed_of (sym armed);
          arm = subst (λ (o : Option Armed). IsArmed told means new o) (sym unarmed) free;
          rises = rises_on told means s.failures start mid new was later;
          stand = subst (λ (o : Option RunningNode). RefinesStand told means new s.id o (Running turn.node)) (sym runs) (state, refl, opened);
          spent = λ none. (let e = sym runs ∙ none in absurd (cc));
        } in
        let so : RefinesServer told means start new to (start_act course s).0 × (text ≡ before ++ (start_act course s).1) =
        subst (λ (t : Server × List ℕ). RefinesServer told means start new to t.0 × (text ≡ before ++ t.1)) (sym (starts_as course))
        (refines_next, text_is ∙ ap (λ (n : Node). before ++ up_text n) state) in
        (course, so.0, so.1)

    -- a disk has failed
    pub starts_down : failed ≡ true → FailedOpening told means new s.id is_down.kept is_down.rest → GoesDown told means start new start_act s [] (s.failures + 1)
    starts_down so left = by left
      where
        device : Cause means true mid new → DeviceRose means mid new
        device (inl rose) = rose
        device (inr own) = absurd (free own.1)

        cause : Cause means true mid new
        cause = subst (λ (b : Bool). Cause means b mid new) so spent.spends.cause

        by : FailedOpening told means new s.id is_down.kept is_down.rest → GoesDown told means start new start_act s [] (s.failures + 1)
        by (inl stands) =
            let course : Course = record { fault = Reading; stands = 0 } in
            record {
              course = course;
              next = record s { failures = s.failures + 1 };
              is = starts_as course;
              id = refl;
              armed = unarmed;
              lost = sym (append-nil s.lost);
              counted = refl;
              kept = is_down.kept;
              rest = is_down.rest;
              stand = is_down.stand;
              stands = stands;
              readable = is_down.readable;
              rises = rises_more told means s.failures start mid new was later (device cause);
              arm = free;
            }
        by (inr (k, stands)) =
            let course : Course = record { fault = Storing; stands = k } in
            let settle = persistent_after is_down.kept (take k is_down.rest) in
            record {
              course = course;
              next = record s { stand = Down settle (started s.id settle).records; failures = s.failures + 1 };
              is = starts_as course;
              id = refl;
              armed = unarmed;
              lost = sym (append-nil s.lost);
              counted = refl;
              kept = settle;
              rest = (started s.id settle).records;
              stand = refl;
              stands = stands;
              readable = (readable_after (take k is_down.rest) is_down.kept is_down.readable.0 (All-take IsItemReadable k is_down.rest is_down.readable.1), boot_reads (settle.boot + 1));
              rises = rises_more told means s.failures start mid new was later (device cause);
              arm = free;
            }
          where
            boot_reads : (boot : ℕ) → All IsItemReadable (Boot boot ∷ [])
            boot_reads boot = All-cons IsItemReadable (Boot boot) [] tt (All-nil IsItemReadable)

    -- want of memory
    pub starts_not : (act : Act) → Stands told means new s.id is_down.kept is_down.rest
        → (reached : Server) × ((reached ≡ s) ⊎ ((course : Course) × (reached ≡ (act course s).0))) × ServerStands told means start new (Some reached)
    starts_not act stands = (s, inl refl, (subst (λ (st : Stand). StandsAs told means new s.id st) (sym is_down.stand) stands, rises_on told means s.failures start mid new was later))

    -- any other refusal
    pub starts_refused : (e : NodeError) → (e ≡ errors.Disk → failed ≡ true) → (e ≡ errors.Disk → FailedOpening told means new s.id is_down.kept is_down.rest)
        → (e ≡ errors.Disk) ⊎ (Stands told means new from.id is_down.kept is_down.rest × ((e ≡ errors.NoMemory) ⊎ ((boot : ℕ) × (e ≡ errors.Ended boot))))
        → (reached : Server) × ((reached ≡ s) ⊎ ((course : Course) × (reached ≡ (start_act course s).0))) × ServerStands told means start new (Some reached)
    starts_refused e so left (inl disk) = down_breaks told means start new start_act s [] (s.failures + 1) (starts_down (so disk) (left disk))
    starts_refused e so left (inr (stands, free_answer)) = starts_not start_act (subst (λ (i : List ℕ). Stands told means new i is_down.kept is_down.rest) (sym refines.id) stands)

  -- ---- stopping at once

  pub stops_down : LogsStand F means → (start old : DiskPair D F) (from : Host) (s : Server) (refines : RefinesServer told means start old from s) (new : DiskPair D F) (node : RunningNode)
      → from.node ≡ Some node → Crashed told means old new → AreReadable node.state.log → GoesDown told means start new stop_act s (numbers node.state.waiting) s.failures
  stops_down law start old from s refines new node runs crash log =
      let refined = node_shown told means start old from s refines node runs in
      let n = refined.n in
      let stood : Stands told means old s.id (persistent_of n) [] = subst (λ (i : List ℕ). Stands told means old i (persistent_of n) []) refined.named
      (subst (λ (m : Node). Stands told means old m.id (persistent_of m) []) refined.state (open_stands told means law old node refined.opened)) in
      let settle = settled told means old new s.id (persistent_of n) [] refines.tells crash stood in
      record {
        course = record { fault = NoFault; stands = 0 };
        next = gone_down s n (persistent_of n) [] [];
        is = ap (λ (st : Stand). stop_act (record { fault = NoFault; stands = 0 }) (record s { stand = st })) refined.stand;
        id = refl;
        armed = refl;
        lost = ap (λ (l : List ℕ). s.lost ++ l) (append-nil (numbers n.waiting) ∙ ap (λ (m : Node). numbers m.waiting) (sym refined.state));
        counted = refl;
        kept = persistent_of n;
        rest = [];
        stand = refl;
        stands = subst (λ (d : List StoredRecord). Stands told means new s.id (persistent_after (persistent_of n) d) []) (take_none settle.0) settle.1;
        readable = (subst (λ (m : Node). AreReadable m.log) refined.state log, all_none);
        rises = rises_on told means s.failures start old new refines.rises (fewer_crashed told means old new crash);
        arm = λ stop. (let e : Off ≡ Struck = sym crash.arm ∙ stop in absurd (cc));
      }
    where
      all_none : All IsItemReadable []
      all_none = All-nil IsItemReadable

  -- ---- arming

  pub arms_server : (start old : DiskPair D F) (from to : Host) (s : Server) (refines : RefinesServer told means start old from s) (new : DiskPair D F) (node : RunningNode) (arming : Arming)
      → SameDisks old new → from.node ≡ Some node → to ≡ record from { armed = Some arming } → ((arm_of old ≡ Struck → ⊥) → arm_of new ≡ Passes arming.calls) → IsOpen told means new node
      → (bytes : List ℕ) → (course : Course) × RefinesServer told means start new to (arm_act arming.calls arming.pick course s).0 × (bytes ≡ bytes ++ (arm_act arming.calls arming.pick course s).1)
  arms_server start old from to s refines new node arming same runs is armed opened bytes =
      let refined = node_shown told means start old from s refines node runs in
      let next : Server = (arm_act arming.calls arming.pick (record { fault = NoFault; stands = 0 }) s).0 in
      let not_struck : arm_of old ≡ Struck → ⊥ = unstruck s.armed refines.arm in
      let refines_next : RefinesServer told means start new (record from { armed = Some arming }) next = record {
        tells = refines.tells;
        id = refines.id;
        lost = refines.lost;
        failures = refines.failures;
        armed = refl;
        arm = armed not_struck;
        rises = rises_on told means s.failures start old new refines.rises (fewer_same told means old new same);
        stand = subst (λ (o : Option RunningNode). RefinesStand told means new s.id o s.stand) (sym runs)
            (subst (λ (st : Stand). RefinesStand told means new s.id (Some node) st) (sym refined.stand) (refined.state, refined.named, opened));
        spent = λ none. (let e = sym runs ∙ none in absurd (cc));
      } in
      (record { fault = NoFault; stands = 0 }, subst (λ (h : Host). RefinesServer told means start new h next) (sym is) refines_next, sym (append-nil bytes))
    where
      unstruck : (o : Option Armed) → IsArmed told means old o → arm_of old ≡ Struck → ⊥
      unstruck None is struck = is struck
      unstruck (Some a) is struck = let e : Passes a.calls ≡ Struck = sym is ∙ struck in absurd (cc)
