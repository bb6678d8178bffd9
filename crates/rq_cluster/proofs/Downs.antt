-- Turns that take the node of a server down.
use Rattle.std.proofs.Common.{◌≡◌, ◌⊎◌, inl, inr, ◌≤◌, ◌<◌, ◌+◌, ◌-◌, ◌*◌, ◌^◌, ℕ, Bool, true, IsTrue, List, [], ◌∷◌, ◌++◌, length, take, Option, Some, None, Result, Ok, Err, nat_le, false, refl, sym, ◌∙◌, ap, subst, arith}
use Rattle.std.specs.Prelude.{All, OnOk}
use Rattle.std.proofs.lemmas.Bool.Decides.{nat_tests}
use Rattle.std.proofs.lemmas.List.Elements.{All-append, All-take, All-head, All-tail, All-nil}
use Rattle.rq_outside.specs.declared.pair.DiskPair.{DiskPair}
use Rattle.rq_outside.specs.declared.pair.Arm.{Arm}
use Rattle.rq_outside.specs.declared.pair.Arm.TheVariants.{Off, Passes, Struck}
use Rattle.rq_outside.specs.declared.pair.FileNo.TheVariants.{One, Two}
use Rattle.rq_outside.specs.Disk.{DiskMeaning}
use Rattle.rq_outside.specs.Pair.{arm_of, disk_at}
use Rattle.rq_wal.specs.Reading.{pair_gives}
use Rattle.rq_wal.specs.Spends.{ArmAfter, DeviceRose, Cause, Spends}
use Rattle.rq_wal.proofs.Spending.{struck_short}
use Rattle.rq_node.specs.declared.node.Node.{Node as RunningNode}
use Rattle.rq_node.specs.declared.log_entry.LogEntry.{LogEntry}
use Rattle.rq_node.specs.declared.event.Event.{Event}
use Rattle.rq_node.specs.declared.event.Event.TheVariants as event
use Rattle.rq_node.specs.Events.{KeepsPersistent, IsLeft}
use Rattle.rq_node.specs.Files.{first_base, stored_of}
use Rattle.rq_node.specs.Node.{Node, Persistent, StoredRecord, Vote, Splice, Boot, Turn, persistent_of, persistent_with, persistent_after}
use Rattle.rq_node.specs.Sound.{AreReadable, IsPersistentReadable}
use Rattle.rq_node.specs.Recovery.{IsOpen, Stands, CanBeRead, IsItemReadable, IsBroken}
use Rattle.rq_script.specs.Cluster.{Stand, Running, Down, Armed, Server, Course, needed, passes, gone_down, numbers}
use Rattle.rq_script.specs.ScriptText.{down_text}
use Rattle.rq_cluster.specs.Acting.{Act, event as event_act, Crashed, HasStruck}
use Rattle.rq_cluster.specs.declared.arming.Arming.{Arming}
use Rattle.rq_cluster.specs.declared.host.Host.{Host}
use Rattle.rq_cluster.specs.Refines.{RefinesServer, RefinesStand, IsArmed, LetsPass, Goes, armed_of}
use Rattle.rq_cluster.specs.Recovery.{Rises, StandsAs, ServerStands}
use Rattle.rq_cluster.proofs.Pairs.{LogsStand, open_stands, SameDisks, NoFewer, fewer_same, fewer_spent, rises_on, rises_more, stands_same}
use Rattle.rq_cluster.proofs.Results.{on_ok_map}
use Rattle.rq_cluster.proofs.Turns.{node_shown, lets_some, failing, striking, turn_failed, turn_struck}

-- ---- what can be read

readable_with : (kept : Persistent) (item : StoredRecord) → AreReadable kept.log → IsItemReadable item → AreReadable (persistent_with kept item).log
readable_with kept (Vote term vote) log item = log
readable_with kept (Splice from entries) log item =
    let P = λ (entry : LogEntry). IsPersistentReadable entry.content in
    All-append P (take (from - 1) kept.log) entries (All-take P (from - 1) kept.log log) item
readable_with kept (Boot boot) log item = log

pub readable_after : (items : List StoredRecord) (kept : Persistent) → AreReadable kept.log → All IsItemReadable items → AreReadable (persistent_after kept items).log
readable_after [] kept log all = log
readable_after (item ∷ items) kept log all =
    readable_after items (persistent_with kept item) (readable_with kept item log (All-head IsItemReadable item items all)) (All-tail IsItemReadable item items all)

-- ---- crashes

module _ {D F : Type 0} (told : Bool) (means : D → DiskMeaning) where
  -- after a crash it is settled how many of the things stand
  pub settled : (old new : DiskPair D F) (id : List ℕ) (kept : Persistent) (items : List StoredRecord) → IsTrue told → Crashed told means old new → Stands told means old id kept items
      → (k : ℕ) × Stands told means new id (persistent_after kept (take k items)) []
  settled old new id kept items tells crashed stands =
      let one = (means (disk_at new One)).content in
      let two = (means (disk_at new Two)).content in
      let reading = stands tells one two (crashed.image tells One) (crashed.image tells Two) in (
        reading.0,
        λ t a b in_one in_two. (
          0,
          subst (λ (c : List ℕ). pair_reads c b) (sym (crashed.stable tells One a in_one))
              (subst (λ (c : List ℕ). pair_reads one c) (sym (crashed.stable tells Two b in_two)) reading.1),
        ),
      )
    where
      pair_reads : List ℕ → List ℕ → Type 0
      pair_reads a b = pair_gives (first_base id) a b ≡ Ok (stored_of id (persistent_after kept (take (stands tells (means (disk_at new One)).content (means (disk_at new Two)).content (crashed.image tells One) (crashed.image tells Two)).0 items)))

  pub fewer_crashed : (old new : DiskPair D F) → Crashed told means old new → NoFewer told means old new
  fewer_crashed old new crashed =
      let e = crashed.faults One in let f = crashed.faults Two in record { one = omega (arith, e); two = omega (arith, f) }

  pub fewer_on : (old mid new : DiskPair D F) → NoFewer told means old mid → NoFewer told means mid new → NoFewer told means old new
  fewer_on old mid new first second =
      record { one = (let a = first.one in let b = second.one in omega (arith, a, b)); two = (let a = first.two in let b = second.two in omega (arith, a, b)) }

  -- ---- the server afterwards

  -- the event has led to this server, whose node is down
  pub record GoesDown (start new : DiskPair D F) (act : Act) (s : Server) (waiting : List ℕ) (failures : ℕ) : Type 0 where
    pub course : Course
    pub next : Server
    pub is : act course s ≡ (next, down_text s.id)
    pub id : next.id ≡ s.id
    pub armed : next.armed ≡ None
    pub lost : next.lost ≡ s.lost ++ waiting
    pub counted : next.failures ≡ failures
    pub kept : Persistent
    pub rest : List StoredRecord
    pub stand : next.stand ≡ Down kept rest
    pub stands : Stands told means new s.id kept rest
    pub readable : CanBeRead kept rest
    pub rises : Rises told means failures start new
    pub arm : arm_of new ≡ Struck → ⊥

  -- and so the host refines it
  pub down_goes : (start new : DiskPair D F) (act : Act) (s : Server) (from to : Host) (waiting before text : List ℕ) (failures : ℕ)
      → IsTrue told → GoesDown start new act s waiting failures → s.id ≡ from.id → s.lost ≡ from.lost.items → to.id ≡ from.id → to.node ≡ None → to.armed ≡ None → to.lost.items ≡ from.lost.items ++ waiting
      → to.failures ≡ failures → text ≡ before ++ down_text from.id
      → (course : Course) × RefinesServer told means start new to (act course s).0 × (text ≡ before ++ (act course s).1)
  down_goes start new act s from to waiting before text failures tells g is_id is_lost id node armed lost failed text_is =
      let there : RefinesStand told means new g.next.id to.node g.next.stand =
      subst (λ (o : Option RunningNode). RefinesStand told means new g.next.id o g.next.stand) (sym node)
      (subst (λ (st : Stand). RefinesStand told means new g.next.id None st) (sym g.stand)
      (subst (λ (i : List ℕ). Stands told means new i g.kept g.rest) (sym g.id) g.stands, g.readable)) in
      let refines : RefinesServer told means start new to g.next = record {
        tells = tells;
        id = g.id ∙ is_id ∙ sym id;
        lost = g.lost ∙ ap (λ (l : List ℕ). l ++ waiting) is_lost ∙ sym lost;
        failures = g.counted ∙ sym failed;
        armed = g.armed ∙ sym (ap armed_of armed);
        arm = subst (λ (a : Option Armed). IsArmed told means new a) (sym g.armed) g.arm;
        rises = subst (λ (k : ℕ). Rises told means k start new) (sym g.counted) g.rises;
        stand = there;
        spent = λ _. g.armed;
      } in
      let so : RefinesServer told means start new to (act g.course s).0 × (text ≡ before ++ (act g.course s).1) =
      subst (λ (t : Server × List ℕ). RefinesServer told means start new to t.0 × (text ≡ before ++ t.1)) (sym g.is)
      (refines, text_is ∙ ap (λ (i : List ℕ). before ++ down_text i) (sym is_id)) in
      (g.course, so.0, so.1)

  -- where want of memory came behind it
  pub down_breaks : (start new : DiskPair D F) (act : Act) (s : Server) (waiting : List ℕ) (failures : ℕ) → GoesDown start new act s waiting failures
      → (reached : Server) × ((reached ≡ s) ⊎ ((course : Course) × (reached ≡ (act course s).0))) × ServerStands told means start new (Some reached)
  down_breaks start new act s waiting failures g = (
    g.next,
    inr (g.course, sym (ap (λ (t : Server × List ℕ). t.0) g.is)),
    (
      subst (λ (st : Stand). StandsAs told means new g.next.id st) (sym g.stand) (subst (λ (i : List ℕ). Stands told means new i g.kept g.rest) (sym g.id) g.stands),
      subst (λ (k : ℕ). Rises told means k start new) (sym g.counted) g.rises,
    ),
  )

  -- ---- a turn that was broken off

  module _ (start old : DiskPair D F) (from : Host) (s : Server) (refines : RefinesServer told means start old from s)
      (mid broke new : DiskPair D F) (node : RunningNode) (rule : Node → Turn) (asked : List ℕ)
      (same : SameDisks old mid) (lets : LetsPass told means mid s.armed) (spent : Spends means (4 * length (rule node.state).records) true mid broke)
      (runs : from.node ≡ Some node) (small : length (rule node.state).records ≤ 2)
      (broken : IsBroken told means broke node.state.id (persistent_of node.state) (rule node.state).records)
      (readable : CanBeRead (persistent_of node.state) (rule node.state).records)
      (crashed : HasStruck (arm_of broke) from.armed → Crashed told means broke new) (untouched : (HasStruck (arm_of broke) from.armed → ⊥) → new ≡ broke) where
    was : Rises told means s.failures start mid
    was = rises_on told means s.failures start old mid refines.rises (fewer_same told means old mid same)

    later : NoFewer told means mid broke
    later = fewer_spent told means (4 * length (rule node.state).records) true mid broke spent

    -- a pair that is stopped let too few calls pass
    short : (calls : ℕ) → arm_of mid ≡ Passes calls → arm_of broke ≡ Struck → calls < 4 * length (rule node.state).records
    short calls passing stopped =
        struck_short (4 * length (rule node.state).records) calls (arm_of broke) (subst (λ (m : Arm). ArmAfter (4 * length (rule node.state).records) true m (arm_of broke)) passing spent.arm) stopped

    -- a disk has failed
    has_failed : (HasStruck (arm_of broke) from.armed → ⊥) → (arm_of broke ≡ Struck → ⊥) → DeviceRose means mid broke
        → GoesDown start new (event_act rule asked) s (numbers node.state.waiting ++ asked) (s.failures + 1)
    has_failed not_struck no_stop device =
        let refined = node_shown told means start old from s refines node runs in
        let n = refined.n in
        let turn : rule node.state ≡ rule n = ap rule refined.state in
        let same_pair = untouched not_struck in
        record {
          course = failing;
          next = record (gone_down s n (persistent_of n) (rule n).records asked) { failures = s.failures + 1 };
          is = turn_failed s n rule asked broken.first broken.more refined.stand (ap (λ (t : Turn). t.records) (sym turn) ∙ broken.some);
          id = refl;
          armed = refl;
          lost = ap (λ (m : Node). s.lost ++ (numbers m.waiting ++ asked)) (sym refined.state);
          counted = refl;
          kept = persistent_of n;
          rest = (rule n).records;
          stand = refl;
          stands = subst (λ (p : DiskPair D F). Stands told means p s.id (persistent_of n) (rule n).records) (sym same_pair)
              (subst (λ (i : List ℕ). Stands told means broke i (persistent_of n) (rule n).records) refined.named
              (subst (λ (m : Node). Stands told means broke m.id (persistent_of m) (rule m).records) refined.state broken.stands));
          readable = subst (λ (m : Node). CanBeRead (persistent_of m) (rule m).records) refined.state readable;
          rises = subst (λ (p : DiskPair D F). Rises told means (s.failures + 1) start p) (sym same_pair) (rises_more told means s.failures start mid broke was later device);
          arm = λ struck. no_stop (ap arm_of (sym same_pair) ∙ struck);
        }

    -- a line `stop ID K P` has struck
    has_struck : (a : Armed) → s.armed ≡ Some a → HasStruck (arm_of broke) from.armed → arm_of broke ≡ Struck
        → GoesDown start new (event_act rule asked) s (numbers node.state.waiting ++ asked) s.failures
    has_struck a is struck stopped =
        let refined = node_shown told means start old from s refines node runs in
        let n = refined.n in
        let turn : rule node.state ≡ rule n = ap rule refined.state in
        let crash = crashed struck in
        let short_n : a.calls < needed (rule n).records = subst (λ (t : Turn). a.calls < 4 * length t.records) turn (short a.calls (lets_some told means mid s.armed lets a is) stopped) in
        let not_le : nat_le (needed (rule n).records) a.calls ≡ false = grind (arith, nat_tests, short_n) in
        let blocked : passes s.armed (needed (rule n).records) ≡ false = ap (λ (o : Option Armed). passes o (needed (rule n).records)) is ∙ not_le in
        let stood = subst (λ (i : List ℕ). Stands told means broke i (persistent_of n) (rule n).records) refined.named
        (subst (λ (m : Node). Stands told means broke m.id (persistent_of m) (rule m).records) refined.state broken.stands) in
        let settle = settled broke new s.id (persistent_of n) (rule n).records refines.tells crash stood in
        let reads = subst (λ (m : Node). CanBeRead (persistent_of m) (rule m).records) refined.state readable in
        record {
          course = striking settle.0;
          next = gone_down s n (persistent_after (persistent_of n) (take settle.0 (rule n).records)) [] asked;
          is = turn_struck s n rule asked broken.first broken.more settle.0 refined.stand (ap (λ (t : Turn). t.records) (sym turn) ∙ broken.some) blocked;
          id = refl;
          armed = refl;
          lost = ap (λ (m : Node). s.lost ++ (numbers m.waiting ++ asked)) (sym refined.state);
          counted = refl;
          kept = persistent_after (persistent_of n) (take settle.0 (rule n).records);
          rest = [];
          stand = refl;
          stands = settle.1;
          readable = (readable_after (take settle.0 (rule n).records) (persistent_of n) reads.0 (All-take IsItemReadable settle.0 (rule n).records reads.1), all_none);
          rises = rises_on told means s.failures start mid new was (fewer_on mid broke new later (fewer_crashed broke new crash));
          arm = λ stop. (let e : Off ≡ Struck = sym crash.arm ∙ stop in absurd (cc));
        }
      where
        all_none : All IsItemReadable []
        all_none = All-nil IsItemReadable

    -- of the two, as the program decides
    abbrev pub Fell : Type 0
    Fell = (HasStruck (arm_of broke) from.armed × GoesDown start new (event_act rule asked) s (numbers node.state.waiting ++ asked) s.failures)
        ⊎ ((HasStruck (arm_of broke) from.armed → ⊥) × GoesDown start new (event_act rule asked) s (numbers node.state.waiting ++ asked) (s.failures + 1))

    no_line : s.armed ≡ None → arm_of broke ≡ Struck → ⊥
    no_line none struck =
        let less : 2 ^ 64 - 1 < 4 * length (rule node.state).records = short (2 ^ 64 - 1) (subst (λ (o : Option Armed). LetsPass told means mid o) none lets) struck in
        omega (arith, less, small)

    device_of : (arm_of broke ≡ Struck → ⊥) → DeviceRose means mid broke
    device_of unstruck = by spent.cause
      where
        by : Cause means true mid broke → DeviceRose means mid broke
        by (inl device) = device
        by (inr own) = absurd (unstruck own.1)

    pub fell : Fell
    fell = by from.armed refl (arm_of broke) refl
      where
        others : (a : Arming) → from.armed ≡ Some a → (arm_of broke ≡ Struck → ⊥) → Fell
        others a some no_stop =
            let not_struck : HasStruck (arm_of broke) from.armed → ⊥ = subst (λ (o : Option Arming). HasStruck (arm_of broke) o → ⊥) (sym some) no_stop in
            inr (not_struck, has_failed not_struck no_stop (device_of no_stop))

        by : (o : Option Arming) → from.armed ≡ o → (m : Arm) → arm_of broke ≡ m → Fell
        by None none m is =
            let line : s.armed ≡ None = refines.armed ∙ ap armed_of none in
            let never : HasStruck (arm_of broke) from.armed → ⊥ = subst (λ (o : Option Arming). HasStruck (arm_of broke) o → ⊥) (sym none) (λ nothing. nothing) in
            inr (never, has_failed never (no_line line) (device_of (no_line line)))
        by (Some a) some Struck is =
            let struck : HasStruck (arm_of broke) from.armed = subst (λ (o : Option Arming). HasStruck (arm_of broke) o) (sym some) is in
            inl (struck, has_struck (record { calls = a.calls; pick = a.pick }) (refines.armed ∙ ap armed_of some) struck is)
        by (Some a) some Off is = let free : arm_of broke ≡ Struck → ⊥ = λ e. (let f : Off ≡ Struck = sym is ∙ e in absurd (cc)) in others a some free
        by (Some a) some (Passes k) is = let free : arm_of broke ≡ Struck → ⊥ = λ e. (let f : Passes k ≡ Struck = sym is ∙ e in absurd (cc)) in others a some free

    -- what the program says of the node that has gone down
    abbrev pub Told : {T E : Type 0} → Result T E → Host → List ℕ → List ℕ → Type 0
    Told r to before text =
        OnOk r (to.id ≡ from.id) × OnOk r (to.node ≡ None) × OnOk r (to.armed ≡ None) × OnOk r (to.lost.items ≡ from.lost.items ++ (numbers node.state.waiting ++ asked)) × OnOk r (text ≡ before ++ down_text from.id)
        × (HasStruck (arm_of broke) from.armed → OnOk r (to.failures ≡ from.failures)) × ((HasStruck (arm_of broke) from.armed → ⊥) → OnOk r (to.failures ≡ from.failures + 1))

    pub fell_goes : {T E : Type 0} (r : Result T E) (to : Host) (before text : List ℕ) → Told r to before text
        → OnOk r ((course : Course) × RefinesServer told means start new to (event_act rule asked course s).0 × (text ≡ before ++ (event_act rule asked course s).1))
    fell_goes {T} {E} r to before text t = by fell
      where
        Goal : Type 0
        Goal = (course : Course) × RefinesServer told means start new to (event_act rule asked course s).0 × (text ≡ before ++ (event_act rule asked course s).1)

        waiting : List ℕ
        waiting = numbers node.state.waiting ++ asked

        finish : (failures : ℕ) → GoesDown start new (event_act rule asked) s waiting failures → OnOk r (to.failures ≡ failures) → OnOk r Goal
        finish failures g counted = at r t.0 t.1 t.2 t.3 t.4 counted
          where
            at : (r : Result T E) → OnOk r (to.id ≡ from.id) → OnOk r (to.node ≡ None) → OnOk r (to.armed ≡ None) → OnOk r (to.lost.items ≡ from.lost.items ++ waiting) → OnOk r (text ≡ before ++ down_text from.id) → OnOk r (to.failures ≡ failures) → OnOk r Goal
            at (Ok x) id none armed lost text_is failed = down_goes start new (event_act rule asked) s from to waiting before text failures refines.tells g refines.id refines.lost id none armed lost failed text_is
            at (Err e) id none armed lost text_is failed = tt

        counts : (k : ℕ) → OnOk r (to.failures ≡ from.failures + k) → OnOk r (to.failures ≡ s.failures + k)
        counts k holds = on_ok_map r (to.failures ≡ from.failures + k) (to.failures ≡ s.failures + k) (λ e. e ∙ ap (λ (n : ℕ). n + k) (sym refines.failures)) holds

        by : Fell → OnOk r Goal
        by (inl (struck, g)) = finish s.failures g (on_ok_map r (to.failures ≡ from.failures) (to.failures ≡ s.failures) (λ e. e ∙ sym refines.failures) (t.5 struck))
        by (inr (never, g)) = finish (s.failures + 1) g (counts 1 (t.6 never))

    pub fell_breaks : (reached : Server) × ((reached ≡ s) ⊎ ((course : Course) × (reached ≡ (event_act rule asked course s).0))) × ServerStands told means start new (Some reached)
    fell_breaks = by fell
      where
        by : Fell → (reached : Server) × ((reached ≡ s) ⊎ ((course : Course) × (reached ≡ (event_act rule asked course s).0))) × ServerStands told means start new (Some reached)
        by (inl (struck, g)) = down_breaks start new (event_act rule asked) s (numbers node.state.waiting ++ asked) s.failures g
        by (inr (never, g)) = down_breaks start new (event_act rule asked) s (numbers node.state.waiting ++ asked) (s.failures + 1) g

  -- ---- for every start

  pub goes_of : {T E : Type 0} (r : Result T E) (act : Act) (old new : DiskPair D F) (from to : Host) (before after : List ℕ)
      → ((start : DiskPair D F) (s : Server) → RefinesServer told means start old from s → OnOk r ((course : Course) × RefinesServer told means start new to (act course s).0 × (after ≡ before ++ (act course s).1)))
      → OnOk r (Goes told means act old new from to before after)
  goes_of {T} {E} r act old new from to before after all = by r all
    where
      by : (r : Result T E) → ((start : DiskPair D F) (s : Server) → RefinesServer told means start old from s → OnOk r ((course : Course) × RefinesServer told means start new to (act course s).0 × (after ≡ before ++ (act course s).1)))
          → OnOk r (Goes told means act old new from to before after)
      by (Ok x) all = all
      by (Err e) all = tt

  -- a node that keeps what it kept stands for the server as it was
  pub turn_stands : LogsStand F means → (start old : DiskPair D F) (from : Host) (s : Server) (refines : RefinesServer told means start old from s) (new : DiskPair D F) (node after : RunningNode)
      → from.node ≡ Some node → KeepsPersistent node.state after.state → IsOpen told means new after → NoFewer told means old new → ServerStands told means start new (Some s)
  turn_stands law start old from s refines new node after runs kept opened later =
      let refined = node_shown told means start old from s refines node runs in
      let stood : Stands told means new s.id (persistent_of refined.n) [] = subst (λ (i : List ℕ). Stands told means new i (persistent_of refined.n) []) refined.named
      (subst (λ (m : Node). Stands told means new m.id (persistent_of m) []) refined.state
      (subst (λ (k : Persistent). Stands told means new node.state.id k []) kept.persistent
      (subst (λ (i : List ℕ). Stands told means new i (persistent_of after.state) []) kept.id (open_stands told means law new after opened)))) in
      (subst (λ (st : Stand). StandsAs told means new s.id st) (sym refined.stand) stood, rises_on told means s.failures start old new refines.rises later)

  -- only the arming has changed
  pub server_same : (start old new : DiskPair D F) (s : Server) → SameDisks old new → ServerStands told means start old (Some s) → ServerStands told means start new (Some s)
  server_same start old new s same (stands, rises) = (by s.stand stands, rises_on told means s.failures start old new rises (fewer_same told means old new same))
    where
      by : (st : Stand) → StandsAs told means old s.id st → StandsAs told means new s.id st
      by (Running n) there = stands_same told means old new s.id (persistent_of n) [] same there
      by (Down kept rest) there = stands_same told means old new s.id kept rest same there

-- what want of memory leaves keeps what the node kept
pub left_kept : (e : Event) (old new : Node) → IsLeft e old new → KeepsPersistent old new
left_kept (event.Execute number items) old new is = record { id = ap (λ (n : Node). n.id) is; persistent = ap persistent_of is }
left_kept (event.Query number items) old new is = record { id = ap (λ (n : Node). n.id) is; persistent = ap persistent_of is }
left_kept event.Elect old new is = record { id = ap (λ (n : Node). n.id) is; persistent = ap persistent_of is }
left_kept event.Apply old new is = is
