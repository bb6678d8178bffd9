-- Turns at the node of a server.
use Rattle.std.proofs.Common.{◌≡◌, ◌≤◌, ◌+◌, ◌-◌, ◌*◌, ◌^◌, ℕ, Bool, List, [], ◌∷◌, ◌++◌, length, take, Option, Some, None, is_some, true, false, refl, sym, ◌∙◌, ap, subst, arith}
use Rattle.std.specs.Prelude.{SomeIff}
use Rattle.std.proofs.lemmas.Bool.Decides.{nat_tests}
use Rattle.std.proofs.lemmas.List.{append-nil}
use Rattle.rq_outside.specs.declared.pair.DiskPair.{DiskPair}
use Rattle.rq_outside.specs.declared.pair.Arm.{Arm}
use Rattle.rq_outside.specs.declared.pair.Arm.TheVariants.{Passes, Struck}
use Rattle.rq_outside.specs.Disk.{DiskMeaning}
use Rattle.rq_outside.specs.Pair.{arm_of, UsedCalls}
use Rattle.rq_wal.specs.Spends.{Spends}
use Rattle.rq_node.specs.declared.node.Node.{Node as RunningNode}
use Rattle.rq_node.specs.Node.{Node, Persistent, StoredRecord, Turn, persistent_of, persistent_after}
use Rattle.rq_node.specs.Recovery.{IsOpen, Stands, CanBeRead}
use Rattle.rq_script.specs.Cluster.{Stand, Running, Down, Armed, Server, Course, NoFault, Storing, Fate, Done, Struck as HasStruck, fate, fate_of, ended, needed, passes, left_after, happens, happens_at, gone_down, whole}
use Rattle.rq_script.specs.ScriptText.{answers_text, down_text}
use Rattle.rq_cluster.specs.Acting.{event}
use Rattle.rq_cluster.specs.declared.arming.Arming.{Arming}
use Rattle.rq_cluster.specs.declared.host.Host.{Host}
use Rattle.rq_cluster.specs.Refines.{RefinesServer, RefinesStand, IsArmed, LetsPass, armed_of}
use Rattle.rq_cluster.proofs.Pairs.{fewer_spent, SameDisks, NoFewer, fewer_same, rises_on, stands_same}

-- ---- what a turn makes of a server

pub happens_running : (course : Course) (s : Server) (n : Node) (rule : Node → Turn) (asked : List ℕ) → s.stand ≡ Running n
    → happens_at course s rule asked ≡ happens course (record s { stand = Running n }) n (rule n) asked
happens_running course s n rule asked is = ap (λ (st : Stand). happens_at course (record s { stand = st }) rule asked) is

pub happens_down : (course : Course) (s : Server) (kept : Persistent) (rest : List StoredRecord) (rule : Node → Turn) (asked : List ℕ) → s.stand ≡ Down kept rest
    → happens_at course s rule asked ≡ (record s { lost = s.lost ++ asked }, [])
happens_down course s kept rest rule asked is =
    ap (λ (st : Stand). happens_at course (record s { stand = st }) rule asked) is
    ∙ ap (λ (st : Stand). (record s { stand = st; lost = s.lost ++ asked }, [])) (sym is)

fate_done : (armed : Option Armed) (items : List StoredRecord) → passes armed (needed items) ≡ true → fate whole armed items ≡ Done
fate_done armed [] passing = refl
fate_done armed (item ∷ items) passing = ap (λ (b : Bool). fate_of NoFault b) passing

pub turn_done : (s : Server) (n : Node) (rule : Node → Turn) (asked : List ℕ) → s.stand ≡ Running n → passes s.armed (needed (rule n).records) ≡ true
    → happens_at whole s rule asked ≡ (record s { stand = Running (rule n).node; armed = left_after s.armed (needed (rule n).records) }, answers_text (rule n).answers)
turn_done s n rule asked is passing =
    happens_running whole s n rule asked is
    ∙ ap (λ (f : Fate). ended f whole (record s { stand = Running n }) n (rule n) asked) (fate_done s.armed (rule n).records passing)

-- a disk fails while something is stored
pub failing : Course
failing = record { fault = Storing; stands = 0 }

pub turn_failed : (s : Server) (n : Node) (rule : Node → Turn) (asked : List ℕ) (first : StoredRecord) (more : List StoredRecord) → s.stand ≡ Running n → (rule n).records ≡ first ∷ more
    → happens_at failing s rule asked ≡ (record (gone_down s n (persistent_of n) (rule n).records asked) { failures = s.failures + 1 }, down_text s.id)
unfolding failing
turn_failed s n rule asked first more is some =
    happens_running failing s n rule asked is
    ∙ ap (λ (f : Fate). ended f failing (record s { stand = Running n }) n (rule n) asked) (ap (λ (d : List StoredRecord). fate failing s.armed d) some)

-- a line `stop ID K P` strikes, and so many things stand
pub striking : ℕ → Course
striking k = record { fault = NoFault; stands = k }

pub turn_struck : (s : Server) (n : Node) (rule : Node → Turn) (asked : List ℕ) (first : StoredRecord) (more : List StoredRecord) (k : ℕ) → s.stand ≡ Running n → (rule n).records ≡ first ∷ more
    → passes s.armed (needed (rule n).records) ≡ false
    → happens_at (striking k) s rule asked ≡ (gone_down s n (persistent_after (persistent_of n) (take k (rule n).records)) [] asked, down_text s.id)
unfolding striking
turn_struck s n rule asked first more k is some short =
    let d = ap (λ (d : List StoredRecord). fate (striking k) s.armed d) some in
    let b : fate_of NoFault (passes s.armed (needed (first ∷ more))) ≡ HasStruck = ap (λ (b : Bool). fate_of NoFault b) (ap (λ (d : List StoredRecord). passes s.armed (needed d)) (sym some) ∙ short) in
    happens_running (striking k) s n rule asked is
    ∙ ap (λ (f : Fate). ended f (striking k) (record s { stand = Running n }) n (rule n) asked) (d ∙ b)

-- ---- calls

pub used_passes : (armed : Option Armed) (k : ℕ) (mid new : Arm) → ((a : Armed) → armed ≡ Some a → mid ≡ Passes a.calls) → UsedCalls k mid new → passes armed k ≡ true
used_passes None k mid new let_ used = refl
used_passes (Some a) k mid new let_ used = let u : (k ≤ a.calls) × (new ≡ Passes (a.calls - k)) = subst (λ (m : Arm). UsedCalls k m new) (let_ a refl) used in grind (arith, nat_tests, u.0)

module _ {D F : Type 0} (told : Bool) (means : D → DiskMeaning) where
  pub lets_some : (pair : DiskPair D F) (armed : Option Armed) → LetsPass told means pair armed → (a : Armed) → armed ≡ Some a → arm_of pair ≡ Passes a.calls
  lets_some pair armed lets a is = subst (λ (o : Option Armed). LetsPass told means pair o) is lets

  pub lets_passes : (mid new : DiskPair D F) (armed : Option Armed) (k : ℕ) → LetsPass told means mid armed → UsedCalls k (arm_of mid) (arm_of new) → passes armed k ≡ true
  lets_passes mid new armed k lets used = used_passes armed k (arm_of mid) (arm_of new) (lets_some mid armed lets) used

  pub arm_left : (mid new : DiskPair D F) (armed : Option Armed) (k : ℕ) → LetsPass told means mid armed → UsedCalls k (arm_of mid) (arm_of new) → IsArmed told means new (left_after armed k)
  arm_left mid new None k lets used = λ struck.
      let u : (k ≤ 2 ^ 64 - 1) × (arm_of new ≡ Passes (2 ^ 64 - 1 - k)) = subst (λ (m : Arm). UsedCalls k m (arm_of new)) lets used in
      let e : Passes (2 ^ 64 - 1 - k) ≡ Struck = sym u.1 ∙ struck in absurd (cc)
  arm_left mid new (Some a) k lets used = (subst (λ (m : Arm). UsedCalls k m (arm_of new)) lets used).1

  is_let : (mid : DiskPair D F) (armed : Option Armed) → LetsPass told means mid armed → IsArmed told means mid armed
  is_let mid None lets = λ struck. (let e : Passes (2 ^ 64 - 1) ≡ Struck = sym lets ∙ struck in absurd (cc))
  is_let mid (Some a) lets = lets

  -- ---- the node that a host refines

  module _ (start old : DiskPair D F) (from : Host) (s : Server) (refines : RefinesServer told means start old from s) where
    pub record IsNode (node : RunningNode) : Type 0 where
      pub n : Node
      pub stand : s.stand ≡ Running n
      pub state : node.state ≡ n
      pub named : n.id ≡ s.id
      pub opened : IsOpen told means old node

    pub node_shown : (node : RunningNode) → from.node ≡ Some node → IsNode node
    node_shown node runs = by s.stand refl (subst (λ (o : Option RunningNode). RefinesStand told means old s.id o s.stand) runs refines.stand)
      where
        by : (st : Stand) → s.stand ≡ st → RefinesStand told means old s.id (Some node) st → IsNode node
        by (Running n) is (state, named, opened) = record { n = n; stand = is; state = state; named = named; opened = opened }
        by (Down kept rest) is nothing = absurd nothing

    pub record IsDown : Type 0 where
      pub kept : Persistent
      pub rest : List StoredRecord
      pub stand : s.stand ≡ Down kept rest
      pub stands : Stands told means old s.id kept rest
      pub readable : CanBeRead kept rest

    pub down_shown : from.node ≡ None → IsDown
    down_shown none = by s.stand refl (subst (λ (o : Option RunningNode). RefinesStand told means old s.id o s.stand) none refines.stand)
      where
        by : (st : Stand) → s.stand ≡ st → RefinesStand told means old s.id None st → IsDown
        by (Running n) is nothing = absurd nothing
        by (Down kept rest) is (stands, readable) = record { kept = kept; rest = rest; stand = is; stands = stands; readable = readable }

    -- the turn was done
    module _ (mid new : DiskPair D F) (to : Host) (node after : RunningNode) (rule : Node → Turn) (asked : List ℕ) (count : ℕ) (before text : List ℕ)
        (same : SameDisks old mid) (lets : LetsPass told means mid s.armed) (spent : Spends means (4 * length (rule node.state).records) false mid new)
        (runs : from.node ≡ Some node) (id : to.id ≡ from.id) (lost : to.lost ≡ from.lost) (failures : to.failures ≡ from.failures)
        (armed : armed_of to.armed ≡ left_after (armed_of from.armed) (4 * count)) (runs_on : to.node ≡ Some after)
        (state : after.state ≡ (rule node.state).node) (count_is : count ≡ length (rule node.state).records) (named : (rule node.state).node.id ≡ node.state.id)
        (opened : IsOpen told means new after) (text_is : text ≡ before ++ answers_text (rule node.state).answers) where
      pub turn_goes : (course : Course) × RefinesServer told means start new to (event rule asked course s).0 × (text ≡ before ++ (event rule asked course s).1)
      turn_goes =
          let refined = node_shown node runs in
          let n = refined.n in
          let turn : rule node.state ≡ rule n = ap rule refined.state in
          let k : 4 * count ≡ needed (rule n).records = ap (λ (c : ℕ). 4 * c) (count_is ∙ ap (λ (t : Turn). length t.records) turn) in
          let used : UsedCalls (needed (rule n).records) (arm_of mid) (arm_of new) = subst (λ (t : Turn). UsedCalls (4 * length t.records) (arm_of mid) (arm_of new)) turn spent.arm in
          let done = turn_done s n rule asked refined.stand (lets_passes mid new s.armed (needed (rule n).records) lets used) in
          let next : Server = record s { stand = Running (rule n).node; armed = left_after s.armed (needed (rule n).records) } in
          let is_armed : left_after s.armed (needed (rule n).records) ≡ armed_of to.armed =
          ap (λ (c : ℕ). left_after s.armed c) (sym k) ∙ ap (λ (a : Option Armed). left_after a (4 * count)) refines.armed ∙ sym armed in
          let there : RefinesStand told means new s.id to.node (Running (rule n).node) =
          subst (λ (o : Option RunningNode). RefinesStand told means new s.id o (Running (rule n).node)) (sym runs_on)
          (state ∙ ap (λ (t : Turn). t.node) turn, subst (λ (m : Node). (rule m).node.id ≡ m.id) refined.state named ∙ refined.named, opened) in
          let refines_next : RefinesServer told means start new to next = record {
            tells = refines.tells;
            id = refines.id ∙ sym id;
            lost = refines.lost ∙ ap (λ l. l.items) (sym lost);
            failures = refines.failures ∙ sym failures;
            armed = is_armed;
            arm = arm_left mid new s.armed (needed (rule n).records) lets used;
            rises = rises_on told means s.failures start mid new (rises_on told means s.failures start old mid refines.rises (fewer_same told means old mid same)) (fewer_spent told means (4 * length (rule node.state).records) false mid new spent);
            stand = there;
            spent = λ none. (let e = sym runs_on ∙ none in absurd (cc));
          } in
          let so : RefinesServer told means start new to (event rule asked whole s).0 × (text ≡ before ++ (event rule asked whole s).1) =
          subst (λ (t : Server × List ℕ). RefinesServer told means start new to t.0 × (text ≡ before ++ t.1)) (sym done) (refines_next, text_is ∙ ap (λ (t : Turn). before ++ answers_text t.answers) turn) in
          (whole, so.0, so.1)

    pub lets_of : (mid : DiskPair D F) → (IsArmed told means old (armed_of from.armed) → LetsPass told means mid (armed_of from.armed)) → LetsPass told means mid s.armed
    lets_of mid passing =
        subst (λ (a : Option Armed). LetsPass told means mid a) (sym refines.armed) (passing (subst (λ (a : Option Armed). IsArmed told means old a) refines.armed refines.arm))

    -- an event at a node that is down
    pub idle_goes : (mid : DiskPair D F) (to : Host) (rule : Node → Turn) (asked before : List ℕ) → SameDisks old mid → LetsPass told means mid s.armed → from.node ≡ None
        → to.id ≡ from.id → to.lost.items ≡ from.lost.items ++ asked → to.failures ≡ from.failures → to.armed ≡ from.armed → to.node ≡ None
        → (course : Course) × RefinesServer told means start mid to (event rule asked course s).0 × (before ≡ before ++ (event rule asked course s).1)
    idle_goes mid to rule asked before same lets none id lost failures armed none_to =
        let down = down_shown none in
        let next : Server = record s { lost = s.lost ++ asked } in
        let there : RefinesStand told means mid s.id to.node s.stand =
        subst (λ (o : Option RunningNode). RefinesStand told means mid s.id o s.stand) (sym none_to)
        (subst (λ (st : Stand). RefinesStand told means mid s.id None st) (sym down.stand) (stands_same told means old mid s.id down.kept down.rest same down.stands, down.readable)) in
        let refines_next : RefinesServer told means start mid to next = record {
          tells = refines.tells;
          id = refines.id ∙ sym id;
          lost = ap (λ (l : List ℕ). l ++ asked) refines.lost ∙ sym lost;
          failures = refines.failures ∙ sym failures;
          armed = refines.armed ∙ ap armed_of (sym armed);
          arm = is_let mid s.armed lets;
          rises = rises_on told means s.failures start old mid refines.rises (fewer_same told means old mid same);
          stand = there;
          spent = λ _. refines.spent none;
        } in
        let so : RefinesServer told means start mid to (event rule asked whole s).0 × (before ≡ before ++ (event rule asked whole s).1) =
        subst (λ (t : Server × List ℕ). RefinesServer told means start mid to t.0 × (before ≡ before ++ t.1)) (sym (happens_down whole s down.kept down.rest rule asked down.stand))
        (refines_next, sym (append-nil before)) in
        (whole, so.0, so.1)

-- ---- options

pub some_of : {A : Type 0} (o : Option A) → is_some o ≡ true → (a : A) × (o ≡ Some a)
some_of None is = absurd (cc)
some_of (Some a) is = (a, refl)

pub none_of : {A : Type 0} (o : Option A) → is_some o ≡ false → o ≡ None
none_of None is = refl
none_of (Some a) is = absurd (cc)

pub unarmed_of : (o : Option Arming) → armed_of o ≡ None → o ≡ None
unarmed_of None is = refl
unarmed_of (Some a) is = absurd (cc)

pub the_some : {T : Type 0} (o : Option T) (x v : T) (P : Type 0) → o ≡ Some x → SomeIff o P v → x ≡ v
the_some {T} o x v P is iff = (subst (λ (p : Option T). SomeIff p P v) is iff).1
