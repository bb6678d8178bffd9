-- A cluster that is refined: the pairs stand for it, it writes what the program writes, and new pairs refine the first one.
use Rattle.std.proofs.Common.{◌≡◌, inl, ◌++◌, ℕ, zero, suc, List, [], ◌∷◌, length, flat_map, Bool, IsTrue, Option, Some, None, is_some, slice_get, refl, sym, ap, subst, ◌∙◌, arith, Ok}
use Rattle.std.specs.Prelude.{⊤}
use Rattle.std.specs.List.{AllByRecursion}
use Rattle.std.proofs.lemmas.List.Elements.{recursion_from_All}
use Rattle.rq_outside.specs.declared.pair.DiskPair.{DiskPair}
use Rattle.rq_outside.specs.Disk.{DiskMeaning}
use Rattle.rq_wal.specs.declared.base.Base.{Base}
use Rattle.rq_wal.specs.declared.base.Stored.{Stored}
use Rattle.rq_wal.specs.declared.file.WalFile.{WalFile}
use Rattle.rq_wal.specs.Current.{IsCurrent, EachImage}
use Rattle.rq_node.specs.declared.node.Node.{Node as RunningNode}
use Rattle.rq_node.specs.Node.{Node, persistent_of}
use Rattle.rq_node.specs.Files.{first_base, stored_of}
use Rattle.rq_node.specs.Recovery.{HasFile, Stands}
use Rattle.rq_script.specs.Cluster.{Stand, Running, Down, Server, Cluster, first_cluster, numbers, waiting_at, unanswered, ending}
use Rattle.rq_script.specs.ScriptText.{pending_text}
use Rattle.rq_cluster.specs.Acting.{waiting_in}
use Rattle.rq_cluster.specs.declared.host.Host.{Host}
use Rattle.rq_cluster.specs.declared.world.World.{World}
use Rattle.rq_cluster.specs.Recovery.{IsNew, Rises, StandsAs, ServerStands, Holds, AreNew}
use Rattle.rq_cluster.specs.Refines.{RefinesStand, RefinesHost, Refines, ServerReady, IsReady, pending_in}

abbrev nth : {T : Type 0} → (T → Type 0) → Option T → Type 0
nth P None = ⊤
nth P (Some z) = P z

one_of : {T : Type 0} (P : T → Type 0) (xs : List T) (k : ℕ) (x : T) → AllByRecursion P xs → slice_get xs k ≡ Some x → P x
one_of P [] k x all at = absurd (cc)
one_of P (y ∷ ys) zero x (first, rest) at = subst (nth P) at first
one_of P (y ∷ ys) (suc k) x (first, rest) at = one_of P ys k x rest at

first_of_nine : {T : Type 0} (xs : List T) → length xs ≡ 9 → (x : T) × (slice_get xs 0 ≡ Some x)
first_of_nine [] count = absurd (omega (arith, count))
first_of_nine (x ∷ xs) count = (x, refl)

module _ {D F : Type 0} (told : Bool) (means : D → DiskMeaning) where
  -- by the law of a log at rest
  module _ (law : (first : Base) (pair : DiskPair D F) (wal : WalFile) (stored : Stored) → IsCurrent means first pair wal stored → EachImage means first pair (λ reading. reading ≡ Ok stored)) where
    open_stands : (pair : DiskPair D F) (id : List ℕ) (n : Node) (file : Option WalFile) → HasFile told means pair id (persistent_of n) file → Stands told means pair id (persistent_of n) []
    open_stands pair id n None none = absurd none
    open_stands pair id n (Some wal) current = λ t one two i1 i2. (0, law (first_base id) pair wal (stored_of id (persistent_of n)) (current t) one two i1 i2)

    stand_stands : (pair : DiskPair D F) (id : List ℕ) (node : Option RunningNode) (stand : Stand) → RefinesStand told means pair id node stand → StandsAs told means pair id stand
    stand_stands pair id None (Down kept rest) (stands, readable) = stands
    stand_stands pair id None (Running n) wrong = absurd wrong
    stand_stands pair id (Some node) (Down kept rest) wrong = absurd wrong
    stand_stands pair id (Some node) (Running n) (is, same, open_file) =
        open_stands pair id n node.file (subst (λ (i : List ℕ). HasFile told means pair i (persistent_of n) node.file) same (subst (λ (m : Node). HasFile told means pair m.id (persistent_of m) node.file) is open_file))

    pub host_stands : (start pair : DiskPair D F) (host : Option Host) (server : Option Server) → RefinesHost told means start pair host server → ServerStands told means start pair server
    host_stands start pair None None (t, new, rises) = (new, rises)
    host_stands start pair None (Some s) wrong = absurd wrong
    host_stands start pair (Some host) None wrong = absurd wrong
    host_stands start pair (Some host) (Some s) refines = (stand_stands pair s.id host.node s.stand refines.stand, refines.rises)

    -- the pairs stand for the cluster that is refined
    pub refines_holds : (start pairs : List (DiskPair D F)) (world : World) (c : Cluster) → Refines told means start pairs world c → Holds told means start pairs c
    refines_holds start pairs world c refines = record {
      count = refines.count;
      first = λ before now b n. host_stands before now world.host c.server (refines.first before now b n).1;
      others = refines.others;
    }

  -- what is refined of the one server
  shown_host : (start pairs : List (DiskPair D F)) (world : World) (c : Cluster) → Refines told means start pairs world c → (before now : DiskPair D F) × RefinesHost told means before now world.host c.server
  shown_host start pairs world c refines =
      let before = first_of_nine start refines.began in
      let now = first_of_nine pairs refines.count in
      (before.0, now.0, (refines.first before.0 now.0 before.1 now.1).1)

  same_waiting : (pair : DiskPair D F) (id : List ℕ) (node : Option RunningNode) (stand : Stand) → RefinesStand told means pair id node stand → waiting_in node ≡ waiting_at stand
  same_waiting pair id None (Down kept rest) refines = refl
  same_waiting pair id None (Running n) wrong = absurd wrong
  same_waiting pair id (Some node) (Down kept rest) wrong = absurd wrong
  same_waiting pair id (Some node) (Running n) refines = ap (λ (m : Node). numbers m.waiting) refines.0

  same_pending : (start pair : DiskPair D F) (host : Option Host) (server : Option Server) → RefinesHost told means start pair host server → pending_in host ≡ unanswered server
  same_pending start pair None None refines = refl
  same_pending start pair None (Some s) wrong = absurd wrong
  same_pending start pair (Some host) None wrong = absurd wrong
  same_pending start pair (Some host) (Some s) refines =
      ap (λ (l : List ℕ). l ++ waiting_in host.node) (sym refines.lost) ∙ ap (λ (l : List ℕ). s.lost ++ l) (same_waiting pair s.id host.node s.stand refines.stand)

  -- what is written at the end
  pub refines_ending : (start pairs : List (DiskPair D F)) (world : World) (c : Cluster) → Refines told means start pairs world c → flat_map pending_text (pending_in world.host) ≡ ending c
  refines_ending start pairs world c refines = let h = shown_host start pairs world c refines in ap (flat_map pending_text) (same_pending h.0 h.1 world.host c.server h.2)

  same_started : (start pair : DiskPair D F) (host : Option Host) (server : Option Server) → RefinesHost told means start pair host server → is_some host ≡ is_some server
  same_started start pair None None refines = refl
  same_started start pair None (Some s) wrong = absurd wrong
  same_started start pair (Some host) None wrong = absurd wrong
  same_started start pair (Some host) (Some s) refines = refl

  -- whether the cluster line was there
  pub refines_started : (start pairs : List (DiskPair D F)) (world : World) (c : Cluster) → Refines told means start pairs world c → is_some world.host ≡ is_some c.server
  refines_started start pairs world c refines = let h = shown_host start pairs world c refines in same_started h.0 h.1 world.host c.server h.2

  pub rises_none : (pair : DiskPair D F) → Rises told means 0 pair pair
  rises_none pair = record { one = omega arith; two = omega arith; rose = inl (omega arith) }

  -- nine new pairs, before the first line
  module _ (pairs : List (DiskPair D F)) (world : World) (new : AreNew told means pairs) (none : world.host ≡ None) where
    new_at : (k : ℕ) (pair : DiskPair D F) → slice_get pairs k ≡ Some pair → IsNew told means pair
    new_at k pair at = one_of (IsNew told means) pairs k pair (recursion_from_All (IsNew told means) pairs new.fresh) at

    pub first_refines : IsTrue told → world.asks ≡ 0 → Refines told means pairs pairs world first_cluster
    first_refines tells asks = record {
      tells = tells;
      began = new.count;
      count = new.count;
      first = λ before now b n. (
        sym asks,
        subst (λ (host : Option Host). RefinesHost told means before now host None) (sym none)
            (tells, new_at 0 now n, subst (λ (p : DiskPair D F). Rises told means 0 p now) (same before now b n) (rises_none now)),
      );
      others = λ k above. refl;
    }
      where
        same : (before now : DiskPair D F) → slice_get pairs 0 ≡ Some before → slice_get pairs 0 ≡ Some now → now ≡ before
        same before now b n = cc

    pub first_ready : IsReady told means pairs world
    first_ready = record { count = new.count; first = λ pair at. subst (λ (host : Option Host). ServerReady told means pair host) (sym none) tt }
