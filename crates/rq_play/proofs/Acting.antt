-- What an act changes: one server, and what was sent.
use Rattle.std.proofs.Common.{◌≡◌, ◌≢◌, ℕ, Bool, true, false, if◌then◌else◌, List, [], ◌++◌, take, refl, sym, ap, ◌∙◌}
use Rattle.std.proofs.lemmas.List.{append-nil}
use Rattle.rq_wire.specs.declared.config.Member.{Member}
use Rattle.rq_history.specs.History.{NodeId}
use Rattle.rq_raft.specs.Node.{StoredRecord, Persistent, persistent_after, one_of}
use Rattle.rq_world.specs.declared.log_entry.LogEntry.{LogEntry}
use Rattle.rq_world.specs.Node.{Node, Turn, persistent_of, members}
use Rattle.rq_world.specs.Rules.{started}
use Rattle.rq_world.specs.World.{World, NodeState, Running, Down, Act, Idle, act, set_node, happens_at, stops_at, fails_at, starts_at, fails_start, happens}
use Rattle.rq_world.specs.World as world
use Rattle.rq_play.specs.Server.{Extra, Server, Course, Fault, NoFault, Reading, Storing, Fate, Done, Struck, Failed, fate, gone_down, ended, moves, event_by, event_of, failed_once, opens, opening}
use Rattle.rq_play.specs.Cluster.{now, state_in, set_extra, moved_in, goes_if}
use Rattle.rq_play.specs.Promise.{ChangesOne, EachActIsAtOne, EachStartIsAtOne, EachStopIsAtOne}
use Rattle.rq_play.proofs.Common.{id_self, id_false}

-- ---- one node of the world

module _ (first : List Member) (w : World) (i : NodeId) where
  set_same : (s : NodeState) → set_node first w.nodes i s i ≡ s
  set_same s = ap (λ (b : Bool). if b then s else w.nodes i) (id_self i)

  set_other : (s : NodeState) (j : NodeId) → j ≢ i → set_node first w.nodes i s j ≡ w.nodes j
  set_other s j apart = ap (λ (b : Bool). if b then s else w.nodes j) (id_false j i apart)

  at_other : (a : Act) (s : NodeState) (j : NodeId) → j ≢ i → (happens_at first w i a s).nodes j ≡ w.nodes j
  at_other a (Down kept rest) j apart = refl
  at_other a (Running n) j apart = set_other (Running (act first w.sent w.moment n a).node) j apart

  stop_other : (a : Act) (k : ℕ) (s : NodeState) (j : NodeId) → j ≢ i → (stops_at first w i a k s).nodes j ≡ w.nodes j
  stop_other a k (Down kept rest) j apart = refl
  stop_other a k (Running n) j apart = set_other (Down (persistent_after (persistent_of n) (take k (act first w.sent w.moment n a).stored)) []) j apart

  fail_other : (a : Act) (s : NodeState) (j : NodeId) → j ≢ i → (fails_at first w i a s).nodes j ≡ w.nodes j
  fail_other a (Down kept rest) j apart = refl
  fail_other a (Running n) j apart = set_other (Down (persistent_of n) (act first w.sent w.moment n a).stored) j apart

  at_moment : (a : Act) (s : NodeState) → (happens_at first w i a s).moment ≡ w.moment
  at_moment a (Down kept rest) = refl
  at_moment a (Running n) = refl

  stop_moment : (a : Act) (k : ℕ) (s : NodeState) → (stops_at first w i a k s).moment ≡ w.moment
  stop_moment a k (Down kept rest) = refl
  stop_moment a k (Running n) = refl

  fail_moment : (a : Act) (s : NodeState) → (fails_at first w i a s).moment ≡ w.moment
  fail_moment a (Down kept rest) = refl
  fail_moment a (Running n) = refl

  module _ (course : Course) (a : Act) (extra : Extra) where
    abbrev rule : Node → Turn
    rule n = act first w.sent w.moment n a

    ended_here : (n : Node) → w.nodes i ≡ Running n → (f : Fate) → (happens first w (event_by first f course i a)).nodes i ≡ (ended first f course i a extra n (rule n)).server.state
    ended_here n is Done = ap (λ (s : NodeState). (happens_at first w i a s).nodes i) is ∙ set_same (Running (rule n).node)
    ended_here n is Struck = ap (λ (s : NodeState). (stops_at first w i a course.stands s).nodes i) is ∙ set_same (Down (persistent_after (persistent_of n) (take course.stands (rule n).stored)) [])
    ended_here n is Failed = ap (λ (s : NodeState). (fails_at first w i a s).nodes i) is ∙ set_same (Down (persistent_of n) (rule n).stored)

    ended_sends : (n : Node) → w.nodes i ≡ Running n → (f : Fate) → (happens first w (event_by first f course i a)).sent ≡ w.sent ++ (ended first f course i a extra n (rule n)).packets
    ended_sends n is Done = ap (λ (s : NodeState). (happens_at first w i a s).sent) is
    ended_sends n is Struck = ap (λ (s : NodeState). (stops_at first w i a course.stands s).sent) is ∙ sym (append-nil w.sent)
    ended_sends n is Failed = ap (λ (s : NodeState). (fails_at first w i a s).sent) is ∙ sym (append-nil w.sent)

    here : (s : NodeState) → w.nodes i ≡ s → (happens first w (event_of first course i a rule extra s)).nodes i ≡ (moves first course i a rule extra s).server.state
    here (Down kept rest) is = ap (λ (s : NodeState). (happens_at first w i a s).nodes i) is ∙ is
    here (Running n) is = ended_here n is (fate course extra.armed (rule n).stored)

    sends : (s : NodeState) → w.nodes i ≡ s → (happens first w (event_of first course i a rule extra s)).sent ≡ w.sent ++ (moves first course i a rule extra s).packets
    sends (Down kept rest) is = ap (λ (s : NodeState). (happens_at first w i a s).sent) is ∙ sym (append-nil w.sent)
    sends (Running n) is = ended_sends n is (fate course extra.armed (rule n).stored)

    by_other : (f : Fate) (j : NodeId) → j ≢ i → (happens first w (event_by first f course i a)).nodes j ≡ w.nodes j
    by_other Done j apart = at_other a (w.nodes i) j apart
    by_other Struck j apart = stop_other a course.stands (w.nodes i) j apart
    by_other Failed j apart = fail_other a (w.nodes i) j apart

    others : (s : NodeState) (j : NodeId) → j ≢ i → (happens first w (event_of first course i a rule extra s)).nodes j ≡ w.nodes j
    others (Down kept rest) j apart = at_other a (w.nodes i) j apart
    others (Running n) j apart = by_other (fate course extra.armed (rule n).stored) j apart

    by_moment : (f : Fate) → (happens first w (event_by first f course i a)).moment ≡ w.moment
    by_moment Done = at_moment a (w.nodes i)
    by_moment Struck = stop_moment a course.stands (w.nodes i)
    by_moment Failed = fail_moment a (w.nodes i)

    moment_is : (s : NodeState) → (happens first w (event_of first course i a rule extra s)).moment ≡ w.moment
    moment_is (Down kept rest) = at_moment a (w.nodes i)
    moment_is (Running n) = by_moment (fate course extra.armed (rule n).stored)

-- ---- a cluster

server_is : (s t : NodeState) (x y : Extra) → s ≡ t → x ≡ y → ◌≡◌ {A = Server} (record { state = s; extra = x }) (record { state = t; extra = y })
server_is s t x y e f = ap (λ (u : NodeState). record { state = u; extra = x }) e ∙ ap (λ (z : Extra). record { state = t; extra = z }) f

pub extra_same : (extras : NodeId → Extra) (i : NodeId) (x : Extra) → set_extra extras i x i ≡ x
extra_same extras i x = ap (λ (b : Bool). if b then x else extras i) (id_self i)

pub extra_other : (extras : NodeId → Extra) (i : NodeId) (x : Extra) (j : NodeId) → j ≢ i → set_extra extras i x j ≡ extras j
extra_other extras i x j apart = ap (λ (b : Bool). if b then x else extras j) (id_false j i apart)

pub each_act : EachActIsAtOne
each_act course c i a = record {
  here = server_is _ _ _ _ (here c.first (now c) i course a (c.extras i) (state_in c i) refl) (extra_same c.extras i (moved_in course c i a).server.extra);
  others = λ j apart. server_is _ _ _ _ (others c.first (now c) i course a (c.extras i) (state_in c i) j apart) (extra_other c.extras i (moved_in course c i a).server.extra j apart);
  sent = sends c.first (now c) i course a (c.extras i) (state_in c i) refl;
  moment = moment_is c.first (now c) i course a (c.extras i) (state_in c i);
  servers = refl;
  first = refl;
  taken = refl;
  asks = refl;
  shapes = refl;
  words = refl;
}

-- ---- starts and stops

module _ (first : List Member) (w : World) (i : NodeId) where
  start_here : (k : ℕ) (kept : Persistent LogEntry) (rest : List (StoredRecord LogEntry)) → w.nodes i ≡ Down kept rest → one_of (members first) i ≡ true
      → (happens first w (world.Start i k)).nodes i ≡ Running (started first i (persistent_after kept (take k rest))).node
  start_here k kept rest is member =
      ap (λ (b : Bool). (if b then starts_at first w i k (w.nodes i) else w).nodes i) member
      ∙ ap (λ (s : NodeState). (starts_at first w i k s).nodes i) is
      ∙ set_same first w i (Running (started first i (persistent_after kept (take k rest))).node)

  start_other : (k : ℕ) (s : NodeState) (b : Bool) (j : NodeId) → j ≢ i → (if b then starts_at first w i k s else w).nodes j ≡ w.nodes j
  start_other k s false j apart = refl
  start_other k (Running n) true j apart = refl
  start_other k (Down kept rest) true j apart = set_other first w i (Running (started first i (persistent_after kept (take k rest))).node) j apart

  start_sends : (k : ℕ) (s : NodeState) (b : Bool) → (if b then starts_at first w i k s else w).sent ≡ w.sent ++ []
  start_sends k s false = sym (append-nil w.sent)
  start_sends k (Running n) true = sym (append-nil w.sent)
  start_sends k (Down kept rest) true = sym (append-nil w.sent)

  start_moment : (k : ℕ) (s : NodeState) (b : Bool) → (if b then starts_at first w i k s else w).moment ≡ w.moment
  start_moment k s false = refl
  start_moment k (Running n) true = refl
  start_moment k (Down kept rest) true = refl

  abbrev unstarted : ℕ → Persistent LogEntry → List (StoredRecord LogEntry) → NodeState
  unstarted k kept rest = Down (persistent_after kept (take k rest)) (started first i (persistent_after kept (take k rest))).stored

  failed_here : (k : ℕ) (kept : Persistent LogEntry) (rest : List (StoredRecord LogEntry)) → w.nodes i ≡ Down kept rest → (fails_start first w i k (w.nodes i)).nodes i ≡ unstarted k kept rest
  failed_here k kept rest is = ap (λ (s : NodeState). (fails_start first w i k s).nodes i) is ∙ set_same first w i (unstarted k kept rest)

  failed_other : (k : ℕ) (s : NodeState) (j : NodeId) → j ≢ i → (fails_start first w i k s).nodes j ≡ w.nodes j
  failed_other k (Running n) j apart = refl
  failed_other k (Down kept rest) j apart = set_other first w i (unstarted k kept rest) j apart

  failed_sends : (k : ℕ) (s : NodeState) → (fails_start first w i k s).sent ≡ w.sent ++ []
  failed_sends k (Running n) = sym (append-nil w.sent)
  failed_sends k (Down kept rest) = sym (append-nil w.sent)

  failed_moment : (k : ℕ) (s : NodeState) → (fails_start first w i k s).moment ≡ w.moment
  failed_moment k (Running n) = refl
  failed_moment k (Down kept rest) = refl

  stop_sends : (a : Act) (k : ℕ) (s : NodeState) → (stops_at first w i a k s).sent ≡ w.sent ++ []
  stop_sends a k (Running n) = sym (append-nil w.sent)
  stop_sends a k (Down kept rest) = sym (append-nil w.sent)

pub each_start : EachStartIsAtOne
each_start course c i kept rest is member = by course.fault
  where
    by : (f : Fault) → ChangesOne i (opens c.first f course i (c.extras i) kept rest).0 [] c (goes_if c (opening c.first f course i) i (opens c.first f course i (c.extras i) kept rest).0.extra)
    by NoFault = record {
      here = server_is _ _ _ _ (start_here c.first (now c) i course.stands kept rest is member) (extra_same c.extras i (c.extras i));
      others = λ j apart. server_is _ _ _ _ (start_other c.first (now c) i course.stands (state_in c i) (one_of (members c.first) i) j apart) (extra_other c.extras i (c.extras i) j apart);
      sent = start_sends c.first (now c) i course.stands (state_in c i) (one_of (members c.first) i);
      moment = start_moment c.first (now c) i course.stands (state_in c i) (one_of (members c.first) i);
      servers = refl;
      first = refl;
      taken = refl;
      asks = refl;
      shapes = refl;
      words = refl;
    }
    by Reading = record {
      here = server_is _ _ _ _ is (extra_same c.extras i (failed_once c.first (c.extras i)));
      others = λ j apart. server_is _ _ _ _ refl (extra_other c.extras i (failed_once c.first (c.extras i)) j apart);
      sent = sym (append-nil (now c).sent);
      moment = refl;
      servers = refl;
      first = refl;
      taken = refl;
      asks = refl;
      shapes = refl;
      words = refl;
    }
    by Storing = record {
      here = server_is _ _ _ _ (failed_here c.first (now c) i course.stands kept rest is) (extra_same c.extras i (failed_once c.first (c.extras i)));
      others = λ j apart. server_is _ _ _ _ (failed_other c.first (now c) i course.stands (state_in c i) j apart) (extra_other c.extras i (failed_once c.first (c.extras i)) j apart);
      sent = failed_sends c.first (now c) i course.stands (state_in c i);
      moment = failed_moment c.first (now c) i course.stands (state_in c i);
      servers = refl;
      first = refl;
      taken = refl;
      asks = refl;
      shapes = refl;
      words = refl;
    }

pub each_stop : EachStopIsAtOne
each_stop c i n is = record {
  here = server_is _ _ _ _ (ap (λ (s : NodeState). (stops_at c.first (now c) i Idle 0 s).nodes i) is ∙ set_same c.first (now c) i (Down (persistent_of n) [])) (extra_same c.extras i (gone_down (c.extras i) n Idle));
  others = λ j apart. server_is _ _ _ _ (stop_other c.first (now c) i Idle 0 (state_in c i) j apart) (extra_other c.extras i (gone_down (c.extras i) n Idle) j apart);
  sent = stop_sends c.first (now c) i Idle 0 (state_in c i);
  moment = stop_moment c.first (now c) i Idle 0 (state_in c i);
  servers = refl;
  first = refl;
  taken = refl;
  asks = refl;
  shapes = refl;
  words = refl;
}
