-- Behind an apply line all that was committed is applied.
use Rattle.std.proofs.Common.{◌≡◌, ◌≤◌, ◌<◌, ℕ, zero, suc, ◌+◌, ◌-◌, if◌then◌else◌, Bool, true, false, Option, Some, None, List, [], ◌∷◌, ◌++◌, length, slice_get, refl, sym, ap, ◌∙◌, subst, arith}
use Rattle.std.specs.Prelude.{nat_lt}
use Rattle.std.proofs.lemmas.Bool.Decides.{nat_tests}
use Rattle.rq_wire.specs.declared.config.Member.{Member}
use Rattle.rq_history.specs.History.{NodeId}
use Rattle.rq_raft.specs.Node.{StoredRecord}
use Rattle.rq_world.specs.declared.log_entry.LogEntry.{LogEntry}
use Rattle.rq_world.specs.declared.waiting.Waiting.{Waiting}
use Rattle.rq_world.specs.Node.{Node, Turn, unchanged}
use Rattle.rq_world.specs.Rules.{apply, applied_entry}
use Rattle.rq_world.specs.World.{NodeState, Running, Down}
use Rattle.rq_world.specs.World as world
use Rattle.rq_world.specs.Laws.{CommitsAreWithin}
use Rattle.rq_world.specs.Promise.{IsNumbered}
use Rattle.rq_world.specs.Asks.{EachWaitIsAhead}
use Rattle.rq_play.specs.Line as lines
use Rattle.rq_play.specs.Said.{Said}
use Rattle.rq_play.specs.Server.{Server, Course, Fate, fate, ended, moves}
use Rattle.rq_play.specs.Cluster.{Cluster, now, state_in, Spoken, acts, rule_of, moved_in, is_none, is_named, to_apply, at_server, before_cluster, in_cluster, planned, Prepared, Plan, ran}
use Rattle.rq_play.specs.Runs.{Steps}
use Rattle.rq_play.specs.Promise.{HasApplied}
use Rattle.rq_play.proofs.Common.{if_case}
use Rattle.rq_play.proofs.Acting.{each_act}

-- one entry more is applied, the next one
record IsNext (n m : Node) : Type 0 where
  pub applied : m.raft.applied ≡ n.raft.applied + 1
  pub commit : m.raft.commit ≡ n.raft.commit
  pub log : m.raft.log ≡ n.raft.log

get_some : (log : List LogEntry) (k : ℕ) → k < length log → (e : LogEntry) × (slice_get log k ≡ Some e)
get_some [] k lt = absurd (omega (arith, lt))
get_some (e ∷ log) zero lt = (e, refl)
get_some (e ∷ log) (suc k) lt = get_some log k (omega (arith, lt))

next_applied : (first : List Member) (n : Node) → n.raft.applied < n.raft.commit → n.raft.commit ≤ length n.raft.log → ((apply first n).stored ≡ []) × IsNext n (apply first n).node
next_applied first n lt within =
    let there = get_some n.raft.log n.raft.applied (omega (arith, lt, within)) in
    let below : nat_lt n.raft.applied n.raft.commit ≡ true = grind (arith, nat_tests, lt) in
    let is : apply first n ≡ applied_entry first n (Some there.0) = ap (λ (b : Bool). if b then applied_entry first n (slice_get n.raft.log n.raft.applied) else unchanged n) below ∙ ap (applied_entry first n) there.1 in
    subst (λ (t : Turn). (t.stored ≡ []) × IsNext n t.node) (sym is) (refl, record { applied = refl; commit = refl; log = refl })

-- the step of an apply line, where there is more to apply
step_applied : (course : Course) (c : Cluster) (i : NodeId) (n : Node) → state_in c i ≡ Running n → n.raft.applied < n.raft.commit → n.raft.commit ≤ length n.raft.log → (m : Node) × (state_in (acts course c i world.Apply).0 i ≡ Running m) × IsNext n m
step_applied course c i n is lt within =
    let a = next_applied c.first n lt within in
    let t = apply c.first n in
    let here : state_in (acts course c i world.Apply).0 i ≡ (moved_in course c i world.Apply).server.state = ap (λ (s : Server). s.state) (each_act course c i world.Apply).here in
    let moved : (moved_in course c i world.Apply).server.state ≡ (ended c.first (fate course (c.extras i).armed t.stored) course i world.Apply (c.extras i) n t).server.state
    = ap (λ (s : NodeState). (moves c.first course i world.Apply (rule_of c world.Apply) (c.extras i) s).server.state) is in
    let done : (ended c.first (fate course (c.extras i).armed t.stored) course i world.Apply (c.extras i) n t).server.state ≡ Running t.node
    = ap (λ (items : List (StoredRecord LogEntry)). (ended c.first (fate course (c.extras i).armed items) course i world.Apply (c.extras i) n t).server.state) a.0 in
    (t.node, here ∙ moved ∙ done, a.1)

-- behind so many steps so many entries more are applied
record IsBehind (c : Cluster) (i : NodeId) (n : Node) (count : ℕ) : Type 0 where
  pub node : Node
  pub runs : state_in c i ≡ Running node
  pub applied : node.raft.applied ≡ n.raft.applied + count
  pub commit : node.raft.commit ≡ n.raft.commit
  pub log : node.raft.log ≡ n.raft.log

next_behind : (i : NodeId) (n between m : Node) (count : ℕ) (d : Cluster) → state_in d i ≡ Running m → IsNext between m → between.raft.applied ≡ n.raft.applied + count → between.raft.commit ≡ n.raft.commit → between.raft.log ≡ n.raft.log → IsBehind d i n (suc count)
next_behind i n between m count d runs next applied commit log = record { node = m; runs = runs; applied = omega (arith, next.applied, applied); commit = next.commit ∙ commit; log = next.log ∙ log }

ran_applied : (i : NodeId) (c : Cluster) (n : Node) → state_in c i ≡ Running n → n.raft.commit ≤ length n.raft.log → (courses : List Course) → n.raft.applied + length courses ≤ n.raft.commit
    → IsBehind (ran (λ course k d. acts course d i world.Apply) courses c).0 i n (length courses)
ran_applied i c n is within [] le = record { node = n; runs = is; applied = omega arith; commit = refl; log = refl }
ran_applied i c n is within (course ∷ earlier) le =
    let h = ran_applied i c n is within earlier (omega (arith, le)) in
    let d = (ran (λ course k d. acts course d i world.Apply) earlier c).0 in
    let less : h.node.raft.applied < h.node.raft.commit = omega (arith, h.applied, h.commit, le) in
    let long : h.node.raft.commit ≤ length h.node.raft.log = subst (λ (l : List LogEntry). h.node.raft.commit ≤ length l) (sym h.log) (omega (arith, h.commit, within)) in
    let s = step_applied course d i h.node h.runs less long in
    next_behind i n h.node s.0 (length earlier) (acts course d i world.Apply).0 s.1 s.2 h.applied h.commit h.log

-- the plan of an apply line
abbrev applies : Cluster → NodeId → Plan
applies c i = record { start = c; count = to_apply (state_in c i); step = λ course k d. acts course d i world.Apply }

plan_is : (p : Prepared) (c : Cluster) (i : NodeId) (plan : Plan) → planned p c (lines.At i lines.Apply) ≡ Some plan → applies c i ≡ plan
plan_is p c i plan = by (is_none c.servers) (is_named c i)
  where
    of_some : Option Plan → Plan
    of_some None = applies c i
    of_some (Some q) = q

    by : (none named : Bool) → (if none then None else (if named then Some (applies c i) else None)) ≡ Some plan → applies c i ≡ plan
    by true named e = absurd (cc)
    by false true e = ap of_some e
    by false false e = absurd (cc)

pub has_applied : ((first : List Member) → CommitsAreWithin first) → ((first : List Member) → EachWaitIsAhead first) → (c next : Cluster) (i : NodeId) (n : Node) (more : List Said) → Steps c (lines.At i lines.Apply) more next → state_in c i ≡ Running n
    → IsNumbered next.first next.run → HasApplied c next i n
has_applied within ahead c next i n more s is numbered =
    let w = within c.first c.run i n is in
    let plan = plan_is s.way.prepared c i s.way.plan s.way.stands in
    let count : length s.way.courses ≡ to_apply (state_in c i) = s.whole ∙ ap (λ (p : Plan). p.count) (sym plan) in
    let so_many : to_apply (state_in c i) ≡ n.raft.commit - n.raft.applied = ap to_apply is in
    let behind = ran_applied i c n is w.1 s.way.courses (omega (arith, count, so_many, w.0)) in
    let does : (ran (λ course k d. acts course d i world.Apply) s.way.courses c).0 ≡ next = ap (λ (p : Plan). (ran p.step s.way.courses p.start).0) plan ∙ ap (λ (v : Spoken). v.0) s.does in
    let b : IsBehind next i n (length s.way.courses) = subst (λ (d : Cluster). IsBehind d i n (length s.way.courses)) does behind in
    let all : b.node.raft.applied ≡ n.raft.commit = omega (arith, b.applied, count, so_many, w.0) in
    record {
      node = b.node;
      runs = b.runs;
      commit = b.commit;
      applied = all;
      behind = λ k waiting at. let lt = ahead next.first next.run numbered i b.node b.runs k waiting at in omega (arith, lt, all);
    }
