-- The servers of a cluster are apart and are its members.
use Rattle.std.proofs.Common.{◌≡◌, ℕ, ◌&&◌, if◌then◌else◌, Bool, true, false, List, [], ◌∷◌, length, refl, sym, ap, ◌∙◌, subst}
use Rattle.std.specs.Prelude.{bytes_eq, map, nat_le}
use Rattle.std.specs.Ordering.{nat_cmp, is_lt}
use Rattle.std.specs.Cmp.Lexicographic.{slice_cmp}
use Rattle.rq_wire.specs.declared.config.Member.{Member}
use Rattle.rq_history.specs.History.{NodeId}
use Rattle.rq_raft.specs.Node.{one_of}
use Rattle.rq_world.specs.Node.{members}
use Rattle.rq_play.specs.Line.{Line}
use Rattle.rq_play.specs.Said.{Said}
use Rattle.rq_play.specs.Server.{Course}
use Rattle.rq_play.specs.Cluster.{Cluster, Spoken, is_first, is_allowed, are_apart, member_of, put_id, in_order, Plan, ran}
use Rattle.rq_play.specs.Runs.{Runs, Steps}
use Rattle.rq_play.proofs.Common.{if_case, id_true, id_self, and_true}
use Rattle.rq_play.proofs.Basics.{IsBasic, PlanIsBasic, basic_servers, basic_first, line_basic, BeginsAt, line_starts}

pub record IsFounded (c : Cluster) : Type 0 where
  pub apart : are_apart c.servers ≡ true
  pub known : (i : NodeId) → one_of c.servers i ≡ true → one_of (members c.first) i ≡ true

pub founded_on : (c : Cluster) (w : Spoken) → IsFounded c → IsBasic c w → IsFounded w.0
founded_on c w so_far basic = record {
  apart = ap are_apart (basic_servers c w basic) ∙ so_far.apart;
  known = λ i named. subst (λ (f : List Member). one_of (members f) i ≡ true) (sym (basic_first c w basic)) (so_far.known i (ap (λ (ids : List NodeId). one_of ids i) (sym (basic_servers c w basic)) ∙ named));
}

-- ---- the cluster line

behind : (i : NodeId) (ids : List NodeId) (j : NodeId) → one_of ids j ≡ true → one_of (i ∷ ids) j ≡ true
behind i ids j there = if_case (λ (b : Bool). b ≡ true) (bytes_eq j i) true (one_of ids j) (λ e. refl) (λ e. there)

over : (i : NodeId) (ids more : List NodeId) (j : NodeId) → (one_of ids j ≡ true → one_of more j ≡ true) → one_of (i ∷ ids) j ≡ true → one_of (i ∷ more) j ≡ true
over i ids more j goes = by (bytes_eq j i)
  where
    by : (b : Bool) → (if b then true else one_of ids j) ≡ true → (if b then true else one_of more j) ≡ true
    by true there = refl
    by false there = goes there

one_first : (i : NodeId) (ids : List NodeId) → one_of (i ∷ ids) i ≡ true
one_first i ids = ap (λ (b : Bool). if b then true else one_of ids i) (id_self i)

one_put : (i : NodeId) (ids : List NodeId) → one_of (put_id i ids) i ≡ true
one_put i [] = one_first i []
one_put i (j ∷ ids) = if_case (λ (l : List NodeId). one_of l i ≡ true) (is_lt (slice_cmp nat_cmp i j)) (i ∷ j ∷ ids) (j ∷ put_id i ids) (λ e. one_first i (j ∷ ids)) (λ e. behind j (put_id i ids) i (one_put i ids))

put_keeps : (i j : NodeId) (ids : List NodeId) → one_of ids j ≡ true → one_of (put_id i ids) j ≡ true
put_keeps i j [] there = absurd (cc)
put_keeps i j (k ∷ ids) there = if_case (λ (l : List NodeId). one_of l j ≡ true) (is_lt (slice_cmp nat_cmp i k)) (i ∷ k ∷ ids) (k ∷ put_id i ids) (λ e. behind i (k ∷ ids) j there) (λ e. over k ids (put_id i ids) j (put_keeps i j ids) there)

kept_in_order : (ids : List NodeId) (i : NodeId) → one_of ids i ≡ true → one_of (in_order ids) i ≡ true
kept_in_order [] i there = there
kept_in_order (j ∷ ids) i there = by (bytes_eq i j) refl there (kept_in_order ids i)
  where
    by : (b : Bool) → bytes_eq i j ≡ b → (if b then true else one_of ids i) ≡ true → (one_of ids i ≡ true → one_of (in_order ids) i ≡ true) → one_of (put_id j (in_order ids)) i ≡ true
    by true e h more = subst (λ (k : NodeId). one_of (put_id j (in_order ids)) k ≡ true) (sym (id_true i j e)) (one_put j (in_order ids))
    by false e h more = put_keeps j i (in_order ids) (more h)

members_are : (ids : List NodeId) → members (map member_of ids) ≡ ids
members_are [] = refl
members_are (i ∷ ids) = ap (λ (l : List NodeId). i ∷ l) (members_are ids)

pub begins_founded : (c start : Cluster) → IsFounded c → BeginsAt c start → IsFounded start
begins_founded c start so_far (BeginsAt.is_here same) = subst IsFounded (sym same) so_far
begins_founded c start so_far (BeginsAt.names ids none can same) =
    let allowed = (and_true (is_allowed ids) (is_first c.run) can).0 in
    let few = (and_true (nat_le 1 (length ids)) (nat_le (length ids) 9 && are_apart ids) allowed).1 in
    subst IsFounded (sym same) (record {
      apart = (and_true (nat_le (length ids) 9) (are_apart ids) few).1;
      known = λ i named. subst (λ (l : List NodeId). one_of l i ≡ true) (sym (members_are (in_order ids))) (kept_in_order ids i named);
    })

-- ---- lines and runs

record RanFounded (start d : Cluster) : Type 0 where
  pub servers : d.servers ≡ start.servers
  pub founded : IsFounded d

ran_founded : (plan : Plan) → PlanIsBasic plan → IsFounded plan.start → (courses : List Course) → RanFounded plan.start (ran plan.step courses plan.start).0
ran_founded plan basic start [] = record { servers = refl; founded = start }
ran_founded plan basic start (course ∷ earlier) =
    let w = ran plan.step earlier plan.start in
    let t = plan.step course (length earlier) w.0 in
    let so_far = ran_founded plan basic start earlier in
    let b = basic course (length earlier) w.0 so_far.servers in
    record { servers = basic_servers w.0 t b ∙ so_far.servers; founded = founded_on w.0 t so_far.founded b }

step_founded : (c : Cluster) (line : Line) (talk : List Said) (next : Cluster) → Steps c line talk next → IsFounded c → IsFounded next
step_founded c line talk next s so_far =
    let w = s.way in
    let start = begins_founded c w.plan.start so_far (line_starts w.prepared c line w.plan w.stands) in
    subst (λ (v : Spoken). IsFounded v.0) s.does (ran_founded w.plan (line_basic w.prepared c line w.plan w.stands) start w.courses).founded

pub runs_are_founded : (words : List ℕ) (ls : List Line) (talk : List Said) (c : Cluster) → Runs words ls talk c → IsFounded c
runs_are_founded words _ _ _ Runs.start = record { apart = refl; known = λ i named. absurd (cc) }
runs_are_founded words _ _ _ (Runs.line {said = before} {c = from} l more next runs steps) = step_founded from l more next steps (runs_are_founded words _ before from runs)
