-- Before the cluster line nothing is said.
use Rattle.std.proofs.Common.{◌≡◌, ℕ, ◌&&◌, if◌then◌else◌, Bool, true, false, Option, Some, None, List, [], ◌∷◌, ◌++◌, length, refl, sym, ap, ◌∙◌, arith}
use Rattle.std.specs.Prelude.{nat_le}
use Rattle.rq_history.specs.History.{NodeId}
use Rattle.rq_play.specs.Line.{Line}
use Rattle.rq_play.specs.Line as lines
use Rattle.rq_play.specs.Said.{Said}
use Rattle.rq_play.specs.Server.{Course}
use Rattle.rq_play.specs.Cluster.{Cluster, Spoken, is_none, is_first, is_allowed, are_apart, can_name, Plan, when, starts_all, before_cluster, in_cluster, ran}
use Rattle.rq_play.specs.Runs.{Runs, Steps}
use Rattle.rq_play.proofs.Common.{and_true}
use Rattle.rq_play.proofs.Basics.{PlanIsBasic, basic_servers, line_basic, BeginsAt, line_starts}

not_none : (ids : List NodeId) → is_none ids ≡ true → nat_le 1 (length ids) ≡ true → Prim.⊥
not_none [] e few = absurd (cc)
not_none (i ∷ ids) e few = absurd (cc)

none_at : (courses : List Course) → length courses ≡ 0 → courses ≡ []
none_at [] e = refl
none_at (course ∷ courses) e = absurd (omega (arith, e))

silent_line : (c : Cluster) (line : Line) (plan : Plan) (courses : List Course) → before_cluster c line ≡ Some plan → length courses ≡ plan.count → is_none plan.start.servers ≡ true → (ran plan.step courses plan.start).1 ≡ []
silent_line c lines.Skip plan courses is whole none = ap (λ (l : List Course). (ran plan.step l plan.start).1) (none_at courses (whole ∙ ap (λ (p : Plan). p.count) (sym (ap of_some is))))
  where
    of_some : Option Plan → Plan
    of_some None = plan
    of_some (Some p) = p
silent_line c (lines.Cluster ids) plan courses is whole none = by (can_name c ids) refl is
  where
    in_plan : Option Plan → List NodeId
    in_plan None = []
    in_plan (Some p) = p.start.servers

    by : (b : Bool) → can_name c ids ≡ b → when b (starts_all c ids) ≡ Some plan → (ran plan.step courses plan.start).1 ≡ []
    by true can e =
        let servers : ids ≡ plan.start.servers = ap in_plan e in
        let allowed = (and_true (is_allowed ids) (is_first c.run) can).0 in
        absurd (not_none ids (ap is_none servers ∙ none) (and_true (nat_le 1 (length ids)) (nat_le (length ids) 9 && are_apart ids) allowed).0)
    by false can e = absurd (cc)
silent_line c (lines.At i action) plan courses is whole none = absurd (cc)
silent_line c (lines.Deliver number) plan courses is whole none = absurd (cc)
silent_line c (lines.Run times) plan courses is whole none = absurd (cc)
silent_line c (lines.Clock moment) plan courses is whole none = absurd (cc)

-- a line behind which no server is named begins where none is, and says nothing
record Silent (c : Cluster) (more : List Said) : Type 0 where
  pub none : is_none c.servers ≡ true
  pub quiet : more ≡ []

ran_servers : (plan : Plan) → PlanIsBasic plan → (courses : List Course) → (ran plan.step courses plan.start).0.servers ≡ plan.start.servers
ran_servers plan basic [] = refl
ran_servers plan basic (course ∷ earlier) =
    let w = ran plan.step earlier plan.start in
    let h = ran_servers plan basic earlier in
    basic_servers w.0 (plan.step course (length earlier) w.0) (basic course (length earlier) w.0 h) ∙ h

step_silent : (c : Cluster) (line : Line) (more : List Said) (next : Cluster) → Steps c line more next → is_none next.servers ≡ true → Silent c more
step_silent c line more next s none = by (is_none c.servers) refl
  where
    servers : next.servers ≡ s.way.plan.start.servers
    servers = sym (ap (λ (w : Spoken). w.0.servers) s.does) ∙ ran_servers s.way.plan (line_basic s.way.prepared c line s.way.plan s.way.stands) s.way.courses

    start_none : is_none s.way.plan.start.servers ≡ true
    start_none = ap is_none (sym servers) ∙ none

    by : (b : Bool) → is_none c.servers ≡ b → Silent c more
    by true e = record {
      none = e;
      quiet = sym (ap (λ (w : Spoken). w.1) s.does)
          ∙ silent_line c line s.way.plan s.way.courses (ap (λ (b : Bool). if b then before_cluster c line else in_cluster s.way.prepared c line) (sym e) ∙ s.way.stands) s.whole start_none;
    }
    by false e = absurd (never (line_starts s.way.prepared c line s.way.plan s.way.stands))
      where
        never : BeginsAt c s.way.plan.start → Prim.⊥
        never (BeginsAt.is_here same) = let t : true ≡ false = sym start_none ∙ ap (λ (d : Cluster). is_none d.servers) same ∙ e in absurd (cc)
        never (BeginsAt.names ids is can same) = let t : true ≡ false = sym is ∙ e in absurd (cc)

pub nothing_said : (words : List ℕ) (ls : List Line) (talk : List Said) (c : Cluster) → Runs words ls talk c → is_none c.servers ≡ true → talk ≡ []
nothing_said words _ _ _ Runs.start none = refl
nothing_said words _ _ _ (Runs.line {said = before} {c = from} l more next runs steps) none =
    let s = step_silent from l more next steps none in
    ap (λ (b : List Said). b ++ more) (nothing_said words _ before from runs s.none) ∙ s.quiet
