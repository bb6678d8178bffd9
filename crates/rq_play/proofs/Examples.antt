-- Small scripts that are computed: three servers elect one, with and without one that is cut off; an ask that is missed; the clock.
use Rattle.std.proofs.Common.{◌≡◌, ℕ, List, [], ◌∷◌, Option, Some, None, Bool, true, false, refl}
use Rattle.rq_history.specs.History.{NodeId}
use Rattle.rq_raft.specs.declared.role.Role.{Role}
use Rattle.rq_raft.specs.declared.role.Role.TheVariants.{Follower, Leader}
use Rattle.rq_world.specs.World.{NodeState, Running, Down}
use Rattle.rq_world.specs.World as world
use Rattle.rq_play.specs.Server.{Course, whole}
use Rattle.std.specs.Prelude.{codes, option_map, option_and_then}
use Rattle.rq_play.specs.Said.{Missed}
use Rattle.rq_play.specs.Runs.{unanswered}
use Rattle.rq_play.specs.Cluster.{Cluster, now, state_in, first_cluster, starts_all, acts, cuts, stops, starts, takes_lowest, lowest, Prepared, Plan, asks_with, clocked, ran}

abbrev a : NodeId
a = 97 ∷ []

abbrev b : NodeId
b = 98 ∷ []

abbrev c : NodeId
c = 99 ∷ []

abbrev role_of : NodeState → Option Role
role_of (Running n) = Some n.raft.role
role_of (Down kept rest) = None

-- run, as often as there are courses
abbrev run : List Course → Cluster → Cluster
run courses d = (ran (λ course k e. takes_lowest course e (lowest e.taken 0 (now e).sent)) courses d).0

abbrev opened : Cluster
opened = let plan = starts_all (first_cluster []) (b ∷ a ∷ c ∷ []) in (ran plan.step (whole ∷ whole ∷ whole ∷ []) plan.start).0

all_up : role_of (state_in opened c) ≡ Some Follower
all_up = refl

-- two requests for votes are delivered, and the first vote
elected : role_of (state_in (run (whole ∷ whole ∷ whole ∷ []) (acts whole opened a world.Elect).0) a) ≡ Some Leader
elected = refl

-- one of them is passed over, and counts; so the vote is the third packet
abbrev apart : Cluster
apart = run (whole ∷ whole ∷ whole ∷ []) (acts whole (cuts true opened b).0 a world.Elect).0

still_elected : role_of (state_in apart a) ≡ Some Leader
still_elected = refl

not_reached : role_of (state_in apart b) ≡ Some Follower
not_reached = refl

-- it stays passed over when the server is no longer cut off
passed_over : (cuts false apart b).0.taken 0 ≡ true
passed_over = refl

-- a stop with nothing that waits, and a start
again : role_of (state_in (starts whole (stops apart a (state_in apart a)).0 a (state_in (stops apart a (state_in apart a)).0 a)).0 a) ≡ Some Follower
again = refl

-- ---- asks

nothing : Prepared
nothing = record { items = []; left = [] }

abbrev stopped : Cluster
stopped = (stops opened b (state_in opened b)).0

-- at a server whose node is down an ask is missed, also one that would be refused, and is unanswered
missed : (asks_with whole stopped b (codes "GET") (codes "/x") [] nothing (state_in stopped b)).1 ≡ Missed 1 b ∷ []
missed = refl

unanswered_then : unanswered (asks_with whole stopped b (codes "GET") (codes "/x") [] nothing (state_in stopped b)).0 ≡ 1 ∷ []
unanswered_then = refl

-- ---- the clock: the moment moves, and never back

abbrev clock : ℕ → Cluster → Option Cluster
clock moment d = option_map (λ (plan : Plan). (ran plan.step (whole ∷ whole ∷ whole ∷ whole ∷ []) plan.start).0) (clocked d moment)

later : option_map (λ (d : Cluster). (now d).moment) (clock 1000 opened) ≡ Some 1000
later = refl

never_back : option_map (λ (d : Cluster). (now d).moment) (option_and_then (clock 999) (clock 1000 opened)) ≡ None
never_back = refl
