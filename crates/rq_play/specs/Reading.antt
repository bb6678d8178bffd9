-- What the statements of a line are read as, with the random words to come, at the world's moment.
use Rattle.std.specs.Prelude.{◌≡◌, ℕ, true, List, []}
use Rattle.rq_request.specs.declared.statement.Statement.{Statement}
use Rattle.rq_asking.specs.Asked.{ArePrepared, Stop}
use Rattle.rq_world.specs.World.{NodeState, Running, Down}
use Rattle.rq_play.specs.Line.{Line, Skip, Cluster as ClusterLine, At, Deliver, Run as RunLine, Clock}
use Rattle.rq_play.specs.Asking.{statements}
use Rattle.rq_play.specs.Cluster.{Cluster, now, state_in, is_named, Prepared}

-- at a server whose node is down nothing is read
abbrev pub AreReadAt : NodeState → ℕ → List ℕ → List Statement → Prepared → Type 0
AreReadAt (Running n) moment words list p = ArePrepared true moment list words p.left p.items
AreReadAt (Down kept rest) moment words list p = Unit {0}

abbrev pub IsReadIn : Cluster → Line → Prepared → Type 0
IsReadIn c (At i action) p = AreReadAt (state_in c i) (now c).moment c.words (statements action) p
IsReadIn c Skip p = Unit {0}
IsReadIn c (ClusterLine ids) p = Unit {0}
IsReadIn c (Deliver number) p = Unit {0}
IsReadIn c (RunLine times) p = Unit {0}
IsReadIn c (Clock moment) p = Unit {0}

-- of its statements those before one were read, and that one needs more words than these, of which then none is left
abbrev pub LackAt : NodeState → ℕ → List ℕ → List Statement → Type 0
LackAt (Running n) moment words list = Stop true moment list words []
LackAt (Down kept rest) moment words list = ⊥

-- no word is left for what the line asks
abbrev pub LacksWords : Cluster → Line → Type 0
LacksWords c (At i action) = (is_named c i ≡ true) × LackAt (state_in c i) (now c).moment c.words (statements action)
LacksWords c Skip = ⊥
LacksWords c (ClusterLine ids) = ⊥
LacksWords c (Deliver number) = ⊥
LacksWords c (RunLine times) = ⊥
LacksWords c (Clock moment) = ⊥
