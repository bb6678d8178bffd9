-- What an ask of a line asks of the world: docs/SCRIPT.md, "Asks".
use Rattle.std.specs.Prelude.{ℕ, ◌==◌, if◌then◌else◌, false, Option, Some, None, List, [], Result, Ok, Err}
use Rattle.rq_request.specs.declared.statement.Statement.{Statement}
use Rattle.rq_request.specs.declared.shape.Shape.{Shape}
use Rattle.rq_request.specs.declared.ask.Op.{Op as AskOp}
use Rattle.rq_request.specs.declared.ask.Op.TheVariants as op
use Rattle.rq_asking.specs.declared.reading.Requested.{Requested}
use Rattle.rq_asking.specs.declared.reading.Defect.{Defect}
use Rattle.rq_asking.specs.Requested.{requested_of}
use Rattle.rq_world.specs.World.{Op, Write, Queue, Read}
use Rattle.rq_play.specs.Line.{Action, Elect, Beat, Flush, Apply, Compact, Ask, Stop, StopWithin, Start, Cut, Heal, Show}

-- what the world has an ask do; none of a kind for which it has no rule yet, and for such a kind no request asks yet
abbrev pub op_in : AskOp → Option Op
op_in (op.Write list mixed) = Some (Write list mixed)
op_in (op.Queue list wait) = Some (Queue list wait)
op_in (op.Read items level freshness) = Some (Read items level freshness)
op_in (op.Backup level) = None
op_in (op.Load items) = None
op_in op.Nodes = None
op_in op.Ready = None
op_in (op.Join member) = None
op_in (op.Remove id) = None

-- the statements of a request that isn't refused
abbrev pub listed : Result Requested Defect → List Statement
listed (Ok r) = r.statements
listed (Err defect) = []

abbrev pub statements : Action → List Statement
statements (Ask method target body) = listed (requested_of method target body)
statements Elect = []
statements Beat = []
statements Flush = []
statements Apply = []
statements Compact = []
statements Stop = []
statements (StopWithin calls pick) = []
statements Start = []
statements Cut = []
statements Heal = []
statements Show = []

-- lists, without blanks
abbrev pub plain : Shape
plain = record { associative = false; pretty = false }

-- the shape of this ask's reply is noted
abbrev pub set_shape : (ℕ → Shape) → ℕ → Shape → ℕ → Shape
set_shape shapes number shape k = if k == number then shape else shapes k
