-- What is wanted of a node that is the one voter, by what it is asked: docs/SERVING.md, "Asks".
use Rattle.std.specs.Prelude.{ℕ, Bool, true, false, ◌&&◌, ◌||◌, if◌then◌else◌, List, [], ◌∷◌, Option, Some, None}
use Rattle.rq_grammar.specs.declared.stmt.Stmt.{Stmt}
use Rattle.rq_grammar.specs.declared.stmt.Stmt.TheVariants as stmt
use Rattle.rq_statement.specs.declared.item.Item.{Item}
use Rattle.rq_statement.specs.declared.item.Item.TheVariants.{Run, Fail}
use Rattle.rq_request.specs.declared.ask.Ask.{Ask}
use Rattle.rq_request.specs.declared.ask.Op.{Op}
use Rattle.rq_request.specs.declared.ask.Op.TheVariants as op
use Rattle.rq_request.specs.declared.ask.Level.{Level}
use Rattle.rq_request.specs.declared.ask.Level.TheVariants as level
use Rattle.rq_node.specs.declared.event.Event.{Event}
use Rattle.rq_node.specs.declared.event.Event.TheVariants.{Execute, Query}
use Rattle.rq_desk.specs.declared.wanted.Wanted.{Wanted}
use Rattle.rq_desk.specs.declared.wanted.Wanted.TheVariants.{Write, Read, LeaderRead}
use Rattle.rq_desk.specs.declared.unbuilt.Unbuilt.{Unbuilt}
use Rattle.rq_desk.specs.declared.unbuilt.Unbuilt.TheVariants as unbuilt

-- ---- what isn't built

abbrev pub is_select : Stmt → Bool
is_select (stmt.Select q) = true
is_select (stmt.Create b n ds) = false
is_select (stmt.Drop b n) = false
is_select (stmt.Insert n ns rs) = false
is_select (stmt.Update n is g) = false
is_select (stmt.Delete n g) = false

abbrev pub reads : Item → Bool
reads (Run s) = is_select s
reads (Fail text) = false

abbrev pub has_read : List Item → Bool
has_read [] = false
has_read (i ∷ items) = reads i || has_read items

abbrev pub unbuilt_write : Bool → Bool → Option Unbuilt
unbuilt_write transaction mixed = if transaction then Some unbuilt.Transaction else if mixed then Some unbuilt.Mixed else None

abbrev pub unbuilt_level : Level → Option Unbuilt
unbuilt_level level.None = None
unbuilt_level level.Weak = None
unbuilt_level level.Linearizable = Some unbuilt.Level
unbuilt_level level.Strong = Some unbuilt.Level

-- why the node doesn't do what it is asked, so far
abbrev pub unbuilt_of : Op → Option Unbuilt
unbuilt_of (op.Write list mixed) = unbuilt_write list.transaction (mixed && has_read list.items)
unbuilt_of (op.Queue list wait) = Some unbuilt.Kind
unbuilt_of (op.Read items level None) = unbuilt_level level
unbuilt_of (op.Read items level (Some freshness)) = Some unbuilt.Freshness
unbuilt_of (op.Backup level) = Some unbuilt.Kind
unbuilt_of (op.Load items) = Some unbuilt.Kind
unbuilt_of op.Nodes = Some unbuilt.Kind
unbuilt_of op.Ready = Some unbuilt.Kind
unbuilt_of (op.Join member) = Some unbuilt.Kind
unbuilt_of (op.Remove id) = Some unbuilt.Kind

-- ---- what is put to the node

-- a read for a leader that comes to another node is put as a write, which that node refuses
abbrev pub read_event : Bool → ℕ → List Item → Level → Event
read_event leads number items level.None = Query number items
read_event leads number items level.Weak = if leads then Query number items else Execute number items
read_event leads number items level.Linearizable = Execute number items
read_event leads number items level.Strong = Execute number items

-- what an ask of this number puts to a node, where that is built
abbrev pub op_event : Bool → ℕ → Op → Option Event
op_event leads number (op.Write list mixed) = Some (Execute number list.items)
op_event leads number (op.Read items level freshness) = Some (read_event leads number items level)
op_event leads number other = None

abbrev pub wanted_event : Bool → ℕ → Wanted → Event
wanted_event leads number (Write items) = Execute number items
wanted_event leads number (Read items) = Query number items
wanted_event leads number (LeaderRead items) = if leads then Query number items else Execute number items
