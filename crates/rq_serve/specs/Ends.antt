-- Why a node ends: docs/SERVING.md, "Ends".
use Rattle.std.specs.Prelude.{ℕ, Option, Some, None}
use Rattle.rq_node.specs.declared.error.NodeError.{NodeError}
use Rattle.rq_serve.specs.declared.ends.NodeEnd.{NodeEnd}
use Rattle.rq_serve.specs.declared.ends.NodeEnd.TheVariants.{Words, Listen, Accept, Memory, Draws, Disk, Files, Past, Clock, Spawn}

module _ {N L D C R W : Type 0} where
  -- the program's status
  abbrev pub status_of : NodeEnd N L D C R W → ℕ
  status_of Words = 2
  status_of (Listen fault) = 4
  status_of (Accept fault) = 4
  status_of Memory = 6
  status_of (Draws fault) = 7
  status_of (Disk fault) = 9
  status_of (Files error) = 10
  status_of (Past past) = 10
  status_of (Clock fault) = 11
  status_of (Spawn fault) = 12

  -- why the files are those of no node, where it ended for that
  abbrev pub files_error : NodeEnd N L D C R W → Option NodeError
  files_error Words = None
  files_error (Listen fault) = None
  files_error (Accept fault) = None
  files_error Memory = None
  files_error (Draws fault) = None
  files_error (Disk fault) = None
  files_error (Files error) = Some error
  files_error (Past past) = None
  files_error (Clock fault) = None
  files_error (Spawn fault) = None
