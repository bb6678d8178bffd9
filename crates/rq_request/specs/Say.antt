-- The status of a reply, as docs/API.md, "Replies", has it.
use Rattle.std.specs.Prelude.{ℕ}
use Rattle.rq_request.specs.declared.say.Say.{Say}
use Rattle.rq_request.specs.declared.say.Say.TheVariants.{Results, Queued, Loaded, Backup, Nodes, Ready, Changed, Moved, Refused}
use Rattle.rq_request.specs.declared.say.NodeRefusal.{NodeRefusal}
use Rattle.rq_request.specs.declared.say.NodeRefusal.TheVariants.{Stale, NoLeader, EntryTooLarge, QueuedTooLarge, QueueFull, Lost, Timeout}

abbrev pub refusal_status : NodeRefusal → ℕ
refusal_status (Stale contact now limit) = 503
refusal_status (NoLeader term) = 503
refusal_status (EntryTooLarge size) = 413
refusal_status (QueuedTooLarge size) = 413
refusal_status (QueueFull held) = 503
refusal_status (Lost term now) = 503
refusal_status (Timeout asked now) = 503

abbrev pub status_of : Say → ℕ
status_of (Results results) = 200
status_of (Queued number) = 200
status_of Loaded = 200
status_of (Backup sql) = 200
status_of (Nodes members) = 200
status_of Ready = 200
status_of Changed = 200
status_of (Moved address) = 301
status_of (Refused refusal) = refusal_status refusal
