-- A slice of committed entries that is applied: docs/RAFT.md, "Apply".
use Rattle.std.specs.Prelude.{ℕ, suc, ◌≡◌, ◌≤◌, ◌<◌, ◌==◌, is_none, if◌then◌else◌, List, [], ◌∷◌, Result, None}
use Rattle.rq_wire.specs.declared.config.Member.{Member}
use Rattle.rq_raft.specs.Node.{RaftNode}
use Rattle.rq_world.specs.declared.log_entry.LogEntry.{LogEntry}
use Rattle.rq_world.specs.declared.waiting.Waiting.{Waiting}
use Rattle.rq_world.specs.Node.{Node, PendingRead}
use Rattle.rq_world.specs.Reads.{is_due}
use Rattle.rq_member.specs.declared.event.Effects.{Effects}
use Rattle.rq_member.specs.declared.turn_error.TurnError.{TurnError}
use Rattle.rq_member.specs.Storing.{refusal_in}
use Rattle.rq_member.specs.Turned.{Turned, applies}

-- how many of the first, as far as they wait for this index, wait for what its command answers
abbrev pub outcome_waits : ℕ → List Waiting → ℕ
outcome_waits index [] = 0
outcome_waits index (w ∷ ws) = if w.index == index then (if is_none w.sequence then suc (outcome_waits index ws) else outcome_waits index ws) else 0

-- the reads whose pass is due
abbrev pub due_reads : List Member → RaftNode LogEntry → List PendingRead → List PendingRead
due_reads first n [] = []
due_reads first n (r ∷ rs) = if is_due first n r.pass then r ∷ due_reads first n rs else due_reads first n rs

-- at least one, where there is any, and at most so many entries were applied; on a refusal none
pub record AppliedSome (first : List Member) (most : ℕ) (n node : Node) (result : Result Effects TurnError) : Type 0 where
  pub count : ℕ
  pub at_most : count ≤ most
  pub some : 0 < most → n.raft.applied < n.raft.commit → refusal_in result ≡ None → 0 < count
  pub turned : Turned (applies first count n) n node result
