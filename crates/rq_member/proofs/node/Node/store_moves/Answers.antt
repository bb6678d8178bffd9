use Rattle.std.proofs.Common.{◌≡◌, ◌≢◌, ◌∙◌, ℕ, List, Option, Some, Result, sym, ap, subst, map}
use Rattle.std.proofs.lemmas.Result.{err_from_is_err_and}
use Rattle.rq_wal.specs.declared.file.WalFile.{WalFile}
use Rattle.rq_wal.specs.Rules.{AreAllowed}
use Rattle.rq_wire.specs.declared.frame.Frame.{Frame}
use Rattle.rq_raft.specs.Node.{RaftNode, all_stored}
use Rattle.rq_world.specs.declared.log_entry.LogEntry.{LogEntry}
use Rattle.rq_world.specs.Node.{persistent_of}
use Rattle.rq_member.specs.declared.node.Node.{Node as TheNode}
use Rattle.rq_member.specs.declared.turn_error.TurnError.{TurnError}
use Rattle.rq_member.specs.declared.turn_error.TurnError.TheVariants as failures
use Rattle.rq_member.specs.Files.{frame_of, stored_of, HasFile}
use Rattle.rq_member.specs.Held.{node_before}
use Rattle.rq_member.specs.Keeping.{IsKeeping, moved}
use Rattle.rq_member.specs.Storing.{refusal_in, HasStored}
use Rattle.rq_member.proofs.Turning.{stored_nothing}
use Rattle.rq_member.proofs.node.Node.store_moves.Goals.{in-Ok, in-Err}
use Rattle.rq_member.proofs.node.Node.store_moves.Goals as goal

no_disk : failures.NoMemory ≢ failures.Disk
no_disk is = absurd (cc)

pub returns-in_err-frames-clause-stored : goal.returns-in_err-frames-clause-stored
returns-in_err-frames-clause-stored g c =
    let h = c.args.self.now in
    let refused = err_from_is_err_and c.from_residual.result c.from_residual.ensures.1 in
    let is : refusal_in c.from_residual.result ≡ Some failures.NoMemory = ap (λ (r : Result ℕ TurnError). refusal_in r) refused.1 ∙ ap (λ (e : TurnError). Some e) refused.2 in
    subst (λ (e : Option TurnError). HasStored h.state.first g.D.Disk.told g.D.Disk.means (persistent_of (node_before h.state)) (all_stored h.state.before (moved h.state.node.raft c.args.moves.now)) c.args.disks.now c.args.disks.now h.file e)
    (sym is)
    (stored_nothing h.state.first g.D.Disk.told g.D.Disk.means c.logs_stand_while_room_is_made.ensures c.args.disks.now (persistent_of (node_before h.state)) (all_stored h.state.before (moved h.state.node.raft c.args.moves.now)) h.file failures.NoMemory no_disk c.requires.open.has)

pub store-done-requires-clause-open : goal.store-done-requires-clause-open
store-done-requires-clause-open g c κs within =
    let h = c.args.self.now in
    let kept = persistent_of (node_before h.state) in
    let file : c.self.inside.0.1.0 ≡ h.file = ap (λ (k : TheNode g.row.R.Denot). k.file) c.self.view_is in
    (h.state.first, kept, subst (λ (f : Option WalFile). HasFile h.state.first g.D.Disk.told g.D.Disk.means c.args.disks.now kept f) (sym file) c.requires.open.has)

pub returns-clause-stored : goal.returns-clause-stored
returns-clause-stored g c =
    let h = c.args.self.now in
    let s = h.state in
    let core = c.self.inside.0.0.core in
    let moves = c.args.moves.now in
    let kept = persistent_of (node_before s) in
    let records = all_stored s.before (moved s.node.raft moves) in
    let before : core.before ≡ s.before = ap (λ (k : TheNode g.row.R.Denot). k.state.before) c.self.view_is in
    let now : core.node ≡ s.node.raft = ap (λ (k : TheNode g.row.R.Denot). k.state.node.raft) c.self.view_is in
    let file : c.self.inside.0.1.0 ≡ h.file = ap (λ (k : TheNode g.row.R.Denot). k.file) c.self.view_is in
    let keeps : IsKeeping core.before (moved core.node moves) =
    subst (λ (n : RaftNode LogEntry). IsKeeping n (moved core.node moves)) (sym before) (subst (λ (n : RaftNode LogEntry). IsKeeping s.before (moved n moves)) (sym now) c.requires.keeping) in
    let is : c.as_slice.result.now ≡ map frame_of records = c.as_slice.ensures.value ∙ c.in_ok-frames.ensures.frames ∙ (λ i. map frame_of (all_stored (before i) (moved (now i) moves))) in
    let allowed = subst (λ (l : List Frame). AreAllowed (stored_of s.first kept) l) (sym c.as_slice.ensures.value) (c.in_ok-frames.ensures.allowed s.first kept (ap (λ (n : RaftNode LogEntry). n.log) (sym before)) keeps) in
    let stored = c.store-done.ensures.stored s.first kept records is allowed (subst (λ (f : Option WalFile). HasFile s.first g.D.Disk.told g.D.Disk.means c.args.disks.now kept f) (sym file) c.requires.open.has) in
    let same : refusal_in c.store-done.result ≡ refusal_in c.match-done.result = elim c.match-done.branch [
      | in-Ok w ↦ ap (λ (r : Result (Unit {0}) TurnError). refusal_in r) w.in-Ok.is ∙ sym (ap (λ (r : Result ℕ TurnError). refusal_in r) w.result-is)
      | in-Err w ↦ ap (λ (r : Result (Unit {0}) TurnError). refusal_in r) w.in-Err.is ∙ sym (ap (λ (r : Result ℕ TurnError). refusal_in r) w.result-is)
    ] in
    subst (λ (e : Option TurnError). HasStored s.first g.D.Disk.told g.D.Disk.means kept records c.args.disks.now c.store-done.new.disks c.store-done.new.file e) same stored
