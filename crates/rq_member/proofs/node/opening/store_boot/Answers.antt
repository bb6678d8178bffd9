use Rattle.std.proofs.Common.{◌≡◌, ◌∷◌, ◌+◌, ◌*◌, ◌∙◌, [], List, ℕ, sym, false, Some, Result, Ok, Err, ap, subst, refl, arith}
use Rattle.rq_wal.proofs.Spending.{within}
use Rattle.rq_wal.specs.Rules.{AreAllowed}
use Rattle.rq_wire.specs.declared.frame.Frame.{Frame}
use Rattle.rq_wire.specs.declared.frame.Frame.TheVariants as frames
use Rattle.rq_raft.specs.Node.{Persistent, StoredRecord, Boot}
use Rattle.rq_world.specs.declared.log_entry.LogEntry.{LogEntry}
use Rattle.rq_member.specs.Files.{frame_of, stored_of, HasFile}
use Rattle.rq_member.specs.Held.{Held}
use Rattle.rq_member.specs.Storing.{refusal_in, FilesAre, SpentStoring}
use Rattle.rq_member.specs.declared.turn_error.TurnError.{TurnError}
use Rattle.rq_member.proofs.Framing.{boot_allowed}
use Rattle.rq_member.proofs.Storing.{file_stands}
use Rattle.rq_member.proofs.Openings.{boot_broken, boot_starved, boot_spent, err_is}
use Rattle.rq_member.proofs.node.opening.store_boot.Goals as goal

pub store-requires-clause-open : goal.store-requires-clause-open
store-requires-clause-open g c κs within = (c.args.state.first, c.requires.open.0, c.requires.open.1)

pub returns-in-Ok-clause-open : goal.returns-in-Ok-clause-open
returns-in-Ok-clause-open g c = λ kept has is.
    let h = c.args.state in
    let stored = c.store.ensures.stored h.first kept (Boot h.node.boot ∷ []) (ap (λ (k : Held). frames.Boot k.node.boot ∷ []) c.state.view_is) (subst (λ (b : ℕ). AreAllowed (stored_of h.first kept) (frames.Boot b ∷ [])) (sym (ap (λ (k : Held). k.node.boot) c.state.view_is)) (boot_allowed (stored_of h.first kept) h.node.boot c.requires.small)) has in
    subst (λ (k : Persistent LogEntry). HasFile h.first g.D.Disk.told g.D.Disk.means c.store.new.disks k c.store.new.file) is (subst (λ (r : Result (Unit {0}) TurnError). FilesAre h.first g.D.Disk.told g.D.Disk.means kept (Boot h.node.boot ∷ []) c.store.new.disks c.store.new.file (refusal_in r)) c.in-Ok.is stored.files)

pub returns-clause-failed : goal.returns-clause-failed
returns-clause-failed g c = λ refused kept has.
    let h = c.args.state in
    let stored = c.store.ensures.stored h.first kept (Boot h.node.boot ∷ []) (ap (λ (k : Held). frames.Boot k.node.boot ∷ []) c.state.view_is) (subst (λ (b : ℕ). AreAllowed (stored_of h.first kept) (frames.Boot b ∷ [])) (sym (ap (λ (k : Held). k.node.boot) c.state.view_is)) (boot_allowed (stored_of h.first kept) h.node.boot c.requires.small)) has in
    boot_broken h.first g.D.Disk.told g.D.Disk.means kept (Boot h.node.boot ∷ []) c.in-Err.error c.boot_refusal.result c.store.new.disks c.store.new.file c.boot_refusal.ensures (err_is _ c.boot_refusal.result _ refused) (subst (λ (r : Result (Unit {0}) TurnError). FilesAre h.first g.D.Disk.told g.D.Disk.means kept (Boot h.node.boot ∷ []) c.store.new.disks c.store.new.file (refusal_in r)) c.in-Err.is stored.files)

pub returns-clause-no_memory : goal.returns-clause-no_memory
returns-clause-no_memory g c = λ refused kept has tells.
    let h = c.args.state in
    let told = g.D.Disk.told in
    let means = g.D.Disk.means in
    let stored = c.store.ensures.stored h.first kept (Boot h.node.boot ∷ []) (ap (λ (k : Held). frames.Boot k.node.boot ∷ []) c.state.view_is) (subst (λ (b : ℕ). AreAllowed (stored_of h.first kept) (frames.Boot b ∷ [])) (sym (ap (λ (k : Held). k.node.boot) c.state.view_is)) (boot_allowed (stored_of h.first kept) h.node.boot c.requires.small)) has in
    file_stands h.first told means c.current_logs_stand.ensures c.store.new.disks kept c.store.new.file
    (boot_starved h.first told means kept (Boot h.node.boot ∷ []) c.in-Err.error c.boot_refusal.result c.store.new.disks c.store.new.file c.boot_refusal.ensures (err_is _ c.boot_refusal.result _ refused) (subst (λ (r : Result (Unit {0}) TurnError). FilesAre h.first g.D.Disk.told g.D.Disk.means kept (Boot h.node.boot ∷ []) c.store.new.disks c.store.new.file (refusal_in r)) c.in-Err.is stored.files)) tells

pub returns-clause-spent : goal.returns-clause-spent
returns-clause-spent g c =
    let h = c.args.state in
    let kept = c.requires.open.0 in
    let stored = c.store.ensures.stored h.first kept (Boot h.node.boot ∷ []) (ap (λ (k : Held). frames.Boot k.node.boot ∷ []) c.state.view_is) (subst (λ (b : ℕ). AreAllowed (stored_of h.first kept) (frames.Boot b ∷ [])) (sym (ap (λ (k : Held). k.node.boot) c.state.view_is)) (boot_allowed (stored_of h.first kept) h.node.boot c.requires.small)) c.requires.open.1 in
    boot_spent (Unit {0}) g.D.Disk.means c.args.disks.now c.store.new.disks c.in-Err.error c.boot_refusal.result c.boot_refusal.ensures (subst (λ (r : Result (Unit {0}) TurnError). SpentStoring g.D.Disk.means 1 c.args.disks.now c.store.new.disks (refusal_in r)) c.in-Err.is stored.spent)

pub returns-in-Ok-clause-spent : goal.returns-in-Ok-clause-spent
returns-in-Ok-clause-spent g c =
    let h = c.args.state in
    let kept = c.requires.open.0 in
    let stored = c.store.ensures.stored h.first kept (Boot h.node.boot ∷ []) (ap (λ (k : Held). frames.Boot k.node.boot ∷ []) c.state.view_is) (subst (λ (b : ℕ). AreAllowed (stored_of h.first kept) (frames.Boot b ∷ [])) (sym (ap (λ (k : Held). k.node.boot) c.state.view_is)) (boot_allowed (stored_of h.first kept) h.node.boot c.requires.small)) c.requires.open.1 in
    within g.D.Disk.means 4 4 false c.args.disks.now c.store.new.disks (subst (λ (r : Result (Unit {0}) TurnError). SpentStoring g.D.Disk.means 1 c.args.disks.now c.store.new.disks (refusal_in r)) c.in-Ok.is stored.spent) (omega arith)
