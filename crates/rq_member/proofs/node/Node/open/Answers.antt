use Rattle.std.proofs.Common.{◌≡◌, ◌≤◌, ◌+◌, ◌∙◌, ◌∷◌, [], List, ℕ, Ok, Err, Some, IsTrue, sym, ap, subst, refl, length, take, inr, map}
use Rattle.std.specs.Prelude.{IsErrOf}
use Rattle.rq_outside.specs.Pair.{disk_at}
use Rattle.rq_outside.specs.declared.pair.FileNo.TheVariants.{One, Two}
use Rattle.rq_wal.specs.Current.{EachImageGives}
use Rattle.rq_wal.specs.Reading.{pair_gives}
use Rattle.rq_wal.proofs.Spending.{within_then}
use Rattle.rq_wire.specs.declared.config.Member.{Member}
use Rattle.rq_raft.specs.Node.{Persistent, StoredRecord, Boot, persistent_after}
use Rattle.rq_world.specs.declared.log_entry.LogEntry.{LogEntry}
use Rattle.rq_world.specs.Node.{Node, persistent_of}
use Rattle.rq_world.specs.Rules.{started}
use Rattle.rq_member.specs.declared.error.NodeError.TheVariants as errors
use Rattle.rq_member.specs.Files.{first_base, stored_of, HasFile, Stands}
use Rattle.rq_member.specs.Held.{Held, IsOpen}
use Rattle.rq_member.specs.Opening.{disk_failed, IsStart}
use Rattle.rq_member.proofs.Openings.{current_base, taken, started_file, booted_as, ok_more, ok_both, opened_file, starts, failed_boot, some_given, boot_refused, files_refused}
use Rattle.rq_member.proofs.node.Node.open.Goals as goal

pub store_boot-requires-clause-open : goal.store_boot-requires-clause-open
store_boot-requires-clause-open g c κs within =
    let told = g.D.Disk.told in
    let means = g.D.Disk.means in
    let mid = c.open_files.new.disks in
    let wal = c.in-Ok.wal in
    let stored = c.in-Ok.stored in
    let from = c.in-Ok-started.ensures.from in
    let current = c.in-Ok.ensures.current in (
      from.0,
      subst (λ (f : List Member). HasFile f told means mid from.0 (Some wal)) (sym c.in-Ok-started.ensures.first)
          (started_file c.args.first.now told means mid wal stored from.0 current (λ tells. from.3 (current_base means mid (first_base c.args.first.now) wal stored (current tells)))),
    )

pub returns-in-Ok-started-clause-node : goal.returns-in-Ok-started-clause-node
returns-in-Ok-started-clause-node g c = λ tells kept records can stands.
    let first = c.args.first.now in
    let t = taken first kept records c.in-Ok.stored can (c.in-Ok.ensures.given tells kept records stands) in
    let is = c.in-Ok-started.ensures.ok (persistent_after kept (take t.k records)) t.base t.readable t.is in
    ok_more c.store_boot.result (λ o. o.0.state ≡ c.in-Ok-started.state) (λ o. (k : ℕ) × (k ≤ length records) × (o.0.state.node ≡ (started first c.args.id (persistent_after kept (take k records))).node))
    (λ o same. (t.k, t.few, ap (λ (h : Held). h.node) same ∙ is)) c.store_boot.ensures.state

pub returns-in-Ok-started-clause-gives : goal.returns-in-Ok-started-clause-gives
returns-in-Ok-started-clause-gives g c = λ tells.
    let first = c.args.first.now in
    let means = g.D.Disk.means in
    let reading = pair_gives (first_base first) (means (disk_at c.args.disks.now One)).content (means (disk_at c.args.disks.now Two)).content in
    let from = c.in-Ok-started.ensures.from in
    let base = current_base means c.open_files.new.disks (first_base first) c.in-Ok.wal c.in-Ok.stored (c.in-Ok.ensures.current tells) in
    ok_more c.store_boot.result (λ o. o.0.state ≡ c.in-Ok-started.state) (λ o. IsStart first c.args.id reading o.0.state.node)
    (λ o same. starts first c.args.id reading c.in-Ok.stored c.in-Ok-started.state.node o.0.state.node (c.in-Ok.ensures.gives tells) base from (ap (λ (h : Held). h.node) same)) c.store_boot.ensures.state

pub returns-in-Ok-started-clause-open : goal.returns-in-Ok-started-clause-open
returns-in-Ok-started-clause-open g c =
    let told = g.D.Disk.told in
    let means = g.D.Disk.means in
    let first = c.args.first.now in
    let mid = c.open_files.new.disks in
    let new = c.store_boot.new.disks in
    let wal = c.in-Ok.wal in
    let stored = c.in-Ok.stored in
    let state = c.in-Ok-started.state in
    let from = c.in-Ok-started.ensures.from in
    let current = c.in-Ok.ensures.current in
    let has = started_file first told means mid wal stored from.0 current (λ tells. from.3 (current_base means mid (first_base first) wal stored (current tells))) in
    let file = c.store_boot.ensures.open from.0 (subst (λ (f : List Member). HasFile f told means mid from.0 (Some wal)) (sym c.in-Ok-started.ensures.first) has) (booted_as first c.args.id from.0 state.node from.2 from.1) in
    ok_both c.store_boot.result (λ o. o.0.state ≡ state) (λ o. HasFile state.first told means new (persistent_of state.node) o.0.file) (λ o. IsOpen first told means new o.0.state.node o.0.file)
    (λ o same here. opened_file first told means new c.args.id from.0 o.0.state.node o.0.file (ap (λ (h : Held). h.node) same ∙ from.1) from.2 from.4
    (subst (λ (n : Node). HasFile first told means new (persistent_of n) o.0.file) (sym (ap (λ (h : Held). h.node) same)) (subst (λ (f : List Member). HasFile f told means new (persistent_of state.node) o.0.file) c.in-Ok-started.ensures.first here)))
    c.store_boot.ensures.state file

pub returns-in-Ok-started-clause-failed : goal.returns-in-Ok-started-clause-failed
returns-in-Ok-started-clause-failed g c = λ refused kept records can stands.
    let told = g.D.Disk.told in
    let means = g.D.Disk.means in
    let first = c.args.first.now in
    let mid = c.open_files.new.disks in
    let new = c.store_boot.new.disks in
    let wal = c.in-Ok.wal in
    let stored = c.in-Ok.stored in
    let state = c.in-Ok-started.state in
    failed_boot first told means kept records new stored can (λ tells. c.in-Ok.ensures.given tells kept records stands)
    (λ now base readable is.
    let has = subst (λ (f : List Member). HasFile f told means mid now (Some wal)) (sym c.in-Ok-started.ensures.first) (started_file first told means mid wal stored now c.in-Ok.ensures.current (λ tells. is)) in
    let some = c.store_boot.ensures.failed refused now has in
    let boot : state.node.boot ≡ now.boot + 1 = ap (λ (n : Node). n.boot) (c.in-Ok-started.ensures.ok now base readable is) in
    subst (λ (b : ℕ). Stands first told means new now (Boot b ∷ [])) boot (subst (λ (f : List Member). Stands f told means new now (Boot state.node.boot ∷ [])) c.in-Ok-started.ensures.first some))

pub returns-in-Ok-started-clause-refused : goal.returns-in-Ok-started-clause-refused
returns-in-Ok-started-clause-refused g c = λ tells kept records can stands.
    let told = g.D.Disk.told in
    let means = g.D.Disk.means in
    let first = c.args.first.now in
    let mid = c.open_files.new.disks in
    let new = c.store_boot.new.disks in
    let wal = c.in-Ok.wal in
    let stored = c.in-Ok.stored in
    let t = taken first kept records stored can (c.in-Ok.ensures.given tells kept records stands) in
    let now = persistent_after kept (take t.k records) in
    let has = subst (λ (f : List Member). HasFile f told means mid now (Some wal)) (sym c.in-Ok-started.ensures.first) (started_file first told means mid wal stored now c.in-Ok.ensures.current (λ tells. t.is)) in
    boot_refused c.store_boot.result (Stands first told means new kept records) c.store_boot.ensures.refused
    (λ none. some_given first told means kept records new t.k t.few
    (λ tells. subst (λ (f : List Member). EachImageGives means (first_base f) new (stored_of f now)) c.in-Ok-started.ensures.first
    (c.store_boot.ensures.no_memory (subst (λ r. IsErrOf r errors.NoMemory) (sym none) refl) now has tells)))

pub returns-in-Ok-started-clause-spent : goal.returns-in-Ok-started-clause-spent
returns-in-Ok-started-clause-spent g c =
    within_then g.D.Disk.means 10 4 (disk_failed c.store_boot.result) c.args.disks.now c.open_files.new.disks c.store_boot.new.disks c.in-Ok.ensures.spent c.store_boot.ensures.spent

pub returns-in-Err-started-clause-refused : goal.returns-in-Err-started-clause-refused
returns-in-Err-started-clause-refused g c = λ tells kept records can stands.
    let t = taken c.args.first.now kept records c.in-Ok.stored can (c.in-Ok.ensures.given tells kept records stands) in
    inr (c.in-Ok.ensures.stands kept records stands, c.in-Err-started.ensures.refused (persistent_after kept (take t.k records)) t.readable t.is)

pub returns-in-Err-clause-refused : goal.returns-in-Err-clause-refused
returns-in-Err-clause-refused g c = λ tells kept records can stands.
    files_refused (Stands c.args.first.now g.D.Disk.told g.D.Disk.means c.open_files.new.disks kept records) c.in-Err.error (c.in-Err.ensures.stands kept records stands) (c.in-Err.ensures.refused tells kept records stands)
