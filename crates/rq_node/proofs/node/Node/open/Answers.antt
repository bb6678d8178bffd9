use Rattle.std.proofs.Common.{◌≡◌, ◌∙◌, inr, ◌∷◌, [], ℕ, take, Ok, ap, subst}
use Rattle.rq_wal.specs.declared.base.Stored.{Stored}
use Rattle.rq_wal.specs.Current.{IsCurrent, EachImageGives}
use Rattle.rq_node.specs.declared.node.Node.{Node as Running}
use Rattle.rq_node.specs.Files.{first_base, stored_of}
use Rattle.rq_node.specs.Node.{Node, Boot, persistent_after}
use Rattle.rq_node.specs.Opened.{IsRefusal, IsStart}
use Rattle.rq_node.specs.Rules.{started}
use Rattle.rq_outside.specs.Pair.{disk_at}
use Rattle.rq_outside.specs.declared.pair.FileNo.TheVariants.{One, Two}
use Rattle.rq_wal.specs.Reading.{pair_gives}
use Rattle.rq_node.specs.Recovery.{disk_failed, Stands}
use Rattle.rq_node.proofs.Openings.{current_base, taken, some_given, failed_boot, started_file, booted, ok_more, boot_refused, files_refused, refuses_more, state_refused}
use Rattle.rq_wal.proofs.Spending.{within_then}
use Rattle.rq_node.proofs.node.Node.open.Goals as goal

pub store_boot-requires-clause-open : goal.store_boot-requires-clause-open
store_boot-requires-clause-open g c κs within =
    let means = g.D.Disk.means in
    let from = c.in-Ok-started_state.ensures.from in (
      c.args.id,
      from.0,
      λ tells.
          let current = c.in-Ok.ensures.current tells in
          subst (λ (s : Stored). IsCurrent means (first_base c.args.id) c.open_files.new.disks c.in-Ok.wal s) (from.2 (current_base means c.open_files.new.disks c.args.id c.in-Ok.wal c.in-Ok.stored current)) current,
    )

pub returns-in-Ok-started_state-clause-node : goal.returns-in-Ok-started_state-clause-node
returns-in-Ok-started_state-clause-node g c = λ tells kept items can stands.
    let some = c.in-Ok.ensures.given tells kept items stands in
    let t = taken c.args.id kept items c.in-Ok.stored can some in
    let same = c.in-Ok-started_state.ensures.ok (persistent_after kept (take t.k items)) t.readable t.is in
    ok_more c.store_boot.result (λ (n : Running). n.state ≡ c.in-Ok-started_state.state) (λ (n : Running). (k : ℕ) × (n.state ≡ (started c.args.id (persistent_after kept (take k items))).node))
    (λ n is. (t.k, subst (λ (s : Node). n.state ≡ s) same is)) c.store_boot.ensures.state

pub returns-in-Ok-started_state-clause-open : goal.returns-in-Ok-started_state-clause-open
returns-in-Ok-started_state-clause-open g c =
    let told = g.D.Disk.told in
    let means = g.D.Disk.means in
    let from = c.in-Ok-started_state.ensures.from in
    let state = c.in-Ok-started_state.state in
    let has = started_file told means c.open_files.new.disks c.args.id c.in-Ok.wal c.in-Ok.stored c.in-Ok.ensures.current state from.0 from.1
    (λ tells. from.2 (current_base means c.open_files.new.disks c.args.id c.in-Ok.wal c.in-Ok.stored (c.in-Ok.ensures.current tells))) in
    c.store_boot.ensures.open from.0 has (booted c.args.id from.0 state from.1)

pub returns-in-Ok-started_state-clause-failed : goal.returns-in-Ok-started_state-clause-failed
returns-in-Ok-started_state-clause-failed g c = λ refused kept items can stands.
    let told = g.D.Disk.told in
    let means = g.D.Disk.means in
    let state = c.in-Ok-started_state.state in
    failed_boot told means c.args.id kept items c.store_boot.new.disks c.in-Ok.stored can (λ tells. c.in-Ok.ensures.given tells kept items stands)
    (λ now readable is.
    let same = c.in-Ok-started_state.ensures.ok now readable is in
    let has = started_file told means c.open_files.new.disks c.args.id c.in-Ok.wal c.in-Ok.stored c.in-Ok.ensures.current state now same (λ tells. is) in
    subst (λ (n : Node). Stands told means c.store_boot.new.disks n.id now (Boot n.boot ∷ [])) same (c.store_boot.ensures.failed refused now has))

pub returns-in-Ok-started_state-clause-refused : goal.returns-in-Ok-started_state-clause-refused
returns-in-Ok-started_state-clause-refused g c = λ tells kept items can stands.
    let told = g.D.Disk.told in
    let means = g.D.Disk.means in
    let state = c.in-Ok-started_state.state in
    let t = taken c.args.id kept items c.in-Ok.stored can (c.in-Ok.ensures.given tells kept items stands) in
    let now = persistent_after kept (take t.k items) in
    let same = c.in-Ok-started_state.ensures.ok now t.readable t.is in
    let has = started_file told means c.open_files.new.disks c.args.id c.in-Ok.wal c.in-Ok.stored c.in-Ok.ensures.current state now same (λ _. t.is) in
    boot_refused c.store_boot.result (Stands told means c.store_boot.new.disks c.args.id kept items) c.store_boot.ensures.refused
    (λ none. some_given told means c.args.id kept items c.store_boot.new.disks t.k
    (λ told_. subst (λ (n : Node). EachImageGives means (first_base n.id) c.store_boot.new.disks (stored_of n.id now)) same (c.store_boot.ensures.no_memory none now has told_)))

pub returns-in-Err-started_state-clause-refused : goal.returns-in-Err-started_state-clause-refused
returns-in-Err-started_state-clause-refused g c = λ tells kept items can stands.
    let t = taken c.args.id kept items c.in-Ok.stored can (c.in-Ok.ensures.given tells kept items stands) in
    inr (c.open_files.ensures.stands kept items stands, c.in-Err-started_state.ensures.refused (persistent_after kept (take t.k items)) t.readable t.is)

pub returns-in-Err-clause-refused : goal.returns-in-Err-clause-refused
returns-in-Err-clause-refused g c = λ tells kept items can stands.
    files_refused (Stands g.D.Disk.told g.D.Disk.means c.open_files.new.disks c.args.id kept items) c.in-Err.error (c.open_files.ensures.stands kept items stands) (c.in-Err.ensures.refused tells kept items stands)

pub returns-in-Ok-started_state-clause-gives : goal.returns-in-Ok-started_state-clause-gives
returns-in-Ok-started_state-clause-gives g c = λ tells.
    let means = g.D.Disk.means in
    let from = c.in-Ok-started_state.ensures.from in
    let state = c.in-Ok-started_state.state in
    let reading = pair_gives (first_base c.args.id) (means (disk_at c.args.disks.now One)).content (means (disk_at c.args.disks.now Two)).content in
    let base = current_base means c.open_files.new.disks c.args.id c.in-Ok.wal c.in-Ok.stored (c.in-Ok.ensures.current tells) in
    ok_more c.store_boot.result (λ (n : Running). n.state ≡ state) (λ (n : Running). IsStart c.args.id reading n.state)
    (λ n same. record {
      kept = from.0;
      is = ◌∙◌ {a = reading} (c.in-Ok.ensures.gives tells) (ap (λ (s : Stored). Ok s) (from.2 base));
      readable = from.3;
      boots = from.4;
      node_is = same ∙ from.1;
    }) c.store_boot.ensures.state

pub returns-in-Ok-started_state-clause-refusals : goal.returns-in-Ok-started_state-clause-refusals
returns-in-Ok-started_state-clause-refusals g c = λ tells.
    let means = g.D.Disk.means in
    let reading = pair_gives (first_base c.args.id) (means (disk_at c.args.disks.now One)).content (means (disk_at c.args.disks.now Two)).content in
    refuses_more c.store_boot.result (IsRefusal reading) c.store_boot.ensures.refused

pub returns-in-Err-started_state-clause-refusals : goal.returns-in-Err-started_state-clause-refusals
returns-in-Err-started_state-clause-refusals g c = λ tells.
    let means = g.D.Disk.means in
    let reading = pair_gives (first_base c.args.id) (means (disk_at c.args.disks.now One)).content (means (disk_at c.args.disks.now Two)).content in
    state_refused reading c.in-Ok.stored c.in-Err-started_state.error (c.in-Ok.ensures.gives tells) c.in-Err-started_state.ensures.wrong

pub returns-in-Ok-started_state-clause-spent : goal.returns-in-Ok-started_state-clause-spent
returns-in-Ok-started_state-clause-spent g c = within_then g.D.Disk.means 10 4 (disk_failed c.store_boot.result) c.args.disks.now c.open_files.new.disks c.store_boot.new.disks c.in-Ok.ensures.spent c.store_boot.ensures.spent
