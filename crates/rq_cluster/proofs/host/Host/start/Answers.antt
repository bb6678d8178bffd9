use Rattle.std.proofs.Common.{[], ◌++◌, ◌+◌, List, ℕ, ◌≡◌, Some, Err, take, ◌∙◌, sym, ap, subst, refl}
use Rattle.std.proofs.lemmas.List.{append-nil}
use Rattle.rq_node.specs.Node.{persistent_after}
use Rattle.rq_node.specs.Rules.{started}
use Rattle.rq_node.specs.Recovery.{Stands, FailedOpening}
use Rattle.rq_script.specs.ScriptText.{up_text, down_text}
use Rattle.rq_cluster.specs.Acting.{start as start_act}
use Rattle.rq_cluster.specs.declared.host.Host.{Host}
use Rattle.rq_cluster.specs.Refines.{BreaksOff}
use Rattle.rq_cluster.proofs.Downs.{down_goes, down_breaks, goes_of}
use Rattle.rq_cluster.proofs.Pairs.{SameDisks}
use Rattle.rq_cluster.proofs.Results.{on_ok_map, on_err_always}
use Rattle.rq_cluster.proofs.Starts.{is_down, stood, starts_running, starts_down, starts_refused, breaks_after}
use Rattle.rq_cluster.proofs.Turns.{lets_of, none_of, unarmed_of, the_some}
use Rattle.rq_cluster.proofs.host.Host.start.Goals as goal

pub returns-in_ok-write_up-in-Ok-clause-ok : goal.returns-in_ok-write_up-in-Ok-clause-ok
returns-in_ok-write_up-in-Ok-clause-ok g c = λ start s refines.
    let told = g.D.Disk.told in
    let means = g.D.Disk.means in
    let old = c.args.disks.now in
    let from = c.args.self.now in
    let mid = c.let_pass.new.disks in
    let new = c.open.new.disks in
    let same : SameDisks old mid = (c.let_pass.ensures.one, c.let_pass.ensures.two) in
    let down = none_of from.node c.requires.down in
    let lets = lets_of told means start old from s refines mid c.let_pass.ensures.passes in
    let d = is_down told means start old from s refines down mid new same lets _ c.in-Ok.ensures.spent in
    let stands = subst (λ (i : List ℕ). Stands told means mid i d.kept d.rest) refines.id (stood told means start old from s refines down mid new same lets _ c.in-Ok.ensures.spent) in
    let state = subst (λ (i : List ℕ). (k : ℕ) × (c.in-Ok.node.state ≡ (started i (persistent_after d.kept (take k d.rest))).node)) (sym refines.id) (c.in-Ok.ensures.node refines.tells d.kept d.rest d.readable stands) in
    starts_running told means start old from s refines down mid new same lets _ c.in-Ok.ensures.spent _ c.in-Ok.node c.args.text.now.items c.write_up.new.text.items refl refl refl refl refl
    state c.in-Ok.ensures.open c.in_ok-write_up-in-Ok.ensures

pub returns-in_err-write_up-in-Ok-clause-broken : goal.returns-in_err-write_up-in-Ok-clause-broken
returns-in_err-write_up-in-Ok-clause-broken g c =
    let told = g.D.Disk.told in
    let means = g.D.Disk.means in
    let old = c.args.disks.now in
    let from = c.args.self.now in
    let mid = c.let_pass.new.disks in
    let new = c.open.new.disks in
    let same : SameDisks old mid = (c.let_pass.ensures.one, c.let_pass.ensures.two) in
    let down = none_of from.node c.requires.down in
    let to : Host = record from { node = Some c.in-Ok.node } in
    on_err_always c.from_residual.result (BreaksOff told means start_act old new from)
    (λ start s refines.
    let lets = lets_of told means start old from s refines mid c.let_pass.ensures.passes in
    let d = is_down told means start old from s refines down mid new same lets _ c.in-Ok.ensures.spent in
    let stands = subst (λ (i : List ℕ). Stands told means mid i d.kept d.rest) refines.id (stood told means start old from s refines down mid new same lets _ c.in-Ok.ensures.spent) in
    let state = subst (λ (i : List ℕ). (k : ℕ) × (c.in-Ok.node.state ≡ (started i (persistent_after d.kept (take k d.rest))).node)) (sym refines.id) (c.in-Ok.ensures.node refines.tells d.kept d.rest d.readable stands) in
    let went = starts_running told means start old from s refines down mid new same lets _ c.in-Ok.ensures.spent to c.in-Ok.node [] (up_text c.in-Ok.node.state) refl refl refl refl refl
    state c.in-Ok.ensures.open refl in
    breaks_after told means c.current_logs_stand.ensures start_act start new to s (went.0, went.1))

pub returns-in_err-self-in-Err-Disk-clause-broken : goal.returns-in_err-self-in-Err-Disk-clause-broken
returns-in_err-self-in-Err-Disk-clause-broken g c =
    let told = g.D.Disk.told in
    let means = g.D.Disk.means in
    let old = c.args.disks.now in
    let from = c.args.self.now in
    let mid = c.let_pass.new.disks in
    let new = c.open.new.disks in
    let same : SameDisks old mid = (c.let_pass.ensures.one, c.let_pass.ensures.two) in
    let down = none_of from.node c.requires.down in
    on_err_always c.from_residual-in_err-self-in-Err-Disk.result (BreaksOff told means start_act old new from)
    (λ start s refines.
    let lets = lets_of told means start old from s refines mid c.let_pass.ensures.passes in
    let d = is_down told means start old from s refines down mid new same lets _ c.in-Err-Disk.ensures.spent in
    let stands = subst (λ (i : List ℕ). Stands told means mid i d.kept d.rest) refines.id (stood told means start old from s refines down mid new same lets _ c.in-Err-Disk.ensures.spent) in
    let failed = subst (λ (i : List ℕ). FailedOpening told means new i d.kept d.rest) (sym refines.id) (c.in-Err-Disk.ensures.failed (ap Err c.in-Err-Disk.field-0-is) d.kept d.rest d.readable stands) in
    down_breaks told means start new start_act s [] (s.failures + 1)
    (starts_down told means start old from s refines down mid new same lets _ c.in-Err-Disk.ensures.spent (cc (c.in-Err-Disk.field-0-is)) failed))

pub returns-in_ok-self-in-Err-Disk-clause-ok : goal.returns-in_ok-self-in-Err-Disk-clause-ok
returns-in_ok-self-in-Err-Disk-clause-ok g c =
    let told = g.D.Disk.told in
    let means = g.D.Disk.means in
    let old = c.args.disks.now in
    let from = c.args.self.now in
    let mid = c.let_pass.new.disks in
    let new = c.open.new.disks in
    let same : SameDisks old mid = (c.let_pass.ensures.one, c.let_pass.ensures.two) in
    let down = none_of from.node c.requires.down in
    let more = the_some c.checked_add.result c.in_ok-self-in-Err-Disk.field-0 (from.failures + 1) _ c.in_ok-self-in-Err-Disk.ensures.ok_part c.checked_add.ensures in
    goes_of told means c.write_down.result start_act old new from _ c.args.text.now.items c.write_down.new.text.items
    (λ start s refines.
    let lets = lets_of told means start old from s refines mid c.let_pass.ensures.passes in
    let d = is_down told means start old from s refines down mid new same lets _ c.in-Err-Disk.ensures.spent in
    let stands = subst (λ (i : List ℕ). Stands told means mid i d.kept d.rest) refines.id (stood told means start old from s refines down mid new same lets _ c.in-Err-Disk.ensures.spent) in
    let failed = subst (λ (i : List ℕ). FailedOpening told means new i d.kept d.rest) (sym refines.id) (c.in-Err-Disk.ensures.failed (ap Err c.in-Err-Disk.field-0-is) d.kept d.rest d.readable stands) in
    let gone = starts_down told means start old from s refines down mid new same lets _ c.in-Err-Disk.ensures.spent (cc (c.in-Err-Disk.field-0-is)) failed in
    on_ok_map c.write_down.result (c.write_down.new.text.items ≡ c.args.text.now.items ++ down_text from.id) _
    (λ text_is. down_goes told means start new start_act s from _ [] c.args.text.now.items c.write_down.new.text.items (s.failures + 1) refines.tells gone refines.id refines.lost refl down
    (unarmed_of from.armed (sym refines.armed ∙ refines.spent down)) (sym (append-nil from.lost.items)) (more ∙ ap (λ (n : ℕ). n + 1) (sym refines.failures)) text_is) c.write_down.ensures)

pub returns-in_ok-self-in-Err-Disk-clause-broken : goal.returns-in_ok-self-in-Err-Disk-clause-broken
returns-in_ok-self-in-Err-Disk-clause-broken g c =
    let told = g.D.Disk.told in
    let means = g.D.Disk.means in
    let old = c.args.disks.now in
    let from = c.args.self.now in
    let mid = c.let_pass.new.disks in
    let new = c.open.new.disks in
    let same : SameDisks old mid = (c.let_pass.ensures.one, c.let_pass.ensures.two) in
    let down = none_of from.node c.requires.down in
    on_err_always c.write_down.result (BreaksOff told means start_act old new from)
    (λ start s refines.
    let lets = lets_of told means start old from s refines mid c.let_pass.ensures.passes in
    let d = is_down told means start old from s refines down mid new same lets _ c.in-Err-Disk.ensures.spent in
    let stands = subst (λ (i : List ℕ). Stands told means mid i d.kept d.rest) refines.id (stood told means start old from s refines down mid new same lets _ c.in-Err-Disk.ensures.spent) in
    let failed = subst (λ (i : List ℕ). FailedOpening told means new i d.kept d.rest) (sym refines.id) (c.in-Err-Disk.ensures.failed (ap Err c.in-Err-Disk.field-0-is) d.kept d.rest d.readable stands) in
    down_breaks told means start new start_act s [] (s.failures + 1)
    (starts_down told means start old from s refines down mid new same lets _ c.in-Err-Disk.ensures.spent (cc (c.in-Err-Disk.field-0-is)) failed))

pub returns-in-Err : goal.returns-in-Err
returns-in-Err g c =
    let told = g.D.Disk.told in
    let means = g.D.Disk.means in
    let old = c.args.disks.now in
    let from = c.args.self.now in
    let mid = c.let_pass.new.disks in
    let new = c.open.new.disks in
    let same : SameDisks old mid = (c.let_pass.ensures.one, c.let_pass.ensures.two) in
    let down = none_of from.node c.requires.down in
    record {
      ok = tt;
      ready = tt;
      broken = λ start s refines.
          (let lets = lets_of told means start old from s refines mid c.let_pass.ensures.passes in
          let d = is_down told means start old from s refines down mid new same lets _ c.in-Err.ensures.spent in
          let stands = subst (λ (i : List ℕ). Stands told means mid i d.kept d.rest) refines.id (stood told means start old from s refines down mid new same lets _ c.in-Err.ensures.spent) in
          starts_refused told means start old from s refines down mid new same lets _ c.in-Err.ensures.spent c.in-Err.field-0
          (λ disk. cc (disk))
          (λ disk. subst (λ (i : List ℕ). FailedOpening told means new i d.kept d.rest) (sym refines.id) (c.in-Err.ensures.failed (ap Err disk) d.kept d.rest d.readable stands))
          (c.in-Err.ensures.refused refines.tells d.kept d.rest d.readable stands));
    }
