use Rattle.std.proofs.Common.{false, ◌++◌, List, ◌≡◌, ◌*◌, ℕ, inl, Option, Err, ◌∙◌, sym, ap, subst, refl}
use Rattle.rq_request.specs.declared.say.Answer.{Answer}
use Rattle.rq_node.specs.Events.{rule, asked as asked_in}
use Rattle.rq_node.specs.Node.{Node}
use Rattle.rq_script.specs.Cluster.{numbers}
use Rattle.rq_script.specs.ScriptText.{answers_text}
use Rattle.rq_cluster.specs.Acting.{asked_of, turn}
use Rattle.rq_cluster.specs.Refines.{BreaksOff}
use Rattle.rq_cluster.proofs.Downs.{fewer_on, fell_goes, fell_breaks, goes_of, left_kept, server_same, turn_stands}
use Rattle.rq_cluster.proofs.Pairs.{SameDisks, fewer_same, fewer_spent}
use Rattle.rq_cluster.proofs.Results.{on_ok_map, on_err_always}
use Rattle.rq_cluster.proofs.Starts.{breaks_after, refines_stands}
use Rattle.rq_cluster.proofs.Turns.{lets_of, idle_goes, turn_goes}
use Rattle.rq_cluster.proofs.host.Host.turn.Goals as goal

pub returns-in_default-clause-ok : goal.returns-in_default-clause-ok
returns-in_default-clause-ok g c =
    let told = g.D.Disk.told in
    let means = g.D.Disk.means in
    let old = c.args.disks.now in
    let mid = c.let_pass.new.disks in
    let from = c.args.self.now in
    let e = c.args.event in
    goes_of told means c.lose.result (turn e) old mid from (record from { node = c.take.new.self; lost = c.lose.new.lost }) c.args.text.now.items c.args.text.now.items
    (λ start s refines. on_ok_map c.lose.result (c.lose.new.lost.items ≡ from.lost.items ++ asked_of c.asked-asked.result) _
    (λ lost. idle_goes told means start old from s refines mid _ (rule e) (asked_of (asked_in e)) c.args.text.now.items
    (c.let_pass.ensures.one, c.let_pass.ensures.two) (lets_of told means start old from s refines mid c.let_pass.ensures.passes)
    (sym c.take.ensures.value ∙ c.in_default.is) refl (lost ∙ ap (λ (o : Option ℕ). from.lost.items ++ asked_of o) c.asked-asked.ensures) refl refl c.take.ensures.after)
    c.lose.ensures)

pub returns-in_default-clause-broken : goal.returns-in_default-clause-broken
returns-in_default-clause-broken g c =
    let told = g.D.Disk.told in
    let means = g.D.Disk.means in
    let old = c.args.disks.now in
    let mid = c.let_pass.new.disks in
    let from = c.args.self.now in
    on_err_always c.lose.result (BreaksOff told means (turn c.args.event) old mid from)
    (λ start s refines. (s, inl refl, server_same told means start old mid s (c.let_pass.ensures.one, c.let_pass.ensures.two) (refines_stands told means c.current_logs_stand.ensures start old from s refines)))

pub returns-in-Ok-clause-ok : goal.returns-in-Ok-clause-ok
returns-in-Ok-clause-ok g c =
    let told = g.D.Disk.told in
    let means = g.D.Disk.means in
    let old = c.args.disks.now in
    let mid = c.let_pass.new.disks in
    let new = c.turn.new.disks in
    let from = c.args.self.now in
    let e = c.args.event in
    let node = c.in-Some.node in
    let brings = c.in-Ok.ensures.effects in
    let same : SameDisks old mid = (c.let_pass.ensures.one, c.let_pass.ensures.two) in
    goes_of told means c.write_answers.result (turn e) old new from c.go_on.new.self c.args.text.now.items c.write_answers.new.text.items
    (λ start s refines. on_ok_map c.write_answers.result (c.write_answers.new.text.items ≡ c.args.text.now.items ++ answers_text c.as_slice.result.now) _
    (λ written. turn_goes told means start old from s refines mid new c.go_on.new.self node c.turn.new.self (rule e) (asked_of (asked_in e)) c.in-Ok.effects.stored c.args.text.now.items c.write_answers.new.text.items
    same (lets_of told means start old from s refines mid c.let_pass.ensures.passes) c.in-Ok.ensures.spent
    (sym c.take.ensures.value ∙ c.in-Some.is) c.go_on.ensures.id c.go_on.ensures.lost c.go_on.ensures.failures c.go_on.ensures.armed c.go_on.ensures.node
    c.in-Ok.ensures.ok brings.stored c.turn.ensures.modest.id c.in-Ok.ensures.open
    (written ∙ ap (λ (a : List Answer). c.args.text.now.items ++ answers_text a) (c.as_slice.ensures ∙ brings.answers)))
    c.write_answers.ensures)

pub returns-in-Ok-clause-broken : goal.returns-in-Ok-clause-broken
returns-in-Ok-clause-broken g c =
    let told = g.D.Disk.told in
    let means = g.D.Disk.means in
    let old = c.args.disks.now in
    let mid = c.let_pass.new.disks in
    let new = c.turn.new.disks in
    let from = c.args.self.now in
    let e = c.args.event in
    let node = c.in-Some.node in
    let brings = c.in-Ok.ensures.effects in
    let same : SameDisks old mid = (c.let_pass.ensures.one, c.let_pass.ensures.two) in
    on_err_always c.write_answers.result (BreaksOff told means (turn e) old new from)
    (λ start s refines.
    let went = turn_goes told means start old from s refines mid new c.go_on.new.self node c.turn.new.self (rule e) (asked_of (asked_in e)) c.in-Ok.effects.stored c.args.text.now.items _
    same (lets_of told means start old from s refines mid c.let_pass.ensures.passes) c.in-Ok.ensures.spent
    (sym c.take.ensures.value ∙ c.in-Some.is) c.go_on.ensures.id c.go_on.ensures.lost c.go_on.ensures.failures c.go_on.ensures.armed c.go_on.ensures.node
    c.in-Ok.ensures.ok brings.stored c.turn.ensures.modest.id c.in-Ok.ensures.open refl in
    breaks_after told means c.current_logs_stand.ensures (turn e) start new c.go_on.new.self s (went.0, went.1))

pub returns-in-Err-NoMemory-clause-broken : goal.returns-in-Err-NoMemory-clause-broken
returns-in-Err-NoMemory-clause-broken g c = λ start s refines.
    let told = g.D.Disk.told in
    let means = g.D.Disk.means in
    let old = c.args.disks.now in
    let mid = c.let_pass.new.disks in
    let new = c.turn.new.disks in
    let same : SameDisks old mid = (c.let_pass.ensures.one, c.let_pass.ensures.two) in
    let left = c.in-Err-NoMemory.ensures.no_memory (ap Err c.in-Err-NoMemory.field-0-is) in
    let stands = turn_stands told means c.current_logs_stand.ensures start old c.args.self.now s refines new c.in-Some.node c.turn.new.self
    (sym c.take.ensures.value ∙ c.in-Some.is) (left_kept c.args.event c.in-Some.node.state c.turn.new.self.state left.0) left.1
    (fewer_on told means old mid new (fewer_same told means old mid same) (fewer_spent told means 0 false mid new (c.in-Err-NoMemory.ensures.spent.1 c.in-Err-NoMemory.field-0-is))) in
    (s, inl refl, stands)

pub returns-clause-ok : goal.returns-clause-ok
returns-clause-ok g c =
    let told = g.D.Disk.told in
    let means = g.D.Disk.means in
    let old = c.args.disks.now in
    let mid = c.let_pass.new.disks in
    let from = c.args.self.now in
    let e = c.args.event in
    let n = c.in-Some.node.state in
    let modest = c.turn.ensures.modest in
    let same : SameDisks old mid = (c.let_pass.ensures.one, c.let_pass.ensures.two) in
    let stopped : c.turn.new.self.state ≡ n = c.in-Err-Disk.ensures.stopped (ap Err c.in-Err-Disk.field-0-is) in
    goes_of told means c.go_down.result (turn e) old c.go_down.new.disks from c.go_down.new.self c.args.text.now.items c.go_down.new.text.items
    (λ start s refines. fell_goes told means start old from s refines mid c.turn.new.disks c.go_down.new.disks c.in-Some.node (rule e) (asked_of (asked_in e)) same
    (lets_of told means start old from s refines mid c.let_pass.ensures.passes) (c.in-Err-Disk.ensures.spent.0 c.in-Err-Disk.field-0-is)
    (sym c.take.ensures.value ∙ c.in-Some.is) modest.few (c.in-Err-Disk.ensures.failed (ap Err c.in-Err-Disk.field-0-is)) modest.readable c.go_down.ensures.struck c.go_down.ensures.failed
    c.go_down.result c.go_down.new.self c.args.text.now.items c.go_down.new.text.items (
      c.go_down.ensures.id,
      on_ok_map c.go_down.result _ _ (λ is. is ∙ c.take.ensures.after) c.go_down.ensures.node,
      c.go_down.ensures.armed,
      on_ok_map c.go_down.result _ (c.go_down.new.self.lost.items ≡ from.lost.items ++ (numbers n.waiting ++ asked_of (asked_in e)))
          (λ is. is ∙ ap (λ (m : Node). from.lost.items ++ (numbers m.waiting ++ asked_of c.asked-asked.result)) stopped ∙ ap (λ (o : Option ℕ). from.lost.items ++ (numbers n.waiting ++ asked_of o)) c.asked-asked.ensures) c.go_down.ensures.lost,
      c.go_down.ensures.text,
      c.go_down.ensures.struck_failures,
      c.go_down.ensures.failures,
    ))

pub returns-clause-broken : goal.returns-clause-broken
returns-clause-broken g c =
    let told = g.D.Disk.told in
    let means = g.D.Disk.means in
    let old = c.args.disks.now in
    let mid = c.let_pass.new.disks in
    let from = c.args.self.now in
    let e = c.args.event in
    let modest = c.turn.ensures.modest in
    let same : SameDisks old mid = (c.let_pass.ensures.one, c.let_pass.ensures.two) in
    on_err_always c.go_down.result (BreaksOff told means (turn e) old c.go_down.new.disks from)
    (λ start s refines. fell_breaks told means start old from s refines mid c.turn.new.disks c.go_down.new.disks c.in-Some.node (rule e) (asked_of (asked_in e)) same
    (lets_of told means start old from s refines mid c.let_pass.ensures.passes) (c.in-Err-Disk.ensures.spent.0 c.in-Err-Disk.field-0-is)
    (sym c.take.ensures.value ∙ c.in-Some.is) modest.few (c.in-Err-Disk.ensures.failed (ap Err c.in-Err-Disk.field-0-is)) modest.readable c.go_down.ensures.struck c.go_down.ensures.failed)
