use Rattle.std.proofs.Common.{◌++◌, ◌≡◌, ◌∙◌, sym, subst, refl}
use Rattle.rq_node.specs.Node.{Node}
use Rattle.rq_node.specs.Sound.{AreReadable}
use Rattle.rq_script.specs.Cluster.{numbers}
use Rattle.rq_script.specs.ScriptText.{down_text}
use Rattle.rq_cluster.specs.Acting.{Crashed, stop as stop_act}
use Rattle.rq_cluster.specs.Refines.{BreaksOff}
use Rattle.rq_cluster.proofs.Downs.{down_goes, down_breaks, goes_of}
use Rattle.rq_cluster.proofs.Results.{on_ok_map, on_err_always}
use Rattle.rq_cluster.proofs.Starts.{stops_down}
use Rattle.rq_cluster.proofs.host.Host.stop.Goals as goal

pub returns-in_err-add_numbers-clause-broken : goal.returns-in_err-add_numbers-clause-broken
returns-in_err-add_numbers-clause-broken g c =
    let told = g.D.Disk.told in
    let means = g.D.Disk.means in
    let crashed : Crashed told means c.args.disks.now c.crash.new.self = record { image = c.crash.ensures.image; stable = c.crash.ensures.stable; faults = c.crash.ensures.faults; arm = c.crash.ensures.arm } in
    let log : AreReadable c.in-Some.node.state.log = subst (λ (m : Node). AreReadable m.log) c.drop.view_is c.drop.invariant.readable in
    on_err_always c.from_residual.result (BreaksOff told means stop_act c.args.disks.now c.crash.new.self c.args.self.now)
    (λ start s refines. down_breaks told means start c.crash.new.self stop_act s (numbers c.in-Some.node.state.waiting) s.failures
    (stops_down told means c.current_logs_stand.ensures start c.args.disks.now c.args.self.now s refines c.crash.new.self c.in-Some.node (sym c.take.ensures.value ∙ c.in-Some.is) crashed log))

pub returns-clause-ok : goal.returns-clause-ok
returns-clause-ok g c =
    let told = g.D.Disk.told in
    let means = g.D.Disk.means in
    let crashed : Crashed told means c.args.disks.now c.crash.new.self = record { image = c.crash.ensures.image; stable = c.crash.ensures.stable; faults = c.crash.ensures.faults; arm = c.crash.ensures.arm } in
    let log : AreReadable c.in-Some.node.state.log = subst (λ (m : Node). AreReadable m.log) c.drop-2.view_is c.drop-2.invariant.readable in
    goes_of told means c.write_down.result stop_act c.args.disks.now c.crash.new.self c.args.self.now _ c.args.text.now.items c.write_down.new.text.items
    (λ start s refines. on_ok_map c.write_down.result (c.write_down.new.text.items ≡ c.args.text.now.items ++ down_text c.args.self.now.id) _
    (λ text_is. down_goes told means start c.crash.new.self stop_act s c.args.self.now _ (numbers c.in-Some.node.state.waiting) c.args.text.now.items c.write_down.new.text.items s.failures refines.tells
    (stops_down told means c.current_logs_stand.ensures start c.args.disks.now c.args.self.now s refines c.crash.new.self c.in-Some.node (sym c.take.ensures.value ∙ c.in-Some.is) crashed log)
    refines.id refines.lost refl c.take.ensures.after refl c.in_ok-add_numbers.ensures (sym refines.failures) text_is) c.write_down.ensures)

pub returns-clause-broken : goal.returns-clause-broken
returns-clause-broken g c =
    let told = g.D.Disk.told in
    let means = g.D.Disk.means in
    let crashed : Crashed told means c.args.disks.now c.crash.new.self = record { image = c.crash.ensures.image; stable = c.crash.ensures.stable; faults = c.crash.ensures.faults; arm = c.crash.ensures.arm } in
    let log : AreReadable c.in-Some.node.state.log = subst (λ (m : Node). AreReadable m.log) c.drop-2.view_is c.drop-2.invariant.readable in
    on_err_always c.write_down.result (BreaksOff told means stop_act c.args.disks.now c.crash.new.self c.args.self.now)
    (λ start s refines. down_breaks told means start c.crash.new.self stop_act s (numbers c.in-Some.node.state.waiting) s.failures
    (stops_down told means c.current_logs_stand.ensures start c.args.disks.now c.args.self.now s refines c.crash.new.self c.in-Some.node (sym c.take.ensures.value ∙ c.in-Some.is) crashed log))
