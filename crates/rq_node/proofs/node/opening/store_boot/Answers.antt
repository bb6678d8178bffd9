use Rattle.std.proofs.Common.{◌∷◌, [], ◌∙◌, Result, Err, ap, subst}
use Rattle.rq_node.specs.declared.turn_error.TurnError.{TurnError}
use Rattle.rq_wire.specs.declared.frame.Frame.TheVariants as frames
use Rattle.rq_node.specs.Files.{stored_of}
use Rattle.rq_node.specs.Node.{Node, Persistent, Boot}
use Rattle.rq_node.specs.Recovery.{HasFile}
use Rattle.rq_node.proofs.Allowed.{boot_allowed}
use Rattle.rq_node.proofs.FileSteps.{file_stands}
use Rattle.rq_node.proofs.node.opening.store_boot.Goals as goal

abbrev failed : TurnError → Result (Unit {0}) TurnError
failed e = Err e

pub store-requires-clause-open : goal.store-requires-clause-open
store-requires-clause-open g c κs within = c.requires.open

pub returns-in-Ok-clause-open : goal.returns-in-Ok-clause-open
returns-in-Ok-clause-open g c = λ kept has is.
    subst (λ (k : Persistent). HasFile g.D.Disk.told g.D.Disk.means c.store.new.disks c.args.state.id k c.store.new.file) is
    (c.in-Ok.ensures.ok c.args.state.id kept (Boot c.args.state.boot ∷ []) (ap (λ (k : Node). frames.Boot k.boot ∷ []) c.state.view_is) (boot_allowed (stored_of c.args.state.id kept) c.args.state.boot c.requires.small) has)

pub returns-in-Err-Disk-clause-failed : goal.returns-in-Err-Disk-clause-failed
returns-in-Err-Disk-clause-failed g c = λ refused kept has.
    (c.store.ensures.failed (c.in-Err-Disk.is ∙ ap failed c.in-Err-Disk.field-0-is) c.args.state.id kept (Boot c.args.state.boot) [] (ap (λ (k : Node). frames.Boot k.boot ∷ []) c.state.view_is) (boot_allowed (stored_of c.args.state.id kept) c.args.state.boot c.requires.small) has).stands

pub returns-clause-no_memory : goal.returns-clause-no_memory
returns-clause-no_memory g c = λ refused kept has tells.
    file_stands g.D.Disk.told g.D.Disk.means c.current_logs_stand.ensures c.store.new.disks c.args.state.id kept c.store.new.file
    (c.store.ensures.no_memory (c.in-Err-NoMemory.is ∙ ap failed c.in-Err-NoMemory.field-0-is) c.args.state.id kept has) tells
