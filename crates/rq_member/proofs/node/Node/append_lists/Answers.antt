use Rattle.std.proofs.Common.{◌≡◌, ◌∙◌, [], List, refl, ap, sym, subst}
use Rattle.std.proofs.lemmas.Result.{err_from_is_err_and}
use Rattle.rq_statement.specs.Statements.{Statements}
use Rattle.rq_statement.specs.declared.command.Command.TheVariants.{Batch}
use Rattle.rq_world.specs.Rules.{batch_entry}
use Rattle.rq_member.specs.Files.{IsReadable}
use Rattle.rq_member.specs.declared.node.Node.{Node as TheNode}
use Rattle.rq_member.proofs.Proposing.{did_starve}
use Rattle.rq_member.proofs.node.Node.append_lists.Goals as goal

pub returns-in_err-lists-clause-did : goal.returns-in_err-lists-clause-did
returns-in_err-lists-clause-did g c =
    let h = c.args.self.now in
    did_starve h.state.first g.D.Disk.told g.D.Disk.means c.logs_stand_while_room_is_made.ensures h.state.node (batch_entry h.state.first h.state.node) [] h.state.node.queue c.args.disks.now _ h.file h.file c.from_residual.result
    (err_from_is_err_and c.from_residual.result c.from_residual.ensures.1) c.requires.open refl c.requires.readable refl
