use Rattle.std.proofs.Common.{◌++◌, ◌∙◌, List, sym, ap}
use Rattle.rq_statement.specs.declared.item.Item.{Item}
use Rattle.rq_engine.specs.Fold.{run}
use Rattle.rq_node.specs.Node.{Turn}
use Rattle.rq_node.specs.Rules.{command_of, results_of}
use Rattle.rq_node.specs.contracts.node.State.{the_view}
use Rattle.rq_node.specs.declared.log_entry.Content.TheVariants.{NoOp, Execute}
use Rattle.rq_node.proofs.NodeSteps.{applies_seen, no_op_node, nothing_behind, executes_node, executes_answers}
use Rattle.rq_node.proofs.node.State.apply_next.Goals as goal

pub returns-in-NoOp-clause-node : goal.returns-in-NoOp-clause-node
returns-in-NoOp-clause-node c =
    no_op_node c.args.self.now (the_view c.self.inside) c.index.result.now c.self.view_is c.requires c.self.invariant.commit_within c.index.ensures c.in-NoOp.is

pub returns-in-NoOp-clause-answers : goal.returns-in-NoOp-clause-answers
returns-in-NoOp-clause-answers c =
    let turn = applies_seen c.args.self.now (the_view c.self.inside) c.index.result.now NoOp c.self.view_is c.requires c.self.invariant.commit_within c.index.ensures c.in-NoOp.is in
    nothing_behind c.args.answers.now ∙ ap (λ (t : Turn). c.args.answers.now ++ t.answers) (sym turn)

pub returns-in_ok-answer_first-in-Execute-clause-node : goal.returns-in_ok-answer_first-in-Execute-clause-node
returns-in_ok-answer_first-in-Execute-clause-node c =
    executes_node c.args.self.now (the_view c.self.inside) c.index.result.now c.in-Execute.items c.self.view_is c.requires c.self.invariant.commit_within c.index.ensures c.in-Execute.is
    c.answer_first.new.waiting.items c.run_list.new.replica (c.in_ok-answer_first-in-Execute.ensures.waiting) (c.in_ok-results-in-Execute.ensures.replica ∙ ap (λ (l : List Item). (run c.self.inside.replica (command_of (Execute l))).0) c.as_slice.ensures)

pub returns-in_ok-answer_first-in-Execute-clause-answers : goal.returns-in_ok-answer_first-in-Execute-clause-answers
returns-in_ok-answer_first-in-Execute-clause-answers c =
    executes_answers c.args.self.now (the_view c.self.inside) c.index.result.now c.in-Execute.items c.self.view_is c.requires c.self.invariant.commit_within c.index.ensures c.in-Execute.is
    c.args.answers.now c.answer_first.new.answers c.in_ok-results-in-Execute.results (c.in_ok-answer_first-in-Execute.ensures.answers) (c.in_ok-results-in-Execute.ensures.results ∙ ap (λ (l : List Item). results_of (run c.self.inside.replica (command_of (Execute l))).1) c.as_slice.ensures)
