use Rattle.std.proofs.Common.{ap, ◌∙◌}
use Rattle.rq_machine.specs.Stop.{stop_of}
use Rattle.rq_sql.specs.Read.{at_place}
use Rattle.rq_sql.proofs.OneStep.{on_ok, on_err}
use Rattle.rq_sql.proofs.steps.on_token.Goals as goal

pub returns-in-Ok : goal.returns-in-Ok
returns-in-Ok c = on_ok c.args.opened c.open_behind-behind.result c.args.state c.in-Ok.state c.args.placed c.in_ok-state.field-0 c.in_ok-state.ensures c.in-Ok.is c.open_behind-behind.ensures

pub returns-in-Err : goal.returns-in-Err
returns-in-Err c = on_err c.args.opened c.args.state c.args.placed c.in_ok-state.field-0 c.in-Err.stop c.refusal.result c.in_ok-state.ensures c.in-Err.is (c.refusal.ensures ∙ ap (λ is_out. at_place (stop_of c.in-Err.stop) is_out c.args.placed.start c.args.placed.end) c.is_out_of_profile-is_out.ensures)
