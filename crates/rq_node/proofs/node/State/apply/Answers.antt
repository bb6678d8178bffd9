use Rattle.std.proofs.Common.{◌≤◌, ◌<◌, ◌-◌, ◌∙◌, List, [], length, refl, sym, ap, subst, arith}
use Rattle.rq_request.specs.declared.say.Answer.{Answer}
use Rattle.rq_node.specs.Node.{Node, Turn}
use Rattle.rq_node.specs.Rules.{apply, apply_times}
use Rattle.rq_node.proofs.Turning.{kept_both}
use Rattle.rq_node.proofs.NodeSteps.{times_go_on, falls_by_one, times_none}
use Rattle.rq_node.proofs.node.State.apply.Goals as goal

pub loop-self-init : goal.loop-self-init
loop-self-init c = (ap (λ (l : List Answer). apply_times (c.args.self.now.commit - c.args.self.now.applied) (record { node = c.args.self.now; records = []; answers = l })) c.new-answers.ensures, record { id = refl; persistent = refl })

pub loop-self-preserved : goal.loop-self-preserved
loop-self-preserved c =
    let within = subst (λ (k : Node). k.commit ≤ length k.log) c.self.view_is c.self.invariant.commit_within in (
      times_go_on c.loop-self.self c.apply_next.new.self (subst (λ (k : Node). k.applied < k.commit) c.self.view_is c.loop-self-test.true) within c.in_ok-apply_next.ensures.node
          c.loop-self.answers c.apply_next.new.answers (apply c.args.self.now) c.in_ok-apply_next.ensures.answers c.loop-self.invariant.0,
      kept_both c.args.self.now c.loop-self.self c.apply_next.new.self c.loop-self.invariant.1 c.apply_next.ensures.kept,
    )

pub loop-self-smaller : goal.loop-self-smaller
loop-self-smaller c =
    let within = subst (λ (k : Node). k.commit ≤ length k.log) c.self.view_is c.self.invariant.commit_within in
    falls_by_one c.loop-self.self c.apply_next.new.self (subst (λ (k : Node). k.applied < k.commit) c.self.view_is c.loop-self-test.true) within c.in_ok-apply_next.ensures.node

pub returns-clause-node : goal.returns-clause-node
returns-clause-node c =
    ap (λ (t : Turn). t.node) (sym (times_none c.loop-self.self.applied c.loop-self.self.commit (record { node = c.loop-self.self; records = []; answers = c.loop-self.answers }) (λ less. let more = subst (λ (k : Node). k.commit ≤ k.applied) c.self.view_is c.loop-self-test.false in omega arith)) ∙ c.loop-self.invariant.0)

pub returns-clause-answers : goal.returns-clause-answers
returns-clause-answers c =
    ap (λ (t : Turn). t.answers) (sym (times_none c.loop-self.self.applied c.loop-self.self.commit (record { node = c.loop-self.self; records = []; answers = c.loop-self.answers }) (λ less. let more = subst (λ (k : Node). k.commit ≤ k.applied) c.self.view_is c.loop-self-test.false in omega arith)) ∙ c.loop-self.invariant.0)
