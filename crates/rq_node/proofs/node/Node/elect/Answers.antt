use Rattle.std.proofs.Common.{rules, ◌≡◌, ◌∙◌, [], length, sym, ap, subst}
use Rattle.std.proofs.lemmas.Result.{err_from_is_err_and}
use Rattle.rq_node.specs.Node.{Turn, persistent_of}
use Rattle.rq_node.specs.Rules.{elect, led}
use Rattle.rq_node.specs.Recovery.{Moments}
use Rattle.rq_node.proofs.FileSteps.{spent_on}
use Rattle.rq_node.proofs.node.Node.elect.Goals as goal

pub returns-in_err-lead-clause-moments : goal.returns-in_err-lead-clause-moments
returns-in_err-lead-clause-moments g c =
    let same : elect c.args.self.now.state ≡ led c.args.self.now.state = search rules in
    subst (λ (t : Turn). Moments g.D.Disk.told g.D.Disk.means c.args.disks.now c.lead.new.disks c.args.self.now.state.id (persistent_of c.args.self.now.state) t.records) (sym same) c.lead.ensures.moments

pub returns-clause-moments : goal.returns-clause-moments
returns-clause-moments g c =
    let same : elect c.args.self.now.state ≡ led c.args.self.now.state = search rules in
    subst (λ (t : Turn). Moments g.D.Disk.told g.D.Disk.means c.args.disks.now c.lead.new.disks c.args.self.now.state.id (persistent_of c.args.self.now.state) t.records) (sym same) c.lead.ensures.moments

pub returns-in_err-lead-clause-still : goal.returns-in_err-lead-clause-still
returns-in_err-lead-clause-still g c = λ none.
    let same : elect c.args.self.now.state ≡ led c.args.self.now.state = search rules in
    let stored : (led c.args.self.now.state).records ≡ [] = ap (λ (t : Turn). t.records) (sym same) ∙ none in
    absurd (cc)

pub returns-clause-still : goal.returns-clause-still
returns-clause-still g c = λ none.
    let same : elect c.args.self.now.state ≡ led c.args.self.now.state = search rules in
    let stored : (led c.args.self.now.state).records ≡ [] = ap (λ (t : Turn). t.records) (sym same) ∙ none in
    absurd (cc)

pub returns-in_err-lead-clause-spent : goal.returns-in_err-lead-clause-spent
returns-in_err-lead-clause-spent g c =
    let same : elect c.args.self.now.state ≡ led c.args.self.now.state = search rules in
    let p = err_from_is_err_and c.from_residual.result c.from_residual.ensures.1 in
    spent_on g.D.Disk.means 2 (length (elect c.args.self.now.state).records) c.args.disks.now c.lead.new.disks c.from_residual.result p.1 p.2 (ap (λ (t : Turn). length t.records) (sym same)) c.in_err-lead.ensures.spent
