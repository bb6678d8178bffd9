use Rattle.std.proofs.Common.{rules, ◌≡◌, ◌∙◌, [], length, sym, ap, subst}
use Rattle.std.proofs.lemmas.Result.{err_from_is_err_and}
use Rattle.rq_node.specs.Node.{Turn, persistent_of}
use Rattle.rq_node.specs.Rules.{execute, taken_up}
use Rattle.rq_node.specs.Recovery.{Moments}
use Rattle.rq_node.proofs.FileSteps.{spent_on}
use Rattle.rq_node.proofs.node.Node.execute.Goals as goal

pub returns-in_err-append-clause-moments : goal.returns-in_err-append-clause-moments
returns-in_err-append-clause-moments g c =
    let same : execute c.args.self.now.state c.args.number c.args.items ≡ taken_up c.args.self.now.state c.args.number c.args.items = search rules in
    subst (λ (t : Turn). Moments g.D.Disk.told g.D.Disk.means c.args.disks.now c.append.new.disks c.args.self.now.state.id (persistent_of c.args.self.now.state) t.records) (sym same) c.append.ensures.moments

pub returns-clause-moments : goal.returns-clause-moments
returns-clause-moments g c =
    let same : execute c.args.self.now.state c.args.number c.args.items ≡ taken_up c.args.self.now.state c.args.number c.args.items = search rules in
    subst (λ (t : Turn). Moments g.D.Disk.told g.D.Disk.means c.args.disks.now c.append.new.disks c.args.self.now.state.id (persistent_of c.args.self.now.state) t.records) (sym same) c.append.ensures.moments

pub returns-in_err-append-clause-still : goal.returns-in_err-append-clause-still
returns-in_err-append-clause-still g c = λ none.
    let same : execute c.args.self.now.state c.args.number c.args.items ≡ taken_up c.args.self.now.state c.args.number c.args.items = search rules in
    let stored : (taken_up c.args.self.now.state c.args.number c.args.items).records ≡ [] = ap (λ (t : Turn). t.records) (sym same) ∙ none in
    absurd (cc)

pub returns-clause-still : goal.returns-clause-still
returns-clause-still g c = λ none.
    let same : execute c.args.self.now.state c.args.number c.args.items ≡ taken_up c.args.self.now.state c.args.number c.args.items = search rules in
    let stored : (taken_up c.args.self.now.state c.args.number c.args.items).records ≡ [] = ap (λ (t : Turn). t.records) (sym same) ∙ none in
    absurd (cc)

pub returns-in_err-append-clause-spent : goal.returns-in_err-append-clause-spent
returns-in_err-append-clause-spent g c =
    let same : execute c.args.self.now.state c.args.number c.args.items ≡ taken_up c.args.self.now.state c.args.number c.args.items = search rules in
    let p = err_from_is_err_and c.from_residual-in_err-append.result c.from_residual-in_err-append.ensures.1 in
    spent_on g.D.Disk.means 1 (length (execute c.args.self.now.state c.args.number c.args.items).records) c.args.disks.now c.append.new.disks c.from_residual-in_err-append.result p.1 p.2 (ap (λ (t : Turn). length t.records) (sym same)) c.in_err-append.ensures.spent
