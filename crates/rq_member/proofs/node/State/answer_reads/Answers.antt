use Rattle.std.proofs.Common.{◌≡◌, ◌∙◌, List, refl, sym, ap, length, get_or, map, drop, arith}
use Rattle.std.specs.Vec.{vec_len, vec_capacity}
use Rattle.rq_engine.specs.Fold as fold
use Rattle.rq_world.specs.Node.{PendingRead}
use Rattle.rq_world.specs.Reads.{is_due}
use Rattle.rq_member.specs.Applied.{due_reads}
use Rattle.rq_member.specs.Held.{Held}
use Rattle.rq_member.proofs.Answering.{found}
use Rattle.rq_member.proofs.Applying.{result_left, results_pass, some_left, left_rest, head_is, read_answered, read_passed}
use Rattle.rq_member.proofs.node.State.answer_reads.Goals as goal
use Rattle.rq_member.proofs.node.State.answer_reads.Goals.{then-is_due, else-is_due}

pub remove-result-requires : goal.remove-result-requires
remove-result-requires g c =
    let h = c.args.self.now in
    let l = h.node.pending_reads in
    let k = c.loop-place.place in
    let same = ap (λ (s : Held). s.node.pending_reads) c.self.view_is in
    let x = c.index-read.result.now in
    let at = found l k x (omega (arith, c.loop-place-test.true, c.len-place-end.ensures, ap length same)) (c.index-read.ensures ∙ ap (λ (m : List PendingRead). get_or m k x) same) in
    let due = sym (c.is_due.ensures ∙ ap (λ (r : PendingRead). is_due h.first h.node.raft r.pass) c.read.view_is) ∙ c.if-is_due.true in
    omega (arith, some_left h.first h.node c.loop-place.results.items _ _ (result_left h.first h.node l k x c.loop-place.results.items at due c.loop-place.invariant.results), c.loop-place.results.ok.0)

pub loop-place-preserved : goal.loop-place-preserved
loop-place-preserved g c =
    let h = c.args.self.now in
    let l = h.node.pending_reads in
    let k = c.loop-place.place in
    let same = ap (λ (s : Held). s.node.pending_reads) c.self.view_is in
    let x = c.index-read.result.now in
    let at = found l k x (omega (arith, c.loop-place-test.true, c.len-place-end.ensures, ap length same)) (c.index-read.ensures ∙ ap (λ (m : List PendingRead). get_or m k x) same) in
    let test = sym (c.is_due.ensures ∙ ap (λ (r : PendingRead). is_due h.first h.node.raft r.pass) c.read.view_is) in
    elim c.if-is_due.branch [
      | then-is_due w ↦
          let due = test ∙ w.if-is_due.true in
          let left = result_left h.first h.node l k x c.loop-place.results.items at due c.loop-place.invariant.results in
          record {
            results = ap (λ v. v.items) w.results-is ∙ left_rest h.first h.node c.loop-place.results.items w.remove-result.new.self.items _ _ left w.remove-result.ensures.items;
            answers = read_answered h.first h.node l k x c.args.answers.now.items c.loop-place.answers.items c.if-is_due.answers.items c.read.inside.pass.id w.remove-result.result at due (ap (λ (r : PendingRead). r.pass.id) c.read.view_is) (head_is c.loop-place.results.items _ w.remove-result.result _ left w.remove-result.ensures.value) c.loop-place.invariant.answers (ap (λ v. v.items) w.answers-is ∙ w.push_reserved.ensures.items);
            room = omega (arith, c.loop-place.invariant.room, ap vec_len w.answers-is, ap vec_capacity w.answers-is, w.push_reserved.ensures.len, w.push_reserved.ensures.capacity);
          }
      | else-is_due w ↦
          let not_due = test ∙ w.if-is_due.false in
          record {
            results = ap (λ v. v.items) w.results-is ∙ results_pass h.first h.node l k x c.loop-place.results.items at not_due c.loop-place.invariant.results;
            answers = ap (λ v. v.items) w.answers-is ∙ read_passed h.first h.node l k x c.args.answers.now.items c.loop-place.answers.items at not_due c.loop-place.invariant.answers;
            room = omega (arith, c.loop-place.invariant.room, ap vec_len w.answers-is, ap vec_capacity w.answers-is);
          }
    ]
