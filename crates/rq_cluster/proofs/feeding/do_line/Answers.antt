use Rattle.std.proofs.Common.{Err, ◌≡◌, ◌≤◌, ◌++◌, ◌∙◌, [], List, ℕ, length, ap, sym, subst, arith, inl, inr}
use Rattle.std.proofs.lemmas.List.{append-nil}
use Rattle.rq_cluster.specs.LastLines.{IsPrefix}
use Rattle.rq_cluster.specs.Feed.{PartOf}
use Rattle.rq_cluster.proofs.feeding.do_line.Goals as goal

-- what was appended to an empty text
joined : {text whole before said : List ℕ} → text ≡ whole → whole ≡ before ++ said → before ≡ [] → text ≡ said
joined {said = said} same is empty = same ∙ is ∙ ap (λ (l : List ℕ). l ++ said) empty

pub returns-then-line-gt-MAX_LINE-clause-outside : goal.returns-then-line-gt-MAX_LINE-clause-outside
returns-then-line-gt-MAX_LINE-clause-outside g c is start w refines =
    (inl (omega (arith, c.if-line-gt-MAX_LINE.true)), c.refined_clusters_stand.ensures start c.args.disks.now.items c.args.world.now w refines)

pub returns-then-line-gt-MAX_LINE-clause-part : goal.returns-then-line-gt-MAX_LINE-clause-part
returns-then-line-gt-MAX_LINE-clause-part g c start w refines =
    ([], (λ t. sym (append-nil (g.K.Sink.taken c.args.sink.now))), PartOf.none (c.refined_clusters_stand.ensures start c.args.disks.now.items c.args.world.now w refines))

pub returns-in-Err-Outside-clause-outside : goal.returns-in-Err-Outside-clause-outside
returns-in-Err-Outside-clause-outside g c is start w refines = let o = c.in-Err-Outside.ensures.outside (ap Err c.in-Err-Outside.field-0-is) start w refines in (inr o.0, o.1)

pub returns-in-Err-Outside-clause-part : goal.returns-in-Err-Outside-clause-part
returns-in-Err-Outside-clause-part g c start w refines =
    ([], (λ t. sym (append-nil (g.K.Sink.taken c.args.sink.now))), PartOf.none (c.in-Err-Outside.ensures.outside (ap Err c.in-Err-Outside.field-0-is) start w refines).1)

pub returns-in-Err-NoMemory-clause-part : goal.returns-in-Err-NoMemory-clause-part
returns-in-Err-NoMemory-clause-part g c start w refines =
    let b = c.in-Err-NoMemory.ensures.broken (ap Err c.in-Err-NoMemory.field-0-is) start w refines in
    let fits : length c.args.line.now ≤ 2097152 = omega (arith, c.if-line-gt-MAX_LINE.false) in
    ([], (λ t. sym (append-nil (g.K.Sink.taken c.args.sink.now))), PartOf.within b.0 fits b.1 b.2)

pub returns-in-Err-Failed-clause-part : goal.returns-in-Err-Failed-clause-part
returns-in-Err-Failed-clause-part g c start w refines =
    let e = c.in-Err-Failed.ensures.err in
    let o = c.in-Ok.ensures.ok start w refines in
    let fits : length c.args.line.now ≤ 2097152 = omega (arith, c.if-line-gt-MAX_LINE.false) in
    let said = joined c.deref.ensures.value o.3 c.new-text.ensures.items in
    (e.0, e.1, PartOf.writing e.0 o.1 o.0 fits o.2 (subst (λ (l : List ℕ). IsPrefix e.0 l) said e.2) (c.refined_clusters_stand.ensures start c.step.new.disks.items c.step.new.self o.0 o.4))

pub returns-clause-part : goal.returns-clause-part
returns-clause-part g c start w refines =
    let e = c.in-Err-NoMemory-give.ensures.err in
    let o = c.in-Ok.ensures.ok start w refines in
    let fits : length c.args.line.now ≤ 2097152 = omega (arith, c.if-line-gt-MAX_LINE.false) in
    let said = joined c.deref.ensures.value o.3 c.new-text.ensures.items in
    (e.0, e.1, PartOf.writing e.0 o.1 o.0 fits o.2 (subst (λ (l : List ℕ). IsPrefix e.0 l) said e.2) (c.refined_clusters_stand.ensures start c.step.new.disks.items c.step.new.self o.0 o.4))

pub returns-in-Ok-give-clause-ok : goal.returns-in-Ok-give-clause-ok
returns-in-Ok-give-clause-ok g c start w refines =
    let o = c.in-Ok.ensures.ok start w refines in
    let fits : length c.args.line.now ≤ 2097152 = omega (arith, c.if-line-gt-MAX_LINE.false) in
    let said = joined c.deref.ensures.value o.3 c.new-text.ensures.items in
    (o.0, o.1, fits, o.2, (λ told. c.in-Ok-give.ensures.ok told ∙ ap (λ (l : List ℕ). g.K.Sink.taken c.args.sink.now ++ l) said), o.4)
