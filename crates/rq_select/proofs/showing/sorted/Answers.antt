use Rattle.std.proofs.Common.{ap, sym, ◌∙◌, [], ◌∷◌, map}
use Rattle.std.proofs.lemmas.List.{map-append}
use Rattle.std.specs.BTreeMap.{insert_entry}
use Rattle.rq_select.specs.Planned.{entry}
use Rattle.rq_select.specs.Sorting.{place_cmp, sorted_among}
use Rattle.rq_select.proofs.Viewing.{sorted_next}
use Rattle.rq_select.proofs.showing.sorted.Goals as goal

pub loop-entry-preserved : goal.loop-entry-preserved
loop-entry-preserved c =
    let e = c.in-Some.entry in
    c.in-Ok.ensures
    ∙ ap (λ zs. insert_entry place_cmp zs (entry e).0 (entry e).1) c.loop-entry.invariant
    ∙ sym (ap (sorted_among []) (map-append entry c.loop-entry.yielded (e ∷ [])) ∙ sorted_next [] (map entry c.loop-entry.yielded) (entry e))
