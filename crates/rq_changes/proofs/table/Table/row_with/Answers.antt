use Rattle.std.proofs.Common.{sym, ap, subst, refl, ◌∙◌, Some, rules, w64, FitsSigned}
use Rattle.std.proofs.lemmas.Int.{to_z-of_z}
use Rattle.std.specs.Option.{option_copied}
use Rattle.rq_eval.specs.Names.{Row}
use Rattle.rq_results.specs.Table.{row_at}
use Rattle.rq_select.specs.Finding.{OnlyHas}
use Rattle.rq_changes.specs.Staged.{now_of}
use Rattle.rq_changes.proofs.Lookups.{key_row, value_only, value_none}
use Rattle.rq_changes.proofs.table.Table.row_with.Goals as goal

pub returns-in-Some-get : goal.returns-in-Some-get
returns-in-Some-get c =
    let t = now_of c.args.self.now in
    let key = c.in-Some.key in
    let fits : FitsSigned w64 key = search rules in
    let shown = simp to_z-of_z at c.view_of.ensures in (
      ap (λ (r : Row). row_at t r.rowid) shown ∙ key_row t key c.in-Some-get.values.now (simp to_z-of_z at (sym c.get.ensures.row ∙ ap option_copied c.in-Some-get.is)) ∙ ap Some (sym shown),
      subst (OnlyHas t c.args.place c.args.value.now) (sym (ap (λ (r : Row). r.rowid) shown)) (value_only t c.args.place c.args.value.now key c.know_valid.ensures.counted c.requires.within c.requires.known c.in-Some.ensures.finds.3),
    )

pub returns-in-None : goal.returns-in-None
returns-in-None c = value_none (now_of c.args.self.now) c.args.place c.args.value.now c.know_valid.ensures.counted c.requires.within c.requires.known (c.in-None.ensures.none refl)
