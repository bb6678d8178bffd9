use Rattle.std.proofs.Common.{rules, ◌≡◌, subst, ◌∙◌}
use Rattle.rq_values.specs.declared.value.Value.TheVariants as value
use Rattle.rq_eval.specs.Names.{value_at}
use Rattle.rq_results.specs.Table.{as_row}
use Rattle.rq_select_tests.specs.Naming.{name_in}
use Rattle.rq_select_tests.proofs.Keys.{no_null, no_text, no_blob}
use Rattle.rq_select_tests.proofs.mem_table.MemTableTableView.find.Goals as goal

pub returns-in-Null : goal.returns-in-Null
returns-in-Null c =
    let t = c.args.self.now in
    let e : c.args.place ≡ t.key = search rules in
    λ k vs g m. no_null (name_in t.scope) t.columns t.rows t.key c.len-count.ensures.ordered t.keyed k vs g (subst (λ i. value_at (as_row (k, vs)) i ≡ value.Null) e (m ∙ c.in-Null.is))

pub returns-in-Text : goal.returns-in-Text
returns-in-Text c =
    let t = c.args.self.now in
    let e : c.args.place ≡ t.key = search rules in
    λ k vs g m. no_text (name_in t.scope) t.columns t.rows t.key c.len-count.ensures.ordered t.keyed c.in-Text.field-0 k vs g (subst (λ i. value_at (as_row (k, vs)) i ≡ value.Text c.in-Text.field-0) e (m ∙ c.in-Text.is))

pub returns-in-Blob : goal.returns-in-Blob
returns-in-Blob c =
    let t = c.args.self.now in
    let e : c.args.place ≡ t.key = search rules in
    λ k vs g m. no_blob (name_in t.scope) t.columns t.rows t.key c.len-count.ensures.ordered t.keyed c.in-Blob.field-0 k vs g (subst (λ i. value_at (as_row (k, vs)) i ≡ value.Blob c.in-Blob.field-0) e (m ∙ c.in-Blob.is))
