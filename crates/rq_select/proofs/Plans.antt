-- A plan over rows shows what the select answers.
use Rattle.std.proofs.Common.{◌≡◌, ℕ, ℤ, Bool, true, false, List, [], ◌∷◌, ◌++◌, map, length, Option, Some, None, Ok, Err, refl, sym, ap, ◌∙◌}
use mathlib.Core.Path.{fun_ext}
use Rattle.std.proofs.lemmas.List.{map-append}
use Rattle.std.specs.Option.{option_map}
use Rattle.rq_values.specs.declared.value.Value.{Value}
use Rattle.rq_grammar.specs.declared.expr.Expr.{Expr}
use Rattle.rq_grammar.specs.declared.stmt.OrderTerm.{OrderTerm}
use Rattle.rq_grammar.specs.declared.stmt.SelectStmt.{SelectStmt}
use Rattle.rq_eval.specs.declared.error.StmtError.{StmtError}
use Rattle.rq_eval.specs.declared.resolved.ResolvedExpr.{ResolvedExpr}
use Rattle.rq_eval.specs.declared.resolved.ResolvedExpr.TheVariants as x
use Rattle.rq_eval.specs.declared.resolved.ResolvedExpr.TheOpen.{ResolvedExpr-F}
use Rattle.rq_eval.specs.declared.resolved.ResolvedExpr.TheViews.{roll-ResolvedExpr}
use Rattle.rq_eval.specs.declared.resolved.ResolvedExpr.TheFolds.{fold-roll-ResolvedExpr}
use Rattle.rq_eval.specs.declared.row.Scope.{Scope}
use Rattle.rq_eval.specs.Outcome.{Outcome, then_with, all_of, all_behind}
use Rattle.rq_eval.specs.Names.{Row, value_at}
use Rattle.rq_eval.specs.Resolved.{resolved, evaluated, evaluated_step}
use Rattle.rq_eval.specs.Value.{Gives, value_in}
use Rattle.rq_select.specs.declared.planning.Plan.{Plan}
use Rattle.rq_select.specs.declared.terms.TermBy.{TermBy}
use Rattle.rq_select.specs.declared.terms.TermBy.TheVariants as by
use Rattle.rq_select.specs.declared.terms.PlannedTerm.{PlannedTerm}
use Rattle.rq_results.specs.Results.{Shown, column, expression}
use Rattle.rq_results.specs.Checks.{Check, is_over_all, names_check, calls_check, aliased}
use Rattle.rq_select.specs.Select as s
use Rattle.rq_select.specs.Select.{unless, Term, rows_selected, limit_of, offset_of}
use Rattle.rq_select.specs.Planned as p

-- names are found once for a statement
abbrev pub FoundOnce : Type 0
FoundOnce = (rs : List Row) (sc : Scope) (a : Expr) (g : Bool) (r : Row) → evaluated rs (resolved sc a g) r ≡ value_in rs sc a g r

-- ---- a list of outcomes, through a map

module _ {A B C : Type 0} (v : B → C) (f : A → Outcome C) (g : A → Outcome B) (same : (t : A) → f t ≡ then_with (g t) (λ u. Ok (v u))) where
  behind_mapped : (there : List B) (ts : List A) → all_behind (map v there) (map f ts) ≡ then_with (all_behind there (map g ts)) (λ us. Ok (map v us))
  behind_mapped there [] = refl
  behind_mapped there (t ∷ ts) = ap (λ o. then_with o (λ c. all_behind (map v there ++ c ∷ []) (map f ts))) (same t) ∙ step (g t) (λ u. behind_mapped (there ++ u ∷ []) ts)
    where
      step : (o : Outcome B) → ((u : B) → all_behind (map v (there ++ u ∷ [])) (map f ts) ≡ then_with (all_behind (there ++ u ∷ []) (map g ts)) (λ us. Ok (map v us)))
          → then_with (then_with o (λ u. Ok (v u))) (λ c. all_behind (map v there ++ c ∷ []) (map f ts)) ≡ then_with (then_with o (λ u. all_behind (there ++ u ∷ []) (map g ts))) (λ us. Ok (map v us))
      step (Err e) ih = refl
      step (Ok u) ih = ap (λ zs. all_behind zs (map f ts)) (sym (map-append v there (u ∷ []))) ∙ ih u

-- ---- results

ev_column : (rs : List Row) (i : ℕ) → evaluated rs (x.Column i) ≡ (λ r. Ok (value_at r i))
unfolding roll-ResolvedExpr denote.Hole.Carrier.roll
ev_column rs i = fold-roll-ResolvedExpr Gives (evaluated_step rs) (ResolvedExpr-F.Column i)

result_is : FoundOnce → (sc : Scope) (g : Bool) (all : List Row) (w : Shown) → evaluated all (p.planned_result sc g w) ≡ s.shown_value sc g all w
result_is law sc g all (column i) = ev_column all i
result_is law sc g all (expression e a) = fun_ext (λ r. law all sc e g r)

results_are : FoundOnce → (sc : Scope) (g : Bool) (all : List Row) (ws : List Shown) → map (s.shown_value sc g all) ws ≡ p.gives (map (p.planned_result sc g) ws) all
results_are law sc g all [] = refl
results_are law sc g all (w ∷ ws) = ap (λ (f : Gives). f ∷ map (s.shown_value sc g all) ws) (sym (result_is law sc g all w)) ∙ ap (λ (fs : List Gives). evaluated all (p.planned_result sc g w) ∷ fs) (results_are law sc g all ws)

-- ---- WHERE

pub filter_is : FoundOnce → (sc : Scope) (f : Option Expr) → s.meets sc f ≡ p.passes (option_map (λ e. resolved sc e false) f)
filter_is law sc None = refl
filter_is law sc (Some e) = fun_ext (λ r. ap s.judged (sym (law [] sc e false r)))

-- ---- terms

ranks_are : FoundOnce → (sc : Scope) (e : Expr) (o : Option ℕ) → s.named_ranks sc e o ≡ p.ranks_of (p.named_term sc e o)
ranks_are law sc e None = fun_ext (λ r. fun_ext (λ vs. sym (law [] sc e false r)))
ranks_are law sc e (Some i) = refl

abbrev ranked : Bool → s.Ranks → Outcome Term
ranked d f = Ok (f, d)

abbrev kept : Bool → TermBy → Outcome PlannedTerm
kept d b = Ok (record { by = b; descending = d })

abbrev seen : PlannedTerm → Outcome Term
seen u = Ok (p.term_of u)

abbrev by_place : ℕ → Outcome s.Ranks
by_place i = Ok (s.by_result i)

abbrev to_place : ℕ → Outcome TermBy
to_place i = Ok (by.Result i)

numbered_is : (d : Bool) (o : Outcome ℕ) → then_with (then_with o by_place) (ranked d) ≡ then_with (then_with (then_with o to_place) (kept d)) seen
numbered_is d (Err e) = refl
numbered_is d (Ok i) = refl

term_or_is : FoundOnce → (sc : Scope) (ws : List Shown) (e : Expr) (d : Bool) (o : Option ℤ) → then_with (s.ranks_or sc ws e o) (ranked d) ≡ then_with (then_with (p.term_or sc ws e o) (kept d)) seen
term_or_is law sc ws e d None = ap (ranked d) (ranks_are law sc e (aliased ws e))
term_or_is law sc ws e d (Some k) = numbered_is d (s.numbered (length ws) k)

term_is : FoundOnce → (sc : Scope) (ws : List Shown) (t : OrderTerm) → s.term_of sc ws t ≡ then_with (p.planned_term sc ws t) (λ u. Ok (p.term_of u))
term_is law sc ws t = term_or_is law sc ws t.expr t.descending (s.number_of t.expr)

all_terms : FoundOnce → (sc : Scope) (ws : List Shown) (ts : List OrderTerm) → all_of (map (s.term_of sc ws) ts) ≡ then_with (all_of (map (p.planned_term sc ws) ts)) (λ us. Ok (map p.term_of us))
all_terms law sc ws ts = behind_mapped p.term_of (s.term_of sc ws) (p.planned_term sc ws) (term_is law sc ws) [] ts

-- ---- the whole

module _ (law : FoundOnce) (sc : Scope) (rows : List Row) (ws : List Shown) (q : SelectStmt) where
  abbrev Rows : Type 0
  Rows = Outcome (List (List Value))

  -- what the definition and what the plan says behind ORDER BY, LIMIT and OFFSET
  abbrev said : List Term → Option ℕ → ℕ → Rows
  said ts limit offset = s.answered sc ws (is_over_all ws) q.filter ts limit offset rows

  abbrev shows : Plan → Rows
  shows plan = p.rows_planned plan rows

  answered_is : (us : List PlannedTerm) (limit : Option ℕ) (offset : ℕ) → said (map p.term_of us) limit offset ≡ shows (p.plan_with sc ws q us limit offset)
  answered_is us limit offset =
      ap (λ (f : s.Test). then_with (s.filtered f [] rows) (λ left. s.shown_rows (λ all. map (s.shown_value sc (is_over_all ws) all) ws) (map p.term_of us) (is_over_all ws) limit offset left)) (filter_is law sc q.filter)
      ∙ ap (λ (gs : List Row → List Gives). then_with (s.filtered (p.passes (option_map (λ e. resolved sc e false) q.filter)) [] rows) (λ left. s.shown_rows gs (map p.term_of us) (is_over_all ws) limit offset left)) (fun_ext (λ all. results_are law sc (is_over_all ws) all ws))

  offset_is : (us : List PlannedTerm) (limit : Option ℕ) (o : Outcome ℕ) → then_with o (λ offset. said (map p.term_of us) limit offset) ≡ then_with (then_with o (λ offset. Ok (p.plan_with sc ws q us limit offset))) shows
  offset_is us limit (Err e) = refl
  offset_is us limit (Ok offset) = answered_is us limit offset

  limit_is : (us : List PlannedTerm) (o : Outcome (Option ℕ)) → then_with o (λ limit. then_with (offset_of q.offset) (λ offset. said (map p.term_of us) limit offset)) ≡ then_with (then_with o (λ limit. then_with (offset_of q.offset) (λ offset. Ok (p.plan_with sc ws q us limit offset)))) shows
  limit_is us (Err e) = refl
  limit_is us (Ok limit) = offset_is us limit (offset_of q.offset)

  abbrev limited_rows : List Term → Rows
  limited_rows ts = then_with (limit_of q.limit) (λ limit. then_with (offset_of q.offset) (λ offset. said ts limit offset))

  terms_are : (o : Outcome (List PlannedTerm)) → then_with (then_with o (λ us. Ok (map p.term_of us))) limited_rows ≡ then_with (then_with o (p.limited sc ws q)) shows
  terms_are (Err e) = refl
  terms_are (Ok us) = limit_is us (limit_of q.limit)

  ordered_is : then_with (all_of (map (s.term_of sc ws) q.order)) limited_rows ≡ then_with (then_with (all_of (map (p.planned_term sc ws) q.order)) (p.limited sc ws q)) shows
  ordered_is = ap (λ o. then_with o limited_rows) (all_terms law sc ws q.order) ∙ terms_are (all_of (map (p.planned_term sc ws) q.order))

  checked_is : (n k : Check) (a : Rows) (o : Outcome Plan) → a ≡ then_with o shows → unless n (unless k a) ≡ then_with (unless n (unless k o)) shows
  checked_is (Some e) k a o h = refl
  checked_is None (Some e) a o h = refl
  checked_is None None a o h = h

  pub selected_is : rows_selected q sc rows ws ≡ then_with (p.planned sc ws q) (λ plan. p.rows_planned plan rows)
  selected_is = checked_is (names_check sc ws q) (calls_check (is_over_all ws) ws q) (then_with (all_of (map (s.term_of sc ws) q.order)) limited_rows) (then_with (all_of (map (p.planned_term sc ws) q.order)) (p.limited sc ws q)) ordered_is
