-- A statement that has no parameter, no random node and no time node is fixed.
use Rattle.std.proofs.Common.{◌≡◌, Bool, true, ◌&&◌, List, [], ◌∷◌, ◌++◌, map, refl, sym, ◌∙◌, Option, Some, None, append-nil}
use Rattle.rq_grammar.specs.Words.{Text}
use Rattle.rq_grammar.specs.Proper.{all_of}
use Rattle.rq_grammar.specs.declared.expr.Expr.{Expr}
use Rattle.rq_grammar.specs.declared.stmt.ResultItem.{ResultItem}
use Rattle.rq_grammar.specs.declared.stmt.ResultItem.TheVariants as item
use Rattle.rq_grammar.specs.declared.stmt.OrderTerm.{OrderTerm}
use Rattle.rq_grammar.specs.declared.stmt.SelectStmt.{SelectStmt}
use Rattle.rq_grammar.specs.declared.stmt.InsertRows.{InsertRows}
use Rattle.rq_grammar.specs.declared.stmt.InsertRows.TheVariants as rows
use Rattle.rq_grammar.specs.declared.stmt.Stmt.{Stmt}
use Rattle.rq_grammar.specs.declared.stmt.Stmt.TheVariants as stmt
use Rattle.rq_statement.specs.Fixed.{is_fixed, maybe_fixed, row_fixed, result_fixed, term_fixed, select_fixed, rows_fixed, set_fixed, statement_fixed}
use Rattle.rq_binding.specs.declared.node.Sort.{Sort}
use Rattle.rq_binding.specs.declared.node.Sort.TheVariants as sort
use Rattle.rq_binding.specs.declared.node.Node.{Node}
use Rattle.rq_binding.specs.Nodes.{nodes, all_nodes}
use Rattle.rq_binding.specs.Statements.{every, maybe_nodes, result_nodes, term_nodes, set_nodes, plain, select_nodes, rows_nodes, stmt_nodes, in_order}
use Rattle.rq_binding.proofs.Kept.{and, no_more}
use Rattle.rq_binding.proofs.Closed.{closed}

-- no node of either sort is there
abbrev None2 : (Sort → List Node) → Type 0
None2 n = (n sort.Parameters ≡ []) × (n sort.Drawn ≡ [])

halves : (n m : Sort → List Node) → None2 (λ s. n s ++ m s) → None2 n × None2 m
halves n m h =
    let p = no_more (n sort.Parameters) (m sort.Parameters) h.0 in
    let q = no_more (n sort.Drawn) (m sort.Drawn) h.1 in
    ((p.0, q.0), (p.1, q.1))

of_expr : (a : Expr) → None2 (λ s. nodes s a) → is_fixed a ≡ true
of_expr a h = closed a h.0 h.1

of_maybe : (g : Option Expr) → None2 (λ s. maybe_nodes s g) → maybe_fixed g ≡ true
of_maybe None h = refl
of_maybe (Some a) h = of_expr a h

of_row : (xs : List Expr) → None2 (λ s. all_nodes s xs) → row_fixed xs ≡ true
of_row [] h = refl
of_row (a ∷ xs) h =
    let p = halves (λ s. nodes s a) (λ s. all_nodes s xs) h in
    and (is_fixed a) (row_fixed xs) (of_expr a p.0) (of_row xs p.1)

of_result : (i : ResultItem) → None2 (λ s. result_nodes s i) → result_fixed i ≡ true
of_result item.All h = refl
of_result (item.Value a n) h = of_expr a h

of_term : (i : OrderTerm) → None2 (λ s. term_nodes s i) → term_fixed i ≡ true
of_term i h = of_expr i.expr h

of_set : (i : Text × Expr) → None2 (λ s. set_nodes s i) → set_fixed i ≡ true
of_set i h = of_expr i.1 h

of_every : {A : Type 0} (N : Sort → A → List Node) (F : A → Bool) → ((a : A) → None2 (λ s. N s a) → F a ≡ true) → (xs : List A) → None2 (λ s. every (N s) xs) → all_of (map F xs) ≡ true
of_every N F one [] h = refl
of_every N F one (a ∷ xs) h =
    let p = halves (λ s. N s a) (λ s. every (N s) xs) h in
    and (F a) (all_of (map F xs)) (one a p.0) (of_every N F one xs p.1)

-- a select, by its five parts
of_select : (q : SelectStmt) → None2 (λ s. in_order (select_nodes s q)) → select_fixed q ≡ true
of_select q h =
    let a = halves (λ s. every (result_nodes s) q.results ++ maybe_nodes s q.filter ++ every (term_nodes s) q.order) (λ s. maybe_nodes s q.limit ++ maybe_nodes s q.offset) h in
    let f = halves (λ s. every (result_nodes s) q.results ++ maybe_nodes s q.filter) (λ s. every (term_nodes s) q.order) a.0 in
    let b = halves (λ s. every (result_nodes s) q.results) (λ s. maybe_nodes s q.filter) f.0 in
    let d = halves (λ s. maybe_nodes s q.limit) (λ s. maybe_nodes s q.offset) a.1 in
    and (all_of (map result_fixed q.results)) (maybe_fixed q.filter && (all_of (map term_fixed q.order) && (maybe_fixed q.limit && maybe_fixed q.offset))) (of_every result_nodes result_fixed of_result q.results b.0)
    (and (maybe_fixed q.filter) (all_of (map term_fixed q.order) && (maybe_fixed q.limit && maybe_fixed q.offset)) (of_maybe q.filter b.1)
    (and (all_of (map term_fixed q.order)) (maybe_fixed q.limit && maybe_fixed q.offset) (of_every term_nodes term_fixed of_term q.order f.1)
    (and (maybe_fixed q.limit) (maybe_fixed q.offset) (of_maybe q.limit d.0) (of_maybe q.offset d.1))))

of_plain : (n : Sort → List Node) → None2 (λ s. in_order (plain (n s))) → None2 n
of_plain n h = (sym (append-nil (n sort.Parameters ++ []) ∙ append-nil (n sort.Parameters)) ∙ h.0, sym (append-nil (n sort.Drawn ++ []) ∙ append-nil (n sort.Drawn)) ∙ h.1)

of_inserted : (rs : InsertRows) → None2 (λ s. in_order (rows_nodes s rs)) → rows_fixed rs ≡ true
of_inserted (rows.Values rs) h = of_every all_nodes row_fixed of_row rs (of_plain (λ s. every (all_nodes s) rs) h)
of_inserted (rows.Select q) h = of_select q h

pub fixed : (x : Stmt) → in_order (stmt_nodes sort.Parameters x) ≡ [] → in_order (stmt_nodes sort.Drawn x) ≡ [] → statement_fixed x ≡ true
fixed (stmt.Create b n ds) h k = refl
fixed (stmt.Drop b n) h k = refl
fixed (stmt.Insert n ns rs) h k = of_inserted rs (h, k)
fixed (stmt.Update n is g) h k =
    let p = halves (λ s. every (set_nodes s) is) (λ s. maybe_nodes s g) (of_plain (λ s. every (set_nodes s) is ++ maybe_nodes s g) (h, k)) in
    and (all_of (map set_fixed is)) (maybe_fixed g) (of_every set_nodes set_fixed of_set is p.0) (of_maybe g p.1)
fixed (stmt.Delete n g) h k = of_maybe g (of_plain (λ s. maybe_nodes s g) (h, k))
fixed (stmt.Select q) h k = of_select q (h, k)
