-- The nodes of a statement, and a statement with values in place of them.
use Rattle.std.specs.Prelude.{List, [], ◌∷◌, ◌++◌, Option, Some, None}
use Rattle.rq_values.specs.declared.value.Value.{Value}
use Rattle.rq_grammar.specs.Words.{Text}
use Rattle.rq_grammar.specs.declared.expr.Expr.{Expr}
use Rattle.rq_grammar.specs.declared.stmt.ResultItem.{ResultItem}
use Rattle.rq_grammar.specs.declared.stmt.ResultItem.TheVariants as item
use Rattle.rq_grammar.specs.declared.stmt.OrderTerm.{OrderTerm}
use Rattle.rq_grammar.specs.declared.stmt.SelectStmt.{SelectStmt}
use Rattle.rq_grammar.specs.declared.stmt.InsertRows.{InsertRows}
use Rattle.rq_grammar.specs.declared.stmt.InsertRows.TheVariants as rows
use Rattle.rq_grammar.specs.declared.stmt.Stmt.{Stmt}
use Rattle.rq_grammar.specs.declared.stmt.Stmt.TheVariants as stmt
use Rattle.rq_binding.specs.declared.node.Sort.{Sort}
use Rattle.rq_binding.specs.declared.node.Node.{Node}
use Rattle.rq_binding.specs.declared.statement_nodes.Places.{Places}
use Rattle.rq_binding.specs.Nodes.{nodes, all_nodes}
use Rattle.rq_binding.specs.Filled.{Fill, filled, all_filled}

-- ---- nodes

abbrev pub every : {A : Type 0} → (A → List Node) → List A → List Node
every f [] = []
every f (x ∷ xs) = f x ++ every f xs

abbrev pub maybe_nodes : Sort → Option Expr → List Node
maybe_nodes s None = []
maybe_nodes s (Some a) = nodes s a

abbrev pub result_nodes : Sort → ResultItem → List Node
result_nodes s item.All = []
result_nodes s (item.Value a n) = nodes s a

abbrev pub term_nodes : Sort → OrderTerm → List Node
term_nodes s i = nodes s i.expr

abbrev pub set_nodes : Sort → Text × Expr → List Node
set_nodes s i = nodes s i.1

-- the nodes before ORDER BY, in it, and behind it; where there is none, all stand before it
abbrev pub plain : List Node → Places
plain ns = record { before = ns; ordered = []; behind = [] }

abbrev pub select_nodes : Sort → SelectStmt → Places
select_nodes s q = record { before = every (result_nodes s) q.results ++ maybe_nodes s q.filter; ordered = every (term_nodes s) q.order; behind = maybe_nodes s q.limit ++ maybe_nodes s q.offset }

abbrev pub rows_nodes : Sort → InsertRows → Places
rows_nodes s (rows.Values rs) = plain (every (all_nodes s) rs)
rows_nodes s (rows.Select q) = select_nodes s q

abbrev pub stmt_nodes : Sort → Stmt → Places
stmt_nodes s (stmt.Create b n ds) = plain []
stmt_nodes s (stmt.Drop b n) = plain []
stmt_nodes s (stmt.Insert n ns rs) = rows_nodes s rs
stmt_nodes s (stmt.Update n is g) = plain (every (set_nodes s) is ++ maybe_nodes s g)
stmt_nodes s (stmt.Delete n g) = plain (maybe_nodes s g)
stmt_nodes s (stmt.Select q) = select_nodes s q

-- all of them, in source order
abbrev pub in_order : Places → List Node
in_order p = p.before ++ p.ordered ++ p.behind

-- ---- values in place of them

abbrev pub each : {A : Type 0} → (A → Fill A) → List A → Fill (List A)
each f [] left = ([], left)
each f (x ∷ xs) left = ((f x left).0 ∷ (each f xs (f x left).1).0, (each f xs (f x left).1).1)

abbrev pub maybe_filled : Sort → Option Expr → Fill (Option Expr)
maybe_filled s None left = (None, left)
maybe_filled s (Some a) left = (Some (filled s a left).0, (filled s a left).1)

abbrev pub result_filled : Sort → ResultItem → Fill ResultItem
result_filled s item.All left = (item.All, left)
result_filled s (item.Value a n) left = (item.Value (filled s a left).0 n, (filled s a left).1)

abbrev pub term_filled : Sort → OrderTerm → Fill OrderTerm
term_filled s i left = (record { expr = (filled s i.expr left).0; descending = i.descending }, (filled s i.expr left).1)

abbrev pub set_filled : Sort → Text × Expr → Fill (Text × Expr)
set_filled s i left = ((i.0, (filled s i.1 left).0), (filled s i.1 left).1)

abbrev pub select_filled : Sort → SelectStmt → Fill SelectStmt
select_filled s q left =
    let a : List ResultItem × List Value = each (result_filled s) q.results left in
    let b : Option Expr × List Value = maybe_filled s q.filter a.1 in
    let c : List OrderTerm × List Value = each (term_filled s) q.order b.1 in
    let d : Option Expr × List Value = maybe_filled s q.limit c.1 in
    let g : Option Expr × List Value = maybe_filled s q.offset d.1 in
    (record { results = a.0; table = q.table; filter = b.0; order = c.0; limit = d.0; offset = g.0 }, g.1)

abbrev pub rows_filled : Sort → InsertRows → Fill InsertRows
rows_filled s (rows.Values rs) left = (rows.Values (each (all_filled s) rs left).0, (each (all_filled s) rs left).1)
rows_filled s (rows.Select q) left = (rows.Select (select_filled s q left).0, (select_filled s q left).1)

abbrev pub insert_filled : Sort → Text → Option (List Text) → InsertRows → Fill Stmt
insert_filled s n ns rs left = (stmt.Insert n ns (rows_filled s rs left).0, (rows_filled s rs left).1)

abbrev pub update_filled : Sort → Text → List (Text × Expr) → Option Expr → Fill Stmt
update_filled s n is g left =
    let a : List (Text × Expr) × List Value = each (set_filled s) is left in
    (stmt.Update n a.0 (maybe_filled s g a.1).0, (maybe_filled s g a.1).1)

abbrev pub delete_filled : Sort → Text → Option Expr → Fill Stmt
delete_filled s n g left = (stmt.Delete n (maybe_filled s g left).0, (maybe_filled s g left).1)

-- the statement with the next values in place of its nodes, and the values that are left
abbrev pub stmt_filled : Sort → Stmt → Fill Stmt
stmt_filled s (stmt.Create b n ds) left = (stmt.Create b n ds, left)
stmt_filled s (stmt.Drop b n) left = (stmt.Drop b n, left)
stmt_filled s (stmt.Insert n ns rs) left = insert_filled s n ns rs left
stmt_filled s (stmt.Update n is g) left = update_filled s n is g left
stmt_filled s (stmt.Delete n g) left = delete_filled s n g left
stmt_filled s (stmt.Select q) left = (stmt.Select (select_filled s q left).0, (select_filled s q left).1)
