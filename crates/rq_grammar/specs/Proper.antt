-- Proper statements: those that some tokens spell.
use Rattle.std.specs.Prelude.{suc, ◌^◌, Bool, true, false, ◌&&◌, not, nat_lt, nat_le, List, [], ◌∷◌, Option, Some, None, map, bytes_eq, pos, negsuc}
use Rattle.rq_values.specs.declared.value.Value.{Value}
use Rattle.rq_values.specs.declared.value.Value.TheVariants as v
use Rattle.rq_grammar.specs.declared.expr.Expr.{Expr}
use Rattle.rq_grammar.specs.declared.expr.Expr.TheOpen.{Expr-F}
use Rattle.rq_grammar.specs.declared.expr.Expr.TheFolds.{fold-Expr}
use Rattle.rq_grammar.specs.declared.stmt.ResultItem.{ResultItem}
use Rattle.rq_grammar.specs.declared.stmt.ResultItem.TheVariants as item
use Rattle.rq_grammar.specs.declared.stmt.OrderTerm.{OrderTerm}
use Rattle.rq_grammar.specs.declared.stmt.SelectStmt.{SelectStmt}
use Rattle.rq_grammar.specs.declared.stmt.InsertRows.{InsertRows}
use Rattle.rq_grammar.specs.declared.stmt.InsertRows.TheVariants as rows
use Rattle.rq_grammar.specs.declared.stmt.Stmt.{Stmt}
use Rattle.rq_grammar.specs.declared.stmt.Stmt.TheVariants as stmt
use Rattle.rq_grammar.specs.Words.{Text, is_reserved, is_time}
use Rattle.rq_grammar.specs.Grammar.{upper}
use Rattle.rq_grammar.specs.Spelling.{word_of, is_bare}

abbrev pub all_of : List Bool → Bool
all_of [] = true
all_of (b ∷ bs) = b && all_of bs

-- lists have at least one item
abbrev pub is_some_of : List Bool → Bool
is_some_of [] = false
is_some_of (b ∷ bs) = b && all_of bs

-- an integer of 64 bits
abbrev pub is_literal : Value → Bool
is_literal (v.Int (pos n)) = nat_lt n (2 ^ 63)
is_literal (v.Int (negsuc n)) = nat_le (suc n) (2 ^ 63)
is_literal _ = true

-- a call's name is bare, in upper case, and a name inside an expression
abbrev pub is_callee : Text → Bool
is_callee n = is_bare n && (bytes_eq (upper n) n && (not (is_reserved (word_of n)) && not (is_time (word_of n))))

abbrev pub is_parameter : Option Text → Bool
is_parameter None = true
is_parameter (Some n) = is_bare n

abbrev pub proper_step : Expr-F Bool → Bool
proper_step (Expr-F.Literal a) = is_literal a
proper_step (Expr-F.Param n) = is_parameter n
proper_step (Expr-F.Call n xs) = is_callee n && all_of xs
proper_step (Expr-F.Minus a) = a
proper_step (Expr-F.Not a) = a
proper_step (Expr-F.Binary o a b) = a && b
proper_step (Expr-F.InList d a xs) = a && all_of xs
proper_step (Expr-F.Between d a b c) = a && (b && c)
proper_step _ = true

abbrev pub is_proper : Expr → Bool
is_proper = fold-Expr Bool proper_step

abbrev pub is_maybe : Option Expr → Bool
is_maybe None = true
is_maybe (Some a) = is_proper a

abbrev pub is_row : List Expr → Bool
is_row xs = is_some_of (map is_proper xs)

abbrev pub is_result : ResultItem → Bool
is_result item.All = true
is_result (item.Value a n) = is_proper a

abbrev pub is_term : OrderTerm → Bool
is_term i = is_proper i.expr

-- an offset is there only with a limit
abbrev pub are_limits : Option Expr → Option Expr → Bool
are_limits None None = true
are_limits None (Some b) = false
are_limits (Some a) b = is_proper a && is_maybe b

abbrev pub is_select : SelectStmt → Bool
is_select q = is_some_of (map is_result q.results) && (is_maybe q.filter && (all_of (map is_term q.order) && are_limits q.limit q.offset))

abbrev pub is_set : Text × Expr → Bool
is_set i = is_proper i.1

abbrev pub are_rows : InsertRows → Bool
are_rows (rows.Values rs) = is_some_of (map is_row rs)
are_rows (rows.Select q) = is_select q

abbrev pub is_list : {A : Type 0} → List A → Bool
is_list [] = false
is_list (x ∷ xs) = true

abbrev pub are_names : Option (List Text) → Bool
are_names None = true
are_names (Some ns) = is_list ns

abbrev pub is_statement : Stmt → Bool
is_statement (stmt.Create b n ds) = is_list ds
is_statement (stmt.Drop b n) = true
is_statement (stmt.Insert n ns rs) = are_names ns && are_rows rs
is_statement (stmt.Update n is g) = is_some_of (map is_set is) && is_maybe g
is_statement (stmt.Delete n g) = is_maybe g
is_statement (stmt.Select q) = is_select q
