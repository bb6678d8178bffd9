-- What is seen of an expression: whether it has a parameter, a random node or a time node. docs/SQL.md, "Settled statements".
use Rattle.std.specs.Prelude.{ℕ, zero, suc, Bool, true, false, ◌&&◌, ◌||◌, if◌then◌else◌, List, [], ◌∷◌, length, map, codes, bytes_eq}
use Rattle.std.specs.Char.{to_ascii_lowercase}
use Rattle.rq_values.specs.declared.value.Value.{Value}
use Rattle.rq_values.specs.declared.value.Value.TheVariants as v
use Rattle.rq_grammar.specs.Words.{Text}
use Rattle.rq_grammar.specs.declared.expr.Expr.{Expr}
use Rattle.rq_grammar.specs.declared.expr.Expr.TheOpen.{Expr-F}
use Rattle.rq_grammar.specs.declared.expr.Expr.TheFolds.{fold-Expr}
use Rattle.rq_statement.specs.declared.sight.Sight.{Sight}
use Rattle.rq_statement.specs.declared.sight.Sight.TheVariants.{Now, Fixed, Open}

abbrev pub lower : Text → Text
lower name = map to_ascii_lowercase name

-- 'now', in any ASCII case
abbrev pub is_now : Text → Bool
is_now text = bytes_eq (lower text) (lower (codes "now"))

abbrev pub literal_sight : Value → Sight
literal_sight (v.Text text) = if is_now text then Now else Fixed
literal_sight v.Null = Fixed
literal_sight (v.Int number) = Fixed
literal_sight (v.Blob bytes) = Fixed

-- of two expressions: whether one of them is open, else whether one of them is 'now'
abbrev pub both : Sight → Sight → Sight
both Fixed s = s
both Open s = Open
both Now Open = Open
both Now Now = Now
both Now Fixed = Now

abbrev pub list_sight : List Sight → Sight
list_sight [] = Fixed
list_sight (s ∷ ss) = both s (list_sight ss)

-- an expression with these as its parts
abbrev pub around : Sight → Sight
around Open = Open
around Now = Fixed
around Fixed = Fixed

-- the calls that take a moment, the present one where they have no argument, or 'now'
abbrev pub is_moment_call : Text → Bool
is_moment_call name = bytes_eq name (codes "DATE") || (bytes_eq name (codes "TIME") || bytes_eq name (codes "DATETIME"))

abbrev pub has_now : Sight → Bool
has_now Now = true
has_now Fixed = false
has_now Open = false

-- whether a call with so many arguments is a random node or a time node
abbrev pub is_drawn : Text → ℕ → Sight → Bool
is_drawn name zero args = bytes_eq name (codes "RANDOM") || is_moment_call name
is_drawn name (suc zero) args = bytes_eq name (codes "RANDOMBLOB") || (is_moment_call name && has_now args)
is_drawn name (suc (suc more)) args = false

abbrev pub call_sight : Text → ℕ → Sight → Sight
call_sight name count args = if is_drawn name count args then Open else around args

abbrev pub sight_step : Expr-F Sight → Sight
sight_step (Expr-F.Literal a) = literal_sight a
sight_step (Expr-F.Param n) = Open
sight_step (Expr-F.Name n) = Fixed
sight_step (Expr-F.Qualified n m) = Fixed
sight_step Expr-F.CurrentTimestamp = Open
sight_step Expr-F.CurrentDate = Open
sight_step Expr-F.CurrentTime = Open
sight_step Expr-F.CountAll = Fixed
sight_step (Expr-F.Call n xs) = call_sight n (length xs) (list_sight xs)
sight_step (Expr-F.Minus a) = around a
sight_step (Expr-F.Not a) = around a
sight_step (Expr-F.Binary o a b) = around (both a b)
sight_step (Expr-F.InList d a xs) = around (both a (list_sight xs))
sight_step (Expr-F.Between d a b c) = around (both a (both b c))

abbrev pub sight : Expr → Sight
sight = fold-Expr Sight sight_step
