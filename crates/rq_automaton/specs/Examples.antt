-- Small statements, and the tokens that spell them.
use Rattle.std.specs.Prelude.{ℕ, [], ◌∷◌, None, codes, pos, negsuc}
use Rattle.rq_values.specs.declared.value.Value.TheVariants as v
use Rattle.rq_grammar.specs.declared.word.Word.TheVariants as w
use Rattle.rq_grammar.specs.declared.token.Token.TheVariants as t
use Rattle.rq_grammar.specs.declared.expr.BinaryOp.TheVariants as op
use Rattle.rq_grammar.specs.declared.expr.Expr.{Expr}
use Rattle.rq_grammar.specs.declared.expr.Expr.TheVariants as e
use Rattle.rq_grammar.specs.declared.stmt.ResultItem.TheVariants as item
use Rattle.rq_grammar.specs.declared.stmt.Stmt.{Stmt}
use Rattle.rq_grammar.specs.declared.stmt.Stmt.TheVariants as stmt
use Rattle.rq_grammar.specs.Words.{Tokens}

-- `SELECT ..`
abbrev pub selecting : Tokens → Tokens
selecting x = t.Word (codes "select") w.Select ∷ x

-- the select of one expression
abbrev pub selects : Expr → Stmt
selects a = stmt.Select (record { results = item.Value a None ∷ []; table = None; filter = None; order = []; limit = None; offset = None })

abbrev pub int : ℕ → Expr
int n = e.Literal (v.Int (pos n))

-- `1 - 2 - 3`
abbrev pub two_minuses : Tokens
two_minuses = t.Numeral 1 ∷ t.Minus ∷ t.Numeral 2 ∷ t.Minus ∷ t.Numeral 3 ∷ []

abbrev pub left_first : Expr
left_first = e.Binary op.Sub (e.Binary op.Sub (int 1) (int 2)) (int 3)

-- `1 + 2 * 3 = 7`
abbrev pub sum_of_product : Tokens
sum_of_product = t.Numeral 1 ∷ t.Plus ∷ t.Numeral 2 ∷ t.Star ∷ t.Numeral 3 ∷ t.Equal ∷ t.Numeral 7 ∷ []

abbrev pub tightest_first : Expr
tightest_first = e.Binary op.Equal (e.Binary op.Add (int 1) (e.Binary op.Mul (int 2) (int 3))) (int 7)

-- `- - 5`
abbrev pub signs : Tokens
signs = t.Minus ∷ t.Minus ∷ t.Numeral 5 ∷ []

abbrev pub minus_of_literal : Expr
minus_of_literal = e.Minus (e.Literal (v.Int (negsuc 4)))

-- `+ NOT 1`
abbrev pub plus_not : Tokens
plus_not = t.Plus ∷ t.Word (codes "not") w.Not ∷ t.Numeral 1 ∷ []

-- `1 IN (2) + 3`
abbrev pub sum_behind_list : Tokens
sum_behind_list = t.Numeral 1 ∷ t.Word (codes "in") w.In ∷ t.Open ∷ t.Numeral 2 ∷ t.Close ∷ t.Plus ∷ t.Numeral 3 ∷ []
