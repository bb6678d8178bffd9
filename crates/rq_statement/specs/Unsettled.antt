-- Why a statement can't be settled.
use Rattle.std.specs.Prelude.{◌≡◌, ◌<◌, true, false, length}
use Rattle.rq_grammar.specs.declared.stmt.Stmt.{Stmt}
use Rattle.rq_print.specs.Text.{text_of}
use Rattle.rq_statement.specs.Fixed.{statement_fixed}
use Rattle.rq_statement.specs.Settled.{most_bytes}
use Rattle.rq_statement.specs.declared.settled.Unsettled.{Unsettled}
use Rattle.rq_statement.specs.declared.settled.Unsettled.TheVariants as errors

abbrev pub IsUnsettled : Stmt → Unsettled → Type 0
IsUnsettled s errors.NotFixed = statement_fixed s ≡ false
IsUnsettled s (errors.TooLarge n) = (statement_fixed s ≡ true) × (most_bytes < length (text_of s)) × (n ≡ length (text_of s))
IsUnsettled s errors.NoMemory = Unit {0}
