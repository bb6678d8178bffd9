-- What is printed is read as itself, from the laws of the lexer, of the grammar and of canonical text.
use Rattle.std.proofs.Common.{◌≡◌, ℕ, ◌≤◌, true, List, length, Ok, subst, sym}
use Rattle.std.specs.List.{AllByRecursion}
use Rattle.rq_grammar.specs.declared.stmt.Stmt.{Stmt}
use Rattle.rq_grammar.specs.Statements.{Spells}
use Rattle.rq_grammar.specs.Depth.{the_limits, deepest, most_open}
use Rattle.rq_grammar.specs.Print.{tokens_of}
use Rattle.rq_grammar.specs.Proper.{is_statement}
use Rattle.rq_lexer.specs.Facts.{IsCut}
use Rattle.rq_lexer.specs.Spelled.{tokens_in}
use Rattle.rq_sql.specs.Read.{most_bytes, Means}
use Rattle.rq_print.specs.Text.{text_of}
use Rattle.rq_print.specs.Written.{statement_written}
use Rattle.rq_canonical.proofs.Opened.{narrow}
use Rattle.rq_canonical.proofs.GoodStmt.{stmt_good}

abbrev TokensLaw : Type 0
TokensLaw = (s : Stmt) → is_statement s ≡ true → statement_written s ≡ true → tokens_in (text_of s) ≡ tokens_of s

abbrev SpellsLaw : Type 0
SpellsLaw = (s : Stmt) → is_statement s ≡ true → statement_written s ≡ true → Spells (tokens_in (text_of s)) s

abbrev CutLaw : Type 0
CutLaw = (text : List ℕ) → AllByRecursion IsCut (tokens_in text)

pub read_again : TokensLaw → SpellsLaw → (s : Stmt) → is_statement s ≡ true → statement_written s ≡ true → deepest s ≤ the_limits.depth → length (text_of s) ≤ most_bytes → Means (text_of s) (Ok s)
read_again tokens spells s proper written shallow short = (
  short,
  record {
    spells = spells s proper written;
    shallow = shallow;
    narrow = subst (λ x. most_open 0 x ≤ the_limits.parens) (sym (tokens s proper written)) (narrow s shallow);
  },
)

pub read_proper : CutLaw → (text : List ℕ) (s : Stmt) → Means text (Ok s) → is_statement s ≡ true
read_proper cut text s means = (stmt_good means.1.spells (cut text)).0

pub read_written : CutLaw → (text : List ℕ) (s : Stmt) → Means text (Ok s) → statement_written s ≡ true
read_written cut text s means = (stmt_good means.1.spells (cut text)).1

pub printed_again : TokensLaw → SpellsLaw → CutLaw → (text : List ℕ) (s : Stmt) → Means text (Ok s) → length (text_of s) ≤ most_bytes → Means (text_of s) (Ok s)
printed_again tokens spells cut text s means short = read_again tokens spells s (read_proper cut text s means) (read_written cut text s means) means.1.shallow short
