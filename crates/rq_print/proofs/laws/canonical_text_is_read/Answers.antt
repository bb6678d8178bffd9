use Rattle.std.proofs.Common.{subst, sym}
use Rattle.rq_grammar.specs.Statements.{Spells}
use Rattle.rq_print.proofs.ReadStmt.{statement_reads}
use Rattle.rq_print.proofs.laws.canonical_text_is_read.Goals as goal

pub returns-clause-tokens : goal.returns-clause-tokens
returns-clause-tokens c =
    let lexer = c.tokens_are_read_as_spelled.ensures in
    statement_reads lexer.spelled lexer.blank lexer.nothing

pub returns-clause-spells : goal.returns-clause-spells
returns-clause-spells c =
    let lexer = c.tokens_are_read_as_spelled.ensures in
    λ s g h. subst (λ x. Spells x s) (sym (statement_reads lexer.spelled lexer.blank lexer.nothing s g h)) (c.canonical_tokens.ensures s g)
