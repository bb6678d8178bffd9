-- Whether a token is a certain word.
use Rattle.std.specs.Prelude.{Bool, true, false}
use Rattle.rq_grammar.specs.declared.word.Word.TheVariants as w
use Rattle.rq_grammar.specs.declared.token.Token.{Token}
use Rattle.rq_grammar.specs.declared.token.Token.TheVariants as t

abbrev pub is_if : Token → Bool
is_if (t.Word n w.If) = true
is_if _ = false

abbrev pub is_from : Token → Bool
is_from (t.Word n w.From) = true
is_from _ = false

abbrev pub is_where : Token → Bool
is_where (t.Word n w.Where) = true
is_where _ = false
