-- What a place does with a certain word, and with any other token.
use Rattle.std.proofs.Common.{◌≡◌, refl, true, false}
use Rattle.rq_grammar.specs.declared.word.Word.TheVariants as w
use Rattle.rq_grammar.specs.declared.token.Token.{Token}
use Rattle.rq_grammar.specs.declared.token.Token.TheVariants as t
use Rattle.rq_grammar.specs.declared.stmt.Stmt.TheVariants as stmt
use Rattle.rq_automaton.specs.declared.place.Query.{Query}
use Rattle.rq_automaton.specs.declared.place.Place.TheVariants as p
use Rattle.rq_automaton.specs.declared.place.DropPlace.TheVariants as dp
use Rattle.rq_automaton.specs.declared.place.SelectPlace.TheVariants as sp
use Rattle.rq_automaton.specs.declared.frame.Clause.TheVariants as c
use Rattle.rq_automaton.specs.Places.{flat, inside, name_of, on_name, behind_drop_table, behind_where, behind_from, behind_results}
use Rattle.rq_places.specs.Keywords.{is_if, is_from, is_where}

pub drop_then : (u : Token) → is_if u ≡ true → behind_drop_table u ≡ on_name (name_of u) (λ z. p.Drop (dp.If z))
drop_then (t.Word n w.If) h = refl
drop_then _ h = absurd (cc)

pub drop_else : (u : Token) → is_if u ≡ false → behind_drop_table u ≡ on_name (name_of u) (λ n. p.Ended (stmt.Drop false n))
drop_else (t.Word n w.If) h = absurd (cc)
drop_else _ h = refl

pub from_then : (q : Query) (u : Token) → is_where u ≡ true → behind_from q u ≡ inside (c.Filter q)
from_then q (t.Word n w.Where) h = refl
from_then q _ h = absurd (cc)

pub from_else : (q : Query) (u : Token) → is_where u ≡ false → behind_from q u ≡ behind_where q u
from_else q (t.Word n w.Where) h = absurd (cc)
from_else q _ h = refl

pub results_then : (q : Query) (u : Token) → is_from u ≡ true → behind_results q u ≡ flat (p.Select (sp.From q))
results_then q (t.Word n w.From) h = refl
results_then q _ h = absurd (cc)

pub results_else : (q : Query) (u : Token) → is_from u ≡ false → behind_results q u ≡ behind_from q u
results_else q (t.Word n w.From) h = absurd (cc)
results_else q _ h = refl
