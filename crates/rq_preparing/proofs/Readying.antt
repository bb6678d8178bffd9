-- What a text is prepared as that isn't read, and which words want of memory takes.
use Rattle.std.proofs.Common.{◌≡◌, ℕ, Bool, List, [], Result, Err, refl, ◌∙◌, ap, arith}
use Rattle.rq_grammar.specs.declared.stmt.Stmt.{Stmt}
use Rattle.rq_request.specs.declared.statement.Params.{Params}
use Rattle.rq_sql.specs.declared.error.ReadError.{ReadError}
use Rattle.rq_sql.specs.Read.{Means}
use Rattle.rq_statement.specs.declared.item.Item.{Item}
use Rattle.rq_statement.specs.declared.item.Item.TheVariants.{Fail}
use Rattle.rq_binding.specs.Settles.{TookAtMost}
use Rattle.rq_settle.specs.Prepared.{error_text, IsPrepared as IsPreparedAlone, item_of as item_alone}
use Rattle.rq_preparing.specs.Prepared.{words_needed, IsUnprepared}
use Rattle.rq_preparing.specs.declared.preparing.PrepareError.TheVariants as errors

-- a text has one answer, so what it is prepared as alone is the item of its error
pub unread : ((text : List ℕ) (answer other : Result Stmt ReadError) → Means text answer → Means text other → answer ≡ other)
    → (text : List ℕ) (item : Item) → IsPreparedAlone text item → (x : ReadError) → Means text (Err x) → item ≡ Fail (error_text text x)
unread one text item is x means = is.is ∙ ap (item_alone text) (one text is.answer (Err x) is.means means)

took_nothing : (n : ℕ) (old : List ℕ) → TookAtMost n old old
took_nothing n old = record { words = []; count = omega arith; is = refl }

pub unread_took : ((text : List ℕ) → (answer : Result Stmt ReadError) × Means text answer) → (told : Bool) (text : List ℕ) (p : Params) (m : ℕ) (o : List ℕ) → IsUnprepared told text p m o o errors.NoMemory
unread_took some told text p m o =
    let found = some text in
    record { answer = found.0; means = found.1; took = λ t. took_nothing (words_needed p m found.0) o }
