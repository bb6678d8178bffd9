-- Laws of statements.
use Rattle.std.proofs.Common.{◌≡◌, true, Ok, Err, refl, sym, ap, ◌∙◌}
use Rattle.std.specs.Prelude.{Result, IsOk}
use Rattle.rq_values.specs.declared.memory.NoMemory.{NoMemory}
use Rattle.rq_statement.specs.declared.item.Item.{Item}
use Rattle.rq_statement.specs.declared.item.Item.TheVariants.{Run, Fail}
use Rattle.rq_statement.specs.declared.res.Res.{Res}
use Rattle.rq_meaning.specs.Database.{Database}
use Rattle.rq_meaning.specs.Statements.{Effect, executed}
use Rattle.rq_meaning.specs.Lists.{settled, means, is_error}
use Rattle.rq_meaning.specs.Running.{Settles}

pub one_meaning : (o : Effect) (db d e : Database) (x y : Result Res NoMemory) → Settles o db d x → Settles o db e y → IsOk x → IsOk y → (x ≡ y) × (d ≡ e)
one_meaning o db d e (Ok x) (Ok y) s t a b = (ap Ok (s.0 ∙ sym t.0), s.1 ∙ sym t.1)
one_meaning o db d e (Err m) y s t a b = absurd (cc)
one_meaning o db d e (Ok x) (Err m) s t a b = absurd (cc)

nothing_of : (db : Database) (o : Effect) → is_error (settled db o).1 ≡ true → (settled db o).0 ≡ db
nothing_of db (Ok p) e = absurd (cc)
nothing_of db (Err w) e = refl

pub nothing_changed : (db : Database) (i : Item) → is_error (means db i).1 ≡ true → (means db i).0 ≡ db
nothing_changed db (Run s) e = nothing_of db (executed db s) e
nothing_changed db (Fail t) e = refl
