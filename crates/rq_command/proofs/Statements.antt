-- What a text is read as.
use Rattle.std.proofs.Common.{◌≡◌, ℕ, ◌≤◌, nat_le, Bool, true, false, List, [], length, Result, Ok, Err, refl, sym, ap, subst, ◌∙◌, arith}
use Rattle.std.proofs.lemmas.Bool.{leb-true}
use Rattle.std.proofs.lemmas.Bool.Decides.{nat_tests}
use Rattle.rq_grammar.specs.declared.stmt.Stmt.{Stmt}
use Rattle.rq_grammar.specs.Proper.{is_statement}
use Rattle.rq_print.specs.Text.{text_of}
use Rattle.rq_print.specs.Written.{statement_written}
use Rattle.rq_sql.specs.declared.error.ReadError.{ReadError}
use Rattle.rq_sql.specs.declared.error.ReadError.TheVariants as e
use Rattle.rq_sql.specs.Read.{Means, Reads}
use Rattle.rq_statement.specs.declared.item.Item.{Item}
use Rattle.rq_statement.specs.declared.item.Item.TheVariants.{Run, Fail}
use Rattle.rq_statement.specs.declared.settled.Unsettled.TheVariants as errors
use Rattle.rq_statement.specs.Fixed.{statement_fixed}
use Rattle.rq_statement.specs.Settled.{most_bytes, IsSettled}
use Rattle.rq_statement.specs.Unsettled.{IsUnsettled}
use Rattle.rq_command.specs.Reading.{IsReadAs, IsItemOf}

-- ---- laws of the reader

abbrev pub SomeAnswer : Type 0
SomeAnswer = (text : List ℕ) → (answer : Result Stmt ReadError) × Means text answer

abbrev pub OneAnswer : Type 0
OneAnswer = (text : List ℕ) (answer other : Result Stmt ReadError) → Means text answer → Means text other → answer ≡ other

abbrev pub ProperLaw : Type 0
ProperLaw = (text : List ℕ) (s : Stmt) → Means text (Ok s) → is_statement s ≡ true

abbrev pub WrittenLaw : Type 0
WrittenLaw = (text : List ℕ) (s : Stmt) → Means text (Ok s) → statement_written s ≡ true

abbrev statement_or : Stmt → Result Stmt ReadError → Stmt
statement_or s (Ok t) = t
statement_or s (Err error) = s

one_statement : OneAnswer → (text : List ℕ) (s t : Stmt) → Means text (Ok s) → Means text (Ok t) → s ≡ t
one_statement one text s t first second = ap (statement_or s) (one text (Ok s) (Ok t) first second)

no_statement : OneAnswer → (text : List ℕ) (error : ReadError) (s : Stmt) → Means text (Err error) → Means text (Ok s) → ⊥
no_statement one text error s refused means = let same : Err error ≡ Ok s = one text (Err error) (Ok s) refused means in absurd (cc)

-- ---- statements that can't be settled

fits : (n : ℕ) → n ≤ most_bytes → nat_le n most_bytes ≡ true
fits n h = grind (arith, nat_tests)

pub not_fixed : (s : Stmt) → IsUnsettled s errors.NotFixed → IsSettled s → ⊥
not_fixed s h is = let k = is.fixed in absurd (cc)

pub too_large : (s : Stmt) (n : ℕ) → IsUnsettled s (errors.TooLarge n) → IsSettled s → ⊥
too_large s n h is = absurd (omega (arith, h.1, is.short))

-- ---- what a text is read as

pub read_item : OneAnswer → (text : List ℕ) (s : Stmt) (item : Item) → Reads text (Ok s) → IsItemOf s item → IsReadAs text item
read_item one text s (Run t) means is = (subst (λ (r : Stmt). Means text (Ok r)) (sym is.0) means, subst IsSettled (sym is.0) is.1)
read_item one text s (Fail error) means is = (is.0, λ t other settled. is.1 (subst IsSettled (one_statement one text t s other means) settled))

refused_item : OneAnswer → (text : List ℕ) (error : ReadError) → Means text (Err error) → IsReadAs text (Fail [])
refused_item one text error refused = (refl, λ s means settled. no_statement one text error s refused means)

pub no_item : OneAnswer → (text : List ℕ) (error : ReadError) (item : Item) → (error ≡ e.NoMemory → ⊥) → Reads text (Err error) → item ≡ Fail [] → IsReadAs text item
no_item one text (e.TooLong n) item none reads is = subst (IsReadAs text) (sym is) (refused_item one text (e.TooLong n) reads)
no_item one text (e.Near from upto) item none reads is = subst (IsReadAs text) (sym is) (refused_item one text (e.Near from upto) reads)
no_item one text (e.NotInProfile from upto) item none reads is = subst (IsReadAs text) (sym is) (refused_item one text (e.NotInProfile from upto) reads)
no_item one text (e.TooDeep place) item none reads is = subst (IsReadAs text) (sym is) (refused_item one text (e.TooDeep place) reads)
no_item one text e.NoMemory item none reads is = absurd (none refl)

-- ---- each text is read as one item

pub one_item : OneAnswer → (text : List ℕ) (item other : Item) → IsReadAs text item → IsReadAs text other → item ≡ other
one_item one text (Run s) (Run t) first second = ap (λ (r : Stmt). Run r) (one_statement one text s t first.0 second.0)
one_item one text (Run s) (Fail f) first second = absurd (second.1 s first.0 first.1)
one_item one text (Fail f) (Run t) first second = absurd (first.1 t second.0 second.1)
one_item one text (Fail f) (Fail g) first second = ap (λ (x : List ℕ). Fail x) (first.0 ∙ sym second.0)

pub some_item : SomeAnswer → OneAnswer → ProperLaw → WrittenLaw → (text : List ℕ) → (item : Item) × IsReadAs text item
some_item some one proper written text = by (some text).0 (some text).1
  where
    none : (s : Stmt) → Means text (Ok s) → (IsSettled s → ⊥) → (item : Item) × IsReadAs text item
    none s means h = (Fail [], (refl, λ t other settled. h (subst IsSettled (one_statement one text t s other means) settled)))

    short : (s : Stmt) → Means text (Ok s) → statement_fixed s ≡ true → (b : Bool) → nat_le (length (text_of s)) most_bytes ≡ b → (item : Item) × IsReadAs text item
    short s means fixed true is = (Run s, (means, record { proper = proper text s means; written = written text s means; fixed = fixed; shallow = means.1.shallow; short = leb-true (length (text_of s)) most_bytes is }))
    short s means fixed false is = none s means (λ settled. (let k = fits (length (text_of s)) settled.short in absurd (cc)))

    closed : (s : Stmt) → Means text (Ok s) → (b : Bool) → statement_fixed s ≡ b → (item : Item) × IsReadAs text item
    closed s means true is = short s means is (nat_le (length (text_of s)) most_bytes) refl
    closed s means false is = none s means (λ settled. (let k = settled.fixed in absurd (cc)))

    by : (answer : Result Stmt ReadError) → Means text answer → (item : Item) × IsReadAs text item
    by (Err error) refused = (Fail [], refused_item one text error refused)
    by (Ok s) means = closed s means (statement_fixed s) refl
