-- Sources of tokens, and what a text is prepared as.
use Rattle.std.proofs.Common.{◌≡◌, ◌≤◌, ◌<◌, ⊎_elim, ℕ, zero, suc, ◌-◌, min, nat_le, Bool, true, false, List, [], length, take, drop, Result, Ok, Err, refl, sym, ◌∙◌, ap, arith}
use Rattle.std.specs.Prelude.{if◌then◌else◌}
use Rattle.std.proofs.lemmas.List.{drop_all, take_all, length-drop}
use Rattle.std.proofs.lemmas.Bool.{cases_lt}
use Rattle.std.proofs.lemmas.Bool.Decides.{nat_tests}
use Rattle.rq_grammar.specs.declared.stmt.Stmt.{Stmt}
use Rattle.rq_statement.specs.declared.item.Item.{Item}
use Rattle.rq_statement.specs.declared.item.Item.TheVariants.{Run, Fail}
use Rattle.rq_statement.specs.declared.settled.Unsettled.TheVariants as errors
use Rattle.rq_statement.specs.Fixed.{statement_fixed}
use Rattle.rq_statement.specs.Settled.{IsSettled}
use Rattle.rq_statement.specs.Unsettled.{IsUnsettled}
use Rattle.rq_print.specs.Text.{text_of}
use Rattle.rq_sql.specs.declared.error.ReadError.{ReadError}
use Rattle.rq_sql.specs.declared.error.ReadError.TheVariants as e
use Rattle.rq_sql.specs.Read.{most_bytes, Means, Reads}
use Rattle.rq_settle.specs.Prepared.{source, error_text, not_built, too_large, item_of_fixed, item_of_statement, item_of, IsPrepared}

nothing_of : (n : ℕ) → take {A = ℕ} n [] ≡ []
nothing_of zero = refl
nothing_of (suc n) = refl

-- a slice between two places, which are kept within the text
pub between : (text : List ℕ) (from upto : ℕ) → take (min upto (length text) - min from (min upto (length text))) (drop (min from (min upto (length text))) text) ≡ source text from upto
between text from upto = ⊎_elim something nothing (cases_lt from upto)
  where
    parts : (m n : ℕ) → min from (min upto (length text)) ≡ m → min upto (length text) - min from (min upto (length text)) ≡ n
        → take (min upto (length text) - min from (min upto (length text))) (drop (min from (min upto (length text))) text) ≡ take n (drop m text)
    parts m n one two = ap (λ (k : ℕ). take k (drop (min from (min upto (length text))) text)) two ∙ ap (λ (k : ℕ). take n (drop k text)) one

    beyond : from < upto → length text < upto → take (min upto (length text) - min from (min upto (length text))) (drop (min from (min upto (length text))) text) ≡ take (upto - from) (drop from text)
    beyond less over = ⊎_elim past within (cases_lt (length text) from)
      where
        past : length text < from → take (min upto (length text) - min from (min upto (length text))) (drop (min from (min upto (length text))) text) ≡ take (upto - from) (drop from text)
        past far =
            let none : drop from text ≡ [] = drop_all from text (omega (arith, far)) in
            parts (length text) 0 (omega (arith, far, over)) (omega (arith, far, over)) ∙ sym (ap (take (upto - from)) none ∙ nothing_of (upto - from))

        within : from ≤ length text → take (min upto (length text) - min from (min upto (length text))) (drop (min from (min upto (length text))) text) ≡ take (upto - from) (drop from text)
        within near =
            parts from (length text - from) (omega (arith, near, over)) (omega (arith, near, over))
            ∙ take_all (length text - from) (drop from text) (omega (arith, length-drop from text))
            ∙ sym (take_all (upto - from) (drop from text) (omega (arith, length-drop from text, over)))

    something : from < upto → take (min upto (length text) - min from (min upto (length text))) (drop (min from (min upto (length text))) text) ≡ take (upto - from) (drop from text)
    something less = ⊎_elim (λ over. beyond less over) (λ fits. parts from (upto - from) (omega (arith, less, fits)) (omega (arith, less, fits))) (cases_lt (length text) upto)

    nothing : upto ≤ from → take (min upto (length text) - min from (min upto (length text))) (drop (min from (min upto (length text))) text) ≡ take (upto - from) (drop from text)
    nothing le =
        let none : upto - from ≡ 0 = omega (arith, le) in
        parts (min upto (length text)) 0 (omega (arith, le)) (omega (arith, le)) ∙ ap (λ (k : ℕ). take k (drop from text)) (sym none)

-- ---- a statement that is settled, or not

fits : (n : ℕ) → n ≤ most_bytes → nat_le n most_bytes ≡ true
fits n h = grind (arith, nat_tests)

over : (n : ℕ) → most_bytes < n → nat_le n most_bytes ≡ false
over n h = grind (arith, nat_tests)

chosen : {A : Type 0} (b : Bool) (x y : A) → b ≡ true → (if b then x else y) ≡ x
chosen true x y h = refl
chosen false x y h = absurd (cc)

other : {A : Type 0} (b : Bool) (x y : A) → b ≡ false → (if b then x else y) ≡ y
other true x y h = absurd (cc)
other false x y h = refl

pub settled_item : (stmt : Stmt) → IsSettled stmt → Run stmt ≡ item_of_statement stmt
settled_item stmt is = sym (chosen (statement_fixed stmt) (item_of_fixed stmt) (Fail not_built) is.fixed ∙ chosen (nat_le (length (text_of stmt)) most_bytes) (Run stmt) (Fail (too_large (length (text_of stmt)))) (fits (length (text_of stmt)) is.short))

pub not_fixed_item : (stmt : Stmt) → statement_fixed stmt ≡ false → Fail not_built ≡ item_of_statement stmt
not_fixed_item stmt h = sym (other (statement_fixed stmt) (item_of_fixed stmt) (Fail not_built) h)

pub too_large_item : (stmt : Stmt) (n : ℕ) → IsUnsettled stmt (errors.TooLarge n) → Fail (too_large n) ≡ item_of_statement stmt
too_large_item stmt n h = ap (λ (k : ℕ). Fail (too_large k)) h.2 ∙ sym (chosen (statement_fixed stmt) (item_of_fixed stmt) (Fail not_built) h.0 ∙ other (nat_le (length (text_of stmt)) most_bytes) (Run stmt) (Fail (too_large (length (text_of stmt)))) (over (length (text_of stmt)) h.1))

pub prepared_statement : (text : List ℕ) (stmt : Stmt) (item : Item) → Reads text (Ok stmt) → item ≡ item_of_statement stmt → IsPrepared text item
prepared_statement text stmt item reads is = record { answer = Ok stmt; means = reads; is = is }

pub prepared_error : (text : List ℕ) (error : ReadError) (told : List ℕ) (no_memory : error ≡ e.NoMemory → ⊥) → Reads text (Err error) → told ≡ error_text text error → IsPrepared text (Fail told)
prepared_error text (e.TooLong n) told none reads is = record { answer = Err (e.TooLong n); means = reads; is = ap (λ (t : List ℕ). Fail t) is }
prepared_error text (e.Near from upto) told none reads is = record { answer = Err (e.Near from upto); means = reads; is = ap (λ (t : List ℕ). Fail t) is }
prepared_error text (e.NotInProfile from upto) told none reads is = record { answer = Err (e.NotInProfile from upto); means = reads; is = ap (λ (t : List ℕ). Fail t) is }
prepared_error text (e.TooDeep place) told none reads is = record { answer = Err (e.TooDeep place); means = reads; is = ap (λ (t : List ℕ). Fail t) is }
prepared_error text e.NoMemory told none reads is = absurd (none refl)

pub some_item : ((text : List ℕ) → (answer : Result Stmt ReadError) × Means text answer) → (text : List ℕ) → (item : Item) × IsPrepared text item
some_item some text = let found = some text in (item_of text found.0, record { answer = found.0; means = found.1; is = refl })

pub one_item : ((text : List ℕ) (answer other : Result Stmt ReadError) → Means text answer → Means text other → answer ≡ other)
    → (text : List ℕ) (item other : Item) → IsPrepared text item → IsPrepared text other → item ≡ other
one_item one text item other first second =
    first.is ∙ ap (item_of text) (one text first.answer second.answer first.means second.means) ∙ sym second.is
