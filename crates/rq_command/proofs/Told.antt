-- What the answer of a whole input tells.
use Rattle.std.proofs.Common.{true, ◌≡◌, ℕ, suc, ◌-◌, ◌<◌, ◌≤◌, ◌^◌, ◌⊎◌, inl, inr, List, [], ◌∷◌, ◌++◌, length, Result, Ok, Err, cond, nat_lt, refl, sym, ap, subst, ◌∙◌, arith, w8, Fits, get_or}
use Rattle.std.specs.Prelude.{IfOk}
use Rattle.std.proofs.lemmas.Bool.{OnFalse_at, OnFalse_from}
use Rattle.std.proofs.lemmas.Bool.Decides.{nat_tests}
use Rattle.std.proofs.lemmas.List.{append-nil}
use Rattle.std.specs.List.{flat_map}
use Rattle.rq_values.specs.declared.error.DecodeError.{DecodeError}
use Rattle.rq_values.specs.Fault.{is_want_of_memory}
use Rattle.rq_values.specs.Place.{whole_answer, IsAnswer}
use Rattle.rq_values.specs.Text.{is_text}
use Rattle.rq_values.specs.Spelling.{u32_bytes}
use Rattle.rq_values.specs.Exact.{AreBytes, AreProper, IsNamed}
use Rattle.rq_statement.specs.declared.item.Item.{Item}
use Rattle.rq_statement.specs.declared.item.Item.TheVariants.{Run, Fail}
use Rattle.rq_print.specs.Text.{text_of}
use Rattle.rq_statement.specs.Bytes.{item_bytes, execute_bytes}
use Rattle.rq_values.specs.declared.error.DecodeError.TheVariants as errors
use Rattle.rq_grammar.specs.declared.stmt.Stmt.{Stmt}
use Rattle.rq_sql.specs.Read.{Means}
use Rattle.rq_statement.specs.Settled.{IsSettled}
use Rattle.rq_command.specs.Reading.{IsReadAs, IsPreparing, command_at}
use Rattle.rq_command.specs.Stored.{IsItem, IsCommand}
use Rattle.rq_command.specs.Whole.{answer_by, Decodes, Reads}
use Rattle.rq_command.proofs.Exact.{IsGiven, AreGiven, exact_command}

-- each text is read as an item
abbrev pub SomeItem : Type 0
SomeItem = (text : List ℕ) → (item : Item) × IsReadAs text item

-- each text is read as at most one item
abbrev pub OneItem : Type 0
OneItem = (text : List ℕ) (item other : Item) → IsReadAs text item → IsReadAs text other → item ≡ other

-- a settled statement is what its canonical text means
abbrev pub Again : Type 0
Again = (statement : Stmt) → IsSettled statement → Means (text_of statement) (Ok statement)

-- what a call returned, by each function that gives the item that a text means
abbrev pub IsAnswerByEach : ℕ → List ℕ → Result (List Item) DecodeError → Type 0
IsAnswerByEach limit bytes result = (item_of : List ℕ → Item) → IsPreparing item_of → IsAnswer result (answer_by item_of limit bytes)

-- ---- one answer

pub some_answer : SomeItem → (limit : ℕ) (bytes : List ℕ) → (answer : Result (List Item) DecodeError) × Decodes limit bytes answer
some_answer some limit bytes = (answer_by (λ text. (some text).0) limit bytes, record { item_of = λ text. (some text).0; prepares = λ text. (some text).1; is = refl })

pub one_answer : OneItem → (limit : ℕ) (bytes : List ℕ) (answer other : Result (List Item) DecodeError) → Decodes limit bytes answer → Decodes limit bytes other → answer ≡ other
one_answer one limit bytes answer other first second =
    first.is
    ∙ (λ i. answer_by (λ text. one text (first.item_of text) (second.item_of text) (first.prepares text) (second.prepares text) i) limit bytes)
    ∙ sym second.is

module _ (some : SomeItem) (limit : ℕ) (bytes : List ℕ) where
  pub given : List ℕ → Item
  given text = (some text).0

  pub given_prepares : IsPreparing given
  unfolding given
  given_prepares text = (some text).1

  told_by : (result : Result (List Item) DecodeError) → result ≡ answer_by given limit bytes → Decodes limit bytes result
  told_by result is = record { item_of = given; prepares = given_prepares; is = is }

  pub told : (result : Result (List Item) DecodeError) → IsAnswerByEach limit bytes result → Reads limit bytes result
  told (Ok items) h = told_by (Ok items) (h given given_prepares)
  told (Err e) h = OnFalse_from (is_want_of_memory e) (Decodes limit bytes (Err e)) (λ known. told_by (Err e) (OnFalse_at known (h given given_prepares)))

-- ---- from items that a function gives to items that are stored, and back

read_as_given : (item_of : List ℕ → Item) → IsPreparing item_of → (statement : Stmt) → item_of (text_of statement) ≡ Run statement → IsReadAs (text_of statement) (Run statement)
read_as_given item_of prepares statement is = subst (λ (i : Item). IsReadAs (text_of statement) i) is (prepares (text_of statement))

stored_item : (item_of : List ℕ → Item) → IsPreparing item_of → (limit : ℕ) (item : Item) → IsGiven item_of limit item → IsItem limit item
stored_item item_of prepares limit (Run statement) p = record { short = p.0.0.0; text = p.0.1; stored = (read_as_given item_of prepares statement p.1).1 }
stored_item item_of prepares limit (Fail error) p = record { short = p.0.0; text = p.1; stored = tt }

pub stored_items : (item_of : List ℕ → Item) → IsPreparing item_of → (limit : ℕ) (items : List Item) → AreProper (IsGiven item_of limit) items → AreProper (IsItem limit) items
stored_items item_of prepares limit [] p = tt
stored_items item_of prepares limit (item ∷ items) p = (stored_item item_of prepares limit item p.0, stored_items item_of prepares limit items p.1)

pub first_bytes : (a b : List ℕ) → AreBytes (a ++ b) → AreBytes a
first_bytes [] b h = tt
first_bytes (byte ∷ a) b h = (h.0, first_bytes a b h.1)

pub last_bytes : (a b : List ℕ) → AreBytes (a ++ b) → AreBytes b
last_bytes [] b h = h
last_bytes (byte ∷ a) b h = last_bytes a b h.1

named : (limit : ℕ) (text : List ℕ) → limit < 2 ^ 32 → length text ≤ limit → is_text text ≡ true → AreBytes text → IsNamed is_text limit text
named limit text small short is all = ((short, omega (arith, small, short), all), is)

given_item : OneItem → Again → (item_of : List ℕ → Item) → IsPreparing item_of → (limit : ℕ) → limit < 2 ^ 32 → (item : Item) → IsItem limit item → AreBytes (item_bytes item) → IsGiven item_of limit item
given_item one again item_of prepares limit small (Run statement) p all = (
  named limit (text_of statement) small p.short p.text (last_bytes (u32_bytes (length (text_of statement))) (text_of statement) all.1),
  one (text_of statement) (item_of (text_of statement)) (Run statement) (prepares (text_of statement)) (again statement p.stored, p.stored),
)
given_item one again item_of prepares limit small (Fail error) p all = named limit error small p.short p.text (last_bytes (u32_bytes (length error)) error all.1)

pub given_items : OneItem → Again → (item_of : List ℕ → Item) → IsPreparing item_of → (limit : ℕ) → limit < 2 ^ 32 → (items : List Item) → AreProper (IsItem limit) items → AreBytes (flat_map item_bytes items) → AreProper (IsGiven item_of limit) items
given_items one again item_of prepares limit small [] p all = tt
given_items one again item_of prepares limit small (item ∷ items) p all = (
  given_item one again item_of prepares limit small item p.0 (first_bytes (item_bytes item) (flat_map item_bytes items) all),
  given_items one again item_of prepares limit small items p.1 (last_bytes (item_bytes item) (flat_map item_bytes items) all),
)

-- ---- what an Ok tells, and where it comes

abbrev pub read_with : {A : Type 0} → List ℕ → A → Result (A × List ℕ) DecodeError
read_with rest items = Ok (items, rest)

positive : (n : ℕ) → nat_lt 0 (suc n) ≡ true
positive n = grind (arith, nat_tests)

whole_alone : {A : Type 0} (total : ℕ) (items found : A) (rest : List ℕ) → Ok items ≡ whole_answer total (read_with rest found) → read_with rest found ≡ read_with [] items
whole_alone total items found [] h = let same : found ≡ items = cc in ap (read_with []) same
whole_alone {A} total items found (byte ∷ rest) h =
    let refused : Ok items ≡ Err (errors.Trailing (total - length (byte ∷ rest))) = h ∙ ap (λ b. cond {A = Result A DecodeError} b (Err (errors.Trailing (total - length (byte ∷ rest)))) (Ok found)) (positive (length rest)) in
    absurd (cc)

-- what was answered stood alone
pub whole_ok : {A : Type 0} (total : ℕ) (read : Result (A × List ℕ) DecodeError) (items : A) → Ok items ≡ whole_answer total read → read ≡ read_with [] items
whole_ok total (Ok x) items h = whole_alone total items x.0 x.1 h
whole_ok total (Err wrong) items h = absurd (cc)

pub answered : {A : Type 0} (result answer : Result A DecodeError) (items : A) → answer ≡ Ok items → IsAnswer result answer → (result ≡ Ok items) ⊎ (result ≡ Err errors.NoMemory)
answered (Ok found) answer items is h = inl (h ∙ is)
answered (Err (errors.Short place)) answer items is h = inl (h ∙ is)
answered (Err (errors.Kind place byte)) answer items is h = inl (h ∙ is)
answered (Err (errors.Long place len)) answer items is h = inl (h ∙ is)
answered (Err (errors.NotText place)) answer items is h = inl (h ∙ is)
answered (Err (errors.Order place)) answer items is h = inl (h ∙ is)
answered (Err (errors.Rule place)) answer items is h = inl (h ∙ is)
answered (Err (errors.Text place)) answer items is h = inl (h ∙ is)
answered (Err (errors.Trailing place)) answer items is h = inl (h ∙ is)
answered (Err errors.NoMemory) answer items is h = inr refl

pub all_bytes : (bytes : List ℕ) → ((i : ℕ) → Fits w8 (get_or bytes i 0)) → AreBytes bytes
all_bytes [] fits = tt
all_bytes (byte ∷ bytes) fits = ((fits 0).fits, all_bytes bytes (λ i. fits (suc i)))

module _ (some : SomeItem) (limit : ℕ) (bytes : List ℕ) (all : AreBytes bytes) where
  taken_ok : (items : List Item) → IsAnswerByEach limit bytes (Ok items) → (bytes ≡ execute_bytes items) × IsCommand limit items
  taken_ok items h =
      let item_of = given some limit bytes in
      let prepares = given_prepares some limit bytes in
      let read = whole_ok (length bytes) (command_at item_of limit bytes) items (h item_of prepares) in
      let stood = (exact_command item_of limit).stood bytes items [] all read in
      (stood.is ∙ append-nil (execute_bytes items), record { count = stood.proper.0; items_are = stored_items item_of prepares limit items stood.proper.1 })

  pub taken : (result : Result (List Item) DecodeError) → IsAnswerByEach limit bytes result → IfOk result (λ items. (bytes ≡ execute_bytes items) × IsCommand limit items)
  taken (Ok items) h = taken_ok items h
  taken (Err e) h = tt

  module _ (one : OneItem) (again : Again) (small : limit < 2 ^ 32) where
    pub found : (result : Result (List Item) DecodeError) → IsAnswerByEach limit bytes result → (items : List Item) → bytes ≡ execute_bytes items → IsCommand limit items → (result ≡ Ok items) ⊎ (result ≡ Err errors.NoMemory)
    found result h items is command =
        let item_of = given some limit bytes in
        let prepares = given_prepares some limit bytes in
        let spelled = subst AreBytes is all in
        let proper : AreGiven item_of limit items = (command.count, given_items one again item_of prepares limit small items command.items_are (last_bytes (u32_bytes (length items)) (flat_map item_bytes items) spelled.1.1)) in
        let read = ap (command_at item_of limit) (is ∙ sym (append-nil (execute_bytes items))) ∙ (exact_command item_of limit).reads items [] proper in
        answered result (answer_by item_of limit bytes) items (ap (whole_answer (length bytes)) read) (h item_of prepares)
