-- A command is read exactly where its spelling stands.
use Rattle.std.proofs.Common.{true, ◌≡◌, ℕ, zero, suc, ◌<◌, ◌≤◌, ◌^◌, ◌==◌, List, [], ◌∷◌, ◌++◌, length, Result, cond, nat_le, bytes_eq, refl, sym, ap, subst, ◌∙◌, arith}
use Rattle.std.proofs.lemmas.Bool.Decides.{nat_tests}
use Rattle.std.proofs.lemmas.Slice.Eq.{bytes_eq-Decides}
use Rattle.rq_values.specs.declared.error.DecodeError.{DecodeError}
use Rattle.rq_values.specs.declared.error.DecodeError.TheVariants.{Kind, Text}
use Rattle.rq_values.specs.Text.{is_text}
use Rattle.rq_values.specs.Spelling.{sized, list_bytes}
use Rattle.rq_values.specs.Reading.{◌>>=◌, made, checked, u8_at, kind_at, text_at, list_at}
use Rattle.rq_values.proofs.Local.{bind_ok, eq_true, is_eq}
use Rattle.rq_values.specs.Exact.{AreProper, IsExact, IsKind, IsNamed}
use Rattle.rq_values.proofs.Exact.{exact_bind, exact_made, exact_same, exact_checked, exact_u8, exact_kind, exact_text, exact_list}
use Rattle.rq_statement.specs.declared.item.Item.{Item}
use Rattle.rq_statement.specs.declared.item.Item.TheVariants.{Run, Fail}
use Rattle.rq_print.specs.Text.{text_of}
use Rattle.rq_statement.specs.Bytes.{item_bytes, execute_bytes}
use Rattle.rq_command.specs.Reading.{is_run_text, run_at, item_at, byte_at, command_at}
use Rattle.rq_statement.specs.Items.{item_text}

same_bytes : (a b : List ℕ) → bytes_eq a b ≡ true → a ≡ b
same_bytes a b h = (bytes_eq-Decides a b).0 h

itself : (a : List ℕ) → bytes_eq a a ≡ true
itself a = (bytes_eq-Decides a a).1 refl

within : (m n : ℕ) → nat_le m n ≡ true → m ≤ n
within m n h = grind (arith, nat_tests)

rank_of : Item → ℕ
rank_of (Run statement) = 0
rank_of (Fail error) = 1

spelled_text : Item → List ℕ
spelled_text item = sized (item_text item)

module _ (item_of : List ℕ → Item) (limit : ℕ) where
  -- an item that this function gives for its text
  abbrev pub IsGiven : Item → Type 0
  IsGiven (Run statement) = IsNamed is_text limit (text_of statement) × (item_of (text_of statement) ≡ Run statement)
  IsGiven (Fail error) = IsNamed is_text limit error

  abbrev OfKind : ℕ → Item → Type 0
  OfKind kind item = (rank_of item ≡ kind) × IsGiven item

  -- the text is that of a statement that runs
  abbrev IsRunText : List ℕ → Type 0
  IsRunText text = IsNamed is_text limit text × (is_run_text text (item_of text) ≡ true)

  run_there : (item : Item) → OfKind 0 item → IsRunText (item_text item) × (item_of (item_text item) ≡ item)
  unfolding rank_of
  run_there (Run statement) p = ((p.1.0, ap (is_run_text (text_of statement)) p.1.1 ∙ itself (text_of statement)), p.1.1)
  run_there (Fail error) p = absurd (omega (arith, p.0))

  run_given : (text : List ℕ) (item : Item) → item_of text ≡ item → IsNamed is_text limit text → is_run_text text item ≡ true → OfKind 0 item × (item_text item ≡ text)
  unfolding rank_of
  run_given text (Run statement) is named runs =
      let same : text_of statement ≡ text = same_bytes (text_of statement) text runs in
      ((refl, (subst (IsNamed is_text limit) (sym same) named, ap item_of same ∙ is)), same)
  run_given text (Fail error) is named runs = absurd (cc)

  exact_run : IsExact (run_at item_of limit) spelled_text (OfKind 0)
  unfolding run_at spelled_text
  exact_run =
      exact_made (checked (text_at limit) (λ text. is_run_text text (item_of text)) (λ left _. Text left)) sized IsRunText item_of item_text (OfKind 0)
      (exact_checked (text_at limit) sized (IsNamed is_text limit) (λ text. is_run_text text (item_of text)) (λ left _. Text left) (exact_text limit))
      run_there (λ text p. run_given text (item_of text) refl p.0 p.1)

  fail_there : (item : Item) → OfKind 1 item → IsNamed is_text limit (item_text item) × (Fail (item_text item) ≡ item)
  unfolding rank_of
  fail_there (Run statement) p = absurd (omega (arith, p.0))
  fail_there (Fail error) p = (p.1, refl)

  exact_fail : IsExact (made (text_at limit) Fail) spelled_text (OfKind 1)
  unfolding rank_of spelled_text
  exact_fail = exact_made (text_at limit) sized (IsNamed is_text limit) Fail item_text (OfKind 1) (exact_text limit) fail_there (λ text proper. ((refl, proper), refl))

  content_at : ℕ → List ℕ → Result (Item × List ℕ) DecodeError
  content_at kind bytes = cond (kind == 0) (run_at item_of limit bytes) (made (text_at limit) Fail bytes)

  exact_content : (kind : ℕ) → IsKind 1 kind → IsExact (content_at kind) spelled_text (OfKind kind)
  unfolding content_at
  exact_content zero p = exact_run
  exact_content (suc zero) p = exact_fail
  exact_content (suc (suc n)) p = absurd (let q = within (suc (suc n)) 1 p.1 in omega arith)

  same_item : (item : Item) → rank_of item ∷ spelled_text item ≡ item_bytes item
  unfolding rank_of spelled_text
  same_item (Run statement) = refl
  same_item (Fail error) = refl

  ranked : (item : Item) → IsKind 1 (rank_of item)
  unfolding rank_of
  ranked (Run statement) = (omega arith, refl)
  ranked (Fail error) = (omega arith, refl)

  pub exact_item : IsExact (item_at item_of limit) item_bytes IsGiven
  unfolding item_at content_at
  exact_item =
      exact_same (item_at item_of limit) (λ item. rank_of item ∷ spelled_text item) item_bytes (λ item. IsKind 1 (rank_of item) × OfKind (rank_of item) item) IsGiven
      (exact_bind (kind_at 1) content_at (λ kind. kind ∷ []) (λ _. spelled_text) (IsKind 1) OfKind rank_of (exact_kind 1) exact_content (λ kind item p. p.0))
      (λ item _. same_item item) (λ item p. p.1.1) (λ item p. (ranked item, (refl, p)))

-- ---- the command

exact_byte : (wanted : ℕ) → IsExact (byte_at wanted) (λ byte. byte ∷ []) (λ byte. (byte < 256) × ((byte == wanted) ≡ true))
unfolding byte_at
exact_byte wanted = exact_checked u8_at (λ byte. byte ∷ []) (λ byte. byte < 256) (λ byte. byte == wanted) Kind exact_u8

-- a thing behind the one byte that may stand before it
exact_behind : {A : Type 0} (wanted : ℕ) (one : List ℕ → Result (A × List ℕ) DecodeError) (s : A → List ℕ) (P : A → Type 0) → wanted < 256 → IsExact one s P → IsExact (λ bytes. byte_at wanted bytes >>= λ x. one x.1) (λ a. wanted ∷ s a) P
exact_behind {A} wanted one s P fits exact = record {
  reads = λ a rest proper.
      ap (λ r. r >>= λ x. one x.1) ((exact_byte wanted).reads wanted (s a ++ rest) (fits, is_eq wanted wanted refl)) ∙ exact.reads a rest proper;
  stood = λ bytes a rest all h.
      let found = bind_ok (byte_at wanted bytes) (λ x. one x.1) (a, rest) h in
      let prefix = (exact_byte wanted).stood bytes found.0.0 found.0.1 all found.1 in
      let back = exact.stood found.0.1 a rest prefix.behind found.2 in
      record {
        is = prefix.is ∙ ap (λ (byte : ℕ). byte ∷ found.0.1) (eq_true found.0.0 wanted prefix.proper.1) ∙ ap (λ (l : List ℕ). wanted ∷ l) back.is;
        proper = back.proper;
        behind = back.behind;
      };
}

-- items that this function gives for their texts
abbrev pub AreGiven : (List ℕ → Item) → ℕ → List Item → Type 0
AreGiven item_of limit items = (length items < 2 ^ 32) × AreProper (IsGiven item_of limit) items

pub exact_command : (item_of : List ℕ → Item) (limit : ℕ) → IsExact (command_at item_of limit) execute_bytes (AreGiven item_of limit)
unfolding command_at
exact_command item_of limit =
    exact_behind 1 (λ bytes. byte_at 0 bytes >>= λ x. list_at (item_at item_of limit) x.1) (λ items. 0 ∷ list_bytes item_bytes items) (AreGiven item_of limit) (omega arith)
    (exact_behind 0 (list_at (item_at item_of limit)) (list_bytes item_bytes) (AreGiven item_of limit) (omega arith)
    (exact_list (item_at item_of limit) item_bytes (IsGiven item_of limit) (exact_item item_of limit)))
