-- A command of any kind is read exactly where its spelling stands.
use Rattle.std.proofs.Common.{true, Bool, ◌≡◌, ℕ, zero, suc, ◌<◌, ◌≤◌, ◌^◌, ◌⊎◌, ◌&&◌, List, [], ◌∷◌, ◌++◌, length, Result, Ok, Err, nat_le, refl, sym, ap, subst, ◌∙◌, arith, append_assoc}
use Rattle.std.specs.Prelude.{IfOk}
use Rattle.std.specs.List.{flat_map}
use Rattle.std.proofs.lemmas.Bool.{OnFalse_at, OnFalse_from, and_parts}
use Rattle.std.proofs.lemmas.Bool.Decides.{nat_tests}
use Rattle.std.proofs.lemmas.List.{append-nil}
use Rattle.rq_values.specs.declared.error.DecodeError.{DecodeError}
use Rattle.rq_values.specs.declared.error.DecodeError.TheVariants as errors
use Rattle.rq_values.specs.Fault.{is_want_of_memory}
use Rattle.rq_values.specs.Place.{whole_answer, IsAnswer}
use Rattle.rq_values.specs.Reading.{◌>>=◌, made, u8_at, bool_at, u64_at, id_at, list_at}
use Rattle.rq_values.specs.Spelling.{bool_bytes, u32_bytes, u64_bytes, sized, list_bytes}
use Rattle.rq_values.specs.Text.{is_id}
use Rattle.rq_values.specs.Exact.{AreBytes, AreProper, IsExact, IsNamed, IsWithin}
use Rattle.rq_values.proofs.Local.{bind_ok, ok_is}
use Rattle.rq_values.proofs.Exact.{exact_made, exact_checked, exact_u8, exact_bool, exact_u64, exact_id, exact_list}
use Rattle.rq_statement.specs.declared.item.Item.{Item}
use Rattle.rq_statement.specs.Statements.{Statements}
use Rattle.rq_statement.specs.declared.command.Command.{Command}
use Rattle.rq_statement.specs.declared.command.Command.TheVariants.{NoOp, Config, Execute, Request, StrongQuery, Load, Batch, Once}
use Rattle.rq_statement.specs.Bytes.{item_bytes, statements_bytes, command_bytes}
use Rattle.rq_command.specs.Reading.{IsPreparing, item_at}
use Rattle.rq_command.specs.Stored.{IsCommand}
use Rattle.rq_command.specs.Commands.{pair_at, statements_at, sent_on_at, once_at, content_at, command_kind_at, any_command_at, command_by, IsDecoded, IsDecoding, IsLogged}
use Rattle.rq_command.proofs.Exact.{IsGiven, AreGiven, exact_item}
use Rattle.rq_command.proofs.Told.{SomeItem, OneItem, Again, given, given_prepares, stored_items, given_items, first_bytes, last_bytes, read_with, whole_ok, answered}

-- ---- readers of several things

-- two things, one behind the other
exact_pair : {A B : Type 0} (one : List ℕ → Result (A × List ℕ) DecodeError) (two : List ℕ → Result (B × List ℕ) DecodeError) (s : A → List ℕ) (t : B → List ℕ) (P : A → Type 0) (Q : B → Type 0)
    → IsExact one s P → IsExact two t Q → IsExact (pair_at one two) (λ p. s p.0 ++ t p.1) (λ p. P p.0 × Q p.1)
exact_pair {A} {B} one two s t P Q first second = record {
  reads = λ p rest proper.
      ap (λ r. r >>= λ x. two x.1 >>= λ y. Ok ((x.0, y.0), y.1)) (ap one (append_assoc (s p.0) (t p.1) rest) ∙ first.reads p.0 (t p.1 ++ rest) proper.0)
      ∙ ap (λ r. r >>= λ y. Ok ((p.0, y.0), y.1)) (second.reads p.1 rest proper.1);
  stood = λ bytes p rest all h.
      let found = bind_ok (one bytes) (λ x. two x.1 >>= λ y. Ok ((x.0, y.0), y.1)) (p, rest) h in
      let a = found.0.0 in
      let more = bind_ok (two found.0.1) (λ y. Ok ((a, y.0), y.1)) (p, rest) found.2 in
      let e = ok_is ((a, more.0.0), more.0.1) (p, rest) (Ok ((a, more.0.0), more.0.1)) refl more.2 in
      let prefix = first.stood bytes a found.0.1 all found.1 in
      let back = second.stood found.0.1 more.0.0 more.0.1 prefix.behind more.1 in
      record {
        is = prefix.is ∙ ap (λ (l : List ℕ). s a ++ l) back.is ∙ sym (append_assoc (s a) (t more.0.0) more.0.1) ∙ (λ i. (s (e i).0.0 ++ t (e i).0.1) ++ (e i).1);
        proper = subst (λ (q : A × B). P q.0 × Q q.1) (ap (λ x. x.0) e) (prefix.proper, back.proper);
        behind = subst AreBytes (ap (λ x. x.1) e) back.behind;
      };
}

-- a thing made of a proper one
abbrev pub IsMadeOf : {A B : Type 0} → (A → B) → (A → Type 0) → B → Type 0
IsMadeOf {A} f P b = (a : A) × P a × (f a ≡ b)

exact_of : {A B : Type 0} (one : List ℕ → Result (A × List ℕ) DecodeError) (s : A → List ℕ) (P : A → Type 0) (f : A → B) (t : B → List ℕ)
    → IsExact one s P → ((a : A) → s a ≡ t (f a)) → IsExact (made one f) t (IsMadeOf f P)
exact_of {A} {B} one s P f t exact same = record {
  reads = λ b rest proper.
      ap (λ (x : B). made one f (t x ++ rest)) (sym proper.2)
      ∙ ap (λ (l : List ℕ). made one f (l ++ rest)) (sym (same proper.0))
      ∙ ap (λ r. r >>= λ x. Ok (f x.0, x.1)) (exact.reads proper.0 rest proper.1)
      ∙ ap (λ (x : B). Ok (x, rest)) proper.2;
  stood = λ bytes b rest all h.
      let found = bind_ok (one bytes) (λ x. Ok (f x.0, x.1)) (b, rest) h in
      let a = found.0.0 in
      let e = ok_is (f a, found.0.1) (b, rest) (Ok (f a, found.0.1)) refl found.2 in
      let prefix = exact.stood bytes a found.0.1 all found.1 in
      record {
        is = prefix.is ∙ ap (λ (l : List ℕ). l ++ found.0.1) (same a) ∙ (λ i. t (e i).0 ++ (e i).1);
        proper = (a, prefix.proper, ap (λ x. x.0) e);
        behind = subst AreBytes (ap (λ x. x.1) e) prefix.behind;
      };
}

-- one reader, and then another by what it read
exact_then : {A B : Type 0} (one : List ℕ → Result (A × List ℕ) DecodeError) (next : A → List ℕ → Result (B × List ℕ) DecodeError) (s : A → List ℕ) (t u : B → List ℕ) (P : A → Type 0) (Q : A → B → Type 0)
    → IsExact one s P → ((a : A) → P a → IsExact (next a) t (Q a)) → ((a : A) (b : B) → P a → Q a b → s a ++ t b ≡ u b)
    → IsExact (λ bytes. one bytes >>= λ x. next x.0 x.1) u (λ b. (a : A) × P a × Q a b)
exact_then {A} {B} one next s t u P Q first second same = record {
  reads = λ b rest proper.
      let a = proper.0 in
      ap (λ (l : List ℕ). one (l ++ rest) >>= λ x. next x.0 x.1) (sym (same a b proper.1 proper.2))
      ∙ ap (λ r. r >>= λ x. next x.0 x.1) (ap one (append_assoc (s a) (t b) rest) ∙ first.reads a (t b ++ rest) proper.1)
      ∙ (second a proper.1).reads b rest proper.2;
  stood = λ bytes b rest all h.
      let found = bind_ok (one bytes) (λ x. next x.0 x.1) (b, rest) h in
      let a = found.0.0 in
      let prefix = first.stood bytes a found.0.1 all found.1 in
      let back = (second a prefix.proper).stood found.0.1 b rest prefix.behind found.2 in
      record {
        is = prefix.is ∙ ap (λ (l : List ℕ). s a ++ l) back.is ∙ sym (append_assoc (s a) (t b) rest) ∙ ap (λ (l : List ℕ). l ++ rest) (same a b prefix.proper back.proper);
        proper = (a, prefix.proper, back.proper);
        behind = back.behind;
      };
}

-- ---- commands

-- the bytes behind a command's kind
content_bytes : Command → List ℕ
content_bytes NoOp = []
content_bytes (Config ids) = []
content_bytes (Execute list) = statements_bytes list
content_bytes (Request list) = statements_bytes list
content_bytes (StrongQuery items) = list_bytes item_bytes items
content_bytes (Load items) = list_bytes item_bytes items
content_bytes (Batch lists) = list_bytes statements_bytes lists
content_bytes (Once id boot number list) = sized id ++ (u64_bytes boot ++ (u64_bytes number ++ statements_bytes list))

-- the bytes behind a server's id
sent_bytes : Command → List ℕ
sent_bytes NoOp = []
sent_bytes (Config ids) = []
sent_bytes (Execute list) = []
sent_bytes (Request list) = []
sent_bytes (StrongQuery items) = []
sent_bytes (Load items) = []
sent_bytes (Batch lists) = []
sent_bytes (Once id boot number list) = u64_bytes boot ++ (u64_bytes number ++ statements_bytes list)

abbrev is_command_kind : ℕ → Bool
is_command_kind kind = nat_le 1 kind && nat_le kind 6

abbrev IsCommandKind : ℕ → Type 0
IsCommandKind kind = (kind < 256) × (is_command_kind kind ≡ true)

within : (m n : ℕ) → nat_le m n ≡ true → m ≤ n
within m n h = grind (arith, nat_tests)

at_most_6 : (kind : ℕ) → IsCommandKind kind → kind ≤ 6
at_most_6 kind p = within kind 6 (and_parts (nat_le 1 kind) (nat_le kind 6) p.1).1

at_least_1 : (kind : ℕ) → IsCommandKind kind → 1 ≤ kind
at_least_1 kind p = within 1 kind (and_parts (nat_le 1 kind) (nat_le kind 6) p.1).0

module _ (item_of : List ℕ → Item) (limit : ℕ) where
  abbrev IsGivenList : Statements → Type 0
  IsGivenList list = AreGiven item_of limit list.items

  abbrev AreGivenLists : List Statements → Type 0
  AreGivenLists lists = (length lists < 2 ^ 32) × AreProper IsGivenList lists

  abbrev IsGivenSent : ℕ × (ℕ × Statements) → Type 0
  IsGivenSent x = (x.0 < 2 ^ 64) × ((x.1.0 < 2 ^ 64) × IsGivenList x.1.1)

  abbrev once : List ℕ → ℕ × (ℕ × Statements) → Command
  once id x = Once id x.0 x.1.0 x.1.1

  abbrev IsOnce : Command → Type 0
  IsOnce command = (id : List ℕ) × IsNamed is_id limit id × IsMadeOf (once id) IsGivenSent command

  -- a command of this kind
  OfKind : ℕ → Command → Type 0
  OfKind zero command = Prim.⊥
  OfKind (suc zero) command = IsMadeOf Execute IsGivenList command
  OfKind (suc (suc zero)) command = IsMadeOf Request IsGivenList command
  OfKind (suc (suc (suc zero))) command = IsMadeOf StrongQuery (AreGiven item_of limit) command
  OfKind (suc (suc (suc (suc zero)))) command = IsMadeOf Load (AreGiven item_of limit) command
  OfKind (suc (suc (suc (suc (suc zero))))) command = IsMadeOf Batch AreGivenLists command
  OfKind (suc (suc (suc (suc (suc (suc n)))))) command = IsOnce command

  abbrev IsOfAKind : Command → Type 0
  IsOfAKind command = (kind : ℕ) × IsCommandKind kind × OfKind kind command

  exact_items : IsExact (list_at (item_at item_of limit)) (list_bytes item_bytes) (AreGiven item_of limit)
  exact_items = exact_list (item_at item_of limit) item_bytes (IsGiven item_of limit) (exact_item item_of limit)

  exact_statements : IsExact (statements_at item_of limit) statements_bytes IsGivenList
  unfolding statements_at
  exact_statements =
      exact_made (pair_at bool_at (list_at (item_at item_of limit))) (λ p. bool_bytes p.0 ++ list_bytes item_bytes p.1) (λ p. Unit {0} × AreGiven item_of limit p.1)
      (λ x. record { transaction = x.0; items = x.1 }) (λ list. (list.transaction, list.items)) IsGivenList
      (exact_pair bool_at (list_at (item_at item_of limit)) bool_bytes (list_bytes item_bytes) (λ _. Unit {0}) (AreGiven item_of limit) exact_bool exact_items)
      (λ list proper. ((tt, proper), refl)) (λ p proper. (proper.1, refl))

  exact_sent_on : (id : List ℕ) → IsExact (sent_on_at item_of limit id) sent_bytes (IsMadeOf (once id) IsGivenSent)
  unfolding sent_on_at sent_bytes
  exact_sent_on id =
      exact_of (pair_at u64_at (pair_at u64_at (statements_at item_of limit))) (λ p. u64_bytes p.0 ++ (u64_bytes p.1.0 ++ statements_bytes p.1.1)) IsGivenSent (once id) sent_bytes
      (exact_pair u64_at (pair_at u64_at (statements_at item_of limit)) u64_bytes (λ p. u64_bytes p.0 ++ statements_bytes p.1) (λ n. n < 2 ^ 64) (λ p. (p.0 < 2 ^ 64) × IsGivenList p.1) exact_u64
      (exact_pair u64_at (statements_at item_of limit) u64_bytes statements_bytes (λ n. n < 2 ^ 64) IsGivenList exact_u64 exact_statements))
      (λ p. refl)

  exact_once : IsExact (once_at item_of limit) content_bytes IsOnce
  unfolding once_at content_bytes sent_bytes
  exact_once =
      exact_then (id_at limit) (sent_on_at item_of limit) sized sent_bytes content_bytes (IsNamed is_id limit) (λ id. IsMadeOf (once id) IsGivenSent) (exact_id limit) (λ id _. exact_sent_on id)
      (λ id command _ p. subst (λ (c : Command). sized id ++ sent_bytes c ≡ content_bytes c) p.2 refl)

  exact_content : (kind : ℕ) → IsCommandKind kind → IsExact (content_at item_of limit kind) content_bytes (OfKind kind)
  unfolding content_at content_bytes OfKind
  exact_content zero p = absurd (let q = at_least_1 zero p in omega arith)
  exact_content (suc zero) p = exact_of (statements_at item_of limit) statements_bytes IsGivenList Execute content_bytes exact_statements (λ list. refl)
  exact_content (suc (suc zero)) p = exact_of (statements_at item_of limit) statements_bytes IsGivenList Request content_bytes exact_statements (λ list. refl)
  exact_content (suc (suc (suc zero))) p = exact_of (list_at (item_at item_of limit)) (list_bytes item_bytes) (AreGiven item_of limit) StrongQuery content_bytes exact_items (λ items. refl)
  exact_content (suc (suc (suc (suc zero)))) p = exact_of (list_at (item_at item_of limit)) (list_bytes item_bytes) (AreGiven item_of limit) Load content_bytes exact_items (λ items. refl)
  exact_content (suc (suc (suc (suc (suc zero))))) p =
      exact_of (list_at (statements_at item_of limit)) (list_bytes statements_bytes) AreGivenLists Batch content_bytes (exact_list (statements_at item_of limit) statements_bytes IsGivenList exact_statements) (λ lists. refl)
  exact_content (suc (suc (suc (suc (suc (suc zero)))))) p = exact_once
  exact_content (suc (suc (suc (suc (suc (suc (suc n))))))) p = absurd (let q = at_most_6 (suc (suc (suc (suc (suc (suc (suc n))))))) p in omega arith)

  whole_bytes : (kind : ℕ) (command : Command) → IsCommandKind kind → OfKind kind command → kind ∷ content_bytes command ≡ command_bytes command
  unfolding content_bytes OfKind
  whole_bytes zero command p none = absurd none
  whole_bytes (suc zero) command p of_kind = subst (λ (c : Command). 1 ∷ content_bytes c ≡ command_bytes c) of_kind.2 refl
  whole_bytes (suc (suc zero)) command p of_kind = subst (λ (c : Command). 2 ∷ content_bytes c ≡ command_bytes c) of_kind.2 refl
  whole_bytes (suc (suc (suc zero))) command p of_kind = subst (λ (c : Command). 3 ∷ content_bytes c ≡ command_bytes c) of_kind.2 refl
  whole_bytes (suc (suc (suc (suc zero)))) command p of_kind = subst (λ (c : Command). 4 ∷ content_bytes c ≡ command_bytes c) of_kind.2 refl
  whole_bytes (suc (suc (suc (suc (suc zero))))) command p of_kind = subst (λ (c : Command). 5 ∷ content_bytes c ≡ command_bytes c) of_kind.2 refl
  whole_bytes (suc (suc (suc (suc (suc (suc zero)))))) command p of_kind = subst (λ (c : Command). 6 ∷ content_bytes c ≡ command_bytes c) of_kind.2.2 refl
  whole_bytes (suc (suc (suc (suc (suc (suc (suc n))))))) command p of_kind = absurd (let q = at_most_6 (suc (suc (suc (suc (suc (suc (suc n))))))) p in omega arith)

  exact_command : IsExact (any_command_at item_of limit) command_bytes IsOfAKind
  unfolding any_command_at command_kind_at
  exact_command =
      exact_then command_kind_at (content_at item_of limit) (λ kind. kind ∷ []) content_bytes command_bytes IsCommandKind OfKind
      (exact_checked u8_at (λ kind. kind ∷ []) (λ kind. kind < 256) is_command_kind errors.Kind exact_u8) exact_content whole_bytes

-- ---- commands that are logged

module _ (item_of : List ℕ → Item) (prepares : IsPreparing item_of) (limit : ℕ) where
  stored_command : (items : List Item) → AreGiven item_of limit items → IsCommand limit items
  stored_command items p = record { count = p.0; items_are = stored_items item_of prepares limit items p.1 }

  stored_lists : (lists : List Statements) → AreProper (IsGivenList item_of limit) lists → AreProper (λ list. IsCommand limit list.items) lists
  stored_lists [] p = tt
  stored_lists (list ∷ lists) p = (stored_command list.items p.0, stored_lists lists p.1)

  logged : (kind : ℕ) (command : Command) → OfKind item_of limit kind command → IsLogged limit command
  unfolding OfKind
  logged zero command none = absurd none
  logged (suc zero) command p = subst (IsLogged limit) p.2 (stored_command p.0.items p.1)
  logged (suc (suc zero)) command p = subst (IsLogged limit) p.2 (stored_command p.0.items p.1)
  logged (suc (suc (suc zero))) command p = subst (IsLogged limit) p.2 (stored_command p.0 p.1)
  logged (suc (suc (suc (suc zero)))) command p = subst (IsLogged limit) p.2 (stored_command p.0 p.1)
  logged (suc (suc (suc (suc (suc zero))))) command p = subst (IsLogged limit) p.2 (p.1.0, stored_lists p.0 p.1.1)
  logged (suc (suc (suc (suc (suc (suc n)))))) command p =
      let sent = p.2.1 in
      subst (IsLogged limit) p.2.2 ((p.1.0.0, p.1.1), (sent.0, sent.1.0), stored_command p.2.0.1.1.items sent.1.1)

  module _ (one : OneItem) (again : Again) (small : limit < 2 ^ 32) where
    given_command : (items : List Item) → IsCommand limit items → AreBytes (list_bytes item_bytes items) → AreGiven item_of limit items
    given_command items p all = (p.count, given_items one again item_of prepares limit small items p.items_are (last_bytes (u32_bytes (length items)) (flat_map item_bytes items) all))

    given_list : (list : Statements) → IsCommand limit list.items → AreBytes (statements_bytes list) → IsGivenList item_of limit list
    given_list list p all = given_command list.items p (last_bytes (bool_bytes list.transaction) (list_bytes item_bytes list.items) all)

    given_lists : (lists : List Statements) → AreProper (λ list. IsCommand limit list.items) lists → AreBytes (flat_map statements_bytes lists) → AreProper (IsGivenList item_of limit) lists
    given_lists [] p all = tt
    given_lists (list ∷ lists) p all = (
      given_list list p.0 (first_bytes (statements_bytes list) (flat_map statements_bytes lists) all),
      given_lists lists p.1 (last_bytes (statements_bytes list) (flat_map statements_bytes lists) all),
    )

    given_id : (id : List ℕ) → (length id ≤ limit) × (is_id id ≡ true) → AreBytes id → IsNamed is_id limit id
    given_id id p all = ((p.0, omega (arith, small, p.0), all), p.1)

    of_a_kind : (command : Command) → IsLogged limit command → AreBytes (command_bytes command) → IsOfAKind item_of limit command
    unfolding OfKind
    of_a_kind NoOp none all = absurd none
    of_a_kind (Config ids) none all = absurd none
    of_a_kind (Execute list) p all = (1, (omega arith, refl), (list, given_list list p all.1, refl))
    of_a_kind (Request list) p all = (2, (omega arith, refl), (list, given_list list p all.1, refl))
    of_a_kind (StrongQuery items) p all = (3, (omega arith, refl), (items, given_command items p all.1, refl))
    of_a_kind (Load items) p all = (4, (omega arith, refl), (items, given_command items p all.1, refl))
    of_a_kind (Batch lists) p all = (5, (omega arith, refl), (lists, (p.0, given_lists lists p.1 (last_bytes (u32_bytes (length lists)) (flat_map statements_bytes lists) all.1)), refl))
    of_a_kind (Once id boot number list) p all =
        let behind = u64_bytes boot ++ (u64_bytes number ++ statements_bytes list) in
        let named = last_bytes (u32_bytes (length id)) id (first_bytes (sized id) behind all.1) in
        let listed = last_bytes (u64_bytes number) (statements_bytes list) (last_bytes (u64_bytes boot) (u64_bytes number ++ statements_bytes list) (last_bytes (sized id) behind all.1)) in
        (6, (omega arith, refl), (id, given_id id p.0 named, ((boot, (number, list)), (p.1.0, (p.1.1, given_list list p.2 listed)), refl)))

-- ---- the answer of a whole input

abbrev pub IsAnswerByEach : ℕ → List ℕ → Result Command DecodeError → Type 0
IsAnswerByEach limit bytes result = (item_of : List ℕ → Item) → IsPreparing item_of → IsAnswer result (command_by item_of limit bytes)

pub some_command : SomeItem → (limit : ℕ) (bytes : List ℕ) → (answer : Result Command DecodeError) × IsDecoded limit bytes answer
some_command some limit bytes = (command_by (λ text. (some text).0) limit bytes, record { item_of = λ text. (some text).0; prepares = λ text. (some text).1; is = refl })

pub one_command : OneItem → (limit : ℕ) (bytes : List ℕ) (answer other : Result Command DecodeError) → IsDecoded limit bytes answer → IsDecoded limit bytes other → answer ≡ other
one_command one limit bytes answer other first second =
    first.is
    ∙ (λ i. command_by (λ text. one text (first.item_of text) (second.item_of text) (first.prepares text) (second.prepares text) i) limit bytes)
    ∙ sym second.is

module _ (some : SomeItem) (limit : ℕ) (bytes : List ℕ) where
  told_by : (result : Result Command DecodeError) → result ≡ command_by (given some limit bytes) limit bytes → IsDecoded limit bytes result
  told_by result is = record { item_of = given some limit bytes; prepares = given_prepares some limit bytes; is = is }

  pub told : (result : Result Command DecodeError) → IsAnswerByEach limit bytes result → IsDecoding limit bytes result
  told (Ok command) h = told_by (Ok command) (h (given some limit bytes) (given_prepares some limit bytes))
  told (Err e) h = OnFalse_from (is_want_of_memory e) (IsDecoded limit bytes (Err e)) (λ known. told_by (Err e) (OnFalse_at known (h (given some limit bytes) (given_prepares some limit bytes))))

module _ (some : SomeItem) (limit : ℕ) (bytes : List ℕ) (all : AreBytes bytes) where
  taken_ok : (command : Command) → IsAnswerByEach limit bytes (Ok command) → (bytes ≡ command_bytes command) × IsLogged limit command
  taken_ok command h =
      let item_of = given some limit bytes in
      let prepares = given_prepares some limit bytes in
      let read = whole_ok (length bytes) (any_command_at item_of limit bytes) command (h item_of prepares) in
      let stood = (exact_command item_of limit).stood bytes command [] all read in
      (stood.is ∙ append-nil (command_bytes command), logged item_of prepares limit stood.proper.0 command stood.proper.2)

  pub taken : (result : Result Command DecodeError) → IsAnswerByEach limit bytes result → IfOk result (λ command. (bytes ≡ command_bytes command) × IsLogged limit command)
  taken (Ok command) h = taken_ok command h
  taken (Err e) h = tt

  module _ (one : OneItem) (again : Again) (small : limit < 2 ^ 32) where
    pub found : (result : Result Command DecodeError) → IsAnswerByEach limit bytes result → (command : Command) → bytes ≡ command_bytes command → IsLogged limit command → (result ≡ Ok command) ⊎ (result ≡ Err errors.NoMemory)
    found result h command is proper =
        let item_of = given some limit bytes in
        let prepares = given_prepares some limit bytes in
        let read = ap (any_command_at item_of limit) (is ∙ sym (append-nil (command_bytes command))) ∙ (exact_command item_of limit).reads command [] (of_a_kind item_of prepares limit one again small command proper (subst AreBytes is all)) in
        answered result (command_by item_of limit bytes) command (ap (whole_answer (length bytes)) read) (h item_of prepares)
