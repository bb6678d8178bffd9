-- The frames of a node keep the rules of the file.
use Rattle.std.proofs.Common.{◌≡◌, ◌<◌, ◌≤◌, ◌+◌, ◌^◌, ◌&&◌, ℕ, suc, true, List, [], ◌∷◌, ◌++◌, length, map, Some, nat_lt, nat_le, refl, ◌∙◌, ap, arith, length-append, w8, Fits, get_or}
use Rattle.std.proofs.lemmas.Bool.Decides.{nat_tests}
use Rattle.std.proofs.lemmas.List.{length-map}
use Rattle.std.specs.List.{list_all}
use Rattle.rq_values.specs.Text.{is_id, is_lower, is_lower_or_digit}
use Rattle.rq_values.specs.Exact.{AreBytes, IsNamed}
use Rattle.rq_values.specs.Spelling.{u32_bytes, u64_bytes, sized}
use Rattle.rq_wire.specs.Spelling.{entry_bytes, body_bytes}
use Rattle.rq_wire.specs.Exact.{IsBody}
use Rattle.rq_wire.specs.declared.entry.Entry.{Entry}
use Rattle.rq_wal.specs.declared.base.Stored.{Stored}
use Rattle.rq_wire.specs.declared.frame.Frame.TheVariants as frame
use Rattle.rq_wal.specs.Reading.{text_limit, is_small}
use Rattle.rq_wal.specs.Rules.{AreAllowed}
use Rattle.rq_wal.specs.Spelling.{payload_bytes}
use Rattle.rq_statement.specs.declared.item.Item.{Item}
use Rattle.rq_statement.specs.Bytes.{execute_bytes}
use Rattle.rq_node.specs.declared.log_entry.LogEntry.{LogEntry}
use Rattle.rq_node.specs.declared.log_entry.Content.TheVariants.{NoOp, Execute}
use Rattle.rq_node.specs.Files.{body_of, stored_entry, stored_of, frame_of}
use Rattle.rq_node.specs.Node.{Node, Persistent, Splice, persistent_of}
use Rattle.rq_node.specs.Rules.{led, taken_up}
use Rattle.rq_node.specs.Sound.{most_bytes}
use Rattle.rq_node.proofs.Addresses.{both}

eight : (n : ℕ) → length (u64_bytes n) ≡ 8
unfolding u64_bytes
eight n = refl

pub four : (n : ℕ) → length (u32_bytes n) ≡ 4
unfolding u32_bytes
four n = refl

letter_is_byte : (byte : ℕ) → is_lower byte ≡ true → byte < 256
letter_is_byte byte is = grind (arith, nat_tests)

name_is_byte : (byte : ℕ) → is_lower_or_digit byte ≡ true → byte < 256
name_is_byte byte is = grind (arith, nat_tests)

names_are_bytes : (bytes : List ℕ) → list_all is_lower_or_digit bytes ≡ true → AreBytes bytes
names_are_bytes [] is = tt
names_are_bytes (byte ∷ bytes) is =
    let parts = both (is_lower_or_digit byte) (list_all is_lower_or_digit bytes) is in
    (name_is_byte byte parts.0, names_are_bytes bytes parts.1)

below_16 : (n : ℕ) → nat_lt n 16 ≡ true → n < 16
below_16 n is = grind (arith, nat_tests)

record IsShortName (id : List ℕ) : Type 0 where
  bytes : AreBytes id
  short : length id ≤ 16

short_name : (id : List ℕ) → is_id id ≡ true → IsShortName id
unfolding is_id
short_name [] is = absurd (cc)
short_name (first ∷ rest) is =
    let parts = both (is_lower first && nat_lt (length rest) 16) (list_all is_lower_or_digit rest) is in
    let start = both (is_lower first) (nat_lt (length rest) 16) parts.0 in
    let fits : length rest < 16 = below_16 (length rest) start.1 in
    record { bytes = (letter_is_byte first start.0, names_are_bytes rest parts.1); short = omega arith }

named_id : (id : List ℕ) → is_id id ≡ true → IsNamed is_id text_limit id
named_id id is =
    let name = short_name id is in
    ((omega (arith, name.short), omega (arith, name.short), name.bytes), is)

short_vote : (term : ℕ) (id : List ℕ) → is_id id ≡ true → length (payload_bytes (frame.Vote term (Some id))) < 2 ^ 32
short_vote term id is =
    let name = short_name id is in
    omega (arith, length-append (u64_bytes term) (1 ∷ sized id), length-append (u32_bytes (length id)) id, eight term, four (length id), name.short)

next_test : (n : ℕ) → (nat_lt 0 (n + 1) && nat_le (n + 1) (0 + n + 1)) ≡ true
next_test n = grind (arith, nat_tests)

next_place : (n m index : ℕ) → m ≡ n → index ≡ n + 1 → (nat_lt 0 index && nat_le index (0 + m + 1)) ≡ true
next_place n m index same is =
    ap (λ (k : ℕ). nat_lt 0 index && nat_le index (0 + k + 1)) same ∙ ap (λ (k : ℕ). nat_lt 0 k && nat_le k (0 + n + 1)) is ∙ next_test n

short_splice : (index : ℕ) (entry : Entry) → length (body_bytes entry.body) < 2 ^ 31 → length (payload_bytes (frame.Splice index (entry ∷ []))) < 2 ^ 32
short_splice index entry small =
    omega (
      arith,
      length-append (u64_bytes index) (u32_bytes 1 ++ (entry_bytes entry ++ [])),
      length-append (u32_bytes 1) (entry_bytes entry ++ []),
      length-append (entry_bytes entry) [],
      length-append (u64_bytes entry.term) (body_bytes entry.body),
      eight index,
      four 1,
      eight entry.term,
    )

-- one entry behind the others
splice_allowed : (id : List ℕ) (kept : Persistent) (index : ℕ) (entry : LogEntry) → index ≡ length kept.log + 1 → index < 2 ^ 64 → entry.term < 2 ^ 64 → IsBody text_limit (body_of entry.content) → length (body_bytes (body_of entry.content)) < 2 ^ 31
    → AreAllowed (stored_of id kept) (map frame_of (Splice index (entry ∷ []) ∷ []))
splice_allowed id kept index entry is fits term body small = (
  (
    ((fits, next_place (length kept.log) (length (map stored_entry kept.log)) index (length-map kept.log stored_entry) is), ((omega arith, refl), ((term, body), tt))),
    short_splice index (stored_entry entry) small,
  ),
  tt,
)

pub led_allowed : (n : Node) → is_id n.id ≡ true → n.term + 1 < 2 ^ 64 → length n.log + 1 < 2 ^ 64 → AreAllowed (stored_of n.id (persistent_of n)) (map frame_of (led n).records)
led_allowed n is term fits = (
  ((term, named_id n.id is), short_vote (n.term + 1) n.id is),
  splice_allowed n.id (record (persistent_of n) { term = n.term + 1; vote = Some n.id }) (length n.log + 1) (record { term = n.term + 1; content = NoOp }) refl fits term tt (omega arith),
)

short_command : (command : List ℕ) → length command ≤ most_bytes → length (2 ∷ sized command) < 2 ^ 31
short_command command short = omega (arith, length-append (u32_bytes (length command)) command, four (length command), short)

pub taken_allowed : (n : Node) (number : ℕ) (items : List Item) → n.term < 2 ^ 64 → length n.log + 1 < 2 ^ 64 → length (execute_bytes items) ≤ most_bytes → AreBytes (execute_bytes items)
    → AreAllowed (stored_of n.id (persistent_of n)) (map frame_of (taken_up n number items).records)
taken_allowed n number items term fits short bytes =
    splice_allowed n.id (persistent_of n) (length n.log + 1) (record { term = n.term; content = Execute items }) refl fits term (short, omega (arith, short), bytes) (short_command (execute_bytes items) short)

below_63 : (n : ℕ) → n < 2 ^ 63 → is_small n ≡ true
below_63 n less = grind (arith, nat_tests)

pub boot_allowed : (stored : Stored) (boot : ℕ) → boot ≤ 2 ^ 62 → AreAllowed stored (frame.Boot boot ∷ [])
boot_allowed stored boot small =
    ((((omega (arith, small)), below_63 boot (omega (arith, small))), omega (arith, eight boot)), tt)

pub all_bytes : (bytes : List ℕ) → ((i : ℕ) → Fits w8 (get_or bytes i 0)) → AreBytes bytes
all_bytes [] fits = tt
all_bytes (byte ∷ bytes) fits = ((fits 0).fits, all_bytes bytes (λ i. fits (suc i)))
