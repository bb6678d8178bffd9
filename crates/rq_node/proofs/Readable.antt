-- Entries that are read from the log again.
use Rattle.std.proofs.Common.{◌≡◌, ◌<◌, ◌≤◌, ◌+◌, ◌-◌, ℕ, zero, suc, List, [], ◌∷◌, ◌++◌, length, take, map, get_or, Result, Ok, Err, ◌⊎◌, inl, inr, refl, sym, ◌∙◌, ap, subst, arith, length-append}
use Rattle.std.specs.Prelude.{All}
use Rattle.std.specs.List.{flat_map}
use Rattle.std.proofs.lemmas.List.Elements.{All-append, All-take}
use Rattle.std.proofs.lemmas.List.{map-append, length-map, take_all}
use Rattle.rq_values.specs.Exact.{AreProper}
use Rattle.rq_wire.specs.declared.entry.Entry.{Entry}
use Rattle.rq_values.specs.declared.error.DecodeError.{DecodeError}
use Rattle.rq_values.specs.declared.error.DecodeError.TheVariants as commands
use Rattle.rq_node.specs.Files.{stored_entry}
use Rattle.rq_values.specs.Spelling.{u32_bytes}
use Rattle.rq_statement.specs.declared.item.Item.{Item}
use Rattle.rq_statement.specs.declared.item.Item.TheVariants.{Run, Fail}
use Rattle.rq_statement.specs.Bytes.{item_bytes}
use Rattle.rq_statement.specs.Bytes.{execute_bytes}
use Rattle.rq_command.specs.Stored.{text_of, IsItem, IsCommand}
use Rattle.rq_node.specs.declared.log_entry.LogEntry.{LogEntry}
use Rattle.rq_node.specs.declared.log_entry.Content.TheVariants.{Execute}
use Rattle.rq_node.specs.Node.{Persistent, StoredRecord, Vote, Splice, Boot, persistent_with, persistent_after}
use Rattle.rq_node.specs.Sound.{IsReadable, IsPersistentReadable, AreReadable, most_bytes}
use Rattle.rq_node.specs.Recovery.{IsItemReadable, CanBeRead}

-- ---- each of a list

pub all_first : {A : Type 0} (P : A → Type 0) (x : A) (xs : List A) → All P (x ∷ xs) → P x
all_first P x xs all = all 0 x (omega arith)

pub all_more : {A : Type 0} (P : A → Type 0) (x : A) (xs : List A) → All P (x ∷ xs) → All P xs
all_more P x xs all = λ k d less. all (suc k) d (omega arith)

pub all_with : {A : Type 0} (P : A → Type 0) (x : A) (xs : List A) → P x → All P xs → All P (x ∷ xs)
all_with P x xs first more zero d less = first
all_with P x xs first more (suc k) d less = more k d (omega arith)

pub all_none : {A : Type 0} (P : A → Type 0) → All P []
all_none P = λ k d less. absurd (omega arith)

pub all_one : {A : Type 0} (P : A → Type 0) (x : A) → P x → All P (x ∷ [])
all_one P x here = all_with P x [] here (all_none P)

-- ---- logs

abbrev pub IsEntryReadable : LogEntry → Type 0
IsEntryReadable entry = IsPersistentReadable entry.content

pub readable_more : (log : List LogEntry) (entry : LogEntry) → AreReadable log → IsPersistentReadable entry.content → AreReadable (log ++ entry ∷ [])
readable_more log entry all one = All-append IsEntryReadable log (entry ∷ []) all (all_one IsEntryReadable entry one)

readable_with : (kept : Persistent) (item : StoredRecord) → AreReadable kept.log → IsItemReadable item → AreReadable (persistent_with kept item).log
readable_with kept (Vote term vote) all item = all
readable_with kept (Splice from entries) all item = All-append IsEntryReadable (take (from - 1) kept.log) entries (All-take IsEntryReadable (from - 1) kept.log all) item
readable_with kept (Boot boot) all item = all

readable_after : (kept : Persistent) (items : List StoredRecord) → AreReadable kept.log → All IsItemReadable items → AreReadable (persistent_after kept items).log
readable_after kept [] all items = all
readable_after kept (item ∷ more) all items =
    readable_after (persistent_with kept item) more (readable_with kept item all (all_first IsItemReadable item more items)) (all_more IsItemReadable item more items)

-- whatever of it stands can be read
pub some_readable : (kept : Persistent) (items : List StoredRecord) (k : ℕ) → CanBeRead kept items → AreReadable (persistent_after kept (take k items)).log
some_readable kept items k can = readable_after kept (take k items) can.0 (All-take IsItemReadable k items can.1)

-- ---- items and commands

text_within : (item : Item) → length (text_of item) + 1 ≤ length (item_bytes item)
text_within (Run statement) = omega (arith, length-append (u32_bytes (length (text_of (Run statement)))) (text_of (Run statement)))
text_within (Fail error) = omega (arith, length-append (u32_bytes (length error)) error)

record Fit (limit : ℕ) (items : List Item) : Type 0 where
  count : length items ≤ length (flat_map item_bytes items)
  proper : AreProper (IsItem limit) items

fit : (limit : ℕ) (items : List Item) → All IsReadable items → length (flat_map item_bytes items) ≤ limit → Fit limit items
fit limit [] all short = record { count = omega arith; proper = tt }
fit limit (item ∷ items) all short =
    let size = length-append (item_bytes item) (flat_map item_bytes items) in
    let here = text_within item in
    let reads = all_first IsReadable item items all in
    let rest = fit limit items (all_more IsReadable item items all) (omega arith) in
    record {
      count = omega (arith, rest.count);
      proper = (record { short = omega arith; text = reads.0; stored = reads.1 }, rest.proper);
    }

pub command_is : (items : List Item) → IsPersistentReadable (Execute items) → IsCommand 8388608 items
command_is items readable =
    let size = length-append (u32_bytes (length items)) (flat_map item_bytes items) in
    let has = fit 8388608 items readable.0 (omega (arith, readable.1)) in
    record { count = omega (arith, readable.1, has.count); items_are = has.proper }

items_readable : (limit : ℕ) (items : List Item) → AreProper (IsItem limit) items → All IsReadable items
items_readable limit [] proper = all_none IsReadable
items_readable limit (item ∷ items) proper = all_with IsReadable item items (proper.0.text, proper.0.stored) (items_readable limit items proper.1)

pub readable_is : (bytes : List ℕ) (items : List Item) → bytes ≡ execute_bytes items → length bytes ≤ most_bytes → IsCommand 8388608 items → IsPersistentReadable (Execute items)
readable_is bytes items is short command = (items_readable 8388608 items command.items_are, subst (λ (l : List ℕ). length l ≤ most_bytes) is short)

-- ---- entries as the file has them

-- the entry at a place of the log
pub record Next (log : List LogEntry) (place : ℕ) : Type 0 where
  pub entry : LogEntry
  pub more : take (place + 1) log ≡ take place log ++ entry ∷ []
  pub stored : (found : Entry) → found ≡ get_or (map stored_entry log) place found → found ≡ stored_entry entry
  pub readable : AreReadable log → IsPersistentReadable entry.content

pub next : (log : List LogEntry) (place : ℕ) → place < length log → Next log place
next [] place less = absurd (omega arith)
next (x ∷ log) zero less = record { entry = x; more = refl; stored = λ found is. is; readable = λ all. all 0 x less }
next (x ∷ log) (suc p) less =
    let n = next log p (omega arith) in
    let e : suc p + 1 ≡ suc (p + 1) = omega arith in
    record {
      entry = n.entry;
      more = ap (λ (m : ℕ). take m (x ∷ log)) e ∙ ap (λ (l : List LogEntry). x ∷ l) n.more;
      stored = n.stored;
      readable = λ all. n.readable (all_more IsEntryReadable x log all);
    }

pub taken_more : (entries : List Entry) (place : ℕ) (found : Entry) → place < length entries → found ≡ get_or entries place found → take (place + 1) entries ≡ take place entries ++ found ∷ []
taken_more [] place found less is = absurd (omega arith)
taken_more (x ∷ entries) zero found less is = ap (λ (e : Entry). e ∷ []) (sym is)
taken_more (x ∷ entries) (suc p) found less is =
    let e : suc p + 1 ≡ suc (p + 1) = omega arith in
    ap (λ (m : ℕ). take m (x ∷ entries)) e ∙ ap (λ (l : List Entry). x ∷ l) (taken_more entries p found (omega arith) is)

pub spelled_more : (entries : List Entry) (place : ℕ) (found : Entry) (log : List LogEntry) (entry : LogEntry) → place < length entries → found ≡ get_or entries place found → found ≡ stored_entry entry
    → take place entries ≡ map stored_entry log → take (place + 1) entries ≡ map stored_entry (log ++ entry ∷ [])
spelled_more entries place found log entry less is spelled before =
    taken_more entries place found less is
    ∙ (λ i. before i ++ spelled i ∷ [])
    ∙ sym (map-append stored_entry log (entry ∷ []))

-- so far the log is the one that the entries spell
abbrev pub IsPrefixOf : List Entry → ℕ → List LogEntry → Type 0
IsPrefixOf entries place found = (log : List LogEntry) → AreReadable log → entries ≡ map stored_entry log → found ≡ take place log

pub place_in : (entries : List Entry) (log : List LogEntry) (place : ℕ) → entries ≡ map stored_entry log → place < length entries → Next log place
place_in entries log place is less = next log place (omega (arith, ap length is, length-map log stored_entry))

pub stored_at : (entries : List Entry) (log : List LogEntry) (place : ℕ) (is : entries ≡ map stored_entry log) (less : place < length entries) (found : Entry) → found ≡ get_or entries place found → found ≡ stored_entry (place_in entries log place is less).entry
stored_at entries log place is less found at = (place_in entries log place is less).stored found (at ∙ ap (λ (l : List Entry). get_or l place found) is)

pub prefix_more : (entries : List Entry) (place : ℕ) (before : List LogEntry) (found : Entry) (entry : LogEntry) → place < length entries → found ≡ get_or entries place found
    → ((kept : LogEntry) → IsPersistentReadable kept.content → found ≡ stored_entry kept → entry ≡ kept) → IsPrefixOf entries place before → IsPrefixOf entries (place + 1) (before ++ entry ∷ [])
prefix_more entries place before found entry less at one prefix = λ log all is.
    let n = place_in entries log place is less in
    let e : entry ≡ n.entry = one n.entry (n.readable all) (n.stored found (at ∙ ap (λ (l : List Entry). get_or l place found) is)) in
    (λ i. prefix log all is i ++ e i ∷ []) ∙ sym n.more

pub prefix_none : (entries : List Entry) → IsPrefixOf entries 0 []
prefix_none entries = λ log all is. refl

pub whole_prefix : (entries : List Entry) (place : ℕ) (found log : List LogEntry) → place ≡ length entries → IsPrefixOf entries place found → AreReadable log → entries ≡ map stored_entry log → found ≡ log
whole_prefix entries place found log at prefix all is =
    let size : length log ≤ place = omega (arith, ap length is, length-map log stored_entry) in
    prefix log all is ∙ take_all place log size

pub whole_spelled : (entries : List Entry) (place : ℕ) (found : List LogEntry) → place ≡ length entries → take place entries ≡ map stored_entry found → entries ≡ map stored_entry found
whole_spelled entries place found at spelled = sym (take_all place entries (omega arith)) ∙ spelled

-- what was read of a command
pub the_items : (r : Result (List Item) DecodeError) (found items : List Item) → r ≡ Ok found → (r ≡ Ok items) ⊎ (r ≡ Err commands.NoMemory) → found ≡ items
the_items r found items is (inl same) = cc
the_items r found items is (inr none) = absurd (cc)

pub the_error : (r : Result (List Item) DecodeError) (e : DecodeError) (items : List Item) → r ≡ Err e → (r ≡ Ok items) ⊎ (r ≡ Err commands.NoMemory) → e ≡ commands.NoMemory
the_error r e items is (inl same) = absurd (cc)
the_error r e items is (inr none) = cc
