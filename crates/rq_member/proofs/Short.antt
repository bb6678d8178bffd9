-- Commands of lists in memory, as far as they aren't too long, can be read again.
use Rattle.std.proofs.Common.{◌≡◌, ◌<◌, ◌≤◌, ◌+◌, ◌-◌, ◌*◌, ◌^◌, ◌∙◌, ℕ, zero, suc, Bool, true, false, List, [], ◌∷◌, ◌++◌, length, refl, sym, ap, subst, arith, length-append}
use Rattle.std.specs.Prelude.{All}
use Rattle.std.specs.List.{flat_map}
use Rattle.rq_values.specs.Exact.{AreProper}
use Rattle.rq_values.specs.Spelling.{u32_bytes, bool_bytes, list_bytes}
use Rattle.rq_statement.specs.declared.item.Item.{Item}
use Rattle.rq_statement.specs.declared.item.Item.TheVariants.{Run, Fail}
use Rattle.rq_statement.specs.declared.command.Command.{Command}
use Rattle.rq_statement.specs.declared.command.Command.TheVariants.{Execute, Request, StrongQuery, Batch}
use Rattle.rq_statement.specs.Statements.{Statements}
use Rattle.rq_statement.specs.Bytes.{item_bytes, statements_bytes, command_bytes}
use Rattle.rq_command.specs.Stored.{text_of, IsItem, IsCommand}
use Rattle.rq_command.specs.Stored.{IsReadable as IsItemReadable}
use Rattle.rq_member.specs.Files.{IsReadable}
use Rattle.rq_member.specs.Queued.{IsQueueable}

text_within : (item : Item) → length (text_of item) + 1 ≤ length (item_bytes item)
text_within (Run statement) = omega (arith, length-append (u32_bytes (length (text_of (Run statement)))) (text_of (Run statement)))
text_within (Fail error) = omega (arith, length-append (u32_bytes (length error)) error)

all_more : {A : Type 0} (P : A → Type 0) (x : A) (xs : List A) → All P (x ∷ xs) → All P xs
all_more P x xs all k d less = all (suc k) d (omega (arith, less))

record Fit (limit : ℕ) (items : List Item) : Type 0 where
  count : length items ≤ length (flat_map item_bytes items)
  proper : AreProper (IsItem limit) items

fit : (limit : ℕ) (items : List Item) → All IsItemReadable items → length (flat_map item_bytes items) ≤ limit → Fit limit items
fit limit [] all short = record { count = omega arith; proper = tt }
fit limit (item ∷ items) all short =
    let size = length-append (item_bytes item) (flat_map item_bytes items) in
    let here = text_within item in
    let reads = all 0 item (omega arith) in
    let rest = fit limit items (all_more IsItemReadable item items all) (omega arith) in
    record {
      count = omega (arith, rest.count);
      proper = (record { short = omega arith; text = reads.0; stored = reads.1 }, rest.proper);
    }

four : (n : ℕ) → length (u32_bytes n) ≡ 4
unfolding u32_bytes
four n = refl

one_byte : (b : Bool) → length (bool_bytes b) ≡ 1
one_byte true = refl
one_byte false = refl

items_command : (items : List Item) → All IsItemReadable items → length (list_bytes item_bytes items) ≤ 8388608 → IsCommand 8388608 items
items_command items all short =
    let size = length-append (u32_bytes (length items)) (flat_map item_bytes items) in
    let has = fit 8388608 items all (omega (arith, size, short)) in
    record { count = omega (arith, size, short, has.count); items_are = has.proper }

statements_size : (list : Statements) → length (statements_bytes list) ≡ 1 + length (list_bytes item_bytes list.items)
statements_size list = length-append (bool_bytes list.transaction) (list_bytes item_bytes list.items) ∙ ap (λ (n : ℕ). n + length (list_bytes item_bytes list.items)) (one_byte list.transaction)

list_command : (list : Statements) → All IsItemReadable list.items → length (statements_bytes list) ≤ 8388608 → IsCommand 8388608 list.items
list_command list all short = items_command list.items all (omega (arith, statements_size list, short))

pub execute_readable : (list : Statements) → All IsItemReadable list.items → length (command_bytes (Execute list)) ≤ 8388608 → IsReadable (Execute list)
execute_readable list all short = (list_command list all (omega (arith, short)), short)

pub request_readable : (list : Statements) → All IsItemReadable list.items → length (command_bytes (Request list)) ≤ 8388608 → IsReadable (Request list)
request_readable list all short = (list_command list all (omega (arith, short)), short)

pub strong_readable : (items : List Item) → All IsItemReadable items → length (command_bytes (StrongQuery items)) ≤ 8388608 → IsReadable (StrongQuery items)
strong_readable items all short = (items_command items all (omega (arith, short)), short)

record Batched (lists : List Statements) : Type 0 where
  proper : AreProper (λ (list : Statements). IsCommand 8388608 list.items) lists
  size : length (flat_map statements_bytes lists) ≤ 64000 * length lists

batched : (lists : List Statements) → All IsQueueable lists → Batched lists
batched [] all = record { proper = tt; size = omega arith }
batched (list ∷ lists) all =
    let here = all 0 list (omega arith) in
    let rest = batched lists (all_more IsQueueable list lists all) in
    let size = length-append (statements_bytes list) (flat_map statements_bytes lists) in
    record { proper = (list_command list here.items (omega (arith, here.short)), rest.proper); size = omega (arith, size, here.short, rest.size) }

pub batch_readable : (lists : List Statements) → All IsQueueable lists → length lists ≤ 128 → IsReadable (Batch lists)
batch_readable lists all few =
    let has = batched lists all in
    ((omega (arith, few), has.proper), omega (arith, few, has.size, length-append (u32_bytes (length lists)) (flat_map statements_bytes lists), four (length lists)))
