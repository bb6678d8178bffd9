-- The frames of what a node stores keep the rules of the file.
use Rattle.std.proofs.Common.{◌≡◌, ◌<◌, ◌≤◌, ◌+◌, ◌-◌, ◌*◌, ◌^◌, ◌&&◌, not, Bool, true, false, cond, ℕ, zero, suc, List, [], ◌∷◌, ◌++◌, length, map, drop, Option, Some, None, nat_lt, nat_le, refl, sym, ◌∙◌, ap, subst, arith, length-append, inl, inr, w8, Fits, get_or}
use Rattle.std.specs.Prelude.{◌==◌, All}
use Rattle.std.proofs.lemmas.Bool.Decides.{nat_tests}
use Rattle.std.proofs.lemmas.List.{length-map, append-nil}
use Rattle.std.specs.List.{list_all, flat_map}
use Rattle.rq_values.specs.Text.{is_id, is_lower, is_lower_or_digit}
use Rattle.rq_values.specs.Exact.{AreBytes, AreProper, IsNamed, IsNoneOr}
use Rattle.rq_values.specs.Spelling.{u32_bytes, u64_bytes, sized, list_bytes}
use Rattle.rq_wire.specs.Spelling.{entry_bytes, body_bytes}
use Rattle.rq_wire.specs.Exact.{IsEntry}
use Rattle.rq_wire.specs.declared.config.Member.{Member}
use Rattle.rq_wire.specs.declared.entry.Entry.{Entry}
use Rattle.rq_wire.specs.declared.frame.Frame.{Frame}
use Rattle.rq_wire.specs.declared.frame.Frame.TheVariants as frame
use Rattle.rq_wal.specs.declared.base.Stored.{Stored}
use Rattle.rq_wal.specs.Reading.{text_limit, is_small}
use Rattle.rq_wal.specs.Rules.{IsAllowed, AreAllowed}
use Rattle.rq_wal.specs.Spelling.{payload_bytes}
use Rattle.rq_wal.specs.Stored.{applied, applied_all}
use Rattle.rq_statement.specs.declared.command.Command.{Command}
use Rattle.rq_statement.specs.declared.command.Command.TheVariants.{NoOp, Config, Execute, Request, StrongQuery, Load, Batch, Once}
use Rattle.rq_statement.specs.Bytes.{command_bytes}
use Rattle.rq_history.specs.History.{NodeId}
use Rattle.rq_raft.specs.Node.{RaftNode, RaftTurn, Persistent, StoredRecord, Vote, Splice, all_stored, same_vote}
use Rattle.rq_log.specs.Views.{is_moved}
use Rattle.rq_world.specs.declared.log_entry.LogEntry.{LogEntry}
use Rattle.rq_member.specs.Files.{body_of, stored_entry, stored_of, frame_of, IsReadable, IsEntryReadable, AreReadable}
use Rattle.rq_member.specs.Keeping.{IsSpliced, IsKeeping, StoresItsLog}

both : (a b : Bool) → (a && b) ≡ true → (a ≡ true) × (b ≡ true)
both true true is = (refl, refl)
both true false is = (refl, is)
both false b is = (is, elim b as (λ v. v ≡ true) [ true ↦ refl | false ↦ is ])

eight : (n : ℕ) → length (u64_bytes n) ≡ 8
unfolding u64_bytes
eight n = refl

four : (n : ℕ) → length (u32_bytes n) ≡ 4
unfolding u32_bytes
four n = refl

-- ---- votes

letter_is_byte : (byte : ℕ) → is_lower byte ≡ true → byte < 256
letter_is_byte byte is = grind (arith, nat_tests)

name_is_byte : (byte : ℕ) → is_lower_or_digit byte ≡ true → byte < 256
name_is_byte byte is = grind (arith, nat_tests)

names_are_bytes : (bytes : List ℕ) → list_all is_lower_or_digit bytes ≡ true → AreBytes bytes
names_are_bytes [] is = tt
names_are_bytes (byte ∷ bytes) is =
    let parts = both (is_lower_or_digit byte) (list_all is_lower_or_digit bytes) is in
    (name_is_byte byte parts.0, names_are_bytes bytes parts.1)

below_16 : (n : ℕ) → nat_lt n 16 ≡ true → n < 16
below_16 n is = grind (arith, nat_tests)

record IsShortName (id : List ℕ) : Type 0 where
  bytes : AreBytes id
  short : length id ≤ 16

short_name : (id : List ℕ) → is_id id ≡ true → IsShortName id
unfolding is_id
short_name [] is = absurd (cc)
short_name (first ∷ rest) is =
    let parts = both (is_lower first && nat_lt (length rest) 16) (list_all is_lower_or_digit rest) is in
    let start = both (is_lower first) (nat_lt (length rest) 16) parts.0 in
    let fits : length rest < 16 = below_16 (length rest) start.1 in
    record { bytes = (letter_is_byte first start.0, names_are_bytes rest parts.1); short = omega arith }

pub vote_allowed : (stored : Stored) (term : ℕ) (vote : Option (List ℕ)) → term < 2 ^ 64 → IsNoneOr (λ id. is_id id ≡ true) vote
    → IsAllowed stored (frame.Vote term vote) × (length (payload_bytes (frame.Vote term vote)) < 2 ^ 32)
vote_allowed stored term None fits named = ((fits, tt), omega (arith, length-append (u64_bytes term) (0 ∷ []), eight term))
vote_allowed stored term (Some id) fits named =
    let name = short_name id named in (
      (fits, ((omega (arith, name.short), omega (arith, name.short), name.bytes), named)),
      omega (arith, length-append (u64_bytes term) (1 ∷ sized id), length-append (u32_bytes (length id)) id, eight term, four (length id), name.short),
    )

-- ---- entries

data_short : (term : ℕ) (bytes : List ℕ) → length bytes ≤ 8388608 → length (u64_bytes term ++ (2 ∷ sized bytes)) ≤ 8388621
data_short term bytes short = omega (arith, length-append (u64_bytes term) (2 ∷ sized bytes), length-append (u32_bytes (length bytes)) bytes, eight term, four (length bytes), short)

entry_short : (term : ℕ) (command : Command) → IsReadable command → length (u64_bytes term ++ body_bytes (body_of command)) ≤ 8388621
entry_short term NoOp is = omega (arith, length-append (u64_bytes term) (0 ∷ []), eight term)
entry_short term (Config ids) is = data_short term (command_bytes (Config ids)) is.1
entry_short term (Execute list) is = data_short term (command_bytes (Execute list)) is.1
entry_short term (Request list) is = data_short term (command_bytes (Request list)) is.1
entry_short term (StrongQuery items) is = data_short term (command_bytes (StrongQuery items)) is.1
entry_short term (Load items) is = data_short term (command_bytes (Load items)) is.1
entry_short term (Batch lists) is = data_short term (command_bytes (Batch lists)) is.1
entry_short term (Once id boot number list) is = data_short term (command_bytes (Once id boot number list)) is.1

entries_short : (entries : List LogEntry) → AreReadable entries → length (flat_map entry_bytes (map stored_entry entries)) ≤ 8388621 * length entries
entries_short [] all = omega arith
entries_short (e ∷ entries) all =
    let here = entry_short e.term e.command (all 0 e (omega arith)) in
    let rest = entries_short entries (λ k d less. all (suc k) d (omega arith)) in
    omega (arith, length-append (entry_bytes (stored_entry e)) (flat_map entry_bytes (map stored_entry entries)), here, rest)

next_test : (base from count : ℕ) → base ≡ 0 → 0 < from → from ≤ count + 1 → (nat_lt base from && nat_le from (base + count + 1)) ≡ true
next_test base from count zero_ some next = grind (arith, nat_tests)

some_test : (count : ℕ) → 0 < count → nat_lt 0 count ≡ true
some_test count some = grind (arith, nat_tests)

pub splice_allowed : (stored : Stored) (from : ℕ) (log : List LogEntry) (entries : List Entry) → entries ≡ map stored_entry log → (AreReadable log → AreProper (IsEntry text_limit) entries) → from < 2 ^ 64 → length log < 512
    → stored.base.index ≡ 0 → 0 < from → from ≤ length stored.entries + 1 → 0 < length log → AreReadable log
    → IsAllowed stored (frame.Splice from entries) × (length (payload_bytes (frame.Splice from entries)) < 2 ^ 32)
splice_allowed stored from log entries is sound fits few base first next some readable =
    let size : length entries ≡ length log = ap length is ∙ length-map log stored_entry in
    let short : length (flat_map entry_bytes entries) ≤ 8388621 * length log = subst (λ (l : List Entry). length (flat_map entry_bytes l) ≤ 8388621 * length log) (sym is) (entries_short log readable) in (
      ((fits, next_test stored.base.index from (length stored.entries) base first next), ((omega (arith, size, few), some_test (length entries) (omega (arith, size, some))), sound readable)),
      omega (
        arith,
        length-append (u64_bytes from) (list_bytes entry_bytes entries),
        length-append (u32_bytes (length entries)) (flat_map entry_bytes entries),
        eight from,
        four (length entries),
        short,
        few,
      ),
    )

-- ---- each of a list

pub proper_more : {A : Type 0} (P : A → Type 0) (xs : List A) (x : A) → AreProper P xs → P x → AreProper P (xs ++ x ∷ [])
proper_more P [] x all here = (here, tt)
proper_more P (y ∷ xs) x all here = (all.0, proper_more P xs x all.1 here)

-- ---- all frames of a turn

-- the frame of a vote, if it changed
abbrev pub votes : Bool → ℕ → Option NodeId → List Frame
votes moved term vote = cond moved (frame.Vote term vote ∷ []) []

pub frames_are : (n m : RaftNode LogEntry) (changed : Bool) (stored : List (StoredRecord LogEntry)) (t : RaftTurn LogEntry) → t.node ≡ m → t.stored ≡ stored → changed ≡ is_moved n m → votes changed m.term m.vote ++ map frame_of stored ≡ map frame_of (all_stored n t)
frames_are n m changed stored t node is changes = by ((n.term == m.term) && same_vote n.vote m.vote) refl ∙ sym here
  where
    here : map frame_of (all_stored n t) ≡ map frame_of (cond ((n.term == m.term) && same_vote n.vote m.vote) stored (Vote m.term m.vote ∷ stored))
    here = λ i. map frame_of (cond ((n.term == (node i).term) && same_vote n.vote (node i).vote) (is i) (Vote (node i).term (node i).vote ∷ is i))

    one : (b : Bool) → votes (not b) m.term m.vote ++ map frame_of stored ≡ map frame_of (cond b stored (Vote m.term m.vote ∷ stored))
    one true = refl
    one false = refl

    by : (b : Bool) → ((n.term == m.term) && same_vote n.vote m.vote) ≡ b → votes changed m.term m.vote ++ map frame_of stored ≡ map frame_of (cond ((n.term == m.term) && same_vote n.vote m.vote) stored (Vote m.term m.vote ∷ stored))
    by b same = ap (λ (v : Bool). votes v m.term m.vote ++ map frame_of stored) changes ∙ one ((n.term == m.term) && same_vote n.vote m.vote)

-- one frame more behind such that leave the entries
pub allowed_behind : (stored : Stored) (changed : Bool) (term : ℕ) (vote : Option NodeId) (f : Frame) → AreAllowed stored (votes changed term vote)
    → ((s : Stored) → s.base ≡ stored.base → s.entries ≡ stored.entries → IsAllowed s f × (length (payload_bytes f) < 2 ^ 32)) → AreAllowed stored (votes changed term vote ++ f ∷ [])
allowed_behind stored true term vote f all one = (all.0, (one (record stored { term = term; vote = vote }) refl refl, tt))
allowed_behind stored false term vote f all one = (one stored refl refl, tt)

splice_from : (from : ℕ) (entries : List LogEntry) (from' : ℕ) (entries' : List LogEntry) → Splice from entries ∷ [] ≡ Splice from' entries' ∷ [] → (from' ≡ from) × (entries' ≡ entries)
splice_from from entries from' entries' is = (cc, cc)

-- where the turn stores one splice, the log is spliced so
pub spliced_at : (n : RaftNode LogEntry) (t : RaftTurn LogEntry) (from : ℕ) (entries : List LogEntry) → t.stored ≡ Splice from entries ∷ [] → IsKeeping n t → IsSpliced n.log t.node.log from entries
spliced_at n t from entries is keeps = by keeps.stores
  where
    by : StoresItsLog n t → IsSpliced n.log t.node.log from entries
    by (inl none) = let no : [] ≡ Splice from entries ∷ [] = sym none.0 ∙ is in absurd (cc)
    by (inr some) =
        let same = splice_from from entries some.0 some.1 (sym is ∙ some.2) in
        subst (λ (e : List LogEntry). IsSpliced n.log t.node.log from e) same.1 (subst (λ (f : ℕ). IsSpliced n.log t.node.log f some.1) same.0 some.3)

below_63 : (n : ℕ) → n < 2 ^ 63 → is_small n ≡ true
below_63 n less = grind (arith, nat_tests)

pub boot_allowed : (stored : Stored) (boot : ℕ) → boot ≤ 2 ^ 62 → AreAllowed stored (frame.Boot boot ∷ [])
boot_allowed stored boot small = ((((omega (arith, small)), below_63 boot (omega (arith, small))), omega (arith, eight boot)), tt)

pub all_bytes : (bytes : List ℕ) → ((i : ℕ) → Fits w8 (get_or bytes i 0)) → AreBytes bytes
all_bytes [] fits = tt
all_bytes (byte ∷ bytes) fits = ((fits 0).fits, all_bytes bytes (λ i. fits (suc i)))
