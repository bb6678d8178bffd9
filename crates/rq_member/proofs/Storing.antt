-- What a pair stands for whose file is written, and what is kept then.
use Rattle.std.proofs.Common.{◌≡◌, inr, ◌+◌, ◌-◌, ◌*◌, ◌≤◌, ◌<◌, ℕ, Bool, true, false, IsTrue, List, [], ◌∷◌, ◌++◌, length, map, take, Option, Some, None, Result, Ok, Err, refl, sym, ◌∙◌, ap, subst, arith}
use Rattle.std.proofs.lemmas.List.{map-append, length-map, take-map}
use Rattle.std.specs.Prelude.{is_some, ◌==◌}
use Rattle.std.proofs.lemmas.Bool.Decides.{nat_tests}
use Rattle.rq_outside.specs.declared.pair.DiskPair.{DiskPair}
use Rattle.rq_outside.specs.Disk.{DiskMeaning}
use Rattle.rq_outside.specs.Pair.{disk_at}
use Rattle.rq_wal.specs.Gate.{IsAtRest}
use Rattle.rq_wal.specs.WalFile.{wal_file, wal_end}
use Rattle.rq_wal.specs.declared.base.Base.{Base}
use Rattle.rq_wal.specs.declared.base.Stored.{Stored}
use Rattle.rq_wal.specs.declared.error.OpenError.{OpenError}
use Rattle.rq_wal.specs.declared.file.WalFile.{WalFile}
use Rattle.rq_wire.specs.declared.frame.Frame.{Frame}
use Rattle.rq_wal.specs.Current.{IsCurrent, IsSome, OnlyRoom, EachImage, EachImageGives, EachSinceGives, EachSinceGivesSome}
use Rattle.rq_wal.specs.Reading.{pair_gives}
use Rattle.rq_wal.specs.Rules.{AreAllowed}
use Rattle.rq_wal.specs.Spelling.{piece_of}
use Rattle.rq_wal.specs.Spends.{Spends}
use Rattle.rq_wal.specs.Stored.{applied, applied_all}
use Rattle.rq_wal.proofs.Spending.{spends_then}
use Rattle.rq_wire.specs.declared.config.Member.{Member}
use Rattle.rq_raft.specs.Node.{Persistent, StoredRecord, Vote, Splice, Boot, Replace, persistent_with, persistent_after}
use Rattle.rq_world.specs.declared.log_entry.LogEntry.{LogEntry}
use Rattle.rq_member.specs.Files.{stored_entry, frame_of, first_base, stored_of, IsSomeOf, Stands, Moments, HasFile}

spliced : (from : ℕ) (log entries : List LogEntry) → take (from - 0 - 1) (map stored_entry log) ++ map stored_entry entries ≡ map stored_entry (take (from - 1) log ++ entries)
spliced from log entries =
    let e : from - 0 - 1 ≡ from - 1 = omega arith in
    ap (λ (n : ℕ). take n (map stored_entry log) ++ map stored_entry entries) e
    ∙ ap (λ l. l ++ map stored_entry entries) (take-map stored_entry (from - 1) log)
    ∙ sym (map-append stored_entry (take (from - 1) log) entries)

module _ (first : List Member) where
  -- one frame more is one record more
  stored_with : (kept : Persistent LogEntry) (r : StoredRecord LogEntry) → applied (stored_of first kept) (frame_of r) ≡ stored_of first (persistent_with kept r)
  stored_with kept (Vote term vote) = refl
  stored_with kept (Splice from entries) = λ i. record (stored_of first kept) { entries = spliced from kept.log entries i }
  stored_with kept (Boot boot) = refl
  stored_with kept (Replace base log) = refl

  -- and so are several
  pub stored_after : (kept : Persistent LogEntry) (records : List (StoredRecord LogEntry)) → applied_all (stored_of first kept) (map frame_of records) ≡ stored_of first (persistent_after kept records)
  stored_after kept [] = refl
  stored_after kept (r ∷ records) = ap (λ (s : Stored). applied_all s (map frame_of records)) (stored_with kept r) ∙ stored_after (persistent_with kept r) records

  some_of : (kept : Persistent LogEntry) (records : List (StoredRecord LogEntry)) (reading : Result Stored OpenError) → IsSome (stored_of first kept) (map frame_of records) reading → IsSomeOf first kept records reading
  some_of kept records reading some = (
    some.0,
    omega (arith, some.1, length-map records frame_of),
    some.2
        ∙ ap (λ (frames : List Frame). Ok (applied_all (stored_of first kept) frames)) (take-map frame_of some.0 records)
        ∙ ap (λ (s : Stored). Ok s) (stored_after kept (take some.0 records)),
  )

pub none_is : (count : ℕ) (test : Bool) → test ≡ (count == 0) → test ≡ true → count ≡ 0
none_is count test is holds = grind (arith, nat_tests)

pub some_is : (count : ℕ) (test : Bool) → test ≡ (count == 0) → test ≡ false → 0 < count
some_is count test is fails = grind (arith, nat_tests)

-- no frame is no record
pub no_records : (records : List (StoredRecord LogEntry)) (frames : List Frame) → frames ≡ map frame_of records → length frames ≡ 0 → records ≡ []
no_records [] frames is none = refl
no_records (r ∷ records) frames is none = absurd (omega (arith, ap length is, none))

pub some_records : (records : List (StoredRecord LogEntry)) (frames : List Frame) → frames ≡ map frame_of records → 0 < length frames → 0 < length records
some_records records frames is some = omega (arith, ap length is, length-map records frame_of, some)

-- what these frames spend, behind the room that was made for them
pub stored_spent : {D F : Type 0} (means : D → DiskMeaning) (failed : Bool) (a b c : DiskPair D F) (records : List (StoredRecord LogEntry)) (frames : List Frame) (batch : List (List ℕ)) → frames ≡ map frame_of records → batch ≡ map piece_of frames
    → Spends means 0 false a b → Spends means (4 * length batch) failed b c → Spends means (4 * length records) failed a c
stored_spent means failed a b c records frames batch is pieces room wrote =
    let same : length batch ≡ length records = ap length pieces ∙ length-map frames piece_of ∙ ap length is ∙ length-map records frame_of in
    let all : 0 + 4 * length batch ≡ 4 * length records = omega (arith, same) in
    subst (λ (n : ℕ). Spends means n failed a c) all (spends_then means 0 (4 * length batch) failed a b c room wrote)

module _ {D F : Type 0} (first : List Member) (told : Bool) (means : D → DiskMeaning) where
  -- what some of these frames stand for since then, by the file that was open
  pub some_since : (old mid new : DiskPair D F) (before after : WalFile) (kept : Persistent LogEntry) (records : List (StoredRecord LogEntry)) (frames : List Frame) → after ≡ before → frames ≡ map frame_of records
      → HasFile first told means old kept (Some before) → (IsTrue told → OnlyRoom means old mid before)
      → (IsTrue told → IsCurrent means (first_base first) old after (stored_of first kept) → OnlyRoom means old mid after → EachSinceGivesSome means (first_base first) old new (stored_of first kept) frames)
      → Moments first told means old new kept records
  some_since old mid new before after kept records frames file is has room some = λ tells one two i1 i2.
      let reading = pair_gives (first_base first) one two in
      let current = subst (λ (w : WalFile). IsCurrent means (first_base first) old w (stored_of first kept)) (sym file) (has tells) in
      let since = some tells current (subst (OnlyRoom means old mid) (sym file) (room tells)) in
      some_of first kept records reading (subst (λ (l : List Frame). IsSome (stored_of first kept) l reading) is (since one two i1 i2))

  -- and where no frame was written
  pub none_since : (IsTrue told → (base : Base) (old new : DiskPair D F) (wal : WalFile) (stored : Stored) → IsCurrent means base old wal stored → OnlyRoom means old new wal → EachSinceGives means base old new stored)
      → (old new : DiskPair D F) (before : WalFile) (kept : Persistent LogEntry) (records : List (StoredRecord LogEntry)) → HasFile first told means old kept (Some before) → (IsTrue told → OnlyRoom means old new before) → Moments first told means old new kept records
  none_since law old new before kept records has room = λ tells one two i1 i2. (0, omega arith, law tells (first_base first) old new before (stored_of first kept) (has tells) (room tells) one two i1 i2)

  pub file_some : (pair : DiskPair D F) (kept : Persistent LogEntry) (file : Option WalFile) → HasFile first told means pair kept file → is_some file ≡ true
  file_some pair kept None has = absurd has
  file_some pair kept (Some wal) has = refl

  pub file_at_rest : (pair : DiskPair D F) (kept : Persistent LogEntry) (file : Option WalFile) (wal : WalFile) → file ≡ Some wal → HasFile first told means pair kept file → IsTrue told
      → IsAtRest (means (disk_at pair (wal_file wal))) (wal_end wal)
  file_at_rest pair kept file wal is has tells = (subst (HasFile first told means pair kept) is has tells).at_rest

  -- the file, with these frames
  pub file_after : (pair : DiskPair D F) (wal : WalFile) (kept : Persistent LogEntry) (records : List (StoredRecord LogEntry)) (frames : List Frame) → frames ≡ map frame_of records
      → IsCurrent means (first_base first) pair wal (applied_all (stored_of first kept) frames) → IsCurrent means (first_base first) pair wal (stored_of first (persistent_after kept records))
  file_after pair wal kept records frames is current =
      subst (λ (s : Stored). IsCurrent means (first_base first) pair wal s) (ap (λ (l : List Frame). applied_all (stored_of first kept) l) is ∙ stored_after first kept records) current

  -- what a write that was broken off leaves
  pub some_stand : (new : DiskPair D F) (kept : Persistent LogEntry) (records : List (StoredRecord LogEntry)) (frames : List Frame) → frames ≡ map frame_of records
      → (IsTrue told → EachImage means (first_base first) new (IsSome (stored_of first kept) frames)) → Stands first told means new kept records
  some_stand new kept records frames is some = λ tells one two i1 i2.
      let reading = pair_gives (first_base first) one two in
      some_of first kept records reading (subst (λ (l : List Frame). IsSome (stored_of first kept) l reading) is (some tells one two i1 i2))

  -- a pair whose file is open stands for what is kept
  pub file_stands : ((base : Base) (pair : DiskPair D F) (wal : WalFile) (stored : Stored) → IsCurrent means base pair wal stored → EachImage means base pair (λ reading. reading ≡ Ok stored))
      → (pair : DiskPair D F) (kept : Persistent LogEntry) (file : Option WalFile) → HasFile first told means pair kept file → IsTrue told → EachImageGives means (first_base first) pair (stored_of first kept)
  file_stands law pair kept None has tells = absurd has
  file_stands law pair kept (Some wal) has tells = law (first_base first) pair wal (stored_of first kept) (has tells)
