-- A pair whose file is written.
use Rattle.std.proofs.Common.{◌≡◌, inr, ◌+◌, ◌*◌, ℕ, Bool, true, false, IsTrue, List, length, map, Option, Some, None, Result, Ok, Err, refl, sym, ◌∙◌, ap, subst, arith}
use Rattle.std.proofs.lemmas.List.{length-map}
use Rattle.std.specs.Prelude.{is_some}
use Rattle.rq_outside.specs.declared.pair.DiskPair.{DiskPair}
use Rattle.rq_outside.specs.Disk.{DiskMeaning}
use Rattle.rq_outside.specs.Pair.{disk_at}
use Rattle.rq_wal.specs.Gate.{IsAtRest}
use Rattle.rq_wal.specs.WalFile.{wal_file, wal_end}
use Rattle.rq_wal.specs.declared.base.Stored.{Stored}
use Rattle.rq_wal.specs.declared.file.WalFile.{WalFile}
use Rattle.rq_wire.specs.declared.frame.Frame.{Frame}
use Rattle.rq_wal.specs.Current.{IsCurrent, IsSome, OnlyRoom, EachImage, EachImageGives, EachSinceGives, EachSinceGivesSome}
use Rattle.rq_wal.specs.Spelling.{piece_of}
use Rattle.rq_wal.specs.Spends.{Spends}
use Rattle.rq_wal.proofs.Spending.{spends_then}
use Rattle.rq_wal.specs.Reading.{pair_gives}
use Rattle.rq_wal.specs.Rules.{AreAllowed}
use Rattle.rq_wal.specs.Stored.{applied_all}
use Rattle.rq_node.specs.Files.{first_base, stored_of, frame_of}
use Rattle.rq_node.specs.Node.{Persistent, StoredRecord, persistent_after}
use Rattle.rq_node.specs.declared.turn_error.TurnError.{TurnError}
use Rattle.rq_node.specs.declared.turn_error.TurnError.TheVariants as failures
use Rattle.rq_node.specs.Recovery.{SpentStoring, Stands, HasFile, Moments}
use Rattle.rq_node.proofs.Persistent.{stored_after_kept, some_of}

-- what these frames spend, behind the room that was made for them
pub stored_spent : {D F : Type 0} (means : D → DiskMeaning) (failed : Bool) (a b c : DiskPair D F) (frames : List Frame) (batch : List (List ℕ)) → batch ≡ map piece_of frames
    → Spends means 0 false a b → Spends means (4 * length batch) failed b c → Spends means (4 * length frames) failed a c
stored_spent means failed a b c frames batch is room wrote =
    let same : length batch ≡ length frames = ap length is ∙ length-map frames piece_of in
    let all : 0 + 4 * length batch ≡ 4 * length frames = omega (arith, same) in
    subst (λ (n : ℕ). Spends means n failed a c) all (spends_then means 0 (4 * length batch) failed a b c room wrote)

-- the same of an answer of another type that hands the failure on
pub spent_on : {D F U : Type 0} {e f : TurnError} (means : D → DiskMeaning) (count other : ℕ) (a b : DiskPair D F) (q : Result U TurnError) → q ≡ Err f → f ≡ e → count ≡ other
    → (e ≡ failures.Disk → Spends means (4 * count) true a b) × (e ≡ failures.NoMemory → Spends means 0 false a b) → SpentStoring means {T = U} other a b q
spent_on {U = U} {f = f} means count other a b q is same counts spent =
    let fails : f ≡ failures.Disk → Spends means (4 * other) true a b = λ disk. subst (λ (n : ℕ). Spends means (4 * n) true a b) counts (spent.0 (sym same ∙ disk)) in
    let starves : f ≡ failures.NoMemory → Spends means 0 false a b = λ none. spent.1 (sym same ∙ none) in
    subst (λ (r : Result U TurnError). SpentStoring means {T = U} other a b r) (sym is) (fails, starves)

module _ {D F : Type 0} (told : Bool) (means : D → DiskMeaning) where
  -- what some of these frames stand for since then, by the file that was open
  pub some_since : (old mid new : DiskPair D F) (before after : WalFile) (id : List ℕ) (kept : Persistent) (items : List StoredRecord) (frames : List Frame) → after ≡ before → frames ≡ map frame_of items
      → AreAllowed (stored_of id kept) (map frame_of items) → HasFile told means old id kept (Some before) → (IsTrue told → OnlyRoom means old mid before)
      → (IsTrue told → (stored : Stored) → AreAllowed stored frames → IsCurrent means (first_base id) old after stored → OnlyRoom means old mid after → EachSinceGivesSome means (first_base id) old new stored frames)
      → Moments told means old new id kept items
  some_since old mid new before after id kept items frames file is allowed has room some = inr (λ tells one two i1 i2.
      let reading = pair_gives (first_base id) one two in
      let current = subst (λ (w : WalFile). IsCurrent means (first_base id) old w (stored_of id kept)) (sym file) (has tells) in
      let since = some tells (stored_of id kept) (subst (AreAllowed (stored_of id kept)) (sym is) allowed) current (subst (OnlyRoom means old mid) (sym file) (room tells)) in
      some_of id kept items reading (subst (λ (l : List Frame). IsSome (stored_of id kept) l reading) is (since one two i1 i2)))

  -- and where no frame was written
  pub none_since : (IsTrue told → (first : _) (old new : DiskPair D F) (wal : WalFile) (stored : Stored) → IsCurrent means first old wal stored → OnlyRoom means old new wal → EachSinceGives means first old new stored)
      → (old new : DiskPair D F) (before : WalFile) (id : List ℕ) (kept : Persistent) (items : List StoredRecord) → HasFile told means old id kept (Some before) → (IsTrue told → OnlyRoom means old new before) → Moments told means old new id kept items
  none_since law old new before id kept items has room = inr (λ tells one two i1 i2. (0, law tells (first_base id) old new before (stored_of id kept) (has tells) (room tells) one two i1 i2))

  pub file_some : (pair : DiskPair D F) (id : List ℕ) (kept : Persistent) (file : Option WalFile) → HasFile told means pair id kept file → is_some file ≡ true
  file_some pair id kept None has = absurd has
  file_some pair id kept (Some wal) has = refl

  pub file_at_rest : (pair : DiskPair D F) (id : List ℕ) (kept : Persistent) (file : Option WalFile) (wal : WalFile) → file ≡ Some wal → HasFile told means pair id kept file → IsTrue told
      → IsAtRest (means (disk_at pair (wal_file wal))) (wal_end wal)
  file_at_rest pair id kept file wal is has tells = (subst (HasFile told means pair id kept) is has tells).at_rest

  -- what the file has, where these frames were written behind what it had
  pub file_more : (old new : DiskPair D F) (before after : WalFile) (id : List ℕ) (kept : Persistent) (items : List StoredRecord) (frames : List Frame) → frames ≡ map frame_of items
      → AreAllowed (stored_of id kept) (map frame_of items) → HasFile told means old id kept (Some before)
      → (IsTrue told → AreAllowed (stored_of id kept) frames → IsCurrent means (first_base id) old before (stored_of id kept) → IsCurrent means (first_base id) new after (applied_all (stored_of id kept) frames))
      → HasFile told means new id (persistent_after kept items) (Some after)
  file_more old new before after id kept items frames is allowed has written = λ tells.
      subst (λ (s : Stored). IsCurrent means (first_base id) new after s)
      (ap (applied_all (stored_of id kept)) is ∙ stored_after_kept id kept items)
      (written tells (subst (AreAllowed (stored_of id kept)) (sym is) allowed) (has tells))

  -- what stands, where some of these frames do
  pub some_stand : (new : DiskPair D F) (id : List ℕ) (kept : Persistent) (items : List StoredRecord) (frames : List Frame) → frames ≡ map frame_of items
      → (IsTrue told → EachImage means (first_base id) new (IsSome (stored_of id kept) frames)) → Stands told means new id kept items
  some_stand new id kept items frames is some = λ tells one two i1 i2.
      let reading = pair_gives (first_base id) one two in
      some_of id kept items reading (subst (λ (l : List Frame). IsSome (stored_of id kept) l reading) is (some tells one two i1 i2))

  -- a pair whose file is open stands for what is kept
  pub file_stands : ((first : _) (pair : DiskPair D F) (wal : WalFile) (stored : Stored) → IsCurrent means first pair wal stored → EachImage means first pair (λ reading. reading ≡ Ok stored))
      → (pair : DiskPair D F) (id : List ℕ) (kept : Persistent) (file : Option WalFile) → HasFile told means pair id kept file → IsTrue told → EachImageGives means (first_base id) pair (stored_of id kept)
  file_stands law pair id kept None has tells = absurd has
  file_stands law pair id kept (Some wal) has tells = law (first_base id) pair wal (stored_of id kept) (has tells)
