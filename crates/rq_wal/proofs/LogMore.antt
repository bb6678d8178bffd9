-- A log with more frames.
use Rattle.std.proofs.Common.{◌≡◌, ℕ, zero, suc, List, [], ◌∷◌, ◌++◌, take, refl, sym, ap, subst, ◌∙◌, append_assoc}
use Rattle.std.proofs.lemmas.Grind.{flat_map-append}
use Rattle.std.specs.List.{flat_map}
use Rattle.rq_outside.specs.declared.pair.DiskPair.{DiskPair}
use Rattle.rq_outside.specs.declared.pair.FileNo.{FileNo}
use Rattle.rq_outside.specs.declared.pair.FileNo.TheVariants.{One, Two}
use Rattle.rq_outside.specs.Disk.{DiskMeaning, LeavesOnly, Stays}
use Rattle.rq_outside.specs.Pair.{other, disk_at}
use Rattle.rq_wal.specs.declared.base.Base.{Base}
use Rattle.rq_wal.specs.declared.base.Stored.{Stored}
use Rattle.rq_wal.specs.declared.file.WalFile.{WalFile}
use Rattle.rq_wire.specs.declared.frame.Frame.{Frame}
use Rattle.rq_wal.specs.Current.{IsBehind, IsCurrent, EachSinceGivesSome, file_at}
use Rattle.rq_wal.specs.Gate.{IsAtRest, HasSomeOf}
use Rattle.rq_wal.specs.Log.{IsLog}
use Rattle.rq_wal.specs.Rules.{AreAllowed}
use Rattle.rq_wal.specs.Spelling.{body_bytes, prefix_bytes, gated}
use Rattle.rq_wal.specs.Stored.{started, applied, applied_all}
use Rattle.rq_wal.specs.WalFile.{wal_file, wal_end, wal_generation}
use Rattle.rq_wal.proofs.AtRest.{stays_at_rest}
use Rattle.rq_wal.proofs.Recovery.{pair_with}

applied_more : (stored : Stored) (frames more : List Frame) → applied_all stored (frames ++ more) ≡ applied_all (applied_all stored frames) more
applied_more stored [] more = refl
applied_more stored (frame ∷ frames) more = applied_more (applied stored frame) frames more

allowed_more : (stored : Stored) (frames more : List Frame) → AreAllowed stored frames → AreAllowed (applied_all stored frames) more → AreAllowed stored (frames ++ more)
allowed_more stored [] more first second = second
allowed_more stored (frame ∷ frames) more first second = (first.0, allowed_more (applied stored frame) frames more first.1 second)

allowed_take : (stored : Stored) (frames : List Frame) (k : ℕ) → AreAllowed stored frames → AreAllowed stored (take k frames)
allowed_take stored frames zero all = tt
allowed_take stored [] (suc k) all = tt
allowed_take stored (frame ∷ frames) (suc k) all = (all.0, allowed_take (applied stored frame) frames k all.1)

prefix_more : (generation : ℕ) (base : Base) (frames more : List Frame) → prefix_bytes generation base frames ++ flat_map gated more ≡ prefix_bytes generation base (frames ++ more)
prefix_more generation base frames more =
    ap (λ (l : List ℕ). 1 ∷ l)
    (append_assoc (body_bytes generation base) (flat_map gated frames) (flat_map gated more)
    ∙ ap (λ (l : List ℕ). body_bytes generation base ++ l) (sym (flat_map-append gated frames more)))

pub log_more : (first : Base) (generation : ℕ) (stored : Stored) (done : List ℕ) (more : List Frame) → IsLog first generation stored done → AreAllowed stored more → IsLog first generation (applied_all stored more) (done ++ flat_map gated more)
log_more first generation stored done more log allowed = record {
  frames = log.frames ++ more;
  allowed = allowed_more (started first) log.frames more log.allowed (subst (λ (s : Stored). AreAllowed s more) (sym log.folds) allowed);
  folds = applied_more (started first) log.frames more ∙ ap (λ (s : Stored). applied_all s more) log.folds;
  small = log.small;
  fits = log.fits;
  is = ap (λ (l : List ℕ). l ++ flat_map gated more) log.is ∙ prefix_more generation first log.frames more;
}

module _ {D F : Type 0} (means : D → DiskMeaning) (first : Base) (old new : DiskPair D F) (wal : WalFile) (stored : Stored) (frames : List Frame) (allowed : AreAllowed stored frames) (current : IsCurrent means first old wal stored)
    (same : disk_at new (other (wal_file wal)) ≡ disk_at old (other (wal_file wal))) where
  -- after all frames
  pub current_more : (after : WalFile) → wal_file after ≡ wal_file wal → wal_generation after ≡ wal_generation wal
      → take (wal_end after) (means (disk_at new (wal_file wal))).content ≡ take (wal_end wal) (means (disk_at old (wal_file wal))).content ++ flat_map gated frames
      → IsAtRest (means (disk_at new (wal_file after))) (wal_end after) → IsCurrent means first new after (applied_all stored frames)
  current_more after file generation written rest = record {
    log = subst (λ (g : ℕ). IsLog first g (applied_all stored frames) (take (wal_end after) (means (disk_at new (wal_file after))).content)) (sym generation)
        (subst (λ (l : List ℕ). IsLog first (wal_generation wal) (applied_all stored frames) l) (sym (ap (λ f. take (wal_end after) (means (disk_at new f)).content) file ∙ written))
        (log_more first (wal_generation wal) stored (take (wal_end wal) (means (disk_at old (wal_file wal))).content) frames current.log allowed));
    at_rest = rest;
    behind = subst (λ (f : FileNo). (c : List ℕ) → (means (disk_at new (other f))).images c → IsBehind f (wal_generation after) c) (sym file)
        (subst (λ (g : ℕ). (c : List ℕ) → (means (disk_at new (other (wal_file wal)))).images c → IsBehind (wal_file wal) g c) (sym generation)
        (subst (λ (d : D). (c : List ℕ) → (means d).images c → IsBehind (wal_file wal) (wal_generation wal) c) (sym same) current.behind));
  }

  since_at : (one two : List ℕ) → (means new.one).since (means old.one).moment one → (means new.two).since (means old.two).moment two → (no : FileNo) → (means (disk_at new no)).since (means (disk_at old no)).moment (file_at no one two)
  since_at one two i1 i2 One = i1
  since_at one two i1 i2 Two = i2

  -- at each moment
  pub some_stand : LeavesOnly (means (disk_at old (wal_file wal))) (means (disk_at new (wal_file wal))) (HasSomeOf (take (wal_end wal) (means (disk_at old (wal_file wal))).content) frames)
      → ((c : List ℕ) → (means (disk_at old (other (wal_file wal)))).since (means (disk_at old (other (wal_file wal)))).moment c → (means (disk_at old (other (wal_file wal)))).images c)
      → EachSinceGivesSome means first old new stored frames
  some_stand leaves now one two i1 i2 =
      let no = wal_file wal in
      let content = (means (disk_at old no)).content in
      let some = leaves.each (file_at no one two) (since_at one two i1 i2 no) in
      let k = some.0 in
      let image = now (file_at (other no) one two) (subst (λ (d : D). (means d).since (means (disk_at old (other no))).moment (file_at (other no) one two)) same (since_at one two i1 i2 (other no))) in (
        k,
        some.1,
        pair_with first (wal_generation wal) (applied_all stored (take k frames)) (take (wal_end wal) content ++ flat_map gated (take k frames)) (file_at no one two)
            (log_more first (wal_generation wal) stored (take (wal_end wal) content) (take k frames) current.log (allowed_take stored frames k allowed)) some.2 no one two refl (current.behind (file_at (other no) one two) image),
      )

  kept_files : (means (disk_at new (wal_file wal))).content ≡ (means (disk_at old (wal_file wal))).content → IsAtRest (means (disk_at new (wal_file wal))) (wal_end wal) → IsCurrent means first new wal stored
  kept_files is rest = record {
    log = subst (λ (l : List ℕ). IsLog first (wal_generation wal) stored (take (wal_end wal) l)) (sym is) current.log;
    at_rest = rest;
    behind = subst (λ (d : D). (c : List ℕ) → (means d).images c → IsBehind (wal_file wal) (wal_generation wal) c) (sym same) current.behind;
  }

-- room was made
pub current_kept : {D F : Type 0} (means : D → DiskMeaning) (first : Base) (old new : DiskPair D F) (before after : WalFile) (stored : Stored) → after ≡ before → disk_at new (other (wal_file before)) ≡ disk_at old (other (wal_file before))
    → Stays (means (disk_at old (wal_file before))) (means (disk_at new (wal_file before))) → IsCurrent means first old before stored → IsCurrent means first new after stored
current_kept means first old new before after stored is same stays current =
    subst (λ (w : WalFile). IsCurrent means first new w stored) (sym is)
    (kept_files means first old new before stored [] tt current same stays.content (stays_at_rest (means (disk_at old (wal_file before))) (means (disk_at new (wal_file before))) (wal_end before) stays current.at_rest))
