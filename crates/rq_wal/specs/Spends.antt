-- What a run of changing calls does to the counts and the arm of a pair.
use Rattle.std.specs.Prelude.{◌≡◌, ◌⊎◌, ◌≤◌, ◌<◌, ℕ, Bool, true, false, Result, Err}
use Rattle.rq_outside.specs.declared.pair.Arm.{Arm}
use Rattle.rq_outside.specs.declared.pair.Arm.TheVariants.{Passes, Struck}
use Rattle.rq_outside.specs.declared.pair.DiskPair.{DiskPair}
use Rattle.rq_outside.specs.Counts.{Rose}
use Rattle.rq_outside.specs.Disk.{DiskMeaning}
use Rattle.rq_outside.specs.Pair.{UsedCalls}
use Rattle.rq_wal.specs.declared.error.OpenError.{OpenError}
use Rattle.rq_wal.specs.declared.error.OpenError.TheVariants as errors

-- the arm behind so many calls, or where one of them failed: then some of them passed, or the arm had let too few of them pass and is struck
abbrev pub ArmAfter : ℕ → Bool → Arm → Arm → Type 0
ArmAfter most false old new = UsedCalls most old new
ArmAfter most true old new = (count : ℕ) × (((count ≤ most) × UsedCalls count old new) ⊎ ((count < most) × UsedCalls count old (Passes 0) × (new ≡ Struck)))

-- a disk failed
abbrev pub disk_failed : {T : Type 0} → Result T OpenError → Bool
disk_failed (Err errors.Disk) = true
disk_failed other = false

module _ {D F : Type 0} (means : D → DiskMeaning) where
  -- the count of one of the two disks rose
  abbrev pub DeviceRose : DiskPair D F → DiskPair D F → Type 0
  DeviceRose old new = Rose (means old.one).faults (means new.one).faults ⊎ Rose (means old.two).faults (means new.two).faults

  -- where a call failed, the count of a disk rose, or that of the pair, which is struck then; else the pair's stands still
  abbrev pub Cause : Bool → DiskPair D F → DiskPair D F → Type 0
  Cause false old new = new.faults ≡ old.faults
  Cause true old new = DeviceRose old new ⊎ (Rose old.faults new.faults × (new.arm ≡ Struck))

  -- a run of so many changing calls, of which one failed or none; no count falls in it
  pub record Spends (most : ℕ) (failed : Bool) (old new : DiskPair D F) : Type 0 where
    pub one : (means old.one).faults ≤ (means new.one).faults
    pub two : (means old.two).faults ≤ (means new.two).faults
    pub own : old.faults ≤ new.faults
    pub arm : ArmAfter most failed old.arm new.arm
    pub cause : Cause failed old new

  -- a run of at most so many
  pub record SpendsMost (most : ℕ) (failed : Bool) (old new : DiskPair D F) : Type 0 where
    pub count : ℕ
    pub few : count ≤ most
    pub spends : Spends count failed old new
