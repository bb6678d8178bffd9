-- Two disks as one, and the calls that an armed pair still passes.
use Rattle.std.specs.Prelude.{ℕ, zero, suc, Option, Some, None, ◌-◌, ◌≡◌, ◌≤◌, ◌⊎◌, Result, IsErr, OnErr}
use Rattle.rq_outside.specs.declared.pair.FileNo.{FileNo}
use Rattle.rq_outside.specs.declared.pair.FileNo.TheVariants.{One, Two}
use Rattle.rq_outside.specs.declared.pair.Arm.{Arm}
use Rattle.rq_outside.specs.declared.pair.Arm.TheVariants.{Off, Passes, Struck}
use Rattle.rq_outside.specs.declared.pair.DiskPair.{DiskPair}
use Rattle.rq_outside.specs.declared.pair.Turn.{Turn}
use Rattle.rq_outside.specs.declared.pair.Turn.TheVariants as turns
use Rattle.rq_outside.specs.Counts.{Rose}
use Rattle.rq_outside.specs.Disk.{DiskMeaning}

-- the file that isn't this one
abbrev pub other : FileNo → FileNo
other One = Two
other Two = One

-- the disk of a file
abbrev pub disk_at : {D F : Type 0} → DiskPair D F → FileNo → D
disk_at pair One = pair.one
disk_at pair Two = pair.two

-- the first of two that there is
abbrev pub first_of : {F : Type 0} → Option F → Option F → Option F
first_of (Some fault) other = Some fault
first_of None other = other

-- what it still passes, where it is armed
abbrev pub arm_of : {D F : Type 0} → DiskPair D F → Arm
arm_of pair = pair.arm

-- how often the pair itself stopped a call, beside the faults of its two disks
abbrev pub own_faults : {D F : Type 0} → DiskPair D F → ℕ
own_faults pair = pair.faults

-- how an armed pair goes on at a changing call
abbrev pub Passed : {D F T E : Type 0} → Arm → DiskPair D F → DiskPair D F → Result T E → Type 0
Passed Off old new result = (new.arm ≡ Off) × (new.faults ≡ old.faults)
-- it is stopped
Passed (Passes zero) old new result = (new.arm ≡ Struck) × Rose old.faults new.faults × IsErr result
Passed (Passes (suc n)) old new result = (new.arm ≡ Passes n) × (new.faults ≡ old.faults)
-- it was stopped before
Passed Struck old new result = (new.arm ≡ Struck) × Rose old.faults new.faults × IsErr result × (new.one ≡ old.one) × (new.two ≡ old.two)

-- and at a call that changes nothing
abbrev pub Looked : {D F T E : Type 0} → Arm → DiskPair D F → DiskPair D F → Result T E → Type 0
Looked Off old new result = (new.arm ≡ Off) × (new.faults ≡ old.faults)
Looked (Passes n) old new result = (new.arm ≡ Passes n) × (new.faults ≡ old.faults)
Looked Struck old new result = (new.arm ≡ Struck) × Rose old.faults new.faults × IsErr result × (new.one ≡ old.one) × (new.two ≡ old.two)

module _ {D F : Type 0} (means : D → DiskMeaning) where
  -- one of the three counts rose
  abbrev pub PairRose : DiskPair D F → DiskPair D F → Type 0
  PairRose old new = Rose (means old.one).faults (means new.one).faults ⊎ Rose (means old.two).faults (means new.two).faults ⊎ Rose old.faults new.faults

  -- no count falls, and a failure is told only where one of the three rose
  pub record PairCause {T E : Type 0} (old new : DiskPair D F) (result : Result T E) : Type 0 where
    pub one : (means old.one).faults ≤ (means new.one).faults
    pub two : (means old.two).faults ≤ (means new.two).faults
    pub own : old.faults ≤ new.faults
    pub failed : OnErr result (PairRose old new)
    -- by a device, or by the stop of an armed pair
    pub by : OnErr result (Rose (means old.one).faults (means new.one).faults ⊎ Rose (means old.two).faults (means new.two).faults ⊎ (new.arm ≡ Struck))

-- how a changing call begins
abbrev pub Began : {D F : Type 0} → Arm → DiskPair D F → DiskPair D F → Turn → Type 0
Began Off old new turn = (turn ≡ turns.Passed) × (new.arm ≡ Off) × (new.faults ≡ old.faults)
Began (Passes zero) old new turn = (turn ≡ turns.Stopped) × (new.arm ≡ Struck) × Rose old.faults new.faults
Began (Passes (suc n)) old new turn = (turn ≡ turns.Passed) × (new.arm ≡ Passes n) × (new.faults ≡ old.faults)
Began Struck old new turn = (turn ≡ turns.Down) × (new.arm ≡ Struck) × Rose old.faults new.faults

-- so many changing calls passed
abbrev pub UsedCalls : ℕ → Arm → Arm → Type 0
UsedCalls k Off new = new ≡ Off
UsedCalls k (Passes n) new = (k ≤ n) × (new ≡ Passes (n - k))
UsedCalls k Struck new = (k ≡ 0) × (new ≡ Struck)
