-- How what is said of two runs of calls adds up.
use Rattle.std.proofs.Common.{◌≡◌, ◌≢◌, ◌⊎◌, inl, inr, ◌≤◌, ◌<◌, ◌+◌, ◌-◌, ℕ, zero, suc, Bool, true, false, Result, Ok, Err, IfErr, refl, sym, ◌∙◌, ap, subst, rules, arith}
use Rattle.rq_outside.specs.declared.pair.DiskPair.{DiskPair}
use Rattle.rq_outside.specs.declared.pair.FileNo.{FileNo}
use Rattle.rq_outside.specs.declared.pair.FileNo.TheVariants.{One, Two}
use Rattle.rq_outside.specs.declared.pair.Arm.{Arm}
use Rattle.rq_outside.specs.declared.pair.Arm.TheVariants.{Off, Passes, Struck}
use Rattle.rq_outside.specs.Counts.{Rose}
use Rattle.rq_outside.specs.Disk.{DiskMeaning}
use Rattle.rq_outside.specs.Pair.{Passed, Looked, PairCause, PairRose, UsedCalls, other, disk_at}
use Rattle.rq_wal.specs.declared.error.OpenError.{OpenError}
use Rattle.rq_wal.specs.declared.error.OpenError.TheVariants as errors
use Rattle.rq_wal.specs.Spends.{ArmAfter, Cause, Spends, SpendsMost, disk_failed}

rose_later : (a b c : ℕ) → a ≤ b → Rose b c → Rose a c
rose_later a b c le rose = omega (arith, rose)

-- ---- the arm

used_none : (a : Arm) → UsedCalls 0 a a
used_none Off = refl
used_none (Passes n) = (omega arith, ap Passes (omega arith))
used_none Struck = (refl, refl)

used_then : (j k : ℕ) (a b c : Arm) → UsedCalls j a b → UsedCalls k b c → UsedCalls (j + k) a c
used_then j k Off b c first second = subst (λ (m : Arm). UsedCalls k m c) first second
used_then j k (Passes n) b c first second =
    let rest = subst (λ (m : Arm). UsedCalls k m c) first.1 second in
    (omega (arith, first.0, rest.0), rest.1 ∙ ap Passes (omega (arith, first.0, rest.0)))
used_then j k Struck b c first second =
    let rest = subst (λ (m : Arm). UsedCalls k m c) first.1 second in
    (omega (arith, first.0, rest.0), rest.1)

arm_then : (j k : ℕ) (failed : Bool) (a b c : Arm) → UsedCalls j a b → ArmAfter k failed b c → ArmAfter (j + k) failed a c
arm_then j k false a b c first second = used_then j k a b c first second
arm_then j k true a b c first (n, inl some) = (j + n, inl (omega (arith, some.0), used_then j n a b c first some.1))
arm_then j k true a b c first (n, inr struck) = (j + n, inr (omega (arith, struck.0), used_then j n a b (Passes 0) first struck.1, struck.2))

arm_more : (j k : ℕ) (a b : Arm) → j ≤ k → ArmAfter j true a b → ArmAfter k true a b
arm_more j k a b le (n, inl some) = (n, inl (omega (arith, le, some.0), some.1))
arm_more j k a b le (n, inr struck) = (n, inr (omega (arith, le, struck.0), struck.1, struck.2))

-- an arm that is struck let too few calls pass
pub struck_short : (most n : ℕ) (new : Arm) → ArmAfter most true (Passes n) new → new ≡ Struck → n < most
struck_short most n new (k, inl some) struck = let e : Passes (n - k) ≡ Struck = sym some.1.1 ∙ struck in absurd (cc)
struck_short most n new (k, inr short) struck = let e : Passes 0 ≡ Passes (n - k) = short.1.1 in let left : 0 ≡ n - k = cc in omega (arith, left, short.0)

-- ---- counts and arm

module _ {D F : Type 0} (means : D → DiskMeaning) where
  cause_then : (failed : Bool) (a b c : DiskPair D F) → (means a.one).faults ≤ (means b.one).faults → (means a.two).faults ≤ (means b.two).faults → b.faults ≡ a.faults → Cause means failed b c → Cause means failed a c
  cause_then false a b c one two own cause = cause ∙ own
  cause_then true a b c one two own (inl (inl rose)) = inl (inl (rose_later (means a.one).faults (means b.one).faults (means c.one).faults one rose))
  cause_then true a b c one two own (inl (inr rose)) = inl (inr (rose_later (means a.two).faults (means b.two).faults (means c.two).faults two rose))
  cause_then true a b c one two own (inr struck) = inr (rose_later a.faults b.faults c.faults (omega (arith, own)) struck.0, struck.1)

  -- calls that were all made, and others behind them
  pub spends_then : (j k : ℕ) (failed : Bool) (a b c : DiskPair D F) → Spends means j false a b → Spends means k failed b c → Spends means (j + k) failed a c
  spends_then j k failed a b c first second = record {
    one = omega (arith, first.one, second.one);
    two = omega (arith, first.two, second.two);
    own = omega (arith, first.own, second.own);
    arm = arm_then j k failed a.arm b.arm c.arm first.arm second.arm;
    cause = cause_then failed a b c first.one first.two first.cause second.cause;
  }

  -- calls of which one failed, where others were to follow
  pub broken_off : (j k : ℕ) (failed : Bool) (a b : DiskPair D F) → failed ≡ true → Spends means j true a b → j ≤ k → Spends means k failed a b
  broken_off j k false a b so first le = absurd (cc)
  broken_off j k true a b so first le = record { one = first.one; two = first.two; own = first.own; arm = arm_more j k a.arm b.arm le first.arm; cause = first.cause }

  pub then_broken : (j k most : ℕ) (failed : Bool) (a b c : DiskPair D F) → failed ≡ true → Spends means j false a b → Spends means k true b c → j + k ≤ most → Spends means most failed a c
  then_broken j k most failed a b c so first second le = broken_off (j + k) most failed a c so (spends_then j k true a b c first second) le

  pub spends_none : (pair : DiskPair D F) → Spends means 0 false pair pair
  spends_none pair = record { one = omega arith; two = omega arith; own = omega arith; arm = used_none pair.arm; cause = refl }

  pub within : (j k : ℕ) (failed : Bool) (a b : DiskPair D F) → Spends means j failed a b → j ≤ k → SpendsMost means k failed a b
  within j k failed a b first le = record { count = j; few = le; spends = first }

  pub within_more : (j k : ℕ) (failed : Bool) (a b : DiskPair D F) → SpendsMost means j failed a b → j ≤ k → SpendsMost means k failed a b
  within_more j k failed a b first le = record { count = first.count; few = omega (arith, le, first.few); spends = first.spends }

  pub within_then : (j k : ℕ) (failed : Bool) (a b c : DiskPair D F) → SpendsMost means j false a b → SpendsMost means k failed b c → SpendsMost means (j + k) failed a c
  within_then j k failed a b c first second = record { count = first.count + second.count; few = omega (arith, first.few, second.few); spends = spends_then first.count second.count failed a b c first.spends second.spends }

  -- ---- one call of a pair

  broke : (a b : DiskPair D F) → PairRose means a b → Rose (means a.one).faults (means b.one).faults ⊎ Rose (means a.two).faults (means b.two).faults ⊎ (b.arm ≡ Struck) → Cause means true a b
  broke a b (inl one) by = inl (inl one)
  broke a b (inr (inl two)) by = inl (inr two)
  broke a b (inr (inr own)) (inl one) = inl (inl one)
  broke a b (inr (inr own)) (inr (inl two)) = inl (inr two)
  broke a b (inr (inr own)) (inr (inr struck)) = inr (own, struck)

  passed_ok : {T : Type 0} (E : Type 0) (arm : Arm) (a b : DiskPair D F) (x : T) → Passed {E = E} arm a b (Ok x) → UsedCalls 1 arm b.arm × (b.faults ≡ a.faults)
  passed_ok E Off a b x passed = passed
  passed_ok E (Passes zero) a b x passed = absurd (search rules)
  passed_ok E (Passes (suc n)) a b x passed = ((omega arith, passed.0 ∙ ap Passes (omega arith)), passed.1)
  passed_ok E Struck a b x passed = absurd (search rules)

  passed_err : {E : Type 0} (T : Type 0) (arm : Arm) (a b : DiskPair D F) (e : E) → Passed {T = T} arm a b (Err e) → ArmAfter 1 true arm b.arm
  passed_err T Off a b e passed = (0, inl (omega arith, passed.0))
  passed_err T (Passes zero) a b e passed = (0, inr (omega arith, used_none (Passes 0), passed.0))
  passed_err T (Passes (suc n)) a b e passed = (1, inl (omega arith, (omega arith, passed.0 ∙ ap Passes (omega arith))))
  passed_err T Struck a b e passed = (0, inl (omega arith, (refl, passed.0)))

  -- a changing call
  pub passed_whole : {T E : Type 0} (a b : DiskPair D F) (x : T) → PairCause means {T = T} {E = E} a b (Ok x) → Passed {T = T} {E = E} a.arm a b (Ok x) → Spends means 1 false a b
  passed_whole {T} {E} a b x cause passed = let used = passed_ok E a.arm a b x passed in record { one = cause.one; two = cause.two; own = cause.own; arm = used.0; cause = used.1 }

  pub passed_broken : {T E : Type 0} (a b : DiskPair D F) (e : E) → PairCause means {T = T} {E = E} a b (Err e) → Passed {T = T} {E = E} a.arm a b (Err e) → Spends means 1 true a b
  passed_broken {T} {E} a b e cause passed = record { one = cause.one; two = cause.two; own = cause.own; arm = passed_err T a.arm a b e passed; cause = broke a b cause.failed cause.by }

  looked_ok : {T : Type 0} (E : Type 0) (arm : Arm) (a b : DiskPair D F) (x : T) → Looked {E = E} arm a b (Ok x) → UsedCalls 0 arm b.arm × (b.faults ≡ a.faults)
  looked_ok E Off a b x looked = looked
  looked_ok E (Passes n) a b x looked = ((omega arith, looked.0 ∙ ap Passes (omega arith)), looked.1)
  looked_ok E Struck a b x looked = absurd (search rules)

  looked_err : {E : Type 0} (T : Type 0) (arm : Arm) (a b : DiskPair D F) (e : E) → Looked {T = T} arm a b (Err e) → ArmAfter 0 true arm b.arm
  looked_err T Off a b e looked = (0, inl (omega arith, looked.0))
  looked_err T (Passes n) a b e looked = (0, inl (omega arith, (omega arith, looked.0 ∙ ap Passes (omega arith))))
  looked_err T Struck a b e looked = (0, inl (omega arith, (refl, looked.0)))

  -- a call that changes nothing
  pub looked_whole : {T E : Type 0} (a b : DiskPair D F) (x : T) → PairCause means {T = T} {E = E} a b (Ok x) → Looked {T = T} {E = E} a.arm a b (Ok x) → Spends means 0 false a b
  looked_whole {T} {E} a b x cause looked = let used = looked_ok E a.arm a b x looked in record { one = cause.one; two = cause.two; own = cause.own; arm = used.0; cause = used.1 }

  pub looked_broken : {T E : Type 0} (a b : DiskPair D F) (e : E) → PairCause means {T = T} {E = E} a b (Err e) → Looked {T = T} {E = E} a.arm a b (Err e) → Spends means 0 true a b
  looked_broken {T} {E} a b e cause looked = record { one = cause.one; two = cause.two; own = cause.own; arm = looked_err T a.arm a b e looked; cause = broke a b cause.failed cause.by }

  -- room alone
  pub room_spent : (a b : DiskPair D F) (file : FileNo) → disk_at b (other file) ≡ disk_at a (other file) → (means (disk_at b file)).faults ≡ (means (disk_at a file)).faults → b.arm ≡ a.arm → b.faults ≡ a.faults → Spends means 0 false a b
  room_spent a b One two one arm own = record { one = omega (arith, one); two = omega (arith, ap (λ d. (means d).faults) two); own = omega (arith, own); arm = subst (UsedCalls 0 a.arm) (sym arm) (used_none a.arm); cause = own }
  room_spent a b Two one two arm own = record { one = omega (arith, ap (λ d. (means d).faults) one); two = omega (arith, two); own = omega (arith, own); arm = subst (UsedCalls 0 a.arm) (sym arm) (used_none a.arm); cause = own }

-- no failure of a disk is answered
pub never_failed : {T : Type 0} (r : Result T OpenError) → IfErr r (λ e. e ≢ errors.Disk) → disk_failed r ≡ false
never_failed (Ok x) never = refl
never_failed (Err errors.Disk) never = absurd (never refl)
never_failed (Err (errors.NotAWal file place byte)) never = refl
never_failed (Err (errors.Version version)) never = refl
never_failed (Err errors.NoMemory) never = refl

-- for changing calls in a row
pub ruleset calls = (passed_whole, passed_broken, spends_then, then_broken, broken_off)

-- for an opening
pub ruleset opening = (passed_whole, passed_broken, looked_whole, looked_broken, room_spent, spends_none, spends_then, then_broken, broken_off, within, within_more, within_then)
