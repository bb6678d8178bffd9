-- What each image since an earlier moment stands for, where between that moment and a write only room was made.
use Rattle.std.proofs.Common.{◌≡◌, inl, ℕ, zero, List, [], take, Result, Ok, refl, sym, ◌∙◌, subst, arith}
use Rattle.std.proofs.lemmas.List.{append-nil}
use Rattle.rq_outside.specs.declared.pair.DiskPair.{DiskPair}
use Rattle.rq_outside.specs.Disk.{DiskMeaning, Elapses, LeavesOnly, Stays}
use Rattle.rq_outside.specs.Pair.{other, disk_at}
use Rattle.rq_wal.specs.declared.base.Base.{Base}
use Rattle.rq_wal.specs.declared.base.Stored.{Stored}
use Rattle.rq_wal.specs.declared.error.OpenError.{OpenError}
use Rattle.rq_wal.specs.declared.file.WalFile.{WalFile}
use Rattle.rq_wire.specs.declared.frame.Frame.{Frame}
use Rattle.rq_wal.specs.Current.{IsCurrent, IsSome, OnlyRoom, EachSinceGives, EachSinceGivesSome}
use Rattle.rq_wal.specs.Gate.{EndsIn, HasSomeOf}
use Rattle.rq_wal.specs.Rules.{AreAllowed}
use Rattle.rq_wal.specs.Stored.{applied_all}
use Rattle.rq_wal.specs.WalFile.{wal_file, wal_end}
use Rattle.rq_wal.proofs.LogMore.{some_stand}
use Rattle.rq_wal.proofs.Moments.{OnlyNow, one_call, then}

stays_same : (disk : DiskMeaning) → Stays disk disk
stays_same disk = record { content = refl; no_more = λ c now. now; no_fewer = λ c now. now }

elapses_none : (disk : DiskMeaning) → Elapses disk disk
elapses_none disk = record { later = omega arith; nothing_else = λ t c le since. inl since; keeps = λ t c le since. since }

none_of : (stored : Stored) (reading : Result Stored OpenError) → IsSome stored [] reading → reading ≡ Ok stored
none_of stored reading some = let none : some.0 ≡ 0 = omega (arith, some.1) in subst (λ (k : ℕ). reading ≡ Ok (applied_all stored (take k []))) none some.2

module _ {D F : Type 0} (means : D → DiskMeaning) where
  pub room_none : (pair : DiskPair D F) (wal : WalFile) → OnlyRoom means pair pair wal
  room_none pair wal = record { other_file = refl; same = stays_same (means (disk_at pair (wal_file wal))); time = elapses_none (means (disk_at pair (wal_file wal))) }

  pub room_only : (old new : DiskPair D F) (wal : WalFile) → disk_at new (other (wal_file wal)) ≡ disk_at old (other (wal_file wal)) → Stays (means (disk_at old (wal_file wal))) (means (disk_at new (wal_file wal)))
      → Elapses (means (disk_at old (wal_file wal))) (means (disk_at new (wal_file wal))) → OnlyRoom means old new wal
  room_only old new wal is stays goes = record { other_file = is; same = stays; time = goes }

  module _ (now : (disk : D) → OnlyNow (means disk)) (first : Base) (began mid : DiskPair D F) (wal : WalFile) (stored : Stored) (frames : List Frame) (allowed : AreAllowed stored frames)
      (current : IsCurrent means first began wal stored) (room : OnlyRoom means began mid wal) where
    abbrev file : DiskPair D F → DiskMeaning
    file pair = means (disk_at pair (wal_file wal))

    abbrev P : List ℕ → Type 0
    P = HasSomeOf (take (wal_end wal) (file began).content) frames

    -- none of the frames yet
    before : (c : List ℕ) → (file began).images c → P c
    before c left =
        let done = take (wal_end wal) (file began).content in
        (zero, omega arith, subst (λ (l : List ℕ). EndsIn l c) (sym (append-nil done)) (subst (EndsIn done) (sym (current.at_rest.durable c left)) current.at_rest.ends))

    made : LeavesOnly (file began) (file mid) P
    made = one_call (file began) (file mid) P (now (disk_at began (wal_file wal))) room.time before (λ c left. before c (room.same.no_more c left))

    pub since_began : (new : DiskPair D F) → disk_at new (other (wal_file wal)) ≡ disk_at mid (other (wal_file wal)) → LeavesOnly (file mid) (file new) (HasSomeOf (take (wal_end wal) (file mid).content) frames)
        → EachSinceGivesSome means first began new stored frames
    since_began new same leaves =
        some_stand means first began new wal stored frames allowed current (same ∙ room.other_file)
        (then (file began) (file mid) (file new) P (HasSomeOf (take (wal_end wal) (file mid).content) frames) P made leaves (λ c some. some)
        (λ c some. subst (λ (l : List ℕ). HasSomeOf (take (wal_end wal) l) frames c) room.same.content some))
        (now (disk_at began (other (wal_file wal))))

    pub since_room : EachSinceGivesSome means first began mid stored frames
    since_room = some_stand means first began mid wal stored frames allowed current room.other_file made (now (disk_at began (other (wal_file wal))))

  -- all that was done is room
  pub stood : ((disk : D) → OnlyNow (means disk)) → (first : Base) (began mid : DiskPair D F) (wal : WalFile) (stored : Stored) → IsCurrent means first began wal stored → OnlyRoom means began mid wal → EachSinceGives means first began mid stored
  stood now first began mid wal stored current room one two i1 i2 = none_of stored _ (since_room now first began mid wal stored [] tt current room one two i1 i2)
