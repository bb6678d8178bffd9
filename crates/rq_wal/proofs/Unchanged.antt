-- Calls that add no image.
use Rattle.std.proofs.Common.{ℕ, List}
use Rattle.rq_outside.specs.Disk.{DiskMeaning, Elapses, LeavesOnly}
use Rattle.rq_wal.proofs.Moments.{OnlyNow, one_call, then, started}

abbrev pub Fewer : DiskMeaning → DiskMeaning → Type 0
Fewer old new = (c : List ℕ) → new.images c → old.images c

pub at_once : (old : DiskMeaning) → OnlyNow old → LeavesOnly old old old.images
at_once old only = started old old.images only

pub unchanged : (old new : DiskMeaning) → OnlyNow old → Elapses old new → Fewer old new → LeavesOnly old new old.images
unchanged old new only time fewer = one_call old new old.images only time (λ c p. p) fewer

pub unchanged_again : (old mid new : DiskMeaning) → LeavesOnly old mid old.images → Fewer old mid → LeavesOnly mid new mid.images → LeavesOnly old new old.images
unchanged_again old mid new first fewer second = then old mid new old.images mid.images old.images first second (λ c p. p) fewer

pub unchanged_then : (old mid new : DiskMeaning) (P : List ℕ → Type 0) → LeavesOnly old mid old.images → LeavesOnly mid new P → ((c : List ℕ) → old.images c → P c) → LeavesOnly old new P
unchanged_then old mid new P first second same = then old mid new old.images P P first second same (λ c p. p)
