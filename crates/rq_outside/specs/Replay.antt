-- What a disk in memory holds, and what a crash may leave of it, after the calls that changed it.
use Rattle.std.specs.Prelude.{Bool, true, false, ◌&&◌, nat_le, ◌≡◌, ℕ, suc, ◌+◌, ◌-◌, ◌/◌, ◌≤◌, ◌==◌, if◌then◌else◌, List, [], ◌∷◌, ◌++◌, length, take, drop, replicate}
use Rattle.rq_outside.specs.declared.in_memory.journal.Call.{Call}
use Rattle.rq_outside.specs.declared.in_memory.journal.Call.TheVariants.{Write, Cut, Sync}
use Rattle.rq_outside.specs.Disk.{DiskMeaning, Torn, Cut as IsCut}

-- how many bytes the calls wrote
abbrev pub total_of : List Call → ℕ
total_of [] = 0
total_of (Write at n ∷ calls) = n + total_of calls
total_of (Cut to ∷ calls) = total_of calls
total_of (Sync ∷ calls) = total_of calls

-- the content after a write
abbrev pub overwritten : List ℕ → ℕ → List ℕ → List ℕ
overwritten content at piece = take at content ++ piece ++ drop (at + length piece) content

-- the content after the calls. What they wrote stands in `written`, one piece behind the other
abbrev pub content_after : List Call → List ℕ → List ℕ → List ℕ
content_after [] written content = content
content_after (Write at n ∷ calls) written content = content_after calls (drop n written) (overwritten content at (take n written))
content_after (Cut to ∷ calls) written content = content_after calls written (take to content)
content_after (Sync ∷ calls) written content = content_after calls written content

-- what a crash may leave after the calls: a sync leaves the content alone
abbrev pub images_after : List Call → List ℕ → List ℕ → (List ℕ → Type 0) → List ℕ → Type 0
images_after [] written content images = images
images_after (Write at n ∷ calls) written content images = images_after calls (drop n written) (overwritten content at (take n written)) (λ c. (d : List ℕ) × images d × Torn at n d c)
images_after (Cut to ∷ calls) written content images = images_after calls written (take to content) (λ c. (d : List ℕ) × images d × IsCut to d c)
images_after (Sync ∷ calls) written content images = images_after calls written content (λ c. c ≡ content)

-- each call was made within the content that it met
abbrev pub is_valid : List Call → List ℕ → List ℕ → Bool
is_valid [] written content = true
is_valid (Write at n ∷ calls) written content = nat_le at (length content) && is_valid calls (drop n written) (overwritten content at (take n written))
is_valid (Cut to ∷ calls) written content = is_valid calls written (take to content)
is_valid (Sync ∷ calls) written content = is_valid calls written content

-- what a crash may leave at first, and after the first k calls
abbrev pub left_after : List Call → List ℕ → List ℕ → List ℕ → Type 0
left_after calls written first = images_after calls written first (λ c. c ≡ first)

-- what a crash after so many calls or more might have left
abbrev pub left_since : List Call → List ℕ → List ℕ → ℕ → List ℕ → Type 0
left_since calls written first t c = (k : ℕ) × (t ≤ k) × (k ≤ length calls) × left_after (take k calls) written first c

-- what a disk means that had this content at first, and then these calls
abbrev pub meaning_of : List ℕ → List Call → List ℕ → List ℕ → ℕ → ℕ → ℕ → DiskMeaning
meaning_of content calls written first faults bytes count = record {
  content = content;
  images = left_after calls written first;
  moment = length calls;
  since = left_since calls written first;
  faults = faults;
  room_bytes = bytes;
  room_calls = count;
}

abbrev pub has_no_sync : List Call → Bool
has_no_sync [] = true
has_no_sync (Write at n ∷ calls) = has_no_sync calls
has_no_sync (Cut to ∷ calls) = has_no_sync calls
has_no_sync (Sync ∷ calls) = false

-- how many calls there are up to the last sync, that one included
abbrev pub synced_calls : List Call → ℕ
synced_calls [] = 0
synced_calls (call ∷ calls) = if has_no_sync calls then (if has_no_sync (call ∷ []) then 0 else 1) else suc (synced_calls calls)

-- at least so long, with 0 behind what was there
abbrev pub padded : ℕ → List ℕ → List ℕ
padded n content = content ++ replicate (n - length content) 0

-- A write that a crash has torn, by the pick: 0, it isn't made; 1, it is made; 2, each of its bytes is 1; 3, its first half is
-- made, and the second half has its old bytes, 0 where there were none.
abbrev pub torn_write : ℕ → List ℕ → ℕ → List ℕ → List ℕ
torn_write pick content at piece =
    if pick == 0 then content
    else (if pick == 1 then overwritten content at piece
    else (if pick == 2 then overwritten content at (replicate (length piece) 1)
    else padded (at + length piece) (overwritten content at (take (length piece / 2) piece))))

-- the content after calls that no sync followed, each torn by the pick
abbrev pub torn_after : ℕ → List Call → List ℕ → List ℕ → List ℕ
torn_after pick [] written content = content
torn_after pick (Write at n ∷ calls) written content = torn_after pick calls (drop n written) (torn_write pick content at (take n written))
torn_after pick (Cut to ∷ calls) written content = torn_after pick calls written (if pick == 0 then content else take to content)
torn_after pick (Sync ∷ calls) written content = torn_after pick calls written content

-- what a crash leaves by its pick: the bytes at the last sync, and then the calls after it, torn
abbrev pub picked : ℕ → List Call → List ℕ → List ℕ → List ℕ
picked pick calls written first =
    let k = synced_calls calls in
    torn_after pick (drop k calls) (drop (total_of (take k calls)) written) (content_after (take k calls) written first)

-- a call that no sync followed may lead from one image to the other
abbrev pub IsTornBy : Call → List ℕ → List ℕ → Type 0
IsTornBy (Write at n) old new = Torn at n old new
IsTornBy (Cut to) old new = IsCut to old new
IsTornBy Sync old new = ⊥
