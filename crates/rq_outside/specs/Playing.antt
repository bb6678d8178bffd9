-- What reads after the calls is one of the images, and all calls are those that were made.
use Rattle.std.proofs.Common.{Bool, true, false, ◌&&◌, nat_le, leb-true, ◌≡◌, ◌≤◌, ℕ, zero, suc, ◌+◌, List, [], ◌∷◌, ◌++◌, length, take, drop, refl, sym, ◌∙◌, ap, subst, arith, append_assoc, length-append, length-take, length-drop}
use Rattle.std.proofs.lemmas.List.{length-take-le, take_at, drop_at, take_all}
use Rattle.rq_outside.specs.declared.in_memory.journal.Call.{Call}
use Rattle.rq_outside.specs.declared.in_memory.journal.Call.TheVariants.{Write, Cut, Sync}
use Rattle.rq_outside.specs.Disk.{Torn, Cut as IsCut}
use Rattle.rq_outside.specs.Replay.{total_of, overwritten, is_valid, content_after, images_after, left_after, left_since}

pub and_true : (a b : Bool) → (a && b) ≡ true → (a ≡ true) × (b ≡ true)
and_true true b h = (refl, h)
and_true false b h = absurd (cc)

pub take_length : (n : ℕ) (c : List ℕ) → take (length (take n c)) c ≡ take n c
take_length zero c = refl
take_length (suc n) [] = refl
take_length (suc n) (x ∷ c) = ap (λ (l : List ℕ). x ∷ l) (take_length n c)

-- what reads is one of the images
pub torn_by : (c : List ℕ) (at : ℕ) (piece : List ℕ) → at ≤ length c → Torn at (length piece) c (overwritten c at piece)
torn_by c at piece le =
    let size : length (take at c) ≡ at = length-take-le at c le in record {
      before = ap (λ (l : List ℕ). take at l) (append_assoc (take at c) piece (drop (at + length piece) c)) ∙ take_at (take at c) (piece ++ drop (at + length piece) c) at size;
      after = drop_at (take at c ++ piece) (drop (at + length piece) c) (at + length piece) (omega (arith, length-append (take at c) piece, size));
      no_shorter = omega (arith, length-append (take at c ++ piece) (drop (at + length piece) c), length-append (take at c) piece, size, length-drop (at + length piece) c);
      no_longer = omega (arith, length-append (take at c ++ piece) (drop (at + length piece) c), length-append (take at c) piece, size, length-drop (at + length piece) c);
    }

pub cut_by : (c : List ℕ) (to : ℕ) → IsCut to c (take to c)
cut_by c to = record { no_shorter = omega (arith, length-take to c); prefix = take_length to c }

pub reads_image : (calls : List Call) (w c : List ℕ) (I : List ℕ → Type 0) → total_of calls ≤ length w → is_valid calls w c ≡ true → I c → images_after calls w c I (content_after calls w c)
reads_image [] w c I le valid here = here
reads_image (Write at n ∷ calls) w c I le valid here =
    let both = and_true (nat_le at (length c)) (is_valid calls (drop n w) (overwritten c at (take n w))) valid in
    let size : length (take n w) ≡ n = length-take-le n w (omega arith) in
    reads_image calls (drop n w) (overwritten c at (take n w)) _ (omega (arith, length-drop n w)) both.1
    (c, here, subst (λ (k : ℕ). Torn at k c (overwritten c at (take n w))) size (torn_by c at (take n w) (leb-true at (length c) both.0)))
reads_image (Cut to ∷ calls) w c I le valid here =
    reads_image calls w (take to c) _ le valid (c, here, cut_by c to)
reads_image (Sync ∷ calls) w c I le valid here = reads_image calls w c _ le valid refl

pub counts : (calls : List Call) (w first : List ℕ) (t : ℕ) (c : List ℕ) → t ≤ length calls → left_after calls w first c → left_since calls w first t c
counts calls w first t c le now = (length calls, le, omega arith, subst (λ (cs : List Call). left_after cs w first c) (sym (take_all (length calls) calls (omega arith))) now)

pub only : (calls : List Call) (w first : List ℕ) (c : List ℕ) → left_since calls w first (length calls) c → left_after calls w first c
only calls w first c since = subst (λ (cs : List Call). left_after cs w first c) (take_all since.0 calls since.1) since.3
