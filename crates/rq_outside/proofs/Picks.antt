-- The last sync, and the calls after it as a crash tears them.
use Rattle.std.proofs.Common.{Bool, true, false, ◌&&◌, nat_le, nat_eq, leb-true, ◌⊎◌, inl, inr, ⊎_elim, ◌≡◌, ◌≤◌, ◌<◌, ◌≢◌, ℕ, zero, suc, ◌+◌, ◌-◌, ◌/◌, min, max, List, [], ◌∷◌, ◌++◌, length, get_or, take, drop, replicate, cond, refl, sym, ◌∙◌, ap, subst, arith, append_assoc, length-append, length-take, length-drop}
use Rattle.std.proofs.lemmas.Bool.{cases_lt, cases_eq}
use Rattle.std.proofs.lemmas.Bool.Decides.{nat_tests}
use Rattle.std.proofs.lemmas.List.{drop_more, length-take-le, take-append-le, drop-drop, take_all, drop_all, append-nil, length-replicate}
use Rattle.rq_outside.specs.declared.in_memory.journal.Call.{Call}
use Rattle.rq_outside.specs.declared.in_memory.journal.Call.TheVariants.{Write, Cut, Sync}
use Rattle.rq_outside.specs.Disk.{Torn, Cut as IsCut}
use Rattle.rq_outside.specs.Playing.{torn_by, cut_by, and_true}
use Rattle.rq_outside.specs.Replay.{total_of, overwritten, padded, is_valid, has_no_sync, synced_calls, IsTornBy, content_after, torn_write, torn_after, left_after}
use Rattle.rq_outside.proofs.Replays.{torn_cons, valid_step}

-- a sync is among the calls
has_sync : (calls : List Call) (k : ℕ) → k < length calls → get_or calls k (Write 0 0) ≡ Sync → has_no_sync calls ≡ false
has_sync [] k lt is = absurd (omega (arith, lt))
has_sync (Sync ∷ calls) k lt is = refl
has_sync (Write at n ∷ calls) zero lt is = absurd (cc)
has_sync (Write at n ∷ calls) (suc k) lt is = has_sync calls k (omega (arith, lt)) is
has_sync (Cut to ∷ calls) zero lt is = absurd (cc)
has_sync (Cut to ∷ calls) (suc k) lt is = has_sync calls k (omega (arith, lt)) is

pub synced_found : (calls : List Call) (k : ℕ) → k < length calls → get_or calls k (Write 0 0) ≡ Sync → has_no_sync (drop (k + 1) calls) ≡ true → synced_calls calls ≡ k + 1
synced_found [] k lt is free = absurd (omega (arith, lt))
synced_found (x ∷ calls) zero lt is free =
    ap (λ (b : Bool). cond b (cond (has_no_sync (x ∷ [])) 0 1) (suc (synced_calls calls))) free ∙ ap (λ (c : Call). cond (has_no_sync (c ∷ [])) 0 1) is
synced_found (x ∷ calls) (suc k) lt is free =
    let same : suc k + 1 ≡ suc (k + 1) = omega arith in
    let more : has_no_sync (drop (k + 1) calls) ≡ true = subst (λ (n : ℕ). has_no_sync (drop n (x ∷ calls)) ≡ true) same free in
    let here : synced_calls calls ≡ k + 1 = synced_found calls k (omega (arith, lt)) is more in
    ap (λ (b : Bool). cond b (cond (has_no_sync (x ∷ [])) 0 1) (suc (synced_calls calls))) (has_sync calls k (omega (arith, lt)) is) ∙ omega (arith, here)

pub synced_none : (calls : List Call) → has_no_sync calls ≡ true → synced_calls calls ≡ 0
synced_none [] free = refl
synced_none (Write at n ∷ calls) free = ap (λ (b : Bool). cond b 0 (suc (synced_calls calls))) free
synced_none (Cut to ∷ calls) free = ap (λ (b : Bool). cond b 0 (suc (synced_calls calls))) free
synced_none (Sync ∷ calls) free = absurd (cc)

-- what is written where a crash tears a write
eq_test : (m n : ℕ) → m ≡ n → nat_eq m n ≡ true
eq_test m n is = grind (arith, nat_tests)

ne_test : (m n : ℕ) → m ≢ n → nat_eq m n ≡ false
ne_test m n is = grind (arith, nat_tests)

by_pick : (pick : ℕ) (P : List ℕ → Type 0) (a b c d : List ℕ) → 0 < pick → P b → P c → P d → P (cond (nat_eq pick 0) a (cond (nat_eq pick 1) b (cond (nat_eq pick 2) c d)))
by_pick pick P a b c d pos pb pc pd =
    let second : P (cond (nat_eq pick 2) c d) =
    ⊎_elim (λ is. subst (λ (t : Bool). P (cond t c d)) (sym (eq_test pick 2 is)) pc) (λ ne. subst (λ (t : Bool). P (cond t c d)) (sym (ne_test pick 2 ne)) pd) (cases_eq pick 2) in
    let first : P (cond (nat_eq pick 1) b (cond (nat_eq pick 2) c d)) =
    ⊎_elim (λ is. subst (λ (t : Bool). P (cond t b (cond (nat_eq pick 2) c d))) (sym (eq_test pick 1 is)) pb) (λ ne. subst (λ (t : Bool). P (cond t b (cond (nat_eq pick 2) c d))) (sym (ne_test pick 1 ne)) second) (cases_eq pick 1) in
    subst (λ (t : Bool). P (cond t a (cond (nat_eq pick 1) b (cond (nat_eq pick 2) c d)))) (sym (ne_test pick 0 (omega arith))) first

length-overwritten : (c : List ℕ) (at : ℕ) (piece : List ℕ) → at ≤ length c → length (overwritten c at piece) ≡ max (length c) (at + length piece)
length-overwritten c at piece le =
    omega (arith, length-append (take at c ++ piece) (drop (at + length piece) c), length-append (take at c) piece, length-take-le at c le, length-drop (at + length piece) c)

length-padded : (n : ℕ) (c : List ℕ) → length (padded n c) ≡ max (length c) n
length-padded n c = omega (arith, length-append c (replicate (n - length c) 0), length-replicate {A = ℕ} (n - length c) 0)

half_length : (piece : List ℕ) → length (take (length piece / 2) piece) ≤ length piece
half_length piece = omega (arith, length-take (length piece / 2) piece)

module _ (c : List ℕ) (at : ℕ) (piece : List ℕ) (le : at ≤ length c) where
  abbrev ones : List ℕ
  ones = replicate (length piece) 1

  abbrev half : List ℕ
  half = take (length piece / 2) piece

  of_ones : length ones ≡ length piece
  of_ones = length-replicate {A = ℕ} (length piece) 1

  pub same_length : (pick : ℕ) → 0 < pick → length (torn_write pick c at piece) ≡ length (overwritten c at piece)
  same_length pick pos = by_pick pick (λ (l : List ℕ). length l ≡ length (overwritten c at piece)) _ _ _ _ pos
      refl
      (omega (arith, length-overwritten c at ones le, length-overwritten c at piece le, of_ones))
      (omega (arith, length-padded (at + length piece) (overwritten c at half), length-overwritten c at half le, length-overwritten c at piece le, half_length piece))

  -- its first half, and then what was there
  torn_half : Torn at (length piece) c (padded (at + length piece) (overwritten c at half))
  torn_half =
      let t : Torn at (length half) c (overwritten c at half) = torn_by c at half le in
      let long = length-overwritten c at half le in
      record {
        before = take-append-le at (overwritten c at half) _ (omega (arith, long)) ∙ t.before;
        after = behind (cases_lt (length (overwritten c at half)) (at + length piece));
        no_shorter = omega (arith, length-padded (at + length piece) (overwritten c at half), long);
        no_longer = omega (arith, length-padded (at + length piece) (overwritten c at half), long, half_length piece);
      }
    where
      behind : (length (overwritten c at half) < at + length piece) ⊎ (at + length piece ≤ length (overwritten c at half)) → drop (at + length piece) (padded (at + length piece) (overwritten c at half)) ≡ drop (at + length piece) c
      behind (inl lt) =
          drop_all (at + length piece) (padded (at + length piece) (overwritten c at half)) (omega (arith, length-padded (at + length piece) (overwritten c at half)))
          ∙ sym (drop_all (at + length piece) c (omega (arith, length-overwritten c at half le)))
      behind (inr ge) =
          let none : at + length piece - length (overwritten c at half) ≡ 0 = omega arith in
          let t : Torn at (length half) c (overwritten c at half) = torn_by c at half le in
          let k : ℕ = length piece - length half in
          let sum : at + length piece ≡ at + length half + k = omega (arith, half_length piece) in
          ap (λ (m : ℕ). drop (at + length piece) (overwritten c at half ++ replicate m 0)) none
          ∙ ap (λ (l : List ℕ). drop (at + length piece) l) (append-nil (overwritten c at half))
          ∙ ap (λ (m : ℕ). drop m (overwritten c at half)) sum
          ∙ sym (drop-drop k (at + length half) (overwritten c at half))
          ∙ ap (λ (l : List ℕ). drop k l) t.after
          ∙ drop-drop k (at + length half) c
          ∙ ap (λ (m : ℕ). drop m c) (sym sum)

  pub torn_write_is : (pick : ℕ) → 0 < pick → Torn at (length piece) c (torn_write pick c at piece)
  torn_write_is pick pos = by_pick pick (λ (l : List ℕ). Torn at (length piece) c l) _ _ _ _ pos
      (torn_by c at piece le)
      (subst (λ (n : ℕ). Torn at n c (overwritten c at ones)) of_ones (torn_by c at ones le))
      torn_half

-- one torn call, and then the rest
pub tear_cons : (pick : ℕ) (x : Call) (calls : List Call) (w c : List ℕ) → torn_after pick (x ∷ calls) w c ≡ torn_after pick calls (drop (total_of (x ∷ [])) w) (torn_after pick (x ∷ []) w c)
tear_cons pick (Write at n) calls w c = ap (λ (k : ℕ). torn_after pick calls (drop k w) (torn_write pick c at (take n w))) (omega arith)
tear_cons pick (Cut to) calls w c = refl
tear_cons pick Sync calls w c = refl

pub is_torn : (pick : ℕ) (x : Call) (w c : List ℕ) → 0 < pick → total_of (x ∷ []) ≤ length w → is_valid (x ∷ []) w c ≡ true → has_no_sync (x ∷ []) ≡ true → IsTornBy x c (torn_after pick (x ∷ []) w c)
is_torn pick (Write at n) w c pos le valid free =
    let size : length (take n w) ≡ n = length-take-le n w (omega arith) in
    let place = leb-true at (length c) (and_true (nat_le at (length c)) true valid).0 in
    subst (λ (k : ℕ). Torn at k c (torn_write pick c at (take n w))) size (torn_write_is c at (take n w) place pick pos)
is_torn pick (Cut to) w c pos le valid free = subst (λ (t : Bool). IsCut to c (cond t c (take to c))) (sym (ne_test pick 0 (omega arith))) (cut_by c to)
is_torn pick Sync w c pos le valid free = absurd (cc)

pub as_long : (pick : ℕ) (x : Call) (w c : List ℕ) → 0 < pick → is_valid (x ∷ []) w c ≡ true → length (torn_after pick (x ∷ []) w c) ≡ length (content_after (x ∷ []) w c)
as_long pick (Write at n) w c pos valid = same_length c at (take n w) (leb-true at (length c) (and_true (nat_le at (length c)) true valid).0) pick pos
as_long pick (Cut to) w c pos valid = ap (λ (t : Bool). length (cond t c (take to c))) (ne_test pick 0 (omega arith))
as_long pick Sync w c pos valid = refl

-- only lengths matter to the places of calls
pub valid_as_long : (calls : List Call) (w c d : List ℕ) → length c ≡ length d → is_valid calls w c ≡ is_valid calls w d
valid_as_long [] w c d same = refl
valid_as_long (Write at n ∷ calls) w c d same =
    ap (λ (m : ℕ). nat_le at m && is_valid calls (drop n w) (overwritten c at (take n w))) same
    ∙ ap (λ (b : Bool). nat_le at (length d) && b) (valid_as_long calls (drop n w) (overwritten c at (take n w)) (overwritten d at (take n w)) (long c ∙ ap (λ (m : ℕ). min at m + length (take n w) + (m - (at + length (take n w)))) same ∙ sym (long d)))
  where
    long : (e : List ℕ) → length (overwritten e at (take n w)) ≡ min at (length e) + length (take n w) + (length e - (at + length (take n w)))
    long e = omega (arith, length-append (take at e ++ take n w) (drop (at + length (take n w)) e), length-append (take at e) (take n w), length-take at e, length-drop (at + length (take n w)) e)
valid_as_long (Cut to ∷ calls) w c d same = valid_as_long calls w (take to c) (take to d) (length-take to c ∙ ap (λ (m : ℕ). min to m) same ∙ sym (length-take to d))
valid_as_long (Sync ∷ calls) w c d same = valid_as_long calls w c d same

-- with pick 0 nothing is made
pub none_made : (calls : List Call) (w c : List ℕ) → torn_after 0 calls w c ≡ c
none_made [] w c = refl
none_made (Write at n ∷ calls) w c = none_made calls (drop n w) c
none_made (Cut to ∷ calls) w c = none_made calls w c
none_made (Sync ∷ calls) w c = none_made calls w c

pub unmade : (calls : List Call) (w c : List ℕ) → has_no_sync calls ≡ true → left_after calls w c c
unmade [] w c free = refl
unmade (Write at n ∷ calls) w c free = torn_cons (Write at n) calls w c c free (record { before = refl; after = refl; no_shorter = omega arith; no_longer = omega arith }) c (unmade calls _ c free)
unmade (Cut to ∷ calls) w c free = torn_cons (Cut to) calls w c c free (record { no_shorter = omega arith; prefix = take_all (length c) c (omega arith) }) c (unmade calls w c free)
unmade (Sync ∷ calls) w c free = absurd (cc)

-- one byte more of the padding
pub padded_more : (old cur : List ℕ) (n : ℕ) → cur ≡ old ++ replicate n 0 → cur ++ 0 ∷ [] ≡ old ++ replicate (n + 1) 0
padded_more old cur n is = ap (λ (l : List ℕ). l ++ 0 ∷ []) is ∙ append_assoc old (replicate n 0) (0 ∷ []) ∙ ap (λ (l : List ℕ). old ++ l) (behind n)
  where
    behind : (k : ℕ) → let zeros : ℕ → List ℕ = λ n. replicate n 0 in zeros k ++ (0 ∷ []) ≡ zeros (k + 1)
    behind zero = refl
    behind (suc k) = let next : suc (k + 1) ≡ suc k + 1 = omega arith in ap (λ (l : List ℕ). 0 ∷ l) (behind k) ∙ ap (λ (m : ℕ). replicate m 0) next

-- a call at a place, torn
module _ (calls : List Call) (i : ℕ) (lt : i < length calls) (pick : ℕ) (pos : 0 < pick) (w c : List ℕ) where
  abbrev here : Call
  here = get_or calls i (Write 0 0)

  pub tear_step : torn_after pick (drop i calls) w c ≡ torn_after pick (drop (i + 1) calls) (drop (total_of (here ∷ [])) w) (torn_after pick (here ∷ []) w c)
  tear_step = ap (λ (cs : List Call). torn_after pick cs w c) (drop_more calls i (Write 0 0) lt) ∙ tear_cons pick here (drop (i + 1) calls) w c

  pub valid_torn : is_valid (drop i calls) w c ≡ true → is_valid (drop (i + 1) calls) (drop (total_of (here ∷ [])) w) (torn_after pick (here ∷ []) w c) ≡ true
  valid_torn valid =
      let both = valid_step calls i lt w c valid in
      valid_as_long (drop (i + 1) calls) (drop (total_of (here ∷ [])) w) (torn_after pick (here ∷ []) w c) (content_after (here ∷ []) w c) (as_long pick here w c pos both.0) ∙ both.1
