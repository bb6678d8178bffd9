-- How a run of disk calls goes on.
use Rattle.std.proofs.Common.{inl, inr, ⊎_elim, ℕ, List, length, refl, sym, subst, arith}
use Rattle.std.proofs.lemmas.List.{take_all}
use Rattle.rq_outside.specs.Disk.{DiskMeaning, Torn, Cut, Follows, Only, Elapses, LeavesOnly}

-- what a crash since this moment leaves is what it may leave now
abbrev pub OnlyNow : DiskMeaning → Type 0
OnlyNow disk = (c : List ℕ) → disk.since disk.moment c → disk.images c

-- one call more, after which a crash leaves what has P
pub one_call : (old new : DiskMeaning) (P : List ℕ → Type 0) → OnlyNow old → Elapses old new → ((c : List ℕ) → old.images c → P c) → ((c : List ℕ) → new.images c → P c) → LeavesOnly old new P
one_call old new P only time before after = record {
  later = time.later;
  each = λ c left. ⊎_elim (λ since. before c (only c since)) (after c) (time.nothing_else old.moment c (omega arith) left);
  before = λ t c le left. ⊎_elim (λ since. inl since) (λ now. inr (after c now)) (time.nothing_else t c le left);
}

-- two runs, one after the other
pub then : (old mid new : DiskMeaning) (P Q R : List ℕ → Type 0) → LeavesOnly old mid P → LeavesOnly mid new Q → ((c : List ℕ) → P c → R c) → ((c : List ℕ) → Q c → R c) → LeavesOnly old new R
then old mid new P Q R first second p q = record {
  later = omega (arith, first.later, second.later);
  each = λ c left. ⊎_elim (λ since. p c (first.each c since)) (q c) (second.before old.moment c first.later left);
  before = λ t c le left. ⊎_elim (λ since. ⊎_elim inl (λ now. inr (p c now)) (first.before t c le since)) (λ now. inr (q c now)) (second.before t c (omega (arith, le, first.later)) left);
}

-- before the first call
pub started : (old : DiskMeaning) (P : List ℕ → Type 0) → ((c : List ℕ) → old.since old.moment c → P c) → LeavesOnly old old P
started old P here = record { later = omega arith; each = here; before = λ t c le left. inl left }

pub weaker : (old new : DiskMeaning) (P Q : List ℕ → Type 0) → LeavesOnly old new P → ((c : List ℕ) → P c → Q c) → LeavesOnly old new Q
weaker old new P Q run p = record {
  later = run.later;
  each = λ c left. p c (run.each c left);
  before = λ t c le left. ⊎_elim inl (λ now. inr (p c now)) (run.before t c le left);
}

pub torn_same : (at n : ℕ) (c : List ℕ) → Torn at n c c
torn_same at n c = record { before = refl; after = refl; no_shorter = omega arith; no_longer = omega arith }

pub cut_same : (to : ℕ) (c : List ℕ) → Cut to c c
cut_same to c = record { no_shorter = omega arith; prefix = take_all (length c) c (omega arith) }

-- an image that a step leads to, from the one image that there was
pub stepped : (step : List ℕ → List ℕ → Type 0) (old new : DiskMeaning) → Only old.content old.images → Follows step old.images new.images → (c : List ℕ) → new.images c → step old.content c
stepped step old new only follows c now =
    let from = follows c now in subst (λ f. step f c) (only from.0 from.1) from.2

module _ (step : List ℕ → List ℕ → Type 0) (same : (c : List ℕ) → step c c) (old mid : DiskMeaning) (now_old : OnlyNow old) (only : Only old.content old.images) (follows : Follows step old.images mid.images) (time : Elapses old mid) where
  at_start : (c : List ℕ) → old.images c → step old.content c
  at_start c now = subst (λ f. step old.content f) (sym (only c now)) (same old.content)

  -- a changing call
  pub changed : LeavesOnly old mid (step old.content)
  changed = one_call old mid (step old.content) now_old time at_start (stepped step old mid only follows)

  -- and the sync behind it
  pub then_synced : (new : DiskMeaning) → OnlyNow mid → Elapses mid new → ((c : List ℕ) → new.images c → mid.images c) → LeavesOnly old new (step old.content)
  then_synced new now_mid goes fewer =
      let P = step old.content in
      let left = stepped step old mid only follows in
      then old mid new P P P changed (one_call mid new P now_mid goes left (λ f now. left f (fewer f now))) (λ f p. p) (λ f p. p)
