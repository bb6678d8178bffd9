-- One call more.
use Rattle.std.proofs.Common.{Bool, true, false, ◌&&◌, nat_le, ◌≡◌, ◌≤◌, ◌<◌, ◌⊎◌, inl, inr, ℕ, zero, suc, ◌+◌, List, [], ◌∷◌, ◌++◌, length, get_or, take, drop, refl, sym, ◌∙◌, ap, subst, arith, length-append, length-drop, take-append-drop}
use Rattle.std.proofs.lemmas.Bool.{cases_lt}
use Rattle.std.proofs.lemmas.List.{drop_more, take-append-le, drop-append-le, drop-drop, take_all, drop_at}
use Rattle.rq_outside.specs.declared.in_memory.journal.Call.{Call}
use Rattle.rq_outside.specs.declared.in_memory.journal.Call.TheVariants.{Write, Cut, Sync}
use Rattle.rq_outside.specs.Disk.{Torn, Cut as IsCut, Elapses}
use Rattle.rq_outside.specs.Playing.{reads_image, and_true}
use Rattle.rq_outside.specs.Replay.{total_of, overwritten, is_valid, has_no_sync, IsTornBy, content_after, images_after, left_after, left_since, meaning_of}

and_assoc : (a b c : Bool) → (a && (b && c)) ≡ ((a && b) && c)
and_assoc true b c = refl
and_assoc false b c = refl

pub total-take : (k : ℕ) (calls : List Call) → total_of (take k calls) ≤ total_of calls
total-take zero calls = omega arith
total-take (suc k) [] = omega arith
total-take (suc k) (Write at n ∷ calls) = omega (arith, total-take k calls)
total-take (suc k) (Cut to ∷ calls) = total-take k calls
total-take (suc k) (Sync ∷ calls) = total-take k calls

pub total-append : (xs ys : List Call) → total_of (xs ++ ys) ≡ total_of xs + total_of ys
total-append [] ys = omega arith
total-append (Write at n ∷ xs) ys = omega (arith, total-append xs ys)
total-append (Cut to ∷ xs) ys = total-append xs ys
total-append (Sync ∷ xs) ys = total-append xs ys

-- what is written later makes no difference
more_content : (calls : List Call) (w p c : List ℕ) → total_of calls ≤ length w → content_after calls (w ++ p) c ≡ content_after calls w c
more_content [] w p c le = refl
more_content (Write at n ∷ calls) w p c le =
    (λ i. content_after calls (drop-append-le n w p (omega arith) i) (overwritten c at (take-append-le n w p (omega arith) i)))
    ∙ more_content calls (drop n w) p (overwritten c at (take n w)) (omega (arith, length-drop n w))
more_content (Cut to ∷ calls) w p c le = more_content calls w p (take to c) le
more_content (Sync ∷ calls) w p c le = more_content calls w p c le

more_images : (calls : List Call) (w p c : List ℕ) (I : List ℕ → Type 0) → total_of calls ≤ length w → images_after calls (w ++ p) c I ≡ images_after calls w c I
more_images [] w p c I le = refl
more_images (Write at n ∷ calls) w p c I le =
    (λ i. images_after calls (drop-append-le n w p (omega arith) i) (overwritten c at (take-append-le n w p (omega arith) i)) (λ x. (d : List ℕ) × I d × Torn at n d x))
    ∙ more_images calls (drop n w) p (overwritten c at (take n w)) (λ x. (d : List ℕ) × I d × Torn at n d x) (omega (arith, length-drop n w))
more_images (Cut to ∷ calls) w p c I le = more_images calls w p (take to c) (λ x. (d : List ℕ) × I d × IsCut to d x) le
more_images (Sync ∷ calls) w p c I le = more_images calls w p c (λ x. x ≡ c) le

more_valid : (calls : List Call) (w p c : List ℕ) → total_of calls ≤ length w → is_valid calls (w ++ p) c ≡ is_valid calls w c
more_valid [] w p c le = refl
more_valid (Write at n ∷ calls) w p c le =
    (λ i. nat_le at (length c) && is_valid calls (drop-append-le n w p (omega arith) i) (overwritten c at (take-append-le n w p (omega arith) i)))
    ∙ ap (λ (b : Bool). nat_le at (length c) && b) (more_valid calls (drop n w) p (overwritten c at (take n w)) (omega (arith, length-drop n w)))
more_valid (Cut to ∷ calls) w p c le = more_valid calls w p (take to c) le
more_valid (Sync ∷ calls) w p c le = more_valid calls w p c le

pub last_valid : (calls : List Call) (ys : List Call) (w c : List ℕ) → is_valid (calls ++ ys) w c ≡ (is_valid calls w c && is_valid ys (drop (total_of calls) w) (content_after calls w c))
last_valid [] ys w c = refl
last_valid (Write at n ∷ calls) ys w c =
    ap (λ (b : Bool). nat_le at (length c) && b) (last_valid calls ys (drop n w) (overwritten c at (take n w))
    ∙ ap (λ (l : List ℕ). is_valid calls (drop n w) (overwritten c at (take n w)) && is_valid ys l (content_after calls (drop n w) (overwritten c at (take n w)))) (drop-drop (total_of calls) n w))
    ∙ and_assoc (nat_le at (length c)) _ _
last_valid (Cut to ∷ calls) ys w c = last_valid calls ys w (take to c)
last_valid (Sync ∷ calls) ys w c = last_valid calls ys w c

-- the last call acts on what the others left
pub last_content : (calls : List Call) (ys : List Call) (w c : List ℕ) → content_after (calls ++ ys) w c ≡ content_after ys (drop (total_of calls) w) (content_after calls w c)
last_content [] ys w c = refl
last_content (Write at n ∷ calls) ys w c =
    last_content calls ys (drop n w) (overwritten c at (take n w))
    ∙ ap (λ (l : List ℕ). content_after ys l (content_after calls (drop n w) (overwritten c at (take n w)))) (drop-drop (total_of calls) n w)
last_content (Cut to ∷ calls) ys w c = last_content calls ys w (take to c)
last_content (Sync ∷ calls) ys w c = last_content calls ys w c

pub last_images : (calls : List Call) (ys : List Call) (w c : List ℕ) (I : List ℕ → Type 0) → images_after (calls ++ ys) w c I ≡ images_after ys (drop (total_of calls) w) (content_after calls w c) (images_after calls w c I)
last_images [] ys w c I = refl
last_images (Write at n ∷ calls) ys w c I =
    let J : List ℕ → Type 0 = λ y. (d : List ℕ) × I d × Torn at n d y in
    last_images calls ys (drop n w) (overwritten c at (take n w)) J
    ∙ ap (λ (l : List ℕ). images_after ys l (content_after calls (drop n w) (overwritten c at (take n w))) (images_after calls (drop n w) (overwritten c at (take n w)) J)) (drop-drop (total_of calls) n w)
last_images (Cut to ∷ calls) ys w c I = last_images calls ys w (take to c) (λ y. (d : List ℕ) × I d × IsCut to d y)
last_images (Sync ∷ calls) ys w c I = last_images calls ys w c (λ y. y ≡ c)

module _ (calls : List Call) (w first : List ℕ) (total : total_of calls ≡ length w) (x : Call) (p : List ℕ) where
  behind : drop (total_of calls) (w ++ p) ≡ p
  behind = drop_at w p (total_of calls) (sym total)

  pub pushed_content : content_after (calls ++ x ∷ []) (w ++ p) first ≡ content_after (x ∷ []) p (content_after calls w first)
  pushed_content = last_content calls (x ∷ []) (w ++ p) first ∙ (λ i. content_after (x ∷ []) (behind i) (more_content calls w p first (omega (arith, total)) i))

  pub pushed_images : left_after (calls ++ x ∷ []) (w ++ p) first ≡ images_after (x ∷ []) p (content_after calls w first) (left_after calls w first)
  pushed_images = last_images calls (x ∷ []) (w ++ p) first (λ c. c ≡ first)
      ∙ (λ i. images_after (x ∷ []) (behind i) (more_content calls w p first (omega (arith, total)) i) (more_images calls w p first (λ c. c ≡ first) (omega (arith, total)) i))

  earlier : (k : ℕ) → k ≤ length calls → left_after (take k (calls ++ x ∷ [])) (w ++ p) first ≡ left_after (take k calls) w first
  earlier k le = ap (λ (cs : List Call). left_after cs (w ++ p) first) (take-append-le k calls (x ∷ []) le) ∙ more_images (take k calls) w p first (λ c. c ≡ first) (omega (arith, total-take k calls, total))

  pub goes_on : (old new : List ℕ) (f f' b b' n n' : ℕ) → Elapses (meaning_of old calls w first f b n) (meaning_of new (calls ++ x ∷ []) (w ++ p) first f' b' n')
  goes_on old new f f' b b' n n' = record {
    later = omega (arith, length-append calls (x ∷ []));
    nothing_else = λ t c le since. split t c since (cases_lt (length calls) since.0);
    keeps = λ t c le since. (since.0, since.1, omega (arith, since.2, length-append calls (x ∷ [])), subst (λ (P : List ℕ → Type 0). P c) (sym (earlier since.0 since.2)) since.3);
  }
    where
      split : (t : ℕ) (c : List ℕ) (since : left_since (calls ++ x ∷ []) (w ++ p) first t c) → (length calls < since.0) ⊎ (since.0 ≤ length calls) → left_since calls w first t c ⊎ left_after (calls ++ x ∷ []) (w ++ p) first c
      split t c since (inr le) = inl (since.0, since.1, le, subst (λ (P : List ℕ → Type 0). P c) (earlier since.0 le) since.3)
      split t c since (inl gt) = inr (subst (λ (cs : List Call). left_after cs (w ++ p) first c) (take_all since.0 (calls ++ x ∷ []) (omega (arith, gt, length-append calls (x ∷ [])))) since.3)

-- and none
pub stays_on : (content : List ℕ) (calls : List Call) (w first : List ℕ) (f f' b b' n n' : ℕ) → Elapses (meaning_of content calls w first f b n) (meaning_of content calls w first f' b' n')
stays_on content calls w first f f' b b' n n' = record { later = omega arith; nothing_else = λ t c le since. inl since; keeps = λ t c le since. since }

-- A state after a call, by what its parts are.
module _ (calls : List Call) (w first : List ℕ) (total : total_of calls ≡ length w) (x : Call) (p : List ℕ) (calls' : List Call) (w' : List ℕ) (is_calls : calls' ≡ calls ++ x ∷ []) (is_written : w' ≡ w ++ p) where
  pub content_then : content_after calls' w' first ≡ content_after (x ∷ []) p (content_after calls w first)
  content_then = (λ i. content_after (is_calls i) (is_written i) first) ∙ pushed_content calls w first total x p

  pub images_then : (c : List ℕ) → left_after calls' w' first c → images_after (x ∷ []) p (content_after calls w first) (left_after calls w first) c
  images_then c left = subst (λ (P : List ℕ → Type 0). P c) ((λ i. left_after (is_calls i) (is_written i) first) ∙ pushed_images calls w first total x p) left

  pub images_from : (c : List ℕ) → images_after (x ∷ []) p (content_after calls w first) (left_after calls w first) c → left_after calls' w' first c
  images_from c left = subst (λ (P : List ℕ → Type 0). P c) (sym ((λ i. left_after (is_calls i) (is_written i) first) ∙ pushed_images calls w first total x p)) left

  pub time_then : (old new : List ℕ) (f f' b b' n n' : ℕ) → Elapses (meaning_of old calls w first f b n) (meaning_of new calls' w' first f' b' n')
  time_then old new f f' b b' n n' =
      subst (λ (cs : List Call). Elapses (meaning_of old calls w first f b n) (meaning_of new cs w' first f' b' n')) (sym is_calls)
      (subst (λ (v : List ℕ). Elapses (meaning_of old calls w first f b n) (meaning_of new (calls ++ x ∷ []) v first f' b' n')) (sym is_written)
      (goes_on calls w first total x p old new f f' b b' n n'))

  pub total_then : total_of (x ∷ []) ≡ length p → total_of calls' ≡ length w'
  total_then size = omega (arith, ap total_of is_calls, total-append calls (x ∷ []), total, ap length is_written, length-append w p, size)

  pub valid_then : is_valid calls w first ≡ true → is_valid (x ∷ []) p (content_after calls w first) ≡ true → is_valid calls' w' first ≡ true
  valid_then so_far here = (λ i. is_valid (is_calls i) (is_written i) first) ∙ last_valid calls (x ∷ []) (w ++ p) first ∙ (λ i. (more_valid calls w p first (omega (arith, total)) ∙ so_far) i && is_valid (x ∷ []) (behind calls w first total x p i) (more_content calls w p first (omega (arith, total)) i)) ∙ here

-- One call, and then the rest.
pub content_cons : (x : Call) (calls : List Call) (w c : List ℕ) → content_after (x ∷ calls) w c ≡ content_after calls (drop (total_of (x ∷ [])) w) (content_after (x ∷ []) w c)
content_cons (Write at n) calls w c = ap (λ (k : ℕ). content_after calls (drop k w) (overwritten c at (take n w))) (omega arith)
content_cons (Cut to) calls w c = refl
content_cons Sync calls w c = refl

pub valid_cons : (x : Call) (calls : List Call) (w c : List ℕ) → is_valid (x ∷ calls) w c ≡ true → (is_valid (x ∷ []) w c ≡ true) × (is_valid calls (drop (total_of (x ∷ [])) w) (content_after (x ∷ []) w c) ≡ true)
valid_cons (Write at n) calls w c h =
    let both = and_true (nat_le at (length c)) (is_valid calls (drop n w) (overwritten c at (take n w))) h in
    (ap (λ b. b && true) both.0, subst (λ (k : ℕ). is_valid calls (drop k w) (overwritten c at (take n w)) ≡ true) (omega arith) both.1)
valid_cons (Cut to) calls w c h = (refl, h)
valid_cons Sync calls w c h = (refl, h)

pub total_cons : (x : Call) (calls : List Call) → total_of (x ∷ calls) ≡ total_of (x ∷ []) + total_of calls
total_cons (Write at n) calls = omega arith
total_cons (Cut to) calls = omega arith
total_cons Sync calls = omega arith

pub no_sync_cons : (x : Call) (calls : List Call) → has_no_sync (x ∷ calls) ≡ true → (has_no_sync (x ∷ []) ≡ true) × (has_no_sync calls ≡ true)
no_sync_cons (Write at n) calls h = (refl, h)
no_sync_cons (Cut to) calls h = (refl, h)
no_sync_cons Sync calls h = absurd (cc)

-- where no sync follows, the content makes no difference, and more images leave more
pub eased : (calls : List Call) (w c c' : List ℕ) (I J : List ℕ → Type 0) → has_no_sync calls ≡ true → ((x : List ℕ) → I x → J x) → (f : List ℕ) → images_after calls w c I f → images_after calls w c' J f
eased [] w c c' I J free more f left = more f left
eased (Write at n ∷ calls) w c c' I J free more f left = eased calls (drop n w) (overwritten c at (take n w)) (overwritten c' at (take n w)) _ _ free (λ x d. (d.0, more d.0 d.1, d.2)) f left
eased (Cut to ∷ calls) w c c' I J free more f left = eased calls w (take to c) (take to c') _ _ free (λ x d. (d.0, more d.0 d.1, d.2)) f left
eased (Sync ∷ calls) w c c' I J free more f left = absurd (cc)

-- what the rest may leave from here, the call and the rest may leave
pub torn_cons : (x : Call) (calls : List Call) (w c c' : List ℕ) → has_no_sync (x ∷ calls) ≡ true → IsTornBy x c c' → (f : List ℕ) → left_after calls (drop (total_of (x ∷ [])) w) c' f → left_after (x ∷ calls) w c f
torn_cons (Write at n) calls w c c' free torn f left =
    let there = subst (λ (k : ℕ). left_after calls (drop k w) c' f) (omega arith) left in
    eased calls (drop n w) c' (overwritten c at (take n w)) (λ x. x ≡ c') _ free (λ x is. (c, refl, subst (λ (l : List ℕ). Torn at n c l) (sym is) torn)) f there
torn_cons (Cut to) calls w c c' free torn f left = eased calls w c' (take to c) (λ x. x ≡ c') _ free (λ x is. (c, refl, subst (λ (l : List ℕ). IsCut to c l) (sym is) torn)) f left
torn_cons Sync calls w c c' free torn f left = absurd torn

-- the calls up to a place, and then the others
module _ (calls : List Call) (w first : List ℕ) (k : ℕ) (total : total_of calls ≤ length w) (valid : is_valid calls w first ≡ true) where
  halves : take k calls ++ drop k calls ≡ calls
  halves = take-append-drop k calls

  pub prefix_valid : is_valid (take k calls) w first ≡ true
  prefix_valid =
      (and_true (is_valid (take k calls) w first) (is_valid (drop k calls) (drop (total_of (take k calls)) w) (content_after (take k calls) w first))
      (sym (last_valid (take k calls) (drop k calls) w first) ∙ ap (λ (cs : List Call). is_valid cs w first) halves ∙ valid)).0

  pub back_valid : is_valid (drop k calls) (drop (total_of (take k calls)) w) (content_after (take k calls) w first) ≡ true
  back_valid =
      (and_true (is_valid (take k calls) w first) (is_valid (drop k calls) (drop (total_of (take k calls)) w) (content_after (take k calls) w first))
      (sym (last_valid (take k calls) (drop k calls) w first) ∙ ap (λ (cs : List Call). is_valid cs w first) halves ∙ valid)).1

  pub prefix_total : total_of (take k calls) + total_of (drop k calls) ≡ total_of calls
  prefix_total = sym (total-append (take k calls) (drop k calls)) ∙ ap total_of halves

  pub all_left : (start f : List ℕ) → start ≡ content_after (take k calls) w first → has_no_sync (drop k calls) ≡ true → left_after (drop k calls) (drop (total_of (take k calls)) w) start f → left_after calls w first f
  all_left start f is free left =
      let I : List ℕ → Type 0 = left_after (take k calls) w first in
      let reads : I (content_after (take k calls) w first) = reads_image (take k calls) w first (λ c. c ≡ first) (omega (arith, total-take k calls, total)) prefix_valid refl in
      let later : images_after (drop k calls) (drop (total_of (take k calls)) w) (content_after (take k calls) w first) I f =
      eased (drop k calls) (drop (total_of (take k calls)) w) start (content_after (take k calls) w first) (λ x. x ≡ start) I free (λ x same. subst I (sym (same ∙ is)) reads) f left in
      subst (λ (P : List ℕ → Type 0). P f) (sym (last_images (take k calls) (drop k calls) w first (λ c. c ≡ first)) ∙ ap (λ (cs : List Call). left_after cs w first) halves) later

-- the call at a place, and those behind it
module _ (calls : List Call) (i : ℕ) (lt : i < length calls) where
  abbrev pub here : Call
  here = get_or calls i (Write 0 0)

  next : drop i calls ≡ here ∷ drop (i + 1) calls
  next = drop_more calls i (Write 0 0) lt

  pub total_step : total_of (drop i calls) ≡ total_of (here ∷ []) + total_of (drop (i + 1) calls)
  total_step = ap total_of next ∙ total_cons here (drop (i + 1) calls)

  pub content_step : (w c : List ℕ) → content_after (drop i calls) w c ≡ content_after (drop (i + 1) calls) (drop (total_of (here ∷ [])) w) (content_after (here ∷ []) w c)
  content_step w c = ap (λ (cs : List Call). content_after cs w c) next ∙ content_cons here (drop (i + 1) calls) w c

  pub valid_step : (w c : List ℕ) → is_valid (drop i calls) w c ≡ true → (is_valid (here ∷ []) w c ≡ true) × (is_valid (drop (i + 1) calls) (drop (total_of (here ∷ [])) w) (content_after (here ∷ []) w c) ≡ true)
  valid_step w c h = valid_cons here (drop (i + 1) calls) w c (sym (ap (λ (cs : List Call). is_valid cs w c) next) ∙ h)

  pub no_sync_step : has_no_sync (drop i calls) ≡ true → (has_no_sync (here ∷ []) ≡ true) × (has_no_sync (drop (i + 1) calls) ≡ true)
  no_sync_step h = no_sync_cons here (drop (i + 1) calls) (sym (ap has_no_sync next) ∙ h)

  pub torn_step : (w c c' : List ℕ) → has_no_sync (drop i calls) ≡ true → IsTornBy here c c' → (f : List ℕ) → left_after (drop (i + 1) calls) (drop (total_of (here ∷ [])) w) c' f → left_after (drop i calls) w c f
  torn_step w c c' h torn f left =
      subst (λ (cs : List Call). left_after cs w c f) (sym next) (torn_cons here (drop (i + 1) calls) w c c' (sym (ap has_no_sync next) ∙ h) torn f left)
