-- Where the newest configuration of a log stands, entry by entry.
use Rattle.std.proofs.Common.{◌≡◌, ℕ, suc, zero, ◌+◌, ◌-◌, ◌<◌, ◌≤◌, ◌⊎◌, ⊎_elim, Bool, true, false, cond, List, [], ◌∷◌, ◌++◌, length, take, get_or, refl, ap, sym, subst, ◌∙◌, arith}
use Rattle.std.specs.Prelude.{Some, Option, slice_get}
use Rattle.std.proofs.lemmas.List.{length-append, take-append-le, take-take, length-take}
use Rattle.std.proofs.lemmas.Option.{slice_get-get_or}
use Rattle.rq_history.specs.History.{EntryView}
use Rattle.rq_history.specs.Configurations.{is_given, is_configuration, configuration_index, voters_in, greatest}
use Rattle.std.proofs.Math.Seq.{take-append_seam}
use Rattle.rq_raft.specs.Entries.{Entries, entry_view}
use Rattle.rq_log.specs.Parts.{IsLog}
use Rattle.rq_log.proofs.Configs.{conf_same}

at_true : (f : ℕ → Bool) (room : ℕ) → f (suc room) ≡ true → greatest f 0 (suc room) ≡ suc room
at_true f room t = let z : 0 + suc room ≡ suc room = omega arith in ap (λ (n : ℕ). cond (f n) n (greatest f 0 room)) z ∙ ap (λ (b : Bool). cond b (suc room) (greatest f 0 room)) t

at_false : (f : ℕ → Bool) (room : ℕ) → f (suc room) ≡ false → greatest f 0 (suc room) ≡ greatest f 0 room
at_false f room t = let z : 0 + suc room ≡ suc room = omega arith in ap (λ (n : ℕ). cond (f n) n (greatest f 0 room)) z ∙ ap (λ (b : Bool). cond b (suc room) (greatest f 0 room)) t

greatest_same : (f g : ℕ → Bool) (room : ℕ) → ((i : ℕ) → i ≤ room → f i ≡ g i) → greatest f 0 room ≡ greatest g 0 room
greatest_same f g zero same = refl
greatest_same f g (suc room) same = ap (λ (b : Bool). cond b (0 + suc room) (greatest f 0 room)) (same (0 + suc room) (omega arith)) ∙ ap (λ (n : ℕ). cond (g (0 + suc room)) (0 + suc room) n) (greatest_same f g room (λ i le. same i (omega arith)))

below_or : (at room : ℕ) → at ≤ suc room → (at ≡ suc room) ⊎ (at ≤ room)
below_or at room h = grind arith

greatest_lower : (f : ℕ → Bool) (at room : ℕ) → greatest f 0 room ≤ at → at ≤ room → greatest f 0 at ≡ greatest f 0 room
greatest_lower f at zero le h = let z : at ≡ 0 = omega arith in ap (greatest f 0) z
greatest_lower f at (suc room) le h = ⊎_elim (λ (e : at ≡ suc room). ap (greatest f 0) e) (λ (l : at ≤ room). tested f at room le l (λ m. greatest_lower f at room m l) (f (suc room)) refl) (below_or at room h)
  where
    tested : (f : ℕ → Bool) (at room : ℕ) → greatest f 0 (suc room) ≤ at → at ≤ room → (greatest f 0 room ≤ at → greatest f 0 at ≡ greatest f 0 room) → (b : Bool) → f (suc room) ≡ b → greatest f 0 at ≡ greatest f 0 (suc room)
    tested f at room le l more true t = absurd (let g = at_true f room t in omega arith)
    tested f at room le l more false t = let g = at_false f room t in more (omega arith) ∙ sym g

append_none : {E : Type 0} (a : List E) → a ++ [] ≡ a
append_none [] = refl
append_none (x ∷ a) = ap (λ (l : List _). x ∷ l) (append_none a)

module _ {E : Type 0} (view : EntryView E) where
  is_at : (log : List E) (n : ℕ) (e : E) → slice_get log n ≡ Some e → is_configuration view log (suc n) ≡ is_given (view.voters_of e)
  is_at log n e is = ap (λ (x : Option E). is_given (voters_in view x)) is

  found : (log : List E) (n : ℕ) (e : E) → n < length log → e ≡ get_or log n e → slice_get log n ≡ Some e
  found log n e le is = slice_get-get_or log n e le ∙ ap Some (sym is)

  pub here : (log : List E) (n : ℕ) (e : E) → 0 < n → n ≤ length log → e ≡ get_or log (n - 1) e → is_given (view.voters_of e) ≡ true → greatest (is_configuration view log) 0 n ≡ n
  here log zero e pos le is t = absurd (omega arith)
  here log (suc n) e pos le is t = let m : suc n - 1 ≡ n = omega arith in at_true (is_configuration view log) n (is_at log n e (found log n e (omega arith) (subst (λ (k : ℕ). e ≡ get_or log k e) m is)) ∙ t)

  pub passes : (log : List E) (n : ℕ) (e : E) → 0 < n → n ≤ length log → e ≡ get_or log (n - 1) e → is_given (view.voters_of e) ≡ false → greatest (is_configuration view log) 0 n ≡ greatest (is_configuration view log) 0 (n - 1)
  passes log zero e pos le is t = absurd (omega arith)
  passes log (suc n) e pos le is t = let m : suc n - 1 ≡ n = omega arith in at_false (is_configuration view log) n (is_at log n e (found log n e (omega arith) (subst (λ (k : ℕ). e ≡ get_or log k e) m is)) ∙ t) ∙ ap (greatest (is_configuration view log) 0) (sym m)

  get_new : (a : List E) (e : E) → slice_get (a ++ e ∷ []) (length a) ≡ Some e
  get_new [] e = refl
  get_new (x ∷ a) e = get_new a e

  -- the first entries are the same
  pub same_below : (a b : List E) (n : ℕ) → take n a ≡ take n b → greatest (is_configuration view a) 0 n ≡ greatest (is_configuration view b) 0 n
  same_below a b n same = greatest_same (is_configuration view a) (is_configuration view b) n (λ i le. conf_same view a b n i le same)

  -- what is put behind the newest one leaves it
  pub known_below : (log es : List E) (at : ℕ) → at ≤ length log → configuration_index view log ≤ at → greatest (is_configuration view (take at log ++ es)) 0 at ≡ configuration_index view log
  known_below log es at fits le = same_below (take at log ++ es) log at same ∙ greatest_lower (is_configuration view log) at (length log) le fits
    where
      same : take at (take at log ++ es) ≡ take at log
      same = let len = length-take at log in take-append-le at (take at log) es (omega arith) ∙ take-take at at log (omega arith)

  pub pushed_new : (log : List E) (e : E) → is_given (view.voters_of e) ≡ true → configuration_index view (log ++ e ∷ []) ≡ length log + 1
  pushed_new log e t = let len : length (log ++ e ∷ []) ≡ suc (length log) = omega (arith, length-append log (e ∷ [])) in
      ap (greatest (is_configuration view (log ++ e ∷ [])) 0) len ∙ at_true (is_configuration view (log ++ e ∷ [])) (length log) (is_at (log ++ e ∷ []) (length log) e (get_new log e) ∙ t) ∙ omega arith

  pub pushed_other : (log : List E) (e : E) → is_given (view.voters_of e) ≡ false → configuration_index view (log ++ e ∷ []) ≡ configuration_index view log
  pushed_other log e t = let len : length (log ++ e ∷ []) ≡ suc (length log) = omega (arith, length-append log (e ∷ [])) in
      ap (greatest (is_configuration view (log ++ e ∷ [])) 0) len ∙ at_false (is_configuration view (log ++ e ∷ [])) (length log) (is_at (log ++ e ∷ []) (length log) e (get_new log e) ∙ t)
      ∙ same_below (log ++ e ∷ []) log (length log) (take-append-le (length log) log (e ∷ []) (omega arith))

-- the parts of a log after a push
module _ {E : Type 0} (es : Entries E) where
  pub pushed_config : (log new : List E) (e : E) (count at : ℕ) (cut : List E) (room : ℕ) → new ≡ log ++ e ∷ [] → count ≡ length new → count ≤ room → cut ≡ [] → at ≡ configuration_index (entry_view es) log → is_given ((entry_view es).voters_of e) ≡ true
      → IsLog es new count (count - 1) cut at room
  pushed_config log new e count at cut room is len fits none newest t =
      let size : length new ≡ length log + 1 = omega (arith, ap length is, length-append log (e ∷ [])) in
      let first = prefix log new e count cut is len none in
      record {
        newest = omega (arith, ap (configuration_index (entry_view es)) is, pushed_new (entry_view es) log e t);
        cut_within = omega arith;
        cut_room = omega (arith, ap length none);
        newest_before = newest ∙ ap (configuration_index (entry_view es)) (sym first);
      }
    where
      prefix : (log new : List E) (e : E) (count : ℕ) (cut : List E) → new ≡ log ++ e ∷ [] → count ≡ length new → cut ≡ [] → take (count - 1) new ++ cut ≡ log
      prefix log new e count cut is len none = let size : length new ≡ length log + 1 = omega (arith, ap length is, length-append log (e ∷ [])) in let m : count - 1 ≡ length log = omega arith in
          rw (m, none, is, append_none (take (length log) (log ++ e ∷ []))) (take-append_seam log (e ∷ []))

  pub pushed_plain : (log new : List E) (e : E) (count at : ℕ) (cut : List E) (room : ℕ) → new ≡ log ++ e ∷ [] → count ≡ length new → count ≤ room → cut ≡ [] → at ≡ configuration_index (entry_view es) log → is_given ((entry_view es).voters_of e) ≡ false
      → IsLog es new at (count - 1) cut at room
  pushed_plain log new e count at cut room is len fits none newest t =
      let size : length new ≡ length log + 1 = omega (arith, ap length is, length-append log (e ∷ [])) in
      let first = prefix log new e count cut is len none in
      record {
        newest = omega (arith, ap (configuration_index (entry_view es)) is, pushed_other (entry_view es) log e t);
        cut_within = omega arith;
        cut_room = omega (arith, ap length none);
        newest_before = newest ∙ ap (configuration_index (entry_view es)) (sym first);
      }
    where
      prefix : (log new : List E) (e : E) (count : ℕ) (cut : List E) → new ≡ log ++ e ∷ [] → count ≡ length new → cut ≡ [] → take (count - 1) new ++ cut ≡ log
      prefix log new e count cut is len none = let size : length new ≡ length log + 1 = omega (arith, ap length is, length-append log (e ∷ [])) in let m : count - 1 ≡ length log = omega arith in
          rw (m, none, is, append_none (take (length log) (log ++ e ∷ []))) (take-append_seam log (e ∷ []))
