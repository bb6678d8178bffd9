-- Where the newest configuration of a log stands.
use Rattle.std.proofs.Common.{◌≡◌, ◌≢◌, ℕ, suc, zero, ◌+◌, ◌<◌, ◌≤◌, Bool, true, false, List, [], ◌∷◌, ◌++◌, length, take, ap, sym, ◌∙◌, ⊎_elim, arith}
use Rattle.std.proofs.lemmas.Bool.{cases_lt, cases_eq}
use Rattle.std.proofs.lemmas.List.{length-take, take-take, length-append, take-append-le}
use Rattle.std.specs.Prelude.{Option}
use Rattle.rq_history.specs.History.{NodeId, EntryView, entry_at}
use Rattle.rq_history.specs.Configurations.{is_given, is_configuration, configuration_index, voters_or, newest_voters, voters_in, greatest}
use Rattle.rq_history.proofs.Logs.{entry_same, entry_new}
use Rattle.rq_history.proofs.Tests.{if_case, greatest_is}

module _ {E : Type 0} (view : EntryView E) where
  pub conf_same : (a b : List E) (n m : ℕ) → m ≤ n → take n a ≡ take n b → is_configuration view a m ≡ is_configuration view b m
  conf_same a b n m le e = ap (λ (x : Option E). is_given (voters_in view x)) (entry_same a b n m le e)

  pub greatest_max : (test : ℕ → Bool) (low room k : ℕ) → low < k → k ≤ low + room → test k ≡ true → k ≤ greatest test low room
  greatest_max test low zero k lt le t = absurd (omega arith)
  greatest_max test low (suc room) k lt le t = if_case (λ (g : ℕ). k ≤ g) (test (low + suc room)) (low + suc room) (greatest test low room)
      (λ e. le)
      (λ e. ⊎_elim (λ (q : k ≡ low + suc room). absurd (no q e)) (λ (q : k ≢ low + suc room). greatest_max test low room k lt (omega (arith, below k (low + suc room) q le)) t) (cases_eq k (low + suc room)))
    where
      no : k ≡ low + suc room → test (low + suc room) ≡ false → Prim.⊥
      no q e = let a : test (low + suc room) ≡ true = rw q at t in cc (a, e)

      below : (x y : ℕ) → x ≢ y → x ≤ y → x < y
      below x y d le = omega arith

  pub index_fits : (log : List E) → configuration_index view log ≤ length log
  index_fits log = ⊎_elim (λ (z : configuration_index view log ≡ 0). omega arith) (λ (p : (is_configuration view log (configuration_index view log) ≡ true) × (0 < configuration_index view log) × (configuration_index view log ≤ 0 + length log)). omega (arith, p.2)) (greatest_is (is_configuration view log) 0 (length log))

  -- there is none behind it
  pub index_max : (log : List E) (k : ℕ) → k ≤ length log → is_configuration view log k ≡ true → k ≤ configuration_index view log
  index_max log zero le t = omega arith
  index_max log (suc k) le t = greatest_max (is_configuration view log) 0 (length log) (suc k) (omega arith) (omega arith) t

  pub index_is : (log : List E) → 0 < configuration_index view log → is_configuration view log (configuration_index view log) ≡ true
  index_is log pos = ⊎_elim (λ (z : configuration_index view log ≡ 0). absurd (omega arith)) (λ (p : (is_configuration view log (configuration_index view log) ≡ true) × (0 < configuration_index view log) × (configuration_index view log ≤ 0 + length log)). p.0) (greatest_is (is_configuration view log) 0 (length log))

  -- the newest one of a log stands in another with the same prefix, or a newer one does
  pub index_within : (a b : List E) (n : ℕ) → configuration_index view a ≤ n → take n a ≡ take n b → configuration_index view a ≤ length b → configuration_index view a ≤ configuration_index view b
  index_within a b n le e fits = ⊎_elim
      (λ (pos : 0 < configuration_index view a). index_max b (configuration_index view a) fits (sym (conf_same a b n (configuration_index view a) le e) ∙ index_is a pos))
      (λ (z : configuration_index view a ≤ 0). omega arith)
      (cases_lt 0 (configuration_index view a))

  pub index_take : (log : List E) (k : ℕ) → k ≤ length log → configuration_index view log ≤ k → configuration_index view (take k log) ≡ configuration_index view log
  index_take log k fits le =
      let t = take-take k k log (omega arith) in
      let len = length-take k log in
      let a = index_within log (take k log) k le (sym t) (omega arith) in
      let f = index_fits (take k log) in
      let b = index_within (take k log) log k (omega arith) t (omega arith) in
      omega arith

  module _ (first : List NodeId) where
    -- the same newest configuration
    pub voters_same : (a b : List E) (n : ℕ) → configuration_index view a ≤ n → take n a ≡ take n b → configuration_index view a ≡ configuration_index view b → newest_voters view first a ≡ newest_voters view first b
    voters_same a b n le e i = ap (λ (x : Option E). voters_or first (voters_in view x)) (entry_same a b n (configuration_index view a) le e ∙ ap (entry_at b) i)

    pub voters_take : (log : List E) (k : ℕ) → k ≤ length log → configuration_index view log ≤ k → newest_voters view first (take k log) ≡ newest_voters view first log
    voters_take log k fits le =
        let i = index_take log k fits le in
        voters_same (take k log) log k (omega arith) (take-take k k log (omega arith)) i

    -- after a configuration was appended
    pub voters_pushed : (a : List E) (e : E) → is_given (view.voters_of e) ≡ true → newest_voters view first (a ++ e ∷ []) ≡ voters_or first (view.voters_of e)
    voters_pushed a e m =
        let new = entry_new a e in
        let conf : is_configuration view (a ++ e ∷ []) (length a + 1) ≡ true = ap (λ (x : Option E). is_given (voters_in view x)) new ∙ m in
        let len = length-append a (e ∷ []) in
        let top = index_max (a ++ e ∷ []) (length a + 1) (omega arith) conf in
        let fit = index_fits (a ++ e ∷ []) in
        let is : configuration_index view (a ++ e ∷ []) ≡ length a + 1 = omega arith in
        ap (λ (k : ℕ). voters_or first (voters_in view (entry_at (a ++ e ∷ []) k))) is ∙ ap (λ (x : Option E). voters_or first (voters_in view x)) new

    -- after another entry was appended
    pub voters_stay : (a : List E) (e : E) → is_given (view.voters_of e) ≡ false → newest_voters view first (a ++ e ∷ []) ≡ newest_voters view first a
    voters_stay a e m = voters_same (a ++ e ∷ []) a (length a) low same (omega (arith, up, down))
      where
        same : take (length a) (a ++ e ∷ []) ≡ take (length a) a
        same = take-append-le (length a) a (e ∷ []) (omega arith)

        not_last : (k : ℕ) → k ≡ length a + 1 → is_configuration view (a ++ e ∷ []) k ≡ true → Prim.⊥
        not_last k is conf =
            let last : is_configuration view (a ++ e ∷ []) (length a + 1) ≡ true = rw is at conf in
            let none : is_configuration view (a ++ e ∷ []) (length a + 1) ≡ false = ap (λ (x : Option E). is_given (voters_in view x)) (entry_new a e) ∙ m in
            cc

        low : configuration_index view (a ++ e ∷ []) ≤ length a
        low = ⊎_elim
            (λ (big : length a < configuration_index view (a ++ e ∷ [])).
            absurd (not_last (configuration_index view (a ++ e ∷ [])) (omega (arith, index_fits (a ++ e ∷ []), length-append a (e ∷ []))) (index_is (a ++ e ∷ []) (omega arith))))
            (λ (small : configuration_index view (a ++ e ∷ []) ≤ length a). small)
            (cases_lt (length a) (configuration_index view (a ++ e ∷ [])))

        up : configuration_index view (a ++ e ∷ []) ≤ configuration_index view a
        up = index_within (a ++ e ∷ []) a (length a) low same low

        down : configuration_index view a ≤ configuration_index view (a ++ e ∷ [])
        down = index_within a (a ++ e ∷ []) (length a) (index_fits a) (sym same) (omega (arith, index_fits a, length-append a (e ∷ [])))
