-- The configuration of a log's beginning.
use Rattle.std.proofs.Common.{◌≡◌, ℕ, ◌<◌, ◌≤◌, List, length, take, ap, sym, ⊎_elim, arith}
use Rattle.std.specs.Prelude.{min}
use Rattle.std.proofs.lemmas.Bool.{cases_lt}
use Rattle.std.proofs.lemmas.List.{length-take, take_all}
use Rattle.rq_history.specs.History.{EntryView, entry_at}
use Rattle.rq_history.specs.Configurations.{configuration_index}
use Rattle.rq_log.proofs.Logs.{entry_take}
use Rattle.rq_log.proofs.Configs.{index_take, index_fits}

module _ {E : Type 0} (view : EntryView E) where
  -- it is the newest one of the whole log, where that one isn't behind
  pub newest_upto : (log : List E) (k : ℕ) → configuration_index view log ≤ min k (length log) → configuration_index view log ≡ configuration_index view (take k log)
  newest_upto log k le = ⊎_elim
      (λ (past : length log < k). sym (ap (configuration_index view) (take_all k log (omega arith))))
      (λ (fits : k ≤ length log). sym (index_take view log k fits (omega arith)))
      (cases_lt (length log) k)

  -- the entry there is that of the whole log
  pub newest_entry : (log : List E) (k n : ℕ) → n ≡ configuration_index view (take k log) → entry_at log n ≡ entry_at (take k log) n
  newest_entry log k n is = let fits = index_fits view (take k log) in let len = length-take k log in sym (entry_take log k n (omega arith))

  -- within a log a prefix is cut at that index
  pub none_behind : (log : List E) (k : ℕ) → min k (length log) < configuration_index view log → take (min k (length log)) log ≡ take k log
  none_behind log k lt = let fits = index_fits view log in let m : min k (length log) ≡ k = omega arith in ap (λ (n : ℕ). take n log) m
