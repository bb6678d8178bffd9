-- Why a statement isn't settled, by the steps.
use Rattle.std.proofs.Common.{◌≡◌, ◌≤◌, ◌<◌, ℕ, Bool, true, List, ◌++◌, length, Some, refl, sym, ◌∙◌, arith}
use Rattle.std.specs.Prelude.{IsTrue}
use Rattle.rq_grammar.specs.declared.stmt.Stmt.{Stmt}
use Rattle.rq_binding.specs.declared.settling.SettleError.{SettleError}
use Rattle.rq_binding.specs.declared.settling.SettleError.TheVariants as errors
use Rattle.rq_binding.specs.Settles.{stmt_plan, SettledBy, Took, TookFor, IsTooLarge, IsUnsettled, Faulted, IsStopped, IsLong}

pub stopped : (told : Bool) (s : Stmt) (m : ℕ) (o n : List ℕ) (error : SettleError) → IsStopped (stmt_plan s m) error → IsUnsettled told s m o n error
stopped told s m o n (errors.Refused r) h = h
stopped told s m o n (errors.TooLarge k) h = absurd h
stopped told s m o n errors.Draws h = h
stopped told s m o n errors.NoMemory h = h

pub long : (told : Bool) (s r : Stmt) (m : ℕ) (o n : List ℕ) (error : SettleError) → SettledBy told s m o n r → IsLong r error → IsUnsettled told s m o n error
long told s r m o n (errors.TooLarge k) by h = record { settled = r; by = by; long = h.0; is = h.1 }
long told s r m o n errors.NoMemory by h = h
long told s r m o n (errors.Refused x) by h = absurd h
long told s r m o n errors.Draws by h = absurd h

pub long_took : (told : Bool) (s r : Stmt) (m : ℕ) (o n : List ℕ) (error : SettleError) → SettledBy told s m o n r → IsLong r error → IsTrue told → TookFor (stmt_plan s m) o n error
long_took told s r m o n (errors.TooLarge k) by h t = record { words = by.words; count = by.settles.count; is = by.taken t }
long_took told s r m o n errors.NoMemory by h t = record { words = by.words; count = omega (arith, by.settles.count); is = by.taken t }
long_took told s r m o n (errors.Refused x) by h t = absurd h
long_took told s r m o n errors.Draws by h t = absurd h

pub long_cause : (r : Stmt) (o n : ℕ) (error : SettleError) → n ≡ o → IsLong r error → Faulted o n error
long_cause r o n (errors.TooLarge k) same h = same
long_cause r o n errors.NoMemory same h = same
long_cause r o n (errors.Refused x) same h = same
long_cause r o n errors.Draws same h = absurd h
