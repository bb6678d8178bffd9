-- One step of the machine, over tokens with their places.
use Rattle.std.proofs.Common.{ℕ, ◌+◌, ◌≡◌, ◌≤◌, ◌<◌, ◌∷◌, [], List, map, length, Option, Some, None, Result, Ok, Err, Bool, true, false, cond, refl, ap, ◌∙◌, sym, subst, arith}
use Rattle.std.specs.Prelude.{nat_le, ◌&&◌, MatchResult}
use Rattle.std.proofs.lemmas.Bool.Decides.{nat_tests}
use Rattle.rq_grammar.specs.declared.stmt.Stmt.{Stmt}
use Rattle.rq_automaton.specs.declared.frame.State.{State}
use Rattle.rq_grammar.specs.Depth as depth
use Rattle.rq_grammar.specs.Depth.{the_limits, open_behind}
use Rattle.rq_automaton.specs.Machine.{step, finish}
use Rattle.rq_automaton.specs.Weight.{weight, due, limited, one_later, going, or_nothing, parse_within}
use Rattle.rq_lexer.specs.declared.placed.Placed.{Placed}
use Rattle.rq_lexer.specs.Facts as lexing
use Rattle.rq_machine.specs.declared.stop.Stop.{Stop}
use Rattle.rq_machine.specs.Stop.{stop_of}
use Rattle.rq_sql.specs.declared.error.ReadError.{ReadError}
use Rattle.rq_sql.specs.declared.error.ReadError.TheVariants as e
use Rattle.rq_sql.specs.declared.steps.Next.{Next}
use Rattle.rq_sql.specs.Read.{at_token}
use Rattle.rq_sql.specs.Running.{told, runs, IsNext}

later : (size : ℕ) (p : Placed) (ps : List Placed) (o : Result Stmt (depth.Stop × ℕ)) → told size (p ∷ ps) (one_later o) ≡ told size ps o
later size p ps (Ok r) = refl
later size p ps (Err k) = refl

further : (size n : ℕ) (q z : State) (p : Placed) (ps : List Placed) → limited the_limits (open_behind n p.token) (step q p.token) ≡ Ok z → runs size n q (p ∷ ps) ≡ runs size (open_behind n p.token) z ps
unfolding runs parse_within
further size n q z p ps h = ap (λ o. told size (p ∷ ps) (going o (λ next. parse_within the_limits (open_behind n p.token) next (map (λ p. p.token) ps)))) h ∙ later size p ps (parse_within the_limits (open_behind n p.token) z (map (λ p. p.token) ps))

refused : (size n : ℕ) (q : State) (stop : depth.Stop) (p : Placed) (ps : List Placed) → limited the_limits (open_behind n p.token) (step q p.token) ≡ Err stop → runs size n q (p ∷ ps) ≡ Err (at_token stop p)
unfolding runs parse_within
refused size n q stop p ps h = ap (λ o. told size (p ∷ ps) (going o (λ next. parse_within the_limits (open_behind n p.token) next (map (λ p. p.token) ps)))) h

ended : (size n : ℕ) (q : State) → runs size n q [] ≡ told size [] (or_nothing (finish q))
unfolding runs parse_within
ended size n q = refl

abbrev chosen : Bool → State → Result State depth.Stop
chosen b q = cond b (Ok q) (Err depth.TooDeep)

is_chosen : (b : Bool) (q z : State) → chosen b q ≡ Ok z → b ≡ true
is_chosen true q z h = refl
is_chosen false q z h = absurd (cc)

below : (w n d : ℕ) → (nat_le w 100 && nat_le (n + d) 250) ≡ true → n ≤ 250
below w n d h = grind (arith, nat_tests)

narrow : (n : ℕ) (o : Option State) (z : State) → limited the_limits n o ≡ Ok z → n ≤ 250
narrow n None z h = absurd (cc)
narrow n (Some q) z h = below (weight q) n (due q) (is_chosen (nat_le (weight q) 100 && nat_le (n + due q) 250) q z h)

-- ---- what a call answered

abbrev Advanced : Result State depth.Stop → Result State Stop → Type 0
Advanced is r = MatchResult r (λ q. is ≡ Ok q) (λ stop. is ≡ Err (stop_of stop))

by_ok : (is : Result State depth.Stop) (r : Result State Stop) (z : State) → Advanced is r → r ≡ Ok z → is ≡ Ok z
by_ok is (Ok q) z h k = cc
by_ok is (Err stop) z h k = absurd (cc)

by_err : (is : Result State depth.Stop) (r : Result State Stop) (stop : Stop) → Advanced is r → r ≡ Err stop → is ≡ Err (stop_of stop)
by_err is (Ok q) stop h k = absurd (cc)
by_err is (Err s) stop h k = cc

error_is : (size n : ℕ) (q : State) (old new : List Placed) (x : ReadError) → runs size n q old ≡ Err x → IsNext size n q old new (Err x)
error_is size n q old new (e.TooLong m) h = h
error_is size n q old new (e.Near from upto) h = h
error_is size n q old new (e.NotInProfile from upto) h = h
error_is size n q old new (e.TooDeep m) h = h
error_is size n q old new e.NoMemory h = tt

-- the machine has gone on with a token
pub on_ok : (n m : ℕ) (q z : State) (p : Placed) (r : Result State Stop) → Advanced (limited the_limits (open_behind n p.token) (step q p.token)) r → r ≡ Ok z → m ≡ open_behind n p.token → (size : ℕ) (ps : List Placed) → (runs size n q (p ∷ ps) ≡ runs size m z ps) × (m ≤ 250) × (length ps < length (p ∷ ps))
on_ok n m q z p r h k is size ps =
    let l = by_ok (limited the_limits (open_behind n p.token) (step q p.token)) r z h k in
    (further size n q z p ps l ∙ ap (λ j. runs size j z ps) (sym is), subst (λ j. j ≤ 250) (sym is) (narrow (open_behind n p.token) (step q p.token) z l), omega arith)

-- the machine has refused a token
pub on_err : (n : ℕ) (q : State) (p : Placed) (r : Result State Stop) (stop : Stop) (x : ReadError) → Advanced (limited the_limits (open_behind n p.token) (step q p.token)) r → r ≡ Err stop → x ≡ at_token (stop_of stop) p → (size : ℕ) (ps : List Placed) → IsNext size n q (p ∷ ps) ps (Err x)
on_err n q p r stop x h k is size ps =
    error_is size n q (p ∷ ps) ps x (refused size n q (stop_of stop) p ps (by_err (limited the_limits (open_behind n p.token) (step q p.token)) r stop h k) ∙ ap Err (sym is))

-- the tokens have ended
pub at_end_some : (size : ℕ) (q : State) (r : Stmt) → Some r ≡ finish q → (n : ℕ) → runs size n q [] ≡ Ok r
at_end_some size q r h n = ended size n q ∙ ap (λ o. told size [] (or_nothing o)) (sym h)

pub at_end_none : (size : ℕ) (q : State) → None ≡ finish q → (n : ℕ) → runs size n q [] ≡ Err (e.Near size size)
at_end_none size q h n = ended size n q ∙ ap (λ o. told size [] (or_nothing o)) (sym h)

-- the lexer has given a token, or none
pub took : (size n : ℕ) (q : State) (old new : List Placed) (o : Option Placed) (p : Placed) (r : Result Next ReadError) → lexing.IsNext old new (Ok o) → o ≡ Some p → ((size : ℕ) (more : List Placed) → IsNext size n q (p ∷ more) more r) → IsNext size n q old new r
took size n q old new None p r h k on = absurd (cc)
took size n q old new (Some p') p r h k on =
    let is : old ≡ p ∷ new = cc in
    subst (λ z. IsNext size n q z new r) (sym is) (on size new)

pub took_none : (size n : ℕ) (q : State) (old new : List Placed) (o : Option Placed) (r : Result Next ReadError) → lexing.IsNext old new (Ok o) → o ≡ None → ((n : ℕ) → IsNext size n q [] [] r) → IsNext size n q old new r
took_none size n q old new (Some p') r h k on = absurd (cc)
took_none size n q old new None r h k on = subst (λ z. IsNext size n q z new r) (sym h.0) (subst (λ z. IsNext size n q [] z r) (sym h.1) (on n))
