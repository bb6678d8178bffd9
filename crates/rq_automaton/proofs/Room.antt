-- The least depth of a stack, from its two numbers.
use Rattle.std.proofs.Common.{◌≡◌, ℕ, suc, ◌+◌, max, false, [], ◌∷◌, arith}
use Rattle.rq_automaton.specs.declared.frame.Clause.{Clause}
use Rattle.rq_automaton.specs.declared.frame.Clause.TheVariants as c
use Rattle.rq_automaton.specs.declared.frame.Frame.{Frame}
use Rattle.rq_automaton.specs.declared.frame.Frame.TheVariants as f
use Rattle.rq_automaton.specs.Stack.{Stack}
use Rattle.rq_grammar.specs.Depth.{depth, depths}
use Rattle.rq_automaton.specs.Weight.{least}
use Rattle.rq_automaton.specs.Load.{clause_least, is_clause, needs, adds, height, floor}

clause_least_is : (k : Clause) (d : ℕ) → clause_least k d ≡ max (clause_least k 0) d
clause_least_is (c.Row i rs xs) d = omega arith
clause_least_is (c.Results q) d = omega arith
clause_least_is (c.Filter q) d = omega arith
clause_least_is (c.Order q) d = omega arith
clause_least_is (c.Limit q) d = omega arith
clause_least_is (c.Offset q) d = omega arith
clause_least_is (c.Set n is m) d = omega arith
clause_least_is (c.UpdateFilter n is) d = omega arith
clause_least_is (c.DeleteFilter n) d = omega arith

pub least_is : (st : Stack) (d : ℕ) → least st d ≡ max (floor st) (d + height st)
least_is [] d = omega arith
least_is (f.Binary o a ∷ st) d = omega (arith, least_is st (suc (max (depth a) d)))
least_is (f.Not ∷ st) d = omega (arith, least_is st (suc d))
least_is (f.Plus ∷ st) d = omega (arith, least_is st d)
least_is (f.Minus ∷ st) d = omega (arith, least_is st (suc d))
least_is (f.Low b a ∷ st) d = omega (arith, least_is st (suc (max (depth a) (max d 1))))
least_is (f.High b a a' ∷ st) d = omega (arith, least_is st (suc (max (depth a) (max (depth a') d))))
least_is (f.Paren ∷ st) d = omega (arith, least_is st d)
least_is (f.Args n xs ∷ st) d = omega (arith, least_is st (suc (max 1 (max (depths xs) d))))
least_is (f.Among b a xs ∷ st) d = omega (arith, least_is st (suc (max (depth a) (max (depths xs) d))))
least_is (f.Clause k ∷ st) d = omega (arith, clause_least_is k d)

-- the two numbers of a frame that is put on a stack
pub floor_on : (g : Frame) (st : Stack) → is_clause g ≡ false → floor (g ∷ st) ≡ max (floor st) (needs g + height st)
floor_on f.Not st h = omega arith
floor_on f.Plus st h = omega arith
floor_on f.Minus st h = omega arith
floor_on f.Paren st h = omega arith
floor_on (f.Binary o a) st h = omega arith
floor_on (f.Low b a) st h = omega arith
floor_on (f.High b a a') st h = omega arith
floor_on (f.Args n xs) st h = omega arith
floor_on (f.Among b a xs) st h = omega arith
floor_on (f.Clause k) st h = absurd (cc)

pub height_on : (g : Frame) (st : Stack) → is_clause g ≡ false → height (g ∷ st) ≡ adds g + height st
height_on f.Not st h = omega arith
height_on f.Plus st h = omega arith
height_on f.Minus st h = omega arith
height_on f.Paren st h = omega arith
height_on (f.Binary o a) st h = omega arith
height_on (f.Low b a) st h = omega arith
height_on (f.High b a a') st h = omega arith
height_on (f.Args n xs) st h = omega arith
height_on (f.Among b a xs) st h = omega arith
height_on (f.Clause k) st h = absurd (cc)
