-- A history with one event more.
use Rattle.std.proofs.Common.{◌≡◌, ℕ, zero, suc, ◌+◌, List, [], ◌∷◌, ◌++◌, refl, ap, sym, subst, ◌∙◌, length, drop, slice_get, Some, length-append, arith, Bool, true, false}
use Rattle.rq_node.specs.declared.event.Event.{Event}
use Rattle.rq_node.specs.declared.event.Event.TheVariants.{Execute, Query, Elect, Apply}
use Rattle.rq_node.specs.Events.{rule, IsLeft}
use Rattle.rq_node.specs.Node.{Node, Turn, unchanged}
use Rattle.rq_hub.specs.Runs.{stepped, ran, run, is_apply}

ran_snoc : (turn : Turn) (events : List Event) (event : Event) → ran turn (events ++ event ∷ []) ≡ stepped (ran turn events) event
ran_snoc turn [] event = refl
ran_snoc turn (e ∷ events) event = ran_snoc (stepped turn e) events event

pub run_snoc : (start : Node) (events : List Event) (event : Event) → run start (events ++ event ∷ []) ≡ stepped (run start events) event
run_snoc start events event = ran_snoc (unchanged start) events event

drop_all : {A : Type 0} (xs ys : List A) → drop (length xs) (xs ++ ys) ≡ ys
drop_all [] ys = refl
drop_all (x ∷ xs) ys = drop_all xs ys

-- the answers of the last event stand behind those before it
pub given_last : (start : Node) (events : List Event) (event : Event) → drop (length (run start events).answers) (run start (events ++ event ∷ [])).answers ≡ (rule event (run start events).node).answers
given_last start events event = ap (λ (t : Turn). drop (length (run start events).answers) t.answers) (run_snoc start events event) ∙ drop_all (run start events).answers (rule event (run start events).node).answers

pub more_answers : (start : Node) (events : List Event) (event : Event) → length (run start (events ++ event ∷ [])).answers ≡ length (run start events).answers + length (rule event (run start events).node).answers
more_answers start events event = ap (λ (t : Turn). length t.answers) (run_snoc start events event) ∙ length-append (run start events).answers (rule event (run start events).node).answers

-- what stands first behind the first ones, and what stands behind it
pub first_behind : {A : Type 0} (xs ys : List A) (n : ℕ) (x : A) → drop n xs ≡ x ∷ ys → slice_get xs n ≡ Some x
first_behind [] ys zero x e = absurd (cc e)
first_behind [] ys (suc n) x e = absurd (cc e)
first_behind (z ∷ xs) ys zero x e = cc e
first_behind (z ∷ xs) ys (suc n) x e = first_behind xs ys n x e

pub rest_behind : {A : Type 0} (xs ys : List A) (n : ℕ) (x : A) → drop n xs ≡ x ∷ ys → drop (n + 1) xs ≡ ys
rest_behind [] ys zero x e = absurd (cc e)
rest_behind [] ys (suc n) x e = absurd (cc e)
rest_behind (z ∷ xs) ys zero x e = cc e
rest_behind (z ∷ xs) ys (suc n) x e =
    let next : suc n + 1 ≡ suc (n + 1) = omega arith in
    ap (λ (k : ℕ). drop k (z ∷ xs)) next ∙ rest_behind xs ys n x e

-- but for an Apply, want of memory leaves a node as it was
pub left_same : (event : Event) (old new : Node) → is_apply event ≡ false → IsLeft event old new → new ≡ old
left_same (Execute number items) old new e left = left
left_same (Query number items) old new e left = left
left_same Elect old new e left = left
left_same Apply old new e left = absurd (cc e)
