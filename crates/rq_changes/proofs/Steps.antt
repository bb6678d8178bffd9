-- What one step answers, and then the whole.
use Rattle.std.proofs.Common.{◌≡◌, Ok, Err, Some, None, refl, sym, ap, ◌∙◌}
use Rattle.std.specs.Option.{option_or}
use Rattle.rq_eval.specs.declared.error.StmtError.{StmtError}
use Rattle.rq_eval.specs.declared.error.EvalError.{EvalError}
use Rattle.rq_eval.specs.declared.error.EvalError.TheVariants.{Says, NoMemory}
use Rattle.rq_eval.specs.Outcome.{Outcome, then_with}
use Rattle.rq_results.specs.Checks.{Check}
use Rattle.rq_results.specs.Viewed.{IsSaid}
use Rattle.rq_select.specs.Select.{unless}
use Rattle.rq_meaning.specs.Running.{Goes}

pub said_goes : {A : Type 0} (o : Outcome A) (new : A) (s : StmtError) (e : EvalError) → IsSaid s e → o ≡ Err s → Goes o new (Err e)
said_goes o new s (Says w) h is = is ∙ ap Err (sym h)
said_goes o new s NoMemory h is = tt

pub goes_err : {A B : Type 0} (o : Outcome A) (f : A → Outcome B) (a : A) (b : B) (e : EvalError) → Goes o a (Err e) → Goes (then_with o f) b (Err e)
goes_err o f a b (Says w) h = ap (λ p. then_with p f) h
goes_err o f a b NoMemory h = tt

-- the first outcome that is Ok, and then the second
pub then_same : {A B : Type 0} (f g : A → Outcome B) (o : Outcome A) → ((x : A) → o ≡ Ok x → f x ≡ g x) → then_with o f ≡ then_with o g
then_same f g (Ok x) h = h x refl
then_same f g (Err w) h = refl

pub then_then : {A B C : Type 0} (o : Outcome A) (f : A → Outcome B) (g : B → Outcome C) → then_with (then_with o f) g ≡ then_with o (λ x. then_with (f x) g)
then_then (Ok x) f g = refl
then_then (Err w) f g = refl

-- what a check lets through
pub unless_ok : {A : Type 0} (c : Check) (o : Outcome A) (x : A) → unless c o ≡ Ok x → (c ≡ None) × (o ≡ Ok x)
unless_ok None o x h = (refl, h)
unless_ok (Some e) o x h = absurd (cc)

-- what a first outcome gave
pub then_ok : {A B : Type 0} (o : Outcome A) (f : A → Outcome B) (y : B) → then_with o f ≡ Ok y → (x : A) × (o ≡ Ok x) × (f x ≡ Ok y)
then_ok (Ok x) f y h = (x, refl, h)
then_ok (Err e) f y h = absurd (cc)

-- two checks, one behind the other
pub check_both : (a b : Check) → a ≡ None → b ≡ None → option_or a b ≡ None
check_both None None h k = refl
check_both None (Some e) h k = absurd (cc)
check_both (Some e) b h k = absurd (cc)

pub none_left : (a b : Check) → option_or a b ≡ None → (a ≡ None) × (b ≡ None)
none_left None b h = (refl, h)
none_left (Some e) b h = absurd (cc)
