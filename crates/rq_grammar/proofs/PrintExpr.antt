-- What is printed is spelled so.
use Rattle.std.proofs.Common.{◌≡◌, ℕ, suc, ◌<◌, ◌^◌, Bool, true, false, List, [], ◌∷◌, ◌++◌, map, Option, refl, sym, ◌∙◌, ap, subst, append_assoc, append-nil, arith, pos, negsuc}
use Rattle.std.specs.Prelude.{nat_lt, ◌&&◌, not, codes, bytes_eq}
use Rattle.std.proofs.lemmas.Bool.{leb-true}
use Rattle.std.proofs.lemmas.Slice.Eq.{bytes_eq-Decides}
use Rattle.std.proofs.lemmas.Bool.Decides.{nat_tests}
use Rattle.rq_values.specs.declared.value.Value.TheVariants as v
use Rattle.rq_grammar.specs.declared.word.Word.TheVariants as w
use Rattle.rq_grammar.specs.declared.token.Token.TheVariants as t
use Rattle.rq_grammar.specs.declared.expr.BinaryOp.{BinaryOp}
use Rattle.rq_grammar.specs.declared.expr.BinaryOp.TheVariants as op
use Rattle.rq_grammar.specs.declared.expr.Expr.{Expr}
use Rattle.rq_grammar.specs.declared.expr.Expr.TheVariants as e
use Rattle.rq_values.specs.declared.value.Value.{Value}
use Rattle.rq_grammar.specs.declared.expr.Expr.TheOpen.{Expr-F}
use Rattle.rq_grammar.specs.declared.expr.Expr.TheViews.{roll-Expr}
use Rattle.rq_grammar.specs.declared.expr.Expr.TheFolds.{fold-roll-Expr, ind-Expr, map-Expr}
use Rattle.rq_grammar.specs.Words.{Text, Tokens, is_reserved, is_time, quoted_inside}
use Rattle.rq_grammar.specs.Spelling.{word_of}
use Rattle.rq_grammar.specs.Grammar as G
use Rattle.rq_grammar.specs.Grammar.{upper}
use Rattle.rq_grammar.specs.Print as P
use Rattle.rq_grammar.specs.Print.{Front, word, operator, denial, more, commas, prefix_step, prefix, tokens_of}
use Rattle.rq_grammar.specs.Proper.{all_of, proper_step, is_proper, is_literal, is_callee, is_parameter}

abbrev Printed : Expr → Type 0
Printed a = is_proper a ≡ true → (k : ℕ) (y : Tokens) → G.At k (prefix a y) a y

spelled : (o : BinaryOp) (y : Tokens) → G.Spelled o (operator o y) y
spelled op.Or y = G.or_word
spelled op.And y = G.and_word
spelled op.Equal y = G.equal
spelled op.NotEqual y = G.less_greater
spelled op.Is y = G.is_word
spelled op.IsNot y = G.is_not
spelled op.Like y = G.like
spelled op.NotLike y = G.not_like
spelled op.Less y = G.less
spelled op.LessEqual y = G.less_equal
spelled op.Greater y = G.greater
spelled op.GreaterEqual y = G.greater_equal
spelled op.Add y = G.add
spelled op.Sub y = G.sub
spelled op.Mul y = G.mul
spelled op.Div y = G.div
spelled op.Rem y = G.rem
spelled op.Concat y = G.concat

denies : (d : Bool) (y : Tokens) → G.Denial d (denial d y) y
denies true y = G.denied
denies false y = G.plain

pub both : (a b : Bool) → (a && b) ≡ true → (a ≡ true) × (b ≡ true)
both true true h = (refl, h)
both true false h = absurd (cc)
both false b h = absurd (cc)

negated : (b : Bool) → not b ≡ true → b ≡ false
negated false h = refl
negated true h = absurd (cc)

-- ---- the equations of the two folds

module _ (y : Tokens) where
  prefix_literal : (a : Value) → prefix (e.Literal a) y ≡ P.literal a y
  unfolding roll-Expr denote.Hole.Carrier.roll
  prefix_literal a = ap (λ f. f y) (fold-roll-Expr Front prefix_step (Expr-F.Literal a))

  prefix_param : (n : Option Text) → prefix (e.Param n) y ≡ t.Parameter n ∷ y
  unfolding roll-Expr denote.Hole.Carrier.roll
  prefix_param n = ap (λ f. f y) (fold-roll-Expr Front prefix_step (Expr-F.Param n))

  prefix_name : (n : Text) → prefix (e.Name n) y ≡ t.Quoted n ∷ y
  unfolding roll-Expr denote.Hole.Carrier.roll
  prefix_name n = ap (λ f. f y) (fold-roll-Expr Front prefix_step (Expr-F.Name n))

  prefix_qualified : (n m : Text) → prefix (e.Qualified n m) y ≡ t.Quoted n ∷ t.Dot ∷ t.Quoted m ∷ y
  unfolding roll-Expr denote.Hole.Carrier.roll
  prefix_qualified n m = ap (λ f. f y) (fold-roll-Expr Front prefix_step (Expr-F.Qualified n m))

  prefix_timestamp : prefix e.CurrentTimestamp y ≡ word (codes "CURRENT_TIMESTAMP") w.CurrentTimestamp ∷ y
  unfolding roll-Expr denote.Hole.Carrier.roll
  prefix_timestamp = ap (λ f. f y) (fold-roll-Expr Front prefix_step Expr-F.CurrentTimestamp)

  prefix_date : prefix e.CurrentDate y ≡ word (codes "CURRENT_DATE") w.CurrentDate ∷ y
  unfolding roll-Expr denote.Hole.Carrier.roll
  prefix_date = ap (λ f. f y) (fold-roll-Expr Front prefix_step Expr-F.CurrentDate)

  prefix_time : prefix e.CurrentTime y ≡ word (codes "CURRENT_TIME") w.CurrentTime ∷ y
  unfolding roll-Expr denote.Hole.Carrier.roll
  prefix_time = ap (λ f. f y) (fold-roll-Expr Front prefix_step Expr-F.CurrentTime)

  prefix_count : prefix e.CountAll y ≡ word (codes "COUNT") w.Count ∷ t.Open ∷ t.Star ∷ t.Close ∷ y
  unfolding roll-Expr denote.Hole.Carrier.roll
  prefix_count = ap (λ f. f y) (fold-roll-Expr Front prefix_step Expr-F.CountAll)

  prefix_call : (n : Text) (xs : List Expr) → prefix (e.Call n xs) y ≡ t.Word n (word_of n) ∷ t.Open ∷ commas (map prefix xs) (t.Close ∷ y)
  unfolding roll-Expr denote.Hole.Carrier.roll
  prefix_call n xs = ap (λ f. f y) (fold-roll-Expr Front prefix_step (Expr-F.Call n xs))

  prefix_minus : (a : Expr) → prefix (e.Minus a) y ≡ t.Minus ∷ t.Open ∷ prefix a (t.Close ∷ y)
  unfolding roll-Expr denote.Hole.Carrier.roll
  prefix_minus a = ap (λ f. f y) (fold-roll-Expr Front prefix_step (Expr-F.Minus a))

  prefix_not : (a : Expr) → prefix (e.Not a) y ≡ t.Open ∷ word (codes "NOT") w.Not ∷ prefix a (t.Close ∷ y)
  unfolding roll-Expr denote.Hole.Carrier.roll
  prefix_not a = ap (λ f. f y) (fold-roll-Expr Front prefix_step (Expr-F.Not a))

  prefix_binary : (o : BinaryOp) (a b : Expr) → prefix (e.Binary o a b) y ≡ t.Open ∷ prefix a (operator o (prefix b (t.Close ∷ y)))
  unfolding roll-Expr denote.Hole.Carrier.roll
  prefix_binary o a b = ap (λ f. f y) (fold-roll-Expr Front prefix_step (Expr-F.Binary o a b))

  prefix_in : (d : Bool) (a : Expr) (xs : List Expr) → prefix (e.InList d a xs) y ≡ t.Open ∷ prefix a (denial d (word (codes "IN") w.In ∷ t.Open ∷ commas (map prefix xs) (t.Close ∷ t.Close ∷ y)))
  unfolding roll-Expr denote.Hole.Carrier.roll
  prefix_in d a xs = ap (λ f. f y) (fold-roll-Expr Front prefix_step (Expr-F.InList d a xs))

  prefix_between : (d : Bool) (a b c : Expr) → prefix (e.Between d a b c) y ≡ t.Open ∷ prefix a (denial d (word (codes "BETWEEN") w.Between ∷ prefix b (word (codes "AND") w.And ∷ prefix c (t.Close ∷ y))))
  unfolding roll-Expr denote.Hole.Carrier.roll
  prefix_between d a b c = ap (λ f. f y) (fold-roll-Expr Front prefix_step (Expr-F.Between d a b c))

pub proper_literal : (a : Value) → is_proper (e.Literal a) ≡ is_literal a
unfolding roll-Expr denote.Hole.Carrier.roll
proper_literal a = fold-roll-Expr Bool proper_step (Expr-F.Literal a)

pub proper_param : (n : Option Text) → is_proper (e.Param n) ≡ is_parameter n
unfolding roll-Expr denote.Hole.Carrier.roll
proper_param n = fold-roll-Expr Bool proper_step (Expr-F.Param n)

pub proper_call : (n : Text) (xs : List Expr) → is_proper (e.Call n xs) ≡ (is_callee n && all_of (map is_proper xs))
unfolding roll-Expr denote.Hole.Carrier.roll
proper_call n xs = fold-roll-Expr Bool proper_step (Expr-F.Call n xs)

pub proper_minus : (a : Expr) → is_proper (e.Minus a) ≡ is_proper a
unfolding roll-Expr denote.Hole.Carrier.roll
proper_minus a = fold-roll-Expr Bool proper_step (Expr-F.Minus a)

pub proper_not : (a : Expr) → is_proper (e.Not a) ≡ is_proper a
unfolding roll-Expr denote.Hole.Carrier.roll
proper_not a = fold-roll-Expr Bool proper_step (Expr-F.Not a)

pub proper_binary : (o : BinaryOp) (a b : Expr) → is_proper (e.Binary o a b) ≡ (is_proper a && is_proper b)
unfolding roll-Expr denote.Hole.Carrier.roll
proper_binary o a b = fold-roll-Expr Bool proper_step (Expr-F.Binary o a b)

pub proper_in : (d : Bool) (a : Expr) (xs : List Expr) → is_proper (e.InList d a xs) ≡ (is_proper a && all_of (map is_proper xs))
unfolding roll-Expr denote.Hole.Carrier.roll
proper_in d a xs = fold-roll-Expr Bool proper_step (Expr-F.InList d a xs)

pub proper_between : (d : Bool) (a b c : Expr) → is_proper (e.Between d a b c) ≡ (is_proper a && (is_proper b && is_proper c))
unfolding roll-Expr denote.Hole.Carrier.roll
proper_between d a b c = fold-roll-Expr Bool proper_step (Expr-F.Between d a b c)

-- ---- each node

at_prefix : {k : ℕ} {x z : Tokens} {a : Expr} {y : Tokens} → x ≡ z → G.At k z a y → G.At k x a y
at_prefix {k = k} {a = a} {y = y} is q = subst (λ x. G.At k x a y) (sym is) q

below : (a b : ℕ) → nat_lt a b ≡ true → a < b
below a b h = grind (arith, nat_tests)

print_literal : (a : Value) → is_literal a ≡ true → (k : ℕ) (y : Tokens) → G.At k (P.literal a y) (e.Literal a) y
print_literal v.Null h k y = G.atom G.null
print_literal (v.Int (pos n)) h k y = G.atom (G.number (below n (2 ^ 63) h))
print_literal (v.Int (negsuc n)) h k y = G.negative {n = suc n} (leb-true (suc n) (2 ^ 63) h)
print_literal (v.Text n) h k y = G.atom G.text
print_literal (v.Blob n) h k y = G.atom G.blob

print_minus : (a : Expr) → Printed a → Printed (e.Minus a)
print_minus a q h k y = at_prefix (prefix_minus y a) (G.minus refl (G.paren (q (sym (proper_minus a) ∙ h) 0 (t.Close ∷ y))))

print_not : (a : Expr) → Printed a → Printed (e.Not a)
print_not a q h k y = at_prefix (prefix_not y a) (G.paren (G.not (omega arith) (q (sym (proper_not a) ∙ h) 3 (t.Close ∷ y))))

print_binary : (o : BinaryOp) (a b : Expr) → Printed a → Printed b → Printed (e.Binary o a b)
print_binary o a b q r h k y = let c = both (is_proper a) (is_proper b) (sym (proper_binary o a b) ∙ h) in at_prefix (prefix_binary y o a b) (G.paren (G.binary (omega arith) (q c.0 _ _) (spelled o _) (r c.1 _ _)))

print_between : (d : Bool) (a b c : Expr) → Printed a → Printed b → Printed c → Printed (e.Between d a b c)
print_between d a b c q r r' h k y =
    let i = both (is_proper a) (is_proper b && is_proper c) (sym (proper_between d a b c) ∙ h) in
    let j = both (is_proper b) (is_proper c) i.1 in
    at_prefix (prefix_between y d a b c) (G.paren (G.between (omega arith) (q i.0 _ _) (denies d _) (r j.0 _ _) (r' j.1 _ _)))

-- a list, behind the items xs
abbrev Item : Type 0
Item = (x : Expr) × Printed x

abbrev bare_of : List Item → List Expr
bare_of = map (λ i. i.0)

print_more : {x : Tokens} (y : Tokens) (xs : List Expr) (es : List Item) → all_of (map is_proper (bare_of es)) ≡ true → G.Some_of x xs (more (map prefix (bare_of es)) y) → G.Some_of x (xs ++ bare_of es) y
print_more {x = x} y xs [] h q = subst (λ zs. G.Some_of x zs y) (sym (append-nil xs)) q
print_more {x = x} y xs (i ∷ es) h q =
    let c = both (is_proper i.0) (all_of (map is_proper (bare_of es))) h in
    subst (λ zs. G.Some_of x zs y) (append_assoc xs (i.0 ∷ []) (bare_of es)) (print_more y (xs ++ i.0 ∷ []) es c.1 (G.more q (i.1 c.0 0 _)))

print_listed : (y : Tokens) (es : List Item) → all_of (map is_proper (bare_of es)) ≡ true → G.Listed (commas (map prefix (bare_of es)) (t.Close ∷ y)) (bare_of es) y
print_listed y [] h = G.none
print_listed y (i ∷ es) h =
    let c = both (is_proper i.0) (all_of (map is_proper (bare_of es))) h in
    G.some (print_more (t.Close ∷ y) (i.0 ∷ []) es c.1 (G.one (i.1 c.0 0 _)))

-- a list of bytes is what it is compared with
same_bytes : (a b : List ℕ) → bytes_eq a b ≡ true → a ≡ b
same_bytes a b h = (bytes_eq-Decides a b).0 h

print_call : (n : Text) (es : List Item) → Printed (e.Call n (bare_of es))
print_call n es h k y =
    let c = both (is_callee n) (all_of (map is_proper (bare_of es))) (sym (proper_call n (bare_of es)) ∙ h) in
    let d = both (Rattle.rq_grammar.specs.Spelling.is_bare n) (bytes_eq (upper n) n && (not (is_reserved (word_of n)) && not (is_time (word_of n)))) c.0 in
    let g = both (bytes_eq (upper n) n) (not (is_reserved (word_of n)) && not (is_time (word_of n))) d.1 in
    let j = both (not (is_reserved (word_of n))) (not (is_time (word_of n))) g.1 in
    at_prefix (prefix_call y n (bare_of es)) (subst (λ m. G.At k (t.Word n (word_of n) ∷ t.Open ∷ commas (map prefix (bare_of es)) (t.Close ∷ y)) (e.Call m (bare_of es)) y) (same_bytes (upper n) n g.0) (G.call (negated _ j.0) (negated _ j.1) (print_listed y es c.1)))

print_in : (d : Bool) (a : Expr) (es : List Item) → Printed a → Printed (e.InList d a (bare_of es))
print_in d a es q h k y =
    let c = both (is_proper a) (all_of (map is_proper (bare_of es))) (sym (proper_in d a (bare_of es)) ∙ h) in
    at_prefix (prefix_in y d a (bare_of es)) (G.paren (G.among (omega arith) (q c.0 _ _) (denies d _) (print_listed (t.Close ∷ y) es c.1)))

layer : (y : Expr-F Item) → Printed (roll-Expr (map-Expr Item Expr (λ i. i.0) y))
unfolding roll-Expr denote.Hole.Carrier.roll
layer (Expr-F.Literal a) = λ h k y. at_prefix (prefix_literal y a) (print_literal a (sym (proper_literal a) ∙ h) k y)
layer (Expr-F.Param n) = λ h k y. at_prefix (prefix_param y n) (G.atom G.param)
layer (Expr-F.Name n) = λ h k y. at_prefix (prefix_name y n) (G.name quoted_inside)
layer (Expr-F.Qualified n m) = λ h k y. at_prefix (prefix_qualified y n m) (G.qualified quoted_inside quoted_inside)
layer Expr-F.CurrentTimestamp = λ h k y. at_prefix (prefix_timestamp y) (G.atom G.current_timestamp)
layer Expr-F.CurrentDate = λ h k y. at_prefix (prefix_date y) (G.atom G.current_date)
layer Expr-F.CurrentTime = λ h k y. at_prefix (prefix_time y) (G.atom G.current_time)
layer Expr-F.CountAll = λ h k y. at_prefix (prefix_count y) G.count_all
layer (Expr-F.Call n es) = print_call n es
layer (Expr-F.Minus a) = print_minus a.0 a.1
layer (Expr-F.Not a) = print_not a.0 a.1
layer (Expr-F.Binary o a b) = print_binary o a.0 b.0 a.1 b.1
layer (Expr-F.InList d a es) = print_in d a.0 es a.1
layer (Expr-F.Between d a b c) = print_between d a.0 b.0 c.0 a.1 b.1 c.1

-- the canonical tokens of an expression are read as it, whatever follows and wherever it stands
pub printed : (a : Expr) → is_proper a ≡ true → (k : ℕ) (y : Tokens) → G.At k (prefix a y) a y
printed = ind-Expr Printed (λ x y is. subst (λ x. Printed (roll-Expr x)) is (layer y))
