-- What becomes of an expression.
use Rattle.std.proofs.Common.{◌≡◌, List, [], ◌∷◌, map, refl, sym, ap, ◌∙◌}
use Rattle.rq_values.specs.declared.value.Value.{Value}
use Rattle.rq_grammar.specs.Words.{Text}
use Rattle.rq_grammar.specs.declared.expr.Expr.{Expr}
use Rattle.rq_grammar.specs.declared.expr.Expr.TheVariants as e
use Rattle.rq_grammar.specs.declared.expr.Expr.TheOpen.{Expr-F}
use Rattle.rq_grammar.specs.declared.expr.Expr.TheViews.{roll-Expr}
use Rattle.rq_grammar.specs.declared.expr.Expr.TheFolds.{fold-roll-Expr, ind-Expr, map-Expr}
use Rattle.rq_binding.specs.declared.node.Sort.{Sort}
use Rattle.rq_binding.specs.Nodes.{call_node, literal_of}
use Rattle.rq_binding.specs.Filled.{Filling, fill_step, filling, filled, all_filled, filled_call}

layer : (s : Sort) (x : Expr-F Expr) → (fill_step s (map-Expr Expr Filling (filling s) x)).literal ≡ literal_of (roll-Expr x)
unfolding roll-Expr denote.Hole.Carrier.roll
layer s (Expr-F.Literal a) = refl
layer s _ = refl

pub filling_literal : (s : Sort) (a : Expr) → (filling s a).literal ≡ literal_of a
filling_literal s = ind-Expr (λ a. (filling s a).literal ≡ literal_of a) (λ x y is. ap (λ z. z.literal) (fold-roll-Expr Filling (fill_step s) x) ∙ layer s x)

pub filling_literals : (s : Sort) (xs : List Expr) → map (λ a. a.literal) (map (filling s) xs) ≡ map literal_of xs
filling_literals s [] = refl
filling_literals s (a ∷ b) = let h : (filling s a).literal ≡ literal_of a = filling_literal s a in let k : map (λ a. a.literal) (map (filling s) b) ≡ map literal_of b = filling_literals s b in cc

pub call_filled : (s : Sort) (n : Text) (xs : List Expr) (left : List Value) → filled s (e.Call n xs) left ≡ filled_call (call_node s n (map literal_of xs)) n (all_filled s xs) left
unfolding roll-Expr denote.Hole.Carrier.roll
call_filled s n xs left = ap (λ z. z.fill left) (fold-roll-Expr Filling (fill_step s) (Expr-F.Call n xs)) ∙ ap (λ ls. filled_call (call_node s n ls) n (all_filled s xs) left) (filling_literals s xs)

pub call_became : (s : Sort) (n : Text) (xs ys : List Expr) (r : Expr) (left : List Value) (y : Expr × List Value) → r ≡ e.Call n xs → ys ≡ xs → filled_call (call_node s n (map literal_of ys)) n (all_filled s ys) left ≡ y → filled s r left ≡ y
call_became s n xs ys r left y h k g = ap (λ z. filled s z left) h ∙ call_filled s n xs left ∙ ap (λ z. filled_call (call_node s n (map literal_of z)) n (all_filled s z) left) (sym k) ∙ g
