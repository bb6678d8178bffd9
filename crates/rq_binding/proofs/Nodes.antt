-- What is seen of an expression.
use Rattle.std.proofs.Common.{Bool, append_assoc, ◌≡◌, List, [], ◌∷◌, ◌++◌, map, refl, sym, ap, ◌∙◌, Option, Some, None}
use Rattle.rq_grammar.specs.declared.expr.Expr.{Expr}
use Rattle.rq_grammar.specs.declared.expr.Expr.TheOpen.{Expr-F}
use Rattle.rq_grammar.specs.declared.expr.Expr.TheViews.{roll-Expr}
use Rattle.rq_grammar.specs.declared.expr.Expr.TheFolds.{fold-roll-Expr, ind-Expr, map-Expr}
use Rattle.rq_binding.specs.declared.node.Sort.{Sort}
use Rattle.rq_grammar.specs.Words.{Text}
use Rattle.rq_grammar.specs.declared.expr.BinaryOp.{BinaryOp}
use Rattle.rq_grammar.specs.declared.expr.Expr.TheVariants as e
use Rattle.rq_binding.specs.declared.node.Drawn.{Drawn}
use Rattle.rq_binding.specs.declared.node.Node.{Node}
use Rattle.rq_binding.specs.declared.node.Node.TheVariants as node
use Rattle.rq_binding.specs.Nodes.{call_node, node_or, literal_of, literals, Seen, seen_step, seen, joined, nodes, all_nodes}

pub joined_nodes : (s : Sort) (xs : List Expr) → joined (map (seen s) xs) ≡ all_nodes s xs
joined_nodes s [] = refl
joined_nodes s (a ∷ b) = ap (λ ns. nodes s a ++ ns) (joined_nodes s b)

-- one layer
layer : (s : Sort) (x : Expr-F Expr) → (seen_step s (map-Expr Expr Seen (seen s) x)).literal ≡ literal_of (roll-Expr x)
unfolding roll-Expr denote.Hole.Carrier.roll
layer s (Expr-F.Literal a) = refl
layer s _ = refl

pub seen_literal : (s : Sort) (a : Expr) → (seen s a).literal ≡ literal_of a
seen_literal s = ind-Expr (λ a. (seen s a).literal ≡ literal_of a) (λ x y is. ap (λ z. z.literal) (fold-roll-Expr Seen (seen_step s) x) ∙ layer s x)

pub literals_of : (s : Sort) (xs : List Expr) → literals (map (seen s) xs) ≡ map literal_of xs
literals_of s [] = refl
literals_of s (a ∷ b) = let h : (seen s a).literal ≡ literal_of a = seen_literal s a in let k : literals (map (seen s) b) ≡ map literal_of b = literals_of s b in cc

-- the nodes of each variant with parts
pub nodes_call : (s : Sort) (n : Text) (xs : List Expr) → nodes s (e.Call n xs) ≡ node_or (call_node s n (map literal_of xs)) (all_nodes s xs)
unfolding roll-Expr denote.Hole.Carrier.roll
nodes_call s n xs =
    ap (λ z. z.nodes) (fold-roll-Expr Seen (seen_step s) (Expr-F.Call n xs))
    ∙ ap (λ ls. node_or (call_node s n ls) (joined (map (seen s) xs))) (literals_of s xs)
    ∙ ap (node_or (call_node s n (map literal_of xs))) (joined_nodes s xs)

pub nodes_binary : (s : Sort) (o : BinaryOp) (a b : Expr) → nodes s (e.Binary o a b) ≡ nodes s a ++ nodes s b
unfolding roll-Expr denote.Hole.Carrier.roll
nodes_binary s o a b = ap (λ z. z.nodes) (fold-roll-Expr Seen (seen_step s) (Expr-F.Binary o a b))

pub nodes_in_list : (s : Sort) (d : Bool) (a : Expr) (xs : List Expr) → nodes s (e.InList d a xs) ≡ nodes s a ++ all_nodes s xs
unfolding roll-Expr denote.Hole.Carrier.roll
nodes_in_list s d a xs = ap (λ z. z.nodes) (fold-roll-Expr Seen (seen_step s) (Expr-F.InList d a xs)) ∙ ap (λ ns. nodes s a ++ ns) (joined_nodes s xs)

pub nodes_between : (s : Sort) (d : Bool) (a b c : Expr) → nodes s (e.Between d a b c) ≡ nodes s a ++ nodes s b ++ nodes s c
unfolding roll-Expr denote.Hole.Carrier.roll
nodes_between s d a b c = ap (λ z. z.nodes) (fold-roll-Expr Seen (seen_step s) (Expr-F.Between d a b c))

-- ---- what is gathered: r is the expression, and its parts are read as a, b and c

two : (x y z a b : List Node) → y ≡ x ++ a → z ≡ y ++ b → z ≡ x ++ (a ++ b)
two x y z a b h k = k ∙ ap (λ w. w ++ b) h ∙ append_assoc x a b

pub gathered_node : (s : Sort) (n m : Text) (xs ys : List Expr) (d : Drawn) (r : Expr) (o : Option Drawn) (x y : List Node) → r ≡ e.Call n xs → m ≡ n → ys ≡ xs → o ≡ Some d → o ≡ call_node s m (map literal_of ys) → y ≡ x ++ node.Drawn d ∷ [] → y ≡ x ++ nodes s r
gathered_node s n m xs ys d r o x y i j l g h k =
    let p : call_node s n (map literal_of xs) ≡ Some d = ap (λ a. call_node s a (map literal_of xs)) (sym j) ∙ ap (λ a. call_node s m (map literal_of a)) (sym l) ∙ sym h ∙ g in
    k ∙ ap (λ ns. x ++ ns) (sym (ap (nodes s) i ∙ nodes_call s n xs ∙ ap (λ a. node_or a (all_nodes s xs)) p))

pub gathered_call : (s : Sort) (n m : Text) (xs ys zs : List Expr) (r : Expr) (o : Option Drawn) (x y : List Node) → r ≡ e.Call n xs → m ≡ n → ys ≡ xs → zs ≡ xs → o ≡ None → o ≡ call_node s m (map literal_of ys) → y ≡ x ++ all_nodes s zs → y ≡ x ++ nodes s r
gathered_call s n m xs ys zs r o x y i j l f g h k =
    let p : call_node s n (map literal_of xs) ≡ None = ap (λ a. call_node s a (map literal_of xs)) (sym j) ∙ ap (λ a. call_node s m (map literal_of a)) (sym l) ∙ sym h ∙ g in
    k ∙ ap (λ ns. x ++ all_nodes s ns) f ∙ ap (λ ns. x ++ ns) (sym (ap (nodes s) i ∙ nodes_call s n xs ∙ ap (λ a. node_or a (all_nodes s xs)) p))

pub gathered_binary : (s : Sort) (o : BinaryOp) (a b a' b' r : Expr) (x y z : List Node) → r ≡ e.Binary o a b → a' ≡ a → b' ≡ b → y ≡ x ++ nodes s a' → z ≡ y ++ nodes s b' → z ≡ x ++ nodes s r
gathered_binary s o a b a' b' r x y z i j l h k = two x y z (nodes s a') (nodes s b') h k ∙ ap (λ w. x ++ w) (ap (λ u. nodes s u ++ nodes s b') j ∙ ap (λ u. nodes s a ++ nodes s u) l ∙ sym (ap (nodes s) i ∙ nodes_binary s o a b))

pub gathered_in_list : (s : Sort) (d : Bool) (a a' r : Expr) (xs ys : List Expr) (x y z : List Node) → r ≡ e.InList d a xs → a' ≡ a → ys ≡ xs → y ≡ x ++ nodes s a' → z ≡ y ++ all_nodes s ys → z ≡ x ++ nodes s r
gathered_in_list s d a a' r xs ys x y z i j l h k = two x y z (nodes s a') (all_nodes s ys) h k ∙ ap (λ w. x ++ w) (ap (λ u. nodes s u ++ all_nodes s ys) j ∙ ap (λ u. nodes s a ++ all_nodes s u) l ∙ sym (ap (nodes s) i ∙ nodes_in_list s d a xs))

pub gathered_between : (s : Sort) (d : Bool) (a b c a' b' c' r : Expr) (x y z u : List Node) → r ≡ e.Between d a b c → a' ≡ a → b' ≡ b → c' ≡ c → y ≡ x ++ nodes s a' → z ≡ y ++ nodes s b' → u ≡ z ++ nodes s c' → u ≡ x ++ nodes s r
gathered_between s d a b c a' b' c' r x y z u i j l m h k g =
    two x z u (nodes s a' ++ nodes s b') (nodes s c') (two x y z (nodes s a') (nodes s b') h k) g
    ∙ ap (λ w. x ++ w) (ap (λ v. nodes s v ++ nodes s b' ++ nodes s c') j ∙ ap (λ v. nodes s a ++ nodes s v ++ nodes s c') l ∙ ap (λ v. nodes s a ++ nodes s b ++ nodes s v) m ∙ sym (ap (nodes s) i ∙ nodes_between s d a b c))
