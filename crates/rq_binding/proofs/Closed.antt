-- What has no parameter, no random node and no time node is closed.
use Rattle.std.proofs.Common.{◌≡◌, ℕ, Bool, true, false, ◌&&◌, List, [], ◌∷◌, ◌++◌, map, length, refl, sym, ap, subst, ◌∙◌, Option, Some, None, append-nil}
use Rattle.std.specs.Prelude.{codes, bytes_eq, ◌||◌, if◌then◌else◌}
use Rattle.rq_values.specs.declared.value.Value.{Value}
use Rattle.rq_values.specs.declared.value.Value.TheVariants as v
use Rattle.rq_grammar.specs.Words.{Text}
use Rattle.rq_grammar.specs.Proper.{all_of}
use Rattle.rq_grammar.specs.declared.expr.BinaryOp.{BinaryOp}
use Rattle.rq_grammar.specs.declared.expr.Expr.{Expr}
use Rattle.rq_grammar.specs.declared.expr.Expr.TheVariants as e
use Rattle.rq_grammar.specs.declared.expr.Expr.TheOpen.{Expr-F}
use Rattle.rq_grammar.specs.declared.expr.Expr.TheViews.{roll-Expr}
use Rattle.rq_grammar.specs.declared.expr.Expr.TheFolds.{fold-roll-Expr, ind-Expr, map-Expr}
use Rattle.rq_statement.specs.declared.sight.Sight.{Sight}
use Rattle.rq_statement.specs.declared.sight.Sight.TheVariants.{Now, Fixed, Open}
use Rattle.rq_statement.specs.Sights.{is_now as is_now_text, both, list_sight, around, is_moment_call, has_now, is_drawn, call_sight, sight_step, sight}
use Rattle.rq_statement.specs.Fixed.{is_closed, is_fixed}
use Rattle.rq_binding.specs.declared.node.Sort.{Sort}
use Rattle.rq_binding.specs.declared.node.Sort.TheVariants as sort
use Rattle.rq_binding.specs.declared.node.Part.TheVariants as part
use Rattle.rq_binding.specs.declared.node.Drawn.{Drawn}
use Rattle.rq_binding.specs.declared.node.Drawn.TheVariants as drawn
use Rattle.rq_binding.specs.declared.node.Node.{Node}
use Rattle.rq_binding.specs.declared.node.Node.TheVariants as node
use Rattle.rq_binding.specs.Nodes.{literal_of, is_now, drawn_call, node_or, nodes, all_nodes}
use Rattle.rq_binding.proofs.Nodes.{nodes_call}
use Rattle.rq_binding.proofs.Kept.{Made, no_more, nodes_at, made_minus, made_not, made_binary, made_in_list, made_between}

sight_at : (x : Expr-F Expr) → sight (roll-Expr x) ≡ sight_step (map-Expr Expr Sight sight x)
sight_at x = fold-roll-Expr Sight sight_step x

-- ---- sights

both_closed : (s t : Sight) → is_closed s ≡ true → is_closed t ≡ true → is_closed (both s t) ≡ true
both_closed Fixed t h k = k
both_closed Open t h k = absurd (cc)
both_closed Now Open h k = absurd (cc)
both_closed Now Now h k = refl
both_closed Now Fixed h k = refl

around_closed : (s : Sight) → is_closed s ≡ true → is_closed (around s) ≡ true
around_closed Open h = h
around_closed Now h = refl
around_closed Fixed h = refl

around_now : (s : Sight) → has_now (around s) ≡ false
around_now Open = refl
around_now Now = refl
around_now Fixed = refl

both_fixed : (s : Sight) → both s Fixed ≡ s
both_fixed Open = refl
both_fixed Now = refl
both_fixed Fixed = refl

text_now : (b : Bool) → has_now (if b then Now else Fixed) ≡ b
text_now true = refl
text_now false = refl

literal_now : (a : Value) → has_now (sight_step (Expr-F.Literal a)) ≡ is_now (Some a)
literal_now (v.Text t) = text_now (is_now_text t)
literal_now v.Null = refl
literal_now (v.Int n) = refl
literal_now (v.Blob bytes) = refl

text_closed : (b : Bool) → is_closed (if b then Now else Fixed) ≡ true
text_closed true = refl
text_closed false = refl

literal_closed : (a : Value) → is_closed (sight_step (Expr-F.Literal a)) ≡ true
literal_closed (v.Text t) = text_closed (is_now_text t)
literal_closed v.Null = refl
literal_closed (v.Int n) = refl
literal_closed (v.Blob bytes) = refl

call_now : (b : Bool) (s : Sight) → has_now (if b then Open else around s) ≡ false
call_now true s = refl
call_now false s = around_now s

-- what is seen as 'now' is that literal
now_layer : (x : Expr-F Expr) → has_now (sight_step (map-Expr Expr Sight sight x)) ≡ is_now (literal_of (roll-Expr x))
unfolding roll-Expr denote.Hole.Carrier.roll
now_layer (Expr-F.Literal a) = literal_now a
now_layer (Expr-F.Param n) = refl
now_layer (Expr-F.Name n) = refl
now_layer (Expr-F.Qualified n m) = refl
now_layer Expr-F.CurrentTimestamp = refl
now_layer Expr-F.CurrentDate = refl
now_layer Expr-F.CurrentTime = refl
now_layer Expr-F.CountAll = refl
now_layer (Expr-F.Call n xs) = call_now (is_drawn n (length (map sight xs)) (list_sight (map sight xs))) (list_sight (map sight xs))
now_layer (Expr-F.Minus a) = around_now (sight a)
now_layer (Expr-F.Not a) = around_now (sight a)
now_layer (Expr-F.Binary o a b) = around_now (both (sight a) (sight b))
now_layer (Expr-F.InList d a xs) = around_now (both (sight a) (list_sight (map sight xs)))
now_layer (Expr-F.Between d a b c) = around_now (both (sight a) (both (sight b) (sight c)))

sight_now : (a : Expr) → has_now (sight a) ≡ is_now (literal_of a)
sight_now = ind-Expr (λ a. has_now (sight a) ≡ is_now (literal_of a)) (λ x y is. ap has_now (sight_at x) ∙ now_layer x)

-- ---- calls

neither : {A : Type 0} (r m : Bool) (a b : A) → (if r then Some a else (if m then Some b else None)) ≡ None → (r || m) ≡ false
neither true m a b h = absurd (cc)
neither false true a b h = absurd (cc)
neither false false a b h = refl

-- a call that is no node isn't drawn
not_drawn : (n : Text) (xs : List Expr) → drawn_call n (map literal_of xs) ≡ None → is_drawn n (length (map sight xs)) (list_sight (map sight xs)) ≡ false
not_drawn n [] h = neither (bytes_eq n (codes "RANDOM")) (is_moment_call n) _ _ h
not_drawn n (a ∷ []) h =
    ap (λ i. bytes_eq n (codes "RANDOMBLOB") || (is_moment_call n && i)) (ap has_now (both_fixed (sight a)) ∙ sight_now a)
    ∙ neither (bytes_eq n (codes "RANDOMBLOB")) (is_moment_call n && is_now (literal_of a)) _ _ h
not_drawn n (a ∷ b ∷ xs) h = refl

around_call : (b : Bool) (s : Sight) → b ≡ false → (if b then Open else around s) ≡ around s
around_call true s h = absurd (cc)
around_call false s h = refl

no_node : (o : Option Drawn) (ns : List Node) → node_or o ns ≡ [] → (o ≡ None) × (ns ≡ [])
no_node (Some a) ns h = absurd (cc)
no_node None ns h = (refl, h)

-- ---- expressions, each beside the proof of its parts

abbrev pub Closed : Expr → Type 0
Closed a = nodes sort.Parameters a ≡ [] → nodes sort.Drawn a ≡ [] → is_closed (sight a) ≡ true

abbrev Item : Type 0
Item = (a : Expr) × Closed a

abbrev bare_of : List Item → List Expr
bare_of = map (λ i. i.0)

closed_list : (es : List Item) → all_nodes sort.Parameters (bare_of es) ≡ [] → all_nodes sort.Drawn (bare_of es) ≡ [] → is_closed (list_sight (map sight (bare_of es))) ≡ true
closed_list [] h k = refl
closed_list (i ∷ es) h k =
    let p = no_more (nodes sort.Parameters i.0) (all_nodes sort.Parameters (bare_of es)) h in
    let q = no_more (nodes sort.Drawn i.0) (all_nodes sort.Drawn (bare_of es)) k in
    both_closed (sight i.0) (list_sight (map sight (bare_of es))) (i.1 p.0 q.0) (closed_list es p.1 q.1)

-- an expression of parts, whose nodes are theirs
closed_made : (r : Expr) (g : Bool) (k : ℕ) (es : List Item) → Made sort.Drawn r g k (bare_of es) → sight r ≡ around (list_sight (map sight (bare_of es))) → Closed r
closed_made r g k es m is h d = ap is_closed is ∙ around_closed (list_sight (map sight (bare_of es))) (closed_list es (sym m.its_parameters ∙ h) (sym m.its_nodes ∙ d))

closed_call : (n : Text) (es : List Item) → sight (e.Call n (bare_of es)) ≡ call_sight n (length (map sight (bare_of es))) (list_sight (map sight (bare_of es))) → Closed (e.Call n (bare_of es))
closed_call n es is h d =
    let xs = bare_of es in
    let p = no_node (drawn_call n (map literal_of xs)) (all_nodes sort.Drawn xs) (sym (nodes_call sort.Drawn n xs) ∙ d) in
    ap is_closed (is ∙ around_call (is_drawn n (length (map sight xs)) (list_sight (map sight xs))) (list_sight (map sight xs)) (not_drawn n xs p.0))
    ∙ around_closed (list_sight (map sight xs)) (closed_list es (sym (nodes_call sort.Parameters n xs) ∙ h) p.1)

open_node : (a : Expr) (s : Sort) (d : Node) (ns : List Node) → nodes s a ≡ d ∷ ns → nodes s a ≡ [] → is_closed (sight a) ≡ true
open_node a s d ns h k = absurd (cc)

layer : (x : Expr-F Item) → Closed (roll-Expr (map-Expr Item Expr (λ i. i.0) x))
unfolding roll-Expr denote.Hole.Carrier.roll
layer (Expr-F.Literal a) h k = ap is_closed (sight_at (Expr-F.Literal a)) ∙ literal_closed a
layer (Expr-F.Param n) h k = open_node (e.Param n) sort.Parameters (node.Parameter n) [] (nodes_at sort.Parameters (Expr-F.Param n)) h
layer (Expr-F.Name n) h k = ap is_closed (sight_at (Expr-F.Name n))
layer (Expr-F.Qualified n m) h k = ap is_closed (sight_at (Expr-F.Qualified n m))
layer Expr-F.CurrentTimestamp h k = open_node e.CurrentTimestamp sort.Drawn (node.Drawn (drawn.Moment part.Timestamp)) [] (nodes_at sort.Drawn Expr-F.CurrentTimestamp) k
layer Expr-F.CurrentDate h k = open_node e.CurrentDate sort.Drawn (node.Drawn (drawn.Moment part.Date)) [] (nodes_at sort.Drawn Expr-F.CurrentDate) k
layer Expr-F.CurrentTime h k = open_node e.CurrentTime sort.Drawn (node.Drawn (drawn.Moment part.Time)) [] (nodes_at sort.Drawn Expr-F.CurrentTime) k
layer Expr-F.CountAll h k = ap is_closed (sight_at Expr-F.CountAll)
layer (Expr-F.Call n es) h k = closed_call n es (sight_at (Expr-F.Call n (bare_of es))) h k
layer (Expr-F.Minus a) h k = closed_made (e.Minus a.0) true 0 (a ∷ []) (made_minus sort.Drawn a.0) (sight_at (Expr-F.Minus a.0) ∙ ap around (sym (both_fixed (sight a.0)))) h k
layer (Expr-F.Not a) h k = closed_made (e.Not a.0) true 0 (a ∷ []) (made_not sort.Drawn a.0) (sight_at (Expr-F.Not a.0) ∙ ap around (sym (both_fixed (sight a.0)))) h k
layer (Expr-F.Binary o a b) h k = closed_made (e.Binary o a.0 b.0) true 0 (a ∷ b ∷ []) (made_binary sort.Drawn o a.0 b.0) (sight_at (Expr-F.Binary o a.0 b.0) ∙ ap (λ s. around (both (sight a.0) s)) (sym (both_fixed (sight b.0)))) h k
layer (Expr-F.InList d a es) h k = closed_made (e.InList d a.0 (bare_of es)) true 0 (a ∷ es) (made_in_list sort.Drawn d a.0 (bare_of es)) (sight_at (Expr-F.InList d a.0 (bare_of es))) h k
layer (Expr-F.Between d a b c) h k = closed_made (e.Between d a.0 b.0 c.0) true 0 (a ∷ b ∷ c ∷ []) (made_between sort.Drawn d a.0 b.0 c.0) (sight_at (Expr-F.Between d a.0 b.0 c.0) ∙ ap (λ s. around (both (sight a.0) (both (sight b.0) s))) (sym (both_fixed (sight c.0)))) h k

pub closed : (a : Expr) → nodes sort.Parameters a ≡ [] → nodes sort.Drawn a ≡ [] → is_fixed a ≡ true
closed = ind-Expr Closed (λ x y is. subst (λ z. Closed (roll-Expr z)) is (layer y))
