-- What stays where values take the place of nodes: an expression stays proper and gets no deeper; its nodes are gone where
-- there are values enough; and no parameter comes.
use Rattle.std.proofs.Common.{◌⊎◌, inl, inr, ◌≡◌, ℕ, suc, ◌-◌, ◌≤◌, max, Bool, true, false, ◌&&◌, not, List, [], ◌∷◌, ◌++◌, map, length, refl, sym, ap, subst, ◌∙◌, arith, Option, Some, None, append-nil, append_assoc}
use Rattle.std.proofs.lemmas.List.{length-append}
use Rattle.std.proofs.lemmas.Slice.Eq.{bytes_eq-Decides}
use Rattle.std.specs.Prelude.{codes, bytes_eq, ◌||◌, if◌then◌else◌, ℤ}
use Rattle.rq_values.specs.declared.value.Value.{Value}
use Rattle.rq_grammar.specs.Words.{Text}
use Rattle.rq_grammar.specs.declared.expr.BinaryOp.{BinaryOp}
use Rattle.rq_grammar.specs.declared.expr.Expr.{Expr}
use Rattle.rq_grammar.specs.declared.expr.Expr.TheVariants as e
use Rattle.rq_grammar.specs.declared.expr.Expr.TheOpen.{Expr-F}
use Rattle.rq_grammar.specs.declared.expr.Expr.TheViews.{roll-Expr}
use Rattle.rq_grammar.specs.declared.expr.Expr.TheFolds.{fold-roll-Expr, ind-Expr, map-Expr}
use Rattle.rq_grammar.specs.Proper.{all_of, is_literal, is_callee, proper_step, is_proper}
use Rattle.rq_grammar.specs.Depth.{depth_step, depth, depths}
use Rattle.rq_statement.specs.Sights.{is_moment_call}
use Rattle.rq_binding.specs.declared.node.Sort.{Sort}
use Rattle.rq_binding.specs.declared.node.Sort.TheVariants as sort
use Rattle.rq_binding.specs.declared.node.Part.{Part}
use Rattle.rq_binding.specs.declared.node.Part.TheVariants as part
use Rattle.rq_binding.specs.declared.node.Drawn.{Drawn}
use Rattle.rq_binding.specs.declared.node.Drawn.TheVariants as drawn
use Rattle.rq_binding.specs.declared.node.Node.{Node}
use Rattle.rq_binding.specs.declared.node.Node.TheVariants as node
use Rattle.rq_binding.specs.Nodes.{literal_of, integer_of, drawn_with, drawn_call, is_now, call_node, node_or, moment_nodes, Seen, seen_step, seen, nodes, all_nodes}
use Rattle.rq_binding.specs.Filled.{Filling, fill_step, filling, filled, all_filled, filled_call, filled_parameter, filled_moment}
use Rattle.rq_binding.specs.Usable.{is_moment, is_usable, are_usable}
use Rattle.rq_binding.proofs.Nodes.{nodes_call, joined_nodes}
use Rattle.rq_binding.proofs.Became.{call_filled}

-- ---- one layer of each fold

pub nodes_at : (s : Sort) (x : Expr-F Expr) → nodes s (roll-Expr x) ≡ (seen_step s (map-Expr Expr Seen (seen s) x)).nodes
nodes_at s x = ap (λ z. z.nodes) (fold-roll-Expr Seen (seen_step s) x)

proper_at : (x : Expr-F Expr) → is_proper (roll-Expr x) ≡ proper_step (map-Expr Expr Bool is_proper x)
proper_at x = fold-roll-Expr Bool proper_step x

depth_at : (x : Expr-F Expr) → depth (roll-Expr x) ≡ depth_step (map-Expr Expr ℕ depth x)
depth_at x = fold-roll-Expr ℕ depth_step x

filled_at : (s : Sort) (x : Expr-F Expr) (vs : List Value) → filled s (roll-Expr x) vs ≡ (fill_step s (map-Expr Expr Filling (filling s) x)).fill vs
filled_at s x vs = ap (λ z. z.fill vs) (fold-roll-Expr Filling (fill_step s) x)

-- what is no literal is no moment
no_moment : (s : Sort) → is_moment s None ≡ false
no_moment sort.Parameters = refl
no_moment sort.Drawn = refl

-- ---- what is kept

pub record Kept (s : Sort) (a : Expr) (vs : List Value) (b : Expr) (us : List Value) : Type 0 where
  pub usable : are_usable s us ≡ true
  pub proper : is_proper a ≡ true → is_proper b ≡ true
  pub shallow : depth b ≤ depth a
  pub left : length us ≡ length vs - length (nodes s a)
  pub none : length (nodes s a) ≤ length vs → nodes s b ≡ []
  pub bare : nodes sort.Parameters a ≡ [] → nodes sort.Parameters b ≡ []
  pub now : is_moment s (literal_of a) ≡ false → is_moment s (literal_of b) ≡ false

pub record KeptAll (s : Sort) (a : List Expr) (vs : List Value) (b : List Expr) (us : List Value) : Type 0 where
  pub usable : are_usable s us ≡ true
  pub proper : all_of (map is_proper a) ≡ true → all_of (map is_proper b) ≡ true
  pub shallow : depths b ≤ depths a
  pub left : length us ≡ length vs - length (all_nodes s a)
  pub none : length (all_nodes s a) ≤ length vs → all_nodes s b ≡ []
  pub bare : all_nodes sort.Parameters a ≡ [] → all_nodes sort.Parameters b ≡ []
  pub calls : (n : Text) → call_node s n (map literal_of a) ≡ None → call_node s n (map literal_of b) ≡ None
  pub same : length b ≡ length a

pub split : (a b : Bool) → (a && b) ≡ true → (a ≡ true) × (b ≡ true)
split true b h = (refl, h)
split false b h = absurd (cc)

pub and : (a b : Bool) → a ≡ true → b ≡ true → (a && b) ≡ true
and a b p q = cc

pub no_more : {A : Type 0} (a b : List A) → a ++ b ≡ [] → (a ≡ []) × (b ≡ [])
no_more [] b h = (refl, h)
no_more (x ∷ a) b h = absurd (cc)

pub both_none : {A : Type 0} (a b : List A) → a ≡ [] → b ≡ [] → a ++ b ≡ []
both_none a b h k = ap (λ x. x ++ b) h ∙ k

kept_nil : (s : Sort) (vs : List Value) → are_usable s vs ≡ true → KeptAll s [] vs [] vs
kept_nil s vs h = record { usable = h; proper = λ k. k; shallow = omega arith; left = omega arith; none = λ k. refl; bare = λ k. refl; calls = λ n k. k; same = refl }

-- a call is no node because of an argument that became a literal
with_parts : (r m i j : Bool) (a a' b : Drawn) → (i ≡ false → j ≡ false) → (if r then Some a else (if m && i then Some b else None)) ≡ None → (if r then Some a' else (if m && j then Some b else None)) ≡ None
with_parts true m i j a a' b f h = absurd (cc)
with_parts false false i j a a' b f h = refl
with_parts false true true j a a' b f h = absurd (cc)
with_parts false true false j a a' b f h = ap (λ z. if z then Some b else None) (f refl)

none_with : (n : Text) (x y : Option Value) → (is_now x ≡ false → is_now y ≡ false) → drawn_with n x ≡ None → drawn_with n y ≡ None
none_with n x y f h = with_parts (bytes_eq n (codes "RANDOMBLOB")) (is_moment_call n) (is_now x) (is_now y) (drawn.Blob (integer_of x)) (drawn.Blob (integer_of y)) (drawn.Moment part.Timestamp) f h

calls_cons : (s : Sort) (a b : Expr) (xs ys : List Expr) → length ys ≡ length xs → (is_moment s (literal_of a) ≡ false → is_moment s (literal_of b) ≡ false) → (n : Text) → call_node s n (map literal_of (a ∷ xs)) ≡ None → call_node s n (map literal_of (b ∷ ys)) ≡ None
calls_cons sort.Parameters a b xs ys l f n h = refl
calls_cons sort.Drawn a b [] [] l f n h = none_with n (literal_of a) (literal_of b) f h
calls_cons sort.Drawn a b [] (y ∷ ys) l f n h = absurd (omega arith)
calls_cons sort.Drawn a b (x ∷ xs) [] l f n h = absurd (omega arith)
calls_cons sort.Drawn a b (x ∷ xs) (y ∷ ys) l f n h = refl

kept_cons : (s : Sort) (a b : Expr) (xs ys : List Expr) (vs us ws : List Value) → Kept s a vs b us → KeptAll s xs us ys ws → KeptAll s (a ∷ xs) vs (b ∷ ys) ws
kept_cons s a b xs ys vs us ws p q = record {
  usable = q.usable;
  proper = λ k. let d = split (is_proper a) (all_of (map is_proper xs)) k in and (is_proper b) (all_of (map is_proper ys)) (p.proper d.0) (q.proper d.1);
  shallow = omega (arith, p.shallow, q.shallow);
  left = omega (arith, p.left, q.left, length-append (nodes s a) (all_nodes s xs));
  none = λ k. both_none (nodes s b) (all_nodes s ys) (p.none (omega (arith, length-append (nodes s a) (all_nodes s xs)))) (q.none (omega (arith, p.left, length-append (nodes s a) (all_nodes s xs))));
  bare = λ k. let d = no_more (nodes sort.Parameters a) (all_nodes sort.Parameters xs) k in both_none (nodes sort.Parameters b) (all_nodes sort.Parameters ys) (p.bare d.0) (q.bare d.1);
  calls = calls_cons s a b xs ys q.same p.now;
  same = ap suc q.same;
}

-- an expression by its parts: what its nodes, its depth and its being proper come to
pub record Made (s : Sort) (r : Expr) (g : Bool) (k : ℕ) (xs : List Expr) : Type 0 where
  pub its_nodes : nodes s r ≡ all_nodes s xs
  pub its_parameters : nodes sort.Parameters r ≡ all_nodes sort.Parameters xs
  pub its_proper : is_proper r ≡ (g && all_of (map is_proper xs))
  pub its_depth : depth r ≡ suc (max k (depths xs))

kept_made : (s : Sort) (r t : Expr) (g : Bool) (k : ℕ) (xs ys : List Expr) (vs us : List Value) → Made s r g k xs → Made s t g k ys → is_moment s (literal_of t) ≡ false → KeptAll s xs vs ys us → Kept s r vs t us
kept_made s r t g k xs ys vs us m n i q = record {
  usable = q.usable;
  proper = λ h. let d = split g (all_of (map is_proper xs)) (sym m.its_proper ∙ h) in n.its_proper ∙ and g (all_of (map is_proper ys)) d.0 (q.proper d.1);
  shallow = omega (arith, q.shallow, m.its_depth, n.its_depth);
  left = q.left ∙ ap (λ l. length vs - length l) (sym m.its_nodes);
  none = λ h. n.its_nodes ∙ q.none (subst (λ l. length l ≤ length vs) m.its_nodes h);
  bare = λ h. n.its_parameters ∙ q.bare (sym m.its_parameters ∙ h);
  now = λ h. i;
}

and_true : (b : Bool) → b ≡ (b && true)
and_true true = refl
and_true false = refl

pub made_minus : (s : Sort) (a : Expr) → Made s (e.Minus a) true 0 (a ∷ [])
unfolding roll-Expr denote.Hole.Carrier.roll
made_minus s a = record {
  its_nodes = nodes_at s (Expr-F.Minus a) ∙ sym (append-nil (nodes s a));
  its_parameters = nodes_at sort.Parameters (Expr-F.Minus a) ∙ sym (append-nil (nodes sort.Parameters a));
  its_proper = proper_at (Expr-F.Minus a) ∙ and_true (is_proper a);
  its_depth = depth_at (Expr-F.Minus a) ∙ omega arith;
}

pub made_not : (s : Sort) (a : Expr) → Made s (e.Not a) true 0 (a ∷ [])
unfolding roll-Expr denote.Hole.Carrier.roll
made_not s a = record {
  its_nodes = nodes_at s (Expr-F.Not a) ∙ sym (append-nil (nodes s a));
  its_parameters = nodes_at sort.Parameters (Expr-F.Not a) ∙ sym (append-nil (nodes sort.Parameters a));
  its_proper = proper_at (Expr-F.Not a) ∙ and_true (is_proper a);
  its_depth = depth_at (Expr-F.Not a) ∙ omega arith;
}

pub made_binary : (s : Sort) (o : BinaryOp) (a b : Expr) → Made s (e.Binary o a b) true 0 (a ∷ b ∷ [])
unfolding roll-Expr denote.Hole.Carrier.roll
made_binary s o a b = record {
  its_nodes = nodes_at s (Expr-F.Binary o a b) ∙ ap (λ l. nodes s a ++ l) (sym (append-nil (nodes s b)));
  its_parameters = nodes_at sort.Parameters (Expr-F.Binary o a b) ∙ ap (λ l. nodes sort.Parameters a ++ l) (sym (append-nil (nodes sort.Parameters b)));
  its_proper = proper_at (Expr-F.Binary o a b) ∙ ap (λ c. is_proper a && c) (and_true (is_proper b));
  its_depth = depth_at (Expr-F.Binary o a b) ∙ omega arith;
}

pub made_in_list : (s : Sort) (d : Bool) (a : Expr) (xs : List Expr) → Made s (e.InList d a xs) true 0 (a ∷ xs)
unfolding roll-Expr denote.Hole.Carrier.roll
made_in_list s d a xs = record {
  its_nodes = nodes_at s (Expr-F.InList d a xs) ∙ ap (λ l. nodes s a ++ l) (joined_nodes s xs);
  its_parameters = nodes_at sort.Parameters (Expr-F.InList d a xs) ∙ ap (λ l. nodes sort.Parameters a ++ l) (joined_nodes sort.Parameters xs);
  its_proper = proper_at (Expr-F.InList d a xs);
  its_depth = depth_at (Expr-F.InList d a xs) ∙ omega arith;
}

three : {A : Type 0} (a b c : List A) → (a ++ b) ++ c ≡ a ++ (b ++ (c ++ []))
three a b c = append_assoc a b c ∙ ap (λ l. a ++ (b ++ l)) (sym (append-nil c))

pub made_between : (s : Sort) (d : Bool) (a b c : Expr) → Made s (e.Between d a b c) true 0 (a ∷ b ∷ c ∷ [])
unfolding roll-Expr denote.Hole.Carrier.roll
made_between s d a b c = record {
  its_nodes = nodes_at s (Expr-F.Between d a b c) ∙ three (nodes s a) (nodes s b) (nodes s c);
  its_parameters = nodes_at sort.Parameters (Expr-F.Between d a b c) ∙ three (nodes sort.Parameters a) (nodes sort.Parameters b) (nodes sort.Parameters c);
  its_proper = proper_at (Expr-F.Between d a b c) ∙ ap (λ g. is_proper a && (is_proper b && g)) (and_true (is_proper c));
  its_depth = depth_at (Expr-F.Between d a b c) ∙ omega arith;
}

made_call : (s : Sort) (n : Text) (xs : List Expr) → call_node s n (map literal_of xs) ≡ None → Made s (e.Call n xs) (is_callee n) 1 xs
unfolding roll-Expr denote.Hole.Carrier.roll
made_call s n xs h = record {
  its_nodes = nodes_call s n xs ∙ ap (λ o. node_or o (all_nodes s xs)) h;
  its_parameters = nodes_call sort.Parameters n xs;
  its_proper = proper_at (Expr-F.Call n xs);
  its_depth = depth_at (Expr-F.Call n xs);
}

call_proper : (n : Text) (xs : List Expr) → is_proper (e.Call n xs) ≡ (is_callee n && all_of (map is_proper xs))
unfolding roll-Expr denote.Hole.Carrier.roll
call_proper n xs = proper_at (Expr-F.Call n xs)

call_depth : (n : Text) (xs : List Expr) → depth (e.Call n xs) ≡ suc (max 1 (depths xs))
unfolding roll-Expr denote.Hole.Carrier.roll
call_depth n xs = depth_at (Expr-F.Call n xs)

literal_nodes : (s : Sort) (x : Value) → nodes s (e.Literal x) ≡ []
unfolding roll-Expr denote.Hole.Carrier.roll
literal_nodes s x = nodes_at s (Expr-F.Literal x)

literal_proper : (x : Value) → is_proper (e.Literal x) ≡ is_literal x
unfolding roll-Expr denote.Hole.Carrier.roll
literal_proper x = proper_at (Expr-F.Literal x)

literal_depth : (x : Value) → depth (e.Literal x) ≡ 1
unfolding roll-Expr denote.Hole.Carrier.roll
literal_depth x = depth_at (Expr-F.Literal x)

not_false : (b : Bool) → not b ≡ true → b ≡ false
not_false true h = absurd (cc)
not_false false h = refl

-- ---- an expression without parts

kept_same : (s : Sort) (a : Expr) (vs : List Value) → are_usable s vs ≡ true → nodes s a ≡ [] → Kept s a vs a vs
kept_same s a vs h k = record { usable = h; proper = λ p. p; shallow = omega arith; left = omega (arith, ap length k); none = λ p. k; bare = λ p. p; now = λ p. p }

kept_stuck : (s : Sort) (a : Expr) (d : Node) → nodes s a ≡ d ∷ [] → Kept s a [] a []
kept_stuck s a d k = record { usable = refl; proper = λ p. p; shallow = omega arith; left = omega (arith, ap length k); none = λ p. absurd (omega (arith, ap length k)); bare = λ p. p; now = λ p. p }

kept_literal : (s : Sort) (a : Expr) (d : Node) (x : Value) (us : List Value) → nodes s a ≡ d ∷ [] → 1 ≤ depth a → are_usable s (x ∷ us) ≡ true → Kept s a (x ∷ us) (e.Literal x) us
kept_literal s a d x us k l h =
    let u = split (is_usable s x) (are_usable s us) h in
    let v = split (is_literal x) (not (is_moment s (Some x))) u.0 in
    record {
      usable = u.1;
      proper = λ p. literal_proper x ∙ v.0;
      shallow = omega (arith, literal_depth x);
      left = omega (arith, ap length k);
      none = λ p. literal_nodes s x;
      bare = λ p. literal_nodes sort.Parameters x;
      now = λ p. not_false (is_moment s (Some x)) v.1;
    }

param_kept : (s : Sort) (n : Option Text) (vs : List Value) → are_usable s vs ≡ true → Kept s (e.Param n) vs (filled_parameter s (e.Param n) vs).0 (filled_parameter s (e.Param n) vs).1
unfolding roll-Expr denote.Hole.Carrier.roll
param_kept sort.Drawn n vs h = kept_same sort.Drawn (e.Param n) vs h (nodes_at sort.Drawn (Expr-F.Param n))
param_kept sort.Parameters n [] h = kept_stuck sort.Parameters (e.Param n) (node.Parameter n) (nodes_at sort.Parameters (Expr-F.Param n))
param_kept sort.Parameters n (x ∷ us) h = kept_literal sort.Parameters (e.Param n) (node.Parameter n) x us (nodes_at sort.Parameters (Expr-F.Param n)) (omega (arith, depth_at (Expr-F.Param n))) h

moment_kept : (s : Sort) (p : Part) (a : Expr) → nodes s a ≡ moment_nodes s p → 1 ≤ depth a → (vs : List Value) → are_usable s vs ≡ true → Kept s a vs (filled_moment s a vs).0 (filled_moment s a vs).1
moment_kept sort.Parameters p a k l vs h = kept_same sort.Parameters a vs h k
moment_kept sort.Drawn p a k l [] h = kept_stuck sort.Drawn a (node.Drawn (drawn.Moment p)) k
moment_kept sort.Drawn p a k l (x ∷ us) h = kept_literal sort.Drawn a (node.Drawn (drawn.Moment p)) x us k l h

-- ---- calls

-- no name is two
name_is : (n m : Text) → bytes_eq n m ≡ true → n ≡ m
name_is n m h = (bytes_eq-Decides n m).0 h

name_apart : (n m : Text) → bytes_eq n m ≡ true → bytes_eq m (codes "RANDOMBLOB") ≡ false → bytes_eq n (codes "RANDOMBLOB") ≡ false
name_apart n m h k = ap (λ z. bytes_eq z (codes "RANDOMBLOB")) (name_is n m h) ∙ k

one_of_three : (a b c : Bool) → (a || (b || c)) ≡ true → (a ≡ true) ⊎ ((b ≡ true) ⊎ (c ≡ true))
one_of_three true b c h = inl refl
one_of_three false true c h = inr (inl refl)
one_of_three false false c h = inr (inr h)

moment_apart : (n : Text) → is_moment_call n ≡ true → bytes_eq n (codes "RANDOMBLOB") ≡ false
moment_apart n h =
    elim (one_of_three (bytes_eq n (codes "DATE")) (bytes_eq n (codes "TIME")) (bytes_eq n (codes "DATETIME")) h) [
      | inl k ↦ name_apart n (codes "DATE") k refl
      | inr (inl k) ↦ name_apart n (codes "TIME") k refl
      | inr (inr k) ↦ name_apart n (codes "DATETIME") k refl
    ]

without_moment : (r m : Bool) (p q : Part) → (if r then Some drawn.Random else (if m then Some (drawn.Moment q) else None)) ≡ Some (drawn.Moment p) → m ≡ true
without_moment true m p q h = absurd (cc)
without_moment false true p q h = refl
without_moment false false p q h = absurd (cc)

with_moment : (r m : Bool) (z : Option ℤ) (p q : Part) → (if r then Some (drawn.Blob z) else (if m then Some (drawn.Moment q) else None)) ≡ Some (drawn.Moment p) → r ≡ false
with_moment true m z p q h = absurd (cc)
with_moment false m z p q h = refl

moment_call : (n : Text) (ls : List (Option Value)) (p : Part) → drawn_call n ls ≡ Some (drawn.Moment p) → bytes_eq n (codes "RANDOMBLOB") ≡ false
moment_call n [] p h = moment_apart n (without_moment (bytes_eq n (codes "RANDOM")) (is_moment_call n) p part.Timestamp h)
moment_call n (x ∷ []) p h = with_moment (bytes_eq n (codes "RANDOMBLOB")) (is_moment_call n && is_now x) (integer_of x) p part.Timestamp h
moment_call n (x ∷ y ∷ ls) p h = absurd (cc)

with_none : (r m i : Bool) (a b : Drawn) → r ≡ false → i ≡ false → (if r then Some a else (if m && i then Some b else None)) ≡ None
with_none true m i a b h k = absurd (cc)
with_none false true true a b h k = absurd (cc)
with_none false true false a b h k = refl
with_none false false i a b h k = refl

-- with such a value it is no node any more
call_done : (s : Sort) (n : Text) (ls : List (Option Value)) (p : Part) (x : Value) → call_node s n ls ≡ Some (drawn.Moment p) → is_moment s (Some x) ≡ false → call_node s n (Some x ∷ []) ≡ None
call_done sort.Parameters n ls p x h k = refl
call_done sort.Drawn n ls p x h k = with_none (bytes_eq n (codes "RANDOMBLOB")) (is_moment_call n) (is_now (Some x)) (drawn.Blob (integer_of (Some x))) (drawn.Moment part.Timestamp) (moment_call n ls p h) k

node_of_call : (s : Sort) (n : Text) (xs : List Expr) (d : Drawn) → call_node s n (map literal_of xs) ≡ Some d → nodes s (e.Call n xs) ≡ node.Drawn d ∷ []
node_of_call s n xs d g = nodes_call s n xs ∙ ap (λ o. node_or o (all_nodes s xs)) g

kept_moment_call : (s : Sort) (n : Text) (xs : List Expr) (p : Part) (x : Value) (us : List Value) → call_node s n (map literal_of xs) ≡ Some (drawn.Moment p) → are_usable s (x ∷ us) ≡ true → Kept s (e.Call n xs) (x ∷ us) (e.Call n (e.Literal x ∷ [])) us
kept_moment_call s n xs p x us g h =
    let u = split (is_usable s x) (are_usable s us) h in
    let v = split (is_literal x) (not (is_moment s (Some x))) u.0 in
    let f : is_moment s (Some x) ≡ false = not_false (is_moment s (Some x)) v.1 in
    let none : nodes s (e.Call n (e.Literal x ∷ [])) ≡ [] = nodes_call s n (e.Literal x ∷ []) ∙ ap (λ o. node_or o (nodes s (e.Literal x) ++ [])) (call_done s n (map literal_of xs) p x g f) ∙ ap (λ l. l ++ []) (literal_nodes s x) in
    let bare : nodes sort.Parameters (e.Call n (e.Literal x ∷ [])) ≡ [] = nodes_call sort.Parameters n (e.Literal x ∷ []) ∙ ap (λ l. l ++ []) (literal_nodes sort.Parameters x) in
    record {
      usable = u.1;
      proper = λ k. call_proper n (e.Literal x ∷ []) ∙ and (is_callee n) (is_proper (e.Literal x) && true) (split (is_callee n) (all_of (map is_proper xs)) (sym (call_proper n xs) ∙ k)).0 (and (is_proper (e.Literal x)) true (literal_proper x ∙ v.0) refl);
      shallow = omega (arith, call_depth n (e.Literal x ∷ []), call_depth n xs, literal_depth x);
      left = omega (arith, ap length (node_of_call s n xs (drawn.Moment p) g));
      none = λ k. none;
      bare = λ k. bare;
      now = λ k. no_moment s;
    }

kept_stuck_call : (s : Sort) (n : Text) (xs ys : List Expr) (d : Drawn) (us : List Value) → call_node s n (map literal_of xs) ≡ Some d → KeptAll s xs [] ys us → Kept s (e.Call n xs) [] (e.Call n ys) us
kept_stuck_call s n xs ys d us g q = record {
  usable = q.usable;
  proper = λ k. let c = split (is_callee n) (all_of (map is_proper xs)) (sym (call_proper n xs) ∙ k) in call_proper n ys ∙ and (is_callee n) (all_of (map is_proper ys)) c.0 (q.proper c.1);
  shallow = omega (arith, call_depth n ys, call_depth n xs, q.shallow);
  left = omega (arith, q.left);
  none = λ k. absurd (omega (arith, ap length (node_of_call s n xs d g)));
  bare = λ k. nodes_call sort.Parameters n ys ∙ q.bare (sym (nodes_call sort.Parameters n xs) ∙ k);
  now = λ k. no_moment s;
}

-- ---- expressions, each beside the proof of its parts

abbrev pub Good : Sort → Expr → Type 0
Good s a = (vs : List Value) → are_usable s vs ≡ true → Kept s a vs (filled s a vs).0 (filled s a vs).1

abbrev Item : Sort → Type 0
Item s = (a : Expr) × Good s a

abbrev bare_of : (s : Sort) → List (Item s) → List Expr
bare_of s = map (λ i. i.0)

kept_list : (s : Sort) (es : List (Item s)) (vs : List Value) → are_usable s vs ≡ true → KeptAll s (bare_of s es) vs (all_filled s (bare_of s es) vs).0 (all_filled s (bare_of s es) vs).1
kept_list s [] vs h = kept_nil s vs h
kept_list s (i ∷ es) vs h =
    let p : Kept s i.0 vs (filled s i.0 vs).0 (filled s i.0 vs).1 = i.1 vs h in
    kept_cons s i.0 (filled s i.0 vs).0 (bare_of s es) (all_filled s (bare_of s es) (filled s i.0 vs).1).0 vs (filled s i.0 vs).1 (all_filled s (bare_of s es) (filled s i.0 vs).1).1 p (kept_list s es (filled s i.0 vs).1 p.usable)

moved : (s : Sort) (a : Expr) (vs : List Value) (y : Expr × List Value) → filled s a vs ≡ y → Kept s a vs y.0 y.1 → Kept s a vs (filled s a vs).0 (filled s a vs).1
moved s a vs y h k = subst (λ z. Kept s a vs z.0 z.1) (sym h) k

call_kept : (s : Sort) (n : Text) (es : List (Item s)) (o : Option Drawn) → call_node s n (map literal_of (bare_of s es)) ≡ o → (vs : List Value) → are_usable s vs ≡ true → Kept s (e.Call n (bare_of s es)) vs (filled_call o n (all_filled s (bare_of s es)) vs).0 (filled_call o n (all_filled s (bare_of s es)) vs).1
call_kept s n es None g vs h =
    let xs = bare_of s es in
    let q : KeptAll s xs vs (all_filled s xs vs).0 (all_filled s xs vs).1 = kept_list s es vs h in
    kept_made s (e.Call n xs) (e.Call n (all_filled s xs vs).0) (is_callee n) 1 xs (all_filled s xs vs).0 vs (all_filled s xs vs).1 (made_call s n xs g) (made_call s n (all_filled s xs vs).0 (q.calls n g)) (no_moment s) q
call_kept s n es (Some d) g [] h =
    let xs = bare_of s es in
    kept_stuck_call s n xs (all_filled s xs []).0 d (all_filled s xs []).1 g (kept_list s es [] h)
call_kept s n es (Some drawn.Random) g (x ∷ us) h = kept_literal s (e.Call n (bare_of s es)) (node.Drawn drawn.Random) x us (node_of_call s n (bare_of s es) drawn.Random g) (omega (arith, call_depth n (bare_of s es))) h
call_kept s n es (Some (drawn.Blob z)) g (x ∷ us) h = kept_literal s (e.Call n (bare_of s es)) (node.Drawn (drawn.Blob z)) x us (node_of_call s n (bare_of s es) (drawn.Blob z) g) (omega (arith, call_depth n (bare_of s es))) h
call_kept s n es (Some (drawn.Moment p)) g (x ∷ us) h = kept_moment_call s n (bare_of s es) p x us g h

layer : (s : Sort) (x : Expr-F (Item s)) → Good s (roll-Expr (map-Expr (Item s) Expr (λ i. i.0) x))
unfolding roll-Expr denote.Hole.Carrier.roll
layer s (Expr-F.Literal a) vs h = moved s (e.Literal a) vs (e.Literal a, vs) (filled_at s (Expr-F.Literal a) vs) (kept_same s (e.Literal a) vs h (nodes_at s (Expr-F.Literal a)))
layer s (Expr-F.Param n) vs h = moved s (e.Param n) vs (filled_parameter s (e.Param n) vs) (filled_at s (Expr-F.Param n) vs) (param_kept s n vs h)
layer s (Expr-F.Name n) vs h = moved s (e.Name n) vs (e.Name n, vs) (filled_at s (Expr-F.Name n) vs) (kept_same s (e.Name n) vs h (nodes_at s (Expr-F.Name n)))
layer s (Expr-F.Qualified n m) vs h = moved s (e.Qualified n m) vs (e.Qualified n m, vs) (filled_at s (Expr-F.Qualified n m) vs) (kept_same s (e.Qualified n m) vs h (nodes_at s (Expr-F.Qualified n m)))
layer s Expr-F.CurrentTimestamp vs h = moved s e.CurrentTimestamp vs (filled_moment s e.CurrentTimestamp vs) (filled_at s Expr-F.CurrentTimestamp vs) (moment_kept s part.Timestamp e.CurrentTimestamp (nodes_at s Expr-F.CurrentTimestamp) (omega (arith, depth_at Expr-F.CurrentTimestamp)) vs h)
layer s Expr-F.CurrentDate vs h = moved s e.CurrentDate vs (filled_moment s e.CurrentDate vs) (filled_at s Expr-F.CurrentDate vs) (moment_kept s part.Date e.CurrentDate (nodes_at s Expr-F.CurrentDate) (omega (arith, depth_at Expr-F.CurrentDate)) vs h)
layer s Expr-F.CurrentTime vs h = moved s e.CurrentTime vs (filled_moment s e.CurrentTime vs) (filled_at s Expr-F.CurrentTime vs) (moment_kept s part.Time e.CurrentTime (nodes_at s Expr-F.CurrentTime) (omega (arith, depth_at Expr-F.CurrentTime)) vs h)
layer s Expr-F.CountAll vs h = moved s e.CountAll vs (e.CountAll, vs) (filled_at s Expr-F.CountAll vs) (kept_same s e.CountAll vs h (nodes_at s Expr-F.CountAll))
layer s (Expr-F.Call n es) vs h =
    let xs = bare_of s es in
    moved s (e.Call n xs) vs (filled_call (call_node s n (map literal_of xs)) n (all_filled s xs) vs) (call_filled s n xs vs) (call_kept s n es (call_node s n (map literal_of xs)) refl vs h)
layer s (Expr-F.Minus a) vs h =
    let q : KeptAll s (a.0 ∷ []) vs ((filled s a.0 vs).0 ∷ []) (filled s a.0 vs).1 = kept_list s (a ∷ []) vs h in
    moved s (e.Minus a.0) vs (e.Minus (filled s a.0 vs).0, (filled s a.0 vs).1) (filled_at s (Expr-F.Minus a.0) vs)
    (kept_made s (e.Minus a.0) (e.Minus (filled s a.0 vs).0) true 0 (a.0 ∷ []) ((filled s a.0 vs).0 ∷ []) vs (filled s a.0 vs).1 (made_minus s a.0) (made_minus s (filled s a.0 vs).0) (no_moment s) q)
layer s (Expr-F.Not a) vs h =
    let q : KeptAll s (a.0 ∷ []) vs ((filled s a.0 vs).0 ∷ []) (filled s a.0 vs).1 = kept_list s (a ∷ []) vs h in
    moved s (e.Not a.0) vs (e.Not (filled s a.0 vs).0, (filled s a.0 vs).1) (filled_at s (Expr-F.Not a.0) vs)
    (kept_made s (e.Not a.0) (e.Not (filled s a.0 vs).0) true 0 (a.0 ∷ []) ((filled s a.0 vs).0 ∷ []) vs (filled s a.0 vs).1 (made_not s a.0) (made_not s (filled s a.0 vs).0) (no_moment s) q)
layer s (Expr-F.Binary o a b) vs h =
    let p = filled s a.0 vs in
    let r = filled s b.0 (filled s a.0 vs).1 in
    moved s (e.Binary o a.0 b.0) vs (e.Binary o (filled s a.0 vs).0 (filled s b.0 (filled s a.0 vs).1).0, (filled s b.0 (filled s a.0 vs).1).1) (filled_at s (Expr-F.Binary o a.0 b.0) vs)
    (kept_made s (e.Binary o a.0 b.0) (e.Binary o (filled s a.0 vs).0 (filled s b.0 (filled s a.0 vs).1).0) true 0 (a.0 ∷ b.0 ∷ []) ((filled s a.0 vs).0 ∷ (filled s b.0 (filled s a.0 vs).1).0 ∷ []) vs (filled s b.0 (filled s a.0 vs).1).1 (made_binary s o a.0 b.0) (made_binary s o (filled s a.0 vs).0 (filled s b.0 (filled s a.0 vs).1).0) (no_moment s) (kept_list s (a ∷ b ∷ []) vs h))
layer s (Expr-F.InList d a es) vs h =
    let xs = bare_of s es in
    moved s (e.InList d a.0 xs) vs (e.InList d (filled s a.0 vs).0 (all_filled s xs (filled s a.0 vs).1).0, (all_filled s xs (filled s a.0 vs).1).1) (filled_at s (Expr-F.InList d a.0 xs) vs)
    (kept_made s (e.InList d a.0 xs) (e.InList d (filled s a.0 vs).0 (all_filled s xs (filled s a.0 vs).1).0) true 0 (a.0 ∷ xs) ((filled s a.0 vs).0 ∷ (all_filled s xs (filled s a.0 vs).1).0) vs (all_filled s xs (filled s a.0 vs).1).1 (made_in_list s d a.0 xs) (made_in_list s d (filled s a.0 vs).0 (all_filled s xs (filled s a.0 vs).1).0) (no_moment s) (kept_list s (a ∷ es) vs h))
layer s (Expr-F.Between d a b c) vs h =
    let us = (filled s a.0 vs).1 in
    let ws = (filled s b.0 us).1 in
    moved s (e.Between d a.0 b.0 c.0) vs (e.Between d (filled s a.0 vs).0 (filled s b.0 us).0 (filled s c.0 ws).0, (filled s c.0 ws).1) (filled_at s (Expr-F.Between d a.0 b.0 c.0) vs)
    (kept_made s (e.Between d a.0 b.0 c.0) (e.Between d (filled s a.0 vs).0 (filled s b.0 us).0 (filled s c.0 ws).0) true 0 (a.0 ∷ b.0 ∷ c.0 ∷ []) ((filled s a.0 vs).0 ∷ (filled s b.0 us).0 ∷ (filled s c.0 ws).0 ∷ []) vs (filled s c.0 ws).1 (made_between s d a.0 b.0 c.0) (made_between s d (filled s a.0 vs).0 (filled s b.0 us).0 (filled s c.0 ws).0) (no_moment s) (kept_list s (a ∷ b ∷ c ∷ []) vs h))

-- each expression
pub kept : (s : Sort) (a : Expr) → Good s a
kept s = ind-Expr (Good s) (λ x y is. subst (λ z. Good s (roll-Expr z)) is (layer s y))

pub kept_all : (s : Sort) (xs : List Expr) (vs : List Value) → are_usable s vs ≡ true → KeptAll s xs vs (all_filled s xs vs).0 (all_filled s xs vs).1
kept_all s [] vs h = kept_nil s vs h
kept_all s (a ∷ xs) vs h =
    let p : Kept s a vs (filled s a vs).0 (filled s a vs).1 = kept s a vs h in
    kept_cons s a (filled s a vs).0 xs (all_filled s xs (filled s a vs).1).0 vs (filled s a vs).1 (all_filled s xs (filled s a vs).1).1 p (kept_all s xs (filled s a vs).1 p.usable)
