-- What stays of a statement where values take the place of its nodes.
use Rattle.std.proofs.Common.{◌≡◌, ℕ, ◌-◌, ◌≤◌, max, Bool, true, false, ◌&&◌, List, [], ◌∷◌, ◌++◌, map, length, refl, sym, ap, subst, ◌∙◌, arith, Option, Some, None, append-nil}
use Rattle.std.proofs.lemmas.List.{length-append}
use Rattle.rq_values.specs.declared.value.Value.{Value}
use Rattle.rq_grammar.specs.Words.{Text}
use Rattle.rq_grammar.specs.declared.expr.Expr.{Expr}
use Rattle.rq_grammar.specs.declared.stmt.ResultItem.{ResultItem}
use Rattle.rq_grammar.specs.declared.stmt.ResultItem.TheVariants as item
use Rattle.rq_grammar.specs.declared.stmt.OrderTerm.{OrderTerm}
use Rattle.rq_grammar.specs.declared.stmt.SelectStmt.{SelectStmt}
use Rattle.rq_grammar.specs.declared.stmt.InsertRows.{InsertRows}
use Rattle.rq_grammar.specs.declared.stmt.InsertRows.TheVariants as rows
use Rattle.rq_grammar.specs.declared.stmt.Stmt.{Stmt}
use Rattle.rq_grammar.specs.declared.stmt.Stmt.TheVariants as stmt
use Rattle.rq_grammar.specs.Proper.{all_of, is_some_of, is_proper, is_maybe, is_row, is_result, is_term, are_limits, is_select, is_set, are_rows, are_names, is_statement}
use Rattle.rq_grammar.specs.Depth.{most, depth, depths, rows_depth, maybe_depth, item_depth, term_depth, set_depth, select_depth, deepest}
use Rattle.rq_binding.specs.declared.node.Sort.{Sort}
use Rattle.rq_binding.specs.declared.node.Sort.TheVariants as sort
use Rattle.rq_binding.specs.declared.node.Node.{Node}
use Rattle.rq_binding.specs.Nodes.{nodes, all_nodes}
use Rattle.rq_binding.specs.Filled.{Fill, filled, all_filled}
use Rattle.rq_binding.specs.Statements.{every, maybe_nodes, result_nodes, term_nodes, set_nodes, plain, select_nodes, rows_nodes, stmt_nodes, in_order, each, maybe_filled, result_filled, term_filled, set_filled, select_filled, rows_filled, stmt_filled}
use Rattle.rq_binding.specs.Usable.{are_usable}
use Rattle.rq_binding.proofs.Kept.{kept, kept_all, split, and, no_more, both_none}

-- of a part of a statement: its nodes, whether it is proper and its depth before and behind, and the values before and behind
pub record Stays (s : Sort) (n m : Sort → List Node) (p q : Bool) (d g : ℕ) (vs us : List Value) : Type 0 where
  pub usable : are_usable s us ≡ true
  pub proper : p ≡ true → q ≡ true
  pub shallow : g ≤ d
  pub left : length us ≡ length vs - length (n s)
  pub none : length (n s) ≤ length vs → m s ≡ []
  pub bare : n sort.Parameters ≡ [] → m sort.Parameters ≡ []

nothing : (s : Sort) (p : Bool) (d : ℕ) (vs : List Value) → are_usable s vs ≡ true → Stays s (λ t. []) (λ t. []) p p d d vs vs
nothing s p d vs h = record { usable = h; proper = λ k. k; shallow = omega arith; left = omega arith; none = λ k. refl; bare = λ k. refl }

-- one part behind the other
seq : {s : Sort} {n m n' m' : Sort → List Node} {p q p' q' : Bool} {d g d' g' : ℕ} {vs us ws : List Value} → Stays s n m p q d g vs us → Stays s n' m' p' q' d' g' us ws → Stays s (λ t. n t ++ n' t) (λ t. m t ++ m' t) (p && p') (q && q') (max d d') (max g g') vs ws
seq {s} {n} {m} {n'} {m'} {p} {q} {p'} {q'} {d} {g} {d'} {g'} {vs} {us} {ws} a b = record {
  usable = b.usable;
  proper = λ h. let c = split p p' h in and q q' (a.proper c.0) (b.proper c.1);
  shallow = omega (arith, a.shallow, b.shallow);
  left = omega (arith, a.left, b.left, length-append (n s) (n' s));
  none = λ h. both_none (m s) (m' s) (a.none (omega (arith, length-append (n s) (n' s)))) (b.none (omega (arith, a.left, length-append (n s) (n' s))));
  bare = λ h. let c = no_more (n sort.Parameters) (n' sort.Parameters) h in both_none (m sort.Parameters) (m' sort.Parameters) (a.bare c.0) (b.bare c.1);
}

-- the same by other words
recast : {s : Sort} {n m : Sort → List Node} {p q : Bool} {d g : ℕ} {vs us : List Value} (n' m' : Sort → List Node) (p' q' : Bool) (d' g' : ℕ) → Stays s n m p q d g vs us → ((t : Sort) → n' t ≡ n t) → ((t : Sort) → m' t ≡ m t) → (p' ≡ true → p ≡ true) → (q ≡ true → q' ≡ true) → d ≤ d' → g' ≤ g → Stays s n' m' p' q' d' g' vs us
recast {s} {n} {m} {p} {q} {d} {g} {vs} {us} n' m' p' q' d' g' a en em fp fq ld lg = record {
  usable = a.usable;
  proper = λ h. fq (a.proper (fp h));
  shallow = omega (arith, a.shallow);
  left = a.left ∙ ap (λ l. length vs - length l) (sym (en s));
  none = λ h. em s ∙ a.none (subst (λ l. length l ≤ length vs) (en s) h);
  bare = λ h. em sort.Parameters ∙ a.bare (sym (en sort.Parameters) ∙ h);
}

-- ---- parts

of_expr : (s : Sort) (a : Expr) (vs : List Value) → are_usable s vs ≡ true → Stays s (λ t. nodes t a) (λ t. nodes t (filled s a vs).0) (is_proper a) (is_proper (filled s a vs).0) (depth a) (depth (filled s a vs).0) vs (filled s a vs).1
of_expr s a vs h = let k = kept s a vs h in record { usable = k.usable; proper = k.proper; shallow = k.shallow; left = k.left; none = k.none; bare = k.bare }

of_row : (s : Sort) (xs : List Expr) (vs : List Value) → are_usable s vs ≡ true → Stays s (λ t. all_nodes t xs) (λ t. all_nodes t (all_filled s xs vs).0) (is_row xs) (is_row (all_filled s xs vs).0) (depths xs) (depths (all_filled s xs vs).0) vs (all_filled s xs vs).1
of_row s [] vs h = nothing s false 0 vs h
of_row s (a ∷ xs) vs h = let k = kept_all s (a ∷ xs) vs h in record { usable = k.usable; proper = k.proper; shallow = k.shallow; left = k.left; none = k.none; bare = k.bare }

of_maybe : (s : Sort) (g : Option Expr) (vs : List Value) → are_usable s vs ≡ true → Stays s (λ t. maybe_nodes t g) (λ t. maybe_nodes t (maybe_filled s g vs).0) (is_maybe g) (is_maybe (maybe_filled s g vs).0) (maybe_depth g) (maybe_depth (maybe_filled s g vs).0) vs (maybe_filled s g vs).1
of_maybe s None vs h = nothing s true 0 vs h
of_maybe s (Some a) vs h = of_expr s a vs h

of_result : (s : Sort) (i : ResultItem) (vs : List Value) → are_usable s vs ≡ true → Stays s (λ t. result_nodes t i) (λ t. result_nodes t (result_filled s i vs).0) (is_result i) (is_result (result_filled s i vs).0) (item_depth i) (item_depth (result_filled s i vs).0) vs (result_filled s i vs).1
of_result s item.All vs h = nothing s true 0 vs h
of_result s (item.Value a n) vs h = of_expr s a vs h

of_term : (s : Sort) (i : OrderTerm) (vs : List Value) → are_usable s vs ≡ true → Stays s (λ t. term_nodes t i) (λ t. term_nodes t (term_filled s i vs).0) (is_term i) (is_term (term_filled s i vs).0) (term_depth i) (term_depth (term_filled s i vs).0) vs (term_filled s i vs).1
of_term s i vs h = of_expr s i.expr vs h

of_set : (s : Sort) (i : Text × Expr) (vs : List Value) → are_usable s vs ≡ true → Stays s (λ t. set_nodes t i) (λ t. set_nodes t (set_filled s i vs).0) (is_set i) (is_set (set_filled s i vs).0) (set_depth i) (set_depth (set_filled s i vs).0) vs (set_filled s i vs).1
of_set s i vs h = of_expr s i.1 vs h

-- ---- lists

module _ {A : Type 0} (s : Sort) (f : A → Fill A) (N : Sort → A → List Node) (P : A → Bool) (D : A → ℕ) (one : (a : A) (vs : List Value) → are_usable s vs ≡ true → Stays s (λ t. N t a) (λ t. N t (f a vs).0) (P a) (P (f a vs).0) (D a) (D (f a vs).0) vs (f a vs).1) where
  of_all : (xs : List A) (vs : List Value) → are_usable s vs ≡ true → Stays s (λ t. every (N t) xs) (λ t. every (N t) (each f xs vs).0) (all_of (map P xs)) (all_of (map P (each f xs vs).0)) (most (map D xs)) (most (map D (each f xs vs).0)) vs (each f xs vs).1
  of_all [] vs h = nothing s true 0 vs h
  of_all (a ∷ xs) vs h = let k = one a vs h in seq k (of_all xs (f a vs).1 k.usable)

  of_some : (xs : List A) (vs : List Value) → are_usable s vs ≡ true → Stays s (λ t. every (N t) xs) (λ t. every (N t) (each f xs vs).0) (is_some_of (map P xs)) (is_some_of (map P (each f xs vs).0)) (most (map D xs)) (most (map D (each f xs vs).0)) vs (each f xs vs).1
  of_some [] vs h = nothing s false 0 vs h
  of_some (a ∷ xs) vs h = let k = one a vs h in seq k (of_all xs (f a vs).1 k.usable)

-- ---- whole statements

four_true : (a b c d : Bool) → (a && (b && (c && d))) ≡ true → (((a && b) && c) && d) ≡ true
four_true true true true d h = h
four_true false b c d h = absurd (cc)
four_true true false c d h = absurd (cc)
four_true true true false d h = absurd (cc)

true_four : (a b c d : Bool) → (((a && b) && c) && d) ≡ true → (a && (b && (c && d))) ≡ true
true_four true true true d h = h
true_four false b c d h = absurd (cc)
true_four true false c d h = absurd (cc)
true_four true true false d h = absurd (cc)

of_limits : (s : Sort) (a b : Option Expr) (vs : List Value) → are_usable s vs ≡ true → let us : List Value = (maybe_filled s a vs).1 in Stays s (λ t. maybe_nodes t a ++ maybe_nodes t b) (λ t. maybe_nodes t (maybe_filled s a vs).0 ++ maybe_nodes t (maybe_filled s b us).0) (are_limits a b) (are_limits (maybe_filled s a vs).0 (maybe_filled s b us).0) (max (maybe_depth a) (maybe_depth b)) (max (maybe_depth (maybe_filled s a vs).0) (maybe_depth (maybe_filled s b us).0)) vs (maybe_filled s b us).1
of_limits s None None vs h = nothing s true 0 vs h
of_limits s None (Some b) vs h = let k = of_expr s b vs h in record { usable = k.usable; proper = λ p. p; shallow = omega (arith, k.shallow); left = k.left; none = k.none; bare = k.bare }
of_limits s (Some a) b vs h = let k = of_expr s a vs h in seq k (of_maybe s b (filled s a vs).1 k.usable)

-- the nodes of a select in source order, by its five parts
select_order : (s : Sort) (q : SelectStmt) → in_order (select_nodes s q) ≡ ((every (result_nodes s) q.results ++ maybe_nodes s q.filter) ++ every (term_nodes s) q.order) ++ (maybe_nodes s q.limit ++ maybe_nodes s q.offset)
select_order s q = refl

of_select : (s : Sort) (q : SelectStmt) (vs : List Value) → are_usable s vs ≡ true → Stays s (λ t. in_order (select_nodes t q)) (λ t. in_order (select_nodes t (select_filled s q vs).0)) (is_select q) (is_select (select_filled s q vs).0) (select_depth q) (select_depth (select_filled s q vs).0) vs (select_filled s q vs).1
of_select s q vs h =
    let v1 : List Value = (each (result_filled s) q.results vs).1 in
    let v2 : List Value = (maybe_filled s q.filter v1).1 in
    let v3 : List Value = (each (term_filled s) q.order v2).1 in
    let a = of_some s (result_filled s) result_nodes is_result item_depth (of_result s) q.results vs h in
    let b = of_maybe s q.filter v1 a.usable in
    let c = of_all s (term_filled s) term_nodes is_term term_depth (of_term s) q.order v2 b.usable in
    let d = of_limits s q.limit q.offset v3 c.usable in
    let r : SelectStmt = (select_filled s q vs).0 in
    recast (λ t. in_order (select_nodes t q)) (λ t. in_order (select_nodes t r)) (is_select q) (is_select r) (select_depth q) (select_depth r) (seq (seq (seq a b) c) d) (λ t. refl) (λ t. refl)
    (four_true (is_some_of (map is_result q.results)) (is_maybe q.filter) (all_of (map is_term q.order)) (are_limits q.limit q.offset))
    (true_four (is_some_of (map is_result r.results)) (is_maybe r.filter) (all_of (map is_term r.order)) (are_limits r.limit r.offset))
    (omega arith) (omega arith)

of_plain : {s : Sort} {n m : Sort → List Node} {p q : Bool} {d g : ℕ} {vs us : List Value} → Stays s n m p q d g vs us → Stays s (λ t. in_order (plain (n t))) (λ t. in_order (plain (m t))) p q d g vs us
of_plain {s} {n} {m} {p} {q} {d} {g} {vs} {us} a = recast (λ t. in_order (plain (n t))) (λ t. in_order (plain (m t))) p q d g a (λ t. append-nil (n t ++ []) ∙ append-nil (n t)) (λ t. append-nil (m t ++ []) ∙ append-nil (m t)) (λ h. h) (λ h. h) (omega arith) (omega arith)

abbrev inserted_depth : InsertRows → ℕ
inserted_depth (rows.Values rs) = rows_depth rs
inserted_depth (rows.Select q) = select_depth q

of_inserted : (s : Sort) (rs : InsertRows) (vs : List Value) → are_usable s vs ≡ true → Stays s (λ t. in_order (rows_nodes t rs)) (λ t. in_order (rows_nodes t (rows_filled s rs vs).0)) (are_rows rs) (are_rows (rows_filled s rs vs).0) (inserted_depth rs) (inserted_depth (rows_filled s rs vs).0) vs (rows_filled s rs vs).1
of_inserted s (rows.Values rs) vs h = of_plain (of_some s (all_filled s) all_nodes is_row depths (of_row s) rs vs h)
of_inserted s (rows.Select q) vs h = of_select s q vs h

insert_proper : (n : Bool) (a b : Bool) → (a ≡ true → b ≡ true) → (n && a) ≡ true → (n && b) ≡ true
insert_proper true a b f h = f h
insert_proper false a b f h = h

-- a statement, whose nodes values took the place of
pub of_stmt : (s : Sort) (x : Stmt) (vs : List Value) → are_usable s vs ≡ true → Stays s (λ t. in_order (stmt_nodes t x)) (λ t. in_order (stmt_nodes t (stmt_filled s x vs).0)) (is_statement x) (is_statement (stmt_filled s x vs).0) (deepest x) (deepest (stmt_filled s x vs).0) vs (stmt_filled s x vs).1
of_stmt s (stmt.Create b n ds) vs h = nothing s (is_statement (stmt.Create b n ds)) 0 vs h
of_stmt s (stmt.Drop b n) vs h = nothing s true 0 vs h
of_stmt s (stmt.Insert n ns (rows.Values rs)) vs h =
    let k = of_inserted s (rows.Values rs) vs h in
    record { usable = k.usable; proper = insert_proper (are_names ns) (are_rows (rows.Values rs)) (are_rows (rows_filled s (rows.Values rs) vs).0) k.proper; shallow = k.shallow; left = k.left; none = k.none; bare = k.bare }
of_stmt s (stmt.Insert n ns (rows.Select q)) vs h =
    let k = of_inserted s (rows.Select q) vs h in
    record { usable = k.usable; proper = insert_proper (are_names ns) (are_rows (rows.Select q)) (are_rows (rows_filled s (rows.Select q) vs).0) k.proper; shallow = k.shallow; left = k.left; none = k.none; bare = k.bare }
of_stmt s (stmt.Update n is g) vs h =
    let a = of_some s (set_filled s) set_nodes is_set set_depth (of_set s) is vs h in
    of_plain (seq a (of_maybe s g (each (set_filled s) is vs).1 a.usable))
of_stmt s (stmt.Delete n g) vs h = of_plain (of_maybe s g vs h)
of_stmt s (stmt.Select q) vs h = of_select s q vs h
