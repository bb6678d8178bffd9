-- The laws of bound and settled statements.
use Rattle.std.proofs.Common.{◌≡◌, ℕ, zero, suc, ◌/◌, ◌^◌, ◌≤◌, Bool, true, false, not, nat_lt, List, [], ◌∷◌, ◌++◌, map, length, refl, sym, ap, subst, ◌∙◌, arith, Option, Some, None, Result, Ok, Err, take, drop, pos}
use Rattle.std.specs.Prelude.{codes, bytes_eq, ◌==◌, if◌then◌else◌, slice_index}
use Rattle.std.proofs.lemmas.Bool.Decides.{nat_tests}
use Rattle.std.proofs.lemmas.Slice.Eq.{bytes_eq-Decides}
use Rattle.std.proofs.lemmas.List.{length-append, length-map}
use Rattle.std.specs.Char.{to_ascii_lowercase}
use Rattle.rq_values.specs.declared.value.Value.{Value}
use Rattle.rq_values.specs.declared.value.Value.TheVariants as v
use Rattle.rq_grammar.specs.Words.{Text}
use Rattle.rq_grammar.specs.declared.stmt.Stmt.{Stmt}
use Rattle.rq_grammar.specs.Proper.{all_of, is_literal, is_statement}
use Rattle.rq_grammar.specs.Depth.{deepest}
use Rattle.rq_statement.specs.Sights.{lower, is_now as is_now_text}
use Rattle.rq_statement.specs.Fixed.{statement_fixed}
use Rattle.rq_moments.specs.declared.shown.Shown.{Shown}
use Rattle.rq_moments.specs.Moment.{IsShown, MayShow}
use Rattle.rq_binding.specs.declared.node.Sort.TheVariants as sort
use Rattle.rq_binding.specs.declared.node.Part.{Part}
use Rattle.rq_binding.specs.declared.node.Part.TheVariants as part
use Rattle.rq_binding.specs.declared.node.Drawn.{Drawn}
use Rattle.rq_binding.specs.declared.node.Drawn.TheVariants as drawn
use Rattle.rq_binding.specs.declared.node.Node.{Node}
use Rattle.rq_binding.specs.declared.node.Node.TheVariants as node
use Rattle.rq_request.specs.declared.statement.Params.{Params}
use Rattle.rq_binding.specs.declared.params.BindError.{BindError}
use Rattle.rq_binding.specs.declared.params.BindError.TheVariants as errors
use Rattle.rq_binding.specs.Nodes.{is_now}
use Rattle.rq_binding.specs.Statements.{stmt_nodes, in_order, stmt_filled}
use Rattle.rq_binding.specs.Bound.{list_of, named_of, positions, find, or_null, missing, first_of, behind, value_of, left_of, chosen, parameters_of, bound_or, bound}
use Rattle.rq_binding.specs.Plan.{drawn_words}
use Rattle.rq_binding.specs.Drawn.{left_of as words_left, node_value, moment_value, drawn_value, drawn_values}
use Rattle.rq_binding.specs.Settles.{drawn_nodes, Settles}
use Rattle.rq_binding.specs.Usable.{is_usable, are_usable, are_words, is_named_literal, are_literals}
use Rattle.rq_binding.proofs.Kept.{split, and}
use Rattle.rq_binding.proofs.KeptStmt.{Stays, of_stmt}
use Rattle.rq_binding.proofs.ClosedStmt.{fixed}

-- ---- binding

usable_literal : (x : Value) → is_literal x ≡ true → is_usable sort.Parameters x ≡ true
usable_literal x h = and (is_literal x) true h refl

either : (b : Bool) (x : Value) (o : Option Value) → is_literal x ≡ true → is_literal (or_null o) ≡ true → is_literal (or_null (if b then Some x else o)) ≡ true
either true x o h k = h
either false x o h k = k

found_literal : (n : Text) (ms : List (Text × Value)) → all_of (map is_named_literal ms) ≡ true → is_literal (or_null (find n ms)) ≡ true
found_literal n [] h = refl
found_literal n (m ∷ ms) h =
    let d = split (is_literal m.1) (all_of (map is_named_literal ms)) h in
    either (bytes_eq m.0 n) m.1 (find n ms) d.0 (found_literal n ms d.1)

first_literal : (vs : List Value) → all_of (map is_literal vs) ≡ true → is_literal (or_null (first_of vs)) ≡ true
first_literal [] k = refl
first_literal (x ∷ vs) k = (split (is_literal x) (all_of (map is_literal vs)) k).0

value_literal : (ms : List (Text × Value)) (n : Node) (vs : List Value) → all_of (map is_named_literal ms) ≡ true → all_of (map is_literal vs) ≡ true → is_literal (value_of ms n vs) ≡ true
value_literal ms (node.Parameter None) vs h k = first_literal vs k
value_literal ms (node.Parameter (Some n)) vs h k = found_literal n ms h
value_literal ms (node.Drawn d) vs h k = refl

behind_literals : (vs : List Value) → all_of (map is_literal vs) ≡ true → all_of (map is_literal (behind vs)) ≡ true
behind_literals [] k = refl
behind_literals (x ∷ vs) k = (split (is_literal x) (all_of (map is_literal vs)) k).1

left_literals : (n : Node) (vs : List Value) → all_of (map is_literal vs) ≡ true → all_of (map is_literal (left_of n vs)) ≡ true
left_literals (node.Parameter None) vs k = behind_literals vs k
left_literals (node.Parameter (Some n)) vs k = k
left_literals (node.Drawn d) vs k = k

chosen_usable : (ms : List (Text × Value)) (ns : List Node) (vs : List Value) → all_of (map is_named_literal ms) ≡ true → all_of (map is_literal vs) ≡ true → are_usable sort.Parameters (chosen ms ns vs) ≡ true
chosen_usable ms [] vs h k = refl
chosen_usable ms (n ∷ ns) vs h k = and (is_usable sort.Parameters (value_of ms n vs)) (are_usable sort.Parameters (chosen ms ns (left_of n vs))) (usable_literal (value_of ms n vs) (value_literal ms n vs h k)) (chosen_usable ms ns (left_of n vs) h (left_literals n vs k))

length-chosen : (ms : List (Text × Value)) (ns : List Node) (vs : List Value) → length (chosen ms ns vs) ≡ length ns
length-chosen ms [] vs = refl
length-chosen ms (n ∷ ns) vs = ap suc (length-chosen ms ns (left_of n vs))

bound_one : (o : Option Text) (s r : Stmt) → bound_or o s ≡ Ok r → r ≡ s
bound_one (Some n) s r h = absurd (cc)
bound_one None s r h = cc

bound_if : (b : Bool) (x : Result Stmt BindError) (y : BindError) (r : Stmt) → (if b then x else Err y) ≡ Ok r → x ≡ Ok r
bound_if true x y r h = h
bound_if false x y r h = absurd (cc)

abbrev values_of : Stmt → Params → List Value
values_of s p = chosen (named_of p) (parameters_of s) (list_of p)

-- what is bound is the statement with these values
bound_is : (s : Stmt) (p : Params) (r : Stmt) → bound s p ≡ Ok r → r ≡ (stmt_filled sort.Parameters s (values_of s p)).0
bound_is s p r h =
    bound_one (missing (named_of p) (parameters_of s)) (stmt_filled sort.Parameters s (values_of s p)).0 r
    (bound_if (positions (parameters_of s) == length (list_of p)) (bound_or (missing (named_of p) (parameters_of s)) (stmt_filled sort.Parameters s (values_of s p)).0) (errors.Count (positions (parameters_of s)) (length (list_of p))) r h)

bound_stays : (s : Stmt) (p : Params) → are_literals p ≡ true → Stays sort.Parameters (λ t. in_order (stmt_nodes t s)) (λ t. in_order (stmt_nodes t (stmt_filled sort.Parameters s (values_of s p)).0)) (is_statement s) (is_statement (stmt_filled sort.Parameters s (values_of s p)).0) (deepest s) (deepest (stmt_filled sort.Parameters s (values_of s p)).0) (values_of s p) (stmt_filled sort.Parameters s (values_of s p)).1
bound_stays s p h =
    let d = split (all_of (map is_literal (list_of p))) (all_of (map is_named_literal (named_of p))) h in
    of_stmt sort.Parameters s (values_of s p) (chosen_usable (named_of p) (parameters_of s) (list_of p) d.1 d.0)

pub bound_bare : (s : Stmt) (p : Params) (r : Stmt) → are_literals p ≡ true → bound s p ≡ Ok r → parameters_of r ≡ []
bound_bare s p r h k = ap parameters_of (bound_is s p r k) ∙ (bound_stays s p h).none (omega (arith, length-chosen (named_of p) (parameters_of s) (list_of p)))

pub bound_proper : (s : Stmt) (p : Params) (r : Stmt) → are_literals p ≡ true → bound s p ≡ Ok r → is_statement s ≡ true → is_statement r ≡ true
bound_proper s p r h k g = ap is_statement (bound_is s p r k) ∙ (bound_stays s p h).proper g

pub bound_shallow : (s : Stmt) (p : Params) (r : Stmt) → are_literals p ≡ true → bound s p ≡ Ok r → deepest r ≤ deepest s
bound_shallow s p r h k = subst (λ x. deepest x ≤ deepest s) (sym (bound_is s p r k)) (bound_stays s p h).shallow

-- ---- settling

no_three : (t : List ℕ) → (length t ≡ 3 → ⊥) → (b : Bool) → is_now_text t ≡ b → b ≡ false
no_three t f true h = absurd (f (sym (length-map t to_ascii_lowercase) ∙ ap length ((bytes_eq-Decides (lower t) (lower (codes "now"))).0 h)))
no_three t f false h = refl

never_now : (t : List ℕ) → (length t ≡ 3 → ⊥) → is_now (Some (v.Text t)) ≡ false
never_now t f = no_three t f (is_now_text t) refl

text_usable : (t : List ℕ) → (length t ≡ 3 → ⊥) → is_usable sort.Drawn (v.Text t) ≡ true
text_usable t f = ap not (never_now t f)

date_long : (m : ℕ) (t : Shown) → IsShown m t → length t.date ≡ 10
date_long m t k = ap length k.date

time_long : (m : ℕ) (t : Shown) → IsShown m t → length t.time ≡ 8
time_long m t k = ap length k.time

timestamp_long : (m : ℕ) (t : Shown) → IsShown m t → length t.timestamp ≡ 19
timestamp_long m t k = ap length k.timestamp ∙ omega (arith, length-append (t.date ++ codes " ") t.time, length-append t.date (codes " "), date_long m t k, time_long m t k)

moment_usable : (m : ℕ) (t : Option Shown) (p : Part) → MayShow m t → is_usable sort.Drawn (moment_value t p) ≡ true
moment_usable m None p h = refl
moment_usable m (Some t) part.Timestamp h = text_usable t.timestamp (λ l. absurd (omega (arith, timestamp_long m t h.1)))
moment_usable m (Some t) part.Date h = text_usable t.date (λ l. absurd (omega (arith, date_long m t h.1)))
moment_usable m (Some t) part.Time h = text_usable t.time (λ l. absurd (omega (arith, time_long m t h.1)))

half : (w : ℕ) → nat_lt w (2 ^ 64) ≡ true → nat_lt (w / 2) (2 ^ 63) ≡ true
half w h = grind (arith, nat_tests)

random_literal : (ws : List ℕ) → are_words ws ≡ true → is_literal (v.Int (pos (slice_index ws 0 / 2))) ≡ true
random_literal [] h = refl
random_literal (w ∷ ws) h = half w (split (nat_lt w (2 ^ 64)) (are_words ws) h).0

take_words : (n : ℕ) (ws : List ℕ) → are_words ws ≡ true → are_words (take n ws) ≡ true
take_words zero ws h = refl
take_words (suc n) [] h = refl
take_words (suc n) (w ∷ ws) h = let d = split (nat_lt w (2 ^ 64)) (are_words ws) h in and (nat_lt w (2 ^ 64)) (are_words (take n ws)) d.0 (take_words n ws d.1)

drop_words : (n : ℕ) (ws : List ℕ) → are_words ws ≡ true → are_words (drop n ws) ≡ true
drop_words zero ws h = h
drop_words (suc n) [] h = refl
drop_words (suc n) (w ∷ ws) h = drop_words n ws (split (nat_lt w (2 ^ 64)) (are_words ws) h).1

value_usable : (m : ℕ) (t : Option Shown) (d : Drawn) (ws : List ℕ) → MayShow m t → are_words ws ≡ true → is_usable sort.Drawn (drawn_value t d ws) ≡ true
value_usable m t drawn.Random ws h k = and (is_literal (v.Int (pos (slice_index ws 0 / 2)))) true (random_literal ws k) refl
value_usable m t (drawn.Blob z) ws h k = refl
value_usable m t (drawn.Moment p) ws h k = moment_usable m t p h

node_usable : (m : ℕ) (t : Option Shown) (n : Node) (ws : List ℕ) → MayShow m t → are_words ws ≡ true → is_usable sort.Drawn (node_value t n ws) ≡ true
node_usable m t (node.Drawn d) ws h k = value_usable m t d (take (drawn_words d) ws) h (take_words (drawn_words d) ws k)
node_usable m t (node.Parameter n) ws h k = refl

left_words : (n : Node) (ws : List ℕ) → are_words ws ≡ true → are_words (words_left n ws) ≡ true
left_words (node.Drawn d) ws k = drop_words (drawn_words d) ws k
left_words (node.Parameter n) ws k = k

values_usable : (m : ℕ) (t : Option Shown) (ns : List Node) (ws : List ℕ) → MayShow m t → are_words ws ≡ true → are_usable sort.Drawn (drawn_values t ns ws) ≡ true
values_usable m t [] ws h k = refl
values_usable m t (n ∷ ns) ws h k = and (is_usable sort.Drawn (node_value t n ws)) (are_usable sort.Drawn (drawn_values t ns (words_left n ws))) (node_usable m t n ws h k) (values_usable m t ns (words_left n ws) h (left_words n ws k))

length-drawn : (t : Option Shown) (ns : List Node) (ws : List ℕ) → length (drawn_values t ns ws) ≡ length ns
length-drawn t [] ws = refl
length-drawn t (n ∷ ns) ws = ap suc (length-drawn t ns (words_left n ws))

module _ (s : Stmt) (moment : ℕ) (ws : List ℕ) (r : Stmt) (k : Settles s moment ws r) where
  abbrev vs : List Value
  vs = drawn_values k.texts (drawn_nodes s) ws

  stays : Stays sort.Drawn (λ t. in_order (stmt_nodes t s)) (λ t. in_order (stmt_nodes t (stmt_filled sort.Drawn s vs).0)) (is_statement s) (is_statement (stmt_filled sort.Drawn s vs).0) (deepest s) (deepest (stmt_filled sort.Drawn s vs).0) vs (stmt_filled sort.Drawn s vs).1
  stays = of_stmt sort.Drawn s vs (values_usable moment k.texts (drawn_nodes s) ws k.shows k.sized)

  no_drawn : drawn_nodes r ≡ []
  no_drawn = ap drawn_nodes k.is ∙ stays.none (omega (arith, length-drawn k.texts (drawn_nodes s) ws))

  pub settled_fixed : parameters_of s ≡ [] → statement_fixed r ≡ true
  settled_fixed g = fixed r (ap parameters_of k.is ∙ stays.bare g) no_drawn

  pub settled_proper : is_statement s ≡ true → is_statement r ≡ true
  settled_proper g = ap is_statement k.is ∙ stays.proper g

  pub settled_shallow : deepest r ≤ deepest s
  settled_shallow = subst (λ x. deepest x ≤ deepest s) (sym k.is) stays.shallow

pub settled_one : ((m : ℕ) (t u : Option Shown) → MayShow m t → MayShow m u → t ≡ u) → (s : Stmt) (moment : ℕ) (ws : List ℕ) (r u : Stmt) → Settles s moment ws r → Settles s moment ws u → r ≡ u
settled_one one s moment ws r u k l = k.is ∙ ap (λ t. (stmt_filled sort.Drawn s (drawn_values t (drawn_nodes s) ws)).0) (one moment k.texts l.texts k.shows l.shows) ∙ sym l.is
