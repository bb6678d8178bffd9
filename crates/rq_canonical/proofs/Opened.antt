-- The canonical tokens of a statement open at most two parentheses for each level of depth, and one for a list of names or a row.
use Rattle.std.proofs.Common.{◌≡◌, ℕ, suc, ◌+◌, ◌*◌, ◌-◌, ◌≤◌, Bool, true, false, List, [], ◌∷◌, map, sym, subst, arith, Option, Some, None, pos, negsuc}
use Rattle.std.specs.Prelude.{codes}
use Rattle.rq_values.specs.declared.value.Value.{Value}
use Rattle.rq_values.specs.declared.value.Value.TheVariants as v
use Rattle.rq_grammar.specs.declared.word.Word.TheVariants as w
use Rattle.rq_grammar.specs.declared.token.Token.TheVariants as t
use Rattle.rq_grammar.specs.declared.expr.BinaryOp.{BinaryOp}
use Rattle.rq_grammar.specs.declared.expr.BinaryOp.TheVariants as op
use Rattle.rq_grammar.specs.declared.expr.Expr.{Expr}
use Rattle.rq_grammar.specs.declared.expr.Expr.TheOpen.{Expr-F}
use Rattle.rq_grammar.specs.declared.expr.Expr.TheViews.{roll-Expr}
use Rattle.rq_grammar.specs.declared.expr.Expr.TheFolds.{fold-roll-Expr, ind-Expr, map-Expr}
use Rattle.rq_grammar.specs.declared.stmt.ColumnKind.{ColumnKind}
use Rattle.rq_grammar.specs.declared.stmt.ColumnKind.TheVariants as kind
use Rattle.rq_grammar.specs.declared.stmt.ColumnDef.{ColumnDef}
use Rattle.rq_grammar.specs.declared.stmt.ResultItem.{ResultItem}
use Rattle.rq_grammar.specs.declared.stmt.ResultItem.TheVariants as item
use Rattle.rq_grammar.specs.declared.stmt.OrderTerm.{OrderTerm}
use Rattle.rq_grammar.specs.declared.stmt.SelectStmt.{SelectStmt}
use Rattle.rq_grammar.specs.declared.stmt.InsertRows.{InsertRows}
use Rattle.rq_grammar.specs.declared.stmt.InsertRows.TheVariants as rows
use Rattle.rq_grammar.specs.declared.stmt.Stmt.{Stmt}
use Rattle.rq_grammar.specs.declared.stmt.Stmt.TheVariants as stmt
use Rattle.rq_grammar.specs.Words.{Text, Tokens}
use Rattle.rq_grammar.specs.Depth.{most, depth_step, depth, depths, maybe_depth, item_depth, term_depth, order_depth, set_depth, select_depth, deepest, most_open}
use Rattle.rq_grammar.specs.Print as P
use Rattle.rq_grammar.specs.Print.{Front, prefix_step, prefix, tokens_of}

-- where d more parentheses may be open, the tokens before it open no more than may be open
abbrev Opens : ℕ → Front → Type 0
Opens d f = (n m : ℕ) (y : Tokens) → n + d ≤ m → most_open n y ≤ m → most_open n (f y) ≤ m

closes : (n m : ℕ) (y : Tokens) → suc n ≤ m → most_open n y ≤ m → most_open (suc n) (t.Close ∷ y) ≤ m
closes n m y le rest =
    let e : n ≡ suc n - 1 = omega arith in
    let back : most_open (suc n - 1) y ≤ m = subst (λ (k : ℕ). most_open k y ≤ m) e rest in
    omega arith

-- ---- expressions

operator_opens : (o : BinaryOp) → Opens 0 (P.operator o)
operator_opens op.IsNot n m y le rest = omega arith
operator_opens op.NotLike n m y le rest = omega arith
operator_opens _ n m y le rest = omega arith

denial_opens : (d : Bool) → Opens 0 (P.denial d)
denial_opens true n m y le rest = omega arith
denial_opens false n m y le rest = rest

literal_opens : (a : Value) → Opens 0 (P.literal a)
literal_opens v.Null n m y le rest = omega arith
literal_opens (v.Int (pos i)) n m y le rest = omega arith
literal_opens (v.Int (negsuc i)) n m y le rest = omega arith
literal_opens (v.Text x) n m y le rest = omega arith
literal_opens (v.Blob x) n m y le rest = omega arith

abbrev Item : Type 0
Item = (a : Expr) × Opens (2 * depth a) (prefix a)

abbrev bare_of : List Item → List Expr
bare_of = map (λ i. i.0)

more_open : (es : List Item) → Opens (2 * most (map depth (bare_of es))) (P.more (map prefix (bare_of es)))
more_open [] n m y le rest = rest
more_open (i ∷ es) n m y le rest =
    let behind = more_open es n m y (omega arith) rest in
    let first = i.1 n m (P.more (map prefix (bare_of es)) y) (omega arith) behind in
    omega arith

list_opens : (es : List Item) → Opens (2 * most (map depth (bare_of es))) (P.commas (map prefix (bare_of es)))
list_opens [] n m y le rest = rest
list_opens (i ∷ es) n m y le rest = i.1 n m (P.more (map prefix (bare_of es)) y) (omega arith) (more_open es n m y (omega arith) rest)

-- one layer of an expression
layer : (x : Expr-F Item) → Opens (2 * depth_step (map-Expr Expr ℕ depth (map-Expr Item Expr (λ i. i.0) x))) (prefix_step (map-Expr Expr Front prefix (map-Expr Item Expr (λ i. i.0) x)))
layer (Expr-F.Literal a) n m y le rest = literal_opens a n m y (omega arith) rest
layer (Expr-F.Param x) n m y le rest = omega arith
layer (Expr-F.Name x) n m y le rest = omega arith
layer (Expr-F.Qualified x z) n m y le rest = omega arith
layer Expr-F.CurrentTimestamp n m y le rest = omega arith
layer Expr-F.CurrentDate n m y le rest = omega arith
layer Expr-F.CurrentTime n m y le rest = omega arith
layer Expr-F.CountAll n m y le rest =
    let last = closes n m y (omega arith) rest in
    omega arith
layer (Expr-F.Call x es) n m y le rest =
    let args = list_opens es (suc n) m (t.Close ∷ y) (omega arith) (closes n m y (omega arith) rest) in
    omega arith
layer (Expr-F.Minus a) n m y le rest =
    let operand = a.1 (suc n) m (t.Close ∷ y) (omega arith) (closes n m y (omega arith) rest) in
    omega arith
layer (Expr-F.Not a) n m y le rest =
    let operand = a.1 (suc n) m (t.Close ∷ y) (omega arith) (closes n m y (omega arith) rest) in
    omega arith
layer (Expr-F.Binary o a b) n m y le rest =
    let right = b.1 (suc n) m (t.Close ∷ y) (omega arith) (closes n m y (omega arith) rest) in
    let middle = operator_opens o (suc n) m (prefix b.0 (t.Close ∷ y)) (omega arith) right in
    let left = a.1 (suc n) m (P.operator o (prefix b.0 (t.Close ∷ y))) (omega arith) middle in
    omega arith
layer (Expr-F.InList d a es) n m y le rest =
    let last = closes (suc n) m (t.Close ∷ y) (omega arith) (closes n m y (omega arith) rest) in
    let list = list_opens es (suc (suc n)) m (t.Close ∷ t.Close ∷ y) (omega arith) last in
    let behind = P.word (codes "IN") w.In ∷ t.Open ∷ P.commas (map prefix (bare_of es)) (t.Close ∷ t.Close ∷ y) in
    let middle = denial_opens d (suc n) m behind (omega arith) (omega arith) in
    let left = a.1 (suc n) m (P.denial d behind) (omega arith) middle in
    omega arith
layer (Expr-F.Between d a b c) n m y le rest =
    let high = c.1 (suc n) m (t.Close ∷ y) (omega arith) (closes n m y (omega arith) rest) in
    let upper = P.word (codes "AND") w.And ∷ prefix c.0 (t.Close ∷ y) in
    let low = b.1 (suc n) m upper (omega arith) (omega arith) in
    let behind = P.word (codes "BETWEEN") w.Between ∷ prefix b.0 upper in
    let middle = denial_opens d (suc n) m behind (omega arith) (omega arith) in
    let left = a.1 (suc n) m (P.denial d behind) (omega arith) middle in
    omega arith

whole : (x : Expr-F Item) → Opens (2 * depth (roll-Expr (map-Expr Item Expr (λ i. i.0) x))) (prefix (roll-Expr (map-Expr Item Expr (λ i. i.0) x)))
whole x n m y le rest =
    let z = map-Expr Item Expr (λ i. i.0) x in
    subst (λ (f : Front). most_open n (f y) ≤ m) (sym (fold-roll-Expr Front prefix_step z))
    (layer x n m y (subst (λ (d : ℕ). n + 2 * d ≤ m) (fold-roll-Expr ℕ depth_step z) le) rest)

expr_opens : (a : Expr) → Opens (2 * depth a) (prefix a)
expr_opens = ind-Expr (λ a. Opens (2 * depth a) (prefix a)) (λ x y is. subst (λ x. Opens (2 * depth (roll-Expr x)) (prefix (roll-Expr x))) is (whole y))

-- ---- what has no parenthesis of its own

if_not_exists_opens : (b : Bool) → Opens 0 (P.if_not_exists b)
if_not_exists_opens true n m y le rest = omega arith
if_not_exists_opens false n m y le rest = rest

if_exists_opens : (b : Bool) → Opens 0 (P.if_exists b)
if_exists_opens true n m y le rest = omega arith
if_exists_opens false n m y le rest = rest

kind_opens : (k : ColumnKind) → Opens 0 (P.kind_word k)
kind_opens kind.Integer n m y le rest = omega arith
kind_opens kind.Text n m y le rest = omega arith
kind_opens kind.Blob n m y le rest = omega arith

primary_opens : (b : Bool) → Opens 0 (P.primary_rule b)
primary_opens true n m y le rest = omega arith
primary_opens false n m y le rest = rest

not_null_opens : (b : Bool) → Opens 0 (P.not_null_rule b)
not_null_opens true n m y le rest = omega arith
not_null_opens false n m y le rest = rest

unique_opens : (b : Bool) → Opens 0 (P.unique_rule b)
unique_opens true n m y le rest = omega arith
unique_opens false n m y le rest = rest

column_opens : (d : ColumnDef) → Opens 0 (P.column d)
column_opens d n m y le rest =
    let unique = unique_opens d.unique n m y le rest in
    let rules = P.not_null_rule d.not_null (P.unique_rule d.unique y) in
    let not_null = not_null_opens d.not_null n m (P.unique_rule d.unique y) le unique in
    let primary = primary_opens d.primary n m rules le not_null in
    let typed = kind_opens d.kind n m (P.primary_rule d.primary rules) le primary in
    omega arith

name_opens : (x : Text) → Opens 0 (λ y. t.Quoted x ∷ y)
name_opens x n m y le rest = omega arith

alias_opens : (x : Option Text) → Opens 0 (P.alias x)
alias_opens None n m y le rest = rest
alias_opens (Some x) n m y le rest = omega arith

source_opens : (x : Option Text) → Opens 0 (P.source x)
source_opens None n m y le rest = rest
source_opens (Some x) n m y le rest = omega arith

direction_opens : (b : Bool) → Opens 0 (P.direction b)
direction_opens true n m y le rest = omega arith
direction_opens false n m y le rest = rest

-- ---- lists

each_more : {A : Type 0} (d : ℕ) (tok : A → Front) → ((a : A) → Opens d (tok a)) → (xs : List A) → Opens d (P.more (map tok xs))
each_more d tok one [] n m y le rest = rest
each_more d tok one (x ∷ xs) n m y le rest =
    let first = one x n m (P.more (map tok xs) y) le (each_more d tok one xs n m y le rest) in
    omega arith

each_opens : {A : Type 0} (d : ℕ) (tok : A → Front) → ((a : A) → Opens d (tok a)) → (xs : List A) → Opens d (P.commas (map tok xs))
each_opens d tok one [] n m y le rest = rest
each_opens d tok one (x ∷ xs) n m y le rest = one x n m (P.more (map tok xs) y) le (each_more d tok one xs n m y le rest)

names_open : (ns : Option (List Text)) → Opens 1 (P.names ns)
names_open None n m y le rest = rest
names_open (Some ns) n m y le rest =
    let list = each_opens 0 (λ (x : Text) (y : Tokens). t.Quoted x ∷ y) name_opens ns (suc n) m (t.Close ∷ y) (omega arith) (closes n m y (omega arith) rest) in
    omega arith

-- ---- the parts of a statement whose expressions are at most k deep

module _ (k : ℕ) where
  deep : (a : Expr) → depth a ≤ k → Opens (2 * k) (prefix a)
  deep a h n m y le rest = expr_opens a n m y (omega arith) rest

  some_more : {A : Type 0} (size : A → ℕ) (d : ℕ) (tok : A → Front) → ((a : A) → size a ≤ k → Opens d (tok a)) → (xs : List A) → most (map size xs) ≤ k → Opens d (P.more (map tok xs))
  some_more size d tok one [] h n m y le rest = rest
  some_more size d tok one (x ∷ xs) h n m y le rest =
      let first = one x (omega arith) n m (P.more (map tok xs) y) le (some_more size d tok one xs (omega arith) n m y le rest) in
      omega arith

  some_open : {A : Type 0} (size : A → ℕ) (d : ℕ) (tok : A → Front) → ((a : A) → size a ≤ k → Opens d (tok a)) → (xs : List A) → most (map size xs) ≤ k → Opens d (P.commas (map tok xs))
  some_open size d tok one [] h n m y le rest = rest
  some_open size d tok one (x ∷ xs) h n m y le rest = one x (omega arith) n m (P.more (map tok xs) y) le (some_more size d tok one xs (omega arith) n m y le rest)

  filter_opens : (g : Option Expr) → maybe_depth g ≤ k → Opens (2 * k) (P.filter g)
  filter_opens None h n m y le rest = rest
  filter_opens (Some a) h n m y le rest = let inside = deep a h n m y le rest in omega arith

  offset_opens : (g : Option Expr) → maybe_depth g ≤ k → Opens (2 * k) (P.offset g)
  offset_opens None h n m y le rest = rest
  offset_opens (Some a) h n m y le rest = let inside = deep a h n m y le rest in omega arith

  limit_opens : (a b : Option Expr) → maybe_depth a ≤ k → maybe_depth b ≤ k → Opens (2 * k) (P.limit a b)
  limit_opens None b g h n m y le rest = rest
  limit_opens (Some a) b g h n m y le rest = let inside = deep a g n m (P.offset b y) le (offset_opens b h n m y le rest) in omega arith

  result_opens : (i : ResultItem) → item_depth i ≤ k → Opens (2 * k) (P.result i)
  result_opens item.All h n m y le rest = omega arith
  result_opens (item.Value a x) h n m y le rest = deep a h n m (P.alias x y) le (alias_opens x n m y (omega arith) rest)

  term_opens : (i : OrderTerm) → term_depth i ≤ k → Opens (2 * k) (P.term i)
  term_opens i h n m y le rest = deep i.expr h n m (P.direction i.descending y) le (direction_opens i.descending n m y (omega arith) rest)

  order_opens : (is : List OrderTerm) → order_depth is ≤ k → Opens (2 * k) (P.order_by is)
  order_opens [] h n m y le rest = rest
  order_opens (i ∷ is) h n m y le rest = let terms = some_open term_depth (2 * k) P.term term_opens (i ∷ is) h n m y le rest in omega arith

  select_opens : (q : SelectStmt) → select_depth q ≤ k → Opens (2 * k) (P.select q)
  select_opens q h n m y le rest =
      let limits = limit_opens q.limit q.offset (omega arith) (omega arith) n m y le rest in
      let behind = P.limit q.limit q.offset y in
      let order = order_opens q.order (omega arith) n m behind le limits in
      let tail = P.filter q.filter (P.order_by q.order behind) in
      let filter = filter_opens q.filter (omega arith) n m (P.order_by q.order behind) le order in
      let table = source_opens q.table n m tail (omega arith) filter in
      let results = some_open item_depth (2 * k) P.result result_opens q.results (omega arith) n m (P.source q.table tail) le table in
      omega arith

  row_opens : (xs : List Expr) → depths xs ≤ k → Opens (suc (2 * k)) (P.row xs)
  row_opens xs h n m y le rest =
      let list = some_open depth (2 * k) prefix deep xs h (suc n) m (t.Close ∷ y) (omega arith) (closes n m y (omega arith) rest) in
      omega arith

  set_opens : (i : Text × Expr) → set_depth i ≤ k → Opens (2 * k) (P.set i)
  set_opens i h n m y le rest = let inside = deep i.1 h n m y le rest in omega arith

  inserted_opens : (n0 : Text) (ns : Option (List Text)) (rs : InsertRows) → deepest (stmt.Insert n0 ns rs) ≤ k → Opens (suc (2 * k)) (P.inserted rs)
  inserted_opens n0 ns (rows.Values rs) h n m y le rest = let list = some_open depths (suc (2 * k)) P.row row_opens rs h n m y le rest in omega arith
  inserted_opens n0 ns (rows.Select q) h n m y le rest = select_opens q h n m y (omega arith) rest

  few : (s : Stmt) → deepest s ≤ k → most_open 0 (tokens_of s) ≤ suc (2 * k)
  few (stmt.Create b x ds) h =
      let last = closes 0 (suc (2 * k)) [] (omega arith) (omega arith) in
      let list = each_opens 0 P.column column_opens ds 1 (suc (2 * k)) (t.Close ∷ []) (omega arith) last in
      let named = t.Quoted x ∷ t.Open ∷ P.commas (map P.column ds) (t.Close ∷ []) in
      let flag = if_not_exists_opens b 0 (suc (2 * k)) named (omega arith) (omega arith) in
      omega arith
  few (stmt.Drop b x) h =
      let flag = if_exists_opens b 0 (suc (2 * k)) (t.Quoted x ∷ []) (omega arith) (omega arith) in
      omega arith
  few (stmt.Insert x ns rs) h =
      let inside = inserted_opens x ns rs h 0 (suc (2 * k)) [] (omega arith) (omega arith) in
      let list = names_open ns 0 (suc (2 * k)) (P.inserted rs []) (omega arith) inside in
      omega arith
  few (stmt.Update x is g) h =
      let last = filter_opens g (omega arith) 0 (suc (2 * k)) [] (omega arith) (omega arith) in
      let list = some_open set_depth (2 * k) P.set set_opens is (omega arith) 0 (suc (2 * k)) (P.filter g []) (omega arith) last in
      omega arith
  few (stmt.Delete x g) h =
      let last = filter_opens g h 0 (suc (2 * k)) [] (omega arith) (omega arith) in
      omega arith
  few (stmt.Select q) h = select_opens q h 0 (suc (2 * k)) [] (omega arith) (omega arith)

pub narrow : (s : Stmt) → deepest s ≤ 100 → most_open 0 (tokens_of s) ≤ 250
narrow s h = let most = few 100 s h in omega arith
