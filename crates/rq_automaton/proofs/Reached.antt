-- What a state has read.
use Rattle.std.proofs.Common.{◌≡◌, ℕ, ◌≤◌, Bool, true, false, List, [], ◌∷◌, Option, Some, None}
use Rattle.rq_grammar.specs.declared.word.Word.{Word}
use Rattle.rq_grammar.specs.declared.word.Word.TheVariants as w
use Rattle.rq_grammar.specs.declared.token.Token.{Token}
use Rattle.rq_grammar.specs.declared.token.Token.TheVariants as t
use Rattle.rq_grammar.specs.declared.expr.BinaryOp.{BinaryOp}
use Rattle.rq_grammar.specs.declared.expr.Expr.{Expr}
use Rattle.rq_grammar.specs.declared.stmt.ColumnDef.{ColumnDef}
use Rattle.rq_grammar.specs.declared.stmt.ResultItem.{ResultItem}
use Rattle.rq_grammar.specs.declared.stmt.OrderTerm.{OrderTerm}
use Rattle.rq_grammar.specs.declared.stmt.Stmt.{Stmt}
use Rattle.rq_automaton.specs.declared.place.NewTable.{NewTable}
use Rattle.rq_automaton.specs.declared.place.Target.{Target}
use Rattle.rq_automaton.specs.declared.place.Query.{Query}
use Rattle.rq_automaton.specs.declared.place.Stage.TheVariants as stage
use Rattle.rq_automaton.specs.declared.place.Place.{Place}
use Rattle.rq_automaton.specs.declared.place.Place.TheVariants as p
use Rattle.rq_automaton.specs.declared.place.CreatePlace.TheVariants as cp
use Rattle.rq_automaton.specs.declared.place.DropPlace.TheVariants as dp
use Rattle.rq_automaton.specs.declared.place.InsertPlace.TheVariants as ip
use Rattle.rq_automaton.specs.declared.place.UpdatePlace.TheVariants as up
use Rattle.rq_automaton.specs.declared.place.DeletePlace.TheVariants as del
use Rattle.rq_automaton.specs.declared.place.SelectPlace.TheVariants as sp
use Rattle.rq_automaton.specs.declared.frame.Clause.{Clause}
use Rattle.rq_automaton.specs.declared.frame.Clause.TheVariants as c
use Rattle.rq_automaton.specs.declared.frame.Frame.TheVariants as f
use Rattle.rq_automaton.specs.declared.frame.State.{State}
use Rattle.rq_automaton.specs.declared.frame.State.TheVariants as s
use Rattle.rq_grammar.specs.Words.{Text, Tokens, is_reserved, is_time, Name, NameInside, is_numeral}
use Rattle.rq_grammar.specs.Grammar.{level, upper, At, Some_of, Spelled, Denial}
use Rattle.rq_grammar.specs.Statements as S
use Rattle.rq_automaton.specs.Stack.{Stack, room}
use Rattle.rq_automaton.specs.Places.{target, query, with_limit}

-- ---- lists whose next item is to come

pub data Before {A : Type 0} (R : Tokens → List A → Tokens → Type 0) : Tokens → List A → Tokens → Type 0 where
  no_items : {y : Tokens} → Before R y [] y
  items : {xs : List A} {x y : Tokens} → R x xs (t.Comma ∷ y) → Before R x xs y

-- ---- selects

abbrev pub results : Query → List ResultItem → Query
results q is = record q { select = record q.select { results = is } }

abbrev pub sourced : Query → Option Text → Query
sourced q n = record q { select = record q.select { table = n } }

abbrev pub filtered : Query → Option Expr → Query
filtered q a = record q { select = record q.select { filter = a } }

abbrev pub terms : Query → List OrderTerm → Query
terms q is = record q { select = record q.select { order = is } }

abbrev pub limits : Query → Option Expr → Option Expr → Query
limits q a b = record q { select = record q.select { limit = a; offset = b } }

-- what stands before SELECT
pub data Opening : Tokens → Option Target → Tokens → Type 0 where
  no_target : {x : Tokens} → Opening x None x
  in_target : {n l m : Text} {u : Token} {ns : Option (List Text)} {y z : Tokens} → Name n u → S.ColumnNames z ns y → Opening (t.Word l w.Insert ∷ t.Word m w.Into ∷ u ∷ z) (Some (target n ns)) y

pub data WithResults : Tokens → Query → Tokens → Type 0 where
  with_results : {i : Option Target} {is : List ResultItem} {m : Text} {x y z : Tokens} → Opening x i (t.Word m w.Select ∷ y) → S.ResultList y is z → WithResults x (results (query i) is) z

pub data WithSource : Tokens → Query → Tokens → Type 0 where
  with_source : {q : Query} {n : Option Text} {x y z : Tokens} → WithResults x q y → S.From y n z → WithSource x (sourced q n) z

pub data WithFilter : Tokens → Query → Tokens → Type 0 where
  with_filter : {q : Query} {a : Option Expr} {x y z : Tokens} → WithSource x q y → S.Where y a z → WithFilter x (filtered q a) z

pub data WithOrder : Tokens → Query → Tokens → Type 0 where
  with_order : {q : Query} {is : List OrderTerm} {x y z : Tokens} → WithFilter x q y → S.OrderBy y is z → WithOrder x (terms q is) z

pub data WithLimits : Tokens → Query → Tokens → Type 0 where
  with_limits : {q : Query} {a b : Option Expr} {x y z : Tokens} → WithOrder x q y → S.Limits y a b z → WithLimits x (limits q a b) z

-- the tokens x are read up to y, and an expression of the clause is to come
pub data Within : Tokens → Clause → Tokens → Type 0 where
  row_in : {n l m k : Text} {u : Token} {ns : Option (List Text)} {rs : List (List Expr)} {xs : List Expr} {y z z1 z2 : Tokens} → Name n u → S.ColumnNames z ns (t.Word k w.Values ∷ z1) → Before S.Rows z1 rs (t.Open ∷ z2) → Before Some_of z2 xs y → Within (t.Word l w.Insert ∷ t.Word m w.Into ∷ u ∷ z) (c.Row (target n ns) rs xs) y
  results_in : {i : Option Target} {is : List ResultItem} {m : Text} {x y z : Tokens} → Opening x i (t.Word m w.Select ∷ y) → Before S.ResultList y is z → Within x (c.Results (results (query i) is)) z
  filter_in : {q : Query} {n : Text} {x y : Tokens} → WithSource x q (t.Word n w.Where ∷ y) → Within x (c.Filter q) y
  order_in : {q : Query} {is : List OrderTerm} {n m : Text} {x y z : Tokens} → WithFilter x q (t.Word n w.Order ∷ t.Word m w.By ∷ y) → Before S.TermList y is z → Within x (c.Order (terms q is)) z
  limit_in : {q : Query} {n : Text} {x y : Tokens} → WithOrder x q (t.Word n w.Limit ∷ y) → Within x (c.Limit q) y
  offset_in : {q : Query} {a : Expr} {n m : Text} {x y z : Tokens} → WithOrder x q (t.Word n w.Limit ∷ y) → At 0 y a (t.Word m w.Offset ∷ z) → Within x (c.Offset (with_limit q a)) z
  set_in : {n l m k : Text} {u u' : Token} {is : List (Text × Expr)} {y z : Tokens} → Name n u → Before S.SetList y is (u' ∷ t.Equal ∷ z) → Name k u' → Within (t.Word l w.Update ∷ u ∷ t.Word m w.Set ∷ y) (c.Set n is k) z
  update_filter_in : {n l m k : Text} {u : Token} {is : List (Text × Expr)} {y z : Tokens} → Name n u → S.SetList y is (t.Word k w.Where ∷ z) → Within (t.Word l w.Update ∷ u ∷ t.Word m w.Set ∷ y) (c.UpdateFilter n is) z
  delete_filter_in : {n l m k : Text} {u : Token} {z : Tokens} → Name n u → Within (t.Word l w.Delete ∷ t.Word m w.From ∷ u ∷ t.Word k w.Where ∷ z) (c.DeleteFilter n) z

-- the tokens x are read up to y as what is open
pub data Stacked : Tokens → Stack → Tokens → Type 0 where
  binary_on : {x y y' z : Tokens} {st : Stack} {o : BinaryOp} {a : Expr} → Stacked x st y → room st ≤ level o → At (level o) y a y' → Spelled o y' z → Stacked x (f.Binary o a ∷ st) z
  not_on : {x y : Tokens} {st : Stack} {n : Text} → room st ≤ 3 → Stacked x st (t.Word n w.Not ∷ y) → Stacked x (f.Not ∷ st) y
  plus_on : {x y : Tokens} {st : Stack} → Stacked x st (t.Plus ∷ y) → Stacked x (f.Plus ∷ st) y
  plus_again : {x y : Tokens} {st : Stack} → Stacked x (f.Plus ∷ st) (t.Plus ∷ y) → Stacked x (f.Plus ∷ st) y
  minus_on : {x y : Tokens} {st : Stack} {u : Token} → is_numeral u ≡ false → Stacked x st (t.Minus ∷ u ∷ y) → Stacked x (f.Minus ∷ st) (u ∷ y)
  low_on : {x y y' z : Tokens} {st : Stack} {d : Bool} {a : Expr} {n : Text} → Stacked x st y → room st ≤ 4 → At 4 y a y' → Denial d y' (t.Word n w.Between ∷ z) → Stacked x (f.Low d a ∷ st) z
  high_on : {x y y' z z' : Tokens} {st : Stack} {d : Bool} {a b : Expr} {n m : Text} → Stacked x st y → room st ≤ 4 → At 4 y a y' → Denial d y' (t.Word n w.Between ∷ z) → At 5 z b (t.Word m w.And ∷ z') → Stacked x (f.High d a b ∷ st) z'
  paren_on : {x y : Tokens} {st : Stack} → Stacked x st (t.Open ∷ y) → Stacked x (f.Paren ∷ st) y
  args_on : {x y z : Tokens} {st : Stack} {n : Text} {k : Word} {xs : List Expr} → is_reserved k ≡ false → is_time k ≡ false → Stacked x st (t.Word n k ∷ t.Open ∷ z) → Before Some_of z xs y → Stacked x (f.Args (upper n) xs ∷ st) y
  among_on : {x y y' z z' : Tokens} {st : Stack} {d : Bool} {a : Expr} {n : Text} {xs : List Expr} → Stacked x st y → room st ≤ 4 → At 4 y a y' → Denial d y' (t.Word n w.In ∷ t.Open ∷ z) → Before Some_of z xs z' → Stacked x (f.Among d a xs ∷ st) z'
  clause_on : {x y : Tokens} {k : Clause} → Within x k y → Stacked x (f.Clause k ∷ []) y

-- CREATE TABLE, and the columns before the next one
pub data Headed : Tokens → NewTable → Tokens → Type 0 where
  headed : {b : Bool} {n l m : Text} {u : Token} {ds : List ColumnDef} {x y z : Tokens} → S.IfNotExists b x (u ∷ t.Open ∷ y) → Name n u → Before S.ColumnList y ds z → Headed (t.Word l w.Create ∷ t.Word m w.Table ∷ x) (record { if_not_exists = b; table = n; columns = ds }) z

-- the tokens x are read up to y, and the place is behind them
pub data Came : Tokens → Place → Tokens → Type 0 where
  at_start : {x : Tokens} → Came x p.Start x
  at_create : {l : Text} {y : Tokens} → Came (t.Word l w.Create ∷ y) (p.Create cp.Begun) y
  at_create_table : {l m : Text} {y : Tokens} → Came (t.Word l w.Create ∷ t.Word m w.Table ∷ y) (p.Create cp.Table) y
  at_create_if : {l m n : Text} {y : Tokens} → Came (t.Word l w.Create ∷ t.Word m w.Table ∷ t.Word n w.If ∷ y) (p.Create (cp.If n)) y
  at_create_if_not : {l m n k : Text} {y : Tokens} → Came (t.Word l w.Create ∷ t.Word m w.Table ∷ t.Word n w.If ∷ t.Word k w.Not ∷ y) (p.Create cp.IfNot) y
  at_create_if_not_exists : {l m n k j : Text} {y : Tokens} → Came (t.Word l w.Create ∷ t.Word m w.Table ∷ t.Word n w.If ∷ t.Word k w.Not ∷ t.Word j w.Exists ∷ y) (p.Create cp.IfNotExists) y
  at_create_named : {b : Bool} {l m n : Text} {u : Token} {x y : Tokens} → S.IfNotExists b x (u ∷ y) → Name n u → Came (t.Word l w.Create ∷ t.Word m w.Table ∷ x) (p.Create (cp.Named b n)) y
  at_column_start : {z : NewTable} {x y : Tokens} → Headed x z y → Came x (p.Create (cp.ColumnStart z)) y
  at_column_named : {z : NewTable} {n : Text} {u : Token} {x y : Tokens} → Headed x z (u ∷ y) → Name n u → Came x (p.Create (cp.ColumnNamed z n)) y
  at_column : {z : NewTable} {d : ColumnDef} {x y y' : Tokens} → Headed x z y → S.Column y d y' → Came x (p.Create (cp.Column z d)) y'
  at_primary : {z : NewTable} {d : ColumnDef} {n : Text} {x y y' : Tokens} → Headed x z y → S.Column y d (t.Word n w.Primary ∷ y') → d.primary ≡ false → Came x (p.Create (cp.ColumnPrimary z d)) y'
  at_not : {z : NewTable} {d : ColumnDef} {n : Text} {x y y' : Tokens} → Headed x z y → S.Column y d (t.Word n w.Not ∷ y') → d.not_null ≡ false → Came x (p.Create (cp.ColumnNot z d)) y'
  at_drop : {l : Text} {y : Tokens} → Came (t.Word l w.Drop ∷ y) (p.Drop dp.Begun) y
  at_drop_table : {l m : Text} {y : Tokens} → Came (t.Word l w.Drop ∷ t.Word m w.Table ∷ y) (p.Drop dp.Table) y
  at_drop_if : {l m n : Text} {y : Tokens} → Came (t.Word l w.Drop ∷ t.Word m w.Table ∷ t.Word n w.If ∷ y) (p.Drop (dp.If n)) y
  at_drop_if_exists : {l m n k : Text} {y : Tokens} → Came (t.Word l w.Drop ∷ t.Word m w.Table ∷ t.Word n w.If ∷ t.Word k w.Exists ∷ y) (p.Drop dp.IfExists) y
  at_insert : {l : Text} {y : Tokens} → Came (t.Word l w.Insert ∷ y) (p.Insert ip.Begun) y
  at_into : {l m : Text} {y : Tokens} → Came (t.Word l w.Insert ∷ t.Word m w.Into ∷ y) (p.Insert ip.Into) y
  at_table : {l m n : Text} {u : Token} {y : Tokens} → Name n u → Came (t.Word l w.Insert ∷ t.Word m w.Into ∷ u ∷ y) (p.Insert (ip.Table n)) y
  at_name_start : {l m n : Text} {u : Token} {ns : List Text} {y z : Tokens} → Name n u → Before S.NameList z ns y → Came (t.Word l w.Insert ∷ t.Word m w.Into ∷ u ∷ t.Open ∷ z) (p.Insert (ip.NameStart n ns)) y
  at_names : {l m n : Text} {u : Token} {ns : List Text} {y z : Tokens} → Name n u → S.NameList z ns y → Came (t.Word l w.Insert ∷ t.Word m w.Into ∷ u ∷ t.Open ∷ z) (p.Insert (ip.Names n ns)) y
  at_columns : {l m n : Text} {u : Token} {ns : Option (List Text)} {y z : Tokens} → Name n u → S.ColumnNames z ns y → Came (t.Word l w.Insert ∷ t.Word m w.Into ∷ u ∷ z) (p.Insert (ip.Columns (target n ns))) y
  at_values : {l m n k : Text} {u : Token} {ns : Option (List Text)} {rs : List (List Expr)} {y z z1 : Tokens} → Name n u → S.ColumnNames z ns (t.Word k w.Values ∷ z1) → Before S.Rows z1 rs y → Came (t.Word l w.Insert ∷ t.Word m w.Into ∷ u ∷ z) (p.Insert (ip.Values (target n ns) rs)) y
  at_rows : {l m n k : Text} {u : Token} {ns : Option (List Text)} {rs : List (List Expr)} {y z z1 : Tokens} → Name n u → S.ColumnNames z ns (t.Word k w.Values ∷ z1) → S.Rows z1 rs y → Came (t.Word l w.Insert ∷ t.Word m w.Into ∷ u ∷ z) (p.Insert (ip.Rows (target n ns) rs)) y
  at_update : {l : Text} {y : Tokens} → Came (t.Word l w.Update ∷ y) (p.Update up.Begun) y
  at_update_table : {l n : Text} {u : Token} {y : Tokens} → Name n u → Came (t.Word l w.Update ∷ u ∷ y) (p.Update (up.Table n)) y
  at_set_start : {l m n : Text} {u : Token} {is : List (Text × Expr)} {y z : Tokens} → Name n u → Before S.SetList z is y → Came (t.Word l w.Update ∷ u ∷ t.Word m w.Set ∷ z) (p.Update (up.SetStart n is)) y
  at_set_name : {l m n k : Text} {u u' : Token} {is : List (Text × Expr)} {y z : Tokens} → Name n u → Before S.SetList z is (u' ∷ y) → Name k u' → Came (t.Word l w.Update ∷ u ∷ t.Word m w.Set ∷ z) (p.Update (up.SetName n is k)) y
  at_sets : {l m n : Text} {u : Token} {is : List (Text × Expr)} {y z : Tokens} → Name n u → S.SetList z is y → Came (t.Word l w.Update ∷ u ∷ t.Word m w.Set ∷ z) (p.Update (up.Sets n is)) y
  at_delete : {l : Text} {y : Tokens} → Came (t.Word l w.Delete ∷ y) (p.Delete del.Begun) y
  at_delete_from : {l m : Text} {y : Tokens} → Came (t.Word l w.Delete ∷ t.Word m w.From ∷ y) (p.Delete del.From) y
  at_delete_table : {l m n : Text} {u : Token} {y : Tokens} → Name n u → Came (t.Word l w.Delete ∷ t.Word m w.From ∷ u ∷ y) (p.Delete (del.Table n)) y
  at_result : {i : Option Target} {is : List ResultItem} {m : Text} {x y z : Tokens} → Opening x i (t.Word m w.Select ∷ y) → Before S.ResultList y is z → Came x (p.Select (sp.Result (results (query i) is))) z
  at_alias : {i : Option Target} {is : List ResultItem} {a : Expr} {m n : Text} {x y y' z : Tokens} → Opening x i (t.Word m w.Select ∷ y) → Before S.ResultList y is y' → At 0 y' a (t.Word n w.As ∷ z) → Came x (p.Select (sp.Alias (results (query i) is) a)) z
  tail_results : {q : Query} {x y : Tokens} → WithResults x q y → Came x (p.Select (sp.Tail stage.Results q)) y
  tail_source : {q : Query} {x y : Tokens} → WithSource x q y → Came x (p.Select (sp.Tail stage.Source q)) y
  tail_filtered : {q : Query} {x y : Tokens} → WithFilter x q y → Came x (p.Select (sp.Tail stage.Filtered q)) y
  tail_ordered : {q : Query} {is : List OrderTerm} {n m : Text} {x y z : Tokens} → WithFilter x q (t.Word n w.Order ∷ t.Word m w.By ∷ y) → S.TermList y is z → Came x (p.Select (sp.Tail stage.Ordered (terms q is))) z
  tail_limited : {q : Query} {x y : Tokens} → WithLimits x q y → Came x (p.Select (sp.Tail stage.Limited q)) y
  at_from : {q : Query} {n : Text} {x y : Tokens} → WithResults x q (t.Word n w.From ∷ y) → Came x (p.Select (sp.From q)) y
  at_order : {q : Query} {n : Text} {x y : Tokens} → WithFilter x q (t.Word n w.Order ∷ y) → Came x (p.Select (sp.Order q)) y
  at_ended : {r : Stmt} {x y : Tokens} → (S.Semis y → S.Spells x r) → Came x (p.Ended r) y

-- the tokens x are read up to y
pub data Reached : Tokens → State → Tokens → Type 0 where
  at_place : {x y : Tokens} {z : Place} → Came x z y → Reached x (s.Flat z) y
  at_operand : {x y : Tokens} {st : Stack} → Stacked x st y → Reached x (s.Operand st) y
  at_signed : {x y : Tokens} {st : Stack} → Stacked x st (t.Minus ∷ y) → Reached x (s.Signed st) y
  at_quoted : {x y : Tokens} {st : Stack} {n : Text} → Stacked x st (t.Quoted n ∷ y) → Reached x (s.Quoted st n) y
  at_named : {x y : Tokens} {st : Stack} {n : Text} {k : Word} → is_reserved k ≡ false → is_time k ≡ false → Stacked x st (t.Word n k ∷ y) → Reached x (s.Named st false n) y
  at_count : {x y : Tokens} {st : Stack} {n : Text} → Stacked x st (t.Word n w.Count ∷ y) → Reached x (s.Named st true n) y
  at_dotted : {x y : Tokens} {st : Stack} {n : Text} {u : Token} → NameInside n u → Stacked x st (u ∷ t.Dot ∷ y) → Reached x (s.Dotted st n) y
  at_opened : {x y : Tokens} {st : Stack} {n : Text} {k : Word} → is_reserved k ≡ false → is_time k ≡ false → Stacked x st (t.Word n k ∷ t.Open ∷ y) → Reached x (s.Opened st false (upper n)) y
  at_opened_count : {x y : Tokens} {st : Stack} {n : Text} → Stacked x st (t.Word n w.Count ∷ t.Open ∷ y) → Reached x (s.Opened st true (upper n)) y
  at_counted : {x y : Tokens} {st : Stack} {n : Text} → Stacked x st (t.Word n w.Count ∷ t.Open ∷ t.Star ∷ y) → Reached x (s.Counted st) y
  at_done : {x y z : Tokens} {st : Stack} {m : ℕ} {a : Expr} → Stacked x st y → At m y a z → room st ≤ m → 4 ≤ m → Reached x (s.Done st m a) z
  at_denied : {x y z : Tokens} {st : Stack} {a : Expr} {n : Text} → Stacked x st y → At 4 y a (t.Word n w.Not ∷ z) → room st ≤ 4 → Reached x (s.Denied st a) z
  at_is : {x y z : Tokens} {st : Stack} {a : Expr} {n : Text} → Stacked x st y → At 4 y a (t.Word n w.Is ∷ z) → room st ≤ 4 → Reached x (s.Is st a) z
  at_in : {x y y' z : Tokens} {st : Stack} {d : Bool} {a : Expr} {n : Text} → Stacked x st y → At 4 y a y' → room st ≤ 4 → Denial d y' (t.Word n w.In ∷ z) → Reached x (s.In st d a) z
  at_listed : {x y y' z : Tokens} {st : Stack} {d : Bool} {a : Expr} {n : Text} → Stacked x st y → At 4 y a y' → room st ≤ 4 → Denial d y' (t.Word n w.In ∷ t.Open ∷ z) → Reached x (s.Listed st d a) z
