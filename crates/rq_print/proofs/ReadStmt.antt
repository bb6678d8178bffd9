-- The text of a statement is read as its canonical tokens.
use Rattle.std.proofs.Common.{Bool, true, false, ◌≡◌, ◌&&◌, List, [], ◌∷◌, ◌++◌, map, refl, sym, ap, subst, ◌∙◌, Option, Some, None, append_assoc, append-nil}
use Rattle.std.specs.Prelude.{codes}
use Rattle.rq_values.specs.Text.{is_text}
use Rattle.rq_grammar.specs.declared.word.Word.TheVariants as w
use Rattle.rq_grammar.specs.declared.token.Token.TheVariants as t
use Rattle.rq_grammar.specs.declared.expr.BinaryOp.TheVariants as op
use Rattle.rq_grammar.specs.declared.expr.Expr.{Expr}
use Rattle.rq_grammar.specs.declared.stmt.ColumnKind.{ColumnKind}
use Rattle.rq_grammar.specs.declared.stmt.ColumnKind.TheVariants as kind
use Rattle.rq_grammar.specs.declared.stmt.ColumnDef.{ColumnDef}
use Rattle.rq_grammar.specs.declared.stmt.ResultItem.{ResultItem}
use Rattle.rq_grammar.specs.declared.stmt.ResultItem.TheVariants as item
use Rattle.rq_grammar.specs.declared.stmt.OrderTerm.{OrderTerm}
use Rattle.rq_grammar.specs.declared.stmt.SelectStmt.{SelectStmt}
use Rattle.rq_grammar.specs.declared.stmt.InsertRows.{InsertRows}
use Rattle.rq_grammar.specs.declared.stmt.InsertRows.TheVariants as rows
use Rattle.rq_grammar.specs.declared.stmt.Stmt.{Stmt}
use Rattle.rq_grammar.specs.declared.stmt.Stmt.TheVariants as stmt
use Rattle.rq_grammar.specs.Words.{Text}
use Rattle.rq_grammar.specs.Spelling.{is_bare, word_of}
use Rattle.rq_grammar.specs.Print as P
use Rattle.rq_grammar.specs.Print.{Front, prefix, tokens_of}
use Rattle.rq_grammar.specs.Proper.{all_of, is_some_of, is_proper, is_maybe, is_row, is_result, is_term, are_limits, is_select, is_set, are_rows, are_names, is_statement}
use Rattle.rq_lexer.specs.Spelled.{tokens_in}
use Rattle.rq_print.specs.Text as spec
use Rattle.rq_print.specs.Text.{expr_text, listed, listed_behind, name_text, clause_text, name_clause_text, flag_text}
use Rattle.rq_print.specs.Written.{is_written, maybe_written, maybe_text, row_written, result_written, term_written, limits_written, select_written, column_written, names_written, rows_written, set_written, statement_written}
use Rattle.rq_print.proofs.ReadExpr as R
use Rattle.rq_print.proofs.ReadExpr.{SpelledLaw, BlankLaw, Ends, Reads, Passes, Follows, both, same, four, go, followed, behind_follows}

some_all : (bs : List Bool) → is_some_of bs ≡ true → all_of bs ≡ true
some_all [] h = absurd (cc)
some_all (b ∷ bs) h = h

-- a test that all pass
pub anything : {A : Type 0} (xs : List A) → all_of (map (λ a. true) xs) ≡ true
anything [] = refl
anything (a ∷ xs) = anything xs

both_follow : (x z : Text) → Follows x → Follows z → Follows (x ++ z)
both_follow x z p q y e = subst Ends (sym (append_assoc x z y)) (p (z ++ y) (q y e))

flag_follows : (b : Bool) (x : Text) → Follows x → Follows (flag_text b x)
flag_follows true x p = p
flag_follows false x p = λ y e. e

where_follows : (g : Option Expr) → Follows (clause_text (codes " WHERE ") g)
where_follows None y e = e
where_follows (Some a) y e = refl

offset_follows : (g : Option Expr) → Follows (clause_text (codes " OFFSET ") g)
offset_follows None y e = e
offset_follows (Some a) y e = refl

alias_follows : (n : Option Text) → Follows (name_clause_text (codes " AS ") n)
alias_follows None y e = e
alias_follows (Some n) y e = refl

from_follows : (n : Option Text) → Follows (name_clause_text (codes " FROM ") n)
from_follows None y e = e
from_follows (Some n) y e = refl

order_follows : (is : List OrderTerm) → Follows (spec.order_text is)
order_follows [] y e = e
order_follows (i ∷ is) y e = refl

limit_follows : (a b : Option Expr) → Follows (spec.limit_text a b)
limit_follows None b y e = e
limit_follows (Some a) b y e = refl

kind_follows : (k : ColumnKind) → Follows (spec.kind_text k)
kind_follows kind.Integer y e = refl
kind_follows kind.Text y e = refl
kind_follows kind.Blob y e = refl

rules_follow : (d : ColumnDef) → Follows (spec.rules_text d)
rules_follow d =
    let primary = flag_text d.primary (codes " PRIMARY KEY") in
    let not_null = flag_text d.not_null (codes " NOT NULL") in
    both_follow (primary ++ not_null) (flag_text d.unique (codes " UNIQUE"))
    (both_follow primary not_null (flag_follows d.primary (codes " PRIMARY KEY") (λ y e. refl)) (flag_follows d.not_null (codes " NOT NULL") (λ y e. refl)))
    (flag_follows d.unique (codes " UNIQUE") (λ y e. refl))

tail_follows : (q : SelectStmt) → Follows (spec.tail_text q)
tail_follows q =
    let filter = clause_text (codes " WHERE ") q.filter in
    both_follow (filter ++ spec.order_text q.order) (spec.limit_text q.limit q.offset) (both_follow filter (spec.order_text q.order) (where_follows q.filter) (order_follows q.order)) (limit_follows q.limit q.offset)

names_follow : (ns : Option (List Text)) → Follows (spec.names_text ns)
names_follow None y e = e
names_follow (Some ns) y e = refl

inserted_follows : (rs : InsertRows) → Follows (spec.inserted_text rs)
inserted_follows (rows.Values rs) y e = refl
inserted_follows (rows.Select q) y e = refl

module _ (S : SpelledLaw) (B : BlankLaw) where
  expr_reads : (a : Expr) → is_proper a ≡ true → is_written a ≡ true → Reads (expr_text a) (prefix a)
  expr_reads = R.expr_reads S B

  -- ---- lists

  more_of : {A : Type 0} (show : A → Text) (tok : A → Front) (good good' : A → Bool) (reads : (a : A) → good a ≡ true → good' a ≡ true → Reads (show a) (tok a)) (xs : List A) → all_of (map good xs) ≡ true → all_of (map good' xs) ≡ true → Reads (listed_behind (codes ", ") (map show xs)) (P.more (map tok xs))
  more_of show tok good good' reads [] g h = λ y e. refl
  more_of show tok good good' reads (x ∷ xs) g h =
      let c = both (good x) (all_of (map good xs)) g in
      let d = both (good' x) (all_of (map good' xs)) h in
      let rest = listed_behind (codes ", ") (map show xs) in
      go (codes ", ") (show x ++ rest) (λ y. t.Comma ∷ y) (λ y. tok x (P.more (map tok xs) y)) (R.comma S B)
      (followed (show x) rest (tok x) (P.more (map tok xs)) (reads x c.0 d.0) (behind_follows (map show xs)) (more_of show tok good good' reads xs c.1 d.1))

  list_of : {A : Type 0} (show : A → Text) (tok : A → Front) (good good' : A → Bool) (reads : (a : A) → good a ≡ true → good' a ≡ true → Reads (show a) (tok a)) (xs : List A) → all_of (map good xs) ≡ true → all_of (map good' xs) ≡ true → Reads (listed (map show xs)) (P.commas (map tok xs))
  list_of show tok good good' reads [] g h = λ y e. refl
  list_of show tok good good' reads (x ∷ xs) g h =
      let c = both (good x) (all_of (map good xs)) g in
      let d = both (good' x) (all_of (map good' xs)) h in
      let rest = listed_behind (codes ", ") (map show xs) in
      followed (show x) rest (tok x) (P.more (map tok xs)) (reads x c.0 d.0) (behind_follows (map show xs)) (more_of show tok good good' reads xs c.1 d.1)

  -- ---- clauses

  where_word : Passes (codes " WHERE ") (λ y. P.word (codes "WHERE") w.Where ∷ y)
  unfolding is_bare word_of
  where_word y = R.spaced S B (codes "WHERE") w.Where refl refl y

  where_reads : (g : Option Expr) → is_maybe g ≡ true → maybe_written g ≡ true → Reads (clause_text (codes " WHERE ") g) (P.filter g)
  where_reads None g h = λ y e. refl
  where_reads (Some a) g h = go (codes " WHERE ") (expr_text a) (λ y. P.word (codes "WHERE") w.Where ∷ y) (prefix a) where_word (expr_reads a g h)

  offset_word : Passes (codes " OFFSET ") (λ y. P.word (codes "OFFSET") w.Offset ∷ y)
  unfolding is_bare word_of
  offset_word y = R.spaced S B (codes "OFFSET") w.Offset refl refl y

  offset_reads : (g : Option Expr) → is_maybe g ≡ true → maybe_written g ≡ true → Reads (clause_text (codes " OFFSET ") g) (P.offset g)
  offset_reads None g h = λ y e. refl
  offset_reads (Some a) g h = go (codes " OFFSET ") (expr_text a) (λ y. P.word (codes "OFFSET") w.Offset ∷ y) (prefix a) offset_word (expr_reads a g h)

  as_word : Passes (codes " AS ") (λ y. P.word (codes "AS") w.As ∷ y)
  unfolding is_bare word_of
  as_word y = R.spaced S B (codes "AS") w.As refl refl y

  alias_reads : (n : Option Text) → maybe_text n ≡ true → Reads (name_clause_text (codes " AS ") n) (P.alias n)
  alias_reads None h = λ y e. refl
  alias_reads (Some n) h = go (codes " AS ") (name_text n) (λ y. P.word (codes "AS") w.As ∷ y) (λ y. t.Quoted n ∷ y) as_word (R.name_reads S B n h)

  from_word : Passes (codes " FROM ") (λ y. P.word (codes "FROM") w.From ∷ y)
  unfolding is_bare word_of
  from_word y = R.spaced S B (codes "FROM") w.From refl refl y

  source_reads : (n : Option Text) → maybe_text n ≡ true → Reads (name_clause_text (codes " FROM ") n) (P.source n)
  source_reads None h = λ y e. refl
  source_reads (Some n) h = go (codes " FROM ") (name_text n) (λ y. P.word (codes "FROM") w.From ∷ y) (λ y. t.Quoted n ∷ y) from_word (R.name_reads S B n h)

  result_reads : (i : ResultItem) → is_result i ≡ true → result_written i ≡ true → Reads (spec.result_text i) (P.result i)
  result_reads item.All g h = λ y e. S t.Star y tt refl
  result_reads (item.Value a n) g h =
      let d = both (is_written a) (maybe_text n) h in
      followed (expr_text a) (name_clause_text (codes " AS ") n) (prefix a) (P.alias n) (expr_reads a g d.0) (alias_follows n) (alias_reads n d.1)

  direction_reads : (b : Bool) → Reads (flag_text b (codes " DESC")) (P.direction b)
  unfolding is_bare word_of
  direction_reads true y e = B (codes "DESC" ++ y) ∙ R.word S B (codes "DESC") w.Desc refl refl y e
  direction_reads false y e = refl

  term_reads : (i : OrderTerm) → is_term i ≡ true → term_written i ≡ true → Reads (spec.term_text i) (P.term i)
  term_reads i g h = followed (expr_text i.expr) (flag_text i.descending (codes " DESC")) (prefix i.expr) (P.direction i.descending) (expr_reads i.expr g h) (flag_follows i.descending (codes " DESC") (λ y e. refl)) (direction_reads i.descending)

  order_words : Passes (codes " ORDER BY ") (λ y. P.word (codes "ORDER") w.Order ∷ P.word (codes "BY") w.By ∷ y)
  unfolding is_bare word_of
  order_words y = R.spaced S B (codes "ORDER") w.Order refl refl (codes "BY " ++ y) ∙ ap (λ z. P.word (codes "ORDER") w.Order ∷ z) (R.before_blank S B (codes "BY") w.By refl refl y)

  order_reads : (is : List OrderTerm) → all_of (map is_term is) ≡ true → all_of (map term_written is) ≡ true → Reads (spec.order_text is) (P.order_by is)
  order_reads [] g h = λ y e. refl
  order_reads (i ∷ is) g h = go (codes " ORDER BY ") (listed (map spec.term_text (i ∷ is))) (λ y. P.word (codes "ORDER") w.Order ∷ P.word (codes "BY") w.By ∷ y) (P.commas (map P.term (i ∷ is))) order_words (list_of spec.term_text P.term is_term term_written term_reads (i ∷ is) g h)

  limit_word : Passes (codes " LIMIT ") (λ y. P.word (codes "LIMIT") w.Limit ∷ y)
  unfolding is_bare word_of
  limit_word y = R.spaced S B (codes "LIMIT") w.Limit refl refl y

  limit_reads : (a b : Option Expr) → are_limits a b ≡ true → limits_written a b ≡ true → Reads (spec.limit_text a b) (P.limit a b)
  limit_reads None b g h = λ y e. refl
  limit_reads (Some a) b g h =
      let c = both (is_proper a) (is_maybe b) g in
      let d = both (is_written a) (maybe_written b) h in
      same (λ y. P.word (codes "LIMIT") w.Limit ∷ prefix a (P.offset b y)) (append_assoc (codes " LIMIT ") (expr_text a) (clause_text (codes " OFFSET ") b))
      (go (codes " LIMIT ") (expr_text a ++ clause_text (codes " OFFSET ") b) (λ y. P.word (codes "LIMIT") w.Limit ∷ y) (λ y. prefix a (P.offset b y)) limit_word
      (followed (expr_text a) (clause_text (codes " OFFSET ") b) (prefix a) (P.offset b) (expr_reads a c.0 d.0) (offset_follows b) (offset_reads b c.1 d.1)))

  select_word : Passes (codes "SELECT ") (λ y. P.word (codes "SELECT") w.Select ∷ y)
  unfolding is_bare word_of
  select_word y = R.before_blank S B (codes "SELECT") w.Select refl refl y

  select_reads : (q : SelectStmt) → is_select q ≡ true → select_written q ≡ true → Reads (spec.select_text q) (P.select q)
  select_reads q g h =
      let c = both (is_some_of (map is_result q.results)) (is_maybe q.filter && (all_of (map is_term q.order) && are_limits q.limit q.offset)) g in
      let c' = both (is_maybe q.filter) (all_of (map is_term q.order) && are_limits q.limit q.offset) c.1 in
      let c'' = both (all_of (map is_term q.order)) (are_limits q.limit q.offset) c'.1 in
      let d = both (all_of (map result_written q.results)) (maybe_text q.table && (maybe_written q.filter && (all_of (map term_written q.order) && limits_written q.limit q.offset))) h in
      let d' = both (maybe_text q.table) (maybe_written q.filter && (all_of (map term_written q.order) && limits_written q.limit q.offset)) d.1 in
      let d'' = both (maybe_written q.filter) (all_of (map term_written q.order) && limits_written q.limit q.offset) d'.1 in
      let d''' = both (all_of (map term_written q.order)) (limits_written q.limit q.offset) d''.1 in
      let results = listed (map spec.result_text q.results) in
      let from = name_clause_text (codes " FROM ") q.table in
      let filter = clause_text (codes " WHERE ") q.filter in
      let order = spec.order_text q.order in
      let limit = spec.limit_text q.limit q.offset in
      same (λ y. P.word (codes "SELECT") w.Select ∷ P.commas (map P.result q.results) (P.source q.table (P.filter q.filter (P.order_by q.order (P.limit q.limit q.offset y))))) (four (codes "SELECT ") results from (spec.tail_text q))
      (go (codes "SELECT ") (results ++ (from ++ spec.tail_text q)) (λ y. P.word (codes "SELECT") w.Select ∷ y) (λ y. P.commas (map P.result q.results) (P.source q.table (P.filter q.filter (P.order_by q.order (P.limit q.limit q.offset y))))) select_word
      (followed results (from ++ spec.tail_text q) (P.commas (map P.result q.results)) (λ y. P.source q.table (P.filter q.filter (P.order_by q.order (P.limit q.limit q.offset y)))) (list_of spec.result_text P.result is_result result_written result_reads q.results (some_all (map is_result q.results) c.0) d.0) (both_follow from (spec.tail_text q) (from_follows q.table) (tail_follows q))
      (followed from (spec.tail_text q) (P.source q.table) (λ y. P.filter q.filter (P.order_by q.order (P.limit q.limit q.offset y))) (source_reads q.table d'.0) (tail_follows q)
      (same (λ y. P.filter q.filter (P.order_by q.order (P.limit q.limit q.offset y))) (append_assoc filter order limit)
      (followed filter (order ++ limit) (P.filter q.filter) (λ y. P.order_by q.order (P.limit q.limit q.offset y)) (where_reads q.filter c'.0 d''.0) (both_follow order limit (order_follows q.order) (limit_follows q.limit q.offset))
      (followed order limit (P.order_by q.order) (P.limit q.limit q.offset) (order_reads q.order c''.0 d'''.0) (limit_follows q.limit q.offset) (limit_reads q.limit q.offset c''.1 d'''.1)))))))

  -- ---- columns

  kind_reads : (k : ColumnKind) → Reads (spec.kind_text k) (P.kind_word k)
  unfolding is_bare word_of
  kind_reads kind.Integer y e = B (codes "INTEGER" ++ y) ∙ R.word S B (codes "INTEGER") w.Integer refl refl y e
  kind_reads kind.Text y e = B (codes "TEXT" ++ y) ∙ R.word S B (codes "TEXT") w.Text refl refl y e
  kind_reads kind.Blob y e = B (codes "BLOB" ++ y) ∙ R.word S B (codes "BLOB") w.Blob refl refl y e

  primary_reads : (b : Bool) → Reads (flag_text b (codes " PRIMARY KEY")) (P.primary_rule b)
  unfolding is_bare word_of
  primary_reads false y e = refl
  primary_reads true y e = R.spaced S B (codes "PRIMARY") w.Primary refl refl (codes "KEY" ++ y) ∙ ap (λ z. P.word (codes "PRIMARY") w.Primary ∷ z) (R.word S B (codes "KEY") w.Key refl refl y e)

  not_null_reads : (b : Bool) → Reads (flag_text b (codes " NOT NULL")) (P.not_null_rule b)
  unfolding is_bare word_of
  not_null_reads false y e = refl
  not_null_reads true y e = R.spaced S B (codes "NOT") w.Not refl refl (codes "NULL" ++ y) ∙ ap (λ z. P.word (codes "NOT") w.Not ∷ z) (R.word S B (codes "NULL") w.Null refl refl y e)

  unique_reads : (b : Bool) → Reads (flag_text b (codes " UNIQUE")) (P.unique_rule b)
  unfolding is_bare word_of
  unique_reads false y e = refl
  unique_reads true y e = B (codes "UNIQUE" ++ y) ∙ R.word S B (codes "UNIQUE") w.Unique refl refl y e

  column_reads : (d : ColumnDef) → true ≡ true → column_written d ≡ true → Reads (spec.column_text d) (P.column d)
  column_reads d g h =
      let primary = flag_text d.primary (codes " PRIMARY KEY") in
      let not_null = flag_text d.not_null (codes " NOT NULL") in
      let unique = flag_text d.unique (codes " UNIQUE") in
      let last = flag_follows d.unique (codes " UNIQUE") (λ y e. refl) in
      same (λ y. t.Quoted d.name ∷ P.kind_word d.kind (P.primary_rule d.primary (P.not_null_rule d.not_null (P.unique_rule d.unique y)))) (append_assoc (name_text d.name) (spec.kind_text d.kind) (spec.rules_text d))
      (followed (name_text d.name) (spec.kind_text d.kind ++ spec.rules_text d) (λ y. t.Quoted d.name ∷ y) (λ y. P.kind_word d.kind (P.primary_rule d.primary (P.not_null_rule d.not_null (P.unique_rule d.unique y)))) (R.name_reads S B d.name h) (both_follow (spec.kind_text d.kind) (spec.rules_text d) (kind_follows d.kind) (rules_follow d))
      (followed (spec.kind_text d.kind) (spec.rules_text d) (P.kind_word d.kind) (λ y. P.primary_rule d.primary (P.not_null_rule d.not_null (P.unique_rule d.unique y))) (kind_reads d.kind) (rules_follow d)
      (same (λ y. P.primary_rule d.primary (P.not_null_rule d.not_null (P.unique_rule d.unique y))) (append_assoc primary not_null unique)
      (followed primary (not_null ++ unique) (P.primary_rule d.primary) (λ y. P.not_null_rule d.not_null (P.unique_rule d.unique y)) (primary_reads d.primary) (both_follow not_null unique (flag_follows d.not_null (codes " NOT NULL") (λ y e. refl)) last)
      (followed not_null unique (P.not_null_rule d.not_null) (P.unique_rule d.unique) (not_null_reads d.not_null) last (unique_reads d.unique))))))

  blank_open : Passes (codes " (") (λ y. t.Open ∷ y)
  blank_open y = B (codes "(" ++ y) ∙ R.opens S B y

  columns_read : (ds : List ColumnDef) → all_of (map column_written ds) ≡ true → Reads (spec.columns_text ds) (λ y. t.Open ∷ P.commas (map P.column ds) (t.Close ∷ y))
  columns_read ds h =
      same (λ y. t.Open ∷ P.commas (map P.column ds) (t.Close ∷ y)) (append_assoc (codes " (") (listed (map spec.column_text ds)) (codes ")"))
      (go (codes " (") (listed (map spec.column_text ds) ++ codes ")") (λ y. t.Open ∷ y) (λ y. P.commas (map P.column ds) (t.Close ∷ y)) blank_open
      (R.closed S B (listed (map spec.column_text ds)) (P.commas (map P.column ds)) (list_of spec.column_text P.column (λ d. true) column_written column_reads ds (anything ds) h)))

  -- ---- the statements

  name_reads' : (n : Text) → true ≡ true → is_text n ≡ true → Reads (name_text n) (λ y. t.Quoted n ∷ y)
  name_reads' n g h = R.name_reads S B n h

  names_read : (ns : Option (List Text)) → names_written ns ≡ true → Reads (spec.names_text ns) (P.names ns)
  names_read None h = λ y e. refl
  names_read (Some ns) h =
      same (λ y. t.Open ∷ P.commas (map (λ n y. t.Quoted n ∷ y) ns) (t.Close ∷ y)) (append_assoc (codes " (") (listed (map name_text ns)) (codes ")"))
      (go (codes " (") (listed (map name_text ns) ++ codes ")") (λ y. t.Open ∷ y) (λ y. P.commas (map (λ n y. t.Quoted n ∷ y) ns) (t.Close ∷ y)) blank_open
      (R.closed S B (listed (map name_text ns)) (P.commas (map (λ n y. t.Quoted n ∷ y) ns)) (list_of name_text (λ n y. t.Quoted n ∷ y) (λ n. true) is_text name_reads' ns (anything ns) h)))

  row_reads : (xs : List Expr) → is_row xs ≡ true → row_written xs ≡ true → Reads (spec.row_text xs) (P.row xs)
  row_reads xs g h =
      same (λ y. t.Open ∷ P.commas (map prefix xs) (t.Close ∷ y)) (append_assoc (codes "(") (listed (map expr_text xs)) (codes ")"))
      (go (codes "(") (listed (map expr_text xs) ++ codes ")") (λ y. t.Open ∷ y) (λ y. P.commas (map prefix xs) (t.Close ∷ y)) (R.opens S B)
      (R.closed S B (listed (map expr_text xs)) (P.commas (map prefix xs)) (list_of expr_text prefix is_proper is_written expr_reads xs (some_all (map is_proper xs) g) h)))

  values_word : Passes (codes " VALUES ") (λ y. P.word (codes "VALUES") w.Values ∷ y)
  unfolding is_bare word_of
  values_word y = R.spaced S B (codes "VALUES") w.Values refl refl y

  inserted_reads : (rs : InsertRows) → are_rows rs ≡ true → rows_written rs ≡ true → Reads (spec.inserted_text rs) (P.inserted rs)
  inserted_reads (rows.Values rs) g h = go (codes " VALUES ") (listed (map spec.row_text rs)) (λ y. P.word (codes "VALUES") w.Values ∷ y) (P.commas (map P.row rs)) values_word (list_of spec.row_text P.row is_row row_written row_reads rs (some_all (map is_row rs) g) h)
  inserted_reads (rows.Select q) g h = go (codes " ") (spec.select_text q) (λ y. y) (P.select q) B (select_reads q g h)

  set_reads : (i : Text × Expr) → is_set i ≡ true → set_written i ≡ true → Reads (spec.set_text i) (P.set i)
  set_reads i g h =
      let d = both (is_text i.0) (is_written i.1) h in
      same (λ y. t.Quoted i.0 ∷ t.Equal ∷ prefix i.1 y) (append_assoc (name_text i.0) (codes " = ") (expr_text i.1))
      (followed (name_text i.0) (codes " = " ++ expr_text i.1) (λ y. t.Quoted i.0 ∷ y) (λ y. t.Equal ∷ prefix i.1 y) (R.name_reads S B i.0 d.0) (λ y e. refl)
      (go (codes " = ") (expr_text i.1) (λ y. t.Equal ∷ y) (prefix i.1) (R.operator_reads S B op.Equal) (expr_reads i.1 g d.1)))

  set_word : Passes (codes " SET ") (λ y. P.word (codes "SET") w.Set ∷ y)
  unfolding is_bare word_of
  set_word y = R.spaced S B (codes "SET") w.Set refl refl y

  create_words : Passes (codes "CREATE TABLE ") (λ y. P.word (codes "CREATE") w.Create ∷ P.word (codes "TABLE") w.Table ∷ y)
  unfolding is_bare word_of
  create_words y = R.before_blank S B (codes "CREATE") w.Create refl refl (codes "TABLE " ++ y) ∙ ap (λ z. P.word (codes "CREATE") w.Create ∷ z) (R.before_blank S B (codes "TABLE") w.Table refl refl y)

  drop_words : Passes (codes "DROP TABLE ") (λ y. P.word (codes "DROP") w.Drop ∷ P.word (codes "TABLE") w.Table ∷ y)
  unfolding is_bare word_of
  drop_words y = R.before_blank S B (codes "DROP") w.Drop refl refl (codes "TABLE " ++ y) ∙ ap (λ z. P.word (codes "DROP") w.Drop ∷ z) (R.before_blank S B (codes "TABLE") w.Table refl refl y)

  insert_words : Passes (codes "INSERT INTO ") (λ y. P.word (codes "INSERT") w.Insert ∷ P.word (codes "INTO") w.Into ∷ y)
  unfolding is_bare word_of
  insert_words y = R.before_blank S B (codes "INSERT") w.Insert refl refl (codes "INTO " ++ y) ∙ ap (λ z. P.word (codes "INSERT") w.Insert ∷ z) (R.before_blank S B (codes "INTO") w.Into refl refl y)

  delete_words : Passes (codes "DELETE FROM ") (λ y. P.word (codes "DELETE") w.Delete ∷ P.word (codes "FROM") w.From ∷ y)
  unfolding is_bare word_of
  delete_words y = R.before_blank S B (codes "DELETE") w.Delete refl refl (codes "FROM " ++ y) ∙ ap (λ z. P.word (codes "DELETE") w.Delete ∷ z) (R.before_blank S B (codes "FROM") w.From refl refl y)

  update_word : Passes (codes "UPDATE ") (λ y. P.word (codes "UPDATE") w.Update ∷ y)
  unfolding is_bare word_of
  update_word y = R.before_blank S B (codes "UPDATE") w.Update refl refl y

  if_not_exists_reads : (b : Bool) → Passes (flag_text b (codes "IF NOT EXISTS ")) (P.if_not_exists b)
  unfolding is_bare word_of
  if_not_exists_reads false y = refl
  if_not_exists_reads true y =
      R.before_blank S B (codes "IF") w.If refl refl (codes "NOT EXISTS " ++ y)
      ∙ ap (λ z. P.word (codes "IF") w.If ∷ z) (R.before_blank S B (codes "NOT") w.Not refl refl (codes "EXISTS " ++ y)
      ∙ ap (λ z. P.word (codes "NOT") w.Not ∷ z) (R.before_blank S B (codes "EXISTS") w.Exists refl refl y))

  if_exists_reads : (b : Bool) → Passes (flag_text b (codes "IF EXISTS ")) (P.if_exists b)
  unfolding is_bare word_of
  if_exists_reads false y = refl
  if_exists_reads true y = R.before_blank S B (codes "IF") w.If refl refl (codes "EXISTS " ++ y) ∙ ap (λ z. P.word (codes "IF") w.If ∷ z) (R.before_blank S B (codes "EXISTS") w.Exists refl refl y)

  create_reads : (b : Bool) (n : Text) (ds : List ColumnDef) → statement_written (stmt.Create b n ds) ≡ true → Reads (spec.text_of (stmt.Create b n ds)) (λ y. P.word (codes "CREATE") w.Create ∷ P.word (codes "TABLE") w.Table ∷ P.if_not_exists b (t.Quoted n ∷ t.Open ∷ P.commas (map P.column ds) (t.Close ∷ y)))
  create_reads b n ds h =
      let d = both (is_text n) (all_of (map column_written ds)) h in
      let flag = flag_text b (codes "IF NOT EXISTS ") in
      same (λ y. P.word (codes "CREATE") w.Create ∷ P.word (codes "TABLE") w.Table ∷ P.if_not_exists b (t.Quoted n ∷ t.Open ∷ P.commas (map P.column ds) (t.Close ∷ y))) (four (codes "CREATE TABLE ") flag (name_text n) (spec.columns_text ds))
      (go (codes "CREATE TABLE ") (flag ++ (name_text n ++ spec.columns_text ds)) (λ y. P.word (codes "CREATE") w.Create ∷ P.word (codes "TABLE") w.Table ∷ y) (λ y. P.if_not_exists b (t.Quoted n ∷ t.Open ∷ P.commas (map P.column ds) (t.Close ∷ y))) create_words
      (go flag (name_text n ++ spec.columns_text ds) (P.if_not_exists b) (λ y. t.Quoted n ∷ t.Open ∷ P.commas (map P.column ds) (t.Close ∷ y)) (if_not_exists_reads b)
      (followed (name_text n) (spec.columns_text ds) (λ y. t.Quoted n ∷ y) (λ y. t.Open ∷ P.commas (map P.column ds) (t.Close ∷ y)) (R.name_reads S B n d.0) (λ y e. refl) (columns_read ds d.1))))

  drop_reads : (b : Bool) (n : Text) → is_text n ≡ true → Reads (spec.text_of (stmt.Drop b n)) (λ y. P.word (codes "DROP") w.Drop ∷ P.word (codes "TABLE") w.Table ∷ P.if_exists b (t.Quoted n ∷ y))
  drop_reads b n h =
      same (λ y. P.word (codes "DROP") w.Drop ∷ P.word (codes "TABLE") w.Table ∷ P.if_exists b (t.Quoted n ∷ y)) (append_assoc (codes "DROP TABLE ") (flag_text b (codes "IF EXISTS ")) (name_text n))
      (go (codes "DROP TABLE ") (flag_text b (codes "IF EXISTS ") ++ name_text n) (λ y. P.word (codes "DROP") w.Drop ∷ P.word (codes "TABLE") w.Table ∷ y) (λ y. P.if_exists b (t.Quoted n ∷ y)) drop_words
      (go (flag_text b (codes "IF EXISTS ")) (name_text n) (P.if_exists b) (λ y. t.Quoted n ∷ y) (if_exists_reads b) (R.name_reads S B n h)))

  insert_reads : (n : Text) (ns : Option (List Text)) (rs : InsertRows) → is_statement (stmt.Insert n ns rs) ≡ true → statement_written (stmt.Insert n ns rs) ≡ true → Reads (spec.text_of (stmt.Insert n ns rs)) (λ y. P.word (codes "INSERT") w.Insert ∷ P.word (codes "INTO") w.Into ∷ t.Quoted n ∷ P.names ns (P.inserted rs y))
  insert_reads n ns rs g h =
      let c = both (are_names ns) (are_rows rs) g in
      let d = both (is_text n) (names_written ns && rows_written rs) h in
      let d' = both (names_written ns) (rows_written rs) d.1 in
      same (λ y. P.word (codes "INSERT") w.Insert ∷ P.word (codes "INTO") w.Into ∷ t.Quoted n ∷ P.names ns (P.inserted rs y)) (four (codes "INSERT INTO ") (name_text n) (spec.names_text ns) (spec.inserted_text rs))
      (go (codes "INSERT INTO ") (name_text n ++ (spec.names_text ns ++ spec.inserted_text rs)) (λ y. P.word (codes "INSERT") w.Insert ∷ P.word (codes "INTO") w.Into ∷ y) (λ y. t.Quoted n ∷ P.names ns (P.inserted rs y)) insert_words
      (followed (name_text n) (spec.names_text ns ++ spec.inserted_text rs) (λ y. t.Quoted n ∷ y) (λ y. P.names ns (P.inserted rs y)) (R.name_reads S B n d.0) (both_follow (spec.names_text ns) (spec.inserted_text rs) (names_follow ns) (inserted_follows rs))
      (followed (spec.names_text ns) (spec.inserted_text rs) (P.names ns) (P.inserted rs) (names_read ns d'.0) (inserted_follows rs) (inserted_reads rs c.1 d'.1))))

  update_reads : (n : Text) (is : List (Text × Expr)) (f : Option Expr) → is_statement (stmt.Update n is f) ≡ true → statement_written (stmt.Update n is f) ≡ true → Reads (spec.text_of (stmt.Update n is f)) (λ y. P.word (codes "UPDATE") w.Update ∷ t.Quoted n ∷ P.word (codes "SET") w.Set ∷ P.commas (map P.set is) (P.filter f y))
  update_reads n is f g h =
      let c = both (is_some_of (map is_set is)) (is_maybe f) g in
      let d = both (is_text n) (all_of (map set_written is) && maybe_written f) h in
      let d' = both (all_of (map set_written is)) (maybe_written f) d.1 in
      let sets = listed (map spec.set_text is) in
      let filter = clause_text (codes " WHERE ") f in
      same (λ y. P.word (codes "UPDATE") w.Update ∷ t.Quoted n ∷ P.word (codes "SET") w.Set ∷ P.commas (map P.set is) (P.filter f y)) (four (codes "UPDATE ") (name_text n) (spec.changes_text is) filter)
      (go (codes "UPDATE ") (name_text n ++ (spec.changes_text is ++ filter)) (λ y. P.word (codes "UPDATE") w.Update ∷ y) (λ y. t.Quoted n ∷ P.word (codes "SET") w.Set ∷ P.commas (map P.set is) (P.filter f y)) update_word
      (followed (name_text n) (spec.changes_text is ++ filter) (λ y. t.Quoted n ∷ y) (λ y. P.word (codes "SET") w.Set ∷ P.commas (map P.set is) (P.filter f y)) (R.name_reads S B n d.0) (λ y e. refl)
      (followed (spec.changes_text is) filter (λ y. P.word (codes "SET") w.Set ∷ P.commas (map P.set is) y) (P.filter f) (go (codes " SET ") sets (λ y. P.word (codes "SET") w.Set ∷ y) (P.commas (map P.set is)) set_word (list_of spec.set_text P.set is_set set_written set_reads is (some_all (map is_set is) c.0) d'.0)) (where_follows f) (where_reads f c.1 d'.1))))

  delete_reads : (n : Text) (f : Option Expr) → is_maybe f ≡ true → statement_written (stmt.Delete n f) ≡ true → Reads (spec.text_of (stmt.Delete n f)) (λ y. P.word (codes "DELETE") w.Delete ∷ P.word (codes "FROM") w.From ∷ t.Quoted n ∷ P.filter f y)
  delete_reads n f g h =
      let d = both (is_text n) (maybe_written f) h in
      let filter = clause_text (codes " WHERE ") f in
      same (λ y. P.word (codes "DELETE") w.Delete ∷ P.word (codes "FROM") w.From ∷ t.Quoted n ∷ P.filter f y) (append_assoc (codes "DELETE FROM ") (name_text n) filter)
      (go (codes "DELETE FROM ") (name_text n ++ filter) (λ y. P.word (codes "DELETE") w.Delete ∷ P.word (codes "FROM") w.From ∷ y) (λ y. t.Quoted n ∷ P.filter f y) delete_words
      (followed (name_text n) filter (λ y. t.Quoted n ∷ y) (P.filter f) (R.name_reads S B n d.0) (where_follows f) (where_reads f g d.1)))

  whole : (nothing : tokens_in [] ≡ []) (x : Text) (f : Front) → Reads x f → tokens_in x ≡ f []
  whole nothing x f q = ap tokens_in (sym (append-nil x)) ∙ q [] refl ∙ ap f nothing

  pub statement_reads : (nothing : tokens_in [] ≡ []) (s : Stmt) → is_statement s ≡ true → statement_written s ≡ true → tokens_in (spec.text_of s) ≡ tokens_of s
  statement_reads nothing (stmt.Create b n ds) g h = whole nothing (spec.text_of (stmt.Create b n ds)) (λ y. P.word (codes "CREATE") w.Create ∷ P.word (codes "TABLE") w.Table ∷ P.if_not_exists b (t.Quoted n ∷ t.Open ∷ P.commas (map P.column ds) (t.Close ∷ y))) (create_reads b n ds h)
  statement_reads nothing (stmt.Drop b n) g h = whole nothing (spec.text_of (stmt.Drop b n)) (λ y. P.word (codes "DROP") w.Drop ∷ P.word (codes "TABLE") w.Table ∷ P.if_exists b (t.Quoted n ∷ y)) (drop_reads b n h)
  statement_reads nothing (stmt.Insert n ns rs) g h = whole nothing (spec.text_of (stmt.Insert n ns rs)) (λ y. P.word (codes "INSERT") w.Insert ∷ P.word (codes "INTO") w.Into ∷ t.Quoted n ∷ P.names ns (P.inserted rs y)) (insert_reads n ns rs g h)
  statement_reads nothing (stmt.Update n is f) g h = whole nothing (spec.text_of (stmt.Update n is f)) (λ y. P.word (codes "UPDATE") w.Update ∷ t.Quoted n ∷ P.word (codes "SET") w.Set ∷ P.commas (map P.set is) (P.filter f y)) (update_reads n is f g h)
  statement_reads nothing (stmt.Delete n f) g h = whole nothing (spec.text_of (stmt.Delete n f)) (λ y. P.word (codes "DELETE") w.Delete ∷ P.word (codes "FROM") w.From ∷ t.Quoted n ∷ P.filter f y) (delete_reads n f g h)
  statement_reads nothing (stmt.Select q) g h = whole nothing (spec.select_text q) (P.select q) (select_reads q g h)
