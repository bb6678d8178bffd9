-- How each word is spelled, as docs/SQL.md, Words, has it, and which word a bare name is.
use Rattle.std.specs.Prelude.{ℕ, Bool, true, false, ◌&&◌, ◌||◌, List, [], ◌∷◌, codes, bytes_eq, nat_eq, if◌then◌else◌}
use Rattle.std.specs.Char.{is_ascii_digit, is_ascii_alphabetic}
use Rattle.std.specs.List.{list_all}
use Rattle.rq_grammar.specs.declared.word.Word.{Word}
use Rattle.rq_grammar.specs.declared.word.Word.TheVariants as w
use Rattle.rq_grammar.specs.Words.{Text}
use Rattle.rq_grammar.specs.Grammar.{upper}

-- the words of the grammar in upper case, and what each is
abbrev pub words : List (List ℕ × Word)
words = (codes "AND", w.And) ∷ (codes "AS", w.As) ∷ (codes "ASC", w.Asc) ∷ (codes "BETWEEN", w.Between) ∷ (codes "BLOB", w.Blob) ∷ (codes "BY", w.By) ∷ (codes "COUNT", w.Count) ∷ (codes "CREATE", w.Create) ∷ (codes "CURRENT_DATE", w.CurrentDate) ∷ (codes "CURRENT_TIME", w.CurrentTime) ∷ (codes "CURRENT_TIMESTAMP", w.CurrentTimestamp) ∷ (codes "DELETE", w.Delete) ∷ (codes "DESC", w.Desc) ∷ (codes "DROP", w.Drop) ∷ (codes "EXISTS", w.Exists) ∷ (codes "FROM", w.From) ∷ (codes "IF", w.If) ∷ (codes "IN", w.In) ∷ (codes "INSERT", w.Insert) ∷ (codes "INTEGER", w.Integer) ∷ (codes "INTO", w.Into) ∷ (codes "IS", w.Is) ∷ (codes "KEY", w.Key) ∷ (codes "LIKE", w.Like) ∷ (codes "LIMIT", w.Limit) ∷ (codes "NOT", w.Not) ∷ (codes "NULL", w.Null) ∷ (codes "OFFSET", w.Offset) ∷ (codes "OR", w.Or) ∷ (codes "ORDER", w.Order) ∷ (codes "PRIMARY", w.Primary) ∷ (codes "SELECT", w.Select) ∷ (codes "SET", w.Set) ∷ (codes "TABLE", w.Table) ∷ (codes "TEXT", w.Text) ∷ (codes "UNIQUE", w.Unique) ∷ (codes "UPDATE", w.Update) ∷ (codes "VALUES", w.Values) ∷ (codes "WHERE", w.Where) ∷ []

-- the words out of the profile that are reserved
abbrev pub reserved_out : List (List ℕ)
reserved_out = codes "CASE" ∷ codes "CHECK" ∷ codes "COLLATE" ∷ codes "CONSTRAINT" ∷ codes "DEFAULT" ∷ codes "DISTINCT" ∷ codes "EXCEPT" ∷ codes "FOREIGN" ∷ codes "GROUP" ∷ codes "HAVING" ∷ codes "INTERSECT" ∷ codes "JOIN" ∷ codes "ON" ∷ codes "REFERENCES" ∷ codes "RETURNING" ∷ codes "UNION" ∷ []

-- the words out of the profile that are names all the same
abbrev pub free_out : List (List ℕ)
free_out = codes "ALTER" ∷ codes "ANALYZE" ∷ codes "ATTACH" ∷ codes "AUTOINCREMENT" ∷ codes "BEGIN" ∷ codes "CAST" ∷ codes "COMMIT" ∷ codes "DETACH" ∷ codes "END" ∷ codes "ESCAPE" ∷ codes "EXPLAIN" ∷ codes "GLOB" ∷ codes "INDEX" ∷ codes "OVER" ∷ codes "PRAGMA" ∷ codes "REINDEX" ∷ codes "RELEASE" ∷ codes "REPLACE" ∷ codes "ROLLBACK" ∷ codes "SAVEPOINT" ∷ codes "STRICT" ∷ codes "TRIGGER" ∷ codes "VACUUM" ∷ codes "VIEW" ∷ codes "WITH" ∷ codes "WITHOUT" ∷ []

abbrev pub is_among : List (List ℕ) → List ℕ → Bool
is_among [] n = false
is_among (m ∷ ms) n = bytes_eq m n || is_among ms n

abbrev pub other_word : List ℕ → Word
other_word n = if is_among reserved_out n then w.OutOfProfile true else (if is_among free_out n then w.OutOfProfile false else w.Plain)

abbrev pub word_among : List (List ℕ × Word) → List ℕ → Word
word_among [] n = other_word n
word_among (i ∷ is) n = if bytes_eq i.0 n then i.1 else word_among is n

-- what a bare word is to the grammar; words compare without ASCII case
unfoldable pub word_of : Text → Word
word_of n = word_among words (upper n)

-- a word in its bare form: a letter or `_`, and then letters, digits and `_`
abbrev pub begins_word : ℕ → Bool
begins_word b = is_ascii_alphabetic b || nat_eq b 95

abbrev pub is_in_word : ℕ → Bool
is_in_word b = begins_word b || is_ascii_digit b

unfoldable pub is_bare : Text → Bool
is_bare [] = false
is_bare (b ∷ bs) = begins_word b && list_all is_in_word bs
