-- LIKE, on lists of characters.
-- Source: SQLite, "The LIKE operator": `%` is any run, `_` is one character, other characters stand for themselves without ASCII case.
use Rattle.std.specs.Prelude.{ℕ, suc, zero, Bool, true, false, not, ◌&&◌, ◌||◌, if◌then◌else◌, ◌==◌, List, [], ◌∷◌, drop}
use Rattle.std.specs.Prelude.{◌≡◌, ◌≤◌, ◌<◌, length}
use Rattle.std.specs.Char.{to_ascii_lowercase}
use Rattle.rq_texts.specs.declared.like.Run.{Run}
use Rattle.rq_texts.specs.declared.like.Run.TheVariants as run
use Rattle.rq_texts.specs.declared.like.Found.{Found}
use Rattle.rq_texts.specs.declared.like.Found.TheVariants as found

-- whether one character of a pattern stands for a character
abbrev pub stands_for : ℕ → ℕ → Bool
stands_for p c = (p == 95) || (to_ascii_lowercase p == to_ascii_lowercase c)

-- whether some rest of a text passes
abbrev pub some_rest : (List ℕ → Bool) → List ℕ → Bool
some_rest f [] = f []
some_rest f (c ∷ cs) = f (c ∷ cs) || some_rest f cs

-- whether a first character is stood for, and what follows passes
abbrev pub one_then : ℕ → (List ℕ → Bool) → List ℕ → Bool
one_then p f [] = false
one_then p f (c ∷ cs) = stands_for p c && f cs

abbrev pub is_nothing : List ℕ → Bool
is_nothing [] = true
is_nothing (c ∷ cs) = false

-- whether a text is like a pattern
abbrev pub like : List ℕ → List ℕ → Bool
like [] cs = is_nothing cs
like (p ∷ ps) cs = if p == 37 then some_rest (like ps) cs else one_then p (like ps) cs

-- whether the first `%` of a pattern stands at n
abbrev pub is_first_run : ℕ → List ℕ → Bool
is_first_run n [] = false
is_first_run zero (p ∷ ps) = p == 37
is_first_run (suc n) (p ∷ ps) = not (p == 37) && is_first_run n ps

-- what the two loops of the matcher answer: what is left to decide
abbrev pub Ran : List ℕ → List ℕ → Run → Type 0
Ran p t (run.Done is) = like p t ≡ is
Ran p t (run.Percent n) = (n < length p) × (is_first_run n p ≡ true) × (n ≤ length t) × (like p t ≡ some_rest (like (drop (suc n) p)) (drop n t))

abbrev pub Finds : List ℕ → List ℕ → Found → Type 0
Finds p t (found.Done is) = some_rest (like p) t ≡ is
Finds p t (found.Rest m k) = (0 < m) × (m ≤ length p) × (k ≤ length t) × (some_rest (like p) t ≡ some_rest (like (drop m p)) (drop k t))
