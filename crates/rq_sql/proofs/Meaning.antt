-- What a text means: one answer, and the machine gives it.
use Rattle.std.proofs.Common.{ℕ, suc, ◌≡◌, ◌≤◌, ◌<◌, ◌∷◌, [], List, length, take, drop, Result, Ok, Err, Bool, true, false, ◌⊎◌, inl, inr, ⊎_elim, refl, ap, ◌∙◌, sym, subst, arith}
use Rattle.std.proofs.lemmas.List.{take-append-drop}
use Rattle.std.proofs.lemmas.Bool.{cases_lt}
use Rattle.std.proofs.Math.Nat.{eq-or-lt_of_le}
use Rattle.rq_grammar.specs.declared.stmt.Stmt.{Stmt}
use Rattle.rq_grammar.specs.Words.{Text, Tokens}
use Rattle.rq_grammar.specs.Statements.{Spells, GoesOn}
use Rattle.rq_grammar.specs.Depth.{the_limits, Limits, SpellsWithin, GoesOnWithin, Stop, NoStatement, TooDeep, Refuses, StopsAt}
use Rattle.rq_automaton.specs.Machine.{Start}
use Rattle.rq_automaton.specs.Weight.{parse_within}
use Rattle.rq_lexer.specs.declared.placed.Placed.{Placed}
use Rattle.rq_lexer.specs.Lex.{lex}
use Rattle.rq_lexer.specs.Spelled.{tokens_in}
use Rattle.rq_sql.specs.declared.error.ReadError.{ReadError}
use Rattle.rq_sql.specs.declared.error.ReadError.TheVariants as e
use Rattle.rq_sql.specs.Read.{most_bytes, at_place, at_prefix, refusal, IsRefused, Means, Reads, ReadsOnly, is_out_of_profile}
use Rattle.rq_sql.specs.Running.{told, runs}

-- the laws of the grammar
abbrev pub Sound : Type 0
Sound = (l : Limits) (x : Tokens) (r : Stmt) → parse_within l 0 Start x ≡ Ok r → SpellsWithin l x r

abbrev pub Stops : Type 0
Stops = (l : Limits) (x : Tokens) (stop : Stop) (n : ℕ) → parse_within l 0 Start x ≡ Err (stop, n) → StopsAt l x stop n

abbrev pub OneStatement : Type 0
OneStatement = (x : Tokens) (r r' : Stmt) → Spells x r → Spells x r' → r ≡ r'

abbrev pub OnePlace : Type 0
OnePlace = (l : Limits) (x : Tokens) (stop stop' : Stop) (m n : ℕ) → StopsAt l x stop m → StopsAt l x stop' n → (stop ≡ stop') × (m ≡ n)

-- ---- a refusal has a place

abbrev has_place : ReadError → Bool
has_place (e.TooLong n) = false
has_place e.NoMemory = false
has_place _ = true

place_at : (stop : Stop) (is_out : Bool) (from upto : ℕ) → has_place (at_place stop is_out from upto) ≡ true
place_at TooDeep is_out from upto = refl
place_at NoStatement true from upto = refl
place_at NoStatement false from upto = refl

place_prefix : (size : ℕ) (stop : Stop) (ps : List Placed) → has_place (at_prefix size stop ps) ≡ true
place_prefix size stop [] = refl
place_prefix size stop (p ∷ ps) = place_at stop (is_out_of_profile p.token) p.start p.end

placed : {text : Text} {x : ReadError} → IsRefused text x → has_place x ≡ true
placed {text} k = ap has_place k.told ∙ place_prefix (length text) k.stop (drop k.before (lex text))

refused_means : (text : Text) (x : ReadError) → has_place x ≡ true → IsRefused text x → Means text (Err x)
refused_means text (e.TooLong n) h k = absurd (cc)
refused_means text (e.Near from upto) h k = k
refused_means text (e.NotInProfile from upto) h k = k
refused_means text (e.TooDeep n) h k = k
refused_means text e.NoMemory h k = absurd (cc)

abbrev IsLong : Text → ReadError → Type 0
IsLong text x = (x ≡ e.TooLong (length text)) × (most_bytes < length text)

kinds : (text : Text) (x : ReadError) → Means text (Err x) → IsLong text x ⊎ IsRefused text x
kinds text (e.TooLong n) h = inl (ap e.TooLong h.1, subst (λ m. most_bytes < m) h.1 h.0)
kinds text (e.Near from upto) h = inr h
kinds text (e.NotInProfile from upto) h = inr h
kinds text (e.TooDeep n) h = inr h
kinds text e.NoMemory h = absurd (h)

-- ---- what is spelled isn't refused

goes_on : (l : Limits) (x : Tokens) (r : Stmt) (n : ℕ) → SpellsWithin l x r → GoesOnWithin l (take n x)
goes_on l x r n k = (drop n x, r, subst (λ y. SpellsWithin l y r) (sym (take-append-drop n x)) k)

goes : (x : Tokens) (r : Stmt) (n : ℕ) → Spells x r → GoesOn (take n x)
goes x r n k = (drop n x, r, subst (λ y. Spells y r) (sym (take-append-drop n x)) k)

refuses_none : (l : Limits) (x : Tokens) (r : Stmt) (stop : Stop) (n : ℕ) → n ≤ length x → Refuses l x stop n → SpellsWithin l x r → ⊥
refuses_none l x r NoStatement n w h k = ⊎_elim (λ is. h.1 is r k.spells) (λ lt. h.0 lt (goes x r (suc n) k.spells)) (eq-or-lt_of_le w)
refuses_none l x r TooDeep n w h k = h.2 (goes_on l x r (suc n) k)

not_both : (text : Text) (r : Stmt) (x : ReadError) → (length text ≤ most_bytes) → SpellsWithin the_limits (tokens_in text) r → Means text (Err x) → ⊥
not_both text r x short k h =
    ⊎_elim
    (λ long. absurd (omega (arith, short, long.1)))
    (λ no. refuses_none the_limits (tokens_in text) r no.stop no.before no.stops.within no.stops.refuses k)
    (kinds text x h)

-- ---- one answer

same_refusal : (text : Text) (x y : ReadError) → OnePlace → IsRefused text x → IsRefused text y → x ≡ y
same_refusal text x y one k m =
    let is = one the_limits (tokens_in text) k.stop m.stop k.before m.before k.stops m.stops in
    k.told ∙ ap (λ s. refusal text s k.before) is.0 ∙ ap (λ n. refusal text m.stop n) is.1 ∙ sym m.told

long_or_not : (text : Text) (x y : ReadError) → IsLong text x → IsRefused text y → ⊥
long_or_not text x y h k = omega (arith, h.1, k.short)

pub one_answer : OneStatement → OnePlace → (text : Text) (a b : Result Stmt ReadError) → Means text a → Means text b → a ≡ b
one_answer one place text (Ok r) (Ok r') h k = ap Ok (one (tokens_in text) r r' h.1.spells k.1.spells)
one_answer one place text (Ok r) (Err y) h k = absurd (not_both text r y h.0 h.1 k)
one_answer one place text (Err x) (Ok r) h k = absurd (not_both text r x k.0 k.1 h)
one_answer one place text (Err x) (Err y) h k =
    ap Err (⊎_elim
    (λ a. ⊎_elim (λ b. a.0 ∙ sym b.0) (λ b. absurd (long_or_not text x y a b)) (kinds text y k))
    (λ a. ⊎_elim (λ b. absurd (long_or_not text y x b a)) (λ b. same_refusal text x y place a b) (kinds text y k))
    (kinds text x h))

-- ---- the machine's answer

told_means : Sound → Stops → (text : Text) → length text ≤ most_bytes → (o : Result Stmt (Stop × ℕ)) → parse_within the_limits 0 Start (tokens_in text) ≡ o → Means text (told (length text) (lex text) o)
told_means sound stops text short (Ok r) h = (short, sound the_limits (tokens_in text) r h)
told_means sound stops text short (Err k) h =
    refused_means text (refusal text k.0 k.1) (place_prefix (length text) k.0 (drop k.1 (lex text)))
    (record { short = short; stop = k.0; before = k.1; stops = stops the_limits (tokens_in text) k.0 k.1 h; told = refl })

pub runs_means : Sound → Stops → (text : Text) → length text ≤ most_bytes → Means text (runs (length text) 0 Start (lex text))
unfolding runs
runs_means sound stops text short = told_means sound stops text short (parse_within the_limits 0 Start (tokens_in text)) refl

pub some_answer : Sound → Stops → (text : Text) → (a : Result Stmt ReadError) × Means text a
some_answer sound stops text =
    ⊎_elim
    (λ long. (Err (e.TooLong (length text)), (long, refl)))
    (λ short. (runs (length text) 0 Start (lex text), runs_means sound stops text short))
    (cases_lt most_bytes (length text))

-- ---- what a call answered

pub reads : (text : Text) (wanted r : Result Stmt ReadError) → Means text wanted → ReadsOnly wanted r → Reads text r
reads text wanted (Ok s) h k = subst (Means text) (sym k) h
reads text wanted (Err (e.TooLong n)) h k = subst (Means text) (sym k) h
reads text wanted (Err (e.Near from upto)) h k = subst (Means text) (sym k) h
reads text wanted (Err (e.NotInProfile from upto)) h k = subst (Means text) (sym k) h
reads text wanted (Err (e.TooDeep n)) h k = subst (Means text) (sym k) h
reads text wanted (Err e.NoMemory) h k = tt

pub reads_only : (text : Text) (wanted r a : Result Stmt ReadError) → a ≡ wanted → ReadsOnly wanted r → ReadsOnly a r
reads_only text wanted r a h k = subst (λ w. ReadsOnly w r) (sym h) k
