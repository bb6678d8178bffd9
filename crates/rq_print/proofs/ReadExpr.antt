-- The text of an expression is read as its canonical tokens.
use Rattle.std.proofs.Common.{Bool, true, false, ◌≡◌, ℕ, suc, ◌+◌, ◌%◌, ◌<◌, ◌≤◌, ◌^◌, ◌&&◌, not, nat_lt, List, [], ◌∷◌, ◌++◌, map, refl, sym, ap, subst, ◌∙◌, arith, Option, Some, None, append_assoc, pos, negsuc}
use Rattle.std.specs.Prelude.{slice_index, ◌==◌, ◌||◌, codes, bytes_eq}
use Rattle.std.specs.Char.{is_ascii_digit}
use Rattle.std.specs.Fmt.{decimal}
use Rattle.std.proofs.lemmas.Bool.{leb-true}
use Rattle.std.proofs.lemmas.Bool.Decides.{nat_tests}
use Rattle.std.proofs.lemmas.Fmt.{decimal_by_steps}
use Rattle.rq_values.specs.declared.value.Value.{Value}
use Rattle.rq_values.specs.declared.value.Value.TheVariants as v
use Rattle.rq_grammar.specs.declared.word.Word.{Word}
use Rattle.rq_grammar.specs.declared.word.Word.TheVariants as w
use Rattle.rq_grammar.specs.declared.token.Token.{Token}
use Rattle.rq_grammar.specs.declared.token.Token.TheVariants as t
use Rattle.rq_grammar.specs.declared.expr.BinaryOp.{BinaryOp}
use Rattle.rq_grammar.specs.declared.expr.BinaryOp.TheVariants as op
use Rattle.rq_grammar.specs.declared.expr.Expr.{Expr}
use Rattle.rq_grammar.specs.declared.expr.Expr.TheOpen.{Expr-F}
use Rattle.rq_grammar.specs.declared.expr.Expr.TheViews.{roll-Expr}
use Rattle.rq_grammar.specs.declared.expr.Expr.TheFolds.{fold-roll-Expr, ind-Expr, map-Expr}
use Rattle.rq_grammar.specs.Words.{Text, is_reserved, is_time}
use Rattle.rq_grammar.specs.Grammar.{upper}
use Rattle.rq_grammar.specs.Spelling.{is_bare, is_in_word, word_of}
use Rattle.rq_grammar.specs.Print as P
use Rattle.rq_grammar.specs.Print.{Front, prefix_step, prefix}
use Rattle.rq_grammar.specs.Proper.{all_of, proper_step, is_proper, is_literal, is_callee, is_parameter}
use Rattle.rq_lexer.specs.Lex.{is_in_numeral}
use Rattle.rq_lexer.specs.Spelled.{tokens_in, bytes_of, IsSpelled, ends_before}
use Rattle.rq_print.specs.Text as spec
use Rattle.rq_print.specs.Text.{expr_step, expr_text, listed, listed_behind, operator_text, literal_text, parameter_text}
use Rattle.rq_print.specs.Written.{written_step, is_written, literal_written}

-- ---- the two laws of the lexer that this stands on

abbrev pub SpelledLaw : Type 0
SpelledLaw = (u : Token) (rest : List ℕ) → IsSpelled u → ends_before u (slice_index rest 0) ≡ true → tokens_in (bytes_of u ++ rest) ≡ u ∷ tokens_in rest

abbrev pub BlankLaw : Type 0
BlankLaw = (rest : List ℕ) → tokens_in (32 ∷ rest) ≡ tokens_in rest

-- ---- what ends each token: a blank, a comma, a closing parenthesis, the end

abbrev pub ends : ℕ → Bool
ends b = b == 0 || (b == 32 || (b == 41 || b == 44))

abbrev pub Ends : Text → Type 0
Ends y = ends (slice_index y 0) ≡ true

abbrev pub Reads : Text → Front → Type 0
Reads x f = (y : Text) → Ends y → tokens_in (x ++ y) ≡ f (tokens_in y)

abbrev pub Passes : Text → Front → Type 0
Passes x f = (y : Text) → tokens_in (x ++ y) ≡ f (tokens_in y)

abbrev pub Follows : Text → Type 0
Follows z = (y : Text) → Ends y → Ends (z ++ y)

ends_word : (b : ℕ) → ends b ≡ true → (not (is_in_word b) && not (b == 39)) ≡ true
ends_word b h = grind (arith, nat_tests)

ends_name : (b : ℕ) → ends b ≡ true → not (b == 34) ≡ true
ends_name b h = grind (arith, nat_tests)

ends_text : (b : ℕ) → ends b ≡ true → not (b == 39) ≡ true
ends_text b h = grind (arith, nat_tests)

ends_numeral : (b : ℕ) → ends b ≡ true → not (is_in_numeral b) ≡ true
ends_numeral b h = grind (arith, nat_tests)

ends_parameter : (b : ℕ) → ends b ≡ true → not (is_in_word b) ≡ true
ends_parameter b h = grind (arith, nat_tests)

pub both : (a b : Bool) → (a && b) ≡ true → (a ≡ true) × (b ≡ true)
both true true h = (refl, h)
both true false h = absurd (cc)
both false b h = absurd (cc)

below : (a b : ℕ) → nat_lt a b ≡ true → a ≤ b
below a b h = grind (arith, nat_tests)

-- ---- one text behind another

pub go : (x z : Text) (f g : Front) → Passes x f → Reads z g → Reads (x ++ z) (λ y. f (g y))
go x z f g p q y e = ap tokens_in (append_assoc x z y) ∙ p (z ++ y) ∙ ap f (q y e)

pub followed : (x z : Text) (f g : Front) → Reads x f → Follows z → Reads z g → Reads (x ++ z) (λ y. f (g y))
followed x z f g p follows q y e = ap tokens_in (append_assoc x z y) ∙ p (z ++ y) (follows y e) ∙ ap f (q y e)

pub pass : (x z : Text) (f g : Front) → Passes x f → Passes z g → Passes (x ++ z) (λ y. f (g y))
pass x z f g p q y = ap tokens_in (append_assoc x z y) ∙ p (z ++ y) ∙ ap f (q y)

pub upto : (x z : Text) (f g : Front) → Reads x f → ((y : Text) → Ends (z ++ y)) → Passes z g → Passes (x ++ z) (λ y. f (g y))
upto x z f g p follows q y = ap tokens_in (append_assoc x z y) ∙ p (z ++ y) (follows y) ∙ ap f (q y)

pub weaken : (x : Text) (f : Front) → Passes x f → Reads x f
weaken x f p y e = p y

pub same : {x x' : Text} (f : Front) → x ≡ x' → Reads x' f → Reads x f
same f e q y h = ap (λ s. tokens_in (s ++ y)) e ∙ q y h

pub four : (a b c d : Text) → ((a ++ b) ++ c) ++ d ≡ a ++ (b ++ (c ++ d))
four a b c d = simp append_assoc

pub five : (a b c d g : Text) → (((a ++ b) ++ c) ++ d) ++ g ≡ a ++ (b ++ (c ++ (d ++ g)))
five a b c d g = simp append_assoc

seven : (a b c d g h k : Text) → (((((a ++ b) ++ c) ++ d) ++ g) ++ h) ++ k ≡ a ++ (b ++ (c ++ (d ++ (g ++ (h ++ k)))))
seven a b c d g h k = simp append_assoc

-- the first digit of a number is no minus
last_digit : (d : ℕ) → d < 10 → is_ascii_digit (48 + d) ≡ true
last_digit d h = grind (arith, nat_tests)

first_of_append : (s y : Text) → is_ascii_digit (slice_index s 0) ≡ true → is_ascii_digit (slice_index (s ++ y) 0) ≡ true
first_of_append [] y h = absurd (cc)
first_of_append (b ∷ s) y h = h

first_digit : (n : ℕ) → n < 2 ^ 64 → is_ascii_digit (slice_index (decimal n) 0) ≡ true
first_digit = decimal_by_steps (λ n s. is_ascii_digit (slice_index s 0) ≡ true) (λ n h. last_digit n h) (λ n ds h is. first_of_append ds ((48 + n % 10) ∷ []) is)

digit_no_minus : (b : ℕ) → is_ascii_digit b ≡ true → not (b == 45) ≡ true
digit_no_minus b h = grind (arith, nat_tests)

pub operator_ends : (o : BinaryOp) (r y : Text) → Ends ((operator_text o ++ r) ++ y)
operator_ends op.Or r y = refl
operator_ends _ r y = refl

in_ends : (d : Bool) (r y : Text) → Ends ((spec.in_text d ++ r) ++ y)
in_ends true r y = refl
in_ends false r y = refl

between_ends : (d : Bool) (r y : Text) → Ends ((spec.between_text d ++ r) ++ y)
between_ends true r y = refl
between_ends false r y = refl

pub behind_follows : (xs : List Text) → Follows (listed_behind (codes ", ") xs)
behind_follows [] y e = e
behind_follows (x ∷ xs) y e = refl

-- ---- expressions, each beside the proof of its parts

abbrev pub ReadsSo : Expr → Type 0
ReadsSo a = is_proper a ≡ true → is_written a ≡ true → Reads (expr_text a) (prefix a)

abbrev Item : Type 0
Item = (a : Expr) × ReadsSo a

abbrev bare_of : List Item → List Expr
bare_of = map (λ i. i.0)

module _ (S : SpelledLaw) (B : BlankLaw) where
  pub word : (n : Text) (k : Word) → is_bare n ≡ true → k ≡ word_of n → Reads n (λ y. t.Word n k ∷ y)
  word n k h is y e = S (t.Word n k) y (h, is) (ends_word (slice_index y 0) e)

  -- a word and a blank, also behind a blank
  pub before_blank : (n : Text) (k : Word) → is_bare n ≡ true → k ≡ word_of n → (y : Text) → tokens_in (n ++ 32 ∷ y) ≡ t.Word n k ∷ tokens_in y
  before_blank n k h is y = word n k h is (32 ∷ y) refl ∙ ap (λ z. t.Word n k ∷ z) (B y)

  pub spaced : (n : Text) (k : Word) → is_bare n ≡ true → k ≡ word_of n → (y : Text) → tokens_in (32 ∷ (n ++ 32 ∷ y)) ≡ t.Word n k ∷ tokens_in y
  spaced n k h is y = B (n ++ 32 ∷ y) ∙ before_blank n k h is y

  mark : (u : Token) → IsSpelled u → ends_before u 32 ≡ true → (y : Text) → tokens_in (32 ∷ (bytes_of u ++ 32 ∷ y)) ≡ u ∷ tokens_in y
  mark u h is y = B (bytes_of u ++ 32 ∷ y) ∙ S u (32 ∷ y) h is ∙ ap (λ z. u ∷ z) (B y)

  pub operator_reads : (o : BinaryOp) → Passes (operator_text o) (P.operator o)
  unfolding is_bare word_of
  operator_reads op.Or y = spaced (codes "OR") w.Or refl refl y
  operator_reads op.And y = spaced (codes "AND") w.And refl refl y
  operator_reads op.Equal y = mark t.Equal tt refl y
  operator_reads op.NotEqual y = mark t.LessGreater tt refl y
  operator_reads op.Is y = spaced (codes "IS") w.Is refl refl y
  operator_reads op.IsNot y = spaced (codes "IS") w.Is refl refl (codes "NOT " ++ y) ∙ ap (λ z. P.word (codes "IS") w.Is ∷ z) (before_blank (codes "NOT") w.Not refl refl y)
  operator_reads op.Like y = spaced (codes "LIKE") w.Like refl refl y
  operator_reads op.NotLike y = spaced (codes "NOT") w.Not refl refl (codes "LIKE " ++ y) ∙ ap (λ z. P.word (codes "NOT") w.Not ∷ z) (before_blank (codes "LIKE") w.Like refl refl y)
  operator_reads op.Less y = mark t.Less tt refl y
  operator_reads op.LessEqual y = mark t.LessEqual tt refl y
  operator_reads op.Greater y = mark t.Greater tt refl y
  operator_reads op.GreaterEqual y = mark t.GreaterEqual tt refl y
  operator_reads op.Add y = mark t.Plus tt refl y
  operator_reads op.Sub y = mark t.Minus tt refl y
  operator_reads op.Mul y = mark t.Star tt refl y
  operator_reads op.Div y = mark t.Slash tt refl y
  operator_reads op.Rem y = mark t.Percent tt refl y
  operator_reads op.Concat y = mark t.BarBar tt refl y

  pub opens : Passes (codes "(") (λ y. t.Open ∷ y)
  opens y = S t.Open y tt refl

  pub close : Passes (codes ")") (λ y. t.Close ∷ y)
  close y = S t.Close y tt refl

  pub comma : Passes (codes ", ") (λ y. t.Comma ∷ y)
  comma y = S t.Comma (32 ∷ y) tt refl ∙ ap (λ z. t.Comma ∷ z) (B y)

  in_open : Passes (codes " IN (") (λ y. P.word (codes "IN") w.In ∷ t.Open ∷ y)
  unfolding is_bare word_of
  in_open y = spaced (codes "IN") w.In refl refl (codes "(" ++ y) ∙ ap (λ z. P.word (codes "IN") w.In ∷ z) (opens y)

  in_reads : (d : Bool) → Passes (spec.in_text d) (λ y. P.denial d (P.word (codes "IN") w.In ∷ t.Open ∷ y))
  unfolding is_bare word_of
  in_reads false y = in_open y
  in_reads true y = spaced (codes "NOT") w.Not refl refl (codes "IN (" ++ y) ∙ ap (λ z. P.word (codes "NOT") w.Not ∷ z) (sym (B (codes "IN (" ++ y)) ∙ in_open y)

  between_reads : (d : Bool) → Passes (spec.between_text d) (λ y. P.denial d (P.word (codes "BETWEEN") w.Between ∷ y))
  unfolding is_bare word_of
  between_reads false y = spaced (codes "BETWEEN") w.Between refl refl y
  between_reads true y = spaced (codes "NOT") w.Not refl refl (codes "BETWEEN " ++ y) ∙ ap (λ z. P.word (codes "NOT") w.Not ∷ z) (before_blank (codes "BETWEEN") w.Between refl refl y)

  and_reads : Passes (codes " AND ") (λ y. P.word (codes "AND") w.And ∷ y)
  unfolding is_bare word_of
  and_reads y = spaced (codes "AND") w.And refl refl y

  not_reads : Passes (codes "(NOT ") (λ y. t.Open ∷ P.word (codes "NOT") w.Not ∷ y)
  unfolding is_bare word_of
  not_reads y = opens (codes "NOT " ++ y) ∙ ap (λ z. t.Open ∷ z) (before_blank (codes "NOT") w.Not refl refl y)

  minus_reads : Passes (codes "-(") (λ y. t.Minus ∷ t.Open ∷ y)
  minus_reads y = S t.Minus (40 ∷ y) tt refl ∙ ap (λ z. t.Minus ∷ z) (opens y)

  pub name_reads : (n : Text) → Rattle.rq_values.specs.Text.is_text n ≡ true → Reads (spec.name_text n) (λ y. t.Quoted n ∷ y)
  name_reads n h y e = S (t.Quoted n) y h (ends_name (slice_index y 0) e)

  negative : (n : ℕ) → suc n ≤ 2 ^ 63 → Reads (45 ∷ decimal (suc n)) (λ y. t.Minus ∷ t.Numeral (suc n) ∷ y)
  negative n h y e =
      let small : suc n < 2 ^ 64 = omega arith in
      S t.Minus (decimal (suc n) ++ y) tt (digit_no_minus (slice_index (decimal (suc n) ++ y) 0) (first_of_append (decimal (suc n)) y (first_digit (suc n) small)))
      ∙ ap (λ z. t.Minus ∷ z) (S (t.Numeral (suc n)) y h (ends_numeral (slice_index y 0) e))

  literal_reads : (a : Value) → is_literal a ≡ true → literal_written a ≡ true → Reads (literal_text a) (P.literal a)
  unfolding is_bare word_of
  literal_reads v.Null h g y e = word (codes "NULL") w.Null refl refl y e
  literal_reads (v.Int (pos n)) h g y e = S (t.Numeral n) y (below n (2 ^ 63) h) (ends_numeral (slice_index y 0) e)
  literal_reads (v.Int (negsuc n)) h g y e = negative n (leb-true (suc n) (2 ^ 63) h) y e
  literal_reads (v.Text n) h g y e = S (t.String n) y g (ends_text (slice_index y 0) e)
  literal_reads (v.Blob n) h g y e = S (t.Blob n) y g refl

  parameter_reads : (n : Option Text) → is_parameter n ≡ true → Reads (parameter_text n) (λ y. t.Parameter n ∷ y)
  parameter_reads None h y e = S (t.Parameter None) y tt refl
  parameter_reads (Some n) h y e = S (t.Parameter (Some n)) y h (ends_parameter (slice_index y 0) e)

  dot_name : (m : Text) → Rattle.rq_values.specs.Text.is_text m ≡ true → Reads (codes "." ++ spec.name_text m) (λ y. t.Dot ∷ t.Quoted m ∷ y)
  dot_name m h y e = S t.Dot (spec.name_text m ++ y) tt refl ∙ ap (λ z. t.Dot ∷ z) (name_reads m h y e)

  qualified_reads : (n m : Text) → Rattle.rq_values.specs.Text.is_text n ≡ true → Rattle.rq_values.specs.Text.is_text m ≡ true → Reads (spec.name_text n ++ codes "." ++ spec.name_text m) (λ y. t.Quoted n ∷ t.Dot ∷ t.Quoted m ∷ y)
  qualified_reads n m g h =
      same (λ y. t.Quoted n ∷ t.Dot ∷ t.Quoted m ∷ y) (append_assoc (spec.name_text n) (codes ".") (spec.name_text m))
      (λ y e. ap tokens_in (append_assoc (spec.name_text n) (codes "." ++ spec.name_text m) y)
      ∙ S (t.Quoted n) ((codes "." ++ spec.name_text m) ++ y) g refl
      ∙ ap (λ z. t.Quoted n ∷ z) (dot_name m h y e))

  count_reads : Reads (codes "COUNT(*)") (λ y. P.word (codes "COUNT") w.Count ∷ t.Open ∷ t.Star ∷ t.Close ∷ y)
  unfolding is_bare word_of
  count_reads y e =
      S (t.Word (codes "COUNT") w.Count) (codes "(*)" ++ y) (refl, refl) refl
      ∙ ap (λ z. P.word (codes "COUNT") w.Count ∷ z) (opens (codes "*)" ++ y) ∙ ap (λ z. t.Open ∷ z) (S t.Star (codes ")" ++ y) tt refl ∙ ap (λ z. t.Star ∷ z) (close y)))

  pub closed : (x : Text) (f : Front) → Reads x f → Reads (x ++ codes ")") (λ y. f (t.Close ∷ y))
  closed x f q = followed x (codes ")") f (λ y. t.Close ∷ y) q (λ y e. refl) (weaken (codes ")") (λ y. t.Close ∷ y) close)

  more_reads : (es : List Item) → all_of (map is_proper (bare_of es)) ≡ true → all_of (map is_written (bare_of es)) ≡ true → Reads (listed_behind (codes ", ") (map expr_text (bare_of es))) (P.more (map prefix (bare_of es)))
  more_reads [] g h = λ y e. refl
  more_reads (i ∷ es) g h =
      let c = both (is_proper i.0) (all_of (map is_proper (bare_of es))) g in
      let d = both (is_written i.0) (all_of (map is_written (bare_of es))) h in
      let rest = listed_behind (codes ", ") (map expr_text (bare_of es)) in
      go (codes ", ") (expr_text i.0 ++ rest) (λ y. t.Comma ∷ y) (λ y. prefix i.0 (P.more (map prefix (bare_of es)) y)) comma
      (followed (expr_text i.0) rest (prefix i.0) (P.more (map prefix (bare_of es))) (i.1 c.0 d.0) (behind_follows (map expr_text (bare_of es))) (more_reads es c.1 d.1))

  list_reads : (es : List Item) → all_of (map is_proper (bare_of es)) ≡ true → all_of (map is_written (bare_of es)) ≡ true → Reads (listed (map expr_text (bare_of es))) (P.commas (map prefix (bare_of es)))
  list_reads [] g h = λ y e. refl
  list_reads (i ∷ es) g h =
      let c = both (is_proper i.0) (all_of (map is_proper (bare_of es))) g in
      let d = both (is_written i.0) (all_of (map is_written (bare_of es))) h in
      let rest = listed_behind (codes ", ") (map expr_text (bare_of es)) in
      followed (expr_text i.0) rest (prefix i.0) (P.more (map prefix (bare_of es))) (i.1 c.0 d.0) (behind_follows (map expr_text (bare_of es))) (more_reads es c.1 d.1)

  binary_reads : (o : BinaryOp) (a b : Text) (f g : Front) → Reads a f → Reads b g → Reads (codes "(" ++ a ++ operator_text o ++ b ++ codes ")") (λ y. t.Open ∷ f (P.operator o (g (t.Close ∷ y))))
  binary_reads o a b f g p q =
      let right = b ++ codes ")" in
      same (λ y. t.Open ∷ f (P.operator o (g (t.Close ∷ y)))) (five (codes "(") a (operator_text o) b (codes ")"))
      (go (codes "(") (a ++ (operator_text o ++ right)) (λ y. t.Open ∷ y) (λ y. f (P.operator o (g (t.Close ∷ y)))) opens
      (followed a (operator_text o ++ right) f (λ y. P.operator o (g (t.Close ∷ y))) p (λ y e. operator_ends o right y)
      (go (operator_text o) right (P.operator o) (λ y. g (t.Close ∷ y)) (operator_reads o) (closed b g q))))

  in_list_reads : (d : Bool) (a xs : Text) (f g : Front) → Reads a f → Reads xs g → Reads (codes "(" ++ a ++ spec.in_text d ++ xs ++ codes "))") (λ y. t.Open ∷ f (P.denial d (P.word (codes "IN") w.In ∷ t.Open ∷ g (t.Close ∷ t.Close ∷ y))))
  in_list_reads d a xs f g p q =
      let right = xs ++ codes "))" in
      same (λ y. t.Open ∷ f (P.denial d (P.word (codes "IN") w.In ∷ t.Open ∷ g (t.Close ∷ t.Close ∷ y)))) (five (codes "(") a (spec.in_text d) xs (codes "))"))
      (go (codes "(") (a ++ (spec.in_text d ++ right)) (λ y. t.Open ∷ y) (λ y. f (P.denial d (P.word (codes "IN") w.In ∷ t.Open ∷ g (t.Close ∷ t.Close ∷ y)))) opens
      (followed a (spec.in_text d ++ right) f (λ y. P.denial d (P.word (codes "IN") w.In ∷ t.Open ∷ g (t.Close ∷ t.Close ∷ y))) p (λ y e. in_ends d right y)
      (go (spec.in_text d) right (λ y. P.denial d (P.word (codes "IN") w.In ∷ t.Open ∷ y)) (λ y. g (t.Close ∷ t.Close ∷ y)) (in_reads d)
      (followed xs (codes "))") g (λ y. t.Close ∷ t.Close ∷ y) q (λ y e. refl) (λ y e. close (41 ∷ y) ∙ ap (λ z. t.Close ∷ z) (close y))))))

  between_all_read : (d : Bool) (a b c : Text) (f g h : Front) → Reads a f → Reads b g → Reads c h → Reads (codes "(" ++ a ++ spec.between_text d ++ b ++ codes " AND " ++ c ++ codes ")") (λ y. t.Open ∷ f (P.denial d (P.word (codes "BETWEEN") w.Between ∷ g (P.word (codes "AND") w.And ∷ h (t.Close ∷ y)))))
  between_all_read d a b c f g h p q r =
      let high = c ++ codes ")" in
      let right = b ++ (codes " AND " ++ high) in
      same (λ y. t.Open ∷ f (P.denial d (P.word (codes "BETWEEN") w.Between ∷ g (P.word (codes "AND") w.And ∷ h (t.Close ∷ y))))) (seven (codes "(") a (spec.between_text d) b (codes " AND ") c (codes ")"))
      (go (codes "(") (a ++ (spec.between_text d ++ right)) (λ y. t.Open ∷ y) (λ y. f (P.denial d (P.word (codes "BETWEEN") w.Between ∷ g (P.word (codes "AND") w.And ∷ h (t.Close ∷ y))))) opens
      (followed a (spec.between_text d ++ right) f (λ y. P.denial d (P.word (codes "BETWEEN") w.Between ∷ g (P.word (codes "AND") w.And ∷ h (t.Close ∷ y)))) p (λ y e. between_ends d right y)
      (go (spec.between_text d) right (λ y. P.denial d (P.word (codes "BETWEEN") w.Between ∷ y)) (λ y. g (P.word (codes "AND") w.And ∷ h (t.Close ∷ y))) (between_reads d)
      (followed b (codes " AND " ++ high) g (λ y. P.word (codes "AND") w.And ∷ h (t.Close ∷ y)) q (λ y e. refl)
      (go (codes " AND ") high (λ y. P.word (codes "AND") w.And ∷ y) (λ y. h (t.Close ∷ y)) and_reads (closed c h r))))))

  call_reads : (n xs : Text) (f : Front) → is_bare n ≡ true → Reads xs f → Reads (n ++ codes "(" ++ xs ++ codes ")") (λ y. t.Word n (word_of n) ∷ t.Open ∷ f (t.Close ∷ y))
  call_reads n xs f bare q =
      let rest = xs ++ codes ")" in
      same (λ y. t.Word n (word_of n) ∷ t.Open ∷ f (t.Close ∷ y)) (four n (codes "(") xs (codes ")"))
      (λ y e. ap tokens_in (append_assoc n (codes "(" ++ rest) y)
      ∙ S (t.Word n (word_of n)) ((codes "(" ++ rest) ++ y) (bare, refl) refl
      ∙ ap (λ z. t.Word n (word_of n) ∷ z) (go (codes "(") rest (λ y. t.Open ∷ y) (λ y. f (t.Close ∷ y)) opens (closed xs f q) y e))

  callee_bare : (n : Text) → is_callee n ≡ true → is_bare n ≡ true
  callee_bare n h = (both (is_bare n) (bytes_eq (upper n) n && (not (is_reserved (word_of n)) && not (is_time (word_of n)))) h).0

  -- one layer of an expression
  layer : (x : Expr-F Item) → proper_step (map-Expr Expr Bool is_proper (map-Expr Item Expr (λ i. i.0) x)) ≡ true → written_step (map-Expr Expr Bool is_written (map-Expr Item Expr (λ i. i.0) x)) ≡ true → Reads (expr_step (map-Expr Expr Text expr_text (map-Expr Item Expr (λ i. i.0) x))) (prefix_step (map-Expr Expr Front prefix (map-Expr Item Expr (λ i. i.0) x)))
  unfolding is_bare word_of
  layer (Expr-F.Literal a) g h = literal_reads a g h
  layer (Expr-F.Param n) g h = parameter_reads n g
  layer (Expr-F.Name n) g h = name_reads n h
  layer (Expr-F.Qualified n m) g h = let d = both (Rattle.rq_values.specs.Text.is_text n) (Rattle.rq_values.specs.Text.is_text m) h in qualified_reads n m d.0 d.1
  layer Expr-F.CurrentTimestamp g h = word (codes "CURRENT_TIMESTAMP") w.CurrentTimestamp refl refl
  layer Expr-F.CurrentDate g h = word (codes "CURRENT_DATE") w.CurrentDate refl refl
  layer Expr-F.CurrentTime g h = word (codes "CURRENT_TIME") w.CurrentTime refl refl
  layer Expr-F.CountAll g h = count_reads
  layer (Expr-F.Call n es) g h =
      let c = both (is_callee n) (all_of (map is_proper (bare_of es))) g in
      call_reads n (listed (map expr_text (bare_of es))) (P.commas (map prefix (bare_of es))) (callee_bare n c.0) (list_reads es c.1 h)
  layer (Expr-F.Minus a) g h = go (codes "-(") (expr_text a.0 ++ codes ")") (λ y. t.Minus ∷ t.Open ∷ y) (λ y. prefix a.0 (t.Close ∷ y)) minus_reads (closed (expr_text a.0) (prefix a.0) (a.1 g h))
  layer (Expr-F.Not a) g h = go (codes "(NOT ") (expr_text a.0 ++ codes ")") (λ y. t.Open ∷ P.word (codes "NOT") w.Not ∷ y) (λ y. prefix a.0 (t.Close ∷ y)) not_reads (closed (expr_text a.0) (prefix a.0) (a.1 g h))
  layer (Expr-F.Binary o a b) g h =
      let c = both (is_proper a.0) (is_proper b.0) g in
      let d = both (is_written a.0) (is_written b.0) h in
      binary_reads o (expr_text a.0) (expr_text b.0) (prefix a.0) (prefix b.0) (a.1 c.0 d.0) (b.1 c.1 d.1)
  layer (Expr-F.InList n a es) g h =
      let c = both (is_proper a.0) (all_of (map is_proper (bare_of es))) g in
      let d = both (is_written a.0) (all_of (map is_written (bare_of es))) h in
      in_list_reads n (expr_text a.0) (listed (map expr_text (bare_of es))) (prefix a.0) (P.commas (map prefix (bare_of es))) (a.1 c.0 d.0) (list_reads es c.1 d.1)
  layer (Expr-F.Between n a b c) g h =
      let p = both (is_proper a.0) (is_proper b.0 && is_proper c.0) g in
      let q = both (is_proper b.0) (is_proper c.0) p.1 in
      let r = both (is_written a.0) (is_written b.0 && is_written c.0) h in
      let s = both (is_written b.0) (is_written c.0) r.1 in
      between_all_read n (expr_text a.0) (expr_text b.0) (expr_text c.0) (prefix a.0) (prefix b.0) (prefix c.0) (a.1 p.0 r.0) (b.1 q.0 s.0) (c.1 q.1 s.1)

  whole : (x : Expr-F Item) → ReadsSo (roll-Expr (map-Expr Item Expr (λ i. i.0) x))
  whole x g h y e =
      let z = map-Expr Item Expr (λ i. i.0) x in
      ap (λ s. tokens_in (s ++ y)) (fold-roll-Expr Text expr_step z)
      ∙ layer x (sym (fold-roll-Expr Bool proper_step z) ∙ g) (sym (fold-roll-Expr Bool written_step z) ∙ h) y e
      ∙ sym (ap (λ f. f (tokens_in y)) (fold-roll-Expr Front prefix_step z))

  pub expr_reads : (a : Expr) → ReadsSo a
  expr_reads = ind-Expr ReadsSo (λ x y is. subst (λ x. ReadsSo (roll-Expr x)) is (whole y))
