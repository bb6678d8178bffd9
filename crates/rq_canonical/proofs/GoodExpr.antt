-- An expression that is read is proper, and its names, texts and blobs are written so that they can be read.
use Rattle.std.proofs.Common.{◌≡◌, ℕ, zero, suc, ◌<◌, ◌≤◌, ◌^◌, Bool, true, false, ◌&&◌, not, nat_lt, List, [], ◌∷◌, ◌++◌, map, refl, sym, ap, ◌∙◌, arith, Option, Some, None, pos}
use Rattle.std.specs.Prelude.{neg_ℤ, bytes_eq}
use Rattle.std.specs.List.{list_all, AllByRecursion}
use Rattle.std.specs.Str.{is_utf8, IsAscii}
use Rattle.std.specs.Char.{to_ascii_uppercase}
use Rattle.std.proofs.lemmas.Bool.{le-leb}
use Rattle.std.proofs.lemmas.Slice.Eq.{bytes_eq-Decides}
use Rattle.std.proofs.lemmas.Bool.Decides.{nat_tests}
use Rattle.std.proofs.lemmas.Str.{is_utf8-from_IsUtf8, IsUtf8-from_ascii}
use Rattle.std.proofs.lemmas.Str.Ascii.{IsAscii-cons, IsAscii-nil}
use Rattle.rq_values.specs.Text.{is_text}
use Rattle.rq_values.specs.declared.value.Value.{Value}
use Rattle.rq_values.specs.declared.value.Value.TheVariants as v
use Rattle.rq_grammar.specs.declared.word.Word.{Word}
use Rattle.rq_grammar.specs.declared.token.Token.{Token}
use Rattle.rq_grammar.specs.declared.token.Token.TheVariants as t
use Rattle.rq_grammar.specs.declared.expr.BinaryOp.{BinaryOp}
use Rattle.rq_grammar.specs.declared.expr.Expr.{Expr}
use Rattle.rq_grammar.specs.declared.expr.Expr.TheVariants as e
use Rattle.rq_grammar.specs.declared.expr.Expr.TheOpen.{Expr-F}
use Rattle.rq_grammar.specs.declared.expr.Expr.TheViews.{roll-Expr}
use Rattle.rq_grammar.specs.declared.expr.Expr.TheFolds.{fold-roll-Expr, map-Expr}
use Rattle.rq_grammar.specs.Words.{Text, Tokens, is_reserved, is_time, Name, bare, quoted, NameInside, bare_inside, quoted_inside}
use Rattle.rq_grammar.specs.Spelling.{begins_word, is_in_word, is_bare, words, word_among, word_of}
use Rattle.rq_grammar.specs.Grammar as G
use Rattle.rq_grammar.specs.Grammar.{upper}
use Rattle.rq_grammar.specs.Proper.{all_of, is_some_of, is_literal, is_callee, is_parameter, proper_step, is_proper}
use Rattle.rq_lexer.specs.Facts.{IsCut}
use Rattle.rq_print.specs.Written.{literal_written, written_step, is_written}

-- the tokens are tokens of a text
abbrev pub Cut : Tokens → Type 0
Cut = AllByRecursion IsCut

pub and : (a b : Bool) → a ≡ true → b ≡ true → (a && b) ≡ true
and a b p q = cc

pub split : (a b : Bool) → (a && b) ≡ true → (a ≡ true) × (b ≡ true)
split true b h = (refl, h)
split false b h = absurd (cc)

-- ---- words are texts

low : (b : ℕ) → is_in_word b ≡ true → b < 128
low b h = grind (arith, nat_tests)

some : (b : ℕ) → is_in_word b ≡ true → nat_lt 0 b ≡ true
some b h = grind (arith, nat_tests)

begins_in : (b : ℕ) → begins_word b ≡ true → is_in_word b ≡ true
begins_in b h = cc

ascii : (z : Text) → list_all is_in_word z ≡ true → IsAscii z
ascii [] h = IsAscii-nil
ascii (b ∷ z) h = let d = split (is_in_word b) (list_all is_in_word z) h in IsAscii-cons b z (low b d.0) (ascii z d.1)

no_nul : (z : Text) → list_all is_in_word z ≡ true → list_all (λ byte. nat_lt 0 byte) z ≡ true
no_nul [] h = refl
no_nul (b ∷ z) h = let d = split (is_in_word b) (list_all is_in_word z) h in and (nat_lt 0 b) (list_all (λ byte. nat_lt 0 byte) z) (some b d.0) (no_nul z d.1)

word_text : (z : Text) → list_all is_in_word z ≡ true → is_text z ≡ true
unfolding is_text
word_text z h = and (is_utf8 z) (list_all (λ byte. nat_lt 0 byte) z) (is_utf8-from_IsUtf8 z (IsUtf8-from_ascii z (ascii z h))) (no_nul z h)

pub bare_text : (n : Text) → is_bare n ≡ true → is_text n ≡ true
unfolding is_bare
bare_text [] h = absurd (cc)
bare_text (b ∷ n) h =
    let d = split (begins_word b) (list_all is_in_word n) h in
    word_text (b ∷ n) (and (is_in_word b) (list_all is_in_word n) (begins_in b d.0) d.1)

pub name_text : {n : Text} {u : Token} → Name n u → IsCut u → is_text n ≡ true
name_text (bare {n = n} h) c = bare_text n c.0
name_text quoted c = c

inside_text : {n : Text} {u : Token} → NameInside n u → IsCut u → is_text n ≡ true
inside_text (bare_inside {n = n} h i) c = bare_text n c.0
inside_text quoted_inside c = c

-- ---- a call's name

raised_begins : (b : ℕ) → begins_word b ≡ true → begins_word (to_ascii_uppercase b) ≡ true
raised_begins b h = grind (arith, nat_tests)

raised_in : (b : ℕ) → is_in_word b ≡ true → is_in_word (to_ascii_uppercase b) ≡ true
raised_in b h = grind (arith, nat_tests)

raised_again : (b : ℕ) → to_ascii_uppercase (to_ascii_uppercase b) ≡ to_ascii_uppercase b
raised_again b = grind (arith, nat_tests)

upper_in : (z : Text) → list_all is_in_word z ≡ true → list_all is_in_word (upper z) ≡ true
upper_in [] h = refl
upper_in (b ∷ z) h = let d = split (is_in_word b) (list_all is_in_word z) h in and (is_in_word (to_ascii_uppercase b)) (list_all is_in_word (upper z)) (raised_in b d.0) (upper_in z d.1)

upper_bare : (n : Text) → is_bare n ≡ true → is_bare (upper n) ≡ true
unfolding is_bare
upper_bare [] h = absurd (cc)
upper_bare (b ∷ n) h = let d = split (begins_word b) (list_all is_in_word n) h in and (begins_word (to_ascii_uppercase b)) (list_all is_in_word (upper n)) (raised_begins b d.0) (upper_in n d.1)

upper_again : (n : Text) → upper (upper n) ≡ upper n
upper_again [] = refl
upper_again (b ∷ n) = ap (λ (c : ℕ). c ∷ upper (upper n)) (raised_again b) ∙ ap (λ (z : Text). to_ascii_uppercase b ∷ z) (upper_again n)

same_bytes : (z : Text) → bytes_eq z z ≡ true
same_bytes z = (bytes_eq-Decides z z).1 refl

upper_word : (n : Text) → word_of (upper n) ≡ word_of n
unfolding word_of
upper_word n = ap (word_among words) (upper_again n)

callee : (n : Text) (c : Word) → IsCut (t.Word n c) → is_reserved c ≡ false → is_time c ≡ false → is_callee (upper n) ≡ true
callee n c cut h i =
    let is : c ≡ word_of (upper n) = cut.1 ∙ sym (upper_word n) in
    let same : bytes_eq (upper (upper n)) (upper n) ≡ true = ap (λ (z : Text). bytes_eq z (upper n)) (upper_again n) ∙ same_bytes (upper n) in
    let free : not (is_reserved (word_of (upper n))) ≡ true = ap (λ (k : Word). not (is_reserved k)) (sym is) ∙ ap not h in
    let late : not (is_time (word_of (upper n))) ≡ true = ap (λ (k : Word). not (is_time k)) (sym is) ∙ ap not i in
    and (is_bare (upper n)) (bytes_eq (upper (upper n)) (upper n) && (not (is_reserved (word_of (upper n))) && not (is_time (word_of (upper n))))) (upper_bare n cut.0)
    (and (bytes_eq (upper (upper n)) (upper n)) (not (is_reserved (word_of (upper n))) && not (is_time (word_of (upper n)))) same
    (and (not (is_reserved (word_of (upper n)))) (not (is_time (word_of (upper n)))) free late))

-- ---- lists

pub all_more : {A : Type 0} (f : A → Bool) (xs : List A) (a : A) → all_of (map f xs) ≡ true → f a ≡ true → all_of (map f (xs ++ a ∷ [])) ≡ true
all_more f [] a h k = and (f a) true k refl
all_more f (x ∷ xs) a h k = let d = split (f x) (all_of (map f xs)) h in and (f x) (all_of (map f (xs ++ a ∷ []))) d.0 (all_more f xs a d.1 k)

pub some_more : {A : Type 0} (f : A → Bool) (xs : List A) (a : A) → is_some_of (map f xs) ≡ true → f a ≡ true → is_some_of (map f (xs ++ a ∷ [])) ≡ true
some_more f [] a h k = absurd (cc)
some_more f (x ∷ xs) a h k = all_more f (x ∷ xs) a h k

pub some_one : {A : Type 0} (f : A → Bool) (a : A) → f a ≡ true → is_some_of (map f (a ∷ [])) ≡ true
some_one f a k = and (f a) true k refl

pub some_all : (bs : List Bool) → is_some_of bs ≡ true → all_of bs ≡ true
some_all [] h = absurd (cc)
some_all (b ∷ bs) h = h

-- ---- each form

abbrev pub Good : Expr → Type 0
Good a = (is_proper a ≡ true) × (is_written a ≡ true)

abbrev pub GoodList : List Expr → Type 0
GoodList xs = (all_of (map is_proper xs) ≡ true) × (all_of (map is_written xs) ≡ true)

abbrev pub GoodSome : List Expr → Type 0
GoodSome xs = (is_some_of (map is_proper xs) ≡ true) × (all_of (map is_written xs) ≡ true)

made : (x : Expr-F Expr) → proper_step (map-Expr Expr Bool is_proper x) ≡ true → written_step (map-Expr Expr Bool is_written x) ≡ true → Good (roll-Expr x)
made x p w = (fold-roll-Expr Bool proper_step x ∙ p, fold-roll-Expr Bool written_step x ∙ w)

good_literal : (a : Value) → is_literal a ≡ true → literal_written a ≡ true → Good (e.Literal a)
unfolding roll-Expr denote.Hole.Carrier.roll
good_literal a p w = made (Expr-F.Literal a) p w

good_param : (n : Option Text) → is_parameter n ≡ true → Good (e.Param n)
unfolding roll-Expr denote.Hole.Carrier.roll
good_param n p = made (Expr-F.Param n) p refl

good_name : (n : Text) → is_text n ≡ true → Good (e.Name n)
unfolding roll-Expr denote.Hole.Carrier.roll
good_name n w = made (Expr-F.Name n) refl w

good_qualified : (n m : Text) → is_text n ≡ true → is_text m ≡ true → Good (e.Qualified n m)
unfolding roll-Expr denote.Hole.Carrier.roll
good_qualified n m w x = made (Expr-F.Qualified n m) refl (and (is_text n) (is_text m) w x)

good_timestamp : Good e.CurrentTimestamp
unfolding roll-Expr denote.Hole.Carrier.roll
good_timestamp = made Expr-F.CurrentTimestamp refl refl

good_date : Good e.CurrentDate
unfolding roll-Expr denote.Hole.Carrier.roll
good_date = made Expr-F.CurrentDate refl refl

good_time : Good e.CurrentTime
unfolding roll-Expr denote.Hole.Carrier.roll
good_time = made Expr-F.CurrentTime refl refl

good_count : Good e.CountAll
unfolding roll-Expr denote.Hole.Carrier.roll
good_count = made Expr-F.CountAll refl refl

good_call : (n : Text) (xs : List Expr) → is_callee n ≡ true → GoodList xs → Good (e.Call n xs)
unfolding roll-Expr denote.Hole.Carrier.roll
good_call n xs p l = made (Expr-F.Call n xs) (and (is_callee n) (all_of (map is_proper xs)) p l.0) l.1

good_minus : (a : Expr) → Good a → Good (e.Minus a)
unfolding roll-Expr denote.Hole.Carrier.roll
good_minus a g = made (Expr-F.Minus a) g.0 g.1

good_not : (a : Expr) → Good a → Good (e.Not a)
unfolding roll-Expr denote.Hole.Carrier.roll
good_not a g = made (Expr-F.Not a) g.0 g.1

good_binary : (o : BinaryOp) (a b : Expr) → Good a → Good b → Good (e.Binary o a b)
unfolding roll-Expr denote.Hole.Carrier.roll
good_binary o a b g h = made (Expr-F.Binary o a b) (and (is_proper a) (is_proper b) g.0 h.0) (and (is_written a) (is_written b) g.1 h.1)

good_in : (d : Bool) (a : Expr) (xs : List Expr) → Good a → GoodList xs → Good (e.InList d a xs)
unfolding roll-Expr denote.Hole.Carrier.roll
good_in d a xs g l = made (Expr-F.InList d a xs) (and (is_proper a) (all_of (map is_proper xs)) g.0 l.0) (and (is_written a) (all_of (map is_written xs)) g.1 l.1)

good_between : (d : Bool) (a b c : Expr) → Good a → Good b → Good c → Good (e.Between d a b c)
unfolding roll-Expr denote.Hole.Carrier.roll
good_between d a b c g h k =
    made (Expr-F.Between d a b c) (and (is_proper a) (is_proper b && is_proper c) g.0 (and (is_proper b) (is_proper c) h.0 k.0)) (and (is_written a) (is_written b && is_written c) g.1 (and (is_written b) (is_written c) h.1 k.1))

-- ---- what is read

number_fits : (n m : ℕ) → n < m → nat_lt n m ≡ true
number_fits n m h = grind (arith, nat_tests)

negative_fits : (n : ℕ) → n ≤ 2 ^ 63 → is_literal (v.Int (neg_ℤ (pos n))) ≡ true
negative_fits zero h = refl
negative_fits (suc n) h = le-leb (suc n) (2 ^ 63) h

negative_written : (n : ℕ) → literal_written (v.Int (neg_ℤ (pos n))) ≡ true
negative_written zero = refl
negative_written (suc n) = refl

parameter_fits : (n : Option Text) → IsCut (t.Parameter n) → is_parameter n ≡ true
parameter_fits None c = refl
parameter_fits (Some n) c = c

atom_good : {u : Token} {a : Expr} → G.Atom u a → IsCut u → Good a
atom_good G.null c = good_literal v.Null refl refl
atom_good (G.number {n = n} h) c = good_literal (v.Int (pos n)) (number_fits n (2 ^ 63) h) refl
atom_good (G.text {n = n}) c = good_literal (v.Text n) refl c
atom_good (G.blob {n = n}) c = good_literal (v.Blob n) refl c
atom_good (G.param {n = n}) c = good_param n (parameter_fits n c)
atom_good G.current_timestamp c = good_timestamp
atom_good G.current_date c = good_date
atom_good G.current_time c = good_time

behind_operator : {o : BinaryOp} {x y : Tokens} → G.Spelled o x y → Cut x → Cut y
behind_operator G.or_word c = c.1
behind_operator G.and_word c = c.1
behind_operator G.equal c = c.1
behind_operator G.equal_equal c = c.1
behind_operator G.less_greater c = c.1
behind_operator G.bang_equal c = c.1
behind_operator G.is_word c = c.1
behind_operator G.is_not c = c.1.1
behind_operator G.like c = c.1
behind_operator G.not_like c = c.1.1
behind_operator G.less c = c.1
behind_operator G.less_equal c = c.1
behind_operator G.greater c = c.1
behind_operator G.greater_equal c = c.1
behind_operator G.add c = c.1
behind_operator G.sub c = c.1
behind_operator G.mul c = c.1
behind_operator G.div c = c.1
behind_operator G.rem c = c.1
behind_operator G.concat c = c.1

behind_denial : {d : Bool} {x y : Tokens} → G.Denial d x y → Cut x → Cut y
behind_denial G.plain c = c
behind_denial G.denied c = c.1

mutual
  pub at_good : {k : ℕ} {x y : Tokens} {a : Expr} → G.At k x a y → Cut x → Good a × Cut y
  at_good (G.atom p) c = (atom_good p c.0, c.1)
  at_good (G.negative {n = n} h) c = (good_literal (v.Int (neg_ℤ (pos n))) (negative_fits n h) (negative_written n), c.1.1)
  at_good (G.name {n = n} p) c = (good_name n (inside_text p c.0), c.1)
  at_good (G.qualified {n = n} {m = m} p q) c = (good_qualified n m (inside_text p c.0) (inside_text q c.1.1.0), c.1.1.1)
  at_good G.count_all c = (good_count, c.1.1.1.1)
  at_good (G.call {n = n} {c = k} {xs = xs} h i p) c = let l = listed_good p c.1.1 in (good_call (upper n) xs (callee n k c.0 h i) l.0, l.1)
  at_good (G.paren p) c = let r = at_good p c.1 in (r.0, r.1.1)
  at_good (G.plus p) c = at_good p c.1
  at_good (G.minus {a = a} n p) c = let r = at_good p c.1 in (good_minus a r.0, r.1)
  at_good (G.not {a = a} le p) c = let r = at_good p c.1 in (good_not a r.0, r.1)
  at_good (G.binary {o = o} {a = a} {b = b} le p w q) c = let r = at_good p c in let s = at_good q (behind_operator w r.1) in (good_binary o a b r.0 s.0, s.1)
  at_good (G.among {d = d} {a = a} {xs = xs} le p w l) c = let r = at_good p c in let z = behind_denial w r.1 in let s = listed_good l z.1.1 in (good_in d a xs r.0 s.0, s.1)
  at_good (G.between {d = d} {a = a} {b = b} {c = h} le p w q q') c =
      let r = at_good p c in
      let z = behind_denial w r.1 in
      let s = at_good q z.1 in
      let l = at_good q' s.1.1 in
      (good_between d a b h r.0 s.0 l.0, l.1)

  pub some_good : {x y : Tokens} {xs : List Expr} → G.Some_of x xs y → Cut x → GoodSome xs × Cut y
  some_good (G.one {a = a} p) c = let r = at_good p c in ((some_one is_proper a r.0.0, all_more is_written [] a refl r.0.1), r.1)
  some_good (G.more {a = a} {xs = xs} p q) c = let r = some_good p c in let s = at_good q r.1.1 in ((some_more is_proper xs a r.0.0 s.0.0, all_more is_written xs a r.0.1 s.0.1), s.1)

  listed_good : {x y : Tokens} {xs : List Expr} → G.Listed x xs y → Cut x → GoodList xs × Cut y
  listed_good G.none c = ((refl, refl), c.1)
  listed_good (G.some {xs = xs} p) c = let r = some_good p c in ((some_all (map is_proper xs) r.0.0, r.0.1), r.1.1)
