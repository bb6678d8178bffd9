-- What is read is spelled so: any step, and the whole.
use Rattle.std.proofs.Common.{◌≡◌, ℕ, ◌≤◌, ◌^◌, Bool, true, false, List, [], ◌∷◌, Option, Some, None, Ok, refl, subst, arith}
use Rattle.std.specs.Prelude.{nat_le, ◌&&◌, ◌||◌}
use Rattle.std.proofs.lemmas.Bool.{leb-true}
use Rattle.rq_grammar.specs.declared.word.Word.{Word}
use Rattle.rq_grammar.specs.declared.word.Word.TheVariants as w
use Rattle.rq_grammar.specs.declared.token.Token.{Token}
use Rattle.rq_grammar.specs.declared.token.Token.TheVariants as t
use Rattle.rq_grammar.specs.declared.expr.BinaryOp.{BinaryOp}
use Rattle.rq_grammar.specs.declared.expr.BinaryOp.TheVariants as op
use Rattle.rq_grammar.specs.declared.expr.Expr.{Expr}
use Rattle.rq_grammar.specs.declared.expr.Expr.TheVariants as e
use Rattle.rq_grammar.specs.declared.stmt.Stmt.{Stmt}
use Rattle.rq_automaton.specs.declared.place.Target.{Target}
use Rattle.rq_automaton.specs.declared.place.Query.{Query}
use Rattle.rq_automaton.specs.declared.place.Place.{Place}
use Rattle.rq_automaton.specs.declared.frame.Clause.{Clause}
use Rattle.rq_automaton.specs.declared.frame.Clause.TheVariants as c
use Rattle.rq_automaton.specs.declared.frame.Frame.{Frame}
use Rattle.rq_automaton.specs.declared.frame.Frame.TheVariants as f
use Rattle.rq_automaton.specs.declared.frame.State.{State}
use Rattle.rq_automaton.specs.declared.frame.State.TheVariants as s
use Rattle.rq_grammar.specs.Words.{Text, Tokens, is_reserved, is_time, NameInside, bare_inside, quoted_inside}
use Rattle.rq_grammar.specs.Grammar as G
use Rattle.rq_grammar.specs.Grammar.{level, upper}
use Rattle.rq_grammar.specs.Statements as S
use Rattle.rq_grammar.specs.Statements.{rising}
use Rattle.rq_automaton.specs.Stack as K
use Rattle.rq_automaton.specs.Stack.{Stack, room, closes, build, reduce, tied, grouped, with_plus, split, and_at, operand, operand_word, dotted}
use Rattle.rq_automaton.specs.Stack.{binary as binary_at}
use Rattle.rq_automaton.specs.Machine as M
use Rattle.rq_automaton.specs.Machine.{step, finish, parse, done, ended_at, ended_on, end_at, end_on, land, landed, landed_end, Start}
use Rattle.rq_automaton.specs.Machine.{clause_on as on_clause}
use Rattle.rq_automaton.proofs.Reduce.{level_max, went, ends_here}
use Rattle.rq_automaton.proofs.Reached as R
use Rattle.rq_automaton.proofs.Reached.{Reached, Stacked, Within, Came}
use Rattle.rq_automaton.proofs.Sound.{weaken, room_max, put, set_down, guard, unless, neither, both, item_on, row_on, result_on, term_on, set_on, Reduced, reduce_sound, operand_sound}
use Rattle.rq_automaton.proofs.SoundPlaces.{place_sound, place_end}

-- ---- the token behind a clause's expression

came : {x y : Tokens} {z z' : Place} → Some z ≡ Some z' → Came x z y → Came x z' y
came {x = x} {y = y} {z = z} {z' = z'} h r = let e : z ≡ z' = cc in subst (λ v. Came x v y) e r

pub land_sound : {x y z : Tokens} {k : Clause} {a : Expr} {q : Place} → Within x k y → G.At 0 y a z → land k a ≡ Some q → Came x q z
land_sound (R.row_in k j b b') r h = absurd (cc)
land_sound (R.results_in o b) r h = came h (R.tail_results (R.with_results o (result_on b (S.value r))))
land_sound (R.filter_in (R.with_source (R.with_results o l) k)) r h = came h (R.tail_filtered (R.with_filter (R.with_source (R.with_results o l) k) (S.filter r)))
land_sound (R.order_in k b) r h = came h (R.tail_ordered k (term_on b (S.unmarked r)))
land_sound (R.limit_in (R.with_order (R.with_filter (R.with_source (R.with_results o l) k) g) i)) r h = came h (R.tail_limited (R.with_limits (R.with_order (R.with_filter (R.with_source (R.with_results o l) k) g) i) (S.limit r)))
land_sound (R.offset_in (R.with_order (R.with_filter (R.with_source (R.with_results o l) k) g) i) r') r h = came h (R.tail_limited (R.with_limits (R.with_order (R.with_filter (R.with_source (R.with_results o l) k) g) i) (S.limit_offset r' r)))
land_sound (R.set_in k b j) r h = came h (R.at_sets k (set_on b (S.set j r)))
land_sound (R.update_filter_in k j) r h = came h (R.at_ended (λ e. S.update k j (S.filter r) e))
land_sound (R.delete_filter_in k) r h = came h (R.at_ended (λ e. S.delete k (S.filter r) e))

landed_sound : {x y : Tokens} {q : State} (o : Option Place) (u : Token) → ((z : Place) → o ≡ Some z → Came x z (u ∷ y)) → landed o u ≡ Some q → Reached x q y
landed_sound None u r h = absurd (cc)
landed_sound (Some z) u r h = place_sound u (r z refl) h

lands_sound : {x y z : Tokens} {k : Clause} {a : Expr} {q : State} (u : Token) → Within x k y → G.At 0 y a (u ∷ z) → landed (land k a) u ≡ Some q → Reached x q z
lands_sound {k = k} {a = a} u i r h = landed_sound (land k a) u (λ z e. land_sound i r e) h

row_sound : {x y z : Tokens} {i : Target} {rs : List (List Expr)} {xs : List Expr} {a : Expr} {q : State} (u : Token) → Within x (c.Row i rs xs) y → G.At 0 y a (u ∷ z) → on_clause (c.Row i rs xs) a u ≡ Some q → Reached x q z
unfolding on_clause
row_sound t.Comma (R.row_in k j b b') r h = put h (R.at_operand (R.clause_on (R.row_in k j b (R.items (item_on b' r)))))
row_sound t.Close (R.row_in k j b b') r h = set_down h (R.at_rows k j (row_on b (item_on b' r)))
row_sound u i r h = absurd (cc)

results_sound : {x y z : Tokens} {d : Query} {a : Expr} {q : State} (u : Token) → Within x (c.Results d) y → G.At 0 y a (u ∷ z) → on_clause (c.Results d) a u ≡ Some q → Reached x q z
unfolding on_clause
results_sound (t.Word n w.As) (R.results_in o b) r h = set_down h (R.at_alias o b r)
results_sound u i r h = lands_sound u i r h

order_sound : {x y z : Tokens} {d : Query} {a : Expr} {q : State} (u : Token) → Within x (c.Order d) y → G.At 0 y a (u ∷ z) → on_clause (c.Order d) a u ≡ Some q → Reached x q z
unfolding on_clause
order_sound (t.Word n w.Asc) (R.order_in k b) r h = set_down h (R.tail_ordered k (term_on b (S.asc r)))
order_sound (t.Word n w.Desc) (R.order_in k b) r h = set_down h (R.tail_ordered k (term_on b (S.desc r)))
order_sound u i r h = lands_sound u i r h

limit_sound : {x y z : Tokens} {d : Query} {a : Expr} {q : State} (u : Token) → Within x (c.Limit d) y → G.At 0 y a (u ∷ z) → on_clause (c.Limit d) a u ≡ Some q → Reached x q z
unfolding on_clause
limit_sound (t.Word n w.Offset) (R.limit_in k) r h = put h (R.at_operand (R.clause_on (R.offset_in k r)))
limit_sound u i r h = lands_sound u i r h

clause_sound : {x y z : Tokens} (k : Clause) {a : Expr} {q : State} (u : Token) → Within x k y → G.At 0 y a (u ∷ z) → on_clause k a u ≡ Some q → Reached x q z
unfolding on_clause
clause_sound (c.Row i rs xs) u j r h = row_sound u j r h
clause_sound (c.Results d) u j r h = results_sound u j r h
clause_sound (c.Order d) u j r h = order_sound u j r h
clause_sound (c.Limit d) u j r h = limit_sound u j r h
clause_sound (c.Filter d) u j r h = lands_sound u j r h
clause_sound (c.Offset d) u j r h = lands_sound u j r h
clause_sound (c.Set n is m) u j r h = lands_sound u j r h
clause_sound (c.UpdateFilter n is) u j r h = lands_sound u j r h
clause_sound (c.DeleteFilter n) u j r h = lands_sound u j r h

-- ---- the token behind an expression that it ends

args_sound : {x y z : Tokens} {st : Stack} {n : Text} {xs : List Expr} {a : Expr} {q : State} (u : Token) → Stacked x (f.Args n xs ∷ st) y → G.At 0 y a (u ∷ z) → ended_on u (Some (f.Args n xs)) st a ≡ Some q → Reached x q z
unfolding ended_on
args_sound t.Comma (R.args_on i j k b) r h = put h (R.at_operand (R.args_on i j k (R.items (item_on b r))))
args_sound {st = st} t.Close (R.args_on i j k b) r h = put h (R.at_done k (G.call i j (G.some (item_on b r))) (room_max st) (omega arith))
args_sound u i r h = absurd (cc)

among_sound : {x y z : Tokens} {st : Stack} {d : Bool} {b : Expr} {xs : List Expr} {a : Expr} {q : State} (u : Token) → Stacked x (f.Among d b xs ∷ st) y → G.At 0 y a (u ∷ z) → ended_on u (Some (f.Among d b xs)) st a ≡ Some q → Reached x q z
unfolding ended_on
among_sound t.Comma (R.among_on k g r' j b) r h = put h (R.at_operand (R.among_on k g r' j (R.items (item_on b r))))
among_sound t.Close (R.among_on k g r' j b) r h = put h (R.at_done k (G.among (omega arith) r' j (G.some (item_on b r))) g (omega arith))
among_sound u i r h = absurd (cc)

paren_sound : {x y z : Tokens} {st : Stack} {a : Expr} {q : State} (u : Token) → Stacked x (f.Paren ∷ st) y → G.At 0 y a (u ∷ z) → ended_on u (Some f.Paren) st a ≡ Some q → Reached x q z
unfolding ended_on
paren_sound {st = st} t.Close (R.paren_on k) r h = put h (R.at_done k (G.paren r) (room_max st) (omega arith))
paren_sound u i r h = absurd (cc)

ended_stacked : {x y z : Tokens} (g : Frame) (st : Stack) {a : Expr} {q : State} (u : Token) → Stacked x (g ∷ st) y → G.At 0 y a (u ∷ z) → ended_on u (Some g) st a ≡ Some q → Reached x q z
unfolding ended_on
ended_stacked f.Paren st u i r h = paren_sound u i r h
ended_stacked (f.Args n xs) st u i r h = args_sound u i r h
ended_stacked (f.Among d b xs) st u i r h = among_sound u i r h
ended_stacked (f.Clause k) st u (R.clause_on i) r h = clause_sound k u i r h
ended_stacked _ st u i r h = absurd (cc)

none_open : {x y : Tokens} {q : State} (a : Expr) (u : Token) → ended_on u None [] a ≡ Some q → Reached x q y
unfolding ended_on
none_open a u h = absurd (cc)

ended_sound : {x z : Tokens} {q : State} (u : Token) (d : Stack × Expr) → Reduced x 0 d (u ∷ z) → split (ended_at u) d ≡ Some q → Reached x q z
ended_sound u ([], a) r h = none_open a u h
ended_sound u (g ∷ st, a) r h = ended_stacked g st u r.stacked (weaken r.low r.at) h

landed_end_sound : {x : Tokens} {r : Stmt} (o : Option Place) → ((z : Place) → o ≡ Some z → Came x z []) → landed_end o ≡ Some r → S.Spells x r
landed_end_sound None k h = absurd (cc)
landed_end_sound (Some z) k h = place_end (k z refl) h

end_stacked : {x y : Tokens} (g : Frame) (st : Stack) {a : Expr} {r : Stmt} → Stacked x (g ∷ st) y → G.At 0 y a [] → end_on (Some g) st a ≡ Some r → S.Spells x r
unfolding end_on
end_stacked (f.Clause k) st {a} (R.clause_on i) q h = landed_end_sound (land k a) (λ z e. land_sound i q e) h
end_stacked _ st i q h = absurd (cc)

none_ends : {x : Tokens} {r : Stmt} (a : Expr) → end_on None [] a ≡ Some r → S.Spells x r
unfolding end_on
none_ends a h = absurd (cc)

end_sound : {x : Tokens} {r : Stmt} (d : Stack × Expr) → Reduced x 0 d [] → split end_at d ≡ Some r → S.Spells x r
end_sound ([], a) r h = none_ends a h
end_sound (g ∷ st, a) r h = end_stacked g st r.stacked (weaken r.low r.at) h

-- ---- a token behind an operand

tied_sound : {x y : Tokens} {next : State} (k m : ℕ) (d : Stack × Expr) (f : Stack → Expr → State) → tied k m d f ≡ Some next → (k ≤ m → room d.0 ≤ k → Reached x (f d.0 d.1) y) → Reached x next y
tied_sound k m d f h r =
    let g = guard (nat_le k m && nat_le (room d.0) k) _ _ h in
    let c = both (nat_le k m) (nat_le (room d.0) k) g.0 in
    put g.1 (r (leb-true k m c.0) (leb-true (room d.0) k c.1))

-- behind an operand
record Operand (x : Tokens) (st : Stack) (m : ℕ) (a : Expr) (z : Tokens) : Type 0 where
  from : Tokens
  stacked : Stacked x st from
  at : G.At m from a z
  fits : room st ≤ m
  low : 4 ≤ m

reduced : {x z : Tokens} {st : Stack} {m : ℕ} {a : Expr} (k : ℕ) → k ≤ 9 → k ≤ m → Operand x st m a z → Reduced x k (reduce k st a) z
reduced k top l o = reduce_sound k top o.stacked o.at o.fits l

binary_sound : {x z : Tokens} {st : Stack} {m : ℕ} {a : Expr} {u : Token} {next : State} (o : BinaryOp) → G.Spelled o (u ∷ z) z → Operand x st m a (u ∷ z) → binary_at o m st a ≡ Some next → Reached x next z
binary_sound {st = st} {m = m} {a = a} o w q h = tied_sound (level o) m (reduce (level o) st a) (λ st a. s.Operand (f.Binary o a ∷ st)) h (λ low fits. let r = reduced (level o) (omega (arith, level_max o)) low q in R.at_operand (R.binary_on r.stacked fits (weaken r.low r.at) w))

group_sound : {x z : Tokens} {st : Stack} {m : ℕ} {a : Expr} {u : Token} {next : State} (f : Stack → Expr → State) → Operand x st m a (u ∷ z) → grouped m st a f ≡ Some next → ((y : Tokens) (st : Stack) (a : Expr) → Stacked x st y → G.At 4 y a (u ∷ z) → room st ≤ 4 → Reached x (f st a) z) → Reached x next z
group_sound {st = st} {m = m} {a = a} f q h r = tied_sound 4 m (reduce 4 st a) f h (λ low fits. let s = reduced 4 (omega arith) low q in r _ _ _ s.stacked (weaken s.low s.at) fits)

and_stacked : {x y z : Tokens} {st : Stack} {d : Bool} {a b : Expr} {n : Text} → Stacked x (f.Low d a ∷ st) y → G.At 5 y b (t.Word n w.And ∷ z) → Stacked x (f.High d a b ∷ st) z
and_stacked (R.low_on q fits r d) r' = R.high_on q fits r d r'

and_sound : {x z : Tokens} {next : State} {n : Text} (m : ℕ) (d : Stack × Expr) → Reduced x 2 d (t.Word n w.And ∷ z) → split (and_at m) d ≡ Some next → Reached x next z
and_sound m (f.Low d a ∷ st, b) r h = put h (R.at_operand (and_stacked r.stacked (weaken r.fits r.at)))
and_sound m (g ∷ st, b) r h = tied_sound 2 m (g ∷ st, b) (λ st a. s.Operand (f.Binary op.And a ∷ st)) h (λ low fits. R.at_operand (R.binary_on r.stacked fits (weaken r.low r.at) G.and_word))
and_sound m ([], b) r h = tied_sound 2 m ([], b) (λ st a. s.Operand (f.Binary op.And a ∷ st)) h (λ low fits. R.at_operand (R.binary_on r.stacked fits (weaken r.low r.at) G.and_word))

ended_done : {x z : Tokens} {st : Stack} {m : ℕ} {a : Expr} {next : State} (u : Token) → Operand x st m a (u ∷ z) → split (ended_at u) (reduce 0 st a) ≡ Some next → Reached x next z
ended_done u q h = ended_sound u _ (reduced 0 (omega arith) (omega arith) q) h

word_done : {x z : Tokens} {st : Stack} {m : ℕ} {a : Expr} {n : Text} {next : State} (k : Word) → Operand x st m a (t.Word n k ∷ z) → M.done_word m st a n k ≡ Some next → Reached x next z
word_done w.Or q h = binary_sound op.Or G.or_word q h
word_done {m = m} w.And q h = and_sound m _ (reduced 2 (omega arith) (omega (arith, q.low)) q) h
word_done w.Is q h = group_sound s.Is q h (λ y st a k r g. R.at_is k r g)
word_done w.Like q h = binary_sound op.Like G.like q h
word_done w.Not q h = group_sound s.Denied q h (λ y st a k r g. R.at_denied k r g)
word_done w.In q h = group_sound (λ st a. s.In st false a) q h (λ y st a k r g. R.at_in k r g G.plain)
word_done w.Between q h = group_sound (λ st a. s.Operand (f.Low false a ∷ st)) q h (λ y st a k r g. R.at_operand (R.low_on k g r G.plain))
word_done w.As q h = ended_done _ q h
word_done w.From q h = ended_done _ q h
word_done w.Where q h = ended_done _ q h
word_done w.Order q h = ended_done _ q h
word_done w.Asc q h = ended_done _ q h
word_done w.Desc q h = ended_done _ q h
word_done w.Limit q h = ended_done _ q h
word_done w.Offset q h = ended_done _ q h
word_done _ q h = absurd (cc)

done_sound : {x z : Tokens} {st : Stack} {m : ℕ} {a : Expr} {next : State} (u : Token) → Operand x st m a (u ∷ z) → done m st a u ≡ Some next → Reached x next z
unfolding done
done_sound (t.Word n k) q h = word_done k q h
done_sound t.Equal q h = binary_sound op.Equal G.equal q h
done_sound t.EqualEqual q h = binary_sound op.Equal G.equal_equal q h
done_sound t.LessGreater q h = binary_sound op.NotEqual G.less_greater q h
done_sound t.BangEqual q h = binary_sound op.NotEqual G.bang_equal q h
done_sound t.Less q h = binary_sound op.Less G.less q h
done_sound t.LessEqual q h = binary_sound op.LessEqual G.less_equal q h
done_sound t.Greater q h = binary_sound op.Greater G.greater q h
done_sound t.GreaterEqual q h = binary_sound op.GreaterEqual G.greater_equal q h
done_sound t.Plus q h = binary_sound op.Add G.add q h
done_sound t.Minus q h = binary_sound op.Sub G.sub q h
done_sound t.Star q h = binary_sound op.Mul G.mul q h
done_sound t.Slash q h = binary_sound op.Div G.div q h
done_sound t.Percent q h = binary_sound op.Rem G.rem q h
done_sound t.BarBar q h = binary_sound op.Concat G.concat q h
done_sound t.Comma q h = ended_done _ q h
done_sound t.Close q h = ended_done _ q h
done_sound t.Semi q h = ended_done _ q h
done_sound _ q h = absurd (cc)

name_operand : {x z : Tokens} {st : Stack} {n : Text} {v : Token} → NameInside n v → Stacked x st (v ∷ z) → Operand x st 9 (e.Name n) z
name_operand {st = st} k q = record { from = _; stacked = q; at = G.name k; fits = room_max st; low = omega arith }

-- ---- any step

quoted_step : {x y : Tokens} {st : Stack} {n : Text} {next : State} (u : Token) → Stacked x st (t.Quoted n ∷ u ∷ y) → M.quoted st n u ≡ Some next → Reached x next y
quoted_step t.Dot q h = put h (R.at_dotted quoted_inside q)
quoted_step u q h = done_sound u (name_operand quoted_inside q) h

named_step : {x y : Tokens} {st : Stack} {n : Text} {k : Word} {next : State} (u : Token) → is_reserved k ≡ false → is_time k ≡ false → Stacked x st (t.Word n k ∷ u ∷ y) → M.named st false n u ≡ Some next → Reached x next y
named_step t.Dot i j q h = put h (R.at_dotted (bare_inside i j) q)
named_step t.Open i j q h = put h (R.at_opened i j q)
named_step u i j q h = done_sound u (name_operand (bare_inside i j) q) h

count_step : {x y : Tokens} {st : Stack} {n : Text} {next : State} (u : Token) → Stacked x st (t.Word n w.Count ∷ u ∷ y) → M.named st true n u ≡ Some next → Reached x next y
count_step t.Dot q h = put h (R.at_dotted (bare_inside refl refl) q)
count_step t.Open q h = put h (R.at_opened_count q)
count_step u q h = done_sound u (name_operand (bare_inside refl refl) q) h

dotted_step : {x y : Tokens} {st : Stack} {n : Text} {v : Token} {next : State} (u : Token) → NameInside n v → Stacked x st (v ∷ t.Dot ∷ u ∷ y) → dotted st n u ≡ Some next → Reached x next y
dotted_step {st = st} {n = n} (t.Word m k) i q h = let g = unless (is_reserved k || is_time k) (s.Done st 9 (e.Qualified n m)) _ h in let j = neither (is_reserved k) (is_time k) g.0 in put g.1 (R.at_done q (G.qualified i (bare_inside j.0 j.1)) (room_max st) (omega arith))
dotted_step {st = st} (t.Quoted m) i q h = put h (R.at_done q (G.qualified i quoted_inside) (room_max st) (omega arith))
dotted_step _ i q h = absurd (cc)

opened_step : {x y : Tokens} {st : Stack} {n : Text} {k : Word} {next : State} (u : Token) → is_reserved k ≡ false → is_time k ≡ false → Stacked x st (t.Word n k ∷ t.Open ∷ u ∷ y) → K.opened st false (upper n) u ≡ Some next → Reached x next y
opened_step {st = st} t.Close i j q h = put h (R.at_done q (G.call i j G.none) (room_max st) (omega arith))
opened_step u i j q h = operand_sound u (R.args_on i j q R.no_items) h

opened_count_step : {x y : Tokens} {st : Stack} {n : Text} {next : State} (u : Token) → Stacked x st (t.Word n w.Count ∷ t.Open ∷ u ∷ y) → K.opened st true (upper n) u ≡ Some next → Reached x next y
opened_count_step {st = st} t.Close q h = put h (R.at_done q (G.call refl refl G.none) (room_max st) (omega arith))
opened_count_step t.Star q h = put h (R.at_counted q)
opened_count_step u q h = operand_sound u (R.args_on refl refl q R.no_items) h

counted_step : {x y : Tokens} {st : Stack} {n : Text} {next : State} (u : Token) → Stacked x st (t.Word n w.Count ∷ t.Open ∷ t.Star ∷ u ∷ y) → K.counted st u ≡ Some next → Reached x next y
counted_step {st = st} t.Close q h = put h (R.at_done q G.count_all (room_max st) (omega arith))
counted_step _ q h = absurd (cc)

signed_step : {x y : Tokens} {st : Stack} {next : State} (u : Token) → Stacked x st (t.Minus ∷ u ∷ y) → K.signed st u ≡ Some next → Reached x next y
signed_step {st = st} (t.Numeral n) q h = let g = guard (nat_le n (2 ^ 63)) _ _ h in put g.1 (R.at_done q (G.negative (leb-true n (2 ^ 63) g.0)) (room_max st) (omega arith))
signed_step u q h = operand_sound u (R.minus_on refl q) h

denied_step : {x y z : Tokens} {st : Stack} {a : Expr} {n : Text} {next : State} (u : Token) → Stacked x st z → G.At 4 z a (t.Word n w.Not ∷ u ∷ y) → room st ≤ 4 → K.denied st a u ≡ Some next → Reached x next y
denied_step (t.Word m w.Like) q r g h = put h (R.at_operand (R.binary_on q g r G.not_like))
denied_step (t.Word m w.In) q r g h = put h (R.at_in q r g G.denied)
denied_step (t.Word m w.Between) q r g h = put h (R.at_operand (R.low_on q g r G.denied))
denied_step _ q r g h = absurd (cc)

is_step : {x y z : Tokens} {st : Stack} {a : Expr} {n : Text} {next : State} (u : Token) → Stacked x st z → G.At 4 z a (t.Word n w.Is ∷ u ∷ y) → room st ≤ 4 → K.is st a u ≡ Some next → Reached x next y
is_step (t.Word m w.Not) q r g h = put h (R.at_operand (R.binary_on q g r G.is_not))
is_step u q r g h = operand_sound u (R.binary_on q g r G.is_word) h

in_step : {x y z z' : Tokens} {st : Stack} {d : Bool} {a : Expr} {n : Text} {next : State} (u : Token) → Stacked x st z → G.At 4 z a z' → room st ≤ 4 → G.Denial d z' (t.Word n w.In ∷ u ∷ y) → K.among st d a u ≡ Some next → Reached x next y
in_step t.Open q r g i h = put h (R.at_listed q r g i)
in_step _ q r g i h = absurd (cc)

listed_step : {x y z z' : Tokens} {st : Stack} {d : Bool} {a : Expr} {n : Text} {next : State} (u : Token) → Stacked x st z → G.At 4 z a z' → room st ≤ 4 → G.Denial d z' (t.Word n w.In ∷ t.Open ∷ u ∷ y) → K.listed st d a u ≡ Some next → Reached x next y
listed_step t.Close q r g i h = put h (R.at_done q (G.among (omega arith) r i G.none) g (omega arith))
listed_step u q r g i h = operand_sound u (R.among_on q g r i R.no_items) h

pub step_sound : {x y : Tokens} {z q : State} (u : Token) → Reached x z (u ∷ y) → step z u ≡ Some q → Reached x q y
unfolding step
step_sound u (R.at_place k) h = place_sound u k h
step_sound u (R.at_operand k) h = operand_sound u k h
step_sound u (R.at_signed k) h = signed_step u k h
step_sound u (R.at_quoted k) h = quoted_step u k h
step_sound u (R.at_named i j k) h = named_step u i j k h
step_sound u (R.at_count k) h = count_step u k h
step_sound u (R.at_dotted i k) h = dotted_step u i k h
step_sound u (R.at_opened i j k) h = opened_step u i j k h
step_sound u (R.at_opened_count k) h = opened_count_step u k h
step_sound u (R.at_counted k) h = counted_step u k h
step_sound u (R.at_done k r g l) h = done_sound u (record { from = _; stacked = k; at = r; fits = g; low = l }) h
step_sound u (R.at_denied k r g) h = denied_step u k r g h
step_sound u (R.at_is k r g) h = is_step u k r g h
step_sound u (R.at_in k r g i) h = in_step u k r g i h
step_sound u (R.at_listed k r g i) h = listed_step u k r g i h

operand_end : {x : Tokens} {st : Stack} {m : ℕ} {a : Expr} {r : Stmt} → Operand x st m a [] → split end_at (reduce 0 st a) ≡ Some r → S.Spells x r
operand_end q h = end_sound _ (reduced 0 (omega arith) (omega arith) q) h

pub finish_sound : {x : Tokens} {z : State} {r : Stmt} → Reached x z [] → finish z ≡ Some r → S.Spells x r
unfolding finish
finish_sound (R.at_place k) h = place_end k h
finish_sound (R.at_quoted k) h = operand_end (name_operand quoted_inside k) h
finish_sound (R.at_named i j k) h = operand_end (name_operand (bare_inside i j) k) h
finish_sound (R.at_count k) h = operand_end (name_operand (bare_inside refl refl) k) h
finish_sound (R.at_done k q g l) h = operand_end (record { from = _; stacked = k; at = q; fits = g; low = l }) h
finish_sound _ h = absurd (cc)

pub parse_sound : {x : Tokens} {r : Stmt} (y : Tokens) (z : State) → Reached x z y → parse z y ≡ Ok r → S.Spells x r
parse_sound {r = r} [] z k h = finish_sound k (ends_here z r h)
parse_sound {r = r} (u ∷ us) z k h = let n = went z u us r h in parse_sound us n.0 (step_sound u k n.1) n.2

pub sound : {x : Tokens} {r : Stmt} → parse Start x ≡ Ok r → S.Spells x r
sound {x = x} h = parse_sound x Start (R.at_place R.at_start) h
