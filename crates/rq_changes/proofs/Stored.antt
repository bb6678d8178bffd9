-- Values as columns take them, one after the other.
use Rattle.std.proofs.Common.{◌≡◌, ◌<◌, ℕ, ◌+◌, List, [], ◌∷◌, ◌++◌, length, get_or, take, drop, Some, None, Ok, Err, refl, sym, ap, subst, ◌∙◌, arith}
use Rattle.std.specs.Prelude.{slice_get, slice_set, unwrap_or}
use Rattle.std.proofs.lemmas.Option.{unwrap_or-slice_get}
use Rattle.std.proofs.lemmas.List.{drop_more, take_more_set, drop-set-lt, set-get_or, get_or_read, length-set}
use Rattle.rq_values.specs.declared.value.Value.{Value}
use Rattle.rq_values.specs.declared.value.Value.TheVariants.{Null}
use Rattle.rq_grammar.specs.declared.stmt.ColumnDef.{ColumnDef}
use Rattle.rq_grammar.specs.declared.stmt.ColumnKind.{ColumnKind}
use Rattle.rq_eval.specs.declared.error.StmtError.TheVariants as error
use Rattle.rq_eval.specs.declared.error.EvalError.{EvalError}
use Rattle.rq_eval.specs.Outcome.{Outcome, then_with, all_behind}
use Rattle.rq_meaning.specs.Rows.{kind_of, stored, stored_in, needed, all_stored}
use Rattle.rq_meaning.specs.Running.{Goes}
use Rattle.rq_changes.specs.Stepping.{stored_at}
use Rattle.rq_changes.proofs.Steps.{goes_err}

at_cell : (t : List ℕ) (c : ColumnDef) (i : ℕ) (row : List Value) (x : Value) → i < length row → x ≡ get_or row i x → stored_at t c i row ≡ then_with (stored_in t c x) (λ y. Ok (slice_set row i y))
at_cell t c i row x h e = ap (λ z. then_with (stored_in t c z) (λ y. Ok (slice_set row i y))) (unwrap_or-slice_get row i Null ∙ sym (get_or_read row i x h e Null))

-- one value

pub stored_same : (t : List ℕ) (c : ColumnDef) (i : ℕ) (row : List Value) (x : Value) → i < length row → x ≡ get_or row i x → stored c.kind x ≡ Some x → stored_at t c i row ≡ Ok row
stored_same t c i row x h e s =
    at_cell t c i row x h e
    ∙ ap (λ o. then_with (needed (error.CannotStore (kind_of x) c.kind t c.name) o) (λ y. Ok (slice_set row i y))) s
    ∙ ap Ok (ap (slice_set row i) e ∙ set-get_or row i x)

pub stored_other : (t : List ℕ) (c : ColumnDef) (i : ℕ) (row : List Value) (x y : Value) → i < length row → x ≡ get_or row i x → stored c.kind x ≡ Some y → stored_at t c i row ≡ Ok (slice_set row i y)
stored_other t c i row x y h e s =
    at_cell t c i row x h e
    ∙ ap (λ o. then_with (needed (error.CannotStore (kind_of x) c.kind t c.name) o) (λ y. Ok (slice_set row i y))) s

pub stored_none : (t : List ℕ) (c : ColumnDef) (i : ℕ) (row : List Value) (w x : Value) (k : ColumnKind) → i < length row → w ≡ get_or row i w → x ≡ get_or row i x → k ≡ kind_of w → stored c.kind x ≡ None → stored_at t c i row ≡ Err (error.CannotStore k c.kind t c.name)
stored_none t c i row w x k h d e is s =
    at_cell t c i row x h e
    ∙ ap (λ o. then_with (needed (error.CannotStore (kind_of x) c.kind t c.name) o) (λ y. Ok (slice_set row i y))) s
    ∙ ap (λ q. Err (error.CannotStore q c.kind t c.name)) (sym (is ∙ ap kind_of (get_or_read row i w h d Null ∙ sym (get_or_read row i x h e Null))))

-- all values of a row

abbrev rest_stored : List ℕ → List ColumnDef → ℕ → List Value → Outcome (List Value)
rest_stored t cs i row = all_behind (take i row) (all_stored t (drop i cs) (drop i row))

one_stored : (t : List ℕ) (cs : List ColumnDef) (i : ℕ) (row : List Value) (o : Outcome Value) → i < length row
    → then_with o (λ v. all_behind (take i row ++ v ∷ []) (all_stored t (drop (i + 1) cs) (drop (i + 1) row))) ≡ then_with (then_with o (λ y. Ok (slice_set row i y))) (rest_stored t cs (i + 1))
one_stored t cs i row (Err e) h = refl
one_stored t cs i row (Ok y) h =
    let less : i < i + 1 = omega arith in
    ap (λ vs. all_behind vs (all_stored t (drop (i + 1) cs) (drop (i + 1) row))) (sym (take_more_set row i y h))
    ∙ ap (λ ws. all_behind (take (i + 1) (slice_set row i y)) (all_stored t (drop (i + 1) cs) ws)) (sym (drop-set-lt (i + 1) row i y less))

next_stored : (t : List ℕ) (cs : List ColumnDef) (c : ColumnDef) (i : ℕ) (row : List Value) → i < length cs → length row ≡ length cs → c ≡ get_or cs i c → rest_stored t cs i row ≡ then_with (stored_at t c i row) (rest_stored t cs (i + 1))
next_stored t cs c i row h len e =
    let within : i < length row = omega (arith, h, len) in
    let x = get_or row i Null in
    ap (λ ds. all_behind (take i row) (all_stored t ds (drop i row))) (drop_more cs i c h ∙ ap (λ d. d ∷ drop (i + 1) cs) (sym e))
    ∙ ap (λ ws. all_behind (take i row) (all_stored t (c ∷ drop (i + 1) cs) ws)) (drop_more row i Null within)
    ∙ one_stored t cs i row (stored_in t c x) within
    ∙ ap (λ z. then_with (then_with (stored_in t c z) (λ y. Ok (slice_set row i y))) (rest_stored t cs (i + 1))) (sym (unwrap_or-slice_get row i Null))

pub next_fails : (t : List ℕ) (cs : List ColumnDef) (c : ColumnDef) (i : ℕ) (row new : List Value) (o : Outcome (List Value)) (e : EvalError) → i < length cs → length row ≡ length cs → c ≡ get_or cs i c → Goes (stored_at t c i row) new (Err e) → rest_stored t cs i row ≡ o → Goes o new (Err e)
next_fails t cs c i row new o e h len is g so = subst (λ p. Goes p new (Err e)) (sym (next_stored t cs c i row h len is) ∙ so) (goes_err (stored_at t c i row) (rest_stored t cs (i + 1)) new new e g)

pub next_goes : (t : List ℕ) (cs : List ColumnDef) (c : ColumnDef) (i : ℕ) (row new : List Value) (o : Outcome (List Value)) → i < length cs → length row ≡ length cs → c ≡ get_or cs i c → stored_at t c i row ≡ Ok new → rest_stored t cs i row ≡ o → rest_stored t cs (i + 1) new ≡ o
next_goes t cs c i row new o h len is g so = sym (ap (λ p. then_with p (rest_stored t cs (i + 1))) g) ∙ sym (next_stored t cs c i row h len is) ∙ so

length_from : (o : Outcome Value) (i : ℕ) (row new : List Value) → then_with o (λ y. Ok (slice_set row i y)) ≡ Ok new → length new ≡ length row
length_from (Ok y) i row new h = ap length (sym (same h)) ∙ length-set row i y
  where
    same : ◌≡◌ {A = Outcome (List Value)} (Ok (slice_set row i y)) (Ok new) → slice_set row i y ≡ new
    same q = cc
length_from (Err e) i row new h = absurd (cc)

pub stored_length : (t : List ℕ) (c : ColumnDef) (i : ℕ) (row new : List Value) → stored_at t c i row ≡ Ok new → length new ≡ length row
stored_length t c i row new h = length_from (stored_in t c (unwrap_or (slice_get row i) Null)) i row new h
