-- The maps by value, kept with the rows.
use Rattle.std.proofs.Common.{◌≡◌, ℕ, ℤ, Bool, true, false, cond, List, [], ◌∷◌, length, Option, Some, None, refl, sym, ap, subst, ◌∙◌, ◌<◌, ◌≤◌, ◌+◌, arith, ◌⊎◌, inl, inr, zero, suc, get_or}
use Rattle.std.specs.Prelude.{IsSome, ◌&&◌, slice_get, slice_set, unwrap_or}
use Rattle.std.specs.Ordering.{int_cmp, eq_by_cmp, is_eq}
use Rattle.std.specs.Cmp.{int_cmp_total, eq_by_cmp_equiv}
use Rattle.std.specs.FinMap as fin
use Rattle.std.proofs.lemmas.Option.{slice_get_within, slice_get-get_or}
use Rattle.rq_values.specs.declared.value.Value.{Value}
use Rattle.rq_values.specs.declared.value.Value.TheVariants.{Int}
use Rattle.rq_grammar.specs.declared.stmt.ColumnDef.{ColumnDef}
use Rattle.rq_rows.specs.Rows.{Filled, has, is_same, is_rowid, is_unique, key_of, is_taken}
use Rattle.rq_rows.specs.Holding.{held, same}
use Rattle.rq_rows.specs.Slots.{Slot}
use Rattle.rq_rows.specs.Covering.{Held, Cover, Covers, Counted, Apart, Keyed, Valid, Free, HasKey, HasHolders, MoreHeld, More, is_new, Points, PointsBelow}
use Rattle.rq_rows.proofs.Keys.{is_compared, exact, compared_itself}
use Rattle.rq_rows.proofs.Live.{get_put, same_key}
use Rattle.rq_rows.proofs.Walks.{found_any}

pub inside : {A : Type 0} (x y : A) → Some x ≡ Some y → x ≡ y
inside x y e = ap (λ o. unwrap_or o x) e

pub clash : {P : Type 0} (b : Bool) → b ≡ true → b ≡ false → P
clash true a e = absurd (cc)
clash false a e = absurd (cc)

pub same_is : (v w : Value) → same v w ≡ true → v ≡ w
same_is v w t = exact v w (ap is_eq (sym (is_compared v w)) ∙ t)

same_itself : (v : Value) → same v v ≡ true
same_itself v = ap is_eq (is_compared v v) ∙ compared_itself v

-- a row with a value
taken : (n : ℕ) (rows : Filled) (j : ℤ) (r : List Value) (v : Value) → fin.get rows j ≡ Some r → key_of n r ≡ Some v → is_taken n rows (Some v) ≡ true
taken n rows j r v e k = found_any (has n v) rows j r e (ap (is_same v) k ∙ compared_itself v)

not_taken : {P : Type 0} (n : ℕ) (rows : Filled) (row : List Value) (j : ℤ) (r : List Value) (v : Value) → is_taken n rows (key_of n row) ≡ false → key_of n row ≡ Some v → fin.get rows j ≡ Some r → key_of n r ≡ Some v → P
not_taken n rows row j r v free k e f = clash _ (taken n rows j r v e f) (ap (is_taken n rows) (sym k) ∙ free)

-- what a look-up finds once a row is in
found_at : (rows : Filled) (k : ℤ) (row : List Value) (j : ℤ) (r : List Value) → fin.get (fin.insert rows k row) j ≡ Some r → ((j ≡ k) × (r ≡ row)) ⊎ (fin.get rows j ≡ Some r)
found_at rows k row j r e = by (eq_by_cmp int_cmp j k) refl (sym (get_put rows k (Some row) j) ∙ e)
  where
    by : (b : Bool) → eq_by_cmp int_cmp j k ≡ b → cond b (Some row) (fin.get rows j) ≡ Some r → ((j ≡ k) × (r ≡ row)) ⊎ (fin.get rows j ≡ Some r)
    by true t f = inl (same_key j k t, sym (inside row r f))
    by false t f = inr f

found_still : (rows : Filled) (k j : ℤ) (r : List Value) → fin.get (fin.remove rows k) j ≡ Some r → fin.get rows j ≡ Some r
found_still rows k j r e = by (eq_by_cmp int_cmp j k) (sym (get_put rows k None j) ∙ e)
  where
    by : (b : Bool) → cond b None (fin.get rows j) ≡ Some r → fin.get rows j ≡ Some r
    by true f = absurd (cc)
    by false f = f

get_new : (rows : Filled) (k : ℤ) (row : List Value) → fin.get (fin.insert rows k row) k ≡ Some row
get_new rows k row = get_put rows k (Some row) k ∙ ap (λ b. cond b (Some row) (fin.get rows k)) ((eq_by_cmp_equiv int_cmp_total).refl k)

-- ---- one map

new_is : (c : ColumnDef) (o : Option Value) (q : Value) → is_new c o q ≡ true → o ≡ Some q
new_is c None q t = absurd (cc)
new_is c (Some v) q t = ap Some (same_is v q (last (is_unique c) t))
  where
    last : (a : Bool) {d : Bool} → (a && d) ≡ true → d ≡ true
    last true t = t
    last false t = absurd (cc)

is_new_itself : (c : ColumnDef) (v : Value) → is_unique c ≡ true → is_new c (Some v) v ≡ true
is_new_itself c v a = ap (λ x. x && same v v) a ∙ same_itself v

pointed : (b : Bool) (k : ℤ) (x : Option ℤ) (j : ℤ) → (b ≡ true → k ≡ j) → (b ≡ false → x ≡ Some j) → cond b (Some k) x ≡ Some j
pointed true k x j f g = ap Some (f refl)
pointed false k x j f g = g refl

cover_in : (n : ℕ) (c : ColumnDef) (g h : Held) (rows : Filled) (k : ℤ) (row : List Value) → is_unique c ≡ true → Cover n g rows → Apart n (fin.insert rows k row)
    → Points c (key_of n row) k g h → Cover n h (fin.insert rows k row)
cover_in n c g h rows k row must cover apart points j r v e f = points v ∙ pointed _ k _ j
    (λ t. apart k j row r v (get_new rows k row) e (new_is c (key_of n row) v t) f)
    (λ t. either t (found_at rows k row j r e))
  where
    either : is_new c (key_of n row) v ≡ false → ((j ≡ k) × (r ≡ row)) ⊎ (fin.get rows j ≡ Some r) → held g v ≡ Some j
    either t (inl p) = clash _ (ap (λ o. is_new c o v) (ap (key_of n) (sym p.1) ∙ f) ∙ is_new_itself c v must) t
    either t (inr q) = cover j r v q f

cover_same : (n : ℕ) (c : ColumnDef) (g h : Held) (rows : Filled) (k : ℤ) (row : List Value) → is_taken n rows (key_of n row) ≡ false → Cover n g rows
    → Points c (key_of n row) k g h → Cover n h rows
cover_same n c g h rows k row free cover points j r v e f =
    points v ∙ pointed _ k _ j (λ t. not_taken n rows row j r v free (new_is c (key_of n row) v t) e f) (λ t. cover j r v e f)

-- ---- all maps

pub order : (n i : ℕ) → (n < i) ⊎ (i ≤ n)
order n zero = inr (omega arith)
order zero (suc i) = inl (omega arith)
order (suc n) (suc i) = by (order n i)
  where
    by : (n < i) ⊎ (i ≤ n) → (suc n < suc i) ⊎ (suc i ≤ suc n)
    by (inl a) = inl (omega arith)
    by (inr b) = inr (omega arith)

pub covers_in : (cs : List ColumnDef) (gs hs : List Held) (rows : Filled) (k : ℤ) (row : List Value) → Covers cs gs rows → Valid cs (fin.insert rows k row)
    → PointsBelow (length cs) cs row k gs hs → Covers cs hs (fin.insert rows k row)
covers_in cs gs hs rows k row old valid points n c h at_c at_h must =
    let p = points n c h at_c at_h in
    cover_in n c p.0 h rows k row must (old n c p.0 at_c p.1 must) (valid.apart n c at_c must) (p.2 (slice_get_within cs n c at_c))

pub covers_same : (i : ℕ) (cs : List ColumnDef) (gs hs : List Held) (rows : Filled) (k : ℤ) (row : List Value) → Covers cs gs rows → Free cs rows row
    → PointsBelow i cs row k gs hs → Covers cs hs rows
covers_same i cs gs hs rows k row old free points n c h at_c at_h must = by (order n i)
  where
    by : (n < i) ⊎ (i ≤ n) → Cover n h rows
    by (inl below) = let p = points n c h at_c at_h in cover_same n c p.0 h rows k row (free n c at_c must) (old n c p.0 at_c p.1 must) (p.2 below)
    by (inr above) = let p = points n c h at_c at_h in subst (λ x. Cover n x rows) (sym (p.3 above)) (old n c p.0 at_c p.1 must)

pub covers_out : (cs : List ColumnDef) (hs : List Held) (rows : Filled) (k : ℤ) → Covers cs hs rows → Covers cs hs (fin.remove rows k)
covers_out cs hs rows k old n c h at_c at_h must j r v e f = old n c h at_c at_h must j r v (found_still rows k j r e) f

pub valid_in : (cs : List ColumnDef) (rows : Filled) (k : ℤ) (row : List Value) → Valid cs rows → Free cs rows row → HasKey cs k row → Valid cs (fin.insert rows k row)
valid_in cs rows k row old free key = record { counted = counted; apart = apart; keyed = keyed }
  where
    counted : Counted (length cs) (fin.insert rows k row)
    counted j r e = by (found_at rows k row j r e)
      where
        by : ((j ≡ k) × (r ≡ row)) ⊎ (fin.get rows j ≡ Some r) → length r ≡ length cs
        by (inl p) = ap length p.1 ∙ key.count
        by (inr q) = old.counted j r q

    apart : (n : ℕ) (c : ColumnDef) → slice_get cs n ≡ Some c → is_unique c ≡ true → Apart n (fin.insert rows k row)
    apart n c at_c must i j r s v e f a b = by (found_at rows k row i r e) (found_at rows k row j s f)
      where
        by : ((i ≡ k) × (r ≡ row)) ⊎ (fin.get rows i ≡ Some r) → ((j ≡ k) × (s ≡ row)) ⊎ (fin.get rows j ≡ Some s) → i ≡ j
        by (inl p) (inl q) = p.0 ∙ sym q.0
        by (inl p) (inr q) = not_taken n rows row j s v (free n c at_c must) (ap (key_of n) (sym p.1) ∙ a) q b
        by (inr p) (inl q) = not_taken n rows row i r v (free n c at_c must) (ap (key_of n) (sym q.1) ∙ b) p a
        by (inr p) (inr q) = old.apart n c at_c must i j r s v p q a b

    keyed : (n : ℕ) (c : ColumnDef) → slice_get cs n ≡ Some c → is_rowid c ≡ true → Keyed n (fin.insert rows k row)
    keyed n c at_c t j r e = by (found_at rows k row j r e)
      where
        by : ((j ≡ k) × (r ≡ row)) ⊎ (fin.get rows j ≡ Some r) → slice_get r n ≡ Some (Int j)
        by (inl p) = ap (λ vs. slice_get vs n) p.1 ∙ key.key n c at_c t ∙ ap (λ z. Some (Int z)) (sym p.0)
        by (inr q) = old.keyed n c at_c t j r q

pub valid_out : (cs : List ColumnDef) (rows : Filled) (k : ℤ) → Valid cs rows → Valid cs (fin.remove rows k)
valid_out cs rows k old = record {
  counted = λ j r e. old.counted j r (found_still rows k j r e);
  apart = λ n c at_c must i j r s v e f. old.apart n c at_c must i j r s v (found_still rows k i r e) (found_still rows k j s f);
  keyed = λ n c at_c t j r e. old.keyed n c at_c t j r (found_still rows k j r e);
}

-- ---- entries stay

points_more : (c : ColumnDef) (o : Option Value) (k : ℤ) (g h : Held) → Points c o k g h → MoreHeld g h
points_more c o k g h points q s = subst IsSome (sym (points q)) (by (is_new c o q) (held g q) s)
  where
    by : (b : Bool) (x : Option ℤ) → IsSome x → IsSome (cond b (Some k) x)
    by true x s = refl
    by false x s = s

pub below_more : (i : ℕ) (cs : List ColumnDef) (gs hs : List Held) (row : List Value) (k : ℤ) → length hs ≡ length cs → PointsBelow i cs row k gs hs → More gs hs
below_more i cs gs hs row k len points n h at_h = by (column cs n (subst (λ m. n < m) len (slice_get_within hs n h at_h)))
  where
    column : (cs : List ColumnDef) (n : ℕ) → n < length cs → (c : ColumnDef) × (slice_get cs n ≡ Some c)
    column [] n lt = absurd (omega arith)
    column (c ∷ cs) zero lt = (c, refl)
    column (c ∷ cs) (suc n) lt = column cs n (omega arith)

    by : (c : ColumnDef) × (slice_get cs n ≡ Some c) → (g : Held) × (slice_get gs n ≡ Some g) × MoreHeld g h
    by q = let p = points n q.0 h q.1 at_h in (p.0, p.1, here (order n i))
      where
        here : (n < i) ⊎ (i ≤ n) → MoreHeld (points n q.0 h q.1 at_h).0 h
        here (inl a) = points_more q.0 (key_of n row) k _ h ((points n q.0 h q.1 at_h).2 a)
        here (inr b) = λ v s. subst (λ x. IsSome (held x v)) (sym ((points n q.0 h q.1 at_h).3 b)) s

pub has_more : (cs : List ColumnDef) (gs hs : List Held) (o : Slot) → More gs hs → HasHolders cs gs o → HasHolders cs hs o
has_more cs gs hs None more h = tt
has_more cs gs hs (Some row) more old = λ n c h v at_c at_h must key. let m = more n h at_h in m.2 v (old n c m.0 v at_c m.1 must key)

-- a row that is there has its entries
pub has_holders : (cs : List ColumnDef) (hs : List Held) (rows : Filled) (k : ℤ) (o : Slot) → Covers cs hs rows → fin.get rows k ≡ o → HasHolders cs hs o
has_holders cs hs rows k None covers e = tt
has_holders cs hs rows k (Some row) covers e = λ n c h v at_c at_h must key. subst IsSome (sym (covers n c h at_c at_h must k row v e key)) refl

-- ---- the loop

pub get_set : {A : Type 0} (xs : List A) (i : ℕ) (x y z : A) → slice_get xs i ≡ Some x → slice_get (slice_set xs i y) i ≡ Some z → z ≡ y
get_set [] i x y z e f = absurd (cc)
get_set (a ∷ xs) zero x y z e f = inside z y (sym f)
get_set (a ∷ xs) (suc i) x y z e f = get_set xs i x y z e f

pub get_other : {A : Type 0} (xs : List A) (i j : ℕ) (y : A) → (j ≡ i → ⊥) → slice_get (slice_set xs i y) j ≡ slice_get xs j
get_other [] i j y ne = refl
get_other (a ∷ xs) zero zero y ne = absurd (ne refl)
get_other (a ∷ xs) zero (suc j) y ne = refl
get_other (a ∷ xs) (suc i) zero y ne = refl
get_other (a ∷ xs) (suc i) (suc j) y ne = get_other xs i j y (λ e. ne (ap suc e))

abbrev Next : ℕ → ℕ → List Value → ℤ → List Held → ColumnDef → Held → Type 0
Next i n row k gs d x = (g : Held) × (slice_get gs n ≡ Some g) × (n < i + 1 → Points d (key_of n row) k g x) × (i + 1 ≤ n → x ≡ g)

pub points_next : (i : ℕ) (cs : List ColumnDef) (gs hs : List Held) (row : List Value) (k : ℤ) (c : ColumnDef) (h w : Held) → PointsBelow i cs row k gs hs
    → slice_get cs i ≡ Some c → slice_get hs i ≡ Some h → Points c (key_of i row) k h w → PointsBelow (i + 1) cs row k gs (slice_set hs i w)
points_next i cs gs hs row k c h w old at_c at_h points n d x at_d at_x = by (order n i) (order i n)
  where
    other : (n ≡ i → ⊥) → slice_get hs n ≡ Some x
    other ne = sym (get_other hs i n w ne) ∙ at_x

    here : n ≡ i → Next i n row k gs d x
    here e =
        let p = old i c h at_c at_h in
        let same_c : c ≡ d = inside c d (sym at_c ∙ subst (λ m. slice_get cs m ≡ Some d) e at_d) in
        let same_x : x ≡ w = get_set hs i h w x at_h (subst (λ m. slice_get (slice_set hs i w) m ≡ Some x) e at_x) in
        let same_h : h ≡ p.0 = p.3 (omega arith) in (
          p.0,
          subst (λ m. slice_get gs m ≡ Some p.0) (sym e) p.1,
          (λ lt. subst (λ m. Points d (key_of m row) k p.0 x) (sym e) (subst (λ y. Points d (key_of i row) k p.0 y) (sym same_x) (subst (λ y. Points d (key_of i row) k y w) same_h (subst (λ y. Points y (key_of i row) k h w) same_c points)))),
          (λ le. absurd (omega arith)),
        )

    by : (n < i) ⊎ (i ≤ n) → (i < n) ⊎ (n ≤ i) → Next i n row k gs d x
    by (inl a) z = let p = old n d x at_d (other (λ e. omega arith)) in (p.0, p.1, (λ lt. p.2 a), (λ le. absurd (omega arith)))
    by (inr a) (inl b) = let p = old n d x at_d (other (λ e. omega arith)) in (p.0, p.1, (λ lt. absurd (omega arith)), (λ le. p.3 a))
    by (inr a) (inr b) = here (omega arith)

pub at_get : {A : Type 0} (xs : List A) (i : ℕ) (d : A) → i < length xs → d ≡ get_or xs i d → slice_get xs i ≡ Some d
at_get xs i d lt e = slice_get-get_or xs i d lt ∙ ap Some (sym e)

-- where one is as it was, all are as they were
pub points_stop : (i : ℕ) (cs : List ColumnDef) (gs hs : List Held) (row : List Value) (k : ℤ) (h w : Held) → PointsBelow i cs row k gs hs
    → slice_get hs i ≡ Some h → w ≡ h → PointsBelow i cs row k gs (slice_set hs i w)
points_stop i cs gs hs row k h w old at_h e = subst (λ xs. PointsBelow i cs row k gs xs) (sym (ap (slice_set hs i) e ∙ set_itself hs i h at_h)) old
  where
    set_itself : (xs : List Held) (i : ℕ) (x : Held) → slice_get xs i ≡ Some x → slice_set xs i x ≡ xs
    set_itself [] i x e = absurd (cc)
    set_itself (a ∷ xs) zero x e = ap (λ y. y ∷ xs) (inside x a (sym e))
    set_itself (a ∷ xs) (suc i) x e = ap (λ ys. a ∷ ys) (set_itself xs i x e)
