-- A row before it comes into a table.
use Rattle.std.proofs.Common.{◌≡◌, ◌<◌, ◌≤◌, ℕ, ℤ, ◌+◌, Bool, true, false, List, [], ◌∷◌, ◌++◌, length, map, replicate, get_or, take, drop, Option, None, ◌⊎◌, inl, inr, refl, sym, ap, ◌∙◌, arith, append_assoc}
use Rattle.std.specs.Prelude.{if◌then◌else◌, slice_set}
use Rattle.std.proofs.lemmas.List.{drop_more, drop-drop, drop_all, take_all, take_more, take_more_set, drop-set-lt, set_past}
use Rattle.std.proofs.lemmas.Bool.{cases_lt}
use Rattle.rq_values.specs.declared.value.Value.{Value}
use Rattle.rq_values.specs.declared.value.Value.TheVariants.{Null, Int}
use Rattle.rq_grammar.specs.declared.stmt.ColumnDef.{ColumnDef}
use Rattle.rq_results.specs.Checks.{first}
use Rattle.rq_meaning.specs.Database.{is_rowid}
use Rattle.rq_meaning.specs.Rows.{rowid_value, with_rowid, nulls}
use Rattle.rq_meaning.specs.Changes.{all_set}
use Rattle.rq_changes.specs.Stepping.{laid_at}

-- ---- the value in the rowid's column

behind : (c : ColumnDef) (cs : List ColumnDef) (xs : List Value) → is_rowid c ≡ false → rowid_value cs (drop 1 xs) ≡ rowid_value (c ∷ cs) xs
behind c [] [] h = refl
behind c (d ∷ ds) [] h = refl
behind c cs (x ∷ xs) h = sym (ap (λ b. if b then x else rowid_value cs xs) h)

pub rowid_behind : (cs : List ColumnDef) (row : List Value) (i : ℕ) (c : ColumnDef) → i < length cs → c ≡ get_or cs i c → is_rowid c ≡ false → rowid_value (drop (i + 1) cs) (drop (i + 1) row) ≡ rowid_value (drop i cs) (drop i row)
rowid_behind cs row i c h is other =
    ap (rowid_value (drop (i + 1) cs)) (sym (drop-drop 1 i row))
    ∙ behind c (drop (i + 1) cs) (drop i row) other
    ∙ ap (λ ds. rowid_value ds (drop i row)) (sym (drop_more cs i c h ∙ ap (λ d. d ∷ drop (i + 1) cs) (sym is)))

-- ---- NOT NULL

no_more : (t : List ℕ) (had : Option ℤ) (cs : List ColumnDef) → nulls t had cs [] ≡ []
no_more t had [] = refl
no_more t had (c ∷ cs) = refl

pub nulls_end : (t : List ℕ) (had : Option ℤ) (cs : List ColumnDef) (row : List Value) (i : ℕ) → length row ≤ i → first (nulls t had (drop i cs) (drop i row)) ≡ None
nulls_end t had cs row i h = ap (λ ws. first (nulls t had (drop i cs) ws)) (drop_all i row h) ∙ ap first (no_more t had (drop i cs))

-- ---- the rowid in its column

no_rowid : (k : ℤ) (cs : List ColumnDef) → with_rowid k cs [] ≡ []
no_rowid k [] = refl
no_rowid k (c ∷ cs) = refl

laid_past : (c : ColumnDef) (i : ℕ) (k : ℤ) (row : List Value) → length row ≤ i → laid_at c i k row ≡ row
laid_past c i k row h = by (is_rowid c)
  where
    by : (b : Bool) → (if b then slice_set row i (Int k) else row) ≡ row
    by true = set_past row i (Int k) h
    by false = refl

laid_here : (c : ColumnDef) (i : ℕ) (k : ℤ) (row : List Value) → i < length row → (take (i + 1) (laid_at c i k row) ≡ take i row ++ (if is_rowid c then Int k else get_or row i Null) ∷ []) × (drop (i + 1) (laid_at c i k row) ≡ drop (i + 1) row)
laid_here c i k row h = by (is_rowid c)
  where
    by : (b : Bool) → (take (i + 1) (if b then slice_set row i (Int k) else row) ≡ take i row ++ (if b then Int k else get_or row i Null) ∷ []) × (drop (i + 1) (if b then slice_set row i (Int k) else row) ≡ drop (i + 1) row)
    by true = let less : i < i + 1 = omega arith in (take_more_set row i (Int k) h, drop-set-lt (i + 1) row i (Int k) less)
    by false = (take_more row i Null h, refl)

pub next_laid : (k : ℤ) (cs : List ColumnDef) (i : ℕ) (c : ColumnDef) (row : List Value) → i < length cs → c ≡ get_or cs i c → take (i + 1) (laid_at c i k row) ++ with_rowid k (drop (i + 1) cs) (drop (i + 1) (laid_at c i k row)) ≡ take i row ++ with_rowid k (drop i cs) (drop i row)
next_laid k cs i c row h is = by (cases_lt i (length row))
  where
    at : drop i cs ≡ c ∷ drop (i + 1) cs
    at = drop_more cs i c h ∙ ap (λ d. d ∷ drop (i + 1) cs) (sym is)

    past : length row ≤ i → take (i + 1) (laid_at c i k row) ++ with_rowid k (drop (i + 1) cs) (drop (i + 1) (laid_at c i k row)) ≡ take i row ++ with_rowid k (drop i cs) (drop i row)
    past g =
        let more : length row ≤ i + 1 = omega arith in
        ap (λ ws. take (i + 1) ws ++ with_rowid k (drop (i + 1) cs) (drop (i + 1) ws)) (laid_past c i k row g)
        ∙ ap (λ ws. take (i + 1) row ++ with_rowid k (drop (i + 1) cs) ws) (drop_all (i + 1) row more)
        ∙ ap (λ ws. take (i + 1) row ++ ws) (no_rowid k (drop (i + 1) cs))
        ∙ ap (λ ws. ws ++ []) (take_all (i + 1) row more ∙ sym (take_all i row g))
        ∙ sym (ap (λ ws. take i row ++ with_rowid k (drop i cs) ws) (drop_all i row g) ∙ ap (λ ws. take i row ++ ws) (no_rowid k (drop i cs)))

    here : i < length row → take (i + 1) (laid_at c i k row) ++ with_rowid k (drop (i + 1) cs) (drop (i + 1) (laid_at c i k row)) ≡ take i row ++ with_rowid k (drop i cs) (drop i row)
    here g =
        let p = laid_here c i k row g in
        let x = if is_rowid c then Int k else get_or row i Null in
        ap (λ ws. ws ++ with_rowid k (drop (i + 1) cs) (drop (i + 1) (laid_at c i k row))) p.0
        ∙ ap (λ ws. (take i row ++ x ∷ []) ++ with_rowid k (drop (i + 1) cs) ws) p.1
        ∙ append_assoc (take i row) (x ∷ []) (with_rowid k (drop (i + 1) cs) (drop (i + 1) row))
        ∙ sym (ap (λ ds. take i row ++ with_rowid k ds (drop i row)) at ∙ ap (λ ws. take i row ++ with_rowid k (c ∷ drop (i + 1) cs) ws) (drop_more row i Null g))

    by : (i < length row) ⊎ (length row ≤ i) → take (i + 1) (laid_at c i k row) ++ with_rowid k (drop (i + 1) cs) (drop (i + 1) (laid_at c i k row)) ≡ take i row ++ with_rowid k (drop i cs) (drop i row)
    by (inl g) = here g
    by (inr g) = past g

-- ---- values take their places

all_set_none : (is : List ℕ) (row : List Value) → all_set is [] row ≡ row
all_set_none [] row = refl
all_set_none (i ∷ is) row = refl

pub all_set_end : (is : List ℕ) (xs row : List Value) → xs ≡ [] → all_set is xs row ≡ row
all_set_end is xs row h = ap (λ ys. all_set is ys row) h ∙ all_set_none is row

pub null_row : (cs : List ColumnDef) → replicate (length cs) Null ≡ map (λ (c : ColumnDef). Null) cs
null_row [] = refl
null_row (c ∷ cs) = ap (λ vs. Null ∷ vs) (null_row cs)
