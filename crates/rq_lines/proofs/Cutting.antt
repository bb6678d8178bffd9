-- Names that were read, and what is left of them.
use Rattle.std.proofs.Common.{◌≡◌, ◌<◌, ◌≤◌, ℕ, suc, ◌+◌, ◌==◌, ◌&&◌, if◌then◌else◌, Bool, true, false, Option, Some, None, List, [], ◌∷◌, ◌++◌, length, take, drop, refl, sym, ap, ◌∙◌, subst, arith}
use Rattle.std.specs.Prelude.{position, not, nat_lt, Result, Ok, Err, IfOk, MatchOption}
use Rattle.std.specs.List.{list_all, position_or_len}
use Rattle.std.proofs.lemmas.Bool.Decides.{nat_tests}
use Rattle.std.proofs.lemmas.List.{append-nil, append_assoc}
use Rattle.rq_values.specs.Text.{is_id}
use Rattle.rq_play.specs.Line.{Line, Cluster}
use Rattle.rq_lines.specs.Read.{Adds}
use Rattle.rq_lines.specs.Spelled.{words_behind, words_of, cluster_of}

abbrev pub blank : ℕ → Bool
blank byte = byte == 32

-- the words are these ids, and then those of what is left
pub record HaveRead (rest : List ℕ) (ids : List (List ℕ)) (left : List ℕ) : Type 0 where
  pub words : words_of rest ≡ ids ++ words_of left
  pub names : list_all is_id ids ≡ true

-- ---- words

-- so many bytes stand before the first blank
abbrev pub plain : List ℕ → ℕ
plain bytes = position_or_len blank bytes

by_position : (at long k : ℕ) (b : Bool) → nat_lt at long ≡ b → (if b then Some at else None) ≡ Some k → (k ≡ at) × (at < long)
by_position at long k true is e = let here : at ≡ k = (cc) in (sym here, grind (arith, nat_tests, is))
by_position at long k false is e = absurd (cc)

some_plain : (bytes : List ℕ) (k : ℕ) → position blank bytes ≡ Some k → (k ≡ plain bytes) × (plain bytes < length bytes)
some_plain bytes k e = by_position (plain bytes) (length bytes) k (nat_lt (plain bytes) (length bytes)) refl e

by_none : (at long : ℕ) (b : Bool) → nat_lt at long ≡ b → ◌≡◌ {A = Option ℕ} (if b then Some at else None) None → long ≤ at
by_none at long true is e = absurd (cc)
by_none at long false is e = grind (arith, nat_tests, is)

none_plain : (bytes : List ℕ) → position blank bytes ≡ None → length bytes ≤ plain bytes
none_plain bytes e = by_none (plain bytes) (length bytes) (nat_lt (plain bytes) (length bytes)) refl e

cut_some : (held bytes : List ℕ) → plain bytes < length bytes → words_behind held bytes ≡ (held ++ take (plain bytes) bytes) ∷ words_behind [] (drop (suc (plain bytes)) bytes)
cut_some held [] lt = absurd (omega (arith, lt))
cut_some held (byte ∷ bytes) lt = by (byte == 32) lt (λ less. cut_some (held ++ byte ∷ []) bytes less)
  where
    by : (b : Bool) → (if not b then 1 + plain bytes else 0) < length (byte ∷ bytes)
        → (plain bytes < length bytes → words_behind (held ++ byte ∷ []) bytes ≡ ((held ++ byte ∷ []) ++ take (plain bytes) bytes) ∷ words_behind [] (drop (suc (plain bytes)) bytes))
        → (if b then held ∷ words_behind [] bytes else words_behind (held ++ byte ∷ []) bytes) ≡ (held ++ take (if not b then 1 + plain bytes else 0) (byte ∷ bytes)) ∷ words_behind [] (drop (suc (if not b then 1 + plain bytes else 0)) (byte ∷ bytes))
    by true less more = ap (λ (l : List ℕ). l ∷ words_behind [] bytes) (sym (append-nil held))
    by false less more =
        let one : suc (plain bytes) ≡ 1 + plain bytes = omega arith in
        more (omega (arith, less))
        ∙ ap (λ (l : List ℕ). l ∷ words_behind [] (drop (suc (plain bytes)) bytes)) (append_assoc held (byte ∷ []) (take (plain bytes) bytes))
        ∙ ap (λ (m : ℕ). (held ++ take m (byte ∷ bytes)) ∷ words_behind [] (drop (suc m) (byte ∷ bytes))) one

cut_none : (held bytes : List ℕ) → length bytes ≤ plain bytes → words_behind held bytes ≡ (held ++ bytes) ∷ []
cut_none held [] le = ap (λ (l : List ℕ). l ∷ []) (sym (append-nil held))
cut_none held (byte ∷ bytes) le = by (byte == 32) le (λ less. cut_none (held ++ byte ∷ []) bytes less)
  where
    by : (b : Bool) → length (byte ∷ bytes) ≤ (if not b then 1 + plain bytes else 0)
        → (length bytes ≤ plain bytes → words_behind (held ++ byte ∷ []) bytes ≡ ((held ++ byte ∷ []) ++ bytes) ∷ [])
        → (if b then held ∷ words_behind [] bytes else words_behind (held ++ byte ∷ []) bytes) ≡ (held ++ byte ∷ bytes) ∷ []
    by true less more = absurd (omega (arith, less))
    by false less more = more (omega (arith, less)) ∙ ap (λ (l : List ℕ). l ∷ []) (append_assoc held (byte ∷ []) bytes)

-- the words of what is cut at this place
cut_at : (left : List ℕ) (k : ℕ) → position blank left ≡ Some k → words_of left ≡ take k left ∷ words_of (drop (k + 1) left)
cut_at left k at =
    let is = some_plain left k at in
    let next : suc (plain left) ≡ k + 1 = (let e = is.0 in omega (arith, e)) in
    cut_some [] left is.1 ∙ ap (λ (m : ℕ). take m left ∷ words_behind [] (drop (suc (plain left)) left)) (sym is.0) ∙ ap (λ (m : ℕ). take k left ∷ words_behind [] (drop m left)) next

-- ---- names

all_both : (a b : List (List ℕ)) → list_all is_id (a ++ b) ≡ (list_all is_id a && list_all is_id b)
all_both [] b = refl
all_both (x ∷ a) b = by (is_id x) (all_both a b)
  where
    by : (t : Bool) → list_all is_id (a ++ b) ≡ (list_all is_id a && list_all is_id b) → (t && list_all is_id (a ++ b)) ≡ ((t && list_all is_id a) && list_all is_id b)
    by true h = h
    by false h = refl

pub start : (rest : List ℕ) → HaveRead rest [] rest
start rest = record { words = refl; names = refl }

more_ids : (ids : List (List ℕ)) (name : List ℕ) → list_all is_id ids ≡ true → is_id name ≡ true → list_all is_id (ids ++ name ∷ []) ≡ true
more_ids ids name names is = all_both ids (name ∷ []) ∙ ap (λ (b : Bool). b && (is_id name && true)) names ∙ ap (λ (b : Bool). b && true) is

-- one name more
pub step : (rest left name next : List ℕ) (ids more : List (List ℕ)) (k : ℕ) → HaveRead rest ids left → position blank left ≡ Some k → name ≡ take k left → next ≡ drop (k + 1) left → is_id name ≡ true → more ≡ ids ++ name ∷ [] → HaveRead rest more next
step rest left name next ids more k h at is_name is_next id pushed =
    subst (λ (l : List (List ℕ)). HaveRead rest l next) (sym pushed) (record {
      words = h.words ∙ ap (λ (l : List (List ℕ)). ids ++ l) (cut_at left k at ∙ ap (λ (l : List ℕ). l ∷ words_of (drop (k + 1) left)) (sym is_name) ∙ ap (λ (l : List ℕ). name ∷ words_of l) (sym is_next)) ∙ sym (append_assoc ids (name ∷ []) (words_of next));
      names = more_ids ids name h.names id;
    })

not_all : (rest : List ℕ) → list_all is_id (words_of rest) ≡ false → cluster_of rest ≡ None
not_all rest is = ap (λ (t : Bool). if t then Some (Cluster (words_of rest)) else None) is

wrong : (rest : List ℕ) (ids more : List (List ℕ)) (name : List ℕ) → words_of rest ≡ ids ++ name ∷ more → is_id name ≡ false → list_all is_id (words_of rest) ≡ false
wrong rest ids more name words isnt =
    ap (list_all is_id) words ∙ all_both ids (name ∷ more) ∙ ap (λ (b : Bool). list_all is_id ids && (b && list_all is_id more)) isnt ∙ never (list_all is_id ids)
  where
    never : (b : Bool) → (b && false) ≡ false
    never true = refl
    never false = refl

-- a name that is no id
pub stop : (rest left name : List ℕ) (ids : List (List ℕ)) (k : ℕ) → HaveRead rest ids left → position blank left ≡ Some k → name ≡ take k left → is_id name ≡ false → cluster_of rest ≡ None
stop rest left name ids k h at is_name isnt =
    not_all rest (wrong rest ids (words_of (drop (k + 1) left)) name (h.words ∙ ap (λ (l : List (List ℕ)). ids ++ l) (cut_at left k at ∙ ap (λ (l : List ℕ). l ∷ words_of (drop (k + 1) left)) (sym is_name))) isnt)

-- the last name
pub ends : (rest left : List ℕ) (ids all : List (List ℕ)) → HaveRead rest ids left → position blank left ≡ None → is_id left ≡ true → all ≡ ids ++ left ∷ [] → cluster_of rest ≡ Some (Cluster all)
ends rest left ids all h at is pushed =
    let words : words_of rest ≡ all = h.words ∙ ap (λ (l : List (List ℕ)). ids ++ l) (cut_none [] left (none_plain left at)) ∙ sym pushed in
    let ok : list_all is_id (words_of rest) ≡ true = ap (list_all is_id) words ∙ ap (list_all is_id) pushed ∙ more_ids ids left h.names is in
    ap (λ (t : Bool). if t then Some (Cluster (words_of rest)) else None) ok ∙ ap (λ (l : List (List ℕ)). Some (Cluster l)) words

pub ends_wrong : (rest left : List ℕ) (ids : List (List ℕ)) → HaveRead rest ids left → position blank left ≡ None → is_id left ≡ false → cluster_of rest ≡ None
ends_wrong rest left ids h at isnt =
    not_all rest (wrong rest ids [] left (h.words ∙ ap (λ (l : List (List ℕ)). ids ++ l) (cut_none [] left (none_plain left at))) isnt)

-- ---- what the code is told

pub grown : (rest left next : List ℕ) (ids more : List (List ℕ)) (k : ℕ) (b : Bool) → HaveRead rest ids left → position blank left ≡ Some k → Adds (take k left) ids more b → b ≡ true → next ≡ drop (k + 1) left → HaveRead rest more next
grown rest left next ids more k true h at adds is is_next = step rest left (take k left) next ids more k h at refl is_next adds.0 adds.1
grown rest left next ids more k false h at adds is is_next = absurd (cc)

pub refused : (rest left : List ℕ) (ids more : List (List ℕ)) (k : ℕ) (b : Bool) → HaveRead rest ids left → position blank left ≡ Some k → Adds (take k left) ids more b → b ≡ false → cluster_of rest ≡ None
refused rest left ids more k true h at adds is = absurd (cc)
refused rest left ids more k false h at adds is = stop rest left (take k left) ids k h at refl adds.0

pub last : {E : Type 0} (rest left : List ℕ) (ids : List (List ℕ)) → HaveRead rest ids left → position blank left ≡ None → (r : Result (Option (List (List ℕ))) E)
    → IfOk r (λ o. MatchOption o (is_id left ≡ false) (λ all. (is_id left ≡ true) × (all ≡ ids ++ left ∷ []))) → IfOk r (λ o. MatchOption o (cluster_of rest ≡ None) (λ all. cluster_of rest ≡ Some (Cluster all)))
last rest left ids h at (Ok (Some all)) given = ends rest left ids all h at given.0 given.1
last rest left ids h at (Ok None) given = ends_wrong rest left ids h at given
last rest left ids h at (Err e) given = given
