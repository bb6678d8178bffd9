-- Columns put in order by their index are the pairs put in order by their heading.
use Rattle.std.proofs.Common.{◌≡◌, ℕ, zero, suc, ◌+◌, ◌<◌, ◌≤◌, min, List, [], ◌∷◌, ◌++◌, length, get_or, set, take, drop, map, flat_map, refl, subst, ap, ◌∙◌, Ordering, Less, Equal, Greater, arith}
use Rattle.std.specs.Bool.{⊤}
use Rattle.std.specs.Ordering.{nat_cmp, match_ordering}
use Rattle.std.specs.Cmp.Lexicographic.{slice_cmp}
use Rattle.std.proofs.lemmas.List.Folds.{flat_map-map}
use Rattle.json.specs.Token.{Token, key, string}
use Rattle.rq_values.specs.declared.value.Value.{Value}
use Rattle.rq_values.specs.declared.value.Value.TheVariants.{Null}
use Rattle.rq_replies.specs.Reply.{put, paired, pair_tokens, object_of, object_under, row_object, value_token}
use Rattle.rq_replies.specs.Order.{heading, place, order_to, value_under, type_under}

-- a column by its index: its heading and what stands under it
abbrev pair_at : {A : Type 0} → List (List ℕ) → (ℕ → A) → ℕ → List ℕ × A
pair_at hs u at = (heading hs at, u at)

by_ordering : {A B : Type 0} (f : A → B) (c : Ordering) (x y z : List A) (w : List B) → w ≡ map f z → match_ordering c (map f x) (map f y) w ≡ map f (match_ordering c x y z)
by_ordering f Less x y z w h = refl
by_ordering f Equal x y z w h = refl
by_ordering f Greater x y z w h = h

put_place : {A : Type 0} (hs : List (List ℕ)) (u : ℕ → A) (at : ℕ) (order : List ℕ) → put (heading hs at) (u at) (map (pair_at hs u) order) ≡ map (pair_at hs u) (place hs at order)
put_place hs u at [] = refl
put_place hs u at (other ∷ order) =
    by_ordering (pair_at hs u) (slice_cmp nat_cmp (heading hs at) (heading hs other)) (at ∷ other ∷ order) (at ∷ order) (other ∷ place hs at order) _
    (ap (λ l. pair_at hs u other ∷ l) (put_place hs u at order))

-- the list holds what u gives from k on
abbrev IsFrom : {A : Type 0} → (ℕ → A) → ℕ → List A → Type 0
IsFrom u k [] = ⊤
IsFrom u k (a ∷ rest) = (a ≡ u k) × IsFrom u (suc k) rest

shift : {A : Type 0} (u : ℕ → A) (k : ℕ) (l : List A) → IsFrom (λ i. u (suc i)) k l → IsFrom u (suc k) l
shift u k [] h = tt
shift u k (a ∷ l) h = (h.0, shift u (suc k) l h.1)

is_from : {A B : Type 0} (g : A → B) (d : A) (l : List A) → IsFrom (λ i. g (get_or l i d)) 0 (map g l)
is_from g d [] = tt
is_from g d (a ∷ l) = (refl, shift (λ i. g (get_or (a ∷ l) i d)) 0 (map g l) (is_from g d l))

in_order : {A : Type 0} (hs : List (List ℕ)) (u : ℕ → A) (rest : List (List ℕ)) (under : List A) (k n : ℕ)
    → IsFrom (heading hs) k rest → IsFrom u k under → n ≡ k + min (length rest) (length under)
    → paired rest under (map (pair_at hs u) (order_to hs k)) ≡ map (pair_at hs u) (order_to hs n)
in_order hs u [] under k n h j e = let same : k ≡ n = omega arith in ap (λ m. map (pair_at hs u) (order_to hs m)) same
in_order hs u (name ∷ rest) [] k n h j e = let same : k ≡ n = omega arith in ap (λ m. map (pair_at hs u) (order_to hs m)) same
in_order hs u (name ∷ rest) (a ∷ under) k n h j e =
    ap (λ q. paired rest under (put q a (map (pair_at hs u) (order_to hs k)))) h.0
    ∙ ap (λ q. paired rest under (put (heading hs k) q (map (pair_at hs u) (order_to hs k)))) j.0
    ∙ ap (λ q. paired rest under q) (put_place hs u k (order_to hs k))
    ∙ in_order hs u rest under (suc k) n h.1 j.1 (omega arith)

map_id : {A : Type 0} (l : List A) → map (λ a. a) l ≡ l
map_id [] = refl
map_id (a ∷ l) = ap (λ m. a ∷ m) (map_id l)

headings_from : (hs : List (List ℕ)) → IsFrom (heading hs) 0 hs
headings_from hs = subst (λ l. IsFrom (heading hs) 0 l) (map_id hs) (is_from (λ a. a) [] hs)

-- an object under headings, written by the columns in order
whole : {A : Type 0} (g : A → Token) (d : A) (hs : List (List ℕ)) (l : List A) (n : ℕ) → n ≡ min (length hs) (length l)
    → object_under hs (map g l) ≡ object_of (flat_map (λ at. key (heading hs at) ∷ g (get_or l at d) ∷ []) (order_to hs n))
whole g d hs l n e =
    ap (λ pairs. object_of (flat_map pair_tokens pairs))
    (in_order hs (λ i. g (get_or l i d)) hs (map g l) 0 n (headings_from hs) (is_from g d l) (let size : length (map g l) ≡ length l = length_map g l in omega arith))
    ∙ ap object_of (flat_map-map pair_tokens (pair_at hs (λ i. g (get_or l i d))) (order_to hs n))
  where
    length_map : {A : Type 0} (g : A → Token) (l : List A) → length (map g l) ≡ length l
    length_map g [] = refl
    length_map g (a ∷ l) = ap suc (length_map g l)

pub row_in_order : (hs : List (List ℕ)) (row : List Value) → length hs ≤ length row
    → row_object hs row ≡ object_of (flat_map (value_under hs row) (order_to hs (length hs)))
row_in_order hs row h = whole value_token Null hs row (length hs) (omega arith)

pub short_row_in_order : (hs : List (List ℕ)) (row : List Value) → length row < length hs
    → row_object hs row ≡ object_of (flat_map (value_under hs row) (order_to hs (length row)))
short_row_in_order hs row h = whole value_token Null hs row (length row) (omega arith)

pub types_in_order : (hs types : List (List ℕ)) (n : ℕ) → n ≡ min (length hs) (length types)
    → object_under hs (map string types) ≡ object_of (flat_map (type_under hs types) (order_to hs n))
types_in_order hs types n h = whole string [] hs types n h

-- a column with an equal heading gives its place
pub equal_spot : (hs : List (List ℕ)) (at : ℕ) (order : List ℕ) (p d : ℕ) → p < length order
    → slice_cmp nat_cmp (heading hs at) (heading hs (get_or order p d)) ≡ Equal → take p order ++ place hs at (drop p order) ≡ set order p at
equal_spot hs at [] p d h e = absurd (omega arith)
equal_spot hs at (other ∷ order) zero d h e = ap (λ c. match_ordering c (at ∷ other ∷ order) (at ∷ order) (other ∷ place hs at order)) e
equal_spot hs at (other ∷ order) (suc p) d h e = ap (λ l. other ∷ l) (equal_spot hs at order p d (omega arith) e)
