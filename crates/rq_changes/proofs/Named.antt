-- Names of columns, one after the other.
use Rattle.std.proofs.Common.{◌≡◌, ◌<◌, ℕ, ◌+◌, Bool, List, [], ◌∷◌, ◌++◌, length, get_or, take, drop, Option, Some, None, Ok, refl, sym, ap, ◌∙◌}
use Rattle.std.specs.Prelude.{◌==◌}
use Rattle.std.specs.List.{list_any, cons_option}
use Rattle.std.specs.Option.{option_to_list}
use Rattle.std.proofs.lemmas.List.{drop_more, take_more}
use Rattle.std.proofs.lemmas.List.Elements.{filter_map-append}
use Rattle.rq_eval.specs.declared.error.StmtError.TheVariants as error
use Rattle.rq_eval.specs.Outcome.{Outcome}
use Rattle.rq_results.specs.Checks.{Check, first}
use Rattle.rq_select.specs.Select.{unless}
use Rattle.rq_meaning.specs.Database.{Table}
use Rattle.rq_meaning.specs.Rows.{if_so}
use Rattle.rq_meaning.specs.Checks.{place_of, places_of, named_check, name_checks}
use Rattle.rq_changes.specs.Stepping.{place_pushed}
use Rattle.rq_changes.proofs.Steps.{unless_ok}

-- a name that names a column
pub pushed_at : (t : Table) (places : List ℕ) (n : List ℕ) (i : ℕ) (b : Bool) → place_of t n ≡ Some i → list_any (λ j. j == i) places ≡ b → place_pushed t places n ≡ unless (if_so b (error.DuplicateColumn n)) (Ok (places ++ i ∷ []))
pushed_at t places n i b at is =
    ap (λ o. unless (named_check t places n o) (Ok (places ++ option_to_list o))) at
    ∙ ap (λ q. unless (if_so q (error.DuplicateColumn n)) (Ok (places ++ i ∷ []))) is

pushed_ok : (t : Table) (places new : List ℕ) (n : List ℕ) → place_pushed t places n ≡ Ok new → (named_check t places n (place_of t n) ≡ None) × (new ≡ places ++ option_to_list (place_of t n))
pushed_ok t places new n h =
    let is = unless_ok (named_check t places n (place_of t n)) (Ok (places ++ option_to_list (place_of t n))) new h in
    (is.0, same is.1)
  where
    same : ◌≡◌ {A = Outcome (List ℕ)} (Ok (places ++ option_to_list (place_of t n))) (Ok new) → new ≡ places ++ option_to_list (place_of t n)
    same q = cc

one_place : (t : Table) (n : List ℕ) → option_to_list (place_of t n) ≡ places_of t (n ∷ [])
one_place t n = by (place_of t n)
  where
    by : (o : Option ℕ) → option_to_list o ≡ cons_option o []
    by None = refl
    by (Some i) = refl

-- the places of one name more
pub pushed_more : (t : Table) (ns : List (List ℕ)) (n : List ℕ) (places new : List ℕ) → places ≡ places_of t ns → place_pushed t places n ≡ Ok new → new ≡ places_of t (ns ++ n ∷ [])
pushed_more t ns n places new at g =
    (pushed_ok t places new n g).1
    ∙ ap (λ ps. ps ++ option_to_list (place_of t n)) at
    ∙ ap (λ ps. places_of t ns ++ ps) (one_place t n)
    ∙ sym (filter_map-append (place_of t) ns (n ∷ []))

pub places_more : (t : Table) (ns : List (List ℕ)) (i : ℕ) (n : List ℕ) (places new : List ℕ) → i < length ns → n ≡ get_or ns i n → places ≡ places_of t (take i ns) → place_pushed t places n ≡ Ok new → new ≡ places_of t (take (i + 1) ns)
places_more t ns i n places new h is at g =
    pushed_more t (take i ns) n places new at g
    ∙ ap (places_of t) (ap (λ m. take i ns ++ m ∷ []) is ∙ sym (take_more ns i n h))

pub named_clear : (t : Table) (ns : List (List ℕ)) (i : ℕ) (n : List ℕ) (places new : List ℕ) → places ≡ places_of t (take i ns) → place_pushed t places n ≡ Ok new → named_check t (places_of t (take i ns)) n (place_of t n) ≡ None
named_clear t ns i n places new at g = ap (λ ps. named_check t ps n (place_of t n)) (sym at) ∙ (pushed_ok t places new n g).0

-- its check is clear
pub names_more : (t : Table) (ns : List (List ℕ)) (i : ℕ) (n : List ℕ) (places new : List ℕ) → i < length ns → n ≡ get_or ns i n → places ≡ places_of t (take i ns) → place_pushed t places n ≡ Ok new → first (name_checks t (take i ns) (drop i ns)) ≡ first (name_checks t (take (i + 1) ns) (drop (i + 1) ns))
names_more t ns i n places new h is at g =
    ap (λ ms. first (name_checks t (take i ns) ms)) (drop_more ns i n h ∙ ap (λ m. m ∷ drop (i + 1) ns) (sym is))
    ∙ after (named_check t (places_of t (take i ns)) n (place_of t n)) (name_checks t (take i ns ++ n ∷ []) (drop (i + 1) ns)) (named_clear t ns i n places new at g)
    ∙ ap (λ ms. first (name_checks t ms (drop (i + 1) ns))) (ap (λ m. take i ns ++ m ∷ []) is ∙ sym (take_more ns i n h))
  where
    after : (c : Check) (cs : List Check) → c ≡ None → first (c ∷ cs) ≡ first cs
    after None cs q = refl
    after (Some e) cs q = absurd (cc)
