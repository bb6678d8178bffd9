-- How long spellings are, and how many fit.
use Rattle.std.proofs.Common.{◌≡◌, ℕ, suc, zero, ◌+◌, ◌-◌, ◌^◌, ◌<◌, ◌≤◌, min, max, Bool, true, false, List, [], ◌∷◌, ◌++◌, length, get_or, drop, refl, sym, ap, ◌∙◌, arith, length-append}
use Rattle.std.specs.Prelude.{nat_le}
use Rattle.std.specs.List.{flat_map}
use Rattle.std.proofs.lemmas.List.{drop_more}
use Rattle.std.proofs.lemmas.Bool.Decides.{nat_tests}
use Rattle.rq_values.specs.Spelling.{u32_bytes, u64_bytes, bool_bytes, sized, list_bytes}
use Rattle.rq_wire.specs.declared.config.Member.{Member}
use Rattle.rq_wire.specs.declared.entry.Entry.{Entry}
use Rattle.rq_wire.specs.Spelling.{member_bytes, entry_bytes}
use Rattle.rq_log.specs.OfWire.{fits, fit}

eight : (n : ℕ) → length (u64_bytes n) ≡ 8
unfolding u64_bytes
eight n = refl

four : (n : ℕ) → length (u32_bytes n) ≡ 4
unfolding u32_bytes
four n = refl

sized_is : (bs : List ℕ) → length (sized bs) ≡ 4 + length bs
sized_is bs = omega (arith, length-append (u32_bytes (length bs)) bs, four (length bs))

yes_is : (b : Bool) → length (bool_bytes b) ≡ 1
yes_is true = refl
yes_is false = refl

member_size : (m : Member) → length (member_bytes m) ≡ 13 + length m.id + length m.http + length m.raft
member_size m = omega (
  arith,
  length-append (sized m.id) (bool_bytes m.voter ++ (sized m.http ++ sized m.raft)),
  length-append (bool_bytes m.voter) (sized m.http ++ sized m.raft),
  length-append (sized m.http) (sized m.raft),
  sized_is m.id,
  sized_is m.http,
  sized_is m.raft,
  yes_is m.voter,
)

pub member_is : (m : Member) (sum : ℕ) → sum ≡ min (min (min (13 + length m.id) (2 ^ 64 - 1) + length m.http) (2 ^ 64 - 1) + length m.raft) (2 ^ 64 - 1) → sum ≡ min (length (member_bytes m)) (2 ^ 64 - 1)
member_is m sum e = let s = member_size m in omega (arith, e, s)

none_left : {A : Type 0} (xs : List A) (k : ℕ) → k ≡ length xs → drop k xs ≡ []
none_left [] zero e = refl
none_left [] (suc k) e = refl
none_left (x ∷ xs) zero e = absurd (omega arith)
none_left (x ∷ xs) (suc k) e = none_left xs k (omega arith)

config_is : (ms : List Member) → min (4 + length (flat_map member_bytes ms)) (2 ^ 64 - 1) ≡ min (length (list_bytes member_bytes ms)) (2 ^ 64 - 1)
config_is ms = omega (arith, length-append (u32_bytes (length ms)) (flat_map member_bytes ms), four (length ms))

pub config_end : (ms : List Member) (k len : ℕ) → k ≡ length ms → len ≤ 2 ^ 64 - 1 → min (len + length (flat_map member_bytes (drop k ms))) (2 ^ 64 - 1) ≡ min (4 + length (flat_map member_bytes ms)) (2 ^ 64 - 1)
    → len ≡ min (length (list_bytes member_bytes ms)) (2 ^ 64 - 1)
config_end ms k len is small e =
    let z : length (flat_map member_bytes (drop k ms)) ≡ 0 = ap (λ (l : List Member). length (flat_map member_bytes l)) (none_left ms k is) in
    omega (arith, config_is ms, e, small, z)

pub config_more : (ms : List Member) (k : ℕ) (m : Member) (len one more : ℕ) → k < length ms → m ≡ get_or ms k m → one ≡ min (length (member_bytes m)) (2 ^ 64 - 1) → more ≡ min (len + one) (2 ^ 64 - 1)
    → min (more + length (flat_map member_bytes (drop (k + 1) ms))) (2 ^ 64 - 1) ≡ min (len + length (flat_map member_bytes (drop k ms))) (2 ^ 64 - 1)
config_more ms k m len one more within is e f =
    let size : length (flat_map member_bytes (drop k ms)) ≡ length (member_bytes m) + length (flat_map member_bytes (drop (k + 1) ms)) =
    ap (λ (l : List Member). length (flat_map member_bytes l)) (drop_more ms k m within ∙ ap (λ (x : Member). x ∷ drop (k + 1) ms) (sym is)) ∙ length-append (member_bytes m) (flat_map member_bytes (drop (k + 1) ms)) in
    omega (arith, size, e, f)

pub plain_is : (term : ℕ) → 9 ≡ min (length (u64_bytes term ++ 0 ∷ [])) (2 ^ 64 - 1)
plain_is term = omega (arith, length-append (u64_bytes term) (0 ∷ []), eight term)

pub of_config : (term len : ℕ) (ms : List Member) → len ≡ min (length (list_bytes member_bytes ms)) (2 ^ 64 - 1) → min (len + 9) (2 ^ 64 - 1) ≡ min (length (u64_bytes term ++ 1 ∷ list_bytes member_bytes ms)) (2 ^ 64 - 1)
of_config term len ms e = omega (arith, e, length-append (u64_bytes term) (1 ∷ list_bytes member_bytes ms), eight term)

pub data_is : (term : ℕ) (bs : List ℕ) → min (13 + length bs) (2 ^ 64 - 1) ≡ min (length (u64_bytes term ++ 2 ∷ sized bs)) (2 ^ 64 - 1)
data_is term bs = omega (arith, length-append (u64_bytes term) (2 ∷ sized bs), eight term, sized_is bs)

-- ---- how many fit

-- one more fits
more_fits : (most room : ℕ) (e : Entry) (es : List Entry) → 0 < most → length (entry_bytes e) ≤ room → fits most room (e ∷ es) ≡ suc (fits (most - 1) (room - length (entry_bytes e)) es)
more_fits zero room e es pos le = absurd (omega arith)
more_fits (suc most) room e es pos le = let t : nat_le (length (entry_bytes e)) room ≡ true = grind (arith, nat_tests) in let z : suc most - 1 ≡ most = omega arith in rw (t, z) refl

pub fits_on : (es : List Entry) (k room len : ℕ) (e : Entry) → k < length es → e ≡ get_or es k e → k < 64 → len ≡ min (length (entry_bytes e)) (2 ^ 64 - 1) → len ≤ room → room ≤ 1048576
    → fits 64 1048576 es ≡ k + fits (64 - k) room (drop k es) → fits 64 1048576 es ≡ k + 1 + fits (64 - (k + 1)) (room - len) (drop (k + 1) es)
fits_on es k room len e within is few size le small before =
    let exact : len ≡ length (entry_bytes e) = omega (arith, size, le, small) in
    let place : drop k es ≡ e ∷ drop (k + 1) es = drop_more es k e within ∙ ap (λ (x : Entry). x ∷ drop (k + 1) es) (sym is) in
    let z : 64 - k - 1 ≡ 64 - (k + 1) = omega arith in
    let here : fits (64 - k) room (drop k es) ≡ suc (fits (64 - (k + 1)) (room - len) (drop (k + 1) es)) =
    ap (fits (64 - k) room) place ∙ (more_fits (64 - k) room e (drop (k + 1) es) (omega arith) (omega (arith, exact, le)) ∙ rw (z, exact) refl) in
    omega (arith, here, before)

-- there are as many as may be
pub full_is : (es : List Entry) (k room : ℕ) → k < length es → k ≡ 64 → fits 64 1048576 es ≡ k + fits (64 - k) room (drop k es) → k ≡ fit es
full_is es k room within full before =
    let z : 64 - k ≡ 0 = omega arith in
    let none : fits (64 - k) room (drop k es) ≡ 0 = ap (λ (m : ℕ). fits m room (drop k es)) z in
    omega (arith, before, none)

none_fits : (most room : ℕ) (e : Entry) (es : List Entry) → room < length (entry_bytes e) → fits most room (e ∷ es) ≡ 0
none_fits zero room e es lt = refl
none_fits (suc most) room e es lt = let t : nat_le (length (entry_bytes e)) room ≡ false = grind (arith, nat_tests) in rw t refl

-- the next one doesn't fit
pub stopped_is : (es : List Entry) (k room len : ℕ) (e : Entry) → k < length es → e ≡ get_or es k e → len ≡ min (length (entry_bytes e)) (2 ^ 64 - 1) → room < len
    → fits 64 1048576 es ≡ k + fits (64 - k) room (drop k es) → (top : ℕ) → top ≡ max k 1 → top ≡ fit es
stopped_is es k room len e within is size lt before top has =
    let place : drop k es ≡ e ∷ drop (k + 1) es = drop_more es k e within ∙ ap (λ (x : Entry). x ∷ drop (k + 1) es) (sym is) in
    let none : fits (64 - k) room (drop k es) ≡ 0 = ap (fits (64 - k) room) place ∙ none_fits (64 - k) room e (drop (k + 1) es) (omega (arith, size, lt)) in
    omega (arith, before, none, has)

pub all_fit : (es : List Entry) (k room : ℕ) → k ≡ length es → fits 64 1048576 es ≡ k + fits (64 - k) room (drop k es) → length es ≡ fit es
all_fit es k room is before = let none : fits (64 - k) room (drop k es) ≡ 0 = ap (fits (64 - k) room) (none_left es k is) ∙ empty (64 - k) room in omega (arith, before, none, is)
  where
    empty : (most room : ℕ) → fits most room [] ≡ 0
    empty zero room = refl
    empty (suc most) room = refl
