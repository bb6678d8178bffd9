-- The ids of a configuration rise.
use Rattle.std.proofs.Common.{◌≡◌, ℕ, zero, suc, ◌+◌, ◌-◌, ◌<◌, ◌≤◌, Bool, true, false, ◌&&◌, cond, List, [], ◌∷◌, ◌++◌, length, take, drop, get_or, Option, Some, None, Result, Ok, Err, refl, sym, ap, ◌∙◌, subst, drop-cons, add-one, length-append, arith}
use Rattle.std.specs.List.{slice_get}
use Rattle.std.proofs.Math.Seq.{take-suc}
use Rattle.std.proofs.lemmas.List.{drop_all}
use Rattle.rq_values.specs.declared.error.DecodeError.{DecodeError}
use Rattle.rq_values.specs.declared.error.DecodeError.TheVariants.{Order}
use Rattle.rq_values.specs.Reading.{◌>>=◌, bool_at, id_at, addr_at, rising_at, rising_list_at, u32_at, last_of}
use Rattle.rq_values.proofs.Local.{bind_ok, guard_ok, ok_is}
use Rattle.rq_wire.specs.declared.config.Member.{Member}
use Rattle.rq_wire.specs.Config.{comes_after, rise_behind, ids_rise}
use Rattle.rq_wire.specs.Reading.{id_after, member_rest, member_after, config_at}

-- ---- a list that is looked at

at_end : {A : Type 0} (prefix : List A) (x : A) → slice_get (prefix ++ x ∷ []) (length prefix) ≡ Some x
at_end [] x = refl
at_end (y ∷ prefix) x = at_end prefix x

last_push : {A : Type 0} (prefix : List A) (x : A) → last_of (prefix ++ x ∷ []) ≡ Some x
last_push prefix x =
    let place : length (prefix ++ x ∷ []) - 1 ≡ length prefix = omega (arith, length-append prefix (x ∷ [])) in
    ap (slice_get (prefix ++ x ∷ [])) place ∙ at_end prefix x

-- what is left to look at, from a place on
abbrev pub left_from : ℕ → List Member → Bool
left_from i members = rise_behind (last_of (take i members)) (drop i members)

pub begins : (members : List Member) → ids_rise members ≡ left_from 0 members
unfolding ids_rise
begins members = refl

by_one : (members : List Member) (i : ℕ) (member : Member) → i < length members → member ≡ get_or members i member
    → left_from i members ≡ (comes_after (last_of (take i members)) member.id && left_from (suc i) members)
by_one members i member lt is =
    let here : drop i members ≡ member ∷ drop (suc i) members = drop-cons members i member lt ∙ ap (λ (m : Member). m ∷ drop (suc i) members) (sym is) in
    let seen : take (suc i) members ≡ take i members ++ member ∷ [] = take-suc members i member lt ∙ ap (λ (m : Member). take i members ++ m ∷ []) (sym is) in
    ap (rise_behind (last_of (take i members))) here
    ∙ ap (λ last. comes_after (last_of (take i members)) member.id && rise_behind last (drop (suc i) members)) (sym (ap last_of seen ∙ last_push (take i members) member))

pub goes_on : (members : List Member) (i : ℕ) (member : Member) → i < length members → member ≡ get_or members i member
    → left_from i members ≡ (comes_after (last_of (take i members)) member.id && left_from (i + 1) members)
goes_on members i member lt is = by_one members i member lt is ∙ ap (λ (j : ℕ). comes_after (last_of (take i members)) member.id && left_from j members) (sym (add-one i))

pub ends : (members : List Member) (i : ℕ) → length members ≤ i → left_from i members ≡ true
ends members i le = ap (rise_behind (last_of (take i members))) (drop_all i members le)

-- the next id doesn't come after the one before it
pub falls : (members : List Member) (i : ℕ) (member : Member) → i < length members → member ≡ get_or members i member → comes_after (last_of (take i members)) member.id ≡ false → left_from i members ≡ false
falls members i member lt is test = goes_on members i member lt is ∙ ap (λ b. b && left_from (i + 1) members) test

pub rises_on : (members : List Member) (i : ℕ) (member : Member) → i < length members → member ≡ get_or members i member → comes_after (last_of (take i members)) member.id ≡ true → left_from i members ≡ left_from (i + 1) members
rises_on members i member lt is test = goes_on members i member lt is ∙ ap (λ b. b && left_from (i + 1) members) test

-- ---- a list that is read

behind_one : (limit : ℕ) (last : Option Member) (bytes : List ℕ) (x : List ℕ × List ℕ) → id_after limit last bytes ≡ Ok x → comes_after last x.0 ≡ true
unfolding id_after
behind_one limit last bytes x h =
    let found = bind_ok (id_at limit bytes) (λ y. cond {A = Result (List ℕ × List ℕ) DecodeError} (comes_after last y.0) (Ok y) (Err (Order (length bytes)))) x h in
    let passed = guard_ok (comes_after last found.0.0) found.0 x (Order (length bytes)) found.2 in
    ap (λ z. comes_after last z.0) (sym passed.1) ∙ passed.0

of_id : (limit : ℕ) (id bytes : List ℕ) (member : Member) (rest : List ℕ) → member_rest limit id bytes ≡ Ok (member, rest) → member.id ≡ id
unfolding member_rest
of_id limit id bytes member rest h =
    let with_raft = λ (voter : Bool) (http : List ℕ) (bytes : List ℕ). addr_at limit bytes >>= λ raft. Ok (record { id = id; voter = voter; http = http; raft = raft.0 }, raft.1) in
    let voter = bind_ok (bool_at bytes) (λ voter. addr_at limit voter.1 >>= λ http. with_raft voter.0 http.0 http.1) (member, rest) h in
    let http = bind_ok (addr_at limit voter.0.1) (λ http. with_raft voter.0.0 http.0 http.1) (member, rest) voter.2 in
    let raft = bind_ok (addr_at limit http.0.1) (λ raft. Ok (record { id = id; voter = voter.0.0; http = http.0.0; raft = raft.0 }, raft.1)) (member, rest) http.2 in
    let made = ok_is (record { id = id; voter = voter.0.0; http = http.0.0; raft = raft.0.0 }, raft.0.1) (member, rest) (Ok (record { id = id; voter = voter.0.0; http = http.0.0; raft = raft.0.0 }, raft.0.1)) refl raft.2 in
    sym (ap (λ x. x.0.id) made)

one_rises : (limit : ℕ) (last : Option Member) (bytes : List ℕ) (member : Member) (rest : List ℕ) → member_after limit last bytes ≡ Ok (member, rest) → comes_after last member.id ≡ true
unfolding member_after
one_rises limit last bytes member rest h =
    let found = bind_ok (id_after limit last bytes) (λ id. member_rest limit id.0 id.1) (member, rest) h in
    ap (comes_after last) (of_id limit found.0.0 found.0.1 member rest found.2) ∙ behind_one limit last bytes found.0 found.1

both : (a b : Bool) → a ≡ true → b ≡ true → (a && b) ≡ true
both a b p q = cc

all_rise : (limit n : ℕ) (last : Option Member) (bytes : List ℕ) (members : List Member) (rest : List ℕ) → rising_at (member_after limit) n last bytes ≡ Ok (members, rest) → rise_behind last members ≡ true
unfolding rising_at
all_rise limit zero last bytes members rest h = sym (ap (λ x. rise_behind last x.0) (ok_is ([], bytes) (members, rest) (Ok ([], bytes)) refl h))
all_rise limit (suc n) last bytes members rest h =
    let first = bind_ok (member_after limit last bytes) (λ first. rising_at (member_after limit) n (Some first.0) first.1 >>= λ others. Ok (first.0 ∷ others.0, others.1)) (members, rest) h in
    let others = bind_ok (rising_at (member_after limit) n (Some first.0.0) first.0.1) (λ others. Ok (first.0.0 ∷ others.0, others.1)) (members, rest) first.2 in
    let made = ok_is (first.0.0 ∷ others.0.0, others.0.1) (members, rest) (Ok (first.0.0 ∷ others.0.0, others.0.1)) refl others.2 in
    sym (ap (λ x. rise_behind last x.0) made)
    ∙ both (comes_after last first.0.0.id) (rise_behind (Some first.0.0) others.0.0) (one_rises limit last bytes first.0.0 first.0.1 first.1) (all_rise limit n (Some first.0.0) first.0.1 others.0.0 others.0.1 others.1)

pub read_rises : (limit : ℕ) (bytes : List ℕ) (members : List Member) (rest : List ℕ) → rising_list_at (member_after limit) bytes ≡ Ok (members, rest) → ids_rise members ≡ true
unfolding rising_list_at ids_rise
read_rises limit bytes members rest h =
    let count = bind_ok (u32_at bytes) (λ count. rising_at (member_after limit) count.0 None count.1) (members, rest) h in
    all_rise limit count.0.0 None count.0.1 members rest count.2
