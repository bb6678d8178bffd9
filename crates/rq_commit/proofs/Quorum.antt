-- The greatest index that a quorum holds.
use Rattle.std.proofs.Common.{◌≡◌, ◌≢◌, ◌⊎◌, ⊎_elim, ℕ, suc, zero, ◌+◌, ◌-◌, ◌*◌, ◌<◌, ◌≤◌, ◌&&◌, max, Bool, true, false, cond, if◌then◌else◌, nat_lt, List, [], ◌∷◌, length, refl, subst, arith}
use Rattle.std.specs.Prelude.{◌==◌, nat_le, bytes_eq, fold, count_by}
use Rattle.std.proofs.lemmas.Bool.Decides.{nat_tests}
use Rattle.rq_history.specs.History.{NodeId, term_at}
use Rattle.rq_history.specs.Configurations.{greatest}
use Rattle.rq_raft.specs.declared.peer.Peer.{Peer}
use Rattle.rq_raft.specs.Entries.{Entries, entry_view}
use Rattle.rq_raft.specs.Node.{has_peer}
use Rattle.rq_raft.specs.Lead.{is_quorum}
use Rattle.rq_log.specs.Tally.{holds_in, lower_of, lower_match}
use Rattle.rq_commit.specs.Commit.{may_commit_in}
use Rattle.rq_commit.proofs.Choices.{if_case}

eq_is : (a b : ℕ) → a ≡ b → (a == b) ≡ true
eq_is a b e = grind (arith, nat_tests)

-- the greatest stays between its bounds
pub greatest_within : (test : ℕ → Bool) (low room : ℕ) → (low ≤ greatest test low room) × (greatest test low room ≤ low + room)
greatest_within test low zero = (omega arith, omega arith)
greatest_within test low (suc room) = if_case (λ (g : ℕ). (low ≤ g) × (g ≤ low + suc room)) (test (low + suc room)) (low + suc room) (greatest test low room)
    (λ e. (omega arith, omega arith))
    (λ e. (omega (arith, greatest_within test low room), omega (arith, greatest_within test low room)))

-- the indices above b that don't pass may be left out
pub greatest_skip : (test : ℕ → Bool) (low a b : ℕ) → b ≤ a → ((i : ℕ) → low + b < i → i ≤ low + a → test i ≡ false) → greatest test low a ≡ greatest test low b
greatest_skip test low zero b le fails = let e : b ≡ zero = omega arith in rw e refl
greatest_skip test low (suc a) b le fails =
    ⊎_elim (λ (e : b ≡ suc a). rw e refl) (λ (h : b ≤ a). rw (fails (low + suc a) (omega arith) (omega arith)) (greatest_skip test low a b h (λ i above below. fails i above (omega arith)))) (equal_or_below b a le)
  where
    equal_or_below : (b a : ℕ) → b ≤ suc a → (b ≡ suc a) ⊎ (b ≤ a)
    equal_or_below b a h = grind arith

lower_ge : (index best : ℕ) (ps : List Peer) → best ≤ fold (lower_of index) best ps
lower_ge index best [] = omega arith
lower_ge index best (p ∷ ps) = if_case (λ (b : ℕ). best ≤ fold (lower_of index) b ps) (nat_lt p.matched index) (max best p.matched) best
    (λ e. omega (arith, lower_ge index (max best p.matched) ps)) (λ e. lower_ge index best ps)

lower_less : (index best : ℕ) (ps : List Peer) → best < index → fold (lower_of index) best ps < index
lower_less index best [] h = h
lower_less index best (p ∷ ps) h = if_case (λ (b : ℕ). fold (lower_of index) b ps < index) (nat_lt p.matched index) (max best p.matched) best
    (λ e. lower_less index (max best p.matched) ps (grind (arith, nat_tests))) (λ e. lower_less index best ps h)

-- each match below the index is at most low
abbrev pub EachLow : ℕ → ℕ → List Peer → Type 0
EachLow index low [] = Unit {0}
EachLow index low (p ∷ ps) = (p.matched < index → p.matched ≤ low) × EachLow index low ps

lower_all : (index best : ℕ) (ps : List Peer) (low : ℕ) → fold (lower_of index) best ps ≤ low → EachLow index low ps
lower_all index best [] low h = tt
lower_all index best (p ∷ ps) low h = (λ under. lemma index best (p.matched) (fold (lower_of index) (lower_of index best p) ps) low under (lower_ge index (lower_of index best p) ps) h, lower_all index (lower_of index best p) ps low h)
  where
    lemma : (index best m all low : ℕ) → m < index → (if nat_lt m index then max best m else best) ≤ all → all ≤ low → m ≤ low
    lemma index best m all low under ge h = grind (arith, nat_tests)

pub lower_match_less : (index : ℕ) (ps : List Peer) → 0 < index → lower_match index ps < index
lower_match_less index ps h = lower_less index 0 ps h

step : (b c d r s : Bool) → (c ≡ true → d ≡ true) → (r ≡ true → s ≡ true) → cond (b && c) true r ≡ true → cond (b && d) true s ≡ true
step true true d r s f g h = rw (f refl) refl
step true false true r s f g h = refl
step true false false r s f g h = g h
step false c d r s f g h = g h

match_le : (k index low m : ℕ) → low < k → (m < index → m ≤ low) → nat_le k m ≡ true → nat_le index m ≡ true
match_le k index low m above all h = grind (arith, nat_tests)

-- a peer that has the log up to k, above the next lower match, has it up to the index
has_more : (k index low : ℕ) (ps : List Peer) (v : NodeId) → low < k → EachLow index low ps → has_peer (λ (p : Peer). nat_le k p.matched) ps v ≡ true → has_peer (λ (p : Peer). nat_le index p.matched) ps v ≡ true
has_more k index low [] v above all h = h
has_more k index low (p ∷ ps) v above all h = step (bytes_eq p.id v) (nat_le k p.matched) (nat_le index p.matched) (has_peer (λ (p : Peer). nat_le k p.matched) ps v) (has_peer (λ (p : Peer). nat_le index p.matched) ps v)
    (λ t. match_le k index low p.matched above all.0 t) (λ t. has_more k index low ps v above all.1 t) h

own_or : (b r s : Bool) → (r ≡ true → s ≡ true) → cond b true r ≡ true → cond b true s ≡ true
own_or true r s f h = refl
own_or false r s f h = f h

one_le : (b c : Bool) → (b ≡ true → c ≡ true) → cond b 1 0 ≤ cond c 1 0
one_le true c f = rw (f refl) (omega arith)
one_le false c f = omega arith

count_le : (f g : NodeId → Bool) (a b : ℕ) (vs : List NodeId) → ((v : NodeId) → f v ≡ true → g v ≡ true) → a ≤ b → fold (λ n v. n + cond (f v) 1 0) a vs ≤ fold (λ n v. n + cond (g v) 1 0) b vs
count_le f g a b [] all le = le
count_le f g a b (v ∷ vs) all le = count_le f g (a + cond (f v) 1 0) (b + cond (g v) 1 0) vs all (omega (arith, le, one_le (f v) (g v) (all v)))

less_quorum : (n a b : ℕ) → a ≤ b → nat_lt n (2 * b) ≡ false → nat_lt n (2 * a) ≡ false
less_quorum n a b le h = grind (arith, nat_tests)

-- between the next lower match and an index nothing is held by more
unheld_between : (ps : List Peer) (own : NodeId) (vs : List NodeId) (index k : ℕ) → lower_match index ps < k → is_quorum vs (holds_in ps own index) ≡ false → is_quorum vs (holds_in ps own k) ≡ false
unheld_between ps own vs index k above few = less_quorum (length vs) (count_by (holds_in ps own k) vs) (count_by (holds_in ps own index) vs)
    (count_le (holds_in ps own k) (holds_in ps own index) 0 0 vs
    (λ v h. own_or (bytes_eq v own) (has_peer (λ (p : Peer). nat_le k p.matched) ps v) (has_peer (λ (p : Peer). nat_le index p.matched) ps v)
    (λ t. has_more k index (lower_match index ps) ps v above (lower_all index 0 ps (lower_match index ps) (omega arith)) t) h)
    (omega arith))
    few

and_none : (b c : Bool) → c ≡ false → (b && c) ≡ false
and_none true c e = e
and_none false c e = refl

other : (a b : ℕ) (c : Bool) → a ≢ b → ((a == b) && c) ≡ false
other a b c differ = let e : (a == b) ≡ false = grind (arith, nat_tests) in rw e refl

both : (a b : Bool) → a ≡ true → b ≡ true → (a && b) ≡ true
both a b e f = rw (e, f) refl

module _ {E : Type 0} (entries : Entries E) (log : List E) (vs : List NodeId) (ps : List Peer) (own : NodeId) (term : ℕ) where
  abbrev May : ℕ → Bool
  May = may_commit_in entries log vs ps own term

  pub skip_unheld : (low index next : ℕ) → low ≤ next → next ≤ index → lower_match index ps ≤ next → is_quorum vs (holds_in ps own index) ≡ false
      → greatest (may_commit_in entries log vs ps own term) low (index - low) ≡ greatest (may_commit_in entries log vs ps own term) low (next - low)
  skip_unheld low index next from upto lower few = greatest_skip May low (index - low) (next - low) (omega arith)
      (λ i above below. and_none (term_at (entry_view entries) log i == term) (is_quorum vs (holds_in ps own i)) (unheld_between ps own vs index i (omega arith) few))

  pub skip_other_term : (low index : ℕ) → low < index → term_at (entry_view entries) log index ≢ term
      → greatest (may_commit_in entries log vs ps own term) low (index - low) ≡ greatest (may_commit_in entries log vs ps own term) low (index - 1 - low)
  skip_other_term low index from differ = greatest_skip May low (index - low) (index - 1 - low) (omega arith)
      (λ i above below. let same : i ≡ index = omega arith in rw same (other (term_at (entry_view entries) log index) term (is_quorum vs (holds_in ps own index)) differ))

  -- an index that passes is the greatest
  pub passes_here : (low index : ℕ) → low < index → term_at (entry_view entries) log index ≡ term → is_quorum vs (holds_in ps own index) ≡ true
      → greatest (may_commit_in entries log vs ps own term) low (index - low) ≡ index
  passes_here low index from same held = here (index - low) refl
    where
      passes : may_commit_in entries log vs ps own term index ≡ true
      passes = both (term_at (entry_view entries) log index == term) (is_quorum vs (holds_in ps own index)) (eq_is (term_at (entry_view entries) log index) term same) held

      here : (room : ℕ) → room ≡ index - low → greatest (may_commit_in entries log vs ps own term) low room ≡ index
      here zero is = absurd (omega (arith, from, is))
      here (suc less) is = let at : low + suc less ≡ index = omega (arith, from, is) in
          if_case (λ (g : ℕ). g ≡ index) (may_commit_in entries log vs ps own term (low + suc less)) (low + suc less) (greatest (may_commit_in entries log vs ps own term) low less)
          (λ e. at) (λ e. absurd (let f : may_commit_in entries log vs ps own term index ≡ false = subst (λ (k : ℕ). may_commit_in entries log vs ps own term k ≡ false) at e in cc (passes, f)))
