-- Steps of the loops over ids, members and peers, and counts.
use Rattle.std.proofs.Common.{◌≡◌, ℕ, ◌+◌, ◌<◌, Bool, true, false, cond, List, [], ◌∷◌, length, get_or, drop, refl, sym, ap, ◌∙◌, arith}
use Rattle.std.specs.Prelude.{◌&&◌, ◌*◌, ◌/◌, nat_lt, if◌then◌else◌, bytes_eq, count_by, fold}
use Rattle.std.proofs.lemmas.List.{drop_more}
use Rattle.std.proofs.lemmas.Bool.Decides.{nat_tests}
use Rattle.rq_wire.specs.declared.config.Member.{Member}
use Rattle.rq_history.specs.History.{NodeId}
use Rattle.rq_raft.specs.declared.peer.Peer.{Peer}
use Rattle.rq_raft.specs.Entries.{voters}
use Rattle.rq_raft.specs.Node.{one_of, has_peer}

pub one_yes : (ids : List NodeId) (k : ℕ) (j i : NodeId) → k < length ids → j ≡ get_or ids k j → bytes_eq i j ≡ true → one_of (drop k ids) i ≡ true
one_yes ids k j i within is same = rw (drop_more ids k j within, sym is, same) refl

pub one_no : (ids : List NodeId) (k : ℕ) (j i : NodeId) → k < length ids → j ≡ get_or ids k j → bytes_eq i j ≡ false → one_of (drop k ids) i ≡ one_of (drop (k + 1) ids) i
one_no ids k j i within is other = rw (drop_more ids k j within, sym is, other) refl

pub peer_yes : (test : Peer → Bool) (ps : List Peer) (k : ℕ) (p : Peer) (i : NodeId) → k < length ps → p ≡ get_or ps k p → (bytes_eq p.id i && test p) ≡ true → has_peer test (drop k ps) i ≡ true
peer_yes test ps k p i within is same = rw (drop_more ps k p within, sym is, same) refl

pub peer_no : (test : Peer → Bool) (ps : List Peer) (k : ℕ) (p : Peer) (i : NodeId) → k < length ps → p ≡ get_or ps k p → (bytes_eq p.id i && test p) ≡ false → has_peer test (drop k ps) i ≡ has_peer test (drop (k + 1) ps) i
peer_no test ps k p i within is other = rw (drop_more ps k p within, sym is, other) refl

voter_one : (m : Member) (ms : List Member) (i : NodeId) → one_of (voters (m ∷ ms)) i ≡ (if m.voter && bytes_eq i m.id then true else one_of (voters ms) i)
voter_one m ms i = by_flag m.voter refl
  where
    by_flag : (b : Bool) → m.voter ≡ b → one_of (voters (m ∷ ms)) i ≡ (if m.voter && bytes_eq i m.id then true else one_of (voters ms) i)
    by_flag true e = rw e refl
    by_flag false e = rw e refl

voter_at : (ms : List Member) (k : ℕ) (m : Member) (i : NodeId) → k < length ms → m ≡ get_or ms k m → one_of (voters (drop k ms)) i ≡ one_of (voters (m ∷ drop (k + 1) ms)) i
voter_at ms k m i within is = ap (λ (l : List Member). one_of (voters l) i) (drop_more ms k m within ∙ ap (λ (x : Member). x ∷ drop (k + 1) ms) (sym is))

pub voter_yes : (ms : List Member) (k : ℕ) (m : Member) (i : NodeId) → k < length ms → m ≡ get_or ms k m → (m.voter && bytes_eq i m.id) ≡ true → one_of (voters (drop k ms)) i ≡ true
voter_yes ms k m i within is same = voter_at ms k m i within is ∙ (voter_one m (drop (k + 1) ms) i ∙ ap (λ (b : Bool). cond b true (one_of (voters (drop (k + 1) ms)) i)) same)

pub voter_no : (ms : List Member) (k : ℕ) (m : Member) (i : NodeId) → k < length ms → m ≡ get_or ms k m → (m.voter && bytes_eq i m.id) ≡ false → one_of (voters (drop k ms)) i ≡ one_of (voters (drop (k + 1) ms)) i
voter_no ms k m i within is other = voter_at ms k m i within is ∙ (voter_one m (drop (k + 1) ms) i ∙ ap (λ (b : Bool). cond b true (one_of (voters (drop (k + 1) ms)) i)) other)

counting : (f : NodeId → Bool) (n : ℕ) (ms : List Member) → fold (λ n v. n + cond (f v) 1 0) n (voters ms) ≡ fold (λ n m. n + cond (m.voter && f m.id) 1 0) n ms
counting f n [] = refl
counting f n (m ∷ ms) = by_flag m.voter refl (λ k. counting f k ms)
  where
    by_flag : (b : Bool) → m.voter ≡ b → ((k : ℕ) → fold (λ n v. n + cond (f v) 1 0) k (voters ms) ≡ fold (λ n m. n + cond (m.voter && f m.id) 1 0) k ms)
        → fold (λ n v. n + cond (f v) 1 0) n (voters (m ∷ ms)) ≡ fold (λ n m. n + cond (m.voter && f m.id) 1 0) n (m ∷ ms)
    by_flag true e more = rw e (more (n + cond (f m.id) 1 0))
    by_flag false e more = let z : n ≡ n + 0 = omega arith in rw e (more n ∙ ap (λ (k : ℕ). fold (λ n m. n + cond (m.voter && f m.id) 1 0) k ms) z)

pub count_passing : (f : NodeId → Bool) (ms : List Member) → count_by f (voters ms) ≡ count_by (λ (m : Member). m.voter && f m.id) ms
count_passing f ms = counting f 0 ms

pub count_voters : (ms : List Member) → length (voters ms) ≡ count_by (λ (m : Member). m.voter) ms
count_voters ms = let z : length (voters ms) ≡ 0 + length (voters ms) = omega arith in z ∙ from 0 ms
  where
    from : (n : ℕ) (ms : List Member) → n + length (voters ms) ≡ fold (λ n m. n + cond m.voter 1 0) n ms
    from n [] = omega arith
    from n (m ∷ ms) = by_flag m.voter refl (λ k. from k ms)
      where
        by_flag : (b : Bool) → m.voter ≡ b → ((k : ℕ) → k + length (voters ms) ≡ fold (λ n m. n + cond m.voter 1 0) k ms) → n + length (voters (m ∷ ms)) ≡ fold (λ n m. n + cond m.voter 1 0) n (m ∷ ms)
        by_flag true e more = rw e (let z = more (n + 1) in omega arith)
        by_flag false e more = rw e (let z = more (n + 0) in omega arith)

-- more than half of them
pub half : (n held : ℕ) → nat_lt n (2 * held) ≡ nat_lt (n / 2) held
half n held = grind (arith, nat_tests)
