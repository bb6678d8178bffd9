-- The rules are the same for entries of another type: a trial of what a core over the bytes of entries would owe.
use Rattle.std.proofs.Common.{◌≡◌, ℕ, suc, zero, ◌+◌, ◌-◌, List, [], ◌∷◌, ◌++◌, length, take, drop, Option, Some, None, refl, ap, ◌∙◌}
use Rattle.std.specs.Prelude.{slice_get, map}
use Rattle.std.specs.Option.{option_map}
use Rattle.rq_history.specs.History.{term_or_zero, term_at}
use Rattle.rq_raft.specs.Entries.{Entries, entry_view}
use Rattle.rq_raft.specs.Node.{RaftNode}
use Rattle.rq_raft.specs.Append.{matching_count, corrected_entries, spliced, has_prev}

module _ {E F : Type 0} (f : E → F) where
  mapped : RaftNode E → RaftNode F
  mapped n = record {
    id = n.id;
    term = n.term;
    vote = n.vote;
    log = map f n.log;
    base = n.base;
    commit = n.commit;
    applied = n.applied;
    role = n.role;
    leader = n.leader;
    contact = n.contact;
    votes = n.votes;
    first_index = n.first_index;
    probe = n.probe;
    peers = n.peers;
  }

  map_take : (n : ℕ) (xs : List E) → take n (map f xs) ≡ map f (take n xs)
  map_take zero xs = refl
  map_take (suc n) [] = refl
  map_take (suc n) (x ∷ xs) = ap (λ (l : List F). f x ∷ l) (map_take n xs)

  map_drop : (n : ℕ) (xs : List E) → drop n (map f xs) ≡ map f (drop n xs)
  map_drop zero xs = refl
  map_drop (suc n) [] = refl
  map_drop (suc n) (x ∷ xs) = map_drop n xs

  map_both : (xs ys : List E) → map f xs ++ map f ys ≡ map f (xs ++ ys)
  map_both [] ys = refl
  map_both (x ∷ xs) ys = ap (λ (l : List F). f x ∷ l) (map_both xs ys)

  map_length : (xs : List E) → length (map f xs) ≡ length xs
  map_length [] = refl
  map_length (x ∷ xs) = ap suc (map_length xs)

  map_get : (xs : List E) (k : ℕ) → slice_get (map f xs) k ≡ option_map f (slice_get xs k)
  map_get [] k = refl
  map_get (x ∷ xs) zero = refl
  map_get (x ∷ xs) (suc k) = map_get xs k

  module _ (a : Entries E) (b : Entries F) (terms : (e : E) → b.term_of (f e) ≡ a.term_of e) where
    map_term : (log : List E) (k : ℕ) → term_at (entry_view b) (map f log) k ≡ term_at (entry_view a) log k
    map_term log zero = refl
    map_term log (suc k) = ap (term_or_zero (entry_view b)) (map_get log k) ∙ at (slice_get log k)
      where
        at : (o : Option E) → term_or_zero (entry_view b) (option_map f o) ≡ term_or_zero (entry_view a) o
        at None = refl
        at (Some e) = terms e

    map_already : (log : List E) (at : ℕ) (es : List E) → matching_count b (map f log) at (map f es) ≡ matching_count a log at es
    map_already log at [] = refl
    map_already log at (e ∷ es) = rw (map_length log, map_term log (at + 1), terms e, map_already log (at + 1) es) refl

    map_mended : (n : RaftNode E) (prev : ℕ) (es : List E) → corrected_entries b (mapped n) prev (map f es) ≡ map f (corrected_entries a n prev es)
    unfolding mapped
    map_mended n prev es = rw (map_length es, map_drop prev n.log, map_take (n.commit - prev) (drop prev n.log), map_take (length es) (take (n.commit - prev) (drop prev n.log)), map_drop (n.commit - prev) es, map_both (take (length es) (take (n.commit - prev) (drop prev n.log))) (drop (n.commit - prev) es)) refl

    map_prev : (n : RaftNode E) (prev t : ℕ) → has_prev b (mapped n) prev t ≡ has_prev a n prev t
    unfolding mapped
    map_prev n prev t = rw (map_length n.log, map_term n.log prev) refl

    map_spliced : (n : RaftNode E) (prev commit : ℕ) (es : List E) (k : ℕ) → (spliced b (mapped n) prev commit (map f es) k).node ≡ mapped (spliced a n prev commit es k).node
    unfolding mapped
    map_spliced n prev commit es k = rw (map_length es, map_take (prev + k) n.log, map_drop k es, map_both (take (prev + k) n.log) (drop k es)) refl
