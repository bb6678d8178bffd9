-- A file at rest.
use Rattle.std.proofs.Common.{◌≡◌, ℕ, List, [], ◌∷◌, ◌++◌, length, take, sym, ◌∙◌, ap, subst, arith, length-append}
use Rattle.std.proofs.lemmas.List.{take_at}
use Rattle.rq_outside.specs.Disk.{DiskMeaning, Only, Stays}
use Rattle.rq_wal.specs.Gate.{EndsIn, IsAtRest}

pub stays_at_rest : (old new : DiskMeaning) (place : ℕ) → Stays old new → IsAtRest old place → IsAtRest new place
stays_at_rest old new place same rest = record {
  within = omega (arith, ap length same.content, rest.within);
  ends = subst (λ (f : List ℕ). EndsIn (take place f) f) (sym same.content) rest.ends;
  durable = λ c now. rest.durable c (same.no_more c now) ∙ sym same.content;
}

-- a file that ends in its closed gate
pub ends_at_rest : (disk : DiskMeaning) (prefix : List ℕ) (place : ℕ) → disk.content ≡ prefix ++ 0 ∷ [] → Only disk.content disk.images → place ≡ length prefix → IsAtRest disk place
ends_at_rest disk prefix place is only at =
    let there : take place disk.content ≡ prefix = ap (λ (l : List ℕ). take place l) is ∙ take_at prefix (0 ∷ []) place (sym at) in
    record {
      within = omega (arith, ap length is, length-append prefix (0 ∷ []), at);
      ends = record { gate = 0; rest = []; closed = omega arith; split = is ∙ ap (λ (l : List ℕ). l ++ 0 ∷ []) (sym there) };
      durable = only;
    }
