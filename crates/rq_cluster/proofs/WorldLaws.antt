-- What the top call needs of the clusters: a line can be done or is outside, and a cluster has its line or not.
use Rattle.std.proofs.Common.{◌≡◌, ◌⊎◌, inl, inr, ℕ, List, [], Bool, true, false, Option, Some, None, is_some, refl}
use Rattle.rq_script.specs.Cluster.{Cluster, Written, whole, step, Steps, IsOutside, IsStarted}
use Rattle.rq_cluster.proofs.Alike.{Readable, steps_somewhere}

pub stepped : Readable → (c : Cluster) (line : List ℕ) → ((text : List ℕ) × (next : Cluster) × Steps c line text next) ⊎ IsOutside c line
stepped readable c line = at (step [] whole c line) refl
  where
    at : (o : Option Written) → step [] whole c line ≡ o → ((text : List ℕ) × (next : Cluster) × Steps c line text next) ⊎ IsOutside c line
    at (Some x) is = inl (steps_somewhere readable c line x is)
    at None is = inr is

pub started_or_not : (c : Cluster) → IsStarted c ⊎ (IsStarted c → ⊥)
started_or_not c = at (is_some c.server) refl
  where
    at : (b : Bool) → is_some c.server ≡ b → IsStarted c ⊎ (IsStarted c → ⊥)
    at true is = inl is
    at false is = inr (λ yes_it. let no_it = is in cc)
