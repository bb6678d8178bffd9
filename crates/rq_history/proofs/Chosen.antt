-- One log that only grows.
use Rattle.std.proofs.Common.{◌≡◌, ◌⊎◌, ◌<◌, ◌≤◌, List, length, take, refl, ap, sym, subst, ◌∙◌, inl, inr, ⊎_elim, arith}
use Rattle.std.proofs.Common.{[]}
use Rattle.std.proofs.lemmas.List.{take-take}
use Rattle.std.proofs.lemmas.Bool.Decides.{nat_tests}
use Rattle.std.proofs.lemmas.List.{length-take-le}
use Rattle.rq_history.specs.History.{NodeId, EntryView, Node, History, Begin, After, Was, fresh, IsPrefixOf}
use Rattle.rq_history.proofs.Claims.{Whole}
use Rattle.rq_history.specs.Commits.{Backing, Backed, chosen}
use Rattle.rq_history.proofs.Backed.{backed, same_committed, whole_past}

module _ {E : Type 0} where
  -- the list is what some node had committed, or empty
  pub record Committed (h : History E) (log : List E) : Type 0 where
    pub who : NodeId
    pub node : Node E
    pub was : Was h who node
    pub same : log ≡ take node.commit node.log

  abbrev Longest : History E → NodeId → Node E → Type 0
  Longest h i y = ((length (chosen h) < y.commit) × (chosen (After h i y) ≡ take y.commit y.log)) ⊎ ((y.commit ≤ length (chosen h)) × (chosen (After h i y) ≡ chosen h))

  longest : (h : History E) (i : NodeId) (y : Node E) → Longest h i y
  longest h i y = grind (arith, nat_tests)

  committed_later : (h : History E) (i : NodeId) (y : Node E) (log : List E) → Committed h log → Committed (After h i y) log
  committed_later h i y log c = record { who = c.who; node = c.node; was = inr c.was; same = c.same }

  pub chosen_was : (h : History E) → Committed h (chosen h)
  chosen_was Begin = record { who = []; node = fresh; was = refl; same = refl }
  chosen_was (After h i y) = ⊎_elim
      (λ (p : (length (chosen h) < y.commit) × (chosen (After h i y) ≡ take y.commit y.log)). record { who = i; node = y; was = inl (refl, refl); same = p.1 })
      (λ (p : (y.commit ≤ length (chosen h)) × (chosen (After h i y) ≡ chosen h)). rw p.1 (committed_later h i y (chosen h) (chosen_was h)))
      (longest h i y)

module _ {E : Type 0} (view : EntryView E) where
  module _ (voters : List E → List NodeId) where
    -- of two committed prefixes the shorter is a prefix of the longer
    pub prefixes : (h : History E) → Whole view voters h → (i j : NodeId) (x y : Node E) → Was h i x → Was h j y → x.commit ≤ y.commit → IsPrefixOf (take x.commit x.log) (take y.commit y.log)
    prefixes h s i j x y v w le =
        let a = backed view voters h s i x v in
        let b = backed view voters h s j y w in
        let len : length (take x.commit x.log) ≡ x.commit = length-take-le x.commit x.log a.fits in
        rw len (take-take x.commit y.commit y.log le ∙ ⊎_elim
        (λ (z : x.commit ≡ 0). rw z refl)
        (λ (p : Backing view voters h x). ⊎_elim (λ (z : y.commit ≡ 0). let e : x.commit ≡ 0 = omega arith in rw e refl) (λ (q : Backing view voters h y). sym (same_committed view voters h s x y p q x.commit (omega arith) le)) b.by_leader)
        a.by_leader)

    longer : (h : History E) (i : NodeId) (y : Node E) → Backed view voters (After h i y) y → (length (chosen h) ≤ length (chosen (After h i y))) × (y.commit ≤ length (chosen (After h i y)))
    longer h i y b = ⊎_elim
        (λ (p : (length (chosen h) < y.commit) × (chosen (After h i y) ≡ take y.commit y.log)).
        let len : length (chosen (After h i y)) ≡ y.commit = ap length p.1 ∙ length-take-le y.commit y.log b.fits in
        (omega (arith, p.0), omega arith))
        (λ (p : (y.commit ≤ length (chosen h)) × (chosen (After h i y) ≡ chosen h)).
        let len : length (chosen (After h i y)) ≡ length (chosen h) = ap length p.1 in
        (omega arith, omega (arith, p.0)))
        (longest h i y)

    within : (h : History E) → Whole view voters h → (i : NodeId) (x : Node E) → Was h i x → x.commit ≤ length (chosen h)
    within Begin s i x w = rw w (omega arith)
    within (After h k y) s i x (inl w) = rw w.1 ((longer h k y (backed view voters (After h k y) s k y (inl (refl, refl)))).1)
    within (After h k y) s i x (inr w) =
        let a = within h (whole_past view voters h k y s) i x w in
        let b = longer h k y (backed view voters (After h k y) s k y (inl (refl, refl))) in
        omega (arith, b.0)

    -- each committed prefix is a prefix of the one log
    pub in_chosen : (h : History E) → Whole view voters h → (i : NodeId) (x : Node E) → Was h i x → IsPrefixOf (take x.commit x.log) (chosen h)
    in_chosen h s i x w =
        let c = chosen_was h in
        let g = backed view voters h s c.who c.node c.was in
        let len : length (chosen h) ≡ c.node.commit = ap length c.same ∙ length-take-le c.node.commit c.node.log g.fits in
        subst (λ (l : List E). IsPrefixOf (take x.commit x.log) l) (sym c.same) (prefixes h s i c.who x c.node w c.was (omega (arith, within h s i x w)))

    -- the one log only grows
    pub chosen_grows : (h : History E) (i : NodeId) (y : Node E) → Whole view voters (After h i y) → IsPrefixOf (chosen h) (chosen (After h i y))
    chosen_grows h i y s =
        let c = chosen_was h in
        subst (λ (l : List E). IsPrefixOf l (chosen (After h i y))) (sym c.same) (in_chosen (After h i y) s c.who c.node (inr c.was))
