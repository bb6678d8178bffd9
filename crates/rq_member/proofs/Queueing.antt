-- What waits in a batch.
use Rattle.std.proofs.Common.{◌≡◌, ℕ, zero, suc, ◌+◌, ◌-◌, ◌<◌, ◌≤◌, Bool, true, false, cond, List, [], ◌∷◌, ◌++◌, length, take, map, slice_get, Some, refl, sym, ap, ◌∙◌, subst, arith}
use Rattle.std.specs.Prelude.{min, All}
use Rattle.std.proofs.lemmas.List.{map-append, length-map}
use Rattle.std.proofs.lemmas.List.Elements.{All-append}
use Rattle.rq_world.specs.Node.{QueuedWrite}
use Rattle.rq_world.specs.declared.waiting.Waiting.{Waiting}
use Rattle.rq_world.specs.Rules.{batch_waits}
use Rattle.rq_wire.specs.declared.config.Member.{Member}
use Rattle.rq_statement.specs.Statements.{Statements}
use Rattle.rq_statement.specs.declared.command.Command.TheVariants.{Batch}
use Rattle.rq_member.specs.Files.{IsReadable}
use Rattle.rq_member.specs.Queued.{IsQueueable}
use Rattle.rq_member.proofs.Answering.{taken_more}
use Rattle.rq_member.proofs.Short.{batch_readable}

append_last : {T : Type 0} (a b c : List T) → (a ++ b) ++ c ≡ a ++ (b ++ c)
append_last [] b c = refl
append_last (x ∷ a) b c = ap (λ m. x ∷ m) (append_last a b c)

pub taken_back : {T : Type 0} (a b : List T) → take (length a) (a ++ b) ≡ a
taken_back [] b = refl
taken_back (x ∷ a) b = ap (λ m. x ∷ m) (taken_back a b)

taken_length : {T : Type 0} (l : List T) (k : ℕ) → k ≤ length l → length (take k l) ≡ k
taken_length [] zero less = refl
taken_length [] (suc k) less = absurd (omega arith)
taken_length (x ∷ l) zero less = refl
taken_length (x ∷ l) (suc k) less = ap suc (taken_length l k (omega arith))

-- so many, or all
pub taken_least : {T : Type 0} (l : List T) (k m : ℕ) → k ≡ min (length l) m → take k l ≡ take m l
taken_least l k m is = ap (λ (j : ℕ). take j l) is ∙ least l m
  where
    least : {T : Type 0} (l : List T) (m : ℕ) → take (min (length l) m) l ≡ take m l
    least [] zero = refl
    least [] (suc m) = let e : min 0 (suc m) ≡ 0 = grind (arith) in ap (λ (j : ℕ). take j []) e
    least (x ∷ l) zero = let e : min (suc (length l)) 0 ≡ 0 = grind (arith) in ap (λ (j : ℕ). take j (x ∷ l)) e
    least (x ∷ l) (suc m) =
        let e : min (suc (length l)) (suc m) ≡ suc (min (length l) m) = grind (arith) in
        ap (λ (j : ℕ). take j (x ∷ l)) e ∙ ap (λ r. x ∷ r) (least l m)

waits_append : (first : List Member) (index p : ℕ) (l m : List QueuedWrite) → batch_waits first index p (l ++ m) ≡ batch_waits first index p l ++ batch_waits first index (p + length l) m
waits_append first index p [] m = let e : p ≡ p + 0 = omega arith in ap (λ (q : ℕ). batch_waits first index q m) e
waits_append first index p (q ∷ l) m =
    let e : p + 1 + length l ≡ p + suc (length l) = omega arith in
    by (waits_append first index (p + 1) l m ∙ ap (λ (k : ℕ). batch_waits first index (p + 1) l ++ batch_waits first index k m) e) q.waits
  where
    by : batch_waits first index (p + 1) (l ++ m) ≡ batch_waits first index (p + 1) l ++ batch_waits first index (p + suc (length l)) m → (b : Bool) → cond b (record { index = index; number = q.number; asked = q.asked; timeout = q.timeout; position = p; sequence = Some q.sequence } ∷ batch_waits first index (p + 1) (l ++ m)) (batch_waits first index (p + 1) (l ++ m)) ≡ cond b (record { index = index; number = q.number; asked = q.asked; timeout = q.timeout; position = p; sequence = Some q.sequence } ∷ batch_waits first index (p + 1) l) (batch_waits first index (p + 1) l) ++ batch_waits first index (p + suc (length l)) m
    by more true = ap (λ (r : List Waiting). record { index = index; number = q.number; asked = q.asked; timeout = q.timeout; position = p; sequence = Some q.sequence } ∷ r) more
    by more false = more

pub waits_more : (first : List Member) (index : ℕ) (queue : List QueuedWrite) (k : ℕ) (x : QueuedWrite) (old before new : List Waiting) → slice_get queue k ≡ Some x → k ≤ length queue → before ≡ old ++ batch_waits first index 0 (take k queue) → new ≡ before ++ batch_waits first index k (x ∷ [])
    → new ≡ old ++ batch_waits first index 0 (take (k + 1) queue)
waits_more first index queue k x old before new at less so is =
    let e : 0 + length (take k queue) ≡ k = omega (arith, taken_length queue k less) in
    is ∙ ap (λ (l : List Waiting). l ++ batch_waits first index k (x ∷ [])) so ∙ append_last old (batch_waits first index 0 (take k queue)) (batch_waits first index k (x ∷ []))
    ∙ ap (λ (l : List Waiting). old ++ l) (ap (λ (j : ℕ). batch_waits first index 0 (take k queue) ++ batch_waits first index j (x ∷ [])) (sym e) ∙ sym (waits_append first index 0 (take k queue) (x ∷ [])) ∙ ap (batch_waits first index 0) (sym (taken_more queue k x at)))

pub lists_more : (queue : List QueuedWrite) (k : ℕ) (x : QueuedWrite) (before new : List Statements) (list : Statements) → slice_get queue k ≡ Some x → before ≡ map (λ (q : QueuedWrite). q.list) (take k queue) → list ≡ x.list → new ≡ before ++ list ∷ []
    → new ≡ map (λ (q : QueuedWrite). q.list) (take (k + 1) queue)
lists_more queue k x before new list at so same is =
    is ∙ (λ i. so i ++ same i ∷ []) ∙ sym (map-append (λ (q : QueuedWrite). q.list) (take k queue) (x ∷ [])) ∙ ap (map (λ (q : QueuedWrite). q.list)) (sym (taken_more queue k x at))

pub queueable_more : (queue : List QueuedWrite) (k : ℕ) (x : QueuedWrite) → slice_get queue k ≡ Some x → All IsQueueable (map (λ (q : QueuedWrite). q.list) (take k queue)) → IsQueueable x.list
    → All IsQueueable (map (λ (q : QueuedWrite). q.list) (take (k + 1) queue))
queueable_more queue k x at all one =
    subst (λ (l : List Statements). All IsQueueable l) (sym (ap (map (λ (q : QueuedWrite). q.list)) (taken_more queue k x at) ∙ map-append (λ (q : QueuedWrite). q.list) (take k queue) (x ∷ [])))
    (All-append IsQueueable (map (λ (q : QueuedWrite). q.list) (take k queue)) (x.list ∷ []) all (only x.list one))
  where
    only : (list : Statements) → IsQueueable list → All IsQueueable (list ∷ [])
    only list is zero d less = is
    only list is (suc j) d less = absurd (omega arith)

pub all_taken : {T : Type 0} (l : List T) (k count held : ℕ) → count ≤ k → k ≤ count → count ≡ min held 128 → held ≡ length l → take k l ≡ take 128 l
all_taken l k count held more less is same =
    let here : k ≡ count = omega (arith, more, less) in
    let e : k ≡ min (length l) 128 = here ∙ is ∙ ap (λ (j : ℕ). min j 128) same in
    taken_least l k 128 e

pub within_least : (k count held most : ℕ) → k < count → count ≡ min held most → k < held
within_least k count held most less is = grind (arith)

few_taken : {T : Type 0} (l : List T) (k : ℕ) → length (take k l) ≤ k
few_taken [] zero = omega arith
few_taken [] (suc k) = omega arith
few_taken (x ∷ l) zero = omega arith
few_taken (x ∷ l) (suc k) = omega (arith, few_taken l k)

pub batch_is_readable : (queue : List QueuedWrite) → All IsQueueable (map (λ (q : QueuedWrite). q.list) (take 128 queue)) → IsReadable (Batch (map (λ (q : QueuedWrite). q.list) (take 128 queue)))
batch_is_readable queue all = batch_readable (map (λ (q : QueuedWrite). q.list) (take 128 queue)) all (omega (arith, length-map (take 128 queue) (λ (q : QueuedWrite). q.list), few_taken queue 128))
