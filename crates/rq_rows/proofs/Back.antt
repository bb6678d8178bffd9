-- The way back.
use Rattle.std.proofs.Common.{◌≡◌, ℕ, List, [], ◌∷◌, ◌++◌, length, drop, sym, ap, subst, ◌∙◌, ◌≤◌, arith, zero, suc}
use Rattle.std.specs.Prelude.{IsSome}
use Rattle.std.specs.FinMap as fin
use Rattle.rq_grammar.specs.declared.stmt.ColumnDef.{ColumnDef}
use Rattle.rq_rows.specs.declared.change.Change.{Change}
use Rattle.rq_rows.specs.Slots.{Slots, joined, put_slot, live, undone}
use Rattle.rq_rows.specs.Covering.{Held, Valid, HasHolders, More}
use Rattle.rq_rows.specs.Staged.{Valids, Ready}
use Rattle.rq_rows.proofs.Live.{undone_more}
use Rattle.rq_rows.proofs.Covered.{has_more}

-- one more change goes back
undone_on : (ls : List Change) (l : Change) (s t : Slots) → put_slot t l.key l.old ≡ s → undone (ls ++ l ∷ []) t ≡ undone ls s
undone_on ls l s t e = undone_more ls l t ∙ ap (undone ls) e

pub valids_last : (cs : List ColumnDef) (ls : List Change) (s : Slots) → Valids cs ls s → Valid cs (live s)
valids_last cs [] s v = v
valids_last cs (l ∷ ls) s v = valids_last cs ls s v.1

pub valids_more : (cs : List ColumnDef) (ls : List Change) (l : Change) (s t : Slots) → Valids cs ls s → Valid cs (live t) → put_slot t l.key l.old ≡ s → Valids cs (ls ++ l ∷ []) t
valids_more cs [] l s t v w e = (subst (λ x. Valid cs (live x)) (sym e) v, w)
valids_more cs (x ∷ ls) l s t v w e = (subst (λ y. Valid cs (live (put_slot y x.key x.old))) (sym (undone_on ls l s t e)) v.0, valids_more cs ls l s t v.1 w e)

pub valids_less : (cs : List ColumnDef) (ls : List Change) (l : Change) (s : Slots) → Valids cs (ls ++ l ∷ []) s → Valids cs ls (put_slot s l.key l.old)
valids_less cs [] l s v = v.0
valids_less cs (x ∷ ls) l s v = (subst (λ y. Valid cs (live (put_slot y x.key x.old))) (undone_more ls l s) v.0, valids_less cs ls l s v.1)

pub ready_more : (cs : List ColumnDef) (gs hs : List Held) (ls : List Change) (s : Slots) → More gs hs → Ready cs gs ls s → Ready cs hs ls s
ready_more cs gs hs [] s more r = tt
ready_more cs gs hs (l ∷ ls) s more r = (r.0, has_more cs gs hs (joined l.old) more r.1, ready_more cs gs hs ls s more r.2)

pub ready_push : (cs : List ColumnDef) (hs : List Held) (ls : List Change) (l : Change) (s t : Slots) → Ready cs hs ls s → IsSome (fin.get t l.key) → HasHolders cs hs (joined l.old) → put_slot t l.key l.old ≡ s → Ready cs hs (ls ++ l ∷ []) t
ready_push cs hs [] l s t r a b e = (a, b, tt)
ready_push cs hs (x ∷ ls) l s t r a b e = (subst (λ y. IsSome (fin.get y x.key)) (sym (undone_on ls l s t e)) r.0, r.1, ready_push cs hs ls l s t r.2 a b e)

pub ready_pop : (cs : List ColumnDef) (hs : List Held) (ls : List Change) (l : Change) (s : Slots) → Ready cs hs (ls ++ l ∷ []) s → (IsSome (fin.get s l.key)) × (HasHolders cs hs (joined l.old)) × (Ready cs hs ls (put_slot s l.key l.old))
ready_pop cs hs [] l s r = (r.0, r.1, tt)
ready_pop cs hs (x ∷ ls) l s r = let p = ready_pop cs hs ls l s r.2 in (p.0, p.1, (subst (λ y. IsSome (fin.get y x.key)) (undone_more ls l s) r.0, r.1, p.2))

pub undone_drop : (n : ℕ) (ls : List Change) (l : Change) (s : Slots) → n ≤ length ls → undone (drop n (ls ++ l ∷ [])) s ≡ undone (drop n ls) (put_slot s l.key l.old)
undone_drop zero ls l s le = undone_more ls l s
undone_drop (suc n) [] l s le = absurd (omega arith)
undone_drop (suc n) (x ∷ ls) l s le = undone_drop n ls l s (omega arith)
