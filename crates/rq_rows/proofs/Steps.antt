-- A change of a table keeps what must hold.
use Rattle.std.proofs.Common.{◌≡◌, ℕ, ℤ, cond, List, [], ◌∷◌, ◌++◌, length, drop, Option, Some, None, refl, sym, ap, subst, ◌∙◌, ◌≤◌}
use Rattle.std.specs.Prelude.{IsSome}
use Rattle.std.specs.Ordering.{int_cmp}
use Rattle.std.specs.Cmp.{int_cmp_total, eq_by_cmp_equiv}
use Rattle.std.specs.FinMap as fin
use Rattle.rq_values.specs.declared.value.Value.{Value}
use Rattle.rq_grammar.specs.declared.stmt.ColumnDef.{ColumnDef}
use Rattle.rq_rows.specs.declared.change.Change.{Change}
use Rattle.rq_rows.specs.Slots.{Slot, Slots, slots_of, joined, put_slot, put, live, undone}
use Rattle.rq_rows.specs.Covering.{Held, Covers, Valid, Free, HasKey, More, PointsBelow}
use Rattle.rq_rows.specs.Staged.{Sound, Staged, staged}
use Rattle.std.specs.FinMap.{get-empty}
use Rattle.rq_rows.proofs.Live.{put_back, undone_more, same_rows, get_live, get_slots, get_put_slot, live_put}
use Rattle.rq_rows.proofs.Covered.{has_more, has_holders, covers_same, covers_in, covers_out, valid_in, valid_out, below_more}
use Rattle.rq_rows.proofs.Back.{valids_last, valids_more, ready_more, ready_push, undone_drop}

same_more : (hs : List Held) → More hs hs
same_more hs n h e = (h, e, (λ q s. s))

-- a slot with a content is there
there : (s : Slots) (k : ℤ) (o : Slot) → IsSome (fin.get (put_slot s k (Some o)) k)
there s k o = subst IsSome (sym (get_put_slot s k (Some o) k ∙ ap (λ b. cond b (Some o) (fin.get s k)) ((eq_by_cmp_equiv int_cmp_total).refl k))) refl

changes : (cs : List ColumnDef) (gs hs : List Held) (s t : Slots) (ls : List Change) (l : Change) (o : Slot) → Sound cs gs s ls → length hs ≡ length cs → More gs hs
    → t ≡ put_slot s l.key (Some o) → l.old ≡ fin.get s l.key → Covers cs hs (put (live s) l.key o) → Valid cs (put (live s) l.key o) → Sound cs hs t (ls ++ l ∷ [])
changes cs gs hs s t ls l o sound len more changed old covers valid =
    let shown : live t ≡ put (live s) l.key o = ap live changed ∙ live_put s l.key (Some o) in
    let back : put_slot t l.key l.old ≡ s = ap (λ x. put_slot x l.key l.old) changed ∙ put_back s l.key (Some o) l.old old in
    record {
      matched = len;
      covers = subst (Covers cs hs) (sym shown) covers;
      valids = valids_more cs ls l s t sound.valids (subst (Valid cs) (sym shown) valid) back;
      ready = ready_push cs hs ls l s t (ready_more cs gs hs ls s more sound.ready) (subst (λ x. IsSome (fin.get x l.key)) (sym changed) (there s l.key o))
          (has_more cs gs hs (joined l.old) more (has_holders cs gs (live s) l.key (joined l.old) sound.covers (get_live s l.key ∙ ap joined (sym old)))) back;
    }

-- some maps know a row that did not come in
pub held_on : (i : ℕ) (cs : List ColumnDef) (gs hs : List Held) (s : Slots) (ls : List Change) (row : List Value) (k : ℤ) → Sound cs gs s ls → length hs ≡ length cs
    → PointsBelow i cs row k gs hs → Free cs (live s) row → Sound cs hs s ls
held_on i cs gs hs s ls row k sound len points free = record {
  matched = len;
  covers = covers_same i cs gs hs (live s) k row sound.covers free points;
  valids = sound.valids;
  ready = ready_more cs gs hs ls s (below_more i cs gs hs row k len points) sound.ready;
}

pub put_on : (cs : List ColumnDef) (gs hs : List Held) (s t : Slots) (ls : List Change) (row : List Value) (l : Change) → Sound cs gs s ls → length hs ≡ length cs
    → PointsBelow (length cs) cs row l.key gs hs → Free cs (live s) row → HasKey cs l.key row → t ≡ put_slot s l.key (Some (Some row)) → l.old ≡ fin.get s l.key
    → Sound cs hs t (ls ++ l ∷ [])
put_on cs gs hs s t ls row l sound len points free key changed old =
    let valid = valid_in cs (live s) l.key row (valids_last cs ls s sound.valids) free key in
    changes cs gs hs s t ls l (Some row) sound len (below_more (length cs) cs gs hs row l.key len points) changed old
    (covers_in cs gs hs (live s) l.key row sound.covers valid points) valid

pub take_on : (cs : List ColumnDef) (hs : List Held) (s t : Slots) (ls : List Change) (l : Change) → Sound cs hs s ls
    → t ≡ put_slot s l.key (Some None) → l.old ≡ fin.get s l.key → Sound cs hs t (ls ++ l ∷ [])
take_on cs hs s t ls l sound changed old =
    changes cs hs hs s t ls l None sound sound.matched (same_more hs) changed old
    (covers_out cs hs (live s) l.key sound.covers) (valid_out cs (live s) l.key (valids_last cs ls s sound.valids))

pub kept : (cs : List ColumnDef) (gs hs : List Held) (s t : Slots) (ls ms : List Change) → Sound cs gs s ls → length hs ≡ length cs → Covers cs hs (live t) → live t ≡ live s → ms ≡ [] → Sound cs hs t ms
kept cs gs hs s t ls ms sound len covers same e = subst (Sound cs hs t) (sym e) (record {
  matched = len;
  covers = covers;
  valids = subst (Valid cs) (sym same) (valids_last cs ls s sound.valids);
  ready = tt;
})

-- ---- what is seen

abbrev pub changed_to : Staged → ℤ → Slot → Staged
changed_to s k o = record { columns = s.columns; start = s.start; before = s.before; now = put s.now k o }

pub seen_change : (cs : List ColumnDef) (mark : ℕ) (s t : Slots) (ls : List Change) (l : Change) (o : Slot) → mark ≤ length ls
    → t ≡ put_slot s l.key (Some o) → l.old ≡ fin.get s l.key → staged cs mark t (ls ++ l ∷ []) ≡ changed_to (staged cs mark s ls) l.key o
seen_change cs mark s t ls l o le changed old =
    let back : put_slot t l.key l.old ≡ s = ap (λ x. put_slot x l.key l.old) changed ∙ put_back s l.key (Some o) l.old old in
    let first = ap live (undone_more ls l t ∙ ap (undone ls) back) in
    let second = ap live (undone_drop mark ls l t le ∙ ap (undone (drop mark ls)) back) in
    let third = ap live changed ∙ live_put s l.key (Some o) in
    λ i. record { columns = cs; start = first i; before = second i; now = third i }

nothing : {P : Type 0} (j : ℤ) (r : List Value) → fin.get (live (slots_of [])) j ≡ Some r → P
nothing j r e = lost (sym (get_live (slots_of []) j ∙ ap joined (get_slots [] j)) ∙ e)
  where
    lost : {P : Type 0} → ◌≡◌ {A = Option (List Value)} None (Some r) → P
    lost q = absurd (cc)

pub fresh : (cs : List ColumnDef) (hs : List Held) (es : List (ℤ × Slot)) (ls : List Change) → length hs ≡ length cs → es ≡ [] → ls ≡ [] → Sound cs hs (slots_of es) ls
fresh cs hs es ls len e f = subst (λ xs. Sound cs hs (slots_of xs) ls) (sym e) (subst (λ xs. Sound cs hs (slots_of []) xs) (sym f) (record {
  matched = len;
  covers = λ n c h at_c at_h must k row v g t. nothing k row g;
  valids = record { counted = λ k row g. nothing k row g; apart = λ n c at_c must j k r s v g h a b. nothing j r g; keyed = λ n c at_c t k row g. nothing k row g };
  ready = tt;
}))

none_live : live (slots_of []) ≡ fin.empty
none_live = same_rows _ _ (λ q. get_live (slots_of []) q ∙ ap joined (get_slots [] q) ∙ sym (get-empty int_cmp q))

pub seen_none : (cs : List ColumnDef) (es : List (ℤ × Slot)) (ls : List Change) → es ≡ [] → ls ≡ [] → staged cs 0 (slots_of es) ls ≡ record { columns = cs; start = fin.empty; before = fin.empty; now = fin.empty }
seen_none cs es ls e f = ap (λ xs. staged cs 0 (slots_of xs) ls) e ∙ ap (λ xs. staged cs 0 (slots_of []) xs) f ∙ (λ i. record { columns = cs; start = none_live i; before = none_live i; now = none_live i })
