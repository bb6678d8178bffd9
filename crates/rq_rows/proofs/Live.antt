-- What the slots show, key by key.
use Rattle.std.proofs.Common.{◌≡◌, ℤ, Bool, true, false, cond, List, [], ◌∷◌, ◌++◌, Option, Some, None, refl, sym, ap, subst, ◌∙◌}
use Rattle.std.specs.Ordering.{int_cmp, eq_by_cmp}
use Rattle.std.specs.Cmp.{int_cmp_total, eq_by_cmp_equiv}
use Rattle.std.specs.Map.{lookup}
use Rattle.std.specs.BTreeMap.{is_at}
use Rattle.std.specs.FinMap as fin
use Rattle.std.specs.FinMap.{get-insert, get-remove, get-empty, get-from_entries, same_map, int_cmp-IsAntisymmetric}
use Rattle.std.specs.FinMap.Entries.{find}
use Rattle.rq_rows.specs.Rows.{Filled}
use Rattle.rq_rows.specs.declared.change.Change.{Change}
use Rattle.rq_rows.specs.Slots.{Slot, Slots, slots_of, joined, put_slot, put, shown_by, live, undone}
use Rattle.rq_rows.proofs.Keys.{is_equal}

pub same_key : (q k : ℤ) → eq_by_cmp int_cmp q k ≡ true → q ≡ k
same_key q k t = int_cmp-IsAntisymmetric q k (is_equal _ t)

same_slots : (s t : Slots) → ((q : ℤ) → fin.get s q ≡ fin.get t q) → s ≡ t
same_slots s t h = same_map int_cmp_total int_cmp-IsAntisymmetric s t h

pub same_rows : (m n : Filled) → ((q : ℤ) → fin.get m q ≡ fin.get n q) → m ≡ n
same_rows m n h = same_map int_cmp_total int_cmp-IsAntisymmetric m n h

pub find_is : {X : Type 0} (es : List (ℤ × X)) (q : ℤ) → find int_cmp q es ≡ lookup (is_at (int_cmp q)) es
find_is [] q = refl
find_is (e ∷ es) q = ap (cond (eq_by_cmp int_cmp q e.0) (Some e.1)) (find_is es q)

pub get_slots : (es : List (ℤ × Slot)) (q : ℤ) → fin.get (slots_of es) q ≡ lookup (is_at (int_cmp q)) es
get_slots es q = get-from_entries int_cmp_total es q ∙ find_is es q

pub get_put_slot : (s : Slots) (k : ℤ) (o : Option Slot) (q : ℤ) → fin.get (put_slot s k o) q ≡ cond (eq_by_cmp int_cmp q k) o (fin.get s q)
get_put_slot s k None q = get-remove int_cmp_total s k q
get_put_slot s k (Some c) q = get-insert int_cmp_total s k c q

pub get_put : (m : Filled) (k : ℤ) (o : Slot) (q : ℤ) → fin.get (put m k o) q ≡ cond (eq_by_cmp int_cmp q k) o (fin.get m q)
get_put m k None q = get-remove int_cmp_total m k q
get_put m k (Some v) q = get-insert int_cmp_total m k v q

joined_cond : (b : Bool) (o r : Option Slot) → joined (cond b o r) ≡ cond b (joined o) (joined r)
joined_cond true o r = refl
joined_cond false o r = refl

get_shown : (es : List (ℤ × Slot)) (q : ℤ) → fin.get (shown_by es) q ≡ joined (find int_cmp q es)
get_shown [] q = get-empty int_cmp q
get_shown (e ∷ es) q = get_put (shown_by es) e.0 e.1 q ∙ ap (cond (eq_by_cmp int_cmp q e.0) e.1) (get_shown es q) ∙ sym (joined_cond (eq_by_cmp int_cmp q e.0) (Some e.1) (find int_cmp q es))

pub get_live : (s : Slots) (q : ℤ) → fin.get (live s) q ≡ joined (fin.get s q)
get_live s q = get_shown (fin.entries s) q ∙ ap joined (sym (fin.get-entries s q))

-- slots that differ at one key
pub slots_changed : (es fs : List (ℤ × Slot)) (k : ℤ) (o : Option Slot) → ((q : ℤ) → lookup (is_at (int_cmp q)) fs ≡ cond (is_at (int_cmp k) q) o (lookup (is_at (int_cmp q)) es)) → slots_of fs ≡ put_slot (slots_of es) k o
slots_changed es fs k o h = same_slots _ _ (λ q. get_slots fs q ∙ h q
    ∙ ap (λ b. cond b o (lookup (is_at (int_cmp q)) es)) ((eq_by_cmp_equiv int_cmp_total).symm k q)
    ∙ ap (cond (eq_by_cmp int_cmp q k) o) (sym (get_slots es q)) ∙ sym (get_put_slot (slots_of es) k o q))

pub live_put : (s : Slots) (k : ℤ) (o : Option Slot) → live (put_slot s k o) ≡ put (live s) k (joined o)
live_put s k o = same_rows _ _ (λ q. get_live (put_slot s k o) q ∙ ap joined (get_put_slot s k o q) ∙ joined_cond (eq_by_cmp int_cmp q k) o (fin.get s q)
    ∙ ap (cond (eq_by_cmp int_cmp q k) (joined o)) (sym (get_live s q)) ∙ sym (get_put (live s) k (joined o) q))

settled : (b : Bool) (o r m : Option Slot) → (b ≡ true → r ≡ m) → cond b r (cond b o m) ≡ m
settled true o r m h = h refl
settled false o r m h = refl

-- what stood at the key, put back
pub put_back : (s : Slots) (k : ℤ) (o r : Option Slot) → r ≡ fin.get s k → put_slot (put_slot s k o) k r ≡ s
put_back s k o r e = same_slots _ _ (λ q. get_put_slot (put_slot s k o) k r q ∙ ap (cond (eq_by_cmp int_cmp q k) r) (get_put_slot s k o q)
    ∙ settled (eq_by_cmp int_cmp q k) o r (fin.get s q) (λ t. e ∙ ap (fin.get s) (sym (same_key q k t))))

pub undone_more : (ls : List Change) (l : Change) (s : Slots) → undone (ls ++ l ∷ []) s ≡ undone ls (put_slot s l.key l.old)
undone_more [] l s = refl
undone_more (x ∷ ls) l s = ap (λ t. put_slot t x.key x.old) (undone_more ls l s)

-- a slot that shows nothing goes
pub swept : (s : Slots) (k : ℤ) → fin.get s k ≡ Some None → live (put_slot s k None) ≡ live s
swept s k e = same_rows _ _ (λ q. get_live (put_slot s k None) q ∙ ap joined (get_put_slot s k None q)
    ∙ gone (eq_by_cmp int_cmp q k) (fin.get s q) (λ t. subst (λ x. fin.get s x ≡ Some None) (sym (same_key q k t)) e) ∙ sym (get_live s q))
  where
    gone : (b : Bool) (x : Option Slot) → (b ≡ true → x ≡ Some None) → joined (cond b None x) ≡ joined x
    gone true x h = ap joined (sym (h refl))
    gone false x h = refl
