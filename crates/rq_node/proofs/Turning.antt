-- What the rules of a node leave as it is.
use Rattle.std.proofs.Common.{◌≡◌, ◌≤◌, ◌||◌, ◌==◌, ◌+◌, ◌-◌, ◌^◌, if◌then◌else◌, ℕ, zero, suc, Bool, true, false, Some, None, Option, List, [], ◌∷◌, ◌++◌, length, slice_get, refl, sym, ◌∙◌, ap, subst, arith, nat_lt}
use Rattle.std.specs.Prelude.{All}
use Rattle.std.proofs.lemmas.List.{append-nil}
use Rattle.rq_statement.specs.declared.item.Item.{Item}
use Rattle.rq_request.specs.declared.say.Say.TheVariants.{Refused}
use Rattle.rq_request.specs.declared.say.NodeRefusal.TheVariants.{NoLeader, EntryTooLarge}
use Rattle.rq_statement.specs.Bytes.{execute_bytes}
use Rattle.rq_node.specs.declared.log_entry.LogEntry.{LogEntry}
use Rattle.rq_node.specs.declared.log_entry.Content.{Content}
use Rattle.rq_node.specs.declared.log_entry.Content.TheVariants.{NoOp, Execute}
use Rattle.rq_node.specs.Events.{KeepsPersistent, IsModest}
use Rattle.rq_node.specs.Node.{Node, StoredRecord, Vote, Turn, unchanged, says}
use Rattle.rq_node.specs.Rules.{elect, led, risen, entry_in, splice_of, execute, execute_sized, taken_up, is_leader, apply, apply_times, apply_next, applied_entry, applied_content}
use Rattle.rq_node.specs.Sound.{AreReadable, IsPersistentReadable, IsReadable, most_bytes}
use Rattle.rq_node.specs.Recovery.{IsItemReadable}
use Rattle.rq_node.proofs.Readable.{all_none, all_one, all_with}

-- ---- an election

none_read : All IsItemReadable []
none_read = all_none IsItemReadable

splice_read : (n : Node) (content : Content) → IsPersistentReadable content → All IsItemReadable (splice_of n content ∷ [])
splice_read n content reads = all_one IsItemReadable (splice_of n content) (all_one (λ (e : LogEntry). IsPersistentReadable e.content) (entry_in n content) reads)

no_op_read : (n : Node) → All IsItemReadable (led n).records
no_op_read n = all_with IsItemReadable (Vote (n.term + 1) (Some n.id)) (splice_of (risen n) NoOp ∷ []) tt (splice_read (risen n) NoOp tt)

pub elect_modest : (n : Node) → AreReadable n.log → IsModest n (elect n)
elect_modest n log = by (is_leader n.role || (n.term == 2 ^ 64 - 1))
  where
    by : (b : Bool) → IsModest n (if b then unchanged n else led n)
    by true = record { id = refl; few = omega arith; readable = (log, none_read) }
    by false = record { id = refl; few = omega arith; readable = (log, no_op_read n) }

-- ---- an ask

pub says_modest : (n : Node) (number : ℕ) (say : _) → AreReadable n.log → IsModest n (says n number say)
says_modest n number say log = record { id = refl; few = omega arith; readable = (log, none_read) }

pub execute_modest : (n : Node) (number : ℕ) (items : List Item) → All IsReadable items → AreReadable n.log → IsModest n (execute n number items)
execute_modest n number items reads log = by (is_leader n.role)
  where
    sized : (b : Bool) → nat_lt most_bytes (length (execute_bytes items)) ≡ b → IsModest n (if b then says n number (Refused (EntryTooLarge (length (execute_bytes items)))) else taken_up n number items)
    sized true is = says_modest n number (Refused (EntryTooLarge (length (execute_bytes items)))) log
    sized false is = record { id = refl; few = omega arith; readable = (log, splice_read n (Execute items) (reads, grind (arith, is))) }

    by : (b : Bool) → IsModest n (if b then execute_sized n number items (length (execute_bytes items)) else says n number (Refused (NoLeader n.term)))
    by true = sized (nat_lt most_bytes (length (execute_bytes items))) refl
    by false = says_modest n number (Refused (NoLeader n.term)) log

-- ---- applying stores nothing

record IsUnchanged (n : Node) (turn : Turn) : Type 0 where
  id : turn.node.id ≡ n.id
  records : turn.records ≡ []

entry_unchanged : (n : Node) (entry : Option LogEntry) → IsUnchanged n (applied_entry n entry)
entry_unchanged n None = record { id = refl; records = refl }
entry_unchanged n (Some entry) = by entry.content
  where
    by : (content : Content) → IsUnchanged n (applied_content n (n.applied + 1) content)
    by NoOp = record { id = refl; records = refl }
    by (Execute items) = record { id = refl; records = refl }

times_unchanged : (k : ℕ) (n : Node) (turn : Turn) → IsUnchanged n turn → IsUnchanged n (apply_times k turn)
unfolding apply_times
times_unchanged zero n turn is = is
times_unchanged (suc k) n turn is =
    let one = entry_unchanged turn.node (slice_get turn.node.log turn.node.applied) in
    times_unchanged k n (apply_next turn) (record {
      id = one.id ∙ is.id;
      records = ap (λ (d : List StoredRecord). turn.records ++ d) one.records ∙ append-nil turn.records ∙ is.records;
    })

apply_unchanged : (n : Node) → IsUnchanged n (apply n)
apply_unchanged n = times_unchanged (n.commit - n.applied) n (unchanged n) (record { id = refl; records = refl })

pub apply_stores : (n : Node) → (apply n).records ≡ []
apply_stores n = (apply_unchanged n).records

pub apply_modest : (n : Node) → AreReadable n.log → IsModest n (apply n)
apply_modest n log =
    let is = apply_unchanged n in
    record {
      id = is.id;
      few = subst (λ (r : List StoredRecord). length r ≤ 2) (sym is.records) (omega arith);
      readable = (log, subst (λ (r : List StoredRecord). All IsItemReadable r) (sym is.records) none_read);
    }

-- what one entry leaves, and then others
pub kept_both : (a b c : Node) → KeepsPersistent a b → KeepsPersistent b c → KeepsPersistent a c
kept_both a b c one two = record { id = two.id ∙ one.id; persistent = two.persistent ∙ one.persistent }
