-- Asks.
use Rattle.std.proofs.Common.{◌≡◌, ◌⊎◌, inl, inr, IsTrue, Result, Ok, Err, IfOk, IfErr, OnOk, OnErr, ◌∷◌, ◌++◌, ◌+◌, ◌<◌, ◌≤◌, ◌&&◌, not, ℕ, Bool, true, false, cond, List, [], length, Option, Some, None, refl, sym, ap, ◌∙◌, subst, arith}
use Rattle.std.specs.Prelude.{nat_lt, nat_le}
use Rattle.std.proofs.lemmas.Bool.Decides.{nat_tests}
use Rattle.rq_outside.specs.declared.pair.DiskPair.{DiskPair}
use Rattle.rq_outside.specs.Disk.{DiskMeaning}
use Rattle.rq_wal.specs.declared.base.Base.{Base}
use Rattle.rq_wal.specs.declared.base.Stored.{Stored}
use Rattle.rq_wal.specs.declared.file.WalFile.{WalFile}
use Rattle.rq_wal.specs.Current.{IsCurrent, OnlyRoom, EachSinceGives}
use Rattle.rq_wire.specs.declared.config.Member.{Member}
use Rattle.rq_statement.specs.Statements.{Statements}
use Rattle.rq_statement.specs.Bytes.{command_bytes}
use Rattle.rq_statement.specs.declared.command.Command.{Command}
use Rattle.rq_statement.specs.declared.item.Item.{Item}
use Rattle.rq_statement.specs.declared.command.Command.TheVariants.{Execute, StrongQuery}
use Rattle.rq_request.specs.declared.say.Say.{Say}
use Rattle.rq_request.specs.declared.say.Say.TheVariants.{Refused}
use Rattle.rq_request.specs.declared.say.NodeRefusal.TheVariants.{NoLeader, Stale, EntryTooLarge, QueuedTooLarge, QueueFull}
use Rattle.rq_request.specs.declared.ask.Level.{Level}
use Rattle.rq_request.specs.declared.ask.Level.TheVariants as levels
use Rattle.rq_raft.specs.Node.{is_leader}
use Rattle.rq_world.specs.Reads.{begin, is_stale, limit_of}
use Rattle.rq_world.specs.Node.{Node, Turn, persistent_of, says, unchanged}
use Rattle.rq_world.specs.declared.log_entry.LogEntry.{LogEntry}
use Rattle.rq_world.specs.Rules.{enqueue, enqueued, if_not_full, if_not_too_large, if_leads, query, query_if_fresh, read, reads, begun, flush, flushed, proposed, appended_for, max_command_bytes, max_queued_bytes, queue_capacity}
use Rattle.rq_member.specs.declared.event.Effects.{Effects}
use Rattle.rq_member.specs.declared.turn_error.TurnError.{TurnError}
use Rattle.rq_member.specs.Files.{IsReadable}
use Rattle.rq_member.specs.Held.{IsOpen}
use Rattle.rq_member.specs.Turned.{Brings, Did}
use Rattle.rq_member.proofs.Proposing.{did_not_append}
use Rattle.rq_member.proofs.Resting.{IsOwn, did_rest, own_is_no_disk}

-- a turn that stores nothing, and leaves what is kept
pub record RestsAt (n : Node) (t : Turn) : Type 0 where
  pub stored : t.stored ≡ []
  pub kept : persistent_of t.node ≡ persistent_of n

choose : (n : Node) (b : Bool) (t u : Turn) → RestsAt n t → RestsAt n u → RestsAt n (cond b t u)
choose n true t u one two = one
choose n false t u one two = two

pub says_rests : (n : Node) (number : ℕ) (say : Say) → RestsAt n (says n number say)
says_rests n number say = record { stored = refl; kept = refl }

-- a turn that answers, and does nothing else
pub record SaysAt (n : Node) (t : Turn) : Type 0 where
  pub stored : t.stored ≡ []
  pub node : t.node ≡ n

module _ (first : List Member) where
  pub leads_on : (n : Node) (number : ℕ) (t : Turn) → is_leader n.raft.role ≡ true → if_leads first n number t ≡ t
  leads_on n number t is = ap (λ (b : Bool). cond b t (says n number (Refused (NoLeader n.raft.term)))) is

  pub leads_not : (n : Node) (number : ℕ) (t : Turn) → is_leader n.raft.role ≡ false → if_leads first n number t ≡ says n number (Refused (NoLeader n.raft.term))
  leads_not n number t is = ap (λ (b : Bool). cond b t (says n number (Refused (NoLeader n.raft.term)))) is

  pub fresh_says : (n : Node) (number moment : ℕ) (items : List Item) (limit : Option ℕ) → SaysAt n (query_if_fresh first n number moment items limit)
  fresh_says n number moment items limit = by (is_stale n.raft limit moment)
    where
      by : (b : Bool) → SaysAt n (cond b (says n number (Refused (Stale n.raft.contact moment (limit_of limit)))) (query first n number items))
      by true = record { stored = refl; node = refl }
      by false = record { stored = refl; node = refl }

  pub weak_says : (n : Node) (number : ℕ) (items : List Item) → SaysAt n (if_leads first n number (query first n number items))
  weak_says n number items = by (is_leader n.raft.role)
    where
      by : (b : Bool) → SaysAt n (cond b (query first n number items) (says n number (Refused (NoLeader n.raft.term))))
      by true = record { stored = refl; node = refl }
      by false = record { stored = refl; node = refl }

  pub enqueue_rests : (n : Node) (number moment timeout : ℕ) (list : Statements) (waits : Bool) → RestsAt n (enqueue first n number moment timeout list waits)
  enqueue_rests n number moment timeout list waits =
      let size = length (command_bytes (Execute list)) in
      let none = Refused (NoLeader n.raft.term) in
      let large = Refused (QueuedTooLarge size) in
      let full = Refused (QueueFull (length n.queue)) in
      let put = enqueued first n number moment timeout list waits in
      choose n (is_leader n.raft.role) (if_not_too_large first n number size (if_not_full first n number put)) (says n number none)
      (choose n (nat_lt max_queued_bytes size) (says n number large) (if_not_full first n number put) (says_rests n number large)
      (choose n (nat_le queue_capacity (length n.queue)) (says n number full) put (says_rests n number full) (record { stored = refl; kept = refl })))
      (says_rests n number none)

  pub flush_none : (n : Node) → (is_leader n.raft.role && nat_lt 0 (length n.queue)) ≡ false → flush first n ≡ unchanged n
  flush_none n fails = ap (λ (b : Bool). cond b (flushed first n) (unchanged n)) fails

  -- ---- a command that is proposed

  pub proposed_small : (n : Node) (number moment timeout : ℕ) (command : Command) (size : ℕ) → size ≤ 8388608 → proposed first n number moment timeout command size ≡ appended_for first n number moment timeout (record { term = n.raft.term; command = command })
  proposed_small n number moment timeout command size less =
      ap (λ (b : Bool). cond b (says n number (Refused (EntryTooLarge size))) (appended_for first n number moment timeout (record { term = n.raft.term; command = command }))) (test size less)
    where
      test : (size : ℕ) → size ≤ 8388608 → nat_lt max_command_bytes size ≡ false
      test size less = grind (arith, nat_tests)

  pub proposed_large : (n : Node) (number moment timeout : ℕ) (command : Command) (size : ℕ) → 8388608 < size → proposed first n number moment timeout command size ≡ says n number (Refused (EntryTooLarge size))
  proposed_large n number moment timeout command size less =
      ap (λ (b : Bool). cond b (says n number (Refused (EntryTooLarge size))) (appended_for first n number moment timeout (record { term = n.raft.term; command = command }))) (test size less)
    where
      test : (size : ℕ) → 8388608 < size → nat_lt max_command_bytes size ≡ true
      test size less = grind (arith, nat_tests)

  module _ {D F : Type 0} (told : Bool) (means : D → DiskMeaning) where
    pub did_not_propose : (IsTrue told → (base : Base) (old new : DiskPair D F) (wal : WalFile) (stored : Stored) → IsCurrent means base old wal stored → OnlyRoom means old new wal → EachSinceGives means base old new stored)
        → (n : Node) (number moment timeout : ℕ) (command : Command) (size : ℕ) (pair : DiskPair D F) (node : Node) (file : Option WalFile) (e : TurnError) → IsOpen first told means pair n file → (size ≤ 8388608 → IsReadable command) → node ≡ n → IsOwn e
        → Did first told means (proposed first n number moment timeout command size) pair pair n node file (Err e)
    did_not_propose law n number moment timeout command size pair node file e opened readable same own = by (nat_lt max_command_bytes size) refl
      where
        under : nat_lt max_command_bytes size ≡ false → size ≤ 8388608
        under fails = grind (arith, nat_tests)

        by : (b : Bool) → nat_lt max_command_bytes size ≡ b → Did first told means (cond b (says n number (Refused (EntryTooLarge size))) (appended_for first n number moment timeout (record { term = n.raft.term; command = command }))) pair pair n node file (Err e)
        by true is = did_rest first told means law (says n number (Refused (EntryTooLarge size))) pair n node file (Err e) opened refl refl tt tt same own
        by false is =
            did_not_append first told means law n (record { term = n.raft.term; command = command }) (record { index = length n.raft.log + 1; number = number; asked = moment; timeout = timeout; position = 0; sequence = None } ∷ []) n.queue pair node file e opened (readable (under is)) same (own_is_no_disk e own)

    -- a turn that answers
    pub did_say : (IsTrue told → (base : Base) (old new : DiskPair D F) (wal : WalFile) (stored : Stored) → IsCurrent means base old wal stored → OnlyRoom means old new wal → EachSinceGives means base old new stored)
        → (t : Turn) (pair : DiskPair D F) (n node : Node) (file : Option WalFile) (result : Result Effects TurnError) → IsOpen first told means pair n file → SaysAt n t → node ≡ n → IfOk result (Brings t) → IfErr result IsOwn
        → Did first told means t pair pair n node file result
    did_say law t pair n node file (Ok effects) opened quiet same brings own = did_rest first told means law t pair n node file (Ok effects) opened quiet.stored (ap persistent_of quiet.node) (same ∙ sym quiet.node) brings tt tt
    did_say law t pair n node file (Err e) opened quiet same brings own = did_rest first told means law t pair n node file (Err e) opened quiet.stored (ap persistent_of quiet.node) tt tt same own

    pub did_say_so : (IsTrue told → (base : Base) (old new : DiskPair D F) (wal : WalFile) (stored : Stored) → IsCurrent means base old wal stored → OnlyRoom means old new wal → EachSinceGives means base old new stored)
        → (t u : Turn) (pair : DiskPair D F) (n node : Node) (file : Option WalFile) (result : Result Effects TurnError) → IsOpen first told means pair n file → t ≡ u → SaysAt n u → node ≡ n → IfOk result (Brings u) → IfErr result IsOwn
        → Did first told means t pair pair n node file result
    did_say_so law t u pair n node file result opened is quiet same brings own =
        subst (λ (v : Turn). Did first told means v pair pair n node file result) (sym is) (did_say law u pair n node file result opened quiet same brings own)
