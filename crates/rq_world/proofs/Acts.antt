-- Each act of a node is a turn of rq_raft, and so a list of moves.
use Rattle.std.proofs.Common.{◌≡◌, ℕ, suc, zero, ◌&&◌, not, Bool, true, false, cond, List, [], ◌∷◌, length, ◌+◌, Option, Some, None, refl, ap, sym, subst, ◌∙◌}
use Rattle.std.specs.Prelude.{◌==◌, nat_lt, nat_le, drop, bytes_eq, slice_get}
use Rattle.rq_statement.specs.Statements.{Statements}
use Rattle.rq_statement.specs.declared.item.Item.{Item}
use Rattle.rq_request.specs.declared.say.Say.TheVariants.{Refused}
use Rattle.rq_request.specs.declared.say.NodeRefusal.TheVariants.{NoLeader, Stale, EntryTooLarge, QueuedTooLarge, QueueFull}
use Rattle.rq_statement.specs.Bytes.{command_bytes}
use Rattle.rq_history.specs.History.{NodeId, History}
use Rattle.rq_raft.specs.Node.{RaftNode, Message, VoteAsk, VoteSay, Append, AppendSay, Install, InstallSay, Packet, StoredRecord, Vote, RaftTurn, unchanged as raft_quiet, same_vote, all_stored, is_leader}
use Rattle.rq_raft.specs.Lead as lead
use Rattle.rq_raft.specs.Vote as vote
use Rattle.rq_raft.specs.Deliver as deliver
use Rattle.rq_raft.specs.Install as install
use Rattle.rq_raft.specs.Truth.{MessageIsTrue, PacketsAreTrue, Refines, IsMoves}
use Rattle.rq_world.specs.declared.log_entry.LogEntry.{LogEntry}
use Rattle.rq_statement.specs.declared.command.Command.{Command}
use Rattle.rq_statement.specs.declared.command.Command.TheVariants.{Execute, StrongQuery}
use Rattle.rq_world.specs.declared.waiting.Waiting.{Waiting}
use Rattle.rq_request.specs.declared.ask.Level.{Level}
use Rattle.rq_request.specs.declared.ask.Level.TheVariants as level
use Rattle.rq_world.specs.Node.{QueuedWrite, Node, log_entries, Turn, unchanged, says, replica_of}
use Rattle.rq_world.specs.Reads.{begin, is_stale, limit_of}
use Rattle.rq_world.specs.Rules.{max_command_bytes, stays_on, steps_down, raft_turn, reads, counts, with_reads, receive, max_queued_bytes, queue_capacity, max_batch, appends, appended_for, enqueued, if_not_full, if_not_too_large, enqueue, batch, batch_waits, batch_entry, flushed, flush, proposed, if_leads, query, query_if_fresh, begun, read, tick, applied_raft, applied_command, applied_entry, apply, write, write_command}
use Rattle.rq_world.specs.World.{Write, Queue, Read, Act, Ask, Elect, Beat, Flush, Apply, Compact, Deliver, Tick, Idle, act}
use Rattle.rq_world.proofs.Tests.{if_case, eq_self, id_self, id_true}
use Rattle.rq_world.proofs.Given.{Given, Run}

-- the turn is one of rq_raft
pub record IsTurnOf (n : Node) (t : Turn) (r : RaftTurn LogEntry) : Type 0 where
  pub node : t.node.raft ≡ r.node
  pub durable_is : t.stored ≡ all_stored n.raft r
  pub packets : t.packets ≡ r.packets

pub record Acts (g : Given) (h : History LogEntry) (i : NodeId) (n : Node) (t : Turn) : Type 0 where
  pub raft : RaftTurn LogEntry
  pub is : IsTurnOf n t raft
  pub moves : IsMoves log_entries g.first h i n.raft raft

same_self : (v : Option NodeId) → same_vote v v ≡ true
same_self None = refl
same_self (Some a) = id_self a

quiet_stores : (n m : RaftNode LogEntry) → m.term ≡ n.term → m.vote ≡ n.vote → all_stored n (raft_quiet m) ≡ []
quiet_stores n m e v = go ((n.term == m.term) && same_vote n.vote m.vote) both
  where
    both : ((n.term == m.term) && same_vote n.vote m.vote) ≡ true
    both = rw (e, v) (rw (eq_self n.term, same_self n.vote) refl)

    go : (b : Bool) → b ≡ true → cond {A = List (StoredRecord LogEntry)} b [] (Vote m.term m.vote ∷ []) ≡ []
    go true q = refl
    go false q = absurd (cc)

module _ (g : Given) where
  turned_acts : (h : History LogEntry) (i : NodeId) (n : Node) (r : RaftTurn LogEntry) → IsMoves log_entries g.first h i n.raft r → Acts g h i n (raft_turn n r)
  turned_acts h i n r m = record {
    raft = r;
    moves = m;
    is = if_case (λ (t : Turn). IsTurnOf n t r) (is_leader n.raft.role && not (is_leader r.node.role)) (steps_down n r) (stays_on n r)
        (λ e. record { node = refl; durable_is = refl; packets = refl }) (λ e. record { node = refl; durable_is = refl; packets = refl });
  }

  -- nothing of the Raft part changes
  same_acts : (h : History LogEntry) (i : NodeId) (n : Node) (t : Turn) → Run g h → Refines log_entries h i n.raft → t.node.raft ≡ n.raft → t.stored ≡ [] → t.packets ≡ [] → Acts g h i n t
  same_acts h i n t l f a b c = record {
    raft = raft_quiet n.raft;
    moves = g.moves.idles h i n.raft l f;
    is = record { node = a; durable_is = b ∙ sym (quiet_stores n.raft n.raft refl refl); packets = c };
  }

  -- an entry of the node's term is proposed
  appends_acts : (h : History LogEntry) (i : NodeId) (n : Node) (entry : LogEntry) (waits : List Waiting) (queue : List QueuedWrite) → entry.term ≡ n.raft.term → Run g h → Refines log_entries h i n.raft → Acts g h i n (appends g.first n entry waits queue)
  appends_acts h i n entry waits queue term l f = record {
    raft = lead.propose log_entries g.first n.raft entry;
    is = record { node = refl; durable_is = refl; packets = refl };
    moves = g.moves.proposes h i n.raft entry l f term (λ e. absurd (cc));
  }

  proposed_acts : (h : History LogEntry) (i : NodeId) (n : Node) (number moment timeout : ℕ) (command : Command) (size : ℕ) → Run g h → Refines log_entries h i n.raft → Acts g h i n (proposed g.first n number moment timeout command size)
  proposed_acts h i n number moment timeout command size l f = if_case (Acts g h i n) (nat_lt max_command_bytes size) (says n number (Refused (EntryTooLarge size))) (appended_for g.first n number moment timeout (record { term = n.raft.term; command = command }))
      (λ q. same_acts h i n (says n number (Refused (EntryTooLarge size))) l f refl refl refl)
      (λ q. appends_acts h i n (record { term = n.raft.term; command = command }) (record { index = length n.raft.log + 1; number = number; asked = moment; timeout = timeout; position = 0; sequence = None } ∷ []) n.queue refl l f)

  led_acts : (h : History LogEntry) (i : NodeId) (n : Node) (number : ℕ) (t : Turn) → Run g h → Refines log_entries h i n.raft → Acts g h i n t → Acts g h i n (if_leads g.first n number t)
  led_acts h i n number t l f a = if_case (Acts g h i n) (is_leader n.raft.role) t (says n number (Refused (NoLeader n.raft.term))) (λ q. a) (λ q. same_acts h i n (says n number (Refused (NoLeader n.raft.term))) l f refl refl refl)

  reads_acts : (h : History LogEntry) (i : NodeId) (n : Node) (t : Turn) → Acts g h i n t → Acts g h i n (reads g.first t)
  reads_acts h i n t a = record { raft = a.raft; is = record { node = a.is.node; durable_is = a.is.durable_is; packets = a.is.packets }; moves = a.moves }

  begun_acts : (h : History LogEntry) (i : NodeId) (n : Node) (number moment timeout : ℕ) (items : List Item) → Run g h → Refines log_entries h i n.raft → Acts g h i n (begun g.first n number moment timeout items (begin g.first n.raft))
  begun_acts h i n number moment timeout items l f = record { raft = begin g.first n.raft; is = record { node = refl; durable_is = refl; packets = refl }; moves = g.moves.beats h i n.raft l f }

  fresh_acts : (h : History LogEntry) (i : NodeId) (n : Node) (number moment : ℕ) (items : List Item) (limit : Option ℕ) → Run g h → Refines log_entries h i n.raft → Acts g h i n (query_if_fresh g.first n number moment items limit)
  fresh_acts h i n number moment items limit l f = if_case (Acts g h i n) (is_stale n.raft limit moment) (says n number (Refused (Stale n.raft.contact moment (limit_of limit)))) (query g.first n number items)
      (λ q. same_acts h i n (says n number (Refused (Stale n.raft.contact moment (limit_of limit)))) l f refl refl refl)
      (λ q. same_acts h i n (query g.first n number items) l f refl refl refl)

  read_acts : (h : History LogEntry) (i : NodeId) (n : Node) (number moment timeout : ℕ) (items : List Item) (l : Level) (limit : Option ℕ) → Run g h → Refines log_entries h i n.raft → Acts g h i n (read g.first n number moment timeout items l limit)
  read_acts h i n number moment timeout items level.None limit l f = fresh_acts h i n number moment items limit l f
  read_acts h i n number moment timeout items level.Weak limit l f = led_acts h i n number (query g.first n number items) l f (same_acts h i n (query g.first n number items) l f refl refl refl)
  read_acts h i n number moment timeout items level.Linearizable limit l f =
      let t = begun g.first n number moment timeout items (begin g.first n.raft) in
      led_acts h i n number (reads g.first t) l f (reads_acts h i n t (begun_acts h i n number moment timeout items l f))
  read_acts h i n number moment timeout items level.Strong limit l f =
      let size = length (command_bytes (StrongQuery items)) in
      led_acts h i n number (proposed g.first n number moment timeout (StrongQuery items) size) l f (proposed_acts h i n number moment timeout (StrongQuery items) size l f)

  write_acts : (h : History LogEntry) (i : NodeId) (n : Node) (number moment timeout : ℕ) (list : Statements) (mixed : Bool) → Run g h → Refines log_entries h i n.raft → Acts g h i n (write g.first n number moment timeout list mixed)
  write_acts h i n number moment timeout list mixed l f =
      let command = write_command list mixed in
      let size = length (command_bytes command) in
      led_acts h i n number (proposed g.first n number moment timeout command size) l f (proposed_acts h i n number moment timeout command size l f)

  queued_acts : (h : History LogEntry) (i : NodeId) (n : Node) (number moment timeout : ℕ) (list : Statements) (waits : Bool) → Run g h → Refines log_entries h i n.raft → Acts g h i n (enqueue g.first n number moment timeout list waits)
  queued_acts h i n number moment timeout list waits l f =
      let size = length (command_bytes (Execute list)) in
      let held = length n.queue in
      let t = enqueued g.first n number moment timeout list waits in
      led_acts h i n number (if_not_too_large g.first n number size (if_not_full g.first n number t)) l f
      (if_case (Acts g h i n) (nat_lt max_queued_bytes size) (says n number (Refused (QueuedTooLarge size))) (if_not_full g.first n number t)
      (λ _. same_acts h i n (says n number (Refused (QueuedTooLarge size))) l f refl refl refl)
      (λ _. if_case (Acts g h i n) (nat_le queue_capacity held) (says n number (Refused (QueueFull held))) t (λ _. same_acts h i n (says n number (Refused (QueueFull held))) l f refl refl refl) (λ _. same_acts h i n t l f refl refl refl)))

  flush_acts : (h : History LogEntry) (i : NodeId) (n : Node) → Run g h → Refines log_entries h i n.raft → Acts g h i n (flush g.first n)
  flush_acts h i n l f = if_case (Acts g h i n) (is_leader n.raft.role && nat_lt 0 (length n.queue)) (flushed g.first n) (unchanged n)
      (λ _. appends_acts h i n (batch_entry g.first n) (batch_waits g.first (length n.raft.log + 1) 0 (batch g.first n)) (drop max_batch n.queue) refl l f)
      (λ _. same_acts h i n (unchanged n) l f refl refl refl)

  apply_acts : (h : History LogEntry) (i : NodeId) (n : Node) → Run g h → Refines log_entries h i n.raft → Acts g h i n (apply g.first n)
  apply_acts h i n l f = go (nat_lt n.raft.applied n.raft.commit) refl
    where
      applied : RaftNode LogEntry
      applied = deliver.applied_next n.raft

      stores : applied ≡ applied_raft n → all_stored n.raft (raft_quiet applied) ≡ []
      stores e = quiet_stores n.raft applied (ap (λ (m : RaftNode LogEntry). m.term) e) (ap (λ (m : RaftNode LogEntry). m.vote) e)

      next : (o : Option LogEntry) → applied ≡ applied_raft n → Acts g h i n (applied_entry g.first n o)
      next None e = same_acts h i n (unchanged n) l f refl refl refl
      next (Some entry) e = reads_acts h i n (applied_command n entry.command)
          (record { raft = raft_quiet applied; moves = g.moves.applies h i n.raft l f; is = record { node = sym e; durable_is = sym (stores e); packets = refl } })

      go : (b : Bool) → nat_lt n.raft.applied n.raft.commit ≡ b → Acts g h i n (cond b (applied_entry g.first n (slice_get n.raft.log n.raft.applied)) (unchanged n))
      go true e = next (slice_get n.raft.log n.raft.applied) (ap (λ (b : Bool). cond b (applied_raft n) n.raft) e)
      go false e = same_acts h i n (unchanged n) l f refl refl refl

  pub told_at : (h : History LogEntry) (ps : List (Packet LogEntry)) (k : ℕ) → PacketsAreTrue log_entries h ps → (o : Option (Packet LogEntry)) → slice_get ps k ≡ o → (p : Packet LogEntry) → o ≡ Some p → MessageIsTrue log_entries h p p.message
  told_at h [] k all o e p q = absurd (cc)
  told_at h (x ∷ ps) zero all o e p q =
      let xp : x ≡ p = cc in
      subst (λ (w : Packet LogEntry). MessageIsTrue log_entries h w w.message) xp all.0
  told_at h (x ∷ ps) (suc k) all o e p q = told_at h ps k all.1 o e p q

  receive_acts : (h : History LogEntry) (i : NodeId) (n : Node) (ps : List (Packet LogEntry)) (moment k : ℕ) → Run g h → Refines log_entries h i n.raft → PacketsAreTrue log_entries h ps → (o : Option (Packet LogEntry)) → slice_get ps k ≡ o → Acts g h i n (receive g.first n moment o)
  receive_acts h i n ps moment k l f all None e = same_acts h i n (unchanged n) l f refl refl refl
  receive_acts h i n ps moment k l f all (Some p) e = if_case (Acts g h i n) (bytes_eq p.to n.raft.id) (with_reads g.first n p p.message (raft_turn n (deliver.receive log_entries g.first n.raft moment p))) (unchanged n)
      (λ q. with_acts p.message (raft_turn n (deliver.receive log_entries g.first n.raft moment p)) (turned_acts h i n (deliver.receive log_entries g.first n.raft moment p) (g.moves.receives h i n.raft moment p l f (id_true p.to n.raft.id q) (told_at h ps k all (Some p) e p refl))))
      (λ q. same_acts h i n (unchanged n) l f refl refl refl)
    where
      with_acts : (m : Message LogEntry) (t : Turn) → Acts g h i n t → Acts g h i n (with_reads g.first n p m t)
      with_acts (VoteAsk last_index last_term) t a = a
      with_acts (VoteSay granted) t a = a
      with_acts (Append prev prev_term commit probe es) t a = a
      with_acts (AppendSay ok at probe) t a = if_case (Acts g h i n) (counts g.first n p at) (reads g.first t) t (λ _. reads_acts h i n t a) (λ _. a)
      with_acts (Install probe list) t a = if_case (Acts g h i n) (nat_lt n.raft.applied t.node.raft.applied) (record t { node = record t.node { replica = replica_of g.first list } }) t
          (λ _. record { raft = a.raft; is = record { node = a.is.node; durable_is = a.is.durable_is; packets = a.is.packets }; moves = a.moves }) (λ _. a)
      with_acts (InstallSay at probe) t a = if_case (Acts g h i n) (counts g.first n p at) (reads g.first t) t (λ _. reads_acts h i n t a) (λ _. a)

  pub act_acts : (h : History LogEntry) (i : NodeId) (n : Node) (ps : List (Packet LogEntry)) (moment : ℕ) (a : Act) → Run g h → Refines log_entries h i n.raft → PacketsAreTrue log_entries h ps → Acts g h i n (act g.first ps moment n a)
  act_acts h i n ps moment (Ask number timeout (Write list mixed)) l f all = write_acts h i n number moment timeout list mixed l f
  act_acts h i n ps moment (Ask number timeout (Queue list wait)) l f all = queued_acts h i n number moment timeout list wait l f
  act_acts h i n ps moment (Ask number timeout (Read items level limit)) l f all = read_acts h i n number moment timeout items level limit l f
  act_acts h i n ps moment Elect l f all = turned_acts h i n (vote.elect log_entries g.first n.raft) (g.moves.elects h i n.raft l f)
  act_acts h i n ps moment Beat l f all = turned_acts h i n (lead.beat log_entries g.first n.raft) (g.moves.beats h i n.raft l f)
  act_acts h i n ps moment Flush l f all = flush_acts h i n l f
  act_acts h i n ps moment Apply l f all = apply_acts h i n l f
  act_acts h i n ps moment Compact l f all = turned_acts h i n (install.compact n.raft) (g.moves.compacts h i n.raft l f)
  act_acts h i n ps moment (Deliver k) l f all = receive_acts h i n ps moment k l f all (slice_get ps k) refl
  act_acts h i n ps moment Tick l f all = same_acts h i n (tick n moment) l f refl refl refl
  act_acts h i n ps moment Idle l f all = same_acts h i n (unchanged n) l f refl refl refl
