-- The rules of a node, as docs/RAFT.md has them: those of rq_raft, and asks, answers and the replica.
use Rattle.std.specs.Prelude.{ℕ, ◌+◌, ◌==◌, nat_lt, nat_le, not, ◌&&◌, if◌then◌else◌, bytes_eq, List, [], ◌∷◌, ◌++◌, length, map, take, drop, slice_get, Bool, true, false, Option, Some, None}
use Rattle.rq_statement.specs.declared.item.Item.{Item}
use Rattle.rq_statement.specs.Statements.{Statements}
use Rattle.rq_request.specs.declared.say.Say.TheVariants.{Results, Queued, Loaded, Changed, Refused}
use Rattle.rq_request.specs.declared.say.NodeRefusal.TheVariants.{NoLeader, Lost, Timeout, Stale, EntryTooLarge, QueuedTooLarge, QueueFull}
use Rattle.rq_request.specs.declared.say.Say.{Say}
use Rattle.rq_request.specs.declared.say.Answer.{Answer}
use Rattle.rq_engine.specs.declared.outcome.Outcome.{Outcome}
use Rattle.rq_engine.specs.declared.outcome.Outcome.TheVariants as outcomes
use Rattle.rq_engine.specs.Fold.{run, answer}
use Rattle.rq_statement.specs.Bytes.{command_bytes}
use Rattle.rq_wire.specs.declared.config.Member.{Member}
use Rattle.rq_history.specs.History.{NodeId}
use Rattle.rq_raft.specs.Node.{RaftNode, Message, VoteAsk, VoteSay, Append, AppendSay, Install, InstallSay, Packet, Persistent, Boot, RaftTurn, is_leader, all_stored, started as raft_started}
use Rattle.rq_raft.specs.Lead as lead
use Rattle.rq_raft.specs.Vote as vote
use Rattle.rq_raft.specs.Deliver as deliver
use Rattle.rq_raft.specs.Install as install
use Rattle.rq_world.specs.declared.log_entry.LogEntry.{LogEntry}
use Rattle.rq_statement.specs.declared.command.Command.{Command}
use Rattle.rq_statement.specs.declared.command.Command.TheVariants.{Execute, Request, StrongQuery, Batch}
use Rattle.rq_request.specs.declared.ask.Level.{Level}
use Rattle.rq_request.specs.declared.ask.Level.TheVariants as level
use Rattle.rq_world.specs.declared.waiting.Waiting.{Waiting}
use Rattle.rq_world.specs.Node.{PendingRead, QueuedWrite, Node, log_entries, Turn, unchanged, says, replica_of}
use Rattle.rq_world.specs.Reads.{pass_of, begin, is_due, is_stale, limit_of}

-- the most bytes of an entry's command
abbrev pub max_command_bytes : ℕ
max_command_bytes = 8388608

-- the most bytes of one queued list, spelled as the command Execute; the most lists in a queue, and in a batch
abbrev pub max_queued_bytes : ℕ
max_queued_bytes = 64000

abbrev pub queue_capacity : ℕ
queue_capacity = 1024

abbrev pub max_batch : ℕ
max_batch = 128

-- ---- what waits

-- in rising order of numbers
abbrev pub inserted : Answer → List Answer → List Answer
inserted a [] = a ∷ []
inserted a (b ∷ bs) = if nat_lt a.number b.number then a ∷ b ∷ bs else b ∷ inserted a bs

abbrev pub by_number : List Answer → List Answer
by_number [] = []
by_number (a ∷ more) = inserted a (by_number more)

-- what waits for its entry or its pass is lost: it was asked in this term, and the node's term is now that one
abbrev pub lost_all : ℕ → ℕ → List ℕ → List Answer
lost_all term now numbers = by_number (map (λ (number : ℕ). record { number = number; say = Refused (Lost term now) }) numbers)

abbrev pub waiting_numbers : Node → List ℕ
waiting_numbers n = map (λ (w : Waiting). w.number) n.waiting ++ map (λ (r : PendingRead). r.pass.id) n.pending_reads

-- the asks in the queue that wait
abbrev pub queued_numbers : List QueuedWrite → List ℕ
queued_numbers [] = []
queued_numbers (q ∷ qs) = if q.waits then q.number ∷ queued_numbers qs else queued_numbers qs

-- Tick: each ask that has waited as long as it may is answered so
abbrev pub is_expired : ℕ → ℕ → ℕ → Bool
is_expired now asked timeout = nat_le (asked + timeout) now

abbrev pub expired_waiting : ℕ → List Waiting → List Answer
expired_waiting now [] = []
expired_waiting now (w ∷ ws) = if is_expired now w.asked w.timeout then record { number = w.number; say = Refused (Timeout w.asked now) } ∷ expired_waiting now ws else expired_waiting now ws

abbrev pub expired_reads : ℕ → List PendingRead → List Answer
expired_reads now [] = []
expired_reads now (r ∷ rs) = if is_expired now r.asked r.timeout then record { number = r.pass.id; say = Refused (Timeout r.asked now) } ∷ expired_reads now rs else expired_reads now rs

abbrev pub live_waiting : ℕ → List Waiting → List Waiting
live_waiting now [] = []
live_waiting now (w ∷ ws) = if is_expired now w.asked w.timeout then live_waiting now ws else w ∷ live_waiting now ws

abbrev pub live_reads : ℕ → List PendingRead → List PendingRead
live_reads now [] = []
live_reads now (r ∷ rs) = if is_expired now r.asked r.timeout then live_reads now rs else r ∷ live_reads now rs

-- a queued write stays in the queue without its wait
abbrev pub queued_is_expired : ℕ → QueuedWrite → Bool
queued_is_expired now q = q.waits && is_expired now q.asked q.timeout

abbrev pub expired_queued : ℕ → List QueuedWrite → List Answer
expired_queued now [] = []
expired_queued now (q ∷ qs) = if queued_is_expired now q then record { number = q.number; say = Refused (Timeout q.asked now) } ∷ expired_queued now qs else expired_queued now qs

abbrev pub live_queue : ℕ → List QueuedWrite → List QueuedWrite
live_queue now [] = []
live_queue now (q ∷ qs) = (if queued_is_expired now q then record q { waits = false } else q) ∷ live_queue now qs

abbrev pub tick : Node → ℕ → Turn
tick n now = record (unchanged (record n { waiting = live_waiting now n.waiting; pending_reads = live_reads now n.pending_reads; queue = live_queue now n.queue })) {
  answers = by_number (expired_waiting now n.waiting ++ (expired_reads now n.pending_reads ++ expired_queued now n.queue));
}

-- a rule of rq_raft at a node: where it leaves the role of leader, all that waits is lost; what is queued stays
abbrev pub stays_on : Node → RaftTurn LogEntry → Turn
stays_on n t = record { node = record n { raft = t.node }; stored = all_stored n.raft t; packets = t.packets; answers = [] }

abbrev pub steps_down : Node → RaftTurn LogEntry → Turn
steps_down n t = record { node = record n { raft = t.node; waiting = []; pending_reads = [] }; stored = all_stored n.raft t; packets = t.packets; answers = lost_all n.raft.term t.node.term (waiting_numbers n) }

abbrev pub raft_turn : Node → RaftTurn LogEntry → Turn
raft_turn n t = if is_leader n.raft.role && not (is_leader t.node.role) then steps_down n t else stays_on n t

-- ---- what an ask is appended as

-- a mixed list may read too
abbrev pub write_command : Statements → Bool → Command
write_command list false = Execute list
write_command list true = Request list

module _ (first : List Member) where
  abbrev pub elect : Node → Turn
  elect n = raft_turn n (vote.elect log_entries first n.raft)

  abbrev pub beat : Node → Turn
  beat n = raft_turn n (lead.beat log_entries first n.raft)

  -- ---- Reads: each read whose pass is due is answered, in their order; the others wait on

  abbrev pub due_answers : Node → List PendingRead → List Answer
  due_answers n [] = []
  due_answers n (r ∷ rs) = if is_due first n.raft r.pass then record { number = r.pass.id; say = Results (answer n.replica r.items) } ∷ due_answers n rs else due_answers n rs

  abbrev pub not_due : Node → List PendingRead → List PendingRead
  not_due n [] = []
  not_due n (r ∷ rs) = if is_due first n.raft r.pass then not_due n rs else r ∷ not_due n rs

  abbrev pub reads : Turn → Turn
  reads t = record t { node = record t.node { pending_reads = not_due t.node t.node.pending_reads }; answers = t.answers ++ due_answers t.node t.node.pending_reads }

  -- Deliver: to whom it was sent; a reply that counts may make a pass ready, and a snapshot may be taken in
  abbrev pub counts : Node → Packet LogEntry → ℕ → Bool
  counts n p at = is_leader n.raft.role && lead.takes_reply n.raft p at

  -- a snapshot that was taken in: the replica is what its entries make
  abbrev pub restored : Node → List LogEntry → Turn → Turn
  restored n list t = if nat_lt n.raft.applied t.node.raft.applied then record t { node = record t.node { replica = replica_of first list } } else t

  abbrev pub with_reads : Node → Packet LogEntry → Message LogEntry → Turn → Turn
  with_reads n p (VoteAsk last_index last_term) t = t
  with_reads n p (VoteSay granted) t = t
  with_reads n p (Append prev prev_term commit probe es) t = t
  with_reads n p (AppendSay ok at probe) t = if counts n p at then reads t else t
  with_reads n p (Install probe list) t = restored n list t
  with_reads n p (InstallSay at probe) t = if counts n p at then reads t else t

  abbrev pub receive : Node → ℕ → Option (Packet LogEntry) → Turn
  receive n moment None = unchanged n
  receive n moment (Some p) = if bytes_eq p.to n.raft.id then with_reads n p p.message (raft_turn n (deliver.receive log_entries first n.raft moment p)) else unchanged n

  -- ---- asks that need an entry: refused where the node doesn't lead, and where the command is too large; else proposed, and answered when it is applied

  -- an entry is appended, for which these wait, and this queue is left
  abbrev pub appends : Node → LogEntry → List Waiting → List QueuedWrite → Turn
  appends n entry waits queue =
      let t = lead.propose log_entries first n.raft entry in
      record { node = record n { raft = t.node; waiting = n.waiting ++ waits; queue = queue }; stored = all_stored n.raft t; packets = t.packets; answers = [] }

  abbrev pub appended_for : Node → ℕ → ℕ → ℕ → LogEntry → Turn
  appended_for n number moment timeout entry = appends n entry (record { index = length n.raft.log + 1; number = number; asked = moment; timeout = timeout; position = 0; sequence = None } ∷ []) n.queue

  abbrev pub proposed : Node → ℕ → ℕ → ℕ → Command → ℕ → Turn
  proposed n number moment timeout command size =
      if nat_lt max_command_bytes size then says n number (Refused (EntryTooLarge size)) else appended_for n number moment timeout (record { term = n.raft.term; command = command })

  abbrev pub if_leads : Node → ℕ → Turn → Turn
  if_leads n number t = if is_leader n.raft.role then t else says n number (Refused (NoLeader n.raft.term))

  abbrev pub write : Node → ℕ → ℕ → ℕ → Statements → Bool → Turn
  write n number moment timeout list mixed = if_leads n number (proposed n number moment timeout (write_command list mixed) (length (command_bytes (write_command list mixed))))

  -- ---- the queue: a queued ask is refused where its list is too large or the queue is full, else it gets the next sequence number; it is answered at once where it doesn't wait

  abbrev pub immediate_answer : Bool → ℕ → ℕ → List Answer
  immediate_answer true number sequence = []
  immediate_answer false number sequence = record { number = number; say = Queued sequence } ∷ []

  abbrev pub enqueued : Node → ℕ → ℕ → ℕ → Statements → Bool → Turn
  enqueued n number moment timeout list waits = record (unchanged (record n {
    queue = n.queue ++ record { sequence = n.last + 1; number = number; list = list; waits = waits; asked = moment; timeout = timeout } ∷ [];
    last = n.last + 1;
  })) { answers = immediate_answer waits number (n.last + 1) }

  abbrev pub if_not_full : Node → ℕ → Turn → Turn
  if_not_full n number t = if nat_le queue_capacity (length n.queue) then says n number (Refused (QueueFull (length n.queue))) else t

  abbrev pub if_not_too_large : Node → ℕ → ℕ → Turn → Turn
  if_not_too_large n number size t = if nat_lt max_queued_bytes size then says n number (Refused (QueuedTooLarge size)) else t

  abbrev pub enqueue : Node → ℕ → ℕ → ℕ → Statements → Bool → Turn
  enqueue n number moment timeout list waits = if_leads n number (if_not_too_large n number (length (command_bytes (Execute list))) (if_not_full n number (enqueued n number moment timeout list waits)))

  -- Flush: the first of the queue are appended as one entry, and those of them that wait, wait for it
  abbrev pub batch_waits : ℕ → ℕ → List QueuedWrite → List Waiting
  batch_waits index position [] = []
  batch_waits index position (q ∷ qs) =
      if q.waits
      then record { index = index; number = q.number; asked = q.asked; timeout = q.timeout; position = position; sequence = Some q.sequence } ∷ batch_waits index (position + 1) qs
      else batch_waits index (position + 1) qs

  abbrev pub batch : Node → List QueuedWrite
  batch n = take max_batch n.queue

  abbrev pub batch_entry : Node → LogEntry
  batch_entry n = record { term = n.raft.term; command = Batch (map (λ (q : QueuedWrite). q.list) (batch n)) }

  abbrev pub flushed : Node → Turn
  flushed n = appends n (batch_entry n) (batch_waits (length n.raft.log + 1) 0 (batch n)) (drop max_batch n.queue)

  abbrev pub flush : Node → Turn
  flush n = if is_leader n.raft.role && nat_lt 0 (length n.queue) then flushed n else unchanged n

  -- ---- reads

  -- the answer of the node's own replica
  abbrev pub query : Node → ℕ → List Item → Turn
  query n number items = says n number (Results (answer n.replica items))

  abbrev pub query_if_fresh : Node → ℕ → ℕ → List Item → Option ℕ → Turn
  query_if_fresh n number moment items limit = if is_stale n.raft limit moment then says n number (Refused (Stale n.raft.contact moment (limit_of limit))) else query n number items

  -- a pass is begun: it is the last of those that wait
  abbrev pub begun : Node → ℕ → ℕ → ℕ → List Item → RaftTurn LogEntry → Turn
  begun n number moment timeout items t = record {
    node = record n { raft = t.node; pending_reads = n.pending_reads ++ record { pass = pass_of n.raft number; items = items; asked = moment; timeout = timeout } ∷ [] };
    stored = all_stored n.raft t;
    packets = t.packets;
    answers = [];
  }

  abbrev pub read : Node → ℕ → ℕ → ℕ → List Item → Level → Option ℕ → Turn
  read n number moment timeout items level.None limit = query_if_fresh n number moment items limit
  read n number moment timeout items level.Weak limit = if_leads n number (query n number items)
  read n number moment timeout items level.Linearizable limit = if_leads n number (reads (begun n number moment timeout items (begin first n.raft)))
  read n number moment timeout items level.Strong limit = if_leads n number (proposed n number moment timeout (StrongQuery items) (length (command_bytes (StrongQuery items))))

-- ---- Apply

-- What an ask is told whose entry has this outcome. Of a list that was sent on and came too late nothing is run;
-- no ask waits for such a list yet.
abbrev pub say_of : Outcome → Say
say_of (outcomes.Results results) = Results results
say_of outcomes.Loaded = Loaded
say_of outcomes.Nothing = Changed
say_of outcomes.Stale = Results []

-- the first of the asks that wait, as far as they wait for this index, are answered: with the outcome, or of a batch with their sequence numbers, in rising order of these
abbrev pub said : Outcome → Option ℕ → Say
said outcome None = say_of outcome
said outcome (Some sequence) = Queued sequence

abbrev pub answered : ℕ → Outcome → List Waiting → List Answer
answered index outcome [] = []
answered index outcome (w ∷ ws) = if w.index == index then record { number = w.number; say = said outcome w.sequence } ∷ answered index outcome ws else []

abbrev pub still_waiting : ℕ → List Waiting → List Waiting
still_waiting index [] = []
still_waiting index (w ∷ ws) = if w.index == index then still_waiting index ws else w ∷ ws

-- the next committed entry is applied, and the asks that wait for it are answered; then Reads
abbrev pub applied_raft : Node → RaftNode LogEntry
applied_raft n = record n.raft { applied = n.raft.applied + 1 }

abbrev pub applied_command : Node → Command → Turn
applied_command n command = record (unchanged (record n {
  raft = applied_raft n;
  replica = (run n.replica command).0;
  waiting = still_waiting (n.raft.applied + 1) n.waiting;
})) { answers = answered (n.raft.applied + 1) (run n.replica command).1 n.waiting }

-- Compact: what is applied is in the snapshot
abbrev pub compact : Node → Turn
compact n = raft_turn n (install.compact n.raft)

module _ (first : List Member) where
  abbrev pub applied_entry : Node → Option LogEntry → Turn
  applied_entry n None = unchanged n
  applied_entry n (Some entry) = reads first (applied_command n entry.command)

  abbrev pub apply : Node → Turn
  apply n = if nat_lt n.raft.applied n.raft.commit then applied_entry n (slice_get n.raft.log n.raft.applied) else unchanged n

  -- Start: the node boots once more, with what it keeps
  abbrev pub started : NodeId → Persistent LogEntry → Turn
  started id kept = record (unchanged (record {
    raft = raft_started id kept;
    boot = kept.boot + 1;
    waiting = [];
    pending_reads = [];
    queue = [];
    last = 0;
    replica = replica_of first (take kept.base kept.log);
  })) { stored = Boot (kept.boot + 1) ∷ [] }
