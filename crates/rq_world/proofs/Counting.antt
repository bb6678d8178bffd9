-- How often a number waits at a node, and how often it is answered: an act leaves of both together what waited before, and an ask's own number.
use Rattle.std.proofs.Common.{◌≡◌, ℕ, zero, suc, ◌+◌, ◌&&◌, nat_eq, List, [], ◌∷◌, ◌++◌, length, map, take, drop, slice_get, Bool, true, false, cond, if◌then◌else◌, Option, Some, None, refl, ◌∙◌, arith}
use Rattle.std.specs.Prelude.{nat_lt, nat_le, not, bytes_eq, ◌==◌}
use Rattle.rq_statement.specs.Statements.{Statements}
use Rattle.rq_statement.specs.declared.item.Item.{Item}
use Rattle.rq_engine.specs.declared.outcome.Outcome.{Outcome}
use Rattle.rq_engine.specs.Fold.{answer, run}
use Rattle.rq_statement.specs.Bytes.{command_bytes}
use Rattle.rq_wire.specs.declared.config.Member.{Member}
use Rattle.rq_raft.specs.Node.{Message, VoteAsk, VoteSay, Append, AppendSay, Install, InstallSay, Packet, RaftTurn, is_leader}
use Rattle.rq_raft.specs.Vote as vote
use Rattle.rq_raft.specs.Lead as lead
use Rattle.rq_raft.specs.Deliver as deliver
use Rattle.rq_raft.specs.Install as install
use Rattle.rq_request.specs.declared.say.Say.{Say}
use Rattle.rq_request.specs.declared.say.Say.TheVariants.{Results, Refused}
use Rattle.rq_request.specs.declared.say.NodeRefusal.TheVariants.{NoLeader, Lost, Timeout, Stale, EntryTooLarge, QueuedTooLarge, QueueFull}
use Rattle.rq_request.specs.declared.say.Answer.{Answer}
use Rattle.rq_world.specs.declared.log_entry.LogEntry.{LogEntry}
use Rattle.rq_statement.specs.declared.command.Command.{Command}
use Rattle.rq_statement.specs.declared.command.Command.TheVariants.{Execute, StrongQuery}
use Rattle.rq_request.specs.declared.ask.Level.{Level}
use Rattle.rq_request.specs.declared.ask.Level.TheVariants as level
use Rattle.rq_world.specs.declared.waiting.Waiting.{Waiting}
use Rattle.rq_world.specs.Node.{PendingRead, QueuedWrite, Node, log_entries, Turn, unchanged, says, replica_of}
use Rattle.rq_world.specs.Reads.{begin, is_due, is_stale, limit_of}
use Rattle.rq_world.specs.Rules.{max_command_bytes, max_queued_bytes, queue_capacity, max_batch, inserted, by_number, lost_all, waiting_numbers, queued_numbers, is_expired, expired_waiting, expired_reads, live_waiting, live_reads, expired_queued, live_queue, tick, stays_on, steps_down, raft_turn, due_answers, not_due, reads, counts, with_reads, receive, appended_for, proposed, if_leads, enqueued, if_not_full, if_not_too_large, batch_waits, batch, flushed, flush, query, begun, read, said, answered, still_waiting, applied_command, applied_entry, apply, write_command}
use Rattle.rq_world.specs.World.{Op, Write, Queue, Read, Act, Ask, Elect, Beat, Flush, Apply, Compact, Deliver, Tick, Idle, act}
use Rattle.rq_world.specs.Asks.{times, all_waiting, asked_numbers, EachTurnKeepsAsks}
use Rattle.rq_world.proofs.Tests.{if_case}

-- ---- counts

unfoldable pub one : ℕ → ℕ → ℕ
one x k = cond (nat_eq k x) 1 0

module _ (x : ℕ) where
  abbrev pub in_list : List ℕ → ℕ
  in_list [] = 0
  in_list (k ∷ ks) = one x k + in_list ks

  abbrev pub in_answers : List Answer → ℕ
  in_answers [] = 0
  in_answers (a ∷ more) = one x a.number + in_answers more

  abbrev pub in_waiting : List Waiting → ℕ
  in_waiting [] = 0
  in_waiting (w ∷ ws) = one x w.number + in_waiting ws

  abbrev pub in_reads : List PendingRead → ℕ
  in_reads [] = 0
  in_reads (r ∷ rs) = one x r.pass.id + in_reads rs

  abbrev pub if_waits : Bool → ℕ → ℕ
  if_waits true k = one x k
  if_waits false k = 0

  abbrev pub in_queue : List QueuedWrite → ℕ
  in_queue [] = 0
  in_queue (q ∷ qs) = if_waits q.waits q.number + in_queue qs

  -- how often the number waits at the node
  abbrev pub in_node : Node → ℕ
  in_node n = in_waiting n.waiting + (in_reads n.pending_reads + in_queue n.queue)

  abbrev pub in_act : Act → ℕ
  in_act (Ask number timeout op) = one x number
  in_act Elect = 0
  in_act Beat = 0
  in_act Flush = 0
  in_act Apply = 0
  in_act Compact = 0
  in_act (Deliver k) = 0
  in_act Tick = 0
  in_act Idle = 0

  -- what waits behind a turn, and what it answers, is this together
  abbrev pub Balances : ℕ → Turn → Type 0
  Balances all t = in_node t.node + in_answers t.answers ≡ all

  -- ---- lists

  answers_both : (a b : List Answer) → in_answers (a ++ b) ≡ in_answers a + in_answers b
  answers_both [] b = omega arith
  answers_both (y ∷ a) b = let h = answers_both a b in omega (arith, h)

  waiting_both : (a b : List Waiting) → in_waiting (a ++ b) ≡ in_waiting a + in_waiting b
  waiting_both [] b = omega arith
  waiting_both (y ∷ a) b = let h = waiting_both a b in omega (arith, h)

  reads_both : (a b : List PendingRead) → in_reads (a ++ b) ≡ in_reads a + in_reads b
  reads_both [] b = omega arith
  reads_both (y ∷ a) b = let h = reads_both a b in omega (arith, h)

  queue_both : (a b : List QueuedWrite) → in_queue (a ++ b) ≡ in_queue a + in_queue b
  queue_both [] b = omega arith
  queue_both (y ∷ a) b = let h = queue_both a b in omega (arith, h)

  list_both : (a b : List ℕ) → in_list (a ++ b) ≡ in_list a + in_list b
  list_both [] b = omega arith
  list_both (y ∷ a) b = let h = list_both a b in omega (arith, h)

  queue_cut : (n : ℕ) (qs : List QueuedWrite) → in_queue (take n qs) + in_queue (drop n qs) ≡ in_queue qs
  queue_cut zero qs = omega arith
  queue_cut (suc n) [] = omega arith
  queue_cut (suc n) (q ∷ qs) = let h = queue_cut n qs in omega (arith, h)

  inserted_once : (a : Answer) (l : List Answer) → in_answers (inserted a l) ≡ one x a.number + in_answers l
  inserted_once a [] = refl
  inserted_once a (b ∷ l) = if_case (λ (m : List Answer). in_answers m ≡ one x a.number + (one x b.number + in_answers l)) (nat_lt a.number b.number) (a ∷ b ∷ l) (b ∷ inserted a l)
      (λ _. refl)
      (λ _. let h = inserted_once a l in omega (arith, h))

  sorted_same : (l : List Answer) → in_answers (by_number l) ≡ in_answers l
  sorted_same [] = refl
  sorted_same (a ∷ l) = let h = sorted_same l in let i = inserted_once a (by_number l) in omega (arith, h, i)

  -- ---- what a leader that steps down answers

  lost_said : (term now : ℕ) (ks : List ℕ) → in_answers (map (λ (number : ℕ). record { number = number; say = Refused (Lost term now) }) ks) ≡ in_list ks
  lost_said term now [] = refl
  lost_said term now (k ∷ ks) = let h = lost_said term now ks in omega (arith, h)

  waiting_list : (ws : List Waiting) → in_list (map (λ (w : Waiting). w.number) ws) ≡ in_waiting ws
  waiting_list [] = refl
  waiting_list (w ∷ ws) = let h = waiting_list ws in omega (arith, h)

  reads_list : (rs : List PendingRead) → in_list (map (λ (r : PendingRead). r.pass.id) rs) ≡ in_reads rs
  reads_list [] = refl
  reads_list (r ∷ rs) = let h = reads_list rs in omega (arith, h)

  lost_same : (term now : ℕ) (n : Node) → in_answers (lost_all term now (waiting_numbers n)) ≡ in_waiting n.waiting + in_reads n.pending_reads
  lost_same term now n =
      let s = sorted_same (map (λ (number : ℕ). record { number = number; say = Refused (Lost term now) }) (waiting_numbers n)) in
      let l = lost_said term now (waiting_numbers n) in
      let b = list_both (map (λ (w : Waiting). w.number) n.waiting) (map (λ (r : PendingRead). r.pass.id) n.pending_reads) in
      let w = waiting_list n.waiting in
      let r = reads_list n.pending_reads in
      omega (arith, s, l, b, w, r)

  raft_balances : (n : Node) (t : RaftTurn LogEntry) → Balances (in_node n) (raft_turn n t)
  raft_balances n t = if_case (Balances (in_node n)) (is_leader n.raft.role && not (is_leader t.node.role)) (steps_down n t) (stays_on n t)
      (λ _. let l = lost_same n.raft.term t.node.term n in omega (arith, l))
      (λ _. omega arith)

  -- ---- a tick

  tick_waiting : (now : ℕ) (ws : List Waiting) → in_answers (expired_waiting now ws) + in_waiting (live_waiting now ws) ≡ in_waiting ws
  tick_waiting now [] = omega arith
  tick_waiting now (w ∷ ws) = go (tick_waiting now ws) (is_expired now w.asked w.timeout)
    where
      go : in_answers (expired_waiting now ws) + in_waiting (live_waiting now ws) ≡ in_waiting ws → (b : Bool)
          → in_answers (cond b (record { number = w.number; say = Refused (Timeout w.asked now) } ∷ expired_waiting now ws) (expired_waiting now ws)) + in_waiting (cond b (live_waiting now ws) (w ∷ live_waiting now ws)) ≡ one x w.number + in_waiting ws
      go h true = omega (arith, h)
      go h false = omega (arith, h)

  tick_reads : (now : ℕ) (rs : List PendingRead) → in_answers (expired_reads now rs) + in_reads (live_reads now rs) ≡ in_reads rs
  tick_reads now [] = omega arith
  tick_reads now (r ∷ rs) = go (tick_reads now rs) (is_expired now r.asked r.timeout)
    where
      go : in_answers (expired_reads now rs) + in_reads (live_reads now rs) ≡ in_reads rs → (b : Bool)
          → in_answers (cond b (record { number = r.pass.id; say = Refused (Timeout r.asked now) } ∷ expired_reads now rs) (expired_reads now rs)) + in_reads (cond b (live_reads now rs) (r ∷ live_reads now rs)) ≡ one x r.pass.id + in_reads rs
      go h true = omega (arith, h)
      go h false = omega (arith, h)

  tick_queue : (now : ℕ) (qs : List QueuedWrite) → in_answers (expired_queued now qs) + in_queue (live_queue now qs) ≡ in_queue qs
  tick_queue now [] = omega arith
  tick_queue now (q ∷ qs) = go (tick_queue now qs) q.waits (is_expired now q.asked q.timeout)
    where
      go : in_answers (expired_queued now qs) + in_queue (live_queue now qs) ≡ in_queue qs → (w b : Bool)
          → in_answers (cond (w && b) (record { number = q.number; say = Refused (Timeout q.asked now) } ∷ expired_queued now qs) (expired_queued now qs))
          + (if_waits (cond (w && b) (record q { waits = false }) (record q { waits = w })).waits (cond (w && b) (record q { waits = false }) (record q { waits = w })).number + in_queue (live_queue now qs))
          ≡ if_waits w q.number + in_queue qs
      go h true true = omega (arith, h)
      go h true false = omega (arith, h)
      go h false b = omega (arith, h)

  tick_balances : (n : Node) (now : ℕ) → Balances (in_node n) (tick n now)
  tick_balances n now =
      let s = sorted_same (expired_waiting now n.waiting ++ (expired_reads now n.pending_reads ++ expired_queued now n.queue)) in
      let b = answers_both (expired_waiting now n.waiting) (expired_reads now n.pending_reads ++ expired_queued now n.queue) in
      let c = answers_both (expired_reads now n.pending_reads) (expired_queued now n.queue) in
      let w = tick_waiting now n.waiting in
      let r = tick_reads now n.pending_reads in
      let q = tick_queue now n.queue in
      omega (arith, s, b, c, w, r, q)

  -- ---- an apply

  applied_waiting : (index : ℕ) (results : Outcome) (ws : List Waiting) → in_answers (answered index results ws) + in_waiting (still_waiting index ws) ≡ in_waiting ws
  applied_waiting index results [] = omega arith
  applied_waiting index results (w ∷ ws) = go (applied_waiting index results ws) (w.index == index)
    where
      go : in_answers (answered index results ws) + in_waiting (still_waiting index ws) ≡ in_waiting ws → (b : Bool)
          → in_answers (cond b (record { number = w.number; say = said results w.sequence } ∷ answered index results ws) []) + in_waiting (cond b (still_waiting index ws) (w ∷ ws)) ≡ one x w.number + in_waiting ws
      go h true = omega (arith, h)
      go h false = omega arith

  applied_balances : (n : Node) (command : Command) → Balances (in_node n) (applied_command n command)
  applied_balances n command = let w = applied_waiting (n.raft.applied + 1) (run n.replica command).1 n.waiting in omega (arith, w)

  module _ (first : List Member) where
    -- ---- a batch

    batch_same : (index position : ℕ) (qs : List QueuedWrite) → in_waiting (batch_waits first index position qs) ≡ in_queue qs
    batch_same index position [] = refl
    batch_same index position (q ∷ qs) = go (batch_same index (position + 1) qs) q.waits
      where
        go : in_waiting (batch_waits first index (position + 1) qs) ≡ in_queue qs → (b : Bool)
            → in_waiting (cond b (record { index = index; number = q.number; asked = q.asked; timeout = q.timeout; position = position; sequence = Some q.sequence } ∷ batch_waits first index (position + 1) qs) (batch_waits first index (position + 1) qs)) ≡ if_waits b q.number + in_queue qs
        go h true = omega (arith, h)
        go h false = omega (arith, h)

    -- ---- reads that are due

    due_same : (n : Node) (rs : List PendingRead) → in_answers (due_answers first n rs) + in_reads (not_due first n rs) ≡ in_reads rs
    due_same n [] = omega arith
    due_same n (r ∷ rs) = go (due_same n rs) (is_due first n.raft r.pass)
      where
        go : in_answers (due_answers first n rs) + in_reads (not_due first n rs) ≡ in_reads rs → (b : Bool)
            → in_answers (cond b (record { number = r.pass.id; say = Results (answer n.replica r.items) } ∷ due_answers first n rs) (due_answers first n rs)) + in_reads (cond b (not_due first n rs) (r ∷ not_due first n rs)) ≡ one x r.pass.id + in_reads rs
        go h true = omega (arith, h)
        go h false = omega (arith, h)

    reads_balances : (most : ℕ) (t : Turn) → Balances most t → Balances most (reads first t)
    reads_balances most t within =
        let b = answers_both t.answers (due_answers first t.node t.node.pending_reads) in
        let d = due_same t.node t.node.pending_reads in
        omega (arith, within, b, d)

    -- ---- packets

    with_reads_balances : (n : Node) (p : Packet LogEntry) (m : Message LogEntry) (t : Turn) → Balances (in_node n) t → Balances (in_node n) (with_reads first n p m t)
    with_reads_balances n p (VoteAsk i term) t within = within
    with_reads_balances n p (VoteSay granted) t within = within
    with_reads_balances n p (Append prev term commit probe es) t within = within
    with_reads_balances n p (AppendSay ok at probe) t within = if_case (Balances (in_node n)) (counts first n p at) (reads first t) t (λ _. reads_balances (in_node n) t within) (λ _. within)
    with_reads_balances n p (Install probe list) t within = if_case (Balances (in_node n)) (nat_lt n.raft.applied t.node.raft.applied) (record t { node = record t.node { replica = replica_of first list } }) t (λ _. within) (λ _. within)
    with_reads_balances n p (InstallSay at probe) t within = if_case (Balances (in_node n)) (counts first n p at) (reads first t) t (λ _. reads_balances (in_node n) t within) (λ _. within)

    quiet_balances : (n : Node) → Balances (in_node n) (unchanged n)
    quiet_balances n = omega arith

    receive_balances : (n : Node) (moment : ℕ) (p : Option (Packet LogEntry)) → Balances (in_node n) (receive first n moment p)
    receive_balances n moment None = quiet_balances n
    receive_balances n moment (Some p) = if_case (Balances (in_node n)) (bytes_eq p.to n.raft.id) (with_reads first n p p.message (raft_turn n (deliver.receive log_entries first n.raft moment p))) (unchanged n)
        (λ _. with_reads_balances n p p.message (raft_turn n (deliver.receive log_entries first n.raft moment p)) (raft_balances n (deliver.receive log_entries first n.raft moment p)))
        (λ _. quiet_balances n)

    -- ---- flush and apply

    flushed_balances : (n : Node) → Balances (in_node n) (flushed first n)
    flushed_balances n =
        let w = waiting_both n.waiting (batch_waits first (length n.raft.log + 1) 0 (batch first n)) in
        let b = batch_same (length n.raft.log + 1) 0 (batch first n) in
        let c = queue_cut max_batch n.queue in
        omega (arith, w, b, c)

    flush_balances : (n : Node) → Balances (in_node n) (flush first n)
    flush_balances n = if_case (Balances (in_node n)) (is_leader n.raft.role && nat_lt 0 (length n.queue)) (flushed first n) (unchanged n) (λ _. flushed_balances n) (λ _. quiet_balances n)

    entry_balances : (n : Node) (entry : Option LogEntry) → Balances (in_node n) (applied_entry first n entry)
    entry_balances n None = quiet_balances n
    entry_balances n (Some entry) = reads_balances (in_node n) (applied_command n entry.command) (applied_balances n entry.command)

    apply_balances : (n : Node) → Balances (in_node n) (apply first n)
    apply_balances n = if_case (Balances (in_node n)) (nat_lt n.raft.applied n.raft.commit) (applied_entry first n (slice_get n.raft.log n.raft.applied)) (unchanged n)
        (λ _. entry_balances n (slice_get n.raft.log n.raft.applied)) (λ _. quiet_balances n)

    -- ---- asks

    says_balances : (n : Node) (number : ℕ) (say : Say) → Balances (in_node n + one x number) (says n number say)
    says_balances n number say = omega arith

    if_leads_balances : (n : Node) (number : ℕ) (t : Turn) → Balances (in_node n + one x number) t → Balances (in_node n + one x number) (if_leads first n number t)
    if_leads_balances n number t within = if_case (Balances (in_node n + one x number)) (is_leader n.raft.role) t (says n number (Refused (NoLeader n.raft.term))) (λ _. within) (λ _. says_balances n number (Refused (NoLeader n.raft.term)))

    appended_balances : (n : Node) (number moment timeout : ℕ) (entry : LogEntry) → Balances (in_node n + one x number) (appended_for first n number moment timeout entry)
    appended_balances n number moment timeout entry =
        let w = waiting_both n.waiting (record { index = length n.raft.log + 1; number = number; asked = moment; timeout = timeout; position = 0; sequence = None } ∷ []) in
        omega (arith, w)

    proposed_balances : (n : Node) (number moment timeout : ℕ) (command : Command) (size : ℕ) → Balances (in_node n + one x number) (proposed first n number moment timeout command size)
    proposed_balances n number moment timeout command size = if_case (Balances (in_node n + one x number)) (nat_lt max_command_bytes size) (says n number (Refused (EntryTooLarge size))) (appended_for first n number moment timeout (record { term = n.raft.term; command = command }))
        (λ _. says_balances n number (Refused (EntryTooLarge size))) (λ _. appended_balances n number moment timeout (record { term = n.raft.term; command = command }))

    enqueued_balances : (n : Node) (number moment timeout : ℕ) (list : Statements) (waits : Bool) → Balances (in_node n + one x number) (enqueued first n number moment timeout list waits)
    enqueued_balances n number moment timeout list true =
        let q = queue_both n.queue (record { sequence = n.last + 1; number = number; list = list; waits = true; asked = moment; timeout = timeout } ∷ []) in
        omega (arith, q)
    enqueued_balances n number moment timeout list false =
        let q = queue_both n.queue (record { sequence = n.last + 1; number = number; list = list; waits = false; asked = moment; timeout = timeout } ∷ []) in
        omega (arith, q)

    full_balances : (n : Node) (number : ℕ) (t : Turn) → Balances (in_node n + one x number) t → Balances (in_node n + one x number) (if_not_full first n number t)
    full_balances n number t within = if_case (Balances (in_node n + one x number)) (nat_le queue_capacity (length n.queue)) (says n number (Refused (QueueFull (length n.queue)))) t (λ _. says_balances n number (Refused (QueueFull (length n.queue)))) (λ _. within)

    large_balances : (n : Node) (number size : ℕ) (t : Turn) → Balances (in_node n + one x number) t → Balances (in_node n + one x number) (if_not_too_large first n number size t)
    large_balances n number size t within = if_case (Balances (in_node n + one x number)) (nat_lt max_queued_bytes size) (says n number (Refused (QueuedTooLarge size))) t (λ _. says_balances n number (Refused (QueuedTooLarge size))) (λ _. within)

    begun_balances : (n : Node) (number moment timeout : ℕ) (items : List Item) (t : RaftTurn LogEntry) → Balances (in_node n + one x number) (begun first n number moment timeout items t)
    begun_balances n number moment timeout items t =
        let r = reads_both n.pending_reads (record { pass = Rattle.rq_world.specs.Reads.pass_of n.raft number; items = items; asked = moment; timeout = timeout } ∷ []) in
        omega (arith, r)

    read_balances : (n : Node) (number moment timeout : ℕ) (items : List Item) (l : Level) (limit : Option ℕ) → Balances (in_node n + one x number) (read first n number moment timeout items l limit)
    read_balances n number moment timeout items level.None limit = if_case (Balances (in_node n + one x number)) (is_stale n.raft limit moment) (says n number (Refused (Stale n.raft.contact moment (limit_of limit)))) (query first n number items)
        (λ _. says_balances n number (Refused (Stale n.raft.contact moment (limit_of limit)))) (λ _. says_balances n number (Results (answer n.replica items)))
    read_balances n number moment timeout items level.Weak limit = if_leads_balances n number (query first n number items) (says_balances n number (Results (answer n.replica items)))
    read_balances n number moment timeout items level.Linearizable limit = if_leads_balances n number (reads first (begun first n number moment timeout items (begin first n.raft)))
        (reads_balances (in_node n + one x number) (begun first n number moment timeout items (begin first n.raft)) (begun_balances n number moment timeout items (begin first n.raft)))
    read_balances n number moment timeout items level.Strong limit = if_leads_balances n number (proposed first n number moment timeout (StrongQuery items) (length (command_bytes (StrongQuery items))))
        (proposed_balances n number moment timeout (StrongQuery items) (length (command_bytes (StrongQuery items))))

    asked_balances : (n : Node) (number moment timeout : ℕ) (op : Op) → Balances (in_node n + one x number) (Rattle.rq_world.specs.World.asked first n number moment timeout op)
    asked_balances n number moment timeout (Write list mixed) = if_leads_balances n number (proposed first n number moment timeout (write_command list mixed) (length (command_bytes (write_command list mixed)))) (proposed_balances n number moment timeout (write_command list mixed) (length (command_bytes (write_command list mixed))))
    asked_balances n number moment timeout (Queue list waits) = if_leads_balances n number (if_not_too_large first n number (length (command_bytes (Execute list))) (if_not_full first n number (enqueued first n number moment timeout list waits)))
        (large_balances n number (length (command_bytes (Execute list))) (if_not_full first n number (enqueued first n number moment timeout list waits)) (full_balances n number (enqueued first n number moment timeout list waits) (enqueued_balances n number moment timeout list waits)))
    asked_balances n number moment timeout (Read items l limit) = read_balances n number moment timeout items l limit

    -- ---- each act

    none_more : (n : Node) (t : Turn) → Balances (in_node n) t → Balances (in_node n + 0) t
    none_more n t within = omega (arith, within)

    pub act_balances : (sent : List (Packet LogEntry)) (moment : ℕ) (n : Node) (a : Act) → Balances (in_node n + in_act a) (act first sent moment n a)
    act_balances sent moment n (Ask number timeout op) = asked_balances n number moment timeout op
    act_balances sent moment n Elect = none_more n (raft_turn n (vote.elect log_entries first n.raft)) (raft_balances n (vote.elect log_entries first n.raft))
    act_balances sent moment n Beat = none_more n (raft_turn n (lead.beat log_entries first n.raft)) (raft_balances n (lead.beat log_entries first n.raft))
    act_balances sent moment n Flush = none_more n (flush first n) (flush_balances n)
    act_balances sent moment n Apply = none_more n (apply first n) (apply_balances n)
    act_balances sent moment n Compact = none_more n (raft_turn n (install.compact n.raft)) (raft_balances n (install.compact n.raft))
    act_balances sent moment n (Deliver k) = none_more n (receive first n moment (slice_get sent k)) (receive_balances n moment (slice_get sent k))
    act_balances sent moment n Tick = none_more n (tick n moment) (tick_balances n moment)
    act_balances sent moment n Idle = none_more n (unchanged n) (quiet_balances n)

-- ---- counts of lists of numbers

module _ (x : ℕ) where
  times_list : (ks : List ℕ) → times x ks ≡ in_list x ks
  unfolding one
  times_list [] = refl
  times_list (k ∷ ks) = by (times_list ks) (nat_eq k x)
    where
      by : times x ks ≡ in_list x ks → (b : Bool) → (if b then suc (times x ks) else times x ks) ≡ cond b 1 0 + in_list x ks
      by h true = omega (arith, h)
      by h false = omega (arith, h)

  queued_list : (qs : List QueuedWrite) → in_list x (queued_numbers qs) ≡ in_queue x qs
  queued_list [] = refl
  queued_list (q ∷ qs) = by (queued_list qs) q.waits
    where
      by : in_list x (queued_numbers qs) ≡ in_queue x qs → (b : Bool) → in_list x (if b then q.number ∷ queued_numbers qs else queued_numbers qs) ≡ if_waits x b q.number + in_queue x qs
      by h true = omega (arith, h)
      by h false = omega (arith, h)

  node_list : (n : Node) → times x (all_waiting n) ≡ in_node x n
  node_list n =
      let t = times_list (all_waiting n) in
      let a = list_both x (waiting_numbers n) (queued_numbers n.queue) in
      let b = list_both x (map (λ (w : Waiting). w.number) n.waiting) (map (λ (r : PendingRead). r.pass.id) n.pending_reads) in
      let w = waiting_list x n.waiting in
      let r = reads_list x n.pending_reads in
      let q = queued_list n.queue in
      omega (arith, t, a, b, w, r, q)

  answers_list : (given : List Answer) → times x (map (λ (a : Answer). a.number) given) ≡ in_answers x given
  answers_list given = times_list (map (λ (a : Answer). a.number) given) ∙ by given
    where
      by : (l : List Answer) → in_list x (map (λ (a : Answer). a.number) l) ≡ in_answers x l
      by [] = refl
      by (a ∷ l) = let h = by l in omega (arith, h)

  act_list : (a : Act) → times x (asked_numbers a) ≡ in_act x a
  act_list (Ask number timeout op) = let t = times_list (number ∷ []) in omega (arith, t)
  act_list Elect = refl
  act_list Beat = refl
  act_list Flush = refl
  act_list Apply = refl
  act_list Compact = refl
  act_list (Deliver k) = refl
  act_list Tick = refl
  act_list Idle = refl

pub each_turn_keeps_asks : (first : List Member) → EachTurnKeepsAsks first
each_turn_keeps_asks first sent moment n a x =
    let t = act first sent moment n a in
    let before = node_list x n in
    let after = node_list x t.node in
    let given = answers_list x t.answers in
    let asked = act_list x a in
    let b = act_balances x first sent moment n a in
    omega (arith, before, after, given, asked, b)
