-- Each moment of each run is kept.
use Rattle.std.proofs.Common.{◌≡◌, ◌⊎◌, ◌<◌, ◌≤◌, ℕ, ◌+◌, ◌-◌, ◌&&◌, not, List, [], ◌∷◌, ◌++◌, length, take, slice_get, Bool, true, false, cond, Option, Some, None, refl, sym, ◌∙◌, ap, subst, append_assoc, inl, inr, ⊎_elim, arith}
use Rattle.std.specs.Prelude.{nat_lt, nat_le, nat_eq, bytes_eq, max}
use Rattle.std.proofs.lemmas.Bool.{cases_lt}
use Rattle.std.proofs.lemmas.List.{append-nil, length-take, length-take-le, take-take}
use Rattle.rq_statement.specs.Statements.{Statements}
use Rattle.rq_statement.specs.declared.item.Item.{Item}
use Rattle.rq_wire.specs.declared.config.Member.{Member}
use Rattle.rq_request.specs.declared.say.Say.{Say}
use Rattle.rq_request.specs.declared.say.Say.TheVariants.{Results, Queued, Refused}
use Rattle.rq_request.specs.declared.say.NodeRefusal.TheVariants.{NoLeader, Stale, EntryTooLarge, QueuedTooLarge, QueueFull}
use Rattle.rq_statement.specs.declared.res.Res.{Res}
use Rattle.rq_engine.specs.Fold.{State}
use Rattle.rq_statement.specs.Bytes.{command_bytes}
use Rattle.rq_engine.specs.Fold.{answer}
use Rattle.rq_history.specs.History.{NodeId, IsPrefixOf}
use Rattle.rq_raft.specs.declared.role.Role.{Role}
use Rattle.rq_raft.specs.declared.role.Role.TheVariants.{Follower, Candidate, Leader}
use Rattle.rq_raft.specs.Node.{RaftNode, Message, VoteAsk, VoteSay, Append, AppendSay, Install, InstallSay, Packet, unchanged as raft_quiet, StoredRecord, Persistent, persistent_after, RaftTurn, is_leader, one_of}
use Rattle.rq_raft.specs.Lead as lead
use Rattle.rq_raft.specs.Vote as vote
use Rattle.rq_raft.specs.Deliver as deliver
use Rattle.rq_raft.specs.Laws.{LeadOn, LeadsOn, Installed}
use Rattle.rq_raft.specs.Install as install
use Rattle.rq_world.specs.declared.log_entry.LogEntry.{LogEntry}
use Rattle.rq_statement.specs.declared.command.Command.{Command}
use Rattle.rq_statement.specs.declared.command.Command.TheVariants.{Execute, StrongQuery}
use Rattle.rq_request.specs.declared.ask.Level.{Level}
use Rattle.rq_request.specs.declared.ask.Level.TheVariants as level
use Rattle.rq_world.specs.Node.{Node, persistent_of, log_entries, Turn, unchanged, says, replica_of}
use Rattle.rq_world.specs.Reads.{pass_of, begin, is_stale, limit_of}
use Rattle.rq_world.specs.Rules.{max_command_bytes, max_queued_bytes, queue_capacity, max_batch, immediate_answer, enqueued, if_not_full, if_not_too_large, enqueue, batch, batch_waits, batch_entry, flushed, flush, stays_on, steps_down, raft_turn, reads, counts, with_reads, restored, due_answers, not_due, receive, appended_for, proposed, if_leads, query, begun, read, live_waiting, live_reads, tick, still_waiting, applied_command, applied_entry, apply, started, write, write_command}
use Rattle.rq_world.specs.World.{Op, Write, Queue, Read, Note, Asked, NodeState, Running, Down, World, Act, Ask, Elect, Beat, Flush, Apply, Compact, Deliver, Tick, Idle, Event, At, Stop, Fail, Start, FailStart, Clock, Run as Events, First, Then, turn, set_node, note_of, place_of, at_place, acted, noted, happens_at, stops_at, fails_at, starts_at, fails_start, members, world, chosen}
use Rattle.rq_world.specs.Promise.{IsPrefix, op_of, IsValue, IsResults, IsRight, number_of, asked_in, IsNew, IsNumbered, EachMomentIsKept}
use Rattle.rq_world.proofs.Tests.{if_case, and_true, lt_true, id_true, id_self}
use Rattle.rq_world.proofs.Given.{Given}
use Rattle.rq_world.proofs.Safety.{here, done, fits, been_prefixes, HasBeen, grows, holds}
use Rattle.rq_world.proofs.Prefixes.{begins_same, begins_more, begins_take, prefix_begins, get_last}
use Rattle.rq_world.proofs.Histories.{RightNote, AllRight, all_get, all_both, all_more, op_behind, places_both}
use Rattle.rq_world.proofs.Waits.{entry_of, AllWait, AllHeld, held_more, held_both, held_late, held_take, held_drop, Ascends, ascends_late, ascends_left, ascends_both, batch_from, batch_ascends, lists_of, batch_wait, wait_more, wait_both, wait_left, wait_late, read_late, late_right, AllRead, read_more, read_both, read_left, due_right, lost_right, folds, answers_right}

-- a running node is a replica, and what waits there waits for its own entry; who doesn't lead has nothing that waits
pub record Serves (first : List Member) (book : List Note) (n : Node) : Type 0 where
  pub replica : n.replica ≡ replica_of first (take n.raft.applied n.raft.log)
  pub waits : AllWait book n.raft.log n.raft.term n.waiting
  pub pending_reads : AllRead book n.pending_reads
  pub queue : AllHeld book n.queue
  pub order : Ascends n.waiting
  pub idle : (n.raft.role ≡ Leader → Prim.⊥) → (n.waiting ≡ []) × (n.pending_reads ≡ [])

module _ (g : Given) (lead_on : LeadOn log_entries g.first) where
  -- what is proved of each moment
  pub record Sound (run : Events) : Type 0 where
    pub members_only : (i : NodeId) (n : Node) → (world g.first run).nodes i ≡ Running n → one_of (members g.first) i ≡ true
    pub serve : (i : NodeId) (n : Node) → (world g.first run).nodes i ≡ Running n → Serves g.first (world g.first run).book n
    pub right : AllRight g.first (chosen g.first run) (world g.first run).book (world g.first run).book

  -- ---- prefixes

  less : (a b : List LogEntry) (n m : ℕ) → m ≤ n → take n a ≡ take n b → take m a ≡ take m b
  less a b n m le e = sym (take-take m n a le) ∙ ap (take m) e ∙ take-take m n b le

  -- what was applied before stands
  same_prefix : (run : Events) (e : Event) (i : NodeId) (n m : Node) → (world g.first run).nodes i ≡ Running n → (world g.first (Then run e)).nodes i ≡ Running m → (k : ℕ) → k ≤ n.raft.commit → k ≤ m.raft.commit → take k m.raft.log ≡ take k n.raft.log
  same_prefix run e i n m up up2 k a b = ⊎_elim
      (λ (lt : y.commit < x.commit). both y.log x.log y.commit x.commit b (omega arith) ly
      (been_prefixes g (Then run e) (take y.commit y.log) (take x.commit x.log) new old (omega (arith, ly, lx, lt))))
      (λ (ge : x.commit ≤ y.commit). sym (both x.log y.log x.commit y.commit a ge lx
      (been_prefixes g (Then run e) (take x.commit x.log) (take y.commit y.log) old new (omega (arith, lx, ly, ge)))))
      (cases_lt y.commit x.commit)
    where
      x : RaftNode LogEntry
      x = n.raft

      y : RaftNode LogEntry
      y = m.raft

      old : HasBeen g (Then run e) (take x.commit x.log)
      old = record { moment = run; past = inr (here g run); who = i; node = n; runs = up; same = refl }

      new : HasBeen g (Then run e) (take y.commit y.log)
      new = record { moment = Then run e; past = here g (Then run e); who = i; node = m; runs = up2; same = refl }

      lx : length (take x.commit x.log) ≡ x.commit
      lx = length-take-le x.commit x.log (fits g run run (here g run) i n up)

      ly : length (take y.commit y.log) ≡ y.commit
      ly = length-take-le y.commit y.log (fits g (Then run e) (Then run e) (here g (Then run e)) i m up2)

      both : (p q : List LogEntry) (c d : ℕ) → k ≤ c → c ≤ d → length (take c p) ≡ c → IsPrefixOf (take c p) (take d q) → take k p ≡ take k q
      both p q c d kc cd lp f =
          let f2 : take c (take d q) ≡ take c p = ap (λ (m : ℕ). take m (take d q)) (sym lp) ∙ f in
          let f3 : take c q ≡ take c p = sym (take-take c d q cd) ∙ f2 in
          less p q c k kc (sym f3)

  -- the one log has what a member has committed
  pub in_chosen : (run : Events) (i : NodeId) (n : Node) (k : ℕ) → one_of (members g.first) i ≡ true → (world g.first run).nodes i ≡ Running n → k ≤ n.raft.commit → take k (chosen g.first run) ≡ take k n.raft.log × (k ≤ length (chosen g.first run))
  in_chosen run i n k m up le =
      let f = holds g run i n m up in
      let len = length-take-le n.raft.commit n.raft.log (fits g run run (here g run) i n up) in
      let f2 : take n.raft.commit (chosen g.first run) ≡ take n.raft.commit n.raft.log = ap (λ (c : ℕ). take c (chosen g.first run)) (sym len) ∙ f in
      (less (chosen g.first run) n.raft.log n.raft.commit k le f2, omega (arith, le, ap length f2, length-take n.raft.commit (chosen g.first run), len))

  -- this is the Raft part of the node that runs there
  pub record IsUp (run : Events) (i : NodeId) (x : RaftNode LogEntry) : Type 0 where
    pub node : Node
    pub up : (world g.first run).nodes i ≡ Running node
    pub raft : node.raft ≡ x

  up_prefix : (run : Events) (e : Event) (i : NodeId) (n : Node) (x : RaftNode LogEntry) → (world g.first run).nodes i ≡ Running n → IsUp (Then run e) i x → (k : ℕ) → k ≤ n.raft.commit → k ≤ x.commit → take k x.log ≡ take k n.raft.log
  up_prefix run e i n x up u k a b = subst (λ (y : RaftNode LogEntry). k ≤ y.commit → take k y.log ≡ take k n.raft.log) u.raft (λ c. same_prefix run e i n u.node up u.up k a c) b

  pub up_chosen : (run : Events) (i : NodeId) (x : RaftNode LogEntry) (k : ℕ) → one_of (members g.first) i ≡ true → IsUp run i x → k ≤ x.commit → take k (chosen g.first run) ≡ take k x.log × (k ≤ length (chosen g.first run))
  up_chosen run i x k m u le = subst (λ (y : RaftNode LogEntry). k ≤ y.commit → take k (chosen g.first run) ≡ take k y.log × (k ≤ length (chosen g.first run))) u.raft (λ c. in_chosen run i u.node k m u.up c) le

  up_done : (run : Events) (i : NodeId) (x : RaftNode LogEntry) → IsUp run i x → x.applied ≤ x.commit
  up_done run i x u = subst (λ (y : RaftNode LogEntry). y.applied ≤ y.commit) u.raft (done g run i u.node u.up)

  -- ---- one act at a running node

  abbrev pub next : Events → NodeId → Act → Events
  next run i a = Then run (At i a)

  pub next_is : (run : Events) (i : NodeId) (n : Node) (a : Act) → (world g.first run).nodes i ≡ Running n → world g.first (next run i a) ≡ acted g.first (world g.first run) i n a (turn g.first (world g.first run) n a)
  next_is run i n a up = ap (happens_at g.first (world g.first run) i a) up

  pub next_up : (run : Events) (i : NodeId) (n : Node) (a : Act) → (world g.first run).nodes i ≡ Running n → (world g.first (next run i a)).nodes i ≡ Running (turn g.first (world g.first run) n a).node
  next_up run i n a up =
      ap (λ (x : World). x.nodes i) (next_is run i n a up)
      ∙ ap (λ (b : Bool). cond b (Running (turn g.first (world g.first run) n a).node) ((world g.first run).nodes i)) (id_self i)

  leads_not : (r : Role) → is_leader r ≡ false → r ≡ Leader → Prim.⊥
  leads_not r e q = let t : is_leader r ≡ true = ap is_leader q in cc

  leads_yes : (r : Role) → is_leader r ≡ true → r ≡ Leader
  leads_yes Follower e = absurd (cc)
  leads_yes Candidate e = absurd (cc)
  leads_yes Leader e = refl

  -- the number that is asked is this ask's
  pub number_is : (book : List Note) (number : ℕ) (asked : NodeId) (op : Op) (more : List Note) → op_of book number ≡ None → op_of (book ++ Asked number asked op ∷ more) number ≡ Some op
  number_is book number asked op more new = op_behind book (Asked number asked op ∷ more) number new ∙ ap (λ (b : Bool). cond b (Some op) (op_of more number)) (same number)
    where
      same : (k : ℕ) → nat_eq k k ≡ true
      same k = grind arith

  -- an act of a running member, in whose next world its node is that of this turn
  module _ (run : Events) (i : NodeId) (n : Node) (a : Act) (member : one_of (members g.first) i ≡ true) (up : (world g.first run).nodes i ≡ Running n) (s : Serves g.first (world g.first run).book n) where
    abbrev more : Turn → List Note
    more t = note_of g.first i a ++ at_place g.first (place_of g.first n a) t.answers

    abbrev book : Turn → List Note
    book t = (world g.first run).book ++ more t

    -- the turn's node serves, and what is noted is right
    pub record Did (t : Turn) : Type 0 where
      pub serves : Serves g.first (book t) t.node
      pub noted : AllRight g.first (chosen g.first (next run i a)) (book t) (more t)

    abbrev Performs : Turn → Type 0
    Performs t = IsUp (next run i a) i t.node.raft → Did t

    -- where as much was applied before and after, the applied first_part is the same
    same_applied : (t : Turn) → IsUp (next run i a) i t.node.raft → t.node.raft.applied ≡ n.raft.applied → take n.raft.applied t.node.raft.log ≡ take n.raft.applied n.raft.log
    same_applied t u e = up_prefix run (At i a) i n t.node.raft up u n.raft.applied (done g run i n up) (subst (λ (k : ℕ). k ≤ t.node.raft.commit) e (up_done (next run i a) i t.node.raft u))

    same_replica : (t : Turn) → IsUp (next run i a) i t.node.raft → t.node.raft.applied ≡ n.raft.applied → n.replica ≡ replica_of g.first (take t.node.raft.applied t.node.raft.log)
    same_replica t u e = s.replica ∙ ap (replica_of g.first) (sym (same_applied t u e)) ∙ ap (λ (k : ℕ). replica_of g.first (take k t.node.raft.log)) (sym e)

    still_waits : (t : Turn) → AllWait (book t) n.raft.log n.raft.term n.waiting
    still_waits t = wait_more (world g.first run).book (more t) n.raft.log n.raft.log n.raft.term n.waiting (begins_same n.raft.log) s.waits

    still_reads : (t : Turn) → AllRead (book t) n.pending_reads
    still_reads t = read_more (world g.first run).book (more t) n.pending_reads s.pending_reads

    still_held : (t : Turn) → AllHeld (book t) n.queue
    still_held t = held_more (world g.first run).book (more t) n.queue s.queue

    -- at a node that leads on
    waits_on : (t : Turn) (r : RaftTurn LogEntry) → LeadsOn log_entries g.first n.raft r → n.raft.role ≡ Leader → r.node.role ≡ Leader → AllWait (book t) r.node.log r.node.term n.waiting
    waits_on t r on p q =
        let k = on.1 p q in
        subst (λ (l : List LogEntry). AllWait (book t) l r.node.term n.waiting) (sym k.1) (subst (λ (u : ℕ). AllWait (book t) n.raft.log u n.waiting) (sym k.0) (still_waits t))

    -- a turn of rq_raft that applies nothing, in an act that asks nothing
    turned_does : (r : RaftTurn LogEntry) → note_of g.first i a ≡ [] → LeadsOn log_entries g.first n.raft r → Performs (raft_turn n r)
    turned_does r none on = if_case Performs (is_leader n.raft.role && not (is_leader r.node.role)) (steps_down n r) (stays_on n r) down stays
      where
        down : (is_leader n.raft.role && not (is_leader r.node.role)) ≡ true → Performs (steps_down n r)
        down e u = record {
          serves = record { replica = same_replica (steps_down n r) u on.0; waits = tt; pending_reads = tt; queue = still_held (steps_down n r); order = tt; idle = λ q. (refl, refl) };
          noted = all_both g.first (chosen g.first (next run i a)) (book (steps_down n r)) (note_of g.first i a) (at_place g.first (place_of g.first n a) (steps_down n r).answers)
              (subst (AllRight g.first (chosen g.first (next run i a)) (book (steps_down n r))) (sym none) tt)
              (lost_right g.first (chosen g.first (next run i a)) (book (steps_down n r)) n.raft.log n.raft.term (place_of g.first n a) n.raft.term r.node.term n (still_waits (steps_down n r)) (still_reads (steps_down n r)));
        }

        waits : (b c : Bool) → is_leader n.raft.role ≡ b → is_leader r.node.role ≡ c → (b && not c) ≡ false → AllWait (book (stays_on n r)) r.node.log r.node.term n.waiting × ((r.node.role ≡ Leader → Prim.⊥) → (n.waiting ≡ []) × (n.pending_reads ≡ []))
        waits true true p q e = (waits_on (stays_on n r) r on (leads_yes n.raft.role p) (leads_yes r.node.role q), λ no. absurd (no (leads_yes r.node.role q)))
        waits true false p q e = absurd (cc)
        waits false c p q e =
            let none = s.idle (leads_not n.raft.role p) in
            (subst (AllWait (book (stays_on n r)) r.node.log r.node.term) (sym none.0) tt, λ no. none)

        stays : (is_leader n.raft.role && not (is_leader r.node.role)) ≡ false → Performs (stays_on n r)
        stays e u =
            let k = waits (is_leader n.raft.role) (is_leader r.node.role) refl refl e in
            record {
              serves = record { replica = same_replica (stays_on n r) u on.0; waits = k.0; pending_reads = still_reads (stays_on n r); queue = still_held (stays_on n r); order = s.order; idle = k.1 };
              noted = all_both g.first (chosen g.first (next run i a)) (book (stays_on n r)) (note_of g.first i a) [] (subst (AllRight g.first (chosen g.first (next run i a)) (book (stays_on n r))) (sym none) tt) tt;
            }

    -- the node stays as it is
    idles : (t : Turn) → t.node ≡ n → Serves g.first (book t) t.node
    idles t e = subst (Serves g.first (book t)) (sym e) (record { replica = s.replica; waits = still_waits t; pending_reads = still_reads t; queue = still_held t; order = s.order; idle = s.idle })

    tick_does : (now : ℕ) → note_of g.first i a ≡ [] → Performs (tick n now)
    tick_does now none u =
        let t = tick n now in
        record {
          serves = record {
            replica = s.replica;
            waits = wait_late (book t) n.raft.log n.raft.term now n.waiting (still_waits t);
            pending_reads = read_late (book t) now n.pending_reads (still_reads t);
            queue = held_late (book t) now n.queue (still_held t);
            order = ascends_late now n.waiting s.order;
            idle = λ no. let p = s.idle no in (ap (live_waiting now) p.0, ap (live_reads now) p.1);
          };
          noted = all_both g.first (chosen g.first (next run i a)) (book t) (note_of g.first i a) (at_place g.first (place_of g.first n a) t.answers)
              (subst (AllRight g.first (chosen g.first (next run i a)) (book t)) (sym none) tt)
              (late_right g.first (chosen g.first (next run i a)) (book t) n.raft.log n.raft.term (place_of g.first n a) now n (still_waits t) (still_reads t) (still_held t));
        }

    quiet_does : note_of g.first i a ≡ [] → Performs (unchanged n)
    quiet_does none u = record {
      serves = idles (unchanged n) refl;
      noted = all_both g.first (chosen g.first (next run i a)) (book (unchanged n)) (note_of g.first i a) [] (subst (AllRight g.first (chosen g.first (next run i a)) (book (unchanged n))) (sym none) tt) tt;
    }

    -- Reads, where the place of the act's answers is how much its node has applied
    reads_do : (t : Turn) → place_of g.first n a ≡ t.node.raft.applied → Performs t → Performs (reads g.first t)
    reads_do t place does u =
        let d = does u in
        let k = up_chosen (next run i a) i t.node.raft t.node.raft.applied member u (up_done (next run i a) i t.node.raft u) in
        let left : AllRead (book t ++ due) (not_due g.first t.node t.node.pending_reads) = read_left g.first (book t ++ due) t.node t.node.pending_reads (read_more (book t) due t.node.pending_reads d.serves.pending_reads) in
        let waits = wait_more (book t) due t.node.raft.log t.node.raft.log t.node.raft.term t.node.waiting (begins_same t.node.raft.log) d.serves.waits in
        let right : AllRight g.first one_log (book t ++ due) due =
        due_right g.first one_log (book t ++ due) (place_of g.first n a) t.node t.node.pending_reads (omega (arith, place, k.1))
        (d.serves.replica ∙ ap (replica_of g.first) (sym k.0) ∙ ap (λ (j : ℕ). replica_of g.first (take j one_log)) (sym place))
        (read_more (book t) due t.node.pending_reads d.serves.pending_reads) in
        let noted : AllRight g.first one_log (book t ++ due) (more t ++ due) = all_both g.first one_log (book t ++ due) (more t) due (all_more g.first one_log one_log (book t) due (more t) (begins_same one_log) d.noted) right in
        record {
          serves = subst (λ (b : List Note). Serves g.first b (reads g.first t).node) (sym book_is) (record { replica = d.serves.replica; waits = waits; pending_reads = left; queue = held_more (book t) due t.node.queue d.serves.queue; order = d.serves.order; idle = λ no. let p = d.serves.idle no in (p.0, ap (not_due g.first t.node) p.1) });
          noted = subst (λ (b : List Note). AllRight g.first one_log b (more (reads g.first t))) (sym book_is) (subst (AllRight g.first one_log (book t ++ due)) (sym more_is) noted);
        }
      where
        one_log : List LogEntry
        one_log = chosen g.first (next run i a)

        due : List Note
        due = at_place g.first (place_of g.first n a) (due_answers g.first t.node t.node.pending_reads)

        more_is : more (reads g.first t) ≡ more t ++ due
        more_is = ap (λ (l : List Note). note_of g.first i a ++ l) (places_both g.first (place_of g.first n a) t.answers (due_answers g.first t.node t.node.pending_reads)) ∙ sym (append_assoc (note_of g.first i a) (at_place g.first (place_of g.first n a) t.answers) due)

        book_is : book (reads g.first t) ≡ book t ++ due
        book_is = ap (λ (l : List Note). (world g.first run).book ++ l) more_is ∙ sym (append_assoc (world g.first run).book (more t) due)

  -- ---- asks

  module _ (run : Events) (i : NodeId) (n : Node) (number timeout : ℕ) (member : one_of (members g.first) i ≡ true) (up : (world g.first run).nodes i ≡ Running n) (s : Serves g.first (world g.first run).book n) (new : op_of (world g.first run).book number ≡ None) where
    abbrev moment : ℕ
    moment = (world g.first run).moment

    abbrev AskDoes : Op → Turn → Type 0
    AskDoes op t = IsUp (next run i (Ask number timeout op)) i t.node.raft → Did run i n (Ask number timeout op) member up s t

    abbrev ask_book : Op → Turn → List Note
    ask_book op t = book run i n (Ask number timeout op) member up s t

    asked_is : (op : Op) (t : Turn) → op_of (ask_book op t) number ≡ Some op
    asked_is op t = number_is (world g.first run).book number i op (at_place g.first n.raft.applied t.answers) new

    -- the node stays, and says this at once
    says_this : (op : Op) (say : Say) → ((u : IsUp (next run i (Ask number timeout op)) i n.raft) → IsRight g.first (chosen g.first (next run i (Ask number timeout op))) (Some op) say n.raft.applied) → AskDoes op (says n number say)
    says_this op say right u = record {
      serves = idles run i n (Ask number timeout op) member up s (says n number say) refl;
      noted = (tt, (subst (λ (o : Option Op). IsRight g.first (chosen g.first (next run i (Ask number timeout op))) o say n.raft.applied) (sym (asked_is op (says n number say))) (right u), tt));
    }

    if_led : (op : Op) (t : Turn) → (n.raft.role ≡ Leader → AskDoes op t) → AskDoes op (if_leads g.first n number t)
    if_led op t f = if_case (AskDoes op) (is_leader n.raft.role) t (says n number (Refused (NoLeader n.raft.term))) (λ q. f (leads_yes n.raft.role q)) (λ _. says_this op (Refused (NoLeader n.raft.term)) (λ _. tt))

    -- the node's own replica
    query_does : (op : Op) (items : List Item) → ((chosen : List LogEntry) (results : List Res) → IsValue g.first chosen n.raft.applied items results → IsResults g.first chosen op n.raft.applied results) → AskDoes op (query g.first n number items)
    query_does op items right = says_this op (Results (answer n.replica items)) (λ u.
        let r = next run i (Ask number timeout op) in
        let k = up_chosen r i n.raft n.raft.applied member u (up_done r i n.raft u) in
        right (chosen g.first r) (answer n.replica items) (k.1, ap (λ (d : State). answer d items) (s.replica ∙ ap (replica_of g.first) (sym k.0))))

    taken_does : (op : Op) (e : LogEntry) → entry_of op ≡ Some e.command → e.term ≡ n.raft.term → n.raft.role ≡ Leader → AskDoes op (appended_for g.first n number moment timeout e)
    taken_does op e is_entry term leads u =
        let t = appended_for g.first n number moment timeout e in
        let p = lead_on.proposes n.raft e leads in
        record {
          serves = record {
            replica = same_replica run i n (Ask number timeout op) member up s t u p.0;
            waits = subst (λ (l : List LogEntry). AllWait (ask_book op t) l t.node.raft.term t.node.waiting) (sym p.3) (subst (λ (u : ℕ). AllWait (ask_book op t) (n.raft.log ++ e ∷ []) u t.node.waiting) (sym p.2) (both t));
            pending_reads = still_reads run i n (Ask number timeout op) member up s t;
            queue = still_held run i n (Ask number timeout op) member up s t;
            order = ascends_both (world g.first run).book n.raft.log n.raft.term 0 n.waiting (record { index = length n.raft.log + 1; number = number; asked = moment; timeout = timeout; position = 0; sequence = None } ∷ []) s.waits s.order ((refl, omega arith), tt) (tt, tt);
            idle = λ no. absurd (no p.1);
          };
          noted = (tt, tt);
        }
      where
        index_is : (log : List LogEntry) (e : LogEntry) → slice_get (log ++ e ∷ []) (length log + 1 - 1) ≡ Some e
        index_is log e = let one : length log + 1 - 1 ≡ length log = omega arith in ap (slice_get (log ++ e ∷ [])) one ∙ get_last log e

        both : (t : Turn) → AllWait (ask_book op t) (n.raft.log ++ e ∷ []) n.raft.term (n.waiting ++ record { index = length n.raft.log + 1; number = number; asked = moment; timeout = timeout; position = 0; sequence = None } ∷ [])
        both t = wait_both (ask_book op t) (n.raft.log ++ e ∷ []) n.raft.term n.waiting (record { index = length n.raft.log + 1; number = number; asked = moment; timeout = timeout; position = 0; sequence = None } ∷ [])
            (wait_more (world g.first run).book (more run i n (Ask number timeout op) member up s t) n.raft.log (n.raft.log ++ e ∷ []) n.raft.term n.waiting (begins_more n.raft.log (e ∷ [])) s.waits) (
              record {
                counts = omega arith;
                op = op;
                asked = asked_is op t;
                entry = e;
                stands = index_is n.raft.log e;
                fits = (is_entry, refl);
                in_term = term;
              },
              tt,
            )

    proposed_does : (op : Op) (command : Command) (size : ℕ) → entry_of op ≡ Some command → n.raft.role ≡ Leader → AskDoes op (proposed g.first n number moment timeout command size)
    proposed_does op command size is_entry leads = if_case (AskDoes op) (nat_lt max_command_bytes size) (says n number (Refused (EntryTooLarge size))) (appended_for g.first n number moment timeout (record { term = n.raft.term; command = command }))
        (λ _. says_this op (Refused (EntryTooLarge size)) (λ _. tt))
        (λ _. taken_does op (record { term = n.raft.term; command = command }) is_entry refl leads)

    -- a pass is begun
    begun_does : (items : List Item) (limit : Option ℕ) → n.raft.role ≡ Leader → AskDoes (Read items level.Linearizable limit) (begun g.first n number moment timeout items (begin g.first n.raft))
    begun_does items limit leads u =
        let op = Read items level.Linearizable limit in
        let r = begin g.first n.raft in
        let t = begun g.first n number moment timeout items r in
        let on = lead_on.beats n.raft in
        record {
          serves = record {
            replica = same_replica run i n (Ask number timeout op) member up s t u on.0;
            waits = waits_on run i n (Ask number timeout op) member up s t r on leads (leads_still leads);
            pending_reads = read_both (ask_book op t) n.pending_reads (record { pass = pass_of n.raft number; items = items; asked = moment; timeout = timeout } ∷ []) (still_reads run i n (Ask number timeout op) member up s t) (record { limit = limit; asked = asked_is op t }, tt);
            queue = still_held run i n (Ask number timeout op) member up s t;
            order = s.order;
            idle = λ no. absurd (no (leads_still leads));
          };
          noted = (tt, tt);
        }
      where
        leads_still : n.raft.role ≡ Leader → (begin g.first n.raft).node.role ≡ Leader
        leads_still = if_case (λ (t : RaftTurn LogEntry). n.raft.role ≡ Leader → t.node.role ≡ Leader) (is_leader n.raft.role) (lead.send log_entries g.first (λ p. true) (raft_quiet n.raft)) (raft_quiet n.raft) (λ _ q. q) (λ _ q. q)

    read_does : (items : List Item) (l : Level) (limit : Option ℕ) → AskDoes (Read items l limit) (read g.first n number moment timeout items l limit)
    read_does items level.None limit =
        let op = Read items level.None limit in
        if_case (AskDoes op) (is_stale n.raft limit moment) (says n number (Refused (Stale n.raft.contact moment (limit_of limit)))) (query g.first n number items)
        (λ _. says_this op (Refused (Stale n.raft.contact moment (limit_of limit))) (λ _. tt)) (λ _. query_does op items (λ c rs v. v))
    read_does items level.Weak limit = if_led (Read items level.Weak limit) (query g.first n number items) (λ _. query_does (Read items level.Weak limit) items (λ c rs v. v))
    read_does items level.Linearizable limit =
        let op = Read items level.Linearizable limit in
        let t = begun g.first n number moment timeout items (begin g.first n.raft) in
        if_led op (reads g.first t) (λ leads. reads_do run i n (Ask number timeout op) member up s t (sym (lead_on.beats n.raft).0) (begun_does items limit leads))
    read_does items level.Strong limit = if_led (Read items level.Strong limit) (proposed g.first n number moment timeout (StrongQuery items) (length (command_bytes (StrongQuery items)))) (proposed_does (Read items level.Strong limit) (StrongQuery items) (length (command_bytes (StrongQuery items))) refl)

    write_does : (list : Statements) (mixed : Bool) → AskDoes (Write list mixed) (write g.first n number moment timeout list mixed)
    write_does list mixed = if_led (Write list mixed) (proposed g.first n number moment timeout (write_command list mixed) (length (command_bytes (write_command list mixed)))) (proposed_does (Write list mixed) (write_command list mixed) (length (command_bytes (write_command list mixed))) refl)

    -- the queue gets one more, which is answered at once where it doesn't wait
    put_does : (list : Statements) (waits : Bool) → AskDoes (Queue list waits) (enqueued g.first n number moment timeout list waits)
    put_does list waits u =
        let op = Queue list waits in
        let t = enqueued g.first n number moment timeout list waits in
        record {
          serves = record {
            replica = s.replica;
            waits = still_waits run i n (Ask number timeout op) member up s t;
            pending_reads = still_reads run i n (Ask number timeout op) member up s t;
            queue = held_both (ask_book op t) n.queue (record { sequence = n.last + 1; number = number; list = list; waits = waits; asked = moment; timeout = timeout } ∷ []) (still_held run i n (Ask number timeout op) member up s t)
                (record { wait = waits; asked = asked_is op t; waited = λ e. e }, tt);
            order = s.order;
            idle = s.idle;
          };
          noted = (tt, noted waits);
        }
      where
        noted : (b : Bool) → AllRight g.first (chosen g.first (next run i (Ask number timeout (Queue list b)))) (ask_book (Queue list b) (enqueued g.first n number moment timeout list b)) (at_place g.first n.raft.applied (immediate_answer g.first b number (n.last + 1)))
        noted true = tt
        noted false = (
          subst (λ (o : Option Op). IsRight g.first (chosen g.first (next run i (Ask number timeout (Queue list false)))) o (Queued (n.last + 1)) n.raft.applied) (sym (asked_is (Queue list false) (enqueued g.first n number moment timeout list false))) tt,
          tt,
        )

    queued_does : (list : Statements) (waits : Bool) → AskDoes (Queue list waits) (enqueue g.first n number moment timeout list waits)
    queued_does list waits =
        let op = Queue list waits in
        let size = length (command_bytes (Execute list)) in
        let held = length n.queue in
        let t = enqueued g.first n number moment timeout list waits in
        if_led op (if_not_too_large g.first n number size (if_not_full g.first n number t)) (λ _.
        if_case (AskDoes op) (nat_lt max_queued_bytes size) (says n number (Refused (QueuedTooLarge size))) (if_not_full g.first n number t)
        (λ _. says_this op (Refused (QueuedTooLarge size)) (λ _. tt))
        (λ _. if_case (AskDoes op) (nat_le queue_capacity held) (says n number (Refused (QueueFull held))) t (λ _. says_this op (Refused (QueueFull held)) (λ _. tt)) (λ _. put_does list waits)))

  -- ---- flush

  module _ (run : Events) (i : NodeId) (n : Node) (member : one_of (members g.first) i ≡ true) (up : (world g.first run).nodes i ≡ Running n) (s : Serves g.first (world g.first run).book n) where
    abbrev FlushDoes : Turn → Type 0
    FlushDoes t = IsUp (next run i Flush) i t.node.raft → Did run i n Flush member up s t

    flushed_does : n.raft.role ≡ Leader → FlushDoes (flushed g.first n)
    flushed_does leads u =
        let t = flushed g.first n in
        let e = batch_entry g.first n in
        let p = lead_on.proposes n.raft e leads in
        record {
          serves = record {
            replica = same_replica run i n Flush member up s t u p.0;
            waits = subst (λ (l : List LogEntry). AllWait (book run i n Flush member up s t) l t.node.raft.term t.node.waiting) (sym p.3) (subst (λ (u : ℕ). AllWait (book run i n Flush member up s t) (n.raft.log ++ e ∷ []) u t.node.waiting) (sym p.2) (both t e refl));
            pending_reads = still_reads run i n Flush member up s t;
            queue = held_drop (book run i n Flush member up s t) max_batch n.queue (still_held run i n Flush member up s t);
            order = ascends_both (world g.first run).book n.raft.log n.raft.term 0 n.waiting (batch_waits g.first (length n.raft.log + 1) 0 (batch g.first n)) s.waits s.order (batch_from g.first (length n.raft.log + 1) 0 (batch g.first n)) (batch_ascends g.first (length n.raft.log + 1) 0 (batch g.first n));
            idle = λ no. absurd (no p.1);
          };
          noted = tt;
        }
      where
        index_is : (log : List LogEntry) (e : LogEntry) → slice_get (log ++ e ∷ []) (length log + 1 - 1) ≡ Some e
        index_is log e = let one : length log + 1 - 1 ≡ length log = omega arith in ap (slice_get (log ++ e ∷ [])) one ∙ get_last log e

        both : (t : Turn) (e : LogEntry) → batch_entry g.first n ≡ e → AllWait (book run i n Flush member up s t) (n.raft.log ++ e ∷ []) n.raft.term (n.waiting ++ batch_waits g.first (length n.raft.log + 1) 0 (batch g.first n))
        both t e is = wait_both (book run i n Flush member up s t) (n.raft.log ++ e ∷ []) n.raft.term n.waiting (batch_waits g.first (length n.raft.log + 1) 0 (batch g.first n))
            (wait_more (world g.first run).book (more run i n Flush member up s t) n.raft.log (n.raft.log ++ e ∷ []) n.raft.term n.waiting (begins_more n.raft.log (e ∷ [])) s.waits)
            (batch_wait g.first (book run i n Flush member up s t) (n.raft.log ++ e ∷ []) n.raft.term (length n.raft.log + 1) (omega arith) e (index_is n.raft.log e) (lists_of (batch g.first n)) (sym (ap (λ (x : LogEntry). x.command) is)) (sym (ap (λ (x : LogEntry). x.term) is))
            0 (batch g.first n) (λ k. let none : 0 + k ≡ k = omega arith in ap (slice_get (lists_of (batch g.first n))) none) (held_take (book run i n Flush member up s t) max_batch n.queue (still_held run i n Flush member up s t)))

    flush_does : FlushDoes (flush g.first n)
    flush_does = if_case FlushDoes (is_leader n.raft.role && nat_lt 0 (length n.queue)) (flushed g.first n) (unchanged n)
        (λ e. flushed_does (leads_yes n.raft.role ((and_true (is_leader n.raft.role) (nat_lt 0 (length n.queue)) e).0)))
        (λ _. quiet_does run i n Flush member up s refl)

  -- ---- apply

  module _ (run : Events) (i : NodeId) (n : Node) (member : one_of (members g.first) i ≡ true) (up : (world g.first run).nodes i ≡ Running n) (s : Serves g.first (world g.first run).book n) where
    abbrev ApplyDoes : Turn → Type 0
    ApplyDoes t = IsUp (next run i Apply) i t.node.raft → Did run i n Apply member up s t

    one_more : (entry : LogEntry) → n.raft.applied < n.raft.commit → slice_get n.raft.log n.raft.applied ≡ Some entry → ApplyDoes (applied_command n entry.command)
    one_more entry lt is u =
        let r = next run i Apply in
        let t = applied_command n entry.command in
        let k = up_chosen r i t.node.raft (n.raft.applied + 1) member u (omega (arith, lt)) in
        record {
          serves = record {
            replica = sym (folds g.first (chosen g.first r) n.raft.log n.raft.applied n.replica s.replica k.0 entry is);
            waits = wait_left (book run i n Apply member up s t) n.raft.log n.raft.term (n.raft.applied + 1) n.waiting (still_waits run i n Apply member up s t);
            pending_reads = still_reads run i n Apply member up s t;
            queue = still_held run i n Apply member up s t;
            order = ascends_left (n.raft.applied + 1) n.waiting s.order;
            idle = λ no. let p = s.idle no in (ap (still_waiting (n.raft.applied + 1)) p.0, p.1);
          };
          noted = answers_right g.first (chosen g.first r) n.raft.log n.raft.applied n.replica s.replica k.0 entry is (book run i n Apply member up s t) n.raft.term n.waiting (still_waits run i n Apply member up s t);
        }

    by_entry : n.raft.applied < n.raft.commit → (o : Option LogEntry) → slice_get n.raft.log n.raft.applied ≡ o → ApplyDoes (applied_entry g.first n o)
    by_entry lt None is = quiet_does run i n Apply member up s refl
    by_entry lt (Some entry) is = reads_do run i n Apply member up s (applied_command n entry.command) refl (one_more entry lt is)

    apply_does : ApplyDoes (apply g.first n)
    apply_does = if_case ApplyDoes (nat_lt n.raft.applied n.raft.commit) (applied_entry g.first n (slice_get n.raft.log n.raft.applied)) (unchanged n)
        (λ e. by_entry (lt_true n.raft.applied n.raft.commit e) (slice_get n.raft.log n.raft.applied) refl)
        (λ e. quiet_does run i n Apply member up s refl)

  -- ---- any act

  compact_on : (n : RaftNode LogEntry) → LeadsOn log_entries g.first n (install.compact n)
  compact_on n = if_case (LeadsOn log_entries g.first n) (nat_lt n.base n.applied) (record { node = record n { base = n.applied }; stored = Rattle.rq_raft.specs.Node.Replace n.applied n.log ∷ []; packets = [] }) (raft_quiet n)
      (λ _. (refl, λ a b. (refl, refl))) (λ _. (refl, λ a b. (refl, refl)))

  module _ (run : Events) (i : NodeId) (n : Node) (member : one_of (members g.first) i ≡ true) (up : (world g.first run).nodes i ≡ Running n) (s : Serves g.first (world g.first run).book n) where
    -- a packet that applies nothing
    module _ (k : ℕ) (p : Packet LogEntry) (r : RaftTurn LogEntry) (on : LeadsOn log_entries g.first n.raft r) where
      abbrev DeliverDoes : Turn → Type 0
      DeliverDoes t = Performs run i n (Deliver k) member up s t

      does_same : DeliverDoes (raft_turn n r)
      does_same = turned_does run i n (Deliver k) member up s r refl on

      applied_same : n.raft.applied ≡ (raft_turn n r).node.raft.applied
      applied_same = if_case (λ (t : Turn). n.raft.applied ≡ t.node.raft.applied) (is_leader n.raft.role && not (is_leader r.node.role)) (steps_down n r) (stays_on n r) (λ _. sym on.0) (λ _. sym on.0)

      with_do : (m : Message LogEntry) → DeliverDoes (with_reads g.first n p m (raft_turn n r))
      with_do (VoteAsk last_index last_term) = does_same
      with_do (VoteSay granted) = does_same
      with_do (Append prev prev_term commit probe es) = does_same
      with_do (AppendSay ok at probe) = if_case DeliverDoes (counts g.first n p at) (reads g.first (raft_turn n r)) (raft_turn n r) (λ _. reads_do run i n (Deliver k) member up s (raft_turn n r) applied_same does_same) (λ _. does_same)
      with_do (Install probe list) = if_case DeliverDoes (nat_lt n.raft.applied (raft_turn n r).node.raft.applied) (record (raft_turn n r) { node = record (raft_turn n r).node { replica = replica_of g.first list } }) (raft_turn n r)
          (λ e. absurd (omega (arith, applied_same, lt_true n.raft.applied (raft_turn n r).node.raft.applied e))) (λ _. does_same)
      with_do (InstallSay at probe) = if_case DeliverDoes (counts g.first n p at) (reads g.first (raft_turn n r)) (raft_turn n r) (λ _. reads_do run i n (Deliver k) member up s (raft_turn n r) applied_same does_same) (λ _. does_same)

    -- a snapshot is taken in
    module _ (k : ℕ) (probe : ℕ) (list : List LogEntry) (r : RaftTurn LogEntry) (inst : Installed log_entries g.first n.raft (Install probe list) r) where
      abbrev RestoredDoes : Turn → Type 0
      RestoredDoes t = Performs run i n (Deliver k) member up s (restored g.first n list t)

      abbrev whole : Turn → Turn
      whole t = record t { node = record t.node { replica = replica_of g.first list } }

      replica_is : replica_of g.first list ≡ replica_of g.first (take r.node.applied r.node.log)
      replica_is = ap (replica_of g.first) (sym inst.2) ∙ ap (λ (j : ℕ). replica_of g.first (take j r.node.log)) (sym inst.1)

      rises : n.raft.applied < r.node.applied
      rises = omega (arith, inst.0, inst.1, done g run i n up)

      down_does : Performs run i n (Deliver k) member up s (whole (steps_down n r))
      down_does u = record {
        serves = record { replica = replica_is; waits = tt; pending_reads = tt; queue = still_held run i n (Deliver k) member up s (whole (steps_down n r)); order = tt; idle = λ q. (refl, refl) };
        noted = lost_right g.first (chosen g.first (next run i (Deliver k))) (book run i n (Deliver k) member up s (steps_down n r)) n.raft.log n.raft.term (place_of g.first n (Deliver k)) n.raft.term r.node.term n
            (still_waits run i n (Deliver k) member up s (steps_down n r)) (still_reads run i n (Deliver k) member up s (steps_down n r));
      }

      stay_does : (is_leader n.raft.role && not (is_leader r.node.role)) ≡ false → Performs run i n (Deliver k) member up s (whole (stays_on n r))
      stay_does e u =
          let none = s.idle (leads_not n.raft.role (no_lead (is_leader n.raft.role) (is_leader r.node.role) (ap is_leader inst.3) e)) in
          record {
            serves = record {
              replica = replica_is;
              waits = subst (AllWait (book run i n (Deliver k) member up s (whole (stays_on n r))) r.node.log r.node.term) (sym none.0) tt;
              pending_reads = still_reads run i n (Deliver k) member up s (whole (stays_on n r));
              queue = still_held run i n (Deliver k) member up s (whole (stays_on n r));
              order = s.order;
              idle = λ no. none;
            };
            noted = tt;
          }
        where
          no_lead : (a b : Bool) → b ≡ false → (a && not b) ≡ false → a ≡ false
          no_lead true true q e = absurd (cc)
          no_lead true false q e = absurd (cc)
          no_lead false b q e = refl

      restored_does : RestoredDoes (raft_turn n r)
      restored_does = if_case RestoredDoes (is_leader n.raft.role && not (is_leader r.node.role)) (steps_down n r) (stays_on n r)
          (λ _. if_case (Performs run i n (Deliver k) member up s) (nat_lt n.raft.applied r.node.applied) (whole (steps_down n r)) (steps_down n r) (λ _. down_does) (λ e. absurd (omega (arith, rises, lt_no n.raft.applied r.node.applied e))))
          (λ q. if_case (Performs run i n (Deliver k) member up s) (nat_lt n.raft.applied r.node.applied) (whole (stays_on n r)) (stays_on n r) (λ _. stay_does q) (λ e. absurd (omega (arith, rises, lt_no n.raft.applied r.node.applied e))))
        where
          lt_no : (a b : ℕ) → nat_lt a b ≡ false → b ≤ a
          lt_no a b e = grind (arith, e)

    -- by what the packet was
    received_does : (k : ℕ) (p : Packet LogEntry) (r : RaftTurn LogEntry) (m : Message LogEntry) → (r.node.applied ≡ n.raft.applied) ⊎ Installed log_entries g.first n.raft m r → (n.raft.role ≡ Leader → r.node.role ≡ Leader → (r.node.term ≡ n.raft.term) × (r.node.log ≡ n.raft.log)) → Performs run i n (Deliver k) member up s (with_reads g.first n p m (raft_turn n r))
    received_does k p r m (inl same) on = with_do k p r (same, on) m
    received_does k p r (VoteAsk last_index last_term) (inr x) on = absurd x
    received_does k p r (VoteSay granted) (inr x) on = absurd x
    received_does k p r (Append prev prev_term commit probe es) (inr x) on = absurd x
    received_does k p r (AppendSay ok at probe) (inr x) on = absurd x
    received_does k p r (Install probe list) (inr x) on = restored_does k probe list r x
    received_does k p r (InstallSay at probe) (inr x) on = absurd x

    receives : (k : ℕ) (o : Option (Packet LogEntry)) → Performs run i n (Deliver k) member up s (receive g.first n (world g.first run).moment o)
    receives k None = quiet_does run i n (Deliver k) member up s refl
    receives k (Some p) =
        let x = deliver.receive log_entries g.first n.raft (world g.first run).moment p in
        let on = lead_on.receives n.raft (world g.first run).moment p in
        if_case (Performs run i n (Deliver k) member up s) (bytes_eq p.to n.raft.id) (with_reads g.first n p p.message (raft_turn n x)) (unchanged n)
        (λ _. received_does k p x p.message on.0 on.1) (λ _. quiet_does run i n (Deliver k) member up s refl)

    act_up : (a : Act) → IsUp (next run i a) i (turn g.first (world g.first run) n a).node.raft
    act_up a = record { node = (turn g.first (world g.first run) n a).node; up = next_up run i n a up; raft = refl }

    act_does : (a : Act) → IsNew (world g.first run).book (number_of a) → Did run i n a member up s (turn g.first (world g.first run) n a)
    act_does (Ask number timeout (Write list mixed)) new = write_does run i n number timeout member up s new list mixed (act_up (Ask number timeout (Write list mixed)))
    act_does (Ask number timeout (Queue list wait)) new = queued_does run i n number timeout member up s new list wait (act_up (Ask number timeout (Queue list wait)))
    act_does (Ask number timeout (Read items level limit)) new = read_does run i n number timeout member up s new items level limit (act_up (Ask number timeout (Read items level limit)))
    act_does Elect new = turned_does run i n Elect member up s (vote.elect log_entries g.first n.raft) refl (lead_on.elects n.raft) (act_up Elect)
    act_does Beat new = turned_does run i n Beat member up s (lead.beat log_entries g.first n.raft) refl (lead_on.beats n.raft) (act_up Beat)
    act_does Flush new = flush_does run i n member up s (act_up Flush)
    act_does Apply new = apply_does run i n member up s (act_up Apply)
    act_does Compact new = turned_does run i n Compact member up s (install.compact n.raft) refl (compact_on n.raft) (act_up Compact)
    act_does (Deliver k) new = receives k (slice_get (world g.first run).sent k) (act_up (Deliver k))
    act_does Tick new = tick_does run i n Tick member up s (world g.first run).moment refl (act_up Tick)
    act_does Idle new = quiet_does run i n Idle member up s refl (act_up Idle)

  -- ---- each moment

  notes_right : (chosen : List LogEntry) (book : List Note) (i : NodeId) (a : Act) → AllRight g.first chosen book (note_of g.first i a)
  notes_right chosen book i (Ask number timeout op) = (tt, tt)
  notes_right chosen book i Elect = tt
  notes_right chosen book i Beat = tt
  notes_right chosen book i Flush = tt
  notes_right chosen book i Apply = tt
  notes_right chosen book i Compact = tt
  notes_right chosen book i (Deliver k) = tt
  notes_right chosen book i Tick = tt
  notes_right chosen book i Idle = tt

  serves_on : (book more : List Note) (n : Node) → Serves g.first book n → Serves g.first (book ++ more) n
  serves_on book more n s = record { replica = s.replica; waits = wait_more book more n.raft.log n.raft.log n.raft.term n.waiting (begins_same n.raft.log) s.waits; pending_reads = read_more book more n.pending_reads s.pending_reads; queue = held_more book more n.queue s.queue; order = s.order; idle = s.idle }

  -- the places of the next world, and what is noted more
  goes_on : (run : Events) (e : Event) (more : List Note) (next : World) → world g.first (Then run e) ≡ next → Sound run → next.book ≡ (world g.first run).book ++ more
      → AllRight g.first (chosen g.first (Then run e)) ((world g.first run).book ++ more) more
      → ((j : NodeId) (m : Node) → next.nodes j ≡ Running m → (one_of (members g.first) j ≡ true) × Serves g.first ((world g.first run).book ++ more) m) → Sound (Then run e)
  goes_on run e more next is s book noted nodes =
      let old = (world g.first run).book in
      let c = chosen g.first run in
      let d = chosen g.first (Then run e) in
      let book_is : (world g.first (Then run e)).book ≡ old ++ more = ap (λ (x : World). x.book) is ∙ book in
      record {
        members_only = λ j m up. (nodes j m (sym (ap (λ (x : World). x.nodes j) is) ∙ up)).0;
        serve = λ j m up. subst (λ (b : List Note). Serves g.first b m) (sym book_is) (nodes j m (sym (ap (λ (x : World). x.nodes j) is) ∙ up)).1;
        right = subst (λ (b : List Note). AllRight g.first d b b) (sym book_is) (all_both g.first d (old ++ more) old more (all_more g.first c d old more old (prefix_begins c d (grows g run e)) s.right) noted);
      }

  -- each node that runs ran before
  stays_at : (run : Events) (more : List Note) → Sound run → (j : NodeId) (m : Node) → (world g.first run).nodes j ≡ Running m → (one_of (members g.first) j ≡ true) × Serves g.first ((world g.first run).book ++ more) m
  stays_at run more s j m up = (s.members_only j m up, serves_on (world g.first run).book more m (s.serve j m up))

  same_world : (run : Events) (e : Event) (next : World) → world g.first (Then run e) ≡ next → next.nodes ≡ (world g.first run).nodes → next.book ≡ (world g.first run).book → Sound run → Sound (Then run e)
  same_world run e next is nodes book s = goes_on run e [] next is s (book ∙ sym (append-nil (world g.first run).book)) tt
      (λ j m up. stays_at run [] s j m (sym (ap (λ (p : NodeId → NodeState). p j) nodes) ∙ up))

  noted_world : (run : Events) (e : Event) (i : NodeId) (a : Act) → world g.first (Then run e) ≡ noted g.first (world g.first run) i a → Sound run → Sound (Then run e)
  noted_world run e i a is s = goes_on run e (note_of g.first i a) (noted g.first (world g.first run) i a) is s refl
      (notes_right (chosen g.first (Then run e)) ((world g.first run).book ++ note_of g.first i a) i a) (λ j m up. stays_at run (note_of g.first i a) s j m up)

  -- one place changes
  pub place_at : (nodes : NodeId → NodeState) (i j : NodeId) (place : NodeState) (m : Node) → set_node g.first nodes i place j ≡ Running m → ((j ≡ i) × (place ≡ Running m)) ⊎ (nodes j ≡ Running m)
  place_at nodes i j place m = go (bytes_eq j i) refl
    where
      go : (b : Bool) → bytes_eq j i ≡ b → cond b place (nodes j) ≡ Running m → ((j ≡ i) × (place ≡ Running m)) ⊎ (nodes j ≡ Running m)
      go true e is = inl (id_true j i e, is)
      go false e is = inr is

  pub node_of : (n m : Node) → Running n ≡ Running m → n ≡ m
  node_of n m e = ap in_place e
    where
      in_place : NodeState → Node
      in_place (Running x) = x
      in_place (Down kept rest) = n

  never_up : (kept : Persistent LogEntry) (rest : List (StoredRecord LogEntry)) (m : Node) → Down kept rest ≡ Running m → Prim.⊥
  never_up kept rest m e = cc

  acted_world : (run : Events) (i : NodeId) (a : Act) (n : Node) → (world g.first run).nodes i ≡ Running n → IsNew (world g.first run).book (number_of a) → Sound run → Sound (Then run (At i a))
  acted_world run i a n up new s =
      let w = world g.first run in
      let t = turn g.first w n a in
      let member = s.members_only i n up in
      let serves = s.serve i n up in
      let d = act_does run i n member up serves a new in
      let m = more run i n a member up serves t in
      goes_on run (At i a) m (acted g.first w i n a t) (next_is run i n a up) s refl d.noted
      (λ j x at. ⊎_elim
      (λ (p : (j ≡ i) × (Running t.node ≡ Running x)). (subst (λ (k : NodeId). one_of (members g.first) k ≡ true) (sym p.0) member, subst (Serves g.first (w.book ++ m)) (node_of t.node x p.1) d.serves))
      (λ (p : w.nodes j ≡ Running x). stays_at run m s j x p)
      (place_at w.nodes i j (Running t.node) x at))

  -- a place goes down, or is down
  down_world : (run : Events) (e : Event) (i : NodeId) (kept : Persistent LogEntry) (rest : List (StoredRecord LogEntry)) (a : Act) (next : World) → world g.first (Then run e) ≡ next → next.nodes ≡ set_node g.first (world g.first run).nodes i (Down kept rest) → next.book ≡ (world g.first run).book ++ note_of g.first i a → Sound run → Sound (Then run e)
  down_world run e i kept rest a next is nodes book s = goes_on run e (note_of g.first i a) next is s book
      (notes_right (chosen g.first (Then run e)) ((world g.first run).book ++ note_of g.first i a) i a)
      (λ j x at. ⊎_elim
      (λ (p : (j ≡ i) × (Down kept rest ≡ Running x)). absurd (never_up kept rest x p.1))
      (λ (p : (world g.first run).nodes j ≡ Running x). stays_at run (note_of g.first i a) s j x p)
      (place_at (world g.first run).nodes i j (Down kept rest) x (sym (ap (λ (p : NodeId → NodeState). p j) nodes) ∙ at)))

  -- a member starts
  started_serves : (book : List Note) (i : NodeId) (kept : Persistent LogEntry) → Serves g.first book (started g.first i kept).node
  started_serves book i kept = record { replica = refl; waits = tt; pending_reads = tt; queue = tt; order = tt; idle = λ no. (refl, refl) }

  started_world : (run : Events) (i : NodeId) (k : ℕ) (kept : Persistent LogEntry) (next : World) → one_of (members g.first) i ≡ true → world g.first (Then run (Start i k)) ≡ next → next.nodes ≡ set_node g.first (world g.first run).nodes i (Running (started g.first i kept).node) → next.book ≡ (world g.first run).book → Sound run → Sound (Then run (Start i k))
  started_world run i k kept next member is nodes book s = goes_on run (Start i k) [] next is s (book ∙ sym (append-nil (world g.first run).book)) tt
      (λ j x at. ⊎_elim
      (λ (p : (j ≡ i) × (Running (started g.first i kept).node ≡ Running x)). (subst (λ (k : NodeId). one_of (members g.first) k ≡ true) (sym p.0) member, subst (Serves g.first ((world g.first run).book ++ [])) (node_of (started g.first i kept).node x p.1) (started_serves ((world g.first run).book ++ []) i kept)))
      (λ (p : (world g.first run).nodes j ≡ Running x). stays_at run [] s j x p)
      (place_at (world g.first run).nodes i j (Running (started g.first i kept).node) x (sym (ap (λ (p : NodeId → NodeState). p j) nodes) ∙ at)))

  step : (run : Events) (e : Event) → Sound run → IsNew (world g.first run).book (asked_in e) → Sound (Then run e)
  step run (At i a) s new = go ((world g.first run).nodes i) refl
    where
      go : (p : NodeState) → (world g.first run).nodes i ≡ p → Sound (Then run (At i a))
      go (Running n) is = acted_world run i a n is new s
      go (Down kept rest) is = noted_world run (At i a) i a (ap (happens_at g.first (world g.first run) i a) is) s
  step run (Stop i a k) s new = go ((world g.first run).nodes i) refl
    where
      go : (p : NodeState) → (world g.first run).nodes i ≡ p → Sound (Then run (Stop i a k))
      go (Running n) is = down_world run (Stop i a k) i (persistent_after (persistent_of n) (take k (turn g.first (world g.first run) n a).stored)) [] a (stops_at g.first (world g.first run) i a k (Running n)) (ap (stops_at g.first (world g.first run) i a k) is) refl refl s
      go (Down kept rest) is = noted_world run (Stop i a k) i a (ap (stops_at g.first (world g.first run) i a k) is) s
  step run (Fail i a) s new = go ((world g.first run).nodes i) refl
    where
      go : (p : NodeState) → (world g.first run).nodes i ≡ p → Sound (Then run (Fail i a))
      go (Running n) is = down_world run (Fail i a) i (persistent_of n) (turn g.first (world g.first run) n a).stored a (fails_at g.first (world g.first run) i a (Running n)) (ap (fails_at g.first (world g.first run) i a) is) refl refl s
      go (Down kept rest) is = noted_world run (Fail i a) i a (ap (fails_at g.first (world g.first run) i a) is) s
  step run (Start i k) s new = by_member (one_of (members g.first) i) refl
    where
      go : (p : NodeState) → one_of (members g.first) i ≡ true → (world g.first run).nodes i ≡ p → world g.first (Then run (Start i k)) ≡ starts_at g.first (world g.first run) i k p → Sound (Then run (Start i k))
      go (Running n) member is next = same_world run (Start i k) (world g.first run) next refl refl s
      go (Down kept rest) member is next = started_world run i k (persistent_after kept (take k rest)) (starts_at g.first (world g.first run) i k (Down kept rest)) member next refl refl s

      by_member : (b : Bool) → one_of (members g.first) i ≡ b → Sound (Then run (Start i k))
      by_member true e = go ((world g.first run).nodes i) e refl (ap (λ (b : Bool). cond b (starts_at g.first (world g.first run) i k ((world g.first run).nodes i)) (world g.first run)) e)
      by_member false e = same_world run (Start i k) (world g.first run) (ap (λ (b : Bool). cond b (starts_at g.first (world g.first run) i k ((world g.first run).nodes i)) (world g.first run)) e) refl refl s
  step run (FailStart i k) s new = go ((world g.first run).nodes i) refl
    where
      go : (p : NodeState) → (world g.first run).nodes i ≡ p → Sound (Then run (FailStart i k))
      go (Running n) is = same_world run (FailStart i k) (world g.first run) (ap (fails_start g.first (world g.first run) i k) is) refl refl s
      go (Down kept rest) is =
          let full = persistent_after kept (take k rest) in
          down_world run (FailStart i k) i full (started g.first i full).stored Idle (fails_start g.first (world g.first run) i k (Down kept rest)) (ap (fails_start g.first (world g.first run) i k) is) refl (sym (append-nil (world g.first run).book)) s
  step run (Clock moment) s new = same_world run (Clock moment) (record (world g.first run) { moment = max (world g.first run).moment moment }) refl refl refl s

  pub sound : (run : Events) → IsNumbered g.first run → Sound run
  sound First numbered = record { members_only = λ i n up. absurd (cc); serve = λ i n up. absurd (cc); right = tt }
  sound (Then run e) numbered = step run e (sound run numbered.0) numbered.1

  prefix_in : (a b : List LogEntry) (k : ℕ) → take k b ≡ take k a → IsPrefix (take k a) b
  prefix_in a b k e = subst (λ (l : List LogEntry). IsPrefix l b) e (begins_take k b)

  pub each_moment_is_kept : EachMomentIsKept g.first
  each_moment_is_kept run numbered =
      let s = sound run numbered in
      record {
        replicas = λ i n up.
            let member = s.members_only i n up in
            let d = done g run i n up in
            record {
              applied = prefix_in n.raft.log (chosen g.first run) n.raft.applied ((in_chosen run i n n.raft.applied member up d).0);
              committed = prefix_in n.raft.log (chosen g.first run) n.raft.commit ((in_chosen run i n n.raft.commit member up (omega arith)).0);
              replica = (s.serve i n up).replica;
            };
        right = λ k number say place at. subst (RightNote g.first (chosen g.first run) (world g.first run).book) at (all_get g.first (chosen g.first run) (world g.first run).book (world g.first run).book k s.right);
      }
